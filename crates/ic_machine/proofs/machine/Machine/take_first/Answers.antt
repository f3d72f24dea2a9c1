use Rattle.std.proofs.Common.{◌≡◌, ◌+◌, ◌≤◌, ℕ, List, [], ◌∷◌, ◌++◌, Err, length, map, ap, sym, subst, refl, ◌∙◌, add-zero, arith}
use Rattle.std.specs.List.{AllByRecursion}
use Rattle.std.proofs.lemmas.List.Sorted.{IsPermutation-refl}
use Rattle.std.proofs.lemmas.Result.{err_from_is_err_and}
use Rattle.ic_arena.specs.Piece.{Piece}
use Rattle.ic_arena.specs.Tables.{names_pieces}
use Rattle.ic_machine.specs.declared.equation.Equation.{Equation}
use Rattle.ic_machine.specs.declared.machine.Machine.TheInside.{Inside}
use Rattle.ic_machine.specs.declared.machine.MachineFault.TheVariants.{Limit}
use Rattle.ic_machine.specs.declared.tables.Tables.{Tables}
use Rattle.ic_machine.specs.Plan.{Planned, Plans, planned}
use Rattle.ic_machine.specs.Net.{Net, equated_of, IsPair, IsStuck}
use Rattle.ic_machine.specs.Generations.{Takes, TakesFirst, beside}
use Rattle.ic_machine.specs.Runs.{Ran, Way}
use Rattle.ic_machine.specs.Steps.{Steps, no_step}
use Rattle.ic_machine.specs.inner.Firing.{arities_of, heaps_pieces}
use Rattle.ic_machine.specs.inner.Machine.{net_of}
use Rattle.ic_machine.specs.inner.Pairs.{CanFire, HasPlan}
use Rattle.ic_machine.specs.inner.Tables.{FiresBy, held}
use Rattle.ic_machine.specs.lemmas.RunsOn.{counted_none}
use Rattle.ic_machine.proofs.Changed.{changed, changed_ran, changed_ran-fired, changed_sound}
use Rattle.ic_machine.proofs.Fired.{first_apart, way_apart}
use Rattle.ic_machine.proofs.Limits.{full_net, same_fault}
use Rattle.ic_machine.proofs.Running.{active_pair, can_fire, held_separate, numbered, numbered_plan, passed_none}
use Rattle.ic_machine.proofs.Sound.{counts_below, counts_within, first_ran, first_sound, passed_ran, set_aside}
use Rattle.ic_machine.proofs.Takings.{same_held, taken_aside, taken_fired}
use Rattle.ic_machine.proofs.machine.Machine.take_first.Goals as goal
use Rattle.ic_machine.proofs.machine.Machine.take_first.Goals.{After-count, After-first-pair, After-plan_at, After-take_first, In_err-fire_first}

-- ---- what is known at each place

module _ (c : After-first-pair) where
  is_pair : IsPair c.first-pair.result
  is_pair = (subst (AllByRecursion IsPair) c.first-pair.ensures.is c.self.invariant.pairs).0

module _ (c : After-plan_at) where
  known : arities_of c.self.inside.tables.heaps.items ≡ c.args.program.now.arities
  known = ap (λ (n : Net). n.arities) c.self.view_is ∙ c.requires.arities

  has : HasPlan c.args.program.now c.first-pair.result (planned c.plan_at.result.now)
  has = numbered_plan c.args.program.now c.first-pair.result c.in-Some.number (planned c.plan_at.result.now)
      c.in-Some.ensures.found c.plan_at.ensures

module _ (c : After-take_first) where
  stuck : IsStuck c.args.program.now c.first-pair.result
  stuck = c.in_default.ensures.none (is_pair (goal.at.returns-in_default-clause-ran c).After-first-pair)

  rest : c.self.inside.tables.pending.items ≡ c.first-pair.result ∷ c.take_first.new.self.items
  rest = c.take_first.ensures.items c.first-pair.result c.first-pair.ensures

  aside_ran : Ran c.args.program.now (net_of c.self.inside) (net_of (set_aside c.self.inside c.take_first.new.self c.set_aside.new.aside))
  aside_ran = first_ran c.args.program.now c.self.inside c.take_first.new.self c.set_aside.new.aside c.first-pair.result stuck
      rest c.in_ok-set_aside.ensures.aside

-- nothing has fired
failed : (c : In_err-fire_first) → Ran c.args.program.now c.args.self.now
    (net_of (changed c.self.inside c.fire_first.new.self c.self.inside.interactions c.self.inside.counts))
failed c =
    let q : Plans = c.args.program.now in
    let m : Inside = c.self.inside in
    let start : List Piece = held m.tables (map equated_of m.aside.items) in
    subst (λ (n : Net). Ran q n (net_of (changed m c.fire_first.new.self m.interactions m.counts))) c.self.view_is
    (changed_ran q m c.fire_first.new.self m.interactions m.counts c.fire_first.ensures.arities [] []
    (subst (λ (l : List Piece). Steps q [] start l) (sym (c.in_err-fire_first.ensures.same m.aside.items))
    (no_step start start (IsPermutation-refl start))) c.in_err-fire_first.ensures.places (sym (add-zero m.interactions))
    (counted_none m.counts.items))

-- the pair has fired
module _ (c : After-count) where
  by : FiresBy c.args.program.now c.first-pair.result c.in-Some.number c.self.inside.tables c.fire_first.new.self
      c.first-pair.ensures.rest c.self.inside.aside.items
  unfolding has
  by =
      let at = (goal.at.returns-clause-ran c).After-plan_at in
      let is = has at in
      c.in_ok-fire_first.ensures.fires c.args.program.now c.in-Some.number is.left is.right c.first-pair.ensures.rest
      c.self.inside.aside.items is.left_tag is.right_tag (sym (known at))
      (numbered c.args.program.now c.first-pair.result c.in-Some.number (planned c.plan_at.result.now)
      c.in-Some.ensures.found c.plan_at.ensures) c.self.invariant.pairs c.self.invariant.aside c.first-pair.ensures.is

  way : Way c.args.program.now (c.in-Some.number ∷ []) (by.moment ∷ [])
      (held c.self.inside.tables (map equated_of c.self.inside.aside.items))
      (held c.fire_first.new.self (map equated_of c.self.inside.aside.items))
  way = way_apart c.args.program.now c.first-pair.result c.in-Some.number c.self.inside.tables c.fire_first.new.self
      c.first-pair.ensures.rest c.self.inside.aside.items
      (first_apart c.self.inside.tables c.first-pair.result c.first-pair.ensures.rest (map equated_of c.self.inside.aside.items)
      c.first-pair.ensures.is) by

  after : Inside
  after = changed c.self.inside c.fire_first.new.self (c.self.inside.interactions + 1) c.count.new.counts

  run : Ran c.args.program.now (net_of c.self.inside) (net_of after)
  unfolding after
  run = changed_ran c.args.program.now c.self.inside c.fire_first.new.self (c.self.inside.interactions + 1) c.count.new.counts
      c.fire_first.ensures.arities (c.in-Some.number ∷ []) (by.moment ∷ []) way by.places refl c.count.ensures

  run_fired : run.fired ≡ c.in-Some.number ∷ []
  unfolding run after
  run_fired = changed_ran-fired c.args.program.now c.self.inside c.fire_first.new.self (c.self.inside.interactions + 1) c.count.new.counts
      c.fire_first.ensures.arities (c.in-Some.number ∷ []) (by.moment ∷ []) way by.places refl c.count.ensures

  taken : TakesFirst c.args.program.now (net_of c.self.inside) (net_of after)
  unfolding after
  taken =
      let first = c.first-pair.ensures in
      let more = c.in_ok-fire_first.ensures.pushed first.rest first.is in
      record {
        pair = c.first-pair.result;
        rest = first.rest;
        first = first.is;
        more = more.more;
        pending = more.after;
        ran = run;
        takes = λ now later order. subst (λ (is : List ℕ). Takes c.args.program.now (c.first-pair.result ∷ now) now is
            (beside later (net_of c.self.inside)) (beside (later ++ more.more) (net_of after))) (sym run_fired)
            (taken_fired c.args.program.now c.first-pair.result c.in-Some.number c.self.inside.tables c.fire_first.new.self
            first.rest more.more now later c.self.inside.aside.items by more.after);
      }

-- ---- the goals

pub first-pair-requires : goal.first-pair-requires
first-pair-requires c = subst (λ (n : Net). 1 ≤ length n.pending) (sym c.self.view_is) c.requires.some

pub returns-in_err-set_aside-clause-ran : goal.returns-in_err-set_aside-clause-ran
returns-in_err-set_aside-clause-ran c =
    passed_ran c.args.program.now c.self.inside c.self.inside.tables.pending c.set_aside.new.aside
    (rw c.in_err-set_aside.ensures.none
    (passed_none c.args.program.now c.self.inside.tables.pending.items c.self.inside.aside.items)) c.args.self.now c.self.view_is

pub take_first-requires : goal.take_first-requires
take_first-requires c = subst (λ (n : Net). 1 ≤ length n.pending) (sym c.self.view_is) c.requires.some

pub invariant_of-self-in_default : goal.invariant_of-self-in_default
invariant_of-self-in_default c =
    let d = (goal.at.invariant_of-self-in_default c).After-take_first in
    first_sound c.args.program.now c.self.inside c.take_first.new.self c.set_aside.new.aside c.first-pair.result (stuck d) (rest d)
    c.in_ok-set_aside.ensures.aside c.self.invariant c.take_first.ensures.capacity

pub returns-in_default-clause-ran : goal.returns-in_default-clause-ran
returns-in_default-clause-ran c =
    let d = (goal.at.returns-in_default-clause-ran c).After-take_first in
    subst (λ (n : Net). Ran c.args.program.now n (net_of (set_aside c.self.inside c.take_first.new.self c.set_aside.new.aside)))
    c.self.view_is (aside_ran d)

pub returns-in_default-clause-taken : goal.returns-in_default-clause-taken
returns-in_default-clause-taken c =
    let d = (goal.at.returns-in_default-clause-taken c).After-take_first in
    subst (λ (n : Net). TakesFirst c.args.program.now n (net_of (set_aside c.self.inside c.take_first.new.self c.set_aside.new.aside)))
    c.self.view_is
    (taken_aside c.args.program.now c.self.inside c.take_first.new.self c.set_aside.new.aside c.first-pair.result (stuck d) (rest d)
    c.in_ok-set_aside.ensures.aside (aside_ran d))

pub returns-in_default-clause-separate : goal.returns-in_default-clause-separate
returns-in_default-clause-separate c = (invariant_of-self-in_default c).separate

pub fire_first-requires-clause-plan : goal.fire_first-requires-clause-plan
fire_first-requires-clause-plan c =
    subst (λ (a : List ℕ). CanFire a c.first-pair.result (planned c.plan_at.result.now)) (sym (known c))
    (can_fire c.args.program.now c.first-pair.result (planned c.plan_at.result.now) (has c))

pub fire_first-requires-clause-separate : goal.fire_first-requires-clause-separate
fire_first-requires-clause-separate c =
    let m : Inside = c.self.inside in
    held_separate (arities_of m.tables.heaps.items) m.interface.items (map equated_of m.tables.pending.items)
    (names_pieces 0 m.tables.names.entries) (heaps_pieces 0 m.tables.heaps.items) m.aside.items c.self.invariant.separate

pub invariant_of-self-in_err-fire_first : goal.invariant_of-self-in_err-fire_first
invariant_of-self-in_err-fire_first c =
    let at = goal.at.invariant_of-self-in_err-fire_first c in
    let m : Inside = c.self.inside in
    changed_sound c.args.program.now m c.fire_first.new.self m.interactions m.counts c.fire_first.ensures.arities
    (subst (λ (n : Net). Ran c.args.program.now n (net_of (changed m c.fire_first.new.self m.interactions m.counts))) (sym c.self.view_is)
    (failed at.In_err-fire_first)) c.self.invariant c.in-Some.ensures.found.sound (known at.After-plan_at) (c.fire_first.ensures.pairs c.self.invariant.pairs) c.fire_first.ensures.few
    c.fire_first.ensures.registers c.fire_first.ensures.spare c.self.invariant.counts

pub returns-in_err-fire_first-clause-ran : goal.returns-in_err-fire_first-clause-ran
returns-in_err-fire_first-clause-ran c = failed (goal.at.returns-in_err-fire_first-clause-ran c).In_err-fire_first

pub returns-in_err-fire_first-clause-separate : goal.returns-in_err-fire_first-clause-separate
returns-in_err-fire_first-clause-separate c = (invariant_of-self-in_err-fire_first c).separate

pub returns-in_err-fire_first-clause-limit : goal.returns-in_err-fire_first-clause-limit
returns-in_err-fire_first-clause-limit c = λ e.
    let at = goal.at.returns-in_err-fire_first-clause-limit c in
    let plan : Planned = planned c.plan_at.result.now in
    let t : Tables = c.fire_first.new.self in
    let given = err_from_is_err_and c.from_residual-in_err-fire_first.result c.from_residual-in_err-fire_first.ensures.1 in
    let same : c.in_err-fire_first.field-0.0 ≡ Limit =
    same_fault c.from_residual-in_err-fire_first.result given.0 c.in_err-fire_first.field-0.0 Limit given.1 given.2 e in (
      c.first-pair.result,
      c.first-pair.ensures.rest,
      sym (ap (λ (n : Net). n.pending) c.self.view_is) ∙ c.first-pair.ensures.is,
      (
        active_pair c.args.program.now c.first-pair.result plan (has at.After-plan_at),
        full_net plan (net_of (record c.self.inside { tables = t })) (length t.names.entries) t.heaps.items refl refl
            (c.in_err-fire_first.ensures.limit (ap Err same)),
      ),
    )

pub count-requires : goal.count-requires
count-requires c =
    let few = c.requires.few in
    let same : c.self.inside.interactions ≡ c.args.self.now.interactions = ap (λ (n : Net). n.interactions) c.self.view_is in
    counts_below c.self.inside.interactions c.self.inside.counts.items (omega arith) c.self.invariant.counts

pub invariant_of-self-2 : goal.invariant_of-self-2
unfolding after
invariant_of-self-2 c =
    let at = goal.at.invariant_of-self-2 c in
    let m : Inside = c.self.inside in
    changed_sound c.args.program.now m c.fire_first.new.self (m.interactions + 1) c.count.new.counts c.fire_first.ensures.arities (run c)
    c.self.invariant c.in-Some.ensures.found.sound (known at.After-plan_at) (c.fire_first.ensures.pairs c.self.invariant.pairs) c.fire_first.ensures.few
    c.fire_first.ensures.registers c.fire_first.ensures.spare
    (counts_within c.in-Some.number m.interactions m.counts.items c.count.new.counts.items c.self.invariant.counts c.count.ensures)

pub returns-clause-ran : goal.returns-clause-ran
unfolding after
returns-clause-ran c = subst (λ (n : Net). Ran c.args.program.now n (net_of (after c))) c.self.view_is (run c)

pub returns-clause-taken : goal.returns-clause-taken
unfolding after
returns-clause-taken c = subst (λ (n : Net). TakesFirst c.args.program.now n (net_of (after c))) c.self.view_is (taken c)

pub returns-clause-separate : goal.returns-clause-separate
returns-clause-separate c = (invariant_of-self-2 c).separate

pub returns-in_err-set_aside-clause-held : goal.returns-in_err-set_aside-clause-held
returns-in_err-set_aside-clause-held c =
    let e = err_from_is_err_and c.from_residual.result c.from_residual.ensures.1 in
    rw e.1 (λ later. ap (λ (l : List Equation). map equated_of later ++ (map equated_of l ++ (net_of c.self.inside).places))
    c.in_err-set_aside.ensures.none ∙ ap (beside later) c.self.view_is)

pub returns-in_err-fire_first-clause-held : goal.returns-in_err-fire_first-clause-held
returns-in_err-fire_first-clause-held c =
    let e = err_from_is_err_and c.from_residual-in_err-fire_first.result c.from_residual-in_err-fire_first.ensures.1 in
    let m : Inside = c.self.inside in
    let t : Tables = c.fire_first.new.self in
    let same = same_held (names_pieces 0 m.tables.names.entries) (heaps_pieces 0 m.tables.heaps.items) (names_pieces 0 t.names.entries)
    (heaps_pieces 0 t.heaps.items) m.tables.pending.items t.pending.items c.in_err-fire_first.ensures.pending (c.in_err-fire_first.ensures.same []) in
    rw e.1 (λ later. ap (λ (l : List Piece). map equated_of later ++ (map equated_of m.aside.items ++ l)) same
    ∙ ap (beside later) c.self.view_is)
