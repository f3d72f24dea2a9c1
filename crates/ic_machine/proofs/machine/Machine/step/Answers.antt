use Rattle.std.proofs.Common.{◌≡◌, ◌+◌, ℕ, List, [], ◌∷◌, Err, length, map, ap, sym, subst, refl, ◌∙◌, add-zero, arith}
use Rattle.std.proofs.lemmas.List.Sorted.{IsPermutation-refl}
use Rattle.std.proofs.lemmas.Result.{err_from_is_err_and}
use Rattle.ic_arena.specs.Piece.{Piece}
use Rattle.ic_arena.specs.Tables.{names_pieces}
use Rattle.ic_machine.specs.declared.machine.Machine.TheInside.{Inside}
use Rattle.ic_machine.specs.declared.machine.MachineFault.TheVariants.{Limit}
use Rattle.ic_machine.specs.declared.tables.Tables.{Tables}
use Rattle.ic_machine.specs.Plan.{Planned, Plans, planned}
use Rattle.ic_machine.specs.Net.{Net, equated_of}
use Rattle.ic_machine.specs.Runs.{Ran}
use Rattle.ic_machine.specs.Steps.{Steps, no_step}
use Rattle.ic_machine.specs.inner.Firing.{arities_of, heaps_pieces}
use Rattle.ic_machine.specs.inner.Machine.{IsSound, net_of}
use Rattle.ic_machine.specs.inner.Pairs.{CanFire, HasNumber, HasPlan, IsLast}
use Rattle.ic_machine.specs.inner.Tables.{held}
use Rattle.ic_machine.specs.lemmas.RunsOn.{counted_none, ran_on}
use Rattle.ic_machine.proofs.AtPlaces.{tables_at_places}
use Rattle.ic_machine.proofs.Fired.{last_apart, way_apart}
use Rattle.ic_machine.proofs.Limits.{full_net, same_fault}
use Rattle.ic_machine.proofs.Running.{can_fire, held_separate, next_pair, numbered, numbered_plan}
use Rattle.ic_machine.proofs.Changed.{changed, changed_ran, changed_sound}
use Rattle.ic_machine.proofs.Sound.{counts_below, counts_within, passed_ran, passed_sound, set_aside}
use Rattle.ic_machine.proofs.machine.Machine.step.Goals as goal
use Rattle.ic_machine.proofs.machine.Machine.step.Goals.{After-count, After-find_plan, After-plan_at, In_err-fire_last}

-- ---- what is known at each place

module _ (g : _) (c : After-find_plan g) where
  mid_sound : IsSound (set_aside c.self.inside c.find_plan.new.pending c.find_plan.new.aside)
  mid_sound = passed_sound c.args.program.now c.self.inside _ _ c.find_plan.ensures.passed c.self.invariant c.find_plan.ensures.memory

  mid_ran : Ran c.args.program.now c.args.self.now (net_of (set_aside c.self.inside c.find_plan.new.pending c.find_plan.new.aside))
  mid_ran = passed_ran c.args.program.now c.self.inside c.find_plan.new.pending c.find_plan.new.aside c.find_plan.ensures.passed _ c.self.view_is

module _ (g : _) (c : After-plan_at g) where
  known : arities_of c.self.inside.tables.heaps.items ≡ c.args.program.now.arities
  known = ap (λ (n : Net). n.arities) c.self.view_is ∙ c.requires.arities

  found : IsLast c.in-Some.pair c.find_plan.new.pending.items × HasNumber c.args.program.now c.in-Some.pair c.in-Some.number
  found = rw c.in-Some.is at c.in_ok-found.ensures.found

  has : HasPlan c.args.program.now c.in-Some.pair (planned c.plan_at.result.now)
  has = numbered_plan c.args.program.now c.in-Some.pair c.in-Some.number (planned c.plan_at.result.now) found.1 c.plan_at.ensures

-- nothing has fired
failed : (g : _) (c : In_err-fire_last g) → let m : Inside = set_aside c.self.inside c.find_plan.new.pending c.find_plan.new.aside in
    Ran c.args.program.now (net_of m) (net_of (changed m c.fire_last.new.self m.interactions m.counts))
failed g c =
    let q : Plans = c.args.program.now in
    let m : Inside = set_aside c.self.inside c.find_plan.new.pending c.find_plan.new.aside in
    let start : List Piece = held m.tables (map equated_of m.aside.items) in
    changed_ran q m c.fire_last.new.self m.interactions m.counts c.fire_last.ensures.arities [] []
    (subst (λ (l : List Piece). Steps q [] start l) (sym (c.in_err-fire_last.ensures.same m.aside.items))
    (no_step start start (IsPermutation-refl start))) c.in_err-fire_last.ensures.places (sym (add-zero m.interactions))
    (counted_none m.counts.items)

-- the pair has fired
fired : (g : _) (c : After-count g) → let m : Inside = set_aside c.self.inside c.find_plan.new.pending c.find_plan.new.aside in
    Ran c.args.program.now (net_of m) (net_of (changed m c.fire_last.new.self (m.interactions + 1) c.count.new.counts))
unfolding found has
fired g c =
    let at = goal.at.returns-clause-ran g c in
    let q : Plans = c.args.program.now in
    let m : Inside = set_aside c.self.inside c.find_plan.new.pending c.find_plan.new.aside in
    let i : ℕ = c.in-Some.number in
    let sound = mid_sound g at.After-find_plan in
    let is = has g at.After-plan_at in
    let last = (found g at.After-plan_at).0 in
    let by = c.in_ok-fire_last.ensures.fires q i is.left is.right last.front m.aside.items is.left_tag is.right_tag (sym (known g at.After-plan_at))
    (numbered q c.in-Some.pair i (planned c.plan_at.result.now) (found g at.After-plan_at).1 c.plan_at.ensures) sound.pairs sound.aside
    last.is in
    changed_ran q m c.fire_last.new.self (m.interactions + 1) c.count.new.counts c.fire_last.ensures.arities (i ∷ []) (by.moment ∷ [])
    (way_apart q c.in-Some.pair i m.tables c.fire_last.new.self last.front m.aside.items
    (last_apart m.tables c.in-Some.pair last.front (map equated_of m.aside.items) last.is) by) by.places refl c.count.ensures

-- ---- the goals

pub plan_at-requires : goal.plan_at-requires
plan_at-requires g c = (rw c.in-Some.is at c.in_ok-found.ensures.found).1.there

pub fire_last-requires-clause-plan : goal.fire_last-requires-clause-plan
fire_last-requires-clause-plan g c =
    subst (λ (a : List ℕ). CanFire a c.in-Some.pair (planned c.plan_at.result.now)) (sym (known g c))
    (can_fire c.args.program.now c.in-Some.pair (planned c.plan_at.result.now) (has g c))

pub fire_last-requires-clause-separate : goal.fire_last-requires-clause-separate
fire_last-requires-clause-separate g c =
    let m : Inside = c.self.inside in
    held_separate (arities_of m.tables.heaps.items) m.interface.items (map equated_of c.find_plan.new.pending.items)
    (names_pieces 0 m.tables.names.entries) (heaps_pieces 0 m.tables.heaps.items) c.find_plan.new.aside.items
    (mid_sound g (goal.at.fire_last-requires-clause-separate g c).After-find_plan).separate

pub fire_last-requires-clause-spare : goal.fire_last-requires-clause-spare
fire_last-requires-clause-spare g c = (mid_sound g (goal.at.fire_last-requires-clause-spare g c).After-find_plan).spare

pub count-requires : goal.count-requires
count-requires g c =
    let few = c.requires.few in
    let same : c.self.inside.interactions ≡ c.args.self.now.interactions = ap (λ (n : Net). n.interactions) c.self.view_is in
    counts_below c.self.inside.interactions c.self.inside.counts.items (omega arith) c.self.invariant.counts

pub invariant_of-self : goal.invariant_of-self
invariant_of-self g c = mid_sound g (goal.at.invariant_of-self g c).After-find_plan

pub invariant_of-self-in_default : goal.invariant_of-self-in_default
invariant_of-self-in_default g c = mid_sound g (goal.at.invariant_of-self-in_default g c).After-find_plan

pub invariant_of-self-in_err-fire_last : goal.invariant_of-self-in_err-fire_last
invariant_of-self-in_err-fire_last g c =
    let at = goal.at.invariant_of-self-in_err-fire_last g c in
    let m : Inside = set_aside c.self.inside c.find_plan.new.pending c.find_plan.new.aside in
    let sound = mid_sound g at.After-find_plan in
    changed_sound c.args.program.now m c.fire_last.new.self m.interactions m.counts c.fire_last.ensures.arities (failed g at.In_err-fire_last)
    sound (found g at.After-plan_at).1.sound (known g at.After-plan_at) (c.fire_last.ensures.pairs sound.pairs) c.fire_last.ensures.few
    c.fire_last.ensures.registers c.fire_last.ensures.spare c.self.invariant.counts

pub invariant_of-self-2 : goal.invariant_of-self-2
invariant_of-self-2 g c =
    let at = goal.at.invariant_of-self-2 g c in
    let m : Inside = set_aside c.self.inside c.find_plan.new.pending c.find_plan.new.aside in
    let sound = mid_sound g at.After-find_plan in
    changed_sound c.args.program.now m c.fire_last.new.self (m.interactions + 1) c.count.new.counts c.fire_last.ensures.arities (fired g c)
    sound (found g at.After-plan_at).1.sound (known g at.After-plan_at) (c.fire_last.ensures.pairs sound.pairs) c.fire_last.ensures.few
    c.fire_last.ensures.registers c.fire_last.ensures.spare
    (counts_within c.in-Some.number m.interactions m.counts.items c.count.new.counts.items c.self.invariant.counts c.count.ensures)

pub returns-in_err-found-clause-ran : goal.returns-in_err-found-clause-ran
returns-in_err-found-clause-ran g c = mid_ran g (goal.at.returns-in_err-found-clause-ran g c).After-find_plan

pub returns-in_default-clause-ran : goal.returns-in_default-clause-ran
returns-in_default-clause-ran g c = mid_ran g (goal.at.returns-in_default-clause-ran g c).After-find_plan

pub returns-in_err-fire_last-clause-ran : goal.returns-in_err-fire_last-clause-ran
returns-in_err-fire_last-clause-ran g c =
    let at = goal.at.returns-in_err-fire_last-clause-ran g c in
    ran_on c.args.program.now c.args.self.now _ _ (mid_ran g at.After-find_plan) (failed g at.In_err-fire_last)

pub returns-clause-ran : goal.returns-clause-ran
returns-clause-ran g c =
    ran_on c.args.program.now c.args.self.now _ _ (mid_ran g (goal.at.returns-clause-ran g c).After-find_plan) (fired g c)

pub returns-in_err-found-clause-separate : goal.returns-in_err-found-clause-separate
returns-in_err-found-clause-separate g c = (invariant_of-self g c).separate

pub returns-in_default-clause-separate : goal.returns-in_default-clause-separate
returns-in_default-clause-separate g c = (invariant_of-self-in_default g c).separate

pub returns-in_err-fire_last-clause-separate : goal.returns-in_err-fire_last-clause-separate
returns-in_err-fire_last-clause-separate g c = (invariant_of-self-in_err-fire_last g c).separate

pub returns-clause-separate : goal.returns-clause-separate
returns-clause-separate g c = (invariant_of-self-2 g c).separate

pub returns-in_err-found-clause-pairs : goal.returns-in_err-found-clause-pairs
returns-in_err-found-clause-pairs g c = (invariant_of-self g c).pairs

pub returns-in_default-clause-pairs : goal.returns-in_default-clause-pairs
returns-in_default-clause-pairs g c = (invariant_of-self-in_default g c).pairs

pub returns-in_err-fire_last-clause-pairs : goal.returns-in_err-fire_last-clause-pairs
returns-in_err-fire_last-clause-pairs g c = (invariant_of-self-in_err-fire_last g c).pairs

pub returns-clause-pairs : goal.returns-clause-pairs
returns-clause-pairs g c = (invariant_of-self-2 g c).pairs

pub returns-in_err-found-clause-places : goal.returns-in_err-found-clause-places
returns-in_err-found-clause-places g c = tables_at_places c.self.inside.tables.names.entries c.self.inside.tables.heaps.items

pub returns-in_default-clause-places : goal.returns-in_default-clause-places
returns-in_default-clause-places g c = tables_at_places c.self.inside.tables.names.entries c.self.inside.tables.heaps.items

pub returns-in_err-fire_last-clause-places : goal.returns-in_err-fire_last-clause-places
returns-in_err-fire_last-clause-places g c = tables_at_places c.fire_last.new.self.names.entries c.fire_last.new.self.heaps.items

pub returns-clause-places : goal.returns-clause-places
returns-clause-places g c = tables_at_places c.fire_last.new.self.names.entries c.fire_last.new.self.heaps.items

pub returns-in_err-fire_last-clause-limit : goal.returns-in_err-fire_last-clause-limit
returns-in_err-fire_last-clause-limit g c = λ e.
    let at = goal.at.returns-in_err-fire_last-clause-limit g c in
    let plan : Planned = planned c.plan_at.result.now in
    let front = (found g at.After-plan_at).0 in
    let t : Tables = c.fire_last.new.self in
    let last : IsLast c.in-Some.pair t.pending.items =
    record { front = front.front; is = c.in_err-fire_last.ensures.pending ∙ front.is } in
    let given = err_from_is_err_and c.from_residual-in_err-fire_last.result c.from_residual-in_err-fire_last.ensures.1 in
    let same : c.in_err-fire_last.field-0.0 ≡ Limit =
    same_fault c.from_residual-in_err-fire_last.result given.0 c.in_err-fire_last.field-0.0 Limit given.1 given.2 e in (
      next_pair c.args.program.now t.pending.items c.in-Some.pair plan last (has g at.After-plan_at),
      full_net plan (net_of (record c.self.inside { tables = t })) (length t.names.entries) t.heaps.items refl refl
          (c.in_err-fire_last.ensures.limit (ap Err same)),
    )
