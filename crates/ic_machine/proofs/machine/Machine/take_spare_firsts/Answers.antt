use Rattle.std.proofs.Common.{◌≡◌, ◌+◌, ◌-◌, ◌*◌, ◌^◌, ◌<◌, ◌≤◌, ℕ, List, [], ◌++◌, length, map, ap, sym, subst, refl, ◌∙◌, arith}
use Rattle.std.specs.List.{AllByRecursion}
use Rattle.ic_arena.specs.Tables.{names_pieces}
use Rattle.ic_machine.specs.declared.generation.Generation.{Generation}
use Rattle.ic_machine.specs.declared.machine.Machine.TheInside.{Inside}
use Rattle.ic_machine.specs.declared.tables.Tables.{Tables}
use Rattle.ic_machine.specs.Plan.{Plans}
use Rattle.ic_machine.specs.Net.{Net, equated_of}
use Rattle.ic_machine.specs.Generations.{Advances, IsWithin, Takes, beside}
use Rattle.ic_machine.specs.Runs.{Ran}
use Rattle.ic_machine.specs.Separate.{IsSeparate}
use Rattle.ic_machine.specs.inner.Firing.{arities_of, heaps_pieces}
use Rattle.ic_machine.specs.inner.Machine.{net_of}
use Rattle.ic_machine.specs.inner.Tables.{FiresFirsts, HasSpare, held}
use Rattle.ic_machine.specs.lemmas.FiringKeeps.{all_of}
use Rattle.ic_machine.specs.lemmas.GenerationsOn.{advances_none}
use Rattle.ic_machine.proofs.Advancing.{firsts_taken}
use Rattle.ic_machine.proofs.Changed.{changed, changed_ran, changed_ran-fired, changed_sound, with_spare, with_spare_sound}
use Rattle.ic_machine.proofs.Each.{spare_all, spare_some}
use Rattle.ic_machine.proofs.Running.{held_separate}
use Rattle.ic_machine.proofs.Sound.{counts_all, wide_enough}
use Rattle.ic_machine.proofs.machine.Machine.take_spare_firsts.Goals as goal
use Rattle.ic_machine.proofs.machine.Machine.take_spare_firsts.Goals.{After-fire_firsts-fired}

-- what has fired, beside what is set aside
module _ (c : After-fire_firsts-fired) where
  known : arities_of c.self.inside.tables.heaps.items ≡ c.args.program.now.arities
  known = ap (λ (n : Net). n.arities) c.self.view_is ∙ c.requires.arities

  arities : arities_of c.fire_firsts-fired.new.self.heaps.items ≡ arities_of c.self.inside.tables.heaps.items
  arities = c.fire_firsts-fired.ensures.arities ∙ ap (λ (t : Tables). arities_of t.heaps.items) c.spare_for-times.ensures.same

  abbrev before : Inside
  before = with_spare c.self.inside c.spare_for-times.new.self.spare

  abbrev after : Inside
  after = changed before c.fire_firsts-fired.new.self (c.self.inside.interactions + c.fire_firsts-fired.result)
      c.fire_firsts-fired.new.counts

  firsts : FiresFirsts c.args.program.now c.fire_firsts-fired.result c.self.inside.counts.items c.fire_firsts-fired.new.counts.items
      before.tables c.fire_firsts-fired.new.self c.self.inside.aside.items
  firsts =
      subst (λ (t : Tables). FiresFirsts c.args.program.now c.fire_firsts-fired.result c.self.inside.counts.items
      c.fire_firsts-fired.new.counts.items t c.fire_firsts-fired.new.self c.self.inside.aside.items) c.spare_for-times.ensures.same
      (c.fire_firsts-fired.ensures.fires c.self.inside.aside.items c.self.invariant.aside)

  ran : Ran c.args.program.now (net_of before) (net_of after)
  ran =
      changed_ran c.args.program.now before c.fire_firsts-fired.new.self
      (c.self.inside.interactions + c.fire_firsts-fired.result) c.fire_firsts-fired.new.counts arities firsts.each.fired
      firsts.each.moments firsts.each.way firsts.each.places
      (ap (λ (k : ℕ). c.self.inside.interactions + k) (sym firsts.each.counted)) firsts.each.tally

  ran_fired : ran.fired ≡ firsts.each.fired
  unfolding ran
  ran_fired =
      changed_ran-fired c.args.program.now before c.fire_firsts-fired.new.self
      (c.self.inside.interactions + c.fire_firsts-fired.result) c.fire_firsts-fired.new.counts arities firsts.each.fired
      firsts.each.moments firsts.each.way firsts.each.places
      (ap (λ (k : ℕ). c.self.inside.interactions + k) (sym firsts.each.counted)) firsts.each.tally

  abbrev next : Generation
  next = record { end = c.args.generation.now.end - c.fire_firsts-fired.result }

  on : Advances c.args.program.now c.args.generation.now next c.args.self.now (net_of after)
      × IsWithin next (net_of after).pending
  on =
      let inside : IsWithin c.args.generation.now c.self.inside.tables.pending.items =
      subst (λ (n : Net). IsWithin c.args.generation.now n.pending) (sym c.self.view_is) c.requires.within in
      let few : c.fire_firsts-fired.result ≤ c.args.generation.now.end =
      omega (arith, c.fire_firsts-fired.ensures.within, c.spare_for-times.ensures.within, c.min-pairs.ensures) in
      subst (λ (n : Net). Advances c.args.program.now c.args.generation.now next n (net_of after)
      × IsWithin next (net_of after).pending) c.self.view_is
      (firsts_taken c.args.program.now c.args.generation.now next (net_of before) (net_of after) ran firsts.taken firsts.rest
      firsts.more (omega (arith, few, firsts.many)) inside firsts.before firsts.after
      (λ now later order. subst (λ (is : List ℕ). Takes c.args.program.now (firsts.taken ++ now) now is
      (beside later (net_of before)) (beside (later ++ firsts.more) (net_of after))) (sym ran_fired) (firsts.takes now later)))

-- ---- the goals

pub returns-in_default-clause-advances : goal.returns-in_default-clause-advances
returns-in_default-clause-advances c = advances_none c.args.program.now c.args.generation.now c.args.self.now

pub spare_for-times-requires-clause-registers : goal.spare_for-times-requires-clause-registers
spare_for-times-requires-clause-registers c =
    let t : Tables = c.self.inside.tables in
    wide_enough (length t.heaps.items) t.registers.items c.self.invariant.registers

pub returns-then-times-eq0-clause-advances : goal.returns-then-times-eq0-clause-advances
returns-then-times-eq0-clause-advances c =
    let q : Plans = c.args.program.now in
    let g : Generation = c.args.generation.now in
    let n : Net = c.args.self.now in
    subst (λ (t : Tables). Advances q g g n (net_of (record c.self.inside { tables = t }))) (sym c.spare_for-times.ensures.same)
    (subst (λ (o : Net). Advances q g g n o) (sym c.self.view_is) (advances_none q g n))

pub fire_firsts-fired-requires-clause-separate : goal.fire_firsts-fired-requires-clause-separate
fire_firsts-fired-requires-clause-separate c =
    let m : Inside = c.self.inside in
    subst (λ (t : Tables). IsSeparate (arities_of t.heaps.items) [] (held t [])) (sym c.spare_for-times.ensures.same)
    (held_separate (arities_of m.tables.heaps.items) m.interface.items (map equated_of m.tables.pending.items)
    (names_pieces 0 m.tables.names.entries) (heaps_pieces 0 m.tables.heaps.items) m.aside.items c.self.invariant.separate)

pub fire_firsts-fired-requires-clause-counts : goal.fire_firsts-fired-requires-clause-counts
fire_firsts-fired-requires-clause-counts c =
    let few = c.requires.few in
    let within : c.spare_for-times.result ≤ c.args.steps = omega (arith, c.spare_for-times.ensures.within, c.min-pairs.ensures) in
    let same : c.self.inside.interactions ≡ c.args.self.now.interactions = ap (λ (n : Net). n.interactions) c.self.view_is in
    all_of (λ k. k ≤ c.self.inside.interactions) (λ k. k + c.spare_for-times.result < 2 ^ 64) c.self.inside.counts.items
    (λ k below. let b : k ≤ c.self.inside.interactions = below in omega (arith, few, within, same)) c.self.invariant.counts

pub invariant_of-self-2 : goal.invariant_of-self-2
invariant_of-self-2 c =
    let d = (goal.at.invariant_of-self-2 c).After-fire_firsts-fired in
    let v : Tables = c.fire_firsts-fired.new.self in
    let left : ℕ = (c.spare_for-times.result - c.fire_firsts-fired.result) * c.in-Some.most in
    let each = (firsts d).each in
    let e = c.fire_firsts-fired.ensures in
    with_spare_sound (after d) (v.spare + left)
    (changed_sound c.args.program.now (before d) v (c.self.inside.interactions + c.fire_firsts-fired.result)
    c.fire_firsts-fired.new.counts (arities d) (ran d)
    (with_spare_sound c.self.inside c.spare_for-times.new.self.spare c.self.invariant
    (subst HasSpare c.spare_for-times.ensures.same c.spare_for-times.ensures.spare)) c.most.ensures.sound (known d)
    e.pairs e.few e.registers (spare_some left (v.spare + left) v refl e.left)
    (subst (λ (k : ℕ). AllByRecursion (λ n. n ≤ c.self.inside.interactions + k) c.fire_firsts-fired.new.counts.items) each.counted
    (counts_all each.fired c.self.inside.interactions c.self.inside.counts.items c.fire_firsts-fired.new.counts.items
    c.self.invariant.counts each.tally))) (spare_all (v.spare + left) v e.left)

pub returns-clause-advances : goal.returns-clause-advances
returns-clause-advances c = (on (goal.at.returns-clause-advances c).After-fire_firsts-fired).0

pub returns-clause-within : goal.returns-clause-within
returns-clause-within c = (on (goal.at.returns-clause-within c).After-fire_firsts-fired).1
