use Rattle.std.proofs.Common.{◌≡◌, ◌+◌, ◌-◌, ◌*◌, ◌^◌, ◌<◌, ◌≤◌, ℕ, [], length, map, ap, sym, subst, refl, ◌∙◌, arith}
use Rattle.std.specs.List.{AllByRecursion}
use Rattle.ic_arena.specs.Tables.{names_pieces}
use Rattle.ic_machine.specs.declared.machine.Machine.TheInside.{Inside}
use Rattle.ic_machine.specs.declared.tables.Tables.{Tables}
use Rattle.ic_machine.specs.Plan.{Plans}
use Rattle.ic_machine.specs.Net.{Net, equated_of}
use Rattle.ic_machine.specs.Runs.{Ran}
use Rattle.ic_machine.specs.Separate.{IsSeparate}
use Rattle.ic_machine.specs.inner.Firing.{arities_of, heaps_pieces}
use Rattle.ic_machine.specs.inner.Machine.{net_of}
use Rattle.ic_machine.specs.inner.Tables.{FiresEach, HasSpare, held}
use Rattle.ic_machine.specs.lemmas.FiringKeeps.{all_of}
use Rattle.ic_machine.specs.lemmas.RunsOn.{ran_none}
use Rattle.ic_machine.proofs.Changed.{changed, changed_ran, changed_sound, with_spare, with_spare_sound}
use Rattle.ic_machine.proofs.Each.{spare_all, spare_some}
use Rattle.ic_machine.proofs.Running.{held_separate}
use Rattle.ic_machine.proofs.Sound.{counts_all, wide_enough}
use Rattle.ic_machine.proofs.machine.Machine.run_spare.Goals as goal
use Rattle.ic_machine.proofs.machine.Machine.run_spare.Goals.{After-fire_each-fired}

-- what has fired, beside what is set aside
module _ (g : _) (c : After-fire_each-fired g) where
  known : arities_of c.self.inside.tables.heaps.items ≡ c.args.program.now.arities
  known = ap (λ (n : Net). n.arities) c.self.view_is ∙ c.requires.arities

  arities : arities_of c.fire_each-fired.new.self.heaps.items ≡ arities_of c.self.inside.tables.heaps.items
  arities = c.fire_each-fired.ensures.arities ∙ ap (λ (t : Tables). arities_of t.heaps.items) c.spare_for-times.ensures.same

  fired : FiresEach c.args.program.now c.fire_each-fired.result c.self.inside.counts.items c.fire_each-fired.new.counts.items
      (with_spare c.self.inside c.spare_for-times.new.self.spare).tables c.fire_each-fired.new.self c.self.inside.aside.items
  fired =
      subst (λ (t : Tables). FiresEach c.args.program.now c.fire_each-fired.result c.self.inside.counts.items
      c.fire_each-fired.new.counts.items t c.fire_each-fired.new.self c.self.inside.aside.items) c.spare_for-times.ensures.same
      (c.fire_each-fired.ensures.fires c.self.inside.aside.items c.self.invariant.aside)

  ran : Ran c.args.program.now (net_of (with_spare c.self.inside c.spare_for-times.new.self.spare))
      (net_of (changed (with_spare c.self.inside c.spare_for-times.new.self.spare) c.fire_each-fired.new.self
      (c.self.inside.interactions + c.fire_each-fired.result) c.fire_each-fired.new.counts))
  ran =
      changed_ran c.args.program.now (with_spare c.self.inside c.spare_for-times.new.self.spare) c.fire_each-fired.new.self
      (c.self.inside.interactions + c.fire_each-fired.result) c.fire_each-fired.new.counts arities fired.fired fired.moments fired.way
      fired.places (ap (λ (k : ℕ). c.self.inside.interactions + k) (sym fired.counted)) fired.tally

pub returns-in_default-clause-ran : goal.returns-in_default-clause-ran
returns-in_default-clause-ran g c = ran_none c.args.program.now c.args.self.now

pub spare_for-times-requires-clause-registers : goal.spare_for-times-requires-clause-registers
spare_for-times-requires-clause-registers g c =
    let t : Tables = c.self.inside.tables in
    wide_enough (length t.heaps.items) t.registers.items c.self.invariant.registers

pub returns-then-times-eq0-clause-ran : goal.returns-then-times-eq0-clause-ran
returns-then-times-eq0-clause-ran g c =
    let q : Plans = c.args.program.now in
    let n : Net = c.args.self.now in
    subst (λ (t : Tables). Ran q n (net_of (record c.self.inside { tables = t }))) (sym c.spare_for-times.ensures.same)
    (subst (λ (o : Net). Ran q n o) (sym c.self.view_is) (ran_none q n))

pub fire_each-fired-requires-clause-separate : goal.fire_each-fired-requires-clause-separate
fire_each-fired-requires-clause-separate g c =
    let m : Inside = c.self.inside in
    subst (λ (t : Tables). IsSeparate (arities_of t.heaps.items) [] (held t [])) (sym c.spare_for-times.ensures.same)
    (held_separate (arities_of m.tables.heaps.items) m.interface.items (map equated_of m.tables.pending.items)
    (names_pieces 0 m.tables.names.entries) (heaps_pieces 0 m.tables.heaps.items) m.aside.items c.self.invariant.separate)

pub fire_each-fired-requires-clause-counts : goal.fire_each-fired-requires-clause-counts
fire_each-fired-requires-clause-counts g c =
    let few = c.requires.few in
    let within = c.spare_for-times.ensures.within in
    let same : c.self.inside.interactions ≡ c.args.self.now.interactions = ap (λ (n : Net). n.interactions) c.self.view_is in
    all_of (λ k. k ≤ c.self.inside.interactions) (λ k. k + c.spare_for-times.result < 2 ^ 64) c.self.inside.counts.items
    (λ k below. let b : k ≤ c.self.inside.interactions = below in omega (arith, few, within, same)) c.self.invariant.counts

pub invariant_of-self-2 : goal.invariant_of-self-2
invariant_of-self-2 g c =
    let d = (goal.at.invariant_of-self-2 g c).After-fire_each-fired in
    let m : Inside = with_spare c.self.inside c.spare_for-times.new.self.spare in
    let v : Tables = c.fire_each-fired.new.self in
    let k : ℕ = c.self.inside.interactions + c.fire_each-fired.result in
    let left : ℕ = (c.spare_for-times.result - c.fire_each-fired.result) * c.in-Some.most in
    let each = fired g d in
    let e = c.fire_each-fired.ensures in
    with_spare_sound (changed m v k c.fire_each-fired.new.counts) (v.spare + left)
    (changed_sound c.args.program.now m v k c.fire_each-fired.new.counts (arities g d) (ran g d)
    (with_spare_sound c.self.inside c.spare_for-times.new.self.spare c.self.invariant
    (subst HasSpare c.spare_for-times.ensures.same c.spare_for-times.ensures.spare)) c.most.ensures.sound (known g d)
    e.pairs e.few e.registers (spare_some left (v.spare + left) v refl e.left)
    (subst (λ (k : ℕ). AllByRecursion (λ n. n ≤ c.self.inside.interactions + k) c.fire_each-fired.new.counts.items) each.counted
    (counts_all each.fired c.self.inside.interactions c.self.inside.counts.items c.fire_each-fired.new.counts.items
    c.self.invariant.counts each.tally))) (spare_all (v.spare + left) v e.left)

pub returns-clause-ran : goal.returns-clause-ran
returns-clause-ran g c =
    let d = (goal.at.returns-clause-ran g c).After-fire_each-fired in
    let m : Inside = with_spare c.self.inside c.spare_for-times.new.self.spare in
    subst (λ (n : Net). Ran c.args.program.now n (net_of (changed m c.fire_each-fired.new.self
    (c.self.inside.interactions + c.fire_each-fired.result) c.fire_each-fired.new.counts))) c.self.view_is (ran g d)
