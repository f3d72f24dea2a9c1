use Rattle.std.proofs.Common.{◌∙◌, ◌<◌, ℕ, length, refl, subst, sym}
use Rattle.std.specs.List.{AllByRecursion}
use Rattle.ic_workers.proofs.Desks.{comes_on, comes_same}
use Rattle.ic_workers.proofs.desk.Desk.meet_all.Goals as goal

pub loop-place-init : goal.loop-place-init
loop-place-init c = record {
  come = comes_same c.args.self.now c.args.self.now refl refl;
  there = subst (AllByRecursion (λ (k : ℕ). k < length c.args.self.now.parts.items)) (sym c.new-came.ensures.items) tt;
  made = refl;
  len = refl;
}

pub meet_from-requires-clause-desk : goal.meet_from-requires-clause-desk
meet_from-requires-clause-desk c = (c.requires.desk.0, (c.loop-place.invariant.come c.requires.desk.0 c.requires.desk.1).1)

pub loop-place-preserved : goal.loop-place-preserved
loop-place-preserved c = record {
  come = comes_on c.args.self.now c.loop-place.self c.meet_from.new.self c.loop-place.invariant.come c.in_ok-meet_from.ensures.come;
  there = c.in_ok-meet_from.ensures.came;
  made = c.meet_from.ensures.made ∙ c.loop-place.invariant.made;
  len = c.meet_from.ensures.len ∙ c.loop-place.invariant.len;
}
