use Rattle.std.proofs.Common.{◌∙◌, length, refl, arith}
use Rattle.ic_workers.proofs.Desks.{comes_on, comes_same}
use Rattle.ic_workers.proofs.Slots.{slots_stay, still_there}
use Rattle.ic_workers.specs.declared.desk.Desk.{Desk}
use Rattle.ic_workers.proofs.desk.Desk.meet_from.Goals as goal

pub loop-told-init : goal.loop-told-init
loop-told-init c =
    let len = slots_stay c.args.self.now c.told_in.new.self c.told_in.ensures.slots in
    record {
      come = comes_same c.told_in.new.self c.told_in.new.self refl refl;
      there = still_there c.args.self.now c.told_in.new.self c.args.came.now.items len c.requires.before;
      part = omega (arith, c.requires.there, len);
      made = refl;
      len = refl;
    }

pub meet_one-requires-clause-desk : goal.meet_one-requires-clause-desk
meet_one-requires-clause-desk c =
    let p = c.requires.desk.0 in
    let told = (comes_same c.args.self.now c.told_in.new.self c.told_in.ensures.slots c.told_in.ensures.made p c.requires.desk.1).1 in
    (p, (c.loop-told.invariant.come p told).1)

pub loop-told-preserved : goal.loop-told-preserved
loop-told-preserved c =
    let before : Desk = c.loop-told.self in
    let met : Desk = c.meet_one.new.self in
    let len = c.meet_one.ensures.len in
    record {
      come = comes_on c.told_in.new.self before met c.loop-told.invariant.come c.in_ok-to.ensures.come;
      there = c.in_ok-remember.ensures (length met.parts.items) (still_there before met c.loop-told.came.items len c.loop-told.invariant.there)
          c.in_ok-to.ensures.there;
      part = let part = c.loop-told.invariant.part in omega (arith, part, len);
      made = c.meet_one.ensures.made ∙ c.loop-told.invariant.made;
      len = len ∙ c.loop-told.invariant.len;
    }

pub returns-clause-come : goal.returns-clause-come
returns-clause-come c =
    comes_on c.args.self.now c.told_in.new.self c.loop-told.self
    (comes_same c.args.self.now c.told_in.new.self c.told_in.ensures.slots c.told_in.ensures.made) c.loop-told.invariant.come

pub meet_one-requires-clause-there : goal.meet_one-requires-clause-there
meet_one-requires-clause-there c = c.loop-told.invariant.part

pub returns-in_err-to-clause-made : goal.returns-in_err-to-clause-made
returns-in_err-to-clause-made c = c.meet_one.ensures.made ∙ (c.loop-told.invariant.made ∙ c.told_in.ensures.made)

pub returns-in_err-to-clause-len : goal.returns-in_err-to-clause-len
returns-in_err-to-clause-len c = c.meet_one.ensures.len ∙ (c.loop-told.invariant.len ∙ slots_stay c.args.self.now c.told_in.new.self c.told_in.ensures.slots)

pub returns-in_err-remember-clause-made : goal.returns-in_err-remember-clause-made
returns-in_err-remember-clause-made c = c.meet_one.ensures.made ∙ (c.loop-told.invariant.made ∙ c.told_in.ensures.made)

pub returns-in_err-remember-clause-len : goal.returns-in_err-remember-clause-len
returns-in_err-remember-clause-len c = c.meet_one.ensures.len ∙ (c.loop-told.invariant.len ∙ slots_stay c.args.self.now c.told_in.new.self c.told_in.ensures.slots)

pub returns-clause-made : goal.returns-clause-made
returns-clause-made c = c.loop-told.invariant.made ∙ c.told_in.ensures.made

pub returns-clause-len : goal.returns-clause-len
returns-clause-len c = c.loop-told.invariant.len ∙ slots_stay c.args.self.now c.told_in.new.self c.told_in.ensures.slots

pub returns-clause-came : goal.returns-clause-came
returns-clause-came c = c.loop-told.invariant.there
