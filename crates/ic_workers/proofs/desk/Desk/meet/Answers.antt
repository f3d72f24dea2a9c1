use Rattle.std.proofs.Common.{◌∙◌, refl}
use Rattle.ic_workers.proofs.Desks.{comes_on, comes_same}
use Rattle.ic_workers.proofs.Slots.{slots_stay, still_there}
use Rattle.ic_workers.proofs.desk.Desk.meet.Goals as goal

pub loop-init : goal.loop-init
loop-init c = record {
  come = comes_same c.args.self.now c.args.self.now refl refl;
  there = c.requires.there;
  made = refl;
  len = refl;
}

pub meet_all-requires-clause-desk : goal.meet_all-requires-clause-desk
meet_all-requires-clause-desk c = (c.requires.desk.0, (c.loop.invariant.come c.requires.desk.0 c.requires.desk.1).1)

pub loop-preserved : goal.loop-preserved
loop-preserved c =
    let met = c.meet_all.new.self in
    let told = c.tell_all.new.self in
    let len = slots_stay met told c.tell_all.ensures.slots in
    record {
      come = comes_on c.args.self.now c.loop.self told c.loop.invariant.come
          (comes_on c.loop.self met told c.in_ok-came.ensures.come (comes_same met told c.tell_all.ensures.slots c.tell_all.ensures.made));
      there = still_there met told c.in_ok-came.came.items len c.in_ok-came.ensures.there;
      made = c.tell_all.ensures.made ∙ (c.meet_all.ensures.made ∙ c.loop.invariant.made);
      len = len ∙ (c.meet_all.ensures.len ∙ c.loop.invariant.len);
    }
