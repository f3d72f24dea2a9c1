use Rattle.std.proofs.Common.{ℕ, ◌<◌, ◌∷◌, ◌++◌, [], List, length, sym, ap, subst, ◌∙◌, arith}
use Rattle.std.specs.Prelude.{IsPermutation}
use Rattle.std.specs.List.{AllByRecursion}
use Rattle.ic_machine.specs.Plan.{Plans}
use Rattle.ic_workers.specs.Parts.{Part}
use Rattle.ic_workers.specs.inner.HandsOn.{Come}
use Rattle.ic_workers.specs.inner.Keeping.{parts_at, parts_in, AreWithin, IsDesk}
use Rattle.ic_workers.proofs.Desks.{made_least}
use Rattle.ic_workers.proofs.HandSteps.{alone_desk, in_hands_apart, in_hands_kept, in_hands_within}
use Rattle.ic_workers.proofs.Lists.{ok_any, ok_then}
use Rattle.ic_workers.proofs.Workings.{come_on}
use Rattle.ic_workers.proofs.desk.Desk.run_alone.Goals as goal
use Rattle.ic_workers.proofs.desk.Desk.run_alone.Goals.{After-take_back, In_ok-put_in}

-- the part in the hand, and what is left at the desk, are all
taken : (g : _) (c : In_ok-put_in g) → IsPermutation (parts_in c.put_in.new.hand ++ parts_at c.put_in.new.self) (parts_at c.args.self.now)
taken g c =
    subst (λ (l : List Part). IsPermutation (parts_in c.put_in.new.hand ++ parts_at c.put_in.new.self) (l ++ parts_at c.args.self.now))
    c.new-hand.ensures.none c.in_ok-put_in.ensures.moved

pub work-requires : goal.work-requires
work-requires g c =
    let p : Plans = c.args.program.now in
    let moved = taken g (goal.at.work-requires g c).In_ok-put_in in
    record {
      fit = c.requires.desk.fit;
      kept = in_hands_kept p c.args.self.now (parts_in c.put_in.new.hand) (parts_at c.put_in.new.self) c.requires.desk moved;
      few =
          let least = made_least p c.args.self.now (parts_in c.put_in.new.hand) (parts_at c.put_in.new.self) c.requires.desk moved in
          omega (arith, least, c.put_in.ensures.same.0, c.new-hand.ensures.budget, c.requires.few);
      none = c.put_in.ensures.same.1 ∙ c.new-hand.ensures.made;
    }

pub take_back-requires : goal.take_back-requires
take_back-requires g c =
    let p : Plans = c.args.program.now in
    let moved = taken g (goal.at.take_back-requires g c).In_ok-put_in in
    record {
      few = omega (arith, c.work.ensures.within, c.put_in.ensures.same.0, c.new-hand.ensures.budget, c.put_in.ensures.made, c.requires.few);
      slots = c.put_in.ensures.slots c.requires.desk.slots;
      within = subst (λ (n : ℕ). AreWithin n (parts_in c.work.new.self)) (sym c.put_in.ensures.len)
          (in_hands_within p c.args.self.now (parts_in c.put_in.new.hand) (parts_in c.work.new.self) (parts_at c.put_in.new.self) c.requires.desk moved c.work.ensures.worked);
      apart = in_hands_apart p c.args.self.now (parts_in c.put_in.new.hand) (parts_in c.work.new.self) (parts_at c.put_in.new.self) c.requires.desk moved c.work.ensures.worked;
    }

-- the desk where the part is back
back : (g : _) (c : After-take_back g) → (m : IsPermutation (parts_in c.put_in.new.hand ++ parts_at c.put_in.new.self) (parts_at c.args.self.now))
    → IsDesk c.args.program.now c.take_back.new.self × Come c.args.program.now (parts_at c.args.self.now) (parts_at c.take_back.new.self)
back g c m =
    alone_desk c.args.program.now c.args.self.now c.put_in.new.self c.take_back.new.self c.put_in.new.hand c.work.new.self c.requires.desk m
    c.work.ensures c.take_back.ensures.moved c.take_back.ensures.slots (c.take_back.ensures.len ∙ c.put_in.ensures.len)
    (omega (arith, c.take_back.ensures.made, c.put_in.ensures.made))

pub meet-requires : goal.meet-requires
meet-requires g c =
    let m = taken g (goal.at.meet-requires g c).In_ok-put_in in
    record {
      desk = (c.args.program.now, (back g (goal.at.meet-requires g c).After-take_back m).0);
      there = subst (AllByRecursion (λ (k : ℕ). k < length c.take_back.new.self.parts.items))
          (sym (c.in_ok-push.ensures.items ∙ ap (λ (l : List ℕ). l ++ c.args.part ∷ []) c.new-parts.ensures.items))
          (omega (arith, c.requires.there, c.take_back.ensures.len, c.put_in.ensures.len), tt);
    }

pub returns-clause-come : goal.returns-clause-come
returns-clause-come g c =
    let m = taken g (goal.at.returns-clause-come g c).In_ok-put_in in
    let b = back g (goal.at.returns-clause-come g c).After-take_back m in
    ok_then c.meet.result (λ met. come_on c.args.program.now (parts_at c.args.self.now) (parts_at c.take_back.new.self) (parts_at c.meet.new.self) b.1
    (met c.args.program.now b.0).0) c.meet.ensures.come

pub returns-clause-desk : goal.returns-clause-desk
returns-clause-desk g c =
    let m = taken g (goal.at.returns-clause-desk g c).In_ok-put_in in
    let b = back g (goal.at.returns-clause-desk g c).After-take_back m in
    ok_then c.meet.result (λ met. (met c.args.program.now b.0).1) c.meet.ensures.come

pub returns-clause-within : goal.returns-clause-within
returns-clause-within g c =
    ok_any c.meet.result (omega (
      arith,
      c.meet.ensures.made,
      c.take_back.ensures.made,
      c.put_in.ensures.made,
      c.work.ensures.within,
      c.put_in.ensures.same.0,
      c.new-hand.ensures.budget,
    ))

pub returns-clause-len : goal.returns-clause-len
returns-clause-len g c = ok_any c.meet.result (c.meet.ensures.len ∙ (c.take_back.ensures.len ∙ c.put_in.ensures.len))
