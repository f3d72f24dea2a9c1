use Rattle.std.proofs.Common.{◌≡◌, ℕ, ◌∙◌, ◌<◌, ◌++◌, List, length, get_or, set, sym, subst, arith}
use Rattle.std.specs.List.{AllByRecursion}
use Rattle.ic_workers.specs.declared.kept.Hand.{Hand}
use Rattle.ic_workers.specs.inner.Keeping.{parts_at, parts_in, parts_in_all, IsIdle}
use Rattle.ic_workers.proofs.Lists.{all_put, exchanged, one_of_all}
use Rattle.ic_workers.proofs.Slots.{at_any}
use Rattle.ic_workers.proofs.desk.Desk.deal.Goals as goal

-- a hand into which a part was put is idle as before
idle_still : (budget : ℕ) (hs : List Hand) (i : ℕ) (o n : Hand) → i < length hs → o ≡ get_or hs i o → n.budget ≡ o.budget → n.made ≡ o.made
    → AllByRecursion (IsIdle budget) hs → AllByRecursion (IsIdle budget) (set hs i n)
idle_still budget hs i o n lt is may made all =
    let old : IsIdle budget o = subst (IsIdle budget) (sym is) (one_of_all (IsIdle budget) hs i o lt all) in
    all_put (IsIdle budget) hs i n (record { may = may ∙ old.may; none = made ∙ old.none }) all

pub returns-in_err-put_in-clause-idle : goal.returns-in_err-put_in-clause-idle
returns-in_err-put_in-clause-idle c = λ budget all.
    let hs : List Hand = c.loop-place.hands in
    let i : ℕ = c.hand_at-hand.result in
    let lt : i < length hs = omega (arith, c.hand_at-hand.ensures, c.loop-place.auto.hands) in
    idle_still budget hs i (get_or hs i c.index-hands-hand.result) c.put_in.new.hand lt (at_any hs i c.index-hands-hand.result lt)
    c.put_in.ensures.same.0 c.put_in.ensures.same.1 (c.loop-place.invariant.idle budget all)

pub loop-place-preserved : goal.loop-place-preserved
loop-place-preserved c =
    let hs : List Hand = c.loop-place.hands in
    let i : ℕ = c.hand_at-hand.result in
    let o : Hand = get_or hs i c.index-hands-hand.result in
    let lt : i < length hs = omega (arith, c.hand_at-hand.ensures, c.loop-place.auto.hands) in
    let is : o ≡ get_or hs i o = at_any hs i c.index-hands-hand.result lt in
    record {
      moved = exchanged parts_in hs i o c.put_in.new.hand (parts_at c.loop-place.self) (parts_at c.put_in.new.self)
          (parts_in_all c.args.hands.now ++ parts_at c.args.self.now) lt is c.in_ok-put_in.ensures.moved c.loop-place.invariant.moved;
      idle = λ budget all.
          idle_still budget hs i o c.put_in.new.hand lt is c.put_in.ensures.same.0 c.put_in.ensures.same.1 (c.loop-place.invariant.idle budget all);
      slots = λ at. c.put_in.ensures.slots (c.loop-place.invariant.slots at);
      len = c.put_in.ensures.len ∙ c.loop-place.invariant.len;
      made = c.put_in.ensures.made ∙ c.loop-place.invariant.made;
    }
