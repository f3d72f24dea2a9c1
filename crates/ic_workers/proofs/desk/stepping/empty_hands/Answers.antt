use Rattle.std.proofs.Common.{◌∷◌, ◌++◌, [], List, length, sym, ap, subst, ◌∙◌, arith, length-append}
use Rattle.std.specs.List.{AllByRecursion}
use Rattle.ic_workers.specs.declared.kept.Hand.{Hand}
use Rattle.ic_workers.specs.inner.Keeping.{parts_in, parts_in_all, IsIdle}
use Rattle.ic_workers.proofs.Lists.{all_of_both, flat_last}
use Rattle.ic_workers.proofs.desk.stepping.empty_hands.Goals as goal

pub loop-preserved : goal.loop-preserved
loop-preserved c =
    let hs : List Hand = c.loop.hands.items in
    let h : Hand = c.new.result in
    record {
      len = omega (arith, ap length c.in_ok-push.ensures.items, length-append hs (h ∷ []), c.loop.invariant.len);
      none = ap parts_in_all c.in_ok-push.ensures.items
          ∙ (flat_last parts_in hs h ∙ (λ i. c.loop.invariant.none i ++ c.new.ensures.none i));
      idle = subst (AllByRecursion (IsIdle c.args.budget)) (sym c.in_ok-push.ensures.items)
          (all_of_both (IsIdle c.args.budget) hs (h ∷ []) c.loop.invariant.idle (record { may = c.new.ensures.budget; none = c.new.ensures.made }, tt));
    }
