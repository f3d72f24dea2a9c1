use Rattle.std.proofs.Common.{◌≡◌, ◌<◌, List, [], length, vec_len, subst, sym, ap, ◌∙◌, arith}
use Rattle.std.proofs.lemmas.List.{length-map, length-replicate, nil_from_length}
use Rattle.std.specs.Vec.Iter.{into_iter_items, into_iter_len}
use Rattle.ic_crew.specs.declared.weighing.Weighed.{Weighed}
use Rattle.ic_round.specs.Works.{PlainWork}
use Rattle.ic_crew.specs.WorkLists.{works_of}
use Rattle.ic_crew.proofs.Puts.{DealtSoFar, deals_first, deals_next, deals_all, takes_some}
use Rattle.ic_crew.proofs.dealing.deal_in_order.Goals as goal

pub loop-work-preserved : goal.loop-work-preserved
loop-work-preserved c =
    let first = c.in-Some.ensures.steps.0 in
    let counted : into_iter_len c.next.new.self ≡ length (into_iter_items c.next.new.self) = omega (arith, c.in-Some.ensures.steps.1, c.loop-work.invariant.0, ap length first) in (
      counted,
      takes_some _ _ _ _ c.in_ok-put.ensures c.loop-work.invariant.1,
      λ rs weighed.
          let P : List Weighed → Type 0 = λ l. DealtSoFar rs c.args.count c.args.weighed.items c.loop-work.parts l in
          deals_next rs c.args.count c.args.weighed.items c.loop-work.parts c.put.new.self c.in-Some.work (into_iter_items c.next.new.self) (subst P first (c.loop-work.invariant.2 rs weighed)) c.in_ok-put.ensures,
    )

pub loop-work-init : goal.loop-work-init
loop-work-init c =
    let gives = c.into_iter-work-iterator.ensures.into_iter_gives in
    let parts = c.in_ok-parts.parts in
    let all = c.args.weighed in
    let none : List PlainWork = [] in
    let counted = ap length c.in_ok-parts.ensures.works ∙ length-replicate c.args.count none in
    let long = length-map parts.works.items works_of in
    let some : 0 < vec_len parts.works = omega (arith, counted, long, parts.works.ok.0, c.requires) in (
      gives.1 ∙ all.ok.0 ∙ sym (ap length gives.0),
      some,
      λ rs weighed.
          let P : List Weighed → Type 0 = λ l. DealtSoFar rs c.args.count all.items parts l in
          subst P (sym gives.0) (deals_first rs c.args.count all.items parts weighed c.in_ok-parts.ensures.sizes c.in_ok-parts.ensures.works),
    )

pub returns : goal.returns
returns c =
    let left = into_iter_items c.loop-work.work-iterator in
    let empty : length left ≡ 0 = sym c.loop-work.invariant.0 ∙ c.in-None.ensures.steps.0 in
    λ rs weighed.
    let P : List Weighed → Type 0 = λ l. DealtSoFar rs c.args.count c.args.weighed.items c.loop-work.parts l in
    deals_all rs c.args.count c.args.weighed.items c.loop-work.parts (subst P (nil_from_length left empty) (c.loop-work.invariant.2 rs weighed))
