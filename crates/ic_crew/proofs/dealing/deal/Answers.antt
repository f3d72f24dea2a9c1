use Rattle.std.proofs.Common.{List, IsPermutation, All, map, subst, arith}
use Rattle.std.proofs.lemmas.List.{length-map}
use Rattle.std.proofs.lemmas.List.Sorted.{IsPermutation-map, All-permutation}
use Rattle.ic_round.specs.Works.{PlainWork}
use Rattle.ic_round.specs.WorkViews.{work_of}
use Rattle.ic_crew.specs.Dealing.{IsDealing}
use Rattle.ic_crew.specs.WorkLists.{works_of}
use Rattle.ic_crew.specs.inner.Parts.{plain_work, IsWeighed, lists_of}
use Rattle.ic_crew.specs.lemmas.DealingLaws.{dealing}
use Rattle.ic_crew.proofs.Weighs.{dealt_in_order}
use Rattle.ic_crew.proofs.dealing.deal.Goals as goal
use Rattle.ic_crew.proofs.dealing.deal.Goals.{After-drop-branch}

whole : (c : After-drop-branch) → IsDealing c.args.rules.now.rules c.args.count (map work_of c.args.works.items) (lists_of c.in_ok-deal_in_order.field-0)
whole c =
    let rs = c.args.rules.now.rules in
    let before = c.in_ok-weighed.weighed.items in
    let after = c.sort_greatest_first.new.weighed.items in
    let same = c.sort_greatest_first.ensures.permutation in
    let weighed : All (IsWeighed rs) after = All-permutation (IsWeighed rs) before after same c.in_ok-weighed.ensures.sizes in
    let P : List PlainWork → Type 0 = λ l. IsPermutation l (map plain_work after) in
    record {
      order = map plain_work after;
      same = subst P c.in_ok-weighed.ensures.works (IsPermutation-map plain_work before after same);
      sorted = dealt_in_order rs after weighed c.sort_greatest_first.ensures.sorted;
      dealt = c.in_ok-deal_in_order.ensures rs weighed;
    }

pub returns-clause-dealt : goal.returns-clause-dealt
returns-clause-dealt c = whole c

pub returns-clause-count : goal.returns-clause-count
returns-clause-count c =
    let parts = c.in_ok-deal_in_order.field-0.works in
    let all = (dealing _ _ _ _ (whole c)).count in
    let each = length-map parts.items works_of in
    omega (arith, all, each, parts.ok.0)

pub returns-clause-each_once : goal.returns-clause-each_once
returns-clause-each_once c = (dealing _ _ _ _ (whole c)).each_once

pub returns-clause-none_empty : goal.returns-clause-none_empty
returns-clause-none_empty c = λ enough.
    let each = length-map c.args.works.items work_of in
    (dealing _ _ _ _ (whole c)).none_empty (omega (arith, enough, each, c.args.works.ok.0))
