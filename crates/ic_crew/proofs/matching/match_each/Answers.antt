use Rattle.std.proofs.Common.{◌≡◌, ◌<◌, ◌≤◌, List, true, length, map, get_or, ◌+◌, sym, ap, ◌∙◌, arith}
use Rattle.std.proofs.lemmas.List.{get_or-map, length-map, take_all}
use Rattle.ic_round.specs.Works.{result_of}
use Rattle.ic_round.specs.WorkViews.{work_of, fired_of}
use Rattle.ic_crew.specs.Answers.{AnswerParts}
use Rattle.ic_crew.specs.Matching.{is_answer_to, answers_to}
use Rattle.ic_crew.proofs.Matches.{takes_first, takes_next, results_next, is_lost, none_lost, some_left, none_left}
use Rattle.ic_crew.proofs.matching.match_each.Goals as goal

pub loop-work-init : goal.loop-work-init
loop-work-init c = (
  ap (map fired_of) c.in_ok-results.ensures.items,
  takes_first c.args.rules.now (map work_of c.args.works.now) c.args.answers.items c.sort_last_place_first.new.answers.items c.sort_last_place_first.ensures,
)

pub returns-in_default : goal.returns-in_default
returns-in_default c =
    let rs = c.args.rules.now in
    let works = c.args.works.now in
    let i = c.loop-work.work-index in
    let work = c.work-item.result in
    let w = work_of work in
    let in_works : i < length works = c.loop-work-test.true in
    let within : i < length (map work_of works) = omega (arith, in_works, length-map works work_of) in
    let here : w ≡ get_or (map work_of works) i w = ap work_of c.work-item.is ∙ sym (get_or-map work_of works i work w in_works) in
    let none : answers_to rs w c.loop-work.left.items ≡ 0 = ap (answers_to rs w) (sym c.deref.ensures.value) ∙ c.in_default.ensures.none in
    is_lost rs (map work_of works) c.args.answers.items c.loop-work.left.items i w within here none c.loop-work.invariant.1

pub loop-work-preserved : goal.loop-work-preserved
loop-work-preserved c =
    let rs = c.args.rules.now in
    let works = c.args.works.now in
    let left = c.loop-work.left in
    let i = c.loop-work.work-index in
    let k = c.in-Some.place in
    let work = c.work-item.result in
    let w = work_of work in
    let a = c.swap_remove.result in
    let in_works : i < length works = c.loop-work-test.true in
    let within : i < length (map work_of works) = omega (arith, in_works, length-map works work_of) in
    let here : w ≡ get_or (map work_of works) i w = ap work_of c.work-item.is ∙ sym (get_or-map work_of works i work w in_works) in
    let value = c.deref.ensures.value in
    let found = c.in-Some.ensures.some in
    let k_in : k < length left.items = omega (arith, found.0, ap length value) in
    let is : is_answer_to rs w a ≡ true =
    ap (is_answer_to rs w) (c.swap_remove.ensures.value ∙ ap (λ (l : List AnswerParts). get_or l k a) (sym value)) ∙ found.1 a in
    let fewer : length c.swap_remove.new.self.items + 1 ≡ length left.items = omega (arith, c.swap_remove.ensures.len, c.swap_remove.new.self.ok.0, left.ok.0) in
    let sound = c.into_fired.ensures.sound in (
      ap (map fired_of) c.in_ok-push.ensures.items
          ∙ results_next rs works c.loop-work.results.items i work c.into_fired.result a in_works c.work-item.is is sound c.into_fired.ensures.fired c.loop-work.invariant.0,
      takes_next rs (map work_of works) c.args.answers.items left.items i k w a within here k_in c.swap_remove.ensures.value is c.loop-work.invariant.1 c.swap_remove.new.self.items
          c.swap_remove.ensures.items fewer,
    )

pub returns-then-not-is_empty : goal.returns-then-not-is_empty
returns-then-not-is_empty c =
    let works = c.args.works.now in
    let long = length-map works work_of in
    let at_end : length (map work_of works) ≤ c.loop-work.work-index = omega (arith, c.loop-work-test.false, long) in
    let some = some_left _ c.is_empty.result c.is_empty.ensures c.if-not-is_empty.true in
    let counted = c.loop-work.invariant.1.counted in (
      none_lost c.args.rules.now (map work_of works) c.args.answers.items c.loop-work.left.items c.loop-work.work-index (take_all _ (map work_of works) at_end) c.loop-work.invariant.1,
      omega (arith, counted, some, c.loop-work.left.ok.0, at_end),
    )

pub returns : goal.returns
returns c =
    let works = c.args.works.now in
    let long = length-map works work_of in
    let at_end : length works ≤ c.loop-work.work-index = c.loop-work-test.false in
    let all_taken : length (map work_of works) ≤ c.loop-work.work-index = omega (arith, at_end, long) in
    let none = none_left _ c.is_empty.result c.is_empty.ensures c.if-not-is_empty.false in
    let counted = c.loop-work.invariant.1.counted in
    let most = c.loop-work.auto.work-index-end in (
      c.loop-work.invariant.0 ∙ ap (λ ws. map (result_of c.args.rules.now.rules) (map work_of ws)) (take_all _ works at_end),
      (
        none_lost c.args.rules.now (map work_of works) c.args.answers.items c.loop-work.left.items c.loop-work.work-index (take_all _ (map work_of works) all_taken) c.loop-work.invariant.1,
        omega (arith, counted, none, c.loop-work.left.ok.0, at_end, most, long),
      ),
    )
