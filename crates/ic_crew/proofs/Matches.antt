-- Answers taken work by work.
use Rattle.std.proofs.Common.{◌≡◌, ℕ, zero, suc, ◌+◌, ◌<◌, ◌==◌, List, [], ◌∷◌, ◌++◌, Bool, true, false, cond, ◌&&◌, IsTrue, Vec, All, IsPermutation, length, map, take, get_or, refl, sym, ap, ◌∙◌, arith}
use Rattle.std.proofs.lemmas.List.{map_more, map_push}
use Rattle.std.proofs.lemmas.List.Elements.{All-from_recursion, recursion_from_All}
use Rattle.std.proofs.lemmas.List.Sorted.{All-permutation, length_permutation, sum_by-IsPermutation}
use Rattle.std.proofs.lemmas.List.Sums.{sum_by_more, sum_by_more_le, sum_by-swap_remove}
use Rattle.std.specs.Cmp.{unsigned_Decides}
use Rattle.std.specs.List.{AllByRecursion, swap_remove}
use Rattle.std.specs.declared.alloc.Global.{Global}
use Rattle.ic_rules.specs.Rule.{Rule}
use Rattle.ic_rules.specs.RuleSet.{Rules, rules_eq}
use Rattle.ic_rules.specs.lemmas.RuleLaws.{rules_eq-Decides}
use Rattle.ic_round.specs.declared.work.Work.{Work}
use Rattle.ic_round.specs.declared.work.Fired.{Fired}
use Rattle.ic_round.specs.Works.{PlainWork, suits, result_of}
use Rattle.ic_round.specs.WorkViews.{work_of, fired_of}
use Rattle.ic_crew.specs.Answers.{AnswerParts, IsAnswer}
use Rattle.ic_crew.specs.Dealing.{joined}
use Rattle.ic_crew.specs.Matching.{work_eq, is_answer_to, times, answers_to, IsLost}
use Rattle.ic_crew.specs.WorkLists.{works_of}
use Rattle.ic_crew.specs.lemmas.WorkEq.{work_eq-Decides, answers_it}

-- the answers left, once those to the first of the works are taken
pub record TakenSoFar (rs : Rules) (ws : List PlainWork) (given left : List AnswerParts) (i : ℕ) : Type 0 where
  pub counted : length left + i ≡ length given
  pub each : (w : PlainWork) → answers_to rs w left + times w (take i ws) ≡ answers_to rs w given

-- an answer to one work is an answer to another just where they are the same
answer_is : (rs : Rules) (w v : PlainWork) (a : AnswerParts) → is_answer_to rs w a ≡ true → is_answer_to rs v a ≡ work_eq v w
answer_is rs w v a e =
    let parts = answers_it rs w a e in
    let rules : rules_eq rs a.rules ≡ true = (rules_eq-Decides rs a.rules).1 parts.1 in
    rw rules (grind_and (work_eq v a.work) ∙ ap (work_eq v) (sym parts.0))
  where
    grind_and : (b : Bool) → (b && true) ≡ b
    grind_and true = refl
    grind_and false = refl

pub takes_next : (rs : Rules) (ws : List PlainWork) (given left : List AnswerParts) (i k : ℕ) (w : PlainWork) (a : AnswerParts) → i < length ws → w ≡ get_or ws i w
    → k < length left → a ≡ get_or left k a → is_answer_to rs w a ≡ true → TakenSoFar rs ws given left i → (after : List AnswerParts) → after ≡ swap_remove left k a
    → length after + 1 ≡ length left → TakenSoFar rs ws given after (i + 1)
takes_next rs ws given left i k w a within here k_in there is so_far after removed fewer = record {
  counted = let all = so_far.counted in omega (arith, all, fewer);
  each = λ v.
      let f = λ (b : AnswerParts). cond (is_answer_to rs v b) 1 0 in
      let g = λ (u : PlainWork). cond (work_eq v u) 1 0 in
      let less = sum_by-swap_remove f left k a k_in in
      let more = sum_by_more g ws i w within in
      let same : f (get_or left k a) ≡ g (get_or ws i w) =
      ap f (sym there) ∙ ap (λ (b : Bool). cond b 1 0) (answer_is rs w v a is) ∙ ap g here in
      let before = so_far.each v in
      let now : answers_to rs v after ≡ answers_to rs v (swap_remove left k a) = ap (answers_to rs v) removed in
      omega (arith, less, more, same, before, now);
}

pub is_lost : (rs : Rules) (ws : List PlainWork) (given left : List AnswerParts) (i : ℕ) (w : PlainWork) → i < length ws → w ≡ get_or ws i w
    → answers_to rs w left ≡ 0 → TakenSoFar rs ws given left i → IsLost rs ws given
is_lost rs ws given left i w within here none so_far =
    let g = λ (u : PlainWork). cond (work_eq w u) 1 0 in
    let more = sum_by_more_le g ws i w within in
    let one : g (get_or ws i w) ≡ 1 = ap g (sym here) ∙ ap (λ (b : Bool). cond b 1 0) ((work_eq-Decides w w).1 refl) in
    let before = so_far.each w in
    (w, omega (arith, more, one, before, none))

pub none_lost : (rs : Rules) (ws : List PlainWork) (given left : List AnswerParts) (i : ℕ) → take i ws ≡ ws → TakenSoFar rs ws given left i → ¬ (IsLost rs ws given)
none_lost rs ws given left i whole so_far = λ lost.
    let before = so_far.each lost.0 in
    let all : times lost.0 (take i ws) ≡ times lost.0 ws = ap (times lost.0) whole in
    let fewer = lost.1 in
    absurd (omega (arith, before, all, fewer))

pub takes_first : (rs : Rules) (ws : List PlainWork) (given left : List AnswerParts) → IsPermutation given left → TakenSoFar rs ws given left 0
takes_first rs ws given left same = record {
  counted = let all = length_permutation given left same in omega (arith, all);
  each = λ w. let all = sum_by-IsPermutation (λ (a : AnswerParts). cond (is_answer_to rs w a) 1 0) given left same in omega (arith, all);
}

-- the products of one work more
pub results_next : (rs : Rules) (works : List Work) (results : List Fired) (i : ℕ) (work : Work) (f : Fired) (a : AnswerParts) → i < length works → work ≡ get_or works i work
    → is_answer_to rs (work_of work) a ≡ true → IsAnswer a → fired_of f ≡ a.fired → map fired_of results ≡ map (result_of rs.rules) (map work_of (take i works))
    → map fired_of (results ++ f ∷ []) ≡ map (result_of rs.rules) (map work_of (take (i + 1) works))
results_next rs works results i work f a within here is sound same so_far =
    let R = result_of rs.rules in
    let done = map work_of (take i works) in
    let parts = answers_it rs (work_of work) a is in
    let fired : fired_of f ≡ R (work_of (get_or works i work)) =
    same ∙ sound.fired ∙ ap (λ (r : Rules). result_of r.rules a.work) (sym parts.1) ∙ ap R (sym parts.0) ∙ ap (λ (w : Work). R (work_of w)) here in
    map_push fired_of results f ∙ ap (λ l. l ++ fired_of f ∷ []) so_far ∙ ap (λ x. map R done ++ x ∷ []) fired
    ∙ sym (ap (map R) (map_more work_of works i work within) ∙ map_push R done (work_of (get_or works i work)))

pub some_left : (n : ℕ) (r : Bool) → r ≡ (n == 0) → r ≡ false → 0 < n
some_left zero r e is = let both : true ≡ false = sym e ∙ is in absurd cc
some_left (suc n) r e is = omega arith

pub none_left : (n : ℕ) (r : Bool) → r ≡ (n == 0) → r ≡ true → n ≡ 0
none_left n r e is = (unsigned_Decides n 0).0 (sym e ∙ is)

-- ---- the works of each part suit the rules

each_suits : (rs : List Rule) (ws : List Work) → AllByRecursion (λ w. IsTrue (suits rs w)) (map work_of ws) → AllByRecursion (λ (w : Work). IsTrue (suits rs (work_of w))) ws
each_suits rs [] all = tt
each_suits rs (w ∷ ws) all = (all.0, each_suits rs ws all.1)

split_suits : (rs : List Rule) (vs ws : List PlainWork) → AllByRecursion (λ w. IsTrue (suits rs w)) (vs ++ ws)
    → AllByRecursion (λ w. IsTrue (suits rs w)) vs × AllByRecursion (λ w. IsTrue (suits rs w)) ws
split_suits rs [] ws all = (tt, all)
split_suits rs (v ∷ vs) ws all = let rest = split_suits rs vs ws all.1 in ((all.0, rest.0), rest.1)

part_suits : (rs : List Rule) (parts : List (Vec Work Global)) → AllByRecursion (λ w. IsTrue (suits rs w)) (joined (map works_of parts))
    → AllByRecursion (λ (part : Vec Work Global). All (λ (w : Work). IsTrue (suits rs (work_of w))) part.items) parts
part_suits rs [] all = tt
part_suits rs (p ∷ ps) all =
    let both = split_suits rs (works_of p) (joined (map works_of ps)) all in
    (All-from_recursion (λ (w : Work). IsTrue (suits rs (work_of w))) p.items (each_suits rs p.items both.0), part_suits rs ps both.1)

pub parts_suit : (rs : List Rule) (ws : List PlainWork) (parts : List (Vec Work Global)) → AllByRecursion (λ w. IsTrue (suits rs w)) ws → IsPermutation ws (joined (map works_of parts))
    → All (λ (part : Vec Work Global). All (λ (w : Work). IsTrue (suits rs (work_of w))) part.items) parts
parts_suit rs ws parts all same =
    let P : PlainWork → Type 0 = λ w. IsTrue (suits rs w) in
    All-from_recursion (λ (part : Vec Work Global). All (λ (w : Work). IsTrue (suits rs (work_of w))) part.items) parts
    (part_suits rs parts (recursion_from_All P (joined (map works_of parts)) (All-permutation P ws (joined (map works_of parts)) same (All-from_recursion P ws all))))
