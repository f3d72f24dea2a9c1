-- Equations that are put one by one, each active one by its result.
use Rattle.std.proofs.Common.{◌≡◌, ℕ, ◌+◌, List, [], ◌∷◌, ◌++◌, None, Some, length, map, append_assoc, length-append, sym, ap, ◌∙◌, arith}
use Rattle.std.specs.Option.{option_map_or}
use Rattle.ic_term.specs.Tree.{Pair}
use Rattle.ic_rules.specs.Rule.{Rule}
use Rattle.ic_round.specs.Firing.{Active, oriented, rule_of_sides, active_pair, products_by, fired_pair, fired_from, count_of, names_taken, next_after}
use Rattle.ic_round.specs.Works.{PlainFired, work_at, works_from, result_of}
use Rattle.ic_flat.specs.declared.word.Word.{Word}
use Rattle.ic_flat_rules.specs.RuleWords.{pairs_words}
use Rattle.ic_flat_round.proofs.FiringLimits.{fired-first}
use Rattle.ic_flat_round.proofs.ActiveWorks.{taken_by}

-- The results left are those of the equations left, and what these give goes on from what is put so far.
pub record Fills (rs : List Rule) (all : List Pair) (last : ℕ) (start : List Word) (results : List PlainFired) (next equations : ℕ) (out : List Word) (left : List Pair) : Type 0 where
  pub number : ℕ
  pub given : results ≡ map (result_of rs) (works_from rs number next left)
  pub names : next_after rs next left ≡ last
  pub counted : equations + length (fired_from rs next left) ≡ length all
  pub written : out ++ pairs_words (fired_from rs next left) ≡ start ++ pairs_words all

-- one equation is put as these words and this many equations, and takes names up to here
goes_on : (rs : List Rule) (all : List Pair) (last : ℕ) (start out put here : List Word) (next later equations count : ℕ) (left ps : List Pair) (p : Pair) → left ≡ p ∷ ps
    → later ≡ next + names_taken rs p → count ≡ length (fired_pair rs next p) → put ≡ out ++ here → here ≡ pairs_words (fired_pair rs next p)
    → next_after rs next left ≡ last → equations + length (fired_from rs next left) ≡ length all → out ++ pairs_words (fired_from rs next left) ≡ start ++ pairs_words all
    → (next_after rs later ps ≡ last) × ((equations + count + length (fired_from rs later ps) ≡ length all) × (put ++ pairs_words (fired_from rs later ps) ≡ start ++ pairs_words all))
goes_on rs all last start out put here next later equations count left ps p is beyond many added words names counted written =
    let rest = fired_from rs (next + names_taken rs p) ps in
    let tail : fired_from rs later ps ≡ rest = ap (λ n. fired_from rs n ps) beyond in (
      ap (λ n. next_after rs n ps) beyond ∙ ap (next_after rs next) (sym is) ∙ names,
      (
        omega (arith, counted, many, ap length tail, ap (λ l. length (fired_from rs next l)) is, length-append (fired_pair rs next p) rest),
        (λ i. added i ++ pairs_words (tail i)) ∙ append_assoc out here (pairs_words rest) ∙ ap (λ l. out ++ (l ++ pairs_words rest)) words
            ∙ ap (λ l. out ++ l) (sym (fired-first rs next left ps p is)) ∙ written,
      ),
    )

pub fills-inert : (rs : List Rule) (all : List Pair) (last : ℕ) (start out put : List Word) (results : List PlainFired) (next equations : ℕ) (left ps : List Pair) (p : Pair)
    → Fills rs all last start results next equations out left → left ≡ p ∷ ps → rule_of_sides rs p.left p.right ≡ None → put ≡ out ++ pairs_words (p ∷ [])
    → Fills rs all last start results next (equations + 1) put ps
fills-inert rs all last start out put results next equations left ps p f is none added =
    let idle : active_pair rs p ≡ None = ap (oriented p.left p.right) none in
    let taken : names_taken rs p ≡ 0 = ap (λ o. option_map_or (λ (b : Active). count_of rs b.rule) o 0) idle in
    let later : next ≡ next + names_taken rs p = omega (arith, taken) in
    let stays : fired_pair rs next p ≡ p ∷ [] = ap (λ o. option_map_or (products_by rs next) o (p ∷ [])) idle in
    let rest = works_from rs (f.number + 1) (next + names_taken rs p) ps in
    let here : works_from rs f.number next left ≡ works_from rs (f.number + 1) next ps =
    ap (works_from rs f.number next) is ∙ ap (λ o. option_map_or (λ b. work_at f.number next b ∷ rest) o rest) idle ∙ ap (λ n. works_from rs (f.number + 1) n ps) (sym later) in
    let on = goes_on rs all last start out put (pairs_words (p ∷ [])) next next equations 1 left ps p is later (sym (ap length stays)) added (ap pairs_words (sym stays)) f.names f.counted f.written in
    record {
      number = f.number + 1;
      given = f.given ∙ ap (map (result_of rs)) here;
      names = on.0;
      counted = on.1.0;
      written = on.1.1;
    }

-- the result of an active equation is the first one left
pub first_result : (rs : List Rule) (number next : ℕ) (results : List PlainFired) (left ps : List Pair) (p : Pair) (a : Active) → left ≡ p ∷ ps → active_pair rs p ≡ Some a
    → results ≡ map (result_of rs) (works_from rs number next left)
    → results ≡ result_of rs (work_at number next a) ∷ map (result_of rs) (works_from rs (number + 1) (next + names_taken rs p) ps)
first_result rs number next results left ps p a is active given =
    let rest = works_from rs (number + 1) (next + names_taken rs p) ps in
    given ∙ ap (λ l. map (result_of rs) (works_from rs number next l)) is ∙ ap (λ o. map (result_of rs) (option_map_or (λ b. work_at number next b ∷ rest) o rest)) active

pub fills-active : (rs : List Rule) (all : List Pair) (last : ℕ) (start out put : List Word) (results others : List PlainFired) (first : PlainFired) (next later equations : ℕ)
    (left ps : List Pair) (p : Pair) (a : Active) → Fills rs all last start results next equations out left → left ≡ p ∷ ps → active_pair rs p ≡ Some a → results ≡ first ∷ others
    → put ≡ out ++ pairs_words first.products → later ≡ next + count_of rs a.rule
    → Fills rs all last start others later (equations + length first.products) put ps
fills-active rs all last start out put results others first next later equations left ps p a f is active found added grown =
    let beyond : later ≡ next + names_taken rs p = grown ∙ ap (λ n. next + n) (sym (taken_by rs p a active)) in
    let both = sym found ∙ first_result rs f.number next results left ps p a is active f.given in
    let one : first ≡ result_of rs (work_at f.number next a) = cc in
    let others_are : others ≡ map (result_of rs) (works_from rs (f.number + 1) (next + names_taken rs p) ps) = cc in
    let made : first.products ≡ fired_pair rs next p =
    ap (λ (r : PlainFired). r.products) one ∙ ap (λ o. option_map_or (products_by rs next) o (p ∷ [])) (sym active) in
    let on = goes_on rs all last start out put (pairs_words first.products) next later equations (length first.products) left ps p is beyond (ap length made) added (ap pairs_words made)
    f.names f.counted f.written in
    record {
      number = f.number + 1;
      given = others_are ∙ ap (λ n. map (result_of rs) (works_from rs (f.number + 1) n ps)) (sym beyond);
      names = on.0;
      counted = on.1.0;
      written = on.1.1;
    }
