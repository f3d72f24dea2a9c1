-- The words of the rule at a place stand between its two bounds.
use Rattle.std.proofs.Common.{◌≡◌, ℕ, zero, suc, ◌+◌, ◌-◌, ◌<◌, ◌≤◌, List, [], ◌∷◌, ◌++◌, Option, Some, length, take, drop, get_or, refl, sym, ap, ◌∙◌, subst, append_assoc, arith}
use Rattle.std.specs.Prelude.{slice_get, IfSome}
use Rattle.std.specs.List.{flat_map}
use Rattle.std.proofs.Math.Seq.{drop-append_seam}
use Rattle.std.proofs.lemmas.List.{length-append, take_at}
use Rattle.ic_rules.specs.Rule.{Rule}
use Rattle.ic_flat.specs.declared.word.Word.{Word}
use Rattle.ic_flat_rules.specs.RuleWords.{rule_words, bounds_from}

pub length-bounds : (from : ℕ) (rs : List Rule) → length (bounds_from from rs) ≡ suc (length rs)
length-bounds from [] = refl
length-bounds from (r ∷ rs) = ap suc (length-bounds (from + length (rule_words r)) rs)

first_bound : (from : ℕ) (rs : List Rule) (d : ℕ) → get_or (bounds_from from rs) 0 d ≡ from
first_bound from [] d = refl
first_bound from (r ∷ rs) d = refl

-- a rule that is found, and its words between two places
pub record Bounded (ws : List Word) (begin end : ℕ) (found : Option Rule) : Type 0 where
  pub rule : Rule
  pub there : found ≡ Some rule
  pub ordered : begin ≤ end
  pub within : end ≤ length ws
  pub slice : take (end - begin) (drop begin ws) ≡ rule_words rule

first_bounded : (before rest : List Word) (r : Rule)
    → Bounded (before ++ (rule_words r ++ rest)) (length before) (length before + length (rule_words r)) (Some r)
first_bounded before rest r =
    let ws = rule_words r in
    record {
      rule = r;
      there = refl;
      ordered = omega arith;
      within = omega (arith, length-append before (ws ++ rest), length-append ws rest);
      slice = ap (take ((length before + length ws) - length before)) (drop-append_seam before (ws ++ rest))
          ∙ take_at ws rest ((length before + length ws) - length before) (omega arith);
    }

pub bounded_at : (before : List Word) (rs : List Rule) (i d e : ℕ) → i < length rs
    → let bounds = bounds_from (length before) rs in
    Bounded (before ++ flat_map rule_words rs) (get_or bounds i d) (get_or bounds (suc i) e) (slice_get rs i)
bounded_at before [] i d e within = absurd (omega (arith, within))
bounded_at before (r ∷ rs) zero d e within =
    subst (λ end. Bounded (before ++ (rule_words r ++ flat_map rule_words rs)) (length before) end (Some r))
    (sym (first_bound (length before + length (rule_words r)) rs e)) (first_bounded before (flat_map rule_words rs) r)
bounded_at before (r ∷ rs) (suc i) d e within =
    let ws = rule_words r in
    let after = bounded_at (before ++ ws) rs i d e (omega (arith, within)) in
    let moved = subst (λ n. Bounded ((before ++ ws) ++ flat_map rule_words rs) (get_or (bounds_from n rs) i d) (get_or (bounds_from n rs) (suc i) e) (slice_get rs i))
    (length-append before ws) after in
    subst (λ l. Bounded l (get_or (bounds_from (length before + length ws) rs) i d) (get_or (bounds_from (length before + length ws) rs) (suc i) e) (slice_get rs i))
    (append_assoc before ws (flat_map rule_words rs)) moved

-- the same of lists that are these
pub bounded_in : (ws : List Word) (bounds : List ℕ) (rs : List Rule) (i begin end : ℕ) → ws ≡ flat_map rule_words rs → bounds ≡ bounds_from 0 rs
    → i < length rs → begin ≡ get_or bounds i begin → end ≡ get_or bounds (i + 1) end → Bounded ws begin end (slice_get rs i)
bounded_in ws bounds rs i begin end words_are bounds_are within first second =
    let all = flat_map rule_words rs in
    let from = first ∙ ap (λ l. get_or l i begin) bounds_are in
    let until : end ≡ get_or (bounds_from 0 rs) (suc i) end =
    second ∙ ap (λ l. get_or l (i + 1) end) bounds_are ∙ ap (λ n. get_or (bounds_from 0 rs) n end) (omega arith) in
    subst (λ l. Bounded l begin end (slice_get rs i)) (sym words_are)
    (subst (λ n. Bounded all n end (slice_get rs i)) (sym from)
    (subst (λ n. Bounded all (get_or (bounds_from 0 rs) i begin) n (slice_get rs i)) (sym until) (bounded_at [] rs i begin end within)))

pub bounded_words : {ws read : List Word} {begin end : ℕ} {found : Option Rule} → Bounded ws begin end found → read ≡ ws
    → IfSome found (λ rule. take (end - begin) (drop begin read) ≡ rule_words rule)
bounded_words {read = read} {begin = begin} {end = end} bounded same =
    subst (λ o. IfSome o (λ rule. take (end - begin) (drop begin read) ≡ rule_words rule)) (sym bounded.there)
    (ap (λ l. take (end - begin) (drop begin l)) same ∙ bounded.slice)
