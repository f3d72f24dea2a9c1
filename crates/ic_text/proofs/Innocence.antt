-- What stands before the first rule that is refused is innocent.
use Rattle.std.proofs.Common.{◌≡◌, ℕ, zero, suc, ◌+◌, Bool, true, false, not, cond, List, [], ◌∷◌, ◌++◌, None, Some, length, take, map, refl, sym, ap, ◌∙◌, arith, length-append}
use Rattle.std.specs.List.{list_any, position_from}
use Rattle.std.proofs.lemmas.List.{take-map}
use Rattle.ic_rules.specs.Renaming.{are_paired}
use Rattle.ic_rules.specs.Rule.{Rule, rule_names, numbered, is_lopsided, same_pair}
use Rattle.ic_rules.specs.RuleSet.{first_uncounted, repeated_after, first_repeated, first_lopsided}

some_same : (m n : ℕ) → m ≡ n → Some m ≡ Some n
some_same m n e = ap Some e

-- before the first place at which a test passes it passes at none
position_cut : (p : Rule → Bool) (rs : List Rule) (k j : ℕ) → position_from p k rs ≡ Some (k + j) → position_from p k (take j rs) ≡ None
position_cut p [] k j e = cc
position_cut p (r ∷ rs) k zero e = refl
position_cut p (r ∷ rs) k (suc j) e = by_test (p r) e (λ x. position_cut p rs (k + 1) j (x ∙ some_same (k + suc j) ((k + 1) + j) (omega arith)))
  where
    by_test : (b : Bool) → cond b (Some k) (position_from p (k + 1) rs) ≡ Some (k + suc j) → (position_from p (k + 1) rs ≡ Some (k + suc j) → position_from p (k + 1) (take j rs) ≡ None)
        → cond b (Some k) (position_from p (k + 1) (take j rs)) ≡ None
    by_test true e rest = let same : k ≡ k + suc j = cc in absurd (omega (arith, same))
    by_test false e rest = rest e

pub uncounted_innocent : (rs : List Rule) (i : ℕ) → first_uncounted rs ≡ Some i → first_uncounted (take i rs) ≡ None
uncounted_innocent rs i e = position_cut (λ r. not (are_paired (rule_names r))) rs 0 i (e ∙ some_same i (0 + i) (omega arith))

pub lopsided_innocent : (rs : List Rule) (i : ℕ) → first_lopsided rs ≡ Some i → first_lopsided (take i rs) ≡ None
lopsided_innocent rs i e =
    ap (position_from is_lopsided 0) (sym (take-map numbered i rs)) ∙ position_cut is_lopsided (map numbered rs) 0 i (e ∙ some_same i (0 + i) (omega arith))

repeated_cut : (earlier rs : List Rule) (j : ℕ) → repeated_after earlier rs ≡ Some (length earlier + j) → repeated_after earlier (take j rs) ≡ None
repeated_cut earlier [] j e = cc
repeated_cut earlier (r ∷ rs) zero e = refl
repeated_cut earlier (r ∷ rs) (suc j) e =
    by_test (list_any (same_pair r) earlier) e (λ x. repeated_cut (earlier ++ r ∷ []) rs j (x ∙ some_same (length earlier + suc j) (length (earlier ++ r ∷ []) + j) (omega (arith, length-append earlier (r ∷ [])))))
  where
    by_test : (b : Bool) → cond b (Some (length earlier)) (repeated_after (earlier ++ r ∷ []) rs) ≡ Some (length earlier + suc j)
        → (repeated_after (earlier ++ r ∷ []) rs ≡ Some (length earlier + suc j) → repeated_after (earlier ++ r ∷ []) (take j rs) ≡ None)
        → cond b (Some (length earlier)) (repeated_after (earlier ++ r ∷ []) (take j rs)) ≡ None
    by_test true e rest = let same : length earlier ≡ length earlier + suc j = cc in absurd (omega (arith, same))
    by_test false e rest = rest e

pub repeated_innocent : (rs : List Rule) (i : ℕ) → first_repeated rs ≡ Some i → first_repeated (take i rs) ≡ None
repeated_innocent rs i e = repeated_cut [] rs i (e ∙ some_same i (0 + i) (omega arith))
