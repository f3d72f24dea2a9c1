-- Lemmas, which a reader of the contracts doesn't need: what `rule_for` finds is the one rule of its pair
-- of symbols.
use Rattle.std.proofs.Common.{◌≡◌, ℕ, zero, suc, ◌+◌, ◌<◌, Bool, true, false, List, [], ◌∷◌, ◌++◌, ◌||◌, Option, None, Some, length, cond, is_some, refl, sym, ap, ◌∙◌, arith, IfSome, slice_get, append_assoc, append-nil, subst}
use Rattle.std.specs.List.{position_from, list_any}
use Rattle.ic_rules.specs.Rule.{Rule, stands_for, same_pair}
use Rattle.ic_rules.specs.RuleSet.{repeated_after, first_repeated, IsRuleFor, rule_for, found_or, has_pair}

-- one of two tests passes somewhere where one of them is found
pub any_of_two : {X : Type 0} (p q : X → Bool) (j : ℕ) (xs : List X) → list_any (λ x. p x || q x) xs ≡ (is_some (position_from p j xs) || is_some (position_from q j xs))
any_of_two p q j [] = refl
any_of_two p q j (x ∷ xs) = both (p x) (q x) (list_any (λ y. p y || q y) xs) (position_from p (j + 1) xs) (position_from q (j + 1) xs) (any_of_two p q (j + 1) xs)
  where
    both : (a b l : Bool) (m n : Option ℕ) → l ≡ (is_some m || is_some n) → ((a || b) || l) ≡ (is_some (cond a (Some j) m) || is_some (cond b (Some j) n))
    both true b l m n e = refl
    both false true l None n e = refl
    both false true l (Some k) n e = refl
    both false false l m n e = e

-- what is found at a place passes the test, and lies within the list
found_within : {X : Type 0} (p : X → Bool) (j k : ℕ) (xs : List X) → position_from p j xs ≡ Some k
    → (i : ℕ) × ((k ≡ j + i) × (i < length xs) × IfSome (slice_get xs i) (λ x. p x ≡ true))
found_within p j k [] found = cc
found_within p j k (x ∷ xs) found = at (p x) refl found (found_within p (j + 1) k xs)
  where
    at : (b : Bool) → p x ≡ b → cond b (Some j) (position_from p (j + 1) xs) ≡ Some k
        → (position_from p (j + 1) xs ≡ Some k → (i : ℕ) × ((k ≡ j + 1 + i) × (i < length xs) × IfSome (slice_get xs i) (λ y. p y ≡ true)))
        → (i : ℕ) × ((k ≡ j + i) × (i < suc (length xs)) × IfSome (slice_get (x ∷ xs) i) (λ y. p y ≡ true))
    at true is e below = (0, (let same : j ≡ k = cc in omega (arith, same), omega arith, is))
    at false is e below = let rest = below e in (suc rest.0, (omega (arith, rest.1.0), omega (arith, rest.1.1), rest.1.2))

-- where none passes, none at a place does
none_within : {X : Type 0} (p : X → Bool) (j : ℕ) (xs : List X) (i : ℕ) → position_from p j xs ≡ None → IfSome (slice_get xs i) (λ x. p x ≡ false)
none_within p j [] i none = tt
none_within p j (x ∷ xs) i none = at (p x) i refl none (none_within p (j + 1) xs)
  where
    at : (b : Bool) (i : ℕ) → p x ≡ b → cond b (Some j) (position_from p (j + 1) xs) ≡ None
        → ((i : ℕ) → position_from p (j + 1) xs ≡ None → IfSome (slice_get xs i) (λ y. p y ≡ false)) → IfSome (slice_get (x ∷ xs) i) (λ y. p y ≡ false)
    at true i is e below = cc
    at false zero is e below = is
    at false (suc i) is e below = below i e

both_hold : {X : Type 0} (P Q : X → Type 0) (o : Option X) → IfSome o P → IfSome o Q → IfSome o (λ x. P x × Q x)
both_hold P Q None p q = tt
both_hold P Q (Some x) p q = (p, q)

abbrev place_in : Option (ℕ × Bool) → ℕ
place_in None = 0
place_in (Some p) = p.0

abbrev turned_in : Option (ℕ × Bool) → Bool
turned_in None = false
turned_in (Some p) = p.1

-- the rule that is found has the pair
pub rule_for-found : (rs : List Rule) (a b i : ℕ) (turned : Bool) → rule_for rs a b ≡ Some (i, turned) → IsRuleFor rs a b i turned
rule_for-found rs a b i turned found = by (position_from (stands_for a b) 0 rs) (position_from (stands_for b a) 0 rs) refl refl found
  where
    there : (p : Rule → Bool) (k : ℕ) → position_from p 0 rs ≡ Some k → (k < length rs) × IfSome (slice_get rs k) (λ r. p r ≡ true)
    there p k e =
        let at = found_within p 0 k rs e in
        let same : at.0 ≡ k = omega (arith, at.1.0) in
        subst (λ n. (n < length rs) × IfSome (slice_get rs n) (λ r. p r ≡ true)) same (at.1.1, at.1.2)

    by : (m n : Option ℕ) → position_from (stands_for a b) 0 rs ≡ m → position_from (stands_for b a) 0 rs ≡ n
        → found_or false m (found_or true n None) ≡ Some (i, turned) → IsRuleFor rs a b i turned
    by (Some k) n em en e =
        let place : k ≡ i = ap place_in e in
        let flag : false ≡ turned = ap turned_in e in
        let at = there (stands_for a b) k em in
        subst (λ t. IsRuleFor rs a b i t) flag (subst (λ n. IsRuleFor rs a b n false) place (record { there = at.0; of_pair = at.1 }))
    by None (Some k) em en e =
        let place : k ≡ i = ap place_in e in
        let flag : true ≡ turned = ap turned_in e in
        let at = there (stands_for b a) k en in
        let not_so = none_within (stands_for a b) 0 rs k em in
        subst (λ t. IsRuleFor rs a b i t) flag (subst (λ n. IsRuleFor rs a b n true) place (record { there = at.0; of_pair = both_hold _ _ (slice_get rs k) at.1 not_so }))
    by None None em en e = cc

-- where none is found, no rule has the pair
pub rule_for-none : (rs : List Rule) (a b : ℕ) → rule_for rs a b ≡ None → list_any (has_pair a b) rs ≡ false
rule_for-none rs a b none =
    any_of_two (stands_for a b) (stands_for b a) 0 rs ∙ neither (position_from (stands_for a b) 0 rs) (position_from (stands_for b a) 0 rs) none
  where
    neither : (m n : Option ℕ) → found_or false m (found_or true n None) ≡ None → (is_some m || is_some n) ≡ false
    neither None None e = refl
    neither None (Some k) e = cc
    neither (Some k) n e = cc

single_after : (seen before after : List Rule) (r : Rule) → repeated_after seen (before ++ r ∷ after) ≡ None → list_any (same_pair r) (seen ++ before) ≡ false
single_after seen [] after r none = ap (list_any (same_pair r)) (append-nil seen) ∙ at (list_any (same_pair r) seen) _ none
  where
    at : (b : Bool) (o : Option ℕ) → cond b (Some (length seen)) o ≡ None → b ≡ false
    at true o e = cc
    at false o e = refl
single_after seen (s ∷ before) after r none =
    ap (list_any (same_pair r)) (sym (append_assoc seen (s ∷ []) before))
    ∙ single_after (seen ++ s ∷ []) before after r (later (list_any (same_pair s) seen) _ none)
  where
    later : (b : Bool) (o : Option ℕ) → cond b (Some (length seen)) o ≡ None → o ≡ None
    later true o e = cc
    later false o e = e

-- in a rule set no earlier rule has the pair of a rule
pub single_pair : (before after : List Rule) (r : Rule) → first_repeated (before ++ r ∷ after) ≡ None → list_any (has_pair r.left r.right) before ≡ false
single_pair before after r none = single_after [] before after r none
