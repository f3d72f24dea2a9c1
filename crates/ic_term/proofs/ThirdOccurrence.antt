-- How often a name stands in a list, and the first name that stands there for the third time.
use Rattle.std.proofs.Common.{◌≡◌, ℕ, suc, ◌+◌, ◌<◌, ◌≤◌, ◌==◌, List, [], ◌∷◌, ◌++◌, Option, None, Some, unwrap_or, length, get_or, take, drop, refl, sym, ◌∙◌, ap, cond, append_assoc, add-one, add-zero, arith, drop-cons, ◌⊎◌, inl, inr, subst}
use Rattle.std.specs.Cmp.{unsigned_Decides}
use Rattle.std.proofs.lemmas.Bool.{cases_Bool, eqb-true}
use Rattle.std.proofs.lemmas.Grind.{common_steps}
use Rattle.std.proofs.lemmas.List.{take_more}
use Rattle.std.proofs.lemmas.List.Sums.{sum_by-append}
use Rattle.ic_term.specs.Configuration.{occurrences, third_from, IsFirstThird}

pub occurrences-append : (q : ℕ) (ms ns : List ℕ) → occurrences q (ms ++ ns) ≡ occurrences q ms + occurrences q ns
occurrences-append q ms ns = sum_by-append (λ m. cond (m == q) 1 0) ms ns

-- a name that stood there less than twice is passed over
pub third_from_next : (seen : List ℕ) (n : ℕ) (ns : List ℕ) → occurrences n seen < 2 → third_from seen (n ∷ ns) ≡ third_from (seen ++ n ∷ []) ns
third_from_next seen n ns below = grind (arith, common_steps)

-- a name that stood there twice is the one
pub third_from_found : (seen : List ℕ) (n : ℕ) (ns : List ℕ) → 2 ≤ occurrences n seen → third_from seen (n ∷ ns) ≡ Some n
third_from_found seen n ns twice = grind (arith, common_steps)

pub third_from_more : (names : List ℕ) (i : ℕ) → i < length names → occurrences (get_or names i 0) (take i names) < 2
    → third_from (take i names) (drop i names) ≡ third_from (take (i + 1) names) (drop (i + 1) names)
third_from_more names i within below =
    rw (drop-cons names i 0, take_more names i 0 within, add-one i) (third_from_next (take i names) (get_or names i 0) (drop (suc i) names) below)

-- one more name
pub occurrences_next : (q : ℕ) (seen : List ℕ) (n : ℕ) → occurrences n seen < 2 → occurrences q seen ≤ 2 → occurrences q (seen ++ n ∷ []) ≤ 2
occurrences_next q seen n below few = rw (occurrences-append q seen (n ∷ [])) (grind (arith, common_steps))

pub occurrences_more : (q : ℕ) (names : List ℕ) (i : ℕ) → i < length names → occurrences (get_or names i 0) (take i names) < 2
    → occurrences q (take i names) ≤ 2 → occurrences q (take (i + 1) names) ≤ 2
occurrences_more q names i within below few = rw (take_more names i 0 within) (occurrences_next q (take i names) (get_or names i 0) below few)

below_two : (k : ℕ) → (k < 2) ⊎ (2 ≤ k)
below_two (suc (suc k)) = inr (omega arith)
below_two _ = inl (omega arith)

-- where no name stands there for the third time, each stands there at most twice
pub twice_from_none : (seen ns : List ℕ) → third_from seen ns ≡ None → ((q : ℕ) → occurrences q seen ≤ 2) → (q : ℕ) → occurrences q (seen ++ ns) ≤ 2
twice_from_none seen [] none few q = rw (occurrences-append q seen []) (omega (arith, few q))
twice_from_none seen (n ∷ ns) none few q = elim (below_two (occurrences n seen)) [
  | inl below ↦
      let next = sym (third_from_next seen n ns below) ∙ none in
      rw (← append_assoc seen (n ∷ []) ns) (twice_from_none (seen ++ n ∷ []) ns next (λ r. occurrences_next r seen n below (few r)) q)
  | inr twice ↦
      let found = sym (third_from_found seen n ns twice) ∙ none in cc
]

-- where each name stands at most twice, none stands there for the third time
pub none_from_twice : (seen ns : List ℕ) → ((q : ℕ) → occurrences q (seen ++ ns) ≤ 2) → third_from seen ns ≡ None
none_from_twice seen [] few = refl
none_from_twice seen (n ∷ ns) few =
    let all = few n in
    let split = occurrences-append n seen (n ∷ ns) in
    let more = occurrences-append n (n ∷ []) ns in
    let one : occurrences n (n ∷ []) ≡ 1 = ap (λ b. 0 + cond b 1 0) ((unsigned_Decides n n).1 refl) in
    let below : occurrences n seen < 2 = omega (arith, all, split, more, one) in
    third_from_next seen n ns below
    ∙ none_from_twice (seen ++ n ∷ []) ns (λ q. rw (append_assoc seen (n ∷ []) ns) (few q))

-- the name that is found stands there for the third time, and none before it does
pub first_from_some : (seen ns : List ℕ) (n : ℕ) → third_from seen ns ≡ Some n → ((q : ℕ) → occurrences q seen ≤ 2)
    → (before : List ℕ) × ((after : List ℕ) × IsFirstThird n (seen ++ ns) before after)
first_from_some seen [] n found few = cc
first_from_some seen (m ∷ ns) n found few = elim (below_two (occurrences m seen)) [
  | inl below ↦
      let next = sym (third_from_next seen m ns below) ∙ found in
      let rest = first_from_some (seen ++ m ∷ []) ns n next (λ r. occurrences_next r seen m below (few r)) in
      subst (λ all. (before : List ℕ) × ((after : List ℕ) × IsFirstThird n all before after)) (append_assoc seen (m ∷ []) ns) rest
  | inr twice ↦
      let here : m ≡ n = (let both = sym (third_from_found seen m ns twice) ∙ found in cc) in
      subst (λ k. (before : List ℕ) × ((after : List ℕ) × IsFirstThird k (seen ++ m ∷ ns) before after)) here
      (seen, (ns, record { parts = refl; twice_before = omega (arith, twice, few m); none_earlier = few }))
]

-- a count that was a name's occurrences is so again with one more name, where that name's is one higher
pub counted_next : (q : ℕ) (seen : List ℕ) (n : ℕ) (old new : Option ℕ) → unwrap_or old 0 ≡ occurrences q seen
    → new ≡ cond (n == q) (Some (occurrences n seen + 1)) old → unwrap_or new 0 ≡ occurrences q (seen ++ n ∷ [])
counted_next q seen n old new counted put = elim (cases_Bool (n == q)) [
  | inl same ↦
      let higher : new ≡ Some (occurrences n seen + 1) = put ∙ ap (λ b. cond b (Some (occurrences n seen + 1)) old) same in
      let one : occurrences q (n ∷ []) ≡ 1 = ap (λ b. 0 + cond b 1 0) same in
      ap (λ o. unwrap_or o 0) higher ∙ ap (λ m. occurrences m seen + 1) (eqb-true n q same) ∙ ap (λ k. occurrences q seen + k) (sym one) ∙ sym (occurrences-append q seen (n ∷ []))
  | inr other ↦
      let kept : new ≡ old = put ∙ ap (λ b. cond b (Some (occurrences n seen + 1)) old) other in
      let none : occurrences q (n ∷ []) ≡ 0 = ap (λ b. 0 + cond b 1 0) other in
      ap (λ o. unwrap_or o 0) kept ∙ counted ∙ sym (add-zero (occurrences q seen)) ∙ ap (λ k. occurrences q seen + k) (sym none) ∙ sym (occurrences-append q seen (n ∷ []))
]

-- the same for a name of a list, with those before it
pub counted_more : (q : ℕ) (names : List ℕ) (i : ℕ) → i < length names → (old new : Option ℕ) → unwrap_or old 0 ≡ occurrences q (take i names)
    → new ≡ cond (get_or names i 0 == q) (Some (occurrences (get_or names i 0) (take i names) + 1)) old → unwrap_or new 0 ≡ occurrences q (take (i + 1) names)
counted_more q names i within old new counted put =
    rw (take_more names i 0 within) (counted_next q (take i names) (get_or names i 0) old new counted put)
