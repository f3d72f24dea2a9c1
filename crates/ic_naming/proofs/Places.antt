-- The places of names among their first occurrences, a name more.
use Rattle.std.proofs.Common.{◌≡◌, ◌⊎◌, ℕ, ◌+◌, ◌<◌, ◌≤◌, ◌==◌, ◌||◌, Bool, true, false, not, List, [], ◌∷◌, ◌++◌, Option, None, Some, length, drop, cond, refl, sym, ap, ◌∙◌, arith, inl, inr}
use Rattle.std.specs.Prelude.{is_some, unwrap_or}
use Rattle.std.specs.List.{list_any, position_or_len}
use Rattle.std.proofs.lemmas.Bool.{cases_eq, eq-eqb, ne_eqb, true≢false, false≢true}
use Rattle.std.proofs.lemmas.List.{length-append}
use Rattle.std.proofs.lemmas.List.Folds.{list_any-append, position_or_len_push}
use Rattle.ic_names.specs.declared.table.NameTable.{NameTable}
use Rattle.ic_names.specs.Table.{found}
use Rattle.ic_naming.specs.inner.Numbering.{ArePlaces}
use Rattle.ic_rules.specs.Renaming.{first_after, first_occurrences, number_among}

-- The places of the first occurrences so far; the search for more goes on after so many names.
pub record ArePlacesSoFar (names : List ℕ) (next : ℕ) (place : ℕ → Option ℕ) (firsts : ℕ) : Type 0 where
  pub seen : List ℕ
  pub many : firsts ≡ length seen
  pub rest : first_after seen (drop next names) ≡ first_occurrences names
  pub known : (x : ℕ) → is_some (place x) ≡ list_any (λ m. x == m) seen
  pub placed : (x : ℕ) → unwrap_or (place x) (length seen) ≡ number_among seen x

-- no place is after the end
pub place-le : (names : List ℕ) (n : ℕ) → number_among names n ≤ length names
place-le [] n = omega arith
place-le (m ∷ names) n = at (n == m) (place-le names n)
  where
    at : (b : Bool) → number_among names n ≤ length names → cond (not b) (1 + number_among names n) 0 ≤ length (m ∷ names)
    at true low = omega arith
    at false low = omega arith

-- what passes somewhere passes within the list
within : {X : Type 0} (p : X → Bool) (xs : List X) → list_any p xs ≡ true → position_or_len p xs < length xs
within p [] some = absurd (false≢true some)
within p (x ∷ xs) some = at (p x) some (within p xs)
  where
    at : (b : Bool) → (b || list_any p xs) ≡ true → (list_any p xs ≡ true → position_or_len p xs < length xs)
        → cond (not b) (1 + position_or_len p xs) 0 < length (x ∷ xs)
    at true e low = omega arith
    at false e low = let below = low e in omega arith

module _ (seen : List ℕ) (n : ℕ) (old new : ℕ → Option ℕ) (updated : (x : ℕ) → new x ≡ cond (n == x) (Some (length seen)) (old x))
    (known : (x : ℕ) → is_some (old x) ≡ list_any (λ m. x == m) seen)
    (placed : (x : ℕ) → unwrap_or (old x) (length seen) ≡ number_among seen x) (fresh : is_some (old n) ≡ false) where
  same_there : (x : ℕ) → n ≡ x → new x ≡ Some (length seen)
  same_there x e = updated x ∙ ap (λ b. cond b (Some (length seen)) (old x)) (eq-eqb n x e)

  other_there : (x : ℕ) → (n ≡ x → ⊥) → new x ≡ old x
  other_there x e = updated x ∙ ap (λ b. cond b (Some (length seen)) (old x)) (ne_eqb n x e)

  or_false : (a : Bool) → (a || (false || false)) ≡ a
  or_false true = refl
  or_false false = refl

  or_true : (a : Bool) → (a || (true || false)) ≡ true
  or_true true = refl
  or_true false = refl

  pub known_more : (x : ℕ) → is_some (new x) ≡ list_any (λ m. x == m) (seen ++ n ∷ [])
  known_more x = at (cases_eq n x) ∙ sym (list_any-append (λ m. x == m) seen (n ∷ []))
    where
      at : (n ≡ x) ⊎ (n ≡ x → ⊥) → is_some (new x) ≡ (list_any (λ m. x == m) seen || ((x == n) || false))
      at (inl e) =
          ap is_some (same_there x e)
          ∙ sym (ap (λ b. list_any (λ m. x == m) seen || (b || false)) (eq-eqb x n (sym e)) ∙ or_true (list_any (λ m. x == m) seen))
      at (inr e) =
          ap is_some (other_there x e) ∙ known x
          ∙ sym (ap (λ b. list_any (λ m. x == m) seen || (b || false)) (ne_eqb x n (λ q. e (sym q))) ∙ or_false (list_any (λ m. x == m) seen))

  pub placed_more : (x : ℕ) → unwrap_or (new x) (length (seen ++ n ∷ [])) ≡ number_among (seen ++ n ∷ []) x
  placed_more x = at (cases_eq n x) ∙ sym (position_or_len_push (λ m. x == m) seen n)
    where
      free_one : (o : Option ℕ) → is_some o ≡ false → o ≡ None
      free_one None e = refl
      free_one (Some r) e = absurd (true≢false e)

      last : number_among seen x ≡ length seen → (b : Bool) → (x == n) ≡ b
          → cond (number_among seen x == length seen) (length seen + cond (x == n) 0 1) (number_among seen x) ≡ length seen + cond b 0 1
      last e b is =
          ap (λ t. cond t (length seen + cond (x == n) 0 1) (number_among seen x)) (eq-eqb (number_among seen x) (length seen) e)
          ∙ ap (λ t. length seen + cond t 0 1) is

      unmoved : (o : Option ℕ) → old x ≡ o → (n ≡ x → ⊥)
          → unwrap_or o (length (seen ++ n ∷ [])) ≡ cond (number_among seen x == length seen) (length seen + cond (x == n) 0 1) (number_among seen x)
      unmoved None e other =
          let none : number_among seen x ≡ length seen = sym (placed x) ∙ ap (λ o. unwrap_or o (length seen)) e in
          length-append seen (n ∷ []) ∙ sym (last none false (ne_eqb x n (λ q. other (sym q))))
      unmoved (Some r) e other =
          let here : number_among seen x ≡ r = sym (placed x) ∙ ap (λ o. unwrap_or o (length seen)) e in
          let low = within (λ m. x == m) seen (sym (known x) ∙ ap is_some e) in
          sym (ap (λ t. cond t (length seen + cond (x == n) 0 1) (number_among seen x)) (ne_eqb (number_among seen x) (length seen) (λ q. omega arith)) ∙ here)

      at : (n ≡ x) ⊎ (n ≡ x → ⊥)
          → unwrap_or (new x) (length (seen ++ n ∷ [])) ≡ cond (number_among seen x == length seen) (length seen + cond (x == n) 0 1) (number_among seen x)
      at (inl e) =
          let free : old x ≡ None = free_one (old x) (ap (λ y. is_some (old y)) (sym e) ∙ fresh) in
          let none : number_among seen x ≡ length seen = sym (placed x) ∙ ap (λ o. unwrap_or o (length seen)) free in
          ap (λ o. unwrap_or o (length (seen ++ n ∷ []))) (same_there x e)
          ∙ (let zero_more : length seen ≡ length seen + 0 = omega arith in zero_more)
          ∙ sym (last none true (eq-eqb x n (sym e)))
      at (inr e) = ap (λ o. unwrap_or o (length (seen ++ n ∷ []))) (other_there x e) ∙ unmoved (old x) refl e

-- ---- a name more

-- the first names and what goes on
next_known : (seen : List ℕ) (n : ℕ) (ns : List ℕ) (b : Bool) → list_any (λ m. n == m) seen ≡ b
    → first_after seen (n ∷ ns) ≡ cond b (first_after seen ns) (first_after (seen ++ n ∷ []) ns)
next_known seen n ns b is = ap (λ t. cond t (first_after seen ns) (first_after (seen ++ n ∷ []) ns)) is

pub place_kept : (names : List ℕ) (i n firsts : ℕ) (place : ℕ → Option ℕ) → drop i names ≡ n ∷ drop (i + 1) names → is_some (place n) ≡ true
    → ArePlacesSoFar names i place firsts → ArePlacesSoFar names (i + 1) place firsts
place_kept names i n firsts place split there so_far = record {
  seen = so_far.seen;
  many = so_far.many;
  rest = sym (next_known so_far.seen n (drop (i + 1) names) true (sym (so_far.known n) ∙ there)) ∙ ap (first_after so_far.seen) (sym split) ∙ so_far.rest;
  known = so_far.known;
  placed = so_far.placed;
}

pub place_more : (names : List ℕ) (i n firsts : ℕ) (old new : ℕ → Option ℕ) → drop i names ≡ n ∷ drop (i + 1) names → is_some (old n) ≡ false
    → ((x : ℕ) → new x ≡ cond (n == x) (Some firsts) (old x))
    → ArePlacesSoFar names i old firsts → ArePlacesSoFar names (i + 1) new (firsts + 1)
place_more names i n firsts old new split fresh updated so_far = record {
  seen = so_far.seen ++ n ∷ [];
  many = ap (λ k. k + 1) so_far.many ∙ sym (length-append so_far.seen (n ∷ []));
  rest = sym (next_known so_far.seen n (drop (i + 1) names) false (sym (so_far.known n) ∙ fresh)) ∙ ap (first_after so_far.seen) (sym split) ∙ so_far.rest;
  known = known_more so_far.seen n old new at so_far.known so_far.placed fresh;
  placed = placed_more so_far.seen n old new at so_far.known so_far.placed fresh;
}
  where
    at : (x : ℕ) → new x ≡ cond (n == x) (Some (length so_far.seen)) (old x)
    at x = updated x ∙ ap (λ k. cond (n == x) (Some k) (old x)) so_far.many

pub places_none : (names : List ℕ) (place : ℕ → Option ℕ) → ((x : ℕ) → place x ≡ None) → ArePlacesSoFar names 0 place 0
places_none names place none = record {
  seen = [];
  many = refl;
  rest = refl;
  known = λ x. ap is_some (none x);
  placed = λ x. ap (λ o. unwrap_or o 0) (none x);
}

pub places_all : (names : List ℕ) (i firsts : ℕ) (places : NameTable) → drop i names ≡ [] → ArePlacesSoFar names i (found places) firsts
    → ArePlaces names places firsts
places_all names i firsts places ends so_far =
    let all : so_far.seen ≡ first_occurrences names = sym (ap (first_after so_far.seen) ends) ∙ so_far.rest in
    record {
      many = so_far.many ∙ ap length all;
      each = λ x. ap (unwrap_or (found places x)) so_far.many ∙ so_far.placed x ∙ ap (λ l. number_among l x) all;
    }
