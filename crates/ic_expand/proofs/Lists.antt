-- Lists that are seen as lists of other things.
use Rattle.std.proofs.Common.{◌≡◌, ℕ, ◌+◌, ◌||◌, Bool, true, false, cond, List, [], ◌∷◌, ◌++◌, map, nat_lt, not, None, Some, Result, Ok, Err, refl, sym, ap, ap₂, ◌∙◌}
use Rattle.std.specs.Prelude.{OnOk, is_ok}
use Rattle.std.specs.List.{list_any, position, position_or_len}
use Rattle.std.specs.Str.{bytes_eq}
use Rattle.std.proofs.lemmas.List.{length-map, map-append}
use Rattle.ic_expand.specs.Names.{with_word}

pub any-map : {X Y : Type 0} (f : X → Y) (p : Y → Bool) (xs : List X) → list_any p (map f xs) ≡ list_any (λ x. p (f x)) xs
any-map f p [] = refl
any-map f p (x ∷ xs) = ap (λ (b : Bool). p (f x) || b) (any-map f p xs)

-- ---- words of keys

module _ {X : Type 0} (items : X → List ℕ) (keys : List X) where
  -- a key that is added is a word more, unless it is there
  pub word_added : (new : List X) (v : X) (word : List ℕ) → new ≡ cond (list_any (λ k. bytes_eq (items v) (items k)) keys) keys (keys ++ v ∷ []) → items v ≡ word
      → map items new ≡ with_word (map items keys) word
  word_added new v word is same =
      ap (map items) is
      ∙ by_test (list_any (λ k. bytes_eq (items v) (items k)) keys)
      ∙ ap (λ (b : Bool). cond b (map items keys) (map items keys ++ items v ∷ [])) (sym (any-map items (bytes_eq (items v)) keys))
      ∙ ap (λ (w : List ℕ). with_word (map items keys) w) same
    where
      by_test : (b : Bool) → map items (cond b keys (keys ++ v ∷ [])) ≡ cond b (map items keys) (map items keys ++ items v ∷ [])
      by_test true = refl
      by_test false = map-append items keys (v ∷ [])

  -- a word that is there stays alone
  pub word_known : (word : List ℕ) → list_any (λ k. bytes_eq word (items k)) keys ≡ true → map items keys ≡ with_word (map items keys) word
  word_known word there = sym (ap (λ (b : Bool). cond b (map items keys) (map items keys ++ word ∷ [])) (any-map items (bytes_eq word) keys ∙ there))

-- ---- a list that grows

pub pushed_map : {X : Type 0} (f : X → List ℕ) (old new : List X) (v : X) (before : List (List ℕ)) (w : List ℕ) → new ≡ old ++ v ∷ [] → map f old ≡ before → f v ≡ w
    → map f new ≡ before ++ w ∷ []
pushed_map f old new v before w is so_far same =
    ap (map f) is ∙ map-append f old (v ∷ []) ∙ ap (λ (ws : List (List ℕ)). ws ++ f v ∷ []) so_far ∙ ap (λ (u : List ℕ). before ++ u ∷ []) same

-- ---- places

place-map : {X : Type 0} (f : X → List ℕ) (p : List ℕ → Bool) (xs : List X) → position_or_len p (map f xs) ≡ position_or_len (λ x. p (f x)) xs
place-map f p [] = refl
place-map f p (x ∷ xs) = ap (λ (n : ℕ). cond (not (p (f x))) (1 + n) 0) (place-map f p xs)

pub position-map : {X : Type 0} (f : X → List ℕ) (p : List ℕ → Bool) (xs : List X) → position p (map f xs) ≡ position (λ x. p (f x)) xs
position-map f p xs = ap₂ (λ (m n : ℕ). cond (nat_lt m n) (Some m) None) (place-map f p xs) (length-map xs f)

-- ---- what a call has left that took everything, or nothing

pub at_ok : {T E : Type 0} (r : Result T E) (new whole old : List ℕ) → new ≡ cond (is_ok r) whole old → OnOk r (new ≡ whole)
at_ok (Ok v) new whole old is = is
at_ok (Err e) new whole old is = tt
