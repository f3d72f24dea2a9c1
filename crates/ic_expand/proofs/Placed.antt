-- Places of words, and those of one word more.
use Rattle.std.proofs.Common.{◌≡◌, ℕ, suc, ◌+◌, ◌||◌, Bool, true, false, not, cond, List, [], ◌∷◌, ◌++◌, Option, None, Some, option_map, is_some, length, map, nat_lt, refl, sym, ap, ◌∙◌, arith}
use Rattle.std.specs.Borrow.{Bor}
use Rattle.std.specs.Cmp.Lexicographic.{slice_cmp, bytes_decides}
use Rattle.std.specs.List.{position, prefix_len, list_any}
use Rattle.std.specs.Ordering.{nat_cmp}
use Rattle.std.specs.Str.{bytes_eq}
use Rattle.std.specs.BTreeMap.{BTreeMap, Updates}
use Rattle.std.specs.Map.{lookup}
use Rattle.std.proofs.lemmas.Bool.Decides.{same_from_decides}
use Rattle.std.proofs.lemmas.Grind.{common_steps}
use Rattle.std.proofs.lemmas.Map.Text.{btree_map_updates_str}
use Rattle.ic_expand.specs.Names.{is_among}
use Rattle.ic_expand.specs.inner.Words.{found, ArePlaces}

pub position-cons : {X : Type 0} (p : X → Bool) (x : X) (xs : List X) → position p (x ∷ xs) ≡ cond (p x) (Some 0) (option_map suc (position p xs))
position-cons p x xs = by (p x) (prefix_len (λ y. not (p y)) xs) (length xs)
  where
    by : (b : Bool) (n m : ℕ) → cond (nat_lt (cond (not b) (1 + n) 0) (suc m)) (Some (cond (not b) (1 + n) 0)) None
        ≡ cond b (Some 0) (option_map suc (cond (nat_lt n m) (Some n) None))
    by true n m = grind (arith, common_steps)
    by false n m = grind (arith, common_steps)

pub any_position : {X : Type 0} (p : X → Bool) (xs : List X) → list_any p xs ≡ is_some (position p xs)
any_position p [] = refl
any_position p (x ∷ xs) = ap (λ b. p x || b) (any_position p xs) ∙ by (p x) (position p xs) ∙ ap is_some (sym (position-cons p x xs))
  where
    by : (b : Bool) (o : Option ℕ) → (b || is_some o) ≡ is_some (cond b (Some 0) (option_map suc o))
    by true o = refl
    by false None = refl
    by false (Some n) = refl

abbrev or_last : Option ℕ → Bool → ℕ → Option ℕ
or_last None b n = cond b (Some n) None
or_last (Some m) b n = Some m

position-push : {X : Type 0} (p : X → Bool) (xs : List X) (y : X) → position p (xs ++ y ∷ []) ≡ or_last (position p xs) (p y) (length xs)
position-push p [] y = position-cons p y []
position-push p (x ∷ xs) y =
    position-cons p x (xs ++ y ∷ []) ∙ ap (λ o. cond (p x) (Some 0) (option_map suc o)) (position-push p xs y)
    ∙ by (p x) (position p xs) (p y) ∙ ap (λ o. or_last o (p y) (suc (length xs))) (sym (position-cons p x xs))
  where
    by : (a : Bool) (o : Option ℕ) (b : Bool) → cond a (Some 0) (option_map suc (or_last o b (length xs))) ≡ or_last (cond a (Some 0) (option_map suc o)) b (suc (length xs))
    by true o b = refl
    by false None true = refl
    by false None false = refl
    by false (Some n) b = refl

abbrev pub Places : Type 0
Places = BTreeMap (Bor (List ℕ)) ℕ

-- a word is among others where the map has it
pub told_among : (places : Places) (ws : List (List ℕ)) (word : List ℕ) → ArePlaces places ws → is_some (found places word) ≡ is_among word ws
told_among places ws word are = ap is_some (are word) ∙ sym (any_position (bytes_eq word) ws)

pub none_placed : (places : Places) (ws : List (Bor (List ℕ))) → ws ≡ [] → places.entries ≡ [] → ArePlaces places (map (λ (w : Bor (List ℕ)). w.now) ws)
none_placed places [] is none = λ word. ap (lookup (λ (key : Bor (List ℕ)). Rattle.std.specs.Ordering.is_eq (slice_cmp nat_cmp word key.now))) none
none_placed places (w ∷ ws) is none = cc

absent_none : (o : Option ℕ) → is_some o ≡ false → o ≡ None
absent_none None e = refl
absent_none (Some n) e = cc

turned : (a b : List ℕ) → bytes_eq a b ≡ bytes_eq b a
turned a b = same_from_decides (bytes_eq a b) (bytes_eq b a) (bytes_decides a b) ((λ e. sym ((bytes_decides b a).0 e)), (λ e. (bytes_decides b a).1 (sym e)))

-- one word more
pub placed_more : (old new : Places) (ws : List (List ℕ)) (word : Bor (List ℕ)) → ArePlaces old ws → is_among word.now ws ≡ false
    → Updates (λ (x y : Bor (List ℕ)). slice_cmp nat_cmp x.now y.now) old new word (Some (length ws)) → ArePlaces new (ws ++ word.now ∷ [])
placed_more old new ws word are absent updates = λ v.
    btree_map_updates_str word.now old new (Some (length ws)) updates v
    ∙ (λ i. cond (turned word.now v i) (Some (length ws)) (are v i)) ∙ by v (bytes_eq v word.now) refl ∙ sym (position-push (bytes_eq v) ws word.now)
  where
    none : position (bytes_eq word.now) ws ≡ None
    none = absent_none (position (bytes_eq word.now) ws) (sym (any_position (bytes_eq word.now) ws) ∙ absent)

    by : (v : List ℕ) (b : Bool) → bytes_eq v word.now ≡ b → cond b (Some (length ws)) (position (bytes_eq v) ws) ≡ or_last (position (bytes_eq v) ws) b (length ws)
    by v true e = ap (λ o. or_last o true (length ws)) (sym (ap (λ u. position (bytes_eq u) ws) ((bytes_decides v word.now).0 e) ∙ none))
    by v false e = left (position (bytes_eq v) ws)
      where
        left : (o : Option ℕ) → o ≡ or_last o false (length ws)
        left None = refl
        left (Some k) = refl
