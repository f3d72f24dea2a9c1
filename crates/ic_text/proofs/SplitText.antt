-- A text is split at its first `}` as its tokens are.
use Rattle.std.proofs.Common.{◌≡◌, ℕ, Bool, true, false, cond, eqb, List, [], ◌∷◌, ◌++◌, Option, None, Some, append-nil, refl, sym, ap, ◌∙◌, subst}
use Rattle.std.proofs.lemmas.Bool.{false≢true, eqb-true}
use Rattle.ic_text.specs.declared.token.Mark.{Mark}
use Rattle.ic_text.specs.declared.token.Mark.TheVariants.{RightBrace}
use Rattle.ic_text.specs.Token.{Token, mark, is_blank, is_word_byte, mark_of, word_of, before, followed, tokens_at, tokens_after, tokens}
use Rattle.ic_text.specs.inner.Braces.{split_at_brace}
use Rattle.ic_text.specs.lemmas.ReadOnce.{some-injective, none_is_some}
use Rattle.ic_text.proofs.GrammarSystem.{in_front, split_at_brace as split_tokens}
use Rattle.ic_text.proofs.KeptBytes.{byte_of_mark}

-- bytes in front of those before the first `}`
abbrev pub bytes_in_front : List ℕ → List ℕ × List ℕ → List ℕ × List ℕ
bytes_in_front front parts = (front ++ parts.0, parts.1)

-- the parts of a text after a run have these tokens
abbrev pub Splits : List ℕ → List ℕ × List ℕ → List Token × List Token → Type 0
Splits run texts parts = (tokens_after run texts.0 ≡ Some parts.0) × (tokens texts.1 ≡ Some parts.1)

split-word : (run : List ℕ) (ts : List Token) → split_tokens (word_of run ++ ts) ≡ in_front (word_of run) (split_tokens ts)
split-word [] ts = refl
split-word (b ∷ bs) ts = refl

word_isnt_brace : (b : ℕ) → is_word_byte b ≡ true → eqb b 125 ≡ false
word_isnt_brace b is = by_test (eqb b 125) refl
  where
    by_test : (t : Bool) → eqb b 125 ≡ t → t ≡ false
    by_test false e = refl
    by_test true e = absurd (false≢true (sym (ap is_word_byte (eqb-true b 125 e)) ∙ is))

-- the tokens of a byte that is no `}` stay in front
module _ (b : ℕ) (other : eqb b 125 ≡ false) where
  split-mark : (m : Mark) → mark_of b ≡ Some m → (ts : List Token) → split_tokens (mark m ∷ ts) ≡ in_front (mark m ∷ []) (split_tokens ts)
  split-mark RightBrace is ts = absurd (false≢true (sym other ∙ ap (λ n. eqb n 125) (byte_of_mark b RightBrace is)))
  split-mark _ is ts = refl

  split-here : (o : Option Mark) → mark_of b ≡ o → (us ts : List Token) → tokens_at b o ≡ Some us → split_tokens (us ++ ts) ≡ in_front us (split_tokens ts)
  split-here (Some m) is us ts at = subst (λ l. split_tokens (l ++ ts) ≡ in_front l (split_tokens ts)) (some-injective (mark m ∷ []) us at) (split-mark m is ts)
  split-here None is us ts at = by_blank (is_blank b) at
    where
      by_blank : (t : Bool) → ◌≡◌ {A = Option (List Token)} (cond t (Some []) None) (Some us) → split_tokens (us ++ ts) ≡ in_front us (split_tokens ts)
      by_blank true e = subst (λ l. split_tokens (l ++ ts) ≡ in_front l (split_tokens ts)) (some-injective [] us e) refl
      by_blank false e = absurd (none_is_some us e)

split_end : (run : List ℕ) → Splits run ([], []) (split_tokens (word_of run))
split_end [] = (refl, refl)
split_end (b ∷ bs) = (refl, refl)

-- tokens in front of others, where they are some
record Opened (ws : List Token) (o p : Option (List Token)) (ts : List Token) : Type 0 where
  pub here : List Token
  pub later : List Token
  pub is_here : o ≡ Some here
  pub is_later : p ≡ Some later
  pub all : ts ≡ ws ++ (here ++ later)

opened : (ws : List Token) (o p : Option (List Token)) (ts : List Token) → before ws (followed o p) ≡ Some ts → Opened ws o p ts
opened ws None p ts e = absurd (none_is_some ts e)
opened ws (Some us) None ts e = absurd (none_is_some ts e)
opened ws (Some us) (Some vs) ts e = record { here = us; later = vs; is_here = refl; is_later = refl; all = sym (some-injective (ws ++ (us ++ vs)) ts e) }

-- at a `}`
at_brace : (b : ℕ) (bs run : List ℕ) (ts : List Token) → b ≡ 125 → (us vs : List Token) → tokens_at b (mark_of b) ≡ Some us → tokens bs ≡ Some vs → ts ≡ word_of run ++ (us ++ vs) → Splits run ([], bs) (split_tokens ts)
at_brace b bs run ts is us vs at rest all =
    let brace : mark RightBrace ∷ [] ≡ us = some-injective _ us (ap (λ n. tokens_at n (mark_of n)) (sym is) ∙ at) in
    let parts : ◌≡◌ {A = List Token × List Token} (split_tokens ts) (word_of run, vs) =
    ap split_tokens all ∙ ap (λ l. split_tokens (word_of run ++ (l ++ vs))) (sym brace) ∙ split-word run (mark RightBrace ∷ vs) ∙ ap (λ l. (l, vs)) (append-nil (word_of run)) in
    subst (Splits run ([], bs)) (sym parts) (refl, rest)

-- the parts of a text that begins with a byte, which is a `}` or not
abbrev with_byte : ℕ → List ℕ → Bool → List ℕ × List ℕ
with_byte b bs brace = cond brace ([], bs) (b ∷ (split_at_brace bs).0, (split_at_brace bs).1)

split-after : (bs run : List ℕ) (ts : List Token) → tokens_after run bs ≡ Some ts → Splits run (split_at_brace bs) (split_tokens ts)
split-after [] run ts e = subst (λ l. Splits run ([], []) (split_tokens l)) (some-injective (word_of run) ts e) (split_end run)
split-after (b ∷ bs) run ts e = by_byte (is_word_byte b) refl (split-after bs) e
  where
    by_brace : (t : Bool) → eqb b 125 ≡ t → is_word_byte b ≡ false → (us vs : List Token) → tokens_at b (mark_of b) ≡ Some us → tokens bs ≡ Some vs → ts ≡ word_of run ++ (us ++ vs)
        → Splits [] (split_at_brace bs) (split_tokens vs) → Splits run (with_byte b bs t) (split_tokens ts)
    by_brace true same apart us vs at rest all next = at_brace b bs run ts (eqb-true b 125 same) us vs at rest all
    by_brace false other apart us vs at rest all next =
        let parts = ap split_tokens all ∙ split-word run (us ++ vs) ∙ ap (in_front (word_of run)) (split-here b other (mark_of b) refl us vs at) in
        let front = (split_at_brace bs).0 in
        let step : tokens_after run (b ∷ front) ≡ before (word_of run) (followed (tokens_at b (mark_of b)) (tokens_after [] front)) = rw apart refl in
        subst (Splits run (b ∷ front, (split_at_brace bs).1)) (sym parts) (step ∙ (λ i. before (word_of run) (followed (at i) (next.0 i))), next.1)

    by_byte : (t : Bool) → is_word_byte b ≡ t → ((r : List ℕ) (vs : List Token) → tokens_after r bs ≡ Some vs → Splits r (split_at_brace bs) (split_tokens vs))
        → cond t (tokens_after (run ++ b ∷ []) bs) (before (word_of run) (followed (tokens_at b (mark_of b)) (tokens_after [] bs))) ≡ Some ts
        → Splits run (split_at_brace (b ∷ bs)) (split_tokens ts)
    by_byte true is next e =
        let rest = next (run ++ b ∷ []) ts e in
        let front = (split_at_brace bs).0 in
        let step : tokens_after run (b ∷ front) ≡ tokens_after (run ++ b ∷ []) front = rw is refl in
        subst (λ t. Splits run (with_byte b bs t) (split_tokens ts)) (sym (word_isnt_brace b is)) (step ∙ rest.0, rest.1)
    by_byte false is next e =
        let o = opened (word_of run) (tokens_at b (mark_of b)) (tokens_after [] bs) ts e in
        by_brace (eqb b 125) refl is o.here o.later o.is_here o.is_later o.all (next [] o.later o.is_later)

-- the bytes before the first `}` and those after it have the tokens before and after
pub split-text : (text : List ℕ) (ts : List Token) → tokens text ≡ Some ts → Splits [] (split_at_brace text) (split_tokens ts)
split-text text ts e = split-after text [] ts e
