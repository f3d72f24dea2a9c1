-- A word is a longest run of word bytes.
use Rattle.std.proofs.Common.{◌≡◌, ℕ, Bool, true, false, cond, List, [], ◌∷◌, ◌++◌, Option, None, Some, refl, sym, ap, ◌∙◌, append_assoc, append-nil}
use Rattle.std.specs.List.{list_all}
use Rattle.std.proofs.lemmas.Bool.{and_parts}
use Rattle.ic_text.specs.Token.{Token, word, mark, words_among, is_word_byte, mark_of, word_of, before, tokens_at, followed, tokens_after, tokens}

pub before-none : (o : Option (List Token)) → before [] o ≡ o
before-none None = refl
before-none (Some ts) = refl

pub before-before : (a b : List Token) (o : Option (List Token)) → before a (before b o) ≡ before (a ++ b) o
before-before a b None = refl
before-before a b (Some ts) = ap Some (sym (append_assoc a b ts))

-- tokens one after another, however they are taken together
pub followed-followed : (a b c : Option (List Token)) → followed (followed a b) c ≡ followed a (followed b c)
followed-followed None b c = refl
followed-followed (Some ts) None c = refl
followed-followed (Some ts) (Some us) None = refl
followed-followed (Some ts) (Some us) (Some vs) = ap Some (append_assoc ts us vs)

pub followed-assoc : (front : List Token) (here a b : Option (List Token)) → before front (followed here (followed a b)) ≡ followed (before front (followed here a)) b
followed-assoc front (Some ts) (Some us) (Some vs) = ap Some (ap (λ l. front ++ l) (sym (append_assoc ts us vs)) ∙ sym (append_assoc front (ts ++ us) vs))
followed-assoc front _ _ _ = refl

parted_after : (a b run : List ℕ) (c : ℕ) → is_word_byte c ≡ false
    → tokens_after run (a ++ c ∷ b) ≡ followed (tokens_after run a) (followed (tokens_at c (mark_of c)) (tokens b))
parted_after [] b run c apart = rw apart refl
parted_after (x ∷ xs) b run c apart = by_byte (is_word_byte x) (parted_after xs b (run ++ x ∷ []) c apart) (parted_after xs b [] c apart)
  where
    by_byte : (is : Bool)
        → tokens_after (run ++ x ∷ []) (xs ++ c ∷ b) ≡ followed (tokens_after (run ++ x ∷ []) xs) (followed (tokens_at c (mark_of c)) (tokens b))
        → tokens_after [] (xs ++ c ∷ b) ≡ followed (tokens_after [] xs) (followed (tokens_at c (mark_of c)) (tokens b))
        → cond is (tokens_after (run ++ x ∷ []) (xs ++ c ∷ b)) (before (word_of run) (followed (tokens_at x (mark_of x)) (tokens_after [] (xs ++ c ∷ b))))
        ≡ followed (cond is (tokens_after (run ++ x ∷ []) xs) (before (word_of run) (followed (tokens_at x (mark_of x)) (tokens_after [] xs)))) (followed (tokens_at c (mark_of c)) (tokens b))
    by_byte true on off = on
    by_byte false on off =
        ap (λ ts. before (word_of run) (followed (tokens_at x (mark_of x)) ts)) off
        ∙ followed-assoc (word_of run) (tokens_at x (mark_of x)) (tokens_after [] xs) (followed (tokens_at c (mark_of c)) (tokens b))

-- a byte that no word holds parts a text
pub tokens-parted : (a b : List ℕ) (c : ℕ) → is_word_byte c ≡ false → tokens (a ++ c ∷ b) ≡ followed (tokens a) (followed (tokens_at c (mark_of c)) (tokens b))
tokens-parted a b c apart = parted_after a b [] c apart

run_after : (bs run : List ℕ) → list_all is_word_byte bs ≡ true → tokens_after run bs ≡ Some (word_of (run ++ bs))
run_after [] run all = ap (λ l. Some (word_of l)) (sym (append-nil run))
run_after (b ∷ bs) run all =
    let parts = and_parts (is_word_byte b) (list_all is_word_byte bs) all in
    rw parts.0 (run_after bs (run ++ b ∷ []) parts.1 ∙ ap (λ l. Some (word_of l)) (append_assoc run (b ∷ []) bs))

-- a run of word bytes is one word
pub tokens-run : (b : ℕ) (bs : List ℕ) → list_all is_word_byte (b ∷ bs) ≡ true → tokens (b ∷ bs) ≡ Some (word (b ∷ bs) ∷ [])
tokens-run b bs all = run_after (b ∷ bs) [] all

pub tokens_of_run : (run : List ℕ) → list_all is_word_byte run ≡ true → tokens run ≡ Some (word_of run)
tokens_of_run [] all = refl
tokens_of_run (b ∷ bs) all = tokens-run b bs all

-- a byte that no word holds begins a text without a word
pub tokens-apart : (b : ℕ) (bs : List ℕ) → is_word_byte b ≡ false → tokens (b ∷ bs) ≡ followed (tokens_at b (mark_of b)) (tokens bs)
tokens-apart b bs apart = rw apart (before-none _)

pub words_among-append : (ts us : List Token) → words_among (ts ++ us) ≡ words_among ts ++ words_among us
words_among-append [] us = refl
words_among-append (word w ∷ ts) us = ap (λ l. w ∷ l) (words_among-append ts us)
words_among-append (mark m ∷ ts) us = words_among-append ts us
