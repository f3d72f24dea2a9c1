-- The tokens of a text have its bytes in order, but for the blanks.
use Rattle.std.proofs.Common.{◌≡◌, ℕ, Bool, true, false, not, cond, eqb, List, [], ◌∷◌, ◌++◌, Option, None, Some, refl, sym, ap, ◌∙◌, append_assoc, append-nil, arith}
use Rattle.std.specs.List.{filter}
use Rattle.std.proofs.lemmas.Bool.{eqb-true}
use Rattle.std.proofs.lemmas.Bool.Decides.{nat_tests}
use Rattle.std.proofs.lemmas.List.Concat.{flat_map-append}
use Rattle.ic_text.specs.declared.token.Mark.{Mark}
use Rattle.ic_text.specs.declared.token.Mark.TheVariants.{LeftBrace, RightBrace, Less, Greater, Bar, Equals, Comma, Semicolon, Open, Close}
use Rattle.ic_text.specs.Token.{Token, mark, is_blank, is_word_byte, mark_byte, mark_of, word_of, before, followed, tokens_at, tokens_after, tokens, token_text}
use Rattle.ic_text.specs.Text.{text_of}

abbrev kept : List ℕ → List ℕ
kept bytes = filter (λ b. not (is_blank b)) bytes

text_of-word_of : (run : List ℕ) → text_of (word_of run) ≡ run
text_of-word_of [] = refl
text_of-word_of (b ∷ bs) = append-nil (b ∷ bs)

word_isnt_blank : (b : ℕ) → is_word_byte b ≡ true → is_blank b ≡ false
word_isnt_blank b is = grind (arith, nat_tests)

mark_isnt_blank : (m : Mark) → is_blank (mark_byte m) ≡ false
mark_isnt_blank LeftBrace = refl
mark_isnt_blank _ = refl

-- a byte is that of its mark
module _ (b : ℕ) (m : Mark) where
  pick : (n : ℕ) (x : Mark) (o : Option Mark) → mark_byte x ≡ n → (o ≡ Some m → b ≡ mark_byte m) → cond (eqb b n) (Some x) o ≡ Some m → b ≡ mark_byte m
  pick n x o is rest = by_test (eqb b n) refl
    where
      by_test : (t : Bool) → eqb b n ≡ t → cond t (Some x) o ≡ Some m → b ≡ mark_byte m
      by_test true same e = let named : x ≡ m = cc in eqb-true b n same ∙ sym is ∙ ap mark_byte named
      by_test false other e = rest e

  pub byte_of_mark : mark_of b ≡ Some m → b ≡ mark_byte m
  byte_of_mark =
      pick 123 LeftBrace _ refl (pick 125 RightBrace _ refl (pick 60 Less _ refl (pick 62 Greater _ refl (pick 124 Bar _ refl
      (pick 61 Equals _ refl (pick 44 Comma _ refl (pick 59 Semicolon _ refl (pick 40 Open _ refl (pick 41 Close None refl (λ e. cc))))))))))

kept-more : (b : ℕ) (bs : List ℕ) → is_blank b ≡ false → kept (b ∷ bs) ≡ b ∷ kept bs
kept-more b bs isnt = rw isnt refl

some-before : (front us ts : List Token) → before front (Some us) ≡ Some ts → ts ≡ front ++ us
some-before front us ts e = cc

kept-after : (bs run : List ℕ) (ts : List Token) → tokens_after run bs ≡ Some ts → text_of ts ≡ run ++ kept bs
kept-after [] run ts e = let same : ts ≡ word_of run = cc in ap text_of same ∙ text_of-word_of run ∙ sym (append-nil run)
kept-after (b ∷ bs) run ts all = by_word (is_word_byte b) refl (kept-after bs) all
  where
    -- a byte that ends the run
    ended : (o : Option Mark) (rest : Option (List Token)) → mark_of b ≡ o → ((us : List Token) → rest ≡ Some us → text_of us ≡ kept bs)
        → before (word_of run) (followed (tokens_at b o) rest) ≡ Some ts → text_of ts ≡ run ++ kept (b ∷ bs)
    ended (Some m) None is next e = cc
    ended (Some m) (Some us) is next e =
        let byte : b ≡ mark_byte m = byte_of_mark b m is in
        let isnt : is_blank b ≡ false = ap is_blank byte ∙ mark_isnt_blank m in
        let here : mark_byte m ∷ kept bs ≡ kept (b ∷ bs) = ap (λ x. x ∷ kept bs) (sym byte) ∙ sym (kept-more b bs isnt) in
        ap text_of (some-before (word_of run) (mark m ∷ us) ts e) ∙ flat_map-append token_text (word_of run) (mark m ∷ us)
        ∙ (λ i. text_of-word_of run i ++ mark_byte m ∷ next us refl i) ∙ ap (λ l. run ++ l) here
    ended None rest is next e = by_blank (is_blank b) refl rest next e
      where
        by_blank : (t : Bool) → is_blank b ≡ t → (r : Option (List Token)) → ((us : List Token) → r ≡ Some us → text_of us ≡ kept bs)
            → before (word_of run) (followed (cond t (Some []) None) r) ≡ Some ts → text_of ts ≡ run ++ kept (b ∷ bs)
        by_blank true blank None next e = cc
        by_blank true blank (Some us) next e =
            ap text_of (some-before (word_of run) us ts e) ∙ flat_map-append token_text (word_of run) us
            ∙ (λ i. text_of-word_of run i ++ next us refl i) ∙ rw blank refl
        by_blank false blank r next e = cc

    by_word : (t : Bool) → is_word_byte b ≡ t → ((r : List ℕ) (us : List Token) → tokens_after r bs ≡ Some us → text_of us ≡ r ++ kept bs) → tokens_after run (b ∷ bs) ≡ Some ts → text_of ts ≡ run ++ kept (b ∷ bs)
    by_word true is next e =
        next (run ++ b ∷ []) ts (rw is at e) ∙ append_assoc run (b ∷ []) (kept bs) ∙ ap (λ l. run ++ l) (sym (kept-more b bs (word_isnt_blank b is)))
    by_word false isnt next e = ended (mark_of b) (tokens_after [] bs) refl (next []) (rw isnt at e)

pub text_of-tokens : (text : List ℕ) (ts : List Token) → tokens text ≡ Some ts → text_of ts ≡ filter (λ b. not (is_blank b)) text
text_of-tokens text ts e = kept-after text [] ts e
