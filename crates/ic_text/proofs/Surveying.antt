-- The first pass over a text counts the words and tokens of what it spells.
use Rattle.std.proofs.Common.{◌≡◌, ℕ, ◌+◌, ◌-◌, ◌<◌, ◌≤◌, Bool, true, false, cond, List, [], ◌∷◌, ◌++◌, Option, None, Some, length, get_or, take, drop, refl, sym, ap, ◌∙◌, arith}
use Rattle.std.specs.Prelude.{option_and_then}
use Rattle.std.specs.Option.{option_map}
use Rattle.ic_text.specs.declared.syntax.Part.{Part}
use Rattle.ic_text.specs.declared.syntax.State.{State}
use Rattle.ic_text.specs.declared.survey.Counts.{Counts}
use Rattle.ic_text.specs.declared.survey.Progress.{Progress}
use Rattle.std.proofs.lemmas.Bool.{false≢true}
use Rattle.ic_text.specs.Token.{Token, word, mark, is_word_byte, mark_of, word_of, before, tokens_at, followed, tokens_after, words_among, tokens}
use Rattle.ic_text.specs.inner.Syntax.{step, is_end, at_beginning, accepts}
use Rattle.ic_text.specs.inner.Survey.{take_one, taken, taken_after, taken_at, counted, surveyed, Tells}
use Rattle.ic_text.proofs.TokenLemmas.{ended_run}
use Rattle.ic_text.specs.lemmas.ReadOnce.{IsTold, some-injective, none_is_some}

pub taken-none : (ts : List Token) → taken None ts ≡ None
taken-none [] = refl
taken-none (t ∷ ts) = taken-none ts

taken-append : (o : Option Progress) (ts us : List Token) → taken o (ts ++ us) ≡ taken (taken o ts) us
taken-append o [] us = refl
taken-append o (t ∷ ts) us = taken-append (option_and_then (λ p. take_one p t) o) ts us

-- the check after tokens, and after those that follow
pub after-before : (o : Option Progress) (ts : List Token) (rest : Option (List Token))
    → taken_after o (before ts rest) ≡ taken_after (taken o ts) rest
after-before o ts None = refl
after-before o ts (Some us) = taken-append o ts us

pub after-followed : (o : Option Progress) (here rest : Option (List Token))
    → taken_after o (followed here rest) ≡ taken_after (taken_after o here) rest
after-followed o None None = refl
after-followed o None (Some us) = sym (taken-none us)
after-followed o (Some ts) rest = after-before o ts rest

-- a check that was refused stays so
pub after-none : (rest : Option (List Token)) → taken_after None rest ≡ None
after-none None = refl
after-none (Some ts) = taken-none ts

-- the counts of tokens that the grammar takes, after what was counted
abbrev counts_after : Progress → List Token → Counts
counts_after p ts = record { words = p.counts.words + length (words_among ts) }

counts-none : (p : Progress) → p.counts ≡ counts_after p []
counts-none p =
    let words : p.counts.words ≡ p.counts.words + 0 = omega arith in
    λ i. record { words = words i }

counts-one : (p : Progress) (s : State) (t : Token) (ts : List Token)
    → counts_after (record { state = s; counts = record { words = p.counts.words + length (words_among (t ∷ [])) } }) ts
    ≡ counts_after p (t ∷ ts)
counts-one p s (word w) ts =
    let words : p.counts.words + 1 + length (words_among ts) ≡ p.counts.words + length (w ∷ words_among ts) = omega arith in
    λ i. record { words = words i }
counts-one p s (mark m) ts =
    let words : p.counts.words + 0 + length (words_among ts) ≡ p.counts.words + length (words_among ts) = omega arith in
    λ i. record { words = words i }

-- what is counted is what the grammar takes
counted-taken : (ts : List Token) (p : Progress) → counted (taken (Some p) ts) ≡ cond (accepts (Some p.state) ts) (Some (counts_after p ts)) None
counted-taken [] p = ap (λ c. cond (is_end p.state.part) (Some c) None) (counts-none p)
counted-taken (t ∷ ts) p = by_step (step p.state t) (counted-taken ts)
  where
    by_step : (o : Option State)
        → ((q : Progress) → counted (taken (Some q) ts) ≡ cond (accepts (Some q.state) ts) (Some (counts_after q ts)) None)
        → counted (taken (option_map (λ s. record { state = s; counts = record { words = p.counts.words + length (words_among (t ∷ [])) } }) o) ts)
        ≡ cond (accepts o ts) (Some (counts_after p (t ∷ ts))) None
    by_step None next = ap counted (taken-none ts)
    by_step (Some s) next =
        next (record { state = s; counts = record { words = p.counts.words + length (words_among (t ∷ [])) } })
        ∙ ap (λ c. cond (accepts (Some s) ts) (Some c) None) (counts-one p s t ts)

pub surveyed-tokens : (part : Part) (ts : List Token)
    → surveyed part (Some ts) ≡ cond (accepts (Some (at_beginning part)) ts) (Some (record { words = 0 + length (words_among ts) })) None
surveyed-tokens part ts = counted-taken ts (record { state = at_beginning part; counts = record { words = 0 } })

-- one byte of the pass
module _ (text : List ℕ) (start place b : ℕ) (inside : place < length text) (begins : start ≤ place) (here : b ≡ get_or text place 0)
    (p : Progress) (all : Option Counts)
    (so_far : counted (taken_after (Some p) (tokens_after (take (place - start) (drop start text)) (drop place text))) ≡ all) where
  -- the check after the run, and the tokens that are left after the byte
  abbrev after_run : Option Progress
  after_run = taken (Some p) (word_of (take (place - start) (drop start text)))

  abbrev left : Option (List Token)
  left = tokens_after (take (place + 1 - (place + 1)) (drop (place + 1) text)) (drop (place + 1) text)

  ended : is_word_byte b ≡ false → counted (taken_after (taken_after after_run (tokens_at b (mark_of b))) left) ≡ all
  ended apart =
      ap counted (sym (
      ap (taken_after (Some p)) (ended_run text start place b inside begins here apart)
      ∙ after-before (Some p) (word_of (take (place - start) (drop start text))) (followed (tokens_at b (mark_of b)) left)
      ∙ after-followed after_run (tokens_at b (mark_of b)) left)) ∙ so_far

  -- a word that the grammar doesn't have here
  pub refused_run : is_word_byte b ≡ false → None ≡ after_run → None ≡ all
  refused_run apart none =
      ap counted (sym (after-none left)) ∙ ap (λ o. counted (taken_after o left)) (sym (after-none (tokens_at b (mark_of b))))
      ∙ ap (λ o. counted (taken_after (taken_after o (tokens_at b (mark_of b))) left)) none ∙ ended apart

  -- a byte that the grammar doesn't have here, or that no text has
  pub refused_byte : (q : Progress) → is_word_byte b ≡ false → Some q ≡ after_run → None ≡ taken_at q b → None ≡ all
  refused_byte q apart run none =
      ap counted (sym (after-none left)) ∙ ap (λ o. counted (taken_after o left)) none
      ∙ ap (λ o. counted (taken_after (taken_after o (tokens_at b (mark_of b))) left)) run ∙ ended apart

  -- the check goes on after the byte
  pub goes_on : (q r : Progress) → is_word_byte b ≡ false → Some q ≡ after_run → Some r ≡ taken_at q b → counted (taken_after (Some r) left) ≡ all
  goes_on q r apart run byte =
      ap (λ o. counted (taken_after o left)) byte
      ∙ ap (λ o. counted (taken_after (taken_after o (tokens_at b (mark_of b))) left)) run ∙ ended apart

module _ {P : Type 0} (IsOne : P → Type 0) (words : P → List Token) (told : IsTold IsOne words) (part : Part)
    (tested : (ts : List Token) → told.test ts ≡ accepts (Some (at_beginning part)) ts) where
  by_tokens : (text : List ℕ) (o : Option (List Token)) → tokens text ≡ o → Tells IsOne words text (surveyed part o)
  by_tokens text None e = λ p spells. none_is_some (words p) (sym e ∙ spells.tokens)
  by_tokens text (Some ts) e = rw surveyed-tokens (by_test (accepts (Some (at_beginning part)) ts) refl)
    where
      by_test : (b : Bool) → accepts (Some (at_beginning part)) ts ≡ b
          → Tells IsOne words text (cond b (Some (record { words = 0 + length (words_among ts) })) None)
      by_test true is =
          let s = told.found ts (tested ts ∙ is) in
          (s.0, record { phrase = s.1; tokens = e ∙ ap Some s.2 }, omega (arith, ap (λ us. length (words_among us)) s.2))
      by_test false isnt = λ p spells.
          false≢true (sym isnt ∙ sym (tested ts) ∙ told.only ts (p, spells.phrase, some-injective _ _ (sym e ∙ spells.tokens)))

  pub surveyed_tells : (text : List ℕ) → Tells IsOne words text (surveyed part (tokens text))
  surveyed_tells text = by_tokens text (tokens text) refl
