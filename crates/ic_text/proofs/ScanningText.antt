-- A text is scanned from its end, byte by byte.
use Rattle.std.proofs.Common.{◌≡◌, ℕ, suc, ◌+◌, ◌-◌, ◌<◌, ◌≤◌, ◌^◌, Bool, true, false, cond, List, [], ◌∷◌, ◌++◌, Option, None, Some, length, take, drop, get_or, refl, sym, ap, ◌∙◌, subst, append_assoc, append-nil, arith, length-append}
use Rattle.std.specs.List.{AllByRecursion}
use Rattle.std.proofs.Math.Seq.{drop-length}
use Rattle.std.proofs.lemmas.List.{drop_more, length-take, take-append-drop}
use Rattle.ic_text.specs.declared.token.Mark.{Mark}
use Rattle.ic_text.specs.Token.{Token, mark, is_blank, is_word_byte, mark_of, word_of, before, followed, tokens_at, tokens_after, tokens}
use Rattle.ic_text.specs.inner.Prefix.{Scanned, first_run, scan, scan_at, scan_run}
use Rattle.ic_text.specs.lemmas.ReadOnce.{some-injective}
use Rattle.ic_text.specs.lemmas.WordRuns.{tokens-parted}
use Rattle.ic_text.proofs.Scanning.{counts_room, scan_fits}

-- Of a text the tokens from `end` on are scanned, and from `place` to `end` stand bytes of one word, the last ones of a
-- longest run.
pub record IsScanned (text : List ℕ) (place end : ℕ) (s : Scanned) : Type 0 where
  pub ts : List Token
  pub is : s ≡ scan ts
  pub few : length ts + end ≤ length text
  pub ordered : place ≤ end
  pub run : (front : List ℕ) → tokens_after front (drop place text) ≡ Some (word_of (front ++ take (end - place) (drop place text)) ++ ts)
  pub longest : first_run (drop place text) ≡ take (end - place) (drop place text)

empty_run : (text : List ℕ) (place : ℕ) → take (place - place) (drop place text) ≡ []
empty_run text place = let none : place - place ≡ 0 = omega arith in ap (λ n. take n (drop place text)) none

no_more_run : (text front : List ℕ) (place : ℕ) → word_of front ≡ word_of (front ++ take (place - place) (drop place text))
no_more_run text front place = ap word_of (sym (append-nil front) ∙ ap (λ l. front ++ l) (sym (empty_run text place)))

-- nothing is scanned at the end
pub nothing_scanned : (text : List ℕ) (s : Scanned) → s ≡ scan [] → IsScanned text (length text) (length text) s
nothing_scanned text s is = record {
  ts = [];
  is = is;
  few = omega arith;
  ordered = omega arith;
  run = λ front.
      ap (tokens_after front) (drop-length text) ∙ ap Some (sym (append-nil (word_of front)) ∙ ap (λ l. l ++ []) (no_more_run text front (length text)));
  longest = ap first_run (drop-length text) ∙ sym (empty_run text (length text));
}

-- a run in front of tokens is scanned as its word
scan-run : (run : List ℕ) (ts : List Token) → scan_run run (scan ts) ≡ scan (word_of run ++ ts)
scan-run [] ts = refl
scan-run (b ∷ bs) ts = refl

length-word_of : (run : List ℕ) → length (word_of run) ≤ length run
length-word_of [] = omega arith
length-word_of (b ∷ bs) = omega arith

-- no count is above the number of bytes that follow
module _ (text : List ℕ) (place end : ℕ) (s : Scanned) (so_far : IsScanned text place end s) (run : List ℕ) (is_run : run ≡ take (end - place) (drop place text)) where
  length-run : length run ≤ end - place
  length-run = omega (arith, ap length is_run, length-take (end - place) (drop place text))

  pub terms_room : length text < 2 ^ 64 → s.terms + length run < 2 ^ 64
  terms_room fits = omega (arith, ap (λ (x : Scanned). x.terms) so_far.is, (scan_fits so_far.ts).1, so_far.few, length-run, so_far.ordered, fits)

  pub after_run : (r : Scanned) → r ≡ scan_run run s → r ≡ scan (word_of run ++ so_far.ts)
  after_run r is = is ∙ ap (scan_run run) so_far.is ∙ scan-run run so_far.ts

  length-after : length (word_of run ++ so_far.ts) + place ≤ length text
  length-after = omega (arith, length-append (word_of run) so_far.ts, length-word_of run, length-run, so_far.few, so_far.ordered)

  pub counts_room_after : (r : Scanned) → r ≡ scan_run run s → length text < 2 ^ 64 → 0 < place → AllByRecursion (λ c. c + 1 < 2 ^ 64) r.counts
  counts_room_after r is fits some =
      let ts = word_of run ++ so_far.ts in
      rw (after_run r is) (counts_room (length ts) (scan ts).counts (scan_fits ts).0 (omega (arith, length-after, fits, some)))

-- the byte before a place
pub one_back : (text : List ℕ) (place end : ℕ) (s : Scanned) → 0 < place → IsScanned text place end s → IsScanned text (place - 1 + 1) end s
one_back text place end s some so_far =
    let same : place ≡ place - 1 + 1 = omega (arith, some) in
    subst (λ n. IsScanned text n end s) same so_far

-- the byte before the run
module _ (text : List ℕ) (place end : ℕ) (s : Scanned) (inside : place < length text) (so_far : IsScanned text (place + 1) end s) where
  abbrev here : ℕ
  here = get_or text place 0

  abbrev after : List ℕ
  after = drop (place + 1) text

  rest_here : drop place text ≡ here ∷ after
  rest_here = drop_more text place 0 inside

  -- it is one of the run
  pub byte_of_run : is_word_byte here ≡ true → IsScanned text place end s
  byte_of_run is_word = record {
    ts = so_far.ts;
    is = so_far.is;
    few = so_far.few;
    ordered = omega (arith, so_far.ordered);
    run = λ front.
        let run = take (end - (place + 1)) after in
        let more : end - place ≡ suc (end - (place + 1)) = omega (arith, so_far.ordered) in
        let longer : take (end - place) (drop place text) ≡ here ∷ run = ap (take (end - place)) rest_here ∙ ap (λ n. take n (here ∷ after)) more in
        let step : tokens_after front (here ∷ after) ≡ tokens_after (front ++ here ∷ []) after = rw is_word refl in
        ap (tokens_after front) rest_here ∙ step ∙ so_far.run (front ++ here ∷ [])
        ∙ ap (λ l. Some (word_of l ++ so_far.ts)) (append_assoc front (here ∷ []) run ∙ ap (λ l. front ++ l) (sym longer));
    longest =
        let run = take (end - (place + 1)) after in
        let more : end - place ≡ suc (end - (place + 1)) = omega (arith, so_far.ordered) in
        let longer : take (end - place) (drop place text) ≡ here ∷ run = ap (take (end - place)) rest_here ∙ ap (λ n. take n (here ∷ after)) more in
        let step : first_run (here ∷ after) ≡ here ∷ first_run after = rw is_word refl in
        ap first_run rest_here ∙ step ∙ ap (λ l. here ∷ l) so_far.longest ∙ sym longer;
  }

  -- it ends the run, and has these tokens
  module _ (apart : is_word_byte here ≡ false) (us : List Token) (at : tokens_at here (mark_of here) ≡ Some us) (one : length us ≤ 1) where
    abbrev word_run : List Token
    word_run = word_of (take (end - (place + 1)) after)

    step : (front : List ℕ) → tokens_after front (here ∷ after) ≡ before (word_of front) (followed (tokens_at here (mark_of here)) (tokens_after [] after))
    step front = rw apart refl

    pub run_ended : (r : Scanned) → r ≡ scan (us ++ (word_run ++ so_far.ts)) → IsScanned text place place r
    run_ended r is = record {
      ts = us ++ (word_run ++ so_far.ts);
      is = is;
      few = omega (arith, length-append us (word_run ++ so_far.ts), one, length-after text (place + 1) end s so_far (take (end - (place + 1)) after) refl);
      ordered = omega arith;
      run = λ front.
          ap (tokens_after front) rest_here ∙ step front
          ∙ (λ i. before (word_of front) (followed (at i) (so_far.run [] i)))
          ∙ ap (λ l. Some (l ++ (us ++ (word_run ++ so_far.ts)))) (no_more_run text front place);
      longest =
          let none : first_run (here ∷ after) ≡ [] = rw apart refl in
          ap first_run rest_here ∙ none ∙ sym (empty_run text place);
    }

-- where a text has tokens, so has each byte of it that is of no word
followed_some : (a b c : Option (List Token)) (all : List Token) → followed a (followed b c) ≡ Some all → (us : List Token) × (b ≡ Some us)
followed_some None b c all e = cc
followed_some (Some ts) None c all e = cc
followed_some (Some ts) (Some us) c all e = (us, refl)

tokens_here : (text : List ℕ) (place : ℕ) (all : List Token) → place < length text → is_word_byte (get_or text place 0) ≡ false → tokens text ≡ Some all
    → (us : List Token) × (tokens_at (get_or text place 0) (mark_of (get_or text place 0)) ≡ Some us)
tokens_here text place all inside apart is =
    let b = get_or text place 0 in
    let parts : text ≡ take place text ++ b ∷ drop (place + 1) text = sym (take-append-drop place text) ∙ ap (λ l. take place text ++ l) (drop_more text place 0 inside) in
    followed_some (tokens (take place text)) (tokens_at b (mark_of b)) (tokens (drop (place + 1) text)) all
    (sym (tokens-parted (take place text) (drop (place + 1) text) b apart) ∙ ap tokens (sym parts) ∙ is)

-- the tokens of a byte in front of others, at most one
module _ (b : ℕ) (us rest : List Token) where
  blank_at : (t : Bool) → ◌≡◌ {A = Option (List Token)} (cond t (Some []) None) (Some us) → (scan rest ≡ scan (us ++ rest)) × (length us ≤ 1)
  blank_at true e =
      let none : [] ≡ us = some-injective _ _ e in
      (ap (λ vs. scan (vs ++ rest)) none, omega (arith, ap length none))
  blank_at false e = cc

  at_byte : (o : Option Mark) → tokens_at b o ≡ Some us → (scan_at o (scan rest) ≡ scan (us ++ rest)) × (length us ≤ 1)
  at_byte (Some m) e =
      let one : mark m ∷ [] ≡ us = some-injective _ _ e in
      (ap (λ vs. scan (vs ++ rest)) one, omega (arith, ap length one))
  at_byte None e = blank_at (is_blank b) e

-- so the run and the byte before it are scanned
pub byte_ended : (text : List ℕ) (place end : ℕ) (s : Scanned) → place < length text → (so_far : IsScanned text (place + 1) end s) → is_word_byte (get_or text place 0) ≡ false
    → (ts : List Token) → tokens text ≡ Some ts → (r q : Scanned) → r ≡ scan_run (take (end - (place + 1)) (drop (place + 1) text)) s → q ≡ scan_at (mark_of (get_or text place 0)) r
    → IsScanned text place place q
byte_ended text place end s inside so_far apart ts spelled r q run at =
    let byte = get_or text place 0 in
    let us = tokens_here text place ts inside apart spelled in
    let word = take (end - (place + 1)) (drop (place + 1) text) in
    let byte_is = at_byte byte us.0 (word_of word ++ so_far.ts) (mark_of byte) us.1 in
    run_ended text place end s inside so_far apart us.0 us.1 byte_is.1 q
    (at ∙ ap (scan_at (mark_of byte)) (after_run text (place + 1) end s so_far word refl r run) ∙ byte_is.0)

-- so all is scanned where the run goes to the beginning
pub whole_run : (text : List ℕ) (place end : ℕ) → place ≡ 0 → take end text ≡ take (end - place) (drop place text)
whole_run text place end none =
    let all : end ≡ end - 0 = omega arith in
    ap (λ n. take n text) all ∙ ap (λ p. take (end - p) (drop p text)) (sym none)

pub longest_whole : (text : List ℕ) (place end : ℕ) → place ≡ 0 → first_run (drop place text) ≡ take (end - place) (drop place text) → first_run text ≡ take end text
longest_whole text place end none longest = ap (λ n. first_run (drop n text)) (sym none) ∙ longest ∙ sym (whole_run text place end none)

pub all_scanned : (text : List ℕ) (place end : ℕ) (s r : Scanned) (so_far : IsScanned text place end s) → place ≡ 0 → r ≡ scan_run (take end text) s
    → (ts : List Token) → tokens text ≡ Some ts → r ≡ scan ts
all_scanned text place end s r so_far none is ts spelled =
    let run = whole_run text place end none in
    let whole : tokens text ≡ tokens_after [] (drop place text) = ap (λ n. tokens_after [] (drop n text)) (sym none) in
    let same = some-injective _ _ (sym (so_far.run []) ∙ sym whole ∙ spelled) in
    after_run text place end s so_far (take end text) run r is ∙ ap (λ l. scan (word_of l ++ so_far.ts)) run ∙ ap scan same
