-- One byte of the reader's loop over a text.
use Rattle.std.proofs.Common.{◌≡◌, ℕ, ◌+◌, ◌-◌, ◌<◌, ◌≤◌, true, false, List, [], ◌∷◌, ◌++◌, length, get_or, take, drop, refl, sym, ap, ◌∙◌, arith, length-drop, get_or-drop}
use Rattle.std.proofs.lemmas.List.{drop_more, take_more}
use Rattle.ic_text.specs.Token.{is_word_byte, mark_of, word_of, before, followed, tokens_at, tokens_after}

module _ (text : List ℕ) (start place b : ℕ) (inside : place < length text) (begins : start ≤ place) (here : b ≡ get_or text place 0) where
  rest_here : drop place text ≡ b ∷ drop (place + 1) text
  rest_here = drop_more text place 0 inside ∙ ap (λ x. x ∷ drop (place + 1) text) (sym here)

  pub run_here : take (place + 1 - start) (drop start text) ≡ take (place - start) (drop start text) ++ b ∷ []
  run_here =
      let more : place + 1 - start ≡ place - start + 1 = omega arith in
      let at : start + (place - start) ≡ place = omega arith in
      let is_b : get_or (drop start text) (place - start) 0 ≡ b = get_or-drop start text (place - start) 0 ∙ ap (λ i. get_or text i 0) at ∙ sym here in
      ap (λ n. take n (drop start text)) more ∙ take_more (drop start text) (place - start) 0 (omega (arith, length-drop start text)) ∙ ap (λ x. take (place - start) (drop start text) ++ x ∷ []) is_b

  empty_here : take (place + 1 - (place + 1)) (drop (place + 1) text) ≡ []
  empty_here = let none : place + 1 - (place + 1) ≡ 0 = omega arith in ap (λ n. take n (drop (place + 1) text)) none

  -- a word byte joins the run
  pub joined_run : is_word_byte b ≡ true
      → tokens_after (take (place + 1 - start) (drop start text)) (drop (place + 1) text)
      ≡ tokens_after (take (place - start) (drop start text)) (drop place text)
  joined_run is_word =
      let run = take (place - start) (drop start text) in
      let rest = drop (place + 1) text in
      let step : tokens_after run (b ∷ rest) ≡ tokens_after (run ++ b ∷ []) rest = rw is_word refl in
      ap (λ r. tokens_after r rest) run_here ∙ sym step ∙ ap (tokens_after run) (sym rest_here)

  -- any other byte ends the run
  pub ended_run : is_word_byte b ≡ false
      → tokens_after (take (place - start) (drop start text)) (drop place text)
      ≡ before (word_of (take (place - start) (drop start text)))
      (followed (tokens_at b (mark_of b)) (tokens_after (take (place + 1 - (place + 1)) (drop (place + 1) text)) (drop (place + 1) text)))
  ended_run isnt_word =
      let run = take (place - start) (drop start text) in
      let rest = drop (place + 1) text in
      let step : tokens_after run (b ∷ rest) ≡ before (word_of run) (followed (tokens_at b (mark_of b)) (tokens_after [] rest)) = rw isnt_word refl in
      ap (tokens_after run) rest_here ∙ step
      ∙ ap (λ r. before (word_of run) (followed (tokens_at b (mark_of b)) (tokens_after r rest))) (sym empty_here)
