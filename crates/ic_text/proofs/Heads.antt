-- Words by where they begin in a text, and how they are numbered after others.
use Rattle.std.proofs.Common.{◌≡◌, ℕ, ◌+◌, ◌-◌, ◌<◌, ◌≤◌, Bool, true, false, ◌&&◌, List, [], ◌∷◌, ◌++◌, Result, Ok, Err, length, take, drop, get_or, refl, sym, ap, ◌∙◌, append_assoc, append-nil, arith, length-drop}
use Rattle.std.specs.Prelude.{nat_le}
use Rattle.std.proofs.lemmas.Bool.{leb-true}
use Rattle.std.proofs.lemmas.List.{drop_all, drop_more, take_all, take_more}
use Rattle.ic_term.specs.Symbol.{Symbol}
use Rattle.ic_term.specs.declared.symbols.SymbolFault.{SymbolFault}
use Rattle.ic_term.specs.declared.symbols.SymbolFault.TheVariants.{Limit as OverLimit, Arity as OtherArity, Memory as NoMemory}
use Rattle.ic_flat.specs.declared.word.Word.{Word}
use Rattle.ic_text.specs.declared.fault.TextFault.{TextFault}
use Rattle.ic_text.specs.declared.limits.Limits.{Limits}
use Rattle.ic_text.specs.Limits.{most_symbols}
use Rattle.ic_text.specs.Token.{is_word_byte}
use Rattle.ic_text.specs.inner.Numbered.{is_word_in_limits, is_word_over, numbered_words, table_over, table_with, unless_refused, word_found, word_from}
use Rattle.ic_text.specs.inner.Prefix.{first_run}
use Rattle.ic_text.proofs.Numbering.{go, go_on, go-numbered_words}
use Rattle.std.specs.List.{list_all}
use Rattle.std.proofs.Common.{map}

-- the bytes of a run up to a place, and what follows of it
module _ (text : List ℕ) (place : ℕ) where
  abbrev here : ℕ
  here = get_or text place 0

  abbrev after : List ℕ
  after = drop (place + 1) text

  pub run_on : place < length text → is_word_byte here ≡ true
      → take (place + 1) text ++ first_run (drop (place + 1) text) ≡ take place text ++ first_run (drop place text)
  run_on inside is =
      let step : first_run (here ∷ after) ≡ here ∷ first_run after = rw is refl in
      ap (λ l. l ++ first_run after) (take_more text place 0 inside)
      ∙ append_assoc (take place text) (here ∷ []) (first_run after)
      ∙ ap (λ l. take place text ++ l) (sym step ∙ ap first_run (sym (drop_more text place 0 inside)))

  -- all of it stands before a place where none goes on
  no_more : first_run (drop place text) ≡ [] → take place text ++ first_run (drop place text) ≡ first_run text → take place text ≡ first_run text
  no_more none so_far = sym (append-nil (take place text)) ∙ ap (λ l. take place text ++ l) (sym none) ∙ so_far

  pub run_ended : place < length text → is_word_byte here ≡ false → take place text ++ first_run (drop place text) ≡ first_run text → take place text ≡ first_run text
  run_ended inside apart so_far =
      let none : first_run (here ∷ after) ≡ [] = rw apart refl in
      no_more (ap first_run (drop_more text place 0 inside) ∙ none) so_far

  pub run_all : length text ≤ place → take place text ++ first_run (drop place text) ≡ first_run text → text ≡ first_run text
  run_all end so_far = sym (take_all place text end) ∙ no_more (ap first_run (drop_all place text end)) so_far

  -- the text from a place on
  pub run_from : first_run (take (length text - place) (drop place text)) ≡ first_run (drop place text)
  run_from = ap first_run (take_all (length text - place) (drop place text) (omega (arith, length-drop place text)))

  pub run_beyond : length text < place → [] ≡ first_run (drop place text)
  run_beyond beyond = sym (ap first_run (drop_all place text (omega (arith, beyond))))

-- what was numbered, if it was
abbrev got : Result (List Symbol × List Word) TextFault → List Symbol × List Word
got (Ok v) = v
got (Err e) = ([], [])

-- where words are numbered, so are others after them, as if all were numbered at once
go_apart : (limits : Limits) (ws hs table : List Symbol) (clash : Bool) (items : List Word) (v : List Symbol × List Word)
    → Ok v ≡ go limits table clash items ws → go limits v.0 false v.1 hs ≡ go limits table clash items (ws ++ hs)
go_apart limits [] hs table true items v e = cc
go_apart limits [] hs table false items v e = ap (λ (u : Result (List Symbol × List Word) TextFault). go limits (got u).0 false (got u).1 hs) e
go_apart limits (w ∷ ws) hs table clash items v e = by_found (word_found limits table w) (go_apart limits ws hs) e
  where
    by_found : (r : Result Word SymbolFault)
        → ((t : List Symbol) (c : Bool) (is : List Word) (u : List Symbol × List Word) → Ok u ≡ go limits t c is ws → go limits u.0 false u.1 hs ≡ go limits t c is (ws ++ hs))
        → Ok v ≡ go_on r (λ item. go limits (table_with table w) clash (items ++ item ∷ []) ws) (go limits table true items ws)
        → go limits v.0 false v.1 hs ≡ go_on r (λ item. go limits (table_with table w) clash (items ++ item ∷ []) (ws ++ hs)) (go limits table true items (ws ++ hs))
    by_found (Ok item) next e = next (table_with table w) clash (items ++ item ∷ []) v e
    by_found (Err OverLimit) next e = cc
    by_found (Err (OtherArity n)) next e = next table true items v e
    by_found (Err NoMemory) next e = cc

pub go_after : (limits : Limits) (ws hs : List Symbol) (v : List Symbol × List Word)
    → Ok v ≡ numbered_words limits ws → go limits v.0 false v.1 hs ≡ numbered_words limits (ws ++ hs)
go_after limits ws hs v e = go_apart limits ws hs [] false [] v (e ∙ sym (go-numbered_words limits ws)) ∙ go-numbered_words limits (ws ++ hs)

-- the symbols of words that are numbered aren't too many
few_of : (a b o : Bool) (most : ℕ) (table : List Symbol) (items : List Word) (v : List Symbol × List Word)
    → nat_le (length table) most ≡ b → Ok v ≡ unless_refused {A = List Symbol × List Word} (a && b) o (table, items) → length v.0 ≤ most
few_of true true true most table items v few e =
    let same : length v.0 ≡ length table = ap (λ (u : Result (List Symbol × List Word) TextFault). length (got u).0) e in
    omega (arith, same, leb-true (length table) most few)
few_of true true false most table items v few e = cc
few_of true false o most table items v few e = cc
few_of false b o most table items v few e = cc

pub few_numbered : (limits : Limits) (ws : List Symbol) (v : List Symbol × List Word) → Ok v ≡ numbered_words limits ws → length v.0 ≤ most_symbols limits
few_numbered limits ws v e =
    few_of (list_all is_word_in_limits ws) (nat_le (length (table_over [] ws)) (most_symbols limits)) (list_all (is_word_over (table_over [] ws)) ws) (most_symbols limits)
    (table_over [] ws) (map (word_from (table_over [] ws)) ws) v refl e
