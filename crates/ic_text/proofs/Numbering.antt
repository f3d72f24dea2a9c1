-- Numbering words one by one, in the order of the text, gives the table of all of them.
use Rattle.std.proofs.Common.{◌≡◌, ℕ, ◌+◌, ◌<◌, ◌≤◌, Bool, true, false, not, ◌&&◌, cond, eqb, List, [], ◌∷◌, ◌++◌, Option, None, Some, Result, Ok, Err, map, length, refl, sym, ap, ◌∙◌, arith, append_assoc, append-nil, length-append}
use Rattle.std.specs.Prelude.{nat_le, nat_lt}
use Rattle.std.specs.List.{list_all, slice_get}
use Rattle.std.proofs.lemmas.Bool.{le-leb, lt-ltb, ltb-true, ltb-false, and_right}
use Rattle.std.proofs.lemmas.Bool.Decides.{nat_tests}
use Rattle.ic_term.specs.Symbol.{Symbol, number_of_text, fits_limits, has_arity}
use Rattle.ic_term.specs.declared.symbols.SymbolFault.{SymbolFault}
use Rattle.ic_term.specs.declared.symbols.SymbolFault.TheVariants.{Limit as OverLimit, Arity as OtherArity, Memory as NoMemory}
use Rattle.ic_term.specs.declared.limits.TheConstants.{MAX_WIDE_SYMBOLS}
use Rattle.ic_text.specs.declared.limits.Limits.{Limits}
use Rattle.ic_text.specs.declared.limits.TheConstants.{MAX_NAME}
use Rattle.ic_flat.specs.declared.word.Word.{Word}
use Rattle.ic_flat.specs.declared.word.Word.TheVariants.{Name, Agent}
use Rattle.ic_text.specs.declared.fault.TextFault.{TextFault}
use Rattle.ic_text.specs.declared.fault.TextFault.TheVariants.{Limit, Arity, Memory}
use Rattle.ic_text.specs.Limits.{most_symbols}
use Rattle.ic_text.specs.Name.{is_name, name_number}
use Rattle.ic_text.specs.inner.Numbered.{word_found, table_with, table_over, is_word_in_limits, is_word_over, word_from, unless_refused, numbered_words}
use Rattle.ic_text.proofs.LimitLemmas.{symbols-low}
use Rattle.ic_text.specs.lemmas.TableLemmas.{slice_get-append, slice_get-next, number_of_text-append, number_of_text-next, number_of_text-lt}

abbrev pub Numbering : Type 0
Numbering = Result (List Symbol × List Word) TextFault

-- goes on with an item, or with a clash noted, or refuses
abbrev pub go_on : Result Word SymbolFault → (Word → Numbering) → Numbering → Numbering
go_on (Ok item) next clashed = next item
go_on (Err OverLimit) next clashed = Err Limit
go_on (Err (OtherArity n)) next clashed = clashed
go_on (Err NoMemory) next clashed = Err Memory

abbrev pub finish : List Symbol → Bool → List Word → Numbering
finish table true items = Err Arity
finish table false items = Ok (table, items)

-- numbering word by word, which goes on after a clash to find a limit
abbrev pub go : Limits → List Symbol → Bool → List Word → List Symbol → Numbering
go limits table clash items [] = finish table clash items
go limits table clash items (w ∷ ws) = go_on (word_found limits table w) (λ item. go limits (table_with table w) clash (items ++ item ∷ []) ws) (go limits table true items ws)

-- the answer over all words
abbrev answer : Limits → List Symbol → Bool → List Word → List Symbol → Numbering
answer limits table clash items ws =
    unless_refused (list_all is_word_in_limits ws && nat_le (length (table_over table ws)) (most_symbols limits))
    (not clash && list_all (is_word_over (table_over table ws)) ws)
    (table_over table ws, items ++ map (word_from (table_over table ws)) ws)

-- a table only grows at its end
pub with_word : (table : List Symbol) (w : Symbol) → (more : List Symbol) × (table_with table w ≡ table ++ more)
with_word table w = by_name (is_name w.text) (number_of_text table w.text) refl refl
  where
    by_name : (b : Bool) (o : Option ℕ) → is_name w.text ≡ b → number_of_text table w.text ≡ o → (more : List Symbol) × (table_with table w ≡ table ++ more)
    by_name true o named found = ([], rw named (sym (append-nil table)))
    by_name false None named found = (w ∷ [], rw (named, found) refl)
    by_name false (Some n) named found = ([], rw (named, found) (sym (append-nil table)))

pub table_over-grows : (ws table : List Symbol) → (more : List Symbol) × (table_over table ws ≡ table ++ more)
table_over-grows [] table = ([], sym (append-nil table))
table_over-grows (w ∷ ws) table =
    let first = with_word table w in
    let rest = table_over-grows ws (table_with table w) in
    (first.0 ++ rest.0, rest.1 ∙ ap (λ t. t ++ rest.0) first.1 ∙ append_assoc table first.0 rest.0)

-- what one word does, and the other words after it
pub data Outcome (limits : Limits) (table : List Symbol) (w : Symbol) (ws : List Symbol) : Type 0 where
  kept : (item : Word) → word_found limits table w ≡ Ok item → is_word_in_limits w ≡ true → is_word_over (table_over (table_with table w) ws) w ≡ true
      → word_from (table_over (table_with table w) ws) w ≡ item → length (table_with table w) ≤ (most_symbols limits) → Outcome limits table w ws
  limited : word_found limits table w ≡ Err OverLimit → ((is_word_in_limits w && list_all is_word_in_limits ws) && nat_le (length (table_over (table_with table w) ws)) (most_symbols limits)) ≡ false → Outcome limits table w ws
  clashed : (n : ℕ) → word_found limits table w ≡ Err (OtherArity n) → is_word_in_limits w ≡ true → is_word_over (table_over (table_with table w) ws) w ≡ false
      → table_with table w ≡ table → Outcome limits table w ws

pub gt_test : (n most : ℕ) → most < n → nat_le n most ≡ false
gt_test n most above = grind (arith, nat_tests)

name_outcome : (limits : Limits) (table : List Symbol) (w : Symbol) (ws : List Symbol) → length table ≤ (most_symbols limits) → is_name w.text ≡ true → Outcome limits table w ws
name_outcome limits table w ws fits named = by_limit (nat_le (name_number w.text) MAX_NAME) refl
  where
    by_limit : (b : Bool) → nat_le (name_number w.text) MAX_NAME ≡ b → Outcome limits table w ws
    by_limit true low = kept (Name (name_number w.text)) (rw (named, low) refl) (rw named low) (rw named refl) (rw named refl) (rw named fits)
    by_limit false low = limited (rw (named, low) refl) (rw (named, low) refl)

-- a symbol that stands in the whole table
over_at : (table : List Symbol) (w : Symbol) (n : ℕ) (b : Bool) → is_name w.text ≡ false → number_of_text table w.text ≡ Some n
    → has_arity w.arity (slice_get table n) ≡ b → is_word_over table w ≡ b
over_at table w n b named found e = rw (named, found) e

item_at : (table : List Symbol) (w : Symbol) (n : ℕ) → is_name w.text ≡ false → number_of_text table w.text ≡ Some n → word_from table w ≡ Agent n w.arity
item_at table w n named found = rw (named, found) refl

-- a symbol for which there is no room has no number
pub no_room : (limits : Limits) (table : List Symbol) (w : Symbol) → is_name w.text ≡ false → fits_limits w.text w.arity ≡ true → number_of_text table w.text ≡ None
    → nat_lt (length table) (most_symbols limits) ≡ false → word_found limits table w ≡ Err OverLimit
no_room limits table w named low found room = by_wide (nat_lt (length table) MAX_WIDE_SYMBOLS) refl
  where
    by_wide : (b : Bool) → nat_lt (length table) MAX_WIDE_SYMBOLS ≡ b → word_found limits table w ≡ Err OverLimit
    by_wide true wide = rw (named, low, found, wide, room) refl
    by_wide false wide = rw (named, low, found, wide) refl

same_arity : (n : ℕ) → eqb n n ≡ true
same_arity n = grind (arith, nat_tests)

module _ (limits : Limits) (table : List Symbol) (w : Symbol) (ws : List Symbol) (fits : length table ≤ (most_symbols limits)) (named : is_name w.text ≡ false) (low : fits_limits w.text w.arity ≡ true) where
  -- a symbol that isn't in the table yet
  new_outcome : number_of_text table w.text ≡ None → Outcome limits table w ws
  new_outcome found = by_room (nat_lt (length table) (most_symbols limits)) refl
    where
      grown : table_with table w ≡ table ++ w ∷ []
      grown = rw (named, found) refl

      whole : (more : List Symbol) × (table_over (table_with table w) ws ≡ table ++ w ∷ more)
      whole =
          let g = table_over-grows ws (table_with table w) in
          (g.0, g.1 ∙ ap (λ t. t ++ g.0) grown ∙ append_assoc table (w ∷ []) g.0)

      length_grown : length (table_with table w) ≡ length table + 1
      length_grown = ap length grown ∙ length-append table (w ∷ [])

      by_room : (b : Bool) → nat_lt (length table) (most_symbols limits) ≡ b → Outcome limits table w ws
      by_room true room =
          let number : number_of_text (table_over (table_with table w) ws) w.text ≡ Some (length table) = ap (λ t. number_of_text t w.text) whole.1 ∙ number_of_text-next table whole.0 w.text w.arity found in
          let symbol : slice_get (table_over (table_with table w) ws) (length table) ≡ Some w = ap (λ t. slice_get t (length table)) whole.1 ∙ slice_get-next table w whole.0 in
          let wide : nat_lt (length table) MAX_WIDE_SYMBOLS ≡ true = lt-ltb (length table) MAX_WIDE_SYMBOLS (omega (arith, ltb-true _ _ room, symbols-low limits)) in
          kept (Agent (length table) w.arity) (rw (named, low, found, wide, room) refl) (rw named low)
          (over_at _ w (length table) true named number (ap (has_arity w.arity) symbol ∙ same_arity w.arity))
          (item_at _ w (length table) named number)
          (omega (arith, length_grown, ltb-true _ _ room))
      by_room false room =
          let long : most_symbols limits < length (table_over (table_with table w) ws) = omega (arith, ap length whole.1, length-append table (w ∷ whole.0), ltb-false _ _ room) in
          limited (no_room limits table w named low found room) (and_right _ _ (gt_test _ _ long))

  -- a symbol that is in the table
  known_outcome : (n : ℕ) → number_of_text table w.text ≡ Some n → Outcome limits table w ws
  known_outcome n found = by_arity (has_arity w.arity (slice_get table n)) refl
    where
      kept_table : table_with table w ≡ table
      kept_table = rw (named, found) refl

      whole : (more : List Symbol) × (table_over (table_with table w) ws ≡ table ++ more)
      whole = let g = table_over-grows ws (table_with table w) in (g.0, g.1 ∙ ap (λ t. t ++ g.0) kept_table)

      number : number_of_text (table_over (table_with table w) ws) w.text ≡ Some n
      number = ap (λ t. number_of_text t w.text) whole.1 ∙ number_of_text-append table whole.0 w.text n found

      symbol : has_arity w.arity (slice_get (table_over (table_with table w) ws) n) ≡ has_arity w.arity (slice_get table n)
      symbol = ap (λ t. has_arity w.arity (slice_get t n)) whole.1 ∙ ap (has_arity w.arity) (slice_get-append table whole.0 n (number_of_text-lt table w.text n found))

      by_arity : (b : Bool) → has_arity w.arity (slice_get table n) ≡ b → Outcome limits table w ws
      by_arity true same =
          let room : nat_lt n (most_symbols limits) ≡ true = lt-ltb n (most_symbols limits) (omega (arith, number_of_text-lt table w.text n found, fits)) in
          kept (Agent n w.arity) (rw (named, low, found, same, room) refl) (rw named low) (over_at _ w n true named number (symbol ∙ same)) (item_at _ w n named number) (rw kept_table fits)
      by_arity false other =
          clashed n (rw (named, low, found, other) refl) (rw named low) (over_at _ w n false named number (symbol ∙ other)) kept_table

symbol_outcome : (limits : Limits) (table : List Symbol) (w : Symbol) (ws : List Symbol) → length table ≤ (most_symbols limits) → is_name w.text ≡ false → Outcome limits table w ws
symbol_outcome limits table w ws fits named = by_limits (fits_limits w.text w.arity) (number_of_text table w.text) refl refl
  where
    by_limits : (b : Bool) (o : Option ℕ) → fits_limits w.text w.arity ≡ b → number_of_text table w.text ≡ o → Outcome limits table w ws
    by_limits true None low found = new_outcome limits table w ws fits named low found
    by_limits true (Some n) low found = known_outcome limits table w ws fits named low n found
    by_limits false o low found = limited (rw (named, low) refl) (rw (named, low) refl)

pub outcome : (limits : Limits) (table : List Symbol) (w : Symbol) (ws : List Symbol) → length table ≤ (most_symbols limits) → Outcome limits table w ws
outcome limits table w ws fits = by_name (is_name w.text) refl
  where
    by_name : (b : Bool) → is_name w.text ≡ b → Outcome limits table w ws
    by_name true named = name_outcome limits table w ws fits named
    by_name false named = symbol_outcome limits table w ws fits named

-- the answer goes on after a word
answer_kept : (a A1 B o C c : Bool) (t : List Symbol) (items : List Word) (i item : Word) (rest : List Word) → a ≡ true → o ≡ true → i ≡ item
    → unless_refused {A = List Symbol × List Word} (A1 && B) (c && C) (t, (items ++ item ∷ []) ++ rest) ≡ unless_refused ((a && A1) && B) (c && (o && C)) (t, items ++ i ∷ rest)
answer_kept a A1 B o C c t items i item rest is over same = rw (is, over, same, append_assoc items (item ∷ []) rest) refl

-- a refusal has no value
refusal : Bool → Numbering
refusal in_limits = cond in_limits (Err Arity) (Err Limit)

refused_before : (in_limits C : Bool) (v : List Symbol × List Word) → unless_refused in_limits (not true && C) v ≡ refusal in_limits
unfolding refusal
refused_before true C v = refl
refused_before false C v = refl

refused_here : (a A1 B o C c : Bool) (v : List Symbol × List Word) → a ≡ true → o ≡ false → unless_refused ((a && A1) && B) (c && (o && C)) v ≡ refusal (A1 && B)
unfolding refusal
refused_here a A1 B o C c v is over = rw (is, over) (by_cases c (A1 && B))
  where
    by_cases : (c d : Bool) → unless_refused {A = List Symbol × List Word} d (c && false) v ≡ cond d (Err Arity) (Err Limit)
    by_cases true true = refl
    by_cases _ _ = refl

pub go-is : (limits : Limits) (ws table : List Symbol) (clash : Bool) (items : List Word) → length table ≤ (most_symbols limits) → go limits table clash items ws ≡ answer limits table clash items ws
go-is limits [] table clash items fits = by_clash clash
  where
    by_clash : (c : Bool) → finish table c items ≡ unless_refused {A = List Symbol × List Word} (nat_le (length table) (most_symbols limits)) (not c && true) (table, items ++ [])
    by_clash true = rw (le-leb (length table) (most_symbols limits) fits) refl
    by_clash false = rw (le-leb (length table) (most_symbols limits) fits, append-nil) refl
go-is limits (w ∷ ws) table clash items fits = by_outcome (outcome limits table w ws fits) (go-is limits ws)
  where
    by_outcome : Outcome limits table w ws → ((t : List Symbol) (c : Bool) (is : List Word) → length t ≤ (most_symbols limits) → go limits t c is ws ≡ answer limits t c is ws) → go limits table clash items (w ∷ ws) ≡ answer limits table clash items (w ∷ ws)
    by_outcome (kept item found is over same long) next =
        ap (λ r. go_on r (λ i. go limits (table_with table w) clash (items ++ i ∷ []) ws) (go limits table true items ws)) found
        ∙ next (table_with table w) clash (items ++ item ∷ []) long
        ∙ answer_kept _ _ _ _ _ _ _ items _ item _ is over same
    by_outcome (limited found beyond) next =
        ap (λ r. go_on r (λ i. go limits (table_with table w) clash (items ++ i ∷ []) ws) (go limits table true items ws)) found ∙ rw beyond refl
    by_outcome (clashed n found is over same) next =
        ap (λ r. go_on r (λ i. go limits (table_with table w) clash (items ++ i ∷ []) ws) (go limits table true items ws)) found
        ∙ next table true items fits
        ∙ refused_before (list_all is_word_in_limits ws && nat_le (length (table_over table ws)) (most_symbols limits)) (list_all (is_word_over (table_over table ws)) ws) (table_over table ws, items ++ map (word_from (table_over table ws)) ws)
        ∙ ap (λ t. refusal (list_all is_word_in_limits ws && nat_le (length (table_over t ws)) (most_symbols limits))) (sym same)
        ∙ sym (refused_here (is_word_in_limits w) (list_all is_word_in_limits ws) (nat_le (length (table_over (table_with table w) ws)) (most_symbols limits)) (is_word_over (table_over (table_with table w) ws) w) (list_all (is_word_over (table_over (table_with table w) ws)) ws) (not clash) (table_over (table_with table w) ws, items ++ map (word_from (table_over (table_with table w) ws)) (w ∷ ws)) is over)

-- so all words are numbered as defined
pub go-numbered_words : (limits : Limits) (ws : List Symbol) → go limits [] false [] ws ≡ numbered_words limits ws
go-numbered_words limits ws = go-is limits ws [] false [] (omega arith)
