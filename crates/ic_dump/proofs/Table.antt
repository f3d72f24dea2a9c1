-- The symbols that a text is read with are among those that it was written with, each with its text and arity.
use Rattle.std.proofs.Common.{◌≡◌, ℕ, ◌<◌, ◌≤◌, Bool, true, false, ◌||◌, cond, List, [], ◌∷◌, ◌++◌, Option, None, Some, is_some, length, get_or, slice_get, refl, sym, ap, subst, ◌∙◌, arith}
use Rattle.std.specs.Prelude.{option_and_then}
use Rattle.std.specs.List.{list_all, AllByRecursion, IsDistinct}
use Rattle.std.specs.Option.{option_map}
use Rattle.std.specs.Str.{bytes_eq}
use Rattle.std.specs.Cmp.{unsigned_Decides}
use Rattle.std.specs.Cmp.Lexicographic.{bytes_decides}
use Rattle.std.proofs.lemmas.Cmp.{nat_list_eq_equiv}
use Rattle.std.proofs.lemmas.Bool.{and_from, or_left, or_right, false≢true}
use Rattle.std.proofs.lemmas.List.{map-append, length-map}
use Rattle.std.proofs.lemmas.List.Quantifiers.{position-Some}
use Rattle.std.proofs.lemmas.Map.Keys.{IsDistinct-push, any_passes_from_place}
use Rattle.std.proofs.lemmas.Map.Made.{length-le_from_is_member}
use Rattle.std.proofs.lemmas.Option.{slice_get-map, slice_get-get_or}
use Rattle.ic_term.specs.Symbol.{Symbol, AreSymbols, texts, has_arity, number_of_text, with_symbol}
use Rattle.ic_text.specs.Sense.{symbols_after, has_its_arity}
use Rattle.ic_text.specs.Text.{text_or_none}
use Rattle.ic_dump.proofs.Lists.{All-join, All-at}
use Rattle.ic_text.specs.lemmas.SymbolOrder.{has_text, found, texts_after}
use Rattle.ic_text.specs.lemmas.WrittenBack.{text-get_or}
use Rattle.ic_dump.proofs.Known.{Known, one_symbol}

-- ---- no two symbols have one text

distinct_with : (seen : List Symbol) (s : Symbol) (b : Bool) → is_some (number_of_text seen s.text) ≡ b → IsDistinct bytes_eq (texts seen)
    → IsDistinct bytes_eq (texts (cond b seen (seen ++ s ∷ [])))
distinct_with seen s true e distinct = distinct
distinct_with seen s false e distinct =
    subst (λ (l : List (List ℕ)). IsDistinct bytes_eq l) (sym (map-append (λ (x : Symbol). x.text) seen (s ∷ [])))
    (IsDistinct-push nat_list_eq_equiv (texts seen) s.text distinct (sym (found seen s.text) ∙ e))

distinct_after : (ss seen : List Symbol) → IsDistinct bytes_eq (texts seen) → IsDistinct bytes_eq (texts (symbols_after seen ss))
distinct_after [] seen distinct = distinct
distinct_after (s ∷ ss) seen distinct =
    distinct_after ss (with_symbol seen s.text s.arity) (distinct_with seen s (is_some (number_of_text seen s.text)) refl distinct)

none_distinct : IsDistinct bytes_eq (texts [])
unfolding IsDistinct
none_distinct = tt

-- a symbol's number in a table
pub record Placed (table : List Symbol) (s : Symbol) : Type 0 where
  pub number : ℕ
  pub is : number_of_text table s.text ≡ Some number
  pub there : slice_get table number ≡ Some s

-- it has its arity
agrees : (table : List Symbol) (s : Symbol) → Placed table s → has_its_arity table s ≡ true
agrees table s placed =
    ap (λ o. has_arity s.arity (option_and_then (slice_get table) o)) placed.is
    ∙ ap (has_arity s.arity) placed.there
    ∙ (unsigned_Decides s.arity s.arity).1 refl

pub all_agree : (table : List Symbol) (ss : List Symbol) → AllByRecursion (Placed table) ss → list_all (has_its_arity table) ss ≡ true
all_agree table [] placed = refl
all_agree table (s ∷ ss) placed = and_from _ _ (agrees table s placed.0) (all_agree table ss placed.1)

module _ (table : List Symbol) (are : AreSymbols table) where
  known_with : (seen : List Symbol) (s : Symbol) (b : Bool) → AllByRecursion (Known table) seen → Known table s → AllByRecursion (Known table) (cond b seen (seen ++ s ∷ []))
  known_with seen s true known here = known
  known_with seen s false known here = All-join (Known table) seen (s ∷ []) known (here, tt)

  known_after : (ss seen : List Symbol) → AllByRecursion (Known table) seen → AllByRecursion (Known table) ss → AllByRecursion (Known table) (symbols_after seen ss)
  known_after [] seen known all = known
  known_after (s ∷ ss) seen known all =
      known_after ss (with_symbol seen s.text s.arity) (known_with seen s (is_some (number_of_text seen s.text)) known all.0) all.1

  member_of : (ss : List Symbol) → AllByRecursion (Known table) ss → (q : List ℕ) → has_text q ss ≡ true → has_text q table ≡ true
  member_of [] known q there = absurd (false≢true there)
  member_of (s ∷ ss) known q there = by_test (bytes_eq q s.text) refl there (member_of ss known.1 q)
    where
      by_test : (b : Bool) → bytes_eq q s.text ≡ b → (b || has_text q ss) ≡ true → (has_text q ss ≡ true → has_text q table ≡ true) → has_text q table ≡ true
      by_test true is e further =
          any_passes_from_place (bytes_eq q) (texts table) known.0.place s.text
          (slice_get-map (λ (x : Symbol). x.text) table known.0.place ∙ ap (option_map (λ (x : Symbol). x.text)) known.0.there) is
      by_test false is e further = further e

  -- there are no more symbols
  pub no_more_symbols : (ss : List Symbol) → AllByRecursion (Known table) ss → length (symbols_after [] ss) ≤ length table
  no_more_symbols ss known =
      let read = symbols_after [] ss in
      let fewer : length (texts read) ≤ length (texts table) =
      length-le_from_is_member nat_list_eq_equiv (texts read) (texts table) (distinct_after ss [] none_distinct) (member_of read (known_after ss [] tt known)) in
      omega (arith, fewer, length-map read (λ (x : Symbol). x.text), length-map table (λ (x : Symbol). x.text))

  placed_one : (ss : List Symbol) → AllByRecursion (Known table) ss → (s : Symbol) → Known table s → has_text s.text ss ≡ true → Placed (symbols_after [] ss) s
  placed_one ss known s here present = by_number (number_of_text (symbols_after [] ss) s.text) refl (found (symbols_after [] ss) s.text ∙ texts_after s.text ss [] ∙ present)
    where
      at_place : (m : ℕ) → m < length (symbols_after [] ss) → bytes_eq s.text (get_or (texts (symbols_after [] ss)) m []) ≡ true → slice_get (symbols_after [] ss) m ≡ Some s
      at_place m within same =
          let x = get_or (symbols_after [] ss) m s in
          let there : slice_get (symbols_after [] ss) m ≡ Some x = slice_get-get_or (symbols_after [] ss) m s within in
          let text : x.text ≡ s.text = sym (text-get_or (symbols_after [] ss) m ∙ ap text_or_none there) ∙ sym ((bytes_decides s.text (get_or (texts (symbols_after [] ss)) m [])).0 same) in
          there ∙ ap Some (one_symbol table are x s (All-at (Known table) (symbols_after [] ss) m x (known_after ss [] tt known) there) here text)

      by_number : (o : Option ℕ) → number_of_text (symbols_after [] ss) s.text ≡ o → is_some (number_of_text (symbols_after [] ss) s.text) ≡ true → Placed (symbols_after [] ss) s
      by_number None e some = absurd (false≢true (sym (ap is_some e) ∙ some))
      by_number (Some m) e some =
          let at = position-Some (bytes_eq s.text) (texts (symbols_after [] ss)) m [] e in
          let within : m < length (symbols_after [] ss) = omega (arith, at.0, length-map (symbols_after [] ss) (λ (x : Symbol). x.text)) in
          record { number = m; is = e; there = at_place m within at.1 }

  placed_each : (ss rest : List Symbol) → AllByRecursion (Known table) ss → AllByRecursion (Known table) rest → AllByRecursion (λ s. has_text s.text ss ≡ true) rest
      → AllByRecursion (Placed (symbols_after [] ss)) rest
  placed_each ss [] all known present = tt
  placed_each ss (s ∷ rest) all known present = (placed_one ss all s known.0 present.0, placed_each ss rest all known.1 present.1)

  -- each symbol of a text has its number
  pub all_placed : (ss : List Symbol) → AllByRecursion (Known table) ss → AllByRecursion (Placed (symbols_after [] ss)) ss
  all_placed ss known = placed_each ss ss known known (present ss)
    where
      further : (s : Symbol) (xs ys : List Symbol) → AllByRecursion (λ t. has_text t.text xs ≡ true) ys → AllByRecursion (λ t. has_text t.text (s ∷ xs) ≡ true) ys
      further s xs [] all = tt
      further s xs (y ∷ ys) all = (or_right (bytes_eq y.text s.text) (has_text y.text xs) all.0, further s xs ys all.1)

      present : (xs : List Symbol) → AllByRecursion (λ t. has_text t.text xs ≡ true) xs
      present [] = tt
      present (x ∷ xs) = (or_left (bytes_eq x.text x.text) (has_text x.text xs) ((bytes_decides x.text x.text).1 refl), further x xs xs (present xs))
