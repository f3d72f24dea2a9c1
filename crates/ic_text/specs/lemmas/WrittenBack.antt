-- Terms that are read over a table which has their symbols are written as they were.
use Rattle.std.proofs.Common.{◌≡◌, ℕ, suc, true, List, [], ◌∷◌, ◌++◌, Option, None, Some, map, refl, sym, ◌∙◌}
use Rattle.std.specs.Prelude.{unwrap_or, option_and_then, get_or}
use Rattle.std.specs.List.{flat_map, list_all, slice_get}
use Rattle.std.specs.Str.{bytes_eq}
use Rattle.std.proofs.lemmas.Bool.{and_parts, false≢true}
use Rattle.std.proofs.lemmas.List.Folds.{list_all-append}
use Rattle.std.proofs.lemmas.List.Quantifiers.{position-Some}
use Rattle.std.proofs.lemmas.Slice.Eq.{bytes_eq-Decides}
use Rattle.ic_term.specs.Symbol.{Symbol, texts, number_of_text, has_arity}
use Rattle.ic_text.specs.Source.{Source, leaf, node, Sources, no_sources, more_sources, Sides, Phrase, source_symbols, symbols_of_sources, phrase_symbols, count_of}
use Rattle.ic_text.specs.Sense.{has_its_arity, number_in_table, numbered_tree, numbered_trees, numbered_pair, numbered_phrase}
use Rattle.ic_text.specs.Text.{text_or_none, source_of, sources_of, sides_of, phrase_of}

-- the text at a place
pub text-get_or : (ss : List Symbol) (n : ℕ) → get_or (texts ss) n [] ≡ text_or_none (slice_get ss n)
text-get_or (s ∷ ss) (suc n) = text-get_or ss n
text-get_or _ _ = refl

-- the symbol with the number of a text has that text
text_at : (ss : List Symbol) (text : List ℕ) (n : ℕ) → number_of_text ss text ≡ Some n → text_or_none (slice_get ss n) ≡ text
text_at ss text n found =
    let at = position-Some (bytes_eq text) (texts ss) n [] found in
    sym (text-get_or ss n) ∙ sym ((bytes_eq-Decides text (get_or (texts ss) n [])).0 at.1)

module _ (table : List Symbol) where
  pub text_found : (text : List ℕ) (arity : ℕ) → has_its_arity table (record { text = text; arity = arity }) ≡ true → text_or_none (slice_get table (number_in_table table text)) ≡ text
  text_found text arity agree = by_number (number_of_text table text) refl agree
    where
      by_number : (o : Option ℕ) → number_of_text table text ≡ o → has_arity arity (option_and_then (slice_get table) o) ≡ true → text_or_none (slice_get table (unwrap_or o 0)) ≡ text
      by_number None e has = absurd (false≢true has)
      by_number (Some n) e has = text_at table text n e

  mutual
    source_back : (t : Source) → list_all (has_its_arity table) (source_symbols t) ≡ true → source_of table (numbered_tree table t) ≡ t
    source_back (leaf n) agree = refl
    source_back (node text ts) agree =
        let parts = and_parts (has_its_arity table (record { text = text; arity = count_of ts })) _ agree in
        λ i. node (text_found text (count_of ts) parts.0 i) (sources_back ts parts.1 i)

    pub sources_back : (ts : Sources) → list_all (has_its_arity table) (symbols_of_sources ts) ≡ true → sources_of table (numbered_trees table ts) ≡ ts
    sources_back no_sources agree = refl
    sources_back (more_sources t ts) agree =
        let parts = and_parts _ _ (sym (list_all-append (has_its_arity table) (source_symbols t) (symbols_of_sources ts)) ∙ agree) in
        λ i. more_sources (source_back t parts.0 i) (sources_back ts parts.1 i)

  interface_back : (ts : List Source) → list_all (has_its_arity table) (flat_map source_symbols ts) ≡ true → map (source_of table) (map (numbered_tree table) ts) ≡ ts
  interface_back [] agree = refl
  interface_back (t ∷ ts) agree =
      let parts = and_parts _ _ (sym (list_all-append (has_its_arity table) (source_symbols t) (flat_map source_symbols ts)) ∙ agree) in
      λ i. source_back t parts.0 i ∷ interface_back ts parts.1 i

  equations_back : (es : List Sides) → list_all (has_its_arity table) (flat_map (λ e. source_symbols e.left ++ source_symbols e.right) es) ≡ true → map (sides_of table) (map (numbered_pair table) es) ≡ es
  equations_back [] agree = refl
  equations_back (e ∷ es) agree =
      let parts = and_parts _ _ (sym (list_all-append (has_its_arity table) (source_symbols e.left ++ source_symbols e.right) (flat_map (λ (x : Sides). source_symbols x.left ++ source_symbols x.right) es)) ∙ agree) in
      let sides = and_parts _ _ (sym (list_all-append (has_its_arity table) (source_symbols e.left) (source_symbols e.right)) ∙ parts.0) in
      λ i. record { left = source_back e.left sides.0 i; right = source_back e.right sides.1 i } ∷ equations_back es parts.1 i

  pub phrase_back : (p : Phrase) → list_all (has_its_arity table) (phrase_symbols p) ≡ true → phrase_of table (numbered_phrase table p) ≡ p
  phrase_back p agree =
      let parts = and_parts _ _ (sym (list_all-append (has_its_arity table) (flat_map source_symbols p.interface) (flat_map (λ (x : Sides). source_symbols x.left ++ source_symbols x.right) p.equations)) ∙ agree) in
      λ i. record { interface = interface_back p.interface parts.0 i; equations = equations_back p.equations parts.1 i }
