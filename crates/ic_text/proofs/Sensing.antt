-- Numbering the words of a configuration and building its terms gives its sense.
use Rattle.std.proofs.Common.{◌≡◌, ℕ, ◌+◌, ◌≤◌, ◌^◌, Bool, true, false, ◌&&◌, cond, List, [], ◌∷◌, ◌++◌, Option, None, Some, Result, Ok, Err, length, map, refl, sym, ap, ◌∙◌, arith}
use Rattle.std.specs.Prelude.{nat_le, nat_lt, sum_by}
use Rattle.std.specs.List.{flat_map, list_all}
use Rattle.std.proofs.lemmas.List.Sums.{sum_by-cons}
use Rattle.std.proofs.lemmas.Bool.{false≢true, and_parts, le-leb, leb-true, lt-ltb}
use Rattle.std.proofs.lemmas.List.Folds.{flat_map-map}
use Rattle.ic_term.specs.Symbol.{Symbol, fits_limits}
use Rattle.ic_term.specs.Tree.{names, names_of, nodes, nodes_of, pair_names, pair_nodes}
use Rattle.ic_term.specs.Configuration.{Configuration, configuration_names, configuration_nodes, one_above, third_occurrence, is_within_wide, unless_third, wide_restored}
use Rattle.ic_term.specs.declared.config.ConfigFault.TheVariants.{Limit as TooMuch}
use Rattle.ic_term.specs.declared.limits.TheConstants.{MAX_NEXT, MAX_WIDE_NODES}
use Rattle.ic_flat.specs.declared.word.Word.{Word}
use Rattle.ic_text.specs.declared.limits.Limits.{Limits}
use Rattle.ic_text.specs.declared.limits.TheConstants.{MAX_NAME}
use Rattle.ic_text.specs.declared.fault.TextFault.{TextFault}
use Rattle.ic_text.specs.declared.fault.TextFault.TheVariants.{Limit, Arity, Memory}
use Rattle.ic_text.specs.Limits.{most_interface, most_nodes, most_symbols}
use Rattle.ic_text.specs.Source.{Source, leaf, node, Sources, no_sources, more_sources, Sides, Phrase, IsPhrase, source_names, names_of_sources, source_nodes, nodes_of_sources, phrase_names, phrase_symbols, phrase_nodes}
use Rattle.ic_text.specs.Sense.{symbols_after, symbol_table, has_its_arity, numbered_tree, numbered_trees, numbered_pair, numbered_phrase, unless_third_name, sense_within}
use Rattle.ic_text.specs.inner.Words.{phrase_prefix}
use Rattle.ic_text.specs.inner.Numbered.{table_over, is_word_in_limits, is_word_over, word_from, unless_refused, numbered_words, as_text_answer, Refuses}
use Rattle.ic_flat.specs.Words.{forest}
use Rattle.ic_text.specs.inner.Built.{IsPaired, configuration_from}
use Rattle.ic_text.proofs.PrefixWords.{symbols_among-phrase, names_among-phrase, limits-words, table-words, arities-words}
use Rattle.ic_text.proofs.LimitLemmas.{nodes-low}
use Rattle.ic_text.proofs.BuiltTrees.{configuration_from-built, paired-phrase}

pub sum_by-map : {A B : Type 0} (f : B → ℕ) (g : A → B) (xs : List A) → sum_by f (map g xs) ≡ sum_by (λ x. f (g x)) xs
sum_by-map f g [] = refl
sum_by-map f g (x ∷ xs) = sum_by-cons f (g x) (map g xs) ∙ ap (λ n. f (g x) + n) (sum_by-map f g xs) ∙ sym (sum_by-cons (λ y. f (g y)) x xs)

module _ (table : List Symbol) where
  mutual
    names-numbered_tree : (t : Source) → names (numbered_tree table t) ≡ source_names t
    names-numbered_tree (leaf n) = refl
    names-numbered_tree (node text ts) = names-numbered_trees ts

    pub names-numbered_trees : (ts : Sources) → names_of (numbered_trees table ts) ≡ names_of_sources ts
    names-numbered_trees no_sources = refl
    names-numbered_trees (more_sources t ts) = λ i. names-numbered_tree t i ++ names-numbered_trees ts i

  mutual
    nodes-numbered_tree : (t : Source) → nodes (numbered_tree table t) ≡ source_nodes t
    nodes-numbered_tree (leaf n) = refl
    nodes-numbered_tree (node text ts) = ap (λ n. 1 + n) (nodes-numbered_trees ts)

    pub nodes-numbered_trees : (ts : Sources) → nodes_of (numbered_trees table ts) ≡ nodes_of_sources ts
    nodes-numbered_trees no_sources = refl
    nodes-numbered_trees (more_sources t ts) = λ i. nodes-numbered_tree t i + nodes-numbered_trees ts i

  -- a configuration has the names and the nodes that are written
  names-numbered_phrase : (p : Phrase) → configuration_names (numbered_phrase table p) ≡ phrase_names p
  names-numbered_phrase p =
      let first = flat_map-map names (numbered_tree table) p.interface ∙ (λ i. flat_map (λ t. names-numbered_tree t i) p.interface) in
      let second = flat_map-map pair_names (numbered_pair table) p.equations ∙ (λ i. flat_map (λ (e : Sides). names-numbered_tree e.left i ++ names-numbered_tree e.right i) p.equations) in
      λ i. first i ++ second i

  pub nodes-numbered_phrase : (p : Phrase) → configuration_nodes (numbered_phrase table p) ≡ phrase_nodes p
  nodes-numbered_phrase p =
      let first = sum_by-map nodes (numbered_tree table) p.interface ∙ (λ i. sum_by (λ t. nodes-numbered_tree t i) p.interface) in
      let second = sum_by-map pair_nodes (numbered_pair table) p.equations ∙ (λ i. sum_by (λ (e : Sides). nodes-numbered_tree e.left i + nodes-numbered_tree e.right i) p.equations) in
      λ i. first i + second i

-- each name is below a number from `one_above` on
below_above : (ns : List ℕ) (k : ℕ) → one_above ns ≤ k → list_all (λ n. nat_lt n k) ns ≡ true
below_above [] k le = refl
below_above (n ∷ ns) k le = rw (lt-ltb n k (omega arith)) (below_above ns k (omega arith))

one_above_low : (ns : List ℕ) → list_all (λ n. nat_le n MAX_NAME) ns ≡ true → one_above ns ≤ 2 ^ 32
one_above_low [] low = omega arith
one_above_low (n ∷ ns) low =
    let parts = and_parts (nat_le n MAX_NAME) _ low in
    omega (arith, leb-true n MAX_NAME parts.0, one_above_low ns parts.1)

and3 : (a b c : Bool) → a ≡ true → b ≡ true → c ≡ true → (a && b && c) ≡ true
and3 a b c x y z = rw (x, y, z) refl

-- within the limits of a text, only a third occurrence refuses a configuration
pub restored-numbered : (limits : Limits) (table : List Symbol) (p : Phrase) → nat_le (phrase_nodes p) (most_nodes limits) ≡ true → list_all (λ n. nat_le n MAX_NAME) (phrase_names p) ≡ true
    → wide_restored (numbered_phrase table p) ≡ unless_third (numbered_phrase table p) (third_occurrence (phrase_names p))
restored-numbered limits table p few low =
    let c = numbered_phrase table p in
    let names_are : configuration_names c ≡ phrase_names p = names-numbered_phrase table p in
    let low_names : list_all (λ n. nat_le n MAX_NAME) (configuration_names c) ≡ true = ap (list_all (λ n. nat_le n MAX_NAME)) names_are ∙ low in
    let nodes_fit : nat_le (configuration_nodes c) MAX_WIDE_NODES ≡ true =
    le-leb (configuration_nodes c) MAX_WIDE_NODES (omega (arith, nodes-numbered_phrase table p, leb-true (phrase_nodes p) (most_nodes limits) few, nodes-low limits)) in
    let next_fits : nat_le c.next MAX_NEXT ≡ true = le-leb c.next MAX_NEXT (omega (arith, one_above_low (configuration_names c) low_names)) in
    let below : list_all (λ n. nat_lt n c.next) (configuration_names c) ≡ true = below_above (configuration_names c) c.next (omega arith) in
    let within : is_within_wide c ≡ true = and3 _ _ _ nodes_fit next_fits below in
    ap (λ b. cond b (unless_third c (third_occurrence (configuration_names c))) (Err TooMuch)) within ∙ ap (λ ns. unless_third c (third_occurrence ns)) names_are

-- a configuration beside its table
abbrev pub beside_table : List Symbol → Result Configuration TextFault → Result (List Symbol × Configuration) TextFault
beside_table table (Ok c) = Ok (table, c)
beside_table table (Err e) = Err e

-- numbered words as a configuration with so many terms in its interface
abbrev pub finished : ℕ → Result (List Symbol × List Word) TextFault → Result (List Symbol × Configuration) TextFault
finished terms (Ok v) = beside_table v.0 (as_text_answer (wide_restored (configuration_from terms (forest v.1))))
finished terms (Err e) = Err e

third_beside : (table : List Symbol) (c : Configuration) (o : Option ℕ) → unless_third_name (table, c) o ≡ beside_table table (as_text_answer (unless_third c o))
third_beside table c None = refl
third_beside table c (Some n) = refl

-- words that are numbered are these
pub numbered_is : (l o : Bool) (x v : List Symbol × List Word) → Ok v ≡ unless_refused {A = List Symbol × List Word} l o x → v ≡ x
numbered_is true true x v e = cc
numbered_is true false x v e = cc
numbered_is false o x v e = cc

module _ (p : Phrase) (is : IsPhrase p) where
  abbrev pub table : List Symbol
  table = symbol_table p

  abbrev pub items : List Word
  items = map (word_from table) (phrase_prefix p)

  -- the limits of words and of their table
  abbrev pub in_limits : Limits → Bool
  in_limits limits = (list_all (λ s. fits_limits s.text s.arity) (phrase_symbols p) && list_all (λ n. nat_le n MAX_NAME) (phrase_names p)) && nat_le (length table) (most_symbols limits)

  abbrev pub agree : Bool
  agree = list_all (has_its_arity table) (phrase_symbols p)

  abbrev value : Result (List Symbol × Configuration) TextFault
  value = unless_third_name {A = List Symbol × Configuration} (table, numbered_phrase table p) (third_occurrence (phrase_names p))

  pub numbered_words-phrase : (limits : Limits) → numbered_words limits (phrase_prefix p) ≡ unless_refused {A = List Symbol × List Word} (in_limits limits) agree (table, items)
  numbered_words-phrase limits =
      let ws = phrase_prefix p in
      let same_table : table_over [] ws ≡ table = table-words ws [] ∙ ap (symbols_after []) (symbols_among-phrase p is) in
      let same_limits : list_all is_word_in_limits ws ≡ (list_all (λ s. fits_limits s.text s.arity) (phrase_symbols p) && list_all (λ n. nat_le n MAX_NAME) (phrase_names p)) =
      limits-words ws ∙ (λ i. list_all (λ s. fits_limits s.text s.arity) (symbols_among-phrase p is i) && list_all (λ n. nat_le n MAX_NAME) (names_among-phrase p is i)) in
      let same_arities : list_all (is_word_over table) ws ≡ agree = arities-words table ws ∙ ap (list_all (has_its_arity table)) (symbols_among-phrase p is) in
      ap (λ t. unless_refused {A = List Symbol × List Word} (list_all is_word_in_limits ws && nat_le (length t) (most_symbols limits)) (list_all (is_word_over t) ws) (t, map (word_from t) ws)) same_table
      ∙ (λ i. unless_refused {A = List Symbol × List Word} (same_limits i && nat_le (length table) (most_symbols limits)) (same_arities i) (table, items))

  -- where they have numbers, they write the configuration
  pub paired_words : (limits : Limits) (v : List Symbol × List Word) → Ok v ≡ numbered_words limits (phrase_prefix p) → IsPaired v.1 (length p.interface)
  paired_words limits v e =
      let same : v.1 ≡ items = ap (λ (x : List Symbol × List Word). x.1) (numbered_is (in_limits limits) agree (table, items) v (e ∙ numbered_words-phrase limits)) in
      rw same (paired-phrase table p is)

  -- where neither nodes nor terms of the interface are too many, the sense is that of the words
  pub sense-words : (limits : Limits) → nat_le (phrase_nodes p) (most_nodes limits) ≡ true → nat_le (length p.interface) (most_interface limits) ≡ true → sense_within limits p ≡ finished (length p.interface) (numbered_words limits (phrase_prefix p))
  sense-words limits few short = whole ∙ by_cases (in_limits limits) agree refl ∙ ap (finished (length p.interface)) (sym (numbered_words-phrase limits))
    where
      whole : sense_within limits p ≡ cond (in_limits limits) (cond agree value (Err Arity)) (Err Limit)
      whole = rw (few, short) (by_limits (in_limits limits))
        where
          by_limits : (a : Bool) → cond ((a && true) && true) (cond agree value (Err Arity)) (Err Limit) ≡ cond a (cond agree value (Err Arity)) (Err Limit)
          by_limits true = refl
          by_limits false = refl

      low : in_limits limits ≡ true → list_all (λ n. nat_le n MAX_NAME) (phrase_names p) ≡ true
      low all = (and_parts (list_all (λ s. fits_limits s.text s.arity) (phrase_symbols p)) (list_all (λ n. nat_le n MAX_NAME) (phrase_names p)) (and_parts (list_all (λ s. fits_limits s.text s.arity) (phrase_symbols p) && list_all (λ n. nat_le n MAX_NAME) (phrase_names p)) (nat_le (length table) (most_symbols limits)) all).0).1

      by_cases : (a o : Bool) → in_limits limits ≡ a → cond a (cond o value (Err Arity)) (Err Limit) ≡ finished (length p.interface) (unless_refused {A = List Symbol × List Word} a o (table, items))
      by_cases true true all =
          third_beside table (numbered_phrase table p) (third_occurrence (phrase_names p))
          ∙ ap (λ r. beside_table table (as_text_answer r)) (sym (restored-numbered limits table p few (low all)) ∙ ap wide_restored (sym (configuration_from-built table p is)))
      by_cases true false all = refl
      by_cases false o all = refl

-- a configuration of too many nodes, or of too many terms in its interface, is beyond the limits
pub sense-unfit : (limits : Limits) (p : Phrase) → (nat_le (length p.interface) (most_interface limits) && nat_le (phrase_nodes p) (most_nodes limits)) ≡ false → sense_within limits p ≡ Err Limit
sense-unfit limits p = by_cases _ (nat_le (length p.interface) (most_interface limits)) (nat_le (phrase_nodes p) (most_nodes limits)) _
  where
    by_cases : (a i k : Bool) (v : Result (List Symbol × Configuration) TextFault) → (i && k) ≡ false → cond ((a && i) && k) v (Err Limit) ≡ Err Limit
    by_cases true true true v unfit = absurd (false≢true (sym unfit))
    by_cases true true false v unfit = refl
    by_cases true false k v unfit = refl
    by_cases false i k v unfit = refl

-- a refusal stays where a function goes on with values alone
pub Refuses-through : {A B : Type 0} (f : Result A TextFault → Result B TextFault) (stays : (e : TextFault) → f (Err e) ≡ Err e) (e : TextFault) (a : Result A TextFault) → Refuses e a → Refuses e (f a)
Refuses-through f stays Memory a is = tt
Refuses-through f stays e a is = sym (stays e) ∙ ap f is
