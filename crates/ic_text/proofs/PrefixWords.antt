-- The words of a configuration in prefix notation: its names, its symbols and its nodes.
use Rattle.std.proofs.Common.{◌≡◌, ℕ, ◌+◌, Bool, true, false, ◌&&◌, cond, List, [], ◌∷◌, ◌++◌, length, refl, sym, ap, ◌∙◌, arith, length-append}
use Rattle.std.specs.Prelude.{nat_le, sum_by}
use Rattle.std.specs.List.{flat_map, list_all, AllByRecursion}
use Rattle.std.proofs.lemmas.List.Concat.{length-flat_map}
use Rattle.std.proofs.Math.Bool.{and_assoc}
use Rattle.ic_term.specs.Symbol.{Symbol, fits_limits, with_symbol}
use Rattle.ic_text.specs.declared.limits.TheConstants.{MAX_NAME}
use Rattle.ic_text.specs.Name.{is_name, name_number}
use Rattle.ic_text.specs.Source.{Source, leaf, node, Sources, no_sources, more_sources, Sides, Phrase, IsSource, AreSources, IsPhrase, source_names, names_of_sources, source_symbols, symbols_of_sources, source_nodes, nodes_of_sources, phrase_names, phrase_symbols, phrase_nodes, count_of}
use Rattle.ic_text.specs.Sense.{symbols_after, has_its_arity}
use Rattle.ic_text.specs.inner.Words.{prefix, prefix_of_sources, phrase_prefix, symbols_among, names_among}
use Rattle.ic_text.specs.inner.Numbered.{IsWord, table_over, is_word_in_limits, is_word_over}
use Rattle.ic_text.specs.lemmas.NameLemmas.{is_name-name_text, name_number-name_text, isnt_name-symbol}

pub symbols_among-append : (vs ws : List Symbol) → symbols_among (vs ++ ws) ≡ symbols_among vs ++ symbols_among ws
symbols_among-append [] ws = refl
symbols_among-append (v ∷ vs) ws = by_name (is_name v.text) (symbols_among (vs ++ ws)) (symbols_among-append vs ws)
  where
    by_name : (b : Bool) (both : List Symbol) → both ≡ symbols_among vs ++ symbols_among ws → cond b both (v ∷ both) ≡ cond b (symbols_among vs) (v ∷ symbols_among vs) ++ symbols_among ws
    by_name true both e = e
    by_name false both e = ap (λ l. v ∷ l) e

pub names_among-append : (vs ws : List Symbol) → names_among (vs ++ ws) ≡ names_among vs ++ names_among ws
names_among-append [] ws = refl
names_among-append (v ∷ vs) ws = by_name (is_name v.text) (names_among (vs ++ ws)) (names_among-append vs ws)
  where
    by_name : (b : Bool) (both : List ℕ) → both ≡ names_among vs ++ names_among ws → cond b (name_number v.text ∷ both) both ≡ cond b (name_number v.text ∷ names_among vs) (names_among vs) ++ names_among ws
    by_name true both e = ap (λ l. name_number v.text ∷ l) e
    by_name false both e = e

-- what a function that goes through `++` makes of lists joined end to end
module _ {A X Y : Type 0} (F : List X → List Y) (none : F [] ≡ []) (append : (xs ys : List X) → F (xs ++ ys) ≡ F xs ++ F ys) (P : A → Type 0) (f : A → List X) (g : A → List Y) (same : (x : A) → P x → F (f x) ≡ g x) where
  through-flat_map : (xs : List A) → AllByRecursion P xs → F (flat_map f xs) ≡ flat_map g xs
  through-flat_map [] all = none
  through-flat_map (x ∷ xs) all = append (f x) (flat_map f xs) ∙ ap (λ l. l ++ F (flat_map f xs)) (same x all.0) ∙ ap (λ l. g x ++ l) (through-flat_map xs all.1)

mutual
  symbols_among-prefix : (t : Source) → IsSource t → symbols_among (prefix t) ≡ source_symbols t
  symbols_among-prefix (leaf n) is = rw (is_name-name_text n) refl
  symbols_among-prefix (node text ts) is = rw (isnt_name-symbol text is.0) (ap (λ l. record { text = text; arity = count_of ts } ∷ l) (symbols_among-sources ts is.1))

  symbols_among-sources : (ts : Sources) → AreSources ts → symbols_among (prefix_of_sources ts) ≡ symbols_of_sources ts
  symbols_among-sources no_sources are = refl
  symbols_among-sources (more_sources t ts) are =
      symbols_among-append (prefix t) (prefix_of_sources ts) ∙ ap (λ l. l ++ symbols_among (prefix_of_sources ts)) (symbols_among-prefix t are.0) ∙ ap (λ l. source_symbols t ++ l) (symbols_among-sources ts are.1)

mutual
  pub names_among-prefix : (t : Source) → IsSource t → names_among (prefix t) ≡ source_names t
  names_among-prefix (leaf n) is = rw (is_name-name_text n) (ap (λ m. m ∷ []) (name_number-name_text n))
  names_among-prefix (node text ts) is = rw (isnt_name-symbol text is.0) (names_among-sources ts is.1)

  names_among-sources : (ts : Sources) → AreSources ts → names_among (prefix_of_sources ts) ≡ names_of_sources ts
  names_among-sources no_sources are = refl
  names_among-sources (more_sources t ts) are =
      names_among-append (prefix t) (prefix_of_sources ts) ∙ ap (λ l. l ++ names_among (prefix_of_sources ts)) (names_among-prefix t are.0) ∙ ap (λ l. source_names t ++ l) (names_among-sources ts are.1)

abbrev AreSideSources : Sides → Type 0
AreSideSources e = IsSource e.left × IsSource e.right

pub symbols_among-phrase : (p : Phrase) → IsPhrase p → symbols_among (phrase_prefix p) ≡ phrase_symbols p
symbols_among-phrase p is =
    symbols_among-append (flat_map prefix p.interface) (flat_map (λ (e : Sides). prefix e.left ++ prefix e.right) p.equations)
    ∙ ap (λ l. l ++ symbols_among (flat_map (λ (e : Sides). prefix e.left ++ prefix e.right) p.equations)) (through-flat_map symbols_among refl symbols_among-append IsSource prefix source_symbols symbols_among-prefix p.interface is.interface)
    ∙ ap (λ l. flat_map source_symbols p.interface ++ l) (through-flat_map symbols_among refl symbols_among-append AreSideSources (λ e. prefix e.left ++ prefix e.right) (λ e. source_symbols e.left ++ source_symbols e.right)
    (λ e are. symbols_among-append (prefix e.left) (prefix e.right) ∙ ap (λ l. l ++ symbols_among (prefix e.right)) (symbols_among-prefix e.left are.0) ∙ ap (λ l. source_symbols e.left ++ l) (symbols_among-prefix e.right are.1)) p.equations is.equations)

pub names_among-phrase : (p : Phrase) → IsPhrase p → names_among (phrase_prefix p) ≡ phrase_names p
names_among-phrase p is =
    names_among-append (flat_map prefix p.interface) (flat_map (λ (e : Sides). prefix e.left ++ prefix e.right) p.equations)
    ∙ ap (λ l. l ++ names_among (flat_map (λ (e : Sides). prefix e.left ++ prefix e.right) p.equations)) (through-flat_map names_among refl names_among-append IsSource prefix source_names names_among-prefix p.interface is.interface)
    ∙ ap (λ l. flat_map source_names p.interface ++ l) (through-flat_map names_among refl names_among-append AreSideSources (λ e. prefix e.left ++ prefix e.right) (λ e. source_names e.left ++ source_names e.right)
    (λ e are. names_among-append (prefix e.left) (prefix e.right) ∙ ap (λ l. l ++ names_among (prefix e.right)) (names_among-prefix e.left are.0) ∙ ap (λ l. source_names e.left ++ l) (names_among-prefix e.right are.1)) p.equations is.equations)

-- limits, table and arities of words, by their symbols and names
shuffle : (a b c : Bool) → (a && (b && c)) ≡ (b && (a && c))
shuffle true false c = refl
shuffle false true c = refl
shuffle _ _ c = refl

pub limits-words : (ws : List Symbol) → list_all is_word_in_limits ws ≡ (list_all (λ s. fits_limits s.text s.arity) (symbols_among ws) && list_all (λ n. nat_le n MAX_NAME) (names_among ws))
limits-words [] = refl
limits-words (w ∷ ws) = by_name (is_name w.text) (limits-words ws)
  where
    by_name : (b : Bool) → list_all is_word_in_limits ws ≡ (list_all (λ s. fits_limits s.text s.arity) (symbols_among ws) && list_all (λ n. nat_le n MAX_NAME) (names_among ws))
        → (cond b (nat_le (name_number w.text) MAX_NAME) (fits_limits w.text w.arity) && list_all is_word_in_limits ws)
        ≡ (list_all (λ s. fits_limits s.text s.arity) (cond b (symbols_among ws) (w ∷ symbols_among ws)) && list_all (λ n. nat_le n MAX_NAME) (cond b (name_number w.text ∷ names_among ws) (names_among ws)))
    by_name true e = ap (λ x. nat_le (name_number w.text) MAX_NAME && x) e ∙ shuffle (nat_le (name_number w.text) MAX_NAME) _ _
    by_name false e = ap (λ x. fits_limits w.text w.arity && x) e ∙ sym (and_assoc (fits_limits w.text w.arity) _ _)

pub table-words : (ws table : List Symbol) → table_over table ws ≡ symbols_after table (symbols_among ws)
table-words [] table = refl
table-words (w ∷ ws) table = by_name (is_name w.text) refl (table-words ws)
  where
    by_name : (b : Bool) → is_name w.text ≡ b → ((t : List Symbol) → table_over t ws ≡ symbols_after t (symbols_among ws)) → table_over table (w ∷ ws) ≡ symbols_after table (symbols_among (w ∷ ws))
    by_name true named next = rw named (next table)
    by_name false named next = rw named (next (with_symbol table w.text w.arity))

pub arities-words : (table ws : List Symbol) → list_all (is_word_over table) ws ≡ list_all (has_its_arity table) (symbols_among ws)
arities-words table [] = refl
arities-words table (w ∷ ws) = by_name (is_name w.text) (arities-words table ws)
  where
    by_name : (b : Bool) → list_all (is_word_over table) ws ≡ list_all (has_its_arity table) (symbols_among ws)
        → (cond b true (has_its_arity table w) && list_all (is_word_over table) ws) ≡ list_all (has_its_arity table) (cond b (symbols_among ws) (w ∷ symbols_among ws))
    by_name true e = e
    by_name false e = ap (λ x. has_its_arity table w && x) e

-- as many words as nodes
mutual
  pub length-prefix : (t : Source) → length (prefix t) ≡ source_nodes t
  length-prefix (leaf n) = refl
  length-prefix (node text ts) = omega (arith, length-prefix_of_sources ts)

  length-prefix_of_sources : (ts : Sources) → length (prefix_of_sources ts) ≡ nodes_of_sources ts
  length-prefix_of_sources no_sources = refl
  length-prefix_of_sources (more_sources t ts) = omega (arith, length-append (prefix t) (prefix_of_sources ts), length-prefix t, length-prefix_of_sources ts)

pub length-phrase_prefix : (p : Phrase) → length (phrase_prefix p) ≡ phrase_nodes p
length-phrase_prefix p =
    let two : (e : Sides) → length (prefix e.left ++ prefix e.right) ≡ source_nodes e.left + source_nodes e.right = λ e. omega (arith, length-append (prefix e.left) (prefix e.right), length-prefix e.left, length-prefix e.right) in
    length-append (flat_map prefix p.interface) (flat_map (λ (e : Sides). prefix e.left ++ prefix e.right) p.equations)
    ∙ ap (λ n. n + length (flat_map (λ (e : Sides). prefix e.left ++ prefix e.right) p.equations)) (length-flat_map prefix p.interface ∙ (λ i. sum_by (λ t. length-prefix t i) p.interface))
    ∙ ap (λ n. sum_by source_nodes p.interface + n) (length-flat_map (λ (e : Sides). prefix e.left ++ prefix e.right) p.equations ∙ (λ i. sum_by (λ e. two e i) p.equations))

-- each word is a name or a symbol
words-append : (vs ws : List Symbol) → AllByRecursion IsWord vs → AllByRecursion IsWord ws → AllByRecursion IsWord (vs ++ ws)
words-append [] ws are more = more
words-append (v ∷ vs) ws are more = (are.0, words-append vs ws are.1 more)

mutual
  words-prefix : (t : Source) → IsSource t → AllByRecursion IsWord (prefix t)
  words-prefix (leaf n) is = (rw (is_name-name_text n) refl, tt)
  words-prefix (node text ts) is = (rw (isnt_name-symbol text is.0) is.0, words-sources ts is.1)

  words-sources : (ts : Sources) → AreSources ts → AllByRecursion IsWord (prefix_of_sources ts)
  words-sources no_sources are = tt
  words-sources (more_sources t ts) are = words-append (prefix t) (prefix_of_sources ts) (words-prefix t are.0) (words-sources ts are.1)

words-flat_map : {A : Type 0} (P : A → Type 0) (f : A → List Symbol) (each : (x : A) → P x → AllByRecursion IsWord (f x)) (xs : List A) → AllByRecursion P xs → AllByRecursion IsWord (flat_map f xs)
words-flat_map P f each [] all = tt
words-flat_map P f each (x ∷ xs) all = words-append (f x) (flat_map f xs) (each x all.0) (words-flat_map P f each xs all.1)

pub words-phrase_prefix : (p : Phrase) → IsPhrase p → AllByRecursion IsWord (phrase_prefix p)
words-phrase_prefix p is =
    words-append (flat_map prefix p.interface) _ (words-flat_map IsSource prefix words-prefix p.interface is.interface)
    (words-flat_map AreSideSources (λ e. prefix e.left ++ prefix e.right) (λ e are. words-append (prefix e.left) (prefix e.right) (words-prefix e.left are.0) (words-prefix e.right are.1)) p.equations is.equations)
