-- Words in flat form write the terms of the words that they are made of.
use Rattle.std.proofs.Common.{◌≡◌, ◌*◌, ◌≤◌, List, [], ◌∷◌, ◌++◌, length, map, take, drop, refl, sym, ap, ◌∙◌, append-nil, length-append, arith}
use Rattle.std.specs.List.{flat_map, AllByRecursion}
use Rattle.std.proofs.lemmas.List.{length-map, take_at, drop_at}
use Rattle.ic_term.specs.Symbol.{Symbol}
use Rattle.ic_term.specs.Tree.{Tree, name, agent, list_of, trees_of}
use Rattle.ic_term.specs.Configuration.{configured}
use Rattle.ic_flat.specs.declared.word.Word.{Word}
use Rattle.ic_flat.specs.Words.{forest, IsWhole}
use Rattle.ic_flat.specs.Flat.{pairs_of}
use Rattle.ic_flat.specs.lemmas.WordLaws.{trees_of-list_of}
use Rattle.ic_text.specs.Source.{Source, leaf, node, Sources, no_sources, more_sources, Sides, Phrase, IsSource, AreSources, IsPhrase, count_of}
use Rattle.ic_text.specs.Sense.{number_in_table, numbered_tree, numbered_trees, numbered_pair, numbered_phrase}
use Rattle.ic_text.specs.inner.Words.{prefix, prefix_of_sources, phrase_prefix}
use Rattle.ic_text.specs.inner.Numbered.{word_from}
use Rattle.ic_text.specs.inner.Built.{IsPaired, configuration_from}
use Rattle.ic_text.specs.lemmas.NameLemmas.{is_name-name_text, name_number-name_text, isnt_name-symbol}
use Rattle.ic_text.proofs.Grammar.{AreSides}

module _ (table : List Symbol) where
  -- words over a table, before other words
  abbrev pub over : List Symbol → List Word → List Word
  over ws us = map (word_from table) ws ++ us

  over-append : (vs ws : List Symbol) (us : List Word) → over (vs ++ ws) us ≡ over vs (over ws us)
  over-append [] ws us = refl
  over-append (v ∷ vs) ws us = ap (λ l. word_from table v ∷ l) (over-append vs ws us)

  pub length-numbered_trees : (ts : Sources) → length (list_of (numbered_trees table ts)) ≡ count_of ts
  length-numbered_trees no_sources = refl
  length-numbered_trees (more_sources t ts) = omega (arith, length-numbered_trees ts)

  mutual
    built-prefix : (t : Source) (us : List Word) → IsSource t → forest (over (prefix t) us) ≡ numbered_tree table t ∷ forest us
    built-prefix (leaf n) us is = rw (is_name-name_text n) (ap (λ m. name m ∷ forest us) (name_number-name_text n))
    built-prefix (node text ts) us is =
        let after = built-sources ts us is.1 in
        let size = length-numbered_trees ts in
        let args = list_of (numbered_trees table ts) in
        rw (isnt_name-symbol text is.0)
        (ap (λ l. agent (number_in_table table text) (trees_of (take (count_of ts) l)) ∷ drop (count_of ts) l) after
        ∙ ap (λ l. agent (number_in_table table text) (trees_of l) ∷ drop (count_of ts) (args ++ forest us)) (take_at args (forest us) (count_of ts) size)
        ∙ ap (λ l. agent (number_in_table table text) (trees_of args) ∷ l) (drop_at args (forest us) (count_of ts) size)
        ∙ ap (λ l. agent (number_in_table table text) l ∷ forest us) (trees_of-list_of (numbered_trees table ts)))

    built-sources : (ts : Sources) (us : List Word) → AreSources ts → forest (over (prefix_of_sources ts) us) ≡ list_of (numbered_trees table ts) ++ forest us
    built-sources no_sources us are = refl
    built-sources (more_sources t ts) us are =
        ap forest (over-append (prefix t) (prefix_of_sources ts) us) ∙ built-prefix t (over (prefix_of_sources ts) us) are.0 ∙ ap (λ l. numbered_tree table t ∷ l) (built-sources ts us are.1)

  -- each of them has its arguments after it
  mutual
    whole-prefix : (t : Source) (us : List Word) → IsSource t → IsWhole us → IsWhole (over (prefix t) us)
    whole-prefix (leaf n) us is whole = rw (is_name-name_text n) (omega arith, whole)
    whole-prefix (node text ts) us is whole =
        let many : count_of ts ≤ length (forest (over (prefix_of_sources ts) us)) = omega (arith, ap length (built-sources ts us is.1), length-append (list_of (numbered_trees table ts)) (forest us), length-numbered_trees ts) in
        rw (isnt_name-symbol text is.0) (many, whole-sources ts us is.1 whole)

    whole-sources : (ts : Sources) (us : List Word) → AreSources ts → IsWhole us → IsWhole (over (prefix_of_sources ts) us)
    whole-sources no_sources us are whole = whole
    whole-sources (more_sources t ts) us are whole = rw (over-append (prefix t) (prefix_of_sources ts) us) (whole-prefix t (over (prefix_of_sources ts) us) are.0 (whole-sources ts us are.1 whole))

  built-interface : (ts : List Source) (us : List Word) → AllByRecursion IsSource ts → forest (over (flat_map prefix ts) us) ≡ map (numbered_tree table) ts ++ forest us
  built-interface [] us are = refl
  built-interface (t ∷ ts) us are =
      ap forest (over-append (prefix t) (flat_map prefix ts) us) ∙ built-prefix t (over (flat_map prefix ts) us) are.0 ∙ ap (λ l. numbered_tree table t ∷ l) (built-interface ts us are.1)

  whole-interface : (ts : List Source) (us : List Word) → AllByRecursion IsSource ts → IsWhole us → IsWhole (over (flat_map prefix ts) us)
  whole-interface [] us are whole = whole
  whole-interface (t ∷ ts) us are whole = rw (over-append (prefix t) (flat_map prefix ts) us) (whole-prefix t (over (flat_map prefix ts) us) are.0 (whole-interface ts us are.1 whole))

  -- the sides of equations, one after the other
  abbrev pub sides_trees : List Sides → List Tree
  sides_trees [] = []
  sides_trees (e ∷ es) = numbered_tree table e.left ∷ numbered_tree table e.right ∷ sides_trees es

  length-sides_trees : (es : List Sides) → length (sides_trees es) ≡ 2 * length es
  length-sides_trees [] = refl
  length-sides_trees (e ∷ es) = omega (arith, length-sides_trees es)

  -- the words of equations
  abbrev sides_prefix : List Sides → List Symbol
  sides_prefix es = flat_map (λ e. prefix e.left ++ prefix e.right) es

  over-sides : (e : Sides) (es : List Sides) → over (sides_prefix (e ∷ es)) [] ≡ over (prefix e.left) (over (prefix e.right) (over (sides_prefix es) []))
  over-sides e es = over-append (prefix e.left ++ prefix e.right) (sides_prefix es) [] ∙ over-append (prefix e.left) (prefix e.right) (over (sides_prefix es) [])

  built-equations : (es : List Sides) → AreSides es → forest (over (sides_prefix es) []) ≡ sides_trees es
  built-equations [] are = refl
  built-equations (e ∷ es) are =
      ap forest (over-sides e es)
      ∙ built-prefix e.left (over (prefix e.right) (over (sides_prefix es) [])) are.0.0
      ∙ ap (λ l. numbered_tree table e.left ∷ l) (built-prefix e.right (over (sides_prefix es) []) are.0.1 ∙ ap (λ l. numbered_tree table e.right ∷ l) (built-equations es are.1))

  whole-equations : (es : List Sides) → AreSides es → IsWhole (over (sides_prefix es) [])
  whole-equations [] are = tt
  whole-equations (e ∷ es) are = rw (over-sides e es) (whole-prefix e.left (over (prefix e.right) (over (sides_prefix es) [])) are.0.0 (whole-prefix e.right (over (sides_prefix es) []) are.0.1 (whole-equations es are.1)))

  pairs_of-sides_trees : (es : List Sides) → pairs_of (sides_trees es) ≡ map (numbered_pair table) es
  pairs_of-sides_trees [] = refl
  pairs_of-sides_trees (e ∷ es) = ap (λ l. numbered_pair table e ∷ l) (pairs_of-sides_trees es)

  -- the words of the sides of rules write them
  pub built-terms : (ts : List Source) → AllByRecursion IsSource ts → forest (map (word_from table) (flat_map prefix ts)) ≡ map (numbered_tree table) ts
  built-terms ts are = ap forest (sym (append-nil (map (word_from table) (flat_map prefix ts)))) ∙ built-interface ts [] are ∙ append-nil (map (numbered_tree table) ts)

  phrase-over : (p : Phrase) → map (word_from table) (phrase_prefix p) ≡ over (flat_map prefix p.interface) (over (sides_prefix p.equations) [])
  phrase-over p = sym (append-nil (map (word_from table) (phrase_prefix p))) ∙ over-append (flat_map prefix p.interface) (sides_prefix p.equations) []

  -- the terms that are built are those that are written
  built-phrase : (p : Phrase) → IsPhrase p → forest (map (word_from table) (phrase_prefix p)) ≡ map (numbered_tree table) p.interface ++ sides_trees p.equations
  built-phrase p is =
      ap forest (phrase-over p) ∙ built-interface p.interface (over (sides_prefix p.equations) []) is.interface ∙ ap (λ l. map (numbered_tree table) p.interface ++ l) (built-equations p.equations is.equations)

  pub paired-phrase : (p : Phrase) → IsPhrase p → IsPaired (map (word_from table) (phrase_prefix p)) (length p.interface)
  paired-phrase p is = record {
    whole = rw (phrase-over p) (whole-interface p.interface (over (sides_prefix p.equations) []) is.interface (whole-equations p.equations is.equations));
    equations = length p.equations;
    counted = omega (arith, ap length (built-phrase p is), length-append (map (numbered_tree table) p.interface) (sides_trees p.equations), length-map p.interface (numbered_tree table), length-sides_trees p.equations);
  }

  configuration_from-trees : (p : Phrase) → configuration_from (length p.interface) (map (numbered_tree table) p.interface ++ sides_trees p.equations) ≡ numbered_phrase table p
  configuration_from-trees p =
      let size = length-map p.interface (numbered_tree table) in
      ap (λ l. configured l (pairs_of (drop (length p.interface) (map (numbered_tree table) p.interface ++ sides_trees p.equations)))) (take_at (map (numbered_tree table) p.interface) (sides_trees p.equations) (length p.interface) size)
      ∙ ap (λ l. configured (map (numbered_tree table) p.interface) (pairs_of l)) (drop_at (map (numbered_tree table) p.interface) (sides_trees p.equations) (length p.interface) size)
      ∙ ap (configured (map (numbered_tree table) p.interface)) (pairs_of-sides_trees p.equations)

  -- so the configuration that is built is the one that is written
  pub configuration_from-built : (p : Phrase) → IsPhrase p → configuration_from (length p.interface) (forest (map (word_from table) (phrase_prefix p))) ≡ numbered_phrase table p
  configuration_from-built p is = ap (configuration_from (length p.interface)) (built-phrase p is) ∙ configuration_from-trees p
