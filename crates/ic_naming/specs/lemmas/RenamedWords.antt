-- Words with their names turned into others, against the terms that they write.
use Rattle.std.proofs.Common.{◌≡◌, ℕ, suc, ◌&&◌, List, [], ◌∷◌, ◌++◌, length, map, take, drop, slice_get, refl, sym, ap, ◌∙◌, arith}
use Rattle.std.specs.List.{flat_map, list_all}
use Rattle.std.proofs.lemmas.List.{map-append, length-map, take-map, drop-map}
use Rattle.ic_term.specs.Symbol.{Symbol, has_arity}
use Rattle.ic_term.specs.Tree.{Tree, name, agent, Trees, no_trees, more_trees, list_of, trees_of, Pair}
use Rattle.ic_rules.specs.Renaming.{renamed, renamed_trees}
use Rattle.ic_rules.specs.lemmas.RenamingLaws.{renamed_trees-trees_of}
use Rattle.ic_flat.specs.declared.word.Word.{Word}
use Rattle.ic_flat.specs.declared.word.Word.TheVariants.{Name, Agent}
use Rattle.ic_flat.specs.Words.{forest, is_word_over, IsWhole, tree_words, trees_words, with_word, word_names}
use Rattle.ic_flat.specs.Flat.{pairs_of, sides, configuration_of}
use Rattle.ic_naming.specs.Naming.{renamed_pair, renamed_word}

module _ (f : ℕ → ℕ) where
  -- ---- what renamed words write

  -- an agent takes as many renamed terms
  agent-renamed : (s arity : ℕ) (ts : List Tree) → with_word (Agent s arity) (map (renamed f) ts) ≡ map (renamed f) (with_word (Agent s arity) ts)
  agent-renamed s arity ts =
      (λ i. agent s (trees_of (take-map (renamed f) arity ts i)) ∷ drop-map (renamed f) arity ts i)
      ∙ ap (λ us. agent s us ∷ map (renamed f) (drop arity ts)) (sym (renamed_trees-trees_of f (take arity ts)))

  pub forest-renamed : (ws : List Word) → forest (map (renamed_word f) ws) ≡ map (renamed f) (forest ws)
  forest-renamed [] = refl
  forest-renamed (Name n ∷ ws) = ap (λ ts. name (f n) ∷ ts) (forest-renamed ws)
  forest-renamed (Agent s arity ∷ ws) = ap (with_word (Agent s arity)) (forest-renamed ws) ∙ agent-renamed s arity (forest ws)

  pub whole-renamed : (ws : List Word) → IsWhole ws → IsWhole (map (renamed_word f) ws)
  whole-renamed [] whole = tt
  whole-renamed (Name n ∷ ws) whole = (omega arith, whole-renamed ws whole.1)
  whole-renamed (Agent s arity ∷ ws) whole =
      let as_many : length (forest (map (renamed_word f) ws)) ≡ length (forest ws) = ap length (forest-renamed ws) ∙ length-map (forest ws) (renamed f) in
      (omega (arith, whole.0, as_many), whole-renamed ws whole.1)

  pub word_names-renamed : (ws : List Word) → flat_map word_names (map (renamed_word f) ws) ≡ map f (flat_map word_names ws)
  word_names-renamed [] = refl
  word_names-renamed (Name n ∷ ws) = ap (λ ns. f n ∷ ns) (word_names-renamed ws)
  word_names-renamed (Agent s arity ∷ ws) = word_names-renamed ws

  pub word_over-renamed : (ss : List Symbol) (ws : List Word) → list_all (is_word_over ss) (map (renamed_word f) ws) ≡ list_all (is_word_over ss) ws
  word_over-renamed ss [] = refl
  word_over-renamed ss (Name n ∷ ws) = word_over-renamed ss ws
  word_over-renamed ss (Agent s arity ∷ ws) = ap (λ b. has_arity arity (slice_get ss s) && b) (word_over-renamed ss ws)

  pairs_of-renamed : (ts : List Tree) → pairs_of (map (renamed f) ts) ≡ map (renamed_pair f) (pairs_of ts)
  pairs_of-renamed (t ∷ u ∷ ts) = ap (λ es. renamed_pair f (record { left = t; right = u }) ∷ es) (pairs_of-renamed ts)
  pairs_of-renamed _ = refl

  pub interface-renamed : (ws : List Word) (terms next : ℕ)
      → (configuration_of (map (renamed_word f) ws) terms next).interface ≡ map (renamed f) (configuration_of ws terms next).interface
  interface-renamed ws terms next = ap (take terms) (forest-renamed ws) ∙ take-map (renamed f) terms (forest ws)

  pub equations-renamed : (ws : List Word) (terms next : ℕ)
      → (configuration_of (map (renamed_word f) ws) terms next).equations ≡ map (renamed_pair f) (configuration_of ws terms next).equations
  equations-renamed ws terms next =
      ap (λ ts. pairs_of (drop terms ts)) (forest-renamed ws)
      ∙ ap pairs_of (drop-map (renamed f) terms (forest ws))
      ∙ pairs_of-renamed (drop terms (forest ws))

  -- ---- the words of renamed terms

  length-renamed : (ts : Trees) → length (list_of (renamed_trees f ts)) ≡ length (list_of ts)
  length-renamed no_trees = refl
  length-renamed (more_trees t ts) = ap suc (length-renamed ts)

  mutual
    words-renamed : (t : Tree) → tree_words (renamed f t) ≡ map (renamed_word f) (tree_words t)
    words-renamed (name n) = refl
    words-renamed (agent s ts) = λ i. Agent s (length-renamed ts i) ∷ trees_words-renamed ts i

    trees_words-renamed : (ts : Trees) → trees_words (renamed_trees f ts) ≡ map (renamed_word f) (trees_words ts)
    trees_words-renamed no_trees = refl
    trees_words-renamed (more_trees t ts) =
        (λ i. words-renamed t i ++ trees_words-renamed ts i) ∙ sym (map-append (renamed_word f) (tree_words t) (trees_words ts))

  list_words-renamed : (ts : List Tree) → flat_map tree_words (map (renamed f) ts) ≡ map (renamed_word f) (flat_map tree_words ts)
  list_words-renamed [] = refl
  list_words-renamed (t ∷ ts) =
      (λ i. words-renamed t i ++ list_words-renamed ts i) ∙ sym (map-append (renamed_word f) (tree_words t) (flat_map tree_words ts))

  sides-renamed : (es : List Pair) → sides (map (renamed_pair f) es) ≡ map (renamed f) (sides es)
  sides-renamed [] = refl
  sides-renamed (e ∷ es) = ap (λ l. renamed f e.left ∷ renamed f e.right ∷ l) (sides-renamed es)

  -- the words of a configuration's terms, the interface before the equations
  pub terms_words-renamed : (ts : List Tree) (es : List Pair)
      → flat_map tree_words (map (renamed f) ts ++ sides (map (renamed_pair f) es)) ≡ map (renamed_word f) (flat_map tree_words (ts ++ sides es))
  terms_words-renamed ts es =
      let terms : map (renamed f) ts ++ sides (map (renamed_pair f) es) ≡ map (renamed f) (ts ++ sides es) =
      ap (λ l. map (renamed f) ts ++ l) (sides-renamed es) ∙ sym (map-append (renamed f) ts (sides es)) in
      ap (flat_map tree_words) terms ∙ list_words-renamed (ts ++ sides es)
