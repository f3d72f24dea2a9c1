-- Lemmas, which a reader of the contracts doesn't need: words in prefix order against the terms that they
-- write.
use Rattle.std.specs.Prelude.{◌≡◌, ℕ, ◌+◌, ◌≤◌, List, [], ◌∷◌, ◌++◌, length, take, drop, sum_by, refl}
use Rattle.std.specs.List.{flat_map}
use Rattle.std.proofs.Common.{sym, ◌∙◌, ap, subst, arith, append_assoc, append-nil, zero, suc}
use Rattle.std.proofs.lemmas.List.{length-append, length-drop, length-take-le, take-append-drop, take_at, drop_at}
use Rattle.std.proofs.lemmas.List.Concat.{flat_map-append}
use Rattle.std.proofs.lemmas.List.Sums.{sum_by-cons, sum_by-take-drop}
use Rattle.ic_term.specs.Tree.{Tree, name, agent, Trees, no_trees, more_trees, list_of, trees_of, nodes}
use Rattle.ic_term.specs.lemmas.TreeLaws.{list_of-trees_of, nodes_of-trees_of}
use Rattle.ic_flat.specs.declared.word.Word.{Word}
use Rattle.ic_flat.specs.declared.word.Word.TheVariants.{Name, Agent}
use Rattle.ic_flat.specs.Words.{arguments, with_word, forest, IsWhole, tree_words, trees_words}

pub trees_of-list_of : (ts : Trees) → trees_of (list_of ts) ≡ ts
trees_of-list_of no_trees = refl
trees_of-list_of (more_trees t ts) = ap (more_trees t) (trees_of-list_of ts)

pub trees_words-trees_of : (ts : List Tree) → trees_words (trees_of ts) ≡ flat_map tree_words ts
trees_words-trees_of [] = refl
trees_words-trees_of (t ∷ ts) = ap (λ l. tree_words t ++ l) (trees_words-trees_of ts)

-- ---- words that are written are read back

-- an agent takes exactly its arguments
with_word-agent : (s : ℕ) (ts : Trees) (us : List Tree) → with_word (Agent s (length (list_of ts))) (list_of ts ++ us) ≡ agent s ts ∷ us
with_word-agent s ts us =
    ap (λ l. agent s (trees_of l) ∷ drop (length (list_of ts)) (list_of ts ++ us)) (take_at (list_of ts) us (length (list_of ts)) refl)
    ∙ ap (λ l. agent s (trees_of (list_of ts)) ∷ l) (drop_at (list_of ts) us (length (list_of ts)) refl)
    ∙ ap (λ l. agent s l ∷ us) (trees_of-list_of ts)

mutual
  -- the words of a term write it in front of what the words after them write
  pub forest-tree_words : (t : Tree) (ws : List Word) → forest (tree_words t ++ ws) ≡ t ∷ forest ws
  forest-tree_words (name n) ws = refl
  forest-tree_words (agent s ts) ws =
      ap (with_word (Agent s (length (list_of ts)))) (forest-trees_words ts ws) ∙ with_word-agent s ts (forest ws)

  pub forest-trees_words : (ts : Trees) (ws : List Word) → forest (trees_words ts ++ ws) ≡ list_of ts ++ forest ws
  forest-trees_words no_trees ws = refl
  forest-trees_words (more_trees t ts) ws =
      ap forest (append_assoc (tree_words t) (trees_words ts) ws)
      ∙ forest-tree_words t (trees_words ts ++ ws)
      ∙ ap (λ l. t ∷ l) (forest-trees_words ts ws)

mutual
  pub whole-tree_words : (t : Tree) (ws : List Word) → IsWhole ws → IsWhole (tree_words t ++ ws)
  whole-tree_words (name n) ws whole = (omega arith, whole)
  whole-tree_words (agent s ts) ws whole =
      let after = ap length (forest-trees_words ts ws) ∙ length-append (list_of ts) (forest ws) in
      let there : length (list_of ts) ≤ length (forest (trees_words ts ++ ws)) = omega arith in
      (there, whole-trees_words ts ws whole)

  pub whole-trees_words : (ts : Trees) (ws : List Word) → IsWhole ws → IsWhole (trees_words ts ++ ws)
  whole-trees_words no_trees ws whole = whole
  whole-trees_words (more_trees t ts) ws whole =
      subst (λ l. IsWhole l) (sym (append_assoc (tree_words t) (trees_words ts) ws)) (whole-tree_words t (trees_words ts ++ ws) (whole-trees_words ts ws whole))

pub forest-flat_map : (ts : List Tree) (ws : List Word) → forest (flat_map tree_words ts ++ ws) ≡ ts ++ forest ws
forest-flat_map ts ws =
    ap (λ l. forest (l ++ ws)) (sym (trees_words-trees_of ts)) ∙ forest-trees_words (trees_of ts) ws ∙ ap (λ l. l ++ forest ws) (list_of-trees_of ts)

pub whole-flat_map : (ts : List Tree) (ws : List Word) → IsWhole ws → IsWhole (flat_map tree_words ts ++ ws)
whole-flat_map ts ws whole = subst (λ l. IsWhole (l ++ ws)) (trees_words-trees_of ts) (whole-trees_words (trees_of ts) ws whole)

-- the words of terms write these terms and no others
pub forest-words : (ts : List Tree) → forest (flat_map tree_words ts) ≡ ts
forest-words ts = ap forest (sym (append-nil (flat_map tree_words ts))) ∙ forest-flat_map ts [] ∙ append-nil ts

pub whole-words : (ts : List Tree) → IsWhole (flat_map tree_words ts)
whole-words ts = subst (λ l. IsWhole l) (append-nil (flat_map tree_words ts)) (whole-flat_map ts [] tt)

-- ---- words that are read are written back

-- whole words are those of the terms that they write
pub words-forest : (ws : List Word) → IsWhole ws → flat_map tree_words (forest ws) ≡ ws
words-forest [] whole = refl
words-forest (Name n ∷ ws) whole = ap (λ l. Name n ∷ l) (words-forest ws whole.1)
words-forest (Agent s arity ∷ ws) whole =
    let ts = take arity (forest ws) in
    let us = drop arity (forest ws) in
    ap (λ n. Agent s n ∷ (trees_words (trees_of ts) ++ flat_map tree_words us)) (ap length (list_of-trees_of ts) ∙ length-take-le arity (forest ws) whole.0)
    ∙ ap (λ l. Agent s arity ∷ (l ++ flat_map tree_words us)) (trees_words-trees_of ts)
    ∙ ap (λ l. Agent s arity ∷ l) (sym (flat_map-append tree_words ts us) ∙ ap (flat_map tree_words) (take-append-drop arity (forest ws)) ∙ words-forest ws whole.1)

-- words after whole words write their terms after those
pub forest-append : (vs ws : List Word) → IsWhole vs → forest (vs ++ ws) ≡ forest vs ++ forest ws
forest-append vs ws whole = ap (λ l. forest (l ++ ws)) (sym (words-forest vs whole)) ∙ forest-flat_map (forest vs) ws

pub whole-append : (vs ws : List Word) → IsWhole vs → IsWhole ws → IsWhole (vs ++ ws)
whole-append vs ws whole after = subst (λ l. IsWhole (l ++ ws)) (words-forest vs whole) (whole-flat_map (forest vs) ws after)

-- what follows any place of whole words is whole
pub whole-drop : (n : ℕ) (ws : List Word) → IsWhole ws → IsWhole (drop n ws)
whole-drop zero ws whole = whole
whole-drop (suc n) [] whole = whole
whole-drop (suc n) (w ∷ ws) whole = whole-drop n ws whole.1

-- ---- how many

length-with_word : (w : Word) (ts : List Tree) → arguments w ≤ length ts → length (with_word w ts) + arguments w ≡ length ts + 1
length-with_word (Name n) ts there = omega arith
length-with_word (Agent s arity) ts there = omega (arith, length-drop arity ts)

-- a word makes one term of those that it takes
pub length-forest : (w : Word) (ws : List Word) → arguments w ≤ length (forest ws) → length (forest (w ∷ ws)) + arguments w ≡ length (forest ws) + 1
length-forest w ws there = length-with_word w (forest ws) there

-- there are no more terms than words
length-with_word-le : (w : Word) (ts : List Tree) → length (with_word w ts) ≤ length ts + 1
length-with_word-le (Name n) ts = omega arith
length-with_word-le (Agent s arity) ts = omega (arith, length-drop arity ts)

pub forest-le : (ws : List Word) → length (forest ws) ≤ length ws
forest-le [] = omega arith
forest-le (w ∷ ws) = omega (arith, length-with_word-le w (forest ws), forest-le ws)

-- each word is a node
pub nodes-forest : (ws : List Word) → sum_by nodes (forest ws) ≡ length ws
nodes-forest [] = refl
nodes-forest (Name n ∷ ws) = omega (arith, sum_by-cons nodes (name n) (forest ws), nodes-forest ws)
nodes-forest (Agent s arity ∷ ws) =
    let ts = take arity (forest ws) in
    omega (arith, sum_by-cons nodes (agent s (trees_of ts)) (drop arity (forest ws)), nodes_of-trees_of ts, sum_by-take-drop nodes (forest ws) arity, nodes-forest ws)
