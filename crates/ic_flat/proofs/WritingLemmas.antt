-- What the words of an agent are, and how many nodes it has, where its arguments are put on a stack.
use Rattle.std.proofs.Common.{◌≡◌, ℕ, ◌+◌, List, [], ◌∷◌, ◌++◌, length, sum_by, sym, ap, ◌∙◌, append_assoc, arith}
use Rattle.std.specs.List.{flat_map}
use Rattle.std.proofs.lemmas.List.Concat.{flat_map-append}
use Rattle.std.proofs.lemmas.List.Sums.{sum_by-append}
use Rattle.ic_term.specs.Tree.{Tree, agent, trees_of, nodes}
use Rattle.ic_term.specs.lemmas.TreeLaws.{list_of-trees_of, nodes_of-trees_of}
use Rattle.ic_flat.specs.declared.word.Word.{Word}
use Rattle.ic_flat.specs.declared.word.Word.TheVariants.{Agent}
use Rattle.ic_flat.specs.Words.{tree_words, trees_words}
use Rattle.ic_flat.specs.lemmas.WordLaws.{trees_words-trees_of}

tree_words-agent : (s : ℕ) (args : List Tree) → tree_words (agent s (trees_of args)) ≡ Agent s (length args) ∷ flat_map tree_words args
tree_words-agent s args =
    ap (λ n. Agent s n ∷ trees_words (trees_of args)) (ap length (list_of-trees_of args)) ∙ ap (λ l. Agent s (length args) ∷ l) (trees_words-trees_of args)

-- the word of an agent, and then the words of its arguments
pub agent-written : (old new : List Word) (s n : ℕ) (args rest after : List Tree) (t : Tree)
    → t ≡ agent s (trees_of args) → n ≡ length args → new ≡ old ++ Agent s n ∷ [] → after ≡ args ++ rest
    → new ++ flat_map tree_words after ≡ old ++ (tree_words t ++ flat_map tree_words rest)
agent-written old new s n args rest after t is count one all =
    (λ i. one i ++ flat_map tree_words (all i))
    ∙ append_assoc old (Agent s n ∷ []) (flat_map tree_words (args ++ rest))
    ∙ ap (λ l. old ++ Agent s n ∷ l) (flat_map-append tree_words args rest)
    ∙ ap (λ m. old ++ Agent s m ∷ (flat_map tree_words args ++ flat_map tree_words rest)) count
    ∙ ap (λ l. old ++ (l ++ flat_map tree_words rest)) (sym (ap tree_words is ∙ tree_words-agent s args))

-- the agent itself is a node more than its arguments
pub agent-fewer : (s : ℕ) (args rest after : List Tree) (t : Tree) → t ≡ agent s (trees_of args) → after ≡ args ++ rest
    → sum_by nodes after + 1 ≡ nodes t + sum_by nodes rest
agent-fewer s args rest after t is all =
    omega (arith, ap (sum_by nodes) all, sum_by-append nodes args rest, ap nodes is, nodes_of-trees_of args)
