-- Words of a rule's terms with their names made higher, and the products that they are put in.
use Rattle.std.proofs.Common.{◌≡◌, ℕ, suc, ◌-◌, ◌<◌, List, ◌∷◌, ◌++◌, length, map, refl, sym, ap, ◌∙◌, append_assoc, arith}
use Rattle.std.specs.List.{flat_map}
use Rattle.std.proofs.lemmas.List.{map-append}
use Rattle.ic_term.specs.Tree.{Tree, name, agent, Trees, no_trees, more_trees, list_of}
use Rattle.ic_rules.specs.Renaming.{renamed_trees}
use Rattle.ic_rules.specs.Rule.{Rule}
use Rattle.ic_flat.specs.declared.word.Word.TheVariants.{Agent}
use Rattle.ic_flat.specs.Words.{forest, IsWhole, tree_words, trees_words}
use Rattle.ic_flat.specs.lemmas.WordLaws.{forest-words, forest-append, whole-words, whole-append}
use Rattle.ic_flat_rules.specs.RuleWords.{rule_words}
use Rattle.ic_flat_round.specs.inner.RuleWords.{above, raised_word, raised_words, product_words, against_words}

count_same : (f : ℕ → ℕ) (ts : Trees) → length (list_of (renamed_trees f ts)) ≡ length (list_of ts)
count_same f no_trees = refl
count_same f (more_trees t ts) = ap suc (count_same f ts)

mutual
  -- the words of a term with its names made higher
  pub raised-words : (base : ℕ) (t : Tree) → map (raised_word base) (tree_words t) ≡ raised_words base t
  raised-words base (name n) = refl
  raised-words base (agent s ts) =
      λ i. Agent s (sym (count_same (above base) ts) i) ∷ raised-trees_words base ts i

  raised-trees_words : (base : ℕ) (ts : Trees) → map (raised_word base) (trees_words ts) ≡ trees_words (renamed_trees (above base) ts)
  raised-trees_words base no_trees = refl
  raised-trees_words base (more_trees t ts) =
      map-append (raised_word base) (tree_words t) (trees_words ts) ∙ (λ i. raised-words base t i ++ raised-trees_words base ts i)

-- one argument more, against one term more
pub against-more : (base due : ℕ) (ts us ts' us' : List Tree) (t u : Tree) → 0 < due → ts ≡ t ∷ ts' → us ≡ u ∷ us'
    → against_words base due ts us ≡ product_words base t u ++ against_words base (due - 1) ts' us'
against-more base due ts us ts' us' t u some first second =
    let one : due ≡ suc (due - 1) = omega (arith, some) in
    (λ i. against_words base (one i) (first i) (second i))
    ∙ sym (append_assoc (tree_words t) (raised_words base u) (against_words base (due - 1) ts' us'))

-- what a rule's words write
pub forest-rule_words : (r : Rule) → forest (rule_words r) ≡ r.left_args ++ r.right_args
forest-rule_words r =
    forest-append (flat_map tree_words r.left_args) (flat_map tree_words r.right_args) (whole-words r.left_args)
    ∙ (λ i. forest-words r.left_args i ++ forest-words r.right_args i)

pub whole-rule_words : (r : Rule) → IsWhole (rule_words r)
whole-rule_words r = whole-append (flat_map tree_words r.left_args) (flat_map tree_words r.right_args) (whole-words r.left_args) (whole-words r.right_args)
