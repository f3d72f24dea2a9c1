-- Names are nodes, and those of words stand among the names of terms.
use Rattle.std.proofs.Common.{◌≡◌, ℕ, ◌≤◌, ◌&&◌, Bool, List, [], ◌∷◌, length, ap, sym, ◌∙◌, refl, arith, length-append}
use Rattle.std.specs.Prelude.{sum_by}
use Rattle.std.specs.List.{flat_map, list_all}
use Rattle.std.proofs.lemmas.List.Folds.{list_all-append}
use Rattle.std.proofs.lemmas.List.Sums.{sum_by-cons}
use Rattle.ic_term.specs.Tree.{Tree, name, agent, Trees, no_trees, more_trees, names, names_of, nodes, nodes_of}
use Rattle.ic_flat.specs.declared.word.Word.{Word}
use Rattle.ic_flat.specs.Words.{word_names}

mutual
  names_within : (t : Tree) → length (names t) ≤ nodes t
  names_within (name n) = omega arith
  names_within (agent s ts) = omega (arith, names_of_within ts)

  names_of_within : (ts : Trees) → length (names_of ts) ≤ nodes_of ts
  names_of_within no_trees = omega arith
  names_of_within (more_trees t ts) = omega (arith, length-append (names t) (names_of ts), names_within t, names_of_within ts)

pub list_names_within : (ts : List Tree) → length (flat_map names ts) ≤ sum_by nodes ts
list_names_within [] = omega arith
list_names_within (t ∷ ts) = omega (arith, length-append (names t) (flat_map names ts), names_within t, list_names_within ts, sum_by-cons nodes t ts)

-- what is tested of the names of each word is tested of all names
pub each_word : (p : ℕ → Bool) (ws : List Word) → list_all (λ w. list_all p (word_names w)) ws ≡ list_all p (flat_map word_names ws)
each_word p [] = refl
each_word p (w ∷ ws) =
    ap (λ b. list_all p (word_names w) && b) (each_word p ws) ∙ sym (list_all-append p (word_names w) (flat_map word_names ws))
