-- Which terms words stand for.
use Rattle.std.specs.Prelude.{◌≡◌, ℕ, ◌-◌, ◌<◌, ◌==◌, List, true, Some, length, slice_get, if◌then◌else◌}
use Rattle.std.specs.Option.{option_map_or}
use Rattle.ic_term.specs.Tree.{Tree, name, agent, no_trees}
use Rattle.ic_arena.specs.declared.word.Word.{Word}
use Rattle.ic_arena.specs.declared.word.TheConstants.{GIVEN}
use Rattle.ic_arena.specs.Word.{word_eq}
use Rattle.ic_machine.specs.Separate.{is_constant_tag}

-- How words are read: the arities of the symbols, the numbers of the names that were given once, and the number of the
-- name that stands for each place.
pub record Numbers : Type 0 where
  pub arities : List ℕ
  pub given : List ℕ
  pub of_place : Word → ℕ

-- Places have different names, and none that was given. No symbol has the tag of a given name.
pub record AreNumbers (n : Numbers) : Type 0 where
  pub apart : (v w : Word) → n.of_place v ≡ n.of_place w → word_eq v w ≡ true
  pub not_given : (i x : ℕ) (w : Word) → slice_get n.given i ≡ Some x → ¬ (n.of_place w ≡ x)
  pub few : length n.arities < GIVEN

-- the term of a word that names no place: a name that was given, or an agent without arguments
abbrev pub constant : Numbers → Word → Tree
constant n w =
    if w.tag == GIVEN
    then option_map_or name (slice_get n.given w.index) (agent (w.tag - 1) no_trees)
    else agent (w.tag - 1) no_trees

-- The term of a word. A place stands as a name, whatever is there.
abbrev pub term : Numbers → Word → Tree
term n w = if is_constant_tag n.arities w.tag then constant n w else name (n.of_place w)
