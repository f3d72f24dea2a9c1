-- The names that a net is told with (this project's choice).
use Rattle.std.specs.Prelude.{◌≡◌, ◌≤◌, ◌<◌, ℕ, ◌+◌, ◌==◌, ◌&&◌, List, Bool, not, filter, length, map, get_or, nat_le, if◌then◌else◌}
use Rattle.std.specs.List.{flat_map, range_with_len, AllByRecursion}
use Rattle.ic_term.specs.Tree.{Pair}
use Rattle.ic_term.specs.Configuration.{Configuration, configuration_names, occurrences}
use Rattle.ic_rules.specs.Renaming.{renamed, first_occurrences, number_among}
use Rattle.ic_flat.specs.declared.word.Word.{Word}
use Rattle.ic_flat.specs.declared.word.Word.TheVariants.{Name, Agent}
use Rattle.ic_flat.specs.Words.{word_names}
use Rattle.ic_text.specs.declared.limits.TheConstants.{MAX_NAME}

-- an equation with each name turned into another
abbrev pub renamed_pair : (ℕ → ℕ) → Pair → Pair
renamed_pair f e = record { left = renamed f e.left; right = renamed f e.right }

-- a word with its name turned into another
abbrev pub renamed_word : (ℕ → ℕ) → Word → Word
renamed_word f (Name n) = Name (f n)
renamed_word f (Agent s arity) = Agent s arity

-- whether a name that occurs so often is kept: it is free, and may stand in a text
abbrev pub is_counted_kept : (times : ℕ) → ℕ → Bool
is_counted_kept times n = (times == 1) && nat_le n MAX_NAME

abbrev pub is_kept : List ℕ → ℕ → Bool
is_kept names n = is_counted_kept (occurrences n names) n

-- the numbers 0, 1, .. without the names that are kept; of twice as many numbers as names enough remain
abbrev pub spare_numbers : List ℕ → List ℕ
spare_numbers names = filter (λ n. not (is_kept names n)) (range_with_len 0 (length names + length names))

-- The name that a name is told by, where some can't stand in a text: its own where it is kept. Else it
-- is the spare number at its place by first occurrence.
abbrev pub told_name : List ℕ → ℕ → ℕ
told_name names n = if is_kept names n then n
    else get_or (spare_numbers names) (number_among (first_occurrences names) n) 0

-- words with their names turned so
abbrev pub renumbered_words : List Word → List Word
renumbered_words ws = map (renamed_word (told_name (flat_map word_names ws))) ws

-- A configuration with its names turned so, the interface before the equations; `next` is above all
-- names of texts.
abbrev pub renumbered : Configuration → Configuration
renumbered c = let names = configuration_names c in record {
  interface = map (renamed (told_name names)) c.interface;
  equations = map (renamed_pair (told_name names)) c.equations;
  next = MAX_NAME + 1;
}

-- different names of a list stay different
abbrev pub IsOneToOne : (ℕ → ℕ) → List ℕ → Type 0
IsOneToOne f ns = AllByRecursion (λ m. AllByRecursion (λ n. f m ≡ f n → m ≡ n) ns) ns

-- Names of a list are turned into others, and a text tells nothing of it. Different names stay different.
-- A free name stays as it is where it may stand in a text, and else it becomes one that may not.
pub record RenamesUntold (f : ℕ → ℕ) (names : List ℕ) : Type 0 where
  pub one_to_one : IsOneToOne f names
  pub kept : (n : ℕ) → occurrences n names ≡ 1 → n ≤ MAX_NAME → f n ≡ n
  pub great : (n : ℕ) → occurrences n names ≡ 1 → MAX_NAME < n → MAX_NAME < f n
