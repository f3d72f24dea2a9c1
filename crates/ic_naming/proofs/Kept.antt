-- Free names that may stand in a text are kept, and no others.
use Rattle.std.proofs.Common.{◌≡◌, ℕ, ◌≤◌, ◌==◌, true, List, refl}
use Rattle.std.specs.Prelude.{nat_le}
use Rattle.std.proofs.lemmas.Bool.{and_from, and_parts, eq-eqb, eqb-true, le-leb}
use Rattle.ic_term.specs.Configuration.{occurrences}
use Rattle.ic_text.specs.declared.limits.TheConstants.{MAX_NAME}
use Rattle.ic_naming.specs.Naming.{is_kept, told_name}

pub kept_once : (names : List ℕ) (n : ℕ) → is_kept names n ≡ true → occurrences n names ≡ 1
kept_once names n kept = eqb-true (occurrences n names) 1 (and_parts (occurrences n names == 1) (nat_le n MAX_NAME) kept).0

pub free_kept : (names : List ℕ) (n : ℕ) → occurrences n names ≡ 1 → n ≤ MAX_NAME → is_kept names n ≡ true
free_kept names n once low = and_from (occurrences n names == 1) (nat_le n MAX_NAME) (eq-eqb (occurrences n names) 1 once) (le-leb n MAX_NAME low)

pub told_keeps : (names : List ℕ) (n : ℕ) → occurrences n names ≡ 1 → n ≤ MAX_NAME → told_name names n ≡ n
told_keeps names n once low = let kept : is_kept names n ≡ true = free_kept names n once low in rw kept refl
