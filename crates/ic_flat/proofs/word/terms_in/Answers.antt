use Rattle.std.proofs.Common.{◌≡◌, ◌+◌, ◌-◌, ◌<◌, ◌≤◌, length, drop, get_or, subst, arith}
use Rattle.std.proofs.lemmas.List.{drop_more}
use Rattle.ic_flat.specs.declared.word.Word.TheVariants.{Name}
use Rattle.ic_flat.specs.Words.{arguments, forest, IsWhole}
use Rattle.ic_flat.specs.lemmas.WordLaws.{whole-drop}
use Rattle.ic_flat.proofs.word.terms_in.Goals as goal

-- a word that lacks arguments in what is left lacks them in the whole
pub returns-then-taken-terms : goal.returns-then-taken-terms
returns-then-taken-terms c = λ whole.
    let ws = c.args.words.now in
    let i = c.loop-i.i - 1 in
    let within : i < length ws = omega arith in
    let there = subst (λ l. IsWhole l) (drop_more ws i (Name 0) within) (whole-drop i ws whole) in
    let next : i + 1 ≡ c.loop-i.i = omega arith in
    let enough : arguments (get_or ws i (Name 0)) ≤ length (forest (drop c.loop-i.i ws)) = rw next at there.0 in
    absurd (omega arith)
