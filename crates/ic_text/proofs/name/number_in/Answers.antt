use Rattle.std.proofs.Common.{◌≡◌, ℕ, ◌+◌, ◌-◌, ◌*◌, ◌<◌, None, drop, map, get_or, sym, ap, ◌∙◌, arith}
use Rattle.std.specs.Int.Digits.{number_from_digits_after}
use Rattle.std.proofs.lemmas.List.{drop_more}
use Rattle.std.proofs.lemmas.Int.Digits.{number_after_ge}
use Rattle.std.proofs.lemmas.Bool.Decides.{nat_tests}
use Rattle.ic_text.specs.Name.{number_in, up_to}
use Rattle.ic_text.proofs.name.number_in.Goals as goal

up_to-none : (most n : ℕ) → most < n → None ≡ up_to most n
up_to-none most n above = grind (arith, nat_tests)

-- the number only grows with further digits
pub returns-then-number-gt-MAX_NAME : goal.returns-then-number-gt-MAX_NAME
returns-then-number-gt-MAX_NAME c =
    let ds = c.args.digits.now in
    let i = c.loop-digit.digit-index in
    let value = c.loop-digit.number * 10 + (get_or ds i 0 - 48) in
    let rest = map (λ d. d - 48) (drop (i + 1) ds) in
    let same : number_from_digits_after 10 value rest ≡ number_in ds = ap (λ xs. number_from_digits_after 10 c.loop-digit.number (map (λ d. d - 48) xs)) (sym (drop_more ds i 0 c.loop-digit-test.true)) ∙ c.loop-digit.invariant.same in
    up_to-none _ (number_in ds) (omega (arith, number_after_ge 10 value rest (omega arith), same, c.if-number-gt-MAX_NAME.true, c.from.ensures))
