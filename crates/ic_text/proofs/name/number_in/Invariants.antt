use Rattle.std.proofs.Common.{◌≡◌, ◌-◌, ◌≤◌, true, drop, map}
use Rattle.std.specs.List.{list_all}
use Rattle.std.specs.Char.{is_ascii_digit}
use Rattle.std.specs.Int.Digits.{number_from_digits_after}
use Rattle.ic_text.specs.Name.{number_in}
use Rattle.ic_text.specs.declared.limits.TheConstants.{MAX_NAME}
use Rattle.ic_text.proofs.name.number_in.Given as goal

-- the number so far, with the digits that are left after it, is the whole number
abbrev pub invariant-loop-digit : goal.invariant-loop-digit
invariant-loop-digit l = record {
  fits : l.number ≤ MAX_NAME;
  digits : list_all is_ascii_digit (drop l.digit-index l.digits) ≡ true;
  same : number_from_digits_after 10 l.number (map (λ d. d - 48) (drop l.digit-index l.digits)) ≡ number_in l.digits;
}
