-- For private functions: whether parts make a wide configuration.
use Rattle.std.specs.Prelude.{◌≡◌, Result, Ok, Err}
use Rattle.ic_term.specs.declared.config.ConfigFault.{ConfigFault}
use Rattle.ic_term.specs.Configuration.{Configuration, wide_restored}
use Rattle.ic_term.specs.ConfigFault.{Answers}

-- it passes where it is restored as it is, and else fails as that is refused, unless a growth was refused
abbrev pub Tests : Result (Unit {0}) ConfigFault → Configuration → Type 0
Tests (Ok _) c = Ok c ≡ wide_restored c
Tests (Err fault) c = Answers (Err fault) (wide_restored c)
