use Rattle.std.proofs.Common.{◌≡◌, ◌∙◌, ◌++◌, ◌∷◌, ℕ, List, [], Result, Ok, Err, true, ap, subst}
use Rattle.ic_term.specs.Configuration.{Configuration}
use Rattle.ic_term.specs.Symbol.{Symbol}
use Rattle.ic_rules.specs.System.{SystemParts}
use Rattle.ic_text.specs.Text.{printed}
use Rattle.ic_text.specs.declared.fault.TextFault.{TextFault}
use Rattle.ic_text.specs.declared.limits.Limits.TheVariants.{Served}
use Rattle.ic_round.specs.Rounds.{fits, round}
use Rattle.ic_round.specs.Settling.{settled}
use Rattle.ic_diagnostics.proofs.laws.what_is_answered_is_of_the_text.Goals as goal

abbrev settled_line : Result (List Symbol × Configuration) TextFault → List ℕ
settled_line (Ok read) = printed read.0 (settled read.1) ++ 10 ∷ []
settled_line (Err fault) = []

abbrev IsRounded : List ℕ → Result SystemParts TextFault → Type 0
IsRounded line (Ok s) = (fits s.rules.rules s.config ≡ true) × (line ≡ printed s.rules.symbols (round s.rules.rules s.config) ++ 10 ∷ [])
IsRounded line (Err fault) = Unit {0}

pub returns-clause-settled : goal.returns-clause-settled
returns-clause-settled c = λ input line symbols d reads is.
    is.prints ∙ ap settled_line (c.one_reading.ensures.answer Served input (Ok (is.symbols, is.configuration)) (Ok (symbols, d)) is.reads reads)

pub returns-clause-rounded : goal.returns-clause-rounded
returns-clause-rounded c = λ input line s reads is.
    subst (IsRounded line) (c.one_system_reading.ensures.answer Served input (Ok is.system) (Ok s) is.reads reads) (is.fits, is.prints)
