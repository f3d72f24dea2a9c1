use Rattle.std.proofs.Common.{refl}
use Rattle.std.proofs.lemmas.Result.{err_from_is_err_and}
use Rattle.ic_text.proofs.read.find_config.Goals as goal

pub returns-in_err-to_config-clause-refused : goal.returns-in_err-to_config-clause-refused
returns-in_err-to_config-clause-refused c =
    let e = err_from_is_err_and c.from_residual-in_err-to_config.result c.from_residual-in_err-to_config.ensures.1 in
    rw (e.1, e.2) (λ other. absurd (other refl))
