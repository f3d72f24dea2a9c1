use Rattle.std.proofs.Common.{ℕ, List, Ok, sym, subst}
use Rattle.std.proofs.lemmas.Result.{err_from_is_err_and}
use Rattle.ic_text.specs.SystemText.{ReadsSystemWithin}
use Rattle.ic_text.specs.declared.limits.Limits.TheVariants.{Wide}
use Rattle.ic_keeping.proofs.going.rules_for.Goals as goal

pub returns-in_err-rules-clause-refused : goal.returns-in_err-rules-clause-refused
returns-in_err-rules-clause-refused c s is =
    let e = err_from_is_err_and c.from_residual.result c.from_residual.ensures.1 in
    rw (e.1, e.2) (c.in_err-rules.ensures.refused is.read (subst (λ (text : List ℕ). ReadsSystemWithin Wide text (Ok is.read)) (sym c.deref.ensures.value) is.reads))
