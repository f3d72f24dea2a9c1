use Rattle.std.proofs.Common.{refl, sym, ap, ◌∙◌, inl, inr, is_some}
use Rattle.std.proofs.lemmas.Result.{err_from_is_err_and}
use Rattle.ic_text.specs.inner.Numbered.{word_found}
use Rattle.ic_text.specs.inner.Prefix.{node_of}
use Rattle.ic_text.proofs.NumberedSoFar.{some-or, takes_clash, takes_word}
use Rattle.ic_text.proofs.number.Numbering.take.Goals as goal

pub returns-in_ok-push-in-Ok-clause-went : goal.returns-in_ok-push-in-Ok-clause-went
returns-in_ok-push-in-Ok-clause-went c =
    let w = node_of c.args.node.now in
    takes_word w (word_found c.args.limits c.args.self.now.symbols w) _ c.args.self.now _ c.in-Ok.ensures.word c.in-Ok.ensures.symbols c.in_ok-push-in-Ok.ensures.items refl

pub returns-in_err-push-in-Ok-clause-stopped : goal.returns-in_err-push-in-Ok-clause-stopped
returns-in_err-push-in-Ok-clause-stopped c =
    let e = err_from_is_err_and c.from_residual.result c.from_residual.ensures.1 in
    rw e.1 (inl e.2)

pub returns-in-Err-Limit-clause-stopped : goal.returns-in-Err-Limit-clause-stopped
returns-in-Err-Limit-clause-stopped c =
    let item = rw c.in-Err-Limit.field-0-is at c.in-Err-Limit.ensures.word in
    inr (sym item, c.passed.ensures)

pub returns-in-Err-Arity-clause-went : goal.returns-in-Err-Arity-clause-went
returns-in-Err-Arity-clause-went c =
    let w = node_of c.args.node.now in
    let item = rw c.in-Err-Arity.field-0-is at c.in-Err-Arity.ensures.word in
    takes_clash w (word_found c.args.limits c.args.self.now.symbols w) c.in-Err-Arity.symbol c.args.self.now _ item
    ((rw c.in-Err-Arity.field-0-is at c.in-Err-Arity.ensures.same) (λ e. cc)) refl (ap is_some c.or-self.ensures ∙ some-or _ _)

pub returns-in-Err-Memory-clause-stopped : goal.returns-in-Err-Memory-clause-stopped
returns-in-Err-Memory-clause-stopped c = inl c.untold.ensures
