use Rattle.std.proofs.Common.{◌∷◌, ap, ◌∙◌, arith}
use Rattle.std.proofs.lemmas.Result.{err_from_is_err_and}
use Rattle.ic_codec.proofs.WordReading.{agent_begins, none_without_bytes, none_without_number, none_without_symbol}
use Rattle.ic_codec.proofs.words.word_at.Goals as goal

pub returns-in_err-first-clause-refused : goal.returns-in_err-first-clause-refused
returns-in_err-first-clause-refused c =
    let e = err_from_is_err_and c.from_residual.result c.from_residual.ensures.1 in
    rw (e.1, e.2) (λ same. none_without_bytes c.args.symbols.now c.args.bytes.now c.in_err-first.ensures.refused.1)

pub returns-in_err-name-clause-refused : goal.returns-in_err-name-clause-refused
returns-in_err-name-clause-refused c =
    let e = err_from_is_err_and c.from_residual-in_err-name.result c.from_residual-in_err-name.ensures.1 in
    rw (e.1, e.2) (λ same. none_without_number c.args.symbols.now c.args.bytes.now c.in_ok-first.rest.now c.requires
    (c.in_ok-first.ensures.read ∙ ap (λ k. k ∷ c.in_ok-first.rest.now) c.if-first.true) c.in_err-name.ensures.refused.1)

pub returns-then-sym-len-clause-refused : goal.returns-then-sym-len-clause-refused
returns-then-sym-len-clause-refused c =
    λ same. none_without_symbol c.args.symbols.now c.in_ok-first.first c.args.bytes.now c.in_ok-first.rest.now
    c.in_ok-first.ensures.read c.if-first.false (omega arith)

pub returns-clause-read : goal.returns-clause-read
returns-clause-read c = agent_begins c.args.symbols.now c.in_ok-first.first c.arity.result c.args.bytes.now c.in_ok-first.rest.now c.in_ok-first.ensures.read c.arity.ensures
