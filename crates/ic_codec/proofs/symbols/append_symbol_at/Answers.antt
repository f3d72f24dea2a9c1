use Rattle.std.proofs.lemmas.Result.{err_from_is_err_and}
use Rattle.ic_codec.proofs.SymbolReading.{none_next_symbol}
use Rattle.ic_codec.proofs.symbols.append_symbol_at.Goals as goal

pub returns-in_err-append_symbol-clause-refused : goal.returns-in_err-append_symbol-clause-refused
returns-in_err-append_symbol-clause-refused c =
    let e = err_from_is_err_and c.from_residual-in_err-append_symbol.result c.from_residual-in_err-append_symbol.ensures.1 in
    rw (e.1, e.2) (λ same. none_next_symbol c.args.symbols.now c.args.bytes.now c.in_ok-text.text.now c.in_ok-text.rest.now c.in_ok-arity.arity c.in_ok-arity.rest.now
    c.in_ok-text.ensures.read c.in_ok-arity.ensures.read (c.in_err-append_symbol.ensures.refused same))
