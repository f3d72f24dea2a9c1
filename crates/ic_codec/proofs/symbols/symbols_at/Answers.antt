use Rattle.std.proofs.Common.{arith}
use Rattle.std.proofs.lemmas.Result.{err_from_is_err_and}
use Rattle.ic_codec.proofs.SymbolReading.{symbols_none, too_many_symbols, none_further}
use Rattle.ic_codec.proofs.symbols.symbols_at.Goals as goal

pub returns-then-count-gt-MAX_SYMBOLS-clause-refused : goal.returns-then-count-gt-MAX_SYMBOLS-clause-refused
returns-then-count-gt-MAX_SYMBOLS-clause-refused c =
    λ same. too_many_symbols c.in_ok-count.count c.args.bytes.now c.in_ok-count.rest.now c.in_ok-count.ensures.read (omega arith)

pub returns-in_err-rest-clause-refused : goal.returns-in_err-rest-clause-refused
returns-in_err-rest-clause-refused c =
    let e = err_from_is_err_and c.from_residual-in_err-rest.result c.from_residual-in_err-rest.ensures.1 in
    rw (e.1, e.2) (λ same. symbols_none c.in_ok-count.count c.args.bytes.now c.in_ok-count.rest.now c.in_ok-count.ensures.read
    (none_further c.numbering_makes_exactly_such_symbols.ensures.earlier c.loop.symbols c.in_ok-count.count c.in_ok-count.rest.now c.loop.rest.now
    c.loop.invariant.0 (omega (arith, c.loop.invariant.1)) (c.in_err-rest.ensures.refused same)))
