use Rattle.std.proofs.lemmas.Result.{err_from_is_err_and}
use Rattle.ic_codec.proofs.FlatReading.{none_pairs_count, none_words, none_restored, flat_begins}
use Rattle.ic_codec.proofs.flats.flat_at.Goals as goal

pub returns-in_err-pairs-clause-refused : goal.returns-in_err-pairs-clause-refused
returns-in_err-pairs-clause-refused c =
    let e = err_from_is_err_and c.from_residual-in_err-pairs.result c.from_residual-in_err-pairs.ensures.1 in
    rw (e.1, e.2) (λ same. none_pairs_count c.args.symbols.now c.args.next c.in_ok-terms.terms c.args.bytes.now c.in_ok-terms.rest.now c.in_ok-terms.ensures.read c.in_err-pairs.ensures.refused.1)

pub returns-in_err-words-clause-refused : goal.returns-in_err-words-clause-refused
returns-in_err-words-clause-refused c =
    let e = err_from_is_err_and c.from_residual-in_err-words.result c.from_residual-in_err-words.ensures.1 in
    rw (e.1, e.2) (λ same. none_words c.args.symbols.now c.args.next c.in_ok-terms.terms c.in_ok-pairs.pairs c.args.bytes.now c.in_ok-terms.rest.now c.in_ok-pairs.rest.now
    c.in_ok-pairs.ensures.small c.in_ok-terms.ensures.read c.in_ok-pairs.ensures.read (c.in_err-words.ensures.refused same))

pub returns-in_err-flat-clause-refused : goal.returns-in_err-flat-clause-refused
returns-in_err-flat-clause-refused c =
    let e = err_from_is_err_and c.from_residual-in_err-flat.result c.from_residual-in_err-flat.ensures.1 in
    rw (e.1, e.2) (λ same. none_restored c.restore_takes_configurations.ensures c.args.symbols.now c.args.next c.in_ok-terms.terms c.in_ok-pairs.pairs c.args.bytes.now c.in_ok-terms.rest.now
    c.in_ok-pairs.rest.now c.in_ok-words.words.items c.in_ok-words.rest.now c.requires c.in_ok-pairs.ensures.small c.in_ok-terms.ensures.read c.in_ok-pairs.ensures.read c.in_ok-words.ensures.read
    (c.in_err-flat.ensures.refused same))

pub returns-clause-read : goal.returns-clause-read
returns-clause-read c =
    flat_begins c.restore_takes_configurations.ensures c.args.symbols.now c.args.next c.in_ok-terms.terms c.in_ok-pairs.pairs c.args.bytes.now c.in_ok-terms.rest.now c.in_ok-pairs.rest.now
    c.in_ok-words.words.items c.in_ok-words.rest.now c.in_ok-flat.flat c.in_ok-terms.ensures.read c.in_ok-pairs.ensures.read c.in_ok-words.ensures.read c.in_ok-flat.ensures.restored
