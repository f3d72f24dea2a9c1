use Rattle.std.proofs.Common.{◌∙◌, ◌*◌, ◌<◌, ℕ, length, subst, refl, sym, arith}
use Rattle.std.proofs.lemmas.Result.{err_from_is_err_and}
use Rattle.ic_state.specs.Words.{width}
use Rattle.ic_state.proofs.StateLemmas.{too_short, format_is, ended_is, rules_fit, words_fit, read_at}
use Rattle.ic_state.proofs.form.decode_after.Goals as goal

pub returns-in_err-head-clause-refused : goal.returns-in_err-head-clause-refused
returns-in_err-head-clause-refused c =
    let e = err_from_is_err_and c.from_residual.result c.from_residual.ensures.1 in
    rw (e.1, e.2) (λ same kept sound is. too_short kept c.args.bytes.now (c.in_err-head.ensures.refused (cc (same))) is)

pub returns-in_default-clause-refused : goal.returns-in_default-clause-refused
returns-in_default-clause-refused c = λ same kept sound is.
    let head = c.in_ok-head.head.items in
    let read = c.in_ok-head.ensures in
    let format = format_is head c.args.bytes.now c.in_ok-head.rest.now read.count read.small read.read kept sound is in
    c.in_default.ensures.none refl kept.narrow (read_at head 0 c.index.result.now c.index.ensures (omega (arith, read.count)) ∙ format)

pub returns-then-index-gt1-clause-refused : goal.returns-then-index-gt1-clause-refused
returns-then-index-gt1-clause-refused c = λ same kept sound is.
    let head = c.in_ok-head.head.items in
    let read = c.in_ok-head.ensures in
    let ended = ended_is head c.args.bytes.now c.in_ok-head.rest.now read.count read.small read.read kept sound is in
    omega (arith, c.if-index-gt1.true, read_at head 3 c.index-2.result.now c.index-2.ensures (omega (arith, read.count)), ended)

pub returns-in_err-by_rule-clause-refused : goal.returns-in_err-by_rule-clause-refused
returns-in_err-by_rule-clause-refused c =
    let e = err_from_is_err_and c.from_residual-in_err-by_rule.result c.from_residual-in_err-by_rule.ensures.1 in
    rw (e.1, e.2) (λ same kept sound is.
    let head = c.in_ok-head.head.items in
    let read = c.in_ok-head.ensures in
    let count = read_at head 4 c.index-3.result.now c.index-3.ensures (omega (arith, read.count)) in
    rules_fit head c.args.bytes.now c.in_ok-head.rest.now read.count read.small read.read kept sound is
    (subst (λ (n : ℕ). length c.in_ok-head.rest.now < 8 * n) count (c.in_err-by_rule.ensures.refused (cc (same)))))

pub returns-in_err-words-clause-refused : goal.returns-in_err-words-clause-refused
returns-in_err-words-clause-refused c =
    let e = err_from_is_err_and c.from_residual-in_err-words.result c.from_residual-in_err-words.ensures.1 in
    rw (e.1, e.2) (λ same kept sound is.
    let head = c.in_ok-head.head.items in
    let read = c.in_ok-head.ensures in
    let count = read_at head 4 c.index-3.result.now c.index-3.ensures (omega (arith, read.count)) in
    let form = sym (read_at head 0 c.index.result.now c.index.ensures (omega (arith, read.count))) ∙ c.in-Some.ensures.some in
    let words = read_at head 5 c.index-4.result.now c.index-4.ensures (omega (arith, read.count)) in
    words_fit head c.args.bytes.now c.in_ok-head.rest.now read.count read.small read.read kept sound is
    c.in-Some.narrow c.in_ok-by_rule.by_rule.items c.in_ok-by_rule.rest.now form (c.in_ok-by_rule.ensures.count ∙ count) c.in_ok-by_rule.ensures.small c.in_ok-by_rule.ensures.read
    (subst (λ (n : ℕ). length c.in_ok-by_rule.rest.now < width c.in-Some.narrow * n) words (c.in_err-words.ensures.refused (cc (same)))))
