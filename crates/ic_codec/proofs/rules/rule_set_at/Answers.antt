use Rattle.std.proofs.Common.{map, arith}
use Rattle.std.proofs.lemmas.Result.{err_from_is_err_and}
use Rattle.ic_rules.specs.Written.{written}
use Rattle.ic_codec.proofs.RuleReading.{none_rules_count, none_rules, too_many_rules, none_set, set_begins}
use Rattle.ic_codec.proofs.rules.rule_set_at.Goals as goal

pub returns-in_err-count-clause-refused : goal.returns-in_err-count-clause-refused
returns-in_err-count-clause-refused c =
    let e = err_from_is_err_and c.from_residual.result c.from_residual.ensures.1 in
    rw (e.1, e.2) (λ same. none_rules_count c.args.symbols c.args.bytes.now c.in_err-count.ensures.refused.1)

pub returns-then-count-gt-MAX_RULES-clause-refused : goal.returns-then-count-gt-MAX_RULES-clause-refused
returns-then-count-gt-MAX_RULES-clause-refused c =
    λ same. too_many_rules c.args.symbols c.in_ok-count.count c.args.bytes.now c.in_ok-count.rest.now c.in_ok-count.ensures.small c.in_ok-count.ensures.read (omega arith)

pub returns-in_err-rules-clause-refused : goal.returns-in_err-rules-clause-refused
returns-in_err-rules-clause-refused c =
    let e = err_from_is_err_and c.from_residual-in_err-rules.result c.from_residual-in_err-rules.ensures.1 in
    rw (e.1, e.2) (λ same. none_rules c.args.symbols c.in_ok-count.count c.args.bytes.now c.in_ok-count.rest.now c.in_ok-count.ensures.small c.in_ok-count.ensures.read
    (c.in_err-rules.ensures.refused same))

pub returns-in_err-set-clause-refused : goal.returns-in_err-set-clause-refused
returns-in_err-set-clause-refused c =
    let e = err_from_is_err_and c.from_residual-in_err-set.result c.from_residual-in_err-set.ensures.1 in
    rw (e.1, e.2) (λ same. none_set c.build_takes_rule_sets.ensures.taken c.args.symbols c.in_ok-count.count c.args.bytes.now c.in_ok-count.rest.now
    (map written c.in_ok-rules.rules.items) _ c.in_ok-rules.rest.now c.requires c.in_ok-count.ensures.small c.in_ok-count.ensures.read c.in_ok-rules.ensures.read
    (c.in_err-set.ensures.refused same))

pub returns-clause-read : goal.returns-clause-read
returns-clause-read c =
    set_begins c.build_takes_rule_sets.ensures.taken c.refusals_come_in_order.ensures.taken c.args.symbols c.in_ok-count.count c.args.bytes.now c.in_ok-count.rest.now
    (map written c.in_ok-rules.rules.items) _ c.in_ok-rules.rest.now c.in_ok-set.set c.requires (omega arith) c.in_ok-count.ensures.read c.in_ok-rules.ensures.read c.in_ok-set.ensures.built
