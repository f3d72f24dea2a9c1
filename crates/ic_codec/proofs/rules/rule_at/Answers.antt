use Rattle.std.proofs.Common.{map, sym, ◌∙◌}
use Rattle.std.proofs.lemmas.Bool.{false≢true}
use Rattle.std.proofs.lemmas.Result.{err_from_is_err_and}
use Rattle.ic_term.specs.Term.{tree}
use Rattle.ic_codec.proofs.RuleReading.{none_left, none_right, none_left_args, none_right_args, none_numbered, rule_begins}
use Rattle.ic_codec.proofs.rules.rule_at.Goals as goal

pub returns-in_err-left-clause-refused : goal.returns-in_err-left-clause-refused
returns-in_err-left-clause-refused c =
    let e = err_from_is_err_and c.from_residual.result c.from_residual.ensures.1 in
    rw (e.1, e.2) (λ same. none_left c.args.symbols.now c.args.budget c.args.bytes.now (c.in_err-left.ensures.refused same))

pub returns-in_err-right-clause-refused : goal.returns-in_err-right-clause-refused
returns-in_err-right-clause-refused c =
    let e = err_from_is_err_and c.from_residual-in_err-right.result c.from_residual-in_err-right.ensures.1 in
    rw (e.1, e.2) (λ same. none_right c.args.symbols.now c.args.budget c.in_ok-left.left c.args.bytes.now c.in_ok-left.rest.now c.in_ok-left.ensures.read (c.in_err-right.ensures.refused same))

pub returns-in_err-left_args-clause-refused : goal.returns-in_err-left_args-clause-refused
returns-in_err-left_args-clause-refused c =
    let e = err_from_is_err_and c.from_residual-in_err-left_args.result c.from_residual-in_err-left_args.ensures.1 in
    rw (e.1, e.2) (λ same. none_left_args c.args.symbols.now c.args.budget c.in_ok-left.left c.in_ok-right.right c.arity.result c.args.bytes.now c.in_ok-left.rest.now c.in_ok-right.rest.now
    c.in_ok-left.ensures.read c.in_ok-right.ensures.read c.arity.ensures (c.in_err-left_args.ensures.refused same))

pub returns-in_err-right_args-clause-refused : goal.returns-in_err-right_args-clause-refused
returns-in_err-right_args-clause-refused c =
    let e = err_from_is_err_and c.from_residual-in_err-right_args.result c.from_residual-in_err-right_args.ensures.1 in
    rw (e.1, e.2) (λ same. none_right_args c.args.symbols.now c.args.budget c.in_ok-left.left c.in_ok-right.right c.arity.result c.arity-2.result c.in_ok-left_args.budget c.args.bytes.now c.in_ok-left.rest.now c.in_ok-right.rest.now
    (map tree c.in_ok-left_args.left_args.items) c.in_ok-left_args.rest.now c.requires c.in_ok-left.ensures.read c.in_ok-right.ensures.read c.arity.ensures c.arity-2.ensures
    c.in_ok-left_args.ensures.read (c.in_err-right_args.ensures.refused same))

pub returns-clause-refused : goal.returns-clause-refused
returns-clause-refused c =
    λ same. none_numbered c.args.symbols.now c.args.budget c.in_ok-left.left c.in_ok-right.right c.arity.result c.arity-2.result c.in_ok-left_args.budget c.in_ok-right_args.budget c.args.bytes.now
    c.in_ok-left.rest.now c.in_ok-right.rest.now (map tree c.in_ok-left_args.left_args.items) c.in_ok-left_args.rest.now (map tree c.in_ok-right_args.right_args.items)
    c.in_ok-right_args.rest.now c.requires c.in_ok-left.ensures.read c.in_ok-right.ensures.read c.arity.ensures c.arity-2.ensures
    c.in_ok-left_args.ensures.read c.in_ok-right_args.ensures.read (λ is. false≢true (sym c.if-numbered.false ∙ c.in_ok-numbered.ensures.1 is))

pub returns-then-numbered-clause-read : goal.returns-then-numbered-clause-read
returns-then-numbered-clause-read c =
    rule_begins c.args.symbols.now c.args.budget c.in_ok-left.left c.in_ok-right.right c.arity.result c.arity-2.result c.in_ok-left_args.budget c.in_ok-right_args.budget c.args.bytes.now
    c.in_ok-left.rest.now c.in_ok-right.rest.now (map tree c.in_ok-left_args.left_args.items) c.in_ok-left_args.rest.now (map tree c.in_ok-right_args.right_args.items)
    c.in_ok-right_args.rest.now c.in_ok-left.ensures.read c.in_ok-right.ensures.read c.arity.ensures c.arity-2.ensures
    c.in_ok-left_args.ensures.read c.in_ok-right_args.ensures.read (c.in_ok-numbered.ensures.0 c.if-numbered.true)
