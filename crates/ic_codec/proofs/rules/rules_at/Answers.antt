use Rattle.std.proofs.Common.{[], ◌∷◌, map, ap, ◌∙◌, arith}
use Rattle.std.proofs.lemmas.List.{map-append}
use Rattle.std.proofs.lemmas.Result.{err_from_is_err_and}
use Rattle.ic_rules.specs.Written.{written}
use Rattle.ic_codec.proofs.Items.{many_more_as, none_many}
use Rattle.ic_codec.proofs.Unique.{rule_tells}
use Rattle.ic_codec.proofs.rules.rules_at.Goals as goal

pub returns-in_err-rule-clause-refused : goal.returns-in_err-rule-clause-refused
returns-in_err-rule-clause-refused c =
    let e = err_from_is_err_and c.from_residual-in_err-rule.result c.from_residual-in_err-rule.ensures.1 in
    rw (e.1, e.2) (λ same. none_many c.args.count (rule_tells c.args.symbols.now c.requires) (omega arith) c.loop.invariant (c.in_err-rule.ensures.refused same))

pub loop-preserved : goal.loop-preserved
loop-preserved c =
    many_more_as (map written c.push.new.self.items) (ap (map written) c.in_ok-push.ensures.items ∙ map-append written c.loop.rules.items (c.in_ok-rule.rule ∷ []))
    c.loop.invariant c.in_ok-rule.ensures.read
