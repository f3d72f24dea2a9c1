use Rattle.std.proofs.Common.{◌++◌, ◌∙◌, is_some, sym, ap}
use Rattle.ic_check.proofs.Warned.{facing}
use Rattle.ic_check.proofs.warnings.put_facing.Goals as goal

pub returns : goal.returns
returns c =
    let left = c.args.left.now in
    let right = c.args.right.now in
    c.in_ok-push.ensures.items ∙ ap (λ l. c.args.out.now.items ++ l)
    (sym (facing c.args.rules.now.rules left right (ap is_some (sym c.find.ensures.rule) ∙ sym c.is_some.ensures ∙ c.if-is_some.false)))
