use Rattle.std.proofs.Common.{◌∙◌, Global, Vec, ℕ, sym}
use Rattle.ic_expand.proofs.GenericLemmas.{name_pushed}
use Rattle.ic_expand.proofs.Lists.{pushed_map}
use Rattle.ic_expand.proofs.agents.names_from.Goals as goal

pub loop-number-preserved : goal.loop-number-preserved
loop-number-preserved c =
    pushed_map (λ (w : Vec ℕ Global). w.items) c.loop-number.names.items c.push.new.self.items c.in_ok-name.field-0 _ _ c.in_ok-push.ensures.items c.loop-number.invariant c.in_ok-name.ensures
    ∙ sym (name_pushed c.args.first c.loop-number.number c.loop-number.auto.number)
