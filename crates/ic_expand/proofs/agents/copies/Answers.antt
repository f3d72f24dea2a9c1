use Rattle.std.proofs.Common.{◌∙◌, Global, Vec, ℕ, sym}
use Rattle.ic_expand.proofs.GenericLemmas.{copies_next}
use Rattle.ic_expand.proofs.Lists.{pushed_map}
use Rattle.ic_expand.proofs.agents.copies.Goals as goal

pub loop-number-preserved : goal.loop-number-preserved
loop-number-preserved c =
    pushed_map (λ (w : Vec ℕ Global). w.items) c.loop-number.agents.items c.push.new.self.items c.in_ok-copy_at.field-0 _ _ c.in_ok-push.ensures.items c.loop-number.invariant c.in_ok-copy_at.ensures
    ∙ sym (copies_next c.args.copier.now c.loop-number.number)
