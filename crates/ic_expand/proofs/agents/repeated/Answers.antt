use Rattle.std.proofs.Common.{◌∙◌, Global, Vec, ℕ, sym}
use Rattle.std.proofs.lemmas.Grind.{replicate_next}
use Rattle.ic_expand.proofs.Lists.{pushed_map}
use Rattle.ic_expand.proofs.agents.repeated.Goals as goal

pub loop-preserved : goal.loop-preserved
loop-preserved c =
    pushed_map (λ (w : Vec ℕ Global). w.items) c.loop.texts.items c.push.new.self.items c.in_ok-from_slice.field-0 _ _ c.in_ok-push.ensures.items c.loop.invariant c.in_ok-from_slice.ensures.items
    ∙ sym (replicate_next c.loop.counter c.args.text.now)
