use Rattle.std.proofs.Common.{◌≡◌, ◌+◌, ◌-◌, ◌<◌, length, refl, arith}
use Rattle.ic_nets.specs.inner.Hanging.{coming}
use Rattle.ic_nets.specs.declared.port.Port.TheVariants.{Auxiliary}
use Rattle.ic_nets.proofs.ListLemmas.{drop_at}
use Rattle.ic_nets.proofs.HangingLemmas.{stacked}
use Rattle.ic_nets.proofs.sketch.put_arguments.Goals as goal

pub loop-i-preserved : goal.loop-i-preserved
loop-i-preserved c =
    let terms = c.args.terms.now in
    let i = c.loop-i.i - 1 in
    let within : i < length terms = omega arith in
    let next : c.loop-i.i ≡ i + 1 = omega arith in
    stacked (Auxiliary c.args.agent) c.loop-i.i i terms c.index-terms-i.result _ c.loop-i.stack.items c.push.new.self.items (coming c.args.stack.now.items) next
    (drop_at terms i c.index-terms-i.result within c.index-terms-i.is) c.loop-i.invariant c.in_ok-push.ensures.items refl refl
