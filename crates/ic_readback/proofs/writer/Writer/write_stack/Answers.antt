use Rattle.std.proofs.Common.{reverse, refl}
use Rattle.ic_readback.specs.declared.writer.Writer.{Writer}
use Rattle.ic_readback.proofs.Writers.{no_wrote, wrote_next, wrote_load, same_indexed}
use Rattle.ic_readback.proofs.writer.Writer.write_stack.Goals as goal

pub loop-token-init : goal.loop-token-init
loop-token-init c = no_wrote c.args.self.now

pub write_token-requires : goal.write_token-requires
write_token-requires c = same_indexed c.args.self.now c.loop-token.self c.loop-token.invariant.same c.requires

pub loop-token-smaller : goal.loop-token-smaller
loop-token-smaller c =
    let now : Writer = c.loop-token.self in
    let mid : Writer = record now { stack = c.pop.new.self } in
    wrote_load now mid c.write_token.new.self c.in-Some.token c.in-Some.ensures.items refl c.in_ok-write_token.ensures

pub loop-token-preserved : goal.loop-token-preserved
loop-token-preserved c =
    let now : Writer = c.loop-token.self in
    let mid : Writer = record now { stack = c.pop.new.self } in
    wrote_next (reverse c.args.self.now.stack.items) c.args.self.now now mid c.write_token.new.self c.in-Some.token c.loop-token.invariant c.in-Some.ensures.items refl refl refl refl
    c.in_ok-write_token.ensures
