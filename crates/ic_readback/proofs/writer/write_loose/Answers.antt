use Rattle.std.proofs.Common.{map, ap, subst}
use Rattle.ic_readback.specs.declared.writer.Writer.{Writer}
use Rattle.ic_readback.specs.inner.Writing.{Mended, part_of}
use Rattle.ic_readback.specs.inner.Mending.{Mends}
use Rattle.ic_readback.proofs.writer.write_loose.Goals as goal

pub returns : goal.returns
returns c =
    let old : Writer = record { loose = c.args.loose; indices = c.in_ok-indices.indices; stack = c.new.result; tokens = c.args.tokens; equations = c.args.equations } in
    let mends : Mends old c.write_all.new.self = c.in_ok-write_all.ensures.mends in
    record {
      done = mends.done;
      mended = subst (λ ps. Mended (map part_of c.args.loose.items) ps mends.done) (ap (map part_of) c.in_ok-write_all.ensures.all) mends.mended;
      tokens = mends.tokens;
      counted = mends.counted;
    }
