use Rattle.std.proofs.Common.{◌∙◌, refl, arith}
use Rattle.ic_workers.specs.inner.Keeping.{part_of}
use Rattle.ic_workers.proofs.Lists.{same_length, same_set}
use Rattle.ic_workers.proofs.kept.Hand.forget.Goals as goal

pub loop-place-preserved : goal.loop-place-preserved
loop-place-preserved c =
    let len = same_length part_of c.loop-place.self.parts.items c.args.self.now.parts.items c.loop-place.invariant.parts in
    record {
      parts = same_set part_of c.loop-place.self.parts.items c.loop-place.place c.index_mut.result.now (record c.index_mut.result.now { last = 0 })
          (omega (arith, c.loop-place-test.true, c.len-place-end.ensures, len)) c.index_mut.ensures.value refl ∙ c.loop-place.invariant.parts;
      budget = c.loop-place.invariant.budget;
      made = c.loop-place.invariant.made;
    }
