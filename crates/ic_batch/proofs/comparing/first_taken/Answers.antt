use Rattle.std.proofs.Common.{◌+◌, drop, take, refl, sym}
use Rattle.ic_batch.proofs.LoopLemmas.{parted_here}
use Rattle.ic_batch.proofs.comparing.first_taken.Goals as goal

pub returns-in-loop-new-clause-taken : goal.returns-in-loop-new-clause-taken
returns-in-loop-new-clause-taken c =
    let jobs = c.args.jobs.now in
    let i = c.loop-new.new-index in
    let new = c.new-item.result in
    record {
      before = take i jobs;
      new = new;
      after = drop (i + 1) jobs;
      among = parted_here jobs i new c.loop-new-test.true c.new-item.is;
      first = c.loop-new.invariant;
      named = refl;
      job = c.in-Some.job.now;
      there = sym c.in-Some.ensures.job;
      differs = c.in-Some-difference_of.ensures.differs;
    }
