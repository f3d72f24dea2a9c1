use Rattle.std.proofs.Common.{rules, vec_items, IsTrue}
use Rattle.ic_round.specs.Works.{suits}
use Rattle.ic_round.specs.WorkViews.{work_of}
use Rattle.ic_pool.proofs.CutWorks.{All-snoc}
use Rattle.ic_pool.proofs.workers.+start_workers.Goals as goal

pub spawn_with-requires-clause-runs : goal.spawn_with-requires-clause-runs
spawn_with-requires-clause-runs g t c κs within =
    let rs = c.args.rules.now.rules in
    let parts = All-snoc (λ w. IsTrue (suits rs w)) vec_items work_of c.args.batches.items c.pop.new.self.items c.in-Some.batch c.in-Some.ensures.items c.requires in
    (parts.1, search rules)

pub start_workers-before-requires-after_bounds : goal.start_workers-before-requires-after_bounds
start_workers-before-requires-after_bounds g t c κs within =
    let rs = c.args.rules.now.rules in
    (All-snoc (λ w. IsTrue (suits rs w)) vec_items work_of c.args.batches.items c.pop.new.self.items c.in-Some.batch c.in-Some.ensures.items c.requires).0
