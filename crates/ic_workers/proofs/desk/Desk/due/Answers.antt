use Rattle.std.proofs.Common.{◌<◌, length}
use Rattle.ic_workers.specs.declared.desk.Due.{Due}
use Rattle.ic_workers.proofs.Lists.{all_of_permutation}
use Rattle.ic_workers.proofs.desk.Desk.due.Goals as goal

pub returns : goal.returns
returns c =
    all_of_permutation (λ (d : Due). d.part < length c.args.self.now.parts.items) c.loop-part.due.items c.sort_unstable_by_key.new.self.items
    c.sort_unstable_by_key.ensures.permutation c.loop-part.invariant
