use Rattle.ic_machine.proofs.Heaps.{same_all}
use Rattle.ic_machine.proofs.tables.Tables.take_spare.Goals as goal
use Rattle.ic_machine.proofs.tables.Tables.take_spare.Goals.{then-is_err-via-then-is_err, then-is_err-via-else-is_err+then-is_err-2}

pub returns-then-size-gt-SPARE-clause-heaps : goal.returns-then-size-gt-SPARE-clause-heaps
returns-then-size-gt-SPARE-clause-heaps c = same_all c.args.self.now.heaps.items

pub returns-then-more-len-clause-heaps : goal.returns-then-more-len-clause-heaps
returns-then-more-len-clause-heaps c = same_all c.args.self.now.heaps.items

pub returns-then-is_err-clause-heaps : goal.returns-then-is_err-clause-heaps
returns-then-is_err-clause-heaps c =
    let same = same_all c.args.self.now.heaps.items in
    elim c.then-is_err.branch [
      | then-is_err-via-then-is_err w ↦ rw w.self-is same
      | then-is_err-via-else-is_err+then-is_err-2 w ↦ rw w.self-is same
    ]
