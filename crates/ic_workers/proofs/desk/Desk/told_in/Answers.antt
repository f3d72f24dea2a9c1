use Rattle.std.proofs.Common.{sym, ap, Some}
use Rattle.ic_workers.specs.inner.Keeping.{slot}
use Rattle.ic_workers.proofs.Lists.{same_set}
use Rattle.ic_workers.proofs.desk.Desk.told_in.Goals as goal

pub returns-in-Some-clause-slots : goal.returns-in-Some-clause-slots
returns-in-Some-clause-slots c =
    same_set slot c.args.self.now.parts.items c.args.part c.index_mut.result.now (Some (record c.in-Some.kept { told = c.replace.new.dest })) c.requires
    c.index_mut.ensures.value (ap slot (sym c.in-Some.is))
