use Rattle.std.proofs.Common.{subst, sym}
use Rattle.ic_book.specs.Book.{disk_of}
use Rattle.ic_book.specs.Refusals.{CountsBook}
use Rattle.ic_scripts.proofs.ReasonLemmas.{keep_tells, kept_and_closed, kept_closed}
use Rattle.ic_scripts.proofs.attending.keep_and_close.Goals as goal

pub returns-clause-tells : goal.returns-clause-tells
returns-clause-tells g c =
    keep_tells c.keep-kept.result _ _ c.keep-kept.ensures.fault c.keep-kept.ensures.worn c.keep-kept.ensures.others c.keep-kept.ensures.all c.facts.ensures.history.within

pub returns-clause-counted : goal.returns-clause-counted
returns-clause-counted g c =
    subst (λ (d : g.row.D.Denot). CountsBook c.keep-kept.result (g.D.Disk.failures (disk_of c.args.book)) (g.D.Disk.failures d)) (sym c.close.ensures.step.same) c.keep-kept.ensures.fault.counted

pub returns-clause-closed : goal.returns-clause-closed
returns-clause-closed g c =
    kept_and_closed c.keep-kept.result c.args.book c.keep-kept.new.self c.close.result c.keep-kept.ensures.step c.keep-kept.ensures.fault c.close.ensures.step

pub returns-clause-held : goal.returns-clause-held
returns-clause-held g c =
    kept_closed c.keep-kept.result c.args.book c.keep-kept.new.self c.close.result c.keep-kept.ensures.all c.keep-kept.ensures.kept c.facts-2.ensures.history c.facts-2.ensures.on_disk c.close.ensures.step
