use Rattle.ic_book.proofs.BookLemmas.{either_of}
use Rattle.ic_book.proofs.StepLemmas.{idles}
use Rattle.ic_book.proofs.book.Book.facts.Goals as goal

pub returns-clause-either : goal.returns-clause-either
returns-clause-either g c = either_of c.args.self.now

pub returns-clause-step : goal.returns-clause-step
returns-clause-step g c = idles g.met.D.Disk.left_is_image c.args.self.now
