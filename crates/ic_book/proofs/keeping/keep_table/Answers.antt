use Rattle.ic_book.proofs.keeping.keep_table.Goals as goal

pub returns-in-Ok-clause-newest : goal.returns-in-Ok-clause-newest
returns-in-Ok-clause-newest g c keeps =
    let new = c.keep.new.self.frames.disk in
    c.in-Ok.ensures.crash.newest keeps (g.D.Disk.content new) (g.met.D.Disk.content_is_image new)
