use Rattle.std.proofs.Common.{sym, subst}
use Rattle.ic_disk.specs.Images.{Within}
use Rattle.ic_book.specs.Book.{disk_of}
use Rattle.ic_serving_laws.specs.Attending.{HoldsFrontOf}
use Rattle.ic_serving_laws.proofs.FrontLemmas.{a_front, keep_stopped, leaves_front, refused_before}
use Rattle.ic_serving_laws.proofs.attending.the_keep_after_scripts_leaves_a_front.Goals as goal

pub returns-clause-crash : goal.returns-clause-crash
returns-clause-crash g c = λ result old new is made.
    leaves_front c.args.attended.now.book is.kept c.args.left.now c.facts.ensures.history.within is.closed made

pub returns-clause-reads : goal.returns-clause-reads
returns-clause-reads g c = λ result old new is made.
    let left = c.args.left.now in
    let leaves = returns-clause-crash g c result old new is made in
    leaves.each (g.D.Disk.content left)
    (g.met.D.Disk.image_is_left left (g.D.Disk.clock (disk_of c.args.attended.now.book)) (g.D.Disk.content left) leaves.later (g.met.D.Disk.content_is_image left))

pub returns-clause-stopped : goal.returns-clause-stopped
returns-clause-stopped g c = λ result old new found is stop.
    keep_stopped c.args.attended.now.book is.kept c.args.left.now found is.closed stop

pub returns-clause-untouched : goal.returns-clause-untouched
returns-clause-untouched g c = λ result old new fault is same other.
    refused_before c.args.attended.now.book is.kept c.args.left.now fault is.closed same other

pub returns-clause-unkept : goal.returns-clause-unkept
returns-clause-unkept g c = λ same made.
    let book = c.args.attended.now.book in
    subst (λ (d : g.row.D.Denot). Within (g.D.Disk.image d) (HoldsFrontOf book)) (sym same)
    (λ file there. a_front book file c.facts.ensures.history.within (c.facts.ensures.either made.0 made.1 file there))
