use Rattle.std.proofs.Common.{◌≡◌}
use Rattle.ic_slots.specs.Held.{the_table}
use Rattle.ic_book.specs.Book.{start_of}
use Rattle.ic_serving_laws.proofs.TornLemmas.{torn_differs}
use Rattle.ic_serving_laws.proofs.attending.what_is_torn_is_not_borne_out.Goals as goal

pub returns : goal.returns
returns g c = λ scripts runners turns workers torn keeps held history.
    let start = start_of c.args.attended.now.book in
    let one : the_table start ≡ the_table torn.opening =
    c.one_is_held.ensures (g.D.Disk.content c.args.disk.now) (the_table start) (the_table torn.opening) held (torn.held keeps) in
    let same : start ≡ torn.opening = cc in
    (torn_differs torn.opening scripts runners turns workers c.args.attended.now torn.torn same).differs same history
