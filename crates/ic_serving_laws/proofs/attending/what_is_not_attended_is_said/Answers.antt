use Rattle.std.proofs.Common.{◌≡◌}
use Rattle.ic_slots.specs.Held.{the_table}
use Rattle.ic_book.specs.Book.{start_of}
use Rattle.ic_serving_laws.proofs.TornLemmas.{torn_differs, torn_follows}
use Rattle.ic_serving_laws.proofs.attending.what_is_not_attended_is_said.Goals as goal

pub returns-clause-unopened : goal.returns-clause-unopened
returns-clause-unopened g c fault is model = (is.says model, is.found.same model)

pub returns-clause-crash : goal.returns-clause-crash
returns-clause-crash g c fault is model = is.found.any_moment model

pub returns-clause-counted : goal.returns-clause-counted
returns-clause-counted g c fault is = is.counted

pub returns-clause-stopped : goal.returns-clause-stopped
returns-clause-stopped g c scripts runners turns workers is =
    (is.followed.followed, is.followed.counted, is.followed.may_be)

pub returns-clause-began : goal.returns-clause-began
returns-clause-began g c scripts runners turns workers is keeps = is.held keeps

pub returns-clause-torn : goal.returns-clause-torn
returns-clause-torn g c scripts runners turns workers is =
    let all = torn_follows is.opening scripts runners turns workers c.args.attended.now is.torn in
    (all.followed, all.counted, all.may_be)

pub returns-clause-kept_to : goal.returns-clause-kept_to
returns-clause-kept_to g c scripts runners turns workers is keeps held =
    let start = start_of c.args.attended.now.book in
    let one : the_table start ≡ the_table is.opening =
    c.one_is_held.ensures (g.D.Disk.content c.args.disk.now) (the_table start) (the_table is.opening) held (is.held keeps) in
    let same : start ≡ is.opening = cc in
    (torn_differs is.opening scripts runners turns workers c.args.attended.now is.torn same).scripts_kept
