use Rattle.std.proofs.Common.{◌≡◌, ◌<◌, length, arith}
use Rattle.std.proofs.lemmas.Option.{slice_get_read}
use Rattle.ic_names.proofs.Places.{place_filled}
use Rattle.ic_names.proofs.table.fill.Goals as goal

pub returns-clause-filled : goal.returns-clause-filled
returns-clause-filled c =
    let rows = c.args.rows.now.items in
    let row = c.place_of-row.result.0 in
    let within : row < length rows = omega (arith, c.len.ensures) in
    let count : c.len.result ≡ length rows = omega (arith, c.len.ensures) in
    let old = c.index_mut.result.now in
    place_filled rows old c.fill.new.self c.args.name c.args.number row c.place_of-row.result.1 c.fill.result c.place_of-row.ensures.row c.place_of-row.ensures.column within
    (slice_get_read rows c.len.result row old count c.if-len-row.false c.index_mut.ensures.value) c.fill.ensures.filled
