use Rattle.std.proofs.Common.{ℕ, List, ◌∷◌, ◌++◌, Err, map, ap, arith}
use Rattle.std.proofs.lemmas.Result.{err_from_is_err_and}
use Rattle.ic_machine.specs.declared.machine.MachineFault.TheVariants.{Limit}
use Rattle.ic_machine.specs.declared.tables.Tables.{Tables}
use Rattle.ic_machine.specs.Moving.{end_word}
use Rattle.ic_machine.specs.inner.Firing.{arities_of, heaps_pieces}
use Rattle.ic_machine.specs.inner.Moving.{side_in}
use Rattle.ic_machine.proofs.Apart.{apart_grow, apart_kept, apart_len, apart_spelled}
use Rattle.ic_machine.proofs.Grown.{blocks_stay, tables_grow, tables_then}
use Rattle.ic_machine.proofs.Limits.{same_fault}
use Rattle.ic_machine.proofs.Unpacked.{kept_then}
use Rattle.ic_machine.proofs.unpacking.unpack_word.Goals as goal

pub returns-clause-spells : goal.returns-clause-spells
returns-clause-spells c = λ rest ts s.
    let a : List ℕ = arities_of c.args.tables.now.heaps.items in
    apart_spelled a c.put_word.new.tables.names.entries c.set_apart.new.names.entries c.put_word.new.borders.ends
    (heaps_pieces 0 c.put_word.new.tables.heaps.items) c.put_word.new.stack.items c.set_apart.new.stack.items c.set_apart.ensures.apart
    rest (c.args.word ∷ ts) (c.in_ok-put_word.ensures.spells rest ts s)

pub returns-clause-kept : goal.returns-clause-kept
returns-clause-kept c =
    let a : List ℕ = arities_of c.args.tables.now.heaps.items in
    let h = heaps_pieces 0 c.put_word.new.tables.heaps.items in
    let e = map end_word c.put_word.new.borders.ends in
    kept_then a (c.args.stack.now.items ++ map end_word c.args.borders.now.ends) (c.put_word.new.stack.items ++ e) (c.set_apart.new.stack.items ++ e)
    (side_in c.args.tables.now c.args.borders.now).places (side_in c.put_word.new.tables c.put_word.new.borders).places
    (side_in (record c.put_word.new.tables { names = c.set_apart.new.names }) c.put_word.new.borders).places c.put_word.ensures.kept
    (apart_kept a c.put_word.new.tables.names.entries c.set_apart.new.names.entries e h c.put_word.new.stack.items c.set_apart.new.stack.items
    c.set_apart.ensures.apart)

pub returns-clause-len : goal.returns-clause-len
returns-clause-len c =
    let same = apart_len c.put_word.new.tables.names.entries c.set_apart.new.names.entries c.put_word.new.stack.items c.set_apart.new.stack.items
    c.set_apart.ensures.apart in
    let len = c.put_word.ensures.len in
    omega (arith, same, len)

pub returns-clause-grow : goal.returns-clause-grow
returns-clause-grow c =
    let t : Tables = c.put_word.new.tables in
    let u : Tables = record t { names = c.set_apart.new.names } in
    tables_then c.args.tables.now t u c.in_ok-put_word.ensures.grow
    (tables_grow t u (apart_grow t.names.entries u.names.entries c.put_word.new.stack.items c.set_apart.new.stack.items c.set_apart.ensures.apart)
    (blocks_stay t.heaps.items))

pub returns-in_err-put_word-clause-limit : goal.returns-in_err-put_word-clause-limit
returns-in_err-put_word-clause-limit c = λ e.
    let given = err_from_is_err_and c.from_residual.result c.from_residual.ensures.1 in
    c.in_err-put_word.ensures.limit (ap Err (same_fault c.from_residual.result given.0 c.in_err-put_word.field-0.0 Limit given.1 given.2 e))
