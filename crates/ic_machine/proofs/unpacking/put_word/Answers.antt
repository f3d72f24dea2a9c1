use Rattle.std.proofs.Common.{◌≡◌, ℕ, suc, List, [], ◌∷◌, ◌++◌, Err, length, map, refl, ap, ◌∙◌, arith}
use Rattle.std.proofs.lemmas.Bool.{ne_eqb}
use Rattle.std.proofs.lemmas.Result.{err_from_is_err_and}
use Rattle.ic_arena.specs.declared.word.Word.{Word}
use Rattle.ic_arena.specs.declared.word.TheConstants.{NAME}
use Rattle.ic_arena.specs.Word.{name_word}
use Rattle.ic_arena.specs.Tables.{names_pieces}
use Rattle.ic_machine.specs.declared.machine.MachineFault.TheVariants.{Limit}
use Rattle.ic_machine.specs.declared.tables.Tables.{Tables}
use Rattle.ic_machine.specs.Moving.{end_word, spells_cut, times, CutEnd}
use Rattle.ic_machine.specs.inner.Firing.{arities_of, heaps_pieces}
use Rattle.ic_machine.proofs.Grown.{blocks_stay, on_blocks, tables_grow}
use Rattle.ic_machine.proofs.Limits.{same_fault}
use Rattle.ic_machine.proofs.NameRooms.{as_name}
use Rattle.ic_machine.proofs.Putting.{ends_roomy, next_word}
use Rattle.ic_machine.proofs.Unpacked.{agent_put, agent_put_kept, name_dropped, name_lost, name_put, name_put_kept, on_ok, spells_name, spells_no_cut}
use Rattle.ic_machine.proofs.unpacking.put_word.Goals as goal

pub unpack_name-requires-clause-room : goal.unpack_name-requires-clause-room
unpack_name-requires-clause-room c =
    ends_roomy (arities_of c.args.tables.now.heaps.items) c.args.stack.now.items c.args.tables.now.names.entries c.args.borders.now.ends
    c.args.tables.now.heaps.items c.requires.separate

pub unpack_agent-requires-clause-word : goal.unpack_agent-requires-clause-word
unpack_agent-requires-clause-word c =
    next_word c.args.tables.now.heaps.items c.args.word (length c.args.stack.now.items) c.requires.symbols c.requires.next c.if-word-eq-NAME.false

pub unpack_agent-requires-clause-known : goal.unpack_agent-requires-clause-known
unpack_agent-requires-clause-known c = λ e.
    let at = c.requires.next.agent c.if-word-eq-NAME.false e in
    (at.0, at.1, at.2)

pub returns-in_err-name-clause-kept : goal.returns-in_err-name-clause-kept
returns-in_err-name-clause-kept c =
    name_lost (arities_of c.args.tables.now.heaps.items) c.args.tables.now.names.entries c.unpack_name.new.names.entries
    c.args.borders.now.ends c.unpack_name.new.borders.ends (heaps_pieces 0 c.args.tables.now.heaps.items)
    c.args.stack.now.items c.args.stack.now.items refl (c.in_err-name.ensures.kept (arities_of c.args.tables.now.heaps.items))

pub returns-in_err-push-clause-kept : goal.returns-in_err-push-clause-kept
returns-in_err-push-clause-kept c =
    let a : List ℕ = arities_of c.args.tables.now.heaps.items in
    let e : CutEnd = record { cut = c.args.word.index; name = c.in_ok-name.name } in
    name_lost a c.args.tables.now.names.entries c.unpack_name.new.names.entries
    c.args.borders.now.ends c.unpack_name.new.borders.ends (heaps_pieces 0 c.args.tables.now.heaps.items)
    c.args.stack.now.items c.push.new.stack.items c.in_err-push.ensures.same
    (name_dropped a e c.args.tables.now.names.entries c.unpack_name.new.names.entries c.args.borders.now.ends c.unpack_name.new.borders.ends
    c.in_ok-name.ensures.unpacked)

pub returns-in_ok-push-clause-spells : goal.returns-in_ok-push-clause-spells
returns-in_ok-push-clause-spells c =
    let a : List ℕ = arities_of c.args.tables.now.heaps.items in
    let e : CutEnd = record { cut = c.args.word.index; name = c.in_ok-name.name } in
    name_put a e c.args.tables.now.names.entries c.unpack_name.new.names.entries c.args.borders.now.ends c.unpack_name.new.borders.ends
    (heaps_pieces 0 c.args.tables.now.heaps.items) c.args.stack.now.items c.push.new.stack.items c.args.word
    (as_name c.args.word c.if-word-eq-NAME.true)
    (c.in_ok-push.ensures.pushed ∙ ap (λ (w : Word). c.args.stack.now.items ++ w ∷ []) c.name.ensures)
    c.in_ok-name.ensures.unpacked

pub returns-in_ok-push-clause-worth : goal.returns-in_ok-push-clause-worth
returns-in_ok-push-clause-worth c = λ k.
    let is : c.args.word ≡ name_word c.args.word.index = as_name c.args.word c.if-word-eq-NAME.true in
    let spelled : spells_cut k (c.args.word ∷ []) ≡ times k (c.args.word.index ∷ []) =
    ap (λ (w : Word). spells_cut k (w ∷ [])) is ∙ spells_name k c.args.word.index in
    let one = c.in_ok-name.ensures.worth k in
    omega (arith, spelled, one)

pub returns-in_ok-push-clause-kept : goal.returns-in_ok-push-clause-kept
returns-in_ok-push-clause-kept c =
    let a : List ℕ = arities_of c.args.tables.now.heaps.items in
    let e : CutEnd = record { cut = c.args.word.index; name = c.in_ok-name.name } in
    name_put_kept a e c.args.tables.now.names.entries c.unpack_name.new.names.entries c.args.borders.now.ends c.unpack_name.new.borders.ends
    (heaps_pieces 0 c.args.tables.now.heaps.items) c.args.stack.now.items c.push.new.stack.items
    (c.in_ok-push.ensures.pushed ∙ ap (λ (w : Word). c.args.stack.now.items ++ w ∷ []) c.name.ensures)
    c.in_ok-name.ensures.unpacked

pub returns-else-word-eq-NAME-clause-spells : goal.returns-else-word-eq-NAME-clause-spells
returns-else-word-eq-NAME-clause-spells c =
    agent_put c.unpack_agent.result (arities_of c.args.tables.now.heaps.items) c.args.word (length c.args.stack.now.items)
    (names_pieces 0 c.args.tables.now.names.entries) (heaps_pieces 0 c.args.tables.now.heaps.items) (heaps_pieces 0 c.unpack_agent.new.heaps.items)
    c.args.borders.now.ends c.args.stack.now.items c.unpack_agent.new.stack.items c.if-word-eq-NAME.false c.requires.next
    c.unpack_agent.ensures.plain c.unpack_agent.ensures.made

pub returns-else-word-eq-NAME-clause-worth : goal.returns-else-word-eq-NAME-clause-worth
returns-else-word-eq-NAME-clause-worth c = on_ok c.unpack_agent.result (λ k.
    let none = spells_no_cut k c.args.word (ne_eqb c.args.word.tag NAME c.if-word-eq-NAME.false) in
    omega (arith, none))

pub returns-else-word-eq-NAME-clause-kept : goal.returns-else-word-eq-NAME-clause-kept
returns-else-word-eq-NAME-clause-kept c =
    agent_put_kept (arities_of c.args.tables.now.heaps.items) (names_pieces 0 c.args.tables.now.names.entries)
    (heaps_pieces 0 c.args.tables.now.heaps.items) (heaps_pieces 0 c.unpack_agent.new.heaps.items) (map end_word c.args.borders.now.ends)
    c.args.stack.now.items c.unpack_agent.new.stack.items c.unpack_agent.ensures.kept

pub returns-in_ok-push-clause-grow : goal.returns-in_ok-push-clause-grow
returns-in_ok-push-clause-grow c =
    let t : Tables = c.args.tables.now in
    tables_grow t (record t { names = c.unpack_name.new.names }) c.in_ok-name.ensures.grow (blocks_stay t.heaps.items)

pub returns-else-word-eq-NAME-clause-grow : goal.returns-else-word-eq-NAME-clause-grow
returns-else-word-eq-NAME-clause-grow c =
    let t : Tables = c.args.tables.now in
    on_blocks c.unpack_agent.result t (record t { heaps = c.unpack_agent.new.heaps }) refl c.unpack_agent.ensures.grow

pub returns-in_err-name-clause-limit : goal.returns-in_err-name-clause-limit
returns-in_err-name-clause-limit c = λ e.
    let given = err_from_is_err_and c.from_residual.result c.from_residual.ensures.1 in
    (0, c.in_err-name.ensures.limit (ap Err (same_fault c.from_residual.result given.0 c.in_err-name.field-0.0 Limit given.1 given.2 e)))

pub returns-else-word-eq-NAME-clause-limit : goal.returns-else-word-eq-NAME-clause-limit
returns-else-word-eq-NAME-clause-limit c = λ e. let full = c.unpack_agent.ensures.limit e in (suc full.0, full.1)
