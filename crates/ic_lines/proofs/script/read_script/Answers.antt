use Rattle.std.proofs.lemmas.Bool.{ne_eqb}
use Rattle.std.proofs.lemmas.Result.{err_from_is_err_and}
use Rattle.ic_lines.proofs.ScriptLemmas.{between, at_begin, at_line, at_next_line, at_next_byte, at_end, at_none, one_taken, all_taken, refused_at, wanting_at}
use Rattle.ic_lines.proofs.script.read_script.Goals as goal
use Rattle.ic_lines.proofs.script.read_script.Goals.{then-byte-eq10+in_ok-take_line, else-byte-eq10, then-start-text+in_ok-take_line-2, else-start-text}

pub loop-place-init : goal.loop-place-init
loop-place-init c = record { at = rw c.new-commands.ensures.items (at_begin c.args.text.now) }

pub returns-in_err-take_line-clause-refused : goal.returns-in_err-take_line-clause-refused
returns-in_err-take_line-clause-refused c =
    let text = c.args.text.now in
    let line = between text c.loop-place.start c.loop-place.place in
    let taken = at_line text c.loop-place.start c.loop-place.place c.loop-place.number c.loop-place.commands.items c.loop-place.invariant.at c.loop-place-test.true c.if-byte-eq10.true in
    let e = err_from_is_err_and c.from_residual.result c.from_residual.ensures.1 in
    rw (e.1, e.2) (λ other. refused_at c.one_script_line_reading.ensures.total text line _ c.loop-place.number c.loop-place.commands.items c.in_err-take_line.field-0.0 taken
    c.in_err-take_line.ensures.number (c.in_err-take_line.ensures.refused other))

pub returns-in_err-take_line-clause-memory : goal.returns-in_err-take_line-clause-memory
returns-in_err-take_line-clause-memory c =
    let text = c.args.text.now in
    let line = between text c.loop-place.start c.loop-place.place in
    let taken = at_line text c.loop-place.start c.loop-place.place c.loop-place.number c.loop-place.commands.items c.loop-place.invariant.at c.loop-place-test.true c.if-byte-eq10.true in
    let e = err_from_is_err_and c.from_residual.result c.from_residual.ensures.1 in
    rw (e.1, e.2) (λ wants. wanting_at text line _ c.loop-place.number c.loop-place.commands.items c.in_err-take_line.field-0.0 taken
    c.in_err-take_line.ensures.number (c.in_err-take_line.ensures.memory wants))

pub loop-place-preserved : goal.loop-place-preserved
loop-place-preserved c =
    let text = c.args.text.now in
    let start = c.loop-place.start in
    let place = c.loop-place.place in
    let at = c.loop-place.invariant.at in
    elim c.if-byte-eq10.branch [
      | then-byte-eq10+in_ok-take_line w ↦ rw (w.commands-is, w.number-is, w.start-is) (record {
        at = at_next_line text start place c.loop-place.number c.loop-place.commands.items w.take_line.new.commands.items at c.loop-place-test.true w.if-byte-eq10.true w.in_ok-take_line.ensures.added;
      })
      | else-byte-eq10 w ↦ rw (w.commands-is, w.number-is, w.start-is) (record {
        at = at_next_byte text start place c.loop-place.number c.loop-place.commands.items at c.loop-place-test.true (ne_eqb _ _ w.if-byte-eq10.false);
      })
    ]

pub returns-in_err-take_line-2-clause-refused : goal.returns-in_err-take_line-2-clause-refused
returns-in_err-take_line-2-clause-refused c =
    let text = c.args.text.now in
    let taken = at_end text c.loop-place.start c.loop-place.place c.loop-place.number c.loop-place.commands.items c.loop-place.invariant.at c.loop-place-test.false c.loop-place.auto.place-end c.if-start-text.true in
    let e = err_from_is_err_and c.from_residual-in_err-take_line-2.result c.from_residual-in_err-take_line-2.ensures.1 in
    rw (e.1, e.2) (λ other. refused_at c.one_script_line_reading.ensures.total text _ _ c.loop-place.number c.loop-place.commands.items c.in_err-take_line-2.field-0.0 taken
    c.in_err-take_line-2.ensures.number (c.in_err-take_line-2.ensures.refused other))

pub returns-in_err-take_line-2-clause-memory : goal.returns-in_err-take_line-2-clause-memory
returns-in_err-take_line-2-clause-memory c =
    let text = c.args.text.now in
    let taken = at_end text c.loop-place.start c.loop-place.place c.loop-place.number c.loop-place.commands.items c.loop-place.invariant.at c.loop-place-test.false c.loop-place.auto.place-end c.if-start-text.true in
    let e = err_from_is_err_and c.from_residual-in_err-take_line-2.result c.from_residual-in_err-take_line-2.ensures.1 in
    rw (e.1, e.2) (λ wants. wanting_at text _ _ c.loop-place.number c.loop-place.commands.items c.in_err-take_line-2.field-0.0 taken
    c.in_err-take_line-2.ensures.number (c.in_err-take_line-2.ensures.memory wants))

pub returns-clause-read : goal.returns-clause-read
returns-clause-read c =
    let text = c.args.text.now in
    let start = c.loop-place.start in
    let at = c.loop-place.invariant.at in
    let old = c.loop-place.commands.items in
    elim c.if-start-text.branch [
      | then-start-text+in_ok-take_line-2 w ↦
          let taken = at_end text start c.loop-place.place c.loop-place.number old at c.loop-place-test.false c.loop-place.auto.place-end w.if-start-text.true in
          let new = w.take_line-then-start-text.new.commands.items in
          rw w.commands-is (all_taken text _ new (one_taken text _ _ c.loop-place.number old new taken w.in_ok-take_line-2.ensures.added))
      | else-start-text w ↦ rw w.commands-is (all_taken text c.loop-place.number old (at_none text start c.loop-place.place c.loop-place.number old at w.if-start-text.false))
    ]
