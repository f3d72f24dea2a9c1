use Rattle.std.proofs.Common.{◌++◌, refl, ap, ◌∙◌, append_assoc}
use Rattle.ic_in_place.specs.Told.{RoundOver}
use Rattle.ic_by_rounds.specs.Tables.{row_line}
use Rattle.ic_by_rounds.proofs.Showing.{told_held, told_shown}
use Rattle.ic_by_rounds.proofs.tracing.TracingRows.over.Goals as goal

pub returns-then-is_bare_first-clause-told : goal.returns-then-is_bare_first-clause-told
returns-then-is_bare_first-clause-told g c = λ s numbers first before told tells count.
    let o : RoundOver = record { round = c.args.round; pairs = c.args.pairs; net = c.args.machine.now } in
    let both = c.is_bare_first.ensures.yes c.if-is_bare_first.true in
    told_held s numbers first c.args.self.now _ before (g.W.Write.contents c.args.writer.now) told c.row_of-row.result o tells (c.row_of-row.ensures.figures s numbers tells.origins) refl count both.0
    c.row_of-row.ensures.round c.row_of-row.ensures.pairs c.row_of-row.ensures.equations both.1 refl refl refl

pub returns-clause-told : goal.returns-clause-told
returns-clause-told g c = λ s numbers first before told tells count.
    let o : RoundOver = record { round = c.args.round; pairs = c.args.pairs; net = c.args.machine.now } in
    let held = c.in_ok-show_held.ensures in
    let show = c.in_ok-show.ensures in
    let due = c.in_ok-write_if_due.ensures in
    let t = c.args.self.now in
    told_shown s numbers first t c.write_if_due.new.self before (g.W.Write.contents c.args.writer.now) (g.W.Write.contents c.write_if_due.new.writer) told
    c.row_of-row.result o due.written.0 tells (c.row_of-row.ensures.figures s numbers tells.origins) (due.origins ∙ (show.origins ∙ held.origins)) count (c.is_bare_first.ensures.no c.if-is_bare_first.false) c.row_of-row.ensures.round c.row_of-row.ensures.pairs c.row_of-row.ensures.equations
    (due.format ∙ (show.format ∙ held.format)) (due.held ∙ (show.held ∙ held.held)) due.written.1
    (λ is. due.written.2 ∙ (show.line (held.format ∙ is) ∙ (ap (λ l. l ++ row_line c.row_of-row.result) (held.line is) ∙ append_assoc t.unwritten.items _ _)))
