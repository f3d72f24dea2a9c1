use Rattle.std.proofs.Common.{Ok, length, subst}
use Rattle.ic_commands.specs.declared.line.Line.TheVariants.{Run}
use Rattle.ic_lines.specs.Answers.{Reading, events}
use Rattle.ic_lines.specs.Turns.{turns}
use Rattle.ic_book.specs.Book.{disk_of, log_of, table_of}
use Rattle.ic_book.specs.Weight.{weigh, weight_of}
use Rattle.ic_serving.specs.Grown.{CallsFew}
use Rattle.ic_serving_laws.proofs.CallLemmas.{few_of_run, has_room, turns_weigh}
use Rattle.ic_serving_laws.proofs.keeps.a_run_makes_few_calls.Goals as goal

pub returns : goal.returns
returns g c = λ limit line k every some reads is room.
    let t = table_of c.args.before.now in
    let few = c.runs_are_rounds_in_turn.ensures.few k 0 t in
    let calls : CallsFew limit (turns k 0 t) every c.args.before.now c.args.after.now =
    subst (λ (r : Reading). CallsFew limit (events t r) every c.args.before.now c.args.after.now) (c.one_line_reading.ensures.answer line is.reading (Ok (Run k)) is.read reads) is.calls in
    few_of_run (length (turns k 0 t)) k every (g.D.Disk.clock (disk_of c.args.before.now)) (g.D.Disk.clock (disk_of c.args.after.now)) some few
    (calls (has_room limit (weight_of (log_of c.args.before.now)) (length (turns k 0 t)) k (weigh (turns k 0 t)) (turns_weigh k 0 t) few room))
