use Rattle.std.proofs.Common.{List, ◌++◌, ap, refl}
use Rattle.ic_book.specs.Moves.{Move}
use Rattle.ic_serving.specs.InTurn.{moves_taken}
use Rattle.ic_serving_laws.proofs.ServingLemmas.{group_taken}
use Rattle.ic_serving_laws.proofs.served.answered_lines_are_moves.Goals as goal

pub returns-clause-command : goal.returns-clause-command
returns-clause-command g c command bytes done = (done.reply, done.text, done.made.earlier, done.made.last, refl)

pub returns-clause-run : goal.returns-clause-run
returns-clause-run g c count bytes done = (done.earlier, done.last)

pub returns-clause-group : goal.returns-clause-group
returns-clause-group g c limit ls bytes is =
    let own = moves_taken is.commands bytes c.args.old.now is.between is.taken in (
      is.kept.earlier ++ own,
      ap (λ (ms : List Move). ms ++ own) is.kept.last,
      group_taken limit ls bytes c.args.old.now c.args.new.now is,
    )
