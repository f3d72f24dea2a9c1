use Rattle.std.proofs.Common.{◌+◌, arith}
use Rattle.ic_flat.specs.declared.word.Word.TheVariants.{Name}
use Rattle.ic_flat.proofs.PlaceLemmas.{IsDue-start, IsDue-next, IsDue-fits}
use Rattle.ic_flat.proofs.places.end_of_term.Goals as goal

pub loop-due-init : goal.loop-due-init
loop-due-init c = IsDue-start c.args.words.now c.args.place c.requires.whole c.requires.there

pub overflow_add-due : goal.overflow_add-due
overflow_add-due c =
    let next = IsDue-next c.args.words.now c.args.place c.loop-due.end c.loop-due.due (Name 0) c.requires.whole c.loop-due.invariant c.loop-due-test.true in
    let few = IsDue-fits c.args.words.now c.args.place (c.loop-due.end + 1) _ next in
    omega (arith, few)

pub loop-due-preserved : goal.loop-due-preserved
loop-due-preserved c =
    rw c.arguments.ensures
    (IsDue-next c.args.words.now c.args.place c.loop-due.end c.loop-due.due (Name 0) c.requires.whole c.loop-due.invariant c.loop-due-test.true)
