use Rattle.std.proofs.Common.{◌+◌, drop, arith}
use Rattle.std.proofs.lemmas.List.{length-drop}
use Rattle.ic_flat.specs.declared.word.Word.TheVariants.{Name}
use Rattle.ic_flat.specs.lemmas.WordLaws.{forest-le}
use Rattle.ic_flat_rules.specs.Standing.{tree_at}
use Rattle.ic_flat_round.proofs.BoundEntries.{not_bound}
use Rattle.ic_flat_round.proofs.StackedSpans.{span-agent}
use Rattle.ic_flat_round.proofs.RunWords.{run-name, run-agent}
use Rattle.ic_flat_round.proofs.rebuilding.after_word.Goals as goal

pub overflow_add-result : goal.overflow_add-result
overflow_add-result c =
    let ws = c.args.words.now in
    let parts = span-agent ws c.args.span (Name 0) c.in-Agent.field-0 c.in-Agent.arity c.requires.whole c.requires.span c.requires.some c.in-Agent.is in
    let enough = parts.5 in
    omega (arith, enough, forest-le (drop (c.args.span.place + 1) ws), length-drop (c.args.span.place + 1) ws)

pub returns-else-is_bound-clause-run : goal.returns-else-is_bound-clause-run
returns-else-is_bound-clause-run c =
    let ws = c.args.words.now in
    let es = c.args.bound.now.entries in
    run-name ws es c.args.span (Name 0) c.requires.span c.requires.some c.in-Name.name c.in-Name.is
    (not_bound (tree_at ws) es c.in-Name.name c.is_bound.result c.is_bound.ensures c.if-is_bound.false)

pub returns-in-Agent-clause-run : goal.returns-in-Agent-clause-run
returns-in-Agent-clause-run c =
    run-agent c.args.words.now c.args.bound.now.entries c.args.span (Name 0) c.requires.span c.requires.some c.in-Agent.field-0 c.in-Agent.arity c.requires.whole c.in-Agent.is
