use Rattle.ic_generations.specs.Figures.{arity_of}
use Rattle.ic_by_rounds.specs.inner.Amounts.{one_each}
use Rattle.ic_by_rounds.proofs.RowsTold.{AmountLaws}
use Rattle.ic_by_rounds.proofs.Showing.{wrote}
use Rattle.ic_by_rounds.proofs.TracedLemmas.{refused, told, unread, untold}
use Rattle.ic_by_rounds.proofs.stream.trace_stream.Goals as goal

pub returns-in_err-text-clause-traced : goal.returns-in_err-text-clause-traced
returns-in_err-text-clause-traced g c = unread c.args.limits c.args.bounds.rounds c.args.format _ _ _ _ _ c.from_residual.ensures.1 c.in_err-text.ensures.sort

pub returns-in_err-reached-clause-traced : goal.returns-in_err-reached-clause-traced
returns-in_err-reached-clause-traced g c = refused c.args.limits c.args.bounds.rounds c.args.format _ _ _ _ _ _ _ _ c.in_ok-text.ensures.text c.deref.ensures.value
    c.in_err-reached.ensures.refused c.from_residual-in_err-reached.ensures.1

pub returns-in_err-end-clause-traced : goal.returns-in_err-end-clause-traced
returns-in_err-end-clause-traced g c = untold c.args.limits c.args.bounds.rounds c.args.format _ _ _ _ _ _ _ c.in_ok-text.ensures.text c.in_err-end.ensures.fails c.from_residual-in_err-end.ensures.1

pub returns-clause-traced : goal.returns-clause-traced
returns-clause-traced g c =
    let line = c.in_ok-reached.ensures.line in
    let ends = line.0 in
    let law = c.what_is_told_of_rounds.ensures in
    let rounds = c.in_ok-reached.reached.rounds in
    let fired = law.figures c.args.limits c.args.bounds.rounds _ _ _ c.in_ok-reached.reached ends in
    let many = law.many c.args.limits c.args.bounds.rounds _ _ _ c.in_ok-reached.reached ends in
    let amounts = c.amounts_are_those_of_rounds.ensures in
    let counts = c.counts_tell_the_amounts_of_rounds.ensures in
    let s = ends.system in
    let numbers = ends.rounded.come.rule_numbers in
    let laws : AmountLaws s numbers ends.rounded.ends.told = record {
      many = counts.many c.args.limits c.args.bounds.rounds _ _ _ c.in_ok-reached.reached ends;
      arities = counts.amounts c.args.limits c.args.bounds.rounds _ _ _ c.in_ok-reached.reached (arity_of s.rules.symbols) ends;
      agents = counts.amounts c.args.limits c.args.bounds.rounds _ _ _ c.in_ok-reached.reached one_each ends;
      nodes = λ n. amounts.nodes s.rules n s.config ends.ends.rule_set ends.ends.over;
      names = amounts.names;
    } in
    let table = wrote s numbers c.new-tracing.result _ _ _ _ ends.rounded.ends.told line.1 laws fired c.args.format rounds c.new-tracing.ensures many
    c.in_ok-end.ensures.all c.in_ok-end.ensures.none in
    told c.args.limits c.args.bounds.rounds c.args.format _ _ (record { reached = c.in_ok-reached.reached; summary = c.end.new.self.summary }) _ _ _ _ _ c.in_ok-text.ensures.text c.deref.ensures.value ends
    (record {
      system = ends.system;
      reads = ends.reads;
      table = table;
    })
