use Rattle.std.proofs.Common.{◌≡◌, ◌∙◌, inr, ℕ, List, length, sym, ap, subst, arith}
use Rattle.std.specs.Vec.Iter.{into_iter_items}
use Rattle.ic_jobs.specs.declared.command.Command.{Command}
use Rattle.ic_batch.specs.declared.jobs.NewJob.{NewJob}
use Rattle.ic_batch.specs.inner.Taking.{IsNext}
use Rattle.ic_commands.specs.declared.line.Line.TheVariants.{Blank}
use Rattle.ic_batch.specs.Faults.{IsLineAfter, IsRefused}
use Rattle.ic_batch.proofs.NumberLemmas.{LineLaws}
use Rattle.ic_batch.proofs.ReadLemmas.{AreSoFar, first_read, one_read, some_line}
use Rattle.ic_batch.proofs.reading.read_jobs.Goals as goal

pub loop-command-init : goal.loop-command-init
loop-command-init c =
    let gives = c.into_iter-command-iterator.ensures.into_iter_gives in (
      gives.1 ∙ c.in-Ok.commands.ok.0 ∙ sym (ap length gives.0),
      first_read c.args.text.now c.in-Ok.commands.items c.new-jobs.result.items (into_iter_items c.into_iter-command-iterator.result) c.new-jobs.ensures.items gives.0 c.in-Ok.ensures.read,
    )

pub loop-command-preserved : goal.loop-command-preserved
loop-command-preserved c =
    let first = c.in-Some.ensures.steps.0 in
    let text = c.args.text.now in
    let jobs = c.loop-command.jobs.items in
    let rest = into_iter_items c.next.new.self in
    let seen : c.deref.result.now ≡ jobs = c.deref.ensures.value in
    let next : IsNext c.deref.result.now c.in-Some.command c.in-Ok-next_job.new = rw c.in-Ok-next_job.is at c.next_job.ensures.next in (
      omega (arith, c.in-Some.ensures.steps.1, c.loop-command.invariant.0, ap length first),
      subst (λ (js : List NewJob). AreSoFar text js rest) (sym c.in_ok-push.ensures.items)
          (one_read text jobs c.in-Ok-next_job.new c.in-Some.command rest
          (subst (λ (js : List NewJob). IsNext js c.in-Some.command c.in-Ok-next_job.new) seen next)
          (subst (λ (l : List Command). AreSoFar text jobs l) first c.loop-command.invariant.1)),
    )

pub returns-in-Err-next_job-clause-refused : goal.returns-in-Err-next_job-clause-refused
returns-in-Err-next_job-clause-refused c =
    let first = c.in-Some.ensures.steps.0 in
    let text = c.args.text.now in
    let jobs = c.loop-command.jobs.items in
    let command = c.in-Some.command in
    let rest = into_iter_items c.next.new.self in
    let number = c.line_after.result in
    let so_far = subst (λ (l : List Command). AreSoFar text jobs l) first c.loop-command.invariant.1 in
    let seen : c.deref.result.now ≡ jobs = c.deref.ensures.value in
    let many : c.len.result ≡ length jobs = omega (arith, c.len.ensures, c.deref.ensures.len, ap length seen) in
    let laws : LineLaws = (
      λ line short blank. c.script_lines_are_lines_without_runs.ensures.blank line (c.commands_ask.ensures.plain Blank line (short, blank)),
      c.one_script_line_reading.ensures.answer,
    ) in
    let some = some_line laws text jobs command rest so_far in
    inr (record {
      jobs = jobs;
      command = command;
      after = rest;
      read = so_far.read;
      distinct = so_far.distinct;
      few = so_far.few;
      refused = subst (λ (js : List NewJob). IsRefused js command c.in-Err-next_job.cause) seen c.in-Err-next_job.ensures.refused;
      line = subst (λ (n : ℕ). IsLineAfter text n number) many (c.line_after.ensures (omega (arith, many, some)));
    })
