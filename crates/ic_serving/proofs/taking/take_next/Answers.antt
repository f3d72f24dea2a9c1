use Rattle.std.proofs.Common.{ℕ, List, ◌++◌, ◌+◌, true, refl, ap, ◌∙◌, arith, []}
use Rattle.ic_book.specs.Book.{kept_of, log_of, IsUnchanged}
use Rattle.ic_book.specs.lemmas.Chains.{by_nothing, by_refusal}
use Rattle.ic_lines.specs.Lines.{ended}
use Rattle.ic_serving.specs.lemmas.Unkept.{same_unkept}
use Rattle.ic_serving.proofs.GroupLemmas.{come_none, come_same, come_taken, err_not_ok, ready_more, ready_none, ready_one}
use Rattle.ic_serving.proofs.TakeLemmas.{is_taken, taken_unkept}
use Rattle.ic_serving.proofs.taking.take_next.Goals as goal

pub returns-in_default-clause-taken : goal.returns-in_default-clause-taken
returns-in_default-clause-taken g c = λ limit. ready_more 0 1 true true c.args.lines.now c.args.lines.now c.args.group.now.answers.items c.args.group.now.answers.items
    c.args.group.now.count c.args.group.now.count c.args.book.now c.args.book.now
    (ready_none true c.args.lines.now c.args.group.now.answers.items c.args.group.now.count c.args.book.now c.args.book.now
    (come_none c.args.book.now (g.met.D.Disk.left_is_image _) c.facts.ensures.either c.facts.ensures.history.replayed (by_nothing c.args.book.now c.facts.ensures.step))
    refl (omega arith))
    (omega arith) (λ is. refl)

pub returns-in_default-take-clause-taken : goal.returns-in_default-take-clause-taken
returns-in_default-take-clause-taken g c = λ limit.
    let u : IsUnchanged c.args.book.now c.take.new.self = c.in_default-take.ensures.refused refl in
    ready_more 0 1 true true c.args.lines.now c.args.lines.now c.args.group.now.answers.items c.args.group.now.answers.items
    c.args.group.now.count c.args.group.now.count c.args.book.now c.take.new.self
    (ready_none true c.args.lines.now c.args.group.now.answers.items c.args.group.now.count c.args.book.now c.take.new.self
    (come_same [] c.args.book.now c.args.book.now c.take.new.self
    (come_none c.args.book.now (g.met.D.Disk.left_is_image _) c.facts.ensures.either c.facts.ensures.history.replayed (by_nothing c.args.book.now c.facts.ensures.step))
    u (by_refusal c.args.book.now c.take.new.self (c.in_default-take.ensures.step.refused refl)))
    u.same_keeper (same_unkept (log_of c.args.book.now) (log_of c.take.new.self) (kept_of c.args.book.now) (kept_of c.take.new.self) u.same_log u.same_kept))
    (omega arith) (λ is. refl)

pub returns-in_err-print_reply-clause-taken : goal.returns-in_err-print_reply-clause-taken
returns-in_err-print_reply-clause-taken g c = λ limit.
    let said = c.in-Some.ensures in
    let come = come_taken {limit = limit} c.in-Some.command c.in-Ok.reply c.args.book.now c.take.new.self (g.met.D.Disk.left_is_image _) c.facts.ensures.either c.facts.ensures.history.replayed
    (by_nothing c.args.book.now c.facts.ensures.step) c.facts.ensures.history.within c.facts-2.ensures.history.replayed c.in-Ok.ensures.step.taken
    c.take.ensures.crash.keeps c.take.ensures.crash.made c.take.ensures.crash.any_moment in
    ready_one _ c.in-Some.command said.0 c.args.lines.now c.pass_line.new.self c.args.group.now.answers.items c.args.group.now.answers.items c.args.group.now.count c.args.group.now.count
    c.args.book.now c.take.new.self said.2 (λ text. c.pass_line.ensures.taken said.0 text said.1) said.3 come c.take.ensures.keeper
    (taken_unkept c.in-Some.command c.in-Ok.reply c.args.book.now c.take.new.self c.in-Ok.ensures.step.taken)
    (λ is. absurd (err_not_ok c.from_residual.result _ c.from_residual.ensures.1 is))
    (by_nothing c.take.new.self c.facts-2.ensures.step)

pub returns-in_err-answer-clause-taken : goal.returns-in_err-answer-clause-taken
returns-in_err-answer-clause-taken g c = λ limit.
    let said = c.in-Some.ensures in
    let come = come_taken {limit = limit} c.in-Some.command c.in-Ok.reply c.args.book.now c.take.new.self (g.met.D.Disk.left_is_image _) c.facts.ensures.either c.facts.ensures.history.replayed
    (by_nothing c.args.book.now c.facts.ensures.step) c.facts.ensures.history.within c.facts-2.ensures.history.replayed c.in-Ok.ensures.step.taken
    c.take.ensures.crash.keeps c.take.ensures.crash.made c.take.ensures.crash.any_moment in
    ready_one _ c.in-Some.command said.0 c.args.lines.now c.pass_line.new.self c.args.group.now.answers.items c.args.group.now.answers.items c.args.group.now.count c.args.group.now.count
    c.args.book.now c.take.new.self said.2 (λ text. c.pass_line.ensures.taken said.0 text said.1) said.3 come c.take.ensures.keeper
    (taken_unkept c.in-Some.command c.in-Ok.reply c.args.book.now c.take.new.self c.in-Ok.ensures.step.taken)
    (λ is. absurd (err_not_ok c.from_residual-in_err-answer.result _ c.from_residual-in_err-answer.ensures.1 is))
    (by_nothing c.take.new.self c.facts-2.ensures.step)

pub returns-in_err-extend_from_slice-clause-taken : goal.returns-in_err-extend_from_slice-clause-taken
returns-in_err-extend_from_slice-clause-taken g c = λ limit.
    let said = c.in-Some.ensures in
    let come = come_taken {limit = limit} c.in-Some.command c.in-Ok.reply c.args.book.now c.take.new.self (g.met.D.Disk.left_is_image _) c.facts.ensures.either c.facts.ensures.history.replayed
    (by_nothing c.args.book.now c.facts.ensures.step) c.facts.ensures.history.within c.facts-2.ensures.history.replayed c.in-Ok.ensures.step.taken
    c.take.ensures.crash.keeps c.take.ensures.crash.made c.take.ensures.crash.any_moment in
    ready_one _ c.in-Some.command said.0 c.args.lines.now c.pass_line.new.self c.args.group.now.answers.items c.extend_from_slice.new.self.items c.args.group.now.count c.args.group.now.count
    c.args.book.now c.take.new.self said.2 (λ text. c.pass_line.ensures.taken said.0 text said.1) said.3 come c.take.ensures.keeper
    (taken_unkept c.in-Some.command c.in-Ok.reply c.args.book.now c.take.new.self c.in-Ok.ensures.step.taken)
    (λ is. absurd (err_not_ok c.from_residual-in_err-extend_from_slice.result _ c.from_residual-in_err-extend_from_slice.ensures.1 is))
    (by_nothing c.take.new.self c.facts-2.ensures.step)

pub returns-clause-taken : goal.returns-clause-taken
returns-clause-taken g c = λ limit.
    let said = c.in-Some.ensures in
    let come = come_taken {limit = limit} c.in-Some.command c.in-Ok.reply c.args.book.now c.take.new.self (g.met.D.Disk.left_is_image _) c.facts.ensures.either c.facts.ensures.history.replayed
    (by_nothing c.args.book.now c.facts.ensures.step) c.facts.ensures.history.within c.facts-2.ensures.history.replayed c.in-Ok.ensures.step.taken
    c.take.ensures.crash.keeps c.take.ensures.crash.made c.take.ensures.crash.any_moment in
    ready_one true c.in-Some.command said.0 c.args.lines.now c.pass_line.new.self c.args.group.now.answers.items c.extend_from_slice.new.self.items c.args.group.now.count (c.args.group.now.count + 1)
    c.args.book.now c.take.new.self said.2 (λ text. c.pass_line.ensures.taken said.0 text said.1) said.3 come c.take.ensures.keeper
    (taken_unkept c.in-Some.command c.in-Ok.reply c.args.book.now c.take.new.self c.in-Ok.ensures.step.taken)
    (λ is. (
      refl,
      (
        c.in_ok-answer.answer.items,
        c.in_ok-extend_from_slice.ensures.items ∙ ap (λ (xs : List ℕ). c.args.group.now.answers.items ++ xs) c.deref.ensures.value,
        is_taken c.in-Some.command c.in-Ok.reply c.args.book.now c.args.book.now c.take.new.self c.in_ok-answer.answer.items (by_nothing c.args.book.now c.facts.ensures.step) refl
            (c.in_ok-answer.ensures ∙ ap ended c.in_ok-print_reply.ensures) c.in-Ok.ensures.step.taken,
      ),
    ))
    (by_nothing c.take.new.self c.facts-2.ensures.step)
