use Rattle.std.proofs.Common.{◌≡◌, ◌≤◌, true, Ok, Err, length, IsTrue, refl, sym, ap, ◌∙◌, subst, arith}
use Rattle.std.proofs.lemmas.Bool.{false≢true}
use Rattle.std.proofs.lemmas.Result.{err_from_is_err_and}
use Rattle.ic_rules.specs.JobName.{is_job_word}
use Rattle.ic_text.specs.declared.limits.TheConstants.{MAX_TEXT}
use Rattle.ic_text.specs.declared.fault.TextFault.TheVariants.{Memory}
use Rattle.ic_commands.specs.declared.line.Line.TheVariants.{Command as Asks}
use Rattle.ic_commands.specs.declared.line.Opening.TheVariants as opening
use Rattle.ic_jobs.specs.declared.command.Command.TheVariants as command
use Rattle.ic_commands.specs.inner.Line.{is_number_or_none, ReadsAfter}
use Rattle.ic_commands.proofs.LineParts.{are_within, submit_past_system, submit_spelled, submit_read, unnamed, unnumbered, unsystematic}
use Rattle.ic_commands.proofs.command.read_submit.Goals.{then-not-is_job_word-via-then-not-is_job_word, then-not-is_job_word-via-else-not-is_job_word+then-not-is_number_or_none}
use Rattle.ic_commands.proofs.command.read_submit.Goals as goal

pub returns-then-not-is_job_word-clause-line : goal.returns-then-not-is_job_word-clause-line
returns-then-not-is_job_word-clause-line c =
    let no_name = unnamed c.args.rest.now c.split_word.result.0.now c.split_word.result.1.now c.split_word-2.result.0.now c.split_word-2.result.1.now
    c.split_word.ensures.tokens c.split_word.ensures.front c.split_word-2.ensures.tokens c.split_word-2.ensures.front in
    let no_number = unnumbered c.args.rest.now c.split_word.result.0.now c.split_word.result.1.now c.split_word-2.result.0.now c.split_word-2.result.1.now
    c.split_word.ensures.tokens c.split_word.ensures.front c.split_word-2.ensures.tokens c.split_word-2.ensures.front in
    λ _. elim c.then-not-is_job_word.branch [
      | then-not-is_job_word-via-then-not-is_job_word w ↦ no_name (sym c.is_job_word.ensures ∙ w.if-not-is_job_word.true)
      | then-not-is_job_word-via-else-not-is_job_word+then-not-is_number_or_none w ↦ no_number (sym w.is_number_or_none.ensures ∙ w.if-not-is_number_or_none.true)
    ]

pub returns-then-not-is_system-clause-line : goal.returns-then-not-is_system-clause-line
returns-then-not-is_system-clause-line c =
    λ _. unsystematic c.args.rest.now c.split_word.result.0.now c.split_word.result.1.now c.split_word-2.result.0.now c.split_word-2.result.1.now
    c.split_word.ensures.tokens c.split_word.ensures.front c.split_word-2.ensures.tokens c.split_word-2.ensures.front c.if-not-is_system.ensures.none

pub returns-in_default-clause-line : goal.returns-in_default-clause-line
returns-in_default-clause-line c =
    let named : is_job_word c.split_word.result.0.now ≡ true = sym c.is_job_word.ensures ∙ c.if-not-is_job_word.false in
    let numbered : is_number_or_none c.split_word-2.result.0.now ≡ true = sym c.is_number_or_none.ensures ∙ c.if-not-is_number_or_none.false in
    let found = c.if-not-is_system.ensures.spelled in
    λ _. submit_past_system c.args.rest.now c.split_word.result.0.now c.split_word.result.1.now c.split_word-2.result.0.now c.split_word-2.result.1.now
    c.split_word.ensures.tokens c.split_word.ensures.front c.split_word-2.ensures.tokens c.split_word-2.ensures.front named numbered
    found.0 found.1 (λ is. false≢true (c.in_default.ensures.fits.1 is))

pub returns-in_err-system-clause-line : goal.returns-in_err-system-clause-line
returns-in_err-system-clause-line c =
    let named : is_job_word c.split_word.result.0.now ≡ true = sym c.is_job_word.ensures ∙ c.if-not-is_job_word.false in
    let numbered : is_number_or_none c.split_word-2.result.0.now ≡ true = sym c.is_number_or_none.ensures ∙ c.if-not-is_number_or_none.false in
    let short : length c.split_word-2.result.1.now ≤ MAX_TEXT = omega (arith, c.split_word.ensures.shorter, c.split_word-2.ensures.shorter) in
    let e = err_from_is_err_and c.from_residual.result c.from_residual.ensures.1 in
    let is : are_within c.split_word.result.0.now c.split_word-2.result.0.now ≡ true = c.in-Some.ensures.fits.0 refl in
    rw (e.1, e.2) (λ other. submit_read c.args.rest.now c.split_word.result.0.now c.split_word.result.1.now c.split_word-2.result.0.now c.split_word-2.result.1.now
    c.split_word.ensures.tokens c.split_word.ensures.front c.split_word-2.ensures.tokens c.split_word-2.ensures.front named numbered
    (Err c.in_err-system.field-0.0) short is (c.in_err-system.ensures.refused (λ memory. other (ap Err memory))))

pub returns-in_err-system-clause-memory : goal.returns-in_err-system-clause-memory
returns-in_err-system-clause-memory c =
    let named : is_job_word c.split_word.result.0.now ≡ true = sym c.is_job_word.ensures ∙ c.if-not-is_job_word.false in
    let numbered : is_number_or_none c.split_word-2.result.0.now ≡ true = sym c.is_number_or_none.ensures ∙ c.if-not-is_number_or_none.false in
    let e = err_from_is_err_and c.from_residual.result c.from_residual.ensures.1 in
    let is : are_within c.split_word.result.0.now c.split_word-2.result.0.now ≡ true = c.in-Some.ensures.fits.0 refl in
    rw (e.1, e.2) (λ memory. (let same : c.in_err-system.field-0.0 ≡ Memory = cc in let found = c.in_err-system.ensures.memory (ap Err same) in
    submit_spelled c.args.rest.now c.split_word.result.0.now c.split_word.result.1.now c.split_word-2.result.0.now c.split_word-2.result.1.now
    c.split_word.ensures.tokens c.split_word.ensures.front c.split_word-2.ensures.tokens c.split_word-2.ensures.front named numbered found.1.0 found.1.1 is))

pub returns-clause-line : goal.returns-clause-line
returns-clause-line c =
    let named : is_job_word c.split_word.result.0.now ≡ true = sym c.is_job_word.ensures ∙ c.if-not-is_job_word.false in
    let numbered : is_number_or_none c.split_word-2.result.0.now ≡ true = sym c.is_number_or_none.ensures ∙ c.if-not-is_number_or_none.false in
    let short : length c.split_word-2.result.1.now ≤ MAX_TEXT = omega (arith, c.split_word.ensures.shorter, c.split_word-2.ensures.shorter) in
    let is : are_within c.split_word.result.0.now c.split_word-2.result.0.now ≡ true = c.in-Some.ensures.fits.0 refl in
    let name = sym c.in-Some.ensures.name in let budget = sym c.in-Some.ensures.budget in
    λ _. subst (ReadsAfter opening.Submit c.args.rest.now) (λ i. Ok (Asks (command.Submit (name i) c.in_ok-system.system (budget i))))
    (submit_read c.args.rest.now c.split_word.result.0.now c.split_word.result.1.now c.split_word-2.result.0.now c.split_word-2.result.1.now
    c.split_word.ensures.tokens c.split_word.ensures.front c.split_word-2.ensures.tokens c.split_word-2.ensures.front named numbered
    (Ok c.in_ok-system.system) short is c.in_ok-system.ensures.read)
