use Rattle.std.proofs.Common.{◌≡◌, IsTrue, refl, sym, ◌∙◌, ap, subst, Ok, true}
use Rattle.std.proofs.lemmas.Bool.{false≢true}
use Rattle.ic_rules.specs.JobName.{is_job_name, is_job_word}
use Rattle.ic_commands.specs.declared.line.Line.TheVariants.{Command as Asks}
use Rattle.ic_commands.specs.declared.line.Opening.TheVariants as opening
use Rattle.ic_commands.specs.LineSource.{about}
use Rattle.ic_commands.specs.LineSense.{asked}
use Rattle.ic_commands.specs.inner.Line.{ReadsAfter}
use Rattle.ic_commands.proofs.LineReading.{is_sense_after}
use Rattle.ic_commands.proofs.LineParts.{short_name, long_name}
use Rattle.ic_commands.proofs.command.read_about.Goals as goal

pub returns-in-Some-new-clause-line : goal.returns-in-Some-new-clause-line
returns-in-Some-new-clause-line c =
    let word = c.in-Some.word.now in
    let verb = c.args.verb in
    let named : is_job_word word ≡ true = sym c.is_job_word.ensures ∙ c.if-not-is_job_word.false in
    let short : IsTrue (is_job_name word) = c.in-Some-new.ensures.name.0 refl in
    let asks = c.ask.ensures ∙ ap (asked verb) c.in-Some-new.ensures.text in
    subst (ReadsAfter (opening.About verb) c.args.rest.now) (short_name word (Ok (Asks (asked verb word))) short ∙ ap (λ x. Ok (Asks x)) (sym asks))
    (is_sense_after (opening.About verb) c.args.rest.now _ (about verb word) tt named c.in-Some.ensures.one refl)

pub returns-in-None-clause-line : goal.returns-in-None-clause-line
returns-in-None-clause-line c =
    let word = c.in-Some.word.now in
    let verb = c.args.verb in
    let named : is_job_word word ≡ true = sym c.is_job_word.ensures ∙ c.if-not-is_job_word.false in
    subst (ReadsAfter (opening.About verb) c.args.rest.now) (long_name word (Ok (Asks (asked verb word))) named (λ is. false≢true (c.in-None.ensures.name.1 is)))
    (is_sense_after (opening.About verb) c.args.rest.now _ (about verb word) tt named c.in-Some.ensures.one refl)
