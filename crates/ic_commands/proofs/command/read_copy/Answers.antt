use Rattle.std.proofs.Common.{◌≡◌, ◌&&◌, refl, sym, ◌∙◌, subst, Ok, true}
use Rattle.std.proofs.lemmas.Bool.{false≢true, and_parts}
use Rattle.ic_rules.specs.JobName.{is_job_name, is_job_word}
use Rattle.ic_jobs.specs.declared.command.Command.TheVariants as command
use Rattle.ic_commands.specs.declared.line.Line.TheVariants.{Command as Asks}
use Rattle.ic_commands.specs.declared.line.Opening.TheVariants as opening
use Rattle.ic_commands.specs.inner.Line.{ReadsAfter}
use Rattle.ic_commands.proofs.LineParts.{copy_unparted, copy_unnamed, copy_sense, copy_short, copy_past}
use Rattle.ic_commands.proofs.command.read_copy.Goals as goal

pub returns-in_default-clause-line : goal.returns-in_default-clause-line
returns-in_default-clause-line c =
    copy_unparted c.args.rest.now c.split_word.result.0.now c.split_word.result.1.now c.split_word.ensures.tokens c.split_word.ensures.front c.in_default.ensures.none

pub returns-then-not-are_job_words-clause-line : goal.returns-then-not-are_job_words-clause-line
returns-then-not-are_job_words-clause-line c =
    copy_unnamed c.args.rest.now c.split_word.result.0.now c.split_word.result.1.now c.split_word.ensures.tokens c.split_word.ensures.front
    c.in-Some.second.now c.in-Some.ensures.one (sym c.are_job_words.ensures ∙ c.if-not-are_job_words.true)

pub returns-in-Some-names_of-clause-line : goal.returns-in-Some-names_of-clause-line
returns-in-Some-names_of-clause-line c =
    let v = c.split_word.result.0.now in
    let u = c.in-Some.second.now in
    let named = and_parts (is_job_word v) (is_job_word u) (sym c.are_job_words.ensures ∙ c.if-not-are_job_words.false) in
    let short = and_parts (is_job_name v) (is_job_name u) (c.in-Some-names_of.ensures.named.0 refl) in
    let old = sym c.in-Some-names_of.ensures.first in let new = sym c.in-Some-names_of.ensures.second in
    subst (ReadsAfter opening.Copy c.args.rest.now) (copy_short v u short.0 short.1 ∙ (λ i. Ok (Asks (command.CopyJob (old i) (new i)))))
    (copy_sense c.args.rest.now v c.split_word.result.1.now c.split_word.ensures.tokens c.split_word.ensures.front u c.in-Some.ensures.one named.0 named.1)

pub returns-in-None-clause-line : goal.returns-in-None-clause-line
returns-in-None-clause-line c =
    let v = c.split_word.result.0.now in
    let u = c.in-Some.second.now in
    let named = and_parts (is_job_word v) (is_job_word u) (sym c.are_job_words.ensures ∙ c.if-not-are_job_words.false) in
    subst (ReadsAfter opening.Copy c.args.rest.now) (copy_past v u named.0 named.1 (λ is. false≢true (c.in-None.ensures.named.1 is)))
    (copy_sense c.args.rest.now v c.split_word.result.1.now c.split_word.ensures.tokens c.split_word.ensures.front u c.in-Some.ensures.one named.0 named.1)
