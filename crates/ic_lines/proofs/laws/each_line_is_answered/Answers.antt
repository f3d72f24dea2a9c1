use Rattle.std.proofs.Common.{◌≡◌, ℕ, List, [], ◌∷◌, Ok, Err, subst}
use Rattle.ic_jobs.specs.Job.{JobParts}
use Rattle.ic_jobs.specs.Events.{Outcome, after_command}
use Rattle.ic_commands.specs.declared.line.Line.TheVariants.{Blank, Command as Asks, Run}
use Rattle.ic_commands.specs.LineText.{ReadsLine}
use Rattle.ic_commands.specs.ReplyText.{reply_text}
use Rattle.ic_lines.specs.Answers.{Reading}
use Rattle.ic_lines.specs.Lines.{ended}
use Rattle.ic_lines.specs.Serving.{IsLineAnswered, IsServed}
use Rattle.ic_lines.proofs.ServingLemmas.{served_line}
use Rattle.ic_lines.proofs.laws.each_line_is_answered.Goals as goal

served_as : (t u left : List JobParts) (line a answers : List ℕ) → IsServed t (line ∷ []) a u → answers ≡ a → left ≡ u → IsServed t (line ∷ []) answers left
served_as t u left line a answers served said leaves = rw (said, leaves) served

each : (t left : List JobParts) (line answers : List ℕ) (r : Reading) → ReadsLine line r → IsLineAnswered t r answers left → IsServed t (line ∷ []) answers left
each t left line answers (Ok Blank) reads is = served_as t _ left line _ answers (served_line t line (Ok Blank) reads) is.0 is.1
each t left line answers (Ok (Asks ask)) reads is =
    let same : after_command t ask ≡ is.outcome = (let e = is.is in cc) in
    let served = served_line t line (Ok (Asks ask)) reads in
    let so = subst (λ (p : Outcome). IsServed t (line ∷ []) (ended (reply_text p.reply)) p.table) same served in
    served_as t _ left line _ answers so is.answered is.leaves
each t left line answers (Ok (Run k)) reads is = served_as t _ left line _ answers (served_line t line (Ok (Run k)) reads) is.0 is.1
each t left line answers (Err fault) reads is = served_as t _ left line _ answers (served_line t line (Err fault) reads) is.0 is.1

pub returns-clause-blank : goal.returns-clause-blank
returns-clause-blank c = λ t line short blank. served_line t line (Ok Blank) (c.commands_ask.ensures.plain Blank line (short, blank))

pub returns-clause-each : goal.returns-clause-each
returns-clause-each c = each
