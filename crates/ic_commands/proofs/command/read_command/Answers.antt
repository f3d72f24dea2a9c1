use Rattle.std.proofs.Common.{◌≢◌, ℕ, List, Result, Ok, Err, IfErr, arith}
use Rattle.ic_text.specs.declared.fault.TextFault.{TextFault}
use Rattle.ic_text.specs.declared.fault.TextFault.TheVariants.{Memory}
use Rattle.ic_commands.specs.declared.line.Line.{Line}
use Rattle.ic_text.specs.Token.{tokens}
use Rattle.ic_commands.specs.LineText.{ReadsLine}
use Rattle.ic_commands.specs.inner.Line.{IsLineOf}
use Rattle.ic_commands.proofs.LineReading.{reads_line}
use Rattle.ic_commands.proofs.LineParts.{submit_text}
use Rattle.ic_commands.proofs.command.read_command.Goals as goal

refused_as : (text : List ℕ) (r : Result Line TextFault) → ((a : Result Line TextFault) → IsLineOf (tokens text) a → ReadsLine text a)
    → (r ≢ Err Memory → IsLineOf (tokens text) r) → IfErr r (λ fault. fault ≢ Memory → ReadsLine text (Err fault))
refused_as text (Ok line) reads is = tt
refused_as text (Err fault) reads is = λ other. reads (Err fault) (is (λ memory. other cc))

pub returns-clause-refused : goal.returns-clause-refused
returns-clause-refused c = refused_as c.args.text.now c.line_of.result (λ a. reads_line c.args.text.now a (omega arith)) c.line_of.ensures.line

pub returns-clause-memory : goal.returns-clause-memory
returns-clause-memory c = λ memory. submit_text c.args.text.now (omega arith) (c.line_of.ensures.memory memory)
