use Rattle.std.proofs.Common.{refl}
use Rattle.ic_commands.proofs.LineParts.{job_name-parts}
use Rattle.ic_commands.proofs.LineLaws.{number-decimal, value-of-decimal, number-text}
use Rattle.ic_commands.proofs.laws.names_of_jobs_and_numbers_are.Goals as goal

pub returns : goal.returns
returns c = record {
  names = job_name-parts;
  words = λ b bs. refl;
  digits = λ d ds. refl;
  number = number-decimal;
  value = value-of-decimal;
  text = number-text;
}
