use Rattle.std.proofs.Common.{refl}
use Rattle.ic_args.proofs.words.refused.Goals as goal

pub returns-in_ok-to_string-in-DisplayHelp : goal.returns-in_ok-to_string-in-DisplayHelp
returns-in_ok-to_string-in-DisplayHelp c = (_, refl)
