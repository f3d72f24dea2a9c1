use Rattle.ic_nets.proofs.TextLemmas.{blank_text, with_brace, without_brace}
use Rattle.ic_nets.proofs.laws.texts_with_rules_begin_with_a_brace.Goals as goal

pub returns : goal.returns
returns c = record { brace = with_brace; other = without_brace; blank = blank_text }
