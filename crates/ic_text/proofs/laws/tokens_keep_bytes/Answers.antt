use Rattle.ic_text.proofs.KeptBytes.{text_of-tokens}
use Rattle.ic_text.proofs.laws.tokens_keep_bytes.Goals as goal

pub returns : goal.returns
returns c = text_of-tokens
