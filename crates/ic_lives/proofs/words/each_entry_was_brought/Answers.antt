use Rattle.ic_lives.proofs.ToldLemmas.{brought_at}
use Rattle.ic_lives.proofs.words.each_entry_was_brought.Goals as goal

pub returns : goal.returns
returns c moves front back entry is = brought_at moves front back entry is.comes
