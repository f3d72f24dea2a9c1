use Rattle.ic_book.specs.Entries.{command_entry, round_entry}
use Rattle.ic_book.proofs.EntryLemmas.{added}
use Rattle.ic_book.proofs.laws.an_entry_is_added.Goals as goal

pub returns-clause-command : goal.returns-clause-command
returns-clause-command c = λ start t h k who command r legal. added start t h k (command_entry who command r) legal

pub returns-clause-round : goal.returns-clause-round
returns-clause-round c = λ start t h k name r legal. added start t h k (round_entry name r) legal
