use Rattle.ic_text.specs.lemmas.WordRuns.{tokens-run, tokens-parted}
use Rattle.ic_text.proofs.laws.words_are_longest_runs.Goals as goal

pub returns : goal.returns
returns c = record { run = tokens-run; parted = tokens-parted }
