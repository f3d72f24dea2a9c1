use Rattle.std.proofs.Common.{◌≡◌, drop}
use Rattle.std.specs.List.{list_all}
use Rattle.ic_flat.specs.Words.{is_word_over}
use Rattle.ic_flat.proofs.arities.words_over.Given as goal

-- the answer is that of those left
abbrev pub invariant-loop-word : goal.invariant-loop-word
invariant-loop-word l = list_all (is_word_over l.symbols) (drop l.word-index l.words) ≡ list_all (is_word_over l.symbols) l.words
