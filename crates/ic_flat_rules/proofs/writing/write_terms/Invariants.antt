use Rattle.std.proofs.Common.{◌≡◌, ◌++◌, drop, map}
use Rattle.std.specs.List.{flat_map}
use Rattle.ic_term.specs.Term.{tree}
use Rattle.ic_flat.specs.Words.{tree_words}
use Rattle.ic_flat_rules.proofs.writing.write_terms.Given as goal

-- the words so far and those of the terms left are those of all
abbrev pub invariant-loop-term : goal.invariant-loop-term
invariant-loop-term l =
    l.words.items ++ flat_map tree_words (map tree (drop l.term-index l.terms)) ≡ l.fn.words.items ++ flat_map tree_words (map tree l.terms)
