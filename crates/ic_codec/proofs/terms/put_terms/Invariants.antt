use Rattle.std.proofs.Common.{drop, map}
use Rattle.std.specs.List.{flat_map}
use Rattle.ic_term.specs.Term.{tree}
use Rattle.ic_codec.specs.inner.Room.{GoesOn}
use Rattle.ic_codec.specs.Terms.{tree_bytes}
use Rattle.ic_codec.proofs.terms.put_terms.Given as goal

-- those after these are left
abbrev pub invariant-loop-term : goal.invariant-loop-term
invariant-loop-term l =
    GoesOn l.fn.out (flat_map tree_bytes (map tree l.terms)) l.out (flat_map tree_bytes (map tree (drop l.term-index l.terms)))
