use Rattle.std.proofs.Common.{◌+◌, drop, map, arith}
use Rattle.std.specs.List.{flat_map}
use Rattle.ic_term.specs.Term.{tree}
use Rattle.ic_codec.specs.Terms.{tree_bytes}
use Rattle.ic_codec.proofs.Appending.{viewed_bytes_from, left_fits, goes_on}
use Rattle.ic_codec.proofs.terms.put_terms.Goals as goal

pub put_term-requires : goal.put_term-requires
put_term-requires c =
    left_fits (tree_bytes (tree c.term-item.result)) (flat_map tree_bytes (map tree (drop (c.loop-term.term-index + 1) c.args.terms.now))) (viewed_bytes_from tree tree_bytes c.args.terms.now c.loop-term.term-index c.term-item.result (omega arith) c.term-item.is) c.loop-term.invariant

pub loop-term-preserved : goal.loop-term-preserved
loop-term-preserved c =
    goes_on (tree_bytes (tree c.term-item.result)) (flat_map tree_bytes (map tree (drop (c.loop-term.term-index + 1) c.args.terms.now))) (viewed_bytes_from tree tree_bytes c.args.terms.now c.loop-term.term-index c.term-item.result (omega arith) c.term-item.is) c.loop-term.invariant c.put_term.ensures
