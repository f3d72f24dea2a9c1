use Rattle.std.proofs.Common.{◌≡◌, ◌+◌, ◌++◌, map, min, drop, length}
use Rattle.std.specs.Vec.Iter.{into_iter_items, into_iter_len}
use Rattle.ic_term.specs.Term.{tree, pair}
use Rattle.ic_rules.specs.Renaming.{renamed}
use Rattle.ic_round.specs.Firing.{against}
use Rattle.ic_round.specs.lemmas.Words.{u64_MAX}
use Rattle.ic_round.proofs.work.append_products.Given as goal

-- the products so far, and those of the arguments and terms left, are all of them
abbrev pub invariant-loop-term : goal.invariant-loop-term
invariant-loop-term l =
    (into_iter_len l.arguments ≡ length (into_iter_items l.arguments))
    × (map pair l.products.items ++ against (map tree (into_iter_items l.arguments)) (map (renamed (λ k. min (l.base + k) u64_MAX)) (map tree (drop l.term-index l.terms)))
    ≡ map pair l.fn.products.items ++ against (map tree l.fn.arguments.items) (map (renamed (λ k. min (l.base + k) u64_MAX)) (map tree l.terms)))
