use Rattle.std.proofs.Common.{◌≡◌, ◌≤◌, ◌<◌, ◌+◌, ◌++◌, reverse}
use Rattle.std.specs.Prelude.{vec_items, vec_len}
use Rattle.std.specs.List.{AllByRecursion, flat_map}
use Rattle.ic_pool.proofs.batches.cut.Given as goal

-- what is left, and after it the batches, the last of which was cut first
abbrev pub invariant-loop-done : goal.invariant-loop-done
invariant-loop-done l =
    (l.rest.items ++ flat_map vec_items (reverse l.batches.items) ≡ l.fn.works.items)
    × (vec_len l.batches ≡ l.done)
    × (l.count ≤ vec_len l.rest + l.done)
    × (0 < vec_len l.rest → l.done < l.count)
    × AllByRecursion (λ b. 0 < vec_len b) l.batches.items
