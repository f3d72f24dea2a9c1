use Rattle.std.proofs.Common.{◌≡◌, ◌+◌, ◌≤◌, length, vec_len}
use Rattle.std.specs.Prelude.{vec_capacity}
use Rattle.std.specs.Vec.Iter.{into_iter_items, into_iter_len}
use Rattle.ic_laps.proofs.hands.start_each.Given as goal

-- there is room for a thread for each post that is left
abbrev pub invariant-loop-post : goal.invariant-loop-post
invariant-loop-post g l =
    (into_iter_len l.post-iterator ≡ length (into_iter_items l.post-iterator))
    × (vec_len l.threads + into_iter_len l.post-iterator ≤ vec_capacity l.threads)
