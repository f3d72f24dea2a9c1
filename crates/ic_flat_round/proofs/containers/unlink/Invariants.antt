use Rattle.std.proofs.Common.{◌≡◌, ℕ, ◌<◌, ◌≤◌, get_or, length}
use Rattle.std.specs.Prelude.{vec_capacity}
use Rattle.ic_flat_round.proofs.containers.unlink.Given as goal

-- each container so far is linked to itself, and there is room for all
abbrev pub invariant-loop-place : goal.invariant-loop-place
invariant-loop-place l = record {
  size : length l.links.items ≡ l.place;
  own : (e : ℕ) → e < l.place → get_or l.links.items e 0 ≡ e;
  room : l.count ≤ vec_capacity l.links;
}
