use Rattle.std.proofs.Common.{◌≡◌, ◌⊎◌, ℕ, ◌+◌, ◌^◌, ◌<◌, ◌≤◌, None, Some, max}
use Rattle.std.specs.Arc.{arc_value}
use Rattle.ic_rules.specs.System.{SystemParts}
use Rattle.ic_state.specs.State.{IsKept, kept_by}
use Rattle.ic_keeping.specs.inner.Pieces.{ComesTogether, IsWritten}
use Rattle.ic_keeping.specs.Life.{IsStartOf}
use Rattle.ic_keeping.specs.Way.{IsReachedFrom}
use Rattle.ic_keeping.proofs.GoingLemmas.{HasKept}
use Rattle.ic_keeping.proofs.Refusing.{WereReady}
use Rattle.ic_keeping.proofs.going.Run.go_on.Given as goal

-- the state is reached from the one that was given, and what is kept goes as far
abbrev pub invariant-loop-pieces : goal.invariant-loop-pieces
invariant-loop-pieces g l = record {
  least : l.fn.start.state.interactions ≤ l.state.interactions;
  any : l.fn.start.state.rounds ≡ None → (l.state.rounds ≡ None) × (l.pieces + l.fn.start.state.interactions ≤ l.state.interactions)
      × (l.state.interactions ≤ max l.fn.self.bounds.steps l.fn.start.state.interactions);
  rounds : (m : ℕ) → l.fn.start.state.rounds ≡ Some m → (n : ℕ) × (l.state.rounds ≡ Some n) × (l.pieces + m ≤ n) × ((l.pieces ≡ 0) ⊎ (n + 1 < 2 ^ 64));
  few : (s : SystemParts) → IsStartOf s l.fn.start → (m n : ℕ) → l.fn.start.state.rounds ≡ Some m → l.state.rounds ≡ Some n → n ≤ max l.fn.self.rounds m;
  below : (m n : ℕ) → l.fn.start.state.rounds ≡ Some m → l.state.rounds ≡ Some n → m < l.fn.self.rounds → n < l.fn.self.rounds;
  millis : l.fn.start.state.millis ≤ l.state.millis;
  sound : (l.keeper ≡ l.fn.keeper) ⊎ IsWritten (arc_value l.fn.start.rules).symbols l.state.words.items l.state.terms;
  ready : WereReady l.fn.keeper l.keeper;
  from : (s : SystemParts) → IsStartOf s l.fn.start → IsReachedFrom s (kept_by l.fn.start.state) (kept_by l.state);
  together : (s : SystemParts) → IsStartOf s l.fn.start → (kept_by l.state ≡ kept_by l.fn.start.state) ⊎ ComesTogether s (kept_by l.fn.start.state) (kept_by l.state);
  kept : (s : SystemParts) → IsStartOf s l.fn.start → IsKept (kept_by l.fn.start.state)
      → HasKept g.D.Disk.keeps g.D.Disk.image g.D.Disk.clock g.D.Disk.left s (kept_by l.fn.start.state) l.fn.keeper (kept_by l.state) l.kept_ended l.keeper;
}
