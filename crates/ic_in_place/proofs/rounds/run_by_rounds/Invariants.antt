use Rattle.std.proofs.Common.{◌≡◌, ◌<◌, ◌≤◌, ℕ, List, [], Option}
use Rattle.ic_rules.specs.System.{SystemParts}
use Rattle.ic_in_place.specs.inner.Rounds.{AreEarly, RoundBegins}
use Rattle.ic_in_place.proofs.rounds.run_by_rounds.Given as goal

abbrev pub invariant-loop-round : goal.invariant-loop-round
invariant-loop-round g l = record {
  begins : RoundBegins l.program l.pairs l.round l.generation l.initial.machine l.machine;
  early : AreEarly l.enough begins.told;
  tells : (s : SystemParts) (numbers : List ℕ) (first : _) (before : Option (List ℕ))
      → g.S.Rows.tells s numbers first l.initial.rows before (g.W.Write.contents l.initial.writer) []
      → g.S.Rows.tells s numbers first l.rows before (g.W.Write.contents l.writer) begins.told;
  arities : l.machine.arities ≡ l.program.arities;
  looks : l.machine.interactions ≤ l.looks.next;
  room : l.looks.next < 4611686018427387904;
}
