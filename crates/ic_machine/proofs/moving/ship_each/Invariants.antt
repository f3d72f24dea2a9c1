use Rattle.std.proofs.Common.{List, [], take}
use Rattle.ic_arena.specs.declared.word.Word.{Word}
use Rattle.ic_machine.specs.Moving.{AreShipped, KeepWorth}
use Rattle.ic_machine.specs.inner.Firing.{arities_of}
use Rattle.ic_machine.specs.inner.Moving.{side_in, AreInHand, IsAsLarge}
use Rattle.ic_machine.proofs.moving.ship_each.Given as goal

abbrev pub invariant-loop-cut : goal.invariant-loop-cut
invariant-loop-cut l = record {
  ships : AreShipped (arities_of l.initial.tables.heaps.items) (take l.cut-index l.cuts) (side_in l.initial.tables l.initial.borders)
      (side_in l.tables l.borders) l.initial.parcel.words.items l.parcel.words.items;
  named : (others : List Word) → AreInHand [] others l.initial.tables l.initial.borders → AreInHand [] others l.tables l.borders;
  worth : KeepWorth l.initial.borders l.borders l.initial.parcel.words.items l.parcel.words.items;
  size : IsAsLarge l.initial.tables l.tables;
}
