use Rattle.std.proofs.Common.{List, []}
use Rattle.ic_arena.specs.declared.word.Word.{Word}
use Rattle.ic_machine.specs.Moving.{AreOpened, KeepWorth}
use Rattle.ic_machine.specs.inner.Firing.{arities_of}
use Rattle.ic_machine.specs.inner.Moving.{side_in, AreInHand, HasMoreNames}
use Rattle.ic_machine.proofs.moving.pack_circles.Given as goal

abbrev pub invariant-loop-index : goal.invariant-loop-index
invariant-loop-index l = record {
  opened : AreOpened (arities_of l.initial.tables.heaps.items) (side_in l.initial.tables l.initial.borders) (side_in l.tables l.borders)
      l.initial.parcel.words.items l.parcel.words.items;
  named : (others : List Word) → AreInHand [] others l.initial.tables l.initial.borders → AreInHand [] others l.tables l.borders;
  worth : KeepWorth l.initial.borders l.borders l.initial.parcel.words.items l.parcel.words.items;
  size : HasMoreNames l.initial.tables l.tables;
}
