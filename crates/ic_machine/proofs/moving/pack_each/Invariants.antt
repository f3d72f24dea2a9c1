use Rattle.std.proofs.Common.{List, drop, take}
use Rattle.ic_arena.specs.declared.word.Word.{Word}
use Rattle.ic_machine.specs.Moving.{KeepWorth, Packs, sides_of}
use Rattle.ic_machine.specs.inner.Firing.{arities_of}
use Rattle.ic_machine.specs.inner.Moving.{side_in, AreInHand, IsAsLarge}
use Rattle.ic_machine.proofs.moving.pack_each.Given as goal

abbrev pub invariant-loop-equation : goal.invariant-loop-equation
invariant-loop-equation l = record {
  packs : Packs (arities_of l.initial.tables.heaps.items) (take l.equation-index l.equations) (side_in l.initial.tables l.initial.borders)
      (side_in l.tables l.borders) l.initial.parcel.words.items l.parcel.words.items;
  named : (others : List Word) → AreInHand (sides_of l.equations) others l.initial.tables l.initial.borders
      → AreInHand (sides_of (drop l.equation-index l.equations)) others l.tables l.borders;
  worth : KeepWorth l.initial.borders l.borders l.initial.parcel.words.items l.parcel.words.items;
  size : IsAsLarge l.initial.tables l.tables;
}
