use Rattle.std.proofs.Common.{◌+◌, List, [], ◌∷◌, length, sum_by}
use Rattle.ic_arena.specs.declared.word.Word.{Word}
use Rattle.ic_machine.specs.Moving.{KeepWorth}
use Rattle.ic_machine.specs.inner.Firing.{arities_of}
use Rattle.ic_machine.specs.inner.Moving.{places_in, side_in, weight, AreInHand, IsAsLarge, IsUnderWay}
use Rattle.ic_machine.proofs.moving.pack.Given as goal

abbrev pub invariant-loop-next : goal.invariant-loop-next
invariant-loop-next l = record {
  spells : IsUnderWay (arities_of l.initial.tables.heaps.items) (side_in l.initial.tables l.initial.borders) (side_in l.tables l.borders)
      l.fn.word l.initial.parcel.words.items l.parcel.words.items l.parcel.stack.items;
  named : (others : List Word) → AreInHand (l.fn.word ∷ []) others l.initial.tables l.initial.borders
      → AreInHand l.parcel.stack.items others l.tables l.borders;
  worth : KeepWorth l.initial.borders l.borders l.initial.parcel.words.items l.parcel.words.items;
  size : IsAsLarge l.initial.tables l.tables;
}

abbrev pub decreases-loop-next : goal.decreases-loop-next
decreases-loop-next l = sum_by weight (places_in l.tables) + length l.parcel.stack.items
