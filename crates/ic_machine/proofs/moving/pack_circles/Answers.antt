use Rattle.std.proofs.Common.{ℕ, List, refl, subst}
use Rattle.ic_arena.specs.declared.word.Word.{Word}
use Rattle.ic_machine.specs.declared.tables.Tables.{Tables}
use Rattle.ic_machine.specs.Moving.{Ends, AreOpened, none_opened}
use Rattle.ic_machine.specs.inner.Firing.{arities_of}
use Rattle.ic_machine.specs.inner.Moving.{side_in}
use Rattle.ic_machine.proofs.Opening.{opened_on}
use Rattle.ic_machine.proofs.Packing.{worth_on}
use Rattle.ic_machine.proofs.Parcels.{more_names_on, same_names}
use Rattle.ic_machine.proofs.moving.pack_circles.Goals as goal

pub loop-index-init : goal.loop-index-init
loop-index-init c =
    let t : Tables = c.args.tables.now in
    record {
      opened = none_opened (side_in t c.args.borders.now) c.args.parcel.now.words.items;
      named = λ others hand. hand;
      worth = λ k. refl;
      size = same_names t c.requires.few;
    }

pub loop-index-preserved : goal.loop-index-preserved
loop-index-preserved c =
    let first : Tables = c.args.tables.now in
    let t : Tables = c.loop-index.tables in
    let new : Tables = c.pack_circle.new.tables in
    let b : Ends = c.loop-index.borders in
    let end : Ends = c.pack_circle.new.borders in
    let us : List Word = c.args.parcel.now.words.items in
    let vs : List Word = c.loop-index.parcel.words.items in
    let ws : List Word = c.pack_circle.new.parcel.words.items in
    record {
      opened = opened_on (arities_of first.heaps.items) (side_in first c.args.borders.now) (side_in t b) (side_in new end) us vs ws
          c.loop-index.invariant.opened
          (subst (λ (l : List ℕ). AreOpened l (side_in t b) (side_in new end) vs ws) c.loop-index.invariant.size.arities
          c.in_ok-pack_circle.ensures.opened);
      named = λ others hand. c.in_ok-pack_circle.ensures.named others (c.loop-index.invariant.named others hand);
      worth = worth_on c.args.borders.now b end us vs ws c.loop-index.invariant.worth c.in_ok-pack_circle.ensures.worth;
      size = more_names_on first t new c.loop-index.invariant.size c.in_ok-pack_circle.ensures.size;
    }
