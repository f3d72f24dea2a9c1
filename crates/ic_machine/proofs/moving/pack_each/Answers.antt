use Rattle.std.proofs.Common.{ℕ, ◌+◌, ◌<◌, List, [], ◌∷◌, ◌++◌, length, map, drop, slice_index_or, refl, subst}
use Rattle.ic_arena.specs.declared.word.Word.{Word}
use Rattle.ic_machine.specs.declared.equation.Equation.{Equation}
use Rattle.ic_machine.specs.declared.tables.Tables.{Tables}
use Rattle.ic_machine.specs.Moving.{Ends, Packs, end_word, sides_of}
use Rattle.ic_machine.specs.Separate.{IsSeparate}
use Rattle.ic_machine.specs.inner.Firing.{arities_of}
use Rattle.ic_machine.specs.inner.Moving.{places_in, side_in, AreInHand}
use Rattle.ic_machine.proofs.Packing.{hand_alone, hand_first, hand_left, hand_next, worth_on}
use Rattle.ic_machine.proofs.Parcels.{large, large_on, packs_more, packs_none, sides_from}
use Rattle.ic_machine.proofs.moving.pack_each.Goals as goal

abbrev none : Equation
none = record { left = record { tag = 0; index = 0 }; right = record { tag = 0; index = 0 } }

pub loop-equation-init : goal.loop-equation-init
loop-equation-init c =
    let t : Tables = c.args.tables.now in
    record {
      packs = packs_none (arities_of t.heaps.items) (side_in t c.args.borders.now) c.args.parcel.now.words.items;
      named = λ others hand. hand;
      worth = λ k. refl;
      size = large t;
    }

-- the sides of the next equation in hand, and those of the later ones among the others
next_sides : (es : List Equation) (i : ℕ) (others : List Word) (t : Tables) (b : Ends) → i < length es
    → AreInHand (sides_of (drop i es)) others t b
    → AreInHand ((slice_index_or es i none).left ∷ (slice_index_or es i none).right ∷ []) (sides_of (drop (i + 1) es) ++ others) t b
next_sides es i others t b lt hand =
    hand_first (arities_of t.heaps.items) ((slice_index_or es i none).left ∷ (slice_index_or es i none).right ∷ [])
    (sides_of (drop (i + 1) es)) (map end_word b.ends) others (places_in t)
    (subst (λ (l : List Word). IsSeparate (arities_of t.heaps.items) (l ++ (map end_word b.ends ++ others)) (places_in t))
    (sides_from es i none lt) hand)

pub pack_equation-requires-clause-named : goal.pack_equation-requires-clause-named
pack_equation-requires-clause-named c =
    let t : Tables = c.loop-equation.tables in
    let b : Ends = c.loop-equation.borders in
    let es : List Equation = c.args.equations.now in
    let i : ℕ = c.loop-equation.equation-index in
    let e : Equation = slice_index_or es i none in
    hand_alone (arities_of t.heaps.items) (e.left ∷ e.right ∷ []) (map end_word b.ends) (sides_of (drop (i + 1) es) ++ []) (places_in t)
    (next_sides es i [] t b c.loop-equation-test.true (c.loop-equation.invariant.named [] c.requires.named))

pub loop-equation-preserved : goal.loop-equation-preserved
loop-equation-preserved c =
    let first : Tables = c.args.tables.now in
    let t : Tables = c.loop-equation.tables in
    let b : Ends = c.loop-equation.borders in
    let new : Tables = c.pack_equation.new.tables in
    let es : List Equation = c.args.equations.now in
    let i : ℕ = c.loop-equation.equation-index in
    let e : Equation = slice_index_or es i none in
    let later : List Word = sides_of (drop (i + 1) es) in
    let end : Ends = c.pack_equation.new.borders in
    record {
      packs = packs_more (arities_of first.heaps.items) es i none (side_in first c.args.borders.now) (side_in t b) (side_in new end)
          c.args.parcel.now.words.items c.loop-equation.parcel.words.items c.pack_equation.new.parcel.words.items c.loop-equation-test.true
          c.loop-equation.invariant.packs
          (subst (λ (l : List ℕ). Packs l (e ∷ []) (side_in t b) (side_in new end) c.loop-equation.parcel.words.items
          c.pack_equation.new.parcel.words.items) c.loop-equation.invariant.size.arities c.in_ok-pack_equation.ensures.packs);
      named = λ others hand.
          hand_next (arities_of new.heaps.items) later (map end_word end.ends) others (places_in new)
          (c.in_ok-pack_equation.ensures.named (later ++ others)
          (next_sides es i others t b c.loop-equation-test.true (c.loop-equation.invariant.named others hand)));
      worth = worth_on c.args.borders.now b end c.args.parcel.now.words.items c.loop-equation.parcel.words.items
          c.pack_equation.new.parcel.words.items c.loop-equation.invariant.worth c.in_ok-pack_equation.ensures.worth;
      size = large_on first t new c.loop-equation.invariant.size c.in_ok-pack_equation.ensures.size;
    }

pub returns-in_err-pack_equation-clause-left : goal.returns-in_err-pack_equation-clause-left
returns-in_err-pack_equation-clause-left c = λ others hand.
    let t : Tables = c.loop-equation.tables in
    let new : Tables = c.pack_equation.new.tables in
    let es : List Equation = c.args.equations.now in
    let i : ℕ = c.loop-equation.equation-index in
    let later : List Word = sides_of (drop (i + 1) es) in
    hand_left (arities_of new.heaps.items) later [] others (places_in new)
    (c.in_err-pack_equation.ensures.left (later ++ others)
    (next_sides es i others t c.loop-equation.borders c.loop-equation-test.true (c.loop-equation.invariant.named others hand)))
