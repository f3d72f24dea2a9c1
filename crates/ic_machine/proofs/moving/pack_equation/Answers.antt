use Rattle.std.proofs.Common.{ℕ, List, [], ◌∷◌, map, subst}
use Rattle.ic_arena.specs.declared.word.Word.{Word}
use Rattle.ic_machine.specs.declared.tables.Tables.{Tables}
use Rattle.ic_machine.specs.Moving.{Ends, end_word}
use Rattle.ic_machine.specs.inner.Firing.{arities_of}
use Rattle.ic_machine.specs.inner.Moving.{places_in, side_in, AreInHand, PacksTree}
use Rattle.ic_machine.proofs.Packing.{hand_first, hand_left, hand_next}
use Rattle.ic_machine.proofs.Parcels.{tree_then}
use Rattle.ic_machine.proofs.moving.pack_equation.Goals as goal

-- the left side alone, and the right one among the others
first_side : (l r : Word) (others : List Word) (t : Tables) (b : Ends) → AreInHand (l ∷ r ∷ []) others t b → AreInHand (l ∷ []) (r ∷ others) t b
first_side l r others t b =
    hand_first (arities_of t.heaps.items) (l ∷ []) (r ∷ []) (map end_word b.ends) others (places_in t)

-- the right side, after the left one
second_side : (r : Word) (others : List Word) (t : Tables) (b : Ends) → AreInHand [] (r ∷ others) t b → AreInHand (r ∷ []) others t b
second_side r others t b = hand_next (arities_of t.heaps.items) (r ∷ []) (map end_word b.ends) others (places_in t)

pub pack-requires-2-clause-named : goal.pack-requires-2-clause-named
pack-requires-2-clause-named c =
    second_side c.args.equation.right [] c.pack.new.tables c.pack.new.borders
    (c.in_ok-pack.ensures.named (c.args.equation.right ∷ [])
    (first_side c.args.equation.left c.args.equation.right [] c.args.tables.now c.args.borders.now c.requires.named))

pub returns-in_err-pack-clause-left : goal.returns-in_err-pack-clause-left
returns-in_err-pack-clause-left c = λ others hand.
    let t : Tables = c.pack.new.tables in
    hand_left (arities_of t.heaps.items) (c.args.equation.right ∷ []) [] others (places_in t)
    (c.in_err-pack.ensures.left (c.args.equation.right ∷ others)
    (first_side c.args.equation.left c.args.equation.right others c.args.tables.now c.args.borders.now hand))

pub returns-in_err-pack-2-clause-left : goal.returns-in_err-pack-2-clause-left
returns-in_err-pack-2-clause-left c = λ others hand.
    c.in_err-pack-2.ensures.left others
    (second_side c.args.equation.right others c.pack.new.tables c.pack.new.borders
    (c.in_ok-pack.ensures.named (c.args.equation.right ∷ others)
    (first_side c.args.equation.left c.args.equation.right others c.args.tables.now c.args.borders.now hand)))

pub returns-clause-packs : goal.returns-clause-packs
returns-clause-packs c =
    let t : Tables = c.args.tables.now in
    let mid : Tables = c.pack.new.tables in
    let new : Tables = c.pack-2.new.tables in
    tree_then (arities_of t.heaps.items) c.args.equation (side_in t c.args.borders.now) (side_in mid c.pack.new.borders)
    (side_in new c.pack-2.new.borders) c.args.parcel.now.words.items c.pack.new.parcel.words.items c.pack-2.new.parcel.words.items
    c.in_ok-pack.ensures.packs
    (subst (λ (l : List ℕ). PacksTree l c.args.equation.right (side_in mid c.pack.new.borders) (side_in new c.pack-2.new.borders)
    c.pack.new.parcel.words.items c.pack-2.new.parcel.words.items) c.in_ok-pack.ensures.size.arities c.in_ok-pack-2.ensures.packs)

pub returns-clause-named : goal.returns-clause-named
returns-clause-named c = λ others hand.
    c.in_ok-pack-2.ensures.named others
    (second_side c.args.equation.right others c.pack.new.tables c.pack.new.borders
    (c.in_ok-pack.ensures.named (c.args.equation.right ∷ others)
    (first_side c.args.equation.left c.args.equation.right others c.args.tables.now c.args.borders.now hand)))

pub returns-clause-left : goal.returns-clause-left
returns-clause-left c = λ others hand.
    c.in_ok-pack-2.ensures.left others
    (second_side c.args.equation.right others c.pack.new.tables c.pack.new.borders
    (c.in_ok-pack.ensures.named (c.args.equation.right ∷ others)
    (first_side c.args.equation.left c.args.equation.right others c.args.tables.now c.args.borders.now hand)))
