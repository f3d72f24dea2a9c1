use Rattle.std.proofs.Common.{ℕ, List, [], ◌++◌, map, sym, subst, ◌∙◌}
use Rattle.std.proofs.lemmas.List.{append-nil}
use Rattle.ic_arena.specs.declared.word.Word.{Word}
use Rattle.ic_machine.specs.declared.tables.Tables.{Tables}
use Rattle.ic_machine.specs.Moving.{Ends, Side, AreOpened, AreShipped, Packs, end_word, sides_of}
use Rattle.ic_machine.specs.inner.Firing.{arities_of}
use Rattle.ic_machine.specs.inner.Moving.{places_in, side_in, AreInHand, AreLeft}
use Rattle.ic_machine.proofs.Packing.{few_kept, hand_left, hand_next, worth_on}
use Rattle.ic_machine.proofs.Parcels.{packs_then}
use Rattle.ic_machine.proofs.moving.give_tables.Goals as goal
use Rattle.ic_machine.proofs.moving.give_tables.Goals.{In_ok-pack_each}

-- words are next
next_words : (later others : List Word) (t : Tables) (b : Ends) → AreInHand [] (later ++ others) t b → AreInHand later others t b
next_words later others t b = hand_next (arities_of t.heaps.items) later (map end_word b.ends) others (places_in t)

-- no other words beside the sides
whole : (first second : List Word) (t : Tables) (b : Ends) → AreInHand [] (first ++ second) t b → AreInHand [] (first ++ (second ++ [])) t b
whole first second t b = subst (λ (l : List Word). AreInHand [] (first ++ l) t b) (sym (append-nil second))

fewer_left : (words others : List Word) (t : Tables) → AreLeft (words ++ others) t → AreLeft others t
fewer_left words others t = hand_left (arities_of t.heaps.items) words [] others (places_in t)

-- the sides of what was set aside are next
second : (c : In_ok-pack_each) (others : List Word)
    → AreInHand [] (sides_of c.args.pending.now ++ (sides_of c.args.aside.now ++ others)) c.args.tables.now c.args.borders.now
    → AreInHand (sides_of c.args.aside.now) others c.pack_each.new.tables c.pack_each.new.borders
second c others hand =
    let p : List Word = sides_of c.args.pending.now in
    let q : List Word = sides_of c.args.aside.now in
    next_words q others c.pack_each.new.tables c.pack_each.new.borders (c.in_ok-pack_each.ensures.named (q ++ others)
    (next_words p (q ++ others) c.ship_each.new.tables c.ship_each.new.borders
    (c.in_ok-ship_each.ensures.named (p ++ (q ++ others)) hand)))

pub pack_each-requires-2-clause-named : goal.pack_each-requires-2-clause-named
pack_each-requires-2-clause-named c =
    second (goal.at.pack_each-requires-2-clause-named c).In_ok-pack_each []
    (whole (sides_of c.args.pending.now) (sides_of c.args.aside.now) c.args.tables.now c.args.borders.now c.requires.named)

pub pack_circles-requires-clause-numbers : goal.pack_circles-requires-clause-numbers
pack_circles-requires-clause-numbers c =
    few_kept c.pack_each.new.borders c.pack_each-2.new.borders c.pack_each.new.parcel.words.items c.pack_each-2.new.parcel.words.items
    c.in_ok-pack_each-2.ensures.worth
    (few_kept c.args.borders.now c.pack_each.new.borders c.args.parcel.now.words.items c.pack_each.new.parcel.words.items
    (worth_on c.args.borders.now c.ship_each.new.borders c.pack_each.new.borders c.args.parcel.now.words.items c.ship_each.new.parcel.words.items
    c.pack_each.new.parcel.words.items c.in_ok-ship_each.ensures.worth c.in_ok-pack_each.ensures.worth) c.requires.numbers)

pub pack_circles-requires-clause-named : goal.pack_circles-requires-clause-named
pack_circles-requires-clause-named c =
    c.in_ok-pack_each-2.ensures.named [] (second (goal.at.pack_circles-requires-clause-named c).In_ok-pack_each []
    (whole (sides_of c.args.pending.now) (sides_of c.args.aside.now) c.args.tables.now c.args.borders.now c.requires.named))

pub returns-in_err-pack_each-clause-left : goal.returns-in_err-pack_each-clause-left
returns-in_err-pack_each-clause-left c = λ others hand.
    let p : List Word = sides_of c.args.pending.now in
    let q : List Word = sides_of c.args.aside.now in
    let t : Tables = c.ship_each.new.tables in
    let b : Ends = c.ship_each.new.borders in
    fewer_left q others c.pack_each.new.tables (c.in_err-pack_each.ensures.left (q ++ others)
    (next_words p (q ++ others) t b (c.in_ok-ship_each.ensures.named (p ++ (q ++ others)) hand)))

pub returns-in_err-pack_each-2-clause-left : goal.returns-in_err-pack_each-2-clause-left
returns-in_err-pack_each-2-clause-left c = λ others hand.
    let b = (goal.at.returns-in_err-pack_each-2-clause-left c).In_ok-pack_each in
    c.in_err-pack_each-2.ensures.left others (second b others hand)

pub returns-in_err-pack_circles-clause-left : goal.returns-in_err-pack_circles-clause-left
returns-in_err-pack_circles-clause-left c = λ others hand.
    let b = (goal.at.returns-in_err-pack_circles-clause-left c).In_ok-pack_each in
    c.in_err-pack_circles.ensures.left others (c.in_ok-pack_each-2.ensures.named others (second b others hand))

pub returns-then-not-is_idle-clause-left : goal.returns-then-not-is_idle-clause-left
returns-then-not-is_idle-clause-left c = λ others hand.
    let b = (goal.at.returns-then-not-is_idle-clause-left c).In_ok-pack_each in
    c.in_ok-pack_circles.ensures.left others (c.in_ok-pack_each-2.ensures.named others (second b others hand))

pub returns-clause-named : goal.returns-clause-named
returns-clause-named c = λ others hand.
    let b = (goal.at.returns-clause-named c).In_ok-pack_each in
    c.in_ok-pack_circles.ensures.named others (c.in_ok-pack_each-2.ensures.named others (second b others hand))

pub returns-clause-left : goal.returns-clause-left
returns-clause-left c = λ others hand.
    let b = (goal.at.returns-clause-left c).In_ok-pack_each in
    c.in_ok-pack_circles.ensures.left others (c.in_ok-pack_each-2.ensures.named others (second b others hand))

pub returns-clause-gives : goal.returns-clause-gives
returns-clause-gives c =
    let a : List ℕ = arities_of c.args.tables.now.heaps.items in
    let s0 : Side = side_in c.args.tables.now c.args.borders.now in
    let s1 : Side = side_in c.ship_each.new.tables c.ship_each.new.borders in
    let s2 : Side = side_in c.pack_each.new.tables c.pack_each.new.borders in
    let s3 : Side = side_in c.pack_each-2.new.tables c.pack_each-2.new.borders in
    let s4 : Side = side_in c.pack_circles.new.tables c.pack_circles.new.borders in
    let w0 : List Word = c.args.parcel.now.words.items in
    let w1 : List Word = c.ship_each.new.parcel.words.items in
    let w2 : List Word = c.pack_each.new.parcel.words.items in
    let w3 : List Word = c.pack_each-2.new.parcel.words.items in
    let w4 : List Word = c.pack_circles.new.parcel.words.items in
    let one = c.in_ok-ship_each.ensures.size.arities in
    let two = c.in_ok-pack_each.ensures.size.arities ∙ one in
    let three = c.in_ok-pack_each-2.ensures.size.arities ∙ two in
    record {
      first = s1;
      second = s3;
      with_cuts = w1;
      with_equations = w3;
      shipped = subst (λ (l : List ℕ). AreShipped a l s0 s1 w0 w1) c.requires.cuts c.in_ok-ship_each.ensures.ships;
      packs = packs_then a c.args.pending.now c.args.aside.now s1 s2 s3 w1 w2 w3
          (subst (λ (l : List ℕ). Packs l c.args.pending.now s1 s2 w1 w2) one c.in_ok-pack_each.ensures.packs)
          (subst (λ (l : List ℕ). Packs l c.args.aside.now s2 s3 w2 w3) two c.in_ok-pack_each-2.ensures.packs);
      opened = subst (λ (l : List ℕ). AreOpened l s3 s4 w3 w4) three c.in_ok-pack_circles.ensures.opened;
    }
