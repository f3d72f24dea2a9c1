-- Lemmas: where parts have run, each by itself, all together have taken steps.
use Rattle.std.proofs.Common.{◌≡◌, ℕ, ◌+◌, ◌<◌, List, [], ◌∷◌, ◌++◌, map, sym, ap, subst, append_assoc}
use Rattle.std.specs.List.{AllByRecursion, flat_map}
use Rattle.std.specs.List.Sorted.{IsPermutation}
use Rattle.std.proofs.lemmas.List.Sorted.{IsPermutation-refl, IsPermutation-sym}
use Rattle.ic_arena.specs.Piece.{Piece}
use Rattle.ic_machine.specs.Net.{pieces}
use Rattle.ic_machine.specs.Plan.{Plans, ArePlans}
use Rattle.ic_machine.specs.Rooms.{ROOMS, in_room, pieces_in, IsOutside}
use Rattle.ic_machine.specs.Steps.{Steps, no_step}
use Rattle.ic_machine.specs.lemmas.InRooms.{outside_both}
use Rattle.ic_machine.specs.lemmas.Orders.{to_front}
use Rattle.ic_machine.specs.lemmas.RunsOn.{ran_steps}
use Rattle.ic_machine.specs.lemmas.StepsOn.{steps_through, steps_to}
use Rattle.ic_workers.specs.Parts.{Part, end_piece, part_pieces, room_of}
use Rattle.ic_workers.specs.inner.HandsOn.{HasWorked, HaveWorked}
use Rattle.ic_workers.proofs.Given.{InRoom}
use Rattle.ic_workers.proofs.Apart.{ends_outside, part_outside, parts_outside, AreApart, AreOthers}

-- the plans by which all have fired, those of the first part first
abbrev pub all_fired : (p : Plans) (qs rs : List Part) → HaveWorked p qs rs → List ℕ
all_fired p [] [] worked = []
all_fired p [] (r ∷ rs) worked = []
all_fired p (q ∷ qs) [] worked = []
all_fired p (q ∷ qs) (r ∷ rs) worked = worked.0.ran.fired ++ all_fired p qs rs worked.1

-- a part between others goes to the front, and its ends of cuts after it
pub part_first : (before own ends after : List Piece)
    → IsPermutation (before ++ ((own ++ ends) ++ after)) (own ++ (before ++ (ends ++ after)))
part_first before own ends after =
    subst (λ (l : List Piece). IsPermutation (before ++ l) (own ++ (before ++ (ends ++ after)))) (sym (append_assoc own ends after))
    (to_front before own (ends ++ after))

abbrev pub AreRooms : List Part → Type 0
AreRooms qs = AllByRecursion (λ q. room_of q < ROOMS) qs

-- nothing before says what is at a place of these parts
abbrev pub AreFree : List ℕ → List Piece → List Part → Type 0
AreFree arities before qs = AllByRecursion (λ q. IsOutside arities (room_of q) before) qs

still_free : (arities : List ℕ) (before : List Piece) (r : Part) (qs : List Part) → room_of r < ROOMS → AreRooms qs → AreOthers r.number qs
    → AreFree arities before qs → AreFree arities (before ++ part_pieces arities r) qs
still_free arities before r [] low rooms others free = tt
still_free arities before r (q ∷ qs) low rooms others free = (
  outside_both arities (room_of q) before (part_pieces arities r) free.0 (part_outside arities q r rooms.0 low (λ same. others.0 (sym same))),
  still_free arities before r qs low rooms.1 others.1 free.1,
)

-- Parts that have run, each by itself, have together taken the steps of each, one part after another.
pub worked_steps : InRoom → (p : Plans) (before : List Piece) (qs rs : List Part) → ArePlans p → AreRooms qs → AreApart qs → AreFree p.arities before qs
    → (worked : HaveWorked p qs rs)
    → Steps p (all_fired p qs rs worked) (before ++ flat_map (part_pieces p.arities) qs) (before ++ flat_map (part_pieces p.arities) rs)
worked_steps in_room p before [] [] sound rooms apart free worked = no_step (before ++ []) (before ++ []) (IsPermutation-refl (before ++ []))
worked_steps in_room p before [] (r ∷ rs) sound rooms apart free worked = absurd worked
worked_steps in_room p before (q ∷ qs) [] sound rooms apart free worked = absurd worked
worked_steps in_room p before (q ∷ qs) (r ∷ rs) sound rooms apart free worked =
    let arities : List ℕ = p.arities in
    let k : ℕ = room_of q in
    let one : HasWorked p q r = worked.0 in
    let same : room_of r ≡ k = ap (λ (n : ℕ). n + 1) one.number in
    let rest : List Piece = flat_map (part_pieces arities) qs in
    let ends : List Piece = map (end_piece arities k) q.borders.ends in
    let others : List Piece = before ++ (ends ++ rest) in
    let outside : IsOutside arities k others =
    outside_both arities k before (ends ++ rest) free.0
    (outside_both arities k ends rest (ends_outside arities k k q.borders.ends) (parts_outside arities q qs rooms.0 rooms.1 apart.0)) in
    let first : List Piece = before ++ (part_pieces arities q ++ rest) in
    let middle : List Piece = before ++ (part_pieces arities r ++ rest) in
    let own : List Piece = pieces_in arities k (pieces q.net) ++ others in
    let new : List Piece = pieces_in arities k (pieces r.net) ++ others in
    let there : part_pieces arities r ≡ pieces_in arities k (pieces r.net) ++ ends =
    (λ i. pieces_in arities (same i) (pieces r.net) ++ map (end_piece arities (same i)) (one.borders i).ends) in
    let back : IsPermutation new middle =
    subst (λ (l : List Piece). IsPermutation new (before ++ (l ++ rest))) (sym there)
    (IsPermutation-sym (before ++ ((pieces_in arities k (pieces r.net) ++ ends) ++ rest)) new
    (part_first before (pieces_in arities k (pieces r.net)) ends rest)) in
    let steps : Steps p one.ran.fired first middle =
    steps_to p one.ran.fired first new middle
    (steps_through p [] one.ran.fired first own new
    (no_step first own (part_first before (pieces_in arities k (pieces q.net)) ends rest))
    (in_room p k one.ran.fired (pieces q.net) (pieces r.net) others sound outside (ran_steps p q.net r.net one.ran))) back in
    let low : room_of r < ROOMS = subst (λ (n : ℕ). n < ROOMS) (sym same) rooms.0 in
    let apart_too : AreOthers r.number qs = subst (λ (n : ℕ). AreOthers n qs) (sym one.number) apart.0 in
    let later = worked_steps in_room p (before ++ part_pieces arities r) qs rs sound rooms.1 apart.1
    (still_free arities before r qs low rooms.1 apart_too free.1) worked.1 in
    steps_through p one.ran.fired (all_fired p qs rs worked.1) first middle (before ++ (part_pieces arities r ++ flat_map (part_pieces arities) rs)) steps
    (subst (λ (l : List Piece). Steps p (all_fired p qs rs worked.1) l (before ++ (part_pieces arities r ++ flat_map (part_pieces arities) rs)))
    (append_assoc before (part_pieces arities r) rest)
    (subst (λ (l : List Piece). Steps p (all_fired p qs rs worked.1) ((before ++ part_pieces arities r) ++ rest) l)
    (append_assoc before (part_pieces arities r) (flat_map (part_pieces arities) rs)) later))
