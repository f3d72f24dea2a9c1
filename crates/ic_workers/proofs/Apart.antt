-- Lemmas: parts are apart where they have different numbers.
use Rattle.std.proofs.Common.{◌≡◌, ℕ, ◌+◌, ◌<◌, ◌≤◌, ◌==◌, List, [], ◌∷◌, Bool, cond, map, refl, sym, ap, eq-eqb, arith, count_by}
use Rattle.std.specs.List.{AllByRecursion, flat_map}
use Rattle.std.proofs.lemmas.List.Sums.{sum_by-cons}
use Rattle.ic_arena.specs.Piece.{room}
use Rattle.ic_machine.specs.Moving.{CutEnd}
use Rattle.ic_machine.specs.Net.{pieces}
use Rattle.ic_machine.specs.Rooms.{ROOMS, in_room, pieces_in, IsOutside}
use Rattle.ic_machine.specs.lemmas.InRooms.{outside_both, outside_of}
use Rattle.ic_workers.specs.Parts.{Part, end_piece, part_pieces, room_of}

-- ends of cuts say nothing of a place
pub ends_outside : (arities : List ℕ) (k l : ℕ) (es : List CutEnd) → IsOutside arities k (map (end_piece arities l) es)
ends_outside arities k l [] w place = refl
ends_outside arities k l (e ∷ es) w place =
    let a = sum_by-cons (room (in_room arities k w)) (end_piece arities l e) (map (end_piece arities l) es) in
    let rest = ends_outside arities k l es w place in
    omega arith

-- what is in the room of one part is outside that of another one
pub part_outside : (arities : List ℕ) (q r : Part) → room_of q < ROOMS → room_of r < ROOMS → (q.number ≡ r.number → ⊥)
    → IsOutside arities (room_of q) (part_pieces arities r)
part_outside arities q r low also apart =
    outside_both arities (room_of q) (pieces_in arities (room_of r) (pieces r.net)) (map (end_piece arities (room_of r)) r.borders.ends)
    (outside_of arities (room_of q) (room_of r) (pieces r.net) low also (λ e. apart (omega (arith, e))))
    (ends_outside arities (room_of q) (room_of r) r.borders.ends)

-- no part of these has this number
abbrev pub AreOthers : ℕ → List Part → Type 0
AreOthers k qs = AllByRecursion (λ r. k ≡ r.number → ⊥) qs

pub parts_outside : (arities : List ℕ) (q : Part) (rs : List Part) → room_of q < ROOMS → AllByRecursion (λ r. room_of r < ROOMS) rs
    → AreOthers q.number rs → IsOutside arities (room_of q) (flat_map (part_pieces arities) rs)
parts_outside arities q [] low rooms others = λ w place. refl
parts_outside arities q (r ∷ rs) low rooms others =
    outside_both arities (room_of q) (part_pieces arities r) (flat_map (part_pieces arities) rs)
    (part_outside arities q r low rooms.0 others.0) (parts_outside arities q rs low rooms.1 others.1)

-- no two parts have one number
abbrev pub AreApart : List Part → Type 0
AreApart [] = Unit {0}
AreApart (q ∷ qs) = AreOthers q.number qs × AreApart qs

none_of : (k : ℕ) (qs : List Part) → count_by (λ (q : Part). q.number == k) qs ≡ 0 → AreOthers k qs
none_of k [] none = tt
none_of k (q ∷ qs) none =
    let a : count_by (λ (r : Part). r.number == k) (q ∷ qs) ≡ cond (q.number == k) 1 0 + count_by (λ (r : Part). r.number == k) qs =
    sum_by-cons (λ (r : Part). cond {A = ℕ} (r.number == k) 1 0) q qs in
    let rest : count_by (λ (r : Part). r.number == k) qs ≡ 0 = omega (arith, a, none) in (
      (λ same.
          let here : ◌≡◌ {A = ℕ} (cond (q.number == k) 1 0) 1 = ap (λ (b : Bool). cond {A = ℕ} b 1 0) (eq-eqb q.number k (sym same)) in
          absurd (omega (arith, a, none, here))),
      none_of k qs rest,
    )

pub apart_by_count : (qs : List Part) → ((k : ℕ) → count_by (λ (q : Part). q.number == k) qs ≤ 1) → AreApart qs
apart_by_count [] few = tt
apart_by_count (q ∷ qs) few =
    let a : count_by (λ (r : Part). r.number == q.number) (q ∷ qs) ≡ cond (q.number == q.number) 1 0 + count_by (λ (r : Part). r.number == q.number) qs =
    sum_by-cons (λ (r : Part). cond {A = ℕ} (r.number == q.number) 1 0) q qs in
    let here : ◌≡◌ {A = ℕ} (cond (q.number == q.number) 1 0) 1 = ap (λ (b : Bool). cond {A = ℕ} b 1 0) (eq-eqb q.number q.number refl) in
    let most = few q.number in
    let none : count_by (λ (r : Part). r.number == q.number) qs ≡ 0 = omega (arith, a, here, most) in (
      none_of q.number qs none,
      apart_by_count qs (λ k.
          let b : count_by (λ (r : Part). r.number == k) (q ∷ qs) ≡ cond (q.number == k) 1 0 + count_by (λ (r : Part). r.number == k) qs =
          sum_by-cons (λ (r : Part). cond {A = ℕ} (r.number == k) 1 0) q qs in
          let all = few k in
          omega arith),
    )
