-- Lemmas: the net of pieces in a room is the net of these pieces, by the numbers that the words of the room have.
use Rattle.std.proofs.Common.{◌≡◌, ℕ, ◌-◌, List, [], ◌∷◌, ◌++◌, Bool, true, false, map, refl, sym, ap, ◌∙◌}
use Rattle.std.specs.List.{flat_map}
use Rattle.ic_term.specs.Tree.{name, agent, trees_of}
use Rattle.ic_term.specs.Configuration.{configured}
use Rattle.ic_arena.specs.declared.word.Word.{Word}
use Rattle.ic_arena.specs.Piece.{Piece, equated, idle, waits, agent_of}
use Rattle.ic_machine.specs.Rooms.{in_room, piece_in, pieces_in}
use Rattle.ic_machine.specs.Separate.{is_constant_tag}
use Rattle.ic_machine.specs.lemmas.InRooms.{constant_stays, room_tag, same_in_room}
use Rattle.ic_meaning.specs.Words.{Numbers, AreNumbers, constant, term}
use Rattle.ic_meaning.specs.Nets.{equations_of, net_of}

-- the numbers of the places of a machine, by those of the words of all
abbrev pub of_room : ℕ → Numbers → Numbers
of_room k n = record { arities = n.arities; given = n.given; of_place = λ w. n.of_place (in_room n.arities k w) }

place_term : (n : Numbers) (w : Word) → is_constant_tag n.arities w.tag ≡ false → term n w ≡ name (n.of_place w)
place_term n w e = rw e refl

other_term : (n : Numbers) (w : Word) → is_constant_tag n.arities w.tag ≡ true → term n w ≡ constant n w
other_term n w e = rw e refl

pub term_in_room : (n : Numbers) (k : ℕ) (w : Word) → term n (in_room n.arities k w) ≡ term (of_room k n) w
term_in_room n k w = at (is_constant_tag n.arities w.tag) refl
  where
    at : (b : Bool) → is_constant_tag n.arities w.tag ≡ b → term n (in_room n.arities k w) ≡ term (of_room k n) w
    at true e = ap (term n) (constant_stays n.arities k w e) ∙ (other_term n w e ∙ sym (other_term (of_room k n) w e))
    at false e =
        place_term n (in_room n.arities k w) (ap (is_constant_tag n.arities) (room_tag n.arities k w) ∙ e)
        ∙ sym (place_term (of_room k n) w e)

pub terms_in_room : (n : Numbers) (k : ℕ) (ws : List Word) → map (term n) (map (in_room n.arities k) ws) ≡ map (term (of_room k n)) ws
terms_in_room n k [] = refl
terms_in_room n k (w ∷ ws) = λ i. term_in_room n k w i ∷ terms_in_room n k ws i

pub equations_in_room : (n : Numbers) (k : ℕ) (p : Piece) → equations_of n (piece_in n.arities k p) ≡ equations_of (of_room k n) p
equations_in_room n k (equated l r) = λ i. record { left = term_in_room n k l i; right = term_in_room n k r i } ∷ []
equations_in_room n k (idle x) = refl
equations_in_room n k (waits x u) = λ i. record { left = name (n.of_place (in_room n.arities k x)); right = term_in_room n k u i } ∷ []
equations_in_room n k (agent_of a ws) = λ i. record {
  left = name (n.of_place (in_room n.arities k a));
  right = agent (room_tag n.arities k a i - 1) (trees_of (terms_in_room n k ws i));
} ∷ []

pub all_in_room : (n : Numbers) (k : ℕ) (ps : List Piece)
    → flat_map (equations_of n) (pieces_in n.arities k ps) ≡ flat_map (equations_of (of_room k n)) ps
all_in_room n k [] = refl
all_in_room n k (p ∷ ps) = λ i. equations_in_room n k p i ++ all_in_room n k ps i

-- The pieces of one room, without those of others, are the net of the machine.
pub net_in_room : (n : Numbers) (k : ℕ) (interface : List Word) (ps : List Piece)
    → net_of n (map (in_room n.arities k) interface) (pieces_in n.arities k ps) ≡ net_of (of_room k n) interface ps
net_in_room n k interface ps = λ i. configured (terms_in_room n k interface i) (all_in_room n k ps i)

pub numbers_in_room : (k : ℕ) (n : Numbers) → AreNumbers n → AreNumbers (of_room k n)
numbers_in_room k n sound = record {
  apart = λ v w e. sym (same_in_room n.arities k v w) ∙ sound.apart (in_room n.arities k v) (in_room n.arities k w) e;
  not_given = λ i x w e. sound.not_given i x (in_room n.arities k w) e;
  few = sound.few;
}
