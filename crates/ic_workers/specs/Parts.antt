-- What several machines together stand for: one net in pieces.
use Rattle.std.specs.Prelude.{◌≡◌, ◌⊎◌, ℕ, ◌+◌, ◌<◌, ◌≤◌, ◌==◌, List, [], ◌++◌, map, sum_by, count_by, IsPermutation}
use Rattle.std.specs.List.{flat_map, AllByRecursion}
use Rattle.ic_term.specs.Configuration.{Configuration}
use Rattle.ic_rules.specs.RuleSet.{Rules}
use Rattle.ic_reaching.specs.Reaching.{Reaches}
use Rattle.ic_arena.specs.declared.word.Word.{Word}
use Rattle.ic_arena.specs.Word.{name_word}
use Rattle.ic_arena.specs.Piece.{Piece, equated, idle}
use Rattle.ic_machine.specs.Moving.{CutEnd, Ends, end_word, times, worth}
use Rattle.ic_machine.specs.Net.{Net, pieces}
use Rattle.ic_machine.specs.Plan.{Plans}
use Rattle.ic_machine.specs.Rooms.{ROOMS, in_room, pieces_in}
use Rattle.ic_meaning.specs.Words.{Numbers, AreNumbers}
use Rattle.ic_meaning.specs.Nets.{net_of, AreNetPieces}

-- A part of a net: its number, what its machine holds, and the ends of cuts that it has.
pub record Part : Type 0 where
  pub number : ℕ
  pub net : Net
  pub borders : Ends

-- the room of a part: room 0 is for cuts
abbrev pub room_of : Part → ℕ
room_of q = q.number + 1

-- the name of a cut, among the words of all
abbrev pub cut_word : ℕ → Word
cut_word c = in_room [] 0 (name_word c)

-- a part's name for a cut is equal to the cut
abbrev pub end_piece : List ℕ → ℕ → CutEnd → Piece
end_piece arities k e = equated (in_room arities k (end_word e)) (cut_word e.cut)

-- the pieces of a part in its room, and an equation for each end of a cut
abbrev pub part_pieces : List ℕ → Part → List Piece
part_pieces arities q =
    pieces_in arities (room_of q) (pieces q.net) ++ map (end_piece arities (room_of q)) q.borders.ends

-- the pieces of all parts, and the names of the cuts
abbrev pub all_pieces : List ℕ → (cuts : List ℕ) → List Part → List Piece
all_pieces arities cuts qs = map (λ c. idle (cut_word c)) cuts ++ flat_map (part_pieces arities) qs

-- the words of the interface: one part has them
abbrev pub all_interface : List ℕ → List Part → List Word
all_interface arities qs = flat_map (λ q. map (in_room arities (room_of q)) q.net.interface) qs

abbrev pub cuts_of : List Part → List ℕ
cuts_of qs = flat_map (λ q. map (λ e. e.cut) q.borders.ends) qs

-- Each part has a number of its own, machines are for the same symbols, and part 0 alone has an interface. Each cut has two
-- ends, in different parts. No number that a part may give to a cut is that of another cut, or of another part.
pub record ArePlaced (arities : List ℕ) (cuts : List ℕ) (qs : List Part) : Type 0 where
  pub rooms : AllByRecursion (λ q. room_of q < ROOMS) qs
  pub apart : (k : ℕ) → count_by (λ q. q.number == k) qs ≤ 1
  pub arities_are : AllByRecursion (λ q. q.net.arities ≡ arities) qs
  pub interfaces : AllByRecursion (λ q. (q.number ≡ 0) ⊎ (q.net.interface ≡ [])) qs
  pub ends : IsPermutation (cuts ++ cuts) (cuts_of qs)
  pub once : AllByRecursion (λ q. (c : ℕ) → times c (map (λ e. e.cut) q.borders.ends) ≤ 1) qs
  pub worth_two : (c : ℕ) → (sum_by (λ q. worth c q.borders) qs ≡ 0) ⊎ (sum_by (λ q. worth c q.borders) qs ≡ 2)

-- Parts hold a net that is reached from a configuration by interactions of these rules. For some numbers of places and cuts
-- it is the net of all their pieces.
pub record Hold (rs : Rules) (p : Plans) (c : Configuration) (given fired : List ℕ) (qs : List Part)
    : Type 0 where
  pub cuts : List ℕ
  pub placed : ArePlaced p.arities cuts qs
  pub numbers : Numbers
  pub sound : AreNumbers numbers
  pub arities : numbers.arities ≡ p.arities
  pub names : numbers.given ≡ given
  pub are_pieces : AreNetPieces p.arities (all_interface p.arities qs) (all_pieces p.arities cuts qs)
  pub reached : Reaches rs.rules c
      (net_of numbers (all_interface p.arities qs) (all_pieces p.arities cuts qs)) fired
