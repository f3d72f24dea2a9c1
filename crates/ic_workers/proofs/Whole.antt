-- Lemmas: one part alone holds what its machine holds.
use Rattle.std.proofs.Common.{◌++◌, ◌==◌, ◌∙◌, ◌∷◌, ◌≡◌, Bool, ℕ, List, [], ap, arith, cond, false, length, map, refl, subst as transport, sum_by, sym}
use Rattle.std.proofs.lemmas.List.{append-nil}
use Rattle.std.proofs.lemmas.List.Sorted.{length_permutation, sum_by-IsPermutation}
use Rattle.std.proofs.lemmas.List.Sums.{sum_by-append, sum_by-cons}
use Rattle.std.specs.Cmp.{unsigned_Decides}
use Rattle.std.specs.Prelude.{IsTrue}
use Rattle.ic_arena.specs.Piece.{Piece, agent_of, equated, idle, uses, waits}
use Rattle.ic_arena.specs.declared.word.Word.{Word}
use Rattle.ic_machine.specs.Net.{pieces}
use Rattle.ic_machine.specs.Plan.{Plans}
use Rattle.ic_machine.specs.Separate.{is_constant_tag}
use Rattle.ic_meaning.specs.Nets.{AreNetPieces, net_of}
use Rattle.ic_meaning.specs.Words.{Numbers}
use Rattle.ic_reaching.specs.Reaching.{Reaches}
use Rattle.ic_round.specs.Naming.{HasNames}
use Rattle.ic_rules.specs.RuleSet.{IsRuleSet, Rules}
use Rattle.ic_term.specs.Configuration.{Configuration}
use Rattle.ic_term.specs.Symbol.{is_over}
use Rattle.ic_workers.proofs.Given.{StepLaws}
use Rattle.ic_machine.specs.lemmas.InRooms.{count_in_room, room_tag, rooms_in_room}
use Rattle.ic_workers.proofs.Led.{given_on}
use Rattle.ic_workers.proofs.OnWay.{each_out}
use Rattle.ic_workers.proofs.PartNets.{holds_in_room}
use Rattle.ic_workers.proofs.Rooms.{net_in_room, numbers_in_room, of_room}
use Rattle.ic_in_place.specs.Holding.{AreGiven, Holds}
use Rattle.ic_machine.specs.Moving.{CutEnd, times}
use Rattle.ic_workers.specs.Parts.{ArePlaced, Hold, Part, all_interface, all_pieces, cut_word, cuts_of, end_piece, room_of}
use Rattle.ic_machine.specs.Rooms.{in_room, piece_in, pieces_in}

-- ---- pieces of one room

pub uses_in_room : (arities : List ℕ) (k : ℕ) (w : Word) (ps : List Piece) → sum_by (uses (in_room arities k w)) (pieces_in arities k ps) ≡ sum_by (uses w) ps
uses_in_room arities k w [] = refl
uses_in_room arities k w (p ∷ ps) =
    let a = sum_by-cons (uses (in_room arities k w)) (piece_in arities k p) (pieces_in arities k ps) in
    let b = sum_by-cons (uses w) p ps in
    let here = one p in
    let rest = uses_in_room arities k w ps in
    omega (arith, a, b, here, rest)
  where
    one : (p : Piece) → uses (in_room arities k w) (piece_in arities k p) ≡ uses w p
    one (equated l r) = count_in_room arities k w (l ∷ r ∷ [])
    one (idle x) = refl
    one (waits x u) = count_in_room arities k w (u ∷ [])
    one (agent_of a ws) = count_in_room arities k w ws

-- the pieces of one room are those of a net by themselves
net_out_of_room : (arities : List ℕ) (k : ℕ) (is : List Word) (ps : List Piece) → AreNetPieces arities (map (in_room arities k) is) (pieces_in arities k ps)
    → AreNetPieces arities is ps
net_out_of_room arities k is ps are = record {
  each = each_out arities k ps are.each;
  separate = record {
    each = λ w place.
        let v : Word = in_room arities k w in
        let there : is_constant_tag arities v.tag ≡ false = ap (is_constant_tag arities) (room_tag arities k w) ∙ place in
        let few = are.separate.each v there in
        let a = count_in_room arities k w is in
        let b = uses_in_room arities k w ps in
        let c = rooms_in_room arities k w ps in
        omega (arith, few, a, b, c);
  };
  once = λ w. let few = are.once (in_room arities k w) in let same = holds_in_room arities k w ps in omega (arith, few, same);
}

-- ---- no cut is left

no_times : (cs : List ℕ) → ((c : ℕ) → times c cs ≡ 0) → cs ≡ []
no_times [] none = refl
no_times (d ∷ ds) none =
    let here = none d in
    let parts = sum_by-cons (λ (m : ℕ). cond {A = ℕ} (m == d) 1 0) d ds in
    let itself : cond {A = ℕ} (d == d) 1 0 ≡ 1 = ap (λ (b : Bool). cond {A = ℕ} b 1 0) ((unsigned_Decides d d).1 refl) in
    absurd (omega (arith, here, parts, itself))

no_ends_alone : (es : List CutEnd) → length (map (λ e. e.cut) es ++ []) ≡ 0 → es ≡ []
no_ends_alone [] none = refl
no_ends_alone (e ∷ es) none = absurd (omega (arith, none))

-- One part has no cut.
alone_no_cuts : (arities cuts : List ℕ) (q : Part) → ArePlaced arities cuts (q ∷ []) → cuts ≡ []
alone_no_cuts arities cuts q placed = no_times cuts (λ c.
    let f : ℕ → ℕ = λ m. cond {A = ℕ} (m == c) 1 0 in
    let moved = sum_by-IsPermutation f (cuts ++ cuts) (cuts_of (q ∷ [])) placed.ends in
    let both = sum_by-append f cuts cuts in
    let own = sum_by-append f (map (λ (e : CutEnd). e.cut) q.borders.ends) [] in
    let few = placed.once.0 c in
    omega (arith, moved, both, own, few))

pub alone_no_ends : (arities cuts : List ℕ) (q : Part) → ArePlaced arities cuts (q ∷ []) → q.borders.ends ≡ []
alone_no_ends arities cuts q placed =
    let none = alone_no_cuts arities cuts q placed in
    let long = length_permutation (cuts ++ cuts) (cuts_of (q ∷ [])) placed.ends in
    let empty : length (cuts ++ cuts) ≡ 0 = ap (λ (l : List ℕ). length (l ++ l)) none in
    no_ends_alone q.borders.ends (omega (arith, long, empty))

-- ---- what the last part holds

-- One part that holds a net holds it by its machine.
pub whole_holds : StepLaws → (rs : Rules) (p : Plans) (c : Configuration) (given fired : List ℕ) (q : Part)
    → IsRuleSet rs → IsTrue (is_over rs.symbols c) → HasNames c → AreGiven given c → Hold rs p c given fired (q ∷ []) → Holds rs p c given fired q.net
whole_holds laws rs p c given fired q set over named free held =
    let k : ℕ = room_of q in
    let n : Numbers = held.numbers in
    let own : List Piece = pieces_in p.arities k (pieces q.net) in
    let words : List Word = map (in_room p.arities k) q.net.interface in
    let no_cuts = alone_no_cuts p.arities held.cuts q held.placed in
    let no_ends = alone_no_ends p.arities held.cuts q held.placed in
    let pieces_are : all_pieces p.arities held.cuts (q ∷ []) ≡ own =
    (λ i. map (λ d. idle (cut_word d)) (no_cuts i) ++ ((own ++ map (end_piece p.arities k) (no_ends i)) ++ []))
    ∙ (append-nil (own ++ []) ∙ append-nil own) in
    let words_are : all_interface p.arities (q ∷ []) ≡ words = append-nil words in
    let net_is : net_of n (all_interface p.arities (q ∷ [])) (all_pieces p.arities held.cuts (q ∷ [])) ≡ net_of (of_room k n) q.net.interface (pieces q.net) =
    (λ i. net_of n (words_are i) (pieces_are i))
    ∙ ((λ i. net_of n (map (in_room (sym held.arities i) k) q.net.interface) (pieces_in (sym held.arities i) k (pieces q.net)))
    ∙ net_in_room n k q.net.interface (pieces q.net)) in
    let d : Configuration = net_of (of_room k n) q.net.interface (pieces q.net) in
    let reached : Reaches rs.rules c d fired = transport (λ (e : Configuration). Reaches rs.rules c e fired) net_is held.reached in
    record {
      numbers = of_room k n;
      sound = numbers_in_room k n held.sound;
      arities = held.arities;
      names = held.names;
      are_pieces = net_out_of_room p.arities k q.net.interface (pieces q.net)
          (transport (λ (ws : List Word). AreNetPieces p.arities ws own) words_are
          (transport (λ (l : List Piece). AreNetPieces p.arities (all_interface p.arities (q ∷ [])) l) pieces_are held.are_pieces));
      has_names = laws.names rs.rules c d fired reached;
      reached = reached;
      free = given_on laws rs c d given fired set over named free reached;
    }
