-- Lemmas: the first part holds the configuration with which its machine begins.
use Rattle.std.proofs.Common.{◌%◌, ◌*◌, ◌++◌, ◌+◌, ◌-◌, ◌/◌, ◌<◌, ◌==◌, ◌∙◌, ◌∷◌, ◌≡◌, ◌≤◌, ◌⊎◌, Bool, ℕ, List, Option, [], ap, arith, cond, false, inl, inr, length, map, refl, subst as transport, sum_by, sym, true}
use Rattle.std.proofs.lemmas.List.{append-nil}
use Rattle.std.proofs.lemmas.Option.{slice_get_past}
use Rattle.std.proofs.lemmas.List.Sorted.{IsPermutation-refl}
use Rattle.std.proofs.lemmas.List.Sums.{sum_by-cons}
use Rattle.std.specs.Cmp.{unsigned_Decides}
use Rattle.std.specs.List.{AllByRecursion, range_with_len}
use Rattle.std.specs.Option.{option_map_or}
use Rattle.std.specs.Prelude.{IsPermutation}
use Rattle.ic_arena.specs.Piece.{Piece, agent_of, equated, idle, room, uses, waits}
use Rattle.ic_arena.specs.Word.{count, word_eq}
use Rattle.ic_arena.specs.declared.word.TheConstants.{GIVEN}
use Rattle.ic_arena.specs.declared.word.Word.{Word}
use Rattle.ic_arena.specs.lemmas.Rooms.{other_index, other_tag}
use Rattle.ic_machine.specs.Net.{Net, pieces}
use Rattle.ic_machine.specs.Plan.{ArePlans, IsPlan, Planned, Plans}
use Rattle.ic_machine.specs.Runs.{Begins, IsStart, Starts, given_words}
use Rattle.ic_machine.specs.Separate.{IsSeparate, is_constant_tag}
use Rattle.ic_machine.specs.Steps.{Steps}
use Rattle.ic_machine.specs.lemmas.Balance.{steps_balance}
use Rattle.ic_meaning.specs.Nets.{AreNetPieces, ArePieces, holds, net_of}
use Rattle.ic_meaning.specs.Plans.{StandsForNet}
use Rattle.ic_meaning.specs.Words.{AreNumbers, Numbers}
use Rattle.ic_reaching.specs.OneNet.{OneNet}
use Rattle.ic_reaching.specs.Reaching.{Reaches}
use Rattle.ic_round.specs.Naming.{HasNames}
use Rattle.ic_rules.specs.Rule.{Rule}
use Rattle.ic_rules.specs.RuleSet.{Rules}
use Rattle.ic_term.specs.Configuration.{Configuration}
use Rattle.ic_workers.proofs.Dropping.{all_no_uses, no_words}
use Rattle.ic_workers.proofs.Given.{StepLaws}
use Rattle.ic_machine.specs.lemmas.InRooms.{begins_in_room, count_in_room, room_tag, rooms_in_room}
use Rattle.ic_workers.proofs.OnWay.{IsAtRoom, at_room, each_in}
use Rattle.ic_workers.proofs.PartNets.{AreWorthTwo, holds_in_room}
use Rattle.ic_workers.proofs.Whole.{uses_in_room}
use Rattle.ic_machine.specs.Moving.{Ends, times, worth}
use Rattle.ic_workers.specs.Parts.{Hold, Part, all_interface, all_pieces, end_piece}
use Rattle.ic_machine.specs.Rooms.{ROOMS, in_room, piece_in, pieces_in}

-- what the laws of a beginning say
pub record BeginLaws : Type 0 where
  pub net : (arities given : List ℕ) (c : Configuration) (p : Planned) (operands : List ℕ) (interface : List Word) (ps : List Piece) → length arities < GIVEN → HasNames c
      → IsPlan arities (length given) p → StandsForNet arities given c p operands → Begins arities (length given) p operands interface ps
      → (n : Numbers) × (n.arities ≡ arities) × (n.given ≡ given) × AreNumbers n × OneNet c (net_of n interface ps)
  pub pieces : (arities : List ℕ) (given : ℕ) (p : Planned) (operands : List ℕ) (interface : List Word) (ps : List Piece) → IsPlan arities given p
      → Begins arities given p operands interface ps → IsSeparate arities interface ps → AreNetPieces arities interface ps
  pub itself : (rs : List Rule) (c : Configuration) → HasNames c → Reaches rs c c []

true_false : true ≡ false → ⊥
true_false e = cc

-- ---- pieces into a room

-- a word of a room
record IsIn (arities : List ℕ) (k : ℕ) (w : Word) : Type 0 where
  own : Word
  place : is_constant_tag arities own.tag ≡ false
  is : w ≡ in_room arities k own

is_in : (arities : List ℕ) (k : ℕ) (w : Word) → k < ROOMS → is_constant_tag arities w.tag ≡ false
    → IsIn arities k w ⊎ ((u : Word) → word_eq w (in_room arities k u) ≡ false)
is_in arities k w low place = at (w.index % ROOMS == k) refl
  where
    own : Word
    own = record { tag = w.tag; index = w.index / ROOMS }

    at : (b : Bool) → (w.index % ROOMS == k) ≡ b → IsIn arities k w ⊎ ((u : Word) → word_eq w (in_room arities k u) ≡ false)
    at true e =
        let same : w.index % ROOMS ≡ k = (unsigned_Decides (w.index % ROOMS) k).0 e in
        let index : w.index ≡ (w.index / ROOMS) * ROOMS + k = omega (arith, same) in
        let roomed : in_room arities k (record { tag = w.tag; index = w.index / ROOMS }) ≡ record { tag = w.tag; index = (w.index / ROOMS) * ROOMS + k } =
        ap (λ (b : Bool). cond b (record { tag = w.tag; index = w.index / ROOMS }) (record { tag = w.tag; index = (w.index / ROOMS) * ROOMS + k })) place in
        inl (record { own = record { tag = w.tag; index = w.index / ROOMS }; place = place; is = (λ i. record { tag = w.tag; index = index i }) ∙ sym roomed })
    at false e = inr (λ u. other u (is_constant_tag arities u.tag) refl)
      where
        other : (u : Word) (b : Bool) → is_constant_tag arities u.tag ≡ b → word_eq w (in_room arities k u) ≡ false
        other u true f = other_tag w (in_room arities k u)
            (λ same. true_false (sym f ∙ (ap (is_constant_tag arities) (sym (same ∙ room_tag arities k u)) ∙ place)))
        other u false f = ap (λ (v : Word). word_eq w v) (ap (λ (b : Bool). cond b u (record { tag = u.tag; index = u.index * ROOMS + k })) f)
            ∙ other_index w (record { tag = u.tag; index = u.index * ROOMS + k }) (λ same.
            let rest : w.index % ROOMS ≡ k = omega (arith, same, low) in
            true_false (sym ((unsigned_Decides (w.index % ROOMS) k).1 rest) ∙ e))

no_hold : (arities : List ℕ) (k : ℕ) (v : Word) (ps : List Piece) → ((u : Word) → word_eq v (in_room arities k u) ≡ false) → sum_by (holds v) (pieces_in arities k ps) ≡ 0
no_hold arities k v [] out = refl
no_hold arities k v (p ∷ ps) out =
    let parts = sum_by-cons (holds v) (piece_in arities k p) (pieces_in arities k ps) in
    let here = one p in
    let rest = no_hold arities k v ps out in
    omega (arith, parts, here, rest)
  where
    one : (p : Piece) → holds v (piece_in arities k p) ≡ 0
    one (equated l r) = refl
    one (idle x) = ap (λ (b : Bool). cond {A = ℕ} b 1 0) (out x)
    one (waits x u) = ap (λ (b : Bool). cond {A = ℕ} b 1 0) (out x)
    one (agent_of a us) = ap (λ (b : Bool). cond {A = ℕ} b 1 0) (out a)

-- pieces of a net are one in a room, too
net_in_a_room : (arities : List ℕ) (k : ℕ) (is : List Word) (ps : List Piece) → k < ROOMS → AreNetPieces arities is ps
    → AreNetPieces arities (map (in_room arities k) is) (pieces_in arities k ps)
net_in_a_room arities k is ps low are = record {
  each = each_in arities k ps are.each;
  separate = record { each = λ w place. roomy w place (is_in arities k w low place) };
  once = λ w. few w (at_room arities k w ps are.each);
}
  where
    roomy : (w : Word) → is_constant_tag arities w.tag ≡ false → IsIn arities k w ⊎ ((u : Word) → word_eq w (in_room arities k u) ≡ false)
        → count w (map (in_room arities k) is) + sum_by (uses w) (pieces_in arities k ps) ≤ sum_by (room w) (pieces_in arities k ps)
    roomy w place (inl inside) =
        transport (λ (v : Word). count v (map (in_room arities k) is) + sum_by (uses v) (pieces_in arities k ps) ≤ sum_by (room v) (pieces_in arities k ps)) (sym inside.is)
        (let all = are.separate.each inside.own inside.place in
        let a = count_in_room arities k inside.own is in
        let b = uses_in_room arities k inside.own ps in
        let c = rooms_in_room arities k inside.own ps in
        omega (arith, all, a, b, c))
    roomy w place (inr out) =
        let a = no_words arities k w is out in
        let b = all_no_uses arities k w ps out in
        omega (arith, a, b)

    few : (w : Word) → (sum_by (holds w) (pieces_in arities k ps) ≡ 0) ⊎ IsAtRoom arities k w → sum_by (holds w) (pieces_in arities k ps) ≤ 1
    few w (inl none) = omega (arith, none)
    few w (inr there) =
        transport (λ (v : Word). sum_by (holds v) (pieces_in arities k ps) ≤ 1) (sym there.is)
        (let all = are.once there.own in let same = holds_in_room arities k there.own ps in omega (arith, all, same))

-- ---- the first part

-- the only part, with borders of which none is there
abbrev pub first_part : Net → Ends → Part
first_part m b = record { number = 0; net = m; borders = b }

separate_before : (p : Plans) (is : List Word) (xs ys : List Piece) → Steps p [] xs ys → IsSeparate p.arities is ys → IsSeparate p.arities is xs
separate_before p is xs ys steps separate = record {
  each = λ w place. let few = separate.each w place in let balance = steps_balance p [] w xs ys refl steps in omega (arith, few, balance);
}

-- A machine begins with a configuration. As the only part it holds it.
pub begun_hold : BeginLaws → StepLaws → (rs : Rules) (numbers : List ℕ) (p : Plans) (c : Configuration) (given : List ℕ) (plan : Planned) (operands : List ℕ) (m : Net) (b : Ends)
    → HasNames c → ArePlans p → length p.arities < GIVEN → IsPlan p.arities (length given) plan → StandsForNet p.arities given c plan operands
    → IsStart p.arities (length given) plan operands → Starts p (length given) plan operands m → IsSeparate p.arities m.interface (pieces m) → m.arities ≡ p.arities
    → b.ends ≡ [] → AreWorthTwo (first_part m b ∷ []) → Hold rs p c given [] (first_part m b ∷ [])
begun_hold begin laws rs numbers p c given plan operands m b named plans low is_plan stands start starts separate arities none two =
    let k : ℕ = 1 in
    let is : List Word = m.interface in
    let words : List Word = map (in_room p.arities k) is in
    let own : List Piece = pieces_in p.arities k (pieces m) in
    let before : List Piece = pieces_in p.arities k starts.first in
    let constants : AllByRecursion (λ (w : Word). is_constant_tag p.arities w.tag ≡ true) (given_words (length given)) = givens_stay p.arities low (length given) in
    let roomed : Begins p.arities (length given) plan operands words before =
    begins_in_room p.arities k (length given) plan operands is starts.first constants start starts.begins in
    let net = begin.net p.arities given c plan operands words before low named is_plan stands roomed in
    let n : Numbers = net.0 in
    let same : n.arities ≡ p.arities = net.1 in
    let begun : AreNetPieces p.arities is starts.first =
    begin.pieces p.arities (length given) plan operands is starts.first is_plan starts.begins (separate_before p is starts.first (pieces m) starts.steps separate) in
    let are : AreNetPieces p.arities is (pieces m) = laws.kept p is [] starts.first (pieces m) plans begun starts.steps in
    let steps : Steps p [] (before ++ []) (own ++ []) = laws.in_room p k [] starts.first (pieces m) [] plans (λ w place. refl) starts.steps in
    let steps_too : Steps p [] before own =
    transport (λ (l : List Piece). Steps p [] l own) (append-nil before) (transport (Steps p [] (before ++ [])) (append-nil own) steps) in
    let each : ArePieces n.arities before = transport (λ (l : List ℕ). ArePieces l before) (sym same) (each_in p.arities k starts.first begun.each) in
    let linked : OneNet (net_of n words before) (net_of n words own) = laws.linked p n words before own net.4.names_too each steps_too in
    let reached_first : Reaches rs.rules c (net_of n words before) [] = laws.net rs.rules c c (net_of n words before) [] (begin.itself rs.rules c named) net.4 in
    let reached : Reaches rs.rules c (net_of n words own) [] = laws.net rs.rules c (net_of n words before) (net_of n words own) [] reached_first linked in
    let pieces_are : own ≡ all_pieces p.arities [] (first_part m b ∷ []) =
    sym ((λ i. ((own ++ map (end_piece p.arities k) (none i)) ++ [])) ∙ (append-nil (own ++ []) ∙ append-nil own)) in
    let words_are : words ≡ all_interface p.arities (first_part m b ∷ []) = sym (append-nil words) in
    record {
      cuts = [];
      placed = record {
        rooms = (omega arith, tt);
        apart = λ x. (let one = sum_by-cons (λ (q : Part). cond {A = ℕ} (q.number == x) 1 0) (first_part m b) [] in let small = at_most_one (0 == x) in omega (arith, one, small));
        arities_are = (arities, tt);
        interfaces = (inl refl, tt);
        ends = transport (IsPermutation []) (ap (λ l. map (λ e. e.cut) l ++ []) (sym none)) (IsPermutation-refl []);
        once = ((λ x. transport (λ l. times x (map (λ e. e.cut) l) ≤ 1) (sym none) (omega arith)), tt);
        worth_two = two;
      };
      numbers = n;
      sound = net.3;
      arities = same;
      names = net.2;
      are_pieces = transport (λ (ws : List Word). AreNetPieces p.arities ws (all_pieces p.arities [] (first_part m b ∷ []))) words_are
          (transport (AreNetPieces p.arities words) pieces_are (net_in_a_room p.arities k is (pieces m) (omega arith) are));
      reached = transport (λ (e : Configuration). Reaches rs.rules c e []) (λ i. net_of n (words_are i) (pieces_are i)) reached;
    }
  where
    at_most_one : (b : Bool) → cond {A = ℕ} b 1 0 ≤ 1
    at_most_one true = omega arith
    at_most_one false = omega arith

    given_tag : (arities : List ℕ) → length arities < GIVEN → is_constant_tag arities GIVEN ≡ true
    given_tag arities few = ap (λ (o : Option ℕ). option_map_or (λ k. k == 0) o true) (slice_get_past arities (GIVEN - 1) (omega (arith, few)))

    givens_from : (arities : List ℕ) → length arities < GIVEN → (ns : List ℕ) → AllByRecursion (λ (w : Word). is_constant_tag arities w.tag ≡ true) (map (λ i. record { tag = GIVEN; index = i }) ns)
    givens_from arities few [] = tt
    givens_from arities few (i ∷ is) = (given_tag arities few, givens_from arities few is)

    givens_stay : (arities : List ℕ) → length arities < GIVEN → (m : ℕ) → AllByRecursion (λ (w : Word). is_constant_tag arities w.tag ≡ true) (given_words m)
    givens_stay arities few m = givens_from arities few (range_with_len 0 m)

-- what one part is worth
pub alone : (m : Net) (b : Ends) (x : ℕ) → (worth x b ≡ 0) ⊎ (worth x b ≡ 2)
    → (sum_by (λ q. worth x q.borders) (first_part m b ∷ []) ≡ 0) ⊎ (sum_by (λ q. worth x q.borders) (first_part m b ∷ []) ≡ 2)
alone m b x two =
    let one = sum_by-cons (λ (q : Part). worth x q.borders) (first_part m b) [] in
    elim two [
      | inl none ↦ inl (omega (arith, one, none))
      | inr both ↦ inr (omega (arith, one, both))
    ]
