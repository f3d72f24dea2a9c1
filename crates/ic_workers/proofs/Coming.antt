-- Lemmas: parts that hold a net still do where they have run by themselves.
use Rattle.std.proofs.Common.{◌≡◌, ◌⊎◌, inl, inr, ℕ, ◌+◌, ◌<◌, ◌≤◌, ◌==◌, List, [], ◌∷◌, ◌++◌, Bool, cond, map, refl, sym, ap, subst, ◌∙◌, arith, sum_by}
use Rattle.std.specs.Prelude.{IsPermutation, IsTrue}
use Rattle.std.specs.List.{AllByRecursion}
use Rattle.std.proofs.lemmas.List.Sums.{sum_by-cons}
use Rattle.ic_term.specs.Configuration.{Configuration}
use Rattle.ic_term.specs.Symbol.{is_over}
use Rattle.ic_rules.specs.RuleSet.{Rules, IsRuleSet}
use Rattle.ic_round.specs.Naming.{HasNames}
use Rattle.ic_reaching.specs.Reaching.{Reaches}
use Rattle.ic_arena.specs.declared.word.Word.{Word}
use Rattle.ic_arena.specs.Piece.{Piece, idle, room}
use Rattle.ic_arena.specs.Word.{name_word}
use Rattle.ic_machine.specs.Moving.{times, worth}
use Rattle.ic_machine.specs.Plan.{Plans, ArePlans}
use Rattle.ic_machine.specs.Rooms.{ROOMS, in_room, IsOutside}
use Rattle.ic_machine.specs.Steps.{Steps}
use Rattle.ic_machine.specs.lemmas.InRooms.{apart_in_rooms}
use Rattle.ic_meaning.specs.Nets.{net_of, AreNetPieces}
use Rattle.ic_meaning.specs.Plans.{ArePlansOf, rule_number}
use Rattle.ic_workers.specs.Parts.{Part, all_interface, all_pieces, cut_word, cuts_of, room_of, ArePlaced, Hold}
use Rattle.ic_workers.specs.inner.HandsOn.{HaveWorked}
use Rattle.ic_workers.proofs.Given.{StepLaws}
use Rattle.ic_workers.proofs.Apart.{apart_by_count}
use Rattle.ic_workers.proofs.Working.{AreFree, AreRooms, all_fired, worked_steps}

-- cuts are in a room of their own
pub cuts_outside : (arities : List ℕ) (k : ℕ) (cs : List ℕ) → (k < ROOMS) × (k ≡ 0 → ⊥) → IsOutside arities k (map (λ c. idle (cut_word c)) cs)
cuts_outside arities k [] is w place = refl
cuts_outside arities k (c ∷ cs) is w place =
    let a = sum_by-cons (room (in_room arities k w)) (idle (cut_word c)) (map (λ (d : ℕ). idle (cut_word d)) cs) in
    let here = ap (λ (b : Bool). cond {A = ℕ} b 2 0) (apart_in_rooms arities k 0 w (name_word c) is.0 (omega arith) is.1 place) in
    let rest = cuts_outside arities k cs is w place in
    omega arith

free_of_cuts : (arities : List ℕ) (cs : List ℕ) (qs : List Part) → AreRooms qs → AreFree arities (map (λ c. idle (cut_word c)) cs) qs
free_of_cuts arities cs [] rooms = tt
free_of_cuts arities cs (q ∷ qs) rooms = (
  cuts_outside arities (room_of q) cs (rooms.0, (λ e. omega (arith, e))),
  free_of_cuts arities cs qs rooms.1,
)

-- ---- what stays where parts run

interface_stays : (p : Plans) (qs rs : List Part) → HaveWorked p qs rs → all_interface p.arities rs ≡ all_interface p.arities qs
interface_stays p [] [] worked = refl
interface_stays p [] (r ∷ rs) worked = absurd worked
interface_stays p (q ∷ qs) [] worked = absurd worked
interface_stays p (q ∷ qs) (r ∷ rs) worked =
    λ i. map (in_room p.arities (worked.0.number i + 1)) (worked.0.ran.interface i) ++ interface_stays p qs rs worked.1 i

cuts_stay : (p : Plans) (qs rs : List Part) → HaveWorked p qs rs → cuts_of rs ≡ cuts_of qs
cuts_stay p [] [] worked = refl
cuts_stay p [] (r ∷ rs) worked = absurd worked
cuts_stay p (q ∷ qs) [] worked = absurd worked
cuts_stay p (q ∷ qs) (r ∷ rs) worked = λ i. map (λ e. e.cut) (worked.0.borders i).ends ++ cuts_stay p qs rs worked.1 i

-- a sum over what parts keep where they run
sum_stays : (p : Plans) (f : Part → ℕ) → ((q r : Part) → r.number ≡ q.number → r.borders ≡ q.borders → f r ≡ f q)
    → (qs rs : List Part) → HaveWorked p qs rs → sum_by f rs ≡ sum_by f qs
sum_stays p f same [] [] worked = refl
sum_stays p f same [] (r ∷ rs) worked = absurd worked
sum_stays p f same (q ∷ qs) [] worked = absurd worked
sum_stays p f same (q ∷ qs) (r ∷ rs) worked =
    let a = sum_by-cons f q qs in
    let b = sum_by-cons f r rs in
    let here = same q r worked.0.number worked.0.borders in
    let rest = sum_stays p f same qs rs worked.1 in
    omega arith

-- each part keeps what depends on its number and its borders alone
all_stay : (p : Plans) (P : Part → Type 0) → ((q r : Part) → r.number ≡ q.number → r.borders ≡ q.borders → r.net.arities ≡ q.net.arities → r.net.interface ≡ q.net.interface → P q → P r)
    → (qs rs : List Part) → HaveWorked p qs rs → AllByRecursion P qs → AllByRecursion P rs
all_stay p P same [] [] worked all = tt
all_stay p P same [] (r ∷ rs) worked all = absurd worked
all_stay p P same (q ∷ qs) [] worked all = absurd worked
all_stay p P same (q ∷ qs) (r ∷ rs) worked all =
    (same q r worked.0.number worked.0.borders worked.0.ran.arities worked.0.ran.interface all.0, all_stay p P same qs rs worked.1 all.1)

placed_stay : (p : Plans) (cs : List ℕ) (qs rs : List Part) → HaveWorked p qs rs → ArePlaced p.arities cs qs → ArePlaced p.arities cs rs
placed_stay p cs qs rs worked placed = record {
  rooms = all_stay p (λ q. room_of q < ROOMS) (λ q r number borders arities interface is. subst (λ (n : ℕ). n + 1 < ROOMS) (sym number) is) qs rs worked placed.rooms;
  apart = λ k. let few = placed.apart k in
      let same = sum_stays p (λ (q : Part). cond {A = ℕ} (q.number == k) 1 0)
      (λ q r number borders. ap (λ (n : ℕ). cond {A = ℕ} (n == k) 1 0) number) qs rs worked in
      omega arith;
  arities_are = all_stay p (λ q. q.net.arities ≡ p.arities) (λ q r number borders arities interface is. arities ∙ is) qs rs worked placed.arities_are;
  interfaces = all_stay p (λ q. (q.number ≡ 0) ⊎ (q.net.interface ≡ []))
      (λ q r number borders arities interface is. elim is [
        | inl first ↦ inl (number ∙ first)
        | inr none ↦ inr (interface ∙ none)
      ]) qs rs worked placed.interfaces;
  ends = subst (IsPermutation (cs ++ cs)) (sym (cuts_stay p qs rs worked)) placed.ends;
  once = all_stay p (λ q. (c : ℕ) → times c (map (λ e. e.cut) q.borders.ends) ≤ 1)
      (λ q r number borders arities interface is c. subst (λ b. times c (map (λ e. e.cut) b.ends) ≤ 1) (sym borders) (is c)) qs rs worked placed.once;
  worth_two = λ c. subst (λ (n : ℕ). (n ≡ 0) ⊎ (n ≡ 2))
      (sym (sum_stays p (λ (q : Part). worth c q.borders) (λ q r number borders. ap (worth c) borders) qs rs worked)) (placed.worth_two c);
}

-- Parts that hold a net hold one where they have run by themselves. It is reached by the rules of the plans that fired.
pub worked_hold : StepLaws → (rs : Rules) (numbers : List ℕ) (p : Plans) (c : Configuration) (given fired : List ℕ) (qs ss : List Part)
    → IsRuleSet rs → IsTrue (is_over rs.symbols c) → HasNames c → ArePlans p → ArePlansOf rs numbers p
    → Hold rs p c given fired qs → (worked : HaveWorked p qs ss)
    → Hold rs p c given (fired ++ map (rule_number numbers) (all_fired p qs ss worked)) ss
worked_hold laws rs numbers p c given fired qs ss set over named plans of_rules held worked =
    let placed = held.placed in
    let before : List Piece = map (λ d. idle (cut_word d)) held.cuts in
    let steps : Steps p (all_fired p qs ss worked) (all_pieces p.arities held.cuts qs) (all_pieces p.arities held.cuts ss) =
    worked_steps laws.in_room p before qs ss plans placed.rooms (apart_by_count qs placed.apart) (free_of_cuts p.arities held.cuts qs placed.rooms) worked in
    let i : List Word = all_interface p.arities qs in
    let same : all_interface p.arities ss ≡ i = interface_stays p qs ss worked in
    let are : AreNetPieces held.numbers.arities i (all_pieces p.arities held.cuts qs) =
    subst (λ (a : List ℕ). AreNetPieces a i (all_pieces p.arities held.cuts qs)) (sym held.arities) held.are_pieces in
    record {
      cuts = held.cuts;
      placed = placed_stay p held.cuts qs ss worked placed;
      numbers = held.numbers;
      sound = held.sound;
      arities = held.arities;
      names = held.names;
      are_pieces = subst (λ (ws : List Word). AreNetPieces p.arities ws (all_pieces p.arities held.cuts ss)) (sym same)
          (laws.kept p i (all_fired p qs ss worked) (all_pieces p.arities held.cuts qs) (all_pieces p.arities held.cuts ss) plans held.are_pieces steps);
      reached = subst (λ (ws : List Word). Reaches rs.rules c (net_of held.numbers ws (all_pieces p.arities held.cuts ss))
          (fired ++ map (rule_number numbers) (all_fired p qs ss worked))) (sym same)
          (laws.reached rs numbers p held.numbers c i (all_fired p qs ss worked) (all_pieces p.arities held.cuts qs) (all_pieces p.arities held.cuts ss) fired
          set over named plans of_rules held.sound held.arities are held.reached steps);
    }
