-- Lemmas: what parts come to holds the net, whatever they did in turn.
use Rattle.std.proofs.Common.{◌≡◌, ◌⊎◌, inl, inr, ℕ, ◌+◌, ◌<◌, ◌≤◌, ◌==◌, List, [], ◌∷◌, ◌++◌, Bool, true, false, cond, length, map, refl, sym, ap, ◌∙◌, append_assoc, append-nil, eq-eqb, arith, sum_by, count_by, slice_index_or, subst as transport}
use Rattle.std.specs.Prelude.{IsPermutation, IsTrue}
use Rattle.std.specs.List.{AllByRecursion, flat_map}
use Rattle.std.specs.Cmp.{unsigned_Decides}
use Rattle.std.proofs.lemmas.Bool.{ne_eqb}
use Rattle.std.proofs.lemmas.List.{length-append, map-append}
use Rattle.std.proofs.lemmas.List.Sums.{sum_by-cons, sum_by-append}
use Rattle.std.proofs.lemmas.List.Sorted.{IsPermutation-trans, IsPermutation-append_right, sum_by-IsPermutation}
use Rattle.ic_term.specs.Configuration.{Configuration}
use Rattle.ic_term.specs.Symbol.{is_over}
use Rattle.ic_rules.specs.RuleSet.{Rules, IsRuleSet}
use Rattle.ic_round.specs.Naming.{HasNames}
use Rattle.ic_reaching.specs.Reaching.{Reaches}
use Rattle.ic_reaching.specs.OneNet.{OneNet}
use Rattle.ic_arena.specs.declared.word.Word.{Word}
use Rattle.ic_arena.specs.Piece.{Piece, idle}
use Rattle.ic_machine.specs.Moving.{times, worth}
use Rattle.ic_machine.specs.Plan.{Plans, ArePlans}
use Rattle.ic_machine.specs.Rooms.{ROOMS, in_room, pieces_in}
use Rattle.ic_meaning.specs.Nets.{net_of, AreNetPieces}
use Rattle.ic_meaning.specs.Plans.{ArePlansOf, rule_number}
use Rattle.ic_readback.specs.lemmas.Orders.{any_order, all_order, flat_order}
use Rattle.ic_in_place.specs.Holding.{AreGiven}
use Rattle.ic_workers.specs.Parts.{Part, all_interface, all_pieces, cut_word, cuts_of, end_piece, part_pieces, room_of, ArePlaced, Hold}
use Rattle.ic_workers.specs.inner.HandsOn.{HandsOn, HaveWorked, IsBare, IsNew, Come, stayed, ordered, worked, handed, added}
use Rattle.ic_workers.proofs.Given.{StepLaws}
use Rattle.ic_workers.proofs.Coming.{worked_hold}
use Rattle.ic_workers.proofs.PartNets.{net_pieces_order}
use Rattle.ic_workers.proofs.Known.{known_all, known_both, AreKnown}
use Rattle.ic_workers.proofs.Working.{all_fired}

-- ---- parts in another order

-- how many parts are the first one
abbrev firsts : List Part → ℕ
firsts qs = count_by (λ q. q.number == 0) qs

abbrev IsPlain : Part → Type 0
IsPlain q = (q.number ≡ 0) ⊎ (q.net.interface ≡ [])

-- one part alone may have an interface
abbrev HaveInterface : List Part → Type 0
HaveInterface qs = AllByRecursion IsPlain qs × (firsts qs ≤ 1)

abbrev InterfaceStays : List ℕ → List Part → List Part → Type 0
InterfaceStays arities xs ys = (firsts ys ≡ firsts xs)
    × (HaveInterface xs → AllByRecursion IsPlain ys × (all_interface arities ys ≡ all_interface arities xs))

first_count : (q : Part) (qs : List Part) → firsts (q ∷ qs) ≡ cond {A = ℕ} (q.number == 0) 1 0 + firsts qs
first_count q qs = sum_by-cons (λ (r : Part). cond {A = ℕ} (r.number == 0) 1 0) q qs

first_is : (q : Part) → q.number ≡ 0 → cond {A = ℕ} (q.number == 0) 1 0 ≡ 1
first_is q e = ap (λ (b : Bool). cond {A = ℕ} b 1 0) (eq-eqb q.number 0 e)

two_words : (a b t : List Word) → (a ≡ []) ⊎ (b ≡ []) → b ++ (a ++ t) ≡ a ++ (b ++ t)
two_words a b t (inl none) = ap (λ (l : List Word). b ++ (l ++ t)) none ∙ ap (λ (l : List Word). l ++ (b ++ t)) (sym none)
two_words a b t (inr none) = ap (λ (l : List Word). l ++ (a ++ t)) none ∙ ap (λ (l : List Word). a ++ (l ++ t)) (sym none)

first_two : (arities : List ℕ) (q r : Part) (qs : List Part) → InterfaceStays arities (q ∷ r ∷ qs) (r ∷ q ∷ qs)
first_two arities q r qs =
    let one = first_count q (r ∷ qs) in
    let two = first_count r qs in
    let three = first_count r (q ∷ qs) in
    let four = first_count q qs in (
      omega (arith, one, two, three, four),
      (λ have. (
        (have.0.1.0, (have.0.0, have.0.1.1)),
        two_words (map (in_room arities (room_of q)) q.net.interface) (map (in_room arities (room_of r)) r.net.interface) (all_interface arities qs)
            (alone have.0.0 have.0.1.0 have.1),
      )),
    )
  where
    alone : IsPlain q → IsPlain r → firsts (q ∷ r ∷ qs) ≤ 1
        → (map (in_room arities (room_of q)) q.net.interface ≡ []) ⊎ (map (in_room arities (room_of r)) r.net.interface ≡ [])
    alone (inr none) other few = inl (ap (map (in_room arities (room_of q))) none)
    alone (inl first) (inr none) few = inr (ap (map (in_room arities (room_of r))) none)
    alone (inl first) (inl second) few =
        let one = first_count q (r ∷ qs) in
        let two = first_count r qs in
        let a = first_is q first in
        let b = first_is r second in
        absurd (omega (arith, one, two, a, b, few))

one_more_part : (arities : List ℕ) (q : Part) (xs ys : List Part) → InterfaceStays arities xs ys → InterfaceStays arities (q ∷ xs) (q ∷ ys)
one_more_part arities q xs ys rest =
    let one = first_count q xs in
    let two = first_count q ys in
    let same = rest.0 in (
      omega (arith, one, two, same),
      (λ have.
          let few = have.1 in
          let later = rest.1 (have.0.1, omega (arith, one, few)) in
          ((have.0.0, later.0), ap (λ (l : List Word). map (in_room arities (room_of q)) q.net.interface ++ l) later.1)),
    )

in_turn : (arities : List ℕ) (xs ys zs : List Part) → InterfaceStays arities xs ys → InterfaceStays arities ys zs → InterfaceStays arities xs zs
in_turn arities xs ys zs first second = (
  second.0 ∙ first.0,
  (λ have.
      let same = first.0 in
      let few = have.1 in
      let one = first.1 have in
      let two = second.1 (one.0, omega (arith, same, few)) in
      (two.0, two.1 ∙ one.1)),
)

interface_order : (arities : List ℕ) (xs ys : List Part) → IsPermutation xs ys → InterfaceStays arities xs ys
interface_order arities = any_order (InterfaceStays arities) (record {
  same = λ xs. (refl, (λ have. (have.0, refl)));
  more = λ q xs ys rest. one_more_part arities q xs ys rest;
  first_two = λ q r qs. first_two arities q r qs;
  in_turn = λ xs ys zs first second. in_turn arities xs ys zs first second;
})

pub placed_order : (arities cuts : List ℕ) (xs ys : List Part) → IsPermutation xs ys → ArePlaced arities cuts xs → ArePlaced arities cuts ys
placed_order arities cuts xs ys moved placed = record {
  rooms = all_order (λ q. room_of q < ROOMS) xs ys moved placed.rooms;
  apart = λ k. let same = sum_by-IsPermutation (λ (q : Part). cond {A = ℕ} (q.number == k) 1 0) xs ys moved in
      let few = placed.apart k in
      omega (arith, same, few);
  arities_are = all_order (λ q. q.net.arities ≡ arities) xs ys moved placed.arities_are;
  interfaces = all_order IsPlain xs ys moved placed.interfaces;
  ends = IsPermutation-trans (cuts ++ cuts) (cuts_of xs) (cuts_of ys) placed.ends (flat_order (λ (q : Part). map (λ e. e.cut) q.borders.ends) xs ys moved);
  once = all_order (λ q. (c : ℕ) → times c (map (λ e. e.cut) q.borders.ends) ≤ 1) xs ys moved placed.once;
  worth_two = λ c. transport (λ (m : ℕ). (m ≡ 0) ⊎ (m ≡ 2)) (sym (sum_by-IsPermutation (λ (q : Part). worth c q.borders) xs ys moved)) (placed.worth_two c);
}

order_hold : StepLaws → (rs : Rules) (p : Plans) (c : Configuration) (given fired : List ℕ) (xs ys : List Part) → IsPermutation xs ys
    → Hold rs p c given fired xs → Hold rs p c given fired ys
order_hold laws rs p c given fired xs ys moved held =
    let old : List Piece = all_pieces p.arities held.cuts xs in
    let new : List Piece = all_pieces p.arities held.cuts ys in
    let i : List Word = all_interface p.arities xs in
    let same : all_interface p.arities ys ≡ i = ((interface_order p.arities xs ys moved).1 (held.placed.interfaces, held.placed.apart 0)).1 in
    let order : IsPermutation old new =
    IsPermutation-append_right (map (λ d. idle (cut_word d)) held.cuts) (flat_map (part_pieces p.arities) xs) (flat_map (part_pieces p.arities) ys)
    (flat_order (part_pieces p.arities) xs ys moved) in
    let named = laws.names rs.rules c (net_of held.numbers i old) fired held.reached in
    let net = laws.order held.numbers i old new named order in
    record {
      cuts = held.cuts;
      placed = placed_order p.arities held.cuts xs ys moved held.placed;
      numbers = held.numbers;
      sound = held.sound;
      arities = held.arities;
      names = held.names;
      are_pieces = transport (λ (ws : List Word). AreNetPieces p.arities ws new) (sym same) (net_pieces_order p.arities i old new order held.are_pieces);
      reached = transport (λ (ws : List Word). Reaches rs.rules c (net_of held.numbers ws new) fired) (sym same)
          (laws.net rs.rules c (net_of held.numbers i old) (net_of held.numbers i new) fired held.reached net);
    }

-- ---- what parts come to

-- the names that occur once are given, where they were
pub given_on : StepLaws → (rs : Rules) (c d : Configuration) (given fired : List ℕ) → IsRuleSet rs → IsTrue (is_over rs.symbols c) → HasNames c
    → AreGiven given c → Reaches rs.rules c d fired → AreGiven given d
given_on laws rs c d given fired set over named free reached x =
    let same = laws.free rs c d fired set over named reached x in
    let are = free x in
    ((λ once. are.0 (same.1 once)), (λ is. same.0 (are.1 is)))

handed_hold : StepLaws → (rs : Rules) (p : Plans) (c : Configuration) (given fired : List ℕ) (xs ys : List Part)
    → IsRuleSet rs → IsTrue (is_over rs.symbols c) → HasNames c → AreGiven given c → HandsOn p.arities xs ys
    → Hold rs p c given fired xs → Hold rs p c given fired ys
handed_hold laws rs p c given fired xs ys set over named free hands held =
    let d : Configuration = net_of held.numbers (all_interface p.arities xs) (all_pieces p.arities held.cuts xs) in
    let given_all : (e : Configuration) → OneNet d e → AreGiven held.numbers.given e =
    (λ e net. transport (λ (l : List ℕ). AreGiven l e) (sym held.names)
    (given_on laws rs c e given fired set over named free (laws.net rs.rules c d e fired held.reached net))) in
    let next = hands.net held.cuts held.placed held.numbers held.sound held.arities held.are_pieces (laws.names rs.rules c d fired held.reached) given_all in
    record {
      cuts = next.0;
      placed = next.1;
      numbers = held.numbers;
      sound = held.sound;
      arities = held.arities;
      names = held.names;
      are_pieces = next.2;
      reached = laws.net rs.rules c d (net_of held.numbers (all_interface p.arities ys) (all_pieces p.arities next.0 ys)) fired held.reached next.3;
    }

no_other : (k : ℕ) (q : Part) (qs : List Part) → q.number ≡ k → AllByRecursion (λ r. ¬ (q.number ≡ r.number)) qs → count_by (λ r. r.number == k) qs ≡ 0
no_other k q [] is other = refl
no_other k q (r ∷ rs) is other =
    let one = sum_by-cons (λ (r : Part). cond {A = ℕ} (r.number == k) 1 0) r rs in
    let here : cond {A = ℕ} (r.number == k) 1 0 ≡ 0 = ap (λ (b : Bool). cond {A = ℕ} b 1 0) (ne_eqb r.number k (λ same. other.0 (is ∙ sym same))) in
    let rest = no_other k q rs is other.1 in
    omega (arith, one, here, rest)

-- a part of nothing adds nothing
added_hold : (rs : Rules) (p : Plans) (c : Configuration) (given fired : List ℕ) (q : Part) (qs : List Part) → IsBare q → IsNew p.arities q qs
    → Hold rs p c given fired qs → Hold rs p c given fired (q ∷ qs)
added_hold rs p c given fired q qs bare new held =
    let k : ℕ = room_of q in
    let none : part_pieces p.arities q ≡ [] = (λ i. pieces_in p.arities k (bare.pieces i) ++ map (end_piece p.arities k) (bare.ends i)) in
    let same_pieces : all_pieces p.arities held.cuts (q ∷ qs) ≡ all_pieces p.arities held.cuts qs =
    ap (λ (l : List Piece). map (λ d. idle (cut_word d)) held.cuts ++ (l ++ flat_map (part_pieces p.arities) qs)) none in
    let same_interface : all_interface p.arities (q ∷ qs) ≡ all_interface p.arities qs =
    ap (λ (l : List Word). map (in_room p.arities k) l ++ all_interface p.arities qs) bare.interface in
    let same_cuts : cuts_of (q ∷ qs) ≡ cuts_of qs = ap (λ l. map (λ e. e.cut) l ++ cuts_of qs) bare.ends in
    record {
      cuts = held.cuts;
      placed = record {
        rooms = (new.room, held.placed.rooms);
        apart = λ x. let one = sum_by-cons (λ (r : Part). cond {A = ℕ} (r.number == x) 1 0) q qs in
            let few = held.placed.apart x in
            apart_at x one few (q.number == x) refl;
        arities_are = (new.arities_are, held.placed.arities_are);
        interfaces = (inr bare.interface, held.placed.interfaces);
        ends = transport (IsPermutation (held.cuts ++ held.cuts)) (sym same_cuts) held.placed.ends;
        once = ((λ x. transport (λ l. times x (map (λ e. e.cut) l) ≤ 1) (sym bare.ends) (omega arith)), held.placed.once);
        worth_two = λ x. worth_at x (sum_by-cons (λ (r : Part). worth x r.borders) q qs) (held.placed.worth_two x);
      };
      numbers = held.numbers;
      sound = held.sound;
      arities = held.arities;
      names = held.names;
      are_pieces = transport (λ (ws : List Word). AreNetPieces p.arities ws (all_pieces p.arities held.cuts (q ∷ qs))) (sym same_interface)
          (transport (λ (l : List Piece). AreNetPieces p.arities (all_interface p.arities qs) l) (sym same_pieces) held.are_pieces);
      reached = transport (λ (ws : List Word). Reaches rs.rules c (net_of held.numbers ws (all_pieces p.arities held.cuts (q ∷ qs))) fired) (sym same_interface)
          (transport (λ (l : List Piece). Reaches rs.rules c (net_of held.numbers (all_interface p.arities qs) l) fired) (sym same_pieces) held.reached);
    }
  where
    apart_at : (x : ℕ) → count_by (λ r. r.number == x) (q ∷ qs) ≡ cond {A = ℕ} (q.number == x) 1 0 + count_by (λ r. r.number == x) qs
        → count_by (λ r. r.number == x) qs ≤ 1 → (b : Bool) → (q.number == x) ≡ b → count_by (λ r. r.number == x) (q ∷ qs) ≤ 1
    apart_at x one few true e =
        let none = no_other x q qs ((unsigned_Decides q.number x).0 e) new.other in
        let here : cond {A = ℕ} (q.number == x) 1 0 ≡ 1 = ap (λ (b : Bool). cond {A = ℕ} b 1 0) e in
        omega (arith, one, none, here)
    apart_at x one few false e =
        let here : cond {A = ℕ} (q.number == x) 1 0 ≡ 0 = ap (λ (b : Bool). cond {A = ℕ} b 1 0) e in
        omega (arith, one, few, here)

    worth_at : (x : ℕ) → sum_by (λ r. worth x r.borders) (q ∷ qs) ≡ worth x q.borders + sum_by (λ r. worth x r.borders) qs
        → (sum_by (λ r. worth x r.borders) qs ≡ 0) ⊎ (sum_by (λ r. worth x r.borders) qs ≡ 2)
        → (sum_by (λ r. worth x r.borders) (q ∷ qs) ≡ 0) ⊎ (sum_by (λ r. worth x r.borders) (q ∷ qs) ≡ 2)
    worth_at x one two = elim (new.numbers x) [
      | inl none ↦ elim two [
        | inl nothing ↦ inl (omega (arith, one, none, nothing))
        | inr both ↦ inr (omega (arith, one, none, both))
      ]
      | inr own ↦ (let here = own.0 in let others = own.1 in inr (omega (arith, one, here, others)))
    ]

-- ---- counts

-- each part counts for as many plans as there are
abbrev pub AreCounted : Plans → List Part → Type 0
AreCounted p qs = AllByRecursion (λ q. length q.net.counts ≡ length p.plans) qs

abbrev pub made_by : List Part → ℕ
made_by qs = sum_by (λ q. q.net.interactions) qs

abbrev pub times_fired : ℕ → List Part → ℕ
times_fired i qs = sum_by (λ q. slice_index_or q.net.counts i 0) qs

-- What parts have come to holds what is reached by the rules of these plans. That many pairs were counted, of each plan, too.
pub record Led (rs : Rules) (numbers : List ℕ) (p : Plans) (c : Configuration) (given before : List ℕ) (qs ss : List Part) : Type 0 where
  pub fired : List ℕ
  pub known : AreKnown p fired
  pub hold : Hold rs p c given (before ++ map (rule_number numbers) fired) ss
  pub made : made_by ss ≡ made_by qs + length fired
  pub counts : (i : ℕ) → i < length p.plans → times_fired i ss ≡ times_fired i qs + count_by (λ j. j == i) fired
  pub counted : AreCounted p ss

worked_made : (p : Plans) (qs rs : List Part) → (ran : HaveWorked p qs rs) → made_by rs ≡ made_by qs + length (all_fired p qs rs ran)
worked_made p [] [] ran = refl
worked_made p [] (r ∷ rs) ran = absurd ran
worked_made p (q ∷ qs) [] ran = absurd ran
worked_made p (q ∷ qs) (r ∷ rs) ran =
    let one = sum_by-cons (λ (q : Part). q.net.interactions) q qs in
    let two = sum_by-cons (λ (q : Part). q.net.interactions) r rs in
    let here = ran.0.ran.counted in
    let rest = worked_made p qs rs ran.1 in
    let both = length-append ran.0.ran.fired (all_fired p qs rs ran.1) in
    omega (arith, one, two, here, rest, both)

worked_counts : (p : Plans) (i : ℕ) (qs rs : List Part) → i < length p.plans → AreCounted p qs → (ran : HaveWorked p qs rs)
    → times_fired i rs ≡ times_fired i qs + count_by (λ j. j == i) (all_fired p qs rs ran)
worked_counts p i [] [] low counted ran = refl
worked_counts p i [] (r ∷ rs) low counted ran = absurd ran
worked_counts p i (q ∷ qs) [] low counted ran = absurd ran
worked_counts p i (q ∷ qs) (r ∷ rs) low counted ran =
    let one = sum_by-cons (λ (q : Part). slice_index_or q.net.counts i 0) q qs in
    let two = sum_by-cons (λ (q : Part). slice_index_or q.net.counts i 0) r rs in
    let long = counted.0 in
    let here = ran.0.ran.counts.each i (omega (arith, low, long)) in
    let rest = worked_counts p i qs rs low counted.1 ran.1 in
    let both = sum_by-append (λ (j : ℕ). cond {A = ℕ} (j == i) 1 0) ran.0.ran.fired (all_fired p qs rs ran.1) in
    omega (arith, one, two, here, rest, both)

worked_counted : (p : Plans) (qs rs : List Part) → AreCounted p qs → HaveWorked p qs rs → AreCounted p rs
worked_counted p [] [] counted ran = tt
worked_counted p [] (r ∷ rs) counted ran = absurd ran
worked_counted p (q ∷ qs) [] counted ran = absurd ran
worked_counted p (q ∷ qs) (r ∷ rs) counted ran = (ran.0.ran.counts.all ∙ counted.0, worked_counted p qs rs counted.1 ran.1)

-- Parts that hold a net hold what they come to.
pub come_led : StepLaws → (rs : Rules) (numbers : List ℕ) (p : Plans) (c : Configuration) (given before : List ℕ) (qs ss : List Part)
    → IsRuleSet rs → IsTrue (is_over rs.symbols c) → HasNames c → ArePlans p → ArePlansOf rs numbers p → AreGiven given c
    → Hold rs p c given before qs → AreCounted p qs → Come p qs ss → Led rs numbers p c given before qs ss
come_led laws rs numbers p c given before qs ss set over named plans of_rules free held counted (stayed a b moved) = record {
  fired = [];
  known = tt;
  hold = transport (λ (l : List ℕ). Hold rs p c given l b) (sym (append-nil before)) (order_hold laws rs p c given before a b moved held);
  made = (let same = sum_by-IsPermutation (λ (q : Part). q.net.interactions) a b moved in omega (arith, same));
  counts = λ i low. (let same = sum_by-IsPermutation (λ (q : Part). slice_index_or q.net.counts i 0) a b moved in omega (arith, same));
  counted = all_order (λ q. length q.net.counts ≡ length p.plans) a b moved counted;
}
come_led laws rs numbers p c given before qs ss set over named plans of_rules free held counted (ordered a b d come moved) =
    let led = come_led laws rs numbers p c given before a b set over named plans of_rules free held counted come in
    record {
      fired = led.fired;
      known = led.known;
      hold = order_hold laws rs p c given (before ++ map (rule_number numbers) led.fired) b d moved led.hold;
      made = (let same = sum_by-IsPermutation (λ (q : Part). q.net.interactions) b d moved in let so_far = led.made in omega (arith, same, so_far));
      counts = λ i low. (let same = sum_by-IsPermutation (λ (q : Part). slice_index_or q.net.counts i 0) b d moved in let so_far = led.counts i low in omega (arith, same, so_far));
      counted = all_order (λ q. length q.net.counts ≡ length p.plans) b d moved led.counted;
    }
come_led laws rs numbers p c given before qs ss set over named plans of_rules free held counted (worked a b d come ran) =
    let led = come_led laws rs numbers p c given before a b set over named plans of_rules free held counted come in
    let more : List ℕ = all_fired p b d ran in
    let so_far : List ℕ = map (rule_number numbers) led.fired in
    let joined : (before ++ so_far) ++ map (rule_number numbers) more ≡ before ++ map (rule_number numbers) (led.fired ++ more) =
    append_assoc before so_far (map (rule_number numbers) more) ∙ ap (λ (l : List ℕ). before ++ l) (sym (map-append (rule_number numbers) led.fired more)) in
    record {
      fired = led.fired ++ more;
      known = known_both p led.fired more led.known (known_all p b d ran);
      hold = transport (λ (l : List ℕ). Hold rs p c given l d) joined
          (worked_hold laws rs numbers p c given (before ++ so_far) b d set over named plans of_rules led.hold ran);
      made = (let one = worked_made p b d ran in let two = led.made in let both = length-append led.fired more in omega (arith, one, two, both));
      counts = λ i low. (let one = worked_counts p i b d low led.counted ran in let two = led.counts i low in
          let both = sum_by-append (λ (j : ℕ). cond {A = ℕ} (j == i) 1 0) led.fired more in omega (arith, one, two, both));
      counted = worked_counted p b d led.counted ran;
    }
come_led laws rs numbers p c given before qs ss set over named plans of_rules free held counted (handed a b d come hands) =
    let led = come_led laws rs numbers p c given before a b set over named plans of_rules free held counted come in
    let so_far : List ℕ = before ++ map (rule_number numbers) led.fired in
    let hold : Hold rs p c given so_far d = handed_hold laws rs p c given so_far b d set over named free hands led.hold in
    record {
      fired = led.fired;
      known = led.known;
      hold = hold;
      made = hands.alike.interactions ∙ led.made;
      counts = λ i low. hands.alike.counts i ∙ led.counts i low;
      counted = hands.alike.plans (length p.plans) led.counted;
    }
come_led laws rs numbers p c given before qs ss set over named plans of_rules free held counted (added q a b come bare new own) =
    let led = come_led laws rs numbers p c given before a b set over named plans of_rules free held counted come in
    record {
      fired = led.fired;
      known = led.known;
      hold = added_hold rs p c given (before ++ map (rule_number numbers) led.fired) q b bare new led.hold;
      made = (let one = sum_by-cons (λ (q : Part). q.net.interactions) q b in let none = bare.interactions in let so_far = led.made in omega (arith, one, none, so_far));
      counts = λ i low. (let one = sum_by-cons (λ (q : Part). slice_index_or q.net.counts i 0) q b in let none = bare.counts i in
          let so_far = led.counts i low in omega (arith, one, none, so_far));
      counted = (own, led.counted);
    }
