-- Lemmas: rounds that a machine makes in place are those of its configuration.
use Rattle.std.proofs.Common.{◌≡◌, ℕ, zero, suc, ◌+◌, ◌<◌, ◌≤◌, List, [], ◌∷◌, ◌++◌, length, map, take, drop, refl, sym, ap, ◌∙◌, append_assoc, append-nil, arith, subst as transport}
use Rattle.std.proofs.lemmas.List.{map-append, take-append-drop}
use Rattle.std.proofs.Math.Seq.{take-append_seam, drop-append_seam}
use Rattle.std.proofs.lemmas.List.Sorted.{IsPermutation-refl, IsPermutation-append_comm}
use Rattle.std.specs.Prelude.{IsPermutation, IsTrue}
use Rattle.std.specs.List.{AllByRecursion}
use Rattle.ic_term.specs.Configuration.{Configuration}
use Rattle.ic_term.specs.Symbol.{is_over}
use Rattle.ic_rules.specs.Rule.{Rule}
use Rattle.ic_rules.specs.RuleSet.{Rules, IsRuleSet}
use Rattle.ic_settle.specs.lemmas.Reached.{settled_ends}
use Rattle.ic_round.specs.Firing.{fired as fired_at_once}
use Rattle.ic_round.specs.Naming.{HasNames}
use Rattle.ic_round.specs.Rounds.{round, iterate}
use Rattle.ic_reaching.specs.OneNet.{OneNet}
use Rattle.ic_generations.specs.Firings.{rules_of}
use Rattle.ic_arena.specs.declared.word.Word.{Word}
use Rattle.ic_arena.specs.declared.word.TheConstants.{GIVEN}
use Rattle.ic_arena.specs.Piece.{Piece, equated, idle, waits, agent_of}
use Rattle.ic_machine.specs.declared.equation.Equation.{Equation}
use Rattle.ic_machine.specs.declared.generation.Generation.{Generation}
use Rattle.ic_machine.specs.declared.plan.Link.{Link}
use Rattle.ic_machine.specs.Generations.{Advances, Takes, ended, beside, present, later}
use Rattle.ic_machine.specs.Net.{Net, equated_of, pieces, IsAtPlace, IsPair, IsStuck}
use Rattle.ic_machine.specs.Plan.{Planned, Plans, ArePlans, IsPlan}
use Rattle.ic_machine.specs.Runs.{Starts}
use Rattle.ic_machine.specs.Separate.{IsSeparate}
use Rattle.ic_machine.specs.Steps.{Steps, no_step}
use Rattle.ic_machine.specs.lemmas.FiringKeeps.{all_append}
use Rattle.ic_machine.specs.lemmas.GenerationsOn.{takes_on}
use Rattle.ic_machine.specs.lemmas.RunsOn.{ran_steps}
use Rattle.ic_machine.specs.lemmas.StepsOn.{steps_through}
use Rattle.ic_meaning.specs.First.{LinksPairsFirst}
use Rattle.ic_meaning.specs.Generations.{KeepsNet, FireAsRounds}
use Rattle.ic_meaning.specs.InPlace.{AreRounds, begun, goes_on, put_through, next_round}
use Rattle.ic_meaning.specs.Words.{Numbers, AreNumbers}
use Rattle.ic_meaning.specs.Nets.{net_of, IsStuckPiece}
use Rattle.ic_meaning.specs.Plans.{ArePlansOf, StandsForNet, rule_number}
use Rattle.ic_meaning.specs.lemmas.Orders.{all_front}
use Rattle.ic_meaning.proofs.AgentsStay.{steps_beside}
use Rattle.ic_meaning.proofs.Completed.{takes_all}
use Rattle.ic_meaning.proofs.FirstRound.{n as numbers_of, sound as numbers_are_sound, plain as first_plain, stands_first as first_stands, to_start as first_net, now as first_now, now_pairs as first_pairs, first_round}
use Rattle.ic_meaning.proofs.Going.{Stands, stands_on}
use Rattle.ic_meaning.proofs.Rounds.{RoundLaws, OneRound, AreGiven, one_round, stuck_pieces, first_round as a_round_first}

-- ---- lists

all_taken : {X : Type 0} (xs : List X) → take (length xs) xs ≡ xs
all_taken [] = refl
all_taken (x ∷ xs) = ap (λ l. x ∷ l) (all_taken xs)

all_dropped : {X : Type 0} (xs : List X) → drop (length xs) xs ≡ []
all_dropped [] = refl
all_dropped (x ∷ xs) = all_dropped xs

one_longer : {X : Type 0} (xs : List X) (x : X) → length (xs ++ x ∷ []) ≡ suc (length xs)
one_longer [] x = refl
one_longer (y ∷ xs) x = ap suc (one_longer xs x)

places_stuck : (p : Plans) (ps : List Piece) → AllByRecursion IsAtPlace ps → AllByRecursion (IsStuckPiece p) ps
places_stuck p [] at = tt
places_stuck p (equated l r ∷ ps) at = absurd at.0
places_stuck p (idle x ∷ ps) at = (tt, places_stuck p ps at.1)
places_stuck p (waits x u ∷ ps) at = (tt, places_stuck p ps at.1)
places_stuck p (agent_of a ws ∷ ps) at = (tt, places_stuck p ps at.1)

-- one more round has fired
fire_more : (rs : List Rule) (numbers : List ℕ) (over : List (List ℕ)) (now : List ℕ) (c : Configuration) → FireAsRounds rs numbers over c
    → IsPermutation (map (rule_number numbers) now) (rules_of rs (iterate rs (length over) c).equations) → FireAsRounds rs numbers (over ++ now ∷ []) c
fire_more rs numbers [] now c fired rules = (rules, tt)
fire_more rs numbers (f ∷ over) now c fired rules = (
  fired.0,
  fire_more rs numbers over now (round rs c) fired.1
      (transport (λ z. IsPermutation (map (rule_number numbers) now) (rules_of rs z.equations)) (sym (a_round_first rs (length over) c)) rules),
)

-- how far the rounds of a machine are
record Stage (rs : Rules) (numbers : List ℕ) (p : Plans) (n : Numbers) (i : List Word) (c : Configuration) (over : List (List ℕ)) (now : List ℕ) (g : Generation) (m : Net) : Type 0 where
  es : List Equation
  xs : List Piece
  takes : Takes p es (present g m.pending) now xs (beside (later g m.pending) m)
  go_on : (fired : List ℕ) (ys : List Piece) → Takes p es [] fired xs ys → OneRound rs numbers n i fired ys (iterate rs.rules (length over) c)
  fired : FireAsRounds rs.rules numbers over c
  interface : m.interface ≡ i
  stuck : AllByRecursion (IsStuck p) m.aside

round_over : (rs : Rules) (numbers : List ℕ) (p : Plans) (n : Numbers) (i : List Word) (c : Configuration) (over : List (List ℕ)) (now : List ℕ) (g : Generation) (m : Net)
    → Stage rs numbers p n i c over now g m → g.end ≡ 0 → OneRound rs numbers n i now (pieces m) (iterate rs.rules (length over) c)
round_over rs numbers p n i c over now g m st done =
    let none : present g m.pending ≡ [] = ap (λ (k : ℕ). take k m.pending) done in
    let all : later g m.pending ≡ m.pending = ap (λ (k : ℕ). drop k m.pending) done in
    st.go_on now (pieces m) (transport (λ l. Takes p st.es [] now st.xs (beside l m)) all
    (transport (λ l. Takes p st.es l now st.xs (beside (later g m.pending) m)) none st.takes))

stage_goes_on : (rs : Rules) (numbers : List ℕ) (p : Plans) (n : Numbers) (i : List Word) (c : Configuration) (over : List (List ℕ)) (now : List ℕ) (g h : Generation) (old new : Net)
    → Stage rs numbers p n i c over now g old → (a : Advances p g h old new) → Stage rs numbers p n i c over (now ++ a.ran.fired) h new
stage_goes_on rs numbers p n i c over now g h old new st a = record {
  es = st.es;
  xs = st.xs;
  takes = takes_on p st.es (present g old.pending) (present h new.pending) now a.ran.fired st.xs (beside (later g old.pending) old) (beside (later h new.pending) new) st.takes a.takes;
  go_on = st.go_on;
  fired = st.fired;
  interface = a.ran.interface ∙ st.interface;
  stuck = transport (AllByRecursion (IsStuck p)) (sym a.ran.aside) (all_append (IsStuck p) old.aside a.ran.more st.stuck a.ran.stuck);
}

stage_put_through : (rs : Rules) (numbers : List ℕ) (p : Plans) (n : Numbers) (i : List Word) (c : Configuration) (over : List (List ℕ)) (now : List ℕ) (g : Generation) (old : Net) (places : List Piece)
    → Stage rs numbers p n i c over now g old → ((rest : List Piece) → Steps p [] (old.places ++ rest) (places ++ rest)) → Stage rs numbers p n i c over now g (record old { places = places })
stage_put_through rs numbers p n i c over now g old places st steps =
    let es = present g old.pending in
    let front = map equated_of (later g old.pending) in
    let set = map equated_of old.aside in
    let xs = front ++ (set ++ old.places) in
    let ys = front ++ (set ++ places) in
    let before : IsPermutation xs (old.places ++ (front ++ set)) =
    transport (λ l. IsPermutation l (old.places ++ (front ++ set))) (append_assoc front set old.places) (IsPermutation-append_comm (front ++ set) old.places) in
    let after : IsPermutation (places ++ (front ++ set)) ys =
    transport (IsPermutation (places ++ (front ++ set))) (append_assoc front set places) (IsPermutation-append_comm places (front ++ set)) in
    let all = steps_through p [] [] xs (old.places ++ (front ++ set)) ys (no_step xs (old.places ++ (front ++ set)) before)
    (steps_through p [] [] (old.places ++ (front ++ set)) (places ++ (front ++ set)) ys (steps (front ++ set)) (no_step (places ++ (front ++ set)) ys after)) in
    let takes = takes_on p st.es es es now [] st.xs xs ys st.takes (ended es es xs ys (IsPermutation-refl es) all) in
    record {
      es = st.es;
      xs = st.xs;
      takes = transport (λ l. Takes p st.es es l st.xs ys) (append-nil now) takes;
      go_on = st.go_on;
      fired = st.fired;
      interface = st.interface;
      stuck = st.stuck;
    }

module _ (laws : RoundLaws) (rs : Rules) (numbers : List ℕ) (p : Plans) (n : Numbers) (i : List Word) (c : Configuration) where
  stage_next : (over : List (List ℕ)) (now : List ℕ) (g : Generation) (m : Net) → IsRuleSet rs → ArePlans p → ArePlansOf rs numbers p → AreNumbers n → n.arities ≡ p.arities
      → Stage rs numbers p n i c over now g m → g.end ≡ 0 → AllByRecursion IsAtPlace m.places
      → Stage rs numbers p n i c (over ++ now ∷ []) [] (record { end = length m.pending }) m
  stage_next over now g m set plans of_rules sound same st done at =
      let one = round_over rs numbers p n i c over now g m st done in
      let xs = map equated_of m.aside ++ m.places in
      let h : Generation = record { end = length m.pending } in
      let first : present h m.pending ≡ m.pending = all_taken m.pending in
      let rest : later h m.pending ≡ [] = all_dropped m.pending in
      let d = round rs.rules (iterate rs.rules (length over) c) in
      let stuck = all_append (IsStuckPiece p) (map equated_of m.aside) m.places (stuck_pieces p m.aside st.stuck) (places_stuck p m.places at) in
      let now_takes = ended m.pending m.pending xs xs (IsPermutation-refl m.pending) (no_step xs xs (IsPermutation-refl xs)) in
      record {
        es = m.pending;
        xs = xs;
        takes = transport (λ l. Takes p m.pending l [] xs (beside (later h m.pending) m)) (sym first)
            (transport (λ l. Takes p m.pending m.pending [] xs (beside l m)) (sym rest) now_takes);
        go_on = λ fired ys takes.
            transport (λ (k : ℕ). OneRound rs numbers n i fired ys (iterate rs.rules k c)) (sym (one_longer over now))
            (one_round laws rs numbers p n i m.pending fired xs ys d (record { set = set; plans = plans; of_rules = of_rules; sound = sound; same = same }) one.stands one.free stuck takes
            (laws.going.other_way d (net_of n i (pieces m)) one.net) (λ f step. settled_ends (fired_at_once rs.rules (iterate rs.rules (length over) c)) f step));
        fired = fire_more rs.rules numbers over now c st.fired one.rules;
        interface = st.interface;
        stuck = st.stuck;
      }

-- the pieces of a machine in rounds come of those with which it began
rounds_steps : (p : Plans) (first : Net) (pairs : ℕ) (over : List (List ℕ)) (now : List ℕ) (g : Generation) (m : Net) → AreRounds p first pairs over now g m
    → (fired : List ℕ) × Steps p fired (pieces first) (pieces m)
rounds_steps p first pairs over now g m begun = ([], no_step (pieces first) (pieces first) (IsPermutation-refl (pieces first)))
rounds_steps p first pairs over now g m (goes_on over' before g' h old new so_far a) =
    let rest = rounds_steps p first pairs over' before g' old so_far in
    (rest.0 ++ a.ran.fired, steps_through p rest.0 a.ran.fired (pieces first) (pieces old) (pieces new) rest.1 (ran_steps p old new a.ran))
rounds_steps p first pairs over now g m (put_through over' now' g' old new so_far same steps) =
    let rest = rounds_steps p first pairs over' now' g' old so_far in
    let front = map equated_of old.pending in
    let set = map equated_of old.aside in
    let put = steps_beside p [] front (set ++ old.places) (set ++ new.places) refl (steps_beside p [] set old.places new.places refl (places_alone p old.places new.places (steps []))) in
    let all : Steps p [] (pieces old) (pieces new) = transport (λ (l : Net). Steps p [] (pieces old) (pieces l)) (sym same) put in
    (rest.0 ++ [], steps_through p rest.0 [] (pieces first) (pieces old) (pieces new) rest.1 all)
  where
    places_alone : (q : Plans) (xs ys : List Piece) → Steps q [] (xs ++ []) (ys ++ []) → Steps q [] xs ys
    places_alone q xs ys alone = transport (λ l. Steps q [] l ys) (append-nil xs) (transport (Steps q [] (xs ++ [])) (append-nil ys) alone)
rounds_steps p first pairs over now g m (next_round over' now' g' m' so_far done at) = rounds_steps p first pairs over' now' g' m' so_far

module _ (laws : RoundLaws) (rs : Rules) (numbers given operands : List ℕ) (p : Plans) (c : Configuration) (plan : Planned) (pairs : ℕ) (start : Net)
    (set : IsRuleSet rs) (over_symbols : IsTrue (is_over rs.symbols c)) (named : HasNames c) (plans : ArePlans p) (of_rules : ArePlansOf rs numbers p) (few : length p.arities < GIVEN)
    (is_plan : IsPlan p.arities (length given) plan) (s : StandsForNet p.arities given c plan operands) (parted : LinksPairsFirst p.arities (length given) plan pairs)
    (starts : Starts p (length given) plan operands start) (separate : IsSeparate p.arities start.interface (pieces start)) (none_aside : start.aside ≡ []) where
  abbrev pub n : Numbers
  n = numbers_of laws rs numbers p given c plan operands pairs start few set over_symbols named plans of_rules is_plan s parted starts separate

  abbrev now0 : List Equation
  now0 = first_now laws rs numbers p given c plan operands pairs start few set over_symbols named plans of_rules is_plan s parted starts separate

  pub sound : AreNumbers n
  sound = numbers_are_sound laws rs numbers p given c plan operands pairs start few set over_symbols named plans of_rules is_plan s parted starts separate

  pub to_start : OneNet c (net_of n start.interface (pieces start))
  to_start = first_net laws rs numbers p given c plan operands pairs start few set over_symbols named plans of_rules is_plan s parted starts separate

  first_stage : AreGiven n c → Stage rs numbers p n start.interface c [] [] (record { end = pairs }) start
  first_stage free =
      let pairs_first = first_pairs laws rs numbers p given c plan operands pairs start few set over_symbols named plans of_rules is_plan s parted starts separate in
      let head = starts.head pairs (unmapped _ (take pairs plan.links) pairs_first) in
      let more = head.0 in
      let pending : start.pending ≡ now0 ++ more = head.1 in
      let g : Generation = record { end = pairs } in
      let many : length now0 ≡ pairs = head_length _ pairs plan.links parted.few in
      let present_is : present g start.pending ≡ now0 = ap (take pairs) pending ∙ (ap (λ (k : ℕ). take k (now0 ++ more)) (sym many) ∙ take-append_seam now0 more) in
      let later_is : later g start.pending ≡ more = ap (drop pairs) pending ∙ (ap (λ (k : ℕ). drop k (now0 ++ more)) (sym many) ∙ drop-append_seam now0 more) in
      let others = map equated_of start.aside ++ start.places in
      let xs = map equated_of more ++ others in
      let all : pieces start ≡ map equated_of now0 ++ xs =
      ap (λ l. map equated_of l ++ others) pending ∙ (ap (λ l. l ++ others) (map-append equated_of now0 more) ∙ append_assoc (map equated_of now0) (map equated_of more) others) in
      let linked_up : Steps p [] starts.first (map equated_of now0 ++ xs) = transport (Steps p [] starts.first) all starts.steps in
      let takes = ended now0 now0 xs xs (IsPermutation-refl now0) (no_step xs xs (IsPermutation-refl xs)) in
      record {
        es = now0;
        xs = xs;
        takes = transport (λ l. Takes p now0 l [] xs (beside (later g start.pending) start)) (sym present_is)
            (transport (λ l. Takes p now0 now0 [] xs (beside l start)) (sym later_is) takes);
        go_on = λ fired ys t. first_round laws rs numbers p given c plan operands pairs start few set over_symbols named plans of_rules is_plan s parted starts separate fired xs ys linked_up t free;
        fired = tt;
        interface = refl;
        stuck = transport (AllByRecursion (IsStuck p)) (sym none_aside) tt;
      }
    where
      head_length : (f : Link → Equation) (k : ℕ) (ls : List Link) → k ≤ length ls → length (map f (take k ls)) ≡ k
      head_length f zero ls low = refl
      head_length f (suc k) [] low = absurd (omega (arith, low))
      head_length f (suc k) (l ∷ ls) low = ap suc (head_length f k ls (omega (arith, low)))

      unmapped : (f : Link → Equation) (ls : List Link) → AllByRecursion IsPair (map f ls) → AllByRecursion (λ l. IsPair (f l)) ls
      unmapped f [] all = tt
      unmapped f (l ∷ ls) all = (all.0, unmapped f ls all.1)

  stage : AreGiven n c → (over : List (List ℕ)) (now : List ℕ) (g : Generation) (m : Net) → AreRounds p start pairs over now g m → Stage rs numbers p n start.interface c over now g m
  stage free over now g m begun = first_stage free
  stage free over now g m (goes_on over' before g' h old new so_far a) =
      stage_goes_on rs numbers p n start.interface c over' before g' h old new (stage free over' before g' old so_far) a
  stage free over now g m (put_through over' now' g' old new so_far same steps) =
      transport (Stage rs numbers p n start.interface c over' now' g') (sym same)
      (stage_put_through rs numbers p n start.interface c over' now' g' old new.places (stage free over' now' g' old so_far) steps)
  stage free over now g m (next_round over' now' g' m' so_far done at) =
      stage_next laws rs numbers p n start.interface c over' now' g' m' set plans of_rules sound refl (stage free over' now' g' m' so_far) done at

  pub rounds_are_rounds : AreGiven n c → (over : List (List ℕ)) (now : List ℕ) (g : Generation) (m : Net) → AreRounds p start pairs over now g m → g.end ≡ 0
      → KeepsNet rs n m.interface (pieces m) × OneNet (net_of n m.interface (pieces m)) (iterate rs.rules (length over + 1) c) × FireAsRounds rs.rules numbers (over ++ now ∷ []) c
  rounds_are_rounds free over now g m so_far done =
      let st = stage free over now g m so_far in
      let one = round_over rs numbers p n start.interface c over now g m st done in
      let d = round rs.rules (iterate rs.rules (length over) c) in
      let keeps : KeepsNet rs n start.interface (pieces m) = record { pieces = one.stands.pieces; over = one.stands.over; names = one.stands.named; free = one.free } in
      let count : suc (length over) ≡ length over + 1 = omega arith in
      let net : OneNet (net_of n start.interface (pieces m)) (iterate rs.rules (length over + 1) c) =
      transport (λ (k : ℕ). OneNet (net_of n start.interface (pieces m)) (iterate rs.rules k c)) count (laws.going.other_way d (net_of n start.interface (pieces m)) one.net) in (
        transport (λ (l : List Word). KeepsNet rs n l (pieces m)) (sym st.interface) keeps,
        transport (λ (l : List Word). OneNet (net_of n l (pieces m)) (iterate rs.rules (length over + 1) c)) (sym st.interface) net,
        fire_more rs.rules numbers over now c st.fired one.rules,
      )

  -- where a round is broken off, what has fired in it is a part of what the round fires
  pub round_under_way : AreGiven n c → (over : List (List ℕ)) (now : List ℕ) (g : Generation) (m : Net) → AreRounds p start pairs over now g m → AllByRecursion IsPair m.pending
      → FireAsRounds rs.rules numbers over c
      × ((rest : List ℕ) × IsPermutation (map (rule_number numbers) now ++ rest) (rules_of rs.rules (iterate rs.rules (length over) c).equations))
  round_under_way free over now g m so_far are_pairs =
      let st = stage free over now g m so_far in
      let given_all = first_plain laws rs numbers p given c plan operands pairs start few set over_symbols named plans of_rules is_plan s parted starts separate in
      let begun_with = first_stands laws rs numbers p given c plan operands pairs start few set over_symbols named plans of_rules is_plan s parted starts separate in
      let reached = rounds_steps p start pairs over now g m so_far in
      let es = present g m.pending in
      let xs = beside (later g m.pending) m in
      let split : pieces m ≡ map equated_of es ++ xs =
      ap (λ l. map equated_of l ++ (map equated_of m.aside ++ m.places)) (sym (take-append-drop g.end m.pending))
      ∙ (ap (λ l. l ++ (map equated_of m.aside ++ m.places)) (map-append equated_of es (later g m.pending)) ∙ append_assoc (map equated_of es) (map equated_of (later g m.pending)) (map equated_of m.aside ++ m.places)) in
      let all = steps_through p [] reached.0 starts.first (pieces start) (pieces m) starts.steps reached.1 in
      let stands = transport (Stands rs n start.interface) split (stands_on laws.going rs numbers p n start.interface reached.0 starts.first (pieces m) given_all begun_with all) in
      let front = all_front IsPair es (later g m.pending) (transport (AllByRecursion IsPair) (sym (take-append-drop g.end m.pending)) are_pairs) in
      let more = takes_all laws.going rs numbers p n start.interface given_all es xs front stands in
      let one = st.go_on (now ++ more.0) more.1 (takes_on p st.es es [] now more.0 st.xs xs more.1 st.takes more.2) in
      let part = transport (λ l. IsPermutation l (rules_of rs.rules (iterate rs.rules (length over) c).equations)) (map-append (rule_number numbers) now more.0) one.rules in
      (st.fired, (map (rule_number numbers) more.0, part))
