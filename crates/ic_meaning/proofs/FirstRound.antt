-- Lemmas: the first generation of a machine is the first round of its configuration, whether that is settled or not.
use Rattle.std.proofs.Common.{◌≡◌, ◌⊎◌, ℕ, suc, ◌+◌, ◌-◌, ◌≤◌, ◌<◌, List, [], ◌∷◌, ◌++◌, Bool, true, false, not, cond, Option, None, Some, is_none, is_some, length, map, take, drop, sum_by, refl, sym, ap, ◌∙◌, append_assoc, arith, inl, inr, subst as transport}
use Rattle.std.proofs.lemmas.Bool.{and_parts, true≢false, lt-ltb, le-ltb, le-leb, lt-leb, cases_lt}
use Rattle.std.proofs.lemmas.Grind.{flat_map-append as flat_parts}
use Rattle.std.proofs.lemmas.List.{map-append, take-append-drop}
use Rattle.std.proofs.lemmas.List.Folds.{list_all-append}
use Rattle.std.proofs.lemmas.List.Sums.{sum_by-append, sum_by-cons}
use Rattle.std.proofs.lemmas.List.Sorted.{IsPermutation-refl, IsPermutation-sym, IsPermutation-trans, IsPermutation-append_left, IsPermutation-append_right, IsPermutation-append_comm, sum_by-IsPermutation, length_permutation}
use Rattle.std.specs.Prelude.{IsPermutation, IsTrue, filter}
use Rattle.std.specs.List.{AllByRecursion, flat_map, list_all}
use Rattle.ic_term.specs.Tree.{Tree, agent, no_trees, Pair}
use Rattle.ic_term.specs.Configuration.{Configuration}
use Rattle.ic_term.specs.Symbol.{is_over}
use Rattle.ic_rules.specs.Rule.{Rule}
use Rattle.ic_rules.specs.RuleSet.{Rules, IsRuleSet}
use Rattle.ic_settle.specs.NameSteps.{NameSteps}
use Rattle.ic_settle.specs.lemmas.SubstitutionLaws.{and_both}
use Rattle.ic_round.specs.Firing.{Active, active_pair}
use Rattle.ic_round.specs.Interactions.{active_equations}
use Rattle.ic_round.specs.Naming.{HasNames}
use Rattle.ic_round.specs.Quiet.{is_inert}
use Rattle.ic_round.specs.Rounds.{round}
use Rattle.ic_round.specs.lemmas.AnyOrder.{each_permuted as all_order}
use Rattle.ic_reaching.specs.OneNet.{OneNet, SameButNext}
use Rattle.ic_reaching.specs.Reaching.{Reaches}
use Rattle.ic_generations.specs.Firings.{rules_of}
use Rattle.ic_generations.specs.Generations.{Generation, whole, without_now, changes as goes_changes}
use Rattle.ic_generations.specs.Waiting.{are_agents as are_pairs}
use Rattle.ic_arena.specs.declared.word.Word.{Word}
use Rattle.ic_arena.specs.declared.word.TheConstants.{GIVEN}
use Rattle.ic_arena.specs.Piece.{Piece, idle, room, uses}
use Rattle.ic_arena.specs.Tables.{register}
use Rattle.ic_machine.specs.declared.equation.Equation.{Equation}
use Rattle.ic_machine.specs.declared.plan.Link.{Link}
use Rattle.ic_machine.specs.Generations.{Takes}
use Rattle.ic_machine.specs.Net.{Net, equated_of, pieces, IsPair, IsStuck}
use Rattle.ic_machine.specs.Plan.{Made, Planned, Plans, ArePlans, IsPlan, constants, link_operands, linked, made_each, pieces_made}
use Rattle.ic_machine.specs.Runs.{Begins, Starts, given_words, equation_at}
use Rattle.ic_machine.specs.Separate.{IsSeparate}
use Rattle.ic_machine.specs.Steps.{Steps, no_step}
use Rattle.ic_machine.specs.lemmas.Balance.{steps_balance}
use Rattle.ic_machine.specs.lemmas.FiringKeeps.{all_append}
use Rattle.ic_machine.specs.lemmas.Orders.{to_front}
use Rattle.ic_machine.specs.lemmas.StepsOn.{steps_through}
use Rattle.ic_meaning.specs.First.{holds_agent, joins_agents, LinksPairsFirst}
use Rattle.ic_meaning.specs.Words.{Numbers, AreNumbers, term}
use Rattle.ic_meaning.specs.Nets.{equations_of, net_of, AreNetPieces, IsStuckPiece}
use Rattle.ic_meaning.specs.Plans.{ArePlansOf, StandsForNet, first_made, held_made, linked_terms, named_terms, rule_number}
use Rattle.ic_meaning.specs.lemmas.Orders.{all_front, all_back}
use Rattle.ic_meaning.specs.lemmas.Ruleless.{no_rule}
use Rattle.ic_meaning.proofs.AgentsStay.{is_agent, is_other, agents_stay, steps_beside}
use Rattle.ic_meaning.proofs.Begun.{place_number, first_sound, given_length, named_low, named_high, begun_alike, begun_one, begun_pieces}
use Rattle.ic_meaning.proofs.FirstPlan.{stem, stem_agent, stem_made, held_low, are_of_rule, active_stem, name_inert, pairs_more, pairs_are_settled, half_plan, half_parts, half_named, half_stands, whole_same, cut, front, twos}
use Rattle.ic_meaning.proofs.Given.{NetLaws}
use Rattle.ic_meaning.proofs.Going.{Plain, Stands, stands_on, rest_changes, Path, path_of, TakenPath, generation, placed, parts_are, NotIn, out_of_made}
use Rattle.ic_meaning.proofs.Joined.{joined, AreTwos, joined_steps, joined_but_next, pairs_from}
use Rattle.ic_meaning.proofs.Meetings.{Met, pair_of, agents_of, put_of, equations, tops, net_met, are_agents}
use Rattle.ic_meaning.proofs.PairsStay.{pairs_stay}
use Rattle.ic_meaning.proofs.Reached.{linked_net, steps_reach}
use Rattle.ic_meaning.proofs.Registers.{register_back, register_later, register_constant, held_word}
use Rattle.ic_meaning.proofs.Removed.{all_moved}
use Rattle.ic_meaning.proofs.Rounds.{RoundLaws, OneRound, AreGiven, given_through, none_made, steps_named, steps_over, count_first, one_or_none, pieces_inert, stuck_pieces}
use Rattle.ic_meaning.proofs.Wholes.{with_equations}

-- ---- lists

two_maps : {X Y Z : Type 0} (f : Y → Z) (g : X → Y) (xs : List X) → map f (map g xs) ≡ map (λ x. f (g x)) xs
two_maps f g [] = refl
two_maps f g (x ∷ xs) = ap (λ l. f (g x) ∷ l) (two_maps f g xs)

equated_links : (regs : List Word) (ls : List Link) → map equated_of (map (equation_at regs) ls) ≡ map (linked regs) ls
equated_links regs [] = refl
equated_links regs (l ∷ ls) = ap (λ ps. linked regs l ∷ ps) (equated_links regs ls)

links_equations : (n : Numbers) (regs : List Word) (ls : List Link) → map (linked_terms (λ j. term n (register regs j))) ls ≡ equations n (map (linked regs) ls)
links_equations n regs [] = refl
links_equations n regs (l ∷ ls) = ap (λ es. record { left = term n (register regs l.left); right = term n (register regs l.right) } ∷ es) (links_equations n regs ls)

links_other : (regs : List Word) (ls : List Link) → list_all is_other (map (linked regs) ls) ≡ true
links_other regs [] = refl
links_other regs (l ∷ ls) = links_other regs ls

no_agent : (a : Piece) → is_agent a ≡ true → is_other a ≡ true → ⊥
no_agent a is other = true≢false (sym other ∙ ap not is)

none_there : (made cells : List Piece) → list_all is_other made ≡ true → list_all is_agent cells ≡ true → AllByRecursion (NotIn made) cells
none_there made [] others agents = tt
none_there made (a ∷ cells) others agents =
    let both = and_parts (is_agent a) (list_all is_agent cells) agents in (
      (λ s moved. no_agent a both.0 (and_parts (is_other a) (list_all is_other s) (all_moved is_other made (a ∷ s) moved others)).0),
      none_there made cells others both.1,
    )

idle_stuck : (p : Plans) (ws : List Word) → AllByRecursion (IsStuckPiece p) (map idle ws)
idle_stuck p [] = tt
idle_stuck p (w ∷ ws) = (tt, idle_stuck p ws)

made_stuck : (p : Plans) (regs : List Word) (ms : List Made) (ws : List Word) → AllByRecursion (IsStuckPiece p) (made_each regs ms ws)
made_stuck p regs [] ws = tt
made_stuck p regs (m ∷ ms) [] = tt
made_stuck p regs (m ∷ ms) (w ∷ ws) = (tt, made_stuck p regs ms ws)

-- what is separate after steps that fire nothing was so before
separate_before : (p : Plans) (i : List Word) (xs ys : List Piece) → Steps p [] xs ys → IsSeparate p.arities i ys → IsSeparate p.arities i xs
separate_before p i xs ys steps s = record {
  each = λ w place.
      let after = s.each w place in
      let same : sum_by (room w) xs + sum_by (uses w) ys ≡ sum_by (room w) ys + sum_by (uses w) xs = steps_balance p [] w xs ys refl steps in
      omega (arith, after, same);
}

-- ---- how many equations are active

abbrev many : List Rule → List Pair → ℕ
many rs es = length (filter (λ q. is_some (active_pair rs q)) es)

rules_many : (rs : List Rule) (es : List Pair) → length (rules_of rs es) ≡ many rs es
rules_many rs [] = refl
rules_many rs (p ∷ es) = at (active_pair rs p) refl (rules_many rs es)
  where
    at : (o : Option Active) → active_pair rs p ≡ o → length (rules_of rs es) ≡ many rs es → length (rules_of rs (p ∷ es)) ≡ many rs (p ∷ es)
    at None is rest = rw is rest
    at (Some found) is rest = rw is (ap suc rest)

-- whether agents with these tags have a rule
abbrev by_tags : List Rule → Equation → ℕ
by_tags rs e = are_of_rule rs e.left.tag e.right.tag

tops_many : (rs : List Rule) (n : Numbers) (ms : List Met) → many rs (tops n ms) ≡ sum_by (by_tags rs) (map pair_of ms)
tops_many rs n [] = refl
tops_many rs n (m ∷ ms) =
    let rest = tops_many rs n ms in
    let first = one_or_none (put_of n m) (filter (λ q. is_some (active_pair rs q)) (tops n ms)) (is_some (active_pair rs (put_of n m))) in
    let here = active_stem rs (put_of n m).left (put_of n m).right (omega arith) (omega arith) in
    let all = sum_by-cons (by_tags rs) (pair_of m) (map pair_of ms) in
    omega (arith, rest, first, here, all)

stuck_none : (rs : Rules) (numbers : List ℕ) (p : Plans) (es : List Equation) → IsRuleSet rs → ArePlansOf rs numbers p → AllByRecursion (IsStuck p) es → sum_by (by_tags rs.rules) es ≡ 0
stuck_none rs numbers p [] set plans stuck = refl
stuck_none rs numbers p (e ∷ es) set plans stuck =
    let first = stuck.0 in
    let left : e.left.tag ≡ (e.left.tag - 1) + 1 = (let some : e.left.tag ≡ 0 → ⊥ = first.left in omega (arith, some)) in
    let right : e.right.tag ≡ (e.right.tag - 1) + 1 = (let some : e.right.tag ≡ 0 → ⊥ = first.right in omega (arith, some)) in
    let none = no_rule rs numbers p (e.left.tag - 1) (e.right.tag - 1) set plans (first.no_plan (e.left.tag - 1) (e.right.tag - 1) left right) in
    let here : by_tags rs.rules e ≡ 0 = ap (λ (o : Option (ℕ × Bool)). cond (is_some o) 1 0) none in
    let rest = stuck_none rs numbers p es set plans stuck.1 in
    let all = sum_by-cons (by_tags rs.rules) e es in
    omega (arith, here, rest, all)

-- ---- what is given

module _ (laws : RoundLaws) (rs : Rules) (numbers : List ℕ) (p : Plans) (given : List ℕ) (c : Configuration) (plan : Planned) (operands : List ℕ) (pairs : ℕ) (start : Net) (few : length p.arities < GIVEN)
    (set : IsRuleSet rs) (over : IsTrue (is_over rs.symbols c)) (named : HasNames c) (plans : ArePlans p) (of_rules : ArePlansOf rs numbers p) (is_plan : IsPlan p.arities (length given) plan)
    (s : StandsForNet p.arities given c plan operands) (parted : LinksPairsFirst p.arities (length given) plan pairs) (starts : Starts p (length given) plan operands start)
    (separate : IsSeparate p.arities start.interface (pieces start)) where
  abbrev b : Begins p.arities (length given) plan operands start.interface starts.first
  b = starts.begins

  abbrev pub n : Numbers
  n = record { arities = p.arities; given = given; of_place = place_number c.next b.names s.names }

  pub sound : AreNumbers n
  sound = first_sound p.arities given c.next b.names s.names few s.below s.once

  abbrev nets : NetLaws
  nets = laws.going.reach.nets

  abbrev later : List Word
  later = given_words (length given) ++ (b.names ++ b.made)

  abbrev regs : List Word
  regs = constants (length p.arities) ++ later

  abbrev front_net : Configuration
  front_net = net_of n start.interface starts.first

  pub plain : Plain rs numbers p n
  plain = record { set = set; plans = plans; of_rules = of_rules; sound = sound; same = refl }

  pub to_first : OneNet c front_net
  to_first = begun_one nets p.arities given c plan operands start.interface starts.first few named is_plan s b sound

  first_pieces : AreNetPieces p.arities start.interface starts.first
  first_pieces = begun_pieces p.arities (length given) plan operands start.interface starts.first is_plan b (separate_before p start.interface starts.first (pieces start) starts.steps separate)

  pub to_start : OneNet c (net_of n start.interface (pieces start))
  to_start =
      nets.through c front_net (net_of n start.interface (pieces start)) to_first
      (linked_net nets n start.interface p starts.first (pieces start) to_first.names_too first_pieces.each starts.steps)

  reach_first : Reaches rs.rules c front_net []
  reach_first = laws.going.reach.net rs c c front_net [] (laws.going.start rs c named) to_first

  pub stands_first : Stands rs n start.interface starts.first
  stands_first = record { pieces = first_pieces; named = to_first.names_too; over = laws.going.reach.over rs c front_net [] set over named reach_first }

  -- registers
  abbrev k : ℕ
  k = first_made p.arities (length given) plan

  abbrev terms : ℕ → Tree
  terms = named_terms (length p.arities) (given ++ s.names)

  abbrev held : ℕ → Tree
  held = held_made k plan.made terms

  abbrev Below : ℕ → Type 0
  Below j = j < k + length plan.made

  abbrev is_at : ℕ → Bool
  is_at j = holds_agent (length p.arities) k j

  abbrev joins : Link → Bool
  joins l = joins_agents (length p.arities) k l

  made_at : (q : ℕ) → register regs (k + q) ≡ register b.made q
  made_at q =
      let glen = given_length (length given) in
      let count = b.names_count in
      let place : k + q ≡ length p.arities + (length (given_words (length given)) + (length b.names + q)) = omega (arith, glen, count) in
      ap (register regs) place
      ∙ (register_later n later (length (given_words (length given)) + (length b.names + q))
      ∙ (register_back (given_words (length given)) (b.names ++ b.made) (length b.names + q) ∙ register_back b.names b.made q))

  stem_at : (j : ℕ) → is_at j ≡ true → Below j → (stem (held j) ≡ (register regs j).tag) × (1 ≤ (register regs j).tag)
  stem_at j there below = elim (cases_lt j (length p.arities)) [
    | inl low ↦
        let is : held j ≡ agent j no_trees = held_low k plan.made terms j (omega (arith, low)) ∙ named_low (length p.arities) (given ++ s.names) j low in
        let word = ap (λ (w : Word). w.tag) (register_constant n later j low) in
        let one = ap stem is in
        (one ∙ sym word, omega (arith, word))
    | inr high ↦ made_there high (cases_lt j k)
  ]
    where
      made_there : length p.arities ≤ j → (j < k) ⊎ (k ≤ j) → (stem (held j) ≡ (register regs j).tag) × (1 ≤ (register regs j).tag)
      made_there high (inl low) =
          let first = le-ltb j (length p.arities) high in
          let second = lt-leb k j low in
          let neither : is_at j ≡ false = rw (first, second) refl in
          absurd (true≢false (sym there ∙ neither))
      made_there high (inr past) =
          let split : k + (j - k) ≡ j = omega (arith, past) in
          let all = stem_made k plan.made terms b.made b.made_tags (j - k) (omega (arith, past, below)) in
          let word = ap (λ (w : Word). w.tag) (made_at (j - k)) in
          transport (λ (z : ℕ). (stem (held z) ≡ (register regs z).tag) × (1 ≤ (register regs z).tag)) split (all.0 ∙ sym word, (let some = all.1 in omega (arith, word, some)))

  name_at : (j : ℕ) → is_at j ≡ false → (stem (held j) ≡ 0) × (stem (term n (register regs j)) ≡ 0)
  name_at j there = elim (cases_lt j (length p.arities)) [
    | inl low ↦
        let first = lt-ltb j (length p.arities) low in
        let found : is_at j ≡ true = rw first refl in
        absurd (true≢false (sym found ∙ there))
    | inr high ↦ named_there high (cases_lt j k)
  ]
    where
      named_there : length p.arities ≤ j → (j < k) ⊎ (k ≤ j) → (stem (held j) ≡ 0) × (stem (term n (register regs j)) ≡ 0)
      named_there high (inr past) =
          let first = le-ltb j (length p.arities) high in
          let second = le-leb k j past in
          let found : is_at j ≡ true = rw (first, second) refl in
          absurd (true≢false (sym found ∙ there))
      named_there high (inl low) =
          let split : length p.arities + (j - length p.arities) ≡ j = omega (arith, high) in
          let none : stem (terms j) ≡ 0 = ap (λ (z : ℕ). stem (terms z)) (sym split) ∙ ap stem (named_high (length p.arities) (given ++ s.names) (j - length p.arities)) in
          let word : term n (register regs j) ≡ terms j = sym (held_word n regs j high) ∙ begun_alike p.arities given c plan operands start.interface starts.first s b sound j low in
          (ap stem (held_low k plan.made terms j low) ∙ none, ap stem word ∙ none)

  -- links of two agents
  pairs_of : (ls : List Link) → AllByRecursion (λ l. joins l ≡ true) ls → AllByRecursion Below (flat_map link_operands ls) → AllByRecursion IsPair (map (equation_at regs) ls)
  pairs_of [] all below = tt
  pairs_of (l ∷ ls) all below =
      let sides = and_parts (is_at l.left) (is_at l.right) all.0 in
      let left = stem_at l.left sides.0 below.0 in
      let right = stem_at l.right sides.1 below.1.0 in (
        (
          (λ (tag : (register regs l.left).tag ≡ 0). let some = left.1 in absurd (omega (arith, some, tag))),
          (λ (tag : (register regs l.right).tag ≡ 0). let some = right.1 in absurd (omega (arith, some, tag))),
        ),
        pairs_of ls all.1 below.1.1,
      )

  agents_of_links : (ls : List Link) → AllByRecursion (λ l. joins l ≡ true) ls → AllByRecursion Below (flat_map link_operands ls) → list_all are_pairs (map (linked_terms held) ls) ≡ true
  agents_of_links [] all below = refl
  agents_of_links (l ∷ ls) all below =
      let sides = and_parts (is_at l.left) (is_at l.right) all.0 in
      let left = stem_at l.left sides.0 below.0 in
      let right = stem_at l.right sides.1 below.1.0 in
      let one = stem_agent (held l.left) (let same = left.0 in let some = left.1 in omega (arith, same, some)) in
      let other = stem_agent (held l.right) (let same = right.0 in let some = right.1 in omega (arith, same, some)) in
      and_both (and_both one other) (agents_of_links ls all.1 below.1.1)

  links_many : (ls : List Link) → AllByRecursion (λ l. joins l ≡ true) ls → AllByRecursion Below (flat_map link_operands ls) → many rs.rules (map (linked_terms held) ls) ≡ sum_by (by_tags rs.rules) (map (equation_at regs) ls)
  links_many [] all below = refl
  links_many (l ∷ ls) all below =
      let sides = and_parts (is_at l.left) (is_at l.right) all.0 in
      let left = stem_at l.left sides.0 below.0 in
      let right = stem_at l.right sides.1 below.1.0 in
      let q = linked_terms held l in
      let rest = links_many ls all.1 below.1.1 in
      let first = one_or_none q (filter (λ z. is_some (active_pair rs.rules z)) (map (linked_terms held) ls)) (is_some (active_pair rs.rules q)) in
      let here = active_stem rs.rules (held l.left) (held l.right) (let same = left.0 in let some = left.1 in omega (arith, same, some)) (let same = right.0 in let some = right.1 in omega (arith, same, some)) in
      let tags : are_of_rule rs.rules (stem (held l.left)) (stem (held l.right)) ≡ by_tags rs.rules (equation_at regs l) = (λ i. are_of_rule rs.rules (left.0 i) (right.0 i)) in
      let all_of = sum_by-cons (by_tags rs.rules) (equation_at regs l) (map (equation_at regs) ls) in
      omega (arith, rest, first, here, tags, all_of)

  -- links of which a side is a name
  one_name : (l : Link) (x : Bool) → is_at l.left ≡ x → joins l ≡ false → (is_at l.left ≡ false) ⊎ (is_at l.right ≡ false)
  one_name l false is none = inl is
  one_name l true is none = inr (right_name (is_at l.right) refl)
    where
      right_name : (y : Bool) → is_at l.right ≡ y → is_at l.right ≡ false
      right_name false e = e
      right_name true e =
          let joined_both : joins l ≡ true = and_both is e in
          absurd (true≢false (sym joined_both ∙ none))

  names_inert : (f : ℕ → Tree) → ((j : ℕ) → is_at j ≡ false → stem (f j) ≡ 0) → (ls : List Link) → AllByRecursion (λ l. joins l ≡ false) ls
      → list_all (λ q. is_none (active_pair rs.rules q)) (map (linked_terms f) ls) ≡ true
  names_inert f none [] all = refl
  names_inert f none (l ∷ ls) all =
      and_both (name_inert rs.rules (f l.left) (f l.right) (by (one_name l (is_at l.left) refl all.0))) (names_inert f none ls all.1)
    where
      by : (is_at l.left ≡ false) ⊎ (is_at l.right ≡ false) → (stem (f l.left) ≡ 0) ⊎ (stem (f l.right) ≡ 0)
      by (inl one) = inl (none l.left one)
      by (inr other) = inr (none l.right other)

  abbrev heads : List Link
  heads = take pairs plan.links

  abbrev others : List Link
  others = drop pairs plan.links

  abbrev pub now : List Equation
  now = map (equation_at regs) heads

  abbrev olp : List Piece
  olp = map (linked regs) others

  abbrev cells : List Piece
  cells = map idle b.names ++ made_each regs plan.made b.made

  heads_below : AllByRecursion Below (flat_map link_operands heads)
  heads_below =
      all_front Below (flat_map link_operands heads) (flat_map link_operands others)
      (transport (AllByRecursion Below) (ap (flat_map link_operands) (sym (take-append-drop pairs plan.links)) ∙ flat_parts link_operands heads others) is_plan.links)

  pub now_pairs : AllByRecursion IsPair now
  now_pairs = pairs_of heads parted.pairs heads_below

  first_split : IsPermutation starts.first (map equated_of now ++ (cells ++ olp))
  first_split =
      let idles = map idle b.names in
      let me = made_each regs plan.made b.made in
      let hlp = map (linked regs) heads in
      let links : map (linked regs) plan.links ≡ hlp ++ olp = ap (map (linked regs)) (sym (take-append-drop pairs plan.links)) ∙ map-append (linked regs) heads others in
      let is : starts.first ≡ cells ++ (hlp ++ olp) = b.pieces ∙ (ap (λ l. idles ++ (me ++ l)) links ∙ sym (append_assoc idles me (hlp ++ olp))) in
      transport (λ l. IsPermutation l (map equated_of now ++ (cells ++ olp))) (sym is)
      (transport (λ l. IsPermutation (cells ++ (hlp ++ olp)) (l ++ (cells ++ olp))) (sym (equated_links regs heads)) (to_front cells hlp olp))

  -- the links of two agents by themselves
  abbrev a : ℕ
  a = length operands

  abbrev outs : List ℕ
  outs = operands ++ flat_map link_operands others

  abbrev half : Planned
  half = record { names = plan.names; made = plan.made; links = heads }

  abbrev half_net : Configuration
  half_net = record { interface = map held outs; equations = map (linked_terms held) heads; next = c.next }

  abbrev half_i : List Word
  half_i = map (register regs) outs

  abbrev half_first : List Piece
  half_first = pieces_made half regs b.names b.made

  abbrev half_begins : Begins p.arities (length given) half outs half_i half_first
  half_begins = record {
    names = b.names;
    made = b.made;
    names_count = b.names_count;
    name_tags = b.name_tags;
    made_tags = b.made_tags;
    fresh = b.fresh;
    interface_is = refl;
    pieces = refl;
  }

  half_one : OneNet half_net (net_of n half_i half_first)
  half_one =
      begun_one nets p.arities given half_net half outs half_i half_first few
      (half_named p.arities given c plan operands pairs is_plan s parted named)
      (half_plan p.arities given c plan operands pairs is_plan s parted named)
      (half_stands p.arities given c plan operands pairs is_plan s parted named)
      half_begins sound

  half_split : IsPermutation half_first (map equated_of now ++ cells)
  half_split =
      let idles = map idle b.names in
      let me = made_each regs plan.made b.made in
      let hlp = map (linked regs) heads in
      transport (λ l. IsPermutation half_first (l ++ cells)) (sym (equated_links regs heads))
      (transport (λ l. IsPermutation l (hlp ++ cells)) (append_assoc idles me hlp) (IsPermutation-append_comm cells hlp))

  -- terms of words, as registers hold them
  abbrev words : ℕ → Tree
  words j = term n (register regs j)

  -- ---- the pairs are taken

  module _ (fired : List ℕ) (xs ys : List Piece) (linked_up : Steps p [] starts.first (map equated_of now ++ xs)) (takes : Takes p now [] fired xs ys) where
    abbrev q1 : List Piece
    q1 = map equated_of now ++ xs

    stands_q1 : Stands rs n start.interface q1
    stands_q1 = stands_on laws.going rs numbers p n start.interface [] starts.first q1 plain stands_first linked_up

    taken : TakenPath rs numbers p n start.interface now fired xs ys
    taken = path_of laws.going rs numbers p n start.interface now [] fired xs ys plain refl stands_q1 takes

    abbrev path : Path rs numbers p n start.interface now fired xs ys
    path = taken.0

    abbrev ms : List Met
    ms = path.ms

    abbrev met : List Piece
    met = flat_map agents_of ms

    abbrev st : List Piece
    st = map equated_of path.stuck

    abbrev tips : List Piece
    tips = map equated_of (map pair_of ms)

    back : (us : List Piece) × IsPermutation (cells ++ olp) (met ++ us) × Steps p [] us path.us
    back =
        agents_stay p (cells ++ olp) xs met path.us
        (pairs_stay p now (cells ++ olp) xs starts.first q1 plans now_pairs first_pieces.each first_split (IsPermutation-refl q1) linked_up)
        (are_agents ms) path.agents

    split : (rest : List Piece) × IsPermutation cells (met ++ rest) × IsPermutation back.0 (olp ++ rest)
    split =
        out_of_made met olp back.0 cells (none_there olp met (links_other regs others) (are_agents ms))
        (IsPermutation-trans (met ++ back.0) (cells ++ olp) (olp ++ cells) (IsPermutation-sym (cells ++ olp) (met ++ back.0) back.1) (IsPermutation-append_comm cells olp))

    abbrev rest1 : List Piece
    rest1 = split.0

    abbrev rest_e : List Piece
    rest_e = st ++ rest1

    abbrev r0 : List Piece
    r0 = rest_e ++ olp

    place_first : IsPermutation starts.first (tips ++ (met ++ r0))
    place_first =
        let moved : IsPermutation (cells ++ olp) (met ++ (rest1 ++ olp)) =
        transport (IsPermutation (cells ++ olp)) (append_assoc met rest1 olp) (IsPermutation-append_left olp cells (met ++ rest1) split.1) in
        let all = placed now ms path.stuck (cells ++ olp) (rest1 ++ olp) path.pairs moved in
        IsPermutation-trans starts.first (map equated_of now ++ (cells ++ olp)) (tips ++ (met ++ r0)) first_split
        (transport (λ l. IsPermutation (map equated_of now ++ (cells ++ olp)) (tips ++ (met ++ l))) (sym (append_assoc st rest1 olp)) all)

    place_half : IsPermutation half_first (tips ++ (met ++ rest_e))
    place_half = IsPermutation-trans half_first (map equated_of now ++ cells) (tips ++ (met ++ rest_e)) half_split (placed now ms path.stuck cells rest1 path.pairs split.1)

    abbrev next : ℕ
    next = front_net.next + (net_of n half_i half_first).next

    abbrev g0 : Generation
    g0 = generation n start.interface ms r0 next

    to_g0 : OneNet front_net (whole g0)
    to_g0 = net_met nets n start.interface ms starts.first r0 next sound path.known stands_first.named place_first (omega arith)

    abbrev aside : Configuration
    aside = with_equations n half_i (tops n ms ++ equations n rest_e) next

    link : OneNet aside half_net
    link =
        let there = net_met nets n half_i ms half_first rest_e next sound path.known half_one.names_too place_half (omega arith) in
        laws.going.other_way half_net aside (nets.through half_net (net_of n half_i half_first) aside half_one there)

    abbrev end : Configuration
    end = link.end

    but : SameButNext end half_net
    but =
        let agents = agents_of_links heads parted.pairs heads_below in
        transport (SameButNext end) (none_made half_net link.end_too (λ f step. pairs_are_settled half_net f agents step) link.steps_too) link.same

    face : map (term n) half_i ≡ map words outs
    face = two_maps (term n) (register regs) outs

    twos_aside : AreTwos (drop a aside.interface)
    twos_aside = transport (λ l. AreTwos (drop a l)) (sym face) (twos p.arities given c plan operands pairs is_plan s parted named words)

    joined_is : joined a aside ≡ whole g0
    joined_is =
        let interface_is : take a (map (term n) half_i) ≡ map (term n) start.interface =
        ap (take a) face ∙ (front p.arities given c plan operands pairs is_plan s parted named words
        ∙ (sym (two_maps (term n) (register regs) operands) ∙ ap (map (term n)) (sym b.interface_is))) in
        let sides : pairs_from (drop a (map (term n) half_i)) ≡ equations n olp =
        ap (λ l. pairs_from (drop a l)) face
        ∙ (ap pairs_from (cut p.arities given c plan operands pairs is_plan s parted named words)
        ∙ (pairs_more words others ∙ links_equations n regs others)) in
        let equations_are : (tops n ms ++ equations n rest_e) ++ pairs_from (drop a (map (term n) half_i)) ≡ tops n ms ++ equations n r0 =
        append_assoc (tops n ms) (equations n rest_e) (pairs_from (drop a (map (term n) half_i)))
        ∙ (ap (λ l. tops n ms ++ (equations n rest_e ++ l)) sides ∙ ap (λ l. tops n ms ++ l) (sym (flat_parts (equations_of n) rest_e olp))) in
        λ i. record { interface = interface_is i; equations = equations_are i; next = next }

    lifted : NameSteps (joined a aside) (joined a end) × AreTwos (drop a end.interface)
    lifted = joined_steps a aside end twos_aside link.steps

    abbrev text : Configuration
    text = joined a end

    steps0 : NameSteps (whole g0) text
    steps0 = transport (λ z. NameSteps z text) joined_is lifted.0

    same_half : SameButNext text (joined a half_net)
    same_half = joined_but_next a end half_net lifted.1 but

    over_g0 : is_over rs.symbols (whole g0) ≡ true
    over_g0 =
        laws.going.reach.over rs front_net (whole g0) [] set stands_first.over stands_first.named
        (laws.going.reach.net rs front_net front_net (whole g0) [] (laws.going.start rs front_net stands_first.named) to_g0)

    others_inert : list_all (λ q. is_none (active_pair rs.rules q)) (map (linked_terms held) others) ≡ true
    others_inert = names_inert held (λ j there. (name_at j there).0) others parted.others

    links_inert : list_all (λ q. is_none (active_pair rs.rules q)) (equations n olp) ≡ true
    links_inert = ap (list_all (λ q. is_none (active_pair rs.rules q))) (sym (links_equations n regs others)) ∙ names_inert words (λ j there. (name_at j there).1) others parted.others

    rest_stuck : AllByRecursion (IsStuckPiece p) rest_e
    rest_stuck =
        let own = all_append (IsStuckPiece p) (map idle b.names) (made_each regs plan.made b.made) (idle_stuck p b.names) (made_stuck p regs plan.made b.made) in
        all_append (IsStuckPiece p) st rest1 (stuck_pieces p path.stuck path.stuck_each) (all_back (IsStuckPiece p) met rest1 (all_order (IsStuckPiece p) cells (met ++ rest1) split.1 own))

    inert : is_inert rs.rules (without_now g0) ≡ true
    inert =
        ap (list_all (λ q. is_none (active_pair rs.rules q))) (flat_parts (equations_of n) rest_e olp)
        ∙ (list_all-append (λ q. is_none (active_pair rs.rules q)) (equations n rest_e) (equations n olp)
        ∙ and_both (pieces_inert rs numbers p n rest_e set of_rules rest_stuck) links_inert)

    count : length (active_equations rs.rules text) ≡ length (active_equations rs.rules (whole g0))
    count =
        let over_text = steps_over rs (whole g0) text set over_g0 steps0 in
        let named_text = steps_named (whole g0) text to_g0.names_too steps0 in
        let moved = laws.rules rs text (joined a half_net) set over_text named_text same_half in
        let lengths = length_permutation (rules_of rs.rules text.equations) (rules_of rs.rules (joined a half_net).equations) moved in
        let one = rules_many rs.rules text.equations in
        let two = rules_many rs.rules (joined a half_net).equations in
        let parts = ap (many rs.rules) (half_parts p.arities given c plan operands pairs is_plan s parted named) in
        let front_only = count_first rs.rules (map (linked_terms held) heads) (map (linked_terms held) others) others_inert in
        let tags = links_many heads parted.pairs heads_below in
        let tops_only = count_first rs.rules (tops n ms) (equations n r0) inert in
        let tops_tags = tops_many rs.rules n ms in
        let all = sum_by-IsPermutation (by_tags rs.rules) now (map pair_of ms ++ path.stuck) path.pairs in
        let apart = sum_by-append (by_tags rs.rules) (map pair_of ms) path.stuck in
        let none = stuck_none rs numbers p path.stuck set of_rules path.stuck_each in
        omega (arith, lengths, one, two, parts, front_only, tags, tops_only, tops_tags, all, apart, none)

    pub first_round : AreGiven n c → OneRound rs numbers n start.interface fired ys c
    first_round free =
        let rules = map (rule_number numbers) fired in
        let top = next + (net_of n start.interface q1).next in
        let us = st ++ path.us in
        let later_goes = path.goes top (omega arith) in
        let named_1 = (net_met nets n start.interface ms q1 us top sound path.known stands_q1.named (placed now ms path.stuck xs path.us path.pairs path.agents) (omega arith)).names_too in
        let are_0 = parts_are n starts.first tips met r0 first_pieces.each place_first in
        let turned_round : IsPermutation r0 (st ++ back.0) =
        transport (λ l. IsPermutation l (st ++ back.0)) (sym (append_assoc st rest1 olp))
        (IsPermutation-append_right st (rest1 ++ olp) back.0
        (IsPermutation-trans (rest1 ++ olp) (olp ++ rest1) back.0 (IsPermutation-append_comm rest1 olp) (IsPermutation-sym back.0 (olp ++ rest1) split.2))) in
        let steps_r = steps_through p [] [] r0 (st ++ back.0) us (no_step r0 (st ++ back.0) turned_round) (steps_beside p [] st back.0 path.us refl back.2) in
        let change = rest_changes laws.going n start.interface p ms r0 us next top to_g0.names_too named_1 are_0 steps_r in
        let h = later_goes.0 in
        let goes = goes_changes rules g0 (generation n start.interface ms us top) h change later_goes.1 in
        let same_c = laws.in_turn text (joined a half_net) c same_half (whole_same p.arities given c plan operands pairs is_plan s parted named laws.same) in
        let made = laws.round rs rules g0 h text c set over_g0 to_g0.names_too inert goes later_goes.2 steps0 count same_c named in
        let empty : whole h ≡ without_now h = λ j. record { interface = h.interface; equations = later_goes.2 j ++ h.rest; next = h.next } in
        let last = transport (λ z. OneNet (round rs.rules c) z) empty made.0 in
        let all_steps = steps_through p [] fired starts.first q1 ys linked_up taken.1 in
        let reached = steps_reach laws.going.reach rs numbers p n c start.interface fired starts.first ys [] set over named plans of_rules sound refl first_pieces.separate first_pieces.each reach_first all_steps in
        record {
          net = nets.through (round rs.rules c) (without_now h) (net_of n start.interface ys) last later_goes.3;
          rules = made.1;
          stands = stands_on laws.going rs numbers p n start.interface fired q1 ys plain stands_q1 taken.1;
          free = given_through n c (net_of n start.interface ys) (laws.free_reached rs c (net_of n start.interface ys) rules set over named reached) free;
        }
