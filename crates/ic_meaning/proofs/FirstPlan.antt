-- Lemmas: of a plan whose links of two agents come first, those links by themselves, with the sides of the others in the interface.
use Rattle.std.proofs.Common.{◌≡◌, ◌⊎◌, ℕ, zero, suc, ◌+◌, ◌-◌, ◌≤◌, ◌<◌, ◌==◌, List, [], ◌∷◌, ◌++◌, Bool, true, false, cond, Option, None, Some, is_none, is_some, length, map, take, drop, slice_get, count_by, refl, sym, ap, ◌∙◌, append_assoc, arith, inl, inr, subst as transport}
use Rattle.std.proofs.lemmas.Bool.{ne_eqb, and_parts}
use Rattle.std.proofs.lemmas.Grind.{flat_map-append as flat_parts}
use Rattle.std.proofs.lemmas.List.{map-append, take-map, drop-map, take-append-drop}
use Rattle.std.proofs.lemmas.List.Folds.{list_all-append}
use Rattle.std.proofs.lemmas.List.Sums.{sum_by-append}
use Rattle.std.proofs.lemmas.List.Sorted.{IsPermutation-refl}
use Rattle.std.proofs.Math.Seq.{take-append_seam, drop-append_seam}
use Rattle.std.specs.Cmp.{unsigned_Decides}
use Rattle.std.specs.List.{AllByRecursion, flat_map, list_all}
use Rattle.ic_term.specs.Tree.{Tree, name, agent, trees_of, Pair}
use Rattle.ic_term.specs.Configuration.{Configuration, configuration_names, names_in, occurrences}
use Rattle.ic_rules.specs.Rule.{Rule}
use Rattle.ic_rules.specs.RuleSet.{rule_for}
use Rattle.ic_settle.specs.Settling.{Binding, Binds}
use Rattle.ic_settle.specs.NameSteps.{NameStep}
use Rattle.ic_round.specs.Firing.{oriented, active_pair}
use Rattle.ic_round.specs.Naming.{HasNames}
use Rattle.ic_confluence.specs.Sameness.{Same, rearranging}
use Rattle.ic_confluence.specs.lemmas.Counts.{in_configuration, names_like}
use Rattle.ic_reaching.specs.OneNet.{SameButNext}
use Rattle.ic_reaching.specs.lemmas.Orders.{rearranged, permuted_counts}
use Rattle.ic_generations.specs.Waiting.{is_agent, are_agents}
use Rattle.ic_arena.specs.declared.word.Word.{Word}
use Rattle.ic_arena.specs.Tables.{register}
use Rattle.ic_machine.specs.declared.plan.Link.{Link}
use Rattle.ic_machine.specs.Plan.{Made, Planned, IsPlan, link_operands, operands_of}
use Rattle.ic_machine.specs.lemmas.FiringKeeps.{all_append}
use Rattle.ic_meaning.specs.First.{LinksPairsFirst}
use Rattle.ic_meaning.specs.Plans.{held_with, held_made, linked_terms, equations_made, named_terms, first_made, StandsForNet}
use Rattle.ic_meaning.specs.lemmas.Orders.{all_front, all_back}
use Rattle.ic_meaning.proofs.Joined.{pairs_from, AreTwos, joined, joined_counts}

-- ---- sides two by two

pub twos_more : (f : ℕ → Tree) (ls : List Link) → AreTwos (map f (flat_map link_operands ls))
twos_more f [] = tt
twos_more f (l ∷ ls) = twos_more f ls

pub pairs_more : (f : ℕ → Tree) (ls : List Link) → pairs_from (map f (flat_map link_operands ls)) ≡ map (linked_terms f) ls
pairs_more f [] = refl
pairs_more f (l ∷ ls) = ap (λ es. record { left = f l.left; right = f l.right } ∷ es) (pairs_more f ls)

pub occur_too : (c d : Configuration) (ns : List ℕ) → ((x : ℕ) → occurrences x (configuration_names d) ≡ occurrences x (configuration_names c))
    → AllByRecursion (λ x. 1 ≤ occurrences x (configuration_names c)) ns → AllByRecursion (λ x. 1 ≤ occurrences x (configuration_names d)) ns
occur_too c d [] same all = tt
occur_too c d (n ∷ ns) same all = ((let one = same n in let some = all.0 in omega (arith, one, some)), occur_too c d ns same all.1)

-- ---- equations of two agents bind no name

agents_bind : (p : Pair) (b : Binding) → are_agents p ≡ true → Binds p b → ⊥
agents_bind p b is (inl e) =
    let sides = and_parts (is_agent p.left) (is_agent p.right) is in
    let bad : false ≡ true = sym (ap (λ (q : Pair). is_agent q.left) e) ∙ sides.0 in cc
agents_bind p b is (inr e) =
    let sides = and_parts (is_agent p.left) (is_agent p.right) is in
    let bad : false ≡ true = sym (ap (λ (q : Pair). is_agent q.right) e) ∙ sides.1 in cc

pub pairs_are_settled : (c f : Configuration) → list_all are_agents c.equations ≡ true → NameStep c f → ⊥
pairs_are_settled c f agents s =
    let parted = sym (list_all-append are_agents s.before (s.equation ∷ s.after)) ∙ (sym (ap (list_all are_agents) s.place) ∙ agents) in
    let here = and_parts (list_all are_agents s.before) (list_all are_agents (s.equation ∷ s.after)) parted in
    agents_bind s.equation s.bound (and_parts (are_agents s.equation) (list_all are_agents s.after) here.1).0 s.side

-- ---- what registers hold

-- one more than the symbol of an agent, and 0 of a name
abbrev pub stem : Tree → ℕ
stem (name x) = 0
stem (agent s ts) = s + 1

pub stem_agent : (t : Tree) → 1 ≤ stem t → is_agent t ≡ true
stem_agent (name x) some = absurd (omega (arith, some))
stem_agent (agent s ts) some = refl

held_with_low : (k : ℕ) (t : Tree) (f : ℕ → Tree) (j : ℕ) → j < k → held_with k t f j ≡ f j
held_with_low k t f j low = ap (λ (b : Bool). cond b t (f j)) (ne_eqb j k (λ e. omega (arith, low, e)))

held_with_same : (k : ℕ) (t : Tree) (f : ℕ → Tree) → held_with k t f k ≡ t
held_with_same k t f = ap (λ (b : Bool). cond b t (f k)) ((unsigned_Decides k k).1 refl)

pub held_low : (k : ℕ) (ms : List Made) (f : ℕ → Tree) (j : ℕ) → j < k → held_made k ms f j ≡ f j
held_low k [] f j low = refl
held_low k (m ∷ ms) f j low =
    let a : Tree = agent m.symbol (trees_of (map f m.operands)) in
    held_low (k + 1) ms (held_with k a f) j (omega (arith, low)) ∙ held_with_low k a f j low

pub stem_made : (k : ℕ) (ms : List Made) (f : ℕ → Tree) (vs : List Word) → map (λ v. v.tag) vs ≡ map (λ m. m.symbol + 1) ms → (q : ℕ) → q < length ms
    → (stem (held_made k ms f (k + q)) ≡ (register vs q).tag) × (1 ≤ (register vs q).tag)
stem_made k [] f vs tags q low = absurd (omega (arith, low))
stem_made k (m ∷ ms) f [] tags q low = absurd (no_list tags)
  where
    no_list : {x : ℕ} {xs : List ℕ} → [] ≡ x ∷ xs → ⊥
    no_list e = cc
stem_made k (m ∷ ms) f (v ∷ vs) tags zero low =
    let a : Tree = agent m.symbol (trees_of (map f m.operands)) in
    let tag : v.tag ≡ m.symbol + 1 = cc in
    let same : k + 0 ≡ k = omega arith in
    let is : held_made (k + 1) ms (held_with k a f) (k + 0) ≡ a =
    ap (held_made (k + 1) ms (held_with k a f)) same ∙ (held_low (k + 1) ms (held_with k a f) k (omega arith) ∙ held_with_same k a f) in
    (ap stem is ∙ sym tag, (omega (arith, tag)))
stem_made k (m ∷ ms) f (v ∷ vs) tags (suc q) low =
    let a : Tree = agent m.symbol (trees_of (map f m.operands)) in
    let rest : map (λ (u : Word). u.tag) vs ≡ map (λ (n : Made). n.symbol + 1) ms = cc in
    let same : k + suc q ≡ (k + 1) + q = omega arith in
    let later = stem_made (k + 1) ms (held_with k a f) vs rest q (omega (arith, low)) in
    (ap (λ (j : ℕ). stem (held_made (k + 1) ms (held_with k a f) j)) same ∙ later.0, later.1)

-- ---- which equations are active

-- whether a rule is of agents with these tags
abbrev pub are_of_rule : List Rule → ℕ → ℕ → ℕ
are_of_rule rs a b = cond (is_some (rule_for rs (a - 1) (b - 1))) 1 0

some_oriented : (t u : Tree) (found : Option (ℕ × Bool)) → is_some (oriented t u found) ≡ is_some found
some_oriented t u None = refl
some_oriented t u (Some (i, true)) = refl
some_oriented t u (Some (i, false)) = refl

pub active_stem : (rs : List Rule) (t u : Tree) → 1 ≤ stem t → 1 ≤ stem u → ◌≡◌ {A = ℕ} (cond (is_some (active_pair rs (record { left = t; right = u }))) 1 0) (are_of_rule rs (stem t) (stem u))
active_stem rs (name x) u one other = absurd (omega (arith, one))
active_stem rs (agent s ts) (name x) one other = absurd (omega (arith, other))
active_stem rs (agent s ts) (agent z us) one other =
    let left : (s + 1) - 1 ≡ s = omega arith in
    let right : (z + 1) - 1 ≡ z = omega arith in
    ap (λ (b : Bool). cond b 1 0) (some_oriented (agent s ts) (agent z us) (rule_for rs s z) ∙ (λ i. is_some (rule_for rs (sym left i) (sym right i))))

pub name_inert : (rs : List Rule) (t u : Tree) → (stem t ≡ 0) ⊎ (stem u ≡ 0) → is_none (active_pair rs (record { left = t; right = u })) ≡ true
name_inert rs (name x) u none = refl
name_inert rs (agent s ts) (name x) none = refl
name_inert rs (agent s ts) (agent z us) (inl none) = absurd (omega (arith, none))
name_inert rs (agent s ts) (agent z us) (inr none) = absurd (omega (arith, none))

-- ---- the links of two agents by themselves

module _ (arities given : List ℕ) (c : Configuration) (plan : Planned) (operands : List ℕ) (pairs : ℕ) (is_plan : IsPlan arities (length given) plan) (s : StandsForNet arities given c plan operands)
    (first : LinksPairsFirst arities (length given) plan pairs) (named : HasNames c) where
  abbrev pub heads : List Link
  heads = take pairs plan.links

  abbrev pub others : List Link
  others = drop pairs plan.links

  abbrev pub half : Planned
  half = record { names = plan.names; made = plan.made; links = heads }

  abbrev pub more : List ℕ
  more = flat_map link_operands others

  abbrev pub outs : List ℕ
  outs = operands ++ more

  abbrev pub k : ℕ
  k = first_made arities (length given) plan

  abbrev pub terms : ℕ → Tree
  terms = named_terms (length arities) (given ++ s.names)

  abbrev pub held : ℕ → Tree
  held = held_made k plan.made terms

  abbrev pub half_net : Configuration
  half_net = record { interface = map held outs; equations = map (linked_terms held) heads; next = c.next }

  abbrev pub a : ℕ
  a = length operands

  links_split : flat_map link_operands plan.links ≡ flat_map link_operands heads ++ more
  links_split = ap (flat_map link_operands) (sym (take-append-drop pairs plan.links)) ∙ flat_parts link_operands heads others

  all_operands : operands_of plan ≡ operands_of half ++ more
  all_operands =
      ap (λ l. flat_map (λ (m : Made). m.operands) plan.made ++ l) links_split
      ∙ sym (append_assoc (flat_map (λ (m : Made). m.operands) plan.made) (flat_map link_operands heads) more)

  pub operand_counts : (j : ℕ) → count_by (λ m. m == j) (operands_of plan) ≡ count_by (λ m. m == j) (operands_of half) + count_by (λ m. m == j) more
  operand_counts j = ap (count_by (λ m. m == j)) all_operands ∙ sum_by-append (λ m. cond (m == j) 1 0) (operands_of half) more

  pub split_below : AllByRecursion (λ j. j < length arities + length given + plan.names + length plan.made) (flat_map link_operands heads ++ more)
  split_below = transport (AllByRecursion (λ j. j < length arities + length given + plan.names + length plan.made)) links_split is_plan.links

  pub split_constant : AllByRecursion (λ j. j < length arities → slice_get arities j ≡ Some 0) (operands_of half ++ more)
  split_constant = transport (AllByRecursion (λ j. j < length arities → slice_get arities j ≡ Some 0)) all_operands is_plan.constant

  pub half_plan : IsPlan arities (length given) half
  half_plan = record {
    made = is_plan.made;
    links = all_front (λ j. j < length arities + length given + plan.names + length plan.made) (flat_map link_operands heads) more split_below;
    constant = all_front (λ j. j < length arities → slice_get arities j ≡ Some 0) (operands_of half) more split_constant;
    linear = λ j high. let all = operand_counts j in let few = is_plan.linear j high in omega (arith, all, few);
  }

  pub cut : (f : ℕ → Tree) → drop a (map f outs) ≡ map f more
  cut f = drop-map f a outs ∙ ap (map f) (drop-append_seam operands more)

  pub front : (f : ℕ → Tree) → take a (map f outs) ≡ map f operands
  front f = take-map f a outs ∙ ap (map f) (take-append_seam operands more)

  pub twos : (f : ℕ → Tree) → AreTwos (drop a (map f outs))
  twos f = transport AreTwos (sym (cut f)) (twos_more f others)

  joined_is : joined a half_net ≡ record { interface = c.interface; equations = equations_made k plan terms; next = c.next }
  joined_is =
      let interface_is = front held ∙ s.interface_is in
      let equations_is : map (linked_terms held) heads ++ pairs_from (drop a (map held outs)) ≡ map (linked_terms held) plan.links =
      ap (λ l. map (linked_terms held) heads ++ pairs_from l) (cut held)
      ∙ (ap (λ l. map (linked_terms held) heads ++ l) (pairs_more held others)
      ∙ (sym (map-append (linked_terms held) heads others) ∙ ap (map (linked_terms held)) (take-append-drop pairs plan.links))) in
      λ i. record { interface = interface_is i; equations = equations_is i; next = c.next }

  pub half_parts : (joined a half_net).equations ≡ map (linked_terms held) heads ++ map (linked_terms held) others
  half_parts = ap (λ l. map (linked_terms held) heads ++ pairs_from l) (cut held) ∙ ap (λ l. map (linked_terms held) heads ++ l) (pairs_more held others)

  pub whole_same : ((d e : Configuration) → Same d e → SameButNext d e) → SameButNext (joined a half_net) c
  whole_same same =
      let d : Configuration = record { interface = c.interface; equations = equations_made k plan terms; next = c.next } in
      transport (λ z. SameButNext z c) (sym joined_is)
      (same d c (rearranging d c (record { equations = rearranged (equations_made k plan terms) c.equations s.equations; result = refl })))

  pub half_counts : (x : ℕ) → occurrences x (configuration_names half_net) ≡ occurrences x (configuration_names c)
  half_counts x =
      let es = equations_made k plan terms in
      let one = joined_counts x a half_net.interface half_net.equations (twos held) in
      let two : occurrences x (configuration_names (joined a half_net)) ≡ occurrences x (names_in c.interface es) = ap (λ (z : Configuration). occurrences x (configuration_names z)) joined_is in
      let three = in_configuration x c.interface es in
      let four = in_configuration x c.interface c.equations in
      let five = permuted_counts es c.equations s.equations x in
      omega (arith, one, two, three, four, five)

  pub half_named : HasNames half_net
  half_named = names_like c half_net refl half_counts named

  abbrev pub half_stands : StandsForNet arities given half_net half outs
  half_stands = record {
    names = s.names;
    count = s.count;
    below = s.below;
    once = s.once;
    occur = occur_too c half_net s.names half_counts s.occur;
    within = all_append (λ j. j < k + length plan.made) operands more s.within (all_back (λ j. j < k + length plan.made) (flat_map link_operands heads) more split_below);
    constant = all_append (λ j. j < length arities → slice_get arities j ≡ Some 0) operands more s.constant
        (all_back (λ j. j < length arities → slice_get arities j ≡ Some 0) (operands_of half) more split_constant);
    used = λ j low.
        let f : ℕ → ℕ = λ m. cond (m == k + j) 1 0 in
        let one : count_by (λ m. m == k + j) (operands_of half ++ outs) ≡ count_by (λ m. m == k + j) (operands_of half) + count_by (λ m. m == k + j) outs = sum_by-append f (operands_of half) outs in
        let two : count_by (λ m. m == k + j) outs ≡ count_by (λ m. m == k + j) operands + count_by (λ m. m == k + j) more = sum_by-append f operands more in
        let three : count_by (λ m. m == k + j) (operands_of plan ++ operands) ≡ count_by (λ m. m == k + j) (operands_of plan) + count_by (λ m. m == k + j) operands = sum_by-append f (operands_of plan) operands in
        let four = operand_counts (k + j) in
        let given_once = s.used j low in
        omega (arith, one, two, three, four, given_once);
    interface_is = refl;
    equations = IsPermutation-refl (map (linked_terms held) heads);
  }
