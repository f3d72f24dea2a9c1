-- Lemmas: the interaction of a plan that fires.
use Rattle.std.proofs.Common.{◌≡◌, ◌⊎◌, ℕ, ◌+◌, ◌-◌, ◌≤◌, ◌<◌, List, [], ◌∷◌, ◌++◌, Bool, true, false, cond, Option, Some, length, map, slice_get, sum_by, refl, sym, ap, ◌∙◌, arith, inl, inr, append_assoc, append-nil, subst as transport}
use Rattle.std.proofs.lemmas.Bool.{and_parts, cases_lt}
use Rattle.std.proofs.lemmas.List.{length-append}
use Rattle.std.proofs.lemmas.List.Sums.{sum_by-append}
use Rattle.std.proofs.lemmas.List.Sorted.{IsPermutation-refl, IsPermutation-append_left}
use Rattle.std.specs.List.{flat_map, filter, list_all}
use Rattle.std.specs.Option.{option_map_or}
use Rattle.std.specs.Prelude.{IsPermutation}
use Rattle.ic_term.specs.Tree.{Tree, name, trees_of, names, names_of, Pair}
use Rattle.ic_term.specs.Configuration.{Configuration, names_in, occurrences}
use Rattle.ic_term.specs.Symbol.{Symbol, is_over, is_pair_over, is_tree_over}
use Rattle.ic_rules.specs.Rule.{Rule, IsRule}
use Rattle.ic_rules.specs.RuleSet.{Rules, IsRuleSet, rule_for}
use Rattle.ic_settle.specs.lemmas.SubstitutionLaws.{occurrences-append}
use Rattle.ic_round.specs.Naming.{HasNames}
use Rattle.ic_round.specs.Firing.{Active, oriented, count_of}
use Rattle.ic_round.specs.lemmas.ActiveRules.{oriented_rule}
use Rattle.ic_reaching.specs.OneNet.{OneNet}
use Rattle.ic_reaching.specs.FreshNames.{products_with, AreFresh as AreFreshNames, Fires as FiresBy}
use Rattle.ic_arena.specs.declared.word.Word.{Word}
use Rattle.ic_arena.specs.declared.word.TheConstants.{NAME}
use Rattle.ic_arena.specs.Word.{word_eq, count}
use Rattle.ic_arena.specs.Piece.{Piece, room}
use Rattle.ic_arena.specs.Tables.{register}
use Rattle.ic_machine.specs.Plan.{Planned, Plans, IsPlan}
use Rattle.ic_machine.specs.Separate.{IsSeparate, is_constant_tag}
use Rattle.ic_machine.specs.Steps.{Fires}
use Rattle.ic_meaning.specs.Words.{Numbers, AreNumbers, term}
use Rattle.ic_meaning.specs.Nets.{equations_of, net_of}
use Rattle.ic_meaning.specs.Plans.{Argument, arguments_from, is_matched, matched, met_as, held_made, equations_made, StandsFor}
use Rattle.ic_meaning.proofs.Given.{NetLaws}
use Rattle.ic_meaning.specs.lemmas.Terms.{name_tag, agent_tag}
use Rattle.ic_meaning.specs.lemmas.Orders.{all_front, all_back}
use Rattle.ic_meaning.proofs.Named.{so_far, so_far_held, so_far_own, with_arguments, put_arguments, matched_same, AreBelow, argument_names, Left}
use Rattle.ic_meaning.proofs.Registers.{register_back, register_front, held_in, registers_of, held_constant, held_later, all_at}
use Rattle.ic_meaning.proofs.Taken.{read_from}
use Rattle.ic_meaning.proofs.Wholes.{with_equations, in_front}
use Rattle.ic_meaning.proofs.Settings.{FreeWord, Setting, after_arguments, above_all, own_name, where_read, fresh_held, names_fresh, names_named, arguments_left, met_count}
use Rattle.ic_meaning.proofs.Fired.{agent_term, meeting, free_place, free_name, fresh_room, fresh_once, products_matched}
use Rattle.ic_meaning.proofs.Fires.{made_agent}
use Rattle.ic_settle.specs.lemmas.PutEach.{names_of-trees_of}
use Rattle.ic_machine.specs.lemmas.FiringKeeps.{all_append}

-- ---- what is known where a plan fires

-- the configuration in which the two agents meet
abbrev pub met_in : (n : Numbers) (i : List Word) (p : Plans) (place : ℕ) (xs ys : List Piece) → Fires p place xs ys → Configuration
met_in n i p place xs ys f =
    with_equations n i (meeting n f.left f.left_args f.right f.right_args ∷ flat_map (equations_of n) f.rest) (net_of n i xs).next

-- a place of the plan names nothing there yet
place_kind : (arities : List ℕ) (p : Plans) (place : ℕ) (xs ys : List Piece) (f : Fires p place xs ys) → IsPlan arities (length (f.left_args ++ f.right_args)) f.plan
    → (j : ℕ) → j < length (f.names ++ f.made) → is_constant_tag arities (register (f.names ++ f.made) j).tag ≡ false
place_kind arities p place xs ys f plan j low = elim (cases_lt j (length f.names)) [
  | inl less ↦
      let is = register_front f.names f.made j less in
      ap (λ (v : Word). is_constant_tag arities v.tag) is ∙ name_tag arities (register f.names j).tag (all_at (λ v. v.tag ≡ NAME) f.names j less f.name_tags)
  | inr high ↦
      let i : ℕ = j - length f.names in
      let len = length-append f.names f.made in
      let split : length f.names + i ≡ j = omega arith in
      let is : register (f.names ++ f.made) j ≡ register f.made i = ap (register (f.names ++ f.made)) (sym split) ∙ register_back f.names f.made i in
      let agent = made_agent arities (length arities + length (f.left_args ++ f.right_args) + f.plan.names) f.plan.made f.made f.made_tags plan.made i (omega arith) in
      ap (λ (v : Word). is_constant_tag arities v.tag) is ∙ agent_tag arities (register f.made i).tag agent.0 agent.1
]

beside_in : (m : ℕ) (ts : List Tree) (e : Pair) (es : List Pair) → occurrences m (names_in ts es) ≤ occurrences m (names_in ts (e ∷ es))
beside_in m ts e es = let parts = in_front m ts e es in omega arith

free_words : (n : Numbers) (i : List Word) (p : Plans) (place : ℕ) (xs ys : List Piece) (f : Fires p place xs ys) → AreNumbers n → IsSeparate n.arities i xs
    → IsPlan n.arities (length (f.left_args ++ f.right_args)) f.plan
    → (j : ℕ) → j < length (f.names ++ f.made)
    → FreeWord n (met_in n i p place xs ys f) (map (term n) i) (flat_map (equations_of n) f.rest) ((f.left_args ++ f.right_args) ++ (f.names ++ f.made)) (register (f.names ++ f.made) j)
free_words n i p place xs ys f sound separate plan j low =
    let ws : List Word = f.names ++ f.made in
    let w : Word = register ws j in
    let kind = place_kind n.arities p place xs ys f plan j low in
    let free = all_at (λ v. sum_by (room v) f.rest ≡ 0) ws j low (fresh_room ws f.rest f.fresh) in
    let none = free_place n i xs f.rest f.left f.left_place f.right f.right_place f.left_args f.right_args w separate kind f.given free in
    let absent = free_name n i f.rest f.left f.right (net_of n i xs).next f.left_args f.right_args w sound kind none free in
    let few = beside_in (n.of_place w) (map (term n) i) (meeting n f.left f.left_args f.right f.right_args) (flat_map (equations_of n) f.rest) in
    let once = fresh_once ws f.rest f.fresh j low in
    let all : count w ((f.left_args ++ f.right_args) ++ ws) ≡ count w (f.left_args ++ f.right_args) + count w ws = sum_by-append (λ v. cond (word_eq w v) 1 0) (f.left_args ++ f.right_args) ws in
    let both : count w (f.left_args ++ f.right_args) ≡ count w f.left_args + count w f.right_args = sum_by-append (λ v. cond (word_eq w v) 1 0) f.left_args f.right_args in
    let none_left = none.1 in
    let none_right = none.2 in
    record { place = kind; absent = absent; beside = omega arith; once = omega arith }

terms_parts : (n : Numbers) (ls ks : List Word) → flat_map names (map (term n) (ls ++ ks)) ≡ flat_map names (map (term n) ls) ++ flat_map names (map (term n) ks)
terms_parts n [] ks = refl
terms_parts n (l ∷ ls) ks = ap (λ ns. names (term n l) ++ ns) (terms_parts n ls ks) ∙ sym (append_assoc (names (term n l)) (flat_map names (map (term n) ls)) (flat_map names (map (term n) ks)))

pub setting_of : (n : Numbers) (i : List Word) (p : Plans) (place : ℕ) (xs ys : List Piece) (f : Fires p place xs ys) (rule : Rule) → AreNumbers n → IsSeparate n.arities i xs
    → IsPlan n.arities (length (f.left_args ++ f.right_args)) f.plan → HasNames (met_in n i p place xs ys f)
    → length f.left_args ≡ length rule.left_args → length f.right_args ≡ length rule.right_args
    → (stands : StandsFor n.arities rule f.plan)
    → Setting n (met_in n i p place xs ys f) (map (term n) i) (flat_map (equations_of n) f.rest) (f.left_args ++ f.right_args) (f.names ++ f.made) rule f.plan.names stands.registers
setting_of n i p place xs ys f rule sound separate plan named left_length right_length stands =
    let one = length-append f.left_args f.right_args in
    let two = length-append rule.left_args rule.right_args in
    let three = length-append f.names f.made in
    let count = f.names_count in
    record {
      sound = sound;
      named = named;
      length_is = omega arith;
      enough = omega arith;
      read = stands.read;
      apart = stands.apart;
      free = free_words n i p place xs ys f sound separate plan;
      beside = λ m. beside_in m (map (term n) i) (meeting n f.left f.left_args f.right f.right_args) (flat_map (equations_of n) f.rest);
      inside = λ m.
          let lt : List ℕ = names_of (trees_of (map (term n) f.left_args)) in
          let rt : List ℕ = names_of (trees_of (map (term n) f.right_args)) in
          let a = ap (occurrences m) (terms_parts n f.left_args f.right_args) ∙ occurrences-append m (flat_map names (map (term n) f.left_args)) (flat_map names (map (term n) f.right_args)) in
          let b = ap (occurrences m) (names_of-trees_of (map (term n) f.left_args)) in
          let c = ap (occurrences m) (names_of-trees_of (map (term n) f.right_args)) in
          let d = occurrences-append m lt rt in
          let e = in_front m (map (term n) i) (meeting n f.left f.left_args f.right f.right_args) (flat_map (equations_of n) f.rest) in
          omega arith;
    }

-- ---- the interaction

pub sides_over : (ss : List Symbol) (n : Numbers) (i : List Word) (l r : ℕ) (ls ks : List Word) (es : List Pair) (next : ℕ)
    → is_over ss (with_equations n i (meeting n l ls r ks ∷ es) next) ≡ true
    → (is_tree_over ss (agent_term n l ls) ≡ true) × (is_tree_over ss (agent_term n r ks) ≡ true)
sides_over ss n i l r ls ks es next over =
    let all = and_parts (list_all (is_tree_over ss) (map (term n) i)) (list_all (is_pair_over ss) (meeting n l ls r ks ∷ es)) over in
    let first = and_parts (is_pair_over ss (meeting n l ls r ks)) (list_all (is_pair_over ss) es) all.1 in
    and_parts (is_tree_over ss (agent_term n l ls)) (is_tree_over ss (agent_term n r ks)) first.0

-- the net once the rule has fired, as the machine reads its names
abbrev pub fired_in : (n : Numbers) (i : List Word) (p : Plans) (place : ℕ) (xs ys : List Piece) → Fires p place xs ys → Rule → (ℕ → ℕ) → ℕ → List Argument → Configuration
fired_in n i p place xs ys f rule registers k arguments =
    with_arguments (held_in n (registers_of n ((f.left_args ++ f.right_args) ++ (f.names ++ f.made))))
    (so_far (held_in n (registers_of n ((f.left_args ++ f.right_args) ++ (f.names ++ f.made)))) registers
    (own_name n (met_in n i p place xs ys f) (f.names ++ f.made) rule registers) k)
    (map (term n) i) (flat_map (equations_of n) f.rest)
    (above_all n (met_in n i p place xs ys f) (f.names ++ f.made) + rule.names) arguments []

pub interaction_of : (rs : Rules) (n : Numbers) (i : List Word) (p : Plans) (place : ℕ) (xs ys : List Piece) (f : Fires p place xs ys) (number : ℕ) (turned : Bool) (r : Rule)
    → IsRuleSet rs → IsRule r → slice_get rs.rules number ≡ Some r → rule_for rs.rules f.left f.right ≡ Some (number, turned)
    → is_over rs.symbols (met_in n i p place xs ys f) ≡ true
    → (stands : StandsFor n.arities (met_as turned r) f.plan)
    → length f.left_args ≡ length (met_as turned r).left_args → length f.right_args ≡ length (met_as turned r).right_args
    → Setting n (met_in n i p place xs ys f) (map (term n) i) (flat_map (equations_of n) f.rest) (f.left_args ++ f.right_args) (f.names ++ f.made) (met_as turned r) f.plan.names stands.registers
    → FiresBy rs.rules (met_in n i p place xs ys f)
    (fired_in n i p place xs ys f (met_as turned r) stands.registers (length n.arities) (arguments_from (length n.arities) ((met_as turned r).left_args ++ (met_as turned r).right_args))) number
interaction_of rs n i p place xs ys f number turned r set is there found over stands left_length right_length s =
    let rule : Rule = met_as turned r in
    let d : Configuration = met_in n i p place xs ys f in
    let args : List Word = f.left_args ++ f.right_args in
    let ws : List Word = f.names ++ f.made in
    let held : ℕ → Tree = held_in n (registers_of n (args ++ ws)) in
    let own : ℕ → ℕ = own_name n d ws rule stands.registers in
    let k : ℕ = length n.arities in
    let es : List Pair = flat_map (equations_of n) f.rest in
    let left : Tree = agent_term n f.left f.left_args in
    let right : Tree = agent_term n f.right f.right_args in
    let o = oriented_rule left right number turned in
    let active : Active = o.0 in
    let arguments : List Argument = arguments_from k (rule.left_args ++ rule.right_args) in
    let fresh = names_fresh n d (map (term n) i) es args ws rule f.plan.names stands.registers s in
    let count : count_of rs.rules number ≡ rule.names = ap (λ (q : Option Rule). option_map_or (λ t. t.names) q 0) there ∙ sym (met_count turned r) in
    let left_is : (j : ℕ) → j < length f.left_args → held (k + j) ≡ term n (register f.left_args j) =
    (λ j low. let len = length-append f.left_args f.right_args in
    held_later n (args ++ ws) j ∙ ap (term n) (register_front args ws j (omega arith) ∙ register_front f.left_args f.right_args j low)) in
    let right_is : (j : ℕ) → j < length f.right_args → held ((k + length f.left_args) + j) ≡ term n (register f.right_args j) =
    (λ j low. let len = length-append f.left_args f.right_args in
    let place_is : (k + length f.left_args) + j ≡ k + (length f.left_args + j) = omega arith in
    ap held place_is ∙ (held_later n (args ++ ws) (length f.left_args + j)
    ∙ ap (term n) (register_front args ws (length f.left_args + j) (omega arith) ∙ register_back f.left_args f.right_args j))) in
    let products = products_matched n held own k f.left f.right f.left_args f.right_args turned r number rs.rules active there o.1.0 left_length right_length left_is right_is in
    let left_record = arguments_left n d (map (term n) i) es args ws turned r f.plan.names stands.registers is s in
    let later : (z : ℕ) → z < r.names → name (own z) ≡ so_far held stands.registers own k z =
    (λ z low. sym (so_far_own held stands.registers own k z (high_read z (transport (λ (c : ℕ). z < c) (sym (met_count turned r)) low)))) in
    let same = matched_same r.names held (λ z. name (own z)) (so_far held stands.registers own k) arguments left_record.below later in
    let moved : IsPermutation (products_with rs.rules own active) (map (matched held (so_far held stands.registers own k)) arguments) =
    transport (IsPermutation (products_with rs.rules own active)) same products in
    record {
      equation = meeting n f.left f.left_args f.right f.right_args;
      others = es;
      active = active;
      names = own;
      given = IsPermutation-refl d.equations;
      has_rule = ap (oriented left right) found ∙ o.1.0;
      by_rule = o.1.1;
      fresh = transport (λ (c : ℕ). AreFreshNames d c (above_all n d ws + rule.names) own) (sym count) fresh;
      higher = omega arith;
      interface = refl;
      equations = IsPermutation-append_left es (products_with rs.rules own active) (map (matched held (so_far held stands.registers own k)) arguments) moved;
    }
  where
    high_read : (z : ℕ) → z < (met_as turned r).names → length n.arities ≤ stands.registers z
    high_read z low = at (where_read n (met_in n i p place xs ys f) (map (term n) i) (flat_map (equations_of n) f.rest) (f.left_args ++ f.right_args) (f.names ++ f.made) (met_as turned r) f.plan.names stands.registers s z low)
      where
        at : ((after_arguments n (met_as turned r) ≤ stands.registers z) × (stands.registers z < after_arguments n (met_as turned r) + f.plan.names))
            ⊎ ((length n.arities ≤ stands.registers z) × (stands.registers z < after_arguments n (met_as turned r)) × (slice_get ((met_as turned r).left_args ++ (met_as turned r).right_args) (stands.registers z - length n.arities) ≡ Some (name z)))
            → length n.arities ≤ stands.registers z
        at (inl here) = let a = here.0 in omega arith
        at (inr here) = here.0

pub interaction_pair : (rs : Rules) (n : Numbers) (i : List Word) (p : Plans) (place : ℕ) (xs ys : List Piece) (f : Fires p place xs ys) (number : ℕ) (turned : Bool) (r : Rule)
    → (set : IsRuleSet rs) (is : IsRule r) (there : slice_get rs.rules number ≡ Some r) (found : rule_for rs.rules f.left f.right ≡ Some (number, turned))
    → (over : is_over rs.symbols (met_in n i p place xs ys f) ≡ true)
    → (stands : StandsFor n.arities (met_as turned r) f.plan)
    → (left_length : length f.left_args ≡ length (met_as turned r).left_args) (right_length : length f.right_args ≡ length (met_as turned r).right_args)
    → (s : Setting n (met_in n i p place xs ys f) (map (term n) i) (flat_map (equations_of n) f.rest) (f.left_args ++ f.right_args) (f.names ++ f.made) (met_as turned r) f.plan.names stands.registers)
    → (interaction_of rs n i p place xs ys f number turned r set is there found over stands left_length right_length s).equation ≡ meeting n f.left f.left_args f.right f.right_args
unfolding interaction_of
interaction_pair rs n i p place xs ys f number turned r set is there found over stands left_length right_length s = refl

-- ---- from the products to the pieces

below_filter : (count : ℕ) (test : Argument → Bool) (ds : List Argument) → AreBelow count ds → AreBelow count (filter test ds)
below_filter count test [] below = tt
below_filter count test (d ∷ ds) below = at (test d) refl (below_filter count test ds (all_back (λ z. z < count) (names d.term) (flat_map argument_names ds) below))
  where
    at : (b : Bool) → test d ≡ b → AreBelow count (filter test ds) → AreBelow count (cond b (d ∷ filter test ds) (filter test ds))
    at true e rest = all_append (λ z. z < count) (names d.term) (flat_map argument_names (filter test ds)) (all_front (λ z. z < count) (names d.term) (flat_map argument_names ds) below) rest
    at false e rest = rest

-- the net in which the plan's agents are put together
abbrev pub assembled : (n : Numbers) (i : List Word) (p : Planned) (later : List Word) (es : List Pair) (bound k : ℕ) → Configuration
assembled n i p later es bound k = read_from (held_made k p.made (held_in n (registers_of n later))) (map (term n) i) [] p.links es bound

pub to_assembled : NetLaws → (n : Numbers) (i : List Word) (p : Plans) (place : ℕ) (xs ys : List Piece) (f : Fires p place xs ys) (turned : Bool) (r : Rule)
    → IsRule r → (stands : StandsFor n.arities (met_as turned r) f.plan)
    → Setting n (met_in n i p place xs ys f) (map (term n) i) (flat_map (equations_of n) f.rest) (f.left_args ++ f.right_args) (f.names ++ f.made) (met_as turned r) f.plan.names stands.registers
    → HasNames (fired_in n i p place xs ys f (met_as turned r) stands.registers (length n.arities) (arguments_from (length n.arities) ((met_as turned r).left_args ++ (met_as turned r).right_args)))
    → OneNet (fired_in n i p place xs ys f (met_as turned r) stands.registers (length n.arities) (arguments_from (length n.arities) ((met_as turned r).left_args ++ (met_as turned r).right_args)))
    (assembled n i f.plan ((f.left_args ++ f.right_args) ++ (f.names ++ f.made)) (flat_map (equations_of n) f.rest)
    (above_all n (met_in n i p place xs ys f) (f.names ++ f.made) + (met_as turned r).names)
    (length n.arities + length ((met_as turned r).left_args ++ (met_as turned r).right_args) + f.plan.names))
to_assembled laws n i p place xs ys f turned r is stands s named =
    let rule : Rule = met_as turned r in
    let d : Configuration = met_in n i p place xs ys f in
    let args : List Word = f.left_args ++ f.right_args in
    let ws : List Word = f.names ++ f.made in
    let held : ℕ → Tree = held_in n (registers_of n (args ++ ws)) in
    let own : ℕ → ℕ = own_name n d ws rule stands.registers in
    let k : ℕ = length n.arities in
    let es : List Pair = flat_map (equations_of n) f.rest in
    let ts : List Tree = map (term n) i in
    let arguments : List Argument = arguments_from k (rule.left_args ++ rule.right_args) in
    let bound : ℕ = above_all n d ws + rule.names in
    let left_record = arguments_left n d ts es args ws turned r f.plan.names stands.registers is s in
    let names_is = names_named n d ts es args ws rule f.plan.names stands.registers s in
    let named_too = transport (λ (c : ℕ). Left c (after_arguments n rule) stands.registers k (rule.left_args ++ rule.right_args) []) (sym (met_count turned r)) left_record in
    let start : Configuration = fired_in n i p place xs ys f rule stands.registers k arguments in
    let put = put_arguments laws rule.names (after_arguments n rule) held stands.registers own ts es bound k (rule.left_args ++ rule.right_args) [] names_is named_too named in
    let kept : List Argument = filter (is_matched stands.registers) arguments in
    let below = below_filter rule.names (is_matched stands.registers) arguments named_too.below in
    let all_held : (z : ℕ) → z < rule.names → so_far held stands.registers own (after_arguments n rule) z ≡ held (stands.registers z) = held_at in
    let same = matched_same rule.names held (so_far held stands.registers own (after_arguments n rule)) (λ z. held (stands.registers z)) kept below all_held in
    let middle : Configuration = record { interface = ts; equations = map (matched held (λ z. held (stands.registers z))) kept ++ es; next = bound } in
    let one : OneNet start middle = transport (λ l. OneNet start (record { interface = ts; equations = l ++ es; next = bound })) same put in
    let b : ℕ = k + length (rule.left_args ++ rule.right_args) + f.plan.names in
    let moved = stands.equations held (λ c low. held_constant n (registers_of n (args ++ ws)) c low) in
    let end : Configuration = record { interface = ts; equations = equations_made b f.plan held ++ es; next = bound } in
    let two : OneNet middle end = laws.order middle end.equations one.names_too
    (IsPermutation-append_left es (map (matched held (λ z. held (stands.registers z))) kept) (equations_made b f.plan held) moved) in
    transport (λ l. OneNet start (record { interface = l; equations = equations_made b f.plan held ++ es; next = bound })) (sym (append-nil ts))
    (laws.through start middle end one two)
  where
    held_at : (z : ℕ) → z < (met_as turned r).names
        → so_far (held_in n (registers_of n ((f.left_args ++ f.right_args) ++ (f.names ++ f.made)))) stands.registers
        (own_name n (met_in n i p place xs ys f) (f.names ++ f.made) (met_as turned r) stands.registers) (after_arguments n (met_as turned r)) z
        ≡ held_in n (registers_of n ((f.left_args ++ f.right_args) ++ (f.names ++ f.made))) (stands.registers z)
    held_at z low = at (where_read n (met_in n i p place xs ys f) (map (term n) i) (flat_map (equations_of n) f.rest) (f.left_args ++ f.right_args) (f.names ++ f.made) (met_as turned r) f.plan.names stands.registers s z low)
      where
        at : ((after_arguments n (met_as turned r) ≤ stands.registers z) × (stands.registers z < after_arguments n (met_as turned r) + f.plan.names))
            ⊎ ((length n.arities ≤ stands.registers z) × (stands.registers z < after_arguments n (met_as turned r)) × (slice_get ((met_as turned r).left_args ++ (met_as turned r).right_args) (stands.registers z - length n.arities) ≡ Some (name z)))
            → so_far (held_in n (registers_of n ((f.left_args ++ f.right_args) ++ (f.names ++ f.made)))) stands.registers
            (own_name n (met_in n i p place xs ys f) (f.names ++ f.made) (met_as turned r) stands.registers) (after_arguments n (met_as turned r)) z
            ≡ held_in n (registers_of n ((f.left_args ++ f.right_args) ++ (f.names ++ f.made))) (stands.registers z)
        at (inl here) =
            so_far_own (held_in n (registers_of n ((f.left_args ++ f.right_args) ++ (f.names ++ f.made)))) stands.registers
            (own_name n (met_in n i p place xs ys f) (f.names ++ f.made) (met_as turned r) stands.registers) (after_arguments n (met_as turned r)) z here.0
            ∙ fresh_held n (met_in n i p place xs ys f) (map (term n) i) (flat_map (equations_of n) f.rest) (f.left_args ++ f.right_args) (f.names ++ f.made) (met_as turned r) f.plan.names stands.registers s z here.0 here.1
        at (inr here) =
            so_far_held (held_in n (registers_of n ((f.left_args ++ f.right_args) ++ (f.names ++ f.made)))) stands.registers
            (own_name n (met_in n i p place xs ys f) (f.names ++ f.made) (met_as turned r) stands.registers) (after_arguments n (met_as turned r)) z here.1
