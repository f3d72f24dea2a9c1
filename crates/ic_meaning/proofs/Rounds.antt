-- Lemmas: a generation of pairs among pieces is a round of what the pieces settle to.
use Rattle.std.proofs.Common.{◌≡◌, ℕ, zero, suc, ◌+◌, ◌-◌, ◌≤◌, ◌==◌, ◌&&◌, List, [], ◌∷◌, ◌++◌, Bool, true, false, cond, Option, None, Some, is_none, is_some, length, map, slice_get, sum_by, refl, sym, ap, ◌∙◌, arith, subst as transport}
use Rattle.std.proofs.lemmas.Bool.{and_parts}
use Rattle.std.proofs.lemmas.Grind.{flat_map-append as flat_parts}
use Rattle.std.proofs.lemmas.List.{map-append}
use Rattle.std.proofs.lemmas.List.Folds.{list_all-append}
use Rattle.std.proofs.lemmas.List.Sums.{sum_by-append}
use Rattle.std.proofs.lemmas.List.Sorted.{sum_by-IsPermutation, length_permutation}
use Rattle.std.specs.Prelude.{IsPermutation, IsTrue, ◌↔◌, filter}
use Rattle.std.specs.List.{AllByRecursion, flat_map, list_all}
use Rattle.ic_term.specs.Tree.{Tree, name, agent, no_trees, trees_of, list_of, names, names_of, Pair, pair_names}
use Rattle.ic_term.specs.Configuration.{Configuration, configuration_names, names_in, occurrences}
use Rattle.ic_term.specs.Symbol.{Symbol, has_arity, is_tree_over, are_trees_over, is_pair_over, is_over}
use Rattle.ic_term.specs.lemmas.TreeLaws.{list_of-trees_of}
use Rattle.ic_rules.specs.Rule.{Rule}
use Rattle.ic_rules.specs.RuleSet.{Rules, IsRuleSet}
use Rattle.ic_settle.specs.Settling.{settled}
use Rattle.ic_settle.specs.NameSteps.{NameStep, NameSteps, no_step, one_more}
use Rattle.ic_settle.specs.lemmas.PutEach.{names_of-trees_of}
use Rattle.ic_settle.specs.lemmas.Reached.{settled_steps, settled_ends, one_fewer}
use Rattle.ic_settle.specs.lemmas.SubstitutionLaws.{occurrences-append, and_both}
use Rattle.ic_round.specs.Firing.{Active, oriented, active_pair}
use Rattle.ic_round.specs.Interactions.{active_equations}
use Rattle.ic_round.specs.Naming.{HasNames}
use Rattle.ic_round.specs.Quiet.{is_inert, is_settled}
use Rattle.ic_round.specs.Rounds.{round, iterate}
use Rattle.ic_round.specs.Steps.{no_steps, then_step}
use Rattle.ic_round.specs.lemmas.ChainLemmas.{steps-over}
use Rattle.ic_round.specs.lemmas.NamesLemmas.{name_step-names}
use Rattle.ic_round.specs.lemmas.AnyOrder.{each_permuted as all_order}
use Rattle.ic_round.specs.lemmas.NameStepLemmas.{name_step}
use Rattle.ic_round.specs.lemmas.QuietLemmas.{is_quiet_where}
use Rattle.ic_confluence.specs.Sameness.{Same}
use Rattle.ic_reaching.specs.OneNet.{OneNet, SameButNext}
use Rattle.ic_reaching.specs.Reaching.{Reaches}
use Rattle.ic_generations.specs.Firings.{rule_of, rules_of}
use Rattle.ic_generations.specs.Generations.{Generation, whole, without_now, Goes}
use Rattle.ic_generations.specs.Waiting.{are_agents, arguments_in}
use Rattle.ic_arena.specs.declared.word.Word.{Word}
use Rattle.ic_arena.specs.declared.word.TheConstants.{NAME, GIVEN}
use Rattle.ic_arena.specs.Word.{word_eq, count}
use Rattle.ic_arena.specs.Piece.{Piece, equated, idle, waits, agent_of, agent_with, room, uses}
use Rattle.ic_machine.specs.declared.equation.Equation.{Equation}
use Rattle.ic_machine.specs.Net.{equated_of, IsStuck}
use Rattle.ic_machine.specs.Plan.{Plans}
use Rattle.ic_machine.specs.Separate.{is_constant_tag}
use Rattle.ic_machine.specs.lemmas.FiresKeep.{agent_uses}
use Rattle.ic_machine.specs.lemmas.FiringKeeps.{all_append}
use Rattle.ic_machine.specs.Generations.{Takes}
use Rattle.ic_meaning.specs.Words.{Numbers, term}
use Rattle.ic_meaning.specs.Nets.{equations_of, net_of, holds, AreNetPieces, IsStuckPiece}
use Rattle.ic_meaning.specs.Plans.{ArePlansOf, rule_number}
use Rattle.ic_meaning.specs.lemmas.Orders.{all_back}
use Rattle.ic_meaning.specs.lemmas.Ruleless.{no_rule}
use Rattle.ic_meaning.proofs.Going.{GoingLaws, Plain, Stands, stands_on, Path, path_of, generation, placed, parts_are, equated_room, met_rooms}
use Rattle.ic_meaning.proofs.Meetings.{Met, left_word, right_word, pair_of, agents_of, put_of, equations, tops, net_met}
use Rattle.ic_meaning.proofs.Quiet.{quiet_net}
use Rattle.ic_meaning.proofs.Reached.{steps_reach}
use Rattle.ic_meaning.proofs.Wholes.{above_each}

-- what the laws below say
pub record RoundLaws : Type 0 where
  pub going : GoingLaws
  pub free_reached : (rs : Rules) (c d : Configuration) (fired : List ℕ) → IsRuleSet rs → IsTrue (is_over rs.symbols c) → HasNames c → Reaches rs.rules c d fired
      → (x : ℕ) → (occurrences x (configuration_names c) ≡ 1) ↔ (occurrences x (configuration_names d) ≡ 1)
  pub free : (c d : Configuration) → OneNet c d → (x : ℕ) → (occurrences x (configuration_names c) ≡ 1) ↔ (occurrences x (configuration_names d) ≡ 1)
  pub equations : (c d : Configuration) → SameButNext c d → length d.equations ≡ length c.equations
  pub same : (c d : Configuration) → Same c d → SameButNext c d
  pub in_turn : (c d e : Configuration) → SameButNext c d → SameButNext d e → SameButNext c e
  pub settled : (c d : Configuration) → HasNames c → SameButNext c d → SameButNext (settled c) (settled d)
  pub rules : (rs : Rules) (c d : Configuration) → IsRuleSet rs → IsTrue (is_over rs.symbols c) → HasNames c → SameButNext c d
      → IsPermutation (rules_of rs.rules c.equations) (rules_of rs.rules d.equations)
  pub ends : (c d e : Configuration) → HasNames c → NameSteps c d → NameSteps c e → ((f : Configuration) → ¬ NameStep d f) → ((f : Configuration) → ¬ NameStep e f) → Same d e
  pub elsewhere : (rs : Rules) (ts : List Tree) (es rest : List Pair) (next : ℕ) (end : Configuration) → IsTrue (list_all are_agents es)
      → NameSteps (record { interface = arguments_in es ++ ts; equations = rest; next = next }) end → ((f : Configuration) → ¬ NameStep end f) → IsTrue (is_inert rs.rules end)
      → (d : Configuration) × NameSteps (record { interface = ts; equations = es ++ rest; next = next }) d × ((f : Configuration) → ¬ NameStep d f)
      × (length (active_equations rs.rules d) ≡ length (active_equations rs.rules (record { interface = ts; equations = es; next = next })))
  pub round : (rs : Rules) (rules : List ℕ) (g h : Generation) (c d : Configuration) → IsRuleSet rs → IsTrue (is_over rs.symbols (whole g)) → HasNames (whole g)
      → IsTrue (is_inert rs.rules (without_now g)) → Goes rs.rules rules g h → h.now ≡ [] → NameSteps (whole g) c
      → length (active_equations rs.rules c) ≡ length (active_equations rs.rules (whole g)) → SameButNext c d → HasNames d
      → OneNet (round rs.rules d) (whole h) × IsPermutation rules (rules_of rs.rules d.equations)

-- ---- name steps, wherever fresh names begin

at_any : (next : ℕ) (c d : Configuration) → NameSteps c d → NameSteps (record c { next = next }) (record d { next = next })
at_any next c d (no_step x) = no_step (record x { next = next })
at_any next c d (one_more x y z steps s) =
    one_more (record x { next = next }) (record y { next = next }) (record z { next = next }) (at_any next x y steps) (record {
      before = s.before;
      equation = s.equation;
      after = s.after;
      bound = s.bound;
      place = s.place;
      side = s.side;
      outside = s.outside;
      result = ap (λ (w : Configuration). record w { next = next }) s.result;
    })

none_at_any : (next : ℕ) (c : Configuration) → ((f : Configuration) → NameStep c f → ⊥) → (f : Configuration) → NameStep (record c { next = next }) f → ⊥
none_at_any next c none f s = none (record f { next = c.next }) (record {
  before = s.before;
  equation = s.equation;
  after = s.after;
  bound = s.bound;
  place = s.place;
  side = s.side;
  outside = s.outside;
  result = ap (λ (w : Configuration). record w { next = c.next }) s.result;
})

-- where no step is possible, none was made
pub none_made : (c d : Configuration) → ((f : Configuration) → NameStep c f → ⊥) → NameSteps c d → d ≡ c
none_made c d none (no_step x) = refl
none_made c d none (one_more x y z steps s) =
    let same = none_made x y none steps in
    absurd (none z (transport (λ w. NameStep w z) same s))

no_more_equations : (c d : Configuration) → NameSteps c d → length d.equations ≤ length c.equations
no_more_equations c d (no_step x) = omega arith
no_more_equations c d (one_more x y z steps s) =
    let before = no_more_equations x y steps in
    let fewer = one_fewer y z s in
    omega (arith, before, fewer)

-- what is the same but for where fresh names begin as one that is settled is settled too
settled_as : RoundLaws → (c d f : Configuration) → HasNames c → SameButNext c d → ((g : Configuration) → NameStep d g → ⊥) → NameStep c f → ⊥
settled_as laws c d f named s none step = by (settled c) refl (settled_steps c)
  where
    by : (e : Configuration) → settled c ≡ e → NameSteps c e → ⊥
    by e is steps = fewer_or_none e is steps (laws.equations (settled c) (settled d) (laws.settled c d named s)) (laws.equations c d s)
      where
        fewer_or_none : (e : Configuration) → settled c ≡ e → NameSteps c e → length (settled d).equations ≡ length (settled c).equations → length d.equations ≡ length c.equations → ⊥
        fewer_or_none e is (no_step x) same also = settled_ends c f (transport (λ w. NameStep w f) (sym is) step)
        fewer_or_none e is (one_more x y z steps last) same also =
            let before = no_more_equations x y steps in
            let fewer = one_fewer y z last in
            let stays = ap (λ (w : Configuration). length w.equations) (none_made d (settled d) none (settled_steps d)) in
            let end = ap (λ (w : Configuration). length w.equations) is in
            omega (arith, before, fewer, stays, end, same, also)

-- ---- equations that aren't active

none_active : (rs : List Rule) (es : List Pair) → list_all (λ p. is_none (active_pair rs p)) es ≡ true → rules_of rs es ≡ []
none_active rs [] inert = refl
none_active rs (p ∷ es) inert =
    let both = and_parts (is_none (active_pair rs p)) (list_all (λ q. is_none (active_pair rs q)) es) inert in
    let here = no_rule_here (active_pair rs p) refl both.0 in
    let rest = none_active rs es both.1 in
    λ i. here i ++ rest i
  where
    no_rule_here : (o : Option Active) → active_pair rs p ≡ o → is_none o ≡ true → rule_of rs p ≡ []
    no_rule_here None is e = rw is refl
    no_rule_here (Some a) is e = cc

all_inert : (rs : List Rule) (es : List Pair) → rules_of rs es ≡ [] → list_all (λ p. is_none (active_pair rs p)) es ≡ true
all_inert rs [] none = refl
all_inert rs (p ∷ es) none = at (active_pair rs p) refl (all_inert rs es)
  where
    at : (o : Option Active) → active_pair rs p ≡ o → (rules_of rs es ≡ [] → list_all (λ q. is_none (active_pair rs q)) es ≡ true) → list_all (λ q. is_none (active_pair rs q)) (p ∷ es) ≡ true
    at None is rest =
        let later : rules_of rs es ≡ [] = rw is at none in
        rw is (rest later)
    at (Some a) is rest = let bad : a.rule ∷ rules_of rs es ≡ [] = rw is at none in cc

none_left : (ns : List ℕ) → IsPermutation ns [] → ns ≡ []
none_left [] moved = refl
none_left (n ∷ ns) moved = let same = length_permutation (n ∷ ns) [] moved in absurd (omega (arith, same))

-- a term of a word is a name, or an agent without arguments with the word's symbol
data Shape (w : Word) : Tree → Type 0 where
  a_name : (x : ℕ) → Shape w (name x)
  an_agent : (s : ℕ) → w.tag ≡ s + 1 → Shape w (agent s no_trees)

shape_of : (n : Numbers) (w : Word) → (w.tag ≡ NAME → ⊥) → Shape w (term n w)
shape_of n w tagged = at (is_constant_tag n.arities w.tag) (w.tag == GIVEN) (slice_get n.given w.index) refl refl refl
  where
    symbol_tag : w.tag ≡ (w.tag - 1) + 1
    symbol_tag = let differ : w.tag ≡ 0 → ⊥ = tagged in omega arith

    at : (b c : Bool) (o : Option ℕ) → is_constant_tag n.arities w.tag ≡ b → (w.tag == GIVEN) ≡ c → slice_get n.given w.index ≡ o → Shape w (term n w)
    at false c o e f g = let is : term n w ≡ name (n.of_place w) = rw e refl in transport (Shape w) (sym is) (a_name (n.of_place w))
    at true false o e f g = let is : term n w ≡ agent (w.tag - 1) no_trees = rw (e, f) refl in transport (Shape w) (sym is) (an_agent (w.tag - 1) symbol_tag)
    at true true None e f g = let is : term n w ≡ agent (w.tag - 1) no_trees = rw (e, f, g) refl in transport (Shape w) (sym is) (an_agent (w.tag - 1) symbol_tag)
    at true true (Some x) e f g = let is : term n w ≡ name x = rw (e, f, g) refl in transport (Shape w) (sym is) (a_name x)

shapes_inert : (rs : Rules) (numbers : List ℕ) (p : Plans) (l r : Word) (t u : Tree) → IsRuleSet rs → ArePlansOf rs numbers p → IsStuck p (record { left = l; right = r }) → Shape l t → Shape r u
    → is_none (active_pair rs.rules (record { left = t; right = u })) ≡ true
shapes_inert rs numbers p l r t u set plans stuck (a_name x) other = refl
shapes_inert rs numbers p l r t u set plans stuck (an_agent s tag) (a_name x) = refl
shapes_inert rs numbers p l r t u set plans stuck (an_agent s tag) (an_agent z also) =
    let none = no_rule rs numbers p s z set plans (stuck.no_plan s z tag also) in
    ap (λ o. is_none (oriented (agent s no_trees) (agent z no_trees) o)) none

piece_inert : (rs : Rules) (numbers : List ℕ) (p : Plans) (n : Numbers) (x : Piece) → IsRuleSet rs → ArePlansOf rs numbers p → IsStuckPiece p x → list_all (λ q. is_none (active_pair rs.rules q)) (equations_of n x) ≡ true
piece_inert rs numbers p n (equated l r) set plans stuck = rw (shapes_inert rs numbers p l r (term n l) (term n r) set plans stuck (shape_of n l stuck.left) (shape_of n r stuck.right)) refl
piece_inert rs numbers p n (idle x) set plans stuck = refl
piece_inert rs numbers p n (waits x u) set plans stuck = refl
piece_inert rs numbers p n (agent_of a ws) set plans stuck = refl

pub pieces_inert : (rs : Rules) (numbers : List ℕ) (p : Plans) (n : Numbers) (ps : List Piece) → IsRuleSet rs → ArePlansOf rs numbers p → AllByRecursion (IsStuckPiece p) ps
    → list_all (λ q. is_none (active_pair rs.rules q)) (equations n ps) ≡ true
pieces_inert rs numbers p n [] set plans stuck = refl
pieces_inert rs numbers p n (x ∷ ps) set plans stuck =
    let here = piece_inert rs numbers p n x set plans stuck.0 in
    let rest = pieces_inert rs numbers p n ps set plans stuck.1 in
    list_all-append (λ q. is_none (active_pair rs.rules q)) (equations_of n x) (equations n ps) ∙ (rw (here, rest) refl)

pub stuck_pieces : (p : Plans) (es : List Equation) → AllByRecursion (IsStuck p) es → AllByRecursion (IsStuckPiece p) (map equated_of es)
stuck_pieces p [] stuck = tt
stuck_pieces p (e ∷ es) stuck = (stuck.0, stuck_pieces p es stuck.1)

-- ---- the pairs by their arguments

abbrev words_of : List Met → List Word
words_of ms = flat_map (λ m. m.left_args ++ m.right_args) ms

tops_arguments : (n : Numbers) (ms : List Met) → arguments_in (tops n ms) ≡ map (term n) (words_of ms)
tops_arguments n [] = refl
tops_arguments n (m ∷ ms) =
    let left = list_of-trees_of (map (term n) m.left_args) in
    let right = list_of-trees_of (map (term n) m.right_args) in
    let rest = tops_arguments n ms in
    (λ i. (left i ++ right i) ++ rest i)
    ∙ ((λ i. sym (map-append (term n) m.left_args m.right_args) i ++ map (term n) (words_of ms)) ∙ sym (map-append (term n) (m.left_args ++ m.right_args) (words_of ms)))

tops_agents : (n : Numbers) (ms : List Met) → list_all are_agents (tops n ms) ≡ true
tops_agents n [] = refl
tops_agents n (m ∷ ms) = tops_agents n ms

tops_names : (n : Numbers) (ms : List Met) (x : ℕ) → occurrences x (flat_map pair_names (tops n ms)) ≡ occurrences x (flat_map names (map (term n) (words_of ms)))
tops_names n [] x = refl
tops_names n (m ∷ ms) x =
    let ls = map (term n) m.left_args in
    let ks = map (term n) m.right_args in
    let rest = tops_names n ms x in
    let left = ap (occurrences x) (names_of-trees_of ls) in
    let right = ap (occurrences x) (names_of-trees_of ks) in
    let pair = occurrences-append x (names_of (trees_of ls)) (names_of (trees_of ks)) in
    let more = occurrences-append x (pair_names (put_of n m)) (flat_map pair_names (tops n ms)) in
    let split = ap (λ (ts : List Tree). occurrences x (flat_map names ts)) (map-append (term n) (m.left_args ++ m.right_args) (words_of ms) ∙ ap (λ ts. ts ++ map (term n) (words_of ms)) (map-append (term n) m.left_args m.right_args)) in
    let apart = ap (occurrences x) (flat_parts names (ls ++ ks) (map (term n) (words_of ms))) ∙ occurrences-append x (flat_map names (ls ++ ks)) (flat_map names (map (term n) (words_of ms))) in
    let two = ap (occurrences x) (flat_parts names ls ks) ∙ occurrences-append x (flat_map names ls) (flat_map names ks) in
    omega (arith, rest, left, right, pair, more, split, apart, two)

words_used : (w : Word) (ms : List Met) → sum_by (uses w) (flat_map agents_of ms) ≡ count w (words_of ms)
words_used w [] = refl
words_used w (m ∷ ms) =
    let rest = words_used w ms in
    let all = sum_by-append (uses w) (agents_of m) (flat_map agents_of ms) in
    let both = sum_by-append (uses w) (agent_with (left_word m) m.left_args) (agent_with (right_word m) m.right_args) in
    let left = agent_uses w (left_word m) m.left_args in
    let right = agent_uses w (right_word m) m.right_args in
    let counts : count w (words_of (m ∷ ms)) ≡ count w (m.left_args ++ m.right_args) + count w (words_of ms) = sum_by-append (λ u. cond (word_eq w u) 1 0) (m.left_args ++ m.right_args) (words_of ms) in
    let two : count w (m.left_args ++ m.right_args) ≡ count w m.left_args + count w m.right_args = sum_by-append (λ u. cond (word_eq w u) 1 0) m.left_args m.right_args in
    omega (arith, rest, all, both, left, right, counts, two)

pub steps_named : (c d : Configuration) → HasNames c → NameSteps c d → HasNames d
steps_named c d named (no_step x) = named
steps_named c d named (one_more x y z steps step) = name_step-names y z step (steps_named x y named steps)

pub steps_over : (rs : Rules) (c d : Configuration) → IsRuleSet rs → is_over rs.symbols c ≡ true → NameSteps c d → is_over rs.symbols d ≡ true
steps_over rs c d set over (no_step x) = over
steps_over rs c d set over (one_more x y z steps step) = steps-over rs y z set (steps_over rs x y set over steps) (then_step y y z (no_steps y) (name_step rs.rules y z step))

trees_over : (ss : List Symbol) (ts : List Tree) → are_trees_over ss (trees_of ts) ≡ list_all (is_tree_over ss) ts
trees_over ss [] = refl
trees_over ss (t ∷ ts) = ap (λ b. is_tree_over ss t && b) (trees_over ss ts)

words_over : (ss : List Symbol) (n : Numbers) (ms : List Met) → list_all (is_pair_over ss) (tops n ms) ≡ true → list_all (is_tree_over ss) (map (term n) (words_of ms)) ≡ true
words_over ss n [] over = refl
words_over ss n (m ∷ ms) over =
    let ls = map (term n) m.left_args in
    let ks = map (term n) m.right_args in
    let both = and_parts (is_pair_over ss (put_of n m)) (list_all (is_pair_over ss) (tops n ms)) over in
    let sides = and_parts (is_tree_over ss (put_of n m).left) (is_tree_over ss (put_of n m).right) both.0 in
    let left = sym (trees_over ss ls) ∙ (and_parts (has_arity (length (list_of (trees_of ls))) (slice_get ss m.left)) (are_trees_over ss (trees_of ls)) sides.0).1 in
    let right = sym (trees_over ss ks) ∙ (and_parts (has_arity (length (list_of (trees_of ks))) (slice_get ss m.right)) (are_trees_over ss (trees_of ks)) sides.1).1 in
    let rest = words_over ss n ms both.1 in
    let split : map (term n) (words_of (m ∷ ms)) ≡ (ls ++ ks) ++ map (term n) (words_of ms) =
    map-append (term n) (m.left_args ++ m.right_args) (words_of ms) ∙ ap (λ ts. ts ++ map (term n) (words_of ms)) (map-append (term n) m.left_args m.right_args) in
    ap (list_all (is_tree_over ss)) split
    ∙ (list_all-append (is_tree_over ss) (ls ++ ks) (map (term n) (words_of ms))
    ∙ (ap (λ b. b && list_all (is_tree_over ss) (map (term n) (words_of ms))) (list_all-append (is_tree_over ss) ls ks) ∙ (rw (left, right, rest) refl)))

pub one_or_none : (x : Pair) (rest : List Pair) (b : Bool) → length (cond b (x ∷ rest) rest) ≡ cond b 1 0 + length rest
one_or_none x rest true = omega arith
one_or_none x rest false = omega arith

none_counted : (rs : List Rule) (es : List Pair) → list_all (λ p. is_none (active_pair rs p)) es ≡ true → length (filter (λ p. is_some (active_pair rs p)) es) ≡ 0
none_counted rs [] inert = refl
none_counted rs (p ∷ es) inert =
    let both = and_parts (is_none (active_pair rs p)) (list_all (λ q. is_none (active_pair rs q)) es) inert in
    let rest = none_counted rs es both.1 in
    let first = one_or_none p (filter (λ q. is_some (active_pair rs q)) es) (is_some (active_pair rs p)) in
    let zero = none_zero (active_pair rs p) both.0 in
    omega (arith, rest, first, zero)
  where
    none_zero : (o : Option Active) → is_none o ≡ true → ◌≡◌ {A = ℕ} (cond (is_some o) 1 0) 0
    none_zero None e = refl
    none_zero (Some a) e = cc

pub count_first : (rs : List Rule) (es fs : List Pair) → list_all (λ p. is_none (active_pair rs p)) fs ≡ true
    → length (filter (λ p. is_some (active_pair rs p)) (es ++ fs)) ≡ length (filter (λ p. is_some (active_pair rs p)) es)
count_first rs [] fs inert = none_counted rs fs inert
count_first rs (p ∷ es) fs inert =
    let rest = count_first rs es fs inert in
    let all = one_or_none p (filter (λ q. is_some (active_pair rs q)) (es ++ fs)) (is_some (active_pair rs p)) in
    let own = one_or_none p (filter (λ q. is_some (active_pair rs q)) es) (is_some (active_pair rs p)) in
    omega (arith, rest, all, own)

module _ (laws : RoundLaws) (rs : Rules) (numbers : List ℕ) (p : Plans) (n : Numbers) (i : List Word) (now : List Equation) (fired : List ℕ) (xs ys : List Piece) (given : Plain rs numbers p n)
    (s : Stands rs n i (map equated_of now ++ xs)) (path : Path rs numbers p n i now fired xs ys) (stuck : AllByRecursion (IsStuckPiece p) xs)
    (free : (x : ℕ) → (occurrences x (configuration_names (net_of n i (map equated_of now ++ xs))) ≡ 1) ↔ ((j : ℕ) × (slice_get n.given j ≡ Some x))) where
  abbrev q : List Piece
  q = map equated_of now ++ xs

  abbrev ms : List Met
  ms = path.ms

  abbrev rest : List Piece
  rest = map equated_of path.stuck ++ path.us

  abbrev next : ℕ
  next = (net_of n i q).next

  abbrev g : Generation
  g = generation n i ms rest next

  place : IsPermutation q (map equated_of (map pair_of ms) ++ (flat_map agents_of ms ++ rest))
  place = placed now ms path.stuck xs path.us path.pairs path.agents

  to_whole : OneNet (net_of n i q) (whole g)
  to_whole = net_met laws.going.reach.nets n i ms q rest next given.sound path.known s.named place (omega arith)

  rest_stuck : AllByRecursion (IsStuckPiece p) rest
  rest_stuck =
      all_append (IsStuckPiece p) (map equated_of path.stuck) path.us (stuck_pieces p path.stuck path.stuck_each)
      (all_back (IsStuckPiece p) (flat_map agents_of ms) path.us (all_order (IsStuckPiece p) xs (flat_map agents_of ms ++ path.us) path.agents stuck))

  inert : is_inert rs.rules (without_now g) ≡ true
  inert = pieces_inert rs numbers p n rest given.set given.of_rules rest_stuck

  -- the rest by itself, with the arguments of the pairs in its interface
  abbrev words : List Word
  words = words_of ms ++ i

  aside_counts : (x : ℕ) → occurrences x (configuration_names (net_of n words rest)) ≡ occurrences x (configuration_names (whole g))
  aside_counts x =
      let one = occurrences-append x (flat_map names (map (term n) words)) (flat_map pair_names (equations n rest)) in
      let split = ap (λ (ts : List Tree). occurrences x (flat_map names ts)) (map-append (term n) (words_of ms) i) in
      let apart = ap (occurrences x) (flat_parts names (map (term n) (words_of ms)) (map (term n) i)) ∙ occurrences-append x (flat_map names (map (term n) (words_of ms))) (flat_map names (map (term n) i)) in
      let pairs = tops_names n ms x in
      let other = occurrences-append x (flat_map names (map (term n) i)) (flat_map pair_names (tops n ms ++ equations n rest)) in
      let both = ap (occurrences x) (flat_parts pair_names (tops n ms) (equations n rest)) ∙ occurrences-append x (flat_map pair_names (tops n ms)) (flat_map pair_names (equations n rest)) in
      omega (arith, one, split, apart, pairs, other, both)

  aside_names : HasNames (net_of n words rest)
  aside_names = record {
    below = above_each (names_in (map (term n) words) (equations n rest));
    twice = λ x. let same = aside_counts x in let two = to_whole.names_too.twice x in omega (arith, same, two);
  }

  aside_pieces : AreNetPieces n.arities words rest
  aside_pieces = record {
    each = parts_are n q (map equated_of (map pair_of ms)) (flat_map agents_of ms) rest s.pieces.each place;
    separate = record {
      each = λ w tag.
          let heads = map equated_of (map pair_of ms) in
          let few = s.pieces.separate.each w tag in
          let u = sum_by-IsPermutation (uses w) q (heads ++ (flat_map agents_of ms ++ rest)) place in
          let r = sum_by-IsPermutation (room w) q (heads ++ (flat_map agents_of ms ++ rest)) place in
          let u_one = sum_by-append (uses w) heads (flat_map agents_of ms ++ rest) in
          let r_one = sum_by-append (room w) heads (flat_map agents_of ms ++ rest) in
          let u_two = sum_by-append (uses w) (flat_map agents_of ms) rest in
          let r_two = sum_by-append (room w) (flat_map agents_of ms) rest in
          let none = equated_room w (map pair_of ms) in
          let rooms = met_rooms w ms in
          let used = words_used w ms in
          let counts : count w words ≡ count w (words_of ms) + count w i = sum_by-append (λ v. cond (word_eq w v) 1 0) (words_of ms) i in
          omega (arith, few, u, r, u_one, r_one, u_two, r_two, none, rooms, used, counts);
    };
    once = λ w.
        let heads = map equated_of (map pair_of ms) in
        let one = s.pieces.once w in
        let h = sum_by-IsPermutation (holds w) q (heads ++ (flat_map agents_of ms ++ rest)) place in
        let h_one = sum_by-append (holds w) heads (flat_map agents_of ms ++ rest) in
        let h_two = sum_by-append (holds w) (flat_map agents_of ms) rest in
        omega (arith, one, h, h_one, h_two);
  }

  aside_free : (x : ℕ) → (occurrences x (configuration_names (net_of n words rest)) ≡ 1) ↔ ((j : ℕ) × (slice_get n.given j ≡ Some x))
  aside_free x =
      let same = aside_counts x in
      let net = laws.free (net_of n i q) (whole g) to_whole x in (
        (λ once. (free x).0 (net.1 (sym same ∙ once))),
        (λ found. same ∙ net.0 ((free x).1 found)),
      )

  aside_over : is_over rs.symbols (whole g) ≡ true → is_over rs.symbols (net_of n words rest) ≡ true
  aside_over over =
      let ss = rs.symbols in
      let all = and_parts (list_all (is_tree_over ss) (map (term n) i)) (list_all (is_pair_over ss) (tops n ms ++ equations n rest)) over in
      let both = and_parts (list_all (is_pair_over ss) (tops n ms)) (list_all (is_pair_over ss) (equations n rest)) (sym (list_all-append (is_pair_over ss) (tops n ms) (equations n rest)) ∙ all.1) in
      let own = words_over ss n ms both.0 in
      let terms = ap (list_all (is_tree_over ss)) (map-append (term n) (words_of ms) i) ∙ list_all-append (is_tree_over ss) (map (term n) (words_of ms)) (map (term n) i) in
      and_both (terms ∙ (rw (own, all.0) refl)) both.1

  -- what the whole settles to, in which no other equation is active
  settles : (d : Configuration) × NameSteps (whole g) d × ((f : Configuration) → NameStep d f → ⊥) × (length (active_equations rs.rules d) ≡ length (active_equations rs.rules (whole g)))
  settles =
      let quiet = quiet_net laws.going.reach.nets rs numbers p n words rest given.set given.of_rules given.sound aside_pieces aside_names rest_stuck aside_free in
      let e = quiet.0 in
      let net = quiet.1 in
      let still : (f : Configuration) → NameStep e f → ⊥ = λ f step. quiet.2 f (name_step rs.rules e f step) in
      let end = net.end in
      let over_end = none_made e net.end_too still net.steps_too in
      let same : SameButNext end e = transport (SameButNext end) over_end net.same in
      let named_end = steps_named (net_of n words rest) end aside_names net.steps in
      let settled_end : (f : Configuration) → NameStep end f → ⊥ = λ f step. settled_as laws end e f named_end same still step in
      let inert_e = (and_parts (is_inert rs.rules e) (is_settled e) (is_quiet_where rs.rules e quiet.2)).0 in
      let start = laws.going.start rs (net_of n i q) s.named in
      let over_g = laws.going.reach.over rs (net_of n i q) (whole g) [] given.set s.over s.named (laws.going.reach.net rs (net_of n i q) (net_of n i q) (whole g) [] start to_whole) in
      let over_aside = aside_over over_g in
      let over : is_over rs.symbols end ≡ true = steps_over rs (net_of n words rest) end given.set over_aside net.steps in
      let moved = laws.rules rs end e given.set over named_end same in
      let none = none_left (rules_of rs.rules end.equations) (transport (IsPermutation (rules_of rs.rules end.equations)) (none_active rs.rules e.equations inert_e) moved) in
      let inert_end = all_inert rs.rules end.equations none in
      let face : map (term n) words ≡ arguments_in (tops n ms) ++ map (term n) i = map-append (term n) (words_of ms) i ∙ ap (λ ts. ts ++ map (term n) i) (sym (tops_arguments n ms)) in
      let steps : NameSteps (record { interface = arguments_in (tops n ms) ++ map (term n) i; equations = equations n rest; next = next }) (record end { next = next }) =
      transport (λ (ts : List Tree). NameSteps (record { interface = ts; equations = equations n rest; next = next }) (record end { next = next })) face (at_any next (net_of n words rest) end net.steps) in
      let lifted = laws.elsewhere rs (map (term n) i) (tops n ms) (equations n rest) next (record end { next = next }) (tops_agents n ms) steps (none_at_any next end settled_end) inert_end in
      (lifted.0, lifted.1, lifted.2, lifted.3 ∙ sym (count_first rs.rules (tops n ms) (equations n rest) inert))

  pub round_of : (d : Configuration) → OneNet (net_of n i q) d → ((f : Configuration) → NameStep d f → ⊥)
      → OneNet (round rs.rules d) (net_of n i ys) × IsPermutation (map (rule_number numbers) fired) (rules_of rs.rules d.equations)
  round_of d net none =
      let nets = laws.going.reach.nets in
      let goes = path.goes next (omega arith) in
      let h = goes.0 in
      let rules = map (rule_number numbers) fired in
      let start = laws.going.start rs (net_of n i q) s.named in
      let over_g = laws.going.reach.over rs (net_of n i q) (whole g) [] given.set s.over s.named (laws.going.reach.net rs (net_of n i q) (net_of n i q) (whole g) [] start to_whole) in
      let named_g = to_whole.names_too in
      let all = nets.through (whole g) (net_of n i q) d (laws.going.other_way (net_of n i q) (whole g) to_whole) net in
      let x = all.end in
      let over_end = none_made d all.end_too none all.steps_too in
      let same : SameButNext x d = transport (SameButNext x) over_end all.same in
      let named_x = steps_named (whole g) x named_g all.steps in
      let settled_x : (f : Configuration) → NameStep x f → ⊥ = λ f step. settled_as laws x d f named_x same none step in
      let c = settles.0 in
      let one = laws.ends (whole g) c x named_g settles.1 all.steps settles.2 settled_x in
      let but = laws.in_turn c x d (laws.same c x one) same in
      let made = laws.round rs rules g h c d given.set over_g named_g inert goes.1 goes.2 settles.1 settles.3 but all.names_too in
      let empty : whole h ≡ without_now h = λ j. record { interface = h.interface; equations = goes.2 j ++ h.rest; next = h.next } in
      let last = transport (λ z. OneNet (round rs.rules d) z) empty made.0 in
      (nets.through (round rs.rules d) (without_now h) (net_of n i ys) last goes.3, made.1)

-- ---- generations one after another

pub first_round : (rs : List Rule) (k : ℕ) (c : Configuration) → iterate rs k (round rs c) ≡ iterate rs (suc k) c
first_round rs zero c = refl
first_round rs (suc k) c = ap (round rs) (first_round rs k c)

-- the names that occur once are those that were given
abbrev pub AreGiven : Numbers → Configuration → Type 0
AreGiven n c = (x : ℕ) → (occurrences x (configuration_names c) ≡ 1) ↔ ((j : ℕ) × (slice_get n.given j ≡ Some x))

pub given_through : (n : Numbers) (c d : Configuration) → ((x : ℕ) → (occurrences x (configuration_names c) ≡ 1) ↔ (occurrences x (configuration_names d) ≡ 1)) → AreGiven n c → AreGiven n d
given_through n c d same free x = ((λ once. (free x).0 ((same x).1 once)), (λ found. (same x).0 ((free x).1 found)))

-- what one generation of pairs makes, and what its pieces keep
pub record OneRound (rs : Rules) (numbers : List ℕ) (n : Numbers) (i : List Word) (fired : List ℕ) (ys : List Piece) (d : Configuration) : Type 0 where
  pub net : OneNet (round rs.rules d) (net_of n i ys)
  pub rules : IsPermutation (map (rule_number numbers) fired) (rules_of rs.rules d.equations)
  pub stands : Stands rs n i ys
  pub free : AreGiven n (net_of n i ys)

pub one_round : RoundLaws → (rs : Rules) (numbers : List ℕ) (p : Plans) (n : Numbers) (i : List Word) (now : List Equation) (fired : List ℕ) (xs ys : List Piece) (d : Configuration) → Plain rs numbers p n
    → Stands rs n i (map equated_of now ++ xs) → AreGiven n (net_of n i (map equated_of now ++ xs))
    → AllByRecursion (IsStuckPiece p) xs → Takes p now [] fired xs ys → OneNet (net_of n i (map equated_of now ++ xs)) d → ((f : Configuration) → NameStep d f → ⊥) → OneRound rs numbers n i fired ys d
one_round laws rs numbers p n i now fired xs ys d given s free stuck takes net none =
    let path = path_of laws.going rs numbers p n i now [] fired xs ys given refl s takes in
    let made = round_of laws rs numbers p n i now fired xs ys given s path.0 stuck free d net none in
    let q = map equated_of now ++ xs in
    let c = net_of n i q in
    let reached = steps_reach laws.going.reach rs numbers p n c i fired q ys [] given.set s.over s.named given.plans given.of_rules given.sound given.same s.pieces.separate s.pieces.each (laws.going.start rs c s.named) path.1 in
    record {
      net = made.0;
      rules = made.1;
      stands = stands_on laws.going rs numbers p n i fired q ys given s path.1;
      free = given_through n c (net_of n i ys) (laws.free_reached rs c (net_of n i ys) (map (rule_number numbers) fired) given.set s.over s.named reached) free;
    }
