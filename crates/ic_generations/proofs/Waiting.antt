-- Lemmas: equations of two agents may stand by their arguments in the interface while name steps are taken elsewhere.
use Rattle.std.proofs.Common.{◌≡◌, ◌⊎◌, ℕ, ◌+◌, ◌≤◌, ◌&&◌, List, [], ◌∷◌, ◌++◌, Bool, true, false, cond, Option, None, Some, is_none, is_some, map, refl, sym, ap, ◌∙◌, append_assoc, arith, inl, inr, subst as transport}
use Rattle.std.proofs.lemmas.Bool.{cases_Bool, and_parts}
use Rattle.std.proofs.lemmas.List.{map-append}
use Rattle.std.specs.List.{flat_map, list_all}
use Rattle.ic_term.specs.Tree.{Tree, name, agent, Trees, no_trees, more_trees, list_of, names, names_of, Pair, pair_names}
use Rattle.ic_term.specs.Configuration.{Configuration, names_in, occurrences}
use Rattle.ic_rules.specs.Rule.{Rule}
use Rattle.ic_settle.specs.Settling.{Binding, Binds, occurs, subst, subst_all, subst_pair, subst_in}
use Rattle.ic_settle.specs.NameSteps.{NameStep, NameSteps, no_step, one_more}
use Rattle.ic_settle.specs.lemmas.SubstitutionLaws.{occurrences-append, occurrences_some, and_both}
use Rattle.ic_round.specs.Firing.{Active, oriented, rule_of_sides, active_pair, arguments}
use Rattle.ic_round.specs.lemmas.FiredNames.{names-arguments}
use Rattle.ic_confluence.specs.lemmas.Counts.{in_configuration, in_pair, in_more}
use Rattle.ic_confluence.specs.lemmas.Replacing.{in_both}
use Rattle.ic_generations.specs.Waiting.{is_agent, are_agents, arguments_in}
use Rattle.ic_generations.proofs.Fired.{count_in}
use Rattle.ic_generations.proofs.Settling.{how_many, many-cons, many-append, there_is}

-- ---- their arguments

agent_names : (n : ℕ) (t : Tree) → is_agent t ≡ true → occurrences n (flat_map names (arguments t)) ≡ occurrences n (names t)
agent_names n (name m) is = cc
agent_names n (agent s ts) is = ap (occurrences n) (names-arguments ts)

flat_two : (n : ℕ) (ts us : List Tree) → occurrences n (flat_map names (ts ++ us)) ≡ occurrences n (flat_map names ts) + occurrences n (flat_map names us)
flat_two n [] us = let nothing : occurrences n (flat_map names []) ≡ 0 = refl in omega (arith, nothing)
flat_two n (t ∷ ts) us =
    let rest = flat_two n ts us in
    let all = occurrences-append n (names t) (flat_map names (ts ++ us)) in
    let own = occurrences-append n (names t) (flat_map names ts) in
    omega (arith, rest, all, own)

pairs_names : (n : ℕ) (es : List Pair) → list_all are_agents es ≡ true → occurrences n (flat_map names (arguments_in es)) ≡ count_in n es
pairs_names n [] is = refl
pairs_names n (p ∷ es) is =
    let both = and_parts (are_agents p) (list_all are_agents es) is in
    let sides = and_parts (is_agent p.left) (is_agent p.right) both.0 in
    let left = agent_names n p.left sides.0 in
    let right = agent_names n p.right sides.1 in
    let rest = pairs_names n es both.1 in
    let all = flat_two n (arguments p.left ++ arguments p.right) (arguments_in es) in
    let two = flat_two n (arguments p.left) (arguments p.right) in
    let pair = in_pair n p in
    let more = in_more n p es in
    omega (arith, left, right, rest, all, two, pair, more)

beside_counts : (n : ℕ) (ts : List Tree) (es rest : List Pair) → list_all are_agents es ≡ true
    → occurrences n (names_in (arguments_in es ++ ts) rest) ≡ occurrences n (names_in ts (es ++ rest))
beside_counts n ts es rest is =
    let one = in_configuration n (arguments_in es ++ ts) rest in
    let two = flat_two n (arguments_in es) ts in
    let pairs = pairs_names n es is in
    let other = in_configuration n ts (es ++ rest) in
    let both = in_both n es rest in
    omega (arith, one, two, pairs, other, both)

-- ---- a term put for a name

put_list : (x : ℕ) (t : Tree) (ts : Trees) → map (subst x t) (list_of ts) ≡ list_of (subst_all x t ts)
put_list x t no_trees = refl
put_list x t (more_trees u ts) = ap (λ us. subst x t u ∷ us) (put_list x t ts)

put_arguments : (x : ℕ) (t u : Tree) → is_agent u ≡ true → map (subst x t) (arguments u) ≡ arguments (subst x t u)
put_arguments x t (name m) is = cc
put_arguments x t (agent s ts) is = put_list x t ts

put_is_agent : (x : ℕ) (t u : Tree) → is_agent u ≡ true → is_agent (subst x t u) ≡ true
put_is_agent x t (name m) is = cc
put_is_agent x t (agent s ts) is = refl

put_pairs : (x : ℕ) (t : Tree) (es : List Pair) → list_all are_agents es ≡ true
    → (map (subst x t) (arguments_in es) ≡ arguments_in (map (subst_pair x t) es)) × (list_all are_agents (map (subst_pair x t) es) ≡ true)
put_pairs x t [] is = (refl, refl)
put_pairs x t (p ∷ es) is =
    let both = and_parts (are_agents p) (list_all are_agents es) is in
    let sides = and_parts (is_agent p.left) (is_agent p.right) both.0 in
    let left = put_arguments x t p.left sides.0 in
    let right = put_arguments x t p.right sides.1 in
    let rest = put_pairs x t es both.1 in (
      map-append (subst x t) (arguments p.left ++ arguments p.right) (arguments_in es)
          ∙ ((λ i. map-append (subst x t) (arguments p.left) (arguments p.right) i ++ rest.0 i) ∙ (λ i. (left i ++ right i) ++ arguments_in (map (subst_pair x t) es))),
      and_both (and_both (put_is_agent x t p.left sides.0) (put_is_agent x t p.right sides.1)) rest.1,
    )

found_alike : (l r u v : Tree) (found : Option (ℕ × Bool)) → is_some (oriented l r found) ≡ is_some (oriented u v found)
found_alike l r u v None = refl
found_alike l r u v (Some (i, true)) = refl
found_alike l r u v (Some (i, false)) = refl

put_active : (rs : List Rule) (x : ℕ) (t l r : Tree) → is_agent l ≡ true → is_agent r ≡ true
    → is_some (active_pair rs (record { left = subst x t l; right = subst x t r })) ≡ is_some (active_pair rs (record { left = l; right = r }))
put_active rs x t (name m) r one other = cc
put_active rs x t (agent s ts) (name m) one other = cc
put_active rs x t (agent s ts) (agent z us) one other = found_alike (agent s (subst_all x t ts)) (agent z (subst_all x t us)) (agent s ts) (agent z us) _

put_many : (rs : List Rule) (x : ℕ) (t : Tree) (es : List Pair) → list_all are_agents es ≡ true → how_many rs (map (subst_pair x t) es) ≡ how_many rs es
put_many rs x t [] is = refl
put_many rs x t (p ∷ es) is =
    let both = and_parts (are_agents p) (list_all are_agents es) is in
    let sides = and_parts (is_agent p.left) (is_agent p.right) both.0 in
    let here : ◌≡◌ {A = ℕ} (cond (is_some (active_pair rs (subst_pair x t p))) 1 0) (cond (is_some (active_pair rs p)) 1 0) =
    ap (λ b. cond b 1 0) (put_active rs x t p.left p.right sides.0 sides.1) in
    let rest = put_many rs x t es both.1 in
    let after = many-cons rs (subst_pair x t p) (map (subst_pair x t) es) in
    let before = many-cons rs p es in
    omega (arith, here, rest, after, before)

-- ---- name steps elsewhere

abbrev aside : List Pair → List Tree → List Pair → ℕ → Configuration
aside es ts rest next = record { interface = arguments_in es ++ ts; equations = rest; next = next }

abbrev among : List Pair → List Tree → List Pair → ℕ → Configuration
among es ts rest next = record { interface = ts; equations = es ++ rest; next = next }

record Lifted (rs : List Rule) (start : Configuration) (many next : ℕ) (end : Configuration) : Type 0 where
  pairs : List Pair
  terms : List Tree
  others : List Pair
  is : end ≡ aside pairs terms others next
  agents : list_all are_agents pairs ≡ true
  steps : NameSteps start (among pairs terms others next)
  count : how_many rs pairs ≡ many

lift_one : (rs : List Rule) (start : Configuration) (many next : ℕ) (pairs : List Pair) (terms : List Tree) (others : List Pair) (end : Configuration) → list_all are_agents pairs ≡ true
    → NameSteps start (among pairs terms others next) → how_many rs pairs ≡ many → NameStep (aside pairs terms others next) end → Lifted rs start many next end
lift_one rs start many next pairs terms others end agents steps count s =
    let x = s.bound.name in
    let u = s.bound.term in
    let put = put_pairs x u pairs agents in
    let new_pairs = map (subst_pair x u) pairs in
    let new_terms = map (subst x u) terms in
    let left = s.before ++ s.after in
    let new_others = map (subst_pair x u) left in
    let step : NameStep (among pairs terms others next) (among new_pairs new_terms new_others next) = record {
      before = pairs ++ s.before;
      equation = s.equation;
      after = s.after;
      bound = s.bound;
      place = ap (λ l. pairs ++ l) s.place ∙ sym (append_assoc pairs s.before (s.equation ∷ s.after));
      side = s.side;
      outside = there_is x (names_in terms ((pairs ++ s.before) ++ s.after))
          (let some = occurrences_some x (names_in (arguments_in pairs ++ terms) left) s.outside in
          let same = beside_counts x terms pairs left agents in
          let joined = ap (λ l. occurrences x (names_in terms l)) (append_assoc pairs s.before s.after) in
          omega (arith, some, same, joined)) (cases_Bool (occurs x (names_in terms ((pairs ++ s.before) ++ s.after))));
      result =
          let apart = map-append (subst_pair x u) pairs left in
          let joined = ap (map (subst_pair x u)) (append_assoc pairs s.before s.after) in
          λ i. record { interface = new_terms; equations = (sym apart ∙ sym joined) i; next = next };
    } in
    record {
      pairs = new_pairs;
      terms = new_terms;
      others = new_others;
      is = s.result ∙ (λ i. record { interface = (map-append (subst x u) (arguments_in pairs) terms ∙ ap (λ l. l ++ new_terms) put.0) i; equations = new_others; next = next });
      agents = put.1;
      steps = one_more start (among pairs terms others next) (among new_pairs new_terms new_others next) steps step;
      count = put_many rs x u pairs agents ∙ count;
    }

lift : (rs : List Rule) (ts : List Tree) (es rest : List Pair) (next : ℕ) (c end : Configuration) → list_all are_agents es ≡ true → c ≡ aside es ts rest next → NameSteps c end
    → Lifted rs (among es ts rest next) (how_many rs es) next end
lift rs ts es rest next c end agents is (no_step x) = record { pairs = es; terms = ts; others = rest; is = is; agents = agents; steps = no_step (among es ts rest next); count = refl }
lift rs ts es rest next c end agents is (one_more x y z steps step) =
    let before = lift rs ts es rest next x y agents is steps in
    lift_one rs (among es ts rest next) (how_many rs es) next before.pairs before.terms before.others z before.agents before.steps before.count
    (transport (λ w. NameStep w z) before.is step)

-- ---- at their end

agents_bind : (p : Pair) (b : Binding) → are_agents p ≡ true → Binds p b → ⊥
agents_bind p b is (inl e) =
    let sides = and_parts (is_agent p.left) (is_agent p.right) is in
    let bad : false ≡ true = sym (ap (λ (q : Pair). is_agent q.left) e) ∙ sides.0 in cc
agents_bind p b is (inr e) =
    let sides = and_parts (is_agent p.left) (is_agent p.right) is in
    let bad : false ≡ true = sym (ap (λ (q : Pair). is_agent q.right) e) ∙ sides.1 in cc

-- where an equation stands that is none of two agents
data Stands (es rest before : List Pair) (p : Pair) (after : List Pair) : Type 0 where
  later : (middle : List Pair) → before ≡ es ++ middle → rest ≡ middle ++ p ∷ after → Stands es rest before p after

stands_later : (es rest before : List Pair) (p : Pair) (after : List Pair) (b : Binding) → list_all are_agents es ≡ true → Binds p b → es ++ rest ≡ before ++ p ∷ after → Stands es rest before p after
stands_later [] rest before p after b agents side e = later before refl e
stands_later (q ∷ es) rest [] p after b agents side e =
    let same : q ≡ p = cc in
    absurd (agents_bind p b (transport (λ (z : Pair). are_agents z ≡ true) same (and_parts (are_agents q) (list_all are_agents es) agents).0) side)
stands_later (q ∷ es) rest (r ∷ before) p after b agents side e =
    let same : q ≡ r = cc in
    let tail : es ++ rest ≡ before ++ p ∷ after = cc in
    by same (stands_later es rest before p after b (and_parts (are_agents q) (list_all are_agents es) agents).1 side tail)
  where
    by : q ≡ r → Stands es rest before p after → Stands (q ∷ es) rest (r ∷ before) p after
    by same (later middle front back) = later middle (λ i. sym same i ∷ front i) back

no_more : (es : List Pair) (ts : List Tree) (rest : List Pair) (next : ℕ) (f : Configuration) → list_all are_agents es ≡ true → ((g : Configuration) → NameStep (aside es ts rest next) g → ⊥) → NameStep (among es ts rest next) f → ⊥
no_more es ts rest next f agents none s = by (stands_later es rest s.before s.equation s.after s.bound agents s.side s.place)
  where
    by : Stands es rest s.before s.equation s.after → ⊥
    by (later middle front back) =
        let x = s.bound.name in
        let left = middle ++ s.after in
        none (subst_in x s.bound.term (record { interface = arguments_in es ++ ts; equations = left; next = next })) (record {
          before = middle;
          equation = s.equation;
          after = s.after;
          bound = s.bound;
          place = back;
          side = s.side;
          outside = there_is x (names_in (arguments_in es ++ ts) left)
              (let some = occurrences_some x (names_in ts (s.before ++ s.after)) s.outside in
              let same = beside_counts x ts es left agents in
              let joined = ap (λ l. occurrences x (names_in ts (l ++ s.after))) front in
              let assoc = ap (λ l. occurrences x (names_in ts l)) (append_assoc es middle s.after) in
              omega (arith, some, same, joined, assoc)) (cases_Bool (occurs x (names_in (arguments_in es ++ ts) left)));
          result = refl;
        })

inert_many : (rs : List Rule) (es : List Pair) → list_all (λ p. is_none (active_pair rs p)) es ≡ true → how_many rs es ≡ 0
inert_many rs [] inert = refl
inert_many rs (p ∷ es) inert =
    let both = and_parts (is_none (active_pair rs p)) (list_all (λ q. is_none (active_pair rs q)) es) inert in
    let here = none_counted (active_pair rs p) both.0 in
    let rest = inert_many rs es both.1 in
    let all = many-cons rs p es in
    omega (arith, here, rest, all)
  where
    none_counted : (o : Option Active) → is_none o ≡ true → ◌≡◌ {A = ℕ} (cond (is_some o) 1 0) 0
    none_counted None e = refl
    none_counted (Some a) e = cc

pub settled_beside : (rs : List Rule) (ts : List Tree) (es rest : List Pair) (next : ℕ) (end : Configuration) → list_all are_agents es ≡ true → NameSteps (aside es ts rest next) end
    → ((f : Configuration) → NameStep end f → ⊥) → list_all (λ p. is_none (active_pair rs p)) end.equations ≡ true
    → (d : Configuration) × NameSteps (among es ts rest next) d × ((f : Configuration) → NameStep d f → ⊥) × (how_many rs d.equations ≡ how_many rs es)
settled_beside rs ts es rest next end agents steps none inert =
    let l = lift rs ts es rest next (aside es ts rest next) end agents refl steps in
    let inert_others : list_all (λ p. is_none (active_pair rs p)) l.others ≡ true = ap (λ (c : Configuration). list_all (λ p. is_none (active_pair rs p)) c.equations) (sym l.is) ∙ inert in
    let zero = inert_many rs l.others inert_others in
    let both = many-append rs l.pairs l.others in
    let count = l.count in (
      among l.pairs l.terms l.others next,
      l.steps,
      (λ f s. no_more l.pairs l.terms l.others next f l.agents (λ g t. none g (transport (λ w. NameStep w g) (sym l.is) t)) s),
      omega (arith, zero, both, count),
    )
