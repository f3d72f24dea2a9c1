-- A plan of a rule: it is one for the arguments, and stands for the rule.
use Rattle.std.proofs.Common.{◌≡◌, ◌⊎◌, ℕ, zero, suc, ◌+◌, ◌*◌, ◌≤◌, ◌<◌, ◌==◌, List, [], ◌∷◌, Bool, true, false, cond, Option, None, Some, length, map, slice_get, nat_lt, sum_by, count_by, true≢false, refl, sym, ap, subst, ◌∙◌, arith, inl, inr}
use Rattle.std.specs.Prelude.{Contains, unwrap_or, IsSome, IsPermutation}
use Rattle.std.proofs.lemmas.Option.{none-some, same_Some}
use Rattle.std.proofs.lemmas.Bool.{false≢true, and_parts, ltb-true, ltb-false, lt-ltb, le-ltb}
use Rattle.std.proofs.lemmas.List.Sorted.{IsPermutation-refl}
use Rattle.std.specs.Cmp.{unsigned_Decides}
use Rattle.std.proofs.lemmas.List.{length-map}
use Rattle.std.proofs.lemmas.List.Sums.{sum_by-cons}
use Rattle.std.proofs.lemmas.List.Concat.{flat_map-append}
use Rattle.std.specs.List.{flat_map, list_all, AllByRecursion}
use Rattle.ic_term.specs.Tree.{Tree, name, agent, no_trees, Pair, nodes, names}
use Rattle.ic_term.specs.Configuration.{occurrences}
use Rattle.ic_term.specs.Symbol.{Symbol, has_arity, is_tree_over}
use Rattle.ic_rules.specs.Rule.{Rule, rule_names}
use Rattle.ic_rules.specs.Renaming.{are_paired}
use Rattle.ic_settle.specs.lemmas.SubstitutionLaws.{All-append, All-front, All-back}
use Rattle.ic_flat.specs.declared.word.Word.{Word}
use Rattle.ic_flat.specs.declared.word.Word.TheVariants.{Name, Agent}
use Rattle.ic_flat.specs.Words.{forest, word_names, is_word_over, tree_words, IsWhole}
use Rattle.ic_flat.specs.lemmas.WordLaws.{forest-words, whole-words}
use Rattle.ic_flat.specs.lemmas.WordTests.{names-forest, over-forest}
use Rattle.ic_machine.specs.declared.plan.Link.{Link}
use Rattle.ic_machine.specs.Plan.{Made, Planned, IsPlan, allowance, link_operands, operands_of}
use Rattle.ic_meaning.specs.Plans.{Argument, arguments_from, arguments_of, rule_arguments, filled, held_made, HasRegister, HoldConstants, linked_terms, is_read, StandsFor}
use Rattle.ic_plans.specs.inner.Registers.{Registers, found, register_of, AreFreshNames, AreRegisters, links_of, IsPlanFor}
use Rattle.ic_plans.specs.inner.Flattening.{IsRead, times_read, times_made, made_operands, AreFlat, WouldBeFlat}
use Rattle.ic_plans.proofs.FlatLemmas.{count-append, times-below, times-within, times-above, held_below, all_imply}
use Rattle.ic_plans.proofs.RegisterLemmas.{argument_there, arguments-at}
use Rattle.ic_plans.proofs.RuleLemmas.{head_or, tail_of, AreOwn, is_agent, held_agent, links_matched, links-count, own-none, own-there, read-cases, times_own}

-- the register of a name that has one
has_found : (o : Option ℕ) → IsSome o → (s : ℕ) × (o ≡ Some s)
has_found None some = absurd (false≢true some)
has_found (Some s) some = (s, refl)

-- the registers that links use
links-all : (P : ℕ → Type 0) (registers : ℕ → ℕ) (k : ℕ) (ts : List Tree) (os : List ℕ) → ((j : ℕ) → k ≤ j → j < k + length ts → P j)
    → AllByRecursion P os → AllByRecursion P (flat_map link_operands (links_of registers (arguments_from k ts) os))
links-all P registers k [] os own all = tt
links-all P registers k (t ∷ ts) [] own all = tt
links-all P registers k (t ∷ ts) (o ∷ os) own all =
    at (is_read registers (record { register = k; term = t })) (links-all P registers (k + 1) ts os (λ j high low. own j (omega arith) (omega arith)) all.1)
  where
    at : (b : Bool) → AllByRecursion P (flat_map link_operands (links_of registers (arguments_from (k + 1) ts) os)) → AllByRecursion P (flat_map link_operands (cond b (links_of registers (arguments_from (k + 1) ts) os) (record { left = k; right = o } ∷ links_of registers (arguments_from (k + 1) ts) os)))
    at true rest = rest
    at false rest = (own k (omega arith) (omega arith), (all.0, rest))

-- what the constants and all other registers would hold, each register a name of its own
abbrev pub named_all : ℕ → ℕ → Tree
named_all count j = cond (nat_lt j count) (agent j no_trees) (name j)

-- the name that a term is, or 0
abbrev name_in : Tree → ℕ
name_in (name x) = x
name_in (agent s ts) = 0

named-constants : (count : ℕ) → HoldConstants count (named_all count)
named-constants count s low = ap (λ b. cond b (agent s no_trees) (name s)) (lt-ltb s count low)

named-other : (count j : ℕ) → count ≤ j → named_all count j ≡ name j
named-other count j high = ap (λ b. cond b (agent j no_trees) (name j)) (le-ltb j count high)

-- what holds a name is the register of that name
named-is : (count first : ℕ) (made : List Made) (o k : ℕ) → count ≤ k → o < first + length made
    → held_made first made (named_all count) o ≡ name k → o ≡ k
named-is count first made o k high within is = at (nat_lt o first) (nat_lt o count) refl refl
  where
    at : (a b : Bool) → nat_lt o first ≡ a → nat_lt o count ≡ b → o ≡ k
    at false b p q = absurd (true≢false (sym (held_agent first made (named_all count) o (ltb-false o first p) within) ∙ ap is_agent is))
    at true true p q =
        let here = sym (held_below first made (named_all count) o (ltb-true o first p)) ∙ is in
        absurd (true≢false (sym (ap is_agent (named-constants count o (ltb-true o count q))) ∙ ap is_agent here))
    at true false p q =
        let here = sym (held_below first made (named_all count) o (ltb-true o first p)) ∙ is in
        ap name_in (sym (named-other count o (ltb-false o count q)) ∙ here)

-- a name that is read from its own register has that as its operand
own_operands : (count first : ℕ) (made : List Made) (registers : ℕ → ℕ) (k : ℕ) (ts : List Tree) (os : List ℕ) → count ≤ k
    → AllByRecursion (λ o. o < first + length made) os
    → map (held_made first made (named_all count)) os ≡ map (filled (λ x. named_all count (registers x))) ts
    → AreOwn registers (arguments_from k ts) os
own_operands count first made registers k [] [] high within terms = tt
own_operands count first made registers k (t ∷ ts) (o ∷ os) high within terms =
    (own t (ap (head_or t) terms), own_operands count first made registers (k + 1) ts os (omega arith) within.1 (ap tail_of terms))
  where
    own : (t : Tree) → held_made first made (named_all count) o ≡ filled (λ x. named_all count (registers x)) t
        → is_read registers (record { register = k; term = t }) ≡ true → o ≡ k
    own (name x) is read =
        let same : registers x ≡ k = (unsigned_Decides (registers x) k).0 read in
        named-is count first made o k high within.0 (is ∙ ap (named_all count) same ∙ named-other count k high)
    own (agent s us) is read = absurd (true≢false (sym read))
own_operands count first made registers k _ _ high within terms = let lengths = ap length terms in absurd (omega arith)

-- each term has a node at least
nodes-some : (t : Tree) → 1 ≤ nodes t
nodes-some (name x) = omega arith
nodes-some (agent s ts) = omega arith

pub length-nodes : (ts : List Tree) → length ts ≤ sum_by nodes ts
length-nodes [] = omega arith
length-nodes (t ∷ ts) = omega (arith, nodes-some t, length-nodes ts, sum_by-cons nodes t ts)

-- each name of a list is below, or twice there
pub each_passes : (p : ℕ → Bool) (ns : List ℕ) → list_all p ns ≡ true → AllByRecursion (λ n. p n ≡ true) ns
each_passes p [] all = tt
each_passes p (n ∷ ns) all = let parts = and_parts (p n) (list_all p ns) all in (parts.0, each_passes p ns parts.1)

-- no name has a register at first
pub none_yet : (start : ℕ) (registers : Registers) → ((x : ℕ) → found registers x ≡ None) → AreRegisters [] start 0 registers
none_yet start registers none = record {
  read = λ x r there. absurd (none-some r (sym (none x) ∙ there));
  apart = λ x y r there other. absurd (none-some r (sym (none x) ∙ there));
  own = λ i s x there. absurd (none-some (record { register = s; term = name x }) there);
}

-- ---- words that can be read

pub arity_there : (ss : List Symbol) (s n : ℕ) → has_arity n (slice_get ss s) ≡ true → slice_get (map (λ (s : Symbol). s.arity) ss) s ≡ Some n
arity_there [] s n known = absurd (true≢false (sym known))
arity_there (t ∷ ss) zero n known = ap Some ((unsigned_Decides t.arity n).0 known)
arity_there (t ∷ ss) (suc s) n known = arity_there ss s n known

pub read_words : (ss : List Symbol) (registers : ℕ → ℕ) (first : ℕ) (ws : List Word)
    → AllByRecursion (λ x. (length ss ≤ registers x) × (registers x < first)) (flat_map word_names ws) → list_all (is_word_over ss) ws ≡ true
    → AllByRecursion (IsRead (map (λ s. s.arity) ss) registers first) ws
read_words ss registers first [] names over = tt
read_words ss registers first (Name x ∷ ws) names over =
    let count = length-map ss (λ (s : Symbol). s.arity) in
    let here = names.0 in
    ((omega (arith, here.0), here.1), read_words ss registers first ws names.1 (and_parts true (list_all (is_word_over ss) ws) over).1)
read_words ss registers first (Agent s n ∷ ws) names over =
    let parts = and_parts (has_arity n (slice_get ss s)) (list_all (is_word_over ss) ws) over in
    (arity_there ss s n parts.0, read_words ss registers first ws names parts.1)

-- ---- the plan of a rule

module _ (arities : List ℕ) (r : Rule) (map_of : Registers) (fresh : ℕ) (ws : List Word)
    (regs : AreRegisters (arguments_of (length arities) r) (length arities + length (rule_arguments r)) fresh map_of)
    (all_found : (x : ℕ) → x < r.names → IsSome (found map_of x))
    (fresh_names : AreFreshNames r.names (length arities + length (rule_arguments r)) fresh map_of)
    (below : AllByRecursion (λ x. x < r.names) (flat_map word_names ws))
    (paired : AllByRecursion (λ x. occurrences x (flat_map word_names ws) ≡ 2) (flat_map word_names ws)) where
  abbrev count : ℕ
  count = length arities

  abbrev start : ℕ
  start = length arities + length (rule_arguments r)

  abbrev first : ℕ
  first = length arities + length (rule_arguments r) + fresh

  abbrev registers : ℕ → ℕ
  registers = register_of map_of

  abbrev arguments : List Argument
  arguments = arguments_from (length arities) (rule_arguments r)

  is_found : (x : ℕ) → x < r.names → found map_of x ≡ Some (registers x)
  is_found x low =
      let there = has_found (found map_of x) (all_found x low) in
      there.1 ∙ ap Some (sym (ap (λ o. unwrap_or o 0) there.1))

  read : (x : ℕ) → x < r.names → HasRegister arguments registers start fresh x
  read x low = regs.read x (registers x) (is_found x low)

  apart : (x y : ℕ) → x < r.names → y < r.names → registers x ≡ registers y → x ≡ y
  apart x y low high same = regs.apart x y (registers x) (is_found x low) (is_found y high ∙ ap Some (sym same))

  pub bounds : (x : ℕ) → x < r.names → (count ≤ registers x) × (registers x < first)
  bounds x low = at (read x low)
    where
      at : HasRegister arguments registers start fresh x → (count ≤ registers x) × (registers x < first)
      at (inl p) = (omega (arith, p.0), omega (arith, p.1))
      at (inr q) =
          let place = arguments-at (length arities) (rule_arguments r) q.0 (record { register = registers x; term = name x }) q.1 in
          (omega (arith, place.0), omega (arith, place.0, place.1))

  module _ (made : List Made) (operands : List ℕ) (terms_are : forest ws ≡ rule_arguments r)
      (flat : AreFlat arities (register_of map_of) (length arities + length (rule_arguments r) + fresh) ws made operands) where
    abbrev links : List Link
    links = links_of (register_of map_of) (arguments_from (length arities) (rule_arguments r)) operands

    abbrev plan : Planned
    plan = record { names = fresh; made = made; links = links }

    own : AreOwn registers arguments operands
    own = own_operands count first made registers count (rule_arguments r) operands (omega arith) flat.within
        (flat.terms (named_all count) (named-constants count) ∙ ap (map (filled (λ x. named_all count (registers x)))) terms_are)

    abbrev used_by : ℕ → ℕ
    used_by j = count_by (λ m. m == j) (operands_of plan)

    -- how often a register is used by what is made and linked
    used : (j : ℕ) → count ≤ j
        → used_by j + 2 * times_own registers j arguments
        ≡ times_made count (length (rule_arguments r)) j + (times_read registers j ws + times_made first (length made) j)
    used j high =
        let whole = count-append j (made_operands made) (flat_map link_operands links) in
        let parts = count-append j (made_operands made) operands in
        let linked = links-count registers count (rule_arguments r) operands j own in
        let flatly = flat.used j high in
        omega arith

    cases : (j : ℕ) → (times_read registers j ws ≡ 0) ⊎ ((x : ℕ) × (x < r.names) × (registers x ≡ j) × (times_read registers j ws ≡ 2))
    cases j = read-cases registers r.names j (flat_map word_names ws) below paired apart

    -- no name is read from a register of an agent
    none_made : (j : ℕ) → first ≤ j → times_read registers j ws ≡ 0
    none_made j high = at (cases j)
      where
        at : (times_read registers j ws ≡ 0) ⊎ ((x : ℕ) × (x < r.names) × (registers x ≡ j) × (times_read registers j ws ≡ 2)) → times_read registers j ws ≡ 0
        at (inl none) = none
        at (inr q) = let low = (bounds q.0 q.1).1 in let same = q.2 in absurd (omega arith)

    at_most_two : (j : ℕ) → times_read registers j ws ≤ 2
    at_most_two j = at (cases j)
      where
        at : (times_read registers j ws ≡ 0) ⊎ ((x : ℕ) × (x < r.names) × (registers x ≡ j) × (times_read registers j ws ≡ 2)) → times_read registers j ws ≤ 2
        at (inl none) = omega arith
        at (inr q) = let two = q.3 in omega arith

    -- a register of an argument that a name is read from is that of an argument that is this name
    own_read : (j : ℕ) → j < start → times_read registers j ws ≤ 2 * times_own registers j arguments
    own_read j low = at (cases j)
      where
        by : (x : ℕ) → registers x ≡ j → HasRegister arguments registers start fresh x → 1 ≤ times_own registers j arguments
        by x same (inl p) = absurd (omega (arith, p.0))
        by x same (inr q) = own-there registers j arguments q.0 (record { register = registers x; term = name x }) q.1
            ((unsigned_Decides (registers x) (registers x)).1 refl) same

        at : (times_read registers j ws ≡ 0) ⊎ ((x : ℕ) × (x < r.names) × (registers x ≡ j) × (times_read registers j ws ≡ 2))
            → times_read registers j ws ≤ 2 * times_own registers j arguments
        at (inl none) = omega arith
        at (inr q) = let one = by q.0 q.2 (read q.0 q.1) in let two = q.3 in omega arith

    made_once : (j : ℕ) → first ≤ j → used_by j ≡ times_made first (length made) j
    made_once j high =
        let all = used j (omega arith) in
        let none = own-none registers count (rule_arguments r) j (omega arith) in
        let args = times-above count (length (rule_arguments r)) j (omega arith) in
        let read_none = none_made j high in
        omega arith

    made_within : (j : ℕ) → times_made first (length made) j ≤ 1
    made_within j = at (nat_lt j first) (nat_lt j (first + length made)) refl refl
      where
        at : (a b : Bool) → nat_lt j first ≡ a → nat_lt j (first + length made) ≡ b → times_made first (length made) j ≤ 1
        at true b p q = let e = times-below first (length made) j (ltb-true j first p) in omega arith
        at false true p q = let e = times-within first (length made) j (ltb-false j first p) (ltb-true j (first + length made) q) in omega arith
        at false false p q = let e = times-above first (length made) j (ltb-false j (first + length made) q) in omega arith

    linear : (j : ℕ) → count ≤ j → used_by j ≤ allowance start fresh j
    linear j high = at (nat_lt j start) (nat_lt j (start + fresh)) refl refl
      where
        at : (a b : Bool) → nat_lt j start ≡ a → nat_lt j (start + fresh) ≡ b → used_by j ≤ allowance start fresh j
        at true b p q =
            let low : j < start = ltb-true j start p in
            let all = used j high in
            let args = times-within count (length (rule_arguments r)) j high low in
            let none = times-below first (length made) j (omega arith) in
            let enough = own_read j low in
            let one : allowance start fresh j ≡ 1 = ap (λ c. cond c 1 (cond (nat_lt j (start + fresh)) 2 1)) p in
            omega arith
        at false true p q =
            let low : j < start + fresh = ltb-true j (start + fresh) q in
            let above : start ≤ j = ltb-false j start p in
            let all = used j high in
            let args = times-above count (length (rule_arguments r)) j above in
            let own_none = own-none registers count (rule_arguments r) j above in
            let none = times-below first (length made) j low in
            let few = at_most_two j in
            let two : allowance start fresh j ≡ 2 = (λ i. cond (p i) 1 (cond (q i) 2 1)) in
            omega arith
        at false false p q =
            let above : first ≤ j = ltb-false j (start + fresh) q in
            let all = made_once j above in
            let few = made_within j in
            let one : allowance start fresh j ≡ 1 = (λ i. cond (p i) 1 (cond (q i) 2 1)) in
            omega arith

    -- a fresh name is no argument by itself
    not_alone : (k x : ℕ) → k < fresh → found map_of x ≡ Some (start + k) → ¬ Contains (rule_arguments r) (name x)
    not_alone k x low is there =
        let it = regs.own there.0 (count + there.0) x (argument_there count (rule_arguments r) there.0 (name x) there.1 there.2) in
        let same : it.0 ≡ start + k = same_Some it.0 (start + k) (sym it.1 ∙ is) in
        it.2 ((let h : start ≤ it.0 = omega arith in h), (let h : it.0 < start + fresh = omega arith in h))

    links_within : AllByRecursion (λ k. k < first + length made) (flat_map link_operands links)
    links_within = links-all (λ k. k < first + length made) registers count (rule_arguments r) operands (λ j high low. omega arith) flat.within

    constant : AllByRecursion (λ k. k < count → slice_get arities k ≡ Some 0) (operands_of plan)
    constant = All-append (λ k. k < count → slice_get arities k ≡ Some 0) (made_operands made) (flat_map link_operands links)
        (All-front (λ k. k < count → slice_get arities k ≡ Some 0) (made_operands made) operands flat.constant)
        (links-all (λ k. k < count → slice_get arities k ≡ Some 0) registers count (rule_arguments r) operands (λ j high low small. absurd (omega arith))
        (All-back (λ k. k < count → slice_get arities k ≡ Some 0) (made_operands made) operands flat.constant))

    pub is_plan : IsPlan arities (length (rule_arguments r)) plan
    is_plan = record { made = flat.agents; links = links_within; constant = constant; linear = linear }

    pub stands : StandsFor arities r plan
    stands = record {
      registers = registers;
      read = read;
      apart = apart;
      fresh = λ k low. let it = fresh_names k low in
          (it.0, it.1, ap (λ o. unwrap_or o 0) it.2, (λ there. not_alone k it.0 low it.2 there));
      used = λ k low. made_once (first + k) (omega arith) ∙ times-within first (length made) (first + k) (omega arith) (omega arith);
      equations = λ held holds.
          let same = links_matched registers held (held_made first made held) (λ x. held (registers x)) first count (rule_arguments r) operands (omega arith)
          (λ j low. held_below first made held j low)
          (flat.terms held holds ∙ ap (map (filled (λ x. held (registers x)))) terms_are) in
          let right : List Pair = map (linked_terms (held_made first made held)) links in subst (λ l. IsPermutation l right) (sym same) (IsPermutation-refl right);
    }

    pub plan_for : IsPlanFor arities r plan
    plan_for = record { plan = is_plan; stands = stands }

-- ---- from the words of a rule

pub rule_planned : (ss : List Symbol) (r : Rule) (map_of : Registers) (fresh : ℕ) (ws : List Word) (made : List Made) (operands : List ℕ)
    → ws ≡ flat_map tree_words (rule_arguments r)
    → AreRegisters (arguments_from (length (map (λ s. s.arity) ss)) (rule_arguments r)) (length (map (λ s. s.arity) ss) + length (rule_arguments r)) fresh map_of
    → ((x : ℕ) → x < r.names → IsSome (found map_of x))
    → AreFreshNames r.names (length (map (λ s. s.arity) ss) + length (rule_arguments r)) fresh map_of
    → AllByRecursion (λ x. x < r.names) (rule_names r) → are_paired (rule_names r) ≡ true
    → list_all (is_tree_over ss) (rule_arguments r) ≡ true
    → WouldBeFlat (map (λ s. s.arity) ss) (register_of map_of) (length (map (λ s. s.arity) ss) + length (rule_arguments r) + fresh) ws made operands
    → IsPlanFor (map (λ s. s.arity) ss) r
    (record { names = fresh; made = made; links = links_of (register_of map_of) (arguments_from (length (map (λ s. s.arity) ss)) (rule_arguments r)) operands })
rule_planned ss r map_of fresh ws made operands words regs all_found fresh_names below paired over would =
    let arities : List ℕ = map (λ s. s.arity) ss in
    let terms : forest ws ≡ rule_arguments r = ap forest words ∙ forest-words (rule_arguments r) in
    let names_are : flat_map word_names ws ≡ rule_names r =
    sym (names-forest ws) ∙ ap (flat_map names) terms ∙ flat_map-append names r.left_args r.right_args in
    let each : AllByRecursion (λ x. x < r.names) (flat_map word_names ws) = subst (AllByRecursion (λ x. x < r.names)) (sym names_are) below in
    let twice : AllByRecursion (λ x. occurrences x (flat_map word_names ws) ≡ 2) (flat_map word_names ws) =
    subst (λ l. AllByRecursion (λ x. occurrences x l ≡ 2) l) (sym names_are)
    (all_imply (λ x. (occurrences x (rule_names r) == 2) ≡ true) (λ x. occurrences x (rule_names r) ≡ 2) (rule_names r)
    (λ x e. (unsigned_Decides (occurrences x (rule_names r)) 2).0 e) (each_passes (λ x. occurrences x (rule_names r) == 2) (rule_names r) paired)) in
    let whole : IsWhole ws = subst (λ l. IsWhole l) (sym words) (whole-words (rule_arguments r)) in
    let known : list_all (is_word_over ss) ws ≡ true = sym (over-forest ss ws whole) ∙ ap (list_all (is_tree_over ss)) terms ∙ over in
    let first : ℕ = length arities + length (rule_arguments r) + fresh in
    let counted = length-map ss (λ (s : Symbol). s.arity) in
    let places = all_imply (λ x. x < r.names) (λ x. (length ss ≤ register_of map_of x) × (register_of map_of x < first)) (flat_map word_names ws)
    (λ x low. let b = bounds arities r map_of fresh ws regs all_found fresh_names each twice x low in (omega (arith, b.0, counted), b.1)) each in
    let flat = would (omega arith) (read_words ss (register_of map_of) first ws places known) in
    plan_for arities r map_of fresh ws regs all_found fresh_names each twice made operands terms flat
