-- The pairs of a plan that are pending first.
use Rattle.std.proofs.Common.{◌≡◌, ◌⊎◌, ℕ, zero, suc, ◌+◌, ◌-◌, ◌≤◌, ◌<◌, List, [], ◌∷◌, ◌++◌, Bool, true, false, ◌||◌, ◌&&◌, length, map, take, drop, get_or, nat_le, refl, sym, ap, subst, ◌∙◌, zero-add, arith, inl, inr}
use Rattle.std.specs.List.{flat_map, AllByRecursion}
use Rattle.std.proofs.lemmas.Bool.{false≢true, le-ltb, leb-true, cases_lt}
use Rattle.std.proofs.lemmas.List.{length-append, length-map, length-take-le, get_or-append-add}
use Rattle.std.proofs.lemmas.List.FromFn.{length-map-range_with_len, get_or-map-range_with_len}
use Rattle.std.proofs.Math.ListN.{get_or-append}
use Rattle.ic_arena.specs.declared.word.Word.{Word}
use Rattle.ic_arena.specs.declared.word.TheConstants.{NAME, GIVEN}
use Rattle.ic_arena.specs.Word.{name_word, agent_word}
use Rattle.ic_arena.specs.Tables.{register}
use Rattle.ic_machine.specs.declared.equation.Equation.{Equation}
use Rattle.ic_machine.specs.declared.plan.Link.{Link}
use Rattle.ic_machine.specs.Generations.{IsWithin}
use Rattle.ic_machine.specs.Net.{Net, IsPair}
use Rattle.ic_machine.specs.Plan.{Made, Planned, Plans, IsPlan, constants, link_operands}
use Rattle.ic_machine.specs.Runs.{Starts, equation_at, first_registers, given_words}
use Rattle.ic_meaning.specs.Plans.{first_made}
use Rattle.ic_meaning.specs.First.{holds_agent, joins_agents, LinksPairsFirst}

-- ---- registers of agents

back : (xs ys : List Word) (i : ℕ) → register (xs ++ ys) (length xs + i) ≡ register ys i
back xs ys i = get_or-append-add xs ys i (name_word 0)

-- agents that are made have the tags of their symbols
made_tag : (ms : List Made) (ws : List Word) → map (λ (w : Word). w.tag) ws ≡ map (λ (m : Made). m.symbol + 1) ms → (i : ℕ) → i < length ws
    → ¬ ((register ws i).tag ≡ NAME)
made_tag ms [] same i low is = absurd (omega arith)
made_tag [] (w ∷ ws) same i low is = absurd (let short : suc (length (map (λ (v : Word). v.tag) ws)) ≡ 0 = ap length same in omega arith)
made_tag (m ∷ ms) (w ∷ ws) same zero low is =
    let first : w.tag ≡ m.symbol + 1 = ap (λ (l : List ℕ). get_or l 0 0) same in
    absurd (omega (arith, first, is))
made_tag (m ∷ ms) (w ∷ ws) same (suc i) low is = made_tag ms ws (ap (λ (l : List ℕ). drop 1 l) same) i (omega arith) is

-- a name that is given
abbrev given_word : ℕ → Word
given_word i = record { tag = GIVEN; index = i }

-- the word of an agent that is made
made_word : (arities : List ℕ) (given : ℕ) (names made : List Word) (j : ℕ)
    → register (first_registers arities given names made) (length arities + (given + (length names + j))) ≡ register made j
made_word arities given names made j =
    let all = sym (length-map-range_with_len (λ s. agent_word s 0) 0 (length arities)) in
    let few = sym (length-map-range_with_len (λ i. given_word i) 0 given) in
    (λ i. register (first_registers arities given names made) (all i + (few i + (length names + j))))
    ∙ (back (constants (length arities)) (given_words given ++ (names ++ made)) (length (given_words given) + (length names + j))
    ∙ (back (given_words given) (names ++ made) (length names + j) ∙ back names made j))

-- a register that holds an agent holds no name
agent_tag : (arities : List ℕ) (given : ℕ) (p : Planned) (names made : List Word) → length names ≡ p.names
    → map (λ (w : Word). w.tag) made ≡ map (λ (m : Made). m.symbol + 1) p.made → (k : ℕ)
    → holds_agent (length arities) (first_made arities given p) k ≡ true → k < length arities + given + p.names + length p.made
    → ¬ ((register (first_registers arities given names made) k).tag ≡ NAME)
agent_tag arities given p names made count tags k holds low is = at (cases_lt k (length arities))
  where
    at : (k < length arities) ⊎ (length arities ≤ k) → ⊥
    at (inl few) =
        let word : register (first_registers arities given names made) k ≡ agent_word k 0 =
        get_or-append (constants (length arities)) (given_words given ++ (names ++ made)) (name_word 0) k
        (omega (arith, few, length-map-range_with_len (λ s. agent_word s 0) 0 (length arities)))
        ∙ get_or-map-range_with_len (λ s. agent_word s 0) 0 (length arities) k k (name_word 0) few (zero-add k) in
        let tag : (register (first_registers arities given names made) k).tag ≡ k + 1 = ap (λ (w : Word). w.tag) word in
        omega (arith, tag, is)
    at (inr high) =
        let later : nat_le (first_made arities given p) k ≡ true = subst (λ (b : Bool). (b || nat_le (first_made arities given p) k) ≡ true) (le-ltb k (length arities) high) holds in
        let above : first_made arities given p ≤ k = leb-true (first_made arities given p) k later in
        let j = k - first_made arities given p in
        let place : k ≡ length arities + (given + (length names + j)) = omega (arith, above, count) in
        let word = ap (register (first_registers arities given names made)) place ∙ made_word arities given names made j in
        let all : length made ≡ length p.made = sym (length-map made (λ (w : Word). w.tag)) ∙ (ap length tags ∙ length-map p.made (λ (m : Made). m.symbol + 1)) in
        made_tag p.made made tags j (omega (arith, low, above, all)) (sym (ap (λ (w : Word). w.tag) word) ∙ is)

-- ---- pairs

both_true : (a b : Bool) → (a && b) ≡ true → (a ≡ true) × (b ≡ true)
both_true false b e = absurd (false≢true e)
both_true true false e = absurd (false≢true e)
both_true true true e = (refl, refl)

are_pairs : (arities : List ℕ) (given : ℕ) (p : Planned) (names made : List Word) → length names ≡ p.names
    → map (λ (w : Word). w.tag) made ≡ map (λ (m : Made). m.symbol + 1) p.made → (ls : List Link) (n : ℕ)
    → AllByRecursion (λ k. k < length arities + given + p.names + length p.made) (flat_map link_operands ls)
    → AllByRecursion (λ l. joins_agents (length arities) (first_made arities given p) l ≡ true) (take n ls)
    → AllByRecursion (λ l. IsPair (equation_at (first_registers arities given names made) l)) (take n ls)
are_pairs arities given p names made count tags ls zero low joined = tt
are_pairs arities given p names made count tags [] (suc n) low joined = tt
are_pairs arities given p names made count tags (l ∷ ls) (suc n) low joined =
    let sides = both_true (holds_agent (length arities) (first_made arities given p) l.left) (holds_agent (length arities) (first_made arities given p) l.right) joined.0 in (
      (
        agent_tag arities given p names made count tags l.left sides.0 low.0,
        agent_tag arities given p names made count tags l.right sides.1 low.1.0,
      ),
      are_pairs arities given p names made count tags ls n low.1.1 joined.1,
    )

pub pending_first : (given : ℕ) (p : Plans) (plan : Planned) (operands : List ℕ) (n : Net) (pairs : ℕ) → IsPlan p.arities given plan
    → LinksPairsFirst p.arities given plan pairs → (starts : Starts p given plan operands n)
    → (more : List Equation) × (n.pending
    ≡ map (equation_at (first_registers p.arities given starts.begins.names starts.begins.made)) (take pairs plan.links) ++ more)
pending_first given p plan operands n pairs is first starts =
    let begins = starts.begins in
    starts.head pairs (are_pairs p.arities given plan begins.names begins.made begins.names_count begins.made_tags plan.links pairs is.links first.pairs)

pub first_within : (given : ℕ) (p : Plans) (plan : Planned) (operands : List ℕ) (n : Net) (pairs : ℕ) → IsPlan p.arities given plan
    → LinksPairsFirst p.arities given plan pairs → Starts p given plan operands n → IsWithin (record { end = pairs }) n.pending
first_within given p plan operands n pairs is first starts =
    let found = pending_first given p plan operands n pairs is first starts in
    let rs = first_registers p.arities given starts.begins.names starts.begins.made in
    let heads = map (equation_at rs) (take pairs plan.links) in
    let count : length heads ≡ pairs = length-map (take pairs plan.links) (equation_at rs) ∙ length-take-le pairs plan.links first.few in
    let all : length n.pending ≡ length heads + length found.0 = ap length found.1 ∙ length-append heads found.0 in
    omega (arith, count, all)
