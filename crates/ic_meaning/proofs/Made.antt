-- Lemmas: agents that are put together, and how often names occur in them.
use Rattle.std.proofs.Common.{◌≡◌, ℕ, suc, ◌+◌, ◌*◌, ◌≤◌, ◌<◌, ◌==◌, List, [], ◌∷◌, ◌++◌, Bool, true, false, cond, length, map, sum_by, count_by, refl, sym, ap, ◌∙◌, arith, append_assoc, subst as transport}
use Rattle.std.proofs.lemmas.Bool.{ne_eqb}
use Rattle.std.proofs.lemmas.List.Sums.{sum_by-cons, sum_by-append}
use Rattle.std.specs.Cmp.{unsigned_Decides}
use Rattle.std.specs.List.{flat_map, AllByRecursion}
use Rattle.ic_term.specs.Tree.{Tree, agent, more_trees, trees_of, names, pair_names}
use Rattle.ic_term.specs.Configuration.{occurrences}
use Rattle.ic_settle.specs.Settling.{subst, subst_all, subst_pair}
use Rattle.ic_settle.specs.lemmas.SubstitutionLaws.{occurrences-append}
use Rattle.ic_machine.specs.declared.plan.Link.{Link}
use Rattle.ic_machine.specs.Plan.{Made, AreMade, link_operands}
use Rattle.ic_meaning.specs.Plans.{held_with, held_made, linked_terms}
use Rattle.ic_settle.specs.lemmas.PutEach.{names_of-trees_of}

-- ---- a term put for a name in what registers hold

subst_trees : (x : ℕ) (u : Tree) (ts : List Tree) → subst_all x u (trees_of ts) ≡ trees_of (map (subst x u) ts)
subst_trees x u [] = refl
subst_trees x u (t ∷ ts) = ap (λ us. more_trees (subst x u t) us) (subst_trees x u ts)

map_after : (f : Tree → Tree) (held : ℕ → Tree) (os : List ℕ) → map f (map held os) ≡ map (λ o. f (held o)) os
map_after f held [] = refl
map_after f held (o ∷ os) = ap (λ ts. f (held o) ∷ ts) (map_after f held os)

subst_with : (x : ℕ) (u : Tree) (k : ℕ) (a b : Tree) (held : ℕ → Tree) → subst x u a ≡ b → (j : ℕ)
    → subst x u (held_with k a held j) ≡ held_with k b (λ o. subst x u (held o)) j
subst_with x u k a b held is j = elim (j == k) as (λ t. subst x u (cond t a (held j)) ≡ cond t b (subst x u (held j))) [
  | true ↦ is
  | false ↦ refl
]

pub subst_made : (x : ℕ) (u : Tree) (k : ℕ) (ms : List Made) (held : ℕ → Tree) (j : ℕ)
    → subst x u (held_made k ms held j) ≡ held_made k ms (λ o. subst x u (held o)) j
subst_made x u k [] held j = refl
subst_made x u k (m ∷ ms) held j =
    let a : Tree = agent m.symbol (trees_of (map held m.operands)) in
    let b : Tree = agent m.symbol (trees_of (map (λ o. subst x u (held o)) m.operands)) in
    let is : subst x u a ≡ b =
    ap (agent m.symbol) (subst_trees x u (map held m.operands) ∙ ap trees_of (map_after (subst x u) held m.operands)) in
    let all : (λ (o : ℕ). subst x u (held_with k a held o)) ≡ held_with k b (λ o. subst x u (held o)) =
    (λ i. λ o. subst_with x u k a b held is o i) in
    subst_made x u (k + 1) ms (held_with k a held) j
    ∙ ap (λ (h : ℕ → Tree). held_made (k + 1) ms h j) all

pub subst_links : (x : ℕ) (u : Tree) (held other : ℕ → Tree) (ls : List Link) → ((j : ℕ) → subst x u (held j) ≡ other j)
    → map (subst_pair x u) (map (linked_terms held) ls) ≡ map (linked_terms other) ls
subst_links x u held other [] is = refl
subst_links x u held other (l ∷ ls) is =
    λ i. record { left = is l.left i; right = is l.right i } ∷ subst_links x u held other ls is i

pub subst_held : (x : ℕ) (u : Tree) (held other : ℕ → Tree) (os : List ℕ) → ((j : ℕ) → subst x u (held j) ≡ other j)
    → map (subst x u) (map held os) ≡ map other os
subst_held x u held other [] is = refl
subst_held x u held other (o ∷ os) is = λ i. is o i ∷ subst_held x u held other os is i

-- ---- how often names occur

-- how often a name occurs in what a register holds
abbrev pub times : ℕ → (ℕ → Tree) → ℕ → ℕ
times x held o = occurrences x (names (held o))

pub held_names : (x : ℕ) (held : ℕ → Tree) (os : List ℕ) → occurrences x (flat_map names (map held os)) ≡ sum_by (times x held) os
held_names x held [] = refl
held_names x held (o ∷ os) =
    let parts = occurrences-append x (names (held o)) (flat_map names (map held os)) in
    let rest = held_names x held os in
    let sum = sum_by-cons (times x held) o os in
    omega arith

pub linked_names : (x : ℕ) (held : ℕ → Tree) (ls : List Link)
    → occurrences x (flat_map pair_names (map (linked_terms held) ls)) ≡ sum_by (times x held) (flat_map link_operands ls)
linked_names x held [] = refl
linked_names x held (l ∷ ls) =
    let both = occurrences-append x (names (held l.left)) (names (held l.right)) in
    let parts = occurrences-append x (names (held l.left) ++ names (held l.right)) (flat_map pair_names (map (linked_terms held) ls)) in
    let rest = linked_names x held ls in
    let one = sum_by-cons (times x held) l.left (l.right ∷ flat_map link_operands ls) in
    let two = sum_by-cons (times x held) l.right (flat_map link_operands ls) in
    omega arith

-- in an interface and equations that are read from registers
abbrev pub read_names : ℕ → (ℕ → Tree) → List Link → List ℕ → ℕ
read_names x held ls os =
    occurrences x (flat_map names (map held os)) + occurrences x (flat_map pair_names (map (linked_terms held) ls))

read_is : (x : ℕ) (held : ℕ → Tree) (ls : List Link) (os : List ℕ)
    → read_names x held ls os ≡ sum_by (times x held) (flat_map link_operands ls ++ os)
read_is x held ls os =
    let a = held_names x held os in
    let b = linked_names x held ls in
    let parts = sum_by-append (times x held) (flat_map link_operands ls) os in
    omega arith

-- each agent that is made, the first of which goes to this register, is used once by what comes after it
abbrev pub UsedFrom : ℕ → List Made → List ℕ → Type 0
UsedFrom k [] rest = Unit {0}
UsedFrom k (m ∷ ms) rest =
    (count_by (λ o. o == k) (flat_map (λ m. m.operands) ms ++ rest) ≡ 1) × UsedFrom (k + 1) ms rest

with_times : (x k : ℕ) (a : Tree) (held : ℕ → Tree) → times x held k ≡ 0 → (o : ℕ)
    → times x (held_with k a held) o ≡ times x held o + cond (o == k) 1 0 * occurrences x (names a)
with_times x k a held none o = at (o == k) refl
  where
    at : (b : Bool) → (o == k) ≡ b → occurrences x (names (cond b a (held o))) ≡ occurrences x (names (held o)) + cond b 1 0 * occurrences x (names a)
    at false e = omega arith
    at true e =
        let same = (unsigned_Decides o k).0 e in
        let here : occurrences x (names (held o)) ≡ 0 = ap (λ j. occurrences x (names (held j))) same ∙ none in
        omega arith

with_sum : (x k : ℕ) (a : Tree) (held : ℕ → Tree) → times x held k ≡ 0 → (os : List ℕ)
    → sum_by (times x (held_with k a held)) os ≡ sum_by (times x held) os + count_by (λ o. o == k) os * occurrences x (names a)
with_sum x k a held none [] = omega arith
with_sum x k a held none (o ∷ os) =
    let here = with_times x k a held none o in
    let rest = with_sum x k a held none os in
    let one = sum_by-cons (times x (held_with k a held)) o os in
    let two = sum_by-cons (times x held) o os in
    let three = sum_by-cons (λ j. cond (j == k) 1 0) o os in
    more (sum_by (times x (held_with k a held)) (o ∷ os)) (times x (held_with k a held) o) (sum_by (times x (held_with k a held)) os)
    (times x held o) (sum_by (times x held) os) (sum_by (times x held) (o ∷ os)) (cond (o == k) 1 0) (count_by (λ j. j == k) os)
    (count_by (λ j. j == k) (o ∷ os)) (occurrences x (names a)) one here rest two three
  where
    more : (s h r t u v c d e w : ℕ) → s ≡ h + r → h ≡ t + c * w → r ≡ u + d * w → v ≡ t + u → e ≡ c + d → s ≡ v + e * w
    more s h r t u v c d e w p q f g l = rw (p, q, f, g, l) (omega arith)

agent_times : (x : ℕ) (held : ℕ → Tree) (s : ℕ) (os : List ℕ)
    → occurrences x (names (agent s (trees_of (map held os)))) ≡ sum_by (times x held) os
agent_times x held s os = ap (occurrences x) (names_of-trees_of (map held os)) ∙ held_names x held os

with_none : (x k : ℕ) (a : Tree) (held : ℕ → Tree) → ((j : ℕ) → k ≤ j → times x held j ≡ 0) → (j : ℕ) → k + 1 ≤ j → times x (held_with k a held) j ≡ 0
with_none x k a held none j high =
    let other : (j == k) ≡ false = ne_eqb j k (λ e. omega arith) in
    ap (λ (b : Bool). occurrences x (names (cond b a (held j)))) other ∙ none j (omega arith)

-- A name that is in no register of an agent yet occurs as often as in what the registers hold that are used.
pub made_names : (x k : ℕ) (ms : List Made) (held : ℕ → Tree) (ls : List Link) (os : List ℕ)
    → UsedFrom k ms (flat_map link_operands ls ++ os) → ((j : ℕ) → k ≤ j → times x held j ≡ 0)
    → read_names x (held_made k ms held) ls os
    ≡ sum_by (times x held) (flat_map (λ m. m.operands) ms ++ (flat_map link_operands ls ++ os))
made_names x k [] held ls os used none = read_is x held ls os
made_names x k (m ∷ ms) held ls os used none =
    let rest : List ℕ = flat_map link_operands ls ++ os in
    let later : List ℕ = flat_map (λ (m : Made). m.operands) ms ++ rest in
    let a : Tree = agent m.symbol (trees_of (map held m.operands)) in
    let before = made_names x (k + 1) ms (held_with k a held) ls os used.1 (with_none x k a held none) in
    let sum = with_sum x k a held (none k (omega arith)) later in
    let own = agent_times x held m.symbol m.operands in
    let once = used.0 in
    let product : count_by (λ o. o == k) later * occurrences x (names a) ≡ occurrences x (names a) = rw once (omega arith) in
    let split : (m.operands ++ flat_map (λ (m : Made). m.operands) ms) ++ rest ≡ m.operands ++ later =
    append_assoc m.operands (flat_map (λ (m : Made). m.operands) ms) rest in
    let parts = ap (sum_by (times x held)) split ∙ sum_by-append (times x held) m.operands later in
    omega arith

-- ---- agents that are used once

below_none : (k : ℕ) (os : List ℕ) (bound : ℕ) → bound ≤ k → AllByRecursion (λ o. o < bound) os → count_by (λ o. o == k) os ≡ 0
below_none k [] bound high all = refl
below_none k (o ∷ os) bound high all =
    let low = all.0 in
    let other : (o == k) ≡ false = ne_eqb o k (λ e. omega arith) in
    let rest = below_none k os bound high all.1 in
    let first = sum_by-cons (λ j. cond (j == k) 1 0) o os in
    let here : ◌≡◌ {A = ℕ} (cond (o == k) 1 0) 0 = rw other refl in
    omega arith

pub used_from : (arities : List ℕ) (k : ℕ) (ms : List Made) (rest : List ℕ) → AreMade arities k ms
    → ((i : ℕ) → i < length ms → count_by (λ o. o == k + i) (flat_map (λ m. m.operands) ms ++ rest) ≡ 1)
    → UsedFrom k ms rest
used_from arities k [] rest made used = tt
used_from arities k (m ∷ ms) rest made used =
    let later : List ℕ = flat_map (λ (m : Made). m.operands) ms ++ rest in
    let split : (m.operands ++ flat_map (λ (m : Made). m.operands) ms) ++ rest ≡ m.operands ++ later =
    append_assoc m.operands (flat_map (λ (m : Made). m.operands) ms) rest in
    let at : (j : ℕ) → k ≤ j → count_by (λ o. o == j) ((m.operands ++ flat_map (λ (m : Made). m.operands) ms) ++ rest) ≡ count_by (λ o. o == j) later =
    (λ j high. let none = below_none j m.operands k high made.0.2 in
    let parts = ap (count_by (λ o. o == j)) split ∙ sum_by-append (λ o. cond (o == j) 1 0) m.operands later in
    omega arith) in
    let first : count_by (λ o. o == k) later ≡ 1 =
    (let same : k + 0 ≡ k = omega arith in
    sym (at k (omega arith)) ∙ transport (λ (j : ℕ). count_by (λ o. o == j) ((m.operands ++ flat_map (λ (m : Made). m.operands) ms) ++ rest) ≡ 1) same (used 0 (omega arith))) in (
      first,
      used_from arities (k + 1) ms rest made.1 (λ i low.
          let same : k + suc i ≡ (k + 1) + i = omega arith in
          sym (at ((k + 1) + i) (omega arith))
          ∙ transport (λ (j : ℕ). count_by (λ o. o == j) ((m.operands ++ flat_map (λ (m : Made). m.operands) ms) ++ rest) ≡ 1) same (used (suc i) (omega arith))),
    )
