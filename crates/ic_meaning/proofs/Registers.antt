-- Lemmas: what registers hold, as terms.
use Rattle.std.proofs.Common.{◌≡◌, ℕ, zero, suc, ◌+◌, ◌-◌, ◌≤◌, ◌<◌, List, [], ◌∷◌, ◌++◌, Bool, true, false, cond, Some, length, map, nat_lt, slice_get, refl, sym, ap, ◌∙◌, arith, zero-add, inl, inr}
use Rattle.std.proofs.lemmas.Bool.{lt-ltb, le-ltb, cases_lt}
use Rattle.std.proofs.lemmas.List.{get_or-append-add}
use Rattle.std.proofs.lemmas.List.FromFn.{length-map-range_with_len, get_or-map-range_with_len}
use Rattle.std.proofs.lemmas.List.Sums.{sum_by-cons}
use Rattle.std.proofs.Math.ListN.{get_or-append}
use Rattle.std.specs.List.{flat_map, AllByRecursion}
use Rattle.ic_term.specs.Tree.{Tree, agent, no_trees, names}
use Rattle.ic_term.specs.Configuration.{occurrences, one_above}
use Rattle.ic_settle.specs.lemmas.SubstitutionLaws.{occurrences-append}
use Rattle.ic_arena.specs.declared.word.Word.{Word}
use Rattle.ic_arena.specs.Word.{name_word, agent_word, word_eq, count}
use Rattle.ic_arena.specs.Tables.{register}
use Rattle.ic_machine.specs.Plan.{constants}
use Rattle.ic_machine.specs.Separate.{is_constant_tag}
use Rattle.ic_meaning.specs.Words.{Numbers, AreNumbers, term}
use Rattle.ic_meaning.specs.lemmas.Terms.{same_word, word_itself, word_names, constant_term}

-- ---- words in a list

pub register_back : (xs ys : List Word) (i : ℕ) → register (xs ++ ys) (length xs + i) ≡ register ys i
register_back xs ys i = get_or-append-add xs ys i (name_word 0)

pub register_front : (xs ys : List Word) (i : ℕ) → i < length xs → register (xs ++ ys) i ≡ register xs i
register_front xs ys i low = get_or-append xs ys (name_word 0) i low

pub register_past : (ws : List Word) (i : ℕ) → length ws ≤ i → register ws i ≡ name_word 0
register_past [] i high = refl
register_past (w ∷ ws) zero high = absurd (omega arith)
register_past (w ∷ ws) (suc i) high = register_past ws i (omega arith)

pub counted : (w : Word) (ws : List Word) (i : ℕ) → i < length ws → word_eq w (register ws i) ≡ true → 1 ≤ count w ws
counted w [] i low is = absurd (omega arith)
counted w (v ∷ ws) zero low is =
    let first : count w (v ∷ ws) ≡ cond (word_eq w v) 1 0 + count w ws = sum_by-cons (λ u. cond (word_eq w u) 1 0) v ws in
    let here : ◌≡◌ {A = ℕ} (cond (word_eq w v) 1 0) 1 = rw is refl in
    omega arith
counted w (v ∷ ws) (suc i) low is =
    let first : count w (v ∷ ws) ≡ cond (word_eq w v) 1 0 + count w ws = sum_by-cons (λ u. cond (word_eq w u) 1 0) v ws in
    let rest = counted w ws i (omega arith) is in
    omega arith

-- a word that is there once is at one place
pub once_at : (w : Word) (ws : List Word) (i j : ℕ) → count w ws ≤ 1 → i < length ws → j < length ws
    → word_eq w (register ws i) ≡ true → word_eq w (register ws j) ≡ true → i ≡ j
once_at w [] i j once li lj ei ej = absurd (omega arith)
once_at w (v ∷ ws) zero zero once li lj ei ej = refl
once_at w (v ∷ ws) zero (suc j) once li lj ei ej =
    let first : count w (v ∷ ws) ≡ cond (word_eq w v) 1 0 + count w ws = sum_by-cons (λ u. cond (word_eq w u) 1 0) v ws in
    let here : ◌≡◌ {A = ℕ} (cond (word_eq w v) 1 0) 1 = rw ei refl in
    let rest = counted w ws j (omega arith) ej in
    absurd (omega arith)
once_at w (v ∷ ws) (suc i) zero once li lj ei ej =
    let first : count w (v ∷ ws) ≡ cond (word_eq w v) 1 0 + count w ws = sum_by-cons (λ u. cond (word_eq w u) 1 0) v ws in
    let here : ◌≡◌ {A = ℕ} (cond (word_eq w v) 1 0) 1 = rw ej refl in
    let rest = counted w ws i (omega arith) ei in
    absurd (omega arith)
once_at w (v ∷ ws) (suc i) (suc j) once li lj ei ej =
    let first : count w (v ∷ ws) ≡ cond (word_eq w v) 1 0 + count w ws = sum_by-cons (λ u. cond (word_eq w u) 1 0) v ws in
    ap suc (once_at w ws i j (omega arith) (omega arith) (omega arith) ei ej)

pub all_at : (P : Word → Type 0) (ws : List Word) (i : ℕ) → i < length ws → AllByRecursion P ws → P (register ws i)
all_at P [] i low all = absurd (omega arith)
all_at P (w ∷ ws) zero low all = all.0
all_at P (w ∷ ws) (suc i) low all = all_at P ws i (omega arith) all.1

-- the number of a place is below one above all of them
pub place_below : (f : Word → ℕ) (ws : List Word) (i : ℕ) → i < length ws → f (register ws i) < one_above (map f ws)
place_below f [] i low = absurd (omega arith)
place_below f (w ∷ ws) zero low = omega arith
place_below f (w ∷ ws) (suc i) low = let rest = place_below f ws i (omega arith) in omega arith

-- the names of one word's term are among those of all
pub register_names : (n : Numbers) (x : ℕ) (ws : List Word) (i : ℕ) → i < length ws
    → occurrences x (names (term n (register ws i))) ≤ occurrences x (flat_map names (map (term n) ws))
register_names n x [] i low = absurd (omega arith)
register_names n x (w ∷ ws) zero low =
    let parts = occurrences-append x (names (term n w)) (flat_map names (map (term n) ws)) in omega arith
register_names n x (w ∷ ws) (suc i) low =
    let parts = occurrences-append x (names (term n w)) (flat_map names (map (term n) ws)) in
    let rest = register_names n x ws i (omega arith) in omega arith

-- ---- registers

-- what registers hold: first the agents without arguments
abbrev pub held_in : Numbers → List Word → ℕ → Tree
held_in n rs k = cond (nat_lt k (length n.arities)) (agent k no_trees) (term n (register rs k))

abbrev pub registers_of : Numbers → List Word → List Word
registers_of n later = constants (length n.arities) ++ later

pub held_constant : (n : Numbers) (rs : List Word) (s : ℕ) → s < length n.arities → held_in n rs s ≡ agent s no_trees
held_constant n rs s low = rw (lt-ltb s (length n.arities) low) refl

pub held_word : (n : Numbers) (rs : List Word) (k : ℕ) → length n.arities ≤ k → held_in n rs k ≡ term n (register rs k)
held_word n rs k high = rw (le-ltb k (length n.arities) high) refl

constants_length : (count : ℕ) → length (constants count) ≡ count
constants_length count = length-map-range_with_len (λ s. agent_word s 0) 0 count

pub register_later : (n : Numbers) (later : List Word) (i : ℕ) → register (registers_of n later) (length n.arities + i) ≡ register later i
register_later n later i =
    ap (λ (c : ℕ). register (registers_of n later) (c + i)) (sym (constants_length (length n.arities)))
    ∙ register_back (constants (length n.arities)) later i

pub held_later : (n : Numbers) (later : List Word) (i : ℕ) → held_in n (registers_of n later) (length n.arities + i) ≡ term n (register later i)
held_later n later i =
    held_word n (registers_of n later) (length n.arities + i) (omega arith)
    ∙ ap (term n) (register_later n later i)

pub register_constant : (n : Numbers) (later : List Word) (s : ℕ) → s < length n.arities → register (registers_of n later) s ≡ agent_word s 0
register_constant n later s low =
    let len = constants_length (length n.arities) in
    get_or-append (constants (length n.arities)) later (name_word 0) s (omega arith)
    ∙ get_or-map-range_with_len (λ s. agent_word s 0) 0 (length n.arities) s s (name_word 0) low (zero-add s)

-- a register that may be used holds the term of its word
pub held_is : (n : Numbers) (later : List Word) (k : ℕ) → AreNumbers n → (k < length n.arities → slice_get n.arities k ≡ Some 0)
    → term n (register (registers_of n later) k) ≡ held_in n (registers_of n later) k
held_is n later k sound none = elim (cases_lt k (length n.arities)) [
  | inl low ↦
      ap (term n) (register_constant n later k low)
      ∙ (constant_term n k 0 sound low (none low) ∙ sym (held_constant n (registers_of n later) k low))
  | inr high ↦ sym (held_word n (registers_of n later) k high)
]

-- a place that one register names is in no other register
pub held_elsewhere : (n : Numbers) (later : List Word) (w : Word) (i j : ℕ) → AreNumbers n → is_constant_tag n.arities w.tag ≡ false → (w.tag ≡ 0 → ⊥)
    → count w later ≤ 1 → i < length later → register later i ≡ w → (j ≡ length n.arities + i → ⊥)
    → occurrences (n.of_place w) (names (held_in n (registers_of n later) j)) ≡ 0
held_elsewhere n later w i j sound place tagged once low is other = elim (cases_lt j (length n.arities)) [
  | inl less ↦ ap (λ (t : Tree). occurrences (n.of_place w) (names t)) (held_constant n (registers_of n later) j less)
  | inr high ↦
      let split : length n.arities + (j - length n.arities) ≡ j = omega arith in
      ap (λ (k : ℕ). occurrences (n.of_place w) (names (held_in n (registers_of n later) k))) (sym split)
      ∙ (ap (λ (t : Tree). occurrences (n.of_place w) (names t)) (held_later n later (j - length n.arities))
      ∙ (word_names n (register later (j - length n.arities)) w sound place
      ∙ at (word_eq w (register later (j - length n.arities))) refl high))
]
  where
    at : (b : Bool) → word_eq w (register later (j - length n.arities)) ≡ b → length n.arities ≤ j → ◌≡◌ {A = ℕ} (cond b 1 0) 0
    at false e high = refl
    at true e high = elim (cases_lt (j - length n.arities) (length later)) [
      | inl inside ↦
          let same = once_at w later i (j - length n.arities) once low inside (ap (word_eq w) is ∙ word_itself w) e in
          let differ = other in
          absurd (differ (omega arith))
      | inr past ↦
          let tags = same_word w (register later (j - length n.arities)) e in
          absurd (tagged (ap (λ (v : Word). v.tag) (tags ∙ register_past later (j - length n.arities) past)))
    ]
