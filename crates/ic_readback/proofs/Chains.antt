-- Lemmas: steps one after another.
use Rattle.std.proofs.Common.{◌≡◌, ℕ, zero, suc, ◌+◌, ◌-◌, ◌≤◌, ◌<◌, List, [], ◌∷◌, ◌++◌, length, sum_by, slice_index_or, ap, refl, sym, arith, append_assoc, subst as transport}
use Rattle.std.specs.Prelude.{Contains, IsPermutation}
use Rattle.std.specs.List.{AllByRecursion}
use Rattle.std.proofs.lemmas.List.{length-append}
use Rattle.std.proofs.lemmas.List.Sums.{sum_by-cons}
use Rattle.std.proofs.lemmas.List.Sorted.{IsPermutation-sym, Contains-permutation, sum_by-IsPermutation}
use Rattle.ic_arena.specs.declared.word.Word.{Word}
use Rattle.ic_arena.specs.Piece.{Piece, equated, idle, waits, agent_of}
use Rattle.ic_readback.specs.declared.token.Token.TheVariants.{Name, Agent}
use Rattle.ic_readback.specs.inner.Expanding.{State, state, Step, follow, opened, plain, named, Steps, no_step, one_more}

pub steps_on : (arities : List ℕ) (s t u : State) → Steps arities s t → Steps arities t u → Steps arities s u
steps_on arities s t u (no_step a) later = later
steps_on arities s t u (one_more a b c first rest) later = one_more a b u first (steps_on arities b c u rest later)

pub step_last : (arities : List ℕ) (s t u : State) → Steps arities s t → Step arities t u → Steps arities s u
step_last arities s t u steps last = steps_on arities s t u steps (one_more t u u last (no_step u))

-- the same steps, with other words after those that are put together
abbrev pub with_more : List Word → State → State
with_more zs s = state s.tokens (s.words ++ zs) s.pieces

pub step_more : (arities : List ℕ) (zs : List Word) (s t : State) → Step arities s t → Step arities (with_more zs s) (with_more zs t)
step_more arities zs s t (follow ts x u ws ps qs tag taken) = follow ts x u (ws ++ zs) ps qs tag taken
step_more arities zs s t (opened ts a vs ws ps qs is taken) =
    transport (λ l. Step arities (state ts (a ∷ (ws ++ zs)) ps) (state (ts ++ Agent (a.tag - 1) ∷ []) l qs)) (sym (append_assoc vs ws zs))
    (opened ts a vs (ws ++ zs) ps qs is taken)
step_more arities zs s t (plain ts k w ws ps tag known) = plain ts k w (ws ++ zs) ps tag known
step_more arities zs s t (named ts w ws ps is) = named ts w (ws ++ zs) ps is

pub steps_more : (arities : List ℕ) (zs : List Word) (s t : State) → Steps arities s t → Steps arities (with_more zs s) (with_more zs t)
steps_more arities zs s t (no_step a) = no_step (with_more zs a)
steps_more arities zs s t (one_more a b c first rest) =
    one_more (with_more zs a) (with_more zs b) (with_more zs c) (step_more arities zs a b first) (steps_more arities zs b c rest)

-- ---- how many

-- each word makes a token at least
pub step_tokens : (arities : List ℕ) (s t : State) → Step arities s t → length s.tokens + length s.words ≤ length t.tokens + length t.words
step_tokens arities s t (follow ts x u ws ps qs tag taken) = omega arith
step_tokens arities s t (opened ts a vs ws ps qs is taken) =
    let more = length-append ts (Agent (a.tag - 1) ∷ []) in
    let words = length-append vs ws in
    omega arith
step_tokens arities s t (plain ts k w ws ps tag known) = let more = length-append ts (Agent k ∷ []) in omega arith
step_tokens arities s t (named ts w ws ps is) = let more = length-append ts (Name w ∷ []) in omega arith

pub steps_tokens : (arities : List ℕ) (s t : State) → Steps arities s t → length s.tokens + length s.words ≤ length t.tokens + length t.words
steps_tokens arities s t (no_step a) = omega arith
steps_tokens arities s t (one_more a b c first rest) =
    let here = step_tokens arities a b first in
    let later = steps_tokens arities b c rest in
    omega arith

-- how many words a piece gives, or one
abbrev pub weight : Piece → ℕ
weight (equated l r) = 0
weight (idle x) = 0
weight (waits x u) = 1
weight (agent_of a ws) = length ws

abbrev pub load : State → ℕ
load s = length s.words + sum_by weight s.pieces

pub step_load : (arities : List ℕ) (s t : State) → Step arities s t → load t < load s
step_load arities s t (follow ts x u ws ps qs tag taken) =
    let a = sum_by-IsPermutation weight ps (waits x u ∷ qs) taken in
    let b = sum_by-cons weight (waits x u) qs in
    omega arith
step_load arities s t (opened ts a vs ws ps qs is taken) =
    let d = sum_by-IsPermutation weight ps (agent_of a vs ∷ qs) taken in
    let b = sum_by-cons weight (agent_of a vs) qs in
    let words = length-append vs ws in
    omega arith
step_load arities s t _ = omega arith

-- ---- pieces are taken, and none comes

pub contains_cons : {X : Type 0} (p q : X) (qs : List X) → Contains qs q → Contains (p ∷ qs) q
contains_cons p q qs there = (suc there.0, (let low = there.1 in let h : suc there.0 < length (p ∷ qs) = omega arith in h), there.2)

pub contains_first : {X : Type 0} (p : X) (qs : List X) → Contains (p ∷ qs) p
contains_first p qs = (0, (let h : 0 < length (p ∷ qs) = omega arith in h), refl)

-- what holds of all that a list contains
pub all_contained : {X : Type 0} (P : X → Type 0) (xs : List X) → ((x : X) → Contains xs x → P x) → AllByRecursion P xs
all_contained P [] each = tt
all_contained P (x ∷ xs) each = (each x (contains_first x xs), all_contained P xs (λ y there. each y (contains_cons x y xs there)))

pub after : (ps qs : List Piece) (p q : Piece) → IsPermutation ps (p ∷ qs) → Contains qs q → Contains ps q
after ps qs p q taken there = Contains-permutation (p ∷ qs) ps q (IsPermutation-sym ps (p ∷ qs) taken) (contains_cons p q qs there)

pub step_pieces : (arities : List ℕ) (p : Piece) (s t : State) → Step arities s t → Contains t.pieces p → Contains s.pieces p
step_pieces arities p s t (follow ts x u ws ps qs tag taken) there = after ps qs (waits x u) p taken there
step_pieces arities p s t (opened ts a vs ws ps qs is taken) there = after ps qs (agent_of a vs) p taken there
step_pieces arities p s t _ there = there

pub steps_pieces : (arities : List ℕ) (p : Piece) (s t : State) → Steps arities s t → Contains t.pieces p → Contains s.pieces p
steps_pieces arities p s t (no_step a) there = there
steps_pieces arities p s t (one_more a b c first rest) there = step_pieces arities p a b first (steps_pieces arities p b c rest there)

-- ---- no place is held more often

pub gone : (f : Piece → ℕ) (ps qs : List Piece) (p : Piece) → IsPermutation ps (p ∷ qs) → sum_by f qs + f p ≡ sum_by f ps
gone f ps qs p taken =
    let a = sum_by-IsPermutation f ps (p ∷ qs) taken in
    let b = sum_by-cons f p qs in
    omega arith

pub step_fewer : (arities : List ℕ) (f : Piece → ℕ) (s t : State) → Step arities s t → sum_by f t.pieces ≤ sum_by f s.pieces
step_fewer arities f s t (follow ts x u ws ps qs tag taken) = let all = gone f ps qs (waits x u) taken in omega arith
step_fewer arities f s t (opened ts a vs ws ps qs is taken) = let all = gone f ps qs (agent_of a vs) taken in omega arith
step_fewer arities f s t _ = omega arith

pub steps_fewer : (arities : List ℕ) (f : Piece → ℕ) (s t : State) → Steps arities s t → sum_by f t.pieces ≤ sum_by f s.pieces
steps_fewer arities f s t (no_step a) = omega arith
steps_fewer arities f s t (one_more a b c first rest) =
    let here = step_fewer arities f a b first in
    let later = steps_fewer arities f b c rest in
    omega arith

pub contained_sum : (f : Piece → ℕ) (p : Piece) (ps : List Piece) → Contains ps p → f p ≤ sum_by f ps
contained_sum f p ps there = at ps there.0 there.1 there.2
  where
    at : (ps : List Piece) (k : ℕ) → k < length ps → slice_index_or ps k p ≡ p → f p ≤ sum_by f ps
    at [] k low is = absurd (omega arith)
    at (q ∷ ps) zero low is =
        let parts = sum_by-cons f q ps in
        let same = ap f is in
        omega arith
    at (q ∷ ps) (suc k) low is =
        let parts = sum_by-cons f q ps in
        let rest = at ps k (omega arith) is in
        omega arith
