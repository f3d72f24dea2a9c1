-- What crashes at the moments of a run may leave, and how failures are counted.
-- This project's choice.
use Rattle.std.specs.Prelude.{◌≡◌, ◌⊎◌, ℕ, ◌+◌, ◌-◌, ◌^◌, ◌<◌, ◌≤◌, min, List, Result, MatchResult}

-- What a crash may have left at some moment from t on.
abbrev pub LeftSince : (left : ℕ → List ℕ → Type 0) → ℕ → List ℕ → Type 0
LeftSince left t file = (k : ℕ) × (t ≤ k) × left k file

-- The clock goes on by one at most. What crashes may have left stays possible; since the call
-- began, what a crash in its midst leaves is possible too, and nothing else.
pub record Elapses (before now : ℕ) (old_left new_left : ℕ → List ℕ → Type 0)
    (midst : List ℕ → Type 0) : Type 0 where
  pub later : before ≤ now
  pub one_call : now ≤ before + 1
  pub nothing_else : (t : ℕ) (file : List ℕ) → new_left t file
      → old_left t file ⊎ ((before ≤ t) × midst file)
  pub stays : (t : ℕ) (file : List ℕ) → old_left t file → new_left t file

-- Each file that a crash may leave from `old` to `new` has P. Earlier moments leave no other files
-- than they did.
pub record LeavesOnly {D : Type 0} (clock : D → ℕ) (left : D → ℕ → List ℕ → Type 0)
    (old new : D) (P : List ℕ → Type 0) : Type 0 where
  pub later : clock old ≤ clock new
  pub each : (file : List ℕ) → LeftSince (left new) (clock old) file → P file
  pub before : (t : ℕ) (file : List ℕ) → t < clock old → left new t file → left old t file

-- the count of failures rises by one, or is at its end, 2^64 - 1
abbrev pub OneMore : ℕ → ℕ → Type 0
OneMore old new = ((old < 2 ^ 64 - 1) × (new ≡ old + 1)) ⊎ ((old ≡ 2 ^ 64 - 1) × (new ≡ old))

-- it rises where the call failed, and stays otherwise
abbrev pub CountsFailure : {T E : Type 0} → Result T E → ℕ → ℕ → Type 0
CountsFailure result old new = MatchResult result (λ _. new ≡ old) (λ _. OneMore old new)

-- A call counts as one at most, or as none.
abbrev pub OneCallAtMost : ℕ → ℕ → Type 0
OneCallAtMost before now = now ≤ before + 1

-- how many calls there have been after one more, up to 2^64 - 1
abbrev pub one_call_more : ℕ → ℕ
one_call_more calls = min (calls + 1) (2 ^ 64 - 1)
