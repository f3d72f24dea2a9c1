-- What the writes of a keep leave of a disk, at each moment and at the end.
use Rattle.std.proofs.Common.{◌≡◌, ◌⊎◌, inl, inr, ⊎_elim, ℕ, ◌≤◌, false, List, get_or, sym, subst, arith}
use Rattle.std.proofs.lemmas.Bool.{cases_lt}
use Rattle.ic_disk.specs.Images.{TornFrom, Within, Only}
use Rattle.ic_disk.specs.Time.{LeavesOnly, LeftSince}
use Rattle.ic_disk.specs.lemmas.Moments.{leaves_weaker, then_runs}
use Rattle.ic_kept.specs.Sheet.{IsAfterGate, IsNewest, IsShut, IsOlder, IsBelow}
use Rattle.ic_kept.proofs.SheetLemmas.{gate_torn, after_torn, after_stays, beside_older, shut_older}

-- what is of the only image is of each image
pub of_only : (P : List ℕ → Type 0) (file : List ℕ) (image : List ℕ → Type 0) → Only file image → P file → Within image P
of_only P file image only has c is = subst P (sym (only.no_other c is)) has

-- torn at the gate from images that have it below
pub below_torn : (n : ℕ) (images : List ℕ → Type 0) → Within images (IsBelow n) → Within (TornFrom 0 1 images) (IsBelow n)
below_torn n images all file from = gate_torn n from.0 file (all from.0 from.1) from.2

-- torn after the gate from images that are shut
pub shut_torn : (r m : ℕ) (images : List ℕ → Type 0) → 1 ≤ r → Within images IsShut → Within (TornFrom r m images) IsShut
shut_torn r m images after all file from = after_torn r m from.0 file after (all from.0 from.1) from.2

-- a gate is open, or it isn't
gate_cases : (n : ℕ) → (n ≡ 1) ⊎ ((n ≡ 1) → ⊥)
gate_cases n = ⊎_elim
    (λ low. inr (λ is. omega (arith, low, is)))
    (λ some. ⊎_elim (λ one. inl (omega (arith, some, one))) (λ high. inr (λ is. omega (arith, high, is))) (cases_lt n 2))
    (cases_lt n 1)

-- torn at the gate from images that have a state after it
pub opening_torn : (n : ℕ) (state : List ℕ) (images : List ℕ → Type 0) → Within images (IsAfterGate n state)
    → Within (TornFrom 0 1 images) (λ file. IsShut file ⊎ IsNewest n state file)
opening_torn n state images after file from =
    let stays = after_stays n state from.0 file (after from.0 from.1) from.2 in
    ⊎_elim
    (λ opened. inr (record { opened = opened; after = stays }))
    (λ shut. inl (record { made = omega (arith, stays.within); shut = shut }))
    (gate_cases (get_or file 0 0))

pub below_older : (n : ℕ) (file : List ℕ) → IsBelow n file → IsOlder n file
below_older n file is = beside_older false n file is

module _ {D : Type 0} (content : D → List ℕ) (image : D → List ℕ → Type 0) (clock : D → ℕ) (left : D → ℕ → List ℕ → Type 0) where
  -- what a crash leaves at any moment an image is now
  pub images_after : (old new : D) (P : List ℕ → Type 0) → LeavesOnly clock left old new P
      → ((file : List ℕ) → clock old ≤ clock new → image new file → LeftSince (left new) (clock old) file) → Within (image new) P
  images_after old new P run law file there = run.each file (law file run.later there)

  pub below_run : (n : ℕ) (old new : D) → Within (image old) (IsBelow n) → LeavesOnly clock left old new (TornFrom 0 1 (image old)) → LeavesOnly clock left old new (IsBelow n)
  below_run n old new all run = leaves_weaker clock left old new (TornFrom 0 1 (image old)) (IsBelow n) run (below_torn n (image old) all)

  pub shut_run : (r m : ℕ) (old new : D) → 1 ≤ r → Within (image old) IsShut → LeavesOnly clock left old new (TornFrom r m (image old)) → LeavesOnly clock left old new IsShut
  shut_run r m old new after all run = leaves_weaker clock left old new (TornFrom r m (image old)) IsShut run (shut_torn r m (image old) after all)

  pub opening_run : (n : ℕ) (state : List ℕ) (old new : D) → Within (image old) (IsAfterGate n state) → LeavesOnly clock left old new (TornFrom 0 1 (image old))
      → LeavesOnly clock left old new (λ file. IsShut file ⊎ IsNewest n state file)
  opening_run n state old new after run = leaves_weaker clock left old new (TornFrom 0 1 (image old)) (λ file. IsShut file ⊎ IsNewest n state file) run (opening_torn n state (image old) after)

  -- one run after another
  pub run_then : (old mid new : D) (P : List ℕ → Type 0) → LeavesOnly clock left old mid P → LeavesOnly clock left mid new P → LeavesOnly clock left old new P
  run_then old mid new P first second = then_runs clock left old mid new P P first second (λ file is. is)

  -- while a file is shut, and then while it is opened
  pub shut_then : (n : ℕ) (state : List ℕ) (old mid new : D) → LeavesOnly clock left old mid IsShut → LeavesOnly clock left mid new (λ file. IsShut file ⊎ IsNewest n state file)
      → LeavesOnly clock left old new (λ file. IsShut file ⊎ IsNewest n state file)
  shut_then n state old mid new first second = run_then old mid new (λ file. IsShut file ⊎ IsNewest n state file)
      (leaves_weaker clock left old mid IsShut (λ file. IsShut file ⊎ IsNewest n state file) first (λ file is. inl is)) second

  pub older_run : (n m : ℕ) (state : List ℕ) (old new : D) → LeavesOnly clock left old new (λ file. IsShut file ⊎ IsNewest m state file) → LeavesOnly clock left old new (λ file. IsOlder n file ⊎ IsNewest m state file)
  older_run n m state old new run = leaves_weaker clock left old new (λ file. IsShut file ⊎ IsNewest m state file) (λ file. IsOlder n file ⊎ IsNewest m state file) run
      (λ file is. ⊎_elim (λ shut. inl (shut_older n file shut)) (λ newest. inr newest) is)

  pub closing_run : (n m : ℕ) (state : List ℕ) (old new : D) → LeavesOnly clock left old new (IsBelow n) → LeavesOnly clock left old new (λ file. IsOlder n file ⊎ IsNewest m state file)
  closing_run n m state old new run = leaves_weaker clock left old new (IsBelow n) (λ file. IsOlder n file ⊎ IsNewest m state file) run (λ file is. inl (below_older n file is))
