use Rattle.ic_frames.specs.declared.faults.OpenCause.{OpenCause}
use Rattle.ic_frames.specs.declared.faults.OpenCause.TheVariants as opening
use Rattle.ic_keeping.specs.declared.fault.KeepingFault.{KeepingFault}
use Rattle.ic_keeping.specs.Life.{RefusesFiles, StopsABegin, StopsAnOpening}
use Rattle.ic_keeping.proofs.Refusing.{run_unopened, run_sound, run_begun, run_no_call}
use Rattle.ic_keeping.specs.declared.fault.KeepingFault.TheVariants as keeping
use Rattle.std.proofs.Common.{◌≡◌, ◌≢◌, ◌⊎◌, inl, inr, refl}
use Rattle.ic_keeping.proofs.laws.what_a_life_tells.Goals as goal

by_none : (fault : KeepingFault) → ◌≢◌ fault (keeping.Open opening.Device) → ◌≢◌ fault (keeping.Open opening.Memory) → ◌≢◌ fault keeping.Memory → StopsAnOpening fault → ⊥
by_none fault one other third (inl is) = one is
by_none fault one other third (inr (inl is)) = other is
by_none fault one other third (inr (inr is)) = third is

by_two : (cause : OpenCause) → StopsAnOpening (keeping.Open cause) → (cause ≡ opening.Device) ⊎ (cause ≡ opening.Memory)
by_two cause (inl is) = inl (let same : cause ≡ opening.Device = cc in same)
by_two cause (inr (inl is)) = inr (let same : cause ≡ opening.Memory = cc in same)
by_two cause (inr (inr is)) = absurd (let never : keeping.Open cause ≡ keeping.Memory = is in cc)

begins_by : (fault : KeepingFault) → ◌≢◌ fault keeping.NotEmpty → ◌≢◌ fault keeping.Device → ◌≢◌ fault keeping.Limit → ◌≢◌ fault keeping.Memory → StopsABegin fault → ⊥
begins_by fault one other third last (inl is) = one is
begins_by fault one other third last (inr (inl is)) = other is
begins_by fault one other third last (inr (inr (inl is))) = third is
begins_by fault one other third last (inr (inr (inr is))) = last is

pub returns-clause-rules : goal.returns-clause-rules
returns-clause-rules c = λ s asked ended is. is.rules

pub returns-clause-line : goal.returns-clause-line
returns-clause-line c = λ s asked ended is. is.line

pub returns-clause-stuck : goal.returns-clause-stuck
returns-clause-stuck c = λ s asked ended is. is.stuck

pub returns-clause-unstuck : goal.returns-clause-unstuck
returns-clause-unstuck c = λ s asked ended is. is.unstuck

pub returns-clause-stops : goal.returns-clause-stops
returns-clause-stops c = (run_sound, run_begun, run_no_call, λ cause stops. run_unopened (keeping.Open cause) stops cause refl)

pub returns-clause-opens : goal.returns-clause-opens
returns-clause-opens c = (
  by_none keeping.Unsound (λ same. cc) (λ same. cc) (λ same. cc),
  by_none keeping.NotEmpty (λ same. cc) (λ same. cc) (λ same. cc),
  by_none keeping.Limit (λ same. cc) (λ same. cc) (λ same. cc),
  by_none keeping.Device (λ same. cc) (λ same. cc) (λ same. cc),
  λ cause. by_none (keeping.Keep cause) (λ same. cc) (λ same. cc) (λ same. cc),
  by_two,
)

files_by : (fault : KeepingFault) → ((cause : OpenCause) → ◌≢◌ fault (keeping.Open cause)) → ◌≢◌ fault keeping.Unsound → ◌≢◌ fault keeping.Memory → RefusesFiles fault → ⊥
files_by fault one other third (inl is) = one is.0 is.1
files_by fault one other third (inr (inl is)) = other is
files_by fault one other third (inr (inr is)) = third is

pub returns-clause-files : goal.returns-clause-files
returns-clause-files c = (
  files_by keeping.NotEmpty (λ cause same. cc) (λ same. cc) (λ same. cc),
  files_by keeping.Limit (λ cause same. cc) (λ same. cc) (λ same. cc),
  files_by keeping.Device (λ cause same. cc) (λ same. cc) (λ same. cc),
  λ keep. files_by (keeping.Keep keep) (λ cause same. cc) (λ same. cc) (λ same. cc),
)

pub returns-clause-begins : goal.returns-clause-begins
returns-clause-begins c = (
  begins_by keeping.Unsound (λ same. cc) (λ same. cc) (λ same. cc) (λ same. cc),
  λ cause. begins_by (keeping.Open cause) (λ same. cc) (λ same. cc) (λ same. cc) (λ same. cc),
  λ cause. begins_by (keeping.Keep cause) (λ same. cc) (λ same. cc) (λ same. cc) (λ same. cc),
)
