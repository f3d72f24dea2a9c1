-- A line that is read so, and what was answered to it.
use Rattle.std.proofs.Common.{false, ◌≡◌, ◌⊎◌, inl, inr, ℕ, List, [], Option, None, Some, Result, Ok, Err, refl, ◌∙◌}
use Rattle.std.specs.Prelude.{IfErr, IfOk, OnErr}
use Rattle.std.specs.Result.{IsErrAnd}
use Rattle.std.specs.Io.KnownBytes.{Keeps}
use Rattle.ic_disk.specs.declared.disk.Disk.{Ghosts}
use Rattle.ic_jobs.specs.Job.{JobParts}
use Rattle.ic_jobs.specs.declared.event.Event.{Event}
use Rattle.ic_commands.specs.LineText.{ReadsLine}
use Rattle.ic_lines.specs.Answers.{Reading, events}
use Rattle.ic_book.specs.declared.book.Book.{Book}
use Rattle.ic_book.specs.Book.{is_broken, table_of, disk_of}
use Rattle.ic_serving.specs.declared.fault.ServeFault.{ServeFault}
use Rattle.ic_serving.specs.declared.fault.ServeFault.TheVariants.{Write, Memory}
use Rattle.ic_serving.specs.Booked.{last_kept, Begins}
use Rattle.ic_serving.specs.Parts.{IsKeptWithin}
use Rattle.ic_serving.specs.Faults.{ComesFor, MayCome}
use Rattle.ic_serving.specs.Served.{SaysOf}
use Rattle.ic_serving.specs.Answered.{IsAnswered, IsBegun}
use Rattle.ic_serving.specs.Moments.{FaultLeaves, Leaves, IsKeptInLine}
use Rattle.ic_serving.specs.inner.Reading.{IsAnsweredAs}
use Rattle.ic_serving.specs.lemmas.Reaching.{SomeWay}
use Rattle.ic_serving.proofs.LineLemmas.{begun_none}
use Rattle.ic_serving.proofs.PageLemmas.{within_none}
use Rattle.ic_serving.proofs.RefusalLemmas.{memory_comes}
use Rattle.ic_serving.proofs.StopLemmas.{kept_in_line}
use Rattle.ic_serving.specs.lemmas.Leaving.{leaves_more}

-- where nothing was done, nothing of some events has come
pub nothing_come : (t kept : List JobParts) (es : List Event) → IsKeptWithin t kept es t
nothing_come t kept es = inr (record { front = []; rest = es; parted = refl; leaves = refl })

pub nothing_begun : {limit : ℕ} {D : Type 0} {ghosts : Ghosts D} (book : Book D ghosts) (es : List Event) → Begins limit es book book
nothing_begun book es =
    let b = begun_none (table_of book) (last_kept book) es (table_of book) (last_kept book) refl (inl refl) in
    record { table = b.0; kept = b.1; page = λ room. within_none es book book (record { start = refl; log = refl }) }

-- a line that can't be read, since memory ran out
pub no_line_begun : {D V : Type 0} {ghosts : Ghosts D} → SomeWay → (limit : ℕ) (book : Book D ghosts) (line : List ℕ) (result : Result V ServeFault) (fault : ServeFault)
    → IsErrAnd result (λ x. x ≡ fault) → fault ≡ Memory → IfErr result (λ f. IsBegun limit line f book book)
no_line_begun law limit book line (Ok v) fault is memory = tt
no_line_begun law limit book line (Err e) fault is memory =
    let equal : e ≡ fault = is in
    let same : e ≡ Memory = equal ∙ memory in
    let r = law line in
    rw same (record { reading = r.0; read = r.1; comes = memory_comes (table_of book) r.0 (table_of book); begun = nothing_begun book (events (table_of book) r.0) })

-- what is said of a reading is so of the line that is read so
pub line_answered : {limit : ℕ} {D : Type 0} {ghosts : Ghosts D} (line bytes : List ℕ) (r : Reading) (old new : Book D ghosts) → ReadsLine line r → IsAnsweredAs limit r bytes old new
    → IsAnswered limit line bytes old new
line_answered line bytes r old new reads is = record {
  reading = r;
  read = reads;
  answer = is.answer;
  table = is.table;
  kept = is.kept;
  whole = is.whole;
  fresh = is.fresh;
  page = is.page;
  done = is.done;
}

pub if_answered : {D V : Type 0} {ghosts : Ghosts D} (limit : ℕ) (line : List ℕ) (r : Reading) (old new : Book D ghosts) (result : Result V ServeFault) (items : V → List ℕ) → ReadsLine line r
    → IfOk result (λ v. IsAnsweredAs limit r (items v) old new) → IfOk result (λ v. IsAnswered limit line (items v) old new)
if_answered limit line r old new (Ok v) items reads is = line_answered line (items v) r old new reads is
if_answered limit line r old new (Err e) items reads is = tt

pub if_begun : {D V : Type 0} {ghosts : Ghosts D} (limit : ℕ) (line : List ℕ) (r : Reading) (old new : Book D ghosts) (result : Result V ServeFault) → ReadsLine line r
    → OnErr result (Begins limit (events (table_of old) r) old new) → IfErr result (ComesFor (table_of old) r (table_of new)) → IfErr result (λ fault. IsBegun limit line fault old new)
if_begun limit line r old new (Ok v) reads begun comes = tt
if_begun limit line r old new (Err e) reads begun comes = record { reading = r; read = reads; comes = comes; begun = begun }

pub leaves_in_line : {D : Type 0} {ghosts : Ghosts D} (line : List ℕ) (r : Reading) (old new : Book D ghosts) → ReadsLine line r
    → Leaves old new (IsKeptWithin (table_of old) (last_kept old) (events (table_of old) r)) → Leaves old new (IsKeptInLine (table_of old) (last_kept old) line)
leaves_in_line line r old new reads run = leaves_more old new (IsKeptWithin (table_of old) (last_kept old) (events (table_of old) r)) (IsKeptInLine (table_of old) (last_kept old) line) run
    (λ u within. kept_in_line (table_of old) (last_kept old) line r u reads within)

-- ---- a line that isn't begun

pub keeps_then : (old mid new : Option (List ℕ)) → Keeps old mid → Keeps mid new → Keeps old new
keeps_then None mid new p q = tt
keeps_then (Some xs) None new p q = absurd p
keeps_then (Some xs) (Some ys) None p q = absurd q
keeps_then (Some xs) (Some ys) (Some zs) p q = q ∙ p

pub says_unbegun : (fault : ServeFault) (t left : List JobParts) (front more : List (List ℕ)) → (fault ≡ Memory) ⊎ (fault ≡ Write) → SaysOf fault t left front more
says_unbegun fault t left front more (inl is) = rw is tt
says_unbegun fault t left front more (inr is) = rw is tt

pub fault_unbegun : {T D : Type 0} {ghosts : Ghosts D} (r : Result T ServeFault) (fault : ServeFault) → IsErrAnd r (λ x. x ≡ fault) → (fault ≡ Memory) ⊎ (fault ≡ Write) → (first book : Book D ghosts)
    → ghosts.failures (disk_of book) ≡ ghosts.failures (disk_of first) → (is_broken first ≡ false → is_broken book ≡ false)
    → FaultLeaves MayCome r first book
fault_unbegun (Ok v) fault is either first book counted ready = absurd is
fault_unbegun (Err e) fault is (inl memory) first book counted ready =
    let equal : e ≡ fault = is in
    let same : e ≡ Memory = equal ∙ memory in
    rw same (record { causes = tt; counted = counted; ready = λ whole. tt; breaks = ready })
fault_unbegun (Err e) fault is (inr write) first book counted ready =
    let equal : e ≡ fault = is in
    let same : e ≡ Write = equal ∙ write in
    rw same (record { causes = tt; counted = counted; ready = λ whole. tt; breaks = ready })
