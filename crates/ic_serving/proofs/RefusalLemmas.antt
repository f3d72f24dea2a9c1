-- What a refusal of a book says, where a call hands it on.
use Rattle.std.proofs.Common.{◌≡◌, ◌≢◌, ◌⊎◌, ◌↔◌, ◌<◌, inl, inr, Bool, true, false, ℕ, Result, Ok, Err, List, [], length, refl, sym, ap, subst, ◌∙◌, arith}
use Rattle.std.specs.Prelude.{IfErr, IsErrOf, OnOk}
use Rattle.std.specs.Result.{IsErrAnd}
use Rattle.ic_disk.specs.declared.disk.Disk.{Ghosts}
use Rattle.ic_jobs.specs.Job.{JobParts}
use Rattle.ic_slots.specs.declared.keeper.Keeper.{Keeper}
use Rattle.ic_slots.specs.Keeper as keeper_parts
use Rattle.ic_lines.specs.declared.buffer.LineFault.{LineFault}
use Rattle.ic_lines.specs.declared.buffer.LineFault.TheVariants as line_fault
use Rattle.ic_lines.specs.Turns.{turns}
use Rattle.ic_lines.specs.Answers.{Reading}
use Rattle.ic_commands.specs.declared.line.Line.TheVariants.{Blank, Command, Run}
use Rattle.ic_jobs.specs.declared.command.Command.{Command as Asked}
use Rattle.ic_text.specs.declared.fault.TextFault.{TextFault}
use Rattle.ic_book.specs.declared.book.Book.{Book}
use Rattle.ic_book.specs.declared.fault.BookFault.{BookFault}
use Rattle.ic_book.specs.declared.fault.BookFault.TheVariants as of_book
use Rattle.ic_book.specs.Book.{is_broken, log_of, kept_of, keeper_of}
use Rattle.ic_book.specs.Calls.{TellsBroken, TellsWorn}
use Rattle.ic_serving.specs.declared.fault.ServeFault.{ServeFault}
use Rattle.ic_serving.specs.declared.fault.ServeFault.TheVariants.{Write, Book as by_book, Memory}
use Rattle.ic_serving.specs.Booked.{IsAllKept}
use Rattle.ic_serving.specs.Parts.{IsBeforeRound}
use Rattle.ic_serving.specs.Faults.{ComesBroken, ComesFor, ComesInLine, ComesUnmade, ComesWithoutRound, StaysReady, fault_of_line}

pub not_true : (b : Bool) → ¬ (b ≡ true) → b ≡ false
not_true true other = absurd (other refl)
not_true false other = refl

-- ---- exactly when it comes

same_of : {T E : Type 0} (a b : E) → IsErrOf {T = T} (Err a) b → a ≡ b
same_of a b is = cc

-- a refusal of the book comes exactly where this holds, and so does the fault that it becomes
pub err_told : {T U : Type 0} (r : Result T ServeFault) (f b : BookFault) (P : Type 0) → IsErrAnd r (λ x. x ≡ by_book f)
    → (IsErrOf {T = U} (Err f) b ↔ P) → IsErrOf r (by_book b) ↔ P
err_told (Ok v) f b P is told = absurd is
err_told {T} {U} (Err e) f b P is told =
    let same : e ≡ by_book f = is in (
      λ h. (let equal : e ≡ by_book b = same_of e (by_book b) h in let one : f ≡ b = cc in told.0 (ap (λ (x : BookFault). Err x) one)),
      λ p. (let one : f ≡ b = same_of f b (told.1 p) in ap (λ (x : ServeFault). Err x) (same ∙ ap (λ (x : BookFault). by_book x) one)),
    )

pub ok_told : {T U : Type 0} (v : T) (u : U) (b : BookFault) (P : Type 0) → (IsErrOf {T = U} (Ok u) b ↔ P) → IsErrOf {T = T} (Ok v) (by_book b) ↔ P
ok_told v u b P told = (λ h. cc, λ p. (let bad = told.1 p in cc))

-- no fault says that a book was broken which wasn't
never_broken : (e : ServeFault) (now : Bool) (number : ℕ) → StaysReady e now number → e ≡ by_book of_book.Broken → ⊥
never_broken e now number ready same = subst (λ (x : ServeFault). StaysReady x now number) same ready

pub whole_told : {T : Type 0} (r : Result T ServeFault) (e : ServeFault) (was now : Bool) (number : ℕ) → IsErrAnd r (λ x. x ≡ e) → StaysReady e now number → was ≡ false
    → IsErrOf r (by_book of_book.Broken) ↔ (was ≡ true)
whole_told (Ok v) e was now number is ready whole = absurd is
whole_told (Err x) e was now number is ready whole =
    let equal : x ≡ e = is in (
      λ h. (let same : x ≡ by_book of_book.Broken = same_of x (by_book of_book.Broken) h in absurd (never_broken e now number ready (sym equal ∙ same))),
      λ p. cc,
    )

-- ---- which come

-- of a book that is asked what is due
pub err_due : {T : Type 0} (r : Result T ServeFault) (f : BookFault) → IsErrAnd r (λ x. x ≡ by_book f) → (f ≢ of_book.Broken → f ≡ of_book.Memory)
    → IfErr r (λ x. (x ≡ by_book of_book.Broken) ⊎ (x ≡ by_book of_book.Memory))
err_due (Ok v) f is others = tt
err_due (Err e) of_book.Broken is others = inl is
err_due (Err e) of_book.Memory is others = inr is
err_due (Err e) of_book.LogFull is others = (let bad : of_book.LogFull ≡ of_book.Memory = others (λ s. cc) in cc)
err_due (Err e) of_book.Worn is others = (let bad : of_book.Worn ≡ of_book.Memory = others (λ s. cc) in cc)
err_due (Err e) of_book.Device is others = (let bad : of_book.Device ≡ of_book.Memory = others (λ s. cc) in cc)

-- of a keep, where nothing is to be kept and the book isn't broken: none
pub kept_well : {T D : Type 0} {ghosts : Ghosts D} (f : BookFault) (old new : Book D ghosts) → TellsBroken {T = T} (Err f) old → TellsWorn {T = T} (Err f) old
    → (f ≢ of_book.Broken → f ≢ of_book.Worn → f ≡ of_book.Device) → (IsErrOf {T = T} (Err f) of_book.Device → is_broken new ≡ true)
    → (IsAllKept old → keeper_of new ≡ keeper_of old) → IsAllKept old → is_broken old ≡ false → ⊥
kept_well {T} {D} {ghosts} f old new broken worn others breaks idle all whole =
    let not_broken : f ≢ of_book.Broken = λ same. (let is : is_broken old ≡ true = broken.0 (ap (λ (x : BookFault). Err x) same) in cc) in
    let not_worn : f ≢ of_book.Worn = λ same. unkept ((worn.0 (ap (λ (x : BookFault). Err x) same)).1) in
    let device : f ≡ of_book.Device = others not_broken not_worn in
    let now : is_broken new ≡ true = breaks (ap (λ (x : BookFault). Err x) device) in
    let same : is_broken new ≡ is_broken old = ap (λ (k : Keeper D ghosts). keeper_parts.is_broken k) (idle all) in
    cc
  where
    fewer : (a b : ℕ) → a ≡ b → a < b → ⊥
    fewer a b same less = omega (arith, same, less)

    unkept : kept_of old < length (log_of old) → ⊥
    unkept less = fewer (kept_of old) (length (log_of old)) all less

pub of_keep : (e : ServeFault) → (e ≢ by_book of_book.Broken → e ≢ by_book of_book.Worn → e ≡ by_book of_book.Device) → ComesWithoutRound e
of_keep (by_book of_book.Broken) others = tt
of_keep (by_book of_book.Worn) others = tt
of_keep (by_book of_book.Device) others = tt
of_keep e others = (let bad = others (λ s. cc) (λ s. cc) in cc)

pub of_due : (e : ServeFault) → (e ≡ by_book of_book.Broken) ⊎ (e ≡ by_book of_book.Memory) → ComesWithoutRound e
of_due e (inl is) = rw is tt
of_due e (inr is) = rw is tt

-- what comes where nothing is to be made also comes where a job is to be halted
pub not_unmade : (e : ServeFault) → ComesWithoutRound e → ComesUnmade e
not_unmade (by_book f) comes = comes
not_unmade Memory comes = tt
not_unmade e comes = absurd comes

pub due_unmade : {T : Type 0} (r : Result T ServeFault) → IfErr r (λ x. (x ≡ by_book of_book.Broken) ⊎ (x ≡ by_book of_book.Memory)) → IfErr r ComesUnmade
due_unmade (Ok v) is = tt
due_unmade (Err e) is = not_unmade e (of_due e is)

-- a fault that is handed on
pub err_comes : {T : Type 0} (r : Result T ServeFault) (e : ServeFault) (P : ServeFault → Type 0) → IsErrAnd r (λ x. x ≡ e) → P e → IfErr r P
err_comes (Ok v) e P is comes = absurd is
err_comes (Err x) e P is comes = let same : x ≡ e = is in subst P (sym same) comes

-- ---- for what a line asks

pub memory_comes : (t : List JobParts) (reading : Reading) (left : List JobParts) → ComesFor t reading left Memory
memory_comes t (Ok Blank) left = refl
memory_comes t (Ok (Command command)) left = tt
memory_comes t (Ok (Run count)) left = (tt, λ none. tt, inl tt)
memory_comes t (Err refusal) left = refl

pub command_comes : {T : Type 0} (r : Result T ServeFault) (t : List JobParts) (c : Asked) (left : List JobParts) → IfErr r ComesWithoutRound
    → IfErr r (ComesFor t (Ok (Command c)) left)
command_comes (Ok v) t c left comes = tt
command_comes (Err e) t c left comes = comes

pub run_comes : {T : Type 0} (r : Result T ServeFault) (t : List JobParts) (count : ℕ) (left : List JobParts) → IfErr r ComesInLine
    → (turns count 0 t ≡ [] → IfErr r ComesWithoutRound) → IfErr r (λ e. ComesUnmade e ⊎ IsBeforeRound t (turns count 0 t) left)
    → IfErr r (ComesFor t (Ok (Run count)) left)
run_comes (Ok v) t count left comes none made = tt
run_comes (Err e) t count left comes none made = (comes, none, made)

pub refused_comes : {T : Type 0} (r : Result T ServeFault) (t : List JobParts) (fault : TextFault) (left : List JobParts) → IfErr r (λ e. e ≡ Memory)
    → IfErr r (ComesFor t (Err fault) left)
refused_comes (Ok v) t fault left comes = tt
refused_comes (Err e) t fault left comes = comes

-- ---- over a broken book

-- what is refused first is told
pub err_broken : {T U : Type 0} (r : Result T ServeFault) (f : BookFault) → IsErrAnd r (λ x. x ≡ by_book f) → IsErrOf {T = U} (Err f) of_book.Broken → IfErr r ComesBroken
err_broken (Ok v) f is told = tt
err_broken (Err e) f is told = let same : e ≡ by_book f = is in subst ComesBroken (sym same) (same_of f of_book.Broken told)

pub is_broken_told : {T : Type 0} (e : ServeFault) → IsErrOf {T = T} (Err e) (by_book of_book.Broken) → ComesBroken e
is_broken_told e told = subst ComesBroken (sym (same_of e (by_book of_book.Broken) told)) refl

pub of_memory : (e : ServeFault) → e ≡ Memory → ComesBroken e
of_memory e is = rw is tt

pub of_either : (e : ServeFault) → (e ≡ Memory) ⊎ (e ≡ Write) → ComesBroken e
of_either e (inl is) = rw is tt
of_either e (inr is) = rw is tt

pub memory_broken : {T : Type 0} (r : Result T ServeFault) → IfErr r (λ e. e ≡ Memory) → IfErr r ComesBroken
memory_broken (Ok v) is = tt
memory_broken (Err e) is = of_memory e is

-- where it isn't broken there is no answer over a broken one
pub on_unbroken : {T : Type 0} (r : Result T ServeFault) (b : Bool) (P : Type 0) → OnOk r (b ≡ false) → b ≡ true → OnOk r P
on_unbroken (Ok v) b P whole is = (let off : b ≡ false = whole in cc)
on_unbroken (Err e) b P whole is = tt

pub on_ok : {T : Type 0} (r : Result T ServeFault) (P : Type 0) → P → OnOk r P
on_ok (Ok v) P p = p
on_ok (Err e) P p = tt

-- a fault of the lines comes over any book
pub line_broken : (e : LineFault) → ComesBroken (fault_of_line e)
line_broken line_fault.Read = tt
line_broken line_fault.Write = tt
line_broken line_fault.LongLine = tt
line_broken line_fault.Memory = tt
