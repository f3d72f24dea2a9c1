-- Why a run stops, and what a keep that was refused says.
use Rattle.std.proofs.Common.{◌≡◌, ◌≢◌, ◌⊎◌, ⊎_elim, inl, inr, ℕ, ◌<◌, ◌≤◌, Bool, true, false, List, Result, Ok, Err, None, refl, sym, ap, subst, ◌∙◌}
use Rattle.std.specs.Prelude.{◌↔◌, IsTrue}
use Rattle.std.specs.List.{AllByRecursion}
use Rattle.std.proofs.lemmas.Bool.{cases_lt, false_from_ne_true}
use Rattle.ic_frames.specs.declared.faults.KeepFault.{KeepFault}
use Rattle.ic_frames.specs.declared.faults.KeepFault.TheVariants.{Broken, Worn, Device}
use Rattle.ic_kept.specs.declared.keeper.Keeper.{Keeper}
use Rattle.ic_kept.specs.Keeper.{is_broken, newest_of, number_of, other_of}
use Rattle.ic_kept.specs.Keeping.{FaultLeaves}
use Rattle.ic_kept.specs.Opening.{InSomeOrder}
use Rattle.ic_rules.specs.System.{SystemParts}
use Rattle.ic_state.specs.declared.state.State.{State}
use Rattle.ic_state.specs.State.{Kept}
use Rattle.ic_term.specs.Configuration.{Configuration, IsWide, configuration_names, configuration_nodes, occurrences, restored_if, third_occurrence, unless_third, wide_restored}
use Rattle.ic_term.specs.declared.config.ConfigFault.TheVariants.{Name}
use Rattle.ic_term.specs.declared.config.ConfigFault.TheVariants as config
use Rattle.ic_term.specs.declared.limits.TheConstants.{MAX_NEXT, MAX_WIDE_NODES}
use Rattle.ic_term.specs.Symbol.{Symbol, is_over}
use Rattle.ic_term.specs.Tree.{Tree, Pair}
use Rattle.ic_keeping.specs.declared.beginning.ResumeFault.{ResumeFault}
use Rattle.ic_keeping.specs.declared.fault.KeepingFault.{KeepingFault}
use Rattle.ic_frames.specs.declared.faults.OpenCause.{OpenCause}
use Rattle.ic_keeping.specs.declared.fault.KeepingFault.TheVariants.{Keep, Limit, Memory, NotEmpty, Open, Unsound}
use Rattle.ic_keeping.specs.declared.fault.KeepingFault.TheVariants as keeping
use Rattle.ic_keeping.specs.Life.{HandsBack, KeepFails, RefusesFiles, StopsARun, TellsOfKeeper}
use Rattle.ic_keeping.specs.inner.Pieces.{IsOfAPiece, StopsAPiece}

device_is_not_broken : ◌≢◌ {A = Result (Unit {0}) KeepFault} (Err Device) (Err Broken)
device_is_not_broken = λ same. cc

ok_is_not_broken : ◌≢◌ {A = Result (Unit {0}) KeepFault} (Ok tt) (Err Broken)
ok_is_not_broken = λ same. cc

-- what a refused keep leaves says why
pub keep_fails : {D : Type 0} (cause : KeepFault) (old new : Keeper D) → FaultLeaves {T = Unit {0}} (Err cause) old new → KeepFails cause old new
keep_fails {D} Broken old new leaves = (leaves.broken.0 refl, leaves.refused refl (λ is. cc))
keep_fails {D} Worn old new leaves =
    let worn = leaves.worn.0 refl in
    let same : new ≡ old = leaves.refused refl (λ is. cc) in
    (worn.0, ap (λ (k : Keeper D). is_broken k) same ∙ worn.0, ap (λ (k : Keeper D). number_of k) same ∙ worn.1)
keep_fails Device old new leaves = (false_from_ne_true (is_broken old) (λ broken. device_is_not_broken (leaves.broken.1 broken)), leaves.breaks refl)

-- and one that was answered
pub keep_ready : {D : Type 0} (old new : Keeper D) → FaultLeaves {T = Unit {0}} (Ok tt) old new → (is_broken old ≡ false) × (is_broken new ≡ false)
keep_ready old new leaves = (false_from_ne_true (is_broken old) (λ broken. ok_is_not_broken (leaves.broken.1 broken)), leaves.ready)

-- keeps that were answered, if there were any
abbrev pub WereReady : {D : Type 0} (old new : Keeper D) → Type 0
WereReady old new = (new ≡ old) ⊎ ((is_broken old ≡ false) × (is_broken new ≡ false))

pub ready_on : {D : Type 0} (start old new : Keeper D) → WereReady start old → WereReady old new → WereReady start new
ready_on start old new (inl none) (inl same) = inl (same ∙ none)
ready_on {D} start old new (inl none) (inr both) = inr (subst (λ (k : Keeper D). is_broken k ≡ false) none both.0, both.1)
ready_on {D} start old new (inr before) (inl same) = inr (before.0, subst (λ (k : Keeper D). is_broken k ≡ false) (sym same) before.1)
ready_on start old new (inr before) (inr both) = inr (before.0, both.1)

fails_after : {D : Type 0} (cause : KeepFault) (start old new : Keeper D) → is_broken start ≡ false → is_broken old ≡ false → KeepFails cause old new → KeepFails cause start new
fails_after Broken start old new ready now fails = let e : false ≡ true = sym now ∙ fails.0 in cc
fails_after Worn start old new ready now fails = (ready, fails.1, fails.2)
fails_after Device start old new ready now fails = (ready, fails.1)

-- a keep that was refused after them
pub fails_on : {D : Type 0} (cause : KeepFault) (start old new : Keeper D) → WereReady start old → KeepFails cause old new → KeepFails cause start new
fails_on {D} cause start old new (inl none) fails = subst (λ (k : Keeper D). KeepFails cause k new) none fails
fails_on cause start old new (inr both) fails = fails_after cause start old new both.0 both.1 fails

-- names that occur twice at most aren't refused
pub no_third : (within : Bool) (c : Configuration) (n : ℕ) → third_occurrence (configuration_names c) ≡ None → Err (Name n) ≡ restored_if within c → ⊥
no_third true c n none is = let e = is ∙ ap (unless_third c) none in cc
no_third false c n none is = cc

-- where names occur twice at most, each below `next`, a limit is passed
pub past_wide : ((c : Configuration) → (wide_restored c ≡ Ok c) ↔ IsWide c) → (c : Configuration) → AllByRecursion (λ n. n < c.next) (configuration_names c)
    → ((n : ℕ) → occurrences n (configuration_names c) ≤ 2) → Err config.Limit ≡ wide_restored c → (MAX_WIDE_NODES < configuration_nodes c) ⊎ (MAX_NEXT < c.next)
past_wide taken c below twice refused = ⊎_elim
    (λ many. inl many)
    (λ few. ⊎_elim
    (λ high. inr high)
    (λ low.
    let wide : wide_restored c ≡ Ok c = (taken c).1 (record { nodes = few; next = low; below = below; twice = twice }) in
    let e = refused ∙ wide in
    cc (e))
    (cases_lt MAX_NEXT c.next))
    (cases_lt MAX_WIDE_NODES (configuration_nodes c))

-- what is over symbols is told by terms and equations alone
pub over_parts : (ss : List Symbol) (c d : Configuration) → c.interface ≡ d.interface → c.equations ≡ d.equations → IsTrue (is_over ss d) → IsTrue (is_over ss c)
over_parts ss c d interface equations over =
    subst (λ (ts : List Tree). IsTrue (is_over ss (record { interface = ts; equations = c.equations; next = c.next }))) (sym interface)
    (subst (λ (es : List Pair). IsTrue (is_over ss (record { interface = d.interface; equations = es; next = c.next }))) (sym equations) over)

-- a run stops so where it is out of memory or at a limit
pub of_two : (fault : KeepingFault) → (fault ≡ Memory) ⊎ (fault ≡ Limit) → StopsARun fault
of_two fault (inl memory) = inl memory
of_two fault (inr limit) = inr (inl limit)

-- and not where it can't open its disks
pub run_unopened : (fault : KeepingFault) → StopsARun fault → (cause : OpenCause) → fault ≡ Open cause → ⊥
run_unopened fault (inl memory) cause same = let e : Memory ≡ Open cause = sym memory ∙ same in cc
run_unopened fault (inr (inl limit)) cause same = let e : Limit ≡ Open cause = sym limit ∙ same in cc
run_unopened fault (inr (inr refused)) cause same = let e : Keep refused.0 ≡ Open cause = sym refused.1 ∙ same in cc

-- nor for what stands in them, nor for a call or a file as a reduction begins
pub run_sound : StopsARun Unsound → ⊥
run_sound (inl memory) = cc (memory)
run_sound (inr (inl limit)) = cc (limit)
run_sound (inr (inr refused)) = let e : Unsound ≡ Keep refused.0 = refused.1 in cc

pub run_begun : StopsARun NotEmpty → ⊥
run_begun (inl memory) = cc (memory)
run_begun (inr (inl limit)) = cc (limit)
run_begun (inr (inr refused)) = let e : NotEmpty ≡ Keep refused.0 = refused.1 in cc

pub run_no_call : StopsARun keeping.Device → ⊥
run_no_call (inl memory) = cc (memory)
run_no_call (inr (inl limit)) = cc (limit)
run_no_call (inr (inr refused)) = let e : keeping.Device ≡ Keep refused.0 = refused.1 in cc

pub not_unsound : (fault : KeepingFault) → (fault ≡ Memory) ⊎ (fault ≡ Limit) → fault ≡ Unsound → ⊥
not_unsound fault (inl memory) same = let e : Memory ≡ Unsound = sym memory ∙ same in cc
not_unsound fault (inr limit) same = let e : Limit ≡ Unsound = sym limit ∙ same in cc

pub run_not_unsound : (fault : KeepingFault) → StopsARun fault → fault ≡ Unsound → ⊥
run_not_unsound fault stops same = run_sound (subst (λ (f : KeepingFault). StopsARun f) same stops)

-- nor because its files aren't begun
pub run_not_empty : (fault : KeepingFault) → StopsARun fault → fault ≡ NotEmpty → ⊥
run_not_empty fault (inl memory) same = let e : NotEmpty ≡ Memory = sym same ∙ memory in cc
run_not_empty fault (inr (inl limit)) same = let e : NotEmpty ≡ Limit = sym same ∙ limit in cc
run_not_empty fault (inr (inr kept)) same = let e : NotEmpty ≡ Keep kept.0 = sym same ∙ kept.1 in cc

pub run_not_device : (fault : KeepingFault) → StopsARun fault → fault ≡ keeping.Device → ⊥
run_not_device fault (inl memory) same = let e : keeping.Device ≡ Memory = sym same ∙ memory in cc
run_not_device fault (inr (inl limit)) same = let e : keeping.Device ≡ Limit = sym same ∙ limit in cc
run_not_device fault (inr (inr kept)) same = let e : keeping.Device ≡ Keep kept.0 = sym same ∙ kept.1 in cc

-- the disks of a keeper that was left as it was are those that were opened
pub as_read : {D : Type 0} (R : D → D → Type 0) (first second : D) (k n : Keeper D) (fault : ResumeFault D) → HandsBack n fault → n ≡ k
    → InSomeOrder R first second (newest_of k) (other_of k) → InSomeOrder R first second fault.first fault.second
as_read {D} R first second k n fault back stayed reads =
    subst (λ (x : D). InSomeOrder R first second x fault.second) (sym (back.0 ∙ ap (λ (j : Keeper D). newest_of j) stayed))
    (subst (λ (y : D). InSomeOrder R first second (newest_of k) y) (sym (back.1 ∙ ap (λ (j : Keeper D). other_of j) stayed)) reads)

-- an opening is not refused as a keep is
pub opening_keeps_none : (fault : KeepingFault) → RefusesFiles fault → (cause : KeepFault) → fault ≡ Keep cause → ⊥
opening_keeps_none fault (inl opened) cause same = let e : Open opened.0 ≡ Keep cause = sym opened.1 ∙ same in cc
opening_keeps_none fault (inr (inl unsound)) cause same = let e : Unsound ≡ Keep cause = sym unsound ∙ same in cc
opening_keeps_none fault (inr (inr memory)) cause same = let e : Memory ≡ Keep cause = sym memory ∙ same in cc

piece_keeps_none : (fault : KeepingFault) → IsOfAPiece fault → (cause : KeepFault) → fault ≡ Keep cause → ⊥
piece_keeps_none fault (inl unsound) cause same = let e : Unsound ≡ Keep cause = sym unsound ∙ same in cc
piece_keeps_none fault (inr (inl memory)) cause same = let e : Memory ≡ Keep cause = sym memory ∙ same in cc
piece_keeps_none fault (inr (inr limit)) cause same = let e : Limit ≡ Keep cause = sym limit ∙ same in cc

piece_opens_none : (fault : KeepingFault) → IsOfAPiece fault → (cause : OpenCause) → fault ≡ Open cause → ⊥
piece_opens_none fault (inl unsound) cause same = let e : Unsound ≡ Open cause = sym unsound ∙ same in cc
piece_opens_none fault (inr (inl memory)) cause same = let e : Memory ≡ Open cause = sym memory ∙ same in cc
piece_opens_none fault (inr (inr limit)) cause same = let e : Limit ≡ Open cause = sym limit ∙ same in cc

-- what the fault of a piece says of the keeper, and that of a run
pub tells_of_piece : {D : Type 0} (old new : Keeper D) (fault : KeepingFault) → IsOfAPiece fault → (fault ≡ Unsound → new ≡ old) → TellsOfKeeper old new fault
tells_of_piece old new fault piece unsound = record {
  failed = λ cause same. absurd (piece_keeps_none fault piece cause same);
  unsound = unsound;
  unopened = λ cause same. piece_opens_none fault piece cause same;
}

pub tells_of_run : {D : Type 0} (old new : Keeper D) (fault : KeepingFault) → StopsARun fault → ((cause : KeepFault) → fault ≡ Keep cause → KeepFails cause old new) → TellsOfKeeper old new fault
tells_of_run old new fault stops fails = record {
  failed = fails;
  unsound = λ same. absurd (run_not_unsound fault stops same);
  unopened = λ cause same. run_unopened fault stops cause same;
}

-- no text that was kept is refused as a keep is, nor as files are that hold none
pub text_keeps_none : (fault : KeepingFault) → (fault ≡ Unsound) ⊎ (fault ≡ Memory) → (cause : KeepFault) → fault ≡ Keep cause → ⊥
text_keeps_none fault (inl unsound) cause same = let e : Unsound ≡ Keep cause = sym unsound ∙ same in cc
text_keeps_none fault (inr memory) cause same = let e : Memory ≡ Keep cause = sym memory ∙ same in cc

pub text_opens_none : (fault : KeepingFault) → (fault ≡ Unsound) ⊎ (fault ≡ Memory) → (cause : OpenCause) → fault ≡ Open cause → ⊥
text_opens_none fault (inl unsound) cause same = let e : Unsound ≡ Open cause = sym unsound ∙ same in cc
text_opens_none fault (inr memory) cause same = let e : Memory ≡ Open cause = sym memory ∙ same in cc

pub piece_without_memory : (s : SystemParts) (first : Kept) (old : State) (fault : KeepingFault) → fault ≡ Memory → StopsAPiece s first old fault
piece_without_memory s first old fault memory = record {
  stops = inl memory;
  limit = λ limit. absurd (let e : Memory ≡ Limit = sym memory ∙ limit in cc);
}

pub tells_of_memory : {D : Type 0} (old new : Keeper D) (fault : KeepingFault) → fault ≡ Memory → TellsOfKeeper old new fault
tells_of_memory old new fault memory = tells_of_piece old new fault (inr (inl memory)) (λ same. absurd (let e : Memory ≡ Unsound = sym memory ∙ same in cc))

pub tells_of_limit : {D : Type 0} (old new : Keeper D) → TellsOfKeeper old new Limit
tells_of_limit old new = tells_of_piece old new Limit (inr (inr refl)) (λ same. absurd (cc (same)))
