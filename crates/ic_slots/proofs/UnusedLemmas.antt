-- What a stopped `create` leaves has no open slot, and what is unused holds no job.
use Rattle.std.proofs.Common.{◌≡◌, ◌∙◌, ◌↔◌, ℕ, suc, ◌+◌, ◌≤◌, ◌<◌, Bool, true, false, ◌==◌, List, [], ◌∷◌, length, ⊎_elim, ne_eqb, refl, sym, subst, ap, arith}
use Rattle.std.proofs.lemmas.List.{get_or_past, take_all}
use Rattle.std.specs.Prelude.{IsErrOf, IsTrue, Result, Err, slice_index}
use Rattle.std.proofs.lemmas.Bool.{false_from_ne_true, both_ways}
use Rattle.ic_codec.specs.Tables.{old_table_bytes, table_bytes}
use Rattle.ic_disk.specs.Content.{bytes_at}
use Rattle.ic_disk.specs.DiskCalls.{ChangesNothing}
use Rattle.ic_disk.specs.Images.{Only, Within}
use Rattle.ic_disk.specs.Time.{LeavesOnly, LeftSince}
use Rattle.ic_disk.specs.lemmas.Moments.{goes_on, started, then_runs}
use Rattle.ic_frames.specs.Fields.{is_open}
use Rattle.ic_frames.specs.Opening.{LeavesAsFound}
use Rattle.ic_frames.specs.declared.faults.OpenCause.{OpenCause}
use Rattle.ic_frames.specs.declared.faults.OpenCause.TheVariants as cause
use Rattle.ic_frames.specs.Held.{IsShut}
use Rattle.ic_jobs.specs.Job.{JobParts}
use Rattle.ic_slots.specs.Held.{Held, IsHeld, the_table, no_slot, two_alike, damaged}
use Rattle.ic_slots.specs.Unused.{IsBegun, IsPartOf, IsUnused, first_bytes}

-- the gate of the second slot is none of the bytes
second_gate : (bytes : List ℕ) → length bytes ≡ 18 → slice_index bytes 4194304 ≡ 0
second_gate bytes all = get_or_past bytes 4194304 0 (omega (arith, all))

not_one : (byte : ℕ) → byte ≡ 1 → byte ≡ 0 → ⊥
not_one byte is isnt = omega arith

module _ (opened : (at : ℕ) (file : List ℕ) → (is_open at file ≡ true) ↔ ((at + 13 ≤ length file) × (slice_index file at ≡ 1))) (file : List ℕ) (begun : IsBegun file) where
  gate_shut : (bytes : List ℕ) → IsPartOf bytes file → (at : ℕ) → slice_index bytes at ≡ 0 → is_open at file ≡ false
  gate_shut bytes part at none = false_from_ne_true (is_open at file)
      (λ is.
      let here = (opened at file).0 is in
      let within : at < length file = omega (arith, here.0) in
      ⊎_elim
      (λ none_there. not_one (slice_index file at) here.1 none_there)
      (λ its. not_one (slice_index file at) here.1 (its ∙ none))
      (part at within))

  shut : (bytes : List ℕ) → slice_index bytes 0 ≡ 0 → length bytes ≡ 18 → IsPartOf bytes file → IsShut file
  shut bytes first all part = (gate_shut bytes part 0 first, gate_shut bytes part 4194304 (second_gate bytes all))

  pub begun_shut : IsShut file
  begun_shut = ⊎_elim (shut (first_bytes (table_bytes [])) refl refl) (shut (first_bytes (old_table_bytes [])) refl refl) begun.1

pub whole_bytes : (n : ℕ) (file : List ℕ) → n ≡ length file → bytes_at 0 n file ≡ file
whole_bytes n file is = take_all n file (omega (arith, is))

pub no_elements : (xs : List JobParts) (b : Bool) → b ≡ (length xs == 0) → b ≡ true → xs ≡ []
no_elements [] b test is = refl
no_elements (x ∷ xs) b test is = absurd (both_ways b (test ∙ more (length xs)) is)
  where
    no_suc : (n : ℕ) → suc n ≡ 0 → ⊥
    no_suc n is = omega arith

    more : (n : ℕ) → (suc n == 0) ≡ false
    more n = ne_eqb (suc n) 0 (no_suc n)

pub some_element : (xs : List JobParts) (b : Bool) → b ≡ (length xs == 0) → xs ≡ [] → b ≡ true
some_element xs b test none = test ∙ ap (λ (ys : List JobParts). length ys == 0) none

same_table : (t u : List JobParts) → the_table t ≡ the_table u → t ≡ u
same_table t u e = cc

table_not_none : (t : List JobParts) → the_table t ≡ no_slot → ⊥
table_not_none t e = cc

table_not_two : (t : List JobParts) → the_table t ≡ two_alike → ⊥
table_not_two t e = cc

table_not_damaged : (t : List JobParts) → the_table t ≡ damaged → ⊥
table_not_damaged t e = cc

none_not_two : no_slot ≡ two_alike → ⊥
none_not_two e = cc

none_not_damaged : no_slot ≡ damaged → ⊥
none_not_damaged e = cc

module _ (one : (file : List ℕ) (this that : Held) → IsHeld this file → IsHeld that file → this ≡ that) (shut : (file : List ℕ) → IsBegun file → IsHeld no_slot file) (file : List ℕ) where
  pub unused_table : (t : List JobParts) → IsHeld (the_table t) file → IsUnused file → t ≡ []
  unused_table t held unused = ⊎_elim
      (λ empty. same_table t [] (one file (the_table t) (the_table []) held empty))
      (λ begun. absurd (table_not_none t (one file (the_table t) no_slot held (shut file begun))))
      unused

  pub used_twice : IsHeld two_alike file → IsUnused file → ⊥
  used_twice held unused = ⊎_elim
      (λ empty. table_not_two [] (one file (the_table []) two_alike empty held))
      (λ begun. none_not_two (one file no_slot two_alike (shut file begun) held))
      unused

  pub used_damaged : IsHeld damaged file → IsUnused file → ⊥
  used_damaged held unused = ⊎_elim
      (λ empty. table_not_damaged [] (one file (the_table []) damaged empty held))
      (λ begun. none_not_damaged (one file no_slot damaged (shut file begun) held))
      unused

-- ---- what a look leaves of a disk

not_device : {T : Type 0} (a : Result T OpenCause) → a ≡ Err cause.NoSlot → ¬ IsErrOf a cause.Device
not_device a is = subst (λ x. ¬ IsErrOf x cause.Device) (sym is) (λ e. cc)

pub isnt_device : {T : Type 0} (c : OpenCause) → c ≡ cause.NoSlot → ¬ IsErrOf {T = T} (Err c) cause.Device
isnt_device c is = not_device (Err c) (ap Err is)

module _ {D : Type 0} (clock : D → ℕ) (left : D → ℕ → List ℕ → Type 0) (image : D → List ℕ → Type 0) (content : D → List ℕ) where
  -- one call that changes nothing, and then others
  pub then-looks : (old mid new : D) → ((file : List ℕ) → LeftSince (left old) (clock old) file → image old file) → ChangesNothing content image clock left old mid
      → LeavesOnly clock left mid new (image mid) → LeavesOnly clock left old new (image old)
  then-looks old mid new is_image call rest =
      let first = goes_on clock left old old mid (image old) (image old) (started clock left old (image old) is_image) call.time (λ file is. is) in
      then_runs clock left old mid new (image old) (image mid) first rest call.images

  -- an opening that finds no slot, and then a look
  pub opened-and-looked : {T U : Type 0} (keeps : D → Bool) (a : Result T OpenCause) (b : Result U OpenCause) (old mid new : D)
      → LeavesAsFound keeps content image clock left a old mid → ¬ IsErrOf a cause.Device
      → keeps new ≡ keeps mid
      → ((file : List ℕ) → image mid file → clock old ≤ clock mid → LeftSince (left mid) (clock old) file)
      → (IsTrue (keeps mid) → content new ≡ content mid)
      → (IsTrue (keeps mid) → Within (image new) (image mid))
      → (IsTrue (keeps mid) → LeavesOnly clock left mid new (image mid))
      → LeavesAsFound keeps content image clock left b old new
  opened-and-looked keeps a b old mid new found healthy same_keeps reaches same images leaves =
      let kept : IsTrue (keeps old) → IsTrue (keeps mid) = λ k. found.keeps ∙ k in
      let settled : IsTrue (keeps old) → Only (content old) (image new) = λ k. record { no_other = λ file is. (found.synced k healthy).no_other file (images (kept k) file is) } in
      record {
        keeps = same_keeps ∙ found.keeps;
        any_moment = λ k. then_runs clock left old mid new (image old) (image mid) (found.any_moment k) (leaves (kept k)) (λ file is. (found.any_moment k).each file (reaches file is (found.any_moment k).later));
        same = λ k. same (kept k) ∙ found.same k;
        synced = λ k _. settled k;
      }
