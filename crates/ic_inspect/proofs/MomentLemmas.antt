-- A table that is read twice stood in the file at a moment between.
use Rattle.std.proofs.Common.{◌≡◌, ◌↔◌, ◌⊎◌, inl, inr, ⊎_elim, ℕ, zero, suc, ◌+◌, ◌-◌, ◌<◌, ◌≤◌, Bool, true, false, List, length, drop, get_or, refl, sym, ap, subst, ◌∙◌, arith, Result, Ok, Err, OnOk}
use Rattle.std.specs.Prelude.{slice_index}
use Rattle.std.proofs.lemmas.Bool.{false≢true}
use Rattle.std.proofs.lemmas.List.{ext_get_or, get_or-take, get_or-drop}
use Rattle.ic_jobs.specs.Job.{JobParts}
use Rattle.ic_jobs.specs.Table.{IsTable}
use Rattle.ic_codec.specs.Tables.{IsFormOf}
use Rattle.ic_frames.specs.declared.frame.TheConstants.{HEAD, MAX_BODY}
use Rattle.ic_frames.specs.declared.slot.Slot.{Slot}
use Rattle.ic_frames.specs.declared.slot.Slot.TheVariants.{First, Second}
use Rattle.ic_frames.specs.Fields.{number, size, body, is_open, is_whole}
use Rattle.ic_frames.specs.Held.{IsNewest, body_held, the_body}
use Rattle.ic_frames.specs.Places.{place, other}
use Rattle.ic_slots.specs.Held.{IsHeld, the_table}
use Rattle.ic_inspect.specs.Moments.{IsSameSlot, OpensAbove, IsServerStep, IsServed}
use Rattle.ic_inspect.specs.inner.Twice.{IsHeadOf, IsBodyAmid, IsReadTwice, IsReadTwiceBetween}

-- ---- the same slot
same_again : (s : Slot) (a b c : List ℕ) → IsSameSlot s a b → IsSameSlot s b c → IsSameSlot s a c
same_again s a b c p q = record {
  opened = q.opened ∙ p.opened;
  number_is = q.number_is ∙ p.number_is;
  size_is = q.size_is ∙ p.size_is;
  whole_is = q.whole_is ∙ p.whole_is;
  body_is = q.body_is ∙ p.body_is;
}

pub same_self : (s : Slot) (a : List ℕ) → IsSameSlot s a a
same_self s a = record { opened = refl; number_is = refl; size_is = refl; whole_is = refl; body_is = refl }

-- ---- a slot that was open with a number n is the same, or some slot is open with a greater one, and itself never again with n
record Gone (s : Slot) (n : ℕ) (file : List ℕ) : Type 0 where
  itself : is_open (place s) file ≡ true → n < number (place s) file
  above : Slot
  opened : is_open (place above) file ≡ true
  greater : n < number (place above) file

abbrev Since : Slot → List ℕ → List ℕ → Type 0
Since s old new = IsSameSlot s old new ⊎ Gone s (number (place s) old) new

not_open : {A : Type 0} (b : Bool) → b ≡ false → b ≡ true → A
not_open b shut is = absurd (false≢true (sym shut ∙ is))

-- the slots by which one is the newest
newest_above : (v u : Slot) (n : ℕ) (file : List ℕ) → IsNewest v file → is_open (place u) file ≡ true → n < number (place u) file → n < number (place v) file
newest_above First Second n file newest opened greater = let more = newest.newer opened in omega (arith, more, greater)
newest_above Second First n file newest opened greater = let more = newest.newer opened in omega (arith, more, greater)
newest_above _ _ n file newest opened greater = greater

module _ (old file new : List ℕ) where
  -- the newest slot stays the newest above n, where it is above it
  gone_beside : (v : Slot) (n : ℕ) → IsNewest v file → IsSameSlot v file new → n < number (place v) file
      → (is_open (place (other v)) file ≡ true → n < number (place (other v)) file)
      → (is_open (place (other v)) new ≡ false) ⊎ (IsSameSlot (other v) file new ⊎ OpensAbove (other v) file new) → (other (other v) ≡ v) → Gone (other v) n new
  gone_beside v n newest stays greater before beside back = record {
    itself = λ is. ⊎_elim
        (λ shut. not_open (is_open (place (other v)) new) shut is)
        (λ rest. ⊎_elim
        (λ same. let more = before (sym same.opened ∙ is) in omega (arith, more, same.number_is))
        (λ opens. let more : number (place v) file < number (place (other v)) new = subst (λ (u : Slot). number (place u) file < number (place (other v)) new) back opens.above in omega (arith, more, greater))
        rest)
        beside;
    above = v;
    opened = stays.opened ∙ newest.opened;
    greater = omega (arith, greater, stays.number_is);
  }

  gone_newest : (v : Slot) (n : ℕ) → IsNewest v file → IsSameSlot v file new → n < number (place v) file → Gone v n new
  gone_newest v n newest stays greater = record {
    itself = λ _. omega (arith, greater, stays.number_is);
    above = v;
    opened = stays.opened ∙ newest.opened;
    greater = omega (arith, greater, stays.number_is);
  }

  -- one step of a slot that is gone
  gone_on : (s v : Slot) (n : ℕ) → IsNewest v file → IsSameSlot v file new
      → (is_open (place (other v)) new ≡ false) ⊎ (IsSameSlot (other v) file new ⊎ OpensAbove (other v) file new) → Gone s n file → Gone s n new
  gone_on First First n newest stays beside gone = gone_newest First n newest stays (newest_above First gone.above n file newest gone.opened gone.greater)
  gone_on Second Second n newest stays beside gone = gone_newest Second n newest stays (newest_above Second gone.above n file newest gone.opened gone.greater)
  gone_on First Second n newest stays beside gone = gone_beside Second n newest stays (newest_above Second gone.above n file newest gone.opened gone.greater) gone.itself beside refl
  gone_on Second First n newest stays beside gone = gone_beside First n newest stays (newest_above First gone.above n file newest gone.opened gone.greater) gone.itself beside refl

  -- one step of a slot that is open and the same
  same_beside : (v : Slot) → IsNewest v file → IsSameSlot v file new → is_open (place (other v)) file ≡ true → IsSameSlot (other v) old file
      → (is_open (place (other v)) new ≡ false) ⊎ (IsSameSlot (other v) file new ⊎ OpensAbove (other v) file new) → Since (other v) old new
  same_beside v newest stays is same beside = ⊎_elim
      (λ shut. inr (record {
        itself = λ open_now. not_open (is_open (place (other v)) new) shut open_now;
        above = v;
        opened = stays.opened ∙ newest.opened;
        greater = let more = newest.newer is in omega (arith, more, stays.number_is, same.number_is);
      }))
      (λ rest. ⊎_elim
      (λ goes_on. inl (same_again (other v) old file new same goes_on))
      (λ opens. not_open (is_open (place (other v)) file) opens.shut is)
      rest)
      beside

  same_on : (s v : Slot) → IsNewest v file → IsSameSlot v file new
      → (is_open (place (other v)) new ≡ false) ⊎ (IsSameSlot (other v) file new ⊎ OpensAbove (other v) file new)
      → is_open (place s) file ≡ true → IsSameSlot s old file → Since s old new
  same_on First First newest stays beside is same = inl (same_again First old file new same stays)
  same_on Second Second newest stays beside is same = inl (same_again Second old file new same stays)
  same_on First Second newest stays beside is same = same_beside Second newest stays is same beside
  same_on Second First newest stays beside is same = same_beside First newest stays is same beside

  since_on : (s : Slot) → IsServerStep file new → is_open (place s) old ≡ true → Since s old file → Since s old new
  since_on s step is since = ⊎_elim
      (λ same. same_on s step.newest step.is_newest step.stays step.beside (same.opened ∙ is) same)
      (λ gone. inr (gone_on s step.newest (number (place s) old) step.is_newest step.stays step.beside gone))
      since

module _ (at : ℕ → List ℕ) (served : IsServed at) where
  since : (s : Slot) (i d : ℕ) → is_open (place s) (at i) ≡ true → Since s (at i) (at (i + d))
  since s i zero is = let here : i + 0 ≡ i = omega arith in inl (subst (λ (k : ℕ). IsSameSlot s (at i) (at k)) (sym here) (same_self s (at i)))
  since s i (suc d) is =
      let next : i + d + 1 ≡ i + suc d = omega arith in
      subst (λ (k : ℕ). Since s (at i) (at k)) next (since_on (at i) (at (i + d)) (at (i + d + 1)) s (served (i + d)) is (since s i d is))

  gone_stays : (s : Slot) (n i d : ℕ) → Gone s n (at i) → Gone s n (at (i + d))
  gone_stays s n i zero gone = let here : i + 0 ≡ i = omega arith in subst (λ (k : ℕ). Gone s n (at k)) (sym here) gone
  gone_stays s n i (suc d) gone =
      let next : i + d + 1 ≡ i + suc d = omega arith in
      let step = served (i + d) in
      subst (λ (k : ℕ). Gone s n (at k)) next (gone_on (at i) (at (i + d)) (at (i + d + 1)) s step.newest n step.is_newest step.stays step.beside (gone_stays s n i d gone))

  -- open with one number at two moments, the same at each moment between
  pub steady : (s : Slot) (i j k : ℕ) → i ≤ j → j ≤ k → is_open (place s) (at i) ≡ true → is_open (place s) (at k) ≡ true → number (place s) (at i) ≡ number (place s) (at k)
      → IsSameSlot s (at i) (at j)
  steady s i j k below within is again same =
      let to_j : i + (j - i) ≡ j = omega (arith, below) in
      let to_k : j + (k - j) ≡ k = omega (arith, within) in
      ⊎_elim
      (λ stays. stays)
      (λ gone.
      let later : Gone s (number (place s) (at i)) (at k) = subst (λ (m : ℕ). Gone s (number (place s) (at i)) (at m)) to_k (gone_stays s (number (place s) (at i)) j (k - j) gone) in
      let more = later.itself again in
      absurd (omega (arith, more, same)))
      (subst (λ (m : ℕ). Since s (at i) (at m)) to_j (since s i (j - i) is))

pub byte_of_body : (p k : ℕ) (file : List ℕ) → k < size p file → get_or (body p file) k 0 ≡ get_or file (p + 13 + k) 0
unfolding body
byte_of_body p k file below = get_or-take (size p file) (drop (p + 13) file) k 0 below ∙ get_or-drop (p + 13) file k 0

module _ (opened : (at : ℕ) (file : List ℕ) → (is_open at file ≡ true) ↔ ((at + HEAD ≤ length file) × (slice_index file at ≡ 1)))
    (whole : (at : ℕ) (file : List ℕ) → (is_whole at file ≡ true) ↔ ((size at file ≤ MAX_BODY) × (at + HEAD + size at file ≤ length file)))
    (long : (at : ℕ) (file : List ℕ) → is_whole at file ≡ true → length (body at file) ≡ size at file) where
  module _ (s : Slot) (at : ℕ → List ℕ) (read : List ℕ) (i k : ℕ) (stays : (j : ℕ) → i ≤ j → j ≤ k → IsSameSlot s (at i) (at j)) (head : IsHeadOf s read (at i)) (ordered : i ≤ k)
      (is : is_open (place s) read ≡ true) (is_whole_read : is_whole (place s) read ≡ true) (amid : IsBodyAmid s at i k read) where
    size_at : (j : ℕ) → i ≤ j → j ≤ k → size (place s) (at j) ≡ size (place s) read
    size_at j above below = (stays j above below).size_is ∙ head.size_is

    -- it is whole where its last byte was read, and so it is where it begins
    whole_by : (n : ℕ) → size (place s) read ≡ n → is_whole (place s) (at i) ≡ true
    whole_by zero none =
        let within = ((opened (place s) (at i)).0 (head.opened ∙ is)).0 in
        (whole (place s) (at i)).1 (omega (arith, head.size_is, none), omega (arith, within, head.size_is, none))
    whole_by (suc n) some =
        let last = amid is_whole_read n (omega (arith, some)) in
        let few = ((whole (place s) read).0 is_whole_read).0 in
        let same = size_at last.0 last.1 last.2 in
        let there : is_whole (place s) (at last.0) ≡ true = (whole (place s) (at last.0)).1 (omega (arith, few, same), omega (arith, last.3.within, same, some)) in
        sym (stays last.0 last.1 last.2).whole_is ∙ there

    whole_there : is_whole (place s) (at i) ≡ true
    whole_there = whole_by (size (place s) read) refl

    body_there : body (place s) (at i) ≡ body (place s) read
    body_there =
        let long_there : length (body (place s) (at i)) ≡ size (place s) read = long (place s) (at i) whole_there ∙ head.size_is in
        let long_read : length (body (place s) read) ≡ size (place s) read = long (place s) read is_whole_read in
        ext_get_or 0 (body (place s) (at i)) (body (place s) read) (long_there ∙ sym long_read)
        (λ n inside.
        let below : n < size (place s) read = omega (arith, inside, long_there) in
        let seen = amid is_whole_read n below in
        let same = stays seen.0 seen.1 seen.2 in
        let inner : n < size (place s) (at seen.0) = omega (arith, below, size_at seen.0 seen.1 seen.2) in
        ap (λ (b : List ℕ). get_or b n 0) (sym same.body_is)
        ∙ byte_of_body (place s) n (at seen.0) inner ∙ seen.3.same ∙ sym (byte_of_body (place s) n read below))

  module _ (newest_is : (s : Slot) (file : List ℕ) (t : List JobParts) → IsNewest s file → is_whole (place s) file ≡ true → IsTable t → IsFormOf t (body (place s) file) → IsHeld (the_table t) file)
      (at : ℕ → List ℕ) (served : IsServed at) (read : List ℕ) (t : List JobParts) (is_table : IsTable t) where
    stood : (s : Slot) (i m k : ℕ) → i ≤ m → m ≤ k → IsHeadOf s read (at i) → IsHeadOf s read (at k) → IsHeadOf (other s) read (at m) → IsBodyAmid s at i k read
        → IsNewest s read → is_whole (place s) read ≡ true → IsFormOf t (body (place s) read) → IsHeld (the_table t) (at m)
    stood s i m k below within head again beside amid newest whole_read form =
        let stays : (j : ℕ) → i ≤ j → j ≤ k → IsSameSlot s (at i) (at j) =
        λ j above under. steady at served s i j k above under (head.opened ∙ newest.opened) (again.opened ∙ newest.opened) (head.number_is ∙ sym again.number_is) in
        let ordered : i ≤ k = omega (arith, below, within) in
        let here = stays m below within in
        let whole_here : is_whole (place s) (at m) ≡ true = here.whole_is ∙ whole_there s at read i k stays head ordered newest.opened whole_read amid in
        let body_here : body (place s) (at m) ≡ body (place s) read = here.body_is ∙ body_there s at read i k stays head ordered newest.opened whole_read amid in
        newest_is s (at m) t
        (record {
          opened = here.opened ∙ head.opened ∙ newest.opened;
          newer = λ is. let more = newest.newer (sym beside.opened ∙ is) in omega (arith, more, beside.number_is, here.number_is, head.number_is);
        })
        whole_here is_table (subst (λ b. IsFormOf t b) (sym body_here) form)

    -- the file held the table at a moment of the reading
    abbrev pub StoodIn : IsReadTwice at read → Type 0
    StoodIn r = (m : ℕ) × (r.first ≤ m) × (m ≤ r.second_again) × IsHeld (the_table t) (at m)

    by_slot : (r : IsReadTwice at read) → (s : Slot) → IsNewest s read → is_whole (place s) read ≡ true → IsFormOf t (body (place s) read) → StoodIn r
    by_slot r First newest whole_read form =
        (r.second, r.in_order.0, omega (arith, r.in_order.1, r.in_order.2), stood First r.first r.second r.first_again r.in_order.0 r.in_order.1 r.first_head r.first_head_again r.second_head r.first_body newest whole_read form)
    by_slot r Second newest whole_read form =
        (r.first_again, omega (arith, r.in_order.0, r.in_order.1), r.in_order.2, stood Second r.second r.first_again r.second_again r.in_order.1 r.in_order.2 r.second_head r.second_head_again r.first_head_again r.second_body newest whole_read form)

    pub table_stood : ((file kept : List ℕ) → body_held file ≡ the_body kept → (slot : Slot) × IsNewest slot file × (is_whole (place slot) file ≡ true) × (body (place slot) file ≡ kept))
        → (r : IsReadTwice at read) → IsHeld (the_table t) read → StoodIn r
    table_stood only r held =
        let found = only read held.1.body held.1.held in
        by_slot r found.0 found.1 found.2 (subst (λ b. IsFormOf t b) (sym found.3) held.1.form)

  pub stood_between : {T E : Type 0} (newest_is : (s : Slot) (file : List ℕ) (t : List JobParts) → IsNewest s file → is_whole (place s) file ≡ true → IsTable t → IsFormOf t (body (place s) file) → IsHeld (the_table t) file)
      → ((file kept : List ℕ) → body_held file ≡ the_body kept → (slot : Slot) × IsNewest slot file × (is_whole (place slot) file ≡ true) × (body (place slot) file ≡ kept))
      → (r : Result T E) (at : ℕ → List ℕ) (from until : ℕ) → IsServed at → (read : List ℕ) (t : List JobParts) → IsHeld (the_table t) read → OnOk r (IsReadTwiceBetween at from until read)
      → OnOk r ((m : ℕ) × (from ≤ m) × (m ≤ until) × IsHeld (the_table t) (at m))
  stood_between newest_is only (Ok v) at from until served read t held twice =
      let there = table_stood newest_is at served read t held.0 only twice.0 held in
      (there.0, omega (arith, twice.1, there.1), omega (arith, twice.2, there.2), there.3)
  stood_between newest_is only (Err e) at from until served read t held twice = tt
