-- How the images of a history go on with a call.
use Rattle.std.proofs.Common.{◌≡◌, ◌⊎◌, inl, inr, ⊎_elim, ℕ, ◌+◌, ◌≤◌, List, [], ◌∷◌, length, map, refl, sym, ◌∙◌, ap, subst, arith, length-append, Result, Ok, Err, OnOk, OnErr}
use Rattle.std.proofs.lemmas.Bool.{cases_lt}
use Rattle.std.proofs.lemmas.List.{take-append-le, map_push}
use Rattle.ic_disk.specs.Content.{laid}
use Rattle.ic_disk.specs.Images.{StaysOrTears, Torn, TornFrom, Within, Only}
use Rattle.ic_disk.specs.PlainImages.{Range, IsImage}
use Rattle.ic_disk.specs.Time.{Elapses}
use Rattle.ic_disk.specs.Model.{Write, Call, write, write_of, sync, State, begun, after, range_of, IsImageIn}
use Rattle.ic_disk.specs.History.{History, replay, state, state_at, content_of, image_of, clock_of, IsLeftAt, IsSynced, IsWritten, with_call, with_failure}
use Rattle.ic_disk.specs.lemmas.HistoryLaws.{state-with_call, state_at_end, write_reached, content_image}
use Rattle.ic_disk.specs.lemmas.ImageLaws.{image_settled, torn_laid, torn_same, within_torn}
use Rattle.ic_disk.proofs.ImageLemmas.{image_torn}
use Rattle.ic_disk.specs.lemmas.Moments.{elapses_none}

-- with the write's range pending as well there are the torn images and no others
pub write_images : (w : Write) (s : State) → Within (IsImageIn (after (write w) s)) (TornFrom w.at (length w.bytes) (IsImageIn s))
write_images w s file image =
    image_torn s.synced (map range_of s.pending) (range_of w) file
    (subst (λ (rs : List Range). IsImage s.synced rs file) (map_push range_of s.pending w) image)

-- the states of the past stay
state_at-with_call : (k : ℕ) (call : Call) (h : History) → k ≤ length h.calls → state_at k (with_call call h) ≡ state_at k h
state_at-with_call k call h past = ap (λ (calls : List Call). replay calls (begun h.first)) (take-append-le k h.calls (call ∷ []) past)

-- One call more, where each image after it is one of its midst.
pub elapses_call : (call : Call) (h : History) (midst : List ℕ → Type 0) → Within (IsImageIn (after call (state h))) midst
    → Elapses (length h.calls) (length (with_call call h).calls) (IsLeftAt h) (IsLeftAt (with_call call h)) midst
elapses_call call h midst within = record {
  later = omega (arith, length-append h.calls (call ∷ []));
  one_call = omega (arith, length-append h.calls (call ∷ []));
  nothing_else = λ t file left. ⊎_elim
      (λ past. inl (omega arith, subst (λ (s : State). IsImageIn s file) (state_at-with_call t call h (omega arith)) left.1))
      (λ present. inr (omega (arith, present), within file (subst (λ (s : State). IsImageIn s file) (state_at_end t (with_call call h) (omega (arith, length-append h.calls (call ∷ []))) ∙ state-with_call call h) left.1)))
      (cases_lt t (length h.calls + 1));
  stays = λ t file left. (omega (arith, left.0, length-append h.calls (call ∷ [])), subst (λ (s : State). IsImageIn s file) (sym (state_at-with_call t call h left.0)) left.1);
}

-- time goes on, with this in the midst
abbrev Passes : (List ℕ → Type 0) → History → History → Type 0
Passes midst h new = Elapses (clock_of h) (clock_of new) (IsLeftAt h) (IsLeftAt new) midst

-- What a write that failed leaves: nothing has changed, but perhaps the count, or some bytes were
-- written to its range.
abbrev pub LeftByWrite : Write → History → History → Type 0
LeftByWrite w h new =
    (new ≡ h) ⊎ ((new ≡ with_failure h) ⊎ ((bytes : List ℕ) × (length bytes ≡ length w.bytes) × (new ≡ with_call (write_of w.at bytes) h)))

-- what a sync that failed leaves: nothing has changed, but perhaps the count, or it was made all the same
abbrev pub LeftBySync : History → History → Type 0
LeftBySync h new = (new ≡ h) ⊎ ((new ≡ with_failure h) ⊎ (new ≡ with_call sync h))

-- a fact that holds of each of these
each : (h new : History) (P : History → Type 0) (F : History → Type 0) → F h → F (with_failure h) → (P new → F new) → (new ≡ h) ⊎ ((new ≡ with_failure h) ⊎ P new) → F new
each h new P F same failed made left = ⊎_elim (λ is. subst F (sym is) same) (λ or. ⊎_elim (λ is. subst F (sym is) failed) made or) left

-- the disk in memory leaves no call made that failed
pub write_not_made : {T E : Type 0} (w : Write) (h new : History) (result : Result T E) → OnErr result (new ≡ with_failure h) → OnErr result (LeftByWrite w h new)
write_not_made w h new (Ok x) is = tt
write_not_made w h new (Err e) is = inr (inl is)

pub sync_not_made : {T E : Type 0} (h new : History) (result : Result T E) → OnErr result (new ≡ with_failure h) → OnErr result (LeftBySync h new)
sync_not_made h new (Ok x) is = tt
sync_not_made h new (Err e) is = inr (inl is)

-- what follows from a write that was made
module _ (w : Write) (h : History) where
  abbrev Torn_images : List ℕ → Type 0
  Torn_images = TornFrom w.at (length w.bytes) (image_of h)

  same_content : content_of (with_call (write w) h) ≡ laid w.at w.bytes (content_of h)
  same_content = ap (λ (s : State). s.content) (state-with_call (write w) h)

  torn_made : Torn w.at (length w.bytes) (content_of h) (content_of (with_call (write w) h))
  torn_made = subst (Torn w.at (length w.bytes) (content_of h)) (sym same_content) (torn_laid w.at w.bytes (content_of h))

  image_written : Within (image_of (with_call (write w) h)) Torn_images
  image_written file image = write_images w (state h) file (subst (λ (s : State). IsImageIn s file) (state-with_call (write w) h) image)

  reached_written : Within Torn_images (image_of (with_call (write w) h))
  reached_written file from = subst (λ (s : State). IsImageIn s file) (sym (state-with_call (write w) h)) (write_reached w (state h) file from)

  within_before : Within (image_of h) Torn_images
  within_before = within_torn w.at (length w.bytes) (image_of h)

  stay_made : Within (image_of h) (image_of (with_call (write w) h))
  stay_made file image = reached_written file (within_before file image)

  passes_made : Passes Torn_images h (with_call (write w) h)
  passes_made = elapses_call (write w) h Torn_images (write_images w (state h))

-- what follows from a write, made or failed
module _ (w : Write) (h : History) where
  abbrev Failed : History → Type 0
  Failed new = StaysOrTears w.at (length w.bytes) (content_of h) (content_of new) (image_of h) (image_of new)

  -- what holds of any bytes that were written to its range
  abbrev Made : History → Type 0
  Made new = (bytes : List ℕ) × (length bytes ≡ length w.bytes) × (new ≡ with_call (write_of w.at bytes) h)

  to_range : (new : History) (F : ℕ → History → Type 0) → ((bytes : List ℕ) → F (length bytes) (with_call (write_of w.at bytes) h)) → Made new → F (length w.bytes) new
  to_range new F each_made made = subst (F (length w.bytes)) (sym made.2) (subst (λ (n : ℕ). F n (with_call (write_of w.at made.0) h)) made.1 (each_made made.0))

  -- the clauses on a write, of the answer and what it leaves
  written : {T E : Type 0} (result : Result T E) (new : History) → OnOk result (new ≡ with_call (write w) h) → OnOk result (content_of new ≡ laid w.at w.bytes (content_of h))
  written (Ok x) new is = ap content_of is ∙ same_content w h
  written (Err e) new is = tt

  torn : {T E : Type 0} (result : Result T E) (new : History) → OnErr result (LeftByWrite w h new) → OnErr result (Torn w.at (length w.bytes) (content_of h) (content_of new))
  torn (Ok x) new left = tt
  torn (Err e) new left =
      let same = torn_same w.at (length w.bytes) (content_of h) in
      each h new Made (λ (n : History). Torn w.at (length w.bytes) (content_of h) (content_of n)) same same
      (to_range new (λ (k : ℕ) (n : History). Torn w.at k (content_of h) (content_of n))
      (λ bytes. torn_made (record { at = w.at; bytes = bytes }) h))
      left

  images_written : {T E : Type 0} (result : Result T E) (new : History) → OnOk result (new ≡ with_call (write w) h) → OnErr result (LeftByWrite w h new) → Within (image_of new) (Torn_images w h)
  images_written (Ok x) new is none = subst (λ (n : History). Within (image_of n) (Torn_images w h)) (sym is) (image_written w h)
  images_written (Err e) new none left =
      each h new Made (λ (n : History). Within (image_of n) (Torn_images w h)) (within_before w h) (within_before w h)
      (to_range new (λ (k : ℕ) (n : History). Within (image_of n) (TornFrom w.at k (image_of h)))
      (λ bytes. image_written (record { at = w.at; bytes = bytes }) h))
      left

  reached : {T E : Type 0} (result : Result T E) (new : History) → OnOk result (new ≡ with_call (write w) h) → OnOk result (Within (Torn_images w h) (image_of new))
  reached (Ok x) new is = subst (λ (n : History). Within (Torn_images w h) (image_of n)) (sym is) (reached_written w h)
  reached (Err e) new is = tt

  stay_written : {T E : Type 0} (result : Result T E) (new : History) → OnOk result (new ≡ with_call (write w) h) → OnErr result (LeftByWrite w h new) → Within (image_of h) (image_of new)
  stay_written (Ok x) new is none = subst (λ (n : History). Within (image_of h) (image_of n)) (sym is) (stay_made w h)
  stay_written (Err e) new none left =
      each h new Made (λ (n : History). Within (image_of h) (image_of n)) (λ file image. image) (λ file image. image)
      (to_range new (λ (k : ℕ) (n : History). Within (image_of h) (image_of n)) (λ bytes. stay_made (record { at = w.at; bytes = bytes }) h))
      left

  failed_written : {T E : Type 0} (result : Result T E) (new : History) → OnErr result (LeftByWrite w h new) → OnErr result (Failed new)
  failed_written (Ok x) new left = tt
  failed_written (Err e) new left =
      each h new Made Failed (inl (refl, λ file image. image)) (inl (refl, λ file image. image))
      (λ made. inr (to_range new (λ (k : ℕ) (n : History). Within (TornFrom w.at k (image_of h)) (image_of n))
      (λ bytes. reached_written (record { at = w.at; bytes = bytes }) h) made))
      left

  time_written : {T E : Type 0} (result : Result T E) (new : History) → OnOk result (new ≡ with_call (write w) h) → OnErr result (LeftByWrite w h new) → Passes (Torn_images w h) h new
  time_written (Ok x) new is none = subst (Passes (Torn_images w h) h) (sym is) (passes_made w h)
  time_written (Err e) new none left =
      let none = elapses_none (clock_of h) (IsLeftAt h) (Torn_images w h) in
      each h new Made (Passes (Torn_images w h) h) none none
      (to_range new (λ (k : ℕ) (n : History). Passes (TornFrom w.at k (image_of h)) h n)
      (λ bytes. passes_made (record { at = w.at; bytes = bytes }) h))
      left

  pub disk_write : {T E : Type 0} (result : Result T E) (new : History) → OnOk result (new ≡ with_call (write w) h) → OnErr result (LeftByWrite w h new)
      → IsWritten w.at w.bytes result h new
  disk_write result new made left = record {
    written = written result new made;
    torn = torn result new left;
    images = images_written result new made left;
    stay = stay_written result new made left;
    all_torn = reached result new made;
    failed = failed_written result new left;
    time = time_written result new made left;
  }

-- what follows from a sync, made or failed
module _ (h : History) where
  abbrev Synced : History → Type 0
  Synced new = new ≡ with_call sync h

  synced_content : content_of (with_call sync h) ≡ content_of h
  synced_content = ap (λ (s : State). s.content) (state-with_call sync h)

  only_synced : Only (content_of h) (image_of (with_call sync h))
  only_synced = subst (λ (s : State). Only (content_of h) (IsImageIn s)) (sym (state-with_call sync h)) (image_settled (content_of h))

  -- the content was an image already
  within_synced : Within (image_of (with_call sync h)) (image_of h)
  within_synced file image = subst (λ (f : List ℕ). image_of h f) (sym (only_synced.no_other file image)) (content_image h)

  abbrev Passes_synced : History → Type 0
  Passes_synced new = Elapses (length h.calls) (length new.calls) (IsLeftAt h) (IsLeftAt new) (image_of h)

  synced_passes : Passes_synced (with_call sync h)
  synced_passes = elapses_call sync h (image_of h) (λ file image. within_synced file (subst (λ (s : State). IsImageIn s file) (sym (state-with_call sync h)) image))

  none_passes : Passes_synced h
  none_passes = elapses_none (length h.calls) (IsLeftAt h) (image_of h)

  -- the clauses on a sync
  same_synced : {T E : Type 0} (result : Result T E) (new : History) → OnOk result (new ≡ with_call sync h) → OnErr result (LeftBySync h new) → content_of new ≡ content_of h
  same_synced (Ok x) new is none = ap content_of is ∙ synced_content
  same_synced (Err e) new none left = each h new Synced (λ (n : History). content_of n ≡ content_of h) refl refl (λ is. ap content_of is ∙ synced_content) left

  durable : {T E : Type 0} (result : Result T E) (new : History) → OnOk result (new ≡ with_call sync h) → OnOk result (Only (content_of h) (image_of new))
  durable (Ok x) new is = subst (λ (n : History). Only (content_of h) (image_of n)) (sym is) only_synced
  durable (Err e) new is = tt

  images_synced : {T E : Type 0} (result : Result T E) (new : History) → OnOk result (new ≡ with_call sync h) → OnErr result (LeftBySync h new) → Within (image_of new) (image_of h)
  images_synced (Ok x) new is none = subst (λ (n : History). Within (image_of n) (image_of h)) (sym is) within_synced
  images_synced (Err e) new none left = each h new Synced (λ (n : History). Within (image_of n) (image_of h)) (λ file image. image) (λ file image. image) (λ is. subst (λ (n : History). Within (image_of n) (image_of h)) (sym is) within_synced) left

  failed_synced : {T E : Type 0} (result : Result T E) (new : History) → OnErr result (LeftBySync h new) → OnErr result (Within (image_of h) (image_of new) ⊎ Only (content_of h) (image_of new))
  failed_synced (Ok x) new left = tt
  failed_synced (Err e) new left = each h new Synced (λ (n : History). Within (image_of h) (image_of n) ⊎ Only (content_of h) (image_of n)) (inl (λ file image. image)) (inl (λ file image. image)) (λ is. inr (subst (λ (n : History). Only (content_of h) (image_of n)) (sym is) only_synced)) left

  time_synced : {T E : Type 0} (result : Result T E) (new : History) → OnOk result (new ≡ with_call sync h) → OnErr result (LeftBySync h new) → Passes_synced new
  time_synced (Ok x) new is none = subst Passes_synced (sym is) synced_passes
  time_synced (Err e) new none left = each h new Synced Passes_synced none_passes none_passes (λ is. subst Passes_synced (sym is) synced_passes) left

  pub disk_sync : {T E : Type 0} (result : Result T E) (new : History) → OnOk result (new ≡ with_call sync h) → OnErr result (LeftBySync h new) → IsSynced result h new
  disk_sync result new made left = record {
    same = same_synced result new made left;
    durable = durable result new made;
    images = images_synced result new made left;
    failed = failed_synced result new left;
    time = time_synced result new made left;
  }
