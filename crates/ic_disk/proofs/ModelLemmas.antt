-- That what the clauses of a disk say of images is what the written model says.
use Rattle.std.proofs.Common.{◌≡◌, ◌⊎◌, inl, inr, ⊎_elim, ℕ, ◌≤◌, List, length, refl, sym, ◌∙◌, ap, subst, arith, Result, Ok, Err, OnOk, OnErr}
use Rattle.std.specs.Prelude.{◌↔◌}
use Rattle.ic_disk.specs.Content.{bytes_at, laid}
use Rattle.ic_disk.specs.Images.{Only, StaysOrTears, Torn, TornFrom, Within}
use Rattle.ic_disk.specs.PlainImages.{AgreesOutside, one_range}
use Rattle.ic_disk.specs.Time.{Elapses, LeftSince}
use Rattle.ic_disk.specs.Course.{MayRead, MaySync, MayTell, MayWrite}
use Rattle.ic_disk.specs.DiskCalls.{ReadsBytes, TellsLength}
use Rattle.ic_disk.specs.Model.{Write, write, sync, State, begun, after, after_failed, IsImageIn, IsInState}
use Rattle.ic_disk.specs.lemmas.ImageLaws.{settled_image, within_torn}
use Rattle.ic_disk.specs.lemmas.HistoryLaws.{write_reached}
use Rattle.ic_disk.proofs.HistoryLemmas.{write_images}

-- a crash in the midst of a call may leave what it may before and after it
pub reached_by : {D : Type 0} (image : D → List ℕ → Type 0) (clock : D → ℕ) (left : D → ℕ → List ℕ → Type 0) (old new : D) (midst : List ℕ → Type 0)
    → ((disk : D) (t : ℕ) (file : List ℕ) → t ≤ clock disk → image disk file → LeftSince (left disk) t file)
    → Elapses (clock old) (clock new) (left old) (left new) midst
    → (file : List ℕ) → image old file ⊎ image new file → LeftSince (left new) (clock old) file
reached_by image clock left old new midst image_is_left time file is = ⊎_elim
    (λ before. let there = image_is_left old (clock old) file (omega arith) before in (there.0, there.1, time.stays there.0 file there.2))
    (λ after. image_is_left new (clock old) file time.later after)
    is

module _ {D : Type 0} (content : D → List ℕ) (image : D → List ℕ → Type 0) where
  abbrev Is : D → State → Type 0
  Is = IsInState content image

  -- and nothing but images from before and those of its midst
  pub midst_by : (clock : D → ℕ) (left : D → ℕ → List ℕ → Type 0) (old new : D) (midst P : List ℕ → Type 0)
      → ((disk : D) (file : List ℕ) → LeftSince (left disk) (clock disk) file → image disk file)
      → Elapses (clock old) (clock new) (left old) (left new) midst
      → Within (image old) P → Within midst P → (file : List ℕ) → LeftSince (left new) (clock old) file → P file
  midst_by clock left old new midst P left_is_image time before during file is = ⊎_elim
      (λ past. before file (left_is_image old file (is.0, is.1, past)))
      (λ now. during file now.1)
      (time.nothing_else is.0 file is.2)

  pub begins : (d : D) → image d (content d) → Only (content d) (image d) → Is d (begun (content d))
  begins d now only = record {
    same = refl;
    no_others = λ file is. subst (IsImageIn (begun (content d))) (sym (only.no_other file is)) (settled_image (content d));
    all = λ file is. subst (image d) (sym (is.nothing_pending refl)) now;
  }

  pub unchanged : (old new : D) (s : State) → Is old s → content new ≡ content old → Within (image new) (image old) → Within (image old) (image new) → Is new s
  unchanged old new s is same within stay = record {
    same = same ∙ is.same;
    no_others = λ file image. is.no_others file (within file image);
    all = λ file image. stay file (is.all file image);
  }

  -- what is told and read of its content is what the model allows
  pub may_tell : {E : Type 0} (result : Result ℕ E) (d : D) (s : State) → Is d s → TellsLength (content d) result → MayTell result s
  may_tell (Ok n) d s is told = told ∙ ap length is.same
  may_tell (Err e) d s is told = tt

  pub may_read : {T E : Type 0} (at : ℕ) (result : Result T E) (old new : List ℕ) (d : D) (s : State) → Is d s → ReadsBytes at (content d) result old new → MayRead at result old new s
  may_read at (Ok x) old new d s is read = read ∙ ap (bytes_at at (length old)) is.same
  may_read at (Err e) old new d s is read = tt

  -- a write, whose torn images are those with its range pending
  module _ (w : Write) (s : State) (old : D) (is : Is old s) where
    abbrev Torn_images : List ℕ → Type 0
    Torn_images = TornFrom w.at (length w.bytes) (image old)

    pub torn_pending : Within Torn_images (IsImageIn (after (write w) s))
    torn_pending file from = write_reached w s file (from.0, is.no_others from.0 from.1, from.2)

    pending_torn : Within (IsImageIn (after (write w) s)) Torn_images
    pending_torn file image = let from = write_images w s file image in (from.0, is.all from.0 from.1, from.2)

    pub before_pending : Within (image old) (IsImageIn (after (write w) s))
    before_pending file was = torn_pending file (within_torn w.at (length w.bytes) (image old) file was)

    pub written : {T E : Type 0} (new : D) (result : Result T E) → OnOk result (content new ≡ laid w.at w.bytes (content old))
        → Within (image new) Torn_images → OnOk result (Within Torn_images (image new)) → OnOk result (Is new (after (write w) s))
    written new (Ok x) laid_is within reached = record {
      same = laid_is ∙ ap (laid w.at w.bytes) is.same;
      no_others = λ file image. torn_pending file (within file image);
      all = λ file image. reached file (pending_torn file image);
    }
    written new (Err e) laid_is within reached = tt

    pub failed : {T E : Type 0} (new : D) (result : Result T E) → Within (image new) Torn_images → Within (image old) (image new)
        → OnErr result (StaysOrTears w.at (length w.bytes) (content old) (content new) (image old) (image new))
        → OnErr result (Is new s ⊎ Is new (after_failed w (content new) s))
    failed new (Ok x) within stay either = tt
    failed new (Err e) within stay either = ⊎_elim
        (λ stays. inl (unchanged old new s is stays.0 stays.1 stay))
        (λ tears. inr (record { same = refl; no_others = λ file image. torn_pending file (within file image); all = λ file image. tears file (pending_torn file image) }))
        either

    pub torn_by : {T E : Type 0} (new : D) (result : Result T E) → OnErr result (Torn w.at (length w.bytes) (content old) (content new))
        → OnErr result (Torn w.at (length w.bytes) s.content (content new))
    torn_by new (Ok x) torn = tt
    torn_by new (Err e) torn = subst (λ (file : List ℕ). Torn w.at (length w.bytes) file (content new)) is.same torn

    -- so it has done what the model lets a write do
    pub may_write : {T E : Type 0} (new : D) (result : Result T E) → OnOk result (Is new (after (write w) s)) → OnErr result (Is new s ⊎ Is new (after_failed w (content new) s))
        → OnErr result (Torn w.at (length w.bytes) s.content (content new)) → (now : State) × MayWrite w result s now × Is new now
    may_write new (Ok x) made either torn = (after (write w) s, refl, made)
    may_write new (Err e) made either torn = ⊎_elim
        (λ stays. (s, inl refl, stays))
        (λ tears. (after_failed w (content new) s, inr (torn, refl), tears))
        either

  -- what was all synced, after a write
  pub agrees_exactly : {T E : Type 0} (at : ℕ) (bytes : List ℕ) (old new : D) (result : Result T E)
      → OnOk result (Is new (after (write (record { at = at; bytes = bytes })) (begun (content old))))
      → OnOk result ((file : List ℕ) → image new file ↔ AgreesOutside (one_range at (length bytes)) (content old) file)
  agrees_exactly at bytes old new (Ok x) is = λ file. (λ image. (is.no_others file image).agrees, λ agrees. is.all file (record { agrees = agrees; nothing_pending = λ none. cc }))
  agrees_exactly at bytes old new (Err e) is = tt

  -- a sync
  module _ (s : State) (old new : D) (is : Is old s) (same : content new ≡ content old) (now : image new (content new)) where
    alone : Only (content old) (image new) → Is new (after sync s)
    alone only = record {
      same = same ∙ is.same;
      no_others = λ file image. subst (IsImageIn (after sync s)) (sym (only.no_other file image ∙ is.same)) (settled_image s.content);
      all = λ file left. subst (image new) (same ∙ is.same ∙ sym (left.nothing_pending refl)) now;
    }

    pub synced : {T E : Type 0} (result : Result T E) → OnOk result (Only (content old) (image new)) → OnOk result (Is new (after sync s))
    synced (Ok x) only = alone only
    synced (Err e) only = tt

    pub unsynced : {T E : Type 0} (result : Result T E) → Within (image new) (image old) → OnErr result (Within (image old) (image new) ⊎ Only (content old) (image new))
        → OnErr result (Is new s ⊎ Is new (after sync s))
    unsynced (Ok x) within either = tt
    unsynced (Err e) within either = ⊎_elim (λ stay. inl (unchanged old new s is same within stay)) (λ only. inr (alone only)) either

    -- so it has done what the model lets a sync do
    pub may_sync : {T E : Type 0} (result : Result T E) → OnOk result (Is new (after sync s)) → OnErr result (Is new s ⊎ Is new (after sync s))
        → (now : State) × MaySync result s now × Is new now
    may_sync (Ok x) made either = (after sync s, refl, made)
    may_sync (Err e) made either = ⊎_elim (λ stays. (s, inl refl, stays)) (λ took. (after sync s, inr refl, took)) either
