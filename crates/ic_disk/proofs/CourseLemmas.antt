-- That whatever the written model allows is what the clauses of a disk say.
use Rattle.std.proofs.Common.{◌≡◌, ◌⊎◌, inl, inr, ⊎_elim, ℕ, ◌+◌, ◌-◌, ◌^◌, ◌<◌, ◌≤◌, List, [], ◌∷◌, length, refl, sym, ap, subst, arith, min, Result, Ok, Err}
use Rattle.std.proofs.Math.Nat.{eq-or-lt_of_le}
use Rattle.ic_disk.specs.Images.{Only, Torn, TornFrom, Within}
use Rattle.ic_disk.specs.Time.{CountsFailure, Elapses, LeftSince, OneMore}
use Rattle.ic_disk.specs.DiskCalls.{ChangesNothing, IsDiskSync, IsDiskWrite, ReadsBytes, TellsLength}
use Rattle.ic_disk.specs.Model.{Write, write, sync, State, begun, after, after_failed, IsImageIn}
use Rattle.ic_disk.specs.Course.{AreBefore, Course, IsCourse, IsLeftAtOne, MayRead, MaySync, MayTell, MayWrite, Moment, after_call, calls_in, content_in, failures_after, first_course, image_in, left_in}
use Rattle.ic_disk.specs.lemmas.HistoryLaws.{write_reached}
use Rattle.ic_disk.specs.lemmas.ImageLaws.{image_settled, settled_image, torn_laid, torn_same, within_torn}
use Rattle.ic_disk.proofs.HistoryLemmas.{write_images}

-- time goes on by a call
elapses_in : {T E : Type 0} (result : Result T E) (c : Course) (midst now : State) (P : List ℕ → Type 0) → Within (IsImageIn midst) P → Within (IsImageIn now) P
    → Elapses (calls_in c) (calls_in (after_call result midst now c)) (left_in c) (left_in (after_call result midst now c)) P
elapses_in result c midst now P of_midst of_now = record {
  later = omega arith;
  one_call = omega arith;
  nothing_else = λ t file left. ⊎_elim
      (λ present. inr (omega (arith, present.0), of_now file present.1))
      (λ past. ⊎_elim (λ before. inl (inl before)) (λ rest. ⊎_elim (λ during. inr (omega (arith, during.0), of_midst file during.1)) (λ long_ago. inl (inr long_ago)) rest) past)
      left;
  stays = λ t file left. inr (⊎_elim (λ present. inl present) (λ past. inr (inr past)) left);
}

module _ (w : Write) (c : Course) where
  abbrev Torn_images : List ℕ → Type 0
  Torn_images = TornFrom w.at (length w.bytes) (image_in c)

  abbrev pending : State
  pending = after (write w) c.state

  during : Within (IsImageIn pending) Torn_images
  during = write_images w c.state

  reached : Within Torn_images (IsImageIn pending)
  reached = write_reached w c.state

  before : Within (image_in c) Torn_images
  before = within_torn w.at (length w.bytes) (image_in c)

  stay : Within (image_in c) (IsImageIn pending)
  stay file image = reached file (before file image)

  abbrev Writes : {T E : Type 0} → Result T E → State → Type 0
  Writes result now = IsDiskWrite content_in image_in calls_in left_in w.at w.bytes result c (after_call result pending now c)

  done : {T E : Type 0} (value : T) → Writes {T = T} {E = E} (Ok value) pending
  done {T = T} {E = E} value = record {
    written = refl;
    torn = tt;
    images = during;
    stay = stay;
    all_torn = reached;
    failed = tt;
    time = elapses_in {T = T} {E = E} (Ok value) c pending pending Torn_images during during;
  }

  not_done : {T E : Type 0} (fault : E) → Writes {T = T} {E = E} (Err fault) c.state
  not_done {T = T} {E = E} fault = record {
    written = tt;
    torn = torn_same w.at (length w.bytes) (content_in c);
    images = before;
    stay = λ file image. image;
    all_torn = tt;
    failed = inl (refl, λ file image. image);
    time = elapses_in {T = T} {E = E} (Err fault) c pending c.state Torn_images during before;
  }

  torn : {T E : Type 0} (fault : E) (content : List ℕ) → Torn w.at (length w.bytes) (content_in c) content → Writes {T = T} {E = E} (Err fault) (after_failed w content c.state)
  torn {T = T} {E = E} fault content is = record {
    written = tt;
    torn = is;
    images = during;
    stay = stay;
    all_torn = tt;
    failed = inr reached;
    time = elapses_in {T = T} {E = E} (Err fault) c pending (after_failed w content c.state) Torn_images during during;
  }

  pub write_in : {T E : Type 0} (result : Result T E) (now : State) → MayWrite w result c.state now → Writes result now
  write_in {T = T} {E = E} (Ok value) now may = subst (λ (s : State). Writes {T = T} {E = E} (Ok value) s) (sym may) (done value)
  write_in {T = T} {E = E} (Err fault) now may = ⊎_elim
      (λ same. subst (λ (s : State). Writes {T = T} {E = E} (Err fault) s) (sym same) (not_done fault))
      (λ tears. subst (λ (s : State). Writes {T = T} {E = E} (Err fault) s) (sym tears.1) (torn fault now.content tears.0))
      may

-- a sync
module _ (c : Course) (image : image_in c (content_in c)) where
  abbrev Syncs : {T E : Type 0} → Result T E → State → Type 0
  Syncs result now = IsDiskSync content_in image_in calls_in left_in result c (after_call result c.state now c)

  only : Only (content_in c) (IsImageIn (after sync c.state))
  only = image_settled (content_in c)

  within : Within (IsImageIn (after sync c.state)) (image_in c)
  within file is = subst (image_in c) (sym (only.no_other file is)) image

  synced : {T E : Type 0} (value : T) → Syncs {T = T} {E = E} (Ok value) (after sync c.state)
  synced {T = T} {E = E} value = record { same = refl; durable = only; images = within; failed = tt; time = elapses_in {T = T} {E = E} (Ok value) c c.state (after sync c.state) (image_in c) (λ file is. is) within }

  not_synced : {T E : Type 0} (fault : E) → Syncs {T = T} {E = E} (Err fault) c.state
  not_synced {T = T} {E = E} fault = record { same = refl; durable = tt; images = λ file is. is; failed = inl (λ file is. is); time = elapses_in {T = T} {E = E} (Err fault) c c.state c.state (image_in c) (λ file is. is) (λ file is. is) }

  synced_all_the_same : {T E : Type 0} (fault : E) → Syncs {T = T} {E = E} (Err fault) (after sync c.state)
  synced_all_the_same {T = T} {E = E} fault = record { same = refl; durable = tt; images = within; failed = inr only; time = elapses_in {T = T} {E = E} (Err fault) c c.state (after sync c.state) (image_in c) (λ file is. is) within }

  pub sync_in : {T E : Type 0} (result : Result T E) (now : State) → MaySync result c.state now → Syncs result now
  sync_in {T = T} {E = E} (Ok value) now may = subst (λ (s : State). Syncs {T = T} {E = E} (Ok value) s) (sym may) (synced value)
  sync_in {T = T} {E = E} (Err fault) now may = ⊎_elim
      (λ same. subst (λ (s : State). Syncs {T = T} {E = E} (Err fault) s) (sym same) (not_synced fault))
      (λ took. subst (λ (s : State). Syncs {T = T} {E = E} (Err fault) s) (sym took) (synced_all_the_same fault))
      may

-- a call that changes nothing
pub nothing_in : {T E : Type 0} (result : Result T E) (c : Course) → ChangesNothing content_in image_in calls_in left_in c (after_call result c.state c.state c)
nothing_in result c = record { same = refl; images = λ file is. is; stay = λ file is. is; time = elapses_in result c c.state c.state (image_in c) (λ file is. is) (λ file is. is) }

-- what it tells and reads
pub told_in : {E : Type 0} (result : Result ℕ E) (c : Course) → MayTell result c.state → TellsLength (content_in c) result
told_in (Ok n) c may = may
told_in (Err fault) c may = tt

pub read_in : {T E : Type 0} (at : ℕ) (result : Result T E) (old new : List ℕ) (c : Course) → MayRead at result old new c.state → ReadsBytes at (content_in c) result old new
read_in at (Ok value) old new c may = may
read_in at (Err fault) old new c may = tt

-- ---- how its failures are counted

one_more : (n : ℕ) → n ≤ 2 ^ 64 - 1 → OneMore n (min (n + 1) (2 ^ 64 - 1))
one_more n end = ⊎_elim
    (λ last. inr (last, omega (arith, last)))
    (λ below. inl (below, omega (arith, below)))
    (eq-or-lt_of_le {n = n} {m = 2 ^ 64 - 1} end)

pub counted_in : {T E : Type 0} (result : Result T E) (n : ℕ) → n ≤ 2 ^ 64 - 1 → CountsFailure result n (failures_after result n)
counted_in (Ok value) n end = refl
counted_in (Err fault) n end = one_more n end

count_ends : {T E : Type 0} (result : Result T E) (n : ℕ) → n ≤ 2 ^ 64 - 1 → failures_after result n ≤ 2 ^ 64 - 1
count_ends (Ok value) n end = end
count_ends (Err fault) n end = omega arith

-- ---- what holds of each course

later : (n : ℕ) (ms : List Moment) → AreBefore n ms → AreBefore (n + 1) ms
later n [] past = tt
later n (m ∷ ms) past = (omega (arith, past.0), later n ms past.1)

-- a moment at which fewer calls had ended isn't one since then
none_since : (n k : ℕ) (ms : List Moment) (file : List ℕ) → n ≤ k → AreBefore n ms → IsLeftAtOne ms k file → ⊥
none_since n k [] file since past left = left
none_since n k (m ∷ ms) file since past left = ⊎_elim (λ here. absurd (omega (arith, since, past.0, here.0))) (λ rest. none_since n k ms file since past.1 rest) left

pub begins : (file : List ℕ) → IsCourse (first_course file)
begins file = record { content_is_image = settled_image file; failures_end = omega arith; past_is_before = tt }

goes_on : {T E : Type 0} (result : Result T E) (midst now : State) (c : Course) → IsCourse c → IsImageIn now now.content → IsCourse (after_call result midst now c)
goes_on result midst now c is image = record { content_is_image = image; failures_end = count_ends result c.failures is.failures_end; past_is_before = (omega arith, (omega arith, later c.calls c.past is.past_is_before)) }

written_image : {T E : Type 0} (w : Write) (result : Result T E) (s now : State) → IsImageIn s s.content → MayWrite w result s now → IsImageIn now now.content
written_image w (Ok value) s now image may = subst (λ (n : State). IsImageIn n n.content) (sym may) (write_reached w s (after (write w) s).content (s.content, image, torn_laid w.at w.bytes s.content))
written_image w (Err fault) s now image may = ⊎_elim
    (λ same. subst (λ (n : State). IsImageIn n n.content) (sym same) image)
    (λ tears. subst (λ (n : State). IsImageIn n now.content) (sym tears.1) (write_reached w s now.content (s.content, image, tears.0)))
    may

synced_image : {T E : Type 0} (result : Result T E) (s now : State) → IsImageIn s s.content → MaySync result s now → IsImageIn now now.content
synced_image (Ok value) s now image may = subst (λ (n : State). IsImageIn n n.content) (sym may) (settled_image s.content)
synced_image (Err fault) s now image may = ⊎_elim
    (λ same. subst (λ (n : State). IsImageIn n n.content) (sym same) image)
    (λ took. subst (λ (n : State). IsImageIn n n.content) (sym took) (settled_image s.content))
    may

pub goes_on_writing : {T E : Type 0} (w : Write) (result : Result T E) (c : Course) (now : State) → IsCourse c → MayWrite w result c.state now → IsCourse (after_call result (after (write w) c.state) now c)
goes_on_writing w result c now is may = goes_on result (after (write w) c.state) now c is (written_image w result c.state now is.content_is_image may)

pub goes_on_syncing : {T E : Type 0} (result : Result T E) (c : Course) (now : State) → IsCourse c → MaySync result c.state now → IsCourse (after_call result c.state now c)
goes_on_syncing result c now is may = goes_on result c.state now c is (synced_image result c.state now is.content_is_image may)

pub goes_on_reading : {T E : Type 0} (result : Result T E) (c : Course) → IsCourse c → IsCourse (after_call result c.state c.state c)
goes_on_reading result c is = goes_on result c.state c.state c is is.content_is_image

pub left_is_image_in : (c : Course) (file : List ℕ) → IsCourse c → LeftSince (left_in c) c.calls file → image_in c file
left_is_image_in c file is left = ⊎_elim (λ present. present.1) (λ past. absurd (none_since c.calls left.0 c.past file left.1 is.past_is_before past)) left.2
