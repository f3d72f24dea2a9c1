-- That each choice at a crash leaves an image, and which one the code makes.
use Rattle.std.proofs.Common.{◌≡◌, ◌⊎◌, inl, inr, ⊎_elim, ℕ, ◌+◌, ◌-◌, ◌<◌, ◌≤◌, List, [], ◌∷◌, ◌++◌, length, get_or, map, take, drop, refl, sym, ◌∙◌, ap, subst, arith, length-take, min}
use Rattle.std.specs.Prelude.{replicate}
use Rattle.std.proofs.lemmas.Bool.{cases_lt}
use Rattle.std.proofs.lemmas.List.{take_min, ext_get_or, get_or-replicate, length-replicate}
use Rattle.ic_disk.specs.Content.{laid}
use Rattle.ic_disk.specs.lemmas.ContentLaws.{length-laid, laid-before, laid-inside, laid-after}
use Rattle.ic_disk.specs.PlainImages.{Range, IsOutside, AgreesOutside}
use Rattle.ic_disk.specs.Model.{Write, Call, write, sync, State, begun, after, range_of, IsImageIn}
use Rattle.ic_disk.specs.History.{History, replay, state, content_of, image_of}
use Rattle.ic_disk.specs.lemmas.HistoryLaws.{content_image}
use Rattle.ic_disk.specs.Crash.{after_bytes, fronted}
use Rattle.ic_disk.specs.inner.Writes.{writes_of, laid_all, filled_all, filled_past, EndWithin}
use Rattle.ic_disk.specs.Crash.{IsInside, IsFilled, Takes}
use Rattle.ic_disk.specs.inner.MemDisk.{Keeps}
use Rattle.ic_disk.specs.declared.mem.Choice.{Choice}
use Rattle.ic_disk.specs.declared.mem.Choice.TheVariants.{Synced, Written, Fill, Front}

-- the writes alone make the content
pub laid_all-replay : (calls : List Call) (s : State) → laid_all (writes_of calls) s.content ≡ (replay calls s).content
laid_all-replay [] s = refl
laid_all-replay (write w ∷ calls) s = laid_all-replay calls (after (write w) s)
laid_all-replay (sync ∷ calls) s = laid_all-replay calls (after sync s)

pub writes_of-write : (ws : List Write) → writes_of (map write ws) ≡ ws
writes_of-write [] = refl
writes_of-write (w ∷ ws) = ap (λ (l : List Write). w ∷ l) (writes_of-write ws)

-- each pending write ends within the content
EndWithin-longer : (m n : ℕ) (ws : List Write) → m ≤ n → EndWithin m ws → EndWithin n ws
EndWithin-longer m n [] le within = tt
EndWithin-longer m n (w ∷ ws) le within = (omega (arith, within.0), EndWithin-longer m n ws le within.1)

EndWithin-push : (n : ℕ) (ws : List Write) (w : Write) → EndWithin n ws → w.at + length w.bytes ≤ n → EndWithin n (ws ++ w ∷ [])
EndWithin-push n [] w within here = (here, tt)
EndWithin-push n (v ∷ ws) w within here = (within.0, EndWithin-push n ws w within.1 here)

replay_ends : (calls : List Call) (s : State) → EndWithin (length s.content) s.pending → EndWithin (length (replay calls s).content) (replay calls s).pending
replay_ends [] s within = within
replay_ends (write w ∷ calls) s within =
    let longer = length-laid w.at w.bytes s.content in
    replay_ends calls (after (write w) s)
    (EndWithin-push (length (laid w.at w.bytes s.content)) s.pending w (EndWithin-longer (length s.content) (length (laid w.at w.bytes s.content)) s.pending (omega (arith, longer)) within) (omega (arith, longer)))
replay_ends (sync ∷ calls) s within = replay_ends calls (after sync s) tt

pub pending_end : (h : History) → EndWithin (length (content_of h)) (state h).pending
pending_end h = replay_ends h.calls (begun h.first) tt

-- a byte laid in a range
length-byte_laid : (at n byte : ℕ) (file : List ℕ) → at + n ≤ length file → length (laid at (replicate n byte) file) ≡ length file
length-byte_laid at n byte file within = omega (arith, length-laid at (replicate n byte) file, length-replicate {A = ℕ} n byte)

byte_laid-inside : (at n byte : ℕ) (file : List ℕ) (i : ℕ) → at ≤ i → i < at + n → get_or (laid at (replicate n byte) file) i 0 ≡ byte
byte_laid-inside at n byte file i from until =
    laid-inside at (replicate n byte) file i from (omega (arith, length-replicate {A = ℕ} n byte)) ∙ get_or-replicate n (i - at) byte 0 (omega arith)

byte_laid-outside : (at n byte : ℕ) (file : List ℕ) (i : ℕ) → (i < at) ⊎ (at + n ≤ i) → get_or (laid at (replicate n byte) file) i 0 ≡ get_or file i 0
byte_laid-outside at n byte file i outside = ⊎_elim
    (λ before. laid-before at (replicate n byte) file i before)
    (λ beyond. laid-after at (replicate n byte) file i (omega (arith, length-replicate {A = ℕ} n byte)))
    outside

pub length-filled_all : (byte : ℕ) (ws : List Write) (file : List ℕ) → EndWithin (length file) ws → length (filled_all byte ws file) ≡ length file
length-filled_all byte [] file within = refl
length-filled_all byte (w ∷ ws) file within =
    let same = length-byte_laid w.at (length w.bytes) byte file within.0 in
    length-filled_all byte ws (laid w.at (replicate (length w.bytes) byte) file) (subst (λ (n : ℕ). EndWithin n ws) (sym same) within.1) ∙ same

filled_all-outside : (byte : ℕ) (ws : List Write) (file : List ℕ) (i : ℕ) → IsOutside (map range_of ws) i → get_or (filled_all byte ws file) i 0 ≡ get_or file i 0
filled_all-outside byte [] file i outside = refl
filled_all-outside byte (w ∷ ws) file i outside =
    filled_all-outside byte ws (laid w.at (replicate (length w.bytes) byte) file) i outside.1 ∙ byte_laid-outside w.at (length w.bytes) byte file i outside.0

-- each place is inside or outside
inside_or_outside : (ranges : List Range) (i : ℕ) → IsInside ranges i ⊎ IsOutside ranges i
inside_or_outside [] i = inr tt
inside_or_outside (r ∷ ranges) i = ⊎_elim
    (λ inside. inl (inr inside))
    (λ outside. ⊎_elim
    (λ before. inr (inl before, outside))
    (λ from. ⊎_elim (λ until. inl (inl (from, until))) (λ beyond. inr (inr beyond, outside)) (cases_lt i (r.at + r.size)))
    (cases_lt i r.at))
    (inside_or_outside ranges i)

filled_all-inside : (byte : ℕ) (ws : List Write) (file : List ℕ) (i : ℕ) → IsInside (map range_of ws) i → get_or (filled_all byte ws file) i 0 ≡ byte
filled_all-inside byte [] file i inside = absurd inside
filled_all-inside byte (w ∷ ws) file i inside = ⊎_elim
    (λ later. filled_all-inside byte ws (laid w.at (replicate (length w.bytes) byte) file) i later)
    (λ outside. filled_all-outside byte ws (laid w.at (replicate (length w.bytes) byte) file) i outside ∙ ⊎_elim
    (λ here. byte_laid-inside w.at (length w.bytes) byte file i here.0 here.1)
    (λ later. absurd (never (map range_of ws) i later outside))
    inside)
    (inside_or_outside (map range_of ws) i)
  where
    never : (ranges : List Range) (i : ℕ) → IsInside ranges i → IsOutside ranges i → ⊥
    never [] i is_in out = is_in
    never (r ∷ ranges) i is_in out = ⊎_elim (λ here. ⊎_elim (λ before. omega arith) (λ beyond. omega arith) out.0) (λ later. never ranges i later out.1) is_in

-- the pending ranges filled, and then all that is past what was synced
pub filled_left : (byte n : ℕ) (h : History) → n ≡ length (state h).synced → IsFilled byte (state h) (filled_past byte n (filled_all byte (state h).pending (content_of h)))
filled_left byte n h is = record {
  as_long = length-byte_laid n m byte file to_end ∙ long;
  kept = λ i inside outside. byte_laid-outside n m byte file i (inl (omega (arith, is, inside))) ∙ filled_all-outside byte ws (content_of h) i outside;
  pending = λ i inside is_in. ⊎_elim
      (λ before. byte_laid-outside n m byte file i (inl before) ∙ filled_all-inside byte ws (content_of h) i is_in)
      (λ from. byte_laid-inside n m byte file i from (omega (arith, long, inside)))
      (cases_lt i n);
  past = λ i inside beyond. byte_laid-inside n m byte file i (omega (arith, is, beyond)) (omega (arith, long, inside, short));
}
  where
    ws : List Write
    ws = (state h).pending

    file : List ℕ
    file = filled_all byte ws (content_of h)

    m : ℕ
    m = length file - n

    long : length file ≡ length (content_of h)
    long = length-filled_all byte ws (content_of h) (pending_end h)

    short : n ≤ length (content_of h)
    short = omega (arith, is, (content_image h).agrees.no_shorter)

    to_end : n + m ≤ length file
    to_end = omega (arith, long, short)

filled_image : (byte : ℕ) (h : History) (left : List ℕ) → IsFilled byte (state h) left → image_of h left
filled_image byte h left filled =
    let now = content_image h in
    record {
      agrees = record {
        no_shorter = omega (arith, filled.as_long, now.agrees.no_shorter);
        same = λ i inside outside. filled.kept i inside outside ∙ now.agrees.same i inside outside;
      };
      nothing_pending = λ none.
          let same : content_of h ≡ (state h).synced = now.nothing_pending none in
          ext_get_or 0 left (state h).synced (filled.as_long ∙ ap length same)
          (λ i inside. filled.kept i (omega (arith, inside, filled.as_long, ap length same)) (subst (λ (rs : List Range). IsOutside rs i) (sym none) tt) ∙ ap (λ (f : List ℕ). get_or f i 0) same);
    }

-- the front of a write
length-after_bytes : (at : ℕ) (bytes file : List ℕ) → length file ≤ length (after_bytes at bytes file)
length-after_bytes at [] file = omega arith
length-after_bytes at (b ∷ bytes) file = omega (arith, length-laid at (b ∷ bytes) file)

after_bytes-outside : (at n : ℕ) (bytes file : List ℕ) (i : ℕ) → length bytes ≤ n → (i < at) ⊎ (at + n ≤ i) → get_or (after_bytes at bytes file) i 0 ≡ get_or file i 0
after_bytes-outside at n [] file i short outside = refl
after_bytes-outside at n (b ∷ bytes) file i short outside = ⊎_elim
    (λ before. laid-before at (b ∷ bytes) file i before)
    (λ beyond. laid-after at (b ∷ bytes) file i (omega (arith, beyond, short)))
    outside

fronted_agrees : (n : ℕ) (ws : List Write) (file : List ℕ) → AgreesOutside (map range_of ws) file (fronted n ws file)
fronted_agrees n [] file = record { no_shorter = omega arith; same = λ i inside outside. refl }
fronted_agrees n (w ∷ ws) file =
    let next = after_bytes w.at (take n w.bytes) file in
    let rest = fronted_agrees (n - length w.bytes) ws next in
    let longer = length-after_bytes w.at (take n w.bytes) file in
    record {
      no_shorter = omega (arith, rest.no_shorter, longer);
      same = λ i inside outside. rest.same i (omega (arith, inside, longer)) outside.1
          ∙ after_bytes-outside w.at (length w.bytes) (take n w.bytes) file i (omega (arith, length-take n w.bytes)) outside.0;
    }

fronted_image : (n : ℕ) (s : State) → IsImageIn s (fronted n s.pending s.synced)
fronted_image n s = record { agrees = fronted_agrees n s.pending s.synced; nothing_pending = λ none. alone s.pending none }
  where
    alone : (ws : List Write) → map range_of ws ≡ [] → fronted n ws s.synced ≡ s.synced
    alone [] none = refl
    alone (w ∷ ws) none = cc

-- each choice leaves an image
pub takes_image : (choice : Choice) (h : History) (left : List ℕ) → Takes choice (state h) left → image_of h left
takes_image Synced h left is = subst (image_of h) (sym is) (record { agrees = record { no_shorter = omega arith; same = λ i inside outside. refl }; nothing_pending = λ none. refl })
takes_image Written h left is = subst (image_of h) (sym is) (content_image h)
takes_image (Fill byte) h left is = filled_image byte h left is
takes_image (Front n) h left is = subst (image_of h) (sym is) (fronted_image n (state h))

-- a write is begun with its first byte
after_bytes-laid : (at : ℕ) (bytes file : List ℕ) → 0 < length bytes → after_bytes at bytes file ≡ laid at bytes file
after_bytes-laid at [] file some = absurd (omega arith)
after_bytes-laid at (b ∷ bytes) file some = refl

after_bytes-none : (at : ℕ) (bytes file : List ℕ) → length bytes ≡ 0 → after_bytes at bytes file ≡ file
after_bytes-none at [] file none = refl
after_bytes-none at (b ∷ bytes) file none = absurd (omega arith)

-- as many bytes are taken as there are and as are left
pub after_bytes-taken : (at left taken : ℕ) (bytes file : List ℕ) → taken ≡ min left (length bytes) → 0 < taken → after_bytes at (take left bytes) file ≡ laid at (take taken bytes) file
after_bytes-taken at left taken bytes file is some =
    let same : take left bytes ≡ take taken bytes = sym (take_min left bytes) ∙ ap (λ (n : ℕ). take n bytes) (sym is) in
    ap (λ (bs : List ℕ). after_bytes at bs file) same ∙ after_bytes-laid at (take taken bytes) file (omega (arith, length-take taken bytes))

pub after_bytes-untaken : (at left : ℕ) (bytes file : List ℕ) → min left (length bytes) ≡ 0 → after_bytes at (take left bytes) file ≡ file
after_bytes-untaken at left bytes file none = after_bytes-none at (take left bytes) file (omega (arith, none, length-take left bytes))

pub ruleset some_bytes = (after_bytes-taken, after_bytes-untaken)

-- what the code makes of the fields at each choice
module _ (h : History) (content : List ℕ) (n k : ℕ) (keeps : Keeps h content n k) where
  pub pending_writes : writes_of (drop k h.calls) ≡ (state h).pending
  pending_writes = ap writes_of keeps.pending_is ∙ writes_of-write (state h).pending

  pub synced_made : laid_all (writes_of (take k h.calls)) h.first ≡ (state h).synced
  synced_made = laid_all-replay (take k h.calls) (begun h.first) ∙ keeps.synced_is

  pub front_made : (m : ℕ) → fronted m (writes_of (drop k h.calls)) (laid_all (writes_of (take k h.calls)) h.first) ≡ fronted m (state h).pending (state h).synced
  front_made m = rw (pending_writes, synced_made) refl

  pub fill_made : (byte : ℕ) → IsFilled byte (state h) (filled_past byte n (filled_all byte (writes_of (drop k h.calls)) content))
  fill_made byte = rw (pending_writes, keeps.content_is) (filled_left byte n h keeps.synced_len_is)

  pub ends_made : EndWithin (length content) (writes_of (drop k h.calls))
  ends_made = rw (pending_writes, keeps.content_is) (pending_end h)

  pub short_made : n ≤ length content
  short_made = omega (arith, keeps.synced_len_is, ap length keeps.content_is, (content_image h).agrees.no_shorter)

-- what a choice takes, by its parts
pub takes_by : (choice choice' : Choice) (h h' : History) (left left' : List ℕ) → choice ≡ choice' → h' ≡ h → left ≡ left' → Takes choice' (state h') left' → Takes choice (state h) left
takes_by choice choice' h h' left left' same_choice same_history same_left takes = rw (same_choice, ← same_history, same_left) takes

-- two files that are filled so are the same
filled_alike : (byte : ℕ) (s : State) (left other : List ℕ) → IsFilled byte s left → IsFilled byte s other → left ≡ other
filled_alike byte s left other one two = ext_get_or 0 left other (one.as_long ∙ sym two.as_long) each
  where
    each : (i : ℕ) → i < length left → get_or left i 0 ≡ get_or other i 0
    each i inside =
        let within : i < length s.content = omega (arith, inside, one.as_long) in
        ⊎_elim
        (λ synced. ⊎_elim
        (λ is_in. one.pending i within is_in ∙ sym (two.pending i within is_in))
        (λ outside. one.kept i synced outside ∙ sym (two.kept i synced outside))
        (inside_or_outside (map range_of s.pending) i))
        (λ beyond. one.past i within beyond ∙ sym (two.past i within beyond))
        (cases_lt i (length s.synced))

pub takes_one : (choice : Choice) (s : State) (left other : List ℕ) → Takes choice s left → Takes choice s other → left ≡ other
takes_one (Fill byte) s left other one two = filled_alike byte s left other one two
takes_one _ s left other one two = one ∙ sym two
