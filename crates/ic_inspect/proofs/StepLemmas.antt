-- What a keep writes is a step of a server.
use Rattle.std.proofs.Common.{◌≡◌, inl, inr, ⊎_elim, ℕ, ◌+◌, ◌<◌, ◌≤◌, ◌==◌, ◌&&◌, Bool, true, false, List, length, drop, get_or, sym, ap, ◌∙◌, arith, length-drop}
use Rattle.std.specs.Prelude.{nat_le}
use Rattle.std.specs.Int.{w32, w64, from_be_bytes}
use Rattle.std.proofs.lemmas.Bool.{le-leb, leb-true, eqb-true, and_parts, and_from, eq-eqb, cases_Bool, false≢true, false_from_ne_true}
use Rattle.std.proofs.lemmas.List.{ext_get_or, get_or-take, get_or-drop, length-take}
use Rattle.ic_disk.specs.Content.{bytes_at}
use Rattle.ic_disk.specs.Images.{Torn}
use Rattle.ic_frames.specs.declared.frame.TheConstants.{HEAD, MAX_BODY}
use Rattle.ic_frames.specs.declared.slot.Slot.{Slot}
use Rattle.ic_frames.specs.declared.slot.Slot.TheVariants.{First, Second}
use Rattle.ic_frames.specs.Fields.{number, size, body, is_open, is_whole, IsMade}
use Rattle.ic_frames.specs.Held.{IsNewest}
use Rattle.ic_frames.specs.Places.{place, other}
use Rattle.ic_frames.specs.Staged.{IsStaged}
use Rattle.ic_inspect.specs.Moments.{IsSameSlot, IsServerStep, IsWholeNewest}

-- ---- the same bytes from a place on
record SameFrom (at n : ℕ) (old new : List ℕ) : Type 0 where
  within : at + n ≤ length old
  within_new : at + n ≤ length new
  same : (i : ℕ) → at ≤ i → i < at + n → get_or new i 0 ≡ get_or old i 0

byte_of : (k m i : ℕ) (file : List ℕ) → i < m → get_or (bytes_at k m file) i 0 ≡ get_or file (k + i) 0
byte_of k m i file below = get_or-take m (drop k file) i 0 below ∙ get_or-drop k file i 0

long_at : (k m : ℕ) (file : List ℕ) → k + m ≤ length file → length (bytes_at k m file) ≡ m
long_at k m file within = omega (arith, within, length-take m (drop k file), length-drop k file)

same_bytes : (at n k m : ℕ) (old new : List ℕ) → SameFrom at n old new → at ≤ k → k + m ≤ at + n → bytes_at k m new ≡ bytes_at k m old
same_bytes at n k m old new s from until = ext_get_or 0 (bytes_at k m new) (bytes_at k m old)
    (long_at k m new (omega (arith, s.within_new)) ∙ sym (long_at k m old (omega (arith, s.within))))
    (λ i inside.
    let below : i < m = omega (arith, inside, long_at k m new (omega (arith, s.within_new))) in
    byte_of k m i new below ∙ s.same (k + i) (omega arith) (omega (arith, below)) ∙ sym (byte_of k m i old below))

open_same : (at n : ℕ) (old new : List ℕ) → SameFrom at n old new → 13 ≤ n → is_open at new ≡ is_open at old
unfolding is_open
open_same at n old new s long =
    ap (λ (t : Bool). t && (get_or new at 0 == 1)) (le-leb _ _ (omega (arith, s.within_new)) ∙ sym (le-leb (at + 13) (length old) (omega (arith, s.within))))
    ∙ ap (λ (g : ℕ). nat_le (at + 13) (length old) && (g == 1)) (s.same at (omega arith) (omega (arith, long)))

number_same : (at n : ℕ) (old new : List ℕ) → SameFrom (at + 1) n old new → 12 ≤ n → number at new ≡ number at old
unfolding number
number_same at n old new s long = ap (λ (b : List ℕ). from_be_bytes w64 b) (same_bytes (at + 1) n (at + 1) 8 old new s (omega arith) (omega (arith, long)))

size_same : (at n : ℕ) (old new : List ℕ) → SameFrom (at + 1) n old new → 12 ≤ n → size at new ≡ size at old
unfolding size
size_same at n old new s long = ap (λ (b : List ℕ). from_be_bytes w32 b) (same_bytes (at + 1) n (at + 9) 4 old new s (omega arith) (omega (arith, long)))

body_same : (at : ℕ) (old new : List ℕ) → SameFrom at (13 + size at old) old new → size at new ≡ size at old → body at new ≡ body at old
unfolding body
body_same at old new s same =
    ap (λ (m : ℕ). bytes_at (at + 13) m new) same ∙ same_bytes at (13 + size at old) (at + 13) (size at old) old new s (omega arith) (omega arith)

after_gate_same : (at n m : ℕ) (old new : List ℕ) → SameFrom at m old new → n + 1 ≤ m → SameFrom (at + 1) n old new
after_gate_same at n m old new s fewer = record {
  within = omega (arith, s.within, fewer);
  within_new = omega (arith, s.within_new, fewer);
  same = λ i above below. s.same i (omega (arith, above)) (omega (arith, below, fewer));
}

record WholeAt (at : ℕ) (file : List ℕ) : Type 0 where
  few : size at file ≤ MAX_BODY
  inside : at + 13 + size at file ≤ length file

whole_at : (at : ℕ) (file : List ℕ) → is_whole at file ≡ true → WholeAt at file
unfolding is_whole
whole_at at file is =
    let both = and_parts _ _ is in
    record { few = leb-true _ _ both.0; inside = leb-true _ _ both.1 }

whole_same : (at : ℕ) (old new : List ℕ) → size at new ≡ size at old → length new ≡ length old → is_whole at new ≡ is_whole at old
unfolding is_whole
whole_same at old new same long =
    ap (λ (n : ℕ). nat_le n MAX_BODY && nat_le (at + 13 + n) (length new)) same
    ∙ ap (λ (l : ℕ). nat_le (size at old) MAX_BODY && nat_le (at + 13 + size at old) l) long

whole_still : (at : ℕ) (old new : List ℕ) → size at new ≡ size at old → length old ≤ length new → is_whole at old ≡ true → is_whole at new ≡ true
unfolding is_whole
whole_still at old new same longer is =
    let w = whole_at at old is in
    ap (λ (n : ℕ). nat_le n MAX_BODY && nat_le (at + 13 + n) (length new)) same
    ∙ ap (λ (t : Bool). t && nat_le (at + 13 + size at old) (length new)) (le-leb _ _ w.few)
    ∙ le-leb _ _ (omega (arith, w.inside, longer))

-- ---- a slot whose bytes stay is the same
same_slot : (s : Slot) (old new : List ℕ) → SameFrom (place s) (13 + size (place s) old) old new → is_whole (place s) old ≡ true → length old ≤ length new → IsSameSlot s old new
same_slot s old new same whole longer =
    let at = place s in
    let after = after_gate_same at 12 (13 + size at old) old new same (omega arith) in
    let sizes = size_same at 12 old new after (omega arith) in
    record {
      opened = open_same at (13 + size at old) old new same (omega arith);
      number_is = number_same at 12 old new after (omega arith);
      size_is = sizes;
      whole_is = whole_still at old new sizes longer whole ∙ sym whole;
      body_is = body_same at old new same sizes;
    }

-- ---- a write to the room of one slot leaves the other one, where that is whole
pub record InRoom (t : Slot) (at n : ℕ) : Type 0 where
  pub from : place t ≤ at
  pub until : at + n ≤ place t + (13 + MAX_BODY)

stays_from : (t : Slot) (at n : ℕ) (old new : List ℕ) → InRoom t at n → is_whole (place (other t)) old ≡ true → Torn at n old new
    → SameFrom (place (other t)) (13 + size (place (other t)) old) old new
stays_from First at n old new room whole torn =
    let w = whole_at (place Second) old whole in
    record {
      within = omega (arith, w.inside);
      within_new = omega (arith, w.inside, torn.no_shorter);
      same = λ i above below. torn.after i (omega (arith, below, w.inside)) (omega (arith, above, room.until));
    }
stays_from Second at n old new room whole torn =
    let w = whole_at (place First) old whole in
    record {
      within = omega (arith, w.inside);
      within_new = omega (arith, w.inside, torn.no_shorter);
      same = λ i above below. torn.before i (omega (arith, below, w.inside)) (omega (arith, below, w.few, room.from));
    }

pub stays_beside : (t : Slot) (at n : ℕ) (old new : List ℕ) → InRoom t at n → IsWholeNewest (other t) old → Torn at n old new → IsSameSlot (other t) old new
stays_beside t at n old new room is torn = same_slot (other t) old new (stays_from t at n old new room is.whole torn) is.whole torn.no_shorter

-- ---- the gate of a slot
gate_of_open : (at : ℕ) (file : List ℕ) → is_open at file ≡ true → (at + 13 ≤ length file) × (get_or file at 0 ≡ 1)
unfolding is_open
gate_of_open at file is =
    let both = and_parts _ _ is in
    (leb-true _ _ both.0, eqb-true _ _ both.1)

open_from : (at : ℕ) (file : List ℕ) → at + 13 ≤ length file → get_or file at 0 ≡ 1 → is_open at file ≡ true
unfolding is_open
open_from at file within is = and_from _ _ (le-leb _ _ within) (eq-eqb _ _ is)

pub shut_by : (at : ℕ) (file : List ℕ) → get_or file at 0 ≡ 0 → is_open at file ≡ false
shut_by at file zero = false_from_ne_true (is_open at file) (λ is. absurd (omega (arith, zero, (gate_of_open at file is).1)))

-- where the head lies within a file, the slot stays closed while its gate stays
shut_still : (at : ℕ) (old new : List ℕ) → at + 13 ≤ length old → get_or new at 0 ≡ get_or old at 0 → is_open at old ≡ false → is_open at new ≡ false
shut_still at old new within same shut =
    false_from_ne_true (is_open at new) (λ is. false≢true (sym shut ∙ open_from at old within (sym same ∙ (gate_of_open at new is).1)))

-- ---- a step whose newest slot stays
pub shut_step : (t : Slot) (old new : List ℕ) → IsNewest (other t) old → IsSameSlot (other t) old new → is_open (place t) new ≡ false → IsServerStep old new
shut_step First old new is stays shut = record { newest = Second; is_newest = is; stays = stays; beside = inl shut }
shut_step Second old new is stays shut = record { newest = First; is_newest = is; stays = stays; beside = inl shut }

pub same_step : (t : Slot) (old new : List ℕ) → IsNewest (other t) old → IsSameSlot (other t) old new → IsSameSlot t old new → IsServerStep old new
same_step First old new is stays same = record { newest = Second; is_newest = is; stays = stays; beside = inr (inl same) }
same_step Second old new is stays same = record { newest = First; is_newest = is; stays = stays; beside = inr (inl same) }

pub open_step : (t : Slot) (old new : List ℕ) → IsNewest (other t) old → IsSameSlot (other t) old new → is_open (place t) old ≡ false → number (place (other t)) old < number (place t) new → IsServerStep old new
open_step First old new is stays shut above = record { newest = Second; is_newest = is; stays = stays; beside = inr (inr (record { shut = shut; above = above })) }
open_step Second old new is stays shut above = record { newest = First; is_newest = is; stays = stays; beside = inr (inr (record { shut = shut; above = above })) }

-- ---- a gate that is written, with nothing else
pub gate_room : (t : Slot) → InRoom t (place t) 1
gate_room t = record { from = omega arith; until = omega arith }

-- what stands after a gate that is written
after_torn : (t : Slot) (old new : List ℕ) → place t + 13 ≤ length old → Torn (place t) 1 old new → SameFrom (place t + 1) 12 old new
after_torn t old new within torn = record {
  within = omega (arith, within);
  within_new = omega (arith, within, torn.no_shorter);
  same = λ i above below. torn.after i (omega (arith, below, within)) above;
}

-- a body after a gate that is written, whole or not
body_after : (at : ℕ) (old new : List ℕ) → size at new ≡ size at old → length new ≡ length old → Torn at 1 old new → body at new ≡ body at old
unfolding body
body_after at old new same long torn =
    let k = at + 13 in
    let m = size at old in
    ap (λ (n : ℕ). bytes_at k n new) same
    ∙ ext_get_or 0 (bytes_at k m new) (bytes_at k m old)
    (omega (arith, long, length-take m (drop k new), length-take m (drop k old), length-drop k new, length-drop k old))
    (λ i inside.
    let below : i < m = omega (arith, inside, length-take m (drop k new)) in
    let there : k + i < length old = omega (arith, inside, long, length-take m (drop k new), length-drop k new) in
    byte_of k m i new below ∙ torn.after (k + i) there (omega arith) ∙ sym (byte_of k m i old below))

pub closing_torn : (t : Slot) (old new : List ℕ) → IsWholeNewest (other t) old → is_open (place t) old ≡ true → length new ≡ length old → Torn (place t) 1 old new → IsServerStep old new
closing_torn t old new is opened long torn =
    let stays = stays_beside t (place t) 1 old new (gate_room t) is torn in
    let after = after_torn t old new (gate_of_open (place t) old opened).0 torn in
    let sizes = size_same (place t) 12 old new after (omega arith) in
    ⊎_elim
    (λ still. same_step t old new is.is_newest stays (record {
      opened = still ∙ sym opened;
      number_is = number_same (place t) 12 old new after (omega arith);
      size_is = sizes;
      whole_is = whole_same (place t) old new sizes long;
      body_is = body_after (place t) old new sizes long torn;
    }))
    (λ shut. shut_step t old new is.is_newest stays shut)
    (cases_Bool (is_open (place t) new))

pub opening_torn : (t : Slot) (old new : List ℕ) → IsWholeNewest (other t) old → is_open (place t) old ≡ false → is_whole (place t) old ≡ true → number (place (other t)) old < number (place t) old
    → Torn (place t) 1 old new → IsServerStep old new
opening_torn t old new is shut whole above torn =
    let stays = stays_beside t (place t) 1 old new (gate_room t) is torn in
    let w = whole_at (place t) old whole in
    let after = after_torn t old new (omega (arith, w.inside)) torn in
    open_step t old new is.is_newest stays shut (omega (arith, above, number_same (place t) 12 old new after (omega arith)))

-- ---- a body that is written after a closed gate
pub record Amid (t : Slot) (old new : List ℕ) : Type 0 where
  pub stays : IsSameSlot (other t) old new
  pub shut : is_open (place t) new ≡ false

high_enough : (t : Slot) (old : List ℕ) → IsMade old → place t + 13 ≤ length old
high_enough First old made = omega (arith, made)
high_enough Second old made = omega (arith, made)

pub amid : (t : Slot) (n : ℕ) (old new : List ℕ) → IsWholeNewest (other t) old → is_open (place t) old ≡ false → IsMade old → n < HEAD + MAX_BODY → Torn (place t + 1) n old new → Amid t old new
amid t n old new is shut made few torn =
    let within = high_enough t old made in
    record {
      stays = stays_beside t (place t + 1) n old new (record { from = omega arith; until = omega (arith, few) }) is torn;
      shut = shut_still (place t) old new within (torn.before (place t) (omega (arith, within)) (omega arith)) shut;
    }

-- two files that have the slot of a third one
from_one : (s : Slot) (old one new : List ℕ) → IsSameSlot s old one → IsSameSlot s old new → IsSameSlot s one new
from_one s old one new p q = record {
  opened = q.opened ∙ sym p.opened;
  number_is = q.number_is ∙ sym p.number_is;
  size_is = q.size_is ∙ sym p.size_is;
  whole_is = q.whole_is ∙ sym p.whole_is;
  body_is = q.body_is ∙ sym p.body_is;
}

pub between : (t : Slot) (old one new : List ℕ) → IsWholeNewest (other t) old → Amid t old one → Amid t old new → IsServerStep one new
between First old one new is p q = shut_step First one new
    (record { opened = p.stays.opened ∙ is.is_newest.opened; newer = λ opened. absurd (false≢true (sym p.shut ∙ opened)) }) (from_one Second old one new p.stays q.stays) q.shut
between Second old one new is p q = shut_step Second one new
    (record { opened = p.stays.opened ∙ is.is_newest.opened; newer = λ opened. absurd (false≢true (sym p.shut ∙ opened)) }) (from_one First old one new p.stays q.stays) q.shut

pub writing_torn : (t : Slot) (n : ℕ) (old one new : List ℕ) → IsWholeNewest (other t) old → is_open (place t) old ≡ false → IsMade old → n < HEAD + MAX_BODY
    → Torn (place t + 1) n old one → Torn (place t + 1) n old new → IsServerStep one new
writing_torn t n old one new is shut made few p q = between t old one new is (amid t n old one is shut made few p) (amid t n old new is shut made few q)

pub opening_staged : (t : Slot) (n : ℕ) (next old new : List ℕ) → IsWholeNewest (other t) old → is_open (place t) old ≡ false → IsStaged t n next old → number (place (other t)) old < n
    → Torn (place t) 1 old new → IsServerStep old new
opening_staged t n next old new is shut staged above torn = opening_torn t old new is shut staged.whole (omega (arith, above, staged.number_is)) torn
