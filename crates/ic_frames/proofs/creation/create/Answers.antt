use Rattle.std.proofs.Common.{◌≡◌, ◌∙◌, ◌+◌, ◌-◌, ◌≤◌, ap, refl, subst, List, ℕ, [], ◌∷◌, length, drop, arith, length-drop}
use Rattle.std.specs.Prelude.{replicate}
use Rattle.ic_disk.specs.Content.{laid}
use Rattle.ic_disk.specs.Images.{Only, TornFrom, Within}
use Rattle.ic_disk.specs.Model.{Write}
use Rattle.ic_disk.specs.Time.{LeavesOnly}
use Rattle.ic_frames.specs.declared.slot.Slot.TheVariants.{First, Second}
use Rattle.ic_frames.specs.Layout.{after_gate, slot_bytes}
use Rattle.ic_frames.proofs.LaidLemmas.{laid_again}
use Rattle.ic_frames.specs.Held.{Holds, IsClosedIn, the_body, body_held}
use Rattle.ic_frames.specs.Staged.{IsStaged}
use Rattle.ic_frames.proofs.CreateLemmas.{created_first, created_shut, created_holds, on_created}
use Rattle.ic_frames.proofs.PhaseLemmas.{on_ok}
use Rattle.ic_frames.proofs.TurnLemmas.{in_first, in_next, pace_ends, pace_goes}
use Rattle.ic_frames.specs.Creation.{writes_of_create, KeepPace}
use Rattle.ic_frames.proofs.creation.create.Goals as goal

pub returns-clause-holds : goal.returns-clause-holds
returns-clause-holds g c keeps =
    let disk = g.D.Disk in
    let body = drop 13 c.args.frame.now in
    let frame = c.fill_head.new.frame in
    let file = disk.content c.args.disk.now in
    let keeps_once = c.write_synced.ensures.keeps ∙ keeps in
    let short : length body ≤ 3036677 = omega (arith, c.requires.short, length-drop 13 c.args.frame.now) in
    on_created c.write_gate.result (Holds body) (laid 0 frame (laid 4194304 (replicate 13 0) file)) (disk.content c.write_frame.new.disk) (disk.image c.write_gate.new.disk)
    (c.in_ok-write_frame.ensures.written keeps_once ∙ ap (λ (f : List ℕ). laid 0 frame f) (c.in_ok-write_synced.ensures.written keeps))
    (created_holds body frame (replicate 13 0) file c.fill_head.ensures short refl refl)
    (c.write_gate.ensures.durable (c.write_frame.ensures.keeps ∙ keeps_once))

pub returns-clause-held : goal.returns-clause-held
returns-clause-held g c keeps =
    let disk = g.D.Disk in
    let body = drop 13 c.args.frame.now in
    let new = c.write_gate.new.disk in
    on_ok c.write_gate.result (Within (disk.image new) (Holds body)) (body_held (disk.content new) ≡ the_body body)
    (λ holds. (holds (disk.content new) (g.met.D.Disk.content_is_image new)).held)
    (returns-clause-holds g c keeps)

pub returns-clause-first : goal.returns-clause-first
returns-clause-first g c keeps =
    let disk = g.D.Disk in
    let body = drop 13 c.args.frame.now in
    let frame = c.fill_head.new.frame in
    let file = disk.content c.args.disk.now in
    let keeps_once = c.write_synced.ensures.keeps ∙ keeps in
    let short : length body ≤ 3036677 = omega (arith, c.requires.short, length-drop 13 c.args.frame.now) in
    on_created c.write_gate.result (IsStaged First 1 body) (laid 0 frame (laid 4194304 (replicate 13 0) file)) (disk.content c.write_frame.new.disk) (disk.image c.write_gate.new.disk)
    (c.in_ok-write_frame.ensures.written keeps_once ∙ ap (λ (f : List ℕ). laid 0 frame f) (c.in_ok-write_synced.ensures.written keeps))
    (created_first body frame (replicate 13 0) file c.fill_head.ensures short refl refl)
    (c.write_gate.ensures.durable (c.write_frame.ensures.keeps ∙ keeps_once))

pub returns-clause-shut : goal.returns-clause-shut
returns-clause-shut g c keeps =
    let disk = g.D.Disk in
    let body = drop 13 c.args.frame.now in
    let frame = c.fill_head.new.frame in
    let file = disk.content c.args.disk.now in
    let keeps_once = c.write_synced.ensures.keeps ∙ keeps in
    let short : length body ≤ 3036677 = omega (arith, c.requires.short, length-drop 13 c.args.frame.now) in
    on_created c.write_gate.result (IsClosedIn Second) (laid 0 frame (laid 4194304 (replicate 13 0) file)) (disk.content c.write_frame.new.disk) (disk.image c.write_gate.new.disk)
    (c.in_ok-write_frame.ensures.written keeps_once ∙ ap (λ (f : List ℕ). laid 0 frame f) (c.in_ok-write_synced.ensures.written keeps))
    (created_shut body frame (replicate 13 0) file c.fill_head.ensures short refl refl)
    (c.write_gate.ensures.durable (c.write_frame.ensures.keeps ∙ keeps_once))

pub returns-clause-written : goal.returns-clause-written
returns-clause-written g c keeps =
    let disk = g.D.Disk in
    let body = drop 13 c.args.frame.now in
    let file = disk.content c.args.disk.now in
    let mid = disk.content c.write_frame.new.disk in
    let new = disk.content c.write_gate.new.disk in
    let zeros = laid 4194304 (replicate 13 0) file in
    let keeps_once = c.write_synced.ensures.keeps ∙ keeps in
    on_ok c.write_gate.result (new ≡ laid 0 (1 ∷ []) mid) (new ≡ laid 0 (slot_bytes 1 body) zeros)
    (λ last.
    last
    ∙ ap (λ (f : List ℕ). laid 0 (1 ∷ []) f)
    (c.in_ok-write_frame.ensures.written keeps_once
    ∙ ap (λ (f : List ℕ). laid 0 c.fill_head.new.frame f) (c.in_ok-write_synced.ensures.written keeps)
    ∙ ap (λ (l : List ℕ). laid 0 l zeros) c.fill_head.ensures.bytes_are)
    ∙ laid_again 0 1 0 (after_gate 1 body) zeros)
    (c.write_gate.ensures.written (c.write_frame.ensures.keeps ∙ keeps_once))

-- ---- what a stop leaves

-- a frame that is written from its first byte on
from_first : (P : ℕ → Type 0) (frame bytes : List ℕ) → frame ≡ bytes → P (length frame - 0) → P (length bytes)
from_first P frame bytes same is =
    let long : length frame - 0 ≡ length bytes = omega (arith, ap length same) in
    subst P long is

pub returns-in_err-write_synced-clause-ordered : goal.returns-in_err-write_synced-clause-ordered
returns-in_err-write_synced-clause-ordered g c keeps =
    let disk = g.D.Disk in
    in_first disk.clock disk.left disk.image c.args.disk.now c.write_synced.new.disk
    (record { at = 4194304; bytes = replicate 13 0 })
    (record { at = 0; bytes = 0 ∷ after_gate 1 (drop 13 c.args.frame.now) } ∷ record { at = 0; bytes = 1 ∷ [] } ∷ [])
    (disk.content c.args.disk.now) (c.write_synced.ensures.any_moment keeps)

pub returns-in_err-write_frame-clause-ordered : goal.returns-in_err-write_frame-clause-ordered
returns-in_err-write_frame-clause-ordered g c keeps =
    let disk = g.D.Disk in
    let bytes = 0 ∷ after_gate 1 (drop 13 c.args.frame.now) in
    let file = disk.content c.args.disk.now in
    let one = c.write_synced.new.disk in
    let two = c.write_frame.new.disk in
    let last : List Write = record { at = 0; bytes = 1 ∷ [] } ∷ [] in
    in_next disk.clock disk.left disk.image c.args.disk.now one two
    (record { at = 4194304; bytes = replicate 13 0 }) (record { at = 0; bytes = bytes } ∷ last) file
    (c.write_synced.ensures.any_moment keeps) (c.in_ok-write_synced.ensures.durable keeps)
    (in_first disk.clock disk.left disk.image one two (record { at = 0; bytes = bytes }) last (laid 4194304 (replicate 13 0) file)
    (from_first (λ n. LeavesOnly disk.clock disk.left one two (TornFrom 0 n (disk.image one))) c.fill_head.new.frame bytes c.fill_head.ensures.bytes_are
    (c.write_frame.ensures.any_moment (c.write_synced.ensures.keeps ∙ keeps))))

pub returns-clause-ordered : goal.returns-clause-ordered
returns-clause-ordered g c keeps =
    let disk = g.D.Disk in
    let zeros = replicate 13 0 in
    let bytes = 0 ∷ after_gate 1 (drop 13 c.args.frame.now) in
    let file = disk.content c.args.disk.now in
    let one = c.write_synced.new.disk in
    let two = c.write_frame.new.disk in
    let new = c.write_gate.new.disk in
    let keeps_once = c.write_synced.ensures.keeps ∙ keeps in
    in_next disk.clock disk.left disk.image c.args.disk.now one new
    (record { at = 4194304; bytes = zeros }) (record { at = 0; bytes = bytes } ∷ record { at = 0; bytes = 1 ∷ [] } ∷ []) file
    (c.write_synced.ensures.any_moment keeps) (c.in_ok-write_synced.ensures.durable keeps)
    (in_next disk.clock disk.left disk.image one two new
    (record { at = 0; bytes = bytes }) (record { at = 0; bytes = 1 ∷ [] } ∷ []) (laid 4194304 zeros file)
    (from_first (λ n. LeavesOnly disk.clock disk.left one two (TornFrom 0 n (disk.image one))) c.fill_head.new.frame bytes c.fill_head.ensures.bytes_are
    (c.write_frame.ensures.any_moment keeps_once))
    (framed (disk.image two) c.fill_head.new.frame bytes (disk.content one) (laid 4194304 zeros file) c.fill_head.ensures.bytes_are
    (c.in_ok-write_synced.ensures.written keeps) (c.in_ok-write_frame.ensures.durable keeps_once))
    (in_first disk.clock disk.left disk.image two new (record { at = 0; bytes = 1 ∷ [] }) [] (laid 0 bytes (laid 4194304 zeros file))
    (c.write_gate.ensures.any_moment (c.write_frame.ensures.keeps ∙ keeps_once))))
  where
    framed : (image : List ℕ → Type 0) (frame bytes mid start : List ℕ) → frame ≡ bytes → mid ≡ start → Only (laid 0 frame mid) image → Only (laid 0 bytes start) image
    framed image frame bytes mid start same there only =
        subst (λ (bs : List ℕ). Only (laid 0 bs start) image) same (subst (λ (f : List ℕ). Only (laid 0 frame f) image) there only)

pub returns-clause-paced : goal.returns-clause-paced
returns-clause-paced g c keeps =
    let disk = g.D.Disk in
    let zeros = replicate 13 0 in
    let bytes = 0 ∷ after_gate 1 (drop 13 c.args.frame.now) in
    let gate : Write = record { at = 0; bytes = 1 ∷ [] } in
    let start = laid 4194304 zeros (disk.content c.args.disk.now) in
    let framed = laid 0 bytes start in
    let one = c.write_synced.new.disk in
    let two = c.write_frame.new.disk in
    let new = c.write_gate.new.disk in
    let t = disk.clock c.args.disk.now in
    let keeps_once = c.write_synced.ensures.keeps ∙ keeps in
    let keeps_twice = c.write_frame.ensures.keeps ∙ keeps_once in
    let is = c.fill_head.ensures.bytes_are in
    let mid_one = c.in_ok-write_synced.ensures.written keeps in
    let mid_two : disk.content two ≡ framed = c.in_ok-write_frame.ensures.written keeps_once ∙ ap (λ (f : List ℕ). laid 0 c.fill_head.new.frame f) mid_one ∙ ap (λ (bs : List ℕ). laid 0 bs start) is in
    let only_one = c.in_ok-write_synced.ensures.durable keeps in
    let only_two : Only framed (disk.image two) =
    subst (λ (bs : List ℕ). Only (laid 0 bs start) (disk.image two)) is
    (subst (λ (f : List ℕ). Only (laid 0 c.fill_head.new.frame f) (disk.image two)) mid_one (c.in_ok-write_frame.ensures.durable keeps_once)) in
    let run_three = in_first disk.clock disk.left disk.image two new gate [] framed (c.write_gate.ensures.any_moment keeps_twice) in
    let run_two = in_next disk.clock disk.left disk.image one two new (record { at = 0; bytes = bytes }) (gate ∷ []) start
    (from_first (λ n. LeavesOnly disk.clock disk.left one two (TornFrom 0 n (disk.image one))) c.fill_head.new.frame bytes is (c.write_frame.ensures.any_moment keeps_once))
    only_two run_three in
    on_ok c.write_gate.result (Only (laid 0 (1 ∷ []) (disk.content two)) (disk.image new))
    (KeepPace (disk.left new) t (writes_of_create (drop 13 c.args.frame.now)) (disk.content c.args.disk.now) (disk.image c.args.disk.now))
    (λ only. (
      (returns-clause-ordered g c keeps).each,
      pace_goes disk.clock disk.left disk.image one new (t + 2) (record { at = 0; bytes = bytes }) (gate ∷ []) start c.write_synced.ensures.calls run_two only_one
          (pace_goes disk.clock disk.left disk.image two new (t + 2 + 2) gate [] framed (omega (arith, c.write_synced.ensures.calls, c.write_frame.ensures.calls)) run_three only_two
          (pace_ends disk.clock disk.left disk.image new (t + 2 + 2 + 2) (laid 0 (1 ∷ []) framed)
          (omega (arith, c.write_synced.ensures.calls, c.write_frame.ensures.calls, c.write_gate.ensures.calls))
          (λ file since. g.met.D.Disk.left_is_image new file since)
          (subst (λ (f : List ℕ). Only (laid 0 (1 ∷ []) f) (disk.image new)) mid_two only))),
    ))
    (c.write_gate.ensures.durable keeps_twice)
