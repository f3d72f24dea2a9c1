-- Lemmas: what answers the front of a text that was taken answers the text.
use Rattle.std.proofs.Common.{◌≡◌, ◌≢◌, ◌⊎◌, ℕ, List, ◌++◌, Option, Result, Ok, Err, refl, ◌∙◌}
use Rattle.std.specs.Prelude.{IfOk}
use Rattle.std.specs.Result.{IsErrAnd}
use Rattle.std.specs.Io.KnownBytes.{Appends}
use Rattle.ic_streams.specs.Streams.{FaultOf, IsAnswered, OfText, TakesItWithin, WritesPart}
use Rattle.ic_streams.specs.lemmas.Reading.{CarriedWithin, OfFrontsWithin, answered_as, answered_cut, answered_refused, answered_unread, answered_written, of_each, of_front_within, read_as_within}
use Rattle.ic_streams.specs.declared.fault.StreamFault.{StreamFault}
use Rattle.ic_streams.specs.declared.fault.StreamFault.TheVariants.{Read, Text, Round, Memory, Write}
use Rattle.ic_text.specs.declared.limits.Limits.{Limits}
use Rattle.ic_in_place.specs.Reductions.{EndsAs, ReducesInPlace, Tells}
use Rattle.ic_in_place.specs.declared.running.Bounds.{Bounds}
use Rattle.ic_in_place.specs.declared.stream.Asked.{Asked}
use Rattle.ic_in_place.specs.declared.stream.Outcome.{Outcome}

module _ (limits : Limits) (bounds : Bounds) (asked : Asked) where
  ends_carried : (outcome : Outcome) (line : List ℕ) → OfFrontsWithin limits (λ text. EndsAs limits bounds asked text outcome line)
  ends_carried outcome line front rest end s =
      record { system = s.system; reads = read_as_within limits _ _ front rest end _ s.reads; ends = s.ends }

  in_place_carried : CarriedWithin limits (ReducesInPlace limits bounds asked)
  in_place_carried front rest end (Ok line) s = (s.0, ends_carried s.0 line front rest end s.1)
  in_place_carried front rest end (Err (Text fault)) s = (read_as_within limits _ _ front rest end _ s.0, s.1)
  in_place_carried front rest end (Err (Round fault)) s = absurd s
  in_place_carried front rest end (Err Read) s = absurd s
  in_place_carried front rest end (Err Memory) s = absurd s
  in_place_carried front rest end (Err Write) s = absurd s

  -- a text is answered, and how its reduction ended is told
  abbrev pub Told : Result Outcome StreamFault → (before after : Option (List ℕ)) → List ℕ → Type 0
  Told r before after text = IsAnswered (ReducesInPlace limits bounds asked) text r before after
      × IfOk r (λ outcome. Tells limits bounds asked text outcome before after)

  told_carried : (r : Result Outcome StreamFault) (before after : Option (List ℕ)) → OfFrontsWithin limits (Told r before after)
  told_carried (Ok outcome) before after front rest end told = (
    answered_as (ReducesInPlace limits bounds asked) (Ok outcome) front (front ++ rest) before after (in_place_carried front rest end) told.0,
    (told.1.0, ends_carried outcome told.1.0 front rest end told.1.1, told.1.2),
  )
  told_carried (Err fault) before after front rest end told =
      (answered_as (ReducesInPlace limits bounds asked) (Err fault) front (front ++ rest) before after (in_place_carried front rest end) told.0, tt)

  -- no text was read
  pub unread : (r : Result Outcome StreamFault) (old before after : Option (List ℕ)) (fault : StreamFault) → IsErrAnd r (λ e. e ≡ fault)
      → (fault ≡ Read) ⊎ (fault ≡ Memory) → OfText old (Told r before after)
  unread (Ok v) old before after fault fails which = absurd fails
  unread (Err e) old before after fault fails which =
      of_each (Told (Err e) before after) (λ text. (answered_unread (ReducesInPlace limits bounds asked) e before after fault fails which text, tt)) old

  -- the text that was read is refused
  pub refused_of_taken : (r : Result Outcome StreamFault) (old new before after : Option (List ℕ)) (front seen : List ℕ) (fault : StreamFault)
      → TakesItWithin limits front old new → seen ≡ front → FaultOf (ReducesInPlace limits bounds asked) seen fault → fault ≢ Write → IsErrAnd r (λ e. e ≡ fault) → OfText old (Told r before after)
  refused_of_taken (Ok v) old new before after front seen fault takes is refused other fails = absurd fails
  refused_of_taken (Err e) old new before after front seen fault takes is refused other fails =
      of_front_within limits (Told (Err e) before after) (told_carried (Err e) before after) old new front takes
      (answered_refused (ReducesInPlace limits bounds asked) e before after front seen fault is refused other fails, tt)

  -- its line couldn't be written
  pub unwritten_of_taken : (r : Result Outcome StreamFault) (old new before after : Option (List ℕ)) (front seen : List ℕ) (fault : StreamFault)
      → TakesItWithin limits front old new → seen ≡ front → WritesPart (ReducesInPlace limits bounds asked) seen before after → fault ≡ Write → IsErrAnd r (λ e. e ≡ fault)
      → OfText old (Told r before after)
  unwritten_of_taken (Ok v) old new before after front seen fault takes is part write fails = absurd fails
  unwritten_of_taken (Err e) old new before after front seen fault takes is part write fails =
      of_front_within limits (Told (Err e) before after) (told_carried (Err e) before after) old new front takes
      (answered_cut (ReducesInPlace limits bounds asked) e before after front seen part.0 part.0 is part.1 refl part.2 (fails ∙ write), tt)

  -- its line is written
  pub written_of_taken : (outcome : Outcome) (old new before after : Option (List ℕ)) (front seen line given : List ℕ)
      → TakesItWithin limits front old new → seen ≡ front → EndsAs limits bounds asked seen outcome line → given ≡ line → Appends before after given
      → OfText old (Told (Ok outcome) before after)
  written_of_taken outcome old new before after front seen line given takes is ends same appends =
      of_front_within limits (Told (Ok outcome) before after) (told_carried (Ok outcome) before after) old new front takes (
        answered_written (ReducesInPlace limits bounds asked) outcome before after front seen line given is (outcome, ends) same appends,
        (line, rw is at ends, rw same at appends),
      )
