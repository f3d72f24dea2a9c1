-- Lemmas: what answers the front of a text that was taken answers the text, where it is reduced by rounds.
use Rattle.std.proofs.Common.{◌≡◌, ◌≢◌, ◌⊎◌, inl, inr, ℕ, List, ◌++◌, Option, Result, Ok, Err, refl, ◌∙◌, subst}
use Rattle.std.specs.Prelude.{IfOk}
use Rattle.std.specs.Result.{IsErrAnd}
use Rattle.std.specs.Io.KnownBytes.{Appends}
use Rattle.ic_rules.specs.System.{SystemParts}
use Rattle.ic_machine.specs.Net.{Net}
use Rattle.ic_streams.specs.Streams.{FaultOf, IsAnswered, OfText, TakesItWithin, WritesPart}
use Rattle.ic_streams.specs.lemmas.Reading.{CarriedWithin, OfFrontsWithin, answered_as, answered_cut, answered_refused, answered_unread, answered_written, of_each, of_front_within, read_as_within}
use Rattle.ic_streams.specs.declared.fault.StreamFault.{StreamFault}
use Rattle.ic_streams.specs.declared.fault.StreamFault.TheVariants.{Read, Text, Round, Memory, Write}
use Rattle.ic_text.specs.declared.limits.Limits.{Limits}
use Rattle.ic_in_place.specs.Holding.{IsNetOf}
use Rattle.ic_in_place.specs.Reductions.{EndsOf}
use Rattle.ic_in_place.specs.Told.{RoundOver}
use Rattle.ic_in_place.specs.Rounds.{AppendsLineOf, EndsByRounds, HasRounded, ReducesByRounds}
use Rattle.ic_in_place.specs.declared.rounded.Rounded.{Rounded}
use Rattle.ic_in_place.specs.declared.running.End.{End}
use Rattle.ic_in_place.specs.declared.stream.Asked.{Asked}
use Rattle.ic_in_place.specs.declared.stream.Outcome.{Outcome}

-- what a machine made, and what is told of it, by its counts and its end
abbrev pub ToldSo : (List ℕ → List RoundOver → Type 0) → SystemParts → (most taken : ℕ) → (given : List ℕ) → Net → Asked → Outcome → List ℕ → (by_rule : List ℕ) → End → Type 0
ToldSo P s most taken given m asked outcome line by_rule end = (rounded : HasRounded s most taken given by_rule m end)
    × (ends : EndsOf s rounded.bounds asked outcome line) × IsNetOf rounded.come.held.numbers m ends.answer
    × P rounded.come.rule_numbers rounded.ends.told

pub told_so : (P : List ℕ → List RoundOver → Type 0) (s : SystemParts) (most taken : ℕ) (given : List ℕ) (m : Net) (asked : Asked) (outcome : Outcome) (line : List ℕ) (is js : List ℕ) (end last : End)
    → is ≡ js → end ≡ last → ToldSo P s most taken given m asked outcome line is end → ToldSo P s most taken given m asked outcome line js last
told_so P s most taken given m asked outcome line is js end last counts ends told =
    subst (λ (e : End). ToldSo P s most taken given m asked outcome line js e) ends
    (subst (λ (l : List ℕ). ToldSo P s most taken given m asked outcome line l end) counts told)

-- a fault by which it can't be that a round isn't told of
pub not_untold : {A : Type 0} → A ⊎ ⊥ → A
not_untold (inl a) = a
not_untold (inr never) = absurd never

module _ (limits : Limits) (most : ℕ) (asked : Asked) where
  pub ends_carried : (reached : Rounded) (line : List ℕ) → OfFrontsWithin limits (λ text. EndsByRounds limits most asked text reached line)
  ends_carried reached line front rest end s = record {
    system = s.system;
    reads = read_as_within limits _ _ front rest end _ s.reads;
    given = s.given;
    machine = s.machine;
    taken = s.taken;
    rounded = s.rounded;
    ends = s.ends;
    net = s.net;
    count = s.count;
  }

  by_rounds_carried : CarriedWithin limits (ReducesByRounds limits most asked)
  by_rounds_carried front rest end (Ok line) s = (s.0, ends_carried s.0 line front rest end s.1)
  by_rounds_carried front rest end (Err (Text fault)) s = (read_as_within limits _ _ front rest end _ s.0, s.1)
  by_rounds_carried front rest end (Err (Round fault)) s = absurd s
  by_rounds_carried front rest end (Err Read) s = absurd s
  by_rounds_carried front rest end (Err Memory) s = absurd s
  by_rounds_carried front rest end (Err Write) s = absurd s

  -- a text is answered, and how its reduction ended is told
  abbrev pub Told : Result Rounded StreamFault → (before after : Option (List ℕ)) → List ℕ → Type 0
  Told r before after text = IsAnswered (ReducesByRounds limits most asked) text r before after
      × IfOk r (λ reached. AppendsLineOf limits most asked text reached before after)

  told_carried : (r : Result Rounded StreamFault) (before after : Option (List ℕ)) → OfFrontsWithin limits (Told r before after)
  told_carried (Ok reached) before after front rest end told = (
    answered_as (ReducesByRounds limits most asked) (Ok reached) front (front ++ rest) before after (by_rounds_carried front rest end) told.0,
    (told.1.0, ends_carried reached told.1.0 front rest end told.1.1, told.1.2),
  )
  told_carried (Err fault) before after front rest end told =
      (answered_as (ReducesByRounds limits most asked) (Err fault) front (front ++ rest) before after (by_rounds_carried front rest end) told.0, tt)

  -- no text was read
  pub unread : (r : Result Rounded StreamFault) (old before after : Option (List ℕ)) (fault : StreamFault) → IsErrAnd r (λ e. e ≡ fault)
      → (fault ≡ Read) ⊎ (fault ≡ Memory) → OfText old (Told r before after)
  unread (Ok v) old before after fault fails which = absurd fails
  unread (Err e) old before after fault fails which =
      of_each (Told (Err e) before after) (λ text. (answered_unread (ReducesByRounds limits most asked) e before after fault fails which text, tt)) old

  -- the text that was read is refused
  pub refused_of_taken : (r : Result Rounded StreamFault) (old new before after : Option (List ℕ)) (front seen : List ℕ) (fault : StreamFault)
      → TakesItWithin limits front old new → seen ≡ front → FaultOf (ReducesByRounds limits most asked) seen fault → fault ≢ Write → IsErrAnd r (λ e. e ≡ fault) → OfText old (Told r before after)
  refused_of_taken (Ok v) old new before after front seen fault takes is refused other fails = absurd fails
  refused_of_taken (Err e) old new before after front seen fault takes is refused other fails =
      of_front_within limits (Told (Err e) before after) (told_carried (Err e) before after) old new front takes
      (answered_refused (ReducesByRounds limits most asked) e before after front seen fault is refused other fails, tt)

  -- its line couldn't be written
  pub unwritten_of_taken : (r : Result Rounded StreamFault) (old new before after : Option (List ℕ)) (front seen : List ℕ) (fault : StreamFault)
      → TakesItWithin limits front old new → seen ≡ front → WritesPart (ReducesByRounds limits most asked) seen before after → fault ≡ Write → IsErrAnd r (λ e. e ≡ fault)
      → OfText old (Told r before after)
  unwritten_of_taken (Ok v) old new before after front seen fault takes is part write fails = absurd fails
  unwritten_of_taken (Err e) old new before after front seen fault takes is part write fails =
      of_front_within limits (Told (Err e) before after) (told_carried (Err e) before after) old new front takes
      (answered_cut (ReducesByRounds limits most asked) e before after front seen part.0 part.0 is part.1 refl part.2 (fails ∙ write), tt)

  -- its line is written
  pub written_of_taken : (reached : Rounded) (old new before after : Option (List ℕ)) (front seen line given : List ℕ)
      → TakesItWithin limits front old new → seen ≡ front → EndsByRounds limits most asked seen reached line → given ≡ line → Appends before after given
      → OfText old (Told (Ok reached) before after)
  written_of_taken reached old new before after front seen line given takes is ends same appends =
      of_front_within limits (Told (Ok reached) before after) (told_carried (Ok reached) before after) old new front takes (
        answered_written (ReducesByRounds limits most asked) reached before after front seen line given is (reached, ends) same appends,
        (line, rw is at ends, rw same at appends),
      )
