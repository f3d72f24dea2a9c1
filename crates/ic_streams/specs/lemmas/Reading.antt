-- What was taken from a reader, and what it says of all that the reader had.
use Rattle.std.proofs.Common.{◌≡◌, ◌≢◌, ◌⊎◌, ⊎_elim, ℕ, ◌+◌, ◌<◌, ◌≤◌, List, [], ◌++◌, Option, None, Some, OnErr, Result, Ok, Err, length, length-append, append-nil, arith, ◌∙◌, ap, sym, inl, inr}
use Rattle.std.specs.Prelude.{IfErr, OnOk}
use Rattle.std.specs.Result.{IsErrAnd}
use Rattle.std.proofs.KnownBytes.{Consumes-trans}
use Rattle.std.proofs.lemmas.Bool.{cases_lt}
use Rattle.std.specs.Io.KnownBytes.{Appends, Consumes}
use Rattle.ic_output.specs.Output.{AppendsFront}
use Rattle.ic_text.specs.Limits.{most_bytes}
use Rattle.ic_text.specs.Reading.{IsReading, IsReadingWithin}
use Rattle.ic_text.specs.declared.fault.TextFault.{TextFault}
use Rattle.ic_text.specs.declared.limits.Limits.{Limits}
use Rattle.ic_text.specs.declared.limits.Limits.TheVariants.{Served}
use Rattle.ic_text.specs.declared.limits.TheConstants.{MAX_TEXT}
use Rattle.ic_streams.specs.Faults.{stream_fault_number}
use Rattle.ic_streams.specs.Streams.{Answering, FaultOf, IsAnswered, OfText, Rounds, Settles, TakesIt, TakesItWithin, TakesSomeWithin, WritesPart}
use Rattle.ic_streams.specs.declared.fault.StreamFault.{StreamFault}
use Rattle.ic_streams.specs.declared.fault.StreamFault.TheVariants.{Read, Text, Round, Memory, Write}

-- two reads, one after the other
pub taken_more : (limits : Limits) {T E : Type 0} (r : Result T E) (a b c : Option (List ℕ)) (xs ys : List ℕ) → Consumes a b xs → Consumes b c ys
    → length xs + length ys ≤ most_bytes limits + 1 → OnErr r (TakesSomeWithin limits a c)
taken_more limits (Ok v) a b c xs ys p q bound = tt
taken_more limits (Err e) a b c xs ys p q bound = (xs ++ ys, Consumes-trans a b c xs ys p q, rw length-append bound)

-- ---- what is so of a front that was taken is so of the text

-- a text is read as this front of it is, where the front is too long, or the whole text
module _ (limits : Limits) {P V : Type 0} (SpellsOne : List ℕ → P → Type 0) (sense : P → Result V TextFault) where
  pub read_as_within : (front rest : List ℕ) → (length front ≤ most_bytes limits → rest ≡ []) → (answer : Result V TextFault)
      → IsReadingWithin limits SpellsOne sense front answer → IsReadingWithin limits SpellsOne sense (front ++ rest) answer
  read_as_within front rest end answer reads = elim (cases_lt (most_bytes limits) (length front)) [
    | inl long ↦ (let more : most_bytes limits < length (front ++ rest) = rw length-append (omega arith) in
        record { long = λ _. reads.long long; spelled = λ fits. absurd (omega arith); malformed = λ fits. absurd (omega arith) })
    | inr fits ↦ (let whole : front ++ rest ≡ front = ap (λ r. front ++ r) (end fits) ∙ append-nil front in rw whole reads)
  ]

-- the same with the limits of what is served
pub read_as : {P V : Type 0} (SpellsOne : List ℕ → P → Type 0) (sense : P → Result V TextFault) (front rest : List ℕ)
    → (length front ≤ MAX_TEXT → rest ≡ []) → (answer : Result V TextFault) → IsReading SpellsOne sense front answer → IsReading SpellsOne sense (front ++ rest) answer
read_as SpellsOne sense = read_as_within Served SpellsOne sense

-- what is so of a front that was taken is so of the text that it is a front of
abbrev pub OfFrontsWithin : Limits → (List ℕ → Type 0) → Type 0
OfFrontsWithin limits Holds = (front rest : List ℕ) → (length front ≤ most_bytes limits → rest ≡ []) → Holds front → Holds (front ++ rest)

abbrev pub OfFronts : (List ℕ → Type 0) → Type 0
OfFronts Holds = OfFrontsWithin Served Holds

pub of_front_within : (limits : Limits) (Holds : List ℕ → Type 0) → OfFrontsWithin limits Holds → (old new : Option (List ℕ)) (front : List ℕ)
    → TakesItWithin limits front old new → Holds front → OfText old Holds
of_front_within limits Holds law None new front takes h = (front, h)
of_front_within limits Holds law (Some text) None front takes h = absurd takes.0
of_front_within limits Holds law (Some text) (Some rest) front takes h = rw takes.0 (law front rest takes.2 h)

pub of_front : (Holds : List ℕ → Type 0) → OfFronts Holds → (old new : Option (List ℕ)) (front : List ℕ) → TakesIt front old new → Holds front → OfText old Holds
of_front = of_front_within Served

-- what is so of each text
pub of_each : (Holds : List ℕ → Type 0) → ((text : List ℕ) → Holds text) → (old : Option (List ℕ)) → OfText old Holds
of_each Holds all None = ([], all [])
of_each Holds all (Some text) = all text

-- what answers the front answers the text
abbrev Carries : Answering → List ℕ → List ℕ → Type 0
Carries Answers front text = (answer : Result (List ℕ) StreamFault) → Answers front answer → Answers text answer

abbrev pub CarriedWithin : Limits → Answering → Type 0
CarriedWithin limits Answers = (front rest : List ℕ) → (length front ≤ most_bytes limits → rest ≡ []) → Carries Answers front (front ++ rest)

abbrev pub Carried : Answering → Type 0
Carried Answers = CarriedWithin Served Answers

pub settles_carried : Carried Settles
settles_carried front rest end (Ok line) s =
    record { symbols = s.symbols; configuration = s.configuration; reads = read_as _ _ front rest end _ s.reads; prints = s.prints }
settles_carried front rest end (Err (Text fault)) s = (read_as _ _ front rest end _ s.0, s.1)
settles_carried front rest end _ s = absurd s

pub rounds_carried : Carried Rounds
rounds_carried front rest end (Ok line) s = record { system = s.system; reads = read_as _ _ front rest end _ s.reads; fits = s.fits; prints = s.prints }
rounds_carried front rest end (Err (Text fault)) s = (read_as _ _ front rest end _ s.0, s.1)
rounds_carried front rest end (Err (Round fault)) s = record { system = s.system; reads = read_as _ _ front rest end _ s.reads; refused = s.refused }
rounds_carried front rest end _ s = absurd s

fault_as : (Answers : Answering) (front text : List ℕ) (fault : StreamFault) → Carries Answers front text → FaultOf Answers front fault → FaultOf Answers text fault
fault_as Answers front text (Text fault) same f = same _ f
fault_as Answers front text (Round fault) same f = same _ f
fault_as Answers front text Write same f = (f.0, same _ f.1)
fault_as Answers front text _ same f = tt

part_as : (Answers : Answering) (front text : List ℕ) (before after : Option (List ℕ)) → Carries Answers front text
    → WritesPart Answers front before after → WritesPart Answers text before after
part_as Answers front text before after same part = (part.0, same _ part.1, part.2)

-- ---- a fault that isn't the writer's

unwritten : (fault : StreamFault) → (fault ≡ Read) ⊎ (fault ≡ Memory) → fault ≢ Write
unwritten fault which is = ⊎_elim (λ read. omega (arith, ap stream_fault_number (sym read ∙ is))) (λ memory. omega (arith, ap stream_fault_number (sym memory ∙ is))) which

module _ (Answers : Answering) {T : Type 0} where
  pub answered_as : (r : Result T StreamFault) (front text : List ℕ) (before after : Option (List ℕ)) → Carries Answers front text
      → IsAnswered Answers front r before after → IsAnswered Answers text r before after
  answered_as (Ok v) front text before after same a = record { written = (a.written.0, same _ a.written.1, a.written.2); refused = tt; cut = tt }
  answered_as (Err e) front text before after same a =
      record { written = tt; refused = fault_as Answers front text e same a.refused; cut = λ is. part_as Answers front text before after same (a.cut is) }

  pub of_taken : Carried Answers → (r : Result T StreamFault) (old new before after : Option (List ℕ)) (front : List ℕ) → TakesIt front old new
      → IsAnswered Answers front r before after → OfText old (λ text. IsAnswered Answers text r before after)
  of_taken law r old new before after front takes a =
      of_front (λ text. IsAnswered Answers text r before after) (λ front rest end h. answered_as r front (front ++ rest) before after (law front rest end) h) old new front takes a

  -- ---- by what the calls answered

  -- no text was read
  pub answered_unread : (e : StreamFault) (before after : Option (List ℕ)) (fault : StreamFault) → e ≡ fault → (fault ≡ Read) ⊎ (fault ≡ Memory)
      → (text : List ℕ) → IsAnswered {T = T} Answers text (Err e) before after
  answered_unread e before after fault is which text = record { written = tt; refused = says; cut = λ write. absurd (unwritten fault which (sym is ∙ write)) }
    where
      says : FaultOf Answers text e
      says = rw is (⊎_elim (λ read. rw read tt) (λ memory. rw memory tt) which)

  -- the text that was read is refused
  pub answered_refused : (e : StreamFault) (before after : Option (List ℕ)) (front seen : List ℕ) (fault : StreamFault) → seen ≡ front
      → FaultOf Answers seen fault → fault ≢ Write → e ≡ fault → IsAnswered {T = T} Answers front (Err e) before after
  answered_refused e before after front seen fault is refused other fails =
      record { written = tt; refused = rw fails (rw is at refused); cut = λ write. absurd (other (sym fails ∙ write)) }

  -- its line couldn't be written
  pub answered_cut : (e : StreamFault) (before after : Option (List ℕ)) (front seen line given : List ℕ) → seen ≡ front → Answers seen (Ok line) → given ≡ line
      → AppendsFront before after [] given → e ≡ Write → IsAnswered {T = T} Answers front (Err e) before after
  answered_cut e before after front seen line given is has same cut fails =
      record { written = tt; refused = rw fails (line, rw is at has); cut = λ write. (line, rw is at has, rw same at cut) }

  -- its line is written
  pub answered_written : (v : T) (before after : Option (List ℕ)) (front seen line given : List ℕ) → seen ≡ front → Answers seen (Ok line) → given ≡ line
      → Appends before after given → IsAnswered Answers front (Ok v) before after
  answered_written v before after front seen line given is has same appends = record { written = (line, rw is at has, rw same at appends); refused = tt; cut = tt }

  pub unread : (r : Result T StreamFault) (old before after : Option (List ℕ)) (fault : StreamFault) → IsErrAnd r (λ e. e ≡ fault) → (fault ≡ Read) ⊎ (fault ≡ Memory)
      → OfText old (λ text. IsAnswered Answers text r before after)
  unread (Ok v) old before after fault fails which = absurd fails
  unread (Err e) old before after fault fails which = of_each (λ text. IsAnswered {T = T} Answers text (Err e) before after) (answered_unread e before after fault fails which) old

  pub refused_of_taken : Carried Answers → (r : Result T StreamFault) (old new before after : Option (List ℕ)) (front seen : List ℕ) (fault : StreamFault)
      → TakesIt front old new → seen ≡ front → FaultOf Answers seen fault → fault ≢ Write → IsErrAnd r (λ e. e ≡ fault)
      → OfText old (λ text. IsAnswered Answers text r before after)
  refused_of_taken law (Ok v) old new before after front seen fault takes is refused other fails = absurd fails
  refused_of_taken law (Err e) old new before after front seen fault takes is refused other fails =
      of_taken law (Err e) old new before after front takes (answered_refused e before after front seen fault is refused other fails)

  -- its line is written, or the writer failed
  pub written_of_taken : Carried Answers → (r : Result T StreamFault) (old new before after : Option (List ℕ)) (front seen line given : List ℕ)
      → TakesIt front old new → seen ≡ front → Answers seen (Ok line) → given ≡ line → OnOk r (Appends before after given)
      → OnErr r (AppendsFront before after [] given) → IfErr r (λ fault. fault ≡ Write) → OfText old (λ text. IsAnswered Answers text r before after)
  written_of_taken law (Ok v) old new before after front seen line given takes is has same appends cut fails =
      of_taken law (Ok v) old new before after front takes (answered_written v before after front seen line given is has same appends)
  written_of_taken law (Err e) old new before after front seen line given takes is has same appends cut fails =
      of_taken law (Err e) old new before after front takes (answered_cut e before after front seen line given is has same cut fails)
