use Rattle.std.proofs.Common.{◌≡◌, ◌≢◌, ◌+◌, ◌≤◌, ℕ, List, Some, None, drop, length, refl, sym, ap, ◌∙◌}
use Rattle.std.proofs.lemmas.List.{drop_at}
use Rattle.ic_text.specs.Limits.{most_bytes}
use Rattle.ic_text.specs.declared.limits.Limits.{Limits}
use Rattle.ic_streams.specs.Streams.{TakesAtWithin, TakesSomeWithin, TakesTextWithin}
use Rattle.ic_streams.specs.declared.fault.StreamFault.{StreamFault}
use Rattle.ic_streams.specs.declared.fault.StreamFault.TheVariants.{Read, Text, Round, Memory, Write}
use Rattle.ic_exact.proofs.TakenLemmas.{rest_left}
use Rattle.ic_exact.proofs.taken.a_text_is_taken_from_its_front.Goals as goal

-- some front was taken
abbrev TakesFront : Limits → List ℕ → List ℕ → Type 0
TakesFront limits text rest = (n : ℕ) × (n ≤ most_bytes limits + 1) × (rest ≡ drop n text)

whole : (limits : Limits) (text rest : List ℕ) → TakesTextWithin limits (Some text) (Some rest) → rest ≡ drop (most_bytes limits + 1) text
whole limits text rest (front, takes) = rest_left (most_bytes limits) text front rest takes.0 takes.1 takes.2

some : (limits : Limits) (text rest : List ℕ) → TakesSomeWithin limits (Some text) (Some rest) → TakesFront limits text rest
some limits text rest (front, parted, few) = (length front, few, sym (ap (drop (length front)) parted ∙ drop_at front rest (length front) refl))

all : (limits : Limits) (text rest : List ℕ) → TakesTextWithin limits (Some text) (Some rest) → TakesFront limits text rest
all limits text rest takes = some limits text rest (takes.0, takes.1.0, takes.1.1)

at_fault : (limits : Limits) (fault : StreamFault) (text rest : List ℕ) → TakesAtWithin limits fault (Some text) (Some rest) → fault ≢ Read → fault ≢ Memory
    → rest ≡ drop (most_bytes limits + 1) text
at_fault limits (Text fault) text rest takes read memory = whole limits text rest takes
at_fault limits (Round fault) text rest takes read memory = whole limits text rest takes
at_fault limits Write text rest takes read memory = whole limits text rest takes
at_fault limits Read text rest takes read memory = absurd (read refl)
at_fault limits Memory text rest takes read memory = absurd (memory refl)

front : (limits : Limits) (fault : StreamFault) (text rest : List ℕ) → TakesAtWithin limits fault (Some text) (Some rest) → TakesFront limits text rest
front limits (Text fault) text rest takes = all limits text rest takes
front limits (Round fault) text rest takes = all limits text rest takes
front limits Write text rest takes = all limits text rest takes
front limits Read text rest takes = some limits text rest takes
front limits Memory text rest takes = some limits text rest takes

known : (limits : Limits) (fault : StreamFault) (text : List ℕ) → ¬ TakesAtWithin limits fault (Some text) None
known limits (Text fault) text takes = takes.1.0
known limits (Round fault) text takes = takes.1.0
known limits Write text takes = takes.1.0
known limits Read text takes = takes.1
known limits Memory text takes = takes.1

pub returns : goal.returns
returns c = record { text = whole; at_fault = at_fault; front = front; known = known }
