-- What answers the front of a text that was taken answers the text.
use Rattle.std.proofs.Common.{◌≡◌, ◌⊎◌, ℕ, ◌<◌, ◌≤◌, List, [], ◌++◌, Bool, true, false, Result, Ok, Err, length, length-append, append-nil, arith, refl, sym, ap, ◌∙◌, subst, inl, inr}
use Rattle.std.proofs.lemmas.Bool.{cases_lt}
use Rattle.ic_term.specs.Symbol.{Symbol}
use Rattle.ic_term.specs.Configuration.{Configuration}
use Rattle.ic_rules.specs.System.{SystemParts}
use Rattle.ic_text.specs.Text.{Reads}
use Rattle.ic_text.specs.declared.limits.TheConstants.{MAX_TEXT}
use Rattle.ic_text.specs.declared.fault.TextFault.{TextFault}
use Rattle.ic_text.specs.declared.fault.TextFault.TheVariants.{Limit}
use Rattle.ic_streams.specs.lemmas.Reading.{Carried}
use Rattle.ic_streams.specs.declared.fault.StreamFault.TheVariants.{Text}
use Rattle.ic_nets.specs.Draws.{Draws, DrawsTo, ReadsDrawn, has_rules, reads_by}

-- a text without rules is drawn with none
pub drawn_plain : (input : List ℕ) (symbols : List Symbol) (c : Configuration) (output : List ℕ) → has_rules input ≡ false
    → Reads input (Ok (symbols, c)) → DrawsTo input output
drawn_plain input symbols c output plain reads =
    let system : SystemParts = record { rules = record { symbols = symbols; rules = [] }; config = c } in
    let P : Bool → Type 0 = λ b. reads_by b input (Ok system) in
    record { system = system; reads = subst P (sym plain) (reads, refl) }

-- a text that is too long is so however it is read
long_limit : (b : Bool) (text : List ℕ) → MAX_TEXT < length text → reads_by b text (Err Limit)
long_limit true text long = record { long = λ _. refl; spelled = λ fits. absurd (omega arith); malformed = λ fits. absurd (omega arith) }
long_limit false text long = record { long = λ _. refl; spelled = λ fits. absurd (omega arith); malformed = λ fits. absurd (omega arith) }

long_is : (b : Bool) (text : List ℕ) (fault : TextFault) → MAX_TEXT < length text → reads_by b text (Err fault) → fault ≡ Limit
long_is true text fault long reads = let e = reads.long long in cc
long_is false text fault long reads = let e = reads.long long in cc

long_none : (b : Bool) (text : List ℕ) (system : SystemParts) → MAX_TEXT < length text → reads_by b text (Ok system) → ⊥
long_none true text system long reads = let e = reads.long long in cc
long_none false text system long reads = let e = reads.0.long long in cc

read_on : (front rest : List ℕ) → (length front ≤ MAX_TEXT → rest ≡ []) → (answer : Result SystemParts TextFault) → ReadsDrawn front answer → ReadsDrawn (front ++ rest) answer
read_on front rest end answer reads = by (cases_lt MAX_TEXT (length front)) answer reads
  where
    by : (MAX_TEXT < length front) ⊎ (length front ≤ MAX_TEXT) → (answer : Result SystemParts TextFault) → ReadsDrawn front answer → ReadsDrawn (front ++ rest) answer
    by (inl long) (Ok system) r = absurd (long_none (has_rules front) front system long r)
    by (inl long) (Err fault) r =
        let P : TextFault → Type 0 = λ f. ReadsDrawn (front ++ rest) (Err f) in
        subst P (sym (long_is (has_rules front) front fault long r)) (long_limit (has_rules (front ++ rest)) (front ++ rest) (omega (arith, long, length-append front rest)))
    by (inr fits) answer r =
        let P : List ℕ → Type 0 = λ text. ReadsDrawn text answer in
        subst P (sym (ap (λ l. front ++ l) (end fits) ∙ append-nil front)) r

pub draws_carried : Carried Draws
draws_carried front rest end (Ok output) s = record { system = s.system; reads = read_on front rest end (Ok s.system) s.reads }
draws_carried front rest end (Err (Text fault)) s = (read_on front rest end (Err fault) s.0, s.1)
draws_carried front rest end (Err fault) s = absurd s
