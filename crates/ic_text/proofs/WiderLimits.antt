-- What is read with the limits of what is served is read so with wide ones, unless a limit is passed.
use Rattle.std.proofs.Common.{◌≡◌, ◌≢◌, ℕ, ◌<◌, ◌≤◌, Bool, true, false, cond, List, Result, Err, length, refl, ⊎_elim, arith}
use Rattle.std.specs.Prelude.{nat_le}
use Rattle.std.proofs.lemmas.Bool.{and_from, and_parts, cases_lt, false≢true, le-leb, leb-true}
use Rattle.ic_term.specs.Symbol.{Symbol}
use Rattle.ic_term.specs.Configuration.{Configuration}
use Rattle.ic_term.specs.declared.limits.TheConstants.{MAX_NODES, MAX_INTERFACE, MAX_WIDE_NODES, MAX_SYMBOLS, MAX_WIDE_SYMBOLS}
use Rattle.ic_rules.specs.System.{SystemParts}
use Rattle.ic_rules.specs.declared.limits.TheConstants.{MAX_RULES, MAX_WIDE_RULES}
use Rattle.ic_text.specs.declared.fault.TextFault.{TextFault}
use Rattle.ic_text.specs.declared.fault.TextFault.TheVariants.{Limit}
use Rattle.ic_text.specs.declared.limits.Limits.TheVariants.{Served, Wide}
use Rattle.ic_text.specs.declared.limits.TheConstants.{MAX_TEXT, MAX_WIDE_TEXT}
use Rattle.ic_text.specs.Reading.{IsReadingWithin}
use Rattle.ic_text.specs.Source.{Phrase, phrase_nodes}
use Rattle.ic_text.specs.Sense.{is_in_limits_within, sense_within, symbol_table}
use Rattle.ic_text.specs.SystemSource.{SystemPhrase}
use Rattle.ic_text.specs.SystemSense.{is_system_in_limits_within, rules_are_small, system_sense_within, system_table}
use Rattle.ic_text.specs.SystemText.{SpellsSystem, ReadsSystemWithin}
use Rattle.ic_text.specs.Text.{Spells, ReadsWithin}
use Rattle.ic_text.proofs.RuleNodes.{each_small}

more_terms : (n : ℕ) → nat_le n MAX_INTERFACE ≡ true → nat_le n MAX_WIDE_NODES ≡ true
more_terms n few = le-leb n MAX_WIDE_NODES (omega (arith, leb-true n MAX_INTERFACE few))

more_symbols : (n : ℕ) → nat_le n MAX_SYMBOLS ≡ true → nat_le n MAX_WIDE_SYMBOLS ≡ true
more_symbols n few = le-leb n MAX_WIDE_SYMBOLS (omega (arith, leb-true n MAX_SYMBOLS few))

more_rules : (n : ℕ) → nat_le n MAX_RULES ≡ true → nat_le n MAX_WIDE_RULES ≡ true
more_rules n few = le-leb n MAX_WIDE_RULES (omega (arith, leb-true n MAX_RULES few))

more_nodes : (n : ℕ) → nat_le n MAX_NODES ≡ true → nat_le n MAX_WIDE_NODES ≡ true
more_nodes n few = le-leb n MAX_WIDE_NODES (omega (arith, leb-true n MAX_NODES few))

phrase_grows : (p : Phrase) → is_in_limits_within Served p ≡ true → is_in_limits_within Wide p ≡ true
phrase_grows p low =
    let nodes = and_parts _ (nat_le (phrase_nodes p) MAX_NODES) low in
    let terms = and_parts _ (nat_le (length p.interface) MAX_INTERFACE) nodes.0 in
    let symbols = and_parts _ (nat_le (length (symbol_table p)) MAX_SYMBOLS) terms.0 in
    and_from _ _ (and_from _ _ (and_from _ _ symbols.0 (more_symbols (length (symbol_table p)) symbols.1)) (more_terms (length p.interface) terms.1)) (more_nodes (phrase_nodes p) nodes.1)

system_grows : (s : SystemPhrase) → is_system_in_limits_within Served s ≡ true → is_system_in_limits_within Wide s ≡ true
system_grows s low =
    let nodes = and_parts _ (nat_le (phrase_nodes s.config) MAX_NODES) low in
    let terms = and_parts _ (nat_le (length s.config.interface) MAX_INTERFACE) nodes.0 in
    let small = and_parts _ (rules_are_small Served s.rules) terms.0 in
    let rules = and_parts _ (nat_le (length s.rules) MAX_RULES) small.0 in
    let symbols = and_parts _ (nat_le (length (system_table s)) MAX_SYMBOLS) rules.0 in
    let up_to_symbols = and_from _ _ symbols.0 (more_symbols (length (system_table s)) symbols.1) in
    let up_to_rules = and_from _ _ up_to_symbols (more_rules (length s.rules) rules.1) in
    and_from _ _ (and_from _ _ (and_from _ _ up_to_rules (each_small Served s.rules small.1)) (more_terms (length s.config.interface) terms.1)) (more_nodes (phrase_nodes s.config) nodes.1)

grows : {V : Type 0} (narrow wide : Bool) (answer found : Result V TextFault) → (narrow ≡ true → wide ≡ true) → found ≢ Err Limit → found ≡ cond narrow answer (Err Limit) → found ≡ cond wide answer (Err Limit)
grows false wide answer found more other is = absurd (other is)
grows true true answer found more other is = is
grows true false answer found more other is = absurd (false≢true (more refl))

module _ {P V : Type 0} (SpellsOne : List ℕ → P → Type 0) (narrow wide : P → Result V TextFault) (text : List ℕ) (answer : Result V TextFault) (other : answer ≢ Err Limit) where
  wider : ((p : P) → answer ≡ narrow p → answer ≡ wide p) → IsReadingWithin Served SpellsOne narrow text answer → IsReadingWithin Wide SpellsOne wide text answer
  wider more reads = ⊎_elim by_long by_short (cases_lt MAX_TEXT (length text))
    where
      by_long : MAX_TEXT < length text → IsReadingWithin Wide SpellsOne wide text answer
      by_long long = absurd (other (reads.long long))

      by_short : length text ≤ MAX_TEXT → IsReadingWithin Wide SpellsOne wide text answer
      by_short short = record {
        long = λ (long : MAX_WIDE_TEXT < length text). absurd (omega (arith, short, long));
        spelled = λ _ p spells. more p (reads.spelled short p spells);
        malformed = λ _ none. reads.malformed short none;
      }

pub wider_config : (text : List ℕ) (answer : Result (List Symbol × Configuration) TextFault) → answer ≢ Err Limit → ReadsWithin Served text answer → ReadsWithin Wide text answer
wider_config text answer other reads =
    wider Spells (sense_within Served) (sense_within Wide) text answer other
    (λ p is. grows (is_in_limits_within Served p) (is_in_limits_within Wide p) _ answer (phrase_grows p) other is) reads

pub wider_system : (text : List ℕ) (answer : Result SystemParts TextFault) → answer ≢ Err Limit → ReadsSystemWithin Served text answer → ReadsSystemWithin Wide text answer
wider_system text answer other reads =
    wider SpellsSystem (system_sense_within Served) (system_sense_within Wide) text answer other
    (λ s is. grows (is_system_in_limits_within Served s) (is_system_in_limits_within Wide s) _ answer (system_grows s) other is) reads
