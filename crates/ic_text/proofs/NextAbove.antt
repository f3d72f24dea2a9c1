-- `next` of what is read is one above its greatest name.
use Rattle.std.proofs.Common.{◌≡◌, ℕ, Bool, true, false, cond, List, Option, None, Some, Result, Ok, Err, refl, ap, subst}
use Rattle.std.specs.List.{list_all}
use Rattle.ic_term.specs.Symbol.{Symbol}
use Rattle.ic_term.specs.Configuration.{Configuration, configuration_names, one_above, third_occurrence}
use Rattle.ic_rules.specs.RuleSet.{first_uncounted, first_repeated, first_lopsided}
use Rattle.ic_rules.specs.System.{SystemParts}
use Rattle.ic_text.specs.declared.limits.Limits.{Limits}
use Rattle.ic_text.specs.declared.fault.TextFault.{TextFault}
use Rattle.ic_text.specs.declared.fault.TextFault.TheVariants.{Limit, Arity, NameCount, Name, Twice, Lopsided}
use Rattle.ic_text.specs.Source.{IsPhrase, phrase_words, phrase_names}
use Rattle.ic_text.specs.SystemSource.{SystemPhrase, IsSystemPhrase, system_words, system_symbols}
use Rattle.ic_text.specs.Sense.{has_its_arity, numbered_phrase, sense_within}
use Rattle.ic_text.specs.SystemSense.{system_table, is_system_in_limits_within, rules_over, system_parts, unless_found, system_sense_within}
use Rattle.ic_text.specs.Text.{ReadsWithin}
use Rattle.ic_text.specs.SystemText.{ReadsSystemWithin}
use Rattle.ic_text.proofs.Over.{has_sense}
use Rattle.ic_text.proofs.OneReading.{told}
use Rattle.ic_text.proofs.OneSystem.{told_systems}
use Rattle.ic_text.specs.lemmas.ReadOnce.{meant}

abbrev IsNext : Configuration → Type 0
IsNext c = c.next ≡ one_above (configuration_names c)

pub next_of_reading : (limits : Limits) (text : List ℕ) (table : List Symbol) (c : Configuration) → ReadsWithin limits text (Ok (table, c)) → IsNext c
next_of_reading limits text table c reads =
    let m = meant IsPhrase phrase_words told limits (sense_within limits) text (table, c) reads in
    subst IsNext (has_sense limits m.phrase (table, c) m.means).config refl

abbrev parts_or : SystemParts → Result SystemParts TextFault → SystemParts
parts_or d (Ok v) = v
parts_or d (Err e) = d

pub parts_of_sense : (limits : Limits) (s : SystemPhrase) (v : SystemParts) → system_sense_within limits s ≡ Ok v → system_parts s ≡ v
parts_of_sense limits s v =
    by_cases (is_system_in_limits_within limits s) (list_all (has_its_arity (system_table s)) (system_symbols s))
    (first_uncounted (rules_over s)) (third_occurrence (phrase_names s.config)) (first_repeated (rules_over s)) (first_lopsided (rules_over s))
  where
    by_cases : (a b : Bool) (counted third repeated uneven : Option ℕ)
        → cond a (cond b (unless_found counted NameCount (unless_found third Name (unless_found repeated Twice (unless_found uneven Lopsided (Ok (system_parts s)))))) (Err Arity)) (Err Limit) ≡ Ok v
        → system_parts s ≡ v
    by_cases false b counted third repeated uneven e = cc
    by_cases true false counted third repeated uneven e = cc
    by_cases true true (Some n) third repeated uneven e = cc
    by_cases true true None (Some n) repeated uneven e = cc
    by_cases true true None None (Some n) uneven e = cc
    by_cases true true None None None (Some n) e = cc
    by_cases true true None None None None e = ap (parts_or (system_parts s)) e

pub config_of_sense : (limits : Limits) (s : SystemPhrase) (v : SystemParts) → system_sense_within limits s ≡ Ok v → numbered_phrase (system_table s) s.config ≡ v.config
config_of_sense limits s v means = ap (λ (p : SystemParts). p.config) (parts_of_sense limits s v means)

pub next_of_system : (limits : Limits) (text : List ℕ) (v : SystemParts) → ReadsSystemWithin limits text (Ok v) → IsNext v.config
next_of_system limits text v reads =
    let m = meant IsSystemPhrase system_words told_systems limits (system_sense_within limits) text v reads in
    subst IsNext (config_of_sense limits m.phrase v m.means) refl
