-- What is printed of a configuration that was read is read as the same.
use Rattle.std.proofs.Common.{◌≡◌, ℕ, ◌≤◌, not, List, Ok, length, sym, ap, subst, ◌∙◌, arith}
use Rattle.std.specs.List.{filter}
use Rattle.std.proofs.lemmas.List.Sums.{length-filter, count_by-le-length}
use Rattle.ic_term.specs.Symbol.{Symbol}
use Rattle.ic_term.specs.Configuration.{Configuration}
use Rattle.ic_text.specs.declared.limits.Limits.{Limits}
use Rattle.ic_text.specs.Token.{is_blank}
use Rattle.ic_text.specs.Source.{Phrase, IsPhrase, phrase_words}
use Rattle.ic_text.specs.Sense.{symbol_table, sense_within}
use Rattle.ic_text.specs.Text.{Spells, ReadsWithin, phrase_of, printed, text_of}
use Rattle.ic_text.proofs.KeptBytes.{text_of-tokens}
use Rattle.ic_text.proofs.Over.{has_sense}
use Rattle.ic_text.specs.lemmas.WrittenTokens.{tokens-phrase_words}
use Rattle.ic_text.proofs.OneReading.{told}
use Rattle.ic_text.specs.lemmas.ReadOnce.{one_phrase, meant}
use Rattle.ic_text.specs.lemmas.WrittenBack.{phrase_back}

-- what a phrase means is written as that phrase
sense_back : (limits : Limits) (p : Phrase) (v : List Symbol × Configuration) → sense_within limits p ≡ Ok v → phrase_of v.0 v.1 ≡ p
sense_back limits p v e =
    let s = has_sense limits p v e in
    (λ i. phrase_of (sym s.table i) (sym s.config i)) ∙ phrase_back (symbol_table p) p s.agree

pub read_back : (limits : Limits) (text : List ℕ) (table : List Symbol) (c : Configuration) → ReadsWithin limits text (Ok (table, c)) → ReadsWithin limits (printed table c) (Ok (table, c)) × (length (printed table c) ≤ length text)
read_back limits text table c reads =
    let m = meant IsPhrase phrase_words told limits (sense_within limits) text (table, c) reads in
    let back : phrase_of table c ≡ m.phrase = sense_back limits m.phrase (table, c) m.means in
    let is : IsPhrase (phrase_of table c) = subst IsPhrase (sym back) m.spells.phrase in
    let spells : Spells (printed table c) (phrase_of table c) = record { phrase = is; tokens = tokens-phrase_words (phrase_of table c) is } in
    let bytes : printed table c ≡ filter (λ b. not (is_blank b)) text = ap (λ q. text_of (phrase_words q)) back ∙ text_of-tokens text (phrase_words m.phrase) m.spells.tokens in
    let no_longer : length (printed table c) ≤ length text = omega (arith, ap length bytes, length-filter (λ b. not (is_blank b)) text, count_by-le-length (λ b. not (is_blank b)) text) in (
      record {
        long = λ long. absurd (omega (arith, m.short));
        spelled = λ _ q other. sym m.means ∙ ap (sense_within limits) (sym back) ∙ ap (sense_within limits) (one_phrase IsPhrase phrase_words told (printed table c) (phrase_of table c) q spells other);
        malformed = λ _ none. absurd (none (phrase_of table c) spells);
      },
      no_longer,
    )
