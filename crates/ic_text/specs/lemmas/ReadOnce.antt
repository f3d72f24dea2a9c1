-- A text spells at most one phrase of a kind and is read in just one way, where phrases differ in their tokens and a
-- test tells their tokens from others.
use Rattle.std.proofs.Common.{◌≡◌, ℕ, ◌<◌, ◌≤◌, ◌⊎◌, inl, inr, Bool, true, false, List, Option, None, Some, Result, Ok, Err, length, refl, sym, ap, ◌∙◌, ⊎_elim, arith}
use Rattle.std.proofs.lemmas.Bool.{false≢true, cases_lt}
use Rattle.ic_text.specs.declared.limits.Limits.{Limits}
use Rattle.ic_text.specs.declared.fault.TextFault.{TextFault}
use Rattle.ic_text.specs.declared.fault.TextFault.TheVariants.{Syntax, Limit}
use Rattle.ic_text.specs.Limits.{most_bytes}
use Rattle.ic_text.specs.Token.{Token, tokens}
use Rattle.ic_text.specs.Reading.{IsSpelling, IsReadingWithin}

pub some-injective : (ts us : List Token) → Some ts ≡ Some us → ts ≡ us
some-injective ts us e = cc

pub none_is_some : (ts : List Token) → None ≡ Some ts → ⊥
none_is_some ts e = cc

-- some phrase of the kind has these tokens
abbrev IsOfKind : {P : Type 0} → (P → Type 0) → (P → List Token) → List Token → Type 0
IsOfKind {P} IsOne words ts = (p : P) × IsOne p × (ts ≡ words p)

-- how phrases of a kind are told from their tokens
pub record IsTold {P : Type 0} (IsOne : P → Type 0) (words : P → List Token) : Type 0 where
  pub test : List Token → Bool
  pub found : (ts : List Token) → test ts ≡ true → IsOfKind IsOne words ts
  pub only : (ts : List Token) → IsOfKind IsOne words ts → test ts ≡ true
  pub injective : (p q : P) → IsOne p → IsOne q → words p ≡ words q → p ≡ q

-- what a text that is read spells
pub record IsMeant (limits : Limits) {P V : Type 0} (IsOne : P → Type 0) (words : P → List Token) (sense : P → Result V TextFault) (text : List ℕ) (v : V) : Type 0 where
  pub short : length text ≤ most_bytes limits
  pub phrase : P
  pub spells : IsSpelling IsOne words text phrase
  pub means : sense phrase ≡ Ok v

module _ {P : Type 0} (IsOne : P → Type 0) (words : P → List Token) (told : IsTold IsOne words) where
  pub one_phrase : (text : List ℕ) (p q : P) → IsSpelling IsOne words text p → IsSpelling IsOne words text q → p ≡ q
  one_phrase text p q spells_p spells_q =
      told.injective p q spells_p.phrase spells_q.phrase (some-injective _ _ (sym spells_p.tokens ∙ spells_q.tokens))

  -- whether a text spells a phrase of the kind
  abbrev pub Spelling : List ℕ → Type 0
  Spelling text = ((p : P) × IsSpelling IsOne words text p) ⊎ ((p : P) → IsSpelling IsOne words text p → ⊥)

  pub spelling : (text : List ℕ) → Spelling text
  spelling text = by_tokens (tokens text) refl
    where
      by_test : (ts : List Token) → tokens text ≡ Some ts → (b : Bool) → told.test ts ≡ b → Spelling text
      by_test ts e true yes_is =
          let s = told.found ts yes_is in
          inl (s.0, record { phrase = s.1; tokens = e ∙ ap Some s.2 })
      by_test ts e false no_is =
          inr (λ p spells. false≢true (sym no_is ∙ told.only ts (p, spells.phrase, some-injective _ _ (sym e ∙ spells.tokens))))

      by_tokens : (o : Option (List Token)) → tokens text ≡ o → Spelling text
      by_tokens None e = inr (λ p spells. none_is_some (words p) (sym e ∙ spells.tokens))
      by_tokens (Some ts) e = by_test ts e (told.test ts) refl

  module _ {V : Type 0} (limits : Limits) (sense : P → Result V TextFault) where
    abbrev Reading : List ℕ → Result V TextFault → Type 0
    Reading text answer = IsReadingWithin limits (IsSpelling IsOne words) sense text answer

    pub one_answer : (text : List ℕ) (a b : Result V TextFault) → Reading text a → Reading text b → a ≡ b
    one_answer text a b reads_a reads_b = ⊎_elim by_long by_short (cases_lt (most_bytes limits) (length text))
      where
        by_long : most_bytes limits < length text → a ≡ b
        by_long long = reads_a.long long ∙ sym (reads_b.long long)

        by_short : length text ≤ most_bytes limits → a ≡ b
        by_short short = elim (spelling text) [
          | inl s ↦ reads_a.spelled short s.0 s.1 ∙ sym (reads_b.spelled short s.0 s.1)
          | inr none ↦ reads_a.malformed short none ∙ sym (reads_b.malformed short none)
        ]

    pub reads_long : (text : List ℕ) → most_bytes limits < length text → Reading text (Err Limit)
    reads_long text long =
        record { long = λ _. refl; spelled = λ short. absurd (omega arith); malformed = λ short. absurd (omega arith) }

    pub reads_sense : (text : List ℕ) (p : P) → length text ≤ most_bytes limits → IsSpelling IsOne words text p → Reading text (sense p)
    reads_sense text p short spells = record {
      long = λ long. absurd (omega arith);
      spelled = λ _ q other. ap sense (one_phrase text p q spells other);
      malformed = λ _ none. absurd (none p spells);
    }

    pub reads_none : (text : List ℕ) → length text ≤ most_bytes limits → ((p : P) → IsSpelling IsOne words text p → ⊥) → Reading text (Err Syntax)
    reads_none text short none = record {
      long = λ long. absurd (omega arith);
      spelled = λ _ p spells. absurd (none p spells);
      malformed = λ _ _. refl;
    }

    pub some_answer : (text : List ℕ) → (a : Result V TextFault) × Reading text a
    some_answer text = ⊎_elim by_long by_short (cases_lt (most_bytes limits) (length text))
      where
        by_long : most_bytes limits < length text → (a : Result V TextFault) × Reading text a
        by_long long = (Err Limit, reads_long text long)

        by_short : length text ≤ most_bytes limits → (a : Result V TextFault) × Reading text a
        by_short short = elim (spelling text) [
          | inl s ↦ (sense s.0, reads_sense text s.0 short s.1)
          | inr none ↦ (Err Syntax, reads_none text short none)
        ]

    pub meant : (text : List ℕ) (v : V) → Reading text (Ok v) → IsMeant limits IsOne words sense text v
    meant text v reads = ⊎_elim by_long by_short (cases_lt (most_bytes limits) (length text))
      where
        by_long : most_bytes limits < length text → IsMeant limits IsOne words sense text v
        by_long long = let e = reads.long long in cc

        by_short : length text ≤ most_bytes limits → IsMeant limits IsOne words sense text v
        by_short short = elim (spelling text) [
          | inl s ↦ record { short = short; phrase = s.0; spells = s.1; means = sym (reads.spelled short s.0 s.1) }
          | inr none ↦ let e = reads.malformed short none in cc
        ]
