-- For private functions: the first pass over a text, which checks its syntax and counts its words
-- as they come.
use Rattle.std.specs.Prelude.{◌≡◌, ℕ, ◌+◌, ◌≤◌, List, [], ◌∷◌, Option, None, Some, Result, Ok, Err, length, if◌then◌else◌, option_and_then}
use Rattle.std.specs.Option.{option_map}
use Rattle.ic_text.specs.declared.syntax.Part.{Part}
use Rattle.ic_text.specs.declared.survey.Counts.{Counts}
use Rattle.ic_text.specs.declared.survey.Progress.{Progress}
use Rattle.ic_text.specs.Token.{Token, mark_of, tokens_at, words_among}
use Rattle.ic_text.specs.Reading.{IsSpelling}
use Rattle.ic_text.specs.inner.Syntax.{step, is_end, at_beginning}

-- no count is above a number
pub record IsWithin (most : ℕ) (p : Progress) : Type 0 where
  pub words : p.counts.words ≤ most
  pub depth : p.state.depth ≤ most

-- no count has risen by more than a number
pub record HasRisen (most : ℕ) (old new : Progress) : Type 0 where
  pub words : new.counts.words ≤ old.counts.words + most
  pub depth : new.state.depth ≤ old.state.depth + most

-- the check after one more token
abbrev pub take_one : Progress → Token → Option Progress
take_one p t = option_map (λ s. record {
  state = s;
  counts = record {
    words = p.counts.words + length (words_among (t ∷ []));
  };
}) (step p.state t)

-- the check after more tokens
abbrev pub taken : Option Progress → List Token → Option Progress
taken o [] = o
taken o (t ∷ ts) = taken (option_and_then (λ p. take_one p t) o) ts

-- the check after the tokens of more bytes, if they have any
abbrev pub taken_after : Option Progress → Option (List Token) → Option Progress
taken_after o None = None
taken_after o (Some ts) = taken o ts

-- the check after a byte that is no word byte
abbrev pub taken_at : Progress → ℕ → Option Progress
taken_at p b = taken_after (Some p) (tokens_at b (mark_of b))

-- what a check has counted, if it has come to the end
abbrev pub counted : Option Progress → Option Counts
counted None = None
counted (Some p) = if is_end p.state.part then Some p.counts else None

-- a check of a part in front of all tokens
abbrev pub begun : Part → Progress
begun part = record { state = at_beginning part; counts = record { words = 0 } }

-- what a check of a part counts in tokens
abbrev pub surveyed : Part → Option (List Token) → Option Counts
surveyed part o = counted (taken_after (Some (begun part)) o)

-- what was counted, without where a check was refused
abbrev pub counts_in : Result Counts ℕ → Option Counts
counts_in (Ok counts) = Some counts
counts_in (Err at) = None

-- what a survey of a text tells: that it spells no phrase of a kind, or one of so many words
abbrev pub Tells : {P : Type 0} → (P → Type 0) → (P → List Token) → List ℕ → Option Counts → Type 0
Tells {P} IsOne phrase_tokens text None = (p : P) → ¬ IsSpelling IsOne phrase_tokens text p
Tells {P} IsOne phrase_tokens text (Some counts) =
    (p : P) × IsSpelling IsOne phrase_tokens text p
    × (counts.words ≡ length (words_among (phrase_tokens p)))
