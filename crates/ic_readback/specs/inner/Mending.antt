-- For private functions: what a writer has written.
use Rattle.std.specs.Prelude.{◌≡◌, ℕ, ◌+◌, List, [], ◌∷◌, ◌++◌, length, map, reverse}
use Rattle.std.specs.List.{flat_map}
use Rattle.ic_arena.specs.declared.word.Word.{Word}
use Rattle.ic_readback.specs.declared.token.Token.{Token}
use Rattle.ic_readback.specs.declared.writer.Writer.{Writer}
use Rattle.ic_readback.specs.inner.Writing.{Part, part_of, writing, Put, Puts, Mended, equation_tokens}

-- the terms that are left
abbrev pub parts_left : Writer → List Part
parts_left w = map part_of w.loose.items

abbrev pub places_left : Writer → List Word
places_left w = map (λ l. l.place) w.loose.items

-- the places and their indices are as they were
pub record SamePlaces (old new : Writer) : Type 0 where
  pub places : places_left new ≡ places_left old
  pub indices : new.indices ≡ old.indices

-- A writer has written one token of these, or put a term in its stead.
pub record WroteOne (rest : List Token) (old new : Writer) : Type 0 where
  pub more : List Token
  pub tokens : new.tokens.items ≡ old.tokens.items ++ more
  pub equations : new.equations ≡ old.equations
  pub same : SamePlaces old new
  pub step : (ts : List Token) → Put (writing ts rest (parts_left old))
      (writing (ts ++ more) (reverse new.stack.items) (parts_left new))

-- A writer has written some of these tokens.
pub record Wrote (rest : List Token) (old new : Writer) : Type 0 where
  pub more : List Token
  pub tokens : new.tokens.items ≡ old.tokens.items ++ more
  pub equations : new.equations ≡ old.equations
  pub same : SamePlaces old new
  pub steps : (ts : List Token) → Puts (writing ts rest (parts_left old))
      (writing (ts ++ more) (reverse new.stack.items) (parts_left new))

-- A writer has written terms as equations, which it counts.
pub record Mends (old new : Writer) : Type 0 where
  pub done : List Part
  pub mended : Mended (parts_left old) (parts_left new) done
  pub tokens : new.tokens.items ≡ old.tokens.items ++ flat_map equation_tokens done
  pub counted : new.equations ≡ old.equations + length done
  pub empty : new.stack.items ≡ []

-- A writer has passed over a term, or written it as an equation.
pub record HasWritten (p : Part) (old new : Writer) : Type 0 where
  pub done : List Part
  pub mended : Mended (parts_left old ++ p ∷ []) (parts_left new) done
  pub tokens : new.tokens.items ≡ old.tokens.items ++ flat_map equation_tokens done
  pub counted : new.equations ≡ old.equations + length done
  pub empty : new.stack.items ≡ []
  pub same : SamePlaces old new

-- Terms were written, all of them, after these tokens.
pub record WritesLoose (parts : List Part) (ts : List Token) (equations : ℕ) (new : Writer)
    : Type 0 where
  pub done : List Part
  pub mended : Mended parts [] done
  pub tokens : new.tokens.items ≡ ts ++ flat_map equation_tokens done
  pub counted : new.equations ≡ equations + length done
