-- For private functions: terms that stood by themselves when they were read, and how they are put together.
use Rattle.std.specs.Prelude.{◌≡◌, ◌⊎◌, ℕ, ◌+◌, ◌-◌, ◌*◌, ◌^◌, ◌==◌, List, [], ◌∷◌, ◌++◌, Bool, true, false, Option, Some, length, reverse, slice_get, IsPermutation}
use Rattle.std.specs.HashMap.{HashMap, get}
use Rattle.std.specs.declared.hash.FoldHasher.{FoldHasher}
use Rattle.std.specs.declared.hash.BuildHasherDefault.{BuildHasherDefault}
use Rattle.ic_arena.specs.declared.word.Word.{Word}
use Rattle.ic_arena.specs.declared.word.TheConstants.{NAME}
use Rattle.ic_arena.specs.Piece.{Piece, waits, agent_of}
use Rattle.ic_meaning.specs.Nets.{IsAgentOf}
use Rattle.ic_readback.specs.declared.loose.Loose.{Loose}
use Rattle.ic_readback.specs.declared.token.Token.{Token}
use Rattle.ic_readback.specs.declared.token.Token.TheVariants.{Name, Agent}
use Rattle.ic_readback.specs.inner.Expanding.{state, Steps}

-- the tokens of a term, the place that it was read for, and whether it was written since
pub record Part : Type 0 where
  pub place : Word
  pub tokens : List Token
  pub written : Bool

-- a term that isn't written yet
abbrev pub part : Word → List Token → Part
part w ts = record { place = w; tokens = ts; written = false }

abbrev pub part_of : Loose → Part
part_of l = record { place = l.place; tokens = reverse l.reversed.items; written = l.written }

-- ---- how they are read

-- What is left is read, a piece after another, each with what it leads to.
pub data Gathered (arities : List ℕ) : List Part → List Piece → List Piece → Type 0 where
  nothing : (ps : List Piece) → Gathered arities [] ps ps
  waited : (parts : List Part) (name word : Word) (us : List Token) (ps qs rs ss : List Piece)
      → Gathered arities parts ps qs → name.tag ≡ NAME
      → IsPermutation qs (waits name word ∷ rs)
      → Steps arities (state [] (word ∷ []) rs) (state us [] ss)
      → Gathered arities (parts ++ part name us ∷ []) ps ss
  alone : (parts : List Part) (agent : Word) (vs : List Word) (us : List Token)
      (ps qs rs ss : List Piece)
      → Gathered arities parts ps qs → IsAgentOf arities agent.tag (length vs)
      → IsPermutation qs (agent_of agent vs ∷ rs)
      → Steps arities (state (Agent (agent.tag - 1) ∷ []) vs rs) (state us [] ss)
      → Gathered arities (parts ++ part agent us ∷ []) ps ss

-- ---- where they are

-- the number of a place
abbrev pub key_of : Word → ℕ
key_of w = w.tag * 2 ^ 32 + w.index

abbrev pub Indices : Type 0
Indices = HashMap ℕ ℕ (BuildHasherDefault FoldHasher)

abbrev pub found : Indices → ℕ → Option ℕ
found indices k = get (λ a b. a == b) indices k

-- each place is at its index
abbrev pub AreIndexed : Indices → List Word → Type 0
AreIndexed indices ws = (i : ℕ) (w : Word) → slice_get ws i ≡ Some w → found indices (key_of w) ≡ Some i

-- ---- how they are written

-- a term for this place isn't written yet
abbrev pub IsOpen : Word → List Part → Type 0
IsOpen w [] = ⊥
IsOpen w (p ∷ ps) = ((p.written ≡ false) × (p.place ≡ w)) ⊎ IsOpen w ps

-- the term at this index is for this place, and isn't written yet
pub record IsOpenAt (w : Word) (i : ℕ) (ls : List Loose) : Type 0 where
  pub loose : Loose
  pub there : slice_get ls i ≡ Some loose
  pub unwritten : loose.written ≡ false
  pub place : loose.place ≡ w

-- tokens that are written, those that are still to be written, and the terms that are left
pub record Writing : Type 0 where
  pub tokens : List Token
  pub rest : List Token
  pub parts : List Part

abbrev pub writing : List Token → List Token → List Part → Writing
writing ts rest parts = record { tokens = ts; rest = rest; parts = parts }

-- One token is written, or gives way to the term of the place that it names.
pub data Put : Writing → Writing → Type 0 where
  put : (ts rest : List Token) (before after : List Part) (p : Part) → p.written ≡ false
      → Put (writing ts (Name p.place ∷ rest) (before ++ p ∷ after))
      (writing ts (p.tokens ++ rest) (before ++ record p { written = true } ∷ after))
  write : (ts rest : List Token) (t : Token) (parts : List Part)
      → ((w : Word) → t ≡ Name w → ¬ IsOpen w parts)
      → Put (writing ts (t ∷ rest) parts) (writing (ts ++ t ∷ []) rest parts)

pub data Puts : Writing → Writing → Type 0 where
  no_put : (s : Writing) → Puts s s
  one_put : (s t u : Writing) → Put s t → Puts t u → Puts s u

-- Terms are written from the last one on, each with those that it leads to: what is left of the first ones then, and what
-- was written for each place.
pub data Mended : List Part → List Part → List Part → Type 0 where
  begun : (parts : List Part) → Mended parts parts []
  passed : (parts before done : List Part) (p : Part) → Mended parts (before ++ p ∷ []) done
      → p.written ≡ true → Mended parts before done
  further : (parts before after done : List Part) (p : Part) (us : List Token)
      → Mended parts (before ++ p ∷ []) done → p.written ≡ false
      → Puts (writing [] p.tokens before) (writing us [] after)
      → Mended parts after (done ++ part p.place us ∷ [])

-- the tokens of an equation of a place with a term
abbrev pub equation_tokens : Part → List Token
equation_tokens p = Name p.place ∷ p.tokens
