-- For private functions: lines that were answered so far.
use Rattle.std.specs.Prelude.{◌≡◌, ◌≢◌, ◌+◌, ℕ, List, ◌∷◌, ◌++◌, Option, None, Some, length, ⊤}
use Rattle.ic_jobs.specs.Job.{JobParts}
use Rattle.ic_lines.specs.Lines.{lines}
use Rattle.ic_lines.specs.Taking.{HasLongLine}
use Rattle.ic_serving.specs.declared.limits.TheConstants.{MAX_LINES}
use Rattle.ic_serving.specs.declared.fault.ServeFault.{ServeFault}
use Rattle.ic_serving.specs.declared.fault.ServeFault.TheVariants.{Read, Write, TooManyLines, Book, Pool, LongLine, Memory}
use Rattle.ic_serving.specs.Served.{AreAnswered}

-- these are the first lines of the reader's bytes, and those of the rest are to come
abbrev pub AreFirst : (text : Option (List ℕ)) (front : List (List ℕ)) (rest : Option (List ℕ)) → Type 0
AreFirst None front rest = ⊤
AreFirst (Some text) front None = ⊥
AreFirst (Some text) front (Some rest) = lines text ≡ front ++ lines rest

-- these lines are to come
abbrev pub AreToCome : (rest : Option (List ℕ)) (ls : List (List ℕ)) → Type 0
AreToCome None ls = ⊤
AreToCome (Some rest) ls = lines rest ≡ ls

-- a line is to come
abbrev pub HasSomeLine : (rest : Option (List ℕ)) → Type 0
HasSomeLine None = ⊤
HasSomeLine (Some rest) = (line : List ℕ) × (more : List (List ℕ)) × (lines rest ≡ line ∷ more)

-- why no line was taken where so many more may be served, of those that are to come
abbrev pub IsUntaken : (left : ℕ) → ServeFault → (rest : Option (List ℕ)) → Type 0
IsUntaken left Read rest = Unit {0}
IsUntaken left Write rest = Unit {0}
IsUntaken left TooManyLines rest = (left ≡ 0) × HasSomeLine rest
IsUntaken left (Book fault) rest = ⊥
IsUntaken left (Pool fault) rest = ⊥
IsUntaken left LongLine rest = (left ≢ 0) × HasLongLine rest
IsUntaken left Memory rest = Unit {0}

-- some lines were answered, those of the rest are to come, and so many more may be answered
pub record IsUnderWay (text rest : Option (List ℕ)) (left : ℕ) (t u : List JobParts)
    (old new : Option (List ℕ)) : Type 0 where
  pub front : List (List ℕ)
  pub first : AreFirst text front rest
  pub counted : length front + left ≡ MAX_LINES
  pub answered : AreAnswered front t u old new
