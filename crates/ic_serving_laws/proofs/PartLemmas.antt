-- Tables between the events of a line, and what faults say and leave.
use Rattle.std.proofs.Common.{Bool, true, Ok, Err, ◌≡◌, ◌≢◌, ◌⊎◌, inl, inr, ℕ, zero, suc, ◌<◌, ◌≤◌, List, [], ◌∷◌, ◌++◌, length, take, drop, refl, sym, ap, subst, ◌∙◌, arith, length-append}
use Rattle.std.proofs.lemmas.List.{take-append-drop, take_all}
use Rattle.std.proofs.Math.Seq.{take-append_seam}
use Rattle.ic_jobs.specs.Job.{JobParts}
use Rattle.ic_jobs.specs.declared.event.Event.{Event}
use Rattle.ic_jobs.specs.History.{table_after}
use Rattle.ic_commands.specs.LineText.{ReadsLine}
use Rattle.ic_lines.specs.Turns.{turns, after_events}
use Rattle.ic_lines.specs.Answers.{Reading, after, events}
use Rattle.ic_lines.specs.Serving.{AreRead, IsServed}
use Rattle.ic_serving.specs.declared.fault.ServeFault.{ServeFault}
use Rattle.ic_serving.specs.declared.fault.ServeFault.TheVariants.{Read, Write, TooManyLines, Book, Pool, LongLine, Memory}
use Rattle.ic_serving.specs.Parts.{IsBeforeRound, IsPart, IsKeptWithin, IsInFew, IsInLine, IsInFirst}
use Rattle.ic_serving.specs.Moments.{IsKeptInLine}
use Rattle.ic_pool.specs.declared.fault.PoolFault.{PoolFault}
use Rattle.ic_pool.specs.declared.fault.PoolFault.TheVariants as pool
use Rattle.ic_commands.specs.declared.line.Line.TheVariants.{Blank, Command as Asks, Run}
use Rattle.ic_serving.specs.Faults.{ComesFor, ComesInLine, ComesUnmade, ComesWithoutRound}
use Rattle.ic_serving.specs.Served.{ComesAt, ComesAtFirst, SaysOf, IsLeftBy}
use Rattle.ic_serving.specs.Stopped.{IsReached, MayStand}

-- ---- fronts of events

pub part_to : (t u : List JobParts) (es : List Event) → IsPart t es u → (n : ℕ) × (n ≤ length es) × (u ≡ after_events t (take n es))
part_to t u es p =
    let sum = ap length p.parted ∙ length-append p.front p.rest in
    let front : take (length p.front) es ≡ p.front = ap (take (length p.front)) p.parted ∙ take-append_seam p.front p.rest in
    (length p.front, omega (arith, sum), p.leaves ∙ ap (after_events t) (sym front))

pub part_from : (t u : List JobParts) (es : List Event) → (n : ℕ) × (n ≤ length es) × (u ≡ after_events t (take n es)) → IsPart t es u
part_from t u es h = record { front = take h.0 es; rest = drop h.0 es; parted = sym (take-append-drop h.0 es); leaves = h.2 }

one_of : (t u : List JobParts) (e : Event) (n : ℕ) → u ≡ after_events t (take n (e ∷ [])) → (u ≡ t) ⊎ (u ≡ table_after t e)
one_of t u e zero is = inl is
one_of t u e (suc m) is = inr (is ∙ ap (after_events t) (take_all (suc m) (e ∷ []) (omega arith)))

pub one_to : (t u : List JobParts) (e : Event) → IsPart t (e ∷ []) u → (u ≡ t) ⊎ (u ≡ table_after t e)
one_to t u e p = let h = part_to t u (e ∷ []) p in one_of t u e h.0 h.2

pub one_from : (t u : List JobParts) (e : Event) → (u ≡ t) ⊎ (u ≡ table_after t e) → IsPart t (e ∷ []) u
one_from t u e (inl same) = record { front = []; rest = e ∷ []; parted = refl; leaves = same }
one_from t u e (inr moved) = record { front = e ∷ []; rest = []; parted = refl; leaves = moved }

pub none_to : (t u : List JobParts) → IsPart t [] u → u ≡ t
none_to t u p = let h = part_to t u [] p in h.2 ∙ ap (after_events t) (take_all h.0 [] (omega arith))

pub none_from : (t u : List JobParts) (es : List Event) → u ≡ t → IsPart t es u
none_from t u es same = record { front = []; rest = es; parted = refl; leaves = same }

-- a run has no more rounds than it is asked for
abbrev pub FewLaw : Type 0
FewLaw = (k place : ℕ) (t : List JobParts) → length (turns k place t) ≤ k

-- a front of a run is a shorter run
abbrev pub FrontLaw : Type 0
FrontLaw = (k n place : ℕ) (t : List JobParts) → n ≤ k → take n (turns k place t) ≡ turns n place t

pub run_to : FewLaw → FrontLaw → (t u : List JobParts) (k : ℕ) → IsPart t (turns k 0 t) u → (n : ℕ) × (n ≤ k) × (u ≡ after_events t (turns n 0 t))
run_to few front t u k p =
    let h = part_to t u (turns k 0 t) p in
    let below = h.1 in
    let short = few k 0 t in
    let fits : h.0 ≤ k = omega (arith, below, short) in
    (h.0, fits, h.2 ∙ ap (after_events t) (front k h.0 0 t fits))

pub run_from : FrontLaw → (t u : List JobParts) (k : ℕ) → (n : ℕ) × (n ≤ k) × (u ≡ after_events t (turns n 0 t)) → IsPart t (turns k 0 t) u
run_from front t u k h = record {
  front = turns h.0 0 t;
  rest = drop h.0 (turns k 0 t);
  parted = sym (take-append-drop h.0 (turns k 0 t)) ∙ ap (λ es. es ++ drop h.0 (turns k 0 t)) (front k h.0 0 t h.1);
  leaves = h.2;
}

-- ---- tables within a line

-- a line is read in one way
abbrev pub OneWay : Type 0
OneWay = (text : List ℕ) (a b : Reading) → ReadsLine text a → ReadsLine text b → a ≡ b

-- each line is read somehow
abbrev pub SomeWay : Type 0
SomeWay = (text : List ℕ) → (a : Reading) × ReadsLine text a

pub line_to : OneWay → (t u : List JobParts) (line : List ℕ) (r : Reading) → ReadsLine line r → IsInLine t line u → IsPart t (events t r) u
line_to law t u line r reads h = subst (λ (x : Reading). IsPart t (events t x) u) (law line h.reading r h.read reads) h.part

pub line_from : (t u : List JobParts) (line : List ℕ) (r : Reading) → ReadsLine line r → IsPart t (events t r) u → IsInLine t line u
line_from t u line r reads part = record { reading = r; read = reads; part = part }

pub kept_from : (t kept u : List JobParts) (line : List ℕ) (r : Reading) → ReadsLine line r → IsKeptWithin t kept (events t r) u → IsKeptInLine t kept line u
kept_from t kept u line r reads (inl same) = inl same
kept_from t kept u line r reads (inr part) = inr (line_from t u line r reads part)

first_from : SomeWay → (t u : List JobParts) (ls : List (List ℕ)) → u ≡ t → IsInFirst t ls u
first_from law t u [] same = same
first_from law t u (line ∷ more) same =
    let r = law line in line_from t u line r.0 r.1 (none_from t u (events t r.0) same)

-- ---- faults

first_few : SomeWay → (most : ℕ) (t u : List JobParts) (ls : List (List ℕ)) → 1 ≤ most → u ≡ t → IsInFew most t ls u
first_few law most t u ls one same = record {
  front = [];
  rest = ls;
  answers = [];
  between = t;
  parted = refl;
  few = omega (arith, one);
  served = record { readings = []; read = tt; answered = refl; leaves = refl };
  in_line = first_from law t u ls same;
}

pub left_within : SomeWay → (fault : ServeFault) (most : ℕ) (t u : List JobParts) (ls : List (List ℕ)) → 1 ≤ most → IsLeftBy fault most t ls u → IsInFew most t ls u
left_within law Read most t u ls one left = first_few law most t u ls one left
left_within law Write most t u ls one left = left
left_within law TooManyLines most t u ls one left = first_few law most t u ls one left
left_within law (Book fault) most t u ls one left = left
left_within law (Pool fault) most t u ls one left = left
left_within law LongLine most t u ls one left = first_few law most t u ls one left
left_within law Memory most t u ls one left = left

-- within one line it is within the next
few_parts : (t v u : List JobParts) (ls front rest : List (List ℕ)) (answers : List ℕ) → ls ≡ front ++ rest → length front < 1 → IsServed t front answers v → IsInFirst v rest u → IsInFirst t ls u
few_parts t v u ls [] rest answers parted few served there =
    let same : v ≡ t = nothing served.readings served.read served.leaves in
    subst (λ (xs : List (List ℕ)). IsInFirst t xs u) (sym parted) (subst (λ (x : List JobParts). IsInFirst x rest u) same there)
  where
    nothing : (rs : List Reading) → AreRead [] rs → v ≡ after t rs → v ≡ t
    nothing [] read leaves = leaves
    nothing (r ∷ rs) read leaves = absurd read
few_parts t v u ls (line ∷ front) rest answers parted few served there = absurd (omega (arith, few))

pub few_one : (t u : List JobParts) (ls : List (List ℕ)) → IsInFew 1 t ls u → IsInFirst t ls u
few_one t u ls is = few_parts t is.between u ls is.front is.rest is.answers is.parted is.few is.served is.in_line

pub says_long : (t left : List JobParts) (front rest : List (List ℕ)) → SaysOf LongLine t left front rest
    → (line : List ℕ) × (more : List (List ℕ)) × (rest ≡ line ∷ more) × (length front < 1000000) × (262144 < length line)
says_long t left front [] says = absurd says
says_long t left front (line ∷ more) says = (line, more, refl, says.0, says.1)

pub says_many : (t left : List JobParts) (front rest : List (List ℕ)) → SaysOf TooManyLines t left front rest
    → (line : List ℕ) × (more : List (List ℕ)) × (rest ≡ line ∷ more) × (length front ≡ 1000000)
says_many t left front [] says = absurd says
says_many t left front (line ∷ more) says = (line, more, refl, says)

pub without_round : (fault : ServeFault) → ComesWithoutRound fault → ComesInLine fault × ((of_pool : PoolFault) → fault ≢ Pool of_pool)
without_round (Book f) comes = (comes, λ of_pool same. cc)
without_round Memory comes = (tt, λ of_pool same. cc)
without_round fault comes = absurd comes

pub unmade : (fault : ServeFault) → ComesUnmade fault → ComesInLine fault
unmade (Book f) comes = comes
unmade (Pool f) comes = rw comes tt
unmade Memory comes = tt
unmade fault comes = absurd comes

pub at_line : (t : List JobParts) (ls : List (List ℕ)) (left : List JobParts) (fault : ServeFault) → ComesAtFirst t ls left fault
    → (line : List ℕ) × (more : List (List ℕ)) × (ls ≡ line ∷ more) × ComesAt t line left fault
at_line t [] left fault comes = absurd comes
at_line t (line ∷ more) left fault comes = (line, more, refl, comes)

-- for what a line asks that is read so
pub comes_for : OneWay → (t : List JobParts) (line : List ℕ) (r : Reading) (left : List JobParts) (fault : ServeFault) → ReadsLine line r → ComesAt t line left fault
    → ComesFor t r left fault
comes_for law t line r left fault reads at = subst (λ (x : Reading). ComesFor t x left fault) (law line at.reading r at.read reads) at.comes

pub asks_rounds : (t : List JobParts) (line : List ℕ) (r : Reading) (left : List JobParts) (fault : PoolFault) → ReadsLine line r → ComesFor t r left (Pool fault)
    → (k : ℕ) × ReadsLine line (Ok (Run k)) × (turns k 0 t ≢ []) × ((fault ≡ pool.Memory) ⊎ IsBeforeRound t (turns k 0 t) left)
asks_rounds t line (Ok Blank) left fault reads comes = (let bad : Pool fault ≡ Memory = comes in cc)
asks_rounds t line (Ok (Asks c)) left fault reads comes = absurd comes
asks_rounds t line (Ok (Run k)) left fault reads comes = (k, reads, comes.1, comes.2)
asks_rounds t line (Err why) left fault reads comes = (let bad : Pool fault ≡ Memory = comes in cc)

-- ---- stops

pub stands_all : (kept t u : List JobParts) (ls : List (List ℕ)) → MayStand (true ≡ true) kept t ls u → IsReached t ls u
stands_all kept t u ls (inl reached) = reached
stands_all kept t u ls (inr other) = absurd (other.0 refl)

pub stands_else : (all : Bool) (kept t u : List JobParts) (ls : List (List ℕ)) → MayStand (all ≡ true) kept t ls u → IsReached t ls u ⊎ (u ≡ kept)
stands_else all kept t u ls (inl reached) = inl reached
stands_else all kept t u ls (inr other) = inr other.1
