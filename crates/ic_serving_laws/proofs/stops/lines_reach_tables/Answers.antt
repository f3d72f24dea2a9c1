use Rattle.std.proofs.Common.{◌≡◌, ℕ, ◌<◌, List, [], ◌∷◌, ◌++◌, length, refl, sym, subst, ◌∙◌, arith, append-nil}
use Rattle.ic_jobs.specs.Job.{JobParts}
use Rattle.ic_lines.specs.Answers.{Reading, events, after}
use Rattle.ic_lines.specs.Serving.{AreRead, IsServed}
use Rattle.ic_serving.specs.Parts.{IsInLine, IsInFirst}
use Rattle.ic_serving.specs.Served.{MayBeServed}
use Rattle.ic_serving.specs.Stopped.{IsReached}
use Rattle.ic_serving.specs.lemmas.Reaching.{served_none, reached_now, reached_longer}
use Rattle.ic_serving_laws.proofs.stops.lines_reach_tables.Goals as goal

nothing_read : (t v : List JobParts) (rs : List Reading) → AreRead [] rs → v ≡ after t rs → v ≡ t
nothing_read t v [] read leaves = leaves
nothing_read t v (r ∷ rs) read leaves = absurd read

one_read : (t v : List JobParts) (line : List ℕ) (rs : List Reading) → AreRead (line ∷ []) rs → v ≡ after t rs → IsInLine t line v
one_read t v line [] read leaves = absurd read
one_read t v line (r ∷ []) read leaves =
    record { reading = r; read = read.0; part = record { front = events t r; rest = []; parted = sym (append-nil (events t r)); leaves = leaves } }
one_read t v line (r ∷ q ∷ rs) read leaves = absurd read.1

none : (t u v : List JobParts) (front rest : List (List ℕ)) (answers : List ℕ) → [] ≡ front ++ rest → IsServed t front answers v → IsInFirst v rest u → u ≡ t
none t u v [] [] answers parted served here = here ∙ nothing_read t v served.readings served.read served.leaves
none t u v [] (x ∷ xs) answers parted served here = cc
none t u v (x ∷ xs) rest answers parted served here = cc

one : (t u v : List JobParts) (line : List ℕ) (front rest : List (List ℕ)) (answers : List ℕ) → line ∷ [] ≡ front ++ rest → IsServed t front answers v → IsInFirst v rest u → IsInLine t line u
one t u v line [] rest answers parted served here =
    subst (λ (w : List JobParts). IsInLine w line u) (nothing_read t v served.readings served.read served.leaves)
    (subst (λ (ls : List (List ℕ)). IsInFirst v ls u) (sym parted) here)
one t u v line (x ∷ []) [] answers parted served here =
    let same : x ≡ line = cc in
    subst (λ (l : List ℕ). IsInLine t l u) same (subst (IsInLine t x) (sym here) (one_read t v x served.readings served.read served.leaves))
one t u v line (x ∷ []) (y ∷ ys) answers parted served here = cc
one t u v line (x ∷ y ∷ ys) rest answers parted served here = cc

before_too_long : (t u v : List JobParts) (line : List ℕ) (more front rest : List (List ℕ)) (answers : List ℕ) → 262144 < length line → line ∷ more ≡ front ++ rest → MayBeServed front
    → IsServed t front answers v → IsInFirst v rest u → IsInLine t line u
before_too_long t u v line more [] rest answers long parted within served here =
    subst (λ (w : List JobParts). IsInLine w line u) (nothing_read t v served.readings served.read served.leaves)
    (subst (λ (ls : List (List ℕ)). IsInFirst v ls u) (sym parted) here)
before_too_long t u v line more (x ∷ xs) rest answers long parted within served here =
    let same : length x ≡ length line = cc in
    absurd (omega (arith, long, within.short.0, same))

pub returns-clause-before : goal.returns-clause-before
returns-clause-before c = λ t ls. reached_now c.one_line_reading.ensures.total t ls

pub returns-clause-none : goal.returns-clause-none
returns-clause-none c = λ t u. (
  λ r. none t u r.between r.front r.rest r.answers r.parted r.served r.in_line,
  λ same. subst (IsReached t []) (sym same) (reached_now c.one_line_reading.ensures.total t []),
)

pub returns-clause-one : goal.returns-clause-one
returns-clause-one c = λ t u line. (
  λ r. one t u r.between line r.front r.rest r.answers r.parted r.served r.in_line,
  λ here. record { front = []; rest = line ∷ []; answers = []; between = t; parted = refl; within = record { few = omega arith; short = tt }; served = served_none t; in_line = here },
)

pub returns-clause-all : goal.returns-clause-all
returns-clause-all c = λ t u ls answers within served.
    record { front = ls; rest = []; answers = answers; between = u; parted = sym (append-nil ls); within = within; served = served; in_line = refl }

pub returns-clause-longer : goal.returns-clause-longer
returns-clause-longer c = λ t u ls more r. reached_longer c.one_line_reading.ensures.total t ls more u r

pub returns-clause-too_long : goal.returns-clause-too_long
returns-clause-too_long c = λ t u line more long r. before_too_long t u r.between line more r.front r.rest r.answers long r.parted r.within r.served r.in_line
