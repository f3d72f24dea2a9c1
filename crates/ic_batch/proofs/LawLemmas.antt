-- Ways and their ends.
use Rattle.std.proofs.Common.{◌≡◌, ⊎_elim, ℕ, zero, suc, ◌+◌, ◌-◌, ◌<◌, ◌≤◌, List, [], ◌∷◌, ◌++◌, Bool, true, false, ◌&&◌, None, Some, Option, drop, length, map, refl, sym, ap, ap₂, subst, ◌∙◌, arith}
use Rattle.std.specs.Prelude.{IfSome, if◌then◌else◌}
use Rattle.std.specs.List.{AllByRecursion, AllZip}
use Rattle.std.proofs.lemmas.Bool.{cases_lt, lt-ltb, ltb-true}
use Rattle.ic_round.specs.Rounds.{iterate, round}
use Rattle.ic_jobs.specs.declared.state.State.TheVariants.{Halted}
use Rattle.ic_jobs.specs.Job.{JobParts, can_move, moved, in_state}
use Rattle.ic_jobs.specs.Table.{job_named}
use Rattle.ic_batch.specs.declared.jobs.NewJob.{NewJob}
use Rattle.ic_batch.specs.declared.fault.Difference.{Difference}
use Rattle.ic_batch.specs.declared.fault.Difference.TheVariants as difference
use Rattle.ic_batch.specs.Faults.{AreSame, Differs, HasAnother, IsSame}
use Rattle.ic_batch.specs.Jobs.{begun_by}
use Rattle.ic_batch.specs.Way.{goes_on, gone_on, after_event, after, IsOnWay, ComesTo, AreOnWay, IsTextOf, lines_of}
use Rattle.ic_batch.proofs.DueLemmas.{few}
use Rattle.ic_batch.proofs.WayLemmas.{after_more, runs, stands_on}

-- ---- one end

same_end : (most : ℕ) (from a b : JobParts) (n m : ℕ) → a ≡ after most n from → b ≡ after most m from → goes_on most a ≡ false → n ≤ m → b ≡ a
same_end most from a b n m is_a is_b ends less =
    let parts : m ≡ (m - n) + n = omega (arith, less) in
    is_b ∙ ap (λ (k : ℕ). after most k from) parts ∙ after_more most from n (m - n) ∙ ap (after most (m - n)) (sym is_a) ∙ stands_on most a ends (m - n)

pub one_end : (most : ℕ) (from a b : JobParts) → ComesTo most from a → ComesTo most from b → a ≡ b
one_end most from a b first second = ⊎_elim
    (λ (less : first.on_way.0 < second.on_way.0). sym (same_end most from a b first.on_way.0 second.on_way.0 first.on_way.1 second.on_way.1 first.ends (omega (arith, less))))
    (λ (more : second.on_way.0 ≤ first.on_way.0). same_end most from b a second.on_way.0 first.on_way.0 second.on_way.1 first.on_way.1 second.ends more)
    (cases_lt first.on_way.0 second.on_way.0)

abbrev AreEnds : ℕ → List NewJob → List JobParts → Type 0
AreEnds most jobs ends = AllZip (λ new end. ComesTo most (begun_by new) end) jobs ends

same_ends : (most : ℕ) (jobs : List NewJob) (one other : List JobParts) → AreEnds most jobs one → AreEnds most jobs other → one ≡ other
same_ends most [] [] [] first second = refl
same_ends most [] (x ∷ xs) other first second = absurd first
same_ends most (new ∷ jobs) [] other first second = absurd first
same_ends most (new ∷ jobs) (x ∷ xs) (y ∷ ys) first second =
    ap₂ (λ (a : JobParts) (b : List JobParts). a ∷ b) (one_end most (begun_by new) x y first.0 second.0) (same_ends most jobs xs ys first.1 second.1)
same_ends most jobs one other first second = absurd second

pub one_text : (most : ℕ) (jobs : List NewJob) (one other : List ℕ) → IsTextOf most jobs one → IsTextOf most jobs other → one ≡ other
one_text most jobs one other first second = first.2 ∙ ap lines_of (same_ends most jobs first.0 second.0 first.1 second.1) ∙ sym second.2

-- ---- iterates

pub record IsIterate (new : NewJob) (j : JobParts) : Type 0 where
  pub name : j.name ≡ new.name
  pub rules : j.rules ≡ new.system.rules
  pub budget : j.budget ≡ new.budget
  pub config : j.config ≡ iterate new.system.rules.rules j.rounds new.system.config

module _ (new : NewJob) where
  round_is : (j : JobParts) → IsIterate new j → IsIterate new (moved j)
  round_is j is =
      let next : j.rounds + 1 ≡ suc j.rounds = omega arith in
      record {
        name = is.name;
        rules = is.rules;
        budget = is.budget;
        config = ap₂ (λ r c. round r c) (ap (λ rs. rs.rules) is.rules) is.config
            ∙ ap (λ (n : ℕ). iterate new.system.rules.rules n new.system.config) (sym next);
      }

  event_is : (j : JobParts) (b : Bool) → IsIterate new j → IsIterate new (if b then moved j else in_state Halted j)
  event_is j true is = round_is j is
  event_is j false is = record { name = is.name; rules = is.rules; budget = is.budget; config = is.config }

  gone_is : (j : JobParts) (b : Bool) → IsIterate new j → IsIterate new (if b then after_event j else j)
  gone_is j true is = event_is j (can_move j) is
  gone_is j false is = is

  after_is : (most n : ℕ) → IsIterate new (after most n (begun_by new))
  after_is most zero = record { name = refl; rules = refl; budget = refl; config = refl }
  after_is most (suc n) = gone_is (after most n (begun_by new)) (goes_on most (after most n (begun_by new))) (after_is most n)

  pub way_is : (most : ℕ) (j : JobParts) → IsOnWay most (begun_by new) j → IsIterate new j
  way_is most j way = subst (IsIterate new) (sym way.1) (after_is most way.0)

event_few : (most : ℕ) (j : JobParts) (b : Bool) → j.rounds < most → (if b then moved j else in_state Halted j).rounds ≤ most
event_few most j true below = omega (arith, below)
event_few most j false below = omega (arith, below)

gone_few : (most : ℕ) (j : JobParts) (b : Bool) → goes_on most j ≡ b → j.rounds ≤ most → (if b then after_event j else j).rounds ≤ most
gone_few most j true goes few_so_far = event_few most j (can_move j) (ltb-true j.rounds most (few most j goes))
gone_few most j false goes few_so_far = few_so_far

after_few : (most n : ℕ) (from : JobParts) → from.rounds ≤ most → (after most n from).rounds ≤ most
after_few most zero from is = is
after_few most (suc n) from is = gone_few most (after most n from) (goes_on most (after most n from)) refl (after_few most n from is)

pub way_few : (most : ℕ) (new : NewJob) (j : JobParts) → IsOnWay most (begun_by new) j → j.rounds ≤ most
way_few most new j way = subst (λ (k : JobParts). k.rounds ≤ most) (sym way.1) (after_few most way.0 (begun_by new) (omega arith))

-- ---- no other job

pub none_there : (most : ℕ) (jobs : List NewJob) → AreOnWay most jobs []
none_there most [] = tt
none_there most (new ∷ jobs) = (tt, none_there most jobs)

not_other : (new : NewJob) (j : JobParts) → IsIterate new j → IsSame new j
not_other new j same difference.Rules other = other same.rules
not_other new j same difference.Budget other = other.1 same.budget
not_other new j same difference.Start other = other.3 (same.config ∙ ap (λ (n : ℕ). iterate new.system.rules.rules n new.system.config) other.2)

same_or_none : (most : ℕ) (new : NewJob) (o : Option JobParts) → IfSome o (IsOnWay most (begun_by new)) → IfSome o (IsSame new)
same_or_none most new None way = tt
same_or_none most new (Some j) way = not_other new j (way_is new most j way)

pub none_other : (most : ℕ) (jobs : List NewJob) (t : List JobParts) → AreOnWay most jobs t → AreSame jobs t
none_other most [] t ways = tt
none_other most (new ∷ jobs) t ways = (same_or_none most new (job_named new.name t) ways.0, none_other most jobs t ways.1)

among : (P : NewJob → Type 0) (before : List NewJob) (new : NewJob) (rest : List NewJob) → AllByRecursion P (before ++ new ∷ rest) → P new
among P [] new rest all = all.0
among P (x ∷ xs) new rest all = among P xs new rest all.1

-- another job and the same one don't go together
pub not_same : (jobs : List NewJob) (t : List JobParts) (name : List ℕ) (is : Difference) → AreSame jobs t → ¬ HasAnother jobs t name is
not_same jobs t name is same another =
    let new = another.new in
    let all = subst (λ (l : List NewJob). AreSame l t) another.among same in
    let one = among (λ k. IfSome (job_named k.name t) (IsSame k)) another.before new another.after all in
    let there : job_named new.name t ≡ Some another.job = ap (λ (n : List ℕ). job_named n t) another.named ∙ another.there in
    let on = subst (λ (o : Option JobParts). IfSome o (IsSame new)) there one in
    on is another.differs

-- where jobs are the same one of them doesn't differ
pub same_there : (before after : List NewJob) (new : NewJob) (t : List JobParts) (job : JobParts) (is : Difference) → AreSame (before ++ new ∷ after) t → job_named new.name t ≡ Some job → ¬ Differs new job is
same_there before after new t job is same there differs =
    let one = among (λ k. IfSome (job_named k.name t) (IsSame k)) before new after same in
    let on = subst (λ (o : Option JobParts). IfSome o (IsSame new)) there one in
    on is differs

pub is_another : (before after : List NewJob) (new : NewJob) (t : List JobParts) (job : JobParts) (is : Difference) → AreSame before t → job_named new.name t ≡ Some job → Differs new job is → HasAnother (before ++ new ∷ after) t new.name is
is_another before after new t job is same there differs = record {
  before = before;
  new = new;
  after = after;
  among = refl;
  first = same;
  named = refl;
  job = job;
  there = there;
  differs = differs;
}

-- ---- those that were missing stand after a table

zip_begun : (R : JobParts → JobParts → Type 0) (more : List NewJob) (u : List JobParts) → AllZip R (map begun_by more) u → AllZip (λ new j. R (begun_by new) j) more u
zip_begun R [] [] zip = tt
zip_begun R (new ∷ more) (j ∷ u) zip = (zip.0, zip_begun R more u zip.1)
zip_begun R [] (j ∷ u) zip = absurd zip
zip_begun R (new ∷ more) [] zip = absurd zip

pub come_after : (R : JobParts → JobParts → Type 0) (t : List JobParts) (more : List NewJob) (u : List JobParts) → AllZip R (t ++ map begun_by more) u → AllZip (λ new j. R (begun_by new) j) more (drop (length t) u)
come_after R [] more u zip = zip_begun R more u zip
come_after R (x ∷ t) more (j ∷ u) zip = come_after R t more u zip.1
come_after R (x ∷ t) more [] zip = absurd zip

-- ---- jobs that may make more rounds, and jobs as they began

goes_further : (most more : ℕ) → most ≤ more → (j : JobParts) → goes_on most j ≡ true → goes_on more j ≡ true
goes_further most more less j goes =
    let below = ltb-true j.rounds most (few most j goes) in
    ap₂ (λ (a b : Bool). a && b) (runs most j goes) (lt-ltb j.rounds more (omega (arith, below, less)))

after_further : (most more : ℕ) → most ≤ more → (from : JobParts) (n : ℕ) → (m : ℕ) × (after most n from ≡ after more m from)
after_further most more less from zero = (0, refl)
after_further most more less from (suc n) = by (goes_on most (after most n from)) refl (after_further most more less from n)
  where
    by : (b : Bool) → goes_on most (after most n from) ≡ b → (m : ℕ) × (after most n from ≡ after more m from)
        → (m : ℕ) × ((if b then after_event (after most n from) else after most n from) ≡ after more m from)
    by false is so = so
    by true is so =
        let j = after most n from in
        let next : gone_on more j ≡ after_event j = ap (λ (b : Bool). if b then after_event j else j) (goes_further most more less j is) in
        (suc so.0, sym next ∙ ap (gone_on more) so.1)

named_further : (most more : ℕ) → most ≤ more → (from : JobParts) (o : Option JobParts) → IfSome o (IsOnWay most from) → IfSome o (IsOnWay more from)
named_further most more less from None way = tt
named_further most more less from (Some j) way = (let so = after_further most more less from way.0 in (so.0, way.1 ∙ so.1))

pub way_further : (most more : ℕ) → most ≤ more → (jobs : List NewJob) (t : List JobParts) → AreOnWay most jobs t → AreOnWay more jobs t
way_further most more less [] t ways = tt
way_further most more less (new ∷ jobs) t ways =
    (named_further most more less (begun_by new) (job_named new.name t) ways.0, way_further most more less jobs t ways.1)

one_begins : (most : ℕ) (from : JobParts) (o : Option JobParts) → IfSome o (λ j. j ≡ from) → IfSome o (IsOnWay most from)
one_begins most from None is = tt
one_begins most from (Some j) is = (0, is)

pub all_begin : (most : ℕ) (jobs : List NewJob) (t : List JobParts) → AllByRecursion (λ new. IfSome (job_named new.name t) (λ j. j ≡ begun_by new)) jobs → AreOnWay most jobs t
all_begin most [] t are = tt
all_begin most (new ∷ jobs) t are = (one_begins most (begun_by new) (job_named new.name t) are.0, all_begin most jobs t are.1)
