-- Lemmas: configurations that are the same net wherever their fresh names begin.
use Rattle.std.proofs.Common.{◌≡◌, ℕ, ◌+◌, ◌<◌, ◌++◌, refl, ap, arith, subst as transport}
use Rattle.ic_term.specs.Configuration.{Configuration, configuration_names}
use Rattle.ic_settle.specs.Settling.{subst_in}
use Rattle.ic_settle.specs.NameSteps.{NameStep, NameSteps, no_step, one_more}
use Rattle.ic_round.specs.Naming.{HasNames}
use Rattle.ic_round.specs.lemmas.FiredNames.{All-mono}
use Rattle.ic_round.specs.lemmas.NamesLemmas.{name_step-names}
use Rattle.ic_confluence.specs.Sameness.{Renames, Rearranges, Same, renaming, rearranging, through}
use Rattle.ic_reaching.specs.OneNet.{raised, SameButNext}
use Rattle.ic_reaching.proofs.Given.{NetLaws}

-- ---- raising

raised_renames : (more : ℕ) (c d : Configuration) → Renames c d → Renames (raised more c) (raised more d)
raised_renames more c d r = record {
  to = r.to;
  from = r.from;
  there_and_back = r.there_and_back;
  back_and_there = r.back_and_there;
  free = r.free;
  fresh = λ n high. r.fresh n (omega (arith, high));
  result = ap (raised more) r.result;
}

raised_rearranges : (more : ℕ) (c d : Configuration) → Rearranges c d → Rearranges (raised more c) (raised more d)
raised_rearranges more c d r = record { equations = r.equations; result = ap (raised more) r.result }

pub raised_same : (more : ℕ) (c d : Configuration) → Same c d → Same (raised more c) (raised more d)
raised_same more c d (renaming x y r) = renaming (raised more x) (raised more y) (raised_renames more x y r)
raised_same more c d (rearranging x y r) = rearranging (raised more x) (raised more y) (raised_rearranges more x y r)
raised_same more c d (through x y z first second) = through (raised more x) (raised more y) (raised more z) (raised_same more x y first) (raised_same more y z second)

pub raised_names : (more : ℕ) (c : Configuration) → HasNames c → HasNames (raised more c)
raised_names more c named = record {
  below = All-mono (λ n. n < c.next) (λ n. n < c.next + more) (λ n low. omega (arith, low)) (configuration_names c) named.below;
  twice = named.twice;
}

pub raised_step : (more : ℕ) (c d : Configuration) → NameStep c d → NameStep (raised more c) (raised more d)
raised_step more c d s = record {
  before = s.before;
  equation = s.equation;
  after = s.after;
  bound = s.bound;
  place = s.place;
  side = s.side;
  outside = s.outside;
  result = ap (raised more) s.result;
}

pub lowered_step : (more : ℕ) (c d : Configuration) → NameStep (raised more c) d → (e : Configuration) × NameStep c e × (d ≡ raised more e)
lowered_step more c d s = (
  subst_in s.bound.name s.bound.term (record c { equations = s.before ++ s.after }),
  record {
    before = s.before;
    equation = s.equation;
    after = s.after;
    bound = s.bound;
    place = s.place;
    side = s.side;
    outside = s.outside;
    result = refl;
  },
  s.result,
)

raised_twice : (more other sum : ℕ) (c : Configuration) → more + other ≡ sum → raised other (raised more c) ≡ raised sum c
raised_twice more other sum c e = let same : c.next + more + other ≡ c.next + sum = omega (arith, e) in ap (λ n. record c { next = n }) same

-- ---- an equivalence

pub but_next : (c d : Configuration) → Same c d → SameButNext c d
but_next c d same = record { more = 0; others = 0; same = raised_same 0 c d same }

pub but_next_other_way : NetLaws → (c d : Configuration) → SameButNext c d → SameButNext d c
but_next_other_way laws c d s = record { more = s.others; others = s.more; same = laws.other_way (raised s.more c) (raised s.others d) s.same }

pub but_next_through : (c d e : Configuration) → SameButNext c d → SameButNext d e → SameButNext c e
but_next_through c d e s t =
    let P : Configuration → Type 0 = λ x. Same (raised (s.more + t.more) c) x in
    let one : Same (raised (s.more + t.more) c) (raised (s.others + t.more) d) =
    transport P (raised_twice s.others t.more (s.others + t.more) d refl)
    (let Q : Configuration → Type 0 = λ x. Same x (raised t.more (raised s.others d)) in
    transport Q (raised_twice s.more t.more (s.more + t.more) c refl) (raised_same t.more (raised s.more c) (raised s.others d) s.same)) in
    let two : Same (raised (s.others + t.more) d) (raised (s.others + t.others) e) =
    let Q : Configuration → Type 0 = λ x. Same x (raised (s.others + t.others) e) in
    let R : Configuration → Type 0 = λ x. Same (raised s.others (raised t.more d)) x in
    transport Q (raised_twice t.more s.others (s.others + t.more) d (omega arith))
    (transport R (raised_twice t.others s.others (s.others + t.others) e (omega arith)) (raised_same s.others (raised t.more d) (raised t.others e) t.same)) in
    record {
      more = s.more + t.more;
      others = s.others + t.others;
      same = through (raised (s.more + t.more) c) (raised (s.others + t.more) d) (raised (s.others + t.others) e) one two;
    }

-- wherever the fresh names of one and the same begin
pub next_is_no_matter : NetLaws → (c : Configuration) (next : ℕ) → SameButNext c (record c { next = next })
next_is_no_matter laws c next =
    let sum : c.next + next ≡ next + c.next = omega arith in
    let P : Configuration → Type 0 = Same (raised next c) in
    record { more = next; others = c.next; same = transport P (ap (λ n. record c { next = n }) sum) (laws.itself (raised next c)) }

-- ---- name steps

pub step_too : NetLaws → (c d after : Configuration) → HasNames c → SameButNext c d → NameStep c after → (end : Configuration) × NameStep d end × SameButNext after end
step_too laws c d after named s step =
    let too = laws.steps (raised s.more c) (raised s.others d) (raised s.more after) (raised_names s.more c named) s.same (raised_step s.more c after step) in
    let low = lowered_step s.others d too.0 too.1 in
    let P : Configuration → Type 0 = Same (raised s.more after) in
    (low.0, low.1, record { more = s.more; others = s.others; same = transport P low.2 too.2 })

pub steps_names : (c d : Configuration) → NameSteps c d → HasNames c → HasNames d
steps_names c d (no_step x) named = named
steps_names c d (one_more x y z steps step) named = name_step-names y z step (steps_names x y steps named)

pub steps_too : NetLaws → (c d after : Configuration) → HasNames c → SameButNext c d → NameSteps c after → (end : Configuration) × NameSteps d end × SameButNext after end
steps_too laws c d after named s (no_step x) = (d, no_step d, s)
steps_too laws c d after named s (one_more x y z steps step) =
    let before = steps_too laws x d y named s steps in
    let last = step_too laws y before.0 z (steps_names x y steps named) before.2 step in
    (last.0, one_more d before.0 last.0 before.1 last.1, last.2)

pub steps_joined : (c d e : Configuration) → NameSteps c d → NameSteps d e → NameSteps c e
steps_joined c d e first (no_step x) = first
steps_joined c d e first (one_more x y z steps step) = one_more c y z (steps_joined c x y first steps) step
