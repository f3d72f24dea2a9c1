use Rattle.std.proofs.Common.{◌≡◌, ℕ, ◌+◌, ◌-◌, ◌*◌, ◌^◌, ◌<◌, ◌≤◌, List, [], ◌∷◌, ◌++◌, length, map, ap, sym, subst, refl, ◌∙◌, arith}
use Rattle.std.specs.List.{AllByRecursion}
use Rattle.std.proofs.lemmas.List.{length-map}
use Rattle.ic_machine.specs.declared.equation.Equation.{Equation}
use Rattle.ic_machine.specs.declared.tables.Tables.{Tables}
use Rattle.ic_machine.specs.Plan.{Planned, Plans, planned}
use Rattle.ic_machine.specs.Net.{equated_of, IsPair}
use Rattle.ic_machine.specs.Runs.{Way}
use Rattle.ic_machine.specs.inner.Firing.{arities_of}
use Rattle.ic_machine.specs.inner.Pairs.{CanFire, HasNumber, HasPlan, IsLast}
use Rattle.ic_machine.specs.inner.Tables.{FiresBy, HasRoomFor, arguments_of, held, size_of}
use Rattle.ic_machine.specs.lemmas.FiringKeeps.{all_append, all_of}
use Rattle.ic_machine.proofs.Each.{each_more, each_none, fired_separate, memory_of, need_within, room_less, room_popped, room_split}
use Rattle.ic_machine.proofs.Fired.{fires_before, last_apart, separate_apart, way_apart}
use Rattle.ic_machine.proofs.Fresh.{all_front}
use Rattle.ic_machine.proofs.Heaps.{as_many, made_known, same_all}
use Rattle.ic_machine.proofs.Running.{can_fire, numbered, numbered_plan}
use Rattle.ic_machine.proofs.Sound.{counts_within}
use Rattle.ic_machine.proofs.tables.Tables.fire_each.Goals as goal
use Rattle.ic_machine.proofs.tables.Tables.fire_each.Goals.{After-plan_at}

-- ---- the pair that fires next

module _ (g : _) (c : After-plan_at g) where
  known : arities_of c.loop-fired.self.heaps.items ≡ c.args.program.now.arities
  known = c.loop-fired.invariant.arities ∙ c.requires.arities

  last : IsLast c.in-Some.pair c.loop-fired.self.pending.items
  last = rw c.in-Some.is at c.last.ensures

  found : HasNumber c.args.program.now c.in-Some.pair c.in-Some-number_of_pair.number
  found = rw c.in-Some-number_of_pair.is at c.number_of_pair.ensures.found

  has : HasPlan c.args.program.now c.in-Some.pair (planned c.plan_at.result.now)
  has = numbered_plan c.args.program.now c.in-Some.pair c.in-Some-number_of_pair.number (planned c.plan_at.result.now) found c.plan_at.ensures

  can : CanFire (arities_of c.loop-fired.self.heaps.items) c.in-Some.pair (planned c.plan_at.result.now)
  can =
      subst (λ (a : List ℕ). CanFire a c.in-Some.pair (planned c.plan_at.result.now)) (sym known)
      (can_fire c.args.program.now c.in-Some.pair (planned c.plan_at.result.now) has)

  -- it is taken out
  out : c.loop-fired.self.pending.items ≡ c.pop.new.self.items ++ c.in-Some.pair ∷ []
  out = c.pop.ensures.items c.in-Some.pair last

  fewer : length c.pop.new.self.items ≤ length c.loop-fired.self.pending.items
  fewer = let less = c.pop.ensures.len in omega arith

  pairs : AllByRecursion IsPair c.pop.new.self.items
  pairs =
      all_front IsPair c.pop.new.self.items (c.in-Some.pair ∷ [])
      (subst (AllByRecursion IsPair) out c.loop-fired.invariant.pairs)

  need : arguments_of c.in-Some.pair c.loop-fired.self.heaps.items + size_of (planned c.plan_at.result.now) ≤ c.args.most
  need =
      need_within c.args.program.now c.in-Some.pair (planned c.plan_at.result.now) c.loop-fired.self.heaps.items known has can
      c.args.most c.requires.most

  -- the tables without it
  abbrev popped : Tables
  popped = record c.loop-fired.self { pending = c.pop.new.self; stamps = c.count_last.new.self }

  room : HasRoomFor (c.loop-fired.self.spare + (c.args.times - c.loop-fired.fired) * c.args.most) popped
  room =
      let n : ℕ = c.loop-fired.self.spare + (c.args.times - c.loop-fired.fired) * c.args.most in
      let r = room_popped n c.loop-fired.self c.pop.new.self fewer c.pop.ensures.capacity c.loop-fired.invariant.room in
      record { names = r.names; few = r.few; pending = r.pending; heaps = r.heaps }

-- ---- the goals

pub loop-fired-init : goal.loop-fired-init
loop-fired-init g c =
    let times : ℕ = c.args.times in
    let all : times - 0 ≡ times = omega arith in
    record {
      fires = λ rest pairs. each_none c.args.program.now c.args.counts.now.items c.args.self.now rest;
      arities = refl;
      few = c.requires.few;
      registers = c.requires.registers;
      wide = c.requires.wide;
      separate = c.requires.separate;
      pairs = c.requires.pairs;
      room = subst (λ (k : ℕ). HasRoomFor (c.args.self.now.spare + k * c.args.most) c.args.self.now) (sym all) c.requires.room;
      counts = all_of (λ k. k + times < 2 ^ 64) (λ k. k ≤ 2 ^ 64 - 1 - times + 0) c.args.counts.now.items
          (λ k below. let b : k + times < 2 ^ 64 = below in omega arith) c.requires.counts;
    }

pub fire-requires-clause-plan : goal.fire-requires-clause-plan
fire-requires-clause-plan g c = can g c

pub fire-requires-clause-separate : goal.fire-requires-clause-separate
fire-requires-clause-separate g c =
    let t : Tables = c.loop-fired.self in
    separate_apart t (popped g c) c.in-Some.pair refl (same_all t.heaps.items)
    (last_apart t c.in-Some.pair c.pop.new.self.items [] (out g c)) c.loop-fired.invariant.separate

pub fire-requires-clause-memory : goal.fire-requires-clause-memory
fire-requires-clause-memory g c =
    let t : Tables = c.loop-fired.self in
    let p : Planned = planned c.plan_at.result.now in
    let hs = t.heaps.items in
    let n : ℕ = c.loop-fired.self.spare + (c.args.times - c.loop-fired.fired) * c.args.most in
    let split = room_split t.spare c.loop-fired.fired c.args.times c.args.most c.args.most c.loop-fired-test.true (omega arith) in
    memory_of c.args.most (arguments_of c.in-Some.pair hs) p (popped g c) (need g c)
    (room_less c.args.most n (popped g c) (omega (arith, split)) (room g c)) c.loop-fired.invariant.wide
    (made_known hs (length (arities_of hs) + ((can g c).left_args + (can g c).right_args) + p.names) p.made (can g c).is_plan.made)

pub returns-then-len-plans-clause-fires : goal.returns-then-len-plans-clause-fires
returns-then-len-plans-clause-fires g c = λ rest aside.
    each_none c.args.program.now c.args.counts.now.items c.args.self.now rest

all_last : (P : Equation → Type 0) (es : List Equation) (e : Equation) → AllByRecursion P (es ++ e ∷ []) → P e
all_last P [] e all = all.0
all_last P (d ∷ es) e all = all_last P es e all.1

pub number_of_pair-requires : goal.number_of_pair-requires
number_of_pair-requires g c =
    let last : IsLast c.in-Some.pair c.loop-fired.self.pending.items = rw c.in-Some.is at c.last.ensures in
    record { pair = all_last IsPair last.front c.in-Some.pair (subst (AllByRecursion IsPair) last.is c.loop-fired.invariant.pairs) }

-- there is a count for each plan
pub count_at-requires-clause-there : goal.count_at-requires-clause-there
count_at-requires-clause-there g c =
    let d = (goal.at.count_at-requires-clause-there g c).After-plan_at in
    let there = (found g d).there in
    let plans = ap length c.plans.ensures in
    let all = length-map c.plans.result.now planned in
    let same = (c.loop-fired.invariant.fires [] tt).tally.all in
    let enough = c.if-len-plans.false in
    omega (arith, there, plans, all, same, enough, c.args.counts.now.ok)

pub count_at-requires-clause-few : goal.count_at-requires-clause-few
count_at-requires-clause-few g c =
    let lt = c.loop-fired-test.true in
    let fits = c.ranges.times in
    all_of (λ k. k ≤ 2 ^ 64 - 1 - c.args.times + c.loop-fired.fired) (λ k. k + 1 < 2 ^ 64) c.loop-fired.counts.items
    (λ k below. let b : k ≤ 2 ^ 64 - 1 - c.args.times + c.loop-fired.fired = below in omega (arith, lt, fits))
    c.loop-fired.invariant.counts

pub loop-fired-preserved : goal.loop-fired-preserved
unfolding found has
loop-fired-preserved g c =
    let d = (goal.at.loop-fired-preserved g c).After-plan_at in
    let q : Plans = c.args.program.now in
    let e : Equation = c.in-Some.pair in
    let i : ℕ = c.in-Some-number_of_pair.number in
    let p : Planned = planned c.plan_at.result.now in
    let t : Tables = c.loop-fired.self in
    let v : Tables = c.fire.new.self in
    let others : List Equation = c.pop.new.self.items in
    let is = has g d in
    let by : (rest : List Equation) → AllByRecursion IsPair rest → FiresBy q e i t v others rest = λ rest aside.
    fires_before q e i t (popped g d) v others rest refl (same_all t.heaps.items)
    (c.fire.ensures.fires q i is.left is.right rest is.left_tag is.right_tag (sym (known g d))
    (numbered q e i p (found g d) c.plan_at.ensures) (pairs g d) aside) in
    let way : (rest : List Equation) (aside : AllByRecursion IsPair rest)
    → Way q (i ∷ []) ((by rest aside).moment ∷ []) (held t (map equated_of rest)) (held v (map equated_of rest)) = λ rest aside.
    way_apart q e i t v others rest (last_apart t e others (map equated_of rest) (out g d)) (by rest aside) in
    let more = c.fire.ensures.pushed in
    let many : length v.heaps.items ≡ length t.heaps.items = as_many t.heaps.items v.heaps.items c.fire.ensures.arities in
    let wide = c.loop-fired.invariant.wide in
    let times : ℕ = c.args.times in
    let fired : ℕ = c.loop-fired.fired in
    let size : size_of p ≤ c.args.most = let whole = need g d in omega (arith, whole) in
    let left : ℕ = v.spare + (times - (fired + 1)) * c.args.most in
    let split : t.spare + (times - (fired + 1)) * c.args.most + size_of p ≤ t.spare + (times - fired) * c.args.most =
    room_split t.spare fired times c.args.most (size_of p) c.loop-fired-test.true size in
    record {
      fires = λ rest aside. each_more q i (by rest aside).moment t v fired c.args.counts.now.items c.loop-fired.counts.items
          c.count_at.new.counts.items c.args.self.now rest (c.loop-fired.invariant.fires rest aside) (way rest aside)
          (by rest aside).places c.count_at.ensures;
      arities = c.fire.ensures.arities ∙ c.loop-fired.invariant.arities;
      few = c.fire.ensures.few;
      registers = c.fire.ensures.registers;
      wide = omega (arith, many, wide, c.fire.ensures.width);
      separate = fired_separate q i (by [] tt).moment t v (found g d).sound (known g d) c.fire.ensures.arities (way [] tt)
          c.loop-fired.invariant.separate;
      pairs = subst (AllByRecursion IsPair) (sym more.after) (all_append IsPair others more.more (pairs g d) more.pairs);
      room = c.fire.ensures.room left (room_less (left + size_of p) (t.spare + (times - fired) * c.args.most) (popped g d)
          (omega (arith, split, c.fire.ensures.spare)) (room g d));
      counts = all_of (λ k. k ≤ 2 ^ 64 - 1 - times + fired + 1) (λ k. k ≤ 2 ^ 64 - 1 - times + (fired + 1)) c.count_at.new.counts.items
          (λ k below. let b : k ≤ 2 ^ 64 - 1 - times + fired + 1 = below in omega arith)
          (counts_within i (2 ^ 64 - 1 - times + fired) c.loop-fired.counts.items c.count_at.new.counts.items
          c.loop-fired.invariant.counts c.count_at.ensures);
    }
