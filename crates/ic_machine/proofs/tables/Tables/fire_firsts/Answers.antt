use Rattle.std.proofs.Common.{◌≡◌, ℕ, ◌+◌, ◌-◌, ◌*◌, ◌^◌, ◌<◌, ◌≤◌, List, [], ◌∷◌, length, map, ap, sym, subst, refl, ◌∙◌, arith}
use Rattle.std.specs.List.{AllByRecursion}
use Rattle.std.proofs.lemmas.List.{length-append, length-map}
use Rattle.ic_machine.specs.declared.equation.Equation.{Equation}
use Rattle.ic_machine.specs.declared.tables.Tables.{Tables}
use Rattle.ic_machine.specs.Plan.{Planned, Plans, planned}
use Rattle.ic_machine.specs.Net.{equated_of, IsPair}
use Rattle.ic_machine.specs.Runs.{Way}
use Rattle.ic_machine.specs.inner.Firing.{arities_of}
use Rattle.ic_machine.specs.inner.Pairs.{CanFire, HasNumber, HasPlan}
use Rattle.ic_machine.specs.inner.Tables.{FiresBy, HasRoomFor, arguments_of, held, size_of}
use Rattle.ic_machine.specs.lemmas.FiringKeeps.{all_append, all_of}
use Rattle.ic_machine.proofs.Each.{fired_separate, memory_of, need_within, room_less, room_split}
use Rattle.ic_machine.proofs.Fired.{first_apart, fires_before, separate_apart, way_apart}
use Rattle.ic_machine.proofs.Firsts.{firsts_more, firsts_none, room_taken, some_left}
use Rattle.ic_machine.proofs.Heaps.{as_many, made_known, same_all}
use Rattle.ic_machine.proofs.Running.{can_fire, numbered, numbered_plan}
use Rattle.ic_machine.proofs.Sound.{counts_within}
use Rattle.ic_machine.proofs.tables.Tables.fire_firsts.Goals as goal
use Rattle.ic_machine.proofs.tables.Tables.fire_firsts.Goals.{After-plan_at}

-- ---- the pair that fires next

module _ (c : After-plan_at) where
  known : arities_of c.loop-fired.self.heaps.items ≡ c.args.program.now.arities
  known = c.loop-fired.invariant.arities ∙ c.requires.arities

  found : HasNumber c.args.program.now c.first-pair.result c.in-Some.number
  found = rw c.in-Some.is at c.number_of_pair.ensures.found

  has : HasPlan c.args.program.now c.first-pair.result (planned c.plan_at.result.now)
  has = numbered_plan c.args.program.now c.first-pair.result c.in-Some.number (planned c.plan_at.result.now) found c.plan_at.ensures

  can : CanFire (arities_of c.loop-fired.self.heaps.items) c.first-pair.result (planned c.plan_at.result.now)
  can =
      subst (λ (a : List ℕ). CanFire a c.first-pair.result (planned c.plan_at.result.now)) (sym known)
      (can_fire c.args.program.now c.first-pair.result (planned c.plan_at.result.now) has)

  -- it is taken out
  out : c.loop-fired.self.pending.items ≡ c.first-pair.result ∷ c.take_first.new.self.items
  out = c.take_first.ensures.items c.first-pair.result c.first-pair.ensures

  pairs : AllByRecursion IsPair c.take_first.new.self.items
  pairs = (subst (AllByRecursion IsPair) out c.loop-fired.invariant.pairs).1

  need : arguments_of c.first-pair.result c.loop-fired.self.heaps.items + size_of (planned c.plan_at.result.now) ≤ c.args.most
  need =
      need_within c.args.program.now c.first-pair.result (planned c.plan_at.result.now) c.loop-fired.self.heaps.items known has can
      c.args.most c.requires.most

  -- the tables without it
  abbrev without : Tables
  without = record c.loop-fired.self { pending = c.take_first.new.self }

  room : HasRoomFor (c.loop-fired.self.spare + (c.args.times - c.loop-fired.fired) * c.args.most) without
  room =
      room_taken (c.loop-fired.self.spare + (c.args.times - c.loop-fired.fired) * c.args.most) c.loop-fired.self c.take_first.new.self
      c.take_first.ensures.len c.take_first.ensures.capacity c.loop-fired.invariant.room

-- ---- the goals

pub loop-fired-init : goal.loop-fired-init
loop-fired-init c =
    let times : ℕ = c.args.times in
    let all : times - 0 ≡ times = omega arith in
    record {
      fires = λ aside pairs. firsts_none c.args.program.now c.args.counts.now.items c.args.self.now aside;
      arities = refl;
      few = c.requires.few;
      registers = c.requires.registers;
      wide = c.requires.wide;
      separate = c.requires.separate;
      pairs = c.requires.pairs;
      some = omega (arith, c.requires.some);
      room = subst (λ (k : ℕ). HasRoomFor (c.args.self.now.spare + k * c.args.most) c.args.self.now) (sym all) c.requires.room;
      counts = all_of (λ k. k + times < 2 ^ 64) (λ k. k ≤ 2 ^ 64 - 1 - times + 0) c.args.counts.now.items
          (λ k below. let b : k + times < 2 ^ 64 = below in omega arith) c.requires.counts;
    }

pub first-pair-requires : goal.first-pair-requires
first-pair-requires c = omega (arith, c.loop-fired.invariant.some, c.loop-fired-test.true)

pub fire-requires-clause-plan : goal.fire-requires-clause-plan
fire-requires-clause-plan c = can c

pub fire-requires-clause-separate : goal.fire-requires-clause-separate
fire-requires-clause-separate c =
    let t : Tables = c.loop-fired.self in
    separate_apart t (without c) c.first-pair.result refl (same_all t.heaps.items)
    (first_apart t c.first-pair.result c.take_first.new.self.items [] (out c)) c.loop-fired.invariant.separate

pub fire-requires-clause-memory : goal.fire-requires-clause-memory
fire-requires-clause-memory c =
    let t : Tables = c.loop-fired.self in
    let p : Planned = planned c.plan_at.result.now in
    let hs = t.heaps.items in
    let n : ℕ = c.loop-fired.self.spare + (c.args.times - c.loop-fired.fired) * c.args.most in
    let split = room_split t.spare c.loop-fired.fired c.args.times c.args.most c.args.most c.loop-fired-test.true (omega arith) in
    memory_of c.args.most (arguments_of c.first-pair.result hs) p (without c) (need c)
    (room_less c.args.most n (without c) (omega (arith, split)) (room c)) c.loop-fired.invariant.wide
    (made_known hs (length (arities_of hs) + ((can c).left_args + (can c).right_args) + p.names) p.made (can c).is_plan.made)

pub returns-then-len-plans-clause-fires : goal.returns-then-len-plans-clause-fires
returns-then-len-plans-clause-fires c = λ aside pairs.
    firsts_none c.args.program.now c.args.counts.now.items c.args.self.now aside

pub number_of_pair-requires : goal.number_of_pair-requires
number_of_pair-requires c =
    let first = c.first-pair.ensures in
    record { pair = (subst (AllByRecursion IsPair) first.is c.loop-fired.invariant.pairs).0 }

-- there is a count for each plan
pub count_at-requires-clause-there : goal.count_at-requires-clause-there
count_at-requires-clause-there c =
    let d = (goal.at.count_at-requires-clause-there c).After-plan_at in
    let there = (found d).there in
    let plans = ap length c.plans.ensures in
    let all = length-map c.plans.result.now planned in
    let same = (c.loop-fired.invariant.fires [] tt).each.tally.all in
    let enough = c.if-len-plans.false in
    omega (arith, there, plans, all, same, enough, c.args.counts.now.ok)

pub count_at-requires-clause-few : goal.count_at-requires-clause-few
count_at-requires-clause-few c =
    let lt = c.loop-fired-test.true in
    let fits = c.ranges.times in
    all_of (λ k. k ≤ 2 ^ 64 - 1 - c.args.times + c.loop-fired.fired) (λ k. k + 1 < 2 ^ 64) c.loop-fired.counts.items
    (λ k below. let b : k ≤ 2 ^ 64 - 1 - c.args.times + c.loop-fired.fired = below in omega (arith, lt, fits))
    c.loop-fired.invariant.counts

pub loop-fired-preserved : goal.loop-fired-preserved
unfolding found has
loop-fired-preserved c =
    let d = (goal.at.loop-fired-preserved c).After-plan_at in
    let q : Plans = c.args.program.now in
    let e : Equation = c.first-pair.result in
    let i : ℕ = c.in-Some.number in
    let p : Planned = planned c.plan_at.result.now in
    let t : Tables = c.loop-fired.self in
    let v : Tables = c.fire.new.self in
    let others : List Equation = c.take_first.new.self.items in
    let times : ℕ = c.args.times in
    let fired : ℕ = c.loop-fired.fired in
    let is = has d in
    let by : (rest : List Equation) → AllByRecursion IsPair rest → FiresBy q e i t v others rest = λ rest aside.
    fires_before q e i t (without d) v others rest refl (same_all t.heaps.items)
    (c.fire.ensures.fires q i is.left is.right rest is.left_tag is.right_tag (sym (known d))
    (numbered q e i p (found d) c.plan_at.ensures) (pairs d) aside) in
    let way : (rest : List Equation) (aside : AllByRecursion IsPair rest)
    → Way q (i ∷ []) ((by rest aside).moment ∷ []) (held t (map equated_of rest)) (held v (map equated_of rest)) = λ rest aside.
    way_apart q e i t v others rest (first_apart t e others (map equated_of rest) (out d)) (by rest aside) in
    let more = c.fire.ensures.pushed in
    let some = c.loop-fired.invariant.some in
    let less = c.take_first.ensures.len in
    let longer : length v.pending.items ≡ length others + length more.more =
    ap length more.after ∙ length-append others more.more in
    let left : (rest : List Equation) (aside : AllByRecursion IsPair rest) → 1 ≤ length (c.loop-fired.invariant.fires rest aside).rest =
    λ rest aside. some_left q fired times c.args.counts.now.items c.loop-fired.counts.items c.args.self.now t rest
    (c.loop-fired.invariant.fires rest aside) c.loop-fired-test.true c.requires.some in
    let many : length v.heaps.items ≡ length t.heaps.items = as_many t.heaps.items v.heaps.items c.fire.ensures.arities in
    let wide = c.loop-fired.invariant.wide in
    let size : size_of p ≤ c.args.most = let whole = need d in omega (arith, whole) in
    let spare : ℕ = v.spare + (times - (fired + 1)) * c.args.most in
    let split : t.spare + (times - (fired + 1)) * c.args.most + size_of p ≤ t.spare + (times - fired) * c.args.most =
    room_split t.spare fired times c.args.most (size_of p) c.loop-fired-test.true size in
    record {
      fires = λ rest aside. firsts_more q e i t v others rest (by rest aside) fired c.args.counts.now.items c.loop-fired.counts.items
          c.count_at.new.counts.items c.args.self.now more.more (c.loop-fired.invariant.fires rest aside) (left rest aside) (out d)
          more.after (way rest aside) c.count_at.ensures;
      arities = c.fire.ensures.arities ∙ c.loop-fired.invariant.arities;
      few = c.fire.ensures.few;
      registers = c.fire.ensures.registers;
      wide = omega (arith, many, wide, c.fire.ensures.width);
      separate = fired_separate q i (by [] tt).moment t v (found d).sound (known d) c.fire.ensures.arities (way [] tt)
          c.loop-fired.invariant.separate;
      pairs = subst (AllByRecursion IsPair) (sym more.after) (all_append IsPair others more.more (pairs d) more.pairs);
      some = omega (arith, some, less, longer);
      room = c.fire.ensures.room spare (room_less (spare + size_of p) (t.spare + (times - fired) * c.args.most) (without d)
          (omega (arith, split, c.fire.ensures.spare)) (room d));
      counts = all_of (λ k. k ≤ 2 ^ 64 - 1 - times + fired + 1) (λ k. k ≤ 2 ^ 64 - 1 - times + (fired + 1)) c.count_at.new.counts.items
          (λ k below. let b : k ≤ 2 ^ 64 - 1 - times + fired + 1 = below in omega arith)
          (counts_within i (2 ^ 64 - 1 - times + fired) c.loop-fired.counts.items c.count_at.new.counts.items
          c.loop-fired.invariant.counts c.count_at.ensures);
    }
