-- Pairs that fire one after another, where there is memory for all of them.
use Rattle.std.proofs.Common.{◌≡◌, ℕ, ◌+◌, ◌*◌, ◌-◌, ◌^◌, ◌<◌, ◌≤◌, List, [], ◌∷◌, ◌++◌, Option, Some, IfSome, length, map, max, slice_get, ap, sym, subst, refl, ◌∙◌, arith}
use Rattle.std.specs.List.{AllByRecursion}
use Rattle.std.proofs.lemmas.List.{length-append, map-append}
use Rattle.std.proofs.lemmas.List.Sorted.{IsPermutation-refl}
use Rattle.std.proofs.lemmas.List.Sums.{fold-append}
use Rattle.ic_arena.specs.Piece.{Piece}
use Rattle.ic_arena.specs.Tables.{Blocks}
use Rattle.ic_machine.specs.declared.equation.Equation.{Equation}
use Rattle.ic_machine.specs.declared.tables.Tables.{Tables}
use Rattle.ic_machine.specs.Plan.{Planned, Plans, ArePlans}
use Rattle.ic_machine.specs.Net.{equated_of, in_use}
use Rattle.ic_machine.specs.Runs.{Counted, Way, greatest}
use Rattle.ic_machine.specs.Separate.{IsSeparate}
use Rattle.ic_machine.specs.Steps.{no_step}
use Rattle.ic_machine.specs.inner.Firing.{arities_of, table}
use Rattle.ic_machine.specs.inner.Pairs.{CanFire, HasPlan}
use Rattle.ic_machine.specs.inner.Queue.{Queued}
use Rattle.ic_machine.specs.inner.Tables.{FiresEach, HasMemory, HasRoomFor, HasSpare, NeedAtMost, arguments_of, held, size_at, size_of}
use Rattle.ic_machine.specs.lemmas.FiresKeep.{steps_keep}
use Rattle.ic_machine.specs.lemmas.RunsOn.{counted_none, counted_on, way_on, way_steps}
use Rattle.ic_machine.proofs.Fired.{left_table, right_table}
use Rattle.ic_machine.proofs.Spare.{blocks_fewer, room_for_plan}

-- ---- memory

-- where there is room for so much, there is for less
pub room_less : (m n : ℕ) (t : Tables) → m ≤ n → HasRoomFor n t → HasRoomFor m t
room_less m n t le r =
    let names : length t.names.entries + n ≤ t.names.capacity = r.names in
    let few : length t.names.entries + n < 2 ^ 32 = r.few in
    let pending : length t.pending.items + n ≤ t.pending.capacity = r.pending in
    record {
      names = omega arith;
      few = omega arith;
      pending = omega arith;
      heaps = λ s lt. blocks_fewer m n (table t.heaps.items s) le (r.heaps s lt);
    }

-- so much of it may be spare, and all of it
pub spare_some : (m n : ℕ) (t : Tables) → t.spare + m ≡ n → HasRoomFor n t → HasSpare t
spare_some m n t is r = λ some. room_less t.spare n t (omega (arith, is)) r

pub spare_all : (n : ℕ) (t : Tables) → HasRoomFor n t → HasSpare (record t { spare = n })
spare_all n t r = λ some. record { names = r.names; few = r.few; pending = r.pending; heaps = r.heaps }

-- and where fewer are pending
pub room_popped : (n : ℕ) (t : Tables) (q : Queued) → length q.items ≤ length t.pending.items → q.capacity ≡ t.pending.capacity
    → HasRoomFor n t → HasRoomFor n (record t { pending = q })
room_popped n t q fewer capacity r =
    let pending : length t.pending.items + n ≤ t.pending.capacity = r.pending in
    record { names = r.names; few = r.few; pending = omega (arith, fewer, capacity); heaps = r.heaps }

-- the memory that a plan needs is a part of it
pub memory_of : (n k : ℕ) (p : Planned) (t : Tables) → k + size_of p ≤ n → HasRoomFor n t
    → length t.heaps.items + n ≤ length t.registers.items → AllByRecursion (λ m. m.symbol < length t.heaps.items) p.made
    → HasMemory p k t
memory_of n k p t le r wide known =
    let most : k + (p.names + length p.made + length p.links) ≤ n = le in
    let names : length t.names.entries + n ≤ t.names.capacity = r.names in
    let few : length t.names.entries + n < 2 ^ 32 = r.few in
    let pending : length t.pending.items + n ≤ t.pending.capacity = r.pending in
    record {
      names = omega arith;
      few = omega arith;
      pending = omega arith;
      registers = omega (arith, wide);
      heaps = room_for_plan n p t.heaps.items (omega arith) r.heaps known;
    }

-- the memory for one more plan
pub room_split : (k i n most s : ℕ) → i < n → s ≤ most → k + (n - (i + 1)) * most + s ≤ k + (n - i) * most
room_split k i n most s lt le =
    let left : ℕ = n - (i + 1) in
    let one : n - i ≡ left + 1 = omega (arith, lt) in
    let all : (n - i) * most ≡ left * most + most = ap (λ (x : ℕ). x * most) one ∙ more left in
    omega (arith, all, le)
  where
    more : (x : ℕ) → (x + 1) * most ≡ x * most + most
    more x = omega arith

-- ---- what a plan needs

module _ (p : Plans) (e : Equation) (plan : Planned) (hs : List Blocks) (known : arities_of hs ≡ p.arities)
    (has : HasPlan p e plan) (can : CanFire (arities_of hs) e plan) where
  pub need_within : (most : ℕ) → NeedAtMost most p → arguments_of e hs + size_of plan ≤ most
  need_within most all =
      let left : has.left ≡ can.left = omega (arith, has.left_tag, can.left_tag) in
      let right : has.right ≡ can.right = omega (arith, has.right_tag, can.right_tag) in
      let l : slice_get p.arities has.left ≡ Some can.left_args =
      (λ i. slice_get (sym known i) (left i)) ∙ can.left_arity in
      let r : slice_get p.arities has.right ≡ Some can.right_args =
      (λ i. slice_get (sym known i) (right i)) ∙ can.right_arity in
      let within : can.left_args + can.right_args + size_of plan ≤ most =
      subst (λ (o : Option Planned). IfSome o (λ q. can.left_args + can.right_args + size_of q ≤ most)) has.is
      (all has.left has.right can.left_args can.right_args l r) in
      let first = (left_table hs e plan can).1 in
      let second = (right_table hs e plan can).1 in
      omega (arith, within, first, second)

-- ---- one pair more

-- nothing has fired
pub each_none : (p : Plans) (counts : List ℕ) (t : Tables) (rest : List Equation) → FiresEach p 0 counts counts t t rest
each_none p counts t rest =
    let xs : List Piece = held t (map equated_of rest) in
    record {
      fired = [];
      moments = [];
      counted = refl;
      way = no_step xs xs (IsPermutation-refl xs);
      places = λ kind. refl;
      tally = counted_none counts;
    }

pub each_none-fired : (p : Plans) (counts : List ℕ) (t : Tables) (rest : List Equation) → (each_none p counts t rest).fired ≡ []
unfolding each_none
each_none-fired p counts t rest = refl

module _ (p : Plans) (i : ℕ) (m : List Piece) (u v : Tables) where
  pub each_more : (n : ℕ) (a b c : List ℕ) (t : Tables) (rest : List Equation) → FiresEach p n a b t u rest
      → Way p (i ∷ []) (m ∷ []) (held u (map equated_of rest)) (held v (map equated_of rest))
      → ((kind : ℕ) → size_at kind v ≡ max (size_at kind u) (in_use kind m)) → Counted (i ∷ []) b c
      → FiresEach p (n + 1) a c t v rest
  each_more n a b c t rest r w places counted = record {
    fired = r.fired ++ i ∷ [];
    moments = r.moments ++ m ∷ [];
    counted = length-append r.fired (i ∷ []) ∙ ap (λ (k : ℕ). k + 1) r.counted;
    way = way_on p r.fired (i ∷ []) r.moments (m ∷ []) (held t (map equated_of rest)) (held u (map equated_of rest))
        (held v (map equated_of rest)) r.way w;
    places = λ kind. places kind
        ∙ (ap (λ (k : ℕ). max k (in_use kind m)) (r.places kind)
        ∙ (sym (fold-append max (size_at kind t) (map (in_use kind) r.moments) (in_use kind m ∷ []))
        ∙ ap (greatest (size_at kind t)) (sym (map-append (in_use kind) r.moments (m ∷ [])))));
    tally = counted_on r.fired (i ∷ []) a b c r.tally counted;
  }

  pub each_more-fired : (n : ℕ) (a b c : List ℕ) (t : Tables) (rest : List Equation) (r : FiresEach p n a b t u rest)
      (w : Way p (i ∷ []) (m ∷ []) (held u (map equated_of rest)) (held v (map equated_of rest)))
      (places : (kind : ℕ) → size_at kind v ≡ max (size_at kind u) (in_use kind m)) (counted : Counted (i ∷ []) b c)
      → (each_more n a b c t rest r w places counted).fired ≡ r.fired ++ i ∷ []
  unfolding each_more
  each_more-fired n a b c t rest r w places counted = refl

  -- the tables stay separate
  pub fired_separate : ArePlans p → arities_of u.heaps.items ≡ p.arities → arities_of v.heaps.items ≡ arities_of u.heaps.items
      → Way p (i ∷ []) (m ∷ []) (held u []) (held v []) → IsSeparate (arities_of u.heaps.items) [] (held u [])
      → IsSeparate (arities_of v.heaps.items) [] (held v [])
  fired_separate sound known same w s =
      subst (λ (a : List ℕ). IsSeparate a [] (held v [])) (sym (same ∙ known))
      (steps_keep p (i ∷ []) [] (held u []) (held v []) sound (way_steps p (i ∷ []) (m ∷ []) (held u []) (held v []) w)
      (subst (λ (a : List ℕ). IsSeparate a [] (held u [])) known s))
