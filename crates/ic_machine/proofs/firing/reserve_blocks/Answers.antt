use Rattle.std.proofs.Common.{◌≡◌, ◌+◌, ◌*◌, ◌^◌, ◌<◌, ◌≤◌, ℕ, List, [], ◌∷◌, length, map, take, slice_set, ap, sym, subst, ◌∙◌, arith}
use Rattle.std.specs.List.{AllByRecursion}
use Rattle.ic_arena.specs.Tables.{Blocks}
use Rattle.ic_machine.specs.declared.plan.Make.{Make}
use Rattle.ic_machine.specs.Plan.{Made, made_of}
use Rattle.ic_machine.specs.inner.Firing.{HasRoom, table}
use Rattle.ic_machine.specs.lemmas.FiringKeeps.{all_append, all_of}
use Rattle.ic_machine.proofs.Fresh.{fact_now, front_more}
use Rattle.ic_machine.proofs.Heaps.{room_grown, same_all, same_length, same_set, table_read, table_set}
use Rattle.ic_machine.proofs.Limits.{made_contained}
use Rattle.ic_machine.proofs.firing.reserve_blocks.Goals as goal

pub loop-make-init : goal.loop-make-init
loop-make-init c = record { same = same_all c.args.heaps.now.items; room = tt }

pub index_mut-heap-requires : goal.index_mut-heap-requires
index_mut-heap-requires c =
    let h0 : List Blocks = c.args.heaps.now.items in
    let hs : List Blocks = c.loop-make.heaps.items in
    let item : Make = c.make-item.result in
    let known : item.symbol < length h0 =
    fact_now (λ m. m.symbol < length h0) c.loop-make.make-index c.args.makes.now item c.requires.known
    c.loop-make-test.true c.make-item.is in
    let len : length hs ≡ length h0 = same_length h0 hs c.loop-make.invariant.same in
    let whole = c.loop-make.heaps.ok.0 in
    omega arith

pub returns-in_err-reserve-clause-same : goal.returns-in_err-reserve-clause-same
returns-in_err-reserve-clause-same c =
    let h0 : List Blocks = c.args.heaps.now.items in
    let hs : List Blocks = c.loop-make.heaps.items in
    let item : Make = c.make-item.result in
    let b : Blocks = c.index_mut-heap.result.now in
    let known : item.symbol < length h0 =
    fact_now (λ m. m.symbol < length h0) c.loop-make.make-index c.args.makes.now item c.requires.known
    c.loop-make-test.true c.make-item.is in
    let len : length hs ≡ length h0 = same_length h0 hs c.loop-make.invariant.same in
    let same : b ≡ table hs item.symbol =
    table_read hs item.symbol b (omega arith) c.index_mut-heap.ensures.value in
    let memory = subst (λ (x : Blocks). x.capacity ≤ c.reserve.new.self.capacity) same c.reserve.ensures.capacity in
    same_set h0 hs item.symbol c.reserve.new.self c.loop-make.invariant.same
    (c.reserve.ensures.arity ∙ ap (λ (x : Blocks). x.arity) same)
    (c.reserve.ensures.count ∙ ap (λ (x : Blocks). x.count) same)
    (c.reserve.ensures.words ∙ ap (λ (x : Blocks). x.words) same) memory

pub returns-then-makes-count-clause-limit : goal.returns-then-makes-count-clause-limit
returns-then-makes-count-clause-limit c = λ e.
    let h0 : List Blocks = c.args.heaps.now.items in
    let hs : List Blocks = c.loop-make.heaps.items in
    let i : ℕ = c.loop-make.make-index in
    let ms : List Make = c.args.makes.now in
    let item : Make = c.make-item.result in
    let b : Blocks = c.index_mut-heap.result.now in
    let known : item.symbol < length h0 =
    fact_now (λ m. m.symbol < length h0) i ms item c.requires.known c.loop-make-test.true c.make-item.is in
    let len : length hs ≡ length h0 = same_length h0 hs c.loop-make.invariant.same in
    let lt : item.symbol < length hs = omega arith in
    let many : 2 ^ 32 ≤ b.count + length ms = omega (arith, c.count.ensures.count, c.if-makes-count.true) in (
      made_of item,
      made_contained ms i item c.loop-make-test.true c.make-item.is,
      subst (λ (x : Blocks). 2 ^ 32 ≤ x.count + length ms) (sym (table_set hs item.symbol b lt)) many,
    )

pub loop-make-preserved : goal.loop-make-preserved
loop-make-preserved c =
    let h0 : List Blocks = c.args.heaps.now.items in
    let hs : List Blocks = c.loop-make.heaps.items in
    let i : ℕ = c.loop-make.make-index in
    let ms : List Make = c.args.makes.now in
    let item : Make = c.make-item.result in
    let s : ℕ = item.symbol in
    let b : Blocks = c.index_mut-heap.result.now in
    let b' : Blocks = c.reserve.new.self in
    let n : ℕ = length ms in
    let known : s < length h0 =
    fact_now (λ m. m.symbol < length h0) i ms item c.requires.known c.loop-make-test.true c.make-item.is in
    let len : length hs ≡ length h0 = same_length h0 hs c.loop-make.invariant.same in
    let lt : s < length hs = omega arith in
    let same : b ≡ table hs s = table_read hs s b lt c.index_mut-heap.ensures.value in
    let memory = subst (λ (x : Blocks). x.capacity ≤ b'.capacity) same c.reserve.ensures.capacity in
    let arity : b'.arity ≡ (table hs s).arity = c.reserve.ensures.arity ∙ ap (λ (x : Blocks). x.arity) same in
    let count : b'.count ≡ (table hs s).count = c.reserve.ensures.count ∙ ap (λ (x : Blocks). x.count) same in
    let words : b'.words ≡ (table hs s).words = c.reserve.ensures.words ∙ ap (λ (x : Blocks). x.words) same in
    let times = ap (λ (k : ℕ). n * k) (c.arity.ensures.arity ∙ sym c.reserve.ensures.arity) in
    let long : length b'.words ≡ length b.words = ap length c.reserve.ensures.words in
    let enough = c.in_ok-reserve.ensures.room in
    let fits : length b'.words + n * b'.arity ≤ b'.capacity = omega arith in
    let few : b'.count + n < 2 ^ 32 = omega (arith, c.count.ensures.count, c.reserve.ensures.count) in
    let now = subst (λ (x : Blocks). (length x.words + n * x.arity ≤ x.capacity) × (x.count + n < 2 ^ 32))
    (sym (table_set hs s b' lt)) (fits, few) in
    let grown : AllByRecursion (HasRoom (slice_set hs s b') n) (map made_of (take i ms)) =
    all_of (HasRoom hs n) (HasRoom (slice_set hs s b') n) (map made_of (take i ms))
    (λ m h. room_grown hs s n b' m arity count words memory h) c.loop-make.invariant.room in
    record {
      same = same_set h0 hs s b' c.loop-make.invariant.same arity count words memory;
      room = subst (λ (l : List Made). AllByRecursion (HasRoom (slice_set hs s b') n) l)
          (sym (front_more i ms item c.loop-make-test.true c.make-item.is))
          (all_append (HasRoom (slice_set hs s b') n) (map made_of (take i ms)) (made_of item ∷ []) grown (now, tt));
    }
