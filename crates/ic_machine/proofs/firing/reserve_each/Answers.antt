use Rattle.std.proofs.Common.{◌≡◌, ◌+◌, ◌*◌, ◌^◌, ◌<◌, ◌≤◌, ℕ, List, length, ap, sym, subst, ◌∙◌, arith}
use Rattle.ic_arena.specs.Tables.{Blocks}
use Rattle.ic_machine.specs.inner.Firing.{table}
use Rattle.ic_machine.proofs.Heaps.{same_all, same_length, same_set, table_read}
use Rattle.ic_machine.proofs.Spare.{fine, room_next}
use Rattle.ic_machine.proofs.firing.reserve_each.Goals as goal

pub loop-symbol-init : goal.loop-symbol-init
loop-symbol-init c = record { same = same_all c.args.heaps.now.items; room = λ s lt. absurd (omega arith) }

pub index_mut-heap-requires : goal.index_mut-heap-requires
index_mut-heap-requires c =
    let h0 : List Blocks = c.args.heaps.now.items in
    let hs : List Blocks = c.loop-symbol.heaps.items in
    let len : length hs ≡ length h0 = same_length h0 hs c.loop-symbol.invariant.same in
    let whole = c.loop-symbol.heaps.ok.0 in
    let before = c.args.heaps.now.ok.0 in
    omega (arith, c.len-symbol-end.ensures, c.loop-symbol-test.true)

pub returns-then-is_err-clause-same : goal.returns-then-is_err-clause-same
returns-then-is_err-clause-same c =
    let h0 : List Blocks = c.args.heaps.now.items in
    let hs : List Blocks = c.loop-symbol.heaps.items in
    let i : ℕ = c.loop-symbol.symbol in
    let b : Blocks = c.index_mut-heap.result.now in
    let len : length hs ≡ length h0 = same_length h0 hs c.loop-symbol.invariant.same in
    let before = c.args.heaps.now.ok.0 in
    let lt : i < length hs = omega (arith, c.len-symbol-end.ensures, c.loop-symbol-test.true) in
    let same : b ≡ table hs i = table_read hs i b lt c.index_mut-heap.ensures.value in
    let memory = subst (λ (x : Blocks). x.capacity ≤ c.reserve.new.self.capacity) same c.reserve.ensures.capacity in
    same_set h0 hs i c.reserve.new.self c.loop-symbol.invariant.same
    (c.reserve.ensures.arity ∙ ap (λ (x : Blocks). x.arity) same)
    (c.reserve.ensures.count ∙ ap (λ (x : Blocks). x.count) same)
    (c.reserve.ensures.words ∙ ap (λ (x : Blocks). x.words) same) memory

pub loop-symbol-preserved : goal.loop-symbol-preserved
loop-symbol-preserved c =
    let h0 : List Blocks = c.args.heaps.now.items in
    let hs : List Blocks = c.loop-symbol.heaps.items in
    let i : ℕ = c.loop-symbol.symbol in
    let n : ℕ = c.args.more in
    let b : Blocks = c.index_mut-heap.result.now in
    let b' : Blocks = c.reserve.new.self in
    let len : length hs ≡ length h0 = same_length h0 hs c.loop-symbol.invariant.same in
    let before = c.args.heaps.now.ok.0 in
    let lt : i < length hs = omega (arith, c.len-symbol-end.ensures, c.loop-symbol-test.true) in
    let same : b ≡ table hs i = table_read hs i b lt c.index_mut-heap.ensures.value in
    let memory = subst (λ (x : Blocks). x.capacity ≤ b'.capacity) same c.reserve.ensures.capacity in
    let times = ap (λ (k : ℕ). n * k) (c.arity.ensures.arity ∙ sym c.reserve.ensures.arity) in
    let long : length b'.words ≡ length b.words = ap length c.reserve.ensures.words in
    let enough = fine c.reserve.result (length b.words + n * c.arity.result ≤ b'.capacity) c.reserve.ensures.room
    (sym c.is_err.ensures.value ∙ c.if-is_err.false) in
    let fits : length b'.words + n * b'.arity ≤ b'.capacity = omega arith in
    let few : b'.count + n < 2 ^ 32 = omega (arith, c.count.ensures.count, c.reserve.ensures.count, c.if-more-count.false) in
    record {
      same = same_set h0 hs i b' c.loop-symbol.invariant.same
          (c.reserve.ensures.arity ∙ ap (λ (x : Blocks). x.arity) same)
          (c.reserve.ensures.count ∙ ap (λ (x : Blocks). x.count) same)
          (c.reserve.ensures.words ∙ ap (λ (x : Blocks). x.words) same) memory;
      room = room_next hs n i b' lt c.loop-symbol.invariant.room (fits, few);
    }

pub returns-clause-room : goal.returns-clause-room
returns-clause-room c = λ e s lt.
    let len = same_length c.args.heaps.now.items c.loop-symbol.heaps.items c.loop-symbol.invariant.same in
    let before = c.args.heaps.now.ok.0 in
    c.loop-symbol.invariant.room s (omega (arith, c.len-symbol-end.ensures, c.loop-symbol-test.false))
