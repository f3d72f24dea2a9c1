use Rattle.std.proofs.Common.{◌≡◌, ℕ, ◌+◌, ◌*◌, ◌^◌, ◌<◌, ◌≤◌, List, length, ap, sym, subst, ◌∙◌, arith}
use Rattle.ic_arena.specs.Tables.{Blocks}
use Rattle.ic_machine.specs.inner.Firing.{table, HasBlocks}
use Rattle.ic_machine.proofs.Built.{more_memory}
use Rattle.ic_machine.proofs.Heaps.{table_read, table_set}
use Rattle.ic_machine.proofs.building.reserve_one.Goals as goal

pub index_mut-heap-requires : goal.index_mut-heap-requires
index_mut-heap-requires c =
    let known : c.args.symbol < length c.args.heaps.now.items = c.requires.known in
    let whole = c.args.heaps.now.ok.0 in
    omega arith

pub returns-clause-same : goal.returns-clause-same
returns-clause-same c =
    more_memory c.args.heaps.now.items c.args.symbol c.index_mut-heap.result.now c.reserve.new.self c.requires.known c.index_mut-heap.ensures.value
    c.reserve.ensures.arity c.reserve.ensures.count c.reserve.ensures.words c.reserve.ensures.capacity

pub returns-in_err-reserve-clause-same : goal.returns-in_err-reserve-clause-same
returns-in_err-reserve-clause-same c =
    more_memory c.args.heaps.now.items c.args.symbol c.index_mut-heap.result.now c.reserve.new.self c.requires.known c.index_mut-heap.ensures.value
    c.reserve.ensures.arity c.reserve.ensures.count c.reserve.ensures.words c.reserve.ensures.capacity

pub returns-clause-room : goal.returns-clause-room
returns-clause-room c =
    let hs : List Blocks = c.args.heaps.now.items in
    let s : ℕ = c.args.symbol in
    let b : Blocks = c.index_mut-heap.result.now in
    let b' : Blocks = c.reserve.new.self in
    let same : b ≡ table hs s = table_read hs s b c.requires.known c.index_mut-heap.ensures.value in
    let arity : b'.arity ≡ b.arity = c.reserve.ensures.arity in
    let read = c.arity-arity.ensures.arity in
    let long : length b'.words ≡ length b.words = ap length c.reserve.ensures.words in
    let enough = c.in_ok-reserve.ensures.room in
    let fits : length b'.words + 1 * b'.arity ≤ b'.capacity = omega arith in
    let count : b'.count ≡ (table hs s).count = c.reserve.ensures.count ∙ ap (λ (x : Blocks). x.count) same in
    let few : (table hs s).count + 1 < 2 ^ 32 = c.requires.few in
    subst (HasBlocks 1) (sym (table_set hs s b' c.requires.known)) (fits, omega arith)
