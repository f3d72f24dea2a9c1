use Rattle.std.proofs.Common.{◌≡◌, ◌+◌, ◌-◌, ◌^◌, ◌<◌, ◌≤◌, ℕ, List, [], ◌∷◌, ◌++◌, Err, length, reverse, slice_set, refl, ap, sym, subst, ◌∙◌, arith}
use Rattle.std.specs.List.{AllByRecursion}
use Rattle.std.proofs.lemmas.Result.{err_from_is_err_and}
use Rattle.ic_arena.specs.declared.word.Word.{Word}
use Rattle.ic_arena.specs.declared.word.TheConstants.{IDLE}
use Rattle.ic_arena.specs.Tables.{Blocks}
use Rattle.ic_machine.specs.declared.machine.MachineFault.TheVariants.{Limit}
use Rattle.ic_machine.specs.inner.Firing.{arities_of, heaps_pieces, table}
use Rattle.ic_machine.specs.inner.Unpacking.{AreKept}
use Rattle.ic_machine.specs.lemmas.FiringKeeps.{all_append}
use Rattle.ic_machine.proofs.Grown.{blocks_put, blocks_read, blocks_stay}
use Rattle.ic_machine.proofs.Heaps.{arities_set, table_read, table_set}
use Rattle.ic_machine.proofs.Limits.{same_fault}
use Rattle.ic_machine.proofs.Putting.{all_front, armed, armed_enough, bare_plain, kept_dropped, makes_agent, past_plain, pieces_same, tag_some}
use Rattle.ic_machine.proofs.Unpacked.{agent_kept, agent_put_either, kept_same}
use Rattle.ic_machine.proofs.unpacking.unpack_agent.Goals as goal

-- a tag past those of the symbols
pub returns-then-len-agent-clause-kept : goal.returns-then-len-agent-clause-kept
returns-then-len-agent-clause-kept c =
    let hs : List Blocks = c.args.heaps.now.items in
    let past : length hs < c.args.agent.tag = omega (arith, c.if-len-agent.true) in
    agent_put_either (arities_of hs) c.args.agent (heaps_pieces 0 hs) (heaps_pieces 0 hs) c.args.stack.now.items c.push.new.stack.items
    (λ e. (refl, c.in_ok-push.ensures.pushed))
    (λ e. absurd (past_plain hs c.args.agent.tag (length c.args.stack.now.items) c.requires.known past e))

pub returns-in_err-push-clause-kept : goal.returns-in_err-push-clause-kept
returns-in_err-push-clause-kept c =
    let hs : List Blocks = c.args.heaps.now.items in
    subst (λ (l : List Word). AreKept (arities_of hs) c.args.stack.now.items l (heaps_pieces 0 hs) (heaps_pieces 0 hs))
    (sym c.in_err-push.ensures.same) (kept_same (arities_of hs) c.args.stack.now.items (heaps_pieces 0 hs))

pub returns-then-arity-eq0-clause-made : goal.returns-then-arity-eq0-clause-made
returns-then-arity-eq0-clause-made c = λ e.
    let hs : List Blocks = c.args.heaps.now.items in
    let t : ℕ = c.args.agent.tag in
    let n : ℕ = length c.args.stack.now.items in
    let some : 1 ≤ t = tag_some hs t n c.requires.known in
    let is : t ≡ (t - 1) + 1 = omega (arith, some) in
    let lt : t - 1 < length hs = omega arith in
    let b : Blocks = c.index_mut-heap.result.now in
    let same : b ≡ table hs (t - 1) = table_read hs (t - 1) b lt c.index_mut-heap.ensures.value in
    let arity : b.arity ≡ (table hs (t - 1)).arity = ap (λ (x : Blocks). x.arity) same in
    let none : (table hs (t - 1)).arity ≡ 0 = omega arith in
    absurd (bare_plain hs t n c.requires.known (t - 1) is lt none e)

pub returns-then-arity-eq0-clause-kept : goal.returns-then-arity-eq0-clause-kept
returns-then-arity-eq0-clause-kept c =
    let hs : List Blocks = c.args.heaps.now.items in
    let t : ℕ = c.args.agent.tag in
    let n : ℕ = length c.args.stack.now.items in
    let some : 1 ≤ t = tag_some hs t n c.requires.known in
    let is : t ≡ (t - 1) + 1 = omega (arith, some) in
    let lt : t - 1 < length hs = omega arith in
    let b : Blocks = c.index_mut-heap.result.now in
    let same : b ≡ table hs (t - 1) = table_read hs (t - 1) b lt c.index_mut-heap.ensures.value in
    let arity : b.arity ≡ (table hs (t - 1)).arity = ap (λ (x : Blocks). x.arity) same in
    let none : (table hs (t - 1)).arity ≡ 0 = omega arith in
    let pieces : heaps_pieces 0 (slice_set hs (t - 1) b) ≡ heaps_pieces 0 hs =
    pieces_same hs (t - 1) b arity (ap (λ (x : Blocks). x.count) same) (ap (λ (x : Blocks). x.words) same) in
    agent_put_either (arities_of hs) c.args.agent (heaps_pieces 0 hs) (heaps_pieces 0 (slice_set hs (t - 1) b)) c.args.stack.now.items
    c.push-then-arity-eq0.new.stack.items (λ e. (pieces, c.in_ok-push-2.ensures.pushed))
    (λ e. absurd (bare_plain hs t n c.requires.known (t - 1) is lt none e))

pub put_agent-requires-clause-enough : goal.put_agent-requires-clause-enough
put_agent-requires-clause-enough c =
    let hs : List Blocks = c.args.heaps.now.items in
    let t : ℕ = c.args.agent.tag in
    let n : ℕ = length c.args.stack.now.items in
    let some : 1 ≤ t = tag_some hs t n c.requires.known in
    let is : t ≡ (t - 1) + 1 = omega (arith, some) in
    let lt : t - 1 < length hs = omega arith in
    let b : Blocks = c.index_mut-heap.result.now in
    let same : b ≡ table hs (t - 1) = table_read hs (t - 1) b lt c.index_mut-heap.ensures.value in
    let arity : b.arity ≡ (table hs (t - 1)).arity = ap (λ (x : Blocks). x.arity) same in
    let armed_by : 1 ≤ (table hs (t - 1)).arity = omega arith in
    let enough = armed_enough hs t n c.requires.known (t - 1) is lt armed_by in
    omega (arith, enough, arity)

pub returns-in_err-index-clause-kept : goal.returns-in_err-index-clause-kept
returns-in_err-index-clause-kept c =
    let hs : List Blocks = c.args.heaps.now.items in
    let t : ℕ = c.args.agent.tag in
    let n : ℕ = length c.args.stack.now.items in
    let some : 1 ≤ t = tag_some hs t n c.requires.known in
    let is : t ≡ (t - 1) + 1 = omega (arith, some) in
    let lt : t - 1 < length hs = omega arith in
    let b : Blocks = c.index_mut-heap.result.now in
    let same : b ≡ table hs (t - 1) = table_read hs (t - 1) b lt c.index_mut-heap.ensures.value in
    let b' : Blocks = c.put_agent.new.heap in
    let stays = c.in_err-index.ensures.same in
    let pieces : heaps_pieces 0 (slice_set hs (t - 1) b') ≡ heaps_pieces 0 hs =
    pieces_same hs (t - 1) b' (c.put_agent.ensures.arity ∙ ap (λ (x : Blocks). x.arity) same)
    (stays.1 ∙ ap (λ (x : Blocks). x.count) same) (stays.2 ∙ ap (λ (x : Blocks). x.words) same) in
    subst (λ (l : List Word). AreKept (arities_of hs) c.args.stack.now.items l (heaps_pieces 0 hs) (heaps_pieces 0 (slice_set hs (t - 1) b')))
    (sym stays.0)
    (subst (λ l. AreKept (arities_of hs) c.args.stack.now.items c.args.stack.now.items (heaps_pieces 0 hs) l) (sym pieces)
    (kept_same (arities_of hs) c.args.stack.now.items (heaps_pieces 0 hs)))

pub returns-in_err-index-clause-arities : goal.returns-in_err-index-clause-arities
returns-in_err-index-clause-arities c =
    let hs : List Blocks = c.args.heaps.now.items in
    let s : ℕ = c.args.agent.tag - 1 in
    let b : Blocks = c.index_mut-heap.result.now in
    let some = tag_some hs c.args.agent.tag (length c.args.stack.now.items) c.requires.known in
    let lt : s < length hs = omega (arith, some) in
    let same : b ≡ table hs s = table_read hs s b lt c.index_mut-heap.ensures.value in
    arities_set hs s c.put_agent.new.heap (c.put_agent.ensures.arity ∙ ap (λ (x : Blocks). x.arity) same)

pub returns-in_err-push-3-clause-arities : goal.returns-in_err-push-3-clause-arities
returns-in_err-push-3-clause-arities c =
    let hs : List Blocks = c.args.heaps.now.items in
    let s : ℕ = c.args.agent.tag - 1 in
    let b : Blocks = c.index_mut-heap.result.now in
    let some = tag_some hs c.args.agent.tag (length c.args.stack.now.items) c.requires.known in
    let lt : s < length hs = omega (arith, some) in
    let same : b ≡ table hs s = table_read hs s b lt c.index_mut-heap.ensures.value in
    arities_set hs s c.put_agent.new.heap (c.put_agent.ensures.arity ∙ ap (λ (x : Blocks). x.arity) same)

pub returns-clause-arities : goal.returns-clause-arities
returns-clause-arities c =
    let hs : List Blocks = c.args.heaps.now.items in
    let s : ℕ = c.args.agent.tag - 1 in
    let b : Blocks = c.index_mut-heap.result.now in
    let some = tag_some hs c.args.agent.tag (length c.args.stack.now.items) c.requires.known in
    let lt : s < length hs = omega (arith, some) in
    let same : b ≡ table hs s = table_read hs s b lt c.index_mut-heap.ensures.value in
    arities_set hs s c.put_agent.new.heap (c.put_agent.ensures.arity ∙ ap (λ (x : Blocks). x.arity) same)

pub returns-clause-plain : goal.returns-clause-plain
returns-clause-plain c = λ e.
    let hs : List Blocks = c.args.heaps.now.items in
    let t : ℕ = c.args.agent.tag in
    let n : ℕ = length c.args.stack.now.items in
    let some : 1 ≤ t = tag_some hs t n c.requires.known in
    let is : t ≡ (t - 1) + 1 = omega (arith, some) in
    let lt : t - 1 < length hs = omega arith in
    let b : Blocks = c.index_mut-heap.result.now in
    let same : b ≡ table hs (t - 1) = table_read hs (t - 1) b lt c.index_mut-heap.ensures.value in
    let arity : b.arity ≡ (table hs (t - 1)).arity = ap (λ (x : Blocks). x.arity) same in
    let armed_by : 1 ≤ (table hs (t - 1)).arity = omega arith in
    absurd (armed hs t n c.requires.known (t - 1) is lt armed_by e)

pub returns-clause-made : goal.returns-clause-made
returns-clause-made c = λ e.
    let hs : List Blocks = c.args.heaps.now.items in
    let t : ℕ = c.args.agent.tag in
    let n : ℕ = length c.args.stack.now.items in
    let some : 1 ≤ t = tag_some hs t n c.requires.known in
    let is : t ≡ (t - 1) + 1 = omega (arith, some) in
    let lt : t - 1 < length hs = omega arith in
    let b : Blocks = c.index_mut-heap.result.now in
    let same : b ≡ table hs (t - 1) = table_read hs (t - 1) b lt c.index_mut-heap.ensures.value in
    let more : 1 ≤ b.arity = omega arith in
    makes_agent hs t (t - 1) b c.put_agent.new.heap c.in_ok-index.index c.args.stack.now.items c.put_agent.new.stack.items
    c.push-2.new.stack.items is lt same more c.in_ok-index.ensures.put c.in_ok-push-3.ensures.pushed

pub returns-clause-kept : goal.returns-clause-kept
returns-clause-kept c =
    let hs : List Blocks = c.args.heaps.now.items in
    let t : ℕ = c.args.agent.tag in
    let n : ℕ = length c.args.stack.now.items in
    let some : 1 ≤ t = tag_some hs t n c.requires.known in
    let is : t ≡ (t - 1) + 1 = omega (arith, some) in
    let lt : t - 1 < length hs = omega arith in
    let b : Blocks = c.index_mut-heap.result.now in
    let same : b ≡ table hs (t - 1) = table_read hs (t - 1) b lt c.index_mut-heap.ensures.value in
    let more : 1 ≤ b.arity = omega arith in
    agent_kept (arities_of hs) t (heaps_pieces 0 hs) (heaps_pieces 0 (slice_set hs (t - 1) c.put_agent.new.heap)) c.args.stack.now.items
    c.push-2.new.stack.items
    (makes_agent hs t (t - 1) b c.put_agent.new.heap c.in_ok-index.index c.args.stack.now.items c.put_agent.new.stack.items
    c.push-2.new.stack.items is lt same more c.in_ok-index.ensures.put c.in_ok-push-3.ensures.pushed)

pub returns-clause-words : goal.returns-clause-words
returns-clause-words c =
    let put = c.in_ok-index.ensures.put in
    let all : AllByRecursion (λ w. w.tag < IDLE) c.put_agent.new.stack.items =
    all_front (λ w. w.tag < IDLE) c.put_agent.new.stack.items (reverse put.arguments)
    (subst (λ (l : List Word). AllByRecursion (λ w. w.tag < IDLE) l) put.before c.requires.words) in
    let w : Word = record { tag = c.args.agent.tag; index = c.in_ok-index.index } in
    subst (λ (l : List Word). AllByRecursion (λ w. w.tag < IDLE) l) (sym c.in_ok-push-3.ensures.pushed)
    (all_append (λ w. w.tag < IDLE) c.put_agent.new.stack.items (w ∷ []) all (c.requires.word, tt))

pub returns-in_err-push-3-clause-words : goal.returns-in_err-push-3-clause-words
returns-in_err-push-3-clause-words c =
    let put = c.in_ok-index.ensures.put in
    let all : AllByRecursion (λ w. w.tag < IDLE) c.put_agent.new.stack.items =
    all_front (λ w. w.tag < IDLE) c.put_agent.new.stack.items (reverse put.arguments)
    (subst (λ (l : List Word). AllByRecursion (λ w. w.tag < IDLE) l) put.before c.requires.words) in
    subst (λ (l : List Word). AllByRecursion (λ w. w.tag < IDLE) l) (sym c.in_err-push-3.ensures.same) all

pub returns-in_err-push-3-clause-kept : goal.returns-in_err-push-3-clause-kept
returns-in_err-push-3-clause-kept c =
    let hs : List Blocks = c.args.heaps.now.items in
    let a : List ℕ = arities_of hs in
    let t : ℕ = c.args.agent.tag in
    let n : ℕ = length c.args.stack.now.items in
    let some : 1 ≤ t = tag_some hs t n c.requires.known in
    let is : t ≡ (t - 1) + 1 = omega (arith, some) in
    let lt : t - 1 < length hs = omega arith in
    let b : Blocks = c.index_mut-heap.result.now in
    let same : b ≡ table hs (t - 1) = table_read hs (t - 1) b lt c.index_mut-heap.ensures.value in
    let more : 1 ≤ b.arity = omega arith in
    let w : Word = record { tag = t; index = c.in_ok-index.index } in
    let vs : List Word = c.put_agent.new.stack.items in
    let xs = heaps_pieces 0 hs in
    let ys = heaps_pieces 0 (slice_set hs (t - 1) c.put_agent.new.heap) in
    subst (λ (l : List Word). AreKept a c.args.stack.now.items l xs ys) (sym c.in_err-push-3.ensures.same)
    (kept_dropped a c.args.stack.now.items vs (w ∷ []) xs ys
    (agent_kept a t xs ys c.args.stack.now.items (vs ++ w ∷ [])
    (makes_agent hs t (t - 1) b c.put_agent.new.heap c.in_ok-index.index c.args.stack.now.items vs
    (vs ++ w ∷ []) is lt same more c.in_ok-index.ensures.put refl)))

pub returns-then-len-agent-clause-grow : goal.returns-then-len-agent-clause-grow
returns-then-len-agent-clause-grow c = blocks_stay c.args.heaps.now.items

pub returns-then-arity-eq0-clause-grow : goal.returns-then-arity-eq0-clause-grow
returns-then-arity-eq0-clause-grow c =
    let hs : List Blocks = c.args.heaps.now.items in
    let t : ℕ = c.args.agent.tag in
    let n : ℕ = length c.args.stack.now.items in
    let some : 1 ≤ t = tag_some hs t n c.requires.known in
    let lt : t - 1 < length hs = omega (arith, some) in
    let b : Blocks = c.index_mut-heap.result.now in
    let same : b ≡ table hs (t - 1) = table_read hs (t - 1) b lt c.index_mut-heap.ensures.value in
    blocks_read hs (t - 1) b same

pub returns-clause-grow : goal.returns-clause-grow
returns-clause-grow c =
    let hs : List Blocks = c.args.heaps.now.items in
    let t : ℕ = c.args.agent.tag in
    let n : ℕ = length c.args.stack.now.items in
    let some : 1 ≤ t = tag_some hs t n c.requires.known in
    let lt : t - 1 < length hs = omega (arith, some) in
    let b : Blocks = c.index_mut-heap.result.now in
    let same : b ≡ table hs (t - 1) = table_read hs (t - 1) b lt c.index_mut-heap.ensures.value in
    blocks_put hs (t - 1) c.in_ok-index.index b c.put_agent.new.heap c.args.stack.now.items c.put_agent.new.stack.items same
    c.in_ok-index.ensures.put c.in_ok-index.ensures.count

pub returns-in_err-index-clause-limit : goal.returns-in_err-index-clause-limit
returns-in_err-index-clause-limit c = λ e.
    let hs : List Blocks = c.args.heaps.now.items in
    let t : ℕ = c.args.agent.tag in
    let some : 1 ≤ t = tag_some hs t (length c.args.stack.now.items) c.requires.known in
    let lt : t - 1 < length hs = omega (arith, some) in
    let given = err_from_is_err_and c.from_residual-in_err-index.result c.from_residual-in_err-index.ensures.1 in
    let full : 2 ^ 32 ≤ c.put_agent.new.heap.count + 1 =
    c.in_err-index.ensures.limit (ap Err (same_fault c.from_residual-in_err-index.result given.0 c.in_err-index.field-0.0 Limit given.1 given.2 e)) in
    (t - 1, subst (λ (x : Blocks). 2 ^ 32 ≤ x.count + 1) (sym (table_set hs (t - 1) c.put_agent.new.heap lt)) full)
