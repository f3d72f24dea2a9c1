use Rattle.std.proofs.Common.{◌≡◌, ◌+◌, ◌-◌, ◌*◌, ◌^◌, ◌<◌, ◌≤◌, ℕ, suc, List, [], ◌∷◌, ◌++◌, length, map, max, take, slice_get, slice_set, sum_by, zero-add, ap, sym, subst, ◌∙◌, refl, arith}
use Rattle.std.specs.List.{AllByRecursion}
use Rattle.std.proofs.Math.Nat.{max-eq_left, suc-mul}
use Rattle.std.proofs.lemmas.List.{length-map, length-set, length-take-le, take_more_set}
use Rattle.ic_arena.specs.declared.word.Word.{Word}
use Rattle.ic_arena.specs.declared.word.TheConstants.{IDLE, GIVEN}
use Rattle.ic_arena.specs.Word.{agent_word}
use Rattle.ic_arena.specs.Piece.{agent_of, room}
use Rattle.ic_arena.specs.Tables.{Blocks, Replaced, blocks_pieces, register}
use Rattle.ic_machine.specs.declared.plan.Make.{Make}
use Rattle.ic_machine.specs.Plan.{Made, made_of}
use Rattle.ic_machine.specs.inner.Firing.{arities_of, heaps_pieces, table, HasRoom, Makes}
use Rattle.ic_machine.specs.lemmas.FiringKeeps.{all_append, all_of}
use Rattle.ic_machine.proofs.Fresh.{earlier_within, fact_now, front_more, makes_more, makes_none, planned_now, IsMadeOf}
use Rattle.ic_machine.proofs.Heaps.{arities_set, arity_known, room_taken, set_at, table_read, table_replaced, table_room}
use Rattle.ic_machine.proofs.InUse.{greatest_on, one_longer, one_more}
use Rattle.ic_machine.proofs.Spare.{grown_set}
use Rattle.ic_machine.proofs.Standing.{blocks_few}
use Rattle.ic_machine.proofs.firing.make_into.Goals as goal
use Rattle.ic_machine.proofs.firing.make_into.Goals.{After-deref}

-- the symbol of an agent that is made has a table of its arity
known : (h0 hs : List Blocks) (n : ℕ) (m : Made) → arities_of hs ≡ arities_of h0 → IsMadeOf (arities_of h0) n m
    → (m.symbol < length hs) × ((table hs m.symbol).arity ≡ length m.operands)
known h0 hs n m same p =
    arity_known hs m.symbol (length m.operands) (ap (λ (l : List ℕ). slice_get l m.symbol) same ∙ p.arity)

same_count : (h0 hs : List Blocks) → arities_of hs ≡ arities_of h0 → length hs ≡ length h0
same_count h0 hs same =
    sym (length-map hs (λ b. b.arity)) ∙ (ap length same ∙ length-map h0 (λ b. b.arity))

-- the first of some more agents has memory
room_for_one : (hs : List Blocks) (n i : ℕ) (m : Made) → i < n → HasRoom hs (n - i) m
    → (length (table hs m.symbol).words + (table hs m.symbol).arity ≤ (table hs m.symbol).capacity)
    × ((table hs m.symbol).count + 1 < 2 ^ 32)
room_for_one hs n i m lt h =
    let some : n - i ≡ suc (n - suc i) = omega arith in
    let a : ℕ = (table hs m.symbol).arity in
    let more = ap (λ (k : ℕ). k * a) some ∙ suc-mul (n - suc i) a in
    let fits : length (table hs m.symbol).words + (n - i) * a ≤ (table hs m.symbol).capacity = h.0 in
    let few : (table hs m.symbol).count + (n - i) < 2 ^ 32 = h.1 in
    (omega arith, omega arith)

pub index_mut-heap-requires : goal.index_mut-heap-requires
index_mut-heap-requires c =
    let h0 : List Blocks = c.args.heaps.now.items in
    let filled : ℕ = c.args.filled in
    let there = known h0 c.loop-make.heaps.items (filled + c.loop-make.make-index) (made_of c.make-item.result)
    c.loop-make.invariant.arities (planned_now (arities_of h0) filled c.loop-make.make-index c.args.makes.now c.make-item.result
    c.requires.made c.loop-make-test.true c.make-item.is) in
    let below : c.make-item.result.symbol < length c.loop-make.heaps.items = there.0 in
    let whole = c.loop-make.heaps.ok.0 in
    omega arith

-- ---- the agent that is made next

module _ (c : After-deref) where
  plan : IsMadeOf (arities_of c.args.heaps.now.items) (c.args.filled + c.loop-make.make-index)
      (made_of c.make-item.result)
  plan =
      planned_now (arities_of c.args.heaps.now.items) c.args.filled c.loop-make.make-index
      c.args.makes.now c.make-item.result c.requires.made c.loop-make-test.true c.make-item.is

  there : (c.make-item.result.symbol < length c.loop-make.heaps.items)
      × ((table c.loop-make.heaps.items c.make-item.result.symbol).arity ≡ length c.make-item.result.operands.items)
  there =
      known c.args.heaps.now.items c.loop-make.heaps.items _ (made_of c.make-item.result) c.loop-make.invariant.arities plan

  same : c.index_mut-heap.result.now ≡ table c.loop-make.heaps.items c.make-item.result.symbol
  same =
      table_read c.loop-make.heaps.items c.make-item.result.symbol c.index_mut-heap.result.now there.0 c.index_mut-heap.ensures.value

  one_fits : (length c.index_mut-heap.result.now.words + c.index_mut-heap.result.now.arity ≤ c.index_mut-heap.result.now.capacity)
      × (c.index_mut-heap.result.now.count + 1 < 2 ^ 32)
  one_fits =
      let hs : List Blocks = c.loop-make.heaps.items in
      let n : ℕ = length c.args.makes.now in
      let i : ℕ = c.loop-make.make-index in
      subst (λ (x : Blocks). (length x.words + x.arity ≤ x.capacity) × (x.count + 1 < 2 ^ 32)) (sym same)
      (room_for_one hs n i (made_of c.make-item.result) c.loop-make-test.true (fact_now (HasRoom hs (n - i)) i c.args.makes.now
      c.make-item.result c.loop-make.invariant.room c.loop-make-test.true c.make-item.is))

pub put-block-requires-clause-arity : goal.put-block-requires-clause-arity
put-block-requires-clause-arity c = ap length c.deref.ensures ∙ sym (ap (λ (x : Blocks). x.arity) (same c) ∙ (there c).1)

pub put-block-requires-clause-some : goal.put-block-requires-clause-some
put-block-requires-clause-some c =
    let arity = ap (λ (x : Blocks). x.arity) (same c) ∙ (there c).1 in
    let some : 1 ≤ length c.make-item.result.operands.items = (plan c).some in
    omega arith

pub put-block-requires-clause-filled : goal.put-block-requires-clause-filled
put-block-requires-clause-filled c =
    let next : ℕ = c.loop-make.next in
    let rs : List Word = c.loop-make.registers in
    let is = c.loop-make.invariant.next in
    let len = c.loop-make.invariant.len in
    let room = c.requires.registers in
    let there : next ≤ length rs = omega (arith, c.loop-make-test.true) in
    let many = length-take-le next rs there in
    subst (λ (l : List ℕ). AllByRecursion (λ k. k < length (take next rs)) l) (sym c.deref.ensures)
    (all_of (λ k. k < c.args.filled + c.loop-make.make-index) (λ k. k < length (take next rs))
    c.make-item.result.operands.items (λ k lt. omega arith) (plan c).within)

pub put-block-requires-clause-room : goal.put-block-requires-clause-room
put-block-requires-clause-room c = (one_fits c).0

pub put-block-requires-clause-few : goal.put-block-requires-clause-few
put-block-requires-clause-few c = (one_fits c).1

pub agent-requires : goal.agent-requires
agent-requires c =
    let below = (there (goal.at.agent-requires c).After-deref).0 in
    let len = same_count c.args.heaps.now.items c.loop-make.heaps.items c.loop-make.invariant.arities in
    let few : length c.args.heaps.now.items < GIVEN = c.requires.symbols in
    omega arith

pub loop-make-preserved : goal.loop-make-preserved
loop-make-preserved c =
    let hs : List Blocks = c.loop-make.heaps.items in
    let h0 : List Blocks = c.args.heaps.now.items in
    let k : ℕ = c.loop-make.next in
    let all : List Word = c.loop-make.registers in
    let r0 : List Word = take c.args.filled c.args.registers.now in
    let rs : List Word = take k all in
    let ms : List Make = c.args.makes.now in
    let i : ℕ = c.loop-make.make-index in
    let item : Make = c.make-item.result in
    let s : ℕ = item.symbol in
    let b : Blocks = c.index_mut-heap.result.now in
    let b' : Blocks = c.put-block.new.self in
    let w : Word = agent_word s c.put-block.result in
    let lt : i < length ms = c.loop-make-test.true in
    let len = c.loop-make.invariant.len in
    let next = c.loop-make.invariant.next in
    let fits = c.requires.registers in
    let place : k < length all = omega arith in
    let many : length rs ≡ k = length-take-le k all (omega arith) in
    let d = (goal.at.loop-make-preserved c).After-deref in
    let below : s < length hs = (there d).0 in
    let count : length hs ≡ length h0 = same_count h0 hs c.loop-make.invariant.arities in
    let few : length h0 < GIVEN = c.requires.symbols in
    let same : b ≡ table hs s = same d in
    let pushed = take_more_set all k c.agent.result place ∙ ap (λ (v : Word). rs ++ v ∷ []) c.agent.ensures in
    let block = subst (λ (l : List ℕ). Replaced [] (agent_of w (map (register rs) l) ∷ [])
    (blocks_pieces s (table hs s)) (blocks_pieces s b')) c.deref.ensures
    (subst (λ (x : Blocks). Replaced [] (agent_of w (map (register rs) c.deref.result.now) ∷ [])
    (blocks_pieces s x) (blocks_pieces s b')) same (c.put-block.ensures.made s)) in
    let none : sum_by (room w) (heaps_pieces 0 hs) ≡ 0 =
    table_room w hs 0 s s (sym (zero-add s)) refl
    ∙ subst (λ (x : Blocks). sum_by (room w) (blocks_pieces s x) ≡ 0) same (c.put-block.ensures.fresh s) in
    let made : Makes (map made_of (take i ms) ++ made_of item ∷ []) (heaps_pieces 0 h0)
    (heaps_pieces 0 (slice_set hs s b')) r0 (rs ++ w ∷ []) =
    makes_more (map made_of (take i ms)) (made_of item) (heaps_pieces 0 h0) (heaps_pieces 0 hs)
    (heaps_pieces 0 (slice_set hs s b')) r0 rs w c.loop-make.invariant.made
    (earlier_within (arities_of h0) c.args.filled i (length rs) ms c.requires.made (omega arith) (omega arith))
    (all_of (λ j. j < c.args.filled + i) (λ j. j < length rs) item.operands.items (λ j le. omega arith) (plan d).within)
    (table_replaced hs 0 s s b' [] (agent_of w (map (register rs) item.operands.items) ∷ []) (sym (zero-add s))
    (there d).0 block) none refl in
    let arity : b'.arity ≡ (table hs s).arity = c.put-block.ensures.arity ∙ ap (λ (x : Blocks). x.arity) same in
    let counted = subst (λ (x : Blocks). b'.count ≡ max x.count (length (blocks_pieces s b'))) same (c.put-block.ensures.count s) in
    let longer = one_longer (agent_of w (map (register rs) item.operands.items)) (blocks_pieces s (table hs s)) (blocks_pieces s b') block in
    let in_use = blocks_few s (table hs s).arity 0 (table hs s).count (table hs s).words in
    let fewer = one_more b'.count (table hs s).count (length (blocks_pieces s (table hs s))) (length (blocks_pieces s b')) counted longer in_use in
    let shorter = subst (λ (x : Blocks). length b'.words ≤ length x.words + x.arity) same c.put-block.ensures.len in
    let capacity = c.put-block.ensures.capacity ∙ ap (λ (x : Blocks). x.capacity) same in
    let left : length ms - i ≡ suc (length ms - (i + 1)) = omega arith in
    record {
      next = omega arith;
      made = subst (λ (l : List Made). Makes l (heaps_pieces 0 h0) (heaps_pieces 0 (slice_set hs s b')) r0
          (take (k + 1) (slice_set all k c.agent.result))) (sym (front_more i ms item lt c.make-item.is))
          (subst (λ (l : List Word). Makes (map made_of (take i ms) ++ made_of item ∷ []) (heaps_pieces 0 h0)
          (heaps_pieces 0 (slice_set hs s b')) r0 l) (sym pushed) made);
      words = subst (λ (l : List Word). AllByRecursion (λ v. v.tag < IDLE) l) (sym pushed)
          (all_append (λ v. v.tag < IDLE) rs (w ∷ []) c.loop-make.invariant.words (omega arith, tt));
      arities = arities_set hs s b' arity ∙ c.loop-make.invariant.arities;
      room = all_of (HasRoom hs (length ms - i)) (HasRoom (slice_set hs s b') (length ms - (i + 1)))
          (map made_of ms)
          (λ m h. room_taken hs s (length ms - (i + 1)) b' m arity fewer shorter capacity
          (subst (λ (j : ℕ). HasRoom hs j m) left h)) c.loop-make.invariant.room;
      sizes = grown_set h0 hs i s b' c.loop-make.invariant.sizes arity fewer shorter capacity;
      places = set_at (λ j x. x.count ≡ max (table h0 j).count (length (blocks_pieces j x))) hs s b'
          c.loop-make.invariant.places
          (greatest_on (table hs s).count b'.count (table h0 s).count (length (blocks_pieces s (table hs s)))
          (length (blocks_pieces s b')) (c.loop-make.invariant.places s) counted (omega arith));
      len = length-set all k c.agent.result ∙ len;
    }

pub loop-make-init : goal.loop-make-init
loop-make-init c =
    let hs : List Blocks = c.args.heaps.now.items in
    record {
      next = omega arith;
      made = makes_none (heaps_pieces 0 hs) (take c.args.filled c.args.registers.now);
      words = c.requires.words;
      arities = refl;
      room = subst (λ (n : ℕ). AllByRecursion (HasRoom hs n) (map made_of c.args.makes.now))
          (let same : length c.args.makes.now ≡ length c.args.makes.now - 0 = omega arith in same) c.requires.room;
      sizes = λ s. record { arity = refl; count = omega arith; len = omega arith; capacity = refl };
      places = λ s. sym (max-eq_left (blocks_few s (table hs s).arity 0 (table hs s).count (table hs s).words));
      len = refl;
    }
