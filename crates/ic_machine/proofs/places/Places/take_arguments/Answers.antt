use Rattle.std.proofs.Common.{◌≡◌, ◌+◌, ◌-◌, ◌<◌, ◌≤◌, ℕ, List, ◌++◌, length, map, take, drop, reverse, ap, sym, subst, ◌∙◌, arith, sum_by}
use Rattle.std.proofs.lemmas.List.{length-map}
use Rattle.ic_arena.specs.declared.word.Word.{Word}
use Rattle.ic_arena.specs.Piece.{room}
use Rattle.ic_arena.specs.Tables.{Blocks, AreBlocks, names_pieces}
use Rattle.ic_machine.specs.Held.{Held, ArgumentsTaken}
use Rattle.ic_machine.specs.inner.Firing.{arities_of, heaps_pieces, table, Taken}
use Rattle.ic_machine.proofs.Heaps.{agent_block, as_many, in_block, table_read}
use Rattle.ic_machine.proofs.Reading.{agent_places}
use Rattle.ic_machine.proofs.Taking.{arguments_taken, block_some, blocks_kept, counts_kept, sums_kept, taken_fewer}
use Rattle.ic_machine.proofs.places.Places.take_arguments.Goals as goal

pub returns-then-not-has-clause-none : goal.returns-then-not-has-clause-none
returns-then-not-has-clause-none c = λ e. c.has.ensures.none (cc c.if-not-has.true)

pub take-requires-clause-there : goal.take-requires-clause-there
take-requires-clause-there c = λ arity.
    let w : Word = c.args.agent in
    let some : 1 ≤ w.tag = c.has.ensures.some (cc c.if-not-has.false) in
    agent_places c.self.inside.names.entries c.self.inside.heaps.items w some
    (subst (λ (h : Held). 1 ≤ sum_by (room w) h.pieces) (sym c.self.view_is)
    (c.has.ensures.there (cc c.if-not-has.false)))

pub invariant_of-self : goal.invariant_of-self
invariant_of-self c =
    let hs : List Blocks = c.self.inside.heaps.items in
    let gs : List Blocks = c.take.new.heaps.items in
    let many : length gs ≡ length hs = as_many hs gs c.take.ensures.arities in
    record {
      names = c.self.invariant.names;
      symbols = let few = c.self.invariant.symbols in omega arith;
      blocks = blocks_kept hs gs many c.take.ensures.sizes c.self.invariant.blocks;
      count = c.self.invariant.count ∙ ap (λ (n : ℕ). length c.self.inside.names.entries + n) (sym (sums_kept hs gs many c.take.ensures.sizes));
      enough = taken_fewer (names_pieces 0 c.self.inside.names.entries) hs gs c.args.agent
          (table hs (c.args.agent.tag - 1)).arity c.self.inside.count c.reserve.new.self.items c.take.new.registers.items
          c.take.ensures.taken c.self.invariant.enough;
    }

pub returns-clause-taken : goal.returns-clause-taken
returns-clause-taken c = λ e.
    let w : Word = c.args.agent in
    let s : ℕ = w.tag - 1 in
    let ws : List Word = c.self.inside.names.entries in
    let hs : List Blocks = c.self.inside.heaps.items in
    let gs : List Blocks = c.take.new.heaps.items in
    let b : Blocks = c.index.result.now in
    let some : 1 ≤ w.tag = c.has.ensures.some (cc c.if-not-has.false) in
    let known = c.has.ensures.known (cc c.if-not-has.false) in
    let many : length c.args.self.now.arities ≡ length hs =
    ap (λ (h : Held). length h.arities) (sym c.self.view_is) ∙ length-map hs (λ x. x.arity) in
    let tag : w.tag ≡ s + 1 = omega arith in
    let lt : s < length hs = omega arith in
    let same : b ≡ table hs s = table_read hs s b lt c.index.ensures in
    let sound : AreBlocks (table hs s) = subst AreBlocks same c.arity-arity.ensures.sound in
    let there : 1 ≤ sum_by (room w) (heaps_pieces 0 hs) = agent_places ws hs w some
    (subst (λ (h : Held). 1 ≤ sum_by (room w) h.pieces) (sym c.self.view_is)
    (c.has.ensures.there (cc c.if-not-has.false))) in
    let below = in_block s w.index (table hs s) (agent_block hs w s tag there) in
    let arity : 1 ≤ (table hs s).arity = block_some (table hs s) sound (omega arith) in
    let before : List Word = c.args.stack.now.items in
    let mid : List Word = c.take.new.registers.items in
    let after : List Word = c.turn.new.words.items in
    let taken = subst (λ (l : List Word). Taken w (table hs s).arity (heaps_pieces 0 hs) (heaps_pieces 0 gs) l mid)
    c.reserve.ensures.items c.take.ensures.taken in
    let same_items : length c.reserve.new.self.items ≡ length before = ap length c.reserve.ensures.items in
    let len : c.len-first.result ≡ length before = omega (arith, c.len-first.ensures, c.reserve.new.self.ok) in
    let turned = subst (λ (n : ℕ). after ≡ take n mid ++ reverse (drop n mid)) len c.turn.ensures in
    subst (λ (h : Held). ArgumentsTaken w h
    (record { arities = arities_of gs; pieces = names_pieces 0 ws ++ heaps_pieces 0 gs; names = length ws; agents = map (λ b. b.count) gs }) before after) c.self.view_is
    (arguments_taken ws hs gs w (table hs s).arity before mid after taken arity turned)

pub returns-clause-size : goal.returns-clause-size
returns-clause-size c =
    let hs : List Blocks = c.self.inside.heaps.items in
    let gs : List Blocks = c.take.new.heaps.items in
    let many : length gs ≡ length hs = as_many hs gs c.take.ensures.arities in
    record {
      names = ap (λ (h : Held). h.names) c.self.view_is;
      agents = counts_kept hs gs many c.take.ensures.sizes ∙ ap (λ (h : Held). h.agents) c.self.view_is;
    }
