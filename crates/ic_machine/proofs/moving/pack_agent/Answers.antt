use Rattle.std.proofs.Common.{◌≡◌, ℕ, ◌+◌, ◌-◌, ◌<◌, ◌≤◌, List, [], ◌∷◌, ◌++◌, length, take, drop, reverse, ap, subst, ◌∙◌, arith, refl}
use Rattle.ic_arena.specs.declared.word.Word.{Word}
use Rattle.ic_arena.specs.Tables.{Blocks}
use Rattle.ic_machine.specs.Moving.{spelled_agent}
use Rattle.ic_machine.specs.Separate.{is_constant_tag}
use Rattle.ic_machine.specs.inner.Firing.{arities_of, heaps_pieces, table, Taken}
use Rattle.ic_machine.proofs.Agents.{agent_packed, known_constant, not_both, plain_packed, unknown_nowhere}
use Rattle.ic_machine.proofs.Firings.{agent_tag}
use Rattle.ic_machine.proofs.Heaps.{arity_at, as_many, table_read}
use Rattle.ic_machine.proofs.Taking.{counts_kept}
use Rattle.ic_machine.proofs.moving.pack_agent.Goals as goal

pub take-requires-clause-there : goal.take-requires-clause-there
take-requires-clause-there c = λ some.
    let hs : List Blocks = c.args.heaps.now.items in
    let w : Word = c.args.agent in
    let s : ℕ = w.tag - 1 in
    let tag : w.tag ≡ s + 1 = (let positive = c.requires.some in omega arith) in
    let lt : s < length hs = omega arith in
    c.requires.there (agent_tag (arities_of hs) w.tag s (table hs s).arity tag (arity_at hs s lt) some)

pub returns-then-len-agent-clause-packed : goal.returns-then-len-agent-clause-packed
returns-then-len-agent-clause-packed c =
    let hs : List Blocks = c.args.heaps.now.items in
    let w : Word = c.args.agent in
    let ws : List Word = c.args.parcel.now.words.items in
    let past : length hs < w.tag = omega arith in
    plain_packed w (arities_of hs) (heaps_pieces 0 hs) ws c.push_reserved.new.self.items c.args.parcel.now.stack.items
    (λ e. (let there = c.requires.there e in let none = unknown_nowhere hs w past in absurd (omega arith)))
    (c.push_reserved.ensures.items ∙ ap (λ (l : List Word). l ++ w ∷ []) c.in_ok-reserve.ensures.items)

pub returns-then-arity-eq0-clause-packed : goal.returns-then-arity-eq0-clause-packed
returns-then-arity-eq0-clause-packed c =
    let hs : List Blocks = c.args.heaps.now.items in
    let w : Word = c.args.agent in
    let ws : List Word = c.args.parcel.now.words.items in
    let s : ℕ = w.tag - 1 in
    let tag : w.tag ≡ s + 1 = (let positive = c.requires.some in omega arith) in
    let lt : s < length hs = omega arith in
    let same : c.index.result.now ≡ table hs s = table_read hs s c.index.result.now lt c.index.ensures in
    let arity : c.index.result.now.arity ≡ (table hs s).arity = ap (λ (b : Blocks). b.arity) same in
    plain_packed w (arities_of hs) (heaps_pieces 0 hs) ws c.push_reserved-then-arity-eq0.new.self.items c.args.parcel.now.stack.items
    (not_both (is_constant_tag (arities_of hs) w.tag) (known_constant hs w s tag lt (omega arith)))
    (c.push_reserved-then-arity-eq0.ensures.items ∙ ap (λ (l : List Word). l ++ w ∷ []) c.in_ok-reserve.ensures.items)

pub returns-clause-packed : goal.returns-clause-packed
returns-clause-packed c =
    let hs : List Blocks = c.args.heaps.now.items in
    let gs : List Blocks = c.take.new.heaps.items in
    let w : Word = c.args.agent in
    let ws : List Word = c.args.parcel.now.words.items in
    let s : ℕ = w.tag - 1 in
    let tag : w.tag ≡ s + 1 = (let positive = c.requires.some in omega arith) in
    let lt : s < length hs = omega arith in
    let same : c.index.result.now ≡ table hs s = table_read hs s c.index.result.now lt c.index.ensures in
    let arity : c.index.result.now.arity ≡ (table hs s).arity = ap (λ (b : Blocks). b.arity) same in
    let some : 1 ≤ (table hs s).arity = omega arith in
    let before : List Word = c.args.parcel.now.stack.items in
    let mid : List Word = c.take.new.registers.items in
    let after : List Word = c.turn.new.words.items in
    let taken = subst (λ (l : List Word). Taken w (table hs s).arity (heaps_pieces 0 hs) (heaps_pieces 0 gs) l mid)
    c.in_ok-reserve-2.ensures.items c.take.ensures.taken in
    let same_items : length c.reserve-2.new.self.items ≡ length before = ap length c.in_ok-reserve-2.ensures.items in
    let len : c.len-first.result ≡ length before = omega (arith, c.len-first.ensures, c.reserve-2.new.self.ok) in
    let turned = subst (λ (n : ℕ). after ≡ take n mid ++ reverse (drop n mid)) len c.turn.ensures in
    agent_packed hs gs w s (table hs s).arity ws c.push_reserved-2.new.self.items before mid after tag lt refl some taken turned
    (c.push_reserved-2.ensures.items ∙ ap (λ (l : List Word). l ++ spelled_agent w ∷ []) c.in_ok-reserve.ensures.items)

pub returns-clause-counts : goal.returns-clause-counts
returns-clause-counts c =
    let hs : List Blocks = c.args.heaps.now.items in
    let gs : List Blocks = c.take.new.heaps.items in
    counts_kept hs gs (as_many hs gs c.take.ensures.arities) c.take.ensures.sizes
