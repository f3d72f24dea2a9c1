use Rattle.std.proofs.Common.{◌≡◌, ◌<◌, ◌≤◌, ℕ, List, Contains, length, slice_index_or, ap, sym, subst, ◌∙◌, arith}
use Rattle.ic_arena.specs.declared.word.Word.{Word}
use Rattle.ic_arena.specs.Piece.{agent_of}
use Rattle.ic_arena.specs.Tables.{Blocks}
use Rattle.ic_machine.specs.Held.{Held}
use Rattle.ic_machine.specs.inner.Firing.{table}
use Rattle.ic_machine.proofs.Heaps.{table_read}
use Rattle.ic_machine.proofs.Standing.{agent_below}
use Rattle.ic_machine.proofs.places.Places.agents.Goals as goal

pub returns-in-Some-clause-held : goal.returns-in-Some-clause-held
returns-in-Some-clause-held c = λ agent arguments tag there.
    let ws : List Word = c.self.inside.names.entries in
    let hs : List Blocks = c.self.inside.heaps.items in
    let s : ℕ = c.args.symbol in
    let b : Blocks = c.in-Some.heap.now in
    let found = agent_below ws hs s agent arguments c.self.invariant.blocks tag
    (subst (λ (h : Held). Contains h.pieces (agent_of agent arguments)) (sym c.self.view_is) there) in
    let read = subst (λ (l : List Blocks). b ≡ slice_index_or l s b) c.deref.ensures.value c.in-Some.ensures.lookup.1 in
    let same : b ≡ table hs s = table_read hs s b found.0 read in
    let below : agent.index < (table hs s).count = found.1 in
    let count : c.count.result ≡ (table hs s).count = c.count.ensures.count ∙ ap (λ (x : Blocks). x.count) same in
    omega arith

pub returns-in-None-clause-held : goal.returns-in-None-clause-held
returns-in-None-clause-held c = λ agent arguments tag there.
    let ws : List Word = c.self.inside.names.entries in
    let hs : List Blocks = c.self.inside.heaps.items in
    let s : ℕ = c.args.symbol in
    let found = agent_below ws hs s agent arguments c.self.invariant.blocks tag
    (subst (λ (h : Held). Contains h.pieces (agent_of agent arguments)) (sym c.self.view_is) there) in
    let known : s < length hs = found.0 in
    let past = subst (λ (l : List Blocks). length l ≤ s) c.deref.ensures.value c.in-None.ensures.lookup.3 in
    absurd (omega arith)
