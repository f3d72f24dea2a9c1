use Rattle.std.proofs.Common.{◌≡◌, ◌+◌, ◌-◌, ◌<◌, ◌≤◌, ℕ, List, ◌++◌, Contains, length, ap, sum_by, sym, subst, ◌∙◌, arith}
use Rattle.std.proofs.lemmas.List.{length-map}
use Rattle.ic_arena.specs.declared.word.Word.{Word}
use Rattle.ic_arena.specs.Piece.{agent_of, room}
use Rattle.ic_arena.specs.Tables.{Blocks, block_at, names_pieces}
use Rattle.ic_machine.specs.Net.{Net}
use Rattle.ic_machine.specs.inner.Firing.{heaps_pieces, table}
use Rattle.ic_machine.proofs.Heaps.{agent_block, in_block, table_read}
use Rattle.ic_machine.proofs.Reading.{agent_contained, agent_places}
use Rattle.ic_machine.proofs.machine.Machine.arguments.Goals as goal

pub get-requires : goal.get-requires
get-requires c =
    let w : Word = c.args.agent in
    let s : ℕ = w.tag - 1 in
    let hs : List Blocks = c.self.inside.tables.heaps.items in
    let b : Blocks = c.index.result.now in
    let many : length c.args.self.now.arities ≡ length hs =
    ap (λ (n : Net). length n.arities) (sym c.self.view_is) ∙ length-map hs (λ x. x.arity) in
    let tag : w.tag ≡ s + 1 = omega (arith, c.requires.some) in
    let lt : s < length hs = omega (arith, c.requires.some, c.requires.known) in
    let same : b ≡ table hs s = table_read hs s b lt c.index.ensures in
    let room_there = agent_places c.self.inside.tables.names.entries hs w c.requires.some
    (subst (λ (n : Net). 1 ≤ sum_by (room w) n.places) (sym c.self.view_is) c.requires.there) in
    subst (λ (x : Blocks). w.index < x.count) (sym same)
    (in_block s w.index (table hs s) (agent_block hs w s tag room_there))

pub returns : goal.returns
returns c =
    let w : Word = c.args.agent in
    let s : ℕ = w.tag - 1 in
    let hs : List Blocks = c.self.inside.tables.heaps.items in
    let b : Blocks = c.index.result.now in
    let many : length c.args.self.now.arities ≡ length hs =
    ap (λ (n : Net). length n.arities) (sym c.self.view_is) ∙ length-map hs (λ x. x.arity) in
    let tag : w.tag ≡ s + 1 = omega (arith, c.requires.some) in
    let lt : s < length hs = omega (arith, c.requires.some, c.requires.known) in
    let same : b ≡ table hs s = table_read hs s b lt c.index.ensures in
    let room_there = agent_places c.self.inside.tables.names.entries hs w c.requires.some
    (subst (λ (n : Net). 1 ≤ sum_by (room w) n.places) (sym c.self.view_is) c.requires.there) in
    let is = sym (c.get.ensures ∙ ap (λ (x : Blocks). block_at x w.index) same) in
    subst (λ (n : Net). Contains n.places (agent_of w c.get.result.now)) c.self.view_is
    (subst (λ (l : List Word). Contains (names_pieces 0 c.self.inside.tables.names.entries ++ heaps_pieces 0 hs) (agent_of w l)) is
    (agent_contained (names_pieces 0 c.self.inside.tables.names.entries) hs w s tag lt room_there))
