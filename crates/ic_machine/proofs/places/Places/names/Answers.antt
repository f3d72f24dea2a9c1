use Rattle.std.proofs.Common.{◌<◌, List, Contains, length, sym, subst, arith}
use Rattle.ic_arena.specs.declared.word.Word.{Word}
use Rattle.ic_arena.specs.Piece.{waits}
use Rattle.ic_arena.specs.Tables.{Blocks}
use Rattle.ic_machine.specs.Held.{Held}
use Rattle.ic_machine.proofs.Standing.{waiting_below}
use Rattle.ic_machine.proofs.places.Places.names.Goals as goal

pub returns-clause-waiting : goal.returns-clause-waiting
returns-clause-waiting c = λ name word there.
    let ws : List Word = c.self.inside.names.entries in
    let hs : List Blocks = c.self.inside.heaps.items in
    let found = waiting_below ws hs name word c.self.invariant.blocks
    (subst (λ (h : Held). Contains h.pieces (waits name word)) (sym c.self.view_is) there) in
    let below : found.0 < length ws = found.1 in
    (found.0, omega (arith, c.len.ensures), found.2)
