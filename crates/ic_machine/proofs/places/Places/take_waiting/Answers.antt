use Rattle.std.proofs.Common.{◌≡◌, ◌<◌, ◌≤◌, List, ◌∷◌, ◌++◌, Contains, length, sym, subst, arith}
use Rattle.std.specs.List.Sorted.{IsPermutation}
use Rattle.ic_arena.specs.declared.word.Word.{Word}
use Rattle.ic_arena.specs.declared.word.TheConstants.{FREE, IDLE}
use Rattle.ic_arena.specs.Word.{name_word}
use Rattle.ic_arena.specs.Piece.{waits}
use Rattle.ic_arena.specs.Tables.{Blocks, entry, names_pieces}
use Rattle.ic_machine.specs.Held.{Held}
use Rattle.ic_machine.specs.inner.Firing.{heaps_pieces}
use Rattle.ic_machine.proofs.NameRooms.{entry_past}
use Rattle.ic_machine.proofs.Reading.{nothing_waits}
use Rattle.ic_machine.proofs.Taking.{name_freed, waiting_taken}
use Rattle.ic_machine.proofs.places.Places.take_waiting.Goals as goal

pub returns-then-len-name-clause-none : goal.returns-then-len-name-clause-none
returns-then-len-name-clause-none c = λ w there.
    let ws : List Word = c.self.inside.names.entries in
    let hs : List Blocks = c.self.inside.heaps.items in
    let past : length ws ≤ c.args.name = omega (arith, c.len.ensures) in
    let free : (entry ws c.args.name).tag ≡ FREE = entry_past ws c.args.name past in
    nothing_waits ws hs c.args.name w (omega arith) (omega arith)
    (subst (λ (h : Held). Contains h.pieces (waits (name_word c.args.name) w)) (sym c.self.view_is) there)

pub returns-then-word-ge-IDLE-clause-none : goal.returns-then-word-ge-IDLE-clause-none
returns-then-word-ge-IDLE-clause-none c = λ w there.
    let ws : List Word = c.self.inside.names.entries in
    let hs : List Blocks = c.self.inside.heaps.items in
    let v : Word = c.get-word.result in
    let most : v.tag ≤ FREE = omega arith in
    let mark : IDLE ≤ v.tag = c.if-word-ge-IDLE.true in
    nothing_waits ws hs c.args.name w (subst (λ (x : Word). IDLE ≤ x.tag) c.get-word.ensures mark)
    (subst (λ (x : Word). x.tag ≤ FREE) c.get-word.ensures most)
    (subst (λ (h : Held). Contains h.pieces (waits (name_word c.args.name) w)) (sym c.self.view_is) there)

pub returns-clause-taken : goal.returns-clause-taken
returns-clause-taken c =
    let ws : List Word = c.self.inside.names.entries in
    let ws' : List Word = c.free.new.self.entries in
    let hs : List Blocks = c.self.inside.heaps.items in
    subst (λ (h : Held). IsPermutation h.pieces
    (waits (name_word c.args.name) c.get-word.result ∷ (names_pieces 0 ws' ++ heaps_pieces 0 hs))) c.self.view_is
    (subst (λ (v : Word). IsPermutation (names_pieces 0 ws ++ heaps_pieces 0 hs)
    (waits (name_word c.args.name) v ∷ (names_pieces 0 ws' ++ heaps_pieces 0 hs))) (sym c.get-word.ensures)
    (waiting_taken ws ws' hs (name_word c.args.name) (entry ws c.args.name) c.free.ensures.freed))

pub returns-clause-free : goal.returns-clause-free
returns-clause-free c =
    let ws : List Word = c.self.inside.names.entries in
    let word = subst (λ (v : Word). v.tag < IDLE) c.get-word.ensures c.if-word-ge-IDLE.false in
    name_freed ws c.free.new.self.entries c.self.inside.heaps.items c.args.name word c.free.ensures.freed
