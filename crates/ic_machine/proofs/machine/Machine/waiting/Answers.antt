use Rattle.std.proofs.Common.{◌≡◌, ◌<◌, ◌≤◌, List, ◌++◌, Contains, length, sym, subst, arith}
use Rattle.ic_arena.specs.declared.word.Word.{Word}
use Rattle.ic_arena.specs.declared.word.TheConstants.{FREE, IDLE}
use Rattle.ic_arena.specs.Word.{name_word}
use Rattle.ic_arena.specs.Piece.{waits}
use Rattle.ic_arena.specs.Tables.{Blocks, entry, names_pieces}
use Rattle.ic_machine.specs.Net.{Net}
use Rattle.ic_machine.specs.inner.Firing.{heaps_pieces}
use Rattle.ic_machine.proofs.NameRooms.{entry_past}
use Rattle.ic_machine.proofs.Reading.{nothing_waits, waiting_contained}
use Rattle.ic_machine.proofs.machine.Machine.waiting.Goals as goal

pub returns-then-len-name-clause-none : goal.returns-then-len-name-clause-none
returns-then-len-name-clause-none c = λ w there.
    let ws : List Word = c.self.inside.tables.names.entries in
    let hs : List Blocks = c.self.inside.tables.heaps.items in
    let past : length ws ≤ c.args.name = omega (arith, c.len.ensures) in
    let free : (entry ws c.args.name).tag ≡ FREE = entry_past ws c.args.name past in
    nothing_waits ws hs c.args.name w (omega arith) (omega arith)
    (subst (λ (n : Net). Contains n.places (waits (name_word c.args.name) w)) (sym c.self.view_is) there)

pub returns-then-word-lt-IDLE-clause-found : goal.returns-then-word-lt-IDLE-clause-found
returns-then-word-lt-IDLE-clause-found c =
    let ws : List Word = c.self.inside.tables.names.entries in
    let hs : List Blocks = c.self.inside.tables.heaps.items in
    let lt : c.args.name < length ws = omega (arith, c.len.ensures) in
    let word = subst (λ (v : Word). v.tag < IDLE) c.get-word.ensures c.if-word-lt-IDLE.true in
    subst (λ (n : Net). Contains n.places (waits (name_word c.args.name) c.get-word.result)) c.self.view_is
    (subst (λ (v : Word). Contains (names_pieces 0 ws ++ heaps_pieces 0 hs) (waits (name_word c.args.name) v))
    (sym c.get-word.ensures) (waiting_contained ws hs c.args.name lt word))

pub returns-else-word-lt-IDLE-clause-none : goal.returns-else-word-lt-IDLE-clause-none
returns-else-word-lt-IDLE-clause-none c = λ w there.
    let ws : List Word = c.self.inside.tables.names.entries in
    let hs : List Blocks = c.self.inside.tables.heaps.items in
    let v : Word = c.get-word.result in
    let most : v.tag ≤ FREE = omega arith in
    let mark : IDLE ≤ v.tag = c.if-word-lt-IDLE.false in
    nothing_waits ws hs c.args.name w (subst (λ (x : Word). IDLE ≤ x.tag) c.get-word.ensures mark)
    (subst (λ (x : Word). x.tag ≤ FREE) c.get-word.ensures most)
    (subst (λ (n : Net). Contains n.places (waits (name_word c.args.name) w)) (sym c.self.view_is) there)
