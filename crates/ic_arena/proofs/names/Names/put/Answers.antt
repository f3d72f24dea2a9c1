use Rattle.std.proofs.Common.{◌≡◌, ◌<◌, ℕ, List, [], ◌∷◌, length, take, sym, subst, slice_set, arith}
use Rattle.ic_arena.specs.declared.word.Word.{Word}
use Rattle.ic_arena.specs.declared.word.TheConstants.{IDLE}
use Rattle.ic_arena.specs.Word.{name_word}
use Rattle.ic_arena.specs.Piece.{idle, waits}
use Rattle.ic_arena.specs.Tables.{Entries, Replaced, entry, names_pieces}
use Rattle.ic_arena.proofs.Found.{held_set}
use Rattle.ic_arena.proofs.Front.{front_below, front_set}
use Rattle.ic_arena.proofs.NamesPieces.{put_to_wait}
use Rattle.ic_arena.proofs.names.Names.put.Goals as goal

pub returns-clause-put : goal.returns-clause-put
returns-clause-put c =
    let old = c.self.inside in
    let name : ℕ = c.args.name in
    let ws : List Word = take old.count old.entries.items in
    let there : name < length ws = subst (λ (v : Entries). name < length v.entries) (sym c.self.view_is) c.requires.there in
    let none : (entry ws name).tag ≡ IDLE = subst (λ (v : Entries). (entry v.entries name).tag ≡ IDLE) (sym c.self.view_is) c.requires.idle in
    let same = front_set old.count name old.entries.items c.args.word (front_below old.count name old.entries.items there) in
    subst (λ (v : Entries). Replaced (idle (name_word name) ∷ []) (waits (name_word name) c.args.word ∷ []) (names_pieces 0 v.entries)
    (names_pieces 0 (take old.count (slice_set old.entries.items name c.args.word)))) c.self.view_is
    (subst (λ (l : List Word). Replaced (idle (name_word name) ∷ []) (waits (name_word name) c.args.word ∷ []) (names_pieces 0 ws) (names_pieces 0 l))
    (sym same) (put_to_wait ws name c.args.word there none c.requires.word))

pub invariant_of-self : goal.invariant_of-self
invariant_of-self c =
    let old = c.self.inside in
    let there = subst (λ (v : Entries). c.args.name < length v.entries) (sym c.self.view_is) c.requires.there in
    let none = subst (λ (v : Entries). (entry v.entries c.args.name).tag ≡ IDLE) (sym c.self.view_is) c.requires.idle in
    let word = c.requires.word in
    held_set old.count old.unused old.entries.items old.free c.args.name c.args.word c.self.invariant there
    (λ e. omega arith) (λ e. omega arith)
