use Rattle.std.proofs.Common.{◌≡◌, ◌<◌, ℕ, List, [], ◌∷◌, length, take, ap, sym, subst, ◌∙◌, slice_set, arith}
use Rattle.std.proofs.lemmas.List.{get_or-set_same, get_or-set_other}
use Rattle.ic_arena.specs.declared.word.Word.{Word}
use Rattle.ic_arena.specs.declared.word.TheConstants.{FREE, IDLE}
use Rattle.ic_arena.specs.Word.{name_word}
use Rattle.ic_arena.specs.Piece.{waits}
use Rattle.ic_arena.specs.Tables.{Entries, Replaced, entry, names_pieces}
use Rattle.ic_arena.proofs.Found.{held_set}
use Rattle.ic_arena.proofs.Front.{front_below, front_set}
use Rattle.ic_arena.proofs.NamesPieces.{wait_replaced}
use Rattle.ic_arena.proofs.names.Names.replace.Goals as goal

pub returns-clause-replaced : goal.returns-clause-replaced
returns-clause-replaced c =
    let old = c.self.inside in
    let name : ℕ = c.args.name in
    let ws : List Word = take old.count old.entries.items in
    let there : name < length ws = subst (λ (v : Entries). name < length v.entries) (sym c.self.view_is) c.requires.there in
    let waited : (entry ws name).tag < IDLE = subst (λ (v : Entries). (entry v.entries name).tag < IDLE) (sym c.self.view_is) c.requires.waits in
    let same = front_set old.count name old.entries.items c.args.word (front_below old.count name old.entries.items there) in
    subst (λ (v : Entries). Replaced (waits (name_word name) (entry v.entries name) ∷ []) (waits (name_word name) c.args.word ∷ [])
    (names_pieces 0 v.entries) (names_pieces 0 (take old.count (slice_set old.entries.items name c.args.word)))) c.self.view_is
    (subst (λ (l : List Word). Replaced (waits (name_word name) (entry ws name) ∷ []) (waits (name_word name) c.args.word ∷ [])
    (names_pieces 0 ws) (names_pieces 0 l)) (sym same) (wait_replaced ws name c.args.word there waited c.requires.word))

pub invariant_of-self : goal.invariant_of-self
invariant_of-self c =
    let old = c.self.inside in
    let there = subst (λ (v : Entries). c.args.name < length v.entries) (sym c.self.view_is) c.requires.there in
    let waited = subst (λ (v : Entries). (entry v.entries c.args.name).tag < IDLE) (sym c.self.view_is) c.requires.waits in
    let word = c.requires.word in
    held_set old.count old.unused old.entries.items old.free c.args.name c.args.word c.self.invariant there
    (λ e. omega arith) (λ e. omega arith)

pub returns-clause-is : goal.returns-clause-is
returns-clause-is c =
    let old = c.self.inside in
    let there = subst (λ (v : Entries). c.args.name < length v.entries) (sym c.self.view_is) c.requires.there in
    let same = front_set old.count c.args.name old.entries.items c.args.word (front_below old.count c.args.name old.entries.items there) in
    ap (λ (l : List Word). entry l c.args.name) same
    ∙ get_or-set_same (take old.count old.entries.items) c.args.name c.args.word (record { tag = FREE; index = 0 }) there

pub returns-clause-others : goal.returns-clause-others
returns-clause-others c = λ i apart.
    let old = c.self.inside in
    let there = subst (λ (v : Entries). c.args.name < length v.entries) (sym c.self.view_is) c.requires.there in
    let same = front_set old.count c.args.name old.entries.items c.args.word (front_below old.count c.args.name old.entries.items there) in
    subst (λ (v : Entries). entry (take old.count (slice_set old.entries.items c.args.name c.args.word)) i ≡ entry v.entries i) c.self.view_is
    (ap (λ (l : List Word). entry l i) same
    ∙ get_or-set_other (take old.count old.entries.items) c.args.name i c.args.word (record { tag = FREE; index = 0 }) apart)
