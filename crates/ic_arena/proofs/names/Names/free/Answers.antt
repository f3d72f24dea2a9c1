use Rattle.std.proofs.Common.{◌≡◌, ◌<◌, ℕ, List, [], ◌∷◌, length, take, ap, sym, subst, ◌∙◌, slice_set, arith}
use Rattle.std.proofs.lemmas.List.{get_or-set_same, get_or-set_other, length-take-le}
use Rattle.ic_arena.specs.declared.word.Word.{Word}
use Rattle.ic_arena.specs.declared.word.TheConstants.{FREE, IDLE}
use Rattle.ic_arena.specs.Word.{name_word}
use Rattle.ic_arena.specs.Piece.{waits}
use Rattle.ic_arena.specs.Tables.{Entries, Replaced, entry, names_pieces}
use Rattle.ic_arena.proofs.Found.{held_freed}
use Rattle.ic_arena.proofs.Front.{front_below, front_set}
use Rattle.ic_arena.proofs.Full.{some_used}
use Rattle.ic_arena.proofs.NamesPieces.{freed}
use Rattle.ic_arena.proofs.names.Names.free.Goals as goal

pub returns-clause-freed : goal.returns-clause-freed
returns-clause-freed c =
    let old = c.self.inside in
    let name : ℕ = c.args.name in
    let ws : List Word = take old.count old.entries.items in
    let mark : Word = record { tag = FREE; index = old.free } in
    let there : name < length ws = subst (λ (v : Entries). name < length v.entries) (sym c.self.view_is) c.requires.there in
    let waited : (entry ws name).tag < IDLE = subst (λ (v : Entries). (entry v.entries name).tag < IDLE) (sym c.self.view_is) c.requires.waits in
    let same = front_set old.count name old.entries.items mark (front_below old.count name old.entries.items there) in
    subst (λ (v : Entries). Replaced (waits (name_word name) (entry v.entries name) ∷ []) [] (names_pieces 0 v.entries)
    (names_pieces 0 (take old.count (slice_set old.entries.items name mark)))) c.self.view_is
    (subst (λ (l : List Word). Replaced (waits (name_word name) (entry ws name) ∷ []) [] (names_pieces 0 ws) (names_pieces 0 l))
    (sym same) (freed ws name old.free there waited))

pub invariant_of-self : goal.invariant_of-self
invariant_of-self c =
    let old = c.self.inside in
    let there = subst (λ (v : Entries). c.args.name < length v.entries) (sym c.self.view_is) c.requires.there in
    let waited = subst (λ (v : Entries). (entry v.entries c.args.name).tag < IDLE) (sym c.self.view_is) c.requires.waits in
    held_freed old.count old.unused old.entries.items old.free c.args.name c.self.invariant there (λ e. omega arith)

-- as a word waits for this name, fewer are free than there are
pub overflow_add-self : goal.overflow_add-self
overflow_add-self c =
    let old = c.self.inside in
    let ws : List Word = take old.count old.entries.items in
    let there = subst (λ (v : Entries). c.args.name < length v.entries) (sym c.self.view_is) c.requires.there in
    let waited = subst (λ (v : Entries). (entry v.entries c.args.name).tag < IDLE) (sym c.self.view_is) c.requires.waits in
    let most = some_used old.unused ws old.free c.args.name there (λ e. omega arith) c.self.invariant.found in
    let long = length-take-le old.count old.entries.items c.self.invariant.there in
    let all = c.self.invariant.there in
    omega (arith, most, long, all, old.entries.ok, old.entries.small)

pub returns-clause-is : goal.returns-clause-is
returns-clause-is c =
    let old = c.self.inside in
    let ws : List Word = take old.count old.entries.items in
    let mark : Word = record { tag = FREE; index = old.free } in
    let there = subst (λ (v : Entries). c.args.name < length v.entries) (sym c.self.view_is) c.requires.there in
    let same = front_set old.count c.args.name old.entries.items mark (front_below old.count c.args.name old.entries.items there) in
    ap (λ (l : List Word). (entry l c.args.name).tag) same
    ∙ ap (λ (w : Word). w.tag) (get_or-set_same ws c.args.name mark (record { tag = FREE; index = 0 }) there)

pub returns-clause-others : goal.returns-clause-others
returns-clause-others c = λ i apart.
    let old = c.self.inside in
    let ws : List Word = take old.count old.entries.items in
    let mark : Word = record { tag = FREE; index = old.free } in
    let there = subst (λ (v : Entries). c.args.name < length v.entries) (sym c.self.view_is) c.requires.there in
    let same = front_set old.count c.args.name old.entries.items mark (front_below old.count c.args.name old.entries.items there) in
    subst (λ (v : Entries). entry (take old.count (slice_set old.entries.items c.args.name mark)) i ≡ entry v.entries i) c.self.view_is
    (ap (λ (l : List Word). entry l i) same
    ∙ get_or-set_other ws c.args.name i mark (record { tag = FREE; index = 0 }) apart)
