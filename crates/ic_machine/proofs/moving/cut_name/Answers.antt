use Rattle.std.proofs.Common.{ℕ, ◌<◌, List, [], ◌∷◌, sym, subst, arith}
use Rattle.ic_arena.specs.declared.word.Word.{Word}
use Rattle.ic_arena.specs.declared.word.TheConstants.{GIVEN, IDLE}
use Rattle.ic_arena.specs.Word.{name_word}
use Rattle.ic_arena.specs.Piece.{idle, waits}
use Rattle.ic_arena.specs.Tables.{Replaced, names_pieces}
use Rattle.ic_machine.specs.inner.Moving.{begins, finishes}
use Rattle.ic_machine.proofs.Packing.{freed_then, put_entry, removed_worth}
use Rattle.ic_machine.proofs.moving.cut_name.Goals as goal

-- what is put for a moment
abbrev mark : Word
mark = record { tag = GIVEN; index = 0 }

pub free-requires-clause-waits : goal.free-requires-clause-waits
free-requires-clause-waits c =
    subst (λ (w : Word). w.tag < IDLE)
    (sym (put_entry c.args.names.now.entries c.put.new.self.entries c.args.name mark c.put.ensures.put)) (omega arith)

pub returns-in_default-clause-cuts : goal.returns-in_default-clause-cuts
returns-in_default-clause-cuts c =
    begins c.args.names.now.entries c.args.borders.now.ends c.add_new.new.self.ends c.in_ok-cut.ensures.added

pub returns-clause-cuts : goal.returns-clause-cuts
returns-clause-cuts c =
    let n : ℕ = c.args.name in
    let es : List Word = c.args.names.now.entries in
    let ms : List Word = c.put.new.self.entries in
    let fs : List Word = c.free.new.self.entries in
    let gone = subst (λ (w : Word). Replaced (waits (name_word n) w ∷ []) [] (names_pieces 0 ms) (names_pieces 0 fs))
    (put_entry es ms n mark c.put.ensures.put) c.free.ensures.freed in
    finishes es fs c.args.borders.now.ends c.remove.new.self.ends
    (freed_then (idle (name_word n)) (waits (name_word n) mark) (names_pieces 0 es) (names_pieces 0 ms) (names_pieces 0 fs) c.put.ensures.put gone)
    c.remove.ensures.removed

pub returns-clause-worth : goal.returns-clause-worth
returns-clause-worth c = λ k.
    removed_worth k c.in-Some.cut c.args.name c.args.borders.now c.remove.new.self c.remove.ensures.removed c.remove.ensures.numbers
