use Rattle.std.proofs.Common.{ℕ, ◌<◌, List, [], ◌∷◌, ◌++◌, ap, sym, subst, ◌∙◌, arith}
use Rattle.ic_arena.specs.declared.word.Word.{Word}
use Rattle.ic_arena.specs.declared.word.TheConstants.{IDLE}
use Rattle.ic_arena.specs.Word.{name_word}
use Rattle.ic_arena.specs.Piece.{waits}
use Rattle.ic_arena.specs.Tables.{Replaced, names_pieces}
use Rattle.ic_machine.specs.Moving.{CutEnd}
use Rattle.ic_machine.specs.inner.Moving.{PacksName, followed}
use Rattle.ic_machine.proofs.Firings.{taken_first}
use Rattle.ic_machine.proofs.NameRooms.{has_entry}
use Rattle.ic_machine.proofs.Packing.{cuts_packed, waiting_word}
use Rattle.ic_machine.proofs.moving.pack_name.Goals as goal

pub get-waiting-requires : goal.get-waiting-requires
get-waiting-requires c = has_entry c.args.names.now.entries c.args.name c.requires.there

pub free-requires-clause-there : goal.free-requires-clause-there
free-requires-clause-there c = has_entry c.args.names.now.entries c.args.name c.requires.there

pub free-requires-clause-waits : goal.free-requires-clause-waits
free-requires-clause-waits c =
    subst (λ (v : Word). v.tag < IDLE) c.get-waiting.ensures
    (waiting_word c.args.names.now.entries c.args.name c.get-waiting.result c.requires.there c.get-waiting.ensures
    c.if-waiting.true (omega arith))

pub returns-then-waiting-clause-packed : goal.returns-then-waiting-clause-packed
returns-then-waiting-clause-packed c =
    let n : ℕ = c.args.name in
    let u : Word = c.get-waiting.result in
    let es : List Word = c.args.names.now.entries in
    let fs : List Word = c.free.new.self.entries in
    let bs : List CutEnd = c.args.borders.now.ends in
    let ws : List Word = c.args.parcel.now.words.items in
    let ss : List Word = c.args.parcel.now.stack.items in
    let gone = subst (λ (v : Word). Replaced (waits (name_word n) v ∷ []) [] (names_pieces 0 es) (names_pieces 0 fs))
    (sym c.get-waiting.ensures) c.free.ensures.freed in
    let stack = c.push_reserved.ensures.items ∙ ap (λ (l : List Word). l ++ u ∷ []) c.in_ok-reserve.ensures.items in
    subst (λ (l : List Word). PacksName n es fs bs bs ws ws ss l) (sym stack)
    (followed es fs bs ws ss u (taken_first (waits (name_word n) u ∷ []) (names_pieces 0 es) (names_pieces 0 fs) gone))

pub returns-clause-packed : goal.returns-clause-packed
returns-clause-packed c =
    let n : ℕ = c.args.name in
    let es : List Word = c.args.names.now.entries in
    let fs : List Word = c.cut_name.new.names.entries in
    let bs : List CutEnd = c.args.borders.now.ends in
    let cs : List CutEnd = c.cut_name.new.borders.ends in
    let ws : List Word = c.args.parcel.now.words.items in
    let ss : List Word = c.args.parcel.now.stack.items in
    let words = c.push_reserved-2.ensures.items ∙ ap (λ (l : List Word). l ++ name_word c.in_ok-cut.cut ∷ []) c.in_ok-reserve-2.ensures.items in
    subst (λ (l : List Word). PacksName n es fs bs cs ws l ss ss) (sym words)
    (cuts_packed n c.in_ok-cut.cut es fs bs cs ws ss c.in_ok-cut.ensures.cuts)
