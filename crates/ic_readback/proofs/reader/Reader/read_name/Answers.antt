use Rattle.std.proofs.Common.{◌∷◌, [], refl, subst}
use Rattle.std.specs.Prelude.{Contains}
use Rattle.ic_arena.specs.declared.word.Word.{Word}
use Rattle.ic_arena.specs.Word.{name_word}
use Rattle.ic_arena.specs.Piece.{waits}
use Rattle.ic_machine.specs.Held.{Held}
use Rattle.ic_readback.specs.declared.reader.Reader.{Reader}
use Rattle.ic_readback.specs.inner.Reading.{Keeps}
use Rattle.ic_readback.proofs.Readers.{gather_name, gather_same, room_none, read_pieces}
use Rattle.ic_readback.proofs.reader.Reader.read_name.Goals as goal

pub returns-in_ok-keep-clause-read : goal.returns-in_ok-keep-clause-read
returns-in_ok-keep-clause-read c =
    let old : Reader = c.args.self.now in
    let mid : Reader = record { places = c.take_waiting.new.self; stack = old.stack; tokens = old.tokens; equations = old.equations } in
    let read : Reader = c.expand.new.self in
    let kept : Keeps (name_word c.args.index) read c.keep.new.self c.args.loose.now.items c.keep.new.loose.items =
    subst (λ (w : Word). Keeps w read c.keep.new.self c.args.loose.now.items c.keep.new.loose.items) c.name.ensures c.in_ok-keep.ensures in
    gather_name old mid read c.keep.new.self c.args.loose.now.items c.keep.new.loose.items c.args.index c.in-Some.word c.in-Some.ensures.taken c.take_waiting.ensures.arities
    c.requires.none refl c.in_ok-expand.ensures.equations c.in_ok-expand.ensures.read kept

pub returns-in_ok-keep-clause-none : goal.returns-in_ok-keep-clause-none
returns-in_ok-keep-clause-none c = λ u there.
    let old : Reader = c.args.self.now in
    let mid : Reader = record { places = c.take_waiting.new.self; stack = old.stack; tokens = old.tokens; equations = old.equations } in
    let x : Word = name_word c.args.index in
    room_none x u mid.places.pieces c.in-Some.ensures.free
    (read_pieces (waits x u) (c.in-Some.word ∷ []) mid c.expand.new.self c.in_ok-expand.ensures.read
    (subst (λ (h : Held). Contains h.pieces (waits x u)) c.in_ok-keep.ensures.places there))

pub returns-in_default-clause-read : goal.returns-in_default-clause-read
returns-in_default-clause-read c =
    let old : Reader = c.args.self.now in
    gather_same old (record old { places = c.take_waiting.new.self }) c.args.loose.now.items c.in_default.ensures.same c.requires.none refl c.requires.empty

pub returns-in_default-clause-none : goal.returns-in_default-clause-none
returns-in_default-clause-none c = λ u there.
    c.in_default.ensures.none u (subst (λ (h : Held). Contains h.pieces (waits (name_word c.args.index) u)) c.in_default.ensures.same there)
