use Rattle.std.proofs.Common.{ℕ, arith, subst}
use Rattle.std.specs.Prelude.{Contains}
use Rattle.ic_arena.specs.declared.word.Word.{Word}
use Rattle.ic_arena.specs.Word.{name_word}
use Rattle.ic_arena.specs.Piece.{waits}
use Rattle.ic_readback.specs.declared.reader.Reader.{Reader}
use Rattle.ic_readback.proofs.Readers.{no_gather, gather_on, gather_pieces, none_next}
use Rattle.ic_readback.proofs.reader.Reader.read_names.Goals as goal

pub loop-index-init : goal.loop-index-init
loop-index-init c = record { read = no_gather c.args.self.now c.args.loose.now.items c.requires.none c.requires.empty; none = λ j low. absurd (omega (arith, low)) }

pub loop-index-preserved : goal.loop-index-preserved
loop-index-preserved c =
    let mid : Reader = c.loop-index.self in
    let new : Reader = c.read_name.new.self in
    record {
      read = gather_on c.args.self.now mid new c.args.loose.now.items c.loop-index.loose.items c.read_name.new.loose.items c.loop-index.invariant.read c.in_ok-read_name.ensures.read;
      none = none_next (λ (j : ℕ). (u : Word) → ¬ Contains new.places.pieces (waits (name_word j) u)) c.loop-index.index
          (λ j low u there. c.loop-index.invariant.none j low u
          (gather_pieces (waits (name_word j) u) mid new c.loop-index.loose.items c.read_name.new.loose.items c.in_ok-read_name.ensures.read there))
          c.in_ok-read_name.ensures.none;
    }

pub returns-clause-none : goal.returns-clause-none
returns-clause-none c = λ x u there.
    let new : Reader = c.loop-index.self in
    let found = c.names-index-end.ensures.waiting x u
    (gather_pieces (waits x u) c.args.self.now new c.args.loose.now.items c.loop-index.loose.items c.loop-index.invariant.read there) in
    let low = found.1 in
    c.loop-index.invariant.none found.0 (omega (arith, low, c.loop-index-test.false)) u
    (subst (λ (w : Word). Contains new.places.pieces (waits w u)) found.2 there)
