use Rattle.std.proofs.Common.{◌≡◌, ℕ, ◌+◌, List, length, arith}
use Rattle.std.specs.Prelude.{Contains}
use Rattle.std.proofs.lemmas.Option.{slice_get_within}
use Rattle.ic_arena.specs.declared.word.Word.{Word}
use Rattle.ic_arena.specs.Piece.{agent_of}
use Rattle.ic_machine.specs.Held.{IsTagOf, IsHeld}
use Rattle.ic_readback.specs.declared.reader.Reader.{Reader}
use Rattle.ic_readback.proofs.Moves.{all_there}
use Rattle.ic_readback.proofs.Readers.{no_gather, gather_on, gather_pieces, gather_once, gather_held, none_next}
use Rattle.ic_readback.proofs.reader.Reader.read_agents.Goals as goal

pub loop-symbol-init : goal.loop-symbol-init
loop-symbol-init c = record { read = no_gather c.args.self.now c.args.loose.now.items c.requires.none c.requires.empty; none = λ once s low. absurd (omega (arith, low)) }

pub read_agents_of-requires-clause-held : goal.read_agents_of-requires-clause-held
read_agents_of-requires-clause-held c =
    gather_held c.args.self.now c.loop-symbol.self c.args.loose.now.items c.loop-symbol.loose.items c.loop-symbol.invariant.read c.symbols-symbol-end.ensures.held

pub loop-symbol-preserved : goal.loop-symbol-preserved
loop-symbol-preserved c =
    let old : Reader = c.args.self.now in
    let mid : Reader = c.loop-symbol.self in
    let new : Reader = c.read_agents_of.new.self in
    record {
      read = gather_on old mid new c.args.loose.now.items c.loop-symbol.loose.items c.read_agents_of.new.loose.items c.loop-symbol.invariant.read c.in_ok-read_agents_of.ensures.read;
      none = λ once. none_next (λ (s : ℕ). (a : Word) (vs : List Word) → a.tag ≡ s + 1 → ¬ Contains new.places.pieces (agent_of a vs)) c.loop-symbol.symbol
          (λ s low a vs tag there. c.loop-symbol.invariant.none once s low a vs tag
          (gather_pieces (agent_of a vs) mid new c.loop-symbol.loose.items c.read_agents_of.new.loose.items c.in_ok-read_agents_of.ensures.read there))
          (c.in_ok-read_agents_of.ensures.none (gather_once old mid c.args.loose.now.items c.loop-symbol.loose.items c.loop-symbol.invariant.read once));
    }

pub returns-clause-none : goal.returns-clause-none
returns-clause-none c = λ once a vs there.
    let old : Reader = c.args.self.now in
    let new : Reader = c.loop-symbol.self in
    let is : IsTagOf old.places.arities a.tag (length vs) =
    all_there (IsHeld old.places.arities) old.places.pieces (agent_of a vs) c.symbols-symbol-end.ensures.held
    (gather_pieces (agent_of a vs) old new c.args.loose.now.items c.loop-symbol.loose.items c.loop-symbol.invariant.read there) in
    let low = slice_get_within old.places.arities is.symbol (length vs) is.known in
    c.loop-symbol.invariant.none once is.symbol (omega (arith, low, c.loop-symbol-test.false, c.symbols-symbol-end.ensures.count)) a vs is.is there

pub returns-clause-held : goal.returns-clause-held
returns-clause-held c = gather_held c.args.self.now c.loop-symbol.self c.args.loose.now.items c.loop-symbol.loose.items c.loop-symbol.invariant.read c.symbols-symbol-end.ensures.held
