use Rattle.std.proofs.Common.{ℕ, List, arith, subst}
use Rattle.std.specs.Prelude.{Contains}
use Rattle.ic_arena.specs.declared.word.Word.{Word}
use Rattle.ic_arena.specs.Word.{agent_word}
use Rattle.ic_arena.specs.Piece.{agent_of}
use Rattle.ic_readback.specs.declared.reader.Reader.{Reader}
use Rattle.ic_readback.proofs.Readers.{no_gather, gather_on, gather_pieces, gather_once, gather_held, none_next, agent_is}
use Rattle.ic_readback.proofs.reader.Reader.read_agents_of.Goals as goal

pub loop-index-init : goal.loop-index-init
loop-index-init c = record { read = no_gather c.args.self.now c.args.loose.now.items c.requires.none c.requires.empty; none = λ once j low. absurd (omega (arith, low)) }

pub read_agent-requires-clause-held : goal.read_agent-requires-clause-held
read_agent-requires-clause-held c = gather_held c.args.self.now c.loop-index.self c.args.loose.now.items c.loop-index.loose.items c.loop-index.invariant.read c.requires.held

pub loop-index-preserved : goal.loop-index-preserved
loop-index-preserved c =
    let old : Reader = c.args.self.now in
    let mid : Reader = c.loop-index.self in
    let new : Reader = c.read_agent.new.self in
    let s : ℕ = c.args.symbol in
    record {
      read = gather_on old mid new c.args.loose.now.items c.loop-index.loose.items c.read_agent.new.loose.items c.loop-index.invariant.read c.in_ok-read_agent.ensures.read;
      none = λ once. none_next (λ (j : ℕ). (vs : List Word) → ¬ Contains new.places.pieces (agent_of (agent_word s j) vs)) c.loop-index.index
          (λ j low vs there. c.loop-index.invariant.none once j low vs
          (gather_pieces (agent_of (agent_word s j) vs) mid new c.loop-index.loose.items c.read_agent.new.loose.items c.in_ok-read_agent.ensures.read there))
          (λ vs. subst (λ (w : Word). ¬ Contains new.places.pieces (agent_of w vs)) c.agent.ensures
          (c.in_ok-read_agent.ensures.none (gather_once old mid c.args.loose.now.items c.loop-index.loose.items c.loop-index.invariant.read once) vs));
    }

pub returns-clause-none : goal.returns-clause-none
returns-clause-none c = λ once a vs tag there.
    let new : Reader = c.loop-index.self in
    let low = c.agents-index-end.ensures.held a vs tag
    (gather_pieces (agent_of a vs) c.args.self.now new c.args.loose.now.items c.loop-index.loose.items c.loop-index.invariant.read there) in
    c.loop-index.invariant.none once a.index (omega (arith, low, c.loop-index-test.false)) vs
    (subst (λ (w : Word). Contains new.places.pieces (agent_of w vs)) (agent_is a c.args.symbol tag) there)
