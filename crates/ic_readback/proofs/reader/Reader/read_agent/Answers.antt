use Rattle.std.proofs.Common.{◌∙◌, [], List, reverse, refl, subst}
use Rattle.std.specs.Prelude.{Contains}
use Rattle.ic_arena.specs.declared.word.Word.{Word}
use Rattle.ic_arena.specs.Piece.{agent_of}
use Rattle.ic_machine.specs.Held.{Held, ArgumentsTaken}
use Rattle.ic_readback.specs.declared.reader.Reader.{Reader}
use Rattle.ic_readback.specs.inner.Expanding.{state}
use Rattle.ic_readback.specs.inner.Reading.{at_words}
use Rattle.ic_readback.proofs.Chains.{steps_pieces}
use Rattle.ic_readback.proofs.Moves.{agent_held}
use Rattle.ic_readback.proofs.Readers.{gather_agent, gather_same, taken_once}
use Rattle.ic_readback.proofs.reader.Reader.read_agent.Goals as goal

pub returns-in_ok-keep-clause-read : goal.returns-in_ok-keep-clause-read
returns-in_ok-keep-clause-read c =
    let old : Reader = c.args.self.now in
    let mid : Held = c.take_arguments.new.self in
    let a : Word = c.args.agent in
    let taken : ArgumentsTaken a old.places mid old.stack.items c.take_arguments.new.stack.items = c.in_ok-take_arguments.ensures.taken (cc c.if-branch.true) in
    gather_agent old c.expand_stack.new.self c.keep.new.self mid c.args.loose.now.items c.keep.new.loose.items a c.push.new.self.items c.take_arguments.new.stack.items c.requires.empty c.requires.none taken
    (λ vs moved. agent_held old.places.arities old.places.pieces mid.pieces a vs c.requires.held moved)
    c.in_ok-take_arguments.ensures.arities c.in_ok-push.ensures.items c.in_ok-expand_stack.ensures.steps
    c.in_ok-expand_stack.ensures.empty c.in_ok-expand_stack.ensures.arities c.in_ok-expand_stack.ensures.equations c.in_ok-keep.ensures

pub returns-in_ok-keep-clause-none : goal.returns-in_ok-keep-clause-none
returns-in_ok-keep-clause-none c = λ once vs there.
    let old : Reader = c.args.self.now in
    let mid : Held = c.take_arguments.new.self in
    let st : List Word = c.take_arguments.new.stack.items in
    taken_once c.args.agent old.places mid old.stack.items st vs (c.in_ok-take_arguments.ensures.taken (cc c.if-branch.true)) once
    (steps_pieces mid.arities (agent_of c.args.agent vs) (state c.push.new.self.items (reverse st) mid.pieces)
    (at_words [] c.expand_stack.new.self) c.in_ok-expand_stack.ensures.steps
    (subst (λ (h : Held). Contains h.pieces (agent_of c.args.agent vs)) c.in_ok-keep.ensures.places there))

pub returns-else-branch-clause-read : goal.returns-else-branch-clause-read
returns-else-branch-clause-read c =
    let old : Reader = c.args.self.now in
    let same = c.in_ok-take_arguments.ensures.same (cc c.if-branch.false) in
    gather_same old (record old { places = c.take_arguments.new.self; stack = c.take_arguments.new.stack }) c.args.loose.now.items same.0 c.requires.none refl (same.1 ∙ c.requires.empty)

pub returns-else-branch-clause-none : goal.returns-else-branch-clause-none
returns-else-branch-clause-none c = λ once vs there.
    let same = c.in_ok-take_arguments.ensures.same (cc c.if-branch.false) in
    c.in_ok-take_arguments.ensures.none (cc c.if-branch.false) vs (subst (λ (h : Held). Contains h.pieces (agent_of c.args.agent vs)) same.0 there)
