use Rattle.std.proofs.Common.{◌∙◌, reverse, refl}
use Rattle.ic_readback.specs.inner.Expanding.{State, state, no_step}
use Rattle.ic_readback.proofs.Chains.{step_load}
use Rattle.ic_readback.proofs.Moves.{popped_step, steps_popped}
use Rattle.ic_readback.proofs.reader.Reader.expand_stack.Goals as goal

pub loop-word-init : goal.loop-word-init
loop-word-init c = record {
  steps = no_step (state c.args.self.now.tokens.items (reverse c.args.self.now.stack.items) c.args.self.now.places.pieces);
  arities = refl;
  equations = refl;
}

pub loop-word-smaller : goal.loop-word-smaller
loop-word-smaller c =
    let s : State = state c.loop-word.self.tokens.items (reverse c.loop-word.self.stack.items) c.loop-word.self.places.pieces in
    let t : State = state c.expand_word.new.self.tokens.items (reverse c.expand_word.new.self.stack.items) c.expand_word.new.self.places.pieces in
    step_load c.loop-word.self.places.arities s t
    (popped_step c.loop-word.self.places.arities c.loop-word.self.tokens.items c.in-Some.word c.loop-word.self.stack.items
    c.pop.new.self.items c.loop-word.self.places.pieces t c.in-Some.ensures.items c.in_ok-expand_word.ensures.step)

pub loop-word-preserved : goal.loop-word-preserved
loop-word-preserved c =
    let s : State = state c.args.self.now.tokens.items (reverse c.args.self.now.stack.items) c.args.self.now.places.pieces in
    let t : State = state c.expand_word.new.self.tokens.items (reverse c.expand_word.new.self.stack.items) c.expand_word.new.self.places.pieces in
    record {
      steps = steps_popped c.args.self.now.places.arities c.loop-word.self.places.arities s c.loop-word.self.tokens.items c.in-Some.word
          c.loop-word.self.stack.items c.pop.new.self.items c.loop-word.self.places.pieces t c.loop-word.invariant.arities
          c.in-Some.ensures.items c.loop-word.invariant.steps c.in_ok-expand_word.ensures.step;
      arities = c.in_ok-expand_word.ensures.arities ∙ c.loop-word.invariant.arities;
      equations = c.in_ok-expand_word.ensures.equations ∙ c.loop-word.invariant.equations;
    }
