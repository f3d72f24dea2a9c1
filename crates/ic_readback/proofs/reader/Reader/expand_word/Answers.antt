use Rattle.std.proofs.Common.{◌≡◌, ℕ, ◌-◌, List, reverse, slice_get, refl, ap, sym, ◌∙◌, arith}
use Rattle.ic_arena.specs.declared.word.Word.{Word}
use Rattle.ic_arena.specs.declared.word.TheConstants.{NAME}
use Rattle.ic_readback.specs.declared.token.Token.{Token}
use Rattle.ic_readback.proofs.Moves.{follow_step, open_step, plain_step, name_step, idle_name, unknown_name, agent_name, same_places, same_all}
use Rattle.ic_readback.proofs.reader.Reader.expand_word.Goals as goal

pub returns-in_ok-push-in-Some-clause-step : goal.returns-in_ok-push-in-Some-clause-step
returns-in_ok-push-in-Some-clause-step c =
    let tag : c.args.word.tag ≡ NAME = omega (arith, c.if-word-eq-NAME.true) in
    follow_step c.args.self.now.places.arities c.args.self.now.tokens.items c.args.word c.in-Some.waiting
    c.args.self.now.stack.items c.push.new.self.items c.args.self.now.places.pieces c.take_waiting.new.self.pieces
    tag c.in-Some.ensures.taken c.in_ok-push-in-Some.ensures.items

pub returns-in_ok-push-in-None-clause-step : goal.returns-in_ok-push-in-None-clause-step
returns-in_ok-push-in-None-clause-step c =
    let tag : c.args.word.tag ≡ NAME = omega (arith, c.if-word-eq-NAME.true) in
    let arities : List ℕ = c.args.self.now.places.arities in
    let w : Word = c.args.word in
    let ws : List Word = reverse c.args.self.now.stack.items in
    let ts : List Token = c.args.self.now.tokens.items in
    let new : List Token = c.push-in-None.new.self.items in
    same_places arities ts new w ws ws c.args.self.now.places c.take_waiting.new.self c.in-None.ensures.same
    (name_step arities ts new w ws c.args.self.now.places.pieces
    (idle_name arities w c.args.self.now.places.pieces tag c.in-None.ensures.none) c.in_ok-push-in-None.ensures.items)

pub returns-in_ok-push-clause-step : goal.returns-in_ok-push-clause-step
returns-in_ok-push-clause-step c =
    let arities : List ℕ = c.args.self.now.places.arities in
    let w : Word = c.args.word in
    name_step arities c.args.self.now.tokens.items c.push-then-symbols-word.new.self.items w
    (reverse c.args.self.now.stack.items) c.args.self.now.places.pieces
    (unknown_name arities w c.args.self.now.places.pieces (λ e. absurd (omega (arith, e, c.if-word-eq-NAME.false)))
    (omega (arith, c.if-symbols-word.true, c.symbols.ensures.count)) c.symbols.ensures.held) c.in_ok-push.ensures.items

pub returns-in_ok-push-2-clause-step : goal.returns-in_ok-push-2-clause-step
returns-in_ok-push-2-clause-step c =
    open_step c.args.self.now.tokens.items c.push-then-branch.new.self.items c.args.word
    c.args.self.now.stack.items c.take_arguments.new.stack.items c.args.self.now.places c.take_arguments.new.self
    (c.in_ok-take_arguments.ensures.taken (cc c.if-branch.true)) c.symbols.ensures.held c.in_ok-push-2.ensures.items

pub returns-in_ok-push-3-clause-step : goal.returns-in_ok-push-3-clause-step
returns-in_ok-push-3-clause-step c =
    let arities : List ℕ = c.args.self.now.places.arities in
    let w : Word = c.args.word in
    let ts : List Token = c.args.self.now.tokens.items in
    let new : List Token = c.push-then-is_plain.new.self.items in
    let same = c.in_ok-take_arguments.ensures.same (cc c.if-branch.false) in
    same_all arities ts new w c.args.self.now.stack.items c.take_arguments.new.stack.items c.args.self.now.places c.take_arguments.new.self same.0 same.1
    (plain_step arities ts new w (reverse c.args.self.now.stack.items) c.args.self.now.places.pieces
    (λ e. absurd (omega (arith, e, c.if-word-eq-NAME.false)))
    (ap (λ (a : List ℕ). slice_get a (w.tag - 1)) (sym c.in_ok-take_arguments.ensures.arities) ∙ c.if-is_plain.ensures.plain refl) c.in_ok-push-3.ensures.items)

pub returns-in_ok-push-4-clause-step : goal.returns-in_ok-push-4-clause-step
returns-in_ok-push-4-clause-step c =
    let arities : List ℕ = c.args.self.now.places.arities in
    let w : Word = c.args.word in
    let ts : List Token = c.args.self.now.tokens.items in
    let new : List Token = c.push-else-is_plain.new.self.items in
    let same = c.in_ok-take_arguments.ensures.same (cc c.if-branch.false) in
    same_all arities ts new w c.args.self.now.stack.items c.take_arguments.new.stack.items c.args.self.now.places c.take_arguments.new.self same.0 same.1
    (name_step arities ts new w (reverse c.args.self.now.stack.items) c.args.self.now.places.pieces
    (agent_name arities w c.args.self.now.places.pieces (λ e. absurd (omega (arith, e, c.if-word-eq-NAME.false)))
    (λ low. absurd (omega (arith, low, c.if-symbols-word.false, c.symbols.ensures.count)))
    (λ e. c.if-is_plain.ensures.other refl (ap (λ (a : List ℕ). slice_get a (w.tag - 1)) c.in_ok-take_arguments.ensures.arities ∙ e))
    (c.in_ok-take_arguments.ensures.none (cc c.if-branch.false))) c.in_ok-push-4.ensures.items)
