use Rattle.std.proofs.Common.{◌≡◌, ◌⊎◌, ⊎_elim, inl, inr, ◌∙◌, ℕ, ◌≤◌, Option, None, Some, refl, sym, ap, arith, max}
use Rattle.std.proofs.lemmas.Result.{err_from_is_err_and}
use Rattle.ic_rules.specs.System.{SystemParts}
use Rattle.ic_state.specs.State.{IsKept, Kept, kept_by}
use Rattle.ic_state.specs.declared.state.State.{State}
use Rattle.ic_in_place.specs.declared.running.End.TheVariants.{Quiet, Steps}
use Rattle.ic_keeping.specs.inner.Pieces.{ComesTogether}
use Rattle.ic_keeping.specs.Life.{IsStartOf}
use Rattle.ic_keeping.specs.Way.{AreAlike, IsReachedFrom}
use Rattle.ic_keeping.proofs.ByRounds.{alike_of, by_order}
use Rattle.ic_keeping.proofs.GoingLemmas.{HasKept, IsEndOf, as_far_as, begins, end_by_rounds, goes_on_so, keeps_on, no_fewer_told, run_is, stops_for_memory, stops_in_keep, stops_in_piece, way_of, way_refused}
use Rattle.ic_keeping.proofs.Refusing.{fails_on, ready_on, tells_of_limit, tells_of_memory, tells_of_piece, tells_of_run}
use Rattle.ic_keeping.proofs.WayLemmas.{past_count}
use Rattle.ic_keeping.proofs.going.Run.go_on.Goals as goal
use Rattle.ic_keeping.proofs.going.Run.go_on.Goals.{In_ok-run, In_ok-now_ended}

-- a piece goes on from where the one before it came to
onward_here : (g : _) (c : In_ok-run g) (s : SystemParts) (k : Kept) → IsStartOf s c.args.start → IsReachedFrom s k (kept_by c.loop-pieces.state) → IsReachedFrom s k (kept_by c.run_piece.new.state)
onward_here g c s k is from = (c.in_ok-run.ensures.further s k is.rules from).0

-- and nothing is left that could be put for a name
together_here : (g : _) (c : In_ok-run g) (s : SystemParts) → IsStartOf s c.args.start → ComesTogether s (kept_by c.args.start.state) (kept_by c.run_piece.new.state)
together_here g c s is = (c.in_ok-run.ensures.further s (kept_by c.args.start.state) is.rules (c.loop-pieces.invariant.from s is)).1

-- both states go by rounds, where no round was broken off, or neither does
alike_here : (g : _) (c : In_ok-run g) → (c.loop-pieces.state.rounds ≡ None) ⊎ ((n : ℕ) × (c.run_piece.new.state.rounds ≡ Some n)) → AreAlike c.loop-pieces.state.rounds c.run_piece.new.state.rounds
alike_here g c whole =
    let piece = c.in_ok-run.ensures.piece in
    alike_of c.loop-pieces.state.rounds c.run_piece.new.state.rounds piece.any (λ m n before after. (piece.more m n before after).0) whole

-- what a piece has come to is an answer
end_here : (g : _) (c : In_ok-run g) (s : SystemParts) (told : Option ℕ) → IsStartOf s c.args.start
    → (c.run_piece.new.state.rounds ≡ None → c.in_ok-run.run'.end ≡ Steps → c.loop-pieces.state.rounds ≡ None → c.args.self.now.bounds.steps ≤ c.run_piece.new.state.interactions)
    → ((n : ℕ) → c.run_piece.new.state.rounds ≡ Some n → c.in_ok-run.run'.end ≡ Steps → c.args.self.now.rounds ≤ n)
    → ((c.in_ok-run.run'.end ≡ Quiet) ⊎ (c.in_ok-run.run'.end ≡ Steps) → told ≡ c.in_ok-run.run'.rounds)
    → (c.in_ok-run.run'.rounds ≡ None → told ≡ None)
    → ((n : ℕ) → c.in_ok-run.run'.rounds ≡ Some n → (told ≡ Some n) ⊎ ((told ≡ Some 0) × (c.run_piece.new.state.interactions ≡ 0)))
    → IsEndOf s c.args.self.now.bounds c.args.self.now.rounds (kept_by c.args.start.state) told c.in_ok-run.run'.end c.run_piece.new.state
end_here g c s told is steps all between untold some =
    let first = kept_by c.args.start.state in
    let from = c.loop-pieces.invariant.from s is in
    let run = c.in_ok-run.ensures in
    let onward = onward_here g c s first is from in
    by_order c.args.start.state.rounds
    (λ any.
    let now = c.loop-pieces.invariant.any any in
    let answer = run.answer s c.args.self.now.bounds is.rules from.is now.0 (omega (arith, c.bounds_after-bounds.ensures.left)) (λ at_steps. steps (run.piece.any now.0) at_steps now.0) in
    record { within = c.args.self.now.bounds; bounded = λ same. refl; answer = answer; onward = onward; by_rounds = λ made by. absurd (cc (sym any ∙ by)); no_fewer = λ made n by here. absurd (cc (sym any ∙ by)); any_order = λ same. untold (run.piece.untold now.0); between = λ made by. absurd (cc (sym any ∙ by)) })
    (λ m by.
    let now = c.loop-pieces.invariant.rounds m by in
    let answer = run.by_rounds s now.0 is.rules from.is now.1 in
    let piece = answer.2 in
    let reached = λ (at_steps : c.in_ok-run.run'.end ≡ Steps). by_order c.run_piece.new.state.rounds
    (λ none. piece.all at_steps none)
    (λ n here. omega (arith, all n here at_steps, piece.same n here)) in
    record {
      within = answer.0;
      bounded = λ none. absurd (cc (sym by ∙ none));
      answer = answer.1;
      onward = onward;
      by_rounds = λ made same. end_by_rounds s c.args.self.now.rounds (max c.args.self.now.rounds made) c.in_ok-run.run'.end answer.1.answer c.run_piece.new.state.interactions c.run_piece.new.state.by_rule.items told c.in_ok-run.run'.rounds
          piece.rounds piece.told (omega (arith, piece.within, c.loop-pieces.invariant.few s is made now.0 same now.1)) between some piece.net piece.needed reached piece.fired;
      no_fewer = λ made n same here.
          let one : m ≡ made = cc (sym by ∙ same) in
          no_fewer_told told made piece.rounds n c.run_piece.new.state.interactions c.in_ok-run.run'.end (some piece.rounds piece.told) (λ either. between either ∙ piece.told)
          (omega (arith, one, now.2, piece.later)) here;
      any_order = λ none. absurd (cc (sym by ∙ none));
      between = λ made same low either.
          piece.between (c.loop-pieces.invariant.below made now.0 same now.1 low) either ∙ sym (between either ∙ piece.told);
    })

-- and a state is kept that goes as far
kept_here : (g : _) (c : In_ok-now_ended g) (s : SystemParts) → IsStartOf s c.args.start → IsKept (kept_by c.args.start.state) → AreAlike c.loop-pieces.state.rounds c.run_piece.new.state.rounds
    → ((k : Kept) → IsReachedFrom s k (kept_by c.loop-pieces.state) → IsReachedFrom s k (kept_by c.run_piece.new.state))
    → HasKept g.D.Disk.keeps g.D.Disk.image g.D.Disk.clock g.D.Disk.left s (kept_by c.args.start.state) c.args.keeper.now (kept_by c.run_piece.new.state) c.in_ok-now_ended.now_ended c.keep_further.new.keeper
kept_here g c s is is_kept alike onward =
    let disk = g.D.Disk in
    let new = kept_by c.run_piece.new.state in
    let has = c.loop-pieces.invariant.kept s is is_kept in
    let further = onward has.kept has.onward in
    keeps_on disk.keeps disk.image disk.clock disk.left s (kept_by c.args.start.state) c.args.keeper.now (kept_by c.loop-pieces.state) new c.loop-pieces.kept_ended c.in_ok-now_ended.now_ended c.loop-pieces.keeper c.keep_further.new.keeper
    has further (c.states_are_reached.ensures s new further.is) c.in_ok-run.ensures.piece.stays c.in_ok-now_ended.ensures.kept alike

pub loop-pieces-init : goal.loop-pieces-init
loop-pieces-init g c = record {
  least = omega arith;
  any = λ any. (any, omega arith, omega arith);
  rounds = λ m by. (m, by, omega arith, inl refl);
  few = λ s is m n by now. let same : m ≡ n = cc (sym by ∙ now) in omega (arith, same);
  below = λ m n by now low. let same : m ≡ n = cc (sym by ∙ now) in omega (arith, same, low);
  millis = omega arith;
  sound = inl refl;
  ready = inl refl;
  from = λ s is. c.states_are_reached.ensures s (kept_by c.args.start.state) is.state;
  together = λ s is. inl refl;
  kept = λ s is is_kept. begins g.D.Disk.keeps g.D.Disk.image g.D.Disk.clock g.D.Disk.left s (kept_by c.args.start.state) c.args.keeper.now is_kept (c.states_are_reached.ensures s (kept_by c.args.start.state) is.state);
}

pub loop-pieces-preserved : goal.loop-pieces-preserved
loop-pieces-preserved g c =
    let at = goal.at.loop-pieces-preserved g c in
    let piece = c.in_ok-run.ensures.piece in
    let bounds = c.bounds_after-bounds.ensures in
    record {
      least = omega (arith, c.loop-pieces.invariant.least, piece.later);
      any = λ any.
          let was = c.loop-pieces.invariant.any any in
          let now = piece.any was.0 in
          let on = c.ends_run.ensures.goes_on c.if-ends_run.false in
          let steps = piece.steps was.0 on.0 in
          (now, omega (arith, was.1, bounds.some (omega (arith, on.1 now, steps)), steps), omega (arith, was.2, piece.within was.0, bounds.left));
      rounds = λ m by.
          let was = c.loop-pieces.invariant.rounds m by in
          let on = c.ends_run.ensures.goes_on c.if-ends_run.false in
          ⊎_elim
          (λ none. absurd (cc (sym was.1 ∙ none)))
          (λ some. (
            some.0,
            some.1,
            omega (arith, was.2, (piece.more was.0 some.0 was.1 some.1).1 on.0),
            inr (c.ends_run.ensures.more some.0 c.if-ends_run.false some.1),
          ))
          (c.is_broken.ensures.whole c.if-is_broken.false);
      few = λ s is m n by now.
          let was = c.loop-pieces.invariant.rounds m by in
          let answer = c.in_ok-run.ensures.by_rounds s was.0 is.rules (c.loop-pieces.invariant.from s is).is was.1 in
          omega (arith, answer.2.within, answer.2.same n now, c.loop-pieces.invariant.few s is m was.0 by was.1);
      below = λ m n by now low. c.ends_run.ensures.less n c.if-ends_run.false now;
      millis = omega (arith, c.loop-pieces.invariant.millis, piece.millis);
      sound = inr piece.written;
      ready = ready_on c.args.keeper.now c.loop-pieces.keeper c.keep_further.new.keeper c.loop-pieces.invariant.ready c.in_ok-now_ended.ensures.ready;
      from = λ s is. onward_here g at.In_ok-run s (kept_by c.args.start.state) is (c.loop-pieces.invariant.from s is);
      together = λ s is. inr (together_here g at.In_ok-run s is);
      kept = λ s is is_kept. kept_here g at.In_ok-now_ended s is is_kept (alike_here g at.In_ok-run (c.is_broken.ensures.whole c.if-is_broken.false)) (λ k. onward_here g at.In_ok-run s k is);
    }

pub returns-in_err-run-clause-way : goal.returns-in_err-run-clause-way
returns-in_err-run-clause-way g c s is is_kept =
    let disk = g.D.Disk in
    way_of disk.keeps disk.image disk.clock disk.left s (kept_by c.args.start.state) c.args.keeper.now (kept_by c.loop-pieces.state) c.loop-pieces.kept_ended c.loop-pieces.keeper (c.loop-pieces.invariant.kept s is is_kept)

pub returns-in_err-run-clause-refused : goal.returns-in_err-run-clause-refused
returns-in_err-run-clause-refused g c s is =
    let first = kept_by c.args.start.state in
    let from = c.loop-pieces.invariant.from s is in
    let e = err_from_is_err_and c.from_residual.result c.from_residual.ensures.1 in
    rw (e.1, e.2) (stops_in_piece s first c.loop-pieces.state c.in_err-run.field-0.0 (c.states_are_reached.ensures s first is.state) (c.loop-pieces.invariant.together s is) (c.in_err-run.ensures.refused s first is.rules from))

pub returns-in_err-run-clause-tells : goal.returns-in_err-run-clause-tells
returns-in_err-run-clause-tells g c =
    let e = err_from_is_err_and c.from_residual.result c.from_residual.ensures.1 in
    rw (e.1, e.2) (tells_of_piece c.args.keeper.now c.loop-pieces.keeper c.in_err-run.field-0.0 c.in_err-run.ensures.only
    (λ same. ⊎_elim (λ stayed. stayed) (λ written. absurd (c.in_err-run.ensures.sound written same)) c.loop-pieces.invariant.sound))

pub returns-in_err-now_ended-clause-way : goal.returns-in_err-now_ended-clause-way
returns-in_err-now_ended-clause-way g c s is is_kept =
    let at = goal.at.returns-in_err-now_ended-clause-way g c in
    let disk = g.D.Disk in
    let has = c.loop-pieces.invariant.kept s is is_kept in
    way_refused disk.keeps disk.image disk.clock disk.left s (kept_by c.args.start.state) c.args.keeper.now (kept_by c.loop-pieces.state) (kept_by c.run_piece.new.state) c.loop-pieces.kept_ended c.loop-pieces.keeper c.keep_further.new.keeper has
    (onward_here g at.In_ok-run s has.kept is has.onward) c.in_err-now_ended.ensures.crash (alike_here g at.In_ok-run (c.is_broken.ensures.whole c.if-is_broken.false))

pub returns-in_err-now_ended-clause-refused : goal.returns-in_err-now_ended-clause-refused
returns-in_err-now_ended-clause-refused g c s is =
    let at = goal.at.returns-in_err-now_ended-clause-refused g c in
    let first = kept_by c.args.start.state in
    let e = err_from_is_err_and c.from_residual-in_err-now_ended.result c.from_residual-in_err-now_ended.ensures.1 in
    rw (e.1, e.2) (stops_in_keep s first c.run_piece.new.state c.in_err-now_ended.field-0.0 (c.states_are_reached.ensures s first is.state) (together_here g at.In_ok-run s is) c.in_ok-run.ensures.piece.numbered
    c.in_err-now_ended.ensures.refused c.in_err-now_ended.ensures.limit)

pub returns-in_err-now_ended-clause-tells : goal.returns-in_err-now_ended-clause-tells
returns-in_err-now_ended-clause-tells g c =
    let e = err_from_is_err_and c.from_residual-in_err-now_ended.result c.from_residual-in_err-now_ended.ensures.1 in
    rw (e.1, e.2) (tells_of_run c.args.keeper.now c.keep_further.new.keeper c.in_err-now_ended.field-0.0 c.in_err-now_ended.ensures.refused
    (λ cause same. fails_on cause c.args.keeper.now c.loop-pieces.keeper c.keep_further.new.keeper c.loop-pieces.invariant.ready (c.in_err-now_ended.ensures.failed cause same)))

pub returns-in_err-ended-clause-way : goal.returns-in_err-ended-clause-way
returns-in_err-ended-clause-way g c s is is_kept =
    let at = goal.at.returns-in_err-ended-clause-way g c in
    let disk = g.D.Disk in
    let now = kept_here g at.In_ok-now_ended s is is_kept (alike_here g at.In_ok-run (c.is_broken.ensures.whole c.if-is_broken.false)) (λ k. onward_here g at.In_ok-run s k is) in
    way_of disk.keeps disk.image disk.clock disk.left s (kept_by c.args.start.state) c.args.keeper.now (kept_by c.run_piece.new.state) c.in_ok-now_ended.now_ended c.keep_further.new.keeper now

pub returns-in_err-ended-clause-refused : goal.returns-in_err-ended-clause-refused
returns-in_err-ended-clause-refused g c s is =
    let e = err_from_is_err_and c.from_residual-in_err-ended.result c.from_residual-in_err-ended.ensures.1 in
    rw (e.1, e.2) (stops_for_memory s (kept_by c.args.start.state) c.in_err-ended.field-0.0 c.in_err-ended.ensures.refused)

pub returns-in_err-ended-clause-tells : goal.returns-in_err-ended-clause-tells
returns-in_err-ended-clause-tells g c =
    let e = err_from_is_err_and c.from_residual-in_err-ended.result c.from_residual-in_err-ended.ensures.1 in
    rw (e.1, e.2) (tells_of_memory c.args.keeper.now c.keep_further.new.keeper c.in_err-ended.field-0.0 c.in_err-ended.ensures.refused)

pub returns-then-ends_run-clause-way : goal.returns-then-ends_run-clause-way
returns-then-ends_run-clause-way g c s is is_kept =
    let at = goal.at.returns-then-ends_run-clause-way g c in
    let disk = g.D.Disk in
    let now = kept_here g at.In_ok-now_ended s is is_kept (alike_here g at.In_ok-run (c.is_broken.ensures.whole c.if-is_broken.false)) (λ k. onward_here g at.In_ok-run s k is) in
    way_of disk.keeps disk.image disk.clock disk.left s (kept_by c.args.start.state) c.args.keeper.now (kept_by c.run_piece.new.state) c.in_ok-now_ended.now_ended c.keep_further.new.keeper now

pub returns-then-ends_run-clause-kept : goal.returns-then-ends_run-clause-kept
returns-then-ends_run-clause-kept g c s is is_kept began = λ between.
    let at = goal.at.returns-then-ends_run-clause-kept g c in
    let now = kept_here g at.In_ok-now_ended s is is_kept (alike_here g at.In_ok-run (c.is_broken.ensures.whole c.if-is_broken.false)) (λ k. onward_here g at.In_ok-run s k is) in
    as_far_as g.D.Disk s (kept_by c.args.start.state) c.args.keeper.now c.keep_further.new.keeper c.run_piece.new.state c.in_ok-now_ended.now_ended c.in_ok-ended.ended c.in_ok-ended.ensures.state now began

pub returns-then-ends_run-clause-answer : goal.returns-then-ends_run-clause-answer
returns-then-ends_run-clause-answer g c s is =
    let at = goal.at.returns-then-ends_run-clause-answer g c in
    let told = c.in_ok-ended.ensures in
    run_is s c.args.self.now.bounds c.args.self.now.rounds c.args.self.now.asked (kept_by c.args.start.state) c.run_piece.new.state c.in_ok-run.run'.end c.in_ok-ended.ended told.state told.end
    (told.told s is.rules)
    (end_here g at.In_ok-run s c.in_ok-ended.ended.rounds is
    (λ none at_steps before. c.ends_run.ensures.ended c.if-ends_run.true at_steps none)
    (λ n here at_steps. c.ends_run.ensures.all n c.if-ends_run.true at_steps here)
    told.between told.any told.rounds)

pub returns-then-is_broken-clause-answer : goal.returns-then-is_broken-clause-answer
returns-then-is_broken-clause-answer g c s is =
    let at = goal.at.returns-then-is_broken-clause-answer g c in
    let told = c.in_ok-cut.ensures in
    let broken = c.is_broken.ensures.broken c.if-is_broken.true in
    run_is s c.args.self.now.bounds c.args.self.now.rounds c.args.self.now.asked (kept_by c.args.start.state) c.run_piece.new.state c.in_ok-run.run'.end c.in_ok-cut.cut told.state told.end
    (told.told s is.rules)
    (end_here g at.In_ok-run s c.in_ok-cut.cut.rounds is
    (λ none at_steps before. absurd (cc (sym before ∙ broken.1.1)))
    (λ n here at_steps. absurd (cc (sym here ∙ broken.0)))
    told.between told.any told.rounds)

-- it goes by rounds, and what it has reached is within one
within_here : (g : _) (c : In_ok-run g) → (c.loop-pieces.state.rounds ≡ None → ⊥) → c.args.start.state.rounds ≡ None → ⊥
within_here g c other any = other (c.loop-pieces.invariant.any any).0

pub returns-then-is_broken-clause-kept : goal.returns-then-is_broken-clause-kept
returns-then-is_broken-clause-kept g c s is is_kept began = λ between.
    let at = goal.at.returns-then-is_broken-clause-kept g c in
    let broken = c.is_broken.ensures.broken c.if-is_broken.true in
    ⊎_elim
    (λ any. absurd (within_here g at.In_ok-run (λ none. cc (sym none ∙ broken.1.1)) any))
    (λ some. absurd (cc (sym some.1 ∙ (ap (λ (x : State). x.rounds) c.in_ok-cut.ensures.state ∙ broken.0))))
    between

pub returns-then-is_broken-clause-way : goal.returns-then-is_broken-clause-way
returns-then-is_broken-clause-way g c s is is_kept =
    let disk = g.D.Disk in
    way_of disk.keeps disk.image disk.clock disk.left s (kept_by c.args.start.state) c.args.keeper.now (kept_by c.loop-pieces.state) c.loop-pieces.kept_ended c.loop-pieces.keeper (c.loop-pieces.invariant.kept s is is_kept)

pub returns-then-is_broken-clause-on : goal.returns-then-is_broken-clause-on
returns-then-is_broken-clause-on g c =
    let at = goal.at.returns-then-is_broken-clause-on g c in
    let piece = c.in_ok-run.ensures.piece in
    let told = c.in_ok-cut.ensures in
    let broken = c.is_broken.ensures.broken c.if-is_broken.true in
    goes_on_so c.args.self.now.bounds c.args.start.state c.run_piece.new.state c.in_ok-run.run'.end c.in_ok-cut.cut told.state told.end
    (record {
      later = omega (arith, c.loop-pieces.invariant.least, piece.later);
      within = λ any. absurd (within_here g at.In_ok-run (λ none. cc (sym none ∙ broken.1.1)) any);
      millis = omega (arith, c.loop-pieces.invariant.millis, piece.millis);
      ended = piece.ended;
    })
    told.unstuck

pub returns-in_err-cut-clause-way : goal.returns-in_err-cut-clause-way
returns-in_err-cut-clause-way g c s is is_kept =
    let disk = g.D.Disk in
    way_of disk.keeps disk.image disk.clock disk.left s (kept_by c.args.start.state) c.args.keeper.now (kept_by c.loop-pieces.state) c.loop-pieces.kept_ended c.loop-pieces.keeper (c.loop-pieces.invariant.kept s is is_kept)

pub returns-in_err-cut-clause-refused : goal.returns-in_err-cut-clause-refused
returns-in_err-cut-clause-refused g c s is =
    let e = err_from_is_err_and c.from_residual-in_err-cut.result c.from_residual-in_err-cut.ensures.1 in
    rw (e.1, e.2) (stops_for_memory s (kept_by c.args.start.state) c.in_err-cut.field-0.0 c.in_err-cut.ensures.refused)

pub returns-in_err-cut-clause-tells : goal.returns-in_err-cut-clause-tells
returns-in_err-cut-clause-tells g c =
    let e = err_from_is_err_and c.from_residual-in_err-cut.result c.from_residual-in_err-cut.ensures.1 in
    rw (e.1, e.2) (tells_of_memory c.args.keeper.now c.loop-pieces.keeper c.in_err-cut.field-0.0 c.in_err-cut.ensures.refused)

pub returns-then-ends_run-clause-on : goal.returns-then-ends_run-clause-on
returns-then-ends_run-clause-on g c =
    let piece = c.in_ok-run.ensures.piece in
    let told = c.in_ok-ended.ensures in
    goes_on_so c.args.self.now.bounds c.args.start.state c.run_piece.new.state c.in_ok-run.run'.end c.in_ok-ended.ended told.state told.end
    (record {
      later = omega (arith, c.loop-pieces.invariant.least, piece.later);
      within = λ any. let was = c.loop-pieces.invariant.any any in omega (arith, was.2, piece.within was.0, c.bounds_after-bounds.ensures.left);
      millis = omega (arith, c.loop-pieces.invariant.millis, piece.millis);
      ended = piece.ended;
    })
    told.unstuck

pub returns-clause-way : goal.returns-clause-way
returns-clause-way g c s is is_kept =
    let disk = g.D.Disk in
    way_of disk.keeps disk.image disk.clock disk.left s (kept_by c.args.start.state) c.args.keeper.now (kept_by c.loop-pieces.state) c.loop-pieces.kept_ended c.loop-pieces.keeper (c.loop-pieces.invariant.kept s is is_kept)

pub returns-clause-refused : goal.returns-clause-refused
returns-clause-refused g c s is = record {
  stops = inr (inl refl);
  limit = λ limit. by_order c.args.start.state.rounds
      (λ any.
      let was = c.loop-pieces.invariant.any any in
      past_count s (kept_by c.args.start.state) (kept_by c.loop-pieces.state) (c.loop-pieces.invariant.together s is) (omega (arith, was.1)) (omega (arith, was.1)))
      (λ m by.
      let was = c.loop-pieces.invariant.rounds m by in
      absurd (⊎_elim (λ none. omega (arith, none)) (λ few. omega (arith, few, was.2)) was.3));
}

pub returns-clause-tells : goal.returns-clause-tells
returns-clause-tells g c = tells_of_limit c.args.keeper.now c.loop-pieces.keeper
