use Rattle.std.proofs.Common.{arith, refl, true, false, ◌+◌, ◌∙◌}
use Rattle.ic_book.specs.lemmas.Chains.{by_nothing}
use Rattle.ic_serving.specs.inner.Group.{TakesReady}
use Rattle.ic_serving.proofs.GroupLemmas.{come_none, err_not_ok, ready_more, ready_none, ready_then}
use Rattle.ic_serving.proofs.taking.take_ready.Goals as goal

pub loop-init : goal.loop-init
loop-init g c = λ limit. ready_none true c.args.lines.now c.args.group.now.answers.items c.args.group.now.count c.args.book.now c.args.book.now
    (come_none c.args.book.now (g.met.D.Disk.left_is_image _) c.facts.ensures.either c.facts.ensures.history.replayed (by_nothing c.args.book.now c.facts.ensures.step))
    refl (omega arith)

pub loop-preserved : goal.loop-preserved
loop-preserved g c = λ limit. ready_then c.loop.counter 1 true c.args.lines.now c.loop.lines c.take_next.new.lines c.args.group.now.answers.items c.loop.group.answers.items c.take_next.new.group.answers.items
    c.args.group.now.count c.loop.group.count c.take_next.new.group.count c.args.book.now c.loop.book c.take_next.new.book (c.loop.invariant limit) (c.in_ok-take_next.ensures.taken limit)

pub returns-in_err-take_next-clause-taken : goal.returns-in_err-take_next-clause-taken
returns-in_err-take_next-clause-taken g c =
    let less = c.loop-test.true in λ limit.
    ready_more (c.loop.counter + 1) c.args.most false _ c.args.lines.now c.take_next.new.lines c.args.group.now.answers.items c.take_next.new.group.answers.items
    c.args.group.now.count c.take_next.new.group.count c.args.book.now c.take_next.new.book
    (ready_then c.loop.counter 1 false c.args.lines.now c.loop.lines c.take_next.new.lines c.args.group.now.answers.items c.loop.group.answers.items c.take_next.new.group.answers.items
    c.args.group.now.count c.loop.group.count c.take_next.new.group.count c.args.book.now c.loop.book c.take_next.new.book (c.loop.invariant limit) (c.in_err-take_next.ensures.taken limit))
    (omega (arith, less)) (λ is. absurd (err_not_ok c.from_residual.result _ c.from_residual.ensures.1 is))

pub returns-then-not-branch-clause-taken : goal.returns-then-not-branch-clause-taken
returns-then-not-branch-clause-taken g c =
    let less = c.loop-test.true in λ limit.
    ready_more (c.loop.counter + 1) c.args.most true true c.args.lines.now c.take_next.new.lines c.args.group.now.answers.items c.take_next.new.group.answers.items
    c.args.group.now.count c.take_next.new.group.count c.args.book.now c.take_next.new.book
    (ready_then c.loop.counter 1 true c.args.lines.now c.loop.lines c.take_next.new.lines c.args.group.now.answers.items c.loop.group.answers.items c.take_next.new.group.answers.items
    c.args.group.now.count c.loop.group.count c.take_next.new.group.count c.args.book.now c.loop.book c.take_next.new.book (c.loop.invariant limit) (c.in_ok-take_next.ensures.taken limit))
    (omega (arith, less)) (λ is. refl)

pub returns-clause-taken : goal.returns-clause-taken
returns-clause-taken g c =
    let few = c.loop.auto.counter-end in λ limit.
    ready_more c.loop.counter c.args.most true true c.args.lines.now c.loop.lines c.args.group.now.answers.items c.loop.group.answers.items
    c.args.group.now.count c.loop.group.count c.args.book.now c.loop.book (c.loop.invariant limit) (omega (arith, few)) (λ is. refl)

-- what holds for any limit

pub take_next-requires : goal.take_next-requires
take_next-requires g c =
    let ready = c.loop.invariant 0 in
    let counted = ready.counted refl in
    let few = ready.few in
    let less = c.loop-test.true in
    let room = c.requires in
    omega (arith, counted, few, less, room)

pub returns-in_err-take_next-clause-keeper : goal.returns-in_err-take_next-clause-keeper
returns-in_err-take_next-clause-keeper g c = (c.in_err-take_next.ensures.taken 0).keeper ∙ (c.loop.invariant 0).keeper

pub returns-then-not-branch-clause-keeper : goal.returns-then-not-branch-clause-keeper
returns-then-not-branch-clause-keeper g c = (c.in_ok-take_next.ensures.taken 0).keeper ∙ (c.loop.invariant 0).keeper

pub returns-clause-keeper : goal.returns-clause-keeper
returns-clause-keeper g c = (c.loop.invariant 0).keeper
