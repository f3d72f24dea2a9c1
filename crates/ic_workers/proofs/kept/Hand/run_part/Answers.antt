use Rattle.std.proofs.Common.{◌≡◌, ◌<◌, List, length, set, length-set, arith, refl, ap, ◌∙◌}
use Rattle.ic_workers.specs.declared.kept.Kept.{Kept}
use Rattle.ic_workers.specs.inner.Keeping.{part_of, HasWork, IsKept}
use Rattle.ic_workers.proofs.Lists.{all_at, same_set, set_there}
use Rattle.ic_workers.proofs.Workings.{part_turn, sum_least, turn_none, work_same}
use Rattle.ic_workers.proofs.kept.Hand.run_part.Goals as goal

pub returns-then-left-eq0-clause-turn : goal.returns-then-left-eq0-clause-turn
returns-then-left-eq0-clause-turn c = turn_none c.args.program.now c.args.self.now c.requires.may

pub run-made-requires-clause-sound : goal.run-made-requires-clause-sound
run-made-requires-clause-sound c = c.requires.may.fit.sound

pub run-made-requires-clause-kept : goal.run-made-requires-clause-kept
run-made-requires-clause-kept c =
    all_at part_of (IsKept c.args.program.now) c.args.self.now.parts.items c.args.place c.index_mut.result.now c.requires.there
    c.index_mut.ensures.value c.requires.may.kept

pub run-made-requires-clause-few : goal.run-made-requires-clause-few
run-made-requires-clause-few c =
    let least = sum_least part_of (λ q. q.net.interactions) c.args.self.now.parts.items c.args.place c.index_mut.result.now c.requires.there
    c.index_mut.ensures.value in
    omega (arith, least, c.requires.may.few, c.requires.may.within, c.min.ensures)

pub returns-clause-turn : goal.returns-clause-turn
returns-clause-turn c =
    let items : List Kept = c.args.self.now.parts.items in
    let ran : Kept = c.run-made.new.self in
    let last : Kept = record c.index_mut-2.result.now { last = c.saturating_add.result } in
    let there : c.args.place < length (set items c.args.place ran) = omega (arith, c.requires.there, length-set items c.args.place ran) in
    part_turn c.args.program.now c.args.self.now _
    c.args.place c.index_mut.result.now ran c.run-made.result c.requires.may c.requires.there c.index_mut.ensures.value
    c.run-made.ensures.worked c.run-made.ensures.kept c.run-made.ensures.made
    (omega (arith, c.run-made.ensures.within, c.min.ensures, c.requires.may.within))
    (same_set part_of (set items c.args.place ran) c.args.place c.index_mut-2.result.now last there c.index_mut-2.ensures.value refl) refl refl

-- The part that still has something to do is that which has run.
pub returns-clause-more : goal.returns-clause-more
returns-clause-more c = λ e.
    let items : List Kept = c.args.self.now.parts.items in
    let ran : Kept = c.run-made.new.self in
    let last : Kept = record c.index_mut-2.result.now { last = c.saturating_add.result } in
    let there : c.args.place < length (set items c.args.place ran) = omega (arith, c.requires.there, length-set items c.args.place ran) in
    let third : c.index-3.result.now ≡ last =
    c.index-3.ensures ∙ set_there (set items c.args.place ran) c.args.place last c.index-3.result.now there in
    let second : c.index_mut-2.result.now ≡ ran =
    c.index_mut-2.ensures.value ∙ set_there items c.args.place ran c.index_mut-2.result.now c.requires.there in
    let work : HasWork ran =
    work_same c.index-3.result.now ran (ap (λ (k : Kept). k.fault) third ∙ ap (λ (k : Kept). k.fault) second)
    (ap (λ (k : Kept). k.machine) third ∙ ap (λ (k : Kept). k.machine) second) (c.has_work-2.ensures e) in
    let all = c.run-made.ensures.all work in
    omega (arith, all, c.min.ensures, c.requires.some, c.if-left-eq0.false)
