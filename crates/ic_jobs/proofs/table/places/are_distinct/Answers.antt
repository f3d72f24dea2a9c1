use Rattle.std.proofs.Common.{◌≡◌, ◌+◌, ◌<◌, List, length, drop, is_some, true, false, ap, sym, refl, ◌∙◌, arith}
use Rattle.std.proofs.lemmas.Bool.{false≢true}
use Rattle.std.proofs.lemmas.List.{drop_all}
use Rattle.std.specs.List.{position_from}
use Rattle.ic_jobs.specs.Table.{is_named}
use Rattle.ic_jobs.proofs.DistinctLemmas.{rest_is, not_distinct, distinct_from, jobs_so_far, none_distinct}
use Rattle.ic_jobs.proofs.table.places.are_distinct.Goals as goal

pub returns-then-is_some-clause-distinct : goal.returns-then-is_some-clause-distinct
returns-then-is_some-clause-distinct c = (
  λ e. absurd (false≢true e),
  λ distinct.
      let rest : c.place_of.result ≡ position_from (is_named c.index-jobs-place.result.name) 0 (drop (c.loop-place.place + 1) c.args.jobs.now) =
      c.place_of.ensures.place ∙ (λ i. position_from (is_named (c.name.ensures.name i)) 0 (rest_is c.args.jobs.now (c.loop-place.place + 1) i)) in
      absurd (not_distinct c.args.jobs.now c.loop-place.place c.index-jobs-place.result c.loop-place-test.true c.index-jobs-place.is
      (ap is_some (sym rest) ∙ sym c.is_some.ensures ∙ c.if-is_some.true) (c.loop-place.invariant.0.0 distinct)),
)

pub loop-place-preserved : goal.loop-place-preserved
loop-place-preserved c =
    let rest : c.place_of.result ≡ position_from (is_named c.index-jobs-place.result.name) 0 (drop (c.loop-place.place + 1) c.args.jobs.now) =
    c.place_of.ensures.place ∙ (λ i. position_from (is_named (c.name.ensures.name i)) 0 (rest_is c.args.jobs.now (c.loop-place.place + 1) i)) in (
      distinct_from c.args.jobs.now c.loop-place.place c.index-jobs-place.result c.loop-place-test.true c.index-jobs-place.is
          (ap is_some (sym rest) ∙ sym c.is_some.ensures ∙ c.if-is_some.false) c.loop-place.invariant.0,
      jobs_so_far c.args.jobs.now c.loop-place.place c.index-jobs-place.result c.loop-place-test.true c.index-jobs-place.is c.name.ensures.sound c.loop-place.invariant.1,
    )

pub returns-clause-distinct : goal.returns-clause-distinct
returns-clause-distinct c = (
  λ e. c.loop-place.invariant.0.1 (none_distinct _ (drop_all c.loop-place.place c.args.jobs.now c.loop-place-test.false)),
  λ distinct. refl,
)
