use Rattle.std.proofs.Common.{◌≡◌, inl, inr, ◌∙◌, ◌<◌, List, false, refl, sym, subst, arith}
use Rattle.std.specs.List.{AllByRecursion}
use Rattle.ic_jobs.specs.Job.{JobParts}
use Rattle.ic_jobs.specs.Table.{IsTable}
use Rattle.ic_book.specs.Book.{table_of}
use Rattle.ic_book.specs.lemmas.Chains.{by_nothing}
use Rattle.ic_serving.specs.Booked.{last_kept}
use Rattle.ic_serving.specs.Booked.{unkept_of}
use Rattle.ic_serving.specs.lemmas.Leaving.{leaves_nothing}
use Rattle.ic_serving.specs.lemmas.Unkept.{due_within, none_unkept, one_within}
use Rattle.ic_batch.specs.Way.{goes_on, AreWays, IsKeptOr}
use Rattle.ic_batch.proofs.DueLemmas.{DueLaws}
use Rattle.ic_batch.proofs.LeadLemmas.{leads_on}
use Rattle.ic_batch.specs.Faults.{ComesOverBroken, ComesWith}
use Rattle.ic_jobs.specs.declared.event.Event.TheVariants.{Round}
use Rattle.ic_batch.proofs.CallLemmas.{calls_then, made_more, made_none, one_event}
use Rattle.ic_batch.proofs.ComeLemmas.{comes_anyhow, err_comes, of_keep, told_broken}
use Rattle.ic_batch.proofs.FaultLemmas.{fault_after}
use Rattle.ic_batch.proofs.LoopLemmas.{wraps}
use Rattle.ic_batch.proofs.LeftLemmas.{fewer_left, left_in}
use Rattle.ic_batch.proofs.RoundLemmas.{GoesAt, one_round, round_comes}
use Rattle.ic_batch.proofs.WayLemmas.{ways_same}
use Rattle.ic_batch.proofs.running.make_rounds.Goals as goal

pub loop-place-init : goal.loop-place-init
loop-place-init g c =
    let such = AreWays c.args.most (table_of c.args.book.now) in
    let now = ways_same c.args.most (table_of c.args.book.now) in
    record {
      leads = record {
        table = now;
        kept = inl refl;
        crash = leaves_nothing c.args.book.now (IsKeptOr (last_kept c.args.book.now) such) (g.met.D.Disk.left_is_image _) c.facts.ensures.either c.facts.ensures.history.replayed
            (by_nothing c.args.book.now c.facts.ensures.step) (inl refl) (inr now);
      };
      counted = refl;
      ready = λ is. is;
      broken = λ is. is;
      calls = λ room. made_none c.args.every c.args.book.now;
      few_unkept = λ all. let none = none_unkept c.args.book.now all in omega (arith, none);
    }

pub returns-in_default-clause-ended : goal.returns-in_default-clause-ended
returns-in_default-clause-ended g c =
    let none : AllByRecursion (λ job. goes_on c.args.most job ≡ false) c.jobs.result.now = rw c.in_default.is at c.next_place.ensures.none in
    subst (AllByRecursion (λ job. goes_on c.args.most job ≡ false)) (c.jobs.ensures.jobs ∙ c.table.ensures) none

pub returns-in_err-make_round-clause-leads : goal.returns-in_err-make_round-clause-leads
returns-in_err-make_round-clause-leads g c =
    let such = AreWays c.args.most (table_of c.args.book.now) in
    let s = c.in_err-make_round.ensures.refused in
    leads_on such c.args.book.now c.loop-place.book c.make_round.new.book c.loop-place.invariant.leads
    (subst such (sym s.table) c.loop-place.invariant.leads.table) s.kept c.make_round.ensures.crash

pub returns-in_err-keep_each-clause-leads : goal.returns-in_err-keep_each-clause-leads
returns-in_err-keep_each-clause-leads g c =
    let laws : DueLaws = record {
      none = c.due_is_the_next_running_job.ensures.none;
      job = c.due_is_the_next_running_job.ensures.job;
      from_there = c.due_is_the_next_running_job.ensures.first_from_there;
      of_all = c.due_is_the_next_running_job.ensures.first_of_all;
      awaits = c.what_is_due_is_awaited.ensures.due;
    } in
    let goes : GoesAt c.args.most c.jobs.result.now c.in-Some.place = rw c.in-Some.is at c.next_place.ensures.goes in
    let round = one_round laws c.args.most c.args.book.now c.loop-place.book c.make_round.new.book c.jobs.result.now (c.jobs.ensures.jobs ∙ c.table.ensures)
    (subst IsTable (sym c.jobs.ensures.jobs) c.jobs.ensures.sound) c.in-Some.place goes c.in_ok-make_round.field-0 c.in_ok-make_round.ensures.idle c.in_ok-make_round.ensures.made c.make_round.ensures.crash
    c.loop-place.invariant.leads in
    let such = AreWays c.args.most (table_of c.args.book.now) in
    leads_on such c.args.book.now c.make_round.new.book c.keep_each.new.book round.leads
    (subst such (sym c.keep_each.ensures.table) round.leads.table) (inl c.in_err-keep_each.ensures.unkept) c.keep_each.ensures.crash

pub loop-place-preserved : goal.loop-place-preserved
loop-place-preserved g c =
    let laws : DueLaws = record {
      none = c.due_is_the_next_running_job.ensures.none;
      job = c.due_is_the_next_running_job.ensures.job;
      from_there = c.due_is_the_next_running_job.ensures.first_from_there;
      of_all = c.due_is_the_next_running_job.ensures.first_of_all;
      awaits = c.what_is_due_is_awaited.ensures.due;
    } in
    let goes : GoesAt c.args.most c.jobs.result.now c.in-Some.place = rw c.in-Some.is at c.next_place.ensures.goes in
    let round = one_round laws c.args.most c.args.book.now c.loop-place.book c.make_round.new.book c.jobs.result.now (c.jobs.ensures.jobs ∙ c.table.ensures)
    (subst IsTable (sym c.jobs.ensures.jobs) c.jobs.ensures.sound) c.in-Some.place goes c.in_ok-make_round.field-0 c.in_ok-make_round.ensures.idle c.in_ok-make_round.ensures.made c.make_round.ensures.crash
    c.loop-place.invariant.leads in
    let such = AreWays c.args.most (table_of c.args.book.now) in
    record {
      leads = leads_on such c.args.book.now c.make_round.new.book c.keep_each.new.book round.leads
          (subst such (sym c.keep_each.ensures.table) round.leads.table) c.in_ok-keep_each.ensures.kept c.keep_each.ensures.crash;
      counted = c.in_ok-keep_each.ensures.fault.counted ∙ c.in_ok-make_round.ensures.fault.counted ∙ c.loop-place.invariant.counted;
      ready = λ is. c.in_ok-keep_each.ensures.fault.ready (c.in_ok-make_round.ensures.fault.ready (c.loop-place.invariant.ready is));
      broken = λ is. (let bad = c.in_ok-make_round.ensures.broken.1 (c.loop-place.invariant.broken is) in cc);
      calls = made_more c.loop-place.made c.args.every c.args.book.now c.loop-place.book c.requires.every c.loop-place.invariant.calls _ (Round round.event) c.make_round.new.book c.keep_each.new.book
          refl (one_event c.args.most (table_of c.args.book.now) (table_of c.loop-place.book) (table_of c.make_round.new.book) (subst IsTable c.table.ensures c.jobs.ensures.sound) round.made
          c.loop-place.invariant.leads.table) refl round.page c.make_round.ensures.still c.keep_each.ensures.table c.keep_each.ensures.page c.keep_each.ensures.calls c.keep_each.ensures.stays;
      few_unkept = λ all. due_within c.loop-place.made _ c.args.every (unkept_of c.loop-place.book) (unkept_of c.make_round.new.book) (unkept_of c.keep_each.new.book)
          c.requires.every (wraps c.loop-place.made (omega arith)) (c.loop-place.invariant.few_unkept all) c.make_round.ensures.one c.keep_each.ensures.fewer
          (λ due. none_unkept c.keep_each.new.book (c.in_ok-keep_each.ensures.due due));
    }

pub returns-in_default-clause-few_unkept : goal.returns-in_default-clause-few_unkept
returns-in_default-clause-few_unkept g c = λ all.
    one_within c.loop-place.made c.args.every (unkept_of c.loop-place.book) (unkept_of c.loop-place.book) c.requires.every (c.loop-place.invariant.few_unkept all) (omega arith)

pub returns-in_err-make_round-clause-few_unkept : goal.returns-in_err-make_round-clause-few_unkept
returns-in_err-make_round-clause-few_unkept g c = λ all.
    one_within c.loop-place.made c.args.every (unkept_of c.loop-place.book) (unkept_of c.make_round.new.book) c.requires.every (c.loop-place.invariant.few_unkept all) c.make_round.ensures.one

pub returns-in_err-keep_each-clause-few_unkept : goal.returns-in_err-keep_each-clause-few_unkept
returns-in_err-keep_each-clause-few_unkept g c = λ all.
    let fewer = c.keep_each.ensures.fewer in
    one_within c.loop-place.made c.args.every (unkept_of c.loop-place.book) (unkept_of c.keep_each.new.book) c.requires.every (c.loop-place.invariant.few_unkept all)
    (omega (arith, fewer, c.make_round.ensures.one))

pub loop-place-smaller : goal.loop-place-smaller
loop-place-smaller g c =
    let laws : DueLaws = record {
      none = c.due_is_the_next_running_job.ensures.none;
      job = c.due_is_the_next_running_job.ensures.job;
      from_there = c.due_is_the_next_running_job.ensures.first_from_there;
      of_all = c.due_is_the_next_running_job.ensures.first_of_all;
      awaits = c.what_is_due_is_awaited.ensures.due;
    } in
    let goes : GoesAt c.args.most c.jobs.result.now c.in-Some.place = rw c.in-Some.is at c.next_place.ensures.goes in
    let round = one_round laws c.args.most c.args.book.now c.loop-place.book c.make_round.new.book c.jobs.result.now (c.jobs.ensures.jobs ∙ c.table.ensures)
    (subst IsTable (sym c.jobs.ensures.jobs) c.jobs.ensures.sound) c.in-Some.place goes c.in_ok-make_round.field-0 c.in_ok-make_round.ensures.idle c.in_ok-make_round.ensures.made c.make_round.ensures.crash
    c.loop-place.invariant.leads in
    subst (λ (u : List JobParts). left_in c.args.most u < left_in c.args.most (table_of c.loop-place.book)) (sym c.keep_each.ensures.table)
    (fewer_left c.args.most (table_of c.loop-place.book) (table_of c.make_round.new.book) (subst IsTable c.table.ensures c.jobs.ensures.sound) round.made)

pub returns-in_err-keep_each-clause-fault : goal.returns-in_err-keep_each-clause-fault
returns-in_err-keep_each-clause-fault g c = fault_after c.from_residual-in_err-keep_each.result c.in_err-keep_each.field-0.0 c.from_residual-in_err-keep_each.ensures.1
    c.args.book.now c.make_round.new.book c.keep_each.new.book (c.in_ok-make_round.ensures.fault.counted ∙ c.loop-place.invariant.counted)
    (λ is. c.in_ok-make_round.ensures.fault.ready (c.loop-place.invariant.ready is)) c.in_err-keep_each.ensures.fault

pub returns-in_err-make_round-clause-comes : goal.returns-in_err-make_round-clause-comes
returns-in_err-make_round-clause-comes g c =
    let laws : DueLaws = record {
      none = c.due_is_the_next_running_job.ensures.none;
      job = c.due_is_the_next_running_job.ensures.job;
      from_there = c.due_is_the_next_running_job.ensures.first_from_there;
      of_all = c.due_is_the_next_running_job.ensures.first_of_all;
      awaits = c.what_is_due_is_awaited.ensures.due;
    } in
    let goes : GoesAt c.args.most c.jobs.result.now c.in-Some.place = rw c.in-Some.is at c.next_place.ensures.goes in
    err_comes c.from_residual.result c.in_err-make_round.field-0.0 (ComesWith c.args.most (table_of c.make_round.new.book)) c.from_residual.ensures.1
    (round_comes laws c.args.most (table_of c.loop-place.book) c.jobs.result.now (table_of c.make_round.new.book) (c.jobs.ensures.jobs ∙ c.table.ensures)
    c.in_err-make_round.ensures.refused.table (subst IsTable (sym c.jobs.ensures.jobs) c.jobs.ensures.sound) c.in-Some.place goes c.in_err-make_round.field-0.0
    c.in_err-make_round.ensures.fault.causes c.in_err-make_round.ensures.blocked)

pub returns-in_err-keep_each-clause-comes : goal.returns-in_err-keep_each-clause-comes
returns-in_err-keep_each-clause-comes g c = err_comes c.from_residual-in_err-keep_each.result c.in_err-keep_each.field-0.0 (ComesWith c.args.most (table_of c.keep_each.new.book))
    c.from_residual-in_err-keep_each.ensures.1 (comes_anyhow c.args.most (table_of c.keep_each.new.book) c.in_err-keep_each.field-0.0
    (of_keep c.in_err-keep_each.field-0.0 c.in_err-keep_each.ensures.others))

pub returns-in_err-make_round-clause-broken : goal.returns-in_err-make_round-clause-broken
returns-in_err-make_round-clause-broken g c = λ is. err_comes c.from_residual.result c.in_err-make_round.field-0.0 ComesOverBroken c.from_residual.ensures.1
    (told_broken c.in_err-make_round.field-0.0 (c.in_err-make_round.ensures.broken.1 (c.loop-place.invariant.broken is)))

pub returns-in_err-keep_each-clause-broken : goal.returns-in_err-keep_each-clause-broken
returns-in_err-keep_each-clause-broken g c = λ is. (let bad = c.in_ok-make_round.ensures.broken.1 (c.loop-place.invariant.broken is) in cc)

pub returns-in_default-clause-still : goal.returns-in_default-clause-still
returns-in_default-clause-still g c = c.loop-place.invariant.broken

pub returns-in_default-clause-few_calls : goal.returns-in_default-clause-few_calls
returns-in_default-clause-few_calls g c = calls_then c.loop-place.made c.args.every c.args.book.now c.loop-place.book c.requires.every c.loop-place.invariant.calls
    c.loop-place.book refl (λ spare. refl)

pub returns-in_err-make_round-clause-few_calls : goal.returns-in_err-make_round-clause-few_calls
returns-in_err-make_round-clause-few_calls g c = calls_then c.loop-place.made c.args.every c.args.book.now c.loop-place.book c.requires.every c.loop-place.invariant.calls
    c.make_round.new.book c.in_err-make_round.ensures.refused.table c.make_round.ensures.still

pub returns-in_err-keep_each-clause-few_calls : goal.returns-in_err-keep_each-clause-few_calls
returns-in_err-keep_each-clause-few_calls g c = λ room.
    let laws : DueLaws = record {
      none = c.due_is_the_next_running_job.ensures.none;
      job = c.due_is_the_next_running_job.ensures.job;
      from_there = c.due_is_the_next_running_job.ensures.first_from_there;
      of_all = c.due_is_the_next_running_job.ensures.first_of_all;
      awaits = c.what_is_due_is_awaited.ensures.due;
    } in
    let goes : GoesAt c.args.most c.jobs.result.now c.in-Some.place = rw c.in-Some.is at c.next_place.ensures.goes in
    let round = one_round laws c.args.most c.args.book.now c.loop-place.book c.make_round.new.book c.jobs.result.now (c.jobs.ensures.jobs ∙ c.table.ensures)
    (subst IsTable (sym c.jobs.ensures.jobs) c.jobs.ensures.sound) c.in-Some.place goes c.in_ok-make_round.field-0 c.in_ok-make_round.ensures.idle c.in_ok-make_round.ensures.made c.make_round.ensures.crash
    c.loop-place.invariant.leads in
    let made = one_event c.args.most (table_of c.args.book.now) (table_of c.loop-place.book) (table_of c.make_round.new.book) (subst IsTable c.table.ensures c.jobs.ensures.sound) round.made c.loop-place.invariant.leads.table in
    let more = made_more c.loop-place.made c.args.every c.args.book.now c.loop-place.book c.requires.every c.loop-place.invariant.calls _ (Round round.event) c.make_round.new.book c.keep_each.new.book
    refl made refl round.page c.make_round.ensures.still c.keep_each.ensures.table c.keep_each.ensures.page c.keep_each.ensures.calls c.keep_each.ensures.stays room in
    calls_then _ c.args.every c.args.book.now c.keep_each.new.book c.requires.every (λ room. more) c.keep_each.new.book refl (λ spare. refl) room
