use Rattle.std.proofs.Common.{◌≡◌, ◌+◌, ◌∙◌, inl, inr, List, [], ◌≤◌, ap, drop, length, sym, refl, subst, arith, true≢false}
use Rattle.std.proofs.lemmas.List.{drop_all}
use Rattle.ic_jobs.specs.declared.command.Command.{Command}
use Rattle.ic_jobs.specs.declared.event.Event.TheVariants.{Command as by_command}
use Rattle.ic_jobs.specs.History.{table_after}
use Rattle.ic_jobs.specs.Job.{JobParts}
use Rattle.ic_book.specs.Book.{table_of}
use Rattle.ic_book.specs.Weight.{weight}
use Rattle.ic_book.specs.lemmas.Chains.{by_nothing}
use Rattle.ic_serving.specs.Booked.{last_kept, unkept_of}
use Rattle.ic_serving.specs.lemmas.Leaving.{leaves_nothing}
use Rattle.ic_serving.specs.lemmas.Unkept.{none_unkept}
use Rattle.ic_batch.specs.declared.jobs.NewJob.{NewJob}
use Rattle.ic_batch.specs.Way.{IsKeptOr}
use Rattle.ic_batch.specs.inner.Staying.{AreBegun}
use Rattle.ic_batch.specs.Faults.{ComesOverBroken}
use Rattle.ic_batch.proofs.CallLemmas.{come_more, come_none, come_or_not, one_more_unkept}
use Rattle.ic_batch.proofs.ComeLemmas.{err_comes, over_broken}
use Rattle.ic_batch.proofs.LeadLemmas.{leads_begun, part_such}
use Rattle.ic_batch.proofs.LoopLemmas.{split_here}
use Rattle.ic_batch.proofs.NewLemmas.{AreSubmitted, all_begun, begun_so_far, is_new, longer_here, new_here, none_lost, none_yet, passed_here, submitted_here}
use Rattle.ic_batch.proofs.submitting.take_missing.Goals as goal
use Rattle.ic_batch.proofs.submitting.take_missing.Goals.{then-is_missing+in_ok-command+in_ok-take_command, else-is_missing}

pub loop-new-init : goal.loop-new-init
loop-new-init g c =
    let t = table_of c.args.book.now in
    let first = none_yet c.args.jobs.now t in
    let now = begun_so_far c.args.jobs.now t c.args.jobs.now t first in
    record {
      so_far = first;
      leads = record {
        table = now;
        kept = inl refl;
        crash = leaves_nothing c.args.book.now (IsKeptOr (last_kept c.args.book.now) (AreBegun c.args.jobs.now t)) (g.met.D.Disk.left_is_image _) c.facts.ensures.either
            c.facts.ensures.history.replayed (by_nothing c.args.book.now c.facts.ensures.step) (inl refl) (inr now);
      };
      counted = refl;
      ready = λ is. is;
      broken = λ is. is;
      come = λ room. come_none c.args.book.now;
      few = λ is. (let none = none_unkept c.args.book.now is in omega (arith, none));
      passed = λ is. (let none = none_unkept c.args.book.now is in omega (arith, none));
      within = omega arith;
    }

pub returns-in_err-take_command-clause-leads : goal.returns-in_err-take_command-clause-leads
returns-in_err-take_command-clause-leads g c =
    let jobs = c.args.jobs.now in
    let old = c.args.book.now in
    let t = table_of old in
    let mid = c.loop-new.book in
    let new = c.new-item.result in
    let i = c.loop-new.new-index in
    let split = split_here jobs i new c.loop-new-test.true c.new-item.is in
    let is : is_new (table_of mid) new ≡ c.is_missing.result = new_here c.table.result.now (table_of mid) new c.is_missing.result c.table.ensures c.is_missing.ensures in
    let more = submitted_here jobs t i new (table_of mid) split c.loop-new.invariant.so_far c.other_jobs_stay.ensures c.requires.distinct c.requires.room (is ∙ c.if-is_missing.true)
    c.in_ok-command.command c.in_ok-command.ensures in
    let e = by_command c.in_ok-command.command in
    leads_begun (AreBegun jobs t) old mid c.take_command.new.book e c.loop-new.invariant.leads
    (begun_so_far jobs t (drop (i + 1) jobs) (table_after (table_of mid) e) more) c.take_command.ensures.begun c.take_command.ensures.crash

pub loop-new-preserved : goal.loop-new-preserved
loop-new-preserved g c =
    let jobs = c.args.jobs.now in
    let old = c.args.book.now in
    let t = table_of old in
    let mid = c.loop-new.book in
    let new = c.new-item.result in
    let i = c.loop-new.new-index in
    let split = split_here jobs i new c.loop-new-test.true c.new-item.is in
    let is : is_new (table_of mid) new ≡ c.is_missing.result = new_here c.table.result.now (table_of mid) new c.is_missing.result c.table.ensures c.is_missing.ensures in
    elim c.if-is_missing.branch [
      | then-is_missing+in_ok-command+in_ok-take_command w ↦
          let e = by_command w.in_ok-command.command in
          let later = w.take_command.new.book in
          let longer : length (table_of later) ≡ length (table_of mid) + 1 =
          ap length w.in_ok-take_command.ensures.taken.table ∙ longer_here jobs t i new (table_of mid) split c.loop-new.invariant.so_far c.requires.room (is ∙ w.if-is_missing.true)
          w.in_ok-command.command w.in_ok-command.ensures in
          let more = submitted_here jobs t i new (table_of mid) split c.loop-new.invariant.so_far c.other_jobs_stay.ensures c.requires.distinct c.requires.room (is ∙ w.if-is_missing.true)
          w.in_ok-command.command w.in_ok-command.ensures in
          rw w.book-is (record {
            so_far = subst (λ (u : List JobParts). AreSubmitted jobs t (drop (i + 1) jobs) u) (sym w.in_ok-take_command.ensures.taken.table) more;
            leads = leads_begun (AreBegun jobs t) old mid later e c.loop-new.invariant.leads (begun_so_far jobs t (drop (i + 1) jobs) (table_after (table_of mid) e) more)
                w.take_command.ensures.begun w.take_command.ensures.crash;
            counted = w.in_ok-take_command.ensures.fault.counted ∙ c.loop-new.invariant.counted;
            ready = λ whole. w.in_ok-take_command.ensures.fault.ready (c.loop-new.invariant.ready whole);
            broken = λ is. (let off = w.in_ok-take_command.ensures.unbroken in absurd (true≢false (sym (c.loop-new.invariant.broken is) ∙ off)));
            come = λ room. come_more old mid (none_lost jobs t (drop i jobs) (table_of mid) c.loop-new.invariant.so_far) c.loop-new.invariant.come e later
                (ap (λ (m : Command). weight (by_command m)) w.in_ok-command.ensures) longer w.in_ok-take_command.ensures.page w.take_command.ensures.still room;
            few = λ before. one_more_unkept (length t) (length (table_of mid)) (length (table_of later)) (unkept_of mid) (unkept_of later)
                (none_lost jobs t (drop i jobs) (table_of mid) c.loop-new.invariant.so_far) longer (c.loop-new.invariant.few before) w.take_command.ensures.few_unkept;
            passed = λ before. (let few = c.loop-new.invariant.passed before in let one = w.take_command.ensures.few_unkept in omega (arith, few, one));
            within = omega (arith, c.loop-new-test.true);
          })
      | else-is_missing w ↦ rw w.book-is (record {
        so_far = passed_here jobs t i new (table_of mid) split c.loop-new.invariant.so_far (is ∙ w.if-is_missing.false);
        leads = c.loop-new.invariant.leads;
        counted = c.loop-new.invariant.counted;
        ready = c.loop-new.invariant.ready;
        broken = c.loop-new.invariant.broken;
        come = c.loop-new.invariant.come;
        few = c.loop-new.invariant.few;
        passed = λ before. (let few = c.loop-new.invariant.passed before in omega (arith, few));
        within = omega (arith, c.loop-new-test.true);
      })
    ]

pub returns-clause-all : goal.returns-clause-all
returns-clause-all g c =
    let over : drop c.loop-new.new-index c.args.jobs.now ≡ [] = drop_all c.loop-new.new-index c.args.jobs.now c.loop-new-test.false in
    all_begun c.args.jobs.now (table_of c.args.book.now) (table_of c.loop-new.book)
    (subst (λ (l : List NewJob). AreSubmitted c.args.jobs.now (table_of c.args.book.now) l (table_of c.loop-new.book)) over c.loop-new.invariant.so_far)

pub returns-in_err-command-clause-few_unkept : goal.returns-in_err-command-clause-few_unkept
returns-in_err-command-clause-few_unkept g c = λ all.
    let passed = c.loop-new.invariant.passed all in
    omega (arith, passed, c.loop-new-test.true)

pub returns-in_err-take_command-clause-few_unkept : goal.returns-in_err-take_command-clause-few_unkept
returns-in_err-take_command-clause-few_unkept g c = λ all.
    let passed = c.loop-new.invariant.passed all in
    let one = c.take_command.ensures.few_unkept in
    omega (arith, passed, one, c.loop-new-test.true)

pub returns-clause-few_unkept : goal.returns-clause-few_unkept
returns-clause-few_unkept g c = λ all.
    let passed = c.loop-new.invariant.passed all in
    omega (arith, passed, c.loop-new.invariant.within)

pub returns-clause-kept : goal.returns-clause-kept
returns-clause-kept g c = c.loop-new.invariant.few

pub returns-clause-more : goal.returns-clause-more
returns-clause-more g c = none_lost c.args.jobs.now (table_of c.args.book.now) (drop c.loop-new.new-index c.args.jobs.now) (table_of c.loop-new.book) c.loop-new.invariant.so_far

pub returns-in_err-take_command-clause-broken : goal.returns-in_err-take_command-clause-broken
returns-in_err-take_command-clause-broken g c = λ is. err_comes c.from_residual-in_err-take_command.result c.in_err-take_command.field-0.0 ComesOverBroken
    c.from_residual-in_err-take_command.ensures.1 (over_broken c.in_err-take_command.field-0.0 c.in_err-take_command.ensures.fault.causes
    (c.in_err-take_command.ensures.broken (c.loop-new.invariant.broken is)))

pub returns-clause-still : goal.returns-clause-still
returns-clause-still g c = c.loop-new.invariant.broken

pub returns-in_err-command-clause-keeper : goal.returns-in_err-command-clause-keeper
returns-in_err-command-clause-keeper g c =
    let mid = c.loop-new.book in
    come_or_not c.args.book.now mid (none_lost c.args.jobs.now (table_of c.args.book.now) (drop c.loop-new.new-index c.args.jobs.now) (table_of mid) c.loop-new.invariant.so_far)
    c.loop-new.invariant.come mid (omega arith) (λ spare. refl)

pub returns-in_err-take_command-clause-keeper : goal.returns-in_err-take_command-clause-keeper
returns-in_err-take_command-clause-keeper g c =
    let jobs = c.args.jobs.now in
    let old = c.args.book.now in
    let t = table_of old in
    let mid = c.loop-new.book in
    let new = c.new-item.result in
    let i = c.loop-new.new-index in
    let split = split_here jobs i new c.loop-new-test.true c.new-item.is in
    let is : is_new (table_of mid) new ≡ c.is_missing.result = new_here c.table.result.now (table_of mid) new c.is_missing.result c.table.ensures c.is_missing.ensures in
    let longer = longer_here jobs t i new (table_of mid) split c.loop-new.invariant.so_far c.requires.room (is ∙ c.if-is_missing.true) c.in_ok-command.command c.in_ok-command.ensures in
    let e = by_command c.in_ok-command.command in
    come_or_not old mid (none_lost jobs t (drop i jobs) (table_of mid) c.loop-new.invariant.so_far) c.loop-new.invariant.come c.take_command.new.book
    (part_such (λ (u : List JobParts). length (table_of mid) ≤ length u) (table_of mid) e (table_of c.take_command.new.book) (omega arith) (omega (arith, longer))
    c.take_command.ensures.begun.table) c.take_command.ensures.still

pub returns-clause-keeper : goal.returns-clause-keeper
returns-clause-keeper g c =
    let mid = c.loop-new.book in
    come_or_not c.args.book.now mid (none_lost c.args.jobs.now (table_of c.args.book.now) (drop c.loop-new.new-index c.args.jobs.now) (table_of mid) c.loop-new.invariant.so_far)
    c.loop-new.invariant.come mid (omega arith) (λ spare. refl)

pub returns-clause-come : goal.returns-clause-come
returns-clause-come g c = c.loop-new.invariant.come
