use Rattle.std.proofs.Common.{◌≡◌, ◌≤◌, ◌∙◌, ◌∷◌, ◌++◌, [], ℕ, List, true, false, inl, inr, refl, sym, ap, subst, Option, Some, length, arith}
use Rattle.std.proofs.lemmas.Option.{slice_get_within}
use Rattle.ic_jobs.specs.declared.limits.TheConstants.{MAX_JOBS}
use Rattle.std.specs.Prelude.{IfSome}
use Rattle.std.specs.Option.{option_map}
use Rattle.ic_flights.specs.Flight.{FlightParts}
use Rattle.ic_jobs.specs.declared.event.Event.TheVariants.{Round}
use Rattle.ic_jobs.specs.Job.{JobParts}
use Rattle.ic_jobs.specs.Landing.{due, RunsNamed}
use Rattle.ic_jobs.specs.Table.{IsTable}
use Rattle.ic_book.specs.Book.{is_broken, log_of, number_of, table_of}
use Rattle.ic_book.specs.Entries.{round_entry}
use Rattle.ic_serving.specs.Booked.{Advances}
use Rattle.ic_book.specs.declared.fault.BookFault.TheVariants.{Broken}
use Rattle.ic_serving.specs.Moments.{IsKeptOrNow}
use Rattle.ic_serving.specs.Faults.{ComesUnmade}
use Rattle.ic_book.specs.lemmas.Chains.{by_nothing}
use Rattle.ic_serving.proofs.OwnLemmas.{placed_due}
use Rattle.ic_serving.proofs.PageLemmas.{makes_round}
use Rattle.ic_serving.proofs.RefusalLemmas.{due_unmade, err_comes, err_due, err_told, not_true, not_unmade, whole_told}
use Rattle.ic_serving.proofs.StopLemmas.{leaves_still}
use Rattle.ic_serving.specs.lemmas.Leaving.{leaves_nothing}
use Rattle.ic_serving.proofs.rounds.make_round.Goals as goal

pub returns-clause-low : goal.returns-clause-low
returns-clause-low g c =
    let d = placed_due (due (table_of c.args.book.now) c.args.after) c.in-Some.job.0 c.in-Some.job.1 (sym c.in_ok-job.ensures.due ∙ c.in-Some.is) in
    let at = (c.due_is_the_next_running_job.ensures.job (table_of c.args.book.now) c.args.after d.0 d.1.0).runs in
    let within = slice_get_within (table_of c.args.book.now) d.0.place at.job at.there in
    let few : length (table_of c.args.book.now) ≤ MAX_JOBS = (let sound : IsTable (table_of c.args.book.now) = rw c.table.ensures at c.jobs-jobs.ensures.sound in sound.few) in
    let here : d.0.place ≡ c.in-Some.job.0 = d.1.1.0 in
    omega (arith, within, few, here)

pub returns-in_err-job-clause-crash : goal.returns-in_err-job-clause-crash
returns-in_err-job-clause-crash g c = leaves_nothing c.args.book.now (IsKeptOrNow c.args.book.now) (g.met.D.Disk.left_is_image _) c.facts.ensures.either
    c.facts.ensures.history.replayed (by_nothing c.args.book.now c.facts.ensures.step) (inl refl) (inr refl)

pub returns-in_err-round_due-clause-crash : goal.returns-in_err-round_due-clause-crash
returns-in_err-round_due-clause-crash g c = leaves_still c.args.book.now c.make_room.new.book c.round_due.new.book (IsKeptOrNow c.args.book.now)
    c.make_room.ensures.crash c.round_due.ensures.keeper c.round_due.ensures.done

pub returns-clause-crash : goal.returns-clause-crash
returns-clause-crash g c = leaves_still c.args.book.now c.make_room.new.book c.round_due.new.book (IsKeptOrNow c.args.book.now)
    c.make_room.ensures.crash c.round_due.ensures.keeper c.round_due.ensures.done

pub returns-clause-made : goal.returns-clause-made
returns-clause-made g c =
    let d = placed_due (due (table_of c.args.book.now) c.args.after) c.in-Some.job.0 c.in-Some.job.1 (sym c.in_ok-job.ensures.due ∙ c.in-Some.is) in
    let mid = c.make_room.new.book in
    let new = c.round_due.new.book in
    let reply = c.in_ok-round_due.ensures.added.0 in
    makes_round c.args.after c.in-Some.job.0 c.args.book.now mid new d.0 reply d.1.0 (sym d.1.1.0)
    c.make_room.ensures.stays c.in_ok-make_room.ensures.turned c.in_ok-make_room.ensures.begins
    (subst (λ (name : List ℕ). Advances (Round name) mid new) (sym d.1.1.1) c.in_ok-round_due.ensures.advances) c.round_due.ensures.start
    (c.in_ok-round_due.ensures.added.1 ∙ ap (λ (name : List ℕ). log_of mid ++ round_entry name reply ∷ []) (sym d.1.1.1))

pub returns-in_default-clause-crash : goal.returns-in_default-clause-crash
returns-in_default-clause-crash g c = leaves_nothing c.args.book.now (IsKeptOrNow c.args.book.now) (g.met.D.Disk.left_is_image _) c.facts.ensures.either
    c.facts.ensures.history.replayed (by_nothing c.args.book.now c.facts.ensures.step) (inl refl) (inr refl)

pub returns-in_err-job-clause-broken : goal.returns-in_err-job-clause-broken
returns-in_err-job-clause-broken g c = err_told c.from_residual.result c.in_err-job.field-0.0 Broken (is_broken c.args.book.now ≡ true)
    c.from_residual.ensures.1 c.in_err-job.ensures.broken

pub returns-in_err-job-clause-nothing : goal.returns-in_err-job-clause-nothing
returns-in_err-job-clause-nothing g c = λ none. err_due c.from_residual.result c.in_err-job.field-0.0 c.from_residual.ensures.1 (λ other. absurd (other c.in_err-job.ensures.only))

pub returns-in_default-clause-broken : goal.returns-in_default-clause-broken
returns-in_default-clause-broken g c = (λ h. cc, λ is. (let bad = c.in_ok-job.ensures.broken.1 is in cc))

pub returns-in_err-make_room-clause-broken : goal.returns-in_err-make_room-clause-broken
returns-in_err-make_room-clause-broken g c =
    let whole : is_broken c.args.book.now ≡ false = not_true (is_broken c.args.book.now) (λ is. (let bad = c.in_ok-job.ensures.broken.1 is in cc)) in
    whole_told c.from_residual-in_err-make_room.result c.in_err-make_room.field-0.0 (is_broken c.args.book.now) (is_broken c.make_room.new.book) (number_of c.make_room.new.book)
    c.from_residual-in_err-make_room.ensures.1 (c.in_err-make_room.ensures.fault.breaks whole) whole

pub returns-in_err-make_room-clause-nothing : goal.returns-in_err-make_room-clause-nothing
returns-in_err-make_room-clause-nothing g c = λ none.
    let d = placed_due (due (table_of c.args.book.now) c.args.after) c.in-Some.job.0 c.in-Some.job.1 (sym c.in_ok-job.ensures.due ∙ c.in-Some.is) in
    let is = d.1.0 in cc

pub returns-in_err-job-clause-blocked : goal.returns-in_err-job-clause-blocked
returns-in_err-job-clause-blocked g c = λ flight is blocked.
    due_unmade c.from_residual.result (err_due c.from_residual.result c.in_err-job.field-0.0 c.from_residual.ensures.1 (λ other. absurd (other c.in_err-job.ensures.only)))

pub returns-in_err-make_room-clause-blocked : goal.returns-in_err-make_room-clause-blocked
returns-in_err-make_room-clause-blocked g c = λ flight is blocked.
    err_comes c.from_residual-in_err-make_room.result c.in_err-make_room.field-0.0 ComesUnmade c.from_residual-in_err-make_room.ensures.1
    (not_unmade c.in_err-make_room.field-0.0 c.in_err-make_room.ensures.comes)

pub returns-in_err-round_due-clause-blocked : goal.returns-in_err-round_due-clause-blocked
returns-in_err-round_due-clause-blocked g c = λ flight is blocked.
    err_comes c.from_residual-in_err-round_due.result c.in_err-round_due.field-0.0 ComesUnmade c.from_residual-in_err-round_due.ensures.1
    (c.in_err-round_due.ensures.blocked flight (ap (λ (t : List JobParts). due t c.args.after) c.make_room.ensures.stays.table ∙ is) blocked)

pub returns-in_err-round_due-clause-broken : goal.returns-in_err-round_due-clause-broken
returns-in_err-round_due-clause-broken g c =
    let whole : is_broken c.args.book.now ≡ false = not_true (is_broken c.args.book.now) (λ is. (let bad = c.in_ok-job.ensures.broken.1 is in cc)) in
    let still : is_broken c.make_room.new.book ≡ false = c.in_ok-make_room.ensures.fault.ready whole in
    whole_told c.from_residual-in_err-round_due.result c.in_err-round_due.field-0.0 (is_broken c.args.book.now) (is_broken c.round_due.new.book) (number_of c.round_due.new.book)
    c.from_residual-in_err-round_due.ensures.1 (c.in_err-round_due.ensures.fault.breaks still) whole

pub returns-in_err-round_due-clause-nothing : goal.returns-in_err-round_due-clause-nothing
returns-in_err-round_due-clause-nothing g c = λ none.
    let d = placed_due (due (table_of c.args.book.now) c.args.after) c.in-Some.job.0 c.in-Some.job.1 (sym c.in_ok-job.ensures.due ∙ c.in-Some.is) in
    let is = d.1.0 in cc

pub returns-clause-broken : goal.returns-clause-broken
returns-clause-broken g c =
    let whole : is_broken c.args.book.now ≡ false = not_true (is_broken c.args.book.now) (λ is. (let bad = c.in_ok-job.ensures.broken.1 is in cc)) in
    (λ h. cc, λ is. (let bad : true ≡ false = cc in cc))

pub returns-in_err-round_due-clause-still : goal.returns-in_err-round_due-clause-still
returns-in_err-round_due-clause-still g c = λ room. c.round_due.ensures.keeper ∙ (c.make_room.ensures.room room).same_keeper

pub returns-clause-still : goal.returns-clause-still
returns-clause-still g c = λ room. c.round_due.ensures.keeper ∙ (c.make_room.ensures.room room).same_keeper

pub returns-in_err-make_room-clause-still : goal.returns-in_err-make_room-clause-still
returns-in_err-make_room-clause-still g c = λ room. (c.make_room.ensures.room room).same_keeper

pub round_due-requires-clause-runs : goal.round_due-requires-clause-runs
round_due-requires-clause-runs g c = subst (λ (t : List JobParts). RunsNamed t c.in-Some.job.1) (sym c.make_room.ensures.stays.table)
    (subst (λ (o : Option (ℕ × List ℕ)). IfSome o (λ due. RunsNamed (table_of c.args.book.now) due.1)) c.in-Some.is c.in_ok-job.ensures.runs)

pub round_due-requires-clause-due : goal.round_due-requires-clause-due
round_due-requires-clause-due g c =
    let d = placed_due (due (table_of c.args.book.now) c.args.after) c.in-Some.job.0 c.in-Some.job.1 (sym c.in_ok-job.ensures.due ∙ c.in-Some.is) in
    ap (λ (t : List JobParts). option_map (λ (f : FlightParts). f.name) (due t c.args.after)) c.make_room.ensures.stays.table
    ∙ ap (option_map (λ (f : FlightParts). f.name)) d.1.0 ∙ ap (λ (name : List ℕ). Some name) d.1.1.1
