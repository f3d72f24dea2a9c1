use Rattle.std.proofs.Common.{◌≡◌, ◌∙◌, false, inl, inr, length, refl, sym, ap, arith}
use Rattle.std.proofs.lemmas.Bool.{cases_lt}
use Rattle.ic_slots.specs.declared.keeper.Keeper.{Keeper}
use Rattle.ic_slots.specs.Keeper as keeper_parts
use Rattle.ic_book.specs.Book.{is_broken, kept_of, start_of, log_of}
use Rattle.ic_book.specs.lemmas.Weights.{length_weighs}
use Rattle.ic_jobs.specs.History.{replay}
use Rattle.ic_serving.specs.Booked.{last_kept}
use Rattle.ic_serving.specs.Moments.{IsKeptOrNow}
use Rattle.ic_book.specs.lemmas.Chains.{by_keep, by_nothing}
use Rattle.ic_serving.proofs.RefusalLemmas.{err_broken, not_true}
use Rattle.ic_serving.proofs.StopLemmas.{leaves_call}
use Rattle.ic_serving.specs.lemmas.Leaving.{leaves_nothing}
use Rattle.ic_serving.proofs.rounds.make_room.Goals as goal

pub returns-in_err-new_page-clause-crash : goal.returns-in_err-new_page-clause-crash
returns-in_err-new_page-clause-crash g c = leaves_call c.args.book.now c.new_page.new.self (last_kept c.args.book.now) (replay (start_of c.args.book.now) (log_of c.args.book.now))
    (IsKeptOrNow c.args.book.now) c.new_page.ensures.crash.keeps c.new_page.ensures.crash.made c.new_page.ensures.crash.any_moment
    (by_keep c.new_page.result c.args.book.now c.new_page.new.self c.new_page.ensures.step) (inl refl) (inr c.facts.ensures.history.replayed)

pub returns-clause-crash : goal.returns-clause-crash
returns-clause-crash g c = leaves_call c.args.book.now c.new_page.new.self (last_kept c.args.book.now) (replay (start_of c.args.book.now) (log_of c.args.book.now))
    (IsKeptOrNow c.args.book.now) c.new_page.ensures.crash.keeps c.new_page.ensures.crash.made c.new_page.ensures.crash.any_moment
    (by_keep c.new_page.result c.args.book.now c.new_page.new.self c.new_page.ensures.step) (inl refl) (inr c.facts.ensures.history.replayed)

pub returns-then-weight-limit-clause-crash : goal.returns-then-weight-limit-clause-crash
returns-then-weight-limit-clause-crash g c = leaves_nothing c.args.book.now (IsKeptOrNow c.args.book.now) (g.met.D.Disk.left_is_image _) c.facts.ensures.either
    c.facts.ensures.history.replayed (by_nothing c.args.book.now c.facts.ensures.step) (inl refl) (inr refl)

pub returns-in_err-new_page-clause-broken : goal.returns-in_err-new_page-clause-broken
returns-in_err-new_page-clause-broken g c = λ is.
    err_broken c.from_residual.result c.in_err-new_page.field-0.0 c.from_residual.ensures.1 (c.in_err-new_page.ensures.fault.broken.1 is)

pub returns-clause-still : goal.returns-clause-still
returns-clause-still g c =
    c.in_ok-new_page.ensures.all.ready ∙ sym (not_true (is_broken c.args.book.now) (λ is. (let bad = c.in_ok-new_page.ensures.fault.broken.1 is in cc)))

-- where the numbers of the slots are used up, nothing was to be kept
pub returns-clause-worn : goal.returns-clause-worn
returns-clause-worn g c = λ worn.
    let book = c.args.book.now in
    let whole : is_broken book ≡ false = not_true (is_broken book) (λ is. (let bad = c.in_ok-new_page.ensures.fault.broken.1 is in cc)) in
    elim (cases_lt (kept_of book) (length (log_of book))) [
      | inl less ↦ (let told = c.in_ok-new_page.ensures.worn.1 (whole, less, worn) in cc)
      | inr all ↦ ap (λ (k : Keeper g.row.D.Denot g.D.Disk). keeper_parts.number_of k)
          (c.in_ok-new_page.ensures.all.idle (let within = c.facts.ensures.history.within in omega (arith, all, within))) ∙ worn
    ]

pub returns-then-weight-limit-clause-short : goal.returns-then-weight-limit-clause-short
returns-then-weight-limit-clause-short g c =
    let light = c.if-weight-limit.true in
    let counted = c.weight-weight.ensures in
    let long = length_weighs (log_of c.args.book.now) in
    let most = c.requires.limit.1 in
    omega (arith, light, counted, long, most)

pub returns-clause-spare : goal.returns-clause-spare
returns-clause-spare g c = (let some = c.requires.limit.0 in rw c.in_ok-new_page.ensures.log (omega (arith, some)))
