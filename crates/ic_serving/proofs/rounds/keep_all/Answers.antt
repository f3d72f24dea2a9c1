use Rattle.std.proofs.Common.{◌≡◌, ◌-◌, ◌^◌, ◌<◌, Ok, inl, inr, [], true, false, length, refl}
use Rattle.ic_book.specs.Book.{is_broken, start_of, log_of, kept_of, number_of}
use Rattle.ic_book.specs.declared.fault.BookFault.TheVariants.{Broken, Worn}
use Rattle.ic_jobs.specs.History.{replay}
use Rattle.ic_serving.specs.Booked.{last_kept}
use Rattle.ic_serving.specs.Moments.{IsKeptOrNow}
use Rattle.ic_book.specs.lemmas.Chains.{by_keep, keep_moves}
use Rattle.ic_serving.proofs.RefusalLemmas.{err_told, kept_well, ok_told}
use Rattle.ic_serving.proofs.StopLemmas.{leaves_call}
use Rattle.ic_serving.proofs.rounds.keep_all.Goals as goal

pub returns-in_err-keep-clause-crash : goal.returns-in_err-keep-clause-crash
returns-in_err-keep-clause-crash g c = leaves_call c.args.book.now c.keep.new.self (last_kept c.args.book.now) (replay (start_of c.args.book.now) (log_of c.args.book.now))
    (IsKeptOrNow c.args.book.now) c.keep.ensures.crash.keeps c.keep.ensures.crash.made c.keep.ensures.crash.any_moment
    (by_keep c.keep.result c.args.book.now c.keep.new.self c.keep.ensures.step) (inl refl) (inr c.facts.ensures.history.replayed)

pub returns-clause-crash : goal.returns-clause-crash
returns-clause-crash g c = leaves_call c.args.book.now c.keep.new.self (last_kept c.args.book.now) (replay (start_of c.args.book.now) (log_of c.args.book.now))
    (IsKeptOrNow c.args.book.now) c.keep.ensures.crash.keeps c.keep.ensures.crash.made c.keep.ensures.crash.any_moment
    (by_keep c.keep.result c.args.book.now c.keep.new.self c.keep.ensures.step) (inl refl) (inr c.facts.ensures.history.replayed)

pub returns-clause-made : goal.returns-clause-made
returns-clause-made g c = record {
  done = by_keep {T = Unit {0}} (Ok tt) c.args.book.now c.keep.new.self c.in_ok-keep.ensures.step;
  earlier = [];
  last = keep_moves {T = Unit {0}} (Ok tt) c.args.book.now c.keep.new.self c.in_ok-keep.ensures.step;
}

pub returns-in_err-keep-clause-broken : goal.returns-in_err-keep-clause-broken
returns-in_err-keep-clause-broken g c = err_told c.from_residual.result c.in_err-keep.field-0.0 Broken (is_broken c.args.book.now ≡ true)
    c.from_residual.ensures.1 c.in_err-keep.ensures.fault.broken

pub returns-in_err-keep-clause-worn : goal.returns-in_err-keep-clause-worn
returns-in_err-keep-clause-worn g c = err_told c.from_residual.result c.in_err-keep.field-0.0 Worn
    ((is_broken c.args.book.now ≡ false) × (kept_of c.args.book.now < length (log_of c.args.book.now)) × (number_of c.args.book.now ≡ 2 ^ 64 - 1))
    c.from_residual.ensures.1 c.in_err-keep.ensures.worn

pub returns-in_err-keep-clause-ready : goal.returns-in_err-keep-clause-ready
returns-in_err-keep-clause-ready g c = λ all whole. absurd (kept_well c.in_err-keep.field-0.0 c.args.book.now c.keep.new.self
    c.in_err-keep.ensures.fault.broken c.in_err-keep.ensures.worn c.in_err-keep.ensures.others c.in_err-keep.ensures.fault.breaks c.keep.ensures.all.idle all whole)

pub returns-clause-broken : goal.returns-clause-broken
returns-clause-broken g c = ok_told tt tt Broken (is_broken c.args.book.now ≡ true) c.in_ok-keep.ensures.fault.broken

pub returns-clause-worn : goal.returns-clause-worn
returns-clause-worn g c = ok_told tt tt Worn
    ((is_broken c.args.book.now ≡ false) × (kept_of c.args.book.now < length (log_of c.args.book.now)) × (number_of c.args.book.now ≡ 2 ^ 64 - 1))
    c.in_ok-keep.ensures.worn
