use Rattle.std.proofs.Common.{◌≡◌, List, length, map, take, drop, sym, ap, subst, ◌∙◌, arith, length-append}
use Rattle.std.specs.List.{AllByRecursion}
use Rattle.std.proofs.Math.Seq.{drop-append_seam, take-append_seam}
use Rattle.ic_jobs.specs.declared.event.Event.{Event}
use Rattle.ic_jobs.specs.declared.event.Entry.{Entry}
use Rattle.ic_book.specs.Book.{log_of}
use Rattle.ic_serving.specs.Grown.{GoesOn}
use Rattle.ic_serving_laws.proofs.laws.a_page_goes_on.Goals as goal

pub returns-clause-start : goal.returns-clause-start
returns-clause-start g c = λ es goes. goes.start

pub returns-clause-front : goal.returns-clause-front
returns-clause-front g c = λ es goes. ap (take (length (log_of c.args.before.now))) goes.log ∙ take-append_seam (log_of c.args.before.now) goes.entries

pub returns-clause-events : goal.returns-clause-events
returns-clause-events g c = λ es goes.
    ap (λ (h : List Entry). map (λ (e : Entry). e.event) (drop (length (log_of c.args.before.now)) h)) goes.log
    ∙ ap (map (λ (e : Entry). e.event)) (drop-append_seam (log_of c.args.before.now) goes.entries) ∙ goes.events

pub returns-clause-senders : goal.returns-clause-senders
returns-clause-senders g c = λ es goes.
    let after = ap (drop (length (log_of c.args.before.now))) goes.log ∙ drop-append_seam (log_of c.args.before.now) goes.entries in
    subst (λ (h : List Entry). AllByRecursion (λ (e : Entry). e.who ≡ 0) h) (sym after) goes.senders

pub returns-clause-within : goal.returns-clause-within
returns-clause-within g c = λ es w.
    let sum = ap length w.parted ∙ length-append w.front w.rest in
    let front : take (length w.front) es ≡ w.front = ap (take (length w.front)) w.parted ∙ take-append_seam w.front w.rest in
    (length w.front, omega (arith, sum), subst (λ (f : List Event). GoesOn f c.args.before.now c.args.after.now) (sym front) w.goes)

pub returns-clause-room : goal.returns-clause-room
returns-clause-room g c = λ limit es. (λ h. h, λ h. h)
