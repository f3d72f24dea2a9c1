-- Lemmas: what entries weigh, one after the other.
use Rattle.std.proofs.Common.{◌≡◌, ◌∙◌, ◌+◌, ◌≤◌, List, [], ◌∷◌, ◌++◌, map, length, refl, ap, arith}
use Rattle.std.proofs.lemmas.List.{map-append}
use Rattle.std.proofs.lemmas.List.Sums.{sum_by-append, sum_by-cons}
use Rattle.ic_jobs.specs.declared.command.Command.TheVariants.{Submit, CopyJob, Pause, Resume, Cancel, Fetch, List as list_jobs}
use Rattle.ic_jobs.specs.declared.event.Event.{Event}
use Rattle.ic_jobs.specs.declared.event.Event.TheVariants.{Command as by_command, Round}
use Rattle.ic_jobs.specs.declared.event.Entry.{Entry}
use Rattle.ic_book.specs.Weight.{weight, weigh, weight_of}

pub weigh_both : (xs ys : List Event) → weigh (xs ++ ys) ≡ weigh xs + weigh ys
weigh_both xs ys = sum_by-append weight xs ys

pub weigh_first : (e : Event) (es : List Event) → weigh (e ∷ es) ≡ weight e + weigh es
weigh_first e es = sum_by-cons weight e es

-- a log that goes on by some entries
pub weigh_on : (log new more : List Entry) (es : List Event) → new ≡ log ++ more → map (λ (e : Entry). e.event) more ≡ es → weight_of new ≡ weight_of log + weigh es
weigh_on log new more es is events =
    ap weight_of is ∙ ap weigh (map-append (λ (e : Entry). e.event) log more) ∙ weigh_both (map (λ (e : Entry). e.event) log) (map (λ (e : Entry). e.event) more)
    ∙ ap (λ (xs : List Event). weight_of log + weigh xs) events

pub weigh_one : (log new : List Entry) (e : Entry) → new ≡ log ++ e ∷ [] → weight_of new ≡ weight_of log + weight e.event
weigh_one log new e is =
    let one = weigh_first e.event [] in
    let all = weigh_on log new (e ∷ []) (e.event ∷ []) is refl in
    omega (arith, one, all)

-- each entry weighs something
some : (e : Event) → 1 ≤ weight e
some (by_command (Submit name system budget)) = omega arith
some (by_command (CopyJob old new)) = omega arith
some (by_command (Pause name)) = omega arith
some (by_command (Resume name)) = omega arith
some (by_command (Cancel name)) = omega arith
some (by_command (Fetch name)) = omega arith
some (by_command list_jobs) = omega arith
some (Round name) = omega arith

-- so there are no more entries than they weigh
pub length_weighs : (log : List Entry) → length log ≤ weight_of log
length_weighs [] = omega arith
length_weighs (e ∷ es) =
    let first = weigh_first e.event (map (λ (x : Entry). x.event) es) in
    omega (arith, first, some e.event, length_weighs es)
