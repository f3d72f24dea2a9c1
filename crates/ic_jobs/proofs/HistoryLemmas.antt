-- Histories one after the other.
use Rattle.std.proofs.Common.{◌≡◌, List, [], ◌∷◌, ◌++◌, Option, None, Some, refl, ap, ◌∙◌}
use Rattle.std.specs.Option.{option_map}
use Rattle.ic_jobs.specs.declared.event.Entry.{Entry}
use Rattle.ic_jobs.specs.declared.reply.Reply.{Reply}
use Rattle.ic_jobs.specs.Job.{JobParts}
use Rattle.ic_jobs.specs.Events.{Outcome, IsAnswered, apply}
use Rattle.ic_jobs.specs.History.{table_after, replay, IsLegal}

pub replay-append : (t : List JobParts) (h k : List Entry) → replay t (h ++ k) ≡ replay (replay t h) k
replay-append t [] k = refl
replay-append t (e ∷ es) k = replay-append (table_after t e.event) es k

pub IsLegal-split : (t : List JobParts) (h k : List Entry) → IsLegal t (h ++ k) → IsLegal t h × IsLegal (replay t h) k
IsLegal-split t [] k legal = (tt, legal)
IsLegal-split t (e ∷ es) k legal =
    let rest = IsLegal-split (table_after t e.event) es k legal.1 in ((legal.0, rest.0), rest.1)

pub IsLegal-join : (t : List JobParts) (h k : List Entry) → IsLegal t h → IsLegal (replay t h) k → IsLegal t (h ++ k)
IsLegal-join t [] k first second = second
IsLegal-join t (e ∷ es) k first second = (first.0, IsLegal-join (table_after t e.event) es k first.1 second)

-- ---- one entry

replied_by : (t : List JobParts) (e : Entry) (o : Option Outcome) → apply t e.event ≡ o
    → option_map (λ p. p.reply) o ≡ Some e.reply → IsAnswered t e.event e.reply
replied_by t e None is replied = cc
replied_by t e (Some o) is replied =
    record { outcome = o; defined = is; replied = let same : o.reply ≡ e.reply = cc in same }

pub legal_is_answered : (t : List JobParts) (e : Entry) → IsLegal t (e ∷ []) → IsAnswered t e.event e.reply
legal_is_answered t e legal = replied_by t e (apply t e.event) refl legal.0

pub answered_is_legal : (t : List JobParts) (e : Entry) → IsAnswered t e.event e.reply → IsLegal t (e ∷ [])
answered_is_legal t e a =
    (ap (option_map (λ (o : Outcome). o.reply)) a.defined ∙ ap (λ (r : Reply). Some r) a.replied, tt)
