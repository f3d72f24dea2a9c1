-- Histories: the events that came to a table, each with its reply.
use Rattle.std.specs.Prelude.{◌≡◌, List, [], ◌∷◌, Option, Some}
use Rattle.std.specs.Option.{option_map, option_map_or}
use Rattle.ic_jobs.specs.declared.event.Event.{Event}
use Rattle.ic_jobs.specs.declared.event.Entry.{Entry}
use Rattle.ic_jobs.specs.declared.reply.Reply.{Reply}
use Rattle.ic_jobs.specs.Job.{JobParts}
use Rattle.ic_jobs.specs.Events.{apply}

-- the table after an event; an event that isn't defined leaves it
abbrev pub table_after : List JobParts → Event → List JobParts
table_after t e = option_map_or (λ o. o.table) (apply t e) t

-- the reply to an event, where it is defined
abbrev pub reply_to : List JobParts → Event → Option Reply
reply_to t e = option_map (λ o. o.reply) (apply t e)

-- the table after all events of a history
abbrev pub replay : List JobParts → List Entry → List JobParts
replay t [] = t
replay t (e ∷ es) = replay (table_after t e.event) es

-- At each entry the event is defined, and the entry has its reply.
abbrev pub IsLegal : List JobParts → List Entry → Type 0
IsLegal t [] = Unit {0}
IsLegal t (e ∷ es) = (reply_to t e.event ≡ Some e.reply) × IsLegal (table_after t e.event) es
