-- Jobs as their history tells them.
use Rattle.std.proofs.Common.{◌≡◌, ℕ, List, [], sym, subst}
use Rattle.ic_jobs.specs.declared.event.Entry.{Entry}
use Rattle.ic_jobs.specs.Job.{JobParts}
use Rattle.ic_jobs.specs.Table.{job_named}
use Rattle.ic_jobs.specs.History.{replay, IsLegal}
use Rattle.ic_jobs.specs.Life.{life, IsAsLived}
use Rattle.ic_lives.specs.Headline.{AreIterates}

abbrev pub Lives : Type 0
Lives = (name : List ℕ) (h : List Entry) → IsLegal [] h → IsAsLived (job_named name (replay [] h)) (life name h)

pub are_iterates : Lives → (h : List Entry) (table : List JobParts) → IsLegal [] h → table ≡ replay [] h → AreIterates h table
are_iterates lives h table legal same name = subst (λ (t : List JobParts). IsAsLived (job_named name t) (life name h)) (sym same) (lives name h legal)
