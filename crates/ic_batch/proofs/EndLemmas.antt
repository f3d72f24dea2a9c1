-- Jobs at their ends, and rounds that are left until then.
use Rattle.std.proofs.Common.{◌≡◌, ℕ, List, [], ◌∷◌, ◌++◌, Bool, true, false, Option, Some, refl, sym, ap, subst, ◌∙◌}
use Rattle.std.specs.Prelude.{IfSome, IsSome, if◌then◌else◌}
use Rattle.std.specs.List.{AllByRecursion, flat_map}
use Rattle.std.proofs.lemmas.List.Concat.{flat_map-cons}
use Rattle.ic_jobs.specs.Job.{JobParts}
use Rattle.ic_jobs.specs.Table.{is_named, job_named}
use Rattle.ic_jobs.specs.Events.{outcome, unless_missing}
use Rattle.ic_jobs.specs.declared.reply.Reply.TheVariants.{Shown}
use Rattle.ic_jobs.specs.Shown.{shown}
use Rattle.ic_commands.specs.ReplyText.{reply_text, shown_text}
use Rattle.ic_lines.specs.Lines.{ended}
use Rattle.ic_batch.specs.declared.jobs.NewJob.{NewJob}
use Rattle.ic_batch.specs.Jobs.{begun_by}
use Rattle.ic_batch.specs.Way.{goes_on, fetched, fetched_all, IsOnWay, AreOnWay, IsTextOf}
use Rattle.ic_batch.proofs.JobLemmas.{some_there}

-- what is so of each job of a table is so of the one of a name
pub named_one : (P : JobParts → Type 0) (name : List ℕ) (t : List JobParts) (j : JobParts) → AllByRecursion P t → job_named name t ≡ Some j → P j
named_one P name [] j all there = cc
named_one P name (x ∷ xs) j all there = by (is_named name x) there (named_one P name xs j all.1)
  where
    by : (b : Bool) → ◌≡◌ {A = Option JobParts} (if b then Some x else job_named name xs) (Some j) → (job_named name xs ≡ Some j → P j) → P j
    by true there later = let same : x ≡ j = cc in subst P same all.0
    by false there later = later there

fetched_is : (t : List JobParts) (new : NewJob) (j : JobParts) → job_named new.name t ≡ Some j → fetched t new ≡ ended (shown_text (shown j))
fetched_is t new j there = ap (λ (o : Option JobParts). ended (reply_text (unless_missing t (λ (k : JobParts). outcome t (Shown (shown k))) o).reply)) there

-- the text of jobs that have come to their ends
pub text_of_ends : (most : ℕ) (jobs : List NewJob) (t : List JobParts) → AreOnWay most jobs t → AllByRecursion (λ new. IsSome (job_named new.name t)) jobs
    → AllByRecursion (λ j. goes_on most j ≡ false) t → IsTextOf most jobs (fetched_all jobs t)
text_of_ends most [] t ways there over = ([], tt, refl)
text_of_ends most (new ∷ jobs) t ways there over =
    let job = some_there (job_named new.name t) there.0 in
    let rest = text_of_ends most jobs t ways.1 there.1 over in
    let way = subst (λ (o : Option JobParts). IfSome o (IsOnWay most (begun_by new))) job.1 ways.0 in
    let stands = named_one (λ j. goes_on most j ≡ false) new.name t job.0 over job.1 in (
      job.0 ∷ rest.0,
      (record { on_way = way; ends = stands }, rest.1),
      flat_map-cons (fetched t) new jobs ∙ ap (λ (l : List ℕ). l ++ flat_map (fetched t) jobs) (fetched_is t new job.0 job.1)
          ∙ ap (λ (l : List ℕ). ended (shown_text (shown job.0)) ++ l) rest.2 ∙ sym (flat_map-cons (λ (j : JobParts). ended (shown_text (shown j))) job.0 rest.0),
    )
