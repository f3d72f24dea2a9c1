-- Jobs that are read one after the other.
use Rattle.std.proofs.Common.{◌≡◌, ℕ, ◌<◌, ◌≤◌, List, [], ◌∷◌, ◌++◌, Bool, true, false, ◌||◌, Ok, Some, length, map, refl, sym, ap, subst, ◌∙◌, append_assoc, arith, length-append}
use Rattle.std.specs.Prelude.{is_some, nat_lt, if◌then◌else◌}
use Rattle.std.specs.List.{count_by, AllByRecursion, IsDistinct, list_any}
use Rattle.std.specs.Str.{bytes_eq}
use Rattle.std.proofs.lemmas.Bool.{le-ltb, or_parts}
use Rattle.std.proofs.lemmas.List.{length-map, map-append}
use Rattle.std.proofs.lemmas.Map.Keys.{IsDistinct-cons, IsDistinct-head, IsDistinct-tail}
use Rattle.ic_jobs.specs.declared.command.Command.{Command}
use Rattle.ic_jobs.specs.declared.limits.TheConstants.{MAX_JOBS}
use Rattle.ic_jobs.specs.declared.reply.Reply.TheVariants.{Accepted, Refused}
use Rattle.ic_jobs.specs.declared.reply.Refusal.TheVariants.{Taken, Full}
use Rattle.ic_jobs.specs.Events.{after_command, outcome, refused}
use Rattle.ic_jobs.specs.Job.{JobParts}
use Rattle.ic_jobs.specs.Table.{job_named}
use Rattle.ic_lines.specs.Lines.{lines}
use Rattle.ic_lines.specs.Script.{ReadsScript}
use Rattle.ic_batch.specs.declared.jobs.NewJob.{NewJob}
use Rattle.ic_batch.specs.Jobs.{begun_by, names, submit_of}
use Rattle.ic_batch.specs.inner.Taking.{IsNext}
use Rattle.ic_batch.specs.Faults.{has_text}
use Rattle.ic_batch.proofs.NewLemmas.{bytes_eq-comm}
use Rattle.ic_batch.proofs.NumberLemmas.{lines_enough, LineLaws}

apart_more : (x : List ℕ) (jobs : List NewJob) (new : NewJob) → AllByRecursion (λ y. bytes_eq x y ≡ false) (names jobs) → bytes_eq x new.name ≡ false
    → AllByRecursion (λ y. bytes_eq x y ≡ false) (names (jobs ++ new ∷ []))
apart_more x [] new none other = (other, tt)
apart_more x (k ∷ jobs) new none other = (none.0, apart_more x jobs new none.1 other)

-- a job of another name goes after them
pub distinct_more : (jobs : List NewJob) (new : NewJob) → list_any (λ job. bytes_eq job.name new.name) jobs ≡ false → IsDistinct bytes_eq (names jobs)
    → IsDistinct bytes_eq (names (jobs ++ new ∷ []))
distinct_more [] new none distinct = IsDistinct-cons bytes_eq new.name [] tt distinct
distinct_more (x ∷ jobs) new none distinct =
    let parts = or_parts (bytes_eq x.name new.name) (list_any (λ job. bytes_eq job.name new.name) jobs) none in
    IsDistinct-cons bytes_eq x.name (names (jobs ++ new ∷ [])) (apart_more x.name jobs new (IsDistinct-head bytes_eq x.name (names jobs) distinct) parts.0)
    (distinct_more jobs new parts.1 (IsDistinct-tail bytes_eq x.name (names jobs) distinct))

-- these jobs are read, and these commands are to be looked at
pub record AreSoFar (text : List ℕ) (jobs : List NewJob) (rest : List Command) : Type 0 where
  pub read : ReadsScript text (Ok (map submit_of jobs ++ rest))
  pub distinct : IsDistinct bytes_eq (names jobs)
  pub few : length jobs ≤ MAX_JOBS

pub one_read : (text : List ℕ) (jobs : List NewJob) (new : NewJob) (command : Command) (rest : List Command) → IsNext jobs command new
    → AreSoFar text jobs (command ∷ rest) → AreSoFar text (jobs ++ new ∷ []) rest
one_read text jobs new command rest next so_far = record {
  read = subst (λ (l : List Command). ReadsScript text (Ok l))
      (ap (λ (c : Command). map submit_of jobs ++ c ∷ rest) next.submits ∙ sym (append_assoc (map submit_of jobs) (submit_of new ∷ []) rest)
      ∙ ap (λ (l : List Command). l ++ rest) (sym (map-append submit_of jobs (new ∷ [])))) so_far.read;
  distinct = distinct_more jobs new next.other so_far.distinct;
  few = omega (arith, next.room, length-append jobs (new ∷ []));
}

pub first_read : (text : List ℕ) (commands : List Command) (jobs : List NewJob) (rest : List Command) → jobs ≡ [] → rest ≡ commands → ReadsScript text (Ok commands)
    → AreSoFar text jobs rest
unfolding IsDistinct
first_read text commands jobs rest none all read =
    subst (λ (js : List NewJob). AreSoFar text js rest) (sym none) (record {
      read = subst (λ (l : List Command). ReadsScript text (Ok l)) (sym all) read;
      distinct = tt;
      few = omega arith;
    })

-- ---- what a table of jobs answers to a submit

-- whether one of the jobs has a name
pub named_begun : (name : List ℕ) (jobs : List NewJob) → is_some (job_named name (map begun_by jobs)) ≡ list_any (λ job. bytes_eq job.name name) jobs
named_begun name [] = refl
named_begun name (x ∷ xs) =
    by (bytes_eq name x.name) (named_begun name xs) ∙ ap (λ (b : Bool). b || list_any (λ job. bytes_eq job.name name) xs) (bytes_eq-comm name x.name)
  where
    by : (b : Bool) → is_some (job_named name (map begun_by xs)) ≡ list_any (λ job. bytes_eq job.name name) xs
        → is_some (if b then Some (begun_by x) else job_named name (map begun_by xs)) ≡ b || list_any (λ job. bytes_eq job.name name) xs
    by true rest = refl
    by false rest = rest

module _ (jobs : List NewJob) (new : NewJob) where
  abbrev t : List JobParts
  t = map begun_by jobs

  pub taken_is : list_any (λ job. bytes_eq job.name new.name) jobs ≡ true → (after_command t (submit_of new)).reply ≡ Refused Taken
  taken_is any = ap (λ (b : Bool). (if b then refused t Taken else (if nat_lt (length t) MAX_JOBS then outcome (t ++ begun_by new ∷ []) Accepted else refused t Full)).reply)
      (named_begun new.name jobs ∙ any)

  pub full_is : list_any (λ job. bytes_eq job.name new.name) jobs ≡ false → MAX_JOBS ≤ length jobs → (after_command t (submit_of new)).reply ≡ Refused Full
  full_is any many =
      let size : length t ≡ length jobs = length-map jobs begun_by in
      let over : nat_lt (length t) MAX_JOBS ≡ false = le-ltb (length t) MAX_JOBS (omega (arith, size, many)) in
      ap (λ (b : Bool). (if b then refused t Taken else (if nat_lt (length t) MAX_JOBS then outcome (t ++ begun_by new ∷ []) Accepted else refused t Full)).reply)
      (named_begun new.name jobs ∙ any)
      ∙ ap (λ (b : Bool). (if b then outcome (t ++ begun_by new ∷ []) Accepted else refused t Full).reply) over

-- ---- the line of a command that is refused

pub some_line : LineLaws → (text : List ℕ) (jobs : List NewJob) (command : Command) (rest : List Command) → AreSoFar text jobs (command ∷ rest)
    → length jobs < count_by has_text (lines text)
some_line laws text jobs command rest so_far =
    let enough = lines_enough laws text (map submit_of jobs ++ command ∷ rest) so_far.read in
    omega (arith, enough, length-append (map submit_of jobs) (command ∷ rest), length-map jobs submit_of)
