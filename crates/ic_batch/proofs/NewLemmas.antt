-- Jobs that are missing in a table, and their submits.
use Rattle.std.proofs.Common.{◌≡◌, ℕ, zero, suc, ◌+◌, ◌<◌, ◌≤◌, List, [], ◌∷◌, ◌++◌, Bool, true, false, Option, None, length, map, drop, refl, sym, ap, subst, ◌∙◌, append-nil, append_assoc, length-append, arith}
use Rattle.std.specs.Prelude.{is_some, not, nat_lt, if◌then◌else◌}
use Rattle.std.specs.List.{AllByRecursion, IsDistinct}
use Rattle.std.specs.Str.{bytes_eq}
use Rattle.std.proofs.lemmas.List.{map-append, length-map}
use Rattle.std.proofs.lemmas.Bool.{lt-ltb}
use Rattle.std.proofs.lemmas.Bool.Decides.{same_from_decides}
use Rattle.std.proofs.lemmas.Slice.Eq.{bytes_eq-Decides}
use Rattle.std.proofs.lemmas.Map.Keys.{IsDistinct-head, IsDistinct-tail}
use Rattle.ic_jobs.specs.declared.command.Command.{Command}
use Rattle.ic_jobs.specs.declared.limits.TheConstants.{MAX_JOBS}
use Rattle.ic_jobs.specs.declared.event.Event.TheVariants.{Command as by_command}
use Rattle.ic_jobs.specs.declared.reply.Reply.TheVariants.{Accepted}
use Rattle.ic_jobs.specs.declared.reply.Refusal.TheVariants.{Taken, Full}
use Rattle.ic_jobs.specs.Job.{JobParts}
use Rattle.ic_jobs.specs.Table.{job_named}
use Rattle.ic_jobs.specs.Events.{Outcome, after_command, outcome, refused}
use Rattle.ic_jobs.specs.History.{table_after}
use Rattle.ic_batch.specs.declared.jobs.NewJob.{NewJob}
use Rattle.ic_batch.specs.Jobs.{begun_by, names, submit_of}
use Rattle.ic_batch.specs.Way.{missing, all_of}
use Rattle.ic_batch.specs.inner.Staying.{AreBegun}
use Rattle.ic_batch.proofs.JobLemmas.{same_name, is_same}
use Rattle.ic_batch.proofs.LoopLemmas.{none_is}
use Rattle.ic_batch.proofs.WayLemmas.{OthersStay}

pub swapped : (a b : List ℕ) → bytes_eq a b ≡ true → bytes_eq b a ≡ true
swapped a b is = is_same b a (sym (same_name a b is))

pub bytes_eq-comm : (a b : List ℕ) → bytes_eq a b ≡ bytes_eq b a
bytes_eq-comm a b = same_from_decides {P = a ≡ b} (bytes_eq a b) (bytes_eq b a) (bytes_eq-Decides a b) (λ is. sym (same_name b a is), λ same. is_same b a (sym same))

-- ---- the submit of one that is missing

pub put : (t : List JobParts) (new : NewJob) → job_named new.name t ≡ None → length t < MAX_JOBS
    → after_command t (submit_of new) ≡ outcome (t ++ begun_by new ∷ []) Accepted
put t new none room =
    ap (λ (o : Option JobParts). if is_some o then refused t Taken else (if nat_lt (length t) MAX_JOBS then outcome (t ++ begun_by new ∷ []) Accepted else refused t Full)) none
    ∙ ap (λ (b : Bool). if b then outcome (t ++ begun_by new ∷ []) Accepted else refused t Full) (lt-ltb (length t) MAX_JOBS room)

pub put_table : (t : List JobParts) (new : NewJob) → job_named new.name t ≡ None → length t < MAX_JOBS
    → table_after t (by_command (submit_of new)) ≡ t ++ begun_by new ∷ []
put_table t new none room = ap (λ (o : Outcome). o.table) (put t new none room)

-- ---- those that are missing

abbrev pub is_new : List JobParts → NewJob → Bool
is_new t new = not (is_some (job_named new.name t))

pub new_here : (t u : List JobParts) (new : NewJob) (b : Bool) → t ≡ u → b ≡ is_new t new → is_new u new ≡ b
new_here t u new b same is = ap (λ (v : List JobParts). is_new v new) (sym same) ∙ sym is

pub more_missing : (t : List JobParts) (new : NewJob) (jobs : List NewJob) → is_new t new ≡ true → missing t (new ∷ jobs) ≡ new ∷ missing t jobs
more_missing t new jobs is = rw is refl

pub not_missing : (t : List JobParts) (new : NewJob) (jobs : List NewJob) → is_new t new ≡ false → missing t (new ∷ jobs) ≡ missing t jobs
not_missing t new jobs is = rw is refl

-- counting them
pub one_missing : (t : List JobParts) (new : NewJob) (jobs rest : List NewJob) (count all : ℕ) → jobs ≡ new ∷ rest → is_new t new ≡ true → count + length (missing t jobs) ≡ all
    → (count + 1) + length (missing t rest) ≡ all
one_missing t new jobs rest count all split is so_far =
    let size : length (missing t jobs) ≡ length (new ∷ missing t rest) = ap (λ (l : List NewJob). length (missing t l)) split ∙ ap length (more_missing t new rest is) in
    omega (arith, size, so_far)

pub no_missing : (t : List JobParts) (new : NewJob) (jobs rest : List NewJob) (count all : ℕ) → jobs ≡ new ∷ rest → is_new t new ≡ false → count + length (missing t jobs) ≡ all
    → count + length (missing t rest) ≡ all
no_missing t new jobs rest count all split is so_far =
    let size : length (missing t jobs) ≡ length (missing t rest) = ap (λ (l : List NewJob). length (missing t l)) split ∙ ap length (not_missing t new rest is) in
    omega (arith, size, so_far)

-- The first of some jobs are submitted where they were missing: these are to come, and the table has none of their names more.
pub record AreSubmitted (jobs : List NewJob) (t : List JobParts) (rest : List NewJob) (u : List JobParts) : Type 0 where
  pub front : List NewJob
  pub parted : missing t jobs ≡ front ++ missing t rest
  pub table : u ≡ t ++ map begun_by front
  pub others : AllByRecursion (λ k. job_named k.name u ≡ job_named k.name t) rest

none_more : (t : List JobParts) (jobs : List NewJob) → AllByRecursion (λ k. job_named k.name t ≡ job_named k.name t) jobs
none_more t [] = tt
none_more t (k ∷ jobs) = (refl, none_more t jobs)

pub none_yet : (jobs : List NewJob) (t : List JobParts) → AreSubmitted jobs t jobs t
none_yet jobs t = record { front = []; parted = refl; table = sym (append-nil t); others = none_more t jobs }

pub begun_so_far : (jobs : List NewJob) (t : List JobParts) (rest : List NewJob) (u : List JobParts) → AreSubmitted jobs t rest u → AreBegun jobs t u
begun_so_far jobs t rest u so_far = record { front = so_far.front; rest = missing t rest; parted = so_far.parted; table = so_far.table }

pub all_begun : (jobs : List NewJob) (t u : List JobParts) → AreSubmitted jobs t [] u → u ≡ all_of jobs t
all_begun jobs t u so_far = so_far.table ∙ ap (λ (l : List NewJob). t ++ map begun_by l) (sym (append-nil so_far.front) ∙ sym so_far.parted)

module _ (jobs : List NewJob) (t : List JobParts) (new : NewJob) (rest : List NewJob) (u : List JobParts) (so_far : AreSubmitted jobs t (new ∷ rest) u) where
  here : is_new u new ≡ is_new t new
  here = ap (λ (o : Option JobParts). not (is_some o)) so_far.others.0

  -- one that is there is passed over
  pub passed : is_new u new ≡ false → AreSubmitted jobs t rest u
  passed there = record {
    front = so_far.front;
    parted = so_far.parted ∙ ap (λ (l : List NewJob). so_far.front ++ l) (not_missing t new rest (sym here ∙ there));
    table = so_far.table;
    others = so_far.others.1;
  }

  many : missing t jobs ≡ so_far.front ++ new ∷ missing t rest → length t + length (missing t jobs) ≤ MAX_JOBS → length u < MAX_JOBS
  many parted room =
      let sizes : length (missing t jobs) ≡ length so_far.front + length (new ∷ missing t rest) = ap length parted ∙ length-append so_far.front (new ∷ missing t rest) in
      let size : length u ≡ length t + length so_far.front = ap length so_far.table ∙ length-append t (map begun_by so_far.front) ∙ ap (λ (n : ℕ). length t + n) (length-map so_far.front begun_by) in
      omega (arith, sizes, size, room)

  -- one more is there
  longer : is_new u new ≡ true → length t + length (missing t jobs) ≤ MAX_JOBS → length (table_after u (by_command (submit_of new))) ≡ length u + 1
  longer is room =
      let parted : missing t jobs ≡ so_far.front ++ new ∷ missing t rest = so_far.parted ∙ ap (λ (l : List NewJob). so_far.front ++ l) (more_missing t new rest (sym here ∙ is)) in
      ap length (put_table u new (none_is (job_named new.name u) is) (many parted room)) ∙ length-append u (begun_by new ∷ [])

  others_stay : OthersStay → (ks : List NewJob) → AllByRecursion (λ k. bytes_eq k.name new.name ≡ false) ks → AllByRecursion (λ k. job_named k.name u ≡ job_named k.name t) ks
      → AllByRecursion (λ k. job_named k.name (table_after u (by_command (submit_of new))) ≡ job_named k.name t) ks
  others_stay law [] apart same = tt
  others_stay law (k ∷ ks) apart same = (law u (by_command (submit_of new)) k.name apart.0 ∙ same.0, others_stay law ks apart.1 same.1)

  -- one that is missing is submitted
  pub submitted : OthersStay → is_new u new ≡ true → AllByRecursion (λ k. bytes_eq k.name new.name ≡ false) rest → length t + length (missing t jobs) ≤ MAX_JOBS
      → AreSubmitted jobs t rest (table_after u (by_command (submit_of new)))
  submitted law is apart room =
      let parted : missing t jobs ≡ so_far.front ++ new ∷ missing t rest = so_far.parted ∙ ap (λ (l : List NewJob). so_far.front ++ l) (more_missing t new rest (sym here ∙ is)) in
      record {
        front = so_far.front ++ new ∷ [];
        parted = parted ∙ sym (append_assoc so_far.front (new ∷ []) (missing t rest));
        table = put_table u new (none_is (job_named new.name u) is) (many parted room) ∙ ap (λ (l : List JobParts). l ++ begun_by new ∷ []) so_far.table
            ∙ append_assoc t (map begun_by so_far.front) (begun_by new ∷ []) ∙ ap (λ (l : List JobParts). t ++ l) (sym (map-append begun_by so_far.front (new ∷ [])));
        others = others_stay law rest apart so_far.others.1;
      }

-- the table has had no fewer jobs since
pub none_lost : (jobs : List NewJob) (t : List JobParts) (rest : List NewJob) (u : List JobParts) → AreSubmitted jobs t rest u → length t ≤ length u
none_lost jobs t rest u so_far = (let long = ap length so_far.table ∙ length-append t (map begun_by so_far.front) in omega (arith, long))

-- the jobs after one have other names
apart_from : (x : List ℕ) (jobs : List NewJob) → AllByRecursion (λ y. bytes_eq x y ≡ false) (names jobs) → AllByRecursion (λ k. bytes_eq k.name x ≡ false) jobs
apart_from x [] none = tt
apart_from x (k ∷ jobs) none = (bytes_eq-comm k.name x ∙ none.0, apart_from x jobs none.1)

distinct_from : (jobs : List NewJob) (i : ℕ) → IsDistinct bytes_eq (names jobs) → IsDistinct bytes_eq (names (drop i jobs))
distinct_from jobs zero distinct = distinct
distinct_from [] (suc i) distinct = distinct
distinct_from (x ∷ xs) (suc i) distinct = distinct_from xs i (IsDistinct-tail bytes_eq x.name (names xs) distinct)

pub after_apart : (jobs : List NewJob) (i : ℕ) (new : NewJob) (rest : List NewJob) → drop i jobs ≡ new ∷ rest → IsDistinct bytes_eq (names jobs)
    → AllByRecursion (λ k. bytes_eq k.name new.name ≡ false) rest
after_apart jobs i new rest split distinct =
    let is = subst (λ (l : List NewJob). IsDistinct bytes_eq (names l)) split (distinct_from jobs i distinct) in
    apart_from new.name rest (IsDistinct-head bytes_eq new.name (names rest) is)

-- the next one of a list of jobs
module _ (jobs : List NewJob) (t : List JobParts) (i : ℕ) (new : NewJob) (u : List JobParts) (split : drop i jobs ≡ new ∷ drop (i + 1) jobs) (so_far : AreSubmitted jobs t (drop i jobs) u) where
  next : AreSubmitted jobs t (new ∷ drop (i + 1) jobs) u
  next = subst (λ (l : List NewJob). AreSubmitted jobs t l u) split so_far

  pub passed_here : is_new u new ≡ false → AreSubmitted jobs t (drop (i + 1) jobs) u
  passed_here there = passed jobs t new (drop (i + 1) jobs) u next there

  pub longer_here : length (missing t jobs) + length t ≤ MAX_JOBS → is_new u new ≡ true → (command : Command) → command ≡ submit_of new
      → length (table_after u (by_command command)) ≡ length u + 1
  longer_here room is command same =
      let more : length t + length (missing t jobs) ≤ MAX_JOBS = omega (arith, room) in
      subst (λ (k : Command). length (table_after u (by_command k)) ≡ length u + 1) (sym same) (longer jobs t new (drop (i + 1) jobs) u next is more)

  pub submitted_here : OthersStay → IsDistinct bytes_eq (names jobs) → length (missing t jobs) + length t ≤ MAX_JOBS → is_new u new ≡ true → (command : Command) → command ≡ submit_of new
      → AreSubmitted jobs t (drop (i + 1) jobs) (table_after u (by_command command))
  submitted_here law distinct room is command same =
      let more : length t + length (missing t jobs) ≤ MAX_JOBS = omega (arith, room) in
      subst (λ (k : Command). AreSubmitted jobs t (drop (i + 1) jobs) (table_after u (by_command k))) (sym same)
      (submitted jobs t new (drop (i + 1) jobs) u next law is (after_apart jobs i new (drop (i + 1) jobs) split distinct) more)
