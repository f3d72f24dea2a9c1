-- The lines of a dump are the lines of its jobs, and a table without jobs takes them as their submits.
use Rattle.std.proofs.Common.{◌≡◌, ℕ, ◌≤◌, Bool, true, false, cond, List, [], ◌∷◌, ◌++◌, Option, None, Some, Ok, map, length, refl, sym, ap, subst, ◌∙◌, append_assoc, arith}
use Rattle.std.specs.Prelude.{filter, find}
use Rattle.std.specs.List.{flat_map, fold, AllByRecursion, IsDistinct}
use Rattle.std.specs.Str.{bytes_eq}
use Rattle.std.proofs.lemmas.Bool.{ltb-false}
use Rattle.std.proofs.lemmas.List.Sums.{count_by-le-length, length-filter}
use Rattle.ic_jobs.specs.Job.{JobParts, IsJob}
use Rattle.ic_jobs.specs.Table.{IsTable, job_names}
use Rattle.ic_jobs.specs.Events.{Outcome}
use Rattle.ic_jobs.specs.declared.limits.TheConstants.{MAX_JOBS}
use Rattle.ic_jobs.specs.declared.reply.Reply.TheVariants.{Accepted}
use Rattle.ic_text.specs.declared.limits.TheConstants.{MAX_TEXT}
use Rattle.ic_commands.specs.declared.line.Line.TheVariants.{Command as Asks}
use Rattle.ic_commands.specs.LineText.{ReadsLine}
use Rattle.ic_commands.specs.ReplyText.{reply_text}
use Rattle.ic_lines.specs.Lines.{has_feed, ended, lines}
use Rattle.ic_lines.specs.Answers.{Reading, after, out}
use Rattle.ic_lines.specs.Serving.{AreRead, IsServed}
use Rattle.ic_dump.specs.Telling.{job_line, is_too_long}
use Rattle.ic_dump.specs.Dumping.{is_chosen, chosen, first_missing, lines_of, unless_long, unless_missing, dumped}
use Rattle.ic_dump.specs.Submitting.{accepted, begun_again, submit_of, table_after}
use Rattle.ic_dump.proofs.Filling.{filled, one_more, one_after}

-- what the line of a job is read as
abbrev asked : JobParts → Reading
asked j = Ok (Asks (submit_of j))

-- ---- what is dumped are lines that aren't too long
whole_by : (missing : Option (List ℕ)) (long : Option JobParts) (made bytes : List ℕ) → unless_missing missing (unless_long long (Ok made)) ≡ Ok bytes → (long ≡ None) × (bytes ≡ made)
whole_by None None made bytes e = (refl, cc)
whole_by _ _ made bytes e = (cc, cc)

whole : (names : List (List ℕ)) (t : List JobParts) (bytes : List ℕ) → dumped names t ≡ Ok bytes → (find is_too_long (chosen names t) ≡ None) × (bytes ≡ lines_of (chosen names t))
whole names t bytes e = whole_by (first_missing names t) (find is_too_long (chosen names t)) (lines_of (chosen names t)) bytes e

short_by : (j : JobParts) (js : List JobParts) (long : Bool) → is_too_long j ≡ long → cond long (Some j) (find is_too_long js) ≡ None → (length (job_line j) ≤ MAX_TEXT) × (find is_too_long js ≡ None)
short_by j js true is e = let no : ⊥ = cc in (absurd no, absurd no)
short_by j js false is e = (ltb-false MAX_TEXT (length (job_line j)) is, e)

all_short : (js : List JobParts) → find is_too_long js ≡ None → AllByRecursion (λ j. length (job_line j) ≤ MAX_TEXT) js
all_short [] e = tt
all_short (j ∷ js) e = let parts = short_by j js (is_too_long j) refl e in (parts.0, all_short js parts.1)

-- ---- the jobs that are asked for are a table
kept : {A : Type 0} (P : A → Type 0) (x : A) (xs : List A) (asked_for : Bool) → P x → AllByRecursion P xs → AllByRecursion P (cond asked_for (x ∷ xs) xs)
kept P x xs true is all = (is, all)
kept P x xs false is all = all

all_kept : (P : JobParts → Type 0) (asks : JobParts → Bool) (js : List JobParts) → AllByRecursion P js → AllByRecursion P (filter asks js)
all_kept P asks [] all = tt
all_kept P asks (j ∷ js) all = kept P j (filter asks js) (asks j) all.0 (all_kept P asks js all.1)

apart_by : (x : List ℕ) (j : JobParts) (js : List JobParts) (asked_for : Bool) → bytes_eq x j.name ≡ false → AllByRecursion (λ y. bytes_eq x y ≡ false) (job_names js)
    → AllByRecursion (λ y. bytes_eq x y ≡ false) (job_names (cond asked_for (j ∷ js) js))
apart_by x j js true is all = (is, all)
apart_by x j js false is all = all

apart : (x : List ℕ) (asks : JobParts → Bool) (js : List JobParts) → AllByRecursion (λ y. bytes_eq x y ≡ false) (job_names js) → AllByRecursion (λ y. bytes_eq x y ≡ false) (job_names (filter asks js))
apart x asks [] all = tt
apart x asks (j ∷ js) all = apart_by x j (filter asks js) (asks j) all.0 (apart x asks js all.1)

distinct_by : (j : JobParts) (js : List JobParts) (asked_for : Bool) → AllByRecursion (λ y. bytes_eq j.name y ≡ false) (job_names js) → IsDistinct bytes_eq (job_names js)
    → IsDistinct bytes_eq (job_names (cond asked_for (j ∷ js) js))
unfolding IsDistinct
distinct_by j js true all distinct = (all, distinct)
distinct_by j js false all distinct = distinct

distinct_kept : (asks : JobParts → Bool) (js : List JobParts) → IsDistinct bytes_eq (job_names js) → IsDistinct bytes_eq (job_names (filter asks js))
unfolding IsDistinct
distinct_kept asks [] distinct = tt
distinct_kept asks (j ∷ js) distinct = distinct_by j (filter asks js) (asks j) (apart j.name asks js distinct.0) (distinct_kept asks js distinct.1)

chosen_table : (names : List (List ℕ)) (t : List JobParts) → IsTable t → IsTable (chosen names t)
chosen_table names t is = record {
  few = omega (arith, length-filter (is_chosen names) t, count_by-le-length (is_chosen names) t, is.few);
  each = all_kept IsJob (is_chosen names) t is.each;
  distinct = distinct_kept (is_chosen names) t is.distinct;
}

-- ---- the table and the answers
after_asked : (t js : List JobParts) → after t (map asked js) ≡ fold table_after t (map submit_of js)
after_asked t [] = refl
after_asked t (j ∷ js) = after_asked (table_after t (submit_of j)) js

all_accepted : (rest before : List JobParts) → length (before ++ rest) ≤ MAX_JOBS → IsDistinct bytes_eq (job_names (before ++ rest))
    → out (map begun_again before) (map asked rest) ≡ flat_map accepted rest
all_accepted [] before few distinct = refl
all_accepted (r ∷ rest) before few distinct =
    let next = one_after before r rest few distinct in
    ap (λ (o : Outcome). ended (reply_text o.reply) ++ out o.table (map asked rest)) (one_more before r rest few distinct)
    ∙ ap (λ l. ended (reply_text Accepted) ++ l) (all_accepted rest (before ++ r ∷ []) next.0 next.1)

-- ---- the lines
module _ (first : (line rest : List ℕ) → has_feed line ≡ false → lines (line ++ 10 ∷ rest) ≡ line ∷ lines rest)
    (read : (j : JobParts) → IsJob j → length (job_line j) ≤ MAX_TEXT → ReadsLine (job_line j) (Ok (Asks (submit_of j))))
    (unfed : (j : JobParts) → IsJob j → has_feed (job_line j) ≡ false) where
  job_lines : (js : List JobParts) → AllByRecursion IsJob js → lines (lines_of js) ≡ map job_line js
  job_lines [] are = refl
  job_lines (j ∷ js) are =
      ap lines (append_assoc (job_line j) (10 ∷ []) (lines_of js)) ∙ first (job_line j) (lines_of js) (unfed j are.0) ∙ ap (λ l. job_line j ∷ l) (job_lines js are.1)

  all_read : (js : List JobParts) → AllByRecursion IsJob js → AllByRecursion (λ j. length (job_line j) ≤ MAX_TEXT) js → AreRead (map job_line js) (map asked js)
  all_read [] are short = tt
  all_read (j ∷ js) are short = (read j are.0 short.0, all_read js are.1 short.1)

  pub dump_lines : (names : List (List ℕ)) (t : List JobParts) (bytes : List ℕ) → IsTable t → dumped names t ≡ Ok bytes → lines bytes ≡ map job_line (chosen names t)
  dump_lines names t bytes is e = ap lines (whole names t bytes e).1 ∙ job_lines (chosen names t) (chosen_table names t is).each

  pub dump_served : (names : List (List ℕ)) (t : List JobParts) (bytes : List ℕ) → IsTable t → dumped names t ≡ Ok bytes
      → IsServed [] (lines bytes) (flat_map accepted (chosen names t)) (map begun_again (chosen names t))
  dump_served names t bytes is e =
      let js = chosen names t in
      let table = chosen_table names t is in
      record {
        readings = map asked js;
        read = subst (λ ls. AreRead ls (map asked js)) (sym (dump_lines names t bytes is e)) (all_read js table.each (all_short js (whole names t bytes e).0));
        answered = sym (all_accepted js [] table.few table.distinct);
        leaves = sym (after_asked [] js ∙ filled js [] table.few table.distinct);
      }
