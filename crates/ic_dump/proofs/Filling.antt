-- The submits of a table's jobs, taken by an empty table, leave its jobs as they begin again.
use Rattle.std.proofs.Common.{◌≡◌, ℕ, ◌<◌, ◌≤◌, Bool, true, false, cond, List, [], ◌∷◌, ◌++◌, None, Some, is_some, map, length, refl, sym, ap, subst, ◌∙◌, arith, append_assoc, append-nil, length-append}
use Rattle.std.specs.Prelude.{nat_lt}
use Rattle.std.specs.List.{fold, AllByRecursion, IsDistinct}
use Rattle.std.specs.Str.{bytes_eq}
use Rattle.std.specs.Cmp.Lexicographic.{bytes_decides}
use Rattle.std.proofs.lemmas.Bool.{lt-ltb, false_from_ne_true, false≢true}
use Rattle.std.proofs.lemmas.List.{length-map, map-append}
use Rattle.ic_jobs.specs.Job.{JobParts}
use Rattle.ic_jobs.specs.Table.{IsTable, job_names, job_named}
use Rattle.ic_jobs.specs.Events.{Outcome, after_command, outcome, refused}
use Rattle.ic_jobs.specs.declared.limits.TheConstants.{MAX_JOBS}
use Rattle.ic_jobs.specs.declared.reply.Reply.TheVariants.{Accepted}
use Rattle.ic_jobs.specs.declared.reply.Refusal.TheVariants.{Taken, Full}
use Rattle.ic_dump.specs.Submitting.{begun_again, submit_of, table_after}

-- a name after others that differ from it
none_named : (name : List ℕ) (js : List JobParts) → AllByRecursion (λ j. bytes_eq name j.name ≡ false) js → job_named name (map begun_again js) ≡ None
none_named name [] all = refl
none_named name (j ∷ js) all = ap (λ b. cond b (Some (begun_again j)) (job_named name (map begun_again js))) all.0 ∙ none_named name js all.1

flipped : (a b : List ℕ) → bytes_eq a b ≡ false → bytes_eq b a ≡ false
flipped a b apart = false_from_ne_true (bytes_eq b a) (λ same. false≢true (sym apart ∙ (bytes_decides a b).1 (sym ((bytes_decides b a).0 same))))

at_first : (x : List ℕ) (js : List JobParts) (r : JobParts) (rest : List JobParts) → AllByRecursion (λ y. bytes_eq x y ≡ false) (job_names (js ++ r ∷ rest)) → bytes_eq x r.name ≡ false
at_first x [] r rest all = all.0
at_first x (j ∷ js) r rest all = at_first x js r rest all.1

others : (before : List JobParts) (r : JobParts) (rest : List JobParts) → IsDistinct bytes_eq (job_names (before ++ r ∷ rest)) → AllByRecursion (λ j. bytes_eq r.name j.name ≡ false) before
unfolding IsDistinct
others [] r rest distinct = tt
others (b ∷ before) r rest distinct = (flipped b.name r.name (at_first b.name before r rest distinct.0), others before r rest distinct.1)

taken : (t : List JobParts) (r : JobParts) (found : Bool) (room : Bool) → found ≡ false → room ≡ true
    → cond found (refused t Taken) (cond room (outcome (t ++ begun_again r ∷ []) Accepted) (refused t Full)) ≡ outcome (t ++ begun_again r ∷ []) Accepted
taken t r found room free fits = rw (free, fits) refl

-- a job more is accepted
pub one_more : (before : List JobParts) (r : JobParts) (rest : List JobParts) → length (before ++ r ∷ rest) ≤ MAX_JOBS → IsDistinct bytes_eq (job_names (before ++ r ∷ rest))
    → after_command (map begun_again before) (submit_of r) ≡ outcome (map begun_again (before ++ r ∷ [])) Accepted
one_more before r rest few distinct =
    let t = map begun_again before in
    let within : length t < MAX_JOBS = omega (arith, length-append before (r ∷ rest), length-map before begun_again) in
    taken t r (is_some (job_named r.name t)) (nat_lt (length t) MAX_JOBS) (ap is_some (none_named r.name before (others before r rest distinct))) (lt-ltb (length t) MAX_JOBS within)
    ∙ ap (λ u. outcome u Accepted) (sym (map-append begun_again before (r ∷ [])))

-- those after it come after one job more
pub one_after : (before : List JobParts) (r : JobParts) (rest : List JobParts) → length (before ++ r ∷ rest) ≤ MAX_JOBS → IsDistinct bytes_eq (job_names (before ++ r ∷ rest))
    → (length ((before ++ r ∷ []) ++ rest) ≤ MAX_JOBS) × IsDistinct bytes_eq (job_names ((before ++ r ∷ []) ++ rest))
one_after before r rest few distinct =
    let same : (before ++ r ∷ []) ++ rest ≡ before ++ r ∷ rest = append_assoc before (r ∷ []) rest in
    (subst (λ l. length l ≤ MAX_JOBS) (sym same) few, subst (λ l. IsDistinct bytes_eq (job_names l)) (sym same) distinct)

pub filled : (rest before : List JobParts) → length (before ++ rest) ≤ MAX_JOBS → IsDistinct bytes_eq (job_names (before ++ rest))
    → fold table_after (map begun_again before) (map submit_of rest) ≡ map begun_again (before ++ rest)
filled [] before few distinct = ap (map begun_again) (sym (append-nil before))
filled (r ∷ rest) before few distinct =
    let next = one_after before r rest few distinct in
    ap (λ (o : Outcome). fold table_after o.table (map submit_of rest)) (one_more before r rest few distinct)
    ∙ filled rest (before ++ r ∷ []) next.0 next.1
    ∙ ap (map begun_again) (append_assoc before (r ∷ []) rest)

pub table_filled : (t : List JobParts) → IsTable t → fold table_after [] (map submit_of t) ≡ map begun_again t
table_filled t is = filled t [] is.few is.distinct
