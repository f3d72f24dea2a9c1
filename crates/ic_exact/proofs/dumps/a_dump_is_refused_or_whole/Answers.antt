use Rattle.std.proofs.Common.{◌≡◌, ◌∙◌, ◌++◌, ◌∷◌, ◌<◌, ◌≤◌, List, [], None, Some, Ok, cond, length, refl, ap}
use Rattle.std.specs.Prelude.{find}
use Rattle.std.specs.List.{AllByRecursion}
use Rattle.std.proofs.lemmas.Bool.{le-ltb, lt-ltb}
use Rattle.ic_jobs.specs.Job.{JobParts}
use Rattle.ic_text.specs.declared.limits.TheConstants.{MAX_TEXT}
use Rattle.ic_dump.specs.Dumping.{chosen, first_missing, lines_of, unless_long, unless_missing}
use Rattle.ic_dump.specs.Telling.{is_too_long, job_line}
use Rattle.ic_exact.proofs.dumps.a_dump_is_refused_or_whole.Goals as goal

first_long : (before : List JobParts) (j : JobParts) (after : List JobParts) → AllByRecursion (λ k. length (job_line k) ≤ MAX_TEXT) before
    → MAX_TEXT < length (job_line j) → find is_too_long (before ++ j ∷ after) ≡ Some j
first_long [] j after all long = ap (λ b. cond b (Some j) (find is_too_long after)) (lt-ltb MAX_TEXT (length (job_line j)) long)
first_long (k ∷ ks) j after all long =
    ap (λ b. cond b (Some k) (find is_too_long (ks ++ j ∷ after))) (le-ltb MAX_TEXT (length (job_line k)) all.0) ∙ first_long ks j after all.1 long

none_long : (js : List JobParts) → AllByRecursion (λ k. length (job_line k) ≤ MAX_TEXT) js → find is_too_long js ≡ None
none_long [] all = refl
none_long (k ∷ ks) all = ap (λ b. cond b (Some k) (find is_too_long ks)) (le-ltb MAX_TEXT (length (job_line k)) all.0) ∙ none_long ks all.1

pub returns-clause-no_job : goal.returns-clause-no_job
returns-clause-no_job c = λ names before after name t parted had missing.
    let first : first_missing names t ≡ Some name =
    c.the_first_missing_name_is_told.ensures.first names before after name t parted had missing in
    ap (λ m. unless_missing m (unless_long (find is_too_long (chosen names t)) (Ok (lines_of (chosen names t))))) first

pub returns-clause-too_long : goal.returns-clause-too_long
returns-clause-too_long c = λ names t before after j had parted short long.
    let none : first_missing names t ≡ None = (c.the_first_missing_name_is_told.ensures.none names t).1 had in
    let found : find is_too_long (chosen names t) ≡ Some j = ap (find is_too_long) parted ∙ first_long before j after short long in
    ap (λ m. unless_missing m (unless_long (find is_too_long (chosen names t)) (Ok (lines_of (chosen names t))))) none
    ∙ ap (λ o. unless_long o (Ok (lines_of (chosen names t)))) found

pub returns-clause-whole : goal.returns-clause-whole
returns-clause-whole c = λ names t had short.
    let none : first_missing names t ≡ None = (c.the_first_missing_name_is_told.ensures.none names t).1 had in
    ap (λ m. unless_missing m (unless_long (find is_too_long (chosen names t)) (Ok (lines_of (chosen names t))))) none
    ∙ ap (λ o. unless_long o (Ok (lines_of (chosen names t)))) (none_long (chosen names t) short)
