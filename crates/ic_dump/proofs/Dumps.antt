-- The lines of the jobs so far.
use Rattle.std.proofs.Common.{◌≡◌, ◌≢◌, ℕ, ◌+◌, ◌<◌, ◌≤◌, Bool, true, false, cond, List, [], ◌∷◌, ◌++◌, Option, None, Some, Ok, Err, length, take, drop, get_or, refl, sym, ap, ◌∙◌, append-nil}
use Rattle.std.specs.Prelude.{find}
use Rattle.std.specs.Option.{option_or}
use Rattle.std.proofs.lemmas.Bool.{lt-ltb, le-ltb}
use Rattle.std.proofs.lemmas.List.{take-append-drop}
use Rattle.std.proofs.lemmas.List.Elements.{filter-append, filter_more}
use Rattle.std.proofs.lemmas.List.Folds.{find-append}
use Rattle.std.proofs.lemmas.List.Concat.{flat_map-append}
use Rattle.ic_jobs.specs.Job.{JobParts}
use Rattle.ic_text.specs.declared.limits.TheConstants.{MAX_TEXT}
use Rattle.ic_dump.specs.Telling.{job_line, is_too_long}
use Rattle.ic_dump.specs.declared.fault.DumpFault.{DumpFault}
use Rattle.ic_dump.specs.declared.fault.DumpFault.TheVariants.{NoJob, TooLong, Memory, Write}
use Rattle.ic_dump.specs.Dumping.{is_chosen, chosen, first_missing, lines_of, unless_long, unless_missing, FaultOf}

-- the lines of those jobs among the first so many that are asked for
pub record AreLines (names : List (List ℕ)) (js : List JobParts) (i : ℕ) (lines : List ℕ) : Type 0 where
  pub made : lines ≡ lines_of (chosen names (take i js))
  pub short : find is_too_long (chosen names (take i js)) ≡ None

module _ (names : List (List ℕ)) (js : List JobParts) (i : ℕ) (j : JobParts) (below : i < length js) (is : j ≡ get_or js i j) where
  more : chosen names (take (i + 1) js) ≡ chosen names (take i js) ++ cond (is_chosen names j) (j ∷ []) []
  more = filter_more (is_chosen names) js i j below ∙ ap (λ x. chosen names (take i js) ++ cond (is_chosen names x) (x ∷ []) []) (sym is)

  taken : is_chosen names j ≡ true → chosen names (take (i + 1) js) ≡ chosen names (take i js) ++ j ∷ []
  taken asked = more ∙ ap (λ b. chosen names (take i js) ++ cond b (j ∷ []) []) asked

  found_or : (o : Option JobParts) (b : Bool) → o ≡ None → is_too_long j ≡ b → option_or o (find is_too_long (j ∷ [])) ≡ cond b (Some j) None
  found_or o b none long = rw (none, long) refl

  found : (b : Bool) → is_chosen names j ≡ true → is_too_long j ≡ b → find is_too_long (chosen names (take i js)) ≡ None → find is_too_long (chosen names (take (i + 1) js)) ≡ cond b (Some j) None
  found b asked long none =
      ap (find is_too_long) (taken asked) ∙ find-append is_too_long (chosen names (take i js)) (j ∷ []) ∙ found_or (find is_too_long (chosen names (take i js))) b none long

  pub next_line : (lines new : List ℕ) → is_chosen names j ≡ true → length (job_line j) ≤ MAX_TEXT → new ≡ lines ++ (job_line j ++ 10 ∷ []) → AreLines names js i lines → AreLines names js (i + 1) new
  next_line lines new asked short put so_far = record {
    made = put ∙ ap (λ l. l ++ (job_line j ++ 10 ∷ [])) so_far.made
        ∙ ap (λ l. lines_of (chosen names (take i js)) ++ l) (sym (append-nil (job_line j ++ 10 ∷ [])))
        ∙ sym (flat_map-append (λ (k : JobParts). job_line k ++ 10 ∷ []) (chosen names (take i js)) (j ∷ []))
        ∙ ap lines_of (sym (taken asked));
    short = found false asked (le-ltb MAX_TEXT (length (job_line j)) short) so_far.short;
  }

  pub no_line : (lines : List ℕ) → is_chosen names j ≡ false → AreLines names js i lines → AreLines names js (i + 1) lines
  no_line lines unasked so_far =
      let same : chosen names (take (i + 1) js) ≡ chosen names (take i js) =
      more ∙ ap (λ b. chosen names (take i js) ++ cond b (j ∷ []) []) unasked ∙ append-nil (chosen names (take i js)) in
      record { made = so_far.made ∙ ap lines_of (sym same); short = ap (find is_too_long) same ∙ so_far.short }

  -- the first job whose line is too long
  pub first_long : (lines : List ℕ) → is_chosen names j ≡ true → MAX_TEXT < length (job_line j) → AreLines names js i lines → find is_too_long (chosen names js) ≡ Some j
  first_long lines asked long so_far =
      ap (λ l. find is_too_long (chosen names l)) (sym (take-append-drop (i + 1) js))
      ∙ ap (find is_too_long) (filter-append (is_chosen names) (take (i + 1) js) (drop (i + 1) js))
      ∙ find-append is_too_long (chosen names (take (i + 1) js)) (chosen names (drop (i + 1) js))
      ∙ ap (λ o. option_or o (find is_too_long (chosen names (drop (i + 1) js)))) (found true asked (lt-ltb MAX_TEXT (length (job_line j)) long) so_far.short)

-- what the fault of a line says of the dump
pub fault_says : (names : List (List ℕ)) (t : List JobParts) (j : JobParts) (fault : DumpFault)
    → (fault ≢ Memory → (fault ≡ TooLong j.name) × (MAX_TEXT < length (job_line j)))
    → first_missing names t ≡ None → (MAX_TEXT < length (job_line j) → find is_too_long (chosen names t) ≡ Some j) → FaultOf names t fault
fault_says names t j Memory says none found = tt
fault_says names t j (NoJob name) says none found = let e : NoJob name ≡ TooLong j.name = (says (λ (m : NoJob name ≡ Memory). cc)).0 in cc
fault_says names t j Write says none found = let e : Write ≡ TooLong j.name = (says (λ (m : Write ≡ Memory). cc)).0 in cc
fault_says names t j (TooLong name) says none found =
    let parts = says (λ (m : TooLong name ≡ Memory). cc) in
    (λ i. unless_missing (none i) (unless_long (found parts.1 i) (Ok (lines_of (chosen names t))))) ∙ ap Err (sym parts.0)
