-- Which table bytes are, and when they are none.
use Rattle.std.proofs.Common.{◌≡◌, ◌≢◌, ℕ, ◌==◌, true, List, [], ◌∷◌, ◌++◌, length, refl, sym, ap, subst, ◌∙◌, arith, sum_by}
use Rattle.std.specs.List.{flat_map}
use Rattle.std.proofs.lemmas.Bool.{eqb-true}
use Rattle.std.proofs.lemmas.List.{append-nil}
use Rattle.std.proofs.lemmas.List.Sums.{sum_by-cons}
use Rattle.ic_jobs.specs.Job.{JobParts}
use Rattle.ic_jobs.specs.Table.{IsTable}
use Rattle.ic_codec.specs.Jobs.{job_bytes}
use Rattle.ic_codec.specs.Form.{form_head}
use Rattle.ic_codec.specs.declared.form.Form.{Form}
use Rattle.ic_codec.specs.inner.Forms.{HasJobBytes, HasTableBytes}
use Rattle.ic_codec.specs.Tables.{table_bytes_in}
use Rattle.ic_codec.specs.inner.Fronts.{BeginsWithMany, BeginsWithNoMany, uncounted}
use Rattle.ic_codec.proofs.Items.{items_front}
use Rattle.ic_codec.proofs.JobLemmas.{job_tells}

uncounted_sum : (js : List JobParts) → sum_by uncounted js ≡ 0
uncounted_sum [] = refl
uncounted_sum (j ∷ js) = omega (arith, sum_by-cons uncounted j js, uncounted_sum js)

-- Of a table whose bytes these are, the jobs are so many, and stand after their number.
record SameCount (form : Form) (count : ℕ) (c : List ℕ) (t : List JobParts) : Type 0 where
  many : count ≡ length t
  after : c ≡ flat_map (job_bytes form) t

same_count : (form : Form) (count : ℕ) (bytes b c : List ℕ) (t : List JobParts) → bytes ≡ form_head form ++ b → b ≡ count ∷ c → bytes ≡ table_bytes_in form t → SameCount form count c t
same_count form count bytes b c t read further e =
    let whole : form_head form ++ (count ∷ c) ≡ table_bytes_in form t = ap (λ (bs : List ℕ). form_head form ++ bs) (sym further) ∙ sym read ∙ e in
    record { many = cc (whole); after = cc (whole) }

-- nothing stands after the head where the number of jobs should
pub none_count : (form : Form) (bytes b : List ℕ) → bytes ≡ form_head form ++ b → b ≡ [] → (t : List JobParts) → HasTableBytes form t → bytes ≢ table_bytes_in form t
none_count form bytes b read short t is e =
    let whole : form_head form ++ [] ≡ table_bytes_in form t = ap (λ (bs : List ℕ). form_head form ++ bs) (sym short) ∙ sym read ∙ e in
    omega (arith, ap length whole)

pub none_jobs : (form : Form) (count : ℕ) (bytes b c : List ℕ) → bytes ≡ form_head form ++ b → b ≡ count ∷ c → BeginsWithNoMany (HasJobBytes form) (job_bytes form) uncounted count 0 c
    → (t : List JobParts) → HasTableBytes form t → bytes ≢ table_bytes_in form t
none_jobs form count bytes b c read further none t is e =
    let same = same_count form count bytes b c t read further e in
    none t [] is.jobs (sym same.many) (omega (arith, uncounted_sum t)) (same.after ∙ sym (append-nil (flat_map (job_bytes form) t)))

-- the jobs that were read are the table's, and nothing stands after them
same_jobs : (form : Form) (count : ℕ) (bytes b c : List ℕ) (js : List JobParts) (rest : List ℕ) (t : List JobParts) → bytes ≡ form_head form ++ b → b ≡ count ∷ c
    → BeginsWithMany (HasJobBytes form) (job_bytes form) uncounted count 0 c js 0 rest → HasTableBytes form t → bytes ≡ table_bytes_in form t → (js ≡ t) × (rest ≡ [])
same_jobs form count bytes b c js rest t read further begins is e =
    let same = same_count form count bytes b c t read further e in
    items_front (HasJobBytes form) (job_bytes form) (job_tells form) js t rest [] begins.each is.jobs (begins.many ∙ same.many)
    (sym begins.parts ∙ same.after ∙ sym (append-nil (flat_map (job_bytes form) t)))

pub none_table : (form : Form) (count : ℕ) (bytes b c : List ℕ) (js : List JobParts) (rest : List ℕ) → bytes ≡ form_head form ++ b → b ≡ count ∷ c
    → BeginsWithMany (HasJobBytes form) (job_bytes form) uncounted count 0 c js 0 rest → (IsTable js → ⊥) → (t : List JobParts) → HasTableBytes form t → bytes ≢ table_bytes_in form t
none_table form count bytes b c js rest read further begins not t is e =
    let same = (same_jobs form count bytes b c js rest t read further begins is e).0 in
    not (subst (λ (l : List JobParts). IsTable l) (sym same) is.table)

pub none_longer : (form : Form) (count : ℕ) (bytes b c : List ℕ) (js : List JobParts) (rest : List ℕ) → bytes ≡ form_head form ++ b → b ≡ count ∷ c
    → BeginsWithMany (HasJobBytes form) (job_bytes form) uncounted count 0 c js 0 rest → (rest ≡ [] → ⊥) → (t : List JobParts) → HasTableBytes form t → bytes ≢ table_bytes_in form t
none_longer form count bytes b c js rest read further begins not t is e = not (same_jobs form count bytes b c js rest t read further begins is e).1

ended : (rest : List ℕ) → (length rest == 0) ≡ true → rest ≡ []
ended [] e = refl
ended (b ∷ bs) e = absurd (omega (arith, eqb-true (length (b ∷ bs)) 0 e))

pub table_read : (form : Form) (count : ℕ) (bytes b c : List ℕ) (js : List JobParts) (rest : List ℕ) → bytes ≡ form_head form ++ b → b ≡ count ∷ c
    → BeginsWithMany (HasJobBytes form) (job_bytes form) uncounted count 0 c js 0 rest → (length rest == 0) ≡ true → bytes ≡ table_bytes_in form js
table_read form count bytes b c js rest read further begins end =
    let nothing = ended rest end in
    let jobs : c ≡ flat_map (job_bytes form) js = begins.parts ∙ ap (λ (bs : List ℕ). flat_map (job_bytes form) js ++ bs) nothing ∙ append-nil (flat_map (job_bytes form) js) in
    let counts = sym begins.many in
    read ∙ ap (λ (bs : List ℕ). form_head form ++ bs) (further ∙ (λ i. counts i ∷ jobs i))
