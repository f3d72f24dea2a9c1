-- A table's bytes tell the table, and where they end.
use Rattle.std.proofs.Common.{◌≡◌, ◌≢◌, inl, inr, ℕ, List, [], ◌∷◌, ◌++◌, length, get_or, refl, sym, ap, ◌∙◌, append_assoc, arith}
use Rattle.std.specs.List.{flat_map, AllByRecursion}
use Rattle.std.proofs.lemmas.List.{append-nil}
use Rattle.ic_term.specs.Symbol.{Symbol, is_over}
use Rattle.ic_jobs.specs.Job.{JobParts, IsJob}
use Rattle.ic_jobs.specs.Table.{IsTable}
use Rattle.ic_codec.specs.declared.form.Form.{Form}
use Rattle.ic_codec.specs.declared.form.Form.TheVariants.{Ict1, Ict2}
use Rattle.ic_codec.specs.declared.form.Heading.{Heading}
use Rattle.ic_codec.specs.Symbols.{symbols_bytes}
use Rattle.ic_codec.specs.Rules.{rules_bytes}
use Rattle.ic_codec.specs.Configurations.{configuration_bytes}
use Rattle.ic_codec.specs.Form.{form_head, heading_bytes, heading_of}
use Rattle.ic_codec.specs.inner.Forms.{HasHeadingBytes, HasJobBytes, HasTableBytes}
use Rattle.ic_codec.specs.Jobs.{job_bytes}
use Rattle.ic_codec.specs.Tables.{table_bytes_in, table_bytes, old_table_bytes, HasNoBudgets, IsFormOf}
use Rattle.ic_codec.specs.inner.Fronts.{IsRuleSetOver, IsConfigurationOver}
use Rattle.ic_codec.proofs.Items.{Tells, items_front}
use Rattle.ic_codec.proofs.Unique.{heading_tells, symbols_front, set_tells, configuration_tells}

-- what stands after the heading, after the symbols, and after the rules
abbrev pub after_rules : JobParts → List ℕ → List ℕ
after_rules j rest = configuration_bytes j.config ++ rest

abbrev pub after_symbols : JobParts → List ℕ → List ℕ
after_symbols j rest = rules_bytes j.rules.rules ++ after_rules j rest

abbrev pub after_heading : JobParts → List ℕ → List ℕ
after_heading j rest = symbols_bytes j.rules.symbols ++ after_symbols j rest

pub job_spread : (form : Form) (j : JobParts) (rest : List ℕ) → job_bytes form j ++ rest ≡ heading_bytes form (heading_of j) ++ after_heading j rest
job_spread form j rest =
    let heading = heading_bytes form (heading_of j) in
    let symbols = symbols_bytes j.rules.symbols in
    let rules = rules_bytes j.rules.rules in
    let config = configuration_bytes j.config in
    append_assoc heading (symbols ++ (rules ++ config)) rest
    ∙ ap (λ (bs : List ℕ). heading ++ bs) (append_assoc symbols (rules ++ config) rest ∙ ap (λ (bs : List ℕ). symbols ++ bs) (append_assoc rules config rest))

pub heading_has : (form : Form) (j : JobParts) → HasJobBytes form j → HasHeadingBytes form (heading_of j)
heading_has form j has =
    let is = has.job in
    record { name = is.name; rounds = omega (arith, is.counted); budget = has.budget; next = omega (arith, is.config.next) }

-- Of a job, what is read so far is as it stands in the job.
pub record SameHeading (h : Heading) (b : List ℕ) (j : JobParts) (rest : List ℕ) : Type 0 where
  pub same : h ≡ heading_of j
  pub after : b ≡ after_heading j rest

pub heading_first : (form : Form) (h : Heading) (b : List ℕ) (j : JobParts) (rest bytes : List ℕ) → HasHeadingBytes form h → HasJobBytes form j
    → bytes ≡ heading_bytes form h ++ b → bytes ≡ job_bytes form j ++ rest → SameHeading h b j rest
heading_first form h b j rest bytes has is read e =
    let first = heading_tells form h (heading_of j) b (after_heading j rest) has (heading_has form j is) (sym read ∙ e ∙ job_spread form j rest) in
    record { same = first.0; after = first.1 }

-- the rule set and configuration of a job, over symbols and a `next` that are the job's
pub set_of : (ss : List Symbol) (j : JobParts) → IsJob j → ss ≡ j.rules.symbols → IsRuleSetOver ss j.rules
set_of ss j is same = record { rules = is.rules; served = is.served; over = sym same }

pub config_of : (ss : List Symbol) (next : ℕ) (j : JobParts) → IsJob j → ss ≡ j.rules.symbols → next ≡ j.config.next → IsConfigurationOver ss next j.config
config_of ss next j is same same_next = record {
  config = is.config;
  over = ap (λ (l : List Symbol). is_over l j.config) same ∙ is.over;
  same_next = sym same_next;
}

pub job_tells : (form : Form) → Tells (HasJobBytes form) (job_bytes form)
job_tells form j k a b has has_too e =
    let v = has.job in let w = has_too.job in
    let ss = j.rules.symbols in
    let first = heading_tells form (heading_of j) (heading_of k) (after_heading j a) (after_heading k b) (heading_has form j has) (heading_has form k has_too)
    (sym (job_spread form j a) ∙ e ∙ job_spread form k b) in
    let second = symbols_front ss k.rules.symbols (after_symbols j a) (after_symbols k b) first.1 in
    let third = set_tells ss v.served.symbols j.rules k.rules (after_rules j a) (after_rules k b) (set_of ss j v refl) (set_of ss k w second.0) second.1 in
    let fourth = configuration_tells ss j.config.next v.served.symbols j.config k.config a b (config_of ss j.config.next j v refl refl)
    (config_of ss j.config.next k w second.0 (ap (λ (h : Heading). h.next) first.0)) third.1 in
    let same = first.0 in (
      (λ i. record {
        name = (same i).name;
        rules = third.0 i;
        config = fourth.0 i;
        rounds = (same i).rounds;
        state = (same i).state;
        budget = (same i).budget;
      }),
      fourth.1,
    )

pub table_tells : (form : Form) → Tells (HasTableBytes form) (table_bytes_in form)
table_tells form t u a b v w e =
    let counts : length t ≡ length u = cc in
    let tails : flat_map (job_bytes form) t ++ a ≡ flat_map (job_bytes form) u ++ b = cc in
    items_front (HasJobBytes form) (job_bytes form) (job_tells form) t u a b v.jobs w.jobs counts tails

-- ---- the two forms

jobs_new : (t : List JobParts) → AllByRecursion IsJob t → AllByRecursion (HasJobBytes Ict2) t
jobs_new [] each = tt
jobs_new (j ∷ t) each = (record { job = each.0; budget = each.0.budget }, jobs_new t each.1)

jobs_old : (t : List JobParts) → AllByRecursion IsJob t → HasNoBudgets t → AllByRecursion (HasJobBytes Ict1) t
jobs_old [] each none = tt
jobs_old (j ∷ t) each none = (record { job = each.0; budget = none.0 }, jobs_old t each.1 none.1)

-- each table has bytes in the form that is written, and one without budgets in the old form
pub table_new : (t : List JobParts) → IsTable t → HasTableBytes Ict2 t
table_new t is = record { table = is; jobs = jobs_new t is.each }

pub table_old : (t : List JobParts) → IsTable t → HasNoBudgets t → HasTableBytes Ict1 t
table_old t is none = record { table = is; jobs = jobs_old t is.each none }

no_budgets : (t : List JobParts) → AllByRecursion (HasJobBytes Ict1) t → HasNoBudgets t
no_budgets [] each = tt
no_budgets (j ∷ t) each = (each.0.budget, no_budgets t each.1)

-- bytes of a table in a form are a form of it
pub is_form : (form : Form) (t : List JobParts) (bytes : List ℕ) → AllByRecursion (HasJobBytes form) t → bytes ≡ table_bytes_in form t → IsFormOf t bytes
is_form Ict1 t bytes each e = inr (record { unbudgeted = no_budgets t each; bytes_are = e })
is_form Ict2 t bytes each e = inl e

-- the letters of the two forms differ
pub heads_differ : (a b : List ℕ) → form_head Ict1 ++ a ≡ form_head Ict2 ++ b → ⊥
heads_differ a b e = let digits : ◌≡◌ {A = ℕ} 49 50 = ap (λ (l : List ℕ). get_or l 3 0) e in omega (arith, digits)

-- bytes that begin with the head of a form are no form of a table where they aren't its bytes in that form
pub no_form : (form : Form) (bytes b : List ℕ) (t : List JobParts) → IsTable t → bytes ≡ form_head form ++ b
    → (HasTableBytes form t → bytes ≡ table_bytes_in form t → ⊥) → IsFormOf t bytes → ⊥
no_form Ict1 bytes b t is read none (inl new) = heads_differ b (length t ∷ flat_map (job_bytes Ict2) t) (sym read ∙ new)
no_form Ict1 bytes b t is read none (inr old) = none (table_old t is old.unbudgeted) old.bytes_are
no_form Ict2 bytes b t is read none (inl new) = none (table_new t is) new
no_form Ict2 bytes b t is read none (inr old) = heads_differ (length t ∷ flat_map (job_bytes Ict1) t) b (sym old.bytes_are ∙ read)

-- nor are bytes that begin with the head of neither
pub neither_form : (bytes : List ℕ) (t : List JobParts) → ((rest : List ℕ) → bytes ≢ form_head Ict1 ++ rest) → ((rest : List ℕ) → bytes ≢ form_head Ict2 ++ rest)
    → IsFormOf t bytes → ⊥
neither_form bytes t no_old no_new (inl new) = no_new (length t ∷ flat_map (job_bytes Ict2) t) new
neither_form bytes t no_old no_new (inr old) = no_old (length t ∷ flat_map (job_bytes Ict1) t) old.bytes_are

pub not_both : (t u : List JobParts) → table_bytes t ≡ old_table_bytes u → ⊥
not_both t u e = heads_differ (length u ∷ flat_map (job_bytes Ict1) u) (length t ∷ flat_map (job_bytes Ict2) t) (sym e)

same_in : (form : Form) (t u : List JobParts) → HasTableBytes form t → HasTableBytes form u → table_bytes_in form t ≡ table_bytes_in form u → t ≡ u
same_in form t u v w e = (table_tells form t u [] [] v w (ap (λ (bs : List ℕ). bs ++ []) e)).0

pub same_table : (t u : List JobParts) → IsTable t → IsTable u → table_bytes t ≡ table_bytes u → t ≡ u
same_table t u v w e = same_in Ict2 t u (table_new t v) (table_new u w) e

pub no_front : (t u : List JobParts) (rest : List ℕ) → IsTable t → IsTable u → table_bytes t ++ rest ≡ table_bytes u → (t ≡ u) × (rest ≡ [])
no_front t u rest v w e = table_tells Ict2 t u rest [] (table_new t v) (table_new u w) (e ∙ sym (append-nil (table_bytes u)))

-- bytes are a form of one table at most
pub one_table : (t u : List JobParts) (bytes : List ℕ) → IsTable t → IsTable u → IsFormOf t bytes → IsFormOf u bytes → t ≡ u
one_table t u bytes v w (inl e) (inl f) = same_table t u v w (sym e ∙ f)
one_table t u bytes v w (inl e) (inr f) = absurd (not_both t u (sym e ∙ f.bytes_are))
one_table t u bytes v w (inr e) (inl f) = absurd (not_both u t (sym f ∙ e.bytes_are))
one_table t u bytes v w (inr e) (inr f) =
    same_in Ict1 t u (table_old t v e.unbudgeted) (table_old u w f.unbudgeted) (sym e.bytes_are ∙ f.bytes_are)
