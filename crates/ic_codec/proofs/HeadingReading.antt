-- Which headings bytes begin with, and when they begin with none.
use Rattle.std.proofs.Common.{◌≡◌, ◌≢◌, ℕ, ◌^◌, ◌<◌, true, Option, None, Some, List, ◌∷◌, ◌++◌, length, sym, ap, subst, ◌∙◌, arith}
use Rattle.std.proofs.lemmas.List.{length-append}
use Rattle.ic_rules.specs.JobName.{is_job_name}
use Rattle.ic_jobs.specs.declared.state.State.{State}
use Rattle.ic_jobs.specs.State.{state_number}
use Rattle.ic_codec.specs.Form.{budget_number, budget_bytes, heading_bytes}
use Rattle.ic_codec.specs.declared.form.Form.{Form}
use Rattle.ic_codec.specs.declared.form.Form.TheVariants.{Ict2}
use Rattle.ic_jobs.specs.Budget.{IsBudget}
use Rattle.ic_codec.specs.declared.form.Heading.{Heading}
use Rattle.ic_codec.specs.Numbers.{eight_bytes}
use Rattle.ic_codec.specs.Texts.{text_bytes}
use Rattle.ic_codec.specs.inner.Forms.{HasBudgetBytes, HasHeadingBytes}
use Rattle.ic_codec.specs.inner.Fronts.{BeginsWith, BeginsWithNone}
use Rattle.ic_codec.proofs.NumberLemmas.{fronts, length-eight_bytes}
use Rattle.ic_codec.proofs.Unique.{text_front, eight_front, budget_tells, heading_spread}

-- ---- budgets

-- bytes that end too soon begin with no budget
pub short_budget : (bytes : List ℕ) → length bytes < 8 → BeginsWithNone (HasBudgetBytes Ict2) (budget_bytes Ict2) bytes
short_budget bytes short b rest has e =
    omega (arith, ap length e, length-append (budget_bytes Ict2 b) rest, length-eight_bytes (budget_number b))

-- nor do those that begin with a number that is no budget's
pub no_budget : (bytes rest : List ℕ) (n : ℕ) → bytes ≡ eight_bytes n ++ rest → n < 2 ^ 64 → (n ≡ 0 → ⊥) → (IsBudget n → ⊥)
    → BeginsWithNone (HasBudgetBytes Ict2) (budget_bytes Ict2) bytes
no_budget bytes rest n read small some not None after has e = some (eight_front n 0 rest after small (omega arith) (sym read ∙ e)).0
no_budget bytes rest n read small some not (Some m) after has e =
    let same = (eight_front n m rest after small (omega (arith, has.few)) (sym read ∙ e)).0 in
    not (subst IsBudget (sym same) has)

-- ---- headings

abbrev pub after_budget : Heading → List ℕ → List ℕ
after_budget h rest = eight_bytes h.next ++ rest

abbrev pub after_rounds : Form → Heading → List ℕ → List ℕ
after_rounds form h rest = budget_bytes form h.budget ++ after_budget h rest

abbrev pub after_state : Form → Heading → List ℕ → List ℕ
after_state form h rest = eight_bytes h.rounds ++ after_rounds form h rest

-- bytes begin with no heading of this form
abbrev pub NoHeading : Form → List ℕ → Type 0
NoHeading form bytes = BeginsWithNone (HasHeadingBytes form) (heading_bytes form) bytes

module _ (form : Form) where
  pub none_such_name : (bytes text b : List ℕ) → bytes ≡ text_bytes text ++ b → (is_job_name text ≡ true → ⊥) → NoHeading form bytes
  none_such_name bytes text b read not h rest has e =
      let same = (text_front text h.name b (state_number h.state ∷ after_state form h rest) (sym read ∙ e ∙ heading_spread form h rest)).0 in
      not (ap is_job_name same ∙ has.name)

  name_first : (bytes name b : List ℕ) (h : Heading) (rest : List ℕ) → bytes ≡ text_bytes name ++ b → bytes ≡ heading_bytes form h ++ rest
      → b ≡ state_number h.state ∷ after_state form h rest
  name_first bytes name b h rest read e =
      (text_front name h.name b (state_number h.state ∷ after_state form h rest) (sym read ∙ e ∙ heading_spread form h rest)).1

  pub none_state : (bytes name b : List ℕ) → bytes ≡ text_bytes name ++ b → ((s : State) (rest : List ℕ) → b ≢ state_number s ∷ rest) → NoHeading form bytes
  none_state bytes name b read none h rest has e = none h.state (after_state form h rest) (name_first bytes name b h rest read e)

  state_next : (bytes name b : List ℕ) (s : State) (c : List ℕ) (h : Heading) (rest : List ℕ) → bytes ≡ text_bytes name ++ b → b ≡ state_number s ∷ c
      → bytes ≡ heading_bytes form h ++ rest → c ≡ after_state form h rest
  state_next bytes name b s c h rest read after e =
      let same : state_number s ∷ c ≡ state_number h.state ∷ after_state form h rest = sym after ∙ name_first bytes name b h rest read e in
      cc (same)

  pub none_rounds : (bytes name b : List ℕ) (s : State) (c : List ℕ) → bytes ≡ text_bytes name ++ b → b ≡ state_number s ∷ c → length c < 8 → NoHeading form bytes
  none_rounds bytes name b s c read after short h rest has e =
      omega (arith, ap length (state_next bytes name b s c h rest read after e), length-append (eight_bytes h.rounds) (after_rounds form h rest), length-eight_bytes h.rounds)

  rounds_next : (bytes name b : List ℕ) (s : State) (c : List ℕ) (rounds : ℕ) (d : List ℕ) (h : Heading) (rest : List ℕ) → bytes ≡ text_bytes name ++ b → b ≡ state_number s ∷ c
      → c ≡ eight_bytes rounds ++ d → bytes ≡ heading_bytes form h ++ rest → d ≡ after_rounds form h rest
  rounds_next bytes name b s c rounds d h rest read after further e =
      let same = sym further ∙ state_next bytes name b s c h rest read after e in
      (fronts (eight_bytes rounds) (eight_bytes h.rounds) d (after_rounds form h rest) (length-eight_bytes rounds ∙ sym (length-eight_bytes h.rounds)) same).1

  pub none_budget : (bytes name b : List ℕ) (s : State) (c : List ℕ) (rounds : ℕ) (d : List ℕ) → bytes ≡ text_bytes name ++ b → b ≡ state_number s ∷ c
      → c ≡ eight_bytes rounds ++ d → BeginsWithNone (HasBudgetBytes form) (budget_bytes form) d → NoHeading form bytes
  none_budget bytes name b s c rounds d read after further none h rest has e =
      none h.budget (after_budget h rest) has.budget (rounds_next bytes name b s c rounds d h rest read after further e)

  pub none_next : (bytes name b : List ℕ) (s : State) (c : List ℕ) (rounds : ℕ) (d : List ℕ) (budget : Option ℕ) (f : List ℕ) → bytes ≡ text_bytes name ++ b
      → b ≡ state_number s ∷ c → c ≡ eight_bytes rounds ++ d → BeginsWith (HasBudgetBytes form) (budget_bytes form) d budget f → length f < 8 → NoHeading form bytes
  none_next bytes name b s c rounds d budget f read after further begins short h rest has e =
      let same = sym begins.parts ∙ rounds_next bytes name b s c rounds d h rest read after further e in
      let last = (budget_tells form budget h.budget f (after_budget h rest) begins.valid has.budget same).1 in
      omega (arith, ap length last, length-append (eight_bytes h.next) rest, length-eight_bytes h.next)
