-- Jobs that stay jobs.
use Rattle.std.proofs.Common.{List, inl, inr, ◌≡◌, ℕ, ◌+◌, ◌≤◌, ◌↔◌, not, Bool, true, false, cond, Option, None, Some, IsTrue, IfSome, nat_lt, refl, sym, ap, subst, ◌∙◌, arith}
use Rattle.std.proofs.lemmas.Bool.{ltb-true, cases_lt, and_parts}
use Rattle.std.specs.Cmp.{unsigned_Decides}
use Rattle.ic_term.specs.Symbol.{AreSymbols, is_over}
use Rattle.ic_term.specs.Configuration.{Configuration, IsConfiguration}
use Rattle.ic_rules.specs.JobName.{is_job_name}
use Rattle.ic_rules.specs.RuleSet.{Rules, AreServed, IsRuleSet}
use Rattle.ic_rules.specs.System.{SystemParts}
use Rattle.ic_round.specs.Rounds.{fits, round}
use Rattle.ic_round.specs.Quiet.{IsQuiet, is_quiet}
use Rattle.ic_round.specs.lemmas.QuietLemmas.{no_step, is_quiet_where}
use Rattle.ic_round.specs.lemmas.RoundLemmas.{round_is_configuration, round_is_over}
use Rattle.ic_flights.specs.declared.limits.TheConstants.{MAX_ROUNDS}
use Rattle.ic_jobs.specs.declared.state.State.{State}
use Rattle.ic_jobs.specs.declared.state.State.TheVariants.{Running, Done, Spent}
use Rattle.ic_jobs.specs.inner.States.{is_done, is_spent, is_finished, may_be}
use Rattle.ic_jobs.specs.Budget.{IsBudget, is_used_up}
use Rattle.ic_jobs.specs.Job.{JobParts, IsJob, open_state, state_after, begun, system_of, can_move, moved, in_state}

-- ---- states and budgets

is_Done : (s : State) → is_done s ≡ true → s ≡ Done
is_Done Done e = refl
is_Done _ e = cc

is_Spent : (s : State) → is_spent s ≡ true → s ≡ Spent
is_Spent Spent e = refl
is_Spent _ e = cc

done_is : (s : State) → s ≡ Done → is_done s ≡ true
done_is s e = ap is_done e

spent_is : (s : State) → s ≡ Spent → is_spent s ≡ true
spent_is s e = ap is_spent e

not_done : (s : State) → is_finished s ≡ false → s ≡ Done → ⊥
not_done s apart e = let both : false ≡ true = sym apart ∙ ap is_finished e in cc

not_spent : (s : State) → is_finished s ≡ false → s ≡ Spent → ⊥
not_spent s apart e = let both : false ≡ true = sym apart ∙ ap is_finished e in cc

done_not_spent : Done ≡ Spent → ⊥
done_not_spent e = let both : true ≡ false = ap is_done e in cc

-- a budget is used up exactly where it is the rounds
pub is_budget : (budget : Option ℕ) (rounds : ℕ) → is_used_up budget rounds ≡ true → budget ≡ Some rounds
is_budget None rounds e = cc
is_budget (Some most) rounds e = ap (λ (n : ℕ). Some n) (sym ((unsigned_Decides rounds most).0 e))

pub used_up_where : (budget : Option ℕ) (rounds : ℕ) → budget ≡ Some rounds → is_used_up budget rounds ≡ true
used_up_where budget rounds e = ap (λ (b : Option ℕ). is_used_up b rounds) e ∙ (unsigned_Decides rounds rounds).1 refl

-- What the state of a job says: whether it is quiet, and else whether its budget is used up.
pub record IsInState (s : State) (rules : Rules) (c : Configuration) (rounds : ℕ) (budget : Option ℕ) : Type 0 where
  pub done : (s ≡ Done) ↔ IsQuiet rules.rules c
  pub spent : (s ≡ Spent) ↔ ((¬ IsQuiet rules.rules c) × (budget ≡ Some rounds))

state_by : (s : State) (rules : Rules) (c : Configuration) (rounds : ℕ) (budget : Option ℕ) (quiet used : Bool) → is_quiet rules.rules c ≡ quiet → is_used_up budget rounds ≡ used
    → may_be s quiet used ≡ true → IsInState s rules c rounds budget
state_by s rules c rounds budget true used is by e =
    let done = is_Done s e in let quiet = no_step rules.rules c is in
    record {
      done = (λ d. quiet, λ q. done);
      spent = (λ spent. absurd (done_not_spent (sym done ∙ spent)), λ both. absurd (both.0 quiet));
    }
state_by s rules c rounds budget false true is by e =
    let spent = is_Spent s e in
    let apart : ¬ IsQuiet rules.rules c = λ q. let both : false ≡ true = sym is ∙ is_quiet_where rules.rules c q in cc in
    record {
      done = (λ done. absurd (done_not_spent (sym done ∙ spent)), λ q. absurd (apart q));
      spent = (λ _. (apart, is_budget budget rounds by), λ _. spent);
    }
state_by s rules c rounds budget false false is by e =
    let unended = not_true (is_finished s) e in
    let apart : ¬ IsQuiet rules.rules c = λ q. let both : false ≡ true = sym is ∙ is_quiet_where rules.rules c q in cc in
    record {
      done = (λ done. absurd (not_done s unended done), λ q. absurd (apart q));
      spent = (λ spent. absurd (not_spent s unended spent), λ both. let used : false ≡ true = sym by ∙ used_up_where budget rounds both.1 in cc);
    }
  where
    not_true : (b : Bool) → not b ≡ true → b ≡ false
    not_true true h = cc
    not_true false h = refl

-- the test of a state finds exactly the states in which such a job may be
pub state_is : (s : State) (rules : Rules) (c : Configuration) (rounds : ℕ) (budget : Option ℕ)
    → may_be s (is_quiet rules.rules c) (is_used_up budget rounds) ≡ true → IsInState s rules c rounds budget
state_is s rules c rounds budget e = state_by s rules c rounds budget (is_quiet rules.rules c) (is_used_up budget rounds) refl refl e

found_by : (s : State) (rules : Rules) (c : Configuration) (rounds : ℕ) (budget : Option ℕ) (quiet used : Bool) → is_quiet rules.rules c ≡ quiet → is_used_up budget rounds ≡ used
    → IsInState s rules c rounds budget → may_be s quiet used ≡ true
found_by s rules c rounds budget true used is by h = done_is s (h.done.1 (no_step rules.rules c is))
found_by s rules c rounds budget false true is by h =
    let apart : ¬ IsQuiet rules.rules c = λ q. let both : false ≡ true = sym is ∙ is_quiet_where rules.rules c q in cc in
    spent_is s (h.spent.1 (apart, is_budget budget rounds by))
found_by s rules c rounds budget false false is by h =
    unended s (λ done. let both : false ≡ true = sym is ∙ is_quiet_where rules.rules c (h.done.0 done) in cc)
    (λ spent. let both : false ≡ true = sym by ∙ used_up_where budget rounds (h.spent.0 spent).1 in cc)
  where
    unended : (r : State) → ¬ (r ≡ Done) → ¬ (r ≡ Spent) → not (is_finished r) ≡ true
    unended Done d u = absurd (d refl)
    unended Spent d u = absurd (u refl)
    unended _ d u = refl

pub state_found : (s : State) (rules : Rules) (c : Configuration) (rounds : ℕ) (budget : Option ℕ) → IsInState s rules c rounds budget
    → may_be s (is_quiet rules.rules c) (is_used_up budget rounds) ≡ true
state_found s rules c rounds budget h = found_by s rules c rounds budget (is_quiet rules.rules c) (is_used_up budget rounds) refl refl h

-- ---- jobs in another state

pub IsJob-in_state : (s : State) (j : JobParts) → IsJob j → is_finished j.state ≡ false → is_finished s ≡ false → IsJob (in_state s j)
IsJob-in_state s j is old new = record {
  name = is.name;
  symbols = is.symbols;
  rules = is.rules;
  served = is.served;
  config = is.config;
  over = is.over;
  counted = is.counted;
  budget = is.budget;
  within = is.within;
  done = (λ e. absurd (not_done s new e), λ quiet. absurd (not_done j.state old (is.done.1 quiet)));
  spent = (λ e. absurd (not_spent s new e), λ both. absurd (not_spent j.state old (is.spent.1 both)));
}

-- ---- jobs after a round

after_by : (quiet used : Bool) → may_be (cond quiet Done (cond used Spent Running)) quiet used ≡ true
after_by true used = refl
after_by false true = refl
after_by false false = refl

after_is : (rules : Rules) (c : Configuration) (rounds : ℕ) (budget : Option ℕ) → IsInState (state_after rules c rounds budget) rules c rounds budget
after_is rules c rounds budget = state_is _ rules c rounds budget (after_by (is_quiet rules.rules c) (is_used_up budget rounds))

one_more : (n : ℕ) → nat_lt n MAX_ROUNDS ≡ true → n + 1 ≤ MAX_ROUNDS
one_more n e = omega (arith, ltb-true n MAX_ROUNDS e)

below : (n most : ℕ) → n ≤ most → ¬ (most ≡ n) → n + 1 ≤ most
below n most least apart = elim (cases_lt n most) [
  | inl lt ↦ omega (arith, lt)
  | inr ge ↦ absurd (apart (omega (arith, ge, least)))
]

more_within : (budget : Option ℕ) (n : ℕ) → IfSome budget (λ most. n ≤ most) → ¬ (budget ≡ Some n) → IfSome budget (λ most. n + 1 ≤ most)
more_within None n within apart = tt
more_within (Some most) n within apart = below n most within (λ e. apart (ap (λ (m : ℕ). Some m) e))

-- a job that is neither done nor spent has rounds left
rounds_left : (j : JobParts) → IsJob j → is_finished j.state ≡ false → ¬ (j.budget ≡ Some j.rounds)
rounds_left j is unended used =
    not_spent j.state unended (is.spent.1 (λ quiet. not_done j.state unended (is.done.1 quiet), used))

pub IsJob-moved : (j : JobParts) → IsJob j → is_finished j.state ≡ false → can_move j ≡ true → IsJob (moved j)
IsJob-moved j is unended can =
    let parts = and_parts (fits j.rules.rules j.config) (nat_lt j.rounds MAX_ROUNDS) can in
    let state = after_is j.rules (round j.rules.rules j.config) (j.rounds + 1) j.budget in
    record {
      name = is.name;
      symbols = is.symbols;
      rules = is.rules;
      served = is.served;
      config = round_is_configuration j.rules j.config is.rules is.config is.over parts.0;
      over = round_is_over j.rules j.config is.rules is.over;
      counted = one_more j.rounds parts.1;
      budget = is.budget;
      within = more_within j.budget j.rounds is.within (rounds_left j is unended);
      done = state.done;
      spent = state.spent;
    }

-- ---- jobs as they begin

nought_least : (n : ℕ) → 0 ≤ n
nought_least n = omega arith

none_made : (budget : Option ℕ) → IfSome budget IsBudget → IfSome budget (λ most. 0 ≤ most)
none_made None is = tt
none_made (Some most) is = nought_least most

some_left : (budget : Option ℕ) → IfSome budget IsBudget → budget ≡ Some 0 → ⊥
some_left None is e = cc
some_left (Some most) is e = let same : most ≡ 0 = cc in let least : 1 ≤ most = is.some in omega (arith, same, least)

unused : (budget : Option ℕ) → IfSome budget IsBudget → is_used_up budget 0 ≡ false
unused budget is = at (is_used_up budget 0) refl
  where
    at : (b : Bool) → is_used_up budget 0 ≡ b → b ≡ false
    at true e = absurd (some_left budget is (is_budget budget 0 e))
    at false e = refl

open_by : (quiet : Bool) → may_be (cond quiet Done Running) quiet false ≡ true
open_by true = refl
open_by false = refl

open_is : (rules : Rules) (c : Configuration) (budget : Option ℕ) → IfSome budget IsBudget → IsInState (open_state rules c) rules c 0 budget
open_is rules c budget is =
    state_is _ rules c 0 budget (ap (may_be (open_state rules c) (is_quiet rules.rules c)) (unused budget is) ∙ open_by (is_quiet rules.rules c))

pub IsJob-begun : (name : List ℕ) (s : SystemParts) (most : Option ℕ) → IsTrue (is_job_name name) → AreSymbols s.rules.symbols → IsRuleSet s.rules → AreServed s.rules → IsConfiguration s.config
    → IsTrue (is_over s.rules.symbols s.config) → IfSome most IsBudget → IsJob (begun name s most)
IsJob-begun name s most named symbols rules served config over budget =
    let state = open_is s.rules s.config most budget in
    record {
      name = named;
      symbols = symbols;
      rules = rules;
      served = served;
      config = config;
      over = over;
      counted = omega arith;
      budget = budget;
      within = none_made most budget;
      done = state.done;
      spent = state.spent;
    }

-- a copy of a job begins as a job
pub IsJob-branched : (new : List ℕ) (j : JobParts) → IsTrue (is_job_name new) → IsJob j → IsJob (begun new (system_of j) None)
IsJob-branched new j named is = IsJob-begun new (system_of j) None named is.symbols is.rules is.served is.config is.over tt

-- ---- jobs that are made or changed field by field

pub IsJob-of_parts : (name : List ℕ) (rules : Rules) (config : Configuration) (s : State) (most : Option ℕ) → IsTrue (is_job_name name) → AreSymbols rules.symbols → IsRuleSet rules
    → AreServed rules → IsConfiguration config → IsTrue (is_over rules.symbols config) → IfSome most IsBudget → s ≡ open_state rules config
    → IsJob (record { name = name; rules = rules; config = config; rounds = 0; state = s; budget = most })
IsJob-of_parts name rules config s most named symbols set served valid over budget e =
    subst (λ (r : State). IsJob (record { name = name; rules = rules; config = config; rounds = 0; state = r; budget = most })) (sym e)
    (IsJob-begun name (record { rules = rules; config = config }) most named symbols set served valid over budget)

pub IsJob-advanced : (j n : JobParts) (after : Configuration) (s : State) (quiet : Bool) → IsJob j → j ≡ n → is_finished n.state ≡ false → IsTrue (can_move n)
    → after ≡ round n.rules.rules n.config → quiet ≡ is_quiet n.rules.rules after → s ≡ cond quiet Done (cond (is_used_up j.budget (j.rounds + 1)) Spent Running)
    → IsJob (record { name = j.name; rules = j.rules; config = after; rounds = j.rounds + 1; state = s; budget = j.budget })
IsJob-advanced j n after s quiet is same unended can made looked e =
    let able : can_move j ≡ true = ap can_move same ∙ can in
    let unfinished : is_finished j.state ≡ false = ap (λ (k : JobParts). is_finished k.state) same ∙ unended in
    let now : round j.rules.rules j.config ≡ after = ap (λ (k : JobParts). round k.rules.rules k.config) same ∙ sym made in
    let seen : quiet ≡ is_quiet j.rules.rules after = looked ∙ ap (λ (k : JobParts). is_quiet k.rules.rules after) (sym same) in
    let told : s ≡ state_after j.rules after (j.rounds + 1) j.budget = e ∙ ap (λ (q : Bool). cond q Done (cond (is_used_up j.budget (j.rounds + 1)) Spent Running)) seen in
    let to : state_after j.rules (round j.rules.rules j.config) (j.rounds + 1) j.budget ≡ s = ap (λ (c : Configuration). state_after j.rules c (j.rounds + 1) j.budget) now ∙ sym told in
    subst (λ (p : Configuration × State). IsJob (record { name = j.name; rules = j.rules; config = p.0; rounds = j.rounds + 1; state = p.1; budget = j.budget }))
    (λ i. (now i, to i)) (IsJob-moved j is unfinished able)
