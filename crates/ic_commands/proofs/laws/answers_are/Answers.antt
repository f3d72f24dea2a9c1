use Rattle.std.proofs.Common.{◌≡◌, ℕ, List, [], ◌∷◌, ◌++◌, ap, ◌∙◌, append_assoc, append-nil}
use Rattle.std.specs.Prelude.{codes}
use Rattle.std.specs.List.{flat_map}
use Rattle.ic_jobs.specs.declared.state.State.{State}
use Rattle.ic_commands.specs.ReplyText.{listed_text}
use Rattle.ic_commands.proofs.PlainLines.{all_states, all_refusals, reply_joined}
use Rattle.ic_commands.proofs.laws.answers_are.Goals as goal

-- one job more
listed-more : (js : List (List ℕ × State × ℕ)) (j : List ℕ × State × ℕ) → flat_map listed_text (js ++ j ∷ []) ≡ flat_map listed_text js ++ listed_text j
listed-more [] j = append-nil (listed_text j)
listed-more (k ∷ ks) j = ap (λ x. listed_text k ++ x) (listed-more ks j) ∙ simp append_assoc

pub returns-clause-shown : goal.returns-clause-shown
returns-clause-shown c = λ job. simp append_assoc

pub returns-clause-listed : goal.returns-clause-listed
returns-clause-listed c = λ jobs name state rounds.
    ap (λ x. codes "jobs" ++ x) (listed-more jobs (name, state, rounds)) ∙ simp append_assoc

pub returns-clause-answers : goal.returns-clause-answers
returns-clause-answers c = reply_joined

pub returns-clause-all_states : goal.returns-clause-all_states
returns-clause-all_states c = all_states

pub returns-clause-all_refusals : goal.returns-clause-all_refusals
returns-clause-all_refusals c = all_refusals
