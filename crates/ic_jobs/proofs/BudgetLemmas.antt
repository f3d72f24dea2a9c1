-- Events that leave the budget of each job.
use Rattle.std.proofs.Common.{◌≡◌, ℕ, List, [], ◌∷◌, ◌++◌, Bool, true, false, cond, Option, None, Some, is_some, nat_lt, length, refl, sym, ap, subst, ◌∙◌}
use Rattle.std.specs.Option.{option_map, option_map_or, option_or}
use Rattle.std.specs.Str.{bytes_eq}
use Rattle.std.specs.Cmp.Lexicographic.{bytes_decides}
use Rattle.ic_rules.specs.System.{SystemParts}
use Rattle.ic_jobs.specs.declared.limits.TheConstants.{MAX_JOBS}
use Rattle.ic_jobs.specs.declared.state.State.TheVariants as state
use Rattle.ic_jobs.specs.declared.command.Command.TheVariants.{Submit, CopyJob, Pause, Resume, Cancel, Fetch, List as list_jobs}
use Rattle.ic_jobs.specs.declared.reply.Reply.TheVariants.{Accepted, Okay, Refused, Moved, Halted}
use Rattle.ic_jobs.specs.declared.reply.Refusal.TheVariants.{Taken, Full}
use Rattle.ic_jobs.specs.declared.event.Event.{Event}
use Rattle.ic_jobs.specs.declared.event.Event.TheVariants.{Command as by_command, Round}
use Rattle.ic_jobs.specs.State.{is_running, is_paused}
use Rattle.ic_jobs.specs.Job.{JobParts, begun, system_of, can_move, moved, in_state}
use Rattle.ic_jobs.specs.Table.{is_named, job_named, with_changed, without}
use Rattle.ic_jobs.specs.Events.{Outcome, outcome, copied, unless_missing, paused, resumed, after_round, where_running}
use Rattle.ic_jobs.specs.History.{table_after}
use Rattle.ic_jobs.proofs.TableLookups.{KeepsName, job_named-changed, job_named-changed_other, job_named-without, job_named-without_other, job_named-append}

-- where a job is there before and after, it has one budget
abbrev Keeps : Option JobParts → Option JobParts → Type 0
Keeps None after = Unit {0}
Keeps (Some j) None = Unit {0}
Keeps (Some j) (Some k) = k.budget ≡ j.budget

same : (o : Option JobParts) → Keeps o o
same None = tt
same (Some j) = refl

as_it_was : (o p : Option JobParts) → p ≡ o → Keeps o p
as_it_was o p e = subst (λ (q : Option JobParts). Keeps o q) (sym e) (same o)

gone : (o : Option JobParts) → Keeps o None
gone None = tt
gone (Some j) = tt

or_another : (o other : Option JobParts) → Keeps o (option_or o other)
or_another None other = tt
or_another (Some j) other = refl

-- a change that leaves the budget
abbrev KeepsBudget : (JobParts → JobParts) → Type 0
KeepsBudget change = (j : JobParts) → (change j).budget ≡ j.budget

mapped : (change : JobParts → JobParts) (o : Option JobParts) → KeepsBudget change → Keeps o (option_map change o)
mapped change None each = tt
mapped change (Some j) each = each j

names_equal : (a b : List ℕ) → bytes_eq a b ≡ true → a ≡ b
names_equal a b = (bytes_decides a b).0

changed : (name n : List ℕ) (change : JobParts → JobParts) (t : List JobParts) (b : Bool) → bytes_eq name n ≡ b → KeepsName change → KeepsBudget change
    → Keeps (job_named name t) (job_named name (with_changed n change t))
changed name n change t true is keeps each =
    let e = sym (names_equal name n is) in
    let found = ap (λ (m : List ℕ). job_named name (with_changed m change t)) e ∙ job_named-changed name change t keeps in
    subst (λ (q : Option JobParts). Keeps (job_named name t) q) (sym found) (mapped change (job_named name t) each)
changed name n change t false apart keeps each = as_it_was _ _ (job_named-changed_other n name change t apart keeps)

taken_out : (name n : List ℕ) (t : List JobParts) (b : Bool) → bytes_eq name n ≡ b → Keeps (job_named name t) (job_named name (without n t))
taken_out name n t true is =
    let none = ap (λ (m : List ℕ). job_named name (without m t)) (sym (names_equal name n is)) ∙ job_named-without name t in
    subst (λ (q : Option JobParts). Keeps (job_named name t) q) (sym none) (gone (job_named name t))
taken_out name n t false apart = as_it_was _ _ (job_named-without_other n name t apart)

pushed : (name : List ℕ) (t : List JobParts) (j : JobParts) → Keeps (job_named name t) (job_named name (t ++ j ∷ []))
pushed name t j =
    subst (λ (q : Option JobParts). Keeps (job_named name t) q) (sym (job_named-append name t j)) (or_another (job_named name t) (cond (is_named name j) (Some j) None))

submitted_so : (name n : List ℕ) (s : SystemParts) (most : Option ℕ) (t : List JobParts) (taken room : Bool)
    → Keeps (job_named name t) (job_named name (cond taken (outcome t (Refused Taken)) (cond room (outcome (t ++ begun n s most ∷ []) Accepted) (outcome t (Refused Full)))).table)
submitted_so name n s most t true room = same (job_named name t)
submitted_so name n s most t false true = pushed name t (begun n s most)
submitted_so name n s most t false false = same (job_named name t)

unless : (name : List ℕ) (t : List JobParts) (what : JobParts → Outcome) (o : Option JobParts) → ((j : JobParts) → Keeps (job_named name t) (job_named name (what j).table))
    → Keeps (job_named name t) (job_named name (unless_missing t what o).table)
unless name t what None each = same (job_named name t)
unless name t what (Some j) each = each j

either : (name : List ℕ) (t : List JobParts) (a b : Outcome) (c : Bool) → Keeps (job_named name t) (job_named name a.table) → Keeps (job_named name t) (job_named name b.table)
    → Keeps (job_named name t) (job_named name (cond c a b).table)
either name t a b true first second = first
either name t a b false first second = second

running_so : (name : List ℕ) (t : List JobParts) (what : JobParts → Outcome) (o : Option JobParts) → ((j : JobParts) → Keeps (job_named name t) (job_named name (what j).table))
    → Keeps (job_named name t) (job_named name (option_map_or (λ p. p.table) (where_running what o) t))
running_so name t what None each = same (job_named name t)
running_so name t what (Some j) each = at (is_running j.state)
  where
    at : (b : Bool) → Keeps (job_named name t) (job_named name (option_map_or (λ p. p.table) (cond b (Some (what j)) None) t))
    at true = each j
    at false = same (job_named name t)

event_keeps : (t : List JobParts) (e : Event) (name : List ℕ) → Keeps (job_named name t) (job_named name (table_after t e))
event_keeps t (by_command (Submit n s most)) name = submitted_so name n s most t (is_some (job_named n t)) (nat_lt (length t) MAX_JOBS)
event_keeps t (by_command (CopyJob old n)) name =
    unless name t (copied t n) (job_named old t)
    (λ j. submitted_so name n (system_of j) None t (is_some (job_named n t)) (nat_lt (length t) MAX_JOBS))
event_keeps t (by_command (Pause n)) name =
    unless name t (paused t n) (job_named n t)
    (λ j. either name t _ _ (is_running j.state) (changed name n (in_state state.Paused) t (bytes_eq name n) refl (λ k. refl) (λ k. refl)) (same (job_named name t)))
event_keeps t (by_command (Resume n)) name =
    unless name t (resumed t n) (job_named n t)
    (λ j. either name t _ _ (is_paused j.state) (changed name n (in_state state.Running) t (bytes_eq name n) refl (λ k. refl) (λ k. refl)) (same (job_named name t)))
event_keeps t (by_command (Cancel n)) name = unless name t _ (job_named n t) (λ j. taken_out name n t (bytes_eq name n) refl)
event_keeps t (by_command (Fetch n)) name = unless name t _ (job_named n t) (λ j. same (job_named name t))
event_keeps t (by_command list_jobs) name = same (job_named name t)
event_keeps t (Round n) name =
    running_so name t (after_round t n) (job_named n t)
    (λ j. either name t _ _ (can_move j) (changed name n moved t (bytes_eq name n) refl (λ k. refl) (λ k. refl))
    (changed name n (in_state state.Halted) t (bytes_eq name n) refl (λ k. refl) (λ k. refl)))

pub budget_stays : (t : List JobParts) (e : Event) (name : List ℕ) (j k : JobParts) → job_named name t ≡ Some j → job_named name (table_after t e) ≡ Some k → k.budget ≡ j.budget
budget_stays t e name j k before after =
    subst (λ (p : Option JobParts × Option JobParts). Keeps p.0 p.1) (λ i. (before i, after i)) (event_keeps t e name)
