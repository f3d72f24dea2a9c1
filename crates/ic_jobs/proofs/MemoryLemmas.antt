-- Commands that take memory, and what they answer.
use Rattle.std.proofs.Common.{◌≡◌, ◌⊎◌, inl, inr, ◌++◌, ◌∷◌, [], ℕ, List, Bool, true, false, cond, Option, None, Some, is_some, nat_lt, length, IsTrue, ◌↔◌, refl, sym, subst, ◌∙◌}
use Rattle.ic_rules.specs.System.{SystemParts}
use Rattle.ic_jobs.specs.declared.limits.TheConstants.{MAX_JOBS}
use Rattle.ic_jobs.specs.declared.state.State.{State}
use Rattle.ic_jobs.specs.declared.state.State.TheVariants as state
use Rattle.ic_jobs.specs.declared.command.Command.{Command}
use Rattle.ic_jobs.specs.declared.command.Command.TheVariants.{Submit, CopyJob, Pause, Resume, Cancel, Fetch, List as list_jobs}
use Rattle.ic_jobs.specs.declared.reply.Reply.{Reply}
use Rattle.ic_jobs.specs.declared.reply.Reply.TheVariants.{Accepted, Okay, Shown, Listed}
use Rattle.ic_jobs.specs.declared.reply.Refusal.{Refusal}
use Rattle.ic_jobs.specs.declared.reply.Refusal.TheVariants.{Taken, Full, NotRunning, NotPaused}
use Rattle.ic_jobs.specs.State.{is_running, is_paused}
use Rattle.ic_jobs.specs.Job.{JobParts, begun, system_of, in_state}
use Rattle.ic_jobs.specs.Table.{job_named, with_changed, without}
use Rattle.ic_jobs.specs.Shown.{ShownParts, shown}
use Rattle.ic_jobs.specs.Events.{Outcome, outcome, refused, copied, unless_missing, paused, resumed, after_command}
use Rattle.ic_jobs.specs.Replies.{is_accepted, is_okay}
use Rattle.ic_jobs.specs.Memory.{takes_memory, is_submit, tells_jobs}

-- a reply that neither submits a job nor tells of jobs
abbrev Spares : Reply → Type 0
Spares r = (is_accepted r ≡ false) × (tells_jobs r ≡ false)

spares_changed : (t u : List JobParts) (q : Refusal) (b : Bool) → Spares (cond b (outcome u Okay) (refused t q)).reply
spares_changed t u q true = (refl, refl)
spares_changed t u q false = (refl, refl)

spares_unless : (t : List JobParts) (what : JobParts → Outcome) (o : Option JobParts) → ((j : JobParts) → Spares (what j).reply) → Spares (unless_missing t what o).reply
spares_unless t what None each = (refl, refl)
spares_unless t what (Some j) each = each j

spared : (t : List JobParts) (c : Command) → takes_memory c ≡ false → Spares (after_command t c).reply
spared t (Pause n) e = spares_unless t (paused t n) (job_named n t) (λ j. spares_changed t (with_changed n (in_state state.Paused) t) NotRunning (is_running j.state))
spared t (Resume n) e = spares_unless t (resumed t n) (job_named n t) (λ j. spares_changed t (with_changed n (in_state state.Running) t) NotPaused (is_paused j.state))
spared t (Cancel n) e = spares_unless t (λ j. outcome (without n t) Okay) (job_named n t) (λ j. (refl, refl))
spared t _ e = cc

submitting_by : (t : List JobParts) (c : Command) (b : Bool) → takes_memory c ≡ b → is_accepted (after_command t c).reply ≡ true → b ≡ true
submitting_by t c true is e = refl
submitting_by t c false is e = sym (spared t c is).0 ∙ e

pub submitting : (t : List JobParts) (c : Command) → is_accepted (after_command t c).reply ≡ true → takes_memory c ≡ true
submitting t c e = submitting_by t c (takes_memory c) refl e

telling_by : (t : List JobParts) (c : Command) (b : Bool) → takes_memory c ≡ b → tells_jobs (after_command t c).reply ≡ true → b ≡ true
telling_by t c true is e = refl
telling_by t c false is e = sym (spared t c is).1 ∙ e

pub telling : (t : List JobParts) (c : Command) → tells_jobs (after_command t c).reply ≡ true → takes_memory c ≡ true
telling t c e = telling_by t c (takes_memory c) refl e

-- a submit, a copy and a fetch are never answered `Okay`
submit_apart : (t u : List JobParts) (taken room : Bool) → is_okay (cond taken (refused t Taken) (cond room (outcome u Accepted) (refused t Full))).reply ≡ false
submit_apart t u true room = refl
submit_apart t u false true = refl
submit_apart t u false false = refl

copy_apart : (t : List JobParts) (n : List ℕ) (o : Option JobParts) → is_okay (unless_missing t (copied t n) o).reply ≡ false
copy_apart t n None = refl
copy_apart t n (Some j) = submit_apart t (t ++ begun n (system_of j) None ∷ []) (is_some (job_named n t)) (nat_lt (length t) MAX_JOBS)

fetch_apart : (t : List JobParts) (o : Option JobParts) → is_okay (unless_missing t (λ j. outcome t (Shown (shown j))) o).reply ≡ false
fetch_apart t None = refl
fetch_apart t (Some j) = refl

pub changing : (t : List JobParts) (c : Command) → is_okay (after_command t c).reply ≡ true → takes_memory c ≡ false
changing t (Submit n s most) e = sym e ∙ submit_apart t (t ++ begun n s most ∷ []) (is_some (job_named n t)) (nat_lt (length t) MAX_JOBS)
changing t (CopyJob old n) e = sym e ∙ copy_apart t n (job_named old t)
changing t (Pause n) e = refl
changing t (Resume n) e = refl
changing t (Cancel n) e = refl
changing t (Fetch n) e = sym e ∙ fetch_apart t (job_named n t)
changing t list_jobs e = cc

-- what a copy takes memory of
abbrev IsOfSubmit : Command → Type 0
IsOfSubmit c = (n : List ℕ) × (s : SystemParts) × (most : Option ℕ) × (c ≡ Submit n s most)

other : (c : Command) → ((n : List ℕ) (s : SystemParts) (most : Option ℕ) → c ≡ Submit n s most → ⊥) → is_submit c ≡ false → IsTrue (is_submit c) ↔ IsOfSubmit c
other c apart none = (λ is. let both : false ≡ true = sym none ∙ is in cc, λ h. absurd (apart h.0 h.1 h.2 h.3))

pub is_submit_exact : (c : Command) → IsTrue (is_submit c) ↔ ((n : List ℕ) × (s : SystemParts) × (most : Option ℕ) × (c ≡ Submit n s most))
is_submit_exact (Submit n s most) = (λ is. (n, s, most, refl), λ h. refl)
is_submit_exact (CopyJob old n) = other (CopyJob old n) (λ m s b e. cc) refl
is_submit_exact (Pause n) = other (Pause n) (λ m s b e. cc) refl
is_submit_exact (Resume n) = other (Resume n) (λ m s b e. cc) refl
is_submit_exact (Cancel n) = other (Cancel n) (λ m s b e. cc) refl
is_submit_exact (Fetch n) = other (Fetch n) (λ m s b e. cc) refl
is_submit_exact list_jobs = other list_jobs (λ m s b e. cc) refl

abbrev IsOfJobs : Reply → Type 0
IsOfJobs r = ((s : ShownParts) × (r ≡ Shown s)) ⊎ ((l : List (List ℕ × State × ℕ)) × (r ≡ Listed l))

told_of : (r : Reply) → IsTrue (tells_jobs r) → IsOfJobs r
told_of (Shown s) is = inl (s, refl)
told_of (Listed l) is = inr (l, refl)
told_of _ is = cc

of_told : (r : Reply) → IsOfJobs r → IsTrue (tells_jobs r)
of_told r h = elim h [
  | inl p ↦ ap_tells (Shown p.0) r (sym p.1) refl
  | inr p ↦ ap_tells (Listed p.0) r (sym p.1) refl
]
  where
    ap_tells : (q s : Reply) → q ≡ s → tells_jobs q ≡ true → tells_jobs s ≡ true
    ap_tells q s e is = subst (λ (x : Reply). tells_jobs x ≡ true) e is

pub tells_jobs_exact : (r : Reply) → IsTrue (tells_jobs r) ↔ (((s : ShownParts) × (r ≡ Shown s)) ⊎ ((l : List (List ℕ × State × ℕ)) × (r ≡ Listed l)))
tells_jobs_exact r = (told_of r, of_told r)
