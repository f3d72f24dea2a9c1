use Rattle.std.proofs.Common.{◌≡◌, ◌⊎◌, inl, inr, ⊎_elim, ℕ, List, true, false, refl, ap}
use Rattle.ic_jobs.specs.declared.reply.Refusal.{Refusal}
use Rattle.ic_jobs.specs.declared.reply.Reply.{Reply}
use Rattle.ic_jobs.specs.declared.reply.Reply.TheVariants.{Shown, Listed, Refused}
use Rattle.ic_jobs.specs.declared.state.State.{State}
use Rattle.ic_jobs.specs.Shown.{ShownParts}
use Rattle.ic_book.specs.Entries.{leaves_table}
use Rattle.ic_book.proofs.AnswerLemmas.{told_stays}
use Rattle.ic_book.proofs.laws.some_replies_leave_the_table.Goals as goal

-- a reply that shows or lists jobs, or refuses
abbrev Tells : Reply → Type 0
Tells r = ((job : ShownParts) × (r ≡ Shown job)) ⊎ (((jobs : List (List ℕ × State × ℕ)) × (r ≡ Listed jobs)) ⊎ ((refusal : Refusal) × (r ≡ Refused refusal)))

leaves : (r : Reply) → leaves_table r ≡ true → Tells r
leaves (Shown job) is = inl (job, refl)
leaves (Listed jobs) is = inr (inl (jobs, refl))
leaves (Refused refusal) is = inr (inr (refusal, refl))
leaves _ is = let never : false ≡ true = is in cc

tells : (r : Reply) → Tells r → leaves_table r ≡ true
tells r = ⊎_elim (λ shown. ap leaves_table shown.1) (⊎_elim (λ listed. ap leaves_table listed.1) (λ refused. ap leaves_table refused.1))

pub returns-clause-stays : goal.returns-clause-stays
returns-clause-stays c = told_stays

pub returns-clause-which : goal.returns-clause-which
returns-clause-which c = λ r. (leaves r, tells r)
