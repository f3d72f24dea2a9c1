-- Lemmas: a file holds a form of a table in one way at most, and it can be told whether it holds a table.
use Rattle.std.proofs.Common.{◌≡◌, ◌⊎◌, inl, inr, ⊎_elim, ℕ, List, refl, sym, ◌∙◌, ap, subst}
use Rattle.std.specs.Coded.{Coded-set, coded_list, coded_ℕ}
use mathlib.Core.Sum.{⊎_set}
use Rattle.ic_jobs.specs.Job.{JobParts}
use Rattle.ic_jobs.specs.Table.{IsTable}
use Rattle.ic_codec.specs.Tables.{IsFormOf}
use Rattle.ic_codec.specs.lemmas.OneForm.{IsFormOf-prop, form_or_not}
use Rattle.ic_frames.specs.Held.{Held, the_body, body_held}
use Rattle.ic_slots.specs.Held.{HasTable, HoldsFormOf}

numbers-set : IsSet (List ℕ)
numbers-set = Coded-set (coded_list coded_ℕ)

Held-set : IsSet Held
Held-set = hlevel (numbers-set, ⊎_set)

same_body : (xs ys : List ℕ) → the_body xs ≡ the_body ys → xs ≡ ys
same_body xs ys e = cc

-- one holds a form as the other does where the bodies are the same
same_form : (t : List JobParts) (file : List ℕ) (one : HoldsFormOf t file) (held : body_held file ≡ the_body one.body) (form : IsFormOf t one.body)
    → one ≡ record { body = one.body; held = held; form = form }
same_form t file one held form =
    ap {B = HoldsFormOf t file} (λ (h : body_held file ≡ the_body one.body). record { body = one.body; held = h; form = one.form }) (Held-set _ _ one.held held)
    ∙ ap {B = HoldsFormOf t file} (λ (f : IsFormOf t one.body). record { body = one.body; held = held; form = f }) (IsFormOf-prop t one.body one.form form)

pub HoldsFormOf-prop : (t : List JobParts) (file : List ℕ) → IsProp (HoldsFormOf t file)
HoldsFormOf-prop t file one other =
    subst (λ (b : List ℕ). (held : body_held file ≡ the_body b) (form : IsFormOf t b) → ◌≡◌ {A = HoldsFormOf t file} one (record { body = b; held = held; form = form }))
    (same_body one.body other.body (sym one.held ∙ other.held)) (same_form t file one) other.held other.form

table_told : (t : List JobParts) (file : List ℕ) (held : Held) → body_held file ≡ held → IsTable t → HasTable t file ⊎ ¬ HasTable t file
table_told t file (the_body body) is sound = ⊎_elim
    (λ form. inl (sound, record { body = body; held = is; form = form }))
    (λ none. inr (λ has. none (subst (λ (b : List ℕ). IsFormOf t b) (same_body has.1.body body (sym has.1.held ∙ is)) has.1.form)))
    (form_or_not t body)
table_told t file held is sound = inr (λ has. let never : the_body has.1.body ≡ held = sym has.1.held ∙ is in cc)

pub table_or_not : (t : List JobParts) (file : List ℕ) → IsTable t → HasTable t file ⊎ ¬ HasTable t file
table_or_not t file sound = table_told t file (body_held file) refl sound
