-- Lemmas: whatever order the steps have that put terms for names, they end in the same net.
use Rattle.std.proofs.Common.{◌≡◌, ◌⊎◌, ℕ, List, [], ◌∷◌, ◌++◌, refl, sym, ◌∙◌, inl, inr, subst as transport}
use Rattle.ic_term.specs.Configuration.{Configuration}
use Rattle.ic_settle.specs.Settling.{settled}
use Rattle.ic_settle.specs.NameSteps.{NameStep, NameSteps, no_step, one_more}
use Rattle.ic_round.specs.Naming.{HasNames}
use Rattle.ic_confluence.specs.Sameness.{Same, through}
use Rattle.ic_confluence.specs.lemmas.Equivalence.{Same-refl, Same-sym}
use Rattle.ic_confluence.proofs.Putting.{Putting, from_step, to_step, putting_names}
use Rattle.ic_confluence.proofs.Moving.{same_names, taken_too}
use Rattle.ic_confluence.proofs.Meeting.{two_puttings}
use Rattle.ic_settle.specs.lemmas.Reached.{settled_steps, settled_ends}
use Rattle.ic_confluence.proofs.Strip.{Meeting, Chain, Ended, same_end, goes_on}

-- all these steps have one label
abbrev pub Labelled : ℕ → Configuration → Configuration → Type 0
Labelled l c d = (l ≡ 0) × Putting c d

met : (l m : ℕ) (d e : Configuration) → l ≡ 0 → m ≡ 0 → Same d e ⊎ ((f : Configuration) × Putting d f × Putting e f)
    → ((l ≡ m) × Same d e) ⊎ ((f : Configuration) × (g : Configuration) × Labelled m d f × Labelled l e g × Same f g)
met l m d e p q (inl same) = inl (p ∙ sym q, same)
met l m d e p q (inr (f, one, other)) = inr (f, f, (q, one), (p, other), Same-refl f)

pub name_laws : Meeting ℕ Configuration HasNames Labelled Same
name_laws = record {
  itself = Same-refl;
  other_way = Same-sym;
  through = through;
  good_step = λ l c d named step. putting_names c d named step.1;
  good_same = λ c d named same. same_names c d same named;
  taken_too = λ l c d e named same step. let too = taken_too c d e named same step.1 in (too.end, (step.0, too.step), too.same);
  meets = λ l m c d e named step other. met l m d e step.0 other.0 (two_puttings c d e named step.1 other.1);
}

abbrev Way : List ℕ → Configuration → Configuration → Type 0
Way = Chain ℕ Configuration HasNames Labelled Same name_laws

one_step_more : (ls : List ℕ) (c d e : Configuration) → Way ls c d → Putting d e → Way (ls ++ 0 ∷ []) c e
one_step_more [] c d e w step = let P : Configuration → Type 0 = λ z. Putting z e in (e, (refl, transport P (sym w) step), refl)
one_step_more (l ∷ ls) c d e w step = (w.0, w.1, one_step_more ls w.0 d e w.2 step)

pub way_of : (c d : Configuration) → NameSteps c d → (ls : List ℕ) × Way ls c d
way_of c d (no_step x) = ([], refl)
way_of c d (one_more x y z steps step) = let before = way_of x y steps in (before.0 ++ 0 ∷ [], one_step_more before.0 x y z before.1 (from_step y z step))

first_step : (c d e : Configuration) → NameStep c d → NameSteps d e → NameSteps c e
first_step c d e step (no_step x) = one_more c c x (no_step c) step
first_step c d e step (one_more x y z steps last) = one_more c y z (first_step c x y step steps) last

pub steps_of : (ls : List ℕ) (c d : Configuration) → Way ls c d → NameSteps c d
steps_of [] c d w = let P : Configuration → Type 0 = NameSteps c in transport P w (no_step c)
steps_of (l ∷ ls) c d w = first_step c w.0 d (to_step c w.0 w.1.1) (steps_of ls w.0 d w.2)

abbrev NoStep : Configuration → Type 0
NoStep d = (f : Configuration) → NameStep d f → ⊥

ended : (d : Configuration) → NoStep d → Ended ℕ Configuration HasNames Labelled Same name_laws d
ended d none l f step = none f (to_step d f step.1)

pub same_ends : (c d e : Configuration) → HasNames c → NameSteps c d → NameSteps c e → ((f : Configuration) → NameStep d f → ⊥) → ((f : Configuration) → NameStep e f → ⊥) → Same d e
same_ends c d e named first second none also =
    let one = way_of c d first in
    let two = way_of c e second in
    (same_end ℕ Configuration HasNames Labelled Same name_laws one.0 two.0 c d e named one.1 (ended d none) two.1 (ended e also)).1

pub settles_so : (c d : Configuration) → HasNames c → NameSteps c d → ((f : Configuration) → NameStep d f → ⊥) → Same d (settled c)
settles_so c d named steps none = same_ends c d (settled c) named steps (settled_steps c) none (settled_ends c)

pub goes_on_to_settled : (c d : Configuration) → HasNames c → NameSteps c d → (e : Configuration) × NameSteps d e × Same (settled c) e
goes_on_to_settled c d named steps =
    let whole = way_of c (settled c) (settled_steps c) in
    let part = way_of c d steps in
    let on = goes_on ℕ Configuration HasNames Labelled Same name_laws part.0 whole.0 c (settled c) d named whole.1 (ended (settled c) (settled_ends c)) part.1 in
    (on.end, steps_of on.others d on.end on.chain, on.same)

-- ---- the laws of one step and of two, in the words of `NameStep`

pub step_too : (c d after : Configuration) → HasNames c → Same c d → NameStep c after → (end : Configuration) × NameStep d end × Same after end
step_too c d after named same step =
    let too = taken_too c d after named same (from_step c after step) in
    (too.end, to_step d too.end too.step, too.same)

pub two_steps : (c d e : Configuration) → HasNames c → NameStep c d → NameStep c e → Same d e ⊎ ((f : Configuration) × NameStep d f × NameStep e f)
two_steps c d e named step other = at (two_puttings c d e named (from_step c d step) (from_step c e other))
  where
    at : Same d e ⊎ ((f : Configuration) × Putting d f × Putting e f) → Same d e ⊎ ((f : Configuration) × NameStep d f × NameStep e f)
    at (inl same) = inl same
    at (inr (f, one, two)) = inr (f, to_step d f one, to_step e f two)
