-- Lemmas: settling is a chain of name steps, after which there is none.
use Rattle.std.proofs.Common.{◌≡◌, ℕ, zero, suc, ◌≤◌, List, [], ◌∷◌, ◌++◌, Option, None, Some, length, refl, ap, ◌∙◌, append_assoc, append-nil, length-append, arith, subst as transport}
use Rattle.std.proofs.lemmas.List.{length-map}
use Rattle.ic_term.specs.Tree.{Tree, Pair}
use Rattle.ic_term.specs.Configuration.{Configuration, names_in}
use Rattle.ic_settle.specs.Settling.{Binding, Choice, subst_pair, binding, choice_or, first_choice, applied, settled_in, settled}
use Rattle.ic_settle.specs.NameSteps.{NameStep, NameSteps, no_step, one_more}
use Rattle.ic_settle.specs.lemmas.ChoiceLaws.{is_choice, binding_binds, binding_some}

-- ---- the steps

-- a choice is a step of the calculus
pub choice_step : (c : Configuration) (choice : Choice) → first_choice c.interface [] c.equations ≡ Some choice
    → NameStep c (applied c choice)
choice_step c choice e =
    let is = is_choice c.interface [] c.equations choice e in
    let bound = binding_binds (names_in c.interface (choice.before ++ choice.after)) is.equation choice.bound is.binds in
    record {
      before = choice.before;
      equation = is.equation;
      after = choice.after;
      bound = choice.bound;
      place = is.place;
      side = bound.0;
      outside = bound.1;
      result = refl;
    }

pub settled_in_steps : (n : ℕ) (c d : Configuration) → NameSteps c d → NameSteps c (settled_in n d)
settled_in_steps zero c d steps = steps
settled_in_steps (suc n) c d steps = at (first_choice d.interface [] d.equations) refl (λ e more. settled_in_steps n c e more)
  where
    at : (found : Option Choice) → first_choice d.interface [] d.equations ≡ found
        → ((e : Configuration) → NameSteps c e → NameSteps c (settled_in n e)) → NameSteps c (settled_in (suc n) d)
    at None e rest = rw e steps
    at (Some choice) e rest = rw e (rest (applied d choice) (one_more c d _ steps (choice_step d choice e)))

pub settled_steps : (c : Configuration) → NameSteps c (settled c)
settled_steps c = settled_in_steps (length c.equations) c c (no_step c)

-- ---- nothing is left to do

pub one_fewer : (c d : Configuration) → NameStep c d → length c.equations ≡ suc (length d.equations)
one_fewer c d s =
    let left = s.before ++ s.after in
    let now = ap (λ (e : Configuration). length e.equations) s.result ∙ length-map left (subst_pair s.bound.name s.bound.term) in
    ap length s.place ∙ omega (arith, length-append s.before (s.equation ∷ s.after), length-append s.before s.after, now)

no_choice_left : (n : ℕ) (c : Configuration) → length c.equations ≤ n → first_choice (settled_in n c).interface [] (settled_in n c).equations ≡ None
no_choice_left zero c few = none c.equations few
  where
    none : (es : List Pair) → length es ≤ 0 → first_choice c.interface [] es ≡ None
    none [] few = refl
    none (e ∷ es) few = absurd (omega (arith, few))
no_choice_left (suc n) c few = at (first_choice c.interface [] c.equations) refl (λ d less. no_choice_left n d less)
  where
    at : (found : Option Choice) → first_choice c.interface [] c.equations ≡ found
        → ((d : Configuration) → length d.equations ≤ n → first_choice (settled_in n d).interface [] (settled_in n d).equations ≡ None)
        → first_choice (settled_in (suc n) c).interface [] (settled_in (suc n) c).equations ≡ None
    at None e rest = rw e e
    at (Some choice) e rest = rw e (rest (applied c choice) (let fewer = one_fewer c (applied c choice) (choice_step c choice e) in omega (arith, fewer, few)))

no_choice : (before after : List Pair) (here : Option Binding) (later : Option Choice) → choice_or before after here later ≡ None
    → (here ≡ None) × (later ≡ None)
no_choice before after None later e = (refl, e)
no_choice before after (Some b) later e = cc

-- where there is no choice, no equation has an applicable side
pub unbound_at : (ts : List Tree) (done before : List Pair) (p : Pair) (after : List Pair) → first_choice ts done (before ++ p ∷ after) ≡ None
    → binding (names_in ts ((done ++ before) ++ after)) p ≡ None
unbound_at ts done [] p after none = rw (append-nil done) (no_choice done after (binding (names_in ts (done ++ after)) p) _ none).0
unbound_at ts done (q ∷ before) p after none =
    let later = (no_choice done (before ++ p ∷ after) (binding (names_in ts (done ++ (before ++ p ∷ after))) q) _ none).1 in
    rw (← append_assoc done (q ∷ []) before) (unbound_at ts (done ++ q ∷ []) before p after later)

-- where there is no choice, no name step is possible
pub no_name_step : (c d : Configuration) → first_choice c.interface [] c.equations ≡ None → NameStep c d → ⊥
no_name_step c d none s =
    let P : List Pair → Type 0 = λ es. first_choice c.interface [] es ≡ None in
    binding_some (names_in c.interface (s.before ++ s.after)) s.equation s.bound s.side s.outside
    (unbound_at c.interface [] s.before s.equation s.after (transport P s.place none))

pub settled_ends : (c d : Configuration) → NameStep (settled c) d → ⊥
settled_ends c d step =
    no_name_step (settled c) d (no_choice_left (length c.equations) c (let same : length c.equations ≤ length c.equations = omega arith in same)) step
