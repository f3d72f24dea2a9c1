-- Lemmas: a round is joined to its input by a chain of steps.
use Rattle.std.proofs.Common.{◌≡◌, ℕ, zero, suc, ◌+◌, List, [], ◌∷◌, ◌++◌, Option, None, Some, length, refl, sym, append_assoc, append-nil, arith, subst}
use Rattle.std.specs.Option.{option_map_or}
use Rattle.ic_term.specs.Tree.{Tree, Pair}
use Rattle.ic_term.specs.Configuration.{Configuration}
use Rattle.ic_rules.specs.Rule.{Rule}
use Rattle.ic_settle.specs.Settling.{Choice, first_choice, applied, settled_in, settled}
use Rattle.ic_round.specs.Firing.{Active, active_pair, products_by, count_of, names_taken, fired_pair, fired_from, next_after, fired}
use Rattle.ic_round.specs.Steps.{Step, interaction, Steps, no_steps, then_step}
use Rattle.ic_round.specs.Rounds.{round, iterate}
use Rattle.ic_round.specs.lemmas.NameStepLemmas.{name_step}
use Rattle.ic_round.specs.lemmas.SettledLemmas.{choice_step}

-- a configuration on its way: these equations are done, those aren't
abbrev way : List Tree → List Pair → List Pair → ℕ → Configuration
way ts done ps base = record { interface = ts; equations = done ++ ps; next = base }

fire_next : (rs : List Rule) (ts : List Tree) (done : List Pair) (p : Pair) (ps : List Pair) (base : ℕ) (a : Active) → active_pair rs p ≡ Some a
    → Step rs (way ts done (p ∷ ps) base) (way ts done (products_by rs base a ++ ps) (base + count_of rs a.rule))
fire_next rs ts done p ps base a is = interaction _ _ (length done) (record {
  before = done;
  equation = p;
  after = ps;
  active = a;
  stands = record { counted = refl; parts = refl };
  has_rule = is;
  result = refl;
})

regrouped : (rs : List Rule) (c : Configuration) (ts : List Tree) (done out ps : List Pair) (base : ℕ) → Steps rs c (way ts done (out ++ ps) base) → Steps rs c (way ts (done ++ out) ps base)
regrouped rs c ts done out ps base steps =
    let P : List Pair → Type 0 = λ es. Steps rs c (record { interface = ts; equations = es; next = base }) in
    subst P (sym (append_assoc done out ps)) steps

one_fired : (rs : List Rule) (c : Configuration) (ts : List Tree) (done : List Pair) (p : Pair) (ps : List Pair) (base : ℕ) (found : Option Active) → active_pair rs p ≡ found
    → Steps rs c (way ts done (p ∷ ps) base)
    → Steps rs c (way ts (done ++ option_map_or (products_by rs base) found (p ∷ [])) ps (base + option_map_or (λ a. count_of rs a.rule) found 0))
one_fired rs c ts done p ps base None is steps =
    let P : ℕ → Type 0 = λ n. Steps rs c (way ts (done ++ p ∷ []) ps n) in
    let same : base ≡ base + 0 = omega arith in
    subst P same (regrouped rs c ts done (p ∷ []) ps base steps)
one_fired rs c ts done p ps base (Some a) is steps =
    regrouped rs c ts done (products_by rs base a) ps (base + count_of rs a.rule) (then_step c _ _ steps (fire_next rs ts done p ps base a is))

all_fired : (rs : List Rule) (c : Configuration) (ts : List Tree) (done ps : List Pair) (base : ℕ) → Steps rs c (way ts done ps base)
    → Steps rs c (way ts (done ++ fired_from rs base ps) [] (next_after rs base ps))
all_fired rs c ts done [] base steps = regrouped rs c ts done [] [] base steps
all_fired rs c ts done (p ∷ ps) base steps =
    let more = all_fired rs c ts (done ++ fired_pair rs base p) ps (base + names_taken rs p) (one_fired rs c ts done p ps base (active_pair rs p) refl steps) in
    let P : List Pair → Type 0 = λ es. Steps rs c (way ts es [] (next_after rs (base + names_taken rs p) ps)) in
    subst P (append_assoc done (fired_pair rs base p) (fired_from rs (base + names_taken rs p) ps)) more

pub fired_reached : (rs : List Rule) (c : Configuration) → Steps rs c (fired rs c)
fired_reached rs c =
    let all = all_fired rs c c.interface [] c.equations c.next (no_steps c) in
    let P : List Pair → Type 0 = λ es. Steps rs c (record { interface = c.interface; equations = es; next = (fired rs c).next }) in
    subst P (append-nil (fired_from rs c.next c.equations)) all

-- ---- settling

settled_in-reached : (rs : List Rule) (n : ℕ) (c d : Configuration) → Steps rs c d → Steps rs c (settled_in n d)
settled_in-reached rs zero c d steps = steps
settled_in-reached rs (suc n) c d steps = at (first_choice d.interface [] d.equations) refl (λ e more. settled_in-reached rs n c e more)
  where
    at : (found : Option Choice) → first_choice d.interface [] d.equations ≡ found
        → ((e : Configuration) → Steps rs c e → Steps rs c (settled_in n e)) → Steps rs c (settled_in (suc n) d)
    at None e rest = rw e steps
    at (Some choice) e rest = rw e (rest (applied d choice) (then_step c d _ steps (name_step rs d _ (choice_step d choice e))))

pub settled_reached : (rs : List Rule) (c d : Configuration) → Steps rs c d → Steps rs c (settled d)
settled_reached rs c d steps = settled_in-reached rs (length d.equations) c d steps

-- a round is reached by finitely many steps
pub round_reached : (rs : List Rule) (c : Configuration) → Steps rs c (round rs c)
round_reached rs c = settled_reached rs c (fired rs c) (fired_reached rs c)

one_round_more : (rs : List Rule) (c d : Configuration) → Steps rs c d → Steps rs c (round rs d)
one_round_more rs c d steps = joined rs c d (round rs d) steps (round_reached rs d)
  where
    joined : (rs : List Rule) (c d e : Configuration) → Steps rs c d → Steps rs d e → Steps rs c e
    joined rs c d e steps (no_steps x) = steps
    joined rs c d e steps (then_step x y z more step) = then_step c y z (joined rs c d y steps more) step

pub iterate_reached : (rs : List Rule) (n : ℕ) (c : Configuration) → Steps rs c (iterate rs n c)
iterate_reached rs zero c = no_steps c
iterate_reached rs (suc n) c = one_round_more rs c (iterate rs n c) (iterate_reached rs n c)
