-- The single steps as functions give the steps of the calculus.
use Rattle.std.proofs.Common.{◌≡◌, ℕ, ◌+◌, List, true, Option, None, Some, slice_get, take, drop, option_map, option_and_then, refl, sym, ap, ◌∙◌}
use Rattle.std.proofs.lemmas.Option.{none-some}
use Rattle.std.specs.List.{flat_map}
use Rattle.ic_term.specs.Tree.{Pair, names, pair_names}
use Rattle.ic_term.specs.Configuration.{Configuration}
use Rattle.ic_rules.specs.Rule.{Rule}
use Rattle.ic_settle.specs.Settling.{Binding, binding, occurs, Binds}
use Rattle.ic_round.specs.Firing.{Active, active_pair}
use Rattle.ic_round.specs.Steps.{Interaction, Indirection, Collect}
use Rattle.ic_reference.specs.SingleSteps.{interacted_by, interacted, others, bound_at, indirected, collected}
use Rattle.ic_settle.specs.lemmas.ChoiceLaws.{binding_binds, binding_some}
use Rattle.ic_reference.proofs.StandsAt.{stands, stands_there, stands_others}

-- ---- interaction

pub interacted-at : (rs : List Rule) (c : Configuration) (place : ℕ) (p : Pair) (a : Active) → slice_get c.equations place ≡ Some p → active_pair rs p ≡ Some a
    → (interacted rs c place ≡ Some (interacted_by rs c place a)) × Interaction rs c (interacted_by rs c place a) place
interacted-at rs c place p a there is = (
  ap (λ o. option_map (interacted_by rs c place) (option_and_then (active_pair rs) o)) there ∙ ap (option_map (interacted_by rs c place)) is,
  record {
    before = take place c.equations;
    equation = p;
    after = drop (place + 1) c.equations;
    active = a;
    stands = stands c.equations place p there;
    has_rule = is;
    result = refl;
  },
)

pub interacted-inert : (rs : List Rule) (c : Configuration) (place : ℕ) (p : Pair) → slice_get c.equations place ≡ Some p → active_pair rs p ≡ None
    → interacted rs c place ≡ None
interacted-inert rs c place p there inert =
    ap (λ o. option_map (interacted_by rs c place) (option_and_then (active_pair rs) o)) there ∙ ap (option_map (interacted_by rs c place)) inert

pub no_interaction : (rs : List Rule) (c : Configuration) (place : ℕ) → interacted rs c place ≡ None → (d : Configuration) → ¬ Interaction rs c d place
no_interaction rs c place none d i =
    let there = stands_there c.equations place i.before i.equation i.after i.stands in
    none-some _ (sym none ∙ (interacted-at rs c place i.equation i.active there i.has_rule).0)

-- ---- indirection and collect

-- the step of an equation that binds a name which occurs outside of it, if it does
abbrev pub bound_step : Configuration → ℕ → List ℕ → Option Configuration
bound_step c place outside = option_map (bound_at c place) (option_and_then (binding outside) (slice_get c.equations place))

bound_step-at : (c : Configuration) (place : ℕ) (outside : List ℕ) (p : Pair) (o : Option Binding) → slice_get c.equations place ≡ Some p → binding outside p ≡ o
    → bound_step c place outside ≡ option_map (bound_at c place) o
bound_step-at c place outside p o there is =
    ap (λ e. option_map (bound_at c place) (option_and_then (binding outside) e)) there ∙ ap (option_map (bound_at c place)) is

-- where an equation binds a name that occurs outside of it, there is a step
bound_step-some : (c : Configuration) (place : ℕ) (outside : List ℕ) (p : Pair) (b : Binding) → slice_get c.equations place ≡ Some p → Binds p b
    → occurs b.name outside ≡ true → bound_step c place outside ≡ None → ⊥
bound_step-some c place outside p b there side found none = at (binding outside p) refl
  where
    at : (o : Option Binding) → binding outside p ≡ o → ⊥
    at None e = binding_some outside p b side found e
    at (Some d) e = none-some _ (sym none ∙ bound_step-at c place outside p (Some d) there e)

pub indirected-at : (c : Configuration) (place : ℕ) (p : Pair) (b : Binding) → slice_get c.equations place ≡ Some p
    → binding (flat_map pair_names (others c place)) p ≡ Some b
    → (indirected c place ≡ Some (bound_at c place b)) × Indirection c (bound_at c place b) place
indirected-at c place p b there is =
    let bound = binding_binds (flat_map pair_names (others c place)) p b is in (
      bound_step-at c place (flat_map pair_names (others c place)) p (Some b) there is,
      record {
        before = take place c.equations;
        equation = p;
        after = drop (place + 1) c.equations;
        bound = b;
        stands = stands c.equations place p there;
        side = bound.0;
        elsewhere = bound.1;
        result = refl;
      },
    )

pub indirected-unbound : (c : Configuration) (place : ℕ) (p : Pair) → slice_get c.equations place ≡ Some p
    → binding (flat_map pair_names (others c place)) p ≡ None → indirected c place ≡ None
indirected-unbound c place p there none = bound_step-at c place (flat_map pair_names (others c place)) p None there none

pub no_indirection : (c : Configuration) (place : ℕ) → indirected c place ≡ None → (d : Configuration) → ¬ Indirection c d place
no_indirection c place none d i =
    let there = stands_there c.equations place i.before i.equation i.after i.stands in
    let same = stands_others c.equations place i.before i.equation i.after i.stands in
    let elsewhere = ap (λ es. occurs i.bound.name (flat_map pair_names es)) (sym same) ∙ i.elsewhere in
    bound_step-some c place (flat_map pair_names (others c place)) i.equation i.bound there i.side elsewhere none

pub collected-at : (c : Configuration) (place : ℕ) (p : Pair) (b : Binding) → slice_get c.equations place ≡ Some p
    → binding (flat_map names c.interface) p ≡ Some b → (collected c place ≡ Some (bound_at c place b)) × Collect c (bound_at c place b) place
collected-at c place p b there is =
    let bound = binding_binds (flat_map names c.interface) p b is in (
      bound_step-at c place (flat_map names c.interface) p (Some b) there is,
      record {
        before = take place c.equations;
        equation = p;
        after = drop (place + 1) c.equations;
        bound = b;
        stands = stands c.equations place p there;
        side = bound.0;
        elsewhere = bound.1;
        result = refl;
      },
    )

pub collected-unbound : (c : Configuration) (place : ℕ) (p : Pair) → slice_get c.equations place ≡ Some p
    → binding (flat_map names c.interface) p ≡ None → collected c place ≡ None
collected-unbound c place p there none = bound_step-at c place (flat_map names c.interface) p None there none

pub no_collect : (c : Configuration) (place : ℕ) → collected c place ≡ None → (d : Configuration) → ¬ Collect c d place
no_collect c place none d i =
    let there = stands_there c.equations place i.before i.equation i.after i.stands in
    bound_step-some c place (flat_map names c.interface) i.equation i.bound there i.side i.elsewhere none
