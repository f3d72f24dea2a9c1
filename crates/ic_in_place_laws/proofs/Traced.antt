-- Lemmas: a chain of steps as steps of kinds.
use Rattle.std.proofs.Common.{◌≡◌, ℕ, suc, List, [], ◌∷◌, ◌++◌, length, refl, sym, ap, ◌∙◌, subst as transport}
use Rattle.ic_term.specs.Configuration.{Configuration}
use Rattle.ic_rules.specs.Rule.{Rule}
use Rattle.ic_round.specs.Steps.{interaction, indirection, collect, Steps, no_steps, then_step}
use Rattle.ic_round.specs.lemmas.NameStepLemmas.{indirection_step, collect_step}
use Rattle.ic_confluence.specs.Kinds.{Kind, naming, firing, StepOf, Chain}
use Rattle.ic_reaching.specs.Reaching.{rules_fired}
use Rattle.ic_by_rounds.specs.Interacting.{interactions_of}

then_kind : (rs : List Rule) (kinds : List Kind) (k : Kind) (c d e : Configuration) → Chain rs kinds c d → StepOf rs k d e → Chain rs (kinds ++ k ∷ []) c e
then_kind rs [] k c d e same step = (e, transport (λ (x : Configuration). StepOf rs k x e) (sym same) step, refl)
then_kind rs (j ∷ kinds) k c d e chain step = (chain.0, chain.1, then_kind rs kinds k chain.0 d e chain.2 step)

one_fired : (i : ℕ) (kinds : List Kind) → length (rules_fired (kinds ++ firing i ∷ [])) ≡ suc (length (rules_fired kinds))
one_fired i [] = refl
one_fired i (naming ∷ kinds) = one_fired i kinds
one_fired i (firing j ∷ kinds) = ap suc (one_fired i kinds)

none_fired : (kinds : List Kind) → length (rules_fired (kinds ++ naming ∷ [])) ≡ length (rules_fired kinds)
none_fired [] = refl
none_fired (naming ∷ kinds) = none_fired kinds
none_fired (firing j ∷ kinds) = ap suc (none_fired kinds)

-- a chain of steps is one of kinds, with as many interactions
pub chain_of : (rs : List Rule) (c d : Configuration) (steps : Steps rs c d)
    → (kinds : List Kind) × Chain rs kinds c d × (length (rules_fired kinds) ≡ interactions_of rs c d steps)
chain_of rs c d (no_steps x) = ([], refl, refl)
chain_of rs c d (then_step x y z steps (interaction a b place is)) =
    let before = chain_of rs x a steps in (
      before.0 ++ firing is.active.rule ∷ [],
      then_kind rs before.0 (firing is.active.rule) x a b before.1 (place, is, refl),
      one_fired is.active.rule before.0 ∙ ap suc before.2,
    )
chain_of rs c d (then_step x y z steps (indirection a b place is)) =
    let before = chain_of rs x a steps in (
      before.0 ++ naming ∷ [],
      then_kind rs before.0 naming x a b before.1 (indirection_step a b place is),
      none_fired before.0 ∙ before.2,
    )
chain_of rs c d (then_step x y z steps (collect a b place is)) =
    let before = chain_of rs x a steps in (
      before.0 ++ naming ∷ [],
      then_kind rs before.0 naming x a b before.1 (collect_step a b place is),
      none_fired before.0 ∙ before.2,
    )
