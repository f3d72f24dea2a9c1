-- Lemmas: chains of steps with their kinds, and rounds.
use Rattle.std.proofs.Common.{◌≡◌, ◌⊎◌, ◌↔◌, ℕ, ◌≤◌, ◌<◌, List, [], ◌∷◌, ◌++◌, true, refl, sym, ap, ◌∙◌, arith, inl, inr, subst as transport}
use Rattle.std.proofs.lemmas.Bool.{cases_lt}
use Rattle.ic_term.specs.Tree.{Pair, pair_names}
use Rattle.ic_term.specs.Configuration.{Configuration, configuration_names, occurrences}
use Rattle.ic_term.specs.Symbol.{is_over}
use Rattle.std.specs.List.{flat_map}
use Rattle.ic_rules.specs.Rule.{Rule}
use Rattle.ic_rules.specs.RuleSet.{Rules, IsRuleSet}
use Rattle.ic_round.specs.Firing.{products_by}
use Rattle.ic_round.specs.Naming.{HasNames}
use Rattle.ic_round.specs.Rounds.{iterate}
use Rattle.ic_round.specs.Quiet.{IsQuiet}
use Rattle.ic_round.specs.Steps.{Step, Steps, no_steps, then_step}
use Rattle.ic_round.specs.lemmas.FreshNames.{absent_above}
use Rattle.ic_round.specs.lemmas.StepsLemmas.{iterate_reached}
use Rattle.ic_confluence.specs.Kinds.{Kind, naming, firing, StepOf, Chain}
use Rattle.ic_confluence.specs.Sameness.{Same}
use Rattle.ic_confluence.specs.lemmas.Counts.{in_configuration, in_more, below_next}
use Rattle.ic_confluence.specs.lemmas.Replacing.{Replaced, replaced_counts}
use Rattle.ic_confluence.proofs.Putting.{from_step, free_before, free_after}
use Rattle.ic_confluence.specs.lemmas.Actives.{fresh_products}
use Rattle.ic_confluence.proofs.Firings.{Firing, from_interaction, Sound, rule_of, old_counts}
use Rattle.ic_confluence.proofs.Order.{kind_of, step_of, same_ends}

one_more_kind : (rs : List Rule) (ks : List Kind) (k : Kind) (c d e : Configuration) → Chain rs ks c d → StepOf rs k d e → Chain rs (ks ++ k ∷ []) c e
one_more_kind rs [] k c d e w step = let P : Configuration → Type 0 = λ z. StepOf rs k z e in (e, transport P (sym w) step, refl)
one_more_kind rs (j ∷ ks) k c d e w step = (w.0, w.1, one_more_kind rs ks k w.0 d e w.2 step)

pub chain_from : (rs : List Rule) (c d : Configuration) → Steps rs c d → (ks : List Kind) × Chain rs ks c d
chain_from rs c d (no_steps x) = ([], refl)
chain_from rs c d (then_step x y z steps step) =
    let before = chain_from rs x y steps in
    let kind = kind_of rs y z step in
    (before.0 ++ kind.0 ∷ [], one_more_kind rs before.0 kind.0 x y z before.1 kind.1)

pub first_step : (rs : List Rule) (c d e : Configuration) → Step rs c d → Steps rs d e → Steps rs c e
first_step rs c d e step (no_steps x) = then_step c c x (no_steps c) step
first_step rs c d e step (then_step x y z steps last) = then_step c y z (first_step rs c x y step steps) last

pub steps_from : (rs : List Rule) (ks : List Kind) (c d : Configuration) → Chain rs ks c d → Steps rs c d
steps_from rs [] c d w = let P : Configuration → Type 0 = Steps rs c in transport P w (no_steps c)
steps_from rs (k ∷ ks) c d w = first_step rs c w.0 d (step_of rs k c w.0 w.1) (steps_from rs ks w.0 d w.2)

pub chains_of_kinds : (rs : List Rule) (c d : Configuration) → Steps rs c d ↔ ((ks : List Kind) × Chain rs ks c d)
chains_of_kinds rs c d = (chain_from rs c d, λ w. steps_from rs w.0 c d w.1)

-- the rounds end in the net of every order
pub rounds_end_so : (rs : Rules) (n : ℕ) (c d : Configuration) → IsRuleSet rs → is_over rs.symbols c ≡ true → HasNames c
    → Steps rs.rules c d → IsQuiet rs.rules d → IsQuiet rs.rules (iterate rs.rules n c) → Same d (iterate rs.rules n c)
rounds_end_so rs n c d set over named steps quiet also =
    let one = chain_from rs.rules c d steps in
    let other = chain_from rs.rules c (iterate rs.rules n c) (iterate_reached rs.rules n c) in
    (same_ends rs one.0 other.0 c d (iterate rs.rules n c) set over named one.1 quiet other.1 also).0

-- ---- the names that occur once

-- an equation has no name that none of its list has
equation_none : (n : ℕ) (p : Pair) (out es fs : List Pair) → Replaced p out es fs → occurrences n (flat_map pair_names es) ≡ 0 → occurrences n (pair_names p) ≡ 0
equation_none n p out [] fs r none = absurd r
equation_none n p out (q ∷ es) fs (inl (same, is)) none =
    let split = in_more n q es in
    let equal = ap (λ z. occurrences n (pair_names z)) same in
    omega (arith, none, split, equal)
equation_none n p out (q ∷ es) fs (inr (rest, r, is)) none = let split = in_more n q es in equation_none n p out es rest r (omega (arith, none, split))

fired_free : (rs : Rules) (c d : Configuration) → IsRuleSet rs → Sound rs c → Firing rs.rules c d → (n : ℕ)
    → (occurrences n (configuration_names c) ≡ 1) ↔ (occurrences n (configuration_names d) ≡ 1)
fired_free rs c d set sound s n = (after, λ once. before once (cases_lt n c.next))
  where
    after : occurrences n (configuration_names c) ≡ 1 → occurrences n (configuration_names d) ≡ 1
    after once = old_counts rs c d set sound s n (below_next c sound.named n (omega (arith, once))) ∙ once

    before : occurrences n (configuration_names d) ≡ 1 → (n < c.next) ⊎ (c.next ≤ n) → occurrences n (configuration_names c) ≡ 1
    before once (inl low) = sym (old_counts rs c d set sound s n low) ∙ once
    before once (inr high) =
        let h = rule_of rs c d set sound s in
        let none = absent_above n c.next (configuration_names c) sound.named.below high in
        let is = ap (λ (e : Configuration). occurrences n (configuration_names e)) s.result in
        let one = in_configuration n c.interface c.equations in
        let other = in_configuration n c.interface s.others in
        let counts = replaced_counts n s.equation (products_by rs.rules c.next s.active) c.equations s.others s.at in
        let own : occurrences n (pair_names s.equation) ≡ 0 = equation_none n s.equation (products_by rs.rules c.next s.active) c.equations s.others s.at (omega (arith, none, one)) in
        absurd (fresh_products rs.rules s.equation s.active h c.next n high own (omega (arith, none, is, one, other, counts, own, once)))

free_kept : (rs : Rules) (k : Kind) (c d : Configuration) → IsRuleSet rs → Sound rs c → StepOf rs.rules k c d → (n : ℕ)
    → (occurrences n (configuration_names c) ≡ 1) ↔ (occurrences n (configuration_names d) ≡ 1)
free_kept rs naming c d set sound step n = (free_after c d sound.named (from_step c d step) n, free_before c d sound.named (from_step c d step) n)
free_kept rs (firing i) c d set sound step n = fired_free rs c d set sound (from_interaction rs.rules c d step.0 step.1) n

pub step_free : (rs : Rules) (c d : Configuration) → IsRuleSet rs → is_over rs.symbols c ≡ true → HasNames c → Step rs.rules c d → (n : ℕ)
    → (occurrences n (configuration_names c) ≡ 1) ↔ (occurrences n (configuration_names d) ≡ 1)
step_free rs c d set over named step n =
    let kind = kind_of rs.rules c d step in
    free_kept rs kind.0 c d set (record { over = over; named = named }) kind.1 n
