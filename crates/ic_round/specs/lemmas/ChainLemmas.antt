-- Lemmas, which a reader of the contracts doesn't need: what each chain of steps keeps.
use Rattle.std.proofs.Common.{◌≡◌, ◌↔◌, ◌≤◌, ◌∷◌, ℕ, zero, suc, List, true, Some, refl, sym, ap, ◌∙◌, arith, [], subst as transport}
use Rattle.std.specs.List.{list_all}
use Rattle.ic_term.specs.Tree.{Pair}
use Rattle.ic_term.specs.Symbol.{is_over, is_tree_over, is_pair_over}
use Rattle.ic_term.specs.Configuration.{Configuration}
use Rattle.ic_rules.specs.Rule.{Rule}
use Rattle.ic_rules.specs.RuleSet.{Rules, IsRuleSet}
use Rattle.std.proofs.lemmas.Bool.{and_parts}
use Rattle.ic_settle.specs.lemmas.SubstitutionLaws.{and_both}
use Rattle.ic_settle.specs.lemmas.MiddleLaws.{over-middle}
use Rattle.std.specs.Option.{option_map_or}
use Rattle.ic_round.specs.Naming.{HasNames}
use Rattle.ic_round.specs.Firing.{products_by, fired_pair, names_taken, count_of}
use Rattle.ic_round.specs.lemmas.SoundRules.{sound_rule}
use Rattle.ic_round.specs.lemmas.FiredNames.{Fires, fires}
use Rattle.ic_round.specs.lemmas.NamesLemmas.{replaced_names, name_step-names}
use Rattle.ic_round.specs.Steps.{Interaction, Step, interaction, indirection, collect, Steps, no_steps, then_step}
use Rattle.ic_round.specs.CountedSteps.{IsStepsFrom}
use Rattle.ic_round.specs.lemmas.NameStepLemmas.{indirection_step, collect_step}
use Rattle.ic_round.specs.lemmas.SettledLemmas.{name_step-over}
use Rattle.ic_round.specs.lemmas.OverSymbols.{over_pair, over_replaced}

step-next : (rs : List Rule) (c d : Configuration) → Step rs c d → c.next ≤ d.next
step-next rs c d (interaction x y place i) = let same = ap (λ (e : Configuration). e.next) i.result in omega arith
step-next rs c d (indirection x y place i) = let same = ap (λ (e : Configuration). e.next) i.result in omega arith
step-next rs c d (collect x y place i) = let same = ap (λ (e : Configuration). e.next) i.result in omega arith

interaction-over : (rs : Rules) (c d : Configuration) (place : ℕ) → IsRuleSet rs → is_over rs.symbols c ≡ true → Interaction rs.rules c d place
    → is_over rs.symbols d ≡ true
interaction-over rs c d place set over i =
    let ss = rs.symbols in
    let parts = and_parts (list_all (is_tree_over ss) c.interface) (list_all (is_pair_over ss) c.equations) over in
    let split = ap (list_all (is_pair_over ss)) (sym i.stands.parts) ∙ parts.1 in
    let both = over-middle ss i.before i.equation i.after split in
    let more = over_pair ss rs.rules c.next i.equation set.fitting both.1 (Some i.active) i.has_rule in
    ap (is_over ss) i.result ∙ and_both parts.0 (over_replaced ss i.before (products_by rs.rules c.next i.active) i.after both.0 more)

step-over : (rs : Rules) (c d : Configuration) → IsRuleSet rs → is_over rs.symbols c ≡ true → Step rs.rules c d → is_over rs.symbols d ≡ true
step-over rs c d set over (interaction x y place i) = interaction-over rs c d place set over i
step-over rs c d set over (indirection x y place i) = name_step-over rs.symbols c d (indirection_step c d place i) over
step-over rs c d set over (collect x y place i) = name_step-over rs.symbols c d (collect_step c d place i) over

interaction-names : (rs : Rules) (c d : Configuration) (place : ℕ) → IsRuleSet rs → is_over rs.symbols c ≡ true → HasNames c → Interaction rs.rules c d place → HasNames d
interaction-names rs c d place set over named i =
    let ss = rs.symbols in
    let parts = and_parts (list_all (is_tree_over ss) c.interface) (list_all (is_pair_over ss) c.equations) over in
    let both = over-middle ss i.before i.equation i.after (ap (list_all (is_pair_over ss)) (sym i.stands.parts) ∙ parts.1) in
    let sound = sound_rule ss rs.rules i.equation set.fitting set.each both.1 in
    let out : fired_pair rs.rules c.next i.equation ≡ products_by rs.rules c.next i.active = ap (λ o. option_map_or (products_by rs.rules c.next) o (i.equation ∷ [])) i.has_rule in
    let taken : names_taken rs.rules i.equation ≡ count_of rs.rules i.active.rule = ap (λ o. option_map_or (λ a. count_of rs.rules a.rule) o 0) i.has_rule in
    let fired : Fires rs.rules c.next i.equation (products_by rs.rules c.next i.active) (count_of rs.rules i.active.rule) =
    transport (λ (x : List Pair × ℕ). Fires rs.rules c.next i.equation x.0 x.1) (λ j. (out j, taken j)) (fires rs.rules c.next i.equation sound) in
    transport HasNames (sym i.result) (replaced_names rs.rules c i.before i.equation i.after _ _ fired i.stands.parts named)

step-names : (rs : Rules) (c d : Configuration) → IsRuleSet rs → is_over rs.symbols c ≡ true → HasNames c → Step rs.rules c d → HasNames d
step-names rs c d set over named (interaction x y place i) = interaction-names rs c d place set over named i
step-names rs c d set over named (indirection x y place i) = name_step-names c d (indirection_step c d place i) named
step-names rs c d set over named (collect x y place i) = name_step-names c d (collect_step c d place i) named

pub steps-next : (rs : List Rule) (c d : Configuration) → Steps rs c d → c.next ≤ d.next
steps-next rs c d (no_steps x) = omega arith
steps-next rs c d (then_step x e y steps step) =
    let before = steps-next rs c e steps in
    let after = step-next rs e d step in
    omega arith

pub steps-over : (rs : Rules) (c d : Configuration) → IsRuleSet rs → is_over rs.symbols c ≡ true → Steps rs.rules c d → is_over rs.symbols d ≡ true
steps-over rs c d set over (no_steps x) = over
steps-over rs c d set over (then_step x e y steps step) = step-over rs e d set (steps-over rs c e set over steps) step

-- a chain has a number of steps, and each number of steps makes a chain
chain_counted : (rs : List Rule) (c d : Configuration) → Steps rs c d → (n : ℕ) × IsStepsFrom rs n c d
chain_counted rs c d (no_steps x) = (0, refl)
chain_counted rs c d (then_step x e y steps step) = let before = chain_counted rs c e steps in (suc before.0, (e, before.1, step))

chain_made : (rs : List Rule) (n : ℕ) (c d : Configuration) → IsStepsFrom rs n c d → Steps rs c d
chain_made rs zero c d same = let P : Configuration → Type 0 = λ e. Steps rs c e in transport P same (no_steps c)
chain_made rs (suc n) c d last = then_step c last.0 d (chain_made rs n c last.0 last.1) last.2

pub steps_counted : (rs : List Rule) (c d : Configuration) → Steps rs c d ↔ ((n : ℕ) × IsStepsFrom rs n c d)
steps_counted rs c d = (chain_counted rs c d, λ some. chain_made rs some.0 c d some.1)

pub steps-names : (rs : Rules) (c d : Configuration) → IsRuleSet rs → is_over rs.symbols c ≡ true → HasNames c → Steps rs.rules c d → HasNames d
steps-names rs c d set over named (no_steps x) = named
steps-names rs c d set over named (then_step x e y steps step) =
    step-names rs e d set (steps-over rs c e set over steps) (steps-names rs c e set over named steps) step
