-- Lemmas: a round of a configuration that isn't quiet makes a step, so where a chain ends, some number of rounds does.
use Rattle.std.proofs.Common.{◌≡◌, ◌⊎◌, ◌↔◌, ℕ, zero, suc, ◌+◌, ◌≤◌, ◌<◌, List, [], ◌∷◌, ◌++◌, Bool, true, false, ◌&&◌, Option, None, Some, is_none, length, length-append, refl, sym, ap, ◌∙◌, append_assoc, append-nil, arith, inl, inr, subst as transport}
use Rattle.std.proofs.lemmas.Bool.{cases_Bool, and_from, true≢false}
use Rattle.std.proofs.lemmas.List.Sorted.{length_permutation}
use Rattle.std.specs.List.{list_all}
use Rattle.std.specs.Option.{option_map, option_map_or}
use Rattle.ic_term.specs.Tree.{Tree, Pair}
use Rattle.ic_term.specs.Configuration.{Configuration}
use Rattle.ic_term.specs.Symbol.{is_over}
use Rattle.ic_rules.specs.Rule.{Rule}
use Rattle.ic_rules.specs.RuleSet.{Rules, IsRuleSet}
use Rattle.ic_settle.specs.Settling.{Choice, first_choice, applied, settled_in, settled}
use Rattle.ic_settle.specs.NameSteps.{NameSteps, no_step, one_more}
use Rattle.ic_round.specs.Firing.{Active, active_pair, products_by, count_of, names_taken, fired_pair, fired_from, next_after, fired}
use Rattle.ic_round.specs.Naming.{HasNames}
use Rattle.ic_round.specs.Quiet.{is_inert, is_settled, is_quiet, IsQuiet}
use Rattle.ic_round.specs.Rounds.{round, iterate}
use Rattle.ic_round.specs.Steps.{Step, interaction, Steps, no_steps, then_step}
use Rattle.ic_round.specs.lemmas.ChainLemmas.{steps-over, steps-names}
use Rattle.ic_round.specs.lemmas.IdleLemmas.{idle}
use Rattle.ic_round.specs.lemmas.NameStepLemmas.{name_step}
use Rattle.ic_round.specs.lemmas.QuietLemmas.{no_step as no_step_when_quiet}
use Rattle.ic_round.specs.lemmas.SettledLemmas.{choice_step}
use Rattle.ic_round.specs.lemmas.StepsLemmas.{settled_reached, round_reached, iterate_reached}
use Rattle.ic_confluence.specs.Kinds.{Kind, Chain}
use Rattle.ic_confluence.proofs.Order.{kind_of, go_on, quiet_too}
use Rattle.ic_confluence.proofs.Chains.{chain_from, first_step, steps_from}
use Rattle.ic_settle.specs.lemmas.Reached.{settled_in_steps, one_fewer}

-- one step at least
abbrev SomeSteps : List Rule → Configuration → Configuration → Type 0
SomeSteps rs c d = (e : Configuration) × Step rs c e × Steps rs e d

-- ---- firing

abbrev way : List Tree → List Pair → List Pair → ℕ → Configuration
way ts done ps base = record { interface = ts; equations = done ++ ps; next = base }

fire_next : (rs : List Rule) (ts : List Tree) (done : List Pair) (p : Pair) (ps : List Pair) (base : ℕ) (a : Active) → active_pair rs p ≡ Some a
    → Step rs (way ts done (p ∷ ps) base) (way ts (done ++ products_by rs base a) ps (base + count_of rs a.rule))
fire_next rs ts done p ps base a is = interaction _ _ (length done) (record {
  before = done;
  equation = p;
  after = ps;
  active = a;
  stands = record { counted = refl; parts = refl };
  has_rule = is;
  result = ap (λ es. record { interface = ts; equations = es; next = base + count_of rs a.rule }) (append_assoc done (products_by rs base a) ps);
})

-- the first equation isn't active
pass_next : (rs : List Rule) (ts : List Tree) (done : List Pair) (p : Pair) (ps : List Pair) (base : ℕ)
    → way ts (done ++ p ∷ []) ps (base + 0) ≡ way ts done (p ∷ ps) base
pass_next rs ts done p ps base =
    let same : base + 0 ≡ base = omega arith in
    λ i. record { interface = ts; equations = append_assoc done (p ∷ []) ps i; next = same i }

-- steps, and one at least where the flag is down
abbrev Moves : List Rule → Configuration → Configuration → Bool → Type 0
Moves rs c d flag = Steps rs c d × (flag ≡ false → SomeSteps rs c d)

one_fired : (rs : List Rule) (ts : List Tree) (done : List Pair) (p : Pair) (ps : List Pair) (base : ℕ) (found : Option Active) (end : Configuration) (flag : Bool) → active_pair rs p ≡ found
    → Moves rs (way ts (done ++ option_map_or (products_by rs base) found (p ∷ [])) ps (base + option_map_or (λ a. count_of rs a.rule) found 0)) end flag
    → Moves rs (way ts done (p ∷ ps) base) end (is_none found && flag)
one_fired rs ts done p ps base None end flag is moves =
    let P : Configuration → Type 0 = λ z. Moves rs z end flag in
    transport P (pass_next rs ts done p ps base) moves
one_fired rs ts done p ps base (Some a) end flag is moves =
    let step = fire_next rs ts done p ps base a is in
    (first_step rs _ _ end step moves.0, λ down. (_, step, moves.0))

all_fired : (rs : List Rule) (ts : List Tree) (done ps : List Pair) (base : ℕ)
    → Moves rs (way ts done ps base) (way ts (done ++ fired_from rs base ps) [] (next_after rs base ps)) (list_all (λ p. is_none (active_pair rs p)) ps)
all_fired rs ts done [] base =
    let P : List Pair → Type 0 = λ es. Moves rs (way ts done [] base) (record { interface = ts; equations = es; next = base }) true in
    transport P (sym (append-nil (done ++ []))) (no_steps (way ts done [] base), λ down. absurd (true≢false down))
all_fired rs ts done (p ∷ ps) base =
    let out = fired_pair rs base p in
    let k = names_taken rs p in
    let after = fired_from rs (base + k) ps in
    let flag = list_all (λ q. is_none (active_pair rs q)) ps in
    let P : List Pair → Type 0 = λ es. Moves rs (way ts done (p ∷ ps) base) (record { interface = ts; equations = es ++ []; next = next_after rs (base + k) ps }) (is_none (active_pair rs p) && flag) in
    transport P (append_assoc done out after)
    (one_fired rs ts done p ps base (active_pair rs p) (way ts ((done ++ out) ++ after) [] (next_after rs (base + k) ps)) flag refl
    (all_fired rs ts (done ++ out) ps (base + k)))

fired_moves : (rs : List Rule) (c : Configuration) → Moves rs c (fired rs c) (is_inert rs c)
fired_moves rs c =
    let P : List Pair → Type 0 = λ es. Moves rs c (record { interface = c.interface; equations = es; next = (fired rs c).next }) (is_inert rs c) in
    transport P (append-nil (fired_from rs c.next c.equations)) (all_fired rs c.interface [] c.equations c.next)

-- ---- settling

name_steps_are : (rs : List Rule) (c d : Configuration) → NameSteps c d → Steps rs c d
name_steps_are rs c d (no_step x) = no_steps x
name_steps_are rs c d (one_more x y z steps step) = then_step x y z (name_steps_are rs x y steps) (name_step rs y z step)

settled_by : (rs : List Rule) (c : Configuration) (n : ℕ) (found : Option Choice) → first_choice c.interface [] c.equations ≡ found → is_settled c ≡ false → length c.equations ≡ n → SomeSteps rs c (settled_in n c)
settled_by rs c n None e down count = absurd (true≢false (sym (ap (λ o. is_none (option_map (applied c) o)) e) ∙ down))
settled_by rs c zero (Some choice) e down count = absurd (let fewer = one_fewer c (applied c choice) (choice_step c choice e) in omega (arith, fewer, count))
settled_by rs c (suc n) (Some choice) e down count =
    let P : Configuration → Type 0 = λ z. SomeSteps rs c z in
    let there : settled_in n (applied c choice) ≡ settled_in (suc n) c = ap (λ o. option_map_or (settled_in n) (option_map (applied c) o) c) (sym e) in
    transport P there (
      applied c choice,
      name_step rs c (applied c choice) (choice_step c choice e),
      name_steps_are rs (applied c choice) (settled_in n (applied c choice)) (settled_in_steps n (applied c choice) (applied c choice) (no_step (applied c choice))),
    )

-- ---- a round

round_moves : (rs : List Rule) (c : Configuration) → is_quiet rs c ≡ false → SomeSteps rs c (round rs c)
round_moves rs c loud = by (cases_Bool (is_inert rs c)) (cases_Bool (is_settled c))
  where
    by : (is_inert rs c ≡ true) ⊎ (is_inert rs c ≡ false) → (is_settled c ≡ true) ⊎ (is_settled c ≡ false) → SomeSteps rs c (round rs c)
    by (inr active) b = let some = (fired_moves rs c).1 active in (some.0, some.1, settled_reached rs some.0 (fired rs c) some.2)
    by (inl inert) (inl still) = absurd (true≢false (sym (and_from (is_inert rs c) (is_settled c) inert still) ∙ loud))
    by (inl inert) (inr unsettled) =
        let P : Configuration → Type 0 = λ z. SomeSteps rs c (settled z) in
        transport P (sym (idle rs c inert)) (settled_by rs c (length c.equations) (first_choice c.interface [] c.equations) refl unsettled refl)

pub first_round : (rs : List Rule) (n : ℕ) (c : Configuration) → iterate rs n (round rs c) ≡ iterate rs (suc n) c
first_round rs zero c = refl
first_round rs (suc n) c = ap (round rs) (first_round rs n c)

-- what is left of an ending chain after a round that makes a step
record Left (rs : Rules) (ks : List Kind) (c : Configuration) : Type 0 where
  rest : List Kind
  end : Configuration
  chain : Chain rs.rules rest (round rs.rules c) end
  quiet : IsQuiet rs.rules end
  fewer : length rest < length ks

left_of : (rs : Rules) (ks : List Kind) (c d : Configuration) → IsRuleSet rs → is_over rs.symbols c ≡ true → HasNames c
    → Chain rs.rules ks c d → IsQuiet rs.rules d → SomeSteps rs.rules c (round rs.rules c) → Left rs ks c
left_of rs ks c d set over named chain quiet some =
    let kind = kind_of rs.rules c some.0 some.1 in
    let more = chain_from rs.rules some.0 (round rs.rules c) some.2 in
    let on = go_on rs ks (kind.0 ∷ more.0) c d (round rs.rules c) set over named chain quiet (some.0, kind.1, more.1) in
    let steps = steps_from rs.rules ks c d chain in
    let counts = length_permutation ks ((kind.0 ∷ more.0) ++ on.0) on.4 in
    let sum = length-append more.0 on.0 in
    record {
      rest = on.0;
      end = on.1;
      chain = on.2;
      quiet = quiet_too rs d on.1 set (steps-over rs c d set over steps) (steps-names rs c d set over named steps) on.3 quiet;
      fewer = omega (arith, counts, sum);
    }

quiet_within : (rs : Rules) (most : ℕ) (ks : List Kind) (c d : Configuration) → IsRuleSet rs → is_over rs.symbols c ≡ true → HasNames c
    → Chain rs.rules ks c d → IsQuiet rs.rules d → length ks ≤ most → (n : ℕ) × (n ≤ most) × IsQuiet rs.rules (iterate rs.rules n c)
quiet_within rs zero ks c d set over named chain quiet few = by (cases_Bool (is_quiet rs.rules c))
  where
    by : (is_quiet rs.rules c ≡ true) ⊎ (is_quiet rs.rules c ≡ false) → (n : ℕ) × (n ≤ 0) × IsQuiet rs.rules (iterate rs.rules n c)
    by (inl still) = (0, omega arith, no_step_when_quiet rs.rules c still)
    by (inr loud) =
        let left = left_of rs ks c d set over named chain quiet (round_moves rs.rules c loud) in
        let fewer = left.fewer in
        absurd (omega (arith, fewer, few))
quiet_within rs (suc most) ks c d set over named chain quiet few =
    by (cases_Bool (is_quiet rs.rules c)) (λ rest end o n w q low. quiet_within rs most rest (round rs.rules c) end set o n w q low)
  where
    by : (is_quiet rs.rules c ≡ true) ⊎ (is_quiet rs.rules c ≡ false)
        → ((rest : List Kind) (end : Configuration) → is_over rs.symbols (round rs.rules c) ≡ true → HasNames (round rs.rules c) → Chain rs.rules rest (round rs.rules c) end
        → IsQuiet rs.rules end → length rest ≤ most → (n : ℕ) × (n ≤ most) × IsQuiet rs.rules (iterate rs.rules n (round rs.rules c)))
        → (n : ℕ) × (n ≤ suc most) × IsQuiet rs.rules (iterate rs.rules n c)
    by (inl still) again = (0, omega arith, no_step_when_quiet rs.rules c still)
    by (inr loud) again =
        let left = left_of rs ks c d set over named chain quiet (round_moves rs.rules c loud) in
        let steps = round_reached rs.rules c in
        let fewer = left.fewer in
        let later = again left.rest left.end (steps-over rs c (round rs.rules c) set over steps) (steps-names rs c (round rs.rules c) set over named steps) left.chain left.quiet (omega (arith, fewer, few)) in
        let P : Configuration → Type 0 = IsQuiet rs.rules in
        (suc later.0, (let few = later.1 in omega (arith, few)), transport P (first_round rs.rules later.0 c) later.2)

-- where a chain ends, at most as many rounds as it has steps do
pub rounds_end : (rs : Rules) (ks : List Kind) (c d : Configuration) → IsRuleSet rs → is_over rs.symbols c ≡ true → HasNames c → Chain rs.rules ks c d → IsQuiet rs.rules d
    → (n : ℕ) × (n ≤ length ks) × IsQuiet rs.rules (iterate rs.rules n c)
rounds_end rs ks c d set over named chain quiet =
    quiet_within rs (length ks) ks c d set over named chain quiet (let same : length ks ≤ length ks = omega arith in same)

pub ends_exactly : (rs : Rules) (c : Configuration) → IsRuleSet rs → is_over rs.symbols c ≡ true → HasNames c
    → ((d : Configuration) × Steps rs.rules c d × IsQuiet rs.rules d) ↔ ((n : ℕ) × IsQuiet rs.rules (iterate rs.rules n c))
ends_exactly rs c set over named = (there, λ ends. (iterate rs.rules ends.0 c, iterate_reached rs.rules ends.0 c, ends.1))
  where
    there : ((d : Configuration) × Steps rs.rules c d × IsQuiet rs.rules d) → (n : ℕ) × IsQuiet rs.rules (iterate rs.rules n c)
    there ends =
        let chain = chain_from rs.rules c ends.0 ends.1 in
        let found = rounds_end rs chain.0 c ends.0 set over named chain.1 ends.2 in
        (found.0, found.2)
