-- Lemmas: a chain with so many interactions goes on to the net of as many rounds, and one more where it doesn't begin
-- settled.
use Rattle.std.proofs.Common.{◌≡◌, ℕ, zero, suc, ◌+◌, List, [], ◌∷◌, true, refl, arith, inl, inr, subst as transport}
use Rattle.ic_term.specs.Configuration.{Configuration}
use Rattle.ic_term.specs.Symbol.{is_over}
use Rattle.ic_rules.specs.RuleSet.{Rules, IsRuleSet}
use Rattle.ic_settle.specs.NameSteps.{NameStep}
use Rattle.ic_round.specs.Firing.{fired}
use Rattle.ic_round.specs.Naming.{HasNames}
use Rattle.ic_round.specs.Rounds.{round, iterate}
use Rattle.ic_round.specs.Steps.{Steps, no_steps, then_step}
use Rattle.ic_round.specs.lemmas.ChainLemmas.{steps-over, steps-names}
use Rattle.ic_round.specs.lemmas.StepsLemmas.{settled_reached, round_reached, iterate_reached}
use Rattle.ic_confluence.specs.Kinds.{Kind, naming, firing, StepOf, Chain, firings}
use Rattle.ic_confluence.specs.Sameness.{Same, through}
use Rattle.ic_confluence.specs.lemmas.Equivalence.{Same-refl, Same-sym}
use Rattle.ic_confluence.proofs.Firings.{Sound}
use Rattle.ic_confluence.proofs.FiringToo.{same_sound}
use Rattle.ic_confluence.proofs.Strip.{chain_too}
use Rattle.ic_settle.specs.lemmas.Reached.{settled_ends}
use Rattle.ic_confluence.proofs.Order.{step_of, step_too, all_laws, way_of, chain_of}
use Rattle.ic_confluence.proofs.Chains.{chain_from, steps_from}
use Rattle.ic_confluence.proofs.Joins.{After, Among, beside}
use Rattle.ic_confluence.proofs.FireFirst.{fire_first, join_steps}
use Rattle.ic_confluence.proofs.RoundSteps.{first_round}

-- some steps lead to this net
abbrev GoesTo : Rules → Configuration → Configuration → Type 0
GoesTo rs d x = (e : Configuration) × Steps rs.rules d e × Same e x

sound_steps : (rs : Rules) (c d : Configuration) → IsRuleSet rs → Sound rs c → Steps rs.rules c d → Sound rs d
sound_steps rs c d set sound steps = record { over = steps-over rs c d set sound.over steps; named = steps-names rs c d set sound.over sound.named steps }

steps_too : (rs : Rules) (c d e : Configuration) → IsRuleSet rs → Sound rs c → Same c d → Steps rs.rules c e → (f : Configuration) × Steps rs.rules d f × Same e f
steps_too rs c d e set sound same steps =
    let chain = chain_from rs.rules c e steps in
    let moved = chain_too Kind Configuration (Sound rs) (StepOf rs.rules) Same (all_laws rs set) chain.0 c d e sound same (way_of rs set chain.0 c e chain.1) in
    (moved.0, steps_from rs.rules chain.0 d moved.0 (chain_of rs set chain.0 d moved.0 moved.1), moved.2)

-- on from a configuration of the net
goes_further : (rs : Rules) (d x y : Configuration) → IsRuleSet rs → Sound rs d → GoesTo rs d x → GoesTo rs x y → GoesTo rs d y
goes_further rs d x y set sound first second =
    let at_first = sound_steps rs d first.0 set sound first.1 in
    let at_x = same_sound rs first.0 x first.2 at_first in
    let moved = steps_too rs x first.0 second.0 set at_x (Same-sym first.0 x first.2) second.1 in
    (moved.0, join_steps rs.rules d first.0 moved.0 first.1 moved.1, through moved.0 second.0 y (Same-sym second.0 moved.0 moved.2) second.2)

-- an interaction goes on to the round
interaction_to_round : (rs : Rules) (c d : Configuration) (i : ℕ) → IsRuleSet rs → Sound rs c → StepOf rs.rules (firing i) c d → GoesTo rs d (round rs.rules c)
interaction_to_round rs c d i set sound step =
    let first = fire_first rs c d step.0 set sound.over sound.named step.1 in
    let sound_d = sound_steps rs c d set sound (then_step c c d (no_steps c) (step_of rs.rules (firing i) c d step)) in
    goes_further rs d (fired rs.rules c) (round rs.rules c) set sound_d first
    (round rs.rules c, settled_reached rs.rules (fired rs.rules c) (fired rs.rules c) (no_steps (fired rs.rules c)), Same-refl (round rs.rules c))

-- ---- a chain from its end

-- steps of these kinds, the last one first
abbrev Back : Rules → List Kind → Configuration → Configuration → Type 0
Back rs [] c d = c ≡ d
Back rs (k ∷ ks) c d = (e : Configuration) × Back rs ks c e × StepOf rs.rules k e d

back_of : (rs : Rules) (js ks : List Kind) (c e d : Configuration) → Back rs js c e → Chain rs.rules ks e d → (ls : List Kind) × Back rs ls c d × (firings ls ≡ firings js + firings ks)
back_of rs js [] c e d back chain = let P : Configuration → Type 0 = Back rs js c in (js, transport P chain back, omega arith)
back_of rs js (naming ∷ ks) c e d back chain = back_of rs (naming ∷ js) ks c chain.0 d (e, back, chain.1) chain.2
back_of rs js (firing i ∷ ks) c e d back chain =
    let rest = back_of rs (firing i ∷ js) ks c chain.0 d (e, back, chain.1) chain.2 in
    let count = rest.2 in
    (rest.0, rest.1, omega (arith, count))

back_sound : (rs : Rules) (ks : List Kind) (c d : Configuration) → IsRuleSet rs → Sound rs c → Back rs ks c d → Sound rs d
back_sound rs [] c d set sound back = let P : Configuration → Type 0 = Sound rs in transport P back sound
back_sound rs (k ∷ ks) c d set sound back =
    sound_steps rs back.0 d set (back_sound rs ks c back.0 set sound back.1) (then_step back.0 back.0 d (no_steps back.0) (step_of rs.rules k back.0 d back.2))

-- ---- a chain and rounds

abbrev Unnamed : Configuration → Type 0
Unnamed x = (y : Configuration) → NameStep x y → ⊥

rounds_unnamed : (rs : Rules) (n : ℕ) (x : Configuration) → Unnamed x → Unnamed (iterate rs.rules n x)
rounds_unnamed rs zero x none = none
rounds_unnamed rs (suc n) x none = settled_ends (fired rs.rules (iterate rs.rules n x))

-- one more step at the end of a chain
module _ (rs : Rules) (set : IsRuleSet rs) (c d x : Configuration) (sound : Sound rs c) (sound_x : Sound rs x) (goes : GoesTo rs c x) where
  chain_to : (ks : List Kind) × Chain rs.rules ks c goes.0
  chain_to = chain_from rs.rules c goes.0 goes.1

  -- the step was one of those that lead there
  among_too : (k : Kind) (ks : List Kind) → Among Kind Configuration (Sound rs) (StepOf rs.rules) Same (all_laws rs set) k ks d goes.0 → GoesTo rs d x
  among_too k ks a = (a.end, steps_from rs.rules a.others d a.end (chain_of rs set a.others d a.end a.chain), through a.end goes.0 x (Same-sym goes.0 a.end a.same) goes.2)

  -- or it can still be made there
  after_too : (k : Kind) (ks : List Kind) → After Kind Configuration (Sound rs) (StepOf rs.rules) Same (all_laws rs set) k ks d goes.0
      → (y : Configuration) × StepOf rs.rules k x y × GoesTo rs d y
  after_too k ks b =
      let there = sound_steps rs c goes.0 set sound goes.1 in
      let too = step_too rs k goes.0 x b.later set there.over there.named goes.2 b.step in
      (too.0, too.1, (b.end, steps_from rs.rules ks d b.end (chain_of rs set ks d b.end b.chain), through b.end b.later too.0 (Same-sym b.later b.end b.same) too.2))

  after_naming : Unnamed x → StepOf rs.rules naming c d → GoesTo rs d x
  after_naming none step =
      elim (beside Kind Configuration (Sound rs) (StepOf rs.rules) Same (all_laws rs set) chain_to.0 naming c d goes.0 sound (way_of rs set chain_to.0 c goes.0 chain_to.1) step) [
        | inl a ↦ among_too naming chain_to.0 a
        | inr b ↦ let still = after_too naming chain_to.0 b in absurd (none still.0 still.1)
      ]

  after_firing : (i : ℕ) → StepOf rs.rules (firing i) c d → GoesTo rs d (round rs.rules x)
  after_firing i step =
      let sound_d = sound_steps rs c d set sound (then_step c c d (no_steps c) (step_of rs.rules (firing i) c d step)) in
      elim (beside Kind Configuration (Sound rs) (StepOf rs.rules) Same (all_laws rs set) chain_to.0 (firing i) c d goes.0 sound (way_of rs set chain_to.0 c goes.0 chain_to.1) step) [
        | inl a ↦ goes_further rs d x (round rs.rules x) set sound_d (among_too (firing i) chain_to.0 a) (round rs.rules x, round_reached rs.rules x, Same-refl (round rs.rules x))
        | inr b ↦
            let still = after_too (firing i) chain_to.0 b in
            goes_further rs d still.0 (round rs.rules x) set sound_d still.2 (interaction_to_round rs x still.0 i set sound_x still.1)
      ]

overtaken : (rs : Rules) (ls : List Kind) (c d x : Configuration) → IsRuleSet rs → Sound rs c → Steps rs.rules c x → Unnamed x → Back rs ls c d → GoesTo rs d (iterate rs.rules (firings ls) x)
overtaken rs [] c d x set sound steps none back = let P : Configuration → Type 0 = λ z. GoesTo rs z x in transport P back (x, steps, Same-refl x)
overtaken rs (naming ∷ ls) c d x set sound steps none back =
    let n = firings ls in
    let sound_x = sound_steps rs c x set sound steps in
    after_naming rs set back.0 d (iterate rs.rules n x) (back_sound rs ls c back.0 set sound back.1) (sound_steps rs x (iterate rs.rules n x) set sound_x (iterate_reached rs.rules n x))
    (overtaken rs ls c back.0 x set sound steps none back.1) (rounds_unnamed rs n x none) back.2
overtaken rs (firing i ∷ ls) c d x set sound steps none back =
    let n = firings ls in
    let sound_x = sound_steps rs c x set sound steps in
    after_firing rs set back.0 d (iterate rs.rules n x) (back_sound rs ls c back.0 set sound back.1) (sound_steps rs x (iterate rs.rules n x) set sound_x (iterate_reached rs.rules n x))
    (overtaken rs ls c back.0 x set sound steps none back.1) i back.2

-- a chain with n interactions, and n rounds of a configuration that comes of its beginning and is settled
by_rounds : (rs : Rules) (ks : List Kind) (c d x : Configuration) → IsRuleSet rs → Sound rs c → Steps rs.rules c x → Unnamed x → Chain rs.rules ks c d → GoesTo rs d (iterate rs.rules (firings ks) x)
by_rounds rs ks c d x set sound steps none chain =
    let back = back_of rs [] ks c c d refl chain in
    let count : firings back.0 ≡ firings ks = (let equal = back.2 in omega (arith, equal)) in
    let P : ℕ → Type 0 = λ n. GoesTo rs d (iterate rs.rules n x) in
    transport P count (overtaken rs back.0 c d x set sound steps none back.1)

pub rounds_overtake : (rs : Rules) (ks : List Kind) (c d : Configuration) → IsRuleSet rs → is_over rs.symbols c ≡ true → HasNames c → Chain rs.rules ks c d
    → (e : Configuration) × Steps rs.rules d e × Same e (iterate rs.rules (suc (firings ks)) c)
rounds_overtake rs ks c d set over named chain =
    let goes = by_rounds rs ks c d (round rs.rules c) set (record { over = over; named = named }) (round_reached rs.rules c) (settled_ends (fired rs.rules c)) chain in
    let P : Configuration → Type 0 = λ z. GoesTo rs d z in
    transport P (first_round rs.rules (firings ks) c) goes

pub rounds_overtake_settled : (rs : Rules) (ks : List Kind) (c d : Configuration) → IsRuleSet rs → is_over rs.symbols c ≡ true → HasNames c → ((e : Configuration) → NameStep c e → ⊥) → Chain rs.rules ks c d
    → (e : Configuration) × Steps rs.rules d e × Same e (iterate rs.rules (firings ks) c)
rounds_overtake_settled rs ks c d set over named none chain = by_rounds rs ks c d c set (record { over = over; named = named }) (no_steps c) none chain
