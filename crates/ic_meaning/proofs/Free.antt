-- Lemmas: what is reached has the same free names.
use Rattle.std.proofs.Common.{◌≡◌, ℕ, List, [], ◌∷◌, ◌++◌, subst as transport}
use Rattle.std.specs.Prelude.{IsTrue, ◌↔◌}
use Rattle.ic_term.specs.Configuration.{Configuration, configuration_names, occurrences}
use Rattle.ic_term.specs.Symbol.{is_over}
use Rattle.ic_rules.specs.Rule.{Rule}
use Rattle.ic_rules.specs.RuleSet.{Rules, IsRuleSet}
use Rattle.ic_settle.specs.NameSteps.{NameStep, NameSteps, no_step, one_more}
use Rattle.ic_round.specs.Naming.{HasNames}
use Rattle.ic_round.specs.Steps.{Interaction, Step, interaction}
use Rattle.ic_round.specs.lemmas.NameStepLemmas.{name_step}
use Rattle.ic_round.specs.lemmas.SettledLemmas.{name_step-over}
use Rattle.ic_confluence.specs.Kinds.{Kind, naming, firing, Chain}
use Rattle.ic_reaching.specs.OneNet.{OneNet, SameButNext}
use Rattle.ic_reaching.specs.Reaching.{Reaches}

abbrev pub SameFree : Configuration → Configuration → Type 0
SameFree c d = (x : ℕ) → (occurrences x (configuration_names c) ≡ 1) ↔ (occurrences x (configuration_names d) ≡ 1)

pub record FreeLaws : Type 0 where
  pub step : (rs : Rules) (c d : Configuration) → IsRuleSet rs → IsTrue (is_over rs.symbols c) → HasNames c → Step rs.rules c d → SameFree c d
  pub same : (c d : Configuration) → SameButNext c d → SameFree c d
  pub name_step_net : (c d : Configuration) → HasNames c → NameStep c d → OneNet c d
  pub net_itself : (c : Configuration) → HasNames c → OneNet c c
  pub itself : (rs : List Rule) (c : Configuration) → HasNames c → Reaches rs c c []
  pub interaction_reached : (rs : Rules) (c d e : Configuration) (fired : List ℕ) (place : ℕ) → IsRuleSet rs → IsTrue (is_over rs.symbols c) → HasNames c
      → Reaches rs.rules c d fired → (step : Interaction rs.rules d e place) → Reaches rs.rules c e (fired ++ step.active.rule ∷ [])
  pub names : (rs : List Rule) (c d : Configuration) (fired : List ℕ) → Reaches rs c d fired → HasNames d
  pub over : (rs : Rules) (c d : Configuration) (fired : List ℕ) → IsRuleSet rs → IsTrue (is_over rs.symbols c) → HasNames c → Reaches rs.rules c d fired
      → IsTrue (is_over rs.symbols d)

free_through : (c d e : Configuration) → SameFree c d → SameFree d e → SameFree c e
free_through c d e one two x = ((λ a. (two x).0 ((one x).0 a)), (λ b. (one x).1 ((two x).1 b)))

free_back : (c d : Configuration) → SameFree c d → SameFree d c
free_back c d one x = ((one x).1, (one x).0)

chain_free : FreeLaws → (rs : Rules) (ks : List Kind) (c d : Configuration) → IsRuleSet rs → IsTrue (is_over rs.symbols c) → HasNames c → Chain rs.rules ks c d → SameFree c d
chain_free laws rs [] c d set over named chain = transport (SameFree c) chain (λ x. ((λ a. a), (λ a. a)))
chain_free laws rs (naming ∷ ks) c d set over named (e, step, rest) =
    free_through c e d (laws.step rs c e set over named (name_step rs.rules c e step))
    (chain_free laws rs ks e d set (name_step-over rs.symbols c e step over) (laws.name_step_net c e named step).names_too rest)
chain_free laws rs (firing k ∷ ks) c d set over named (e, (place, step, is), rest) =
    let reached = laws.interaction_reached rs c c e [] place set over named (laws.itself rs.rules c named) step in
    free_through c e d (laws.step rs c e set over named (interaction c e place step))
    (chain_free laws rs ks e d set (laws.over rs c e (step.active.rule ∷ []) set over named reached) (laws.names rs.rules c e (step.active.rule ∷ []) reached) rest)

steps_free : FreeLaws → (rs : Rules) (c d : Configuration) → IsRuleSet rs → IsTrue (is_over rs.symbols c) → HasNames c → NameSteps c d
    → SameFree c d × IsTrue (is_over rs.symbols d) × HasNames d
steps_free laws rs c d set over named (no_step e) = ((λ x. ((λ a. a), (λ a. a))), over, named)
steps_free laws rs c d set over named (one_more e f g steps last) =
    let before = steps_free laws rs e f set over named steps in (
      free_through e f g before.0 (laws.step rs f g set before.1 before.2 (name_step rs.rules f g last)),
      name_step-over rs.symbols f g last before.1,
      (laws.name_step_net f g before.2 last).names_too,
    )

pub free_kept : FreeLaws → (rs : Rules) (c d : Configuration) (fired : List ℕ) → IsRuleSet rs → IsTrue (is_over rs.symbols c) → HasNames c → Reaches rs.rules c d fired → SameFree c d
free_kept laws rs c d fired set over named r =
    let net = r.net in
    let over_d = laws.over rs c d fired set over named r in
    let first = chain_free laws rs r.kinds c r.end set over named r.chain in
    let reached_end : Reaches rs.rules c r.end fired = record {
      kinds = r.kinds;
      end = r.end;
      chain = r.chain;
      interactions = r.interactions;
      net = laws.net_itself r.end net.names;
    } in
    let over_end = laws.over rs c r.end fired set over named reached_end in
    let one = steps_free laws rs r.end net.end set over_end net.names net.steps in
    let two = steps_free laws rs d net.end_too set over_d net.names_too net.steps_too in
    free_through c r.end d first
    (free_through r.end net.end d one.0 (free_through net.end net.end_too d (laws.same net.end net.end_too net.same) (free_back d net.end_too two.0)))
