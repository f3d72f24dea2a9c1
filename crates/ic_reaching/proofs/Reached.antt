-- Lemmas: what is reached goes on with each step.
use Rattle.std.proofs.Common.{◌≡◌, ℕ, ◌+◌, List, [], ◌∷◌, ◌++◌, append_assoc, append-nil, refl, sym, ap, ◌∙◌, subst as transport}
use Rattle.ic_term.specs.Configuration.{Configuration}
use Rattle.ic_rules.specs.Rule.{Rule}
use Rattle.ic_rules.specs.RuleSet.{Rules, IsRuleSet}
use Rattle.ic_settle.specs.NameSteps.{NameSteps, no_step, one_more}
use Rattle.ic_round.specs.Firing.{count_of}
use Rattle.ic_round.specs.Naming.{HasNames}
use Rattle.ic_confluence.specs.Kinds.{Kind, naming, firing, StepOf, Chain}
use Rattle.ic_reaching.specs.OneNet.{OneNet}
use Rattle.ic_reaching.specs.Reaching.{rules_fired, Reaches}
use Rattle.ic_reaching.specs.FreshNames.{Fires}
use Rattle.ic_reaching.proofs.Given.{NetLaws, SettlingLaws, StepLaws}
use Rattle.ic_reaching.proofs.ButNext.{but_next, but_next_through}
use Rattle.ic_reaching.proofs.Nets.{from_same, from_step, from_but_next, net_itself, net_through}
use Rattle.ic_reaching.specs.lemmas.Orders.{permuted, rules_fired-append}
use Rattle.ic_reaching.proofs.Over.{net_over}
use Rattle.ic_reaching.proofs.FreshNets.{fronted, fired_with}
use Rattle.ic_reaching.proofs.Firing.{Sound, sound_step, sound_steps, fires_after, fires_but_next, fires_in_front, fires_alike}

-- ---- chains

pub chain_joined : (rs : List Rule) (ks ls : List Kind) (c d e : Configuration) → Chain rs ks c d → Chain rs ls d e → Chain rs (ks ++ ls) c e
chain_joined rs [] ls c d e first second = let P : Configuration → Type 0 = λ x. Chain rs ls x e in transport P (sym first) second
chain_joined rs (k ∷ ks) ls c d e first second = (first.0, first.1, chain_joined rs ks ls first.0 d e first.2 second)

one_step : (rs : List Rule) (k : Kind) (c d : Configuration) → StepOf rs k c d → Chain rs (k ∷ []) c d
one_step rs k c d step = (d, step, refl)

pub record Named (rs : List Rule) (c d : Configuration) : Type 0 where
  pub kinds : List Kind
  pub chain : Chain rs kinds c d
  pub none : rules_fired kinds ≡ []

pub names_chain : (rs : List Rule) (c d : Configuration) → NameSteps c d → Named rs c d
names_chain rs c d (no_step x) = record { kinds = []; chain = refl; none = refl }
names_chain rs c d (one_more x y z steps step) =
    let before = names_chain rs x y steps in
    record {
      kinds = before.kinds ++ naming ∷ [];
      chain = chain_joined rs before.kinds (naming ∷ []) x y z before.chain (one_step rs naming y z step);
      none = rules_fired-append before.kinds (naming ∷ []) ∙ (append-nil (rules_fired before.kinds) ∙ before.none);
    }

pub chain_sound : (rs : Rules) (ks : List Kind) (c d : Configuration) → IsRuleSet rs → Sound rs c → Chain rs.rules ks c d → Sound rs d
chain_sound rs [] c d set sound chain = let P : Configuration → Type 0 = Sound rs in transport P chain sound
chain_sound rs (k ∷ ks) c d set sound chain = chain_sound rs ks chain.0 d set (sound_step rs k c chain.0 set sound chain.1) chain.2

-- ---- what is reached

pub begins : NetLaws → (rs : List Rule) (c : Configuration) → HasNames c → Reaches rs c c []
begins laws rs c named = record { kinds = []; end = c; chain = refl; interactions = refl; net = net_itself laws c named }

pub goes_to_net : SettlingLaws → (rs : List Rule) (c d e : Configuration) (fired : List ℕ) → Reaches rs c d fired → OneNet d e → Reaches rs c e fired
goes_to_net laws rs c d e fired r net = record { kinds = r.kinds; end = r.end; chain = r.chain; interactions = r.interactions; net = net_through laws r.end d e r.net net }

pub reached_sound : (rs : Rules) (c d : Configuration) (fired : List ℕ) → IsRuleSet rs → Sound rs c → Reaches rs.rules c d fired → Sound rs d
reached_sound rs c d fired set sound r =
    let end = chain_sound rs r.kinds c r.end set sound r.chain in
    record { over = net_over rs.symbols r.end d r.net end.over; named = r.net.names_too }

-- the end goes on by the name steps of its own to where it is the same net, and fires there
pub goes_on_firing : StepLaws → (rs : Rules) (i : ℕ) (c d e : Configuration) (fired : List ℕ) → IsRuleSet rs → Sound rs c → Reaches rs.rules c d fired → StepOf rs.rules (firing i) d e
    → Reaches rs.rules c e (fired ++ i ∷ [])
goes_on_firing laws rs i c d e fired set sound r step =
    let sound_d = reached_sound rs c d fired set sound r in
    let sound_end = chain_sound rs r.kinds c r.end set sound r.chain in
    let net = r.net in
    let after = fires_after laws rs set i d net.end_too e sound_d net.steps_too step in
    let sound_one = sound_steps rs r.end net.end set sound_end net.steps in
    let sound_other = sound_steps rs d net.end_too set sound_d net.steps_too in
    let across = fires_but_next laws rs set i net.end net.end_too after.fired sound_one sound_other net.same after.fires in
    let names = names_chain rs.rules r.end net.end net.steps in
    let last = chain_joined rs.rules names.kinds (firing i ∷ []) r.end net.end across.end names.chain (one_step rs.rules (firing i) net.end across.end across.step) in
    let more : rules_fired (names.kinds ++ firing i ∷ []) ≡ i ∷ [] = rules_fired-append names.kinds (firing i ∷ []) ∙ ap (λ is. is ++ i ∷ []) names.none in
    record {
      kinds = r.kinds ++ (names.kinds ++ firing i ∷ []);
      end = across.end;
      chain = chain_joined rs.rules r.kinds (names.kinds ++ firing i ∷ []) c r.end across.end r.chain last;
      interactions = rules_fired-append r.kinds (names.kinds ++ firing i ∷ []) ∙ (λ j. r.interactions j ++ more j);
      net = record {
        names = (sound_step rs (firing i) net.end across.end set sound_one across.step).named;
        names_too = (sound_step rs (firing i) d e set sound_d step).named;
        end = across.end;
        end_too = after.end;
        steps = no_step across.end;
        steps_too = after.steps;
        same = but_next_through across.end after.fired after.end across.same (but_next after.fired after.end (laws.nets.other_way after.end after.fired after.same));
      };
    }

-- a whole chain of steps
pub goes_on_so : StepLaws → SettlingLaws → (rs : Rules) (ks : List Kind) (c d e : Configuration) (fired : List ℕ) → IsRuleSet rs → Sound rs c → Reaches rs.rules c d fired → Chain rs.rules ks d e
    → Reaches rs.rules c e (fired ++ rules_fired ks)
goes_on_so laws nets rs [] c d e fired set sound r chain =
    let P : Configuration → Type 0 = λ x. Reaches rs.rules c x (fired ++ []) in
    let Q : List ℕ → Type 0 = Reaches rs.rules c d in
    transport P chain (transport Q (sym (append-nil fired)) r)
goes_on_so laws nets rs (naming ∷ ks) c d e fired set sound r chain =
    let net = from_step laws.nets d chain.0 (reached_sound rs c d fired set sound r).named chain.1 in
    goes_on_so laws nets rs ks c chain.0 e fired set sound (goes_to_net nets rs.rules c d chain.0 fired r net) chain.2
goes_on_so laws nets rs (firing i ∷ ks) c d e fired set sound r chain =
    let Q : List ℕ → Type 0 = Reaches rs.rules c e in
    transport Q (append_assoc fired (i ∷ []) (rules_fired ks))
    (goes_on_so laws nets rs ks c chain.0 e (fired ++ i ∷ []) set sound (goes_on_firing laws rs i c d chain.0 fired set sound r chain.1) chain.2)

-- an interaction with any fresh names, wherever its equation stands
pub goes_on_fresh : StepLaws → SettlingLaws → (rs : Rules) (i : ℕ) (c d e : Configuration) (fired : List ℕ) → IsRuleSet rs → Sound rs c → Reaches rs.rules c d fired → Fires rs.rules d e i
    → Reaches rs.rules c e (fired ++ i ∷ [])
goes_on_fresh laws nets rs i c d e fired set sound r s =
    let sound_d = reached_sound rs c d fired set sound r in
    let front = fronted d s.equation s.others in
    let brought = from_same laws.nets d front sound_d.named (permuted d (s.equation ∷ s.others) s.given) in
    let there = goes_to_net nets rs.rules c d front fired r brought in
    let ordinary = fired_with rs.rules d s.others s.active (λ k. d.next + k) (d.next + count_of rs.rules s.active.rule) in
    let on = goes_on_firing laws rs i c front ordinary fired set sound there (fires_in_front rs.rules d e i s) in
    let alike = fires_alike laws.nets rs d e i set sound_d s in
    goes_to_net nets rs.rules c ordinary e (fired ++ i ∷ []) on
    (from_but_next ordinary e (reached_sound rs c ordinary (fired ++ i ∷ []) set sound on).named alike.1 alike.0)

-- and what is reached from what is reached
pub reaches_joined : StepLaws → SettlingLaws → (rs : Rules) (c d e : Configuration) (fired also : List ℕ) → IsRuleSet rs → Sound rs c → Reaches rs.rules c d fired → Reaches rs.rules d e also
    → Reaches rs.rules c e (fired ++ also)
reaches_joined laws nets rs c d e fired also set sound one two =
    let P : List ℕ → Type 0 = λ is. Reaches rs.rules c two.end (fired ++ is) in
    goes_to_net nets rs.rules c two.end e (fired ++ also) (transport P two.interactions (goes_on_so laws nets rs two.kinds c d two.end fired set sound one two.chain)) two.net
