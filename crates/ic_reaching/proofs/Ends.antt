-- Lemmas: what is reached quiet is the end of every order.
use Rattle.std.proofs.Common.{◌≡◌, ℕ, suc, ◌+◌, List, [], ◌∷◌, ◌++◌, append-nil, length, refl, sym, ap, ◌∙◌, subst as transport}
use Rattle.std.specs.Prelude.{IsPermutation}
use Rattle.std.proofs.lemmas.List.Sorted.{IsPermutation-sym}
use Rattle.ic_term.specs.Configuration.{Configuration}
use Rattle.ic_rules.specs.Rule.{Rule}
use Rattle.ic_rules.specs.RuleSet.{Rules, IsRuleSet}
use Rattle.ic_settle.specs.NameSteps.{NameStep, NameSteps, no_step, one_more}
use Rattle.ic_round.specs.Rounds.{iterate}
use Rattle.ic_round.specs.Quiet.{IsQuiet}
use Rattle.ic_round.specs.Steps.{interaction, indirection, collect}
use Rattle.ic_round.specs.lemmas.NameStepLemmas.{name_step, indirection_step, collect_step}
use Rattle.ic_confluence.specs.Kinds.{Kind, naming, firing, Chain, firings}
use Rattle.ic_reaching.specs.OneNet.{raised, SameButNext}
use Rattle.ic_reaching.specs.Reaching.{rules_fired, Reaches}
use Rattle.ic_reaching.proofs.Given.{SettlingLaws, StepLaws, OrderLaws}
use Rattle.ic_reaching.proofs.ButNext.{but_next, but_next_other_way, but_next_through, raised_names, raised_step, lowered_step}
use Rattle.ic_reaching.specs.lemmas.Orders.{fired_alike, rules_fired-append}
use Rattle.ic_reaching.proofs.Firing.{Sound, fired_at}
use Rattle.ic_reaching.proofs.Reached.{chain_joined, names_chain, reached_sound, goes_on_so}

-- ---- quiet configurations

-- no step from a configuration, no step from it raised; and the other way round
raised_quiet : (rs : List Rule) (more : ℕ) (c : Configuration) → IsQuiet rs c → IsQuiet rs (raised more c)
raised_quiet rs more c quiet d (interaction x y place s) = quiet (fired_at rs c s.before s.after s.active c.next) (interaction c (fired_at rs c s.before s.after s.active c.next) place (record {
  before = s.before;
  equation = s.equation;
  after = s.after;
  active = s.active;
  stands = record { counted = s.stands.counted; parts = s.stands.parts };
  has_rule = s.has_rule;
  result = refl;
}))
raised_quiet rs more c quiet d (indirection x y place s) = let low = lowered_step more c d (indirection_step (raised more c) d place s) in quiet low.0 (name_step rs c low.0 low.1)
raised_quiet rs more c quiet d (collect x y place s) = let low = lowered_step more c d (collect_step (raised more c) d place s) in quiet low.0 (name_step rs c low.0 low.1)

lowered_quiet : (rs : List Rule) (more : ℕ) (c : Configuration) → IsQuiet rs (raised more c) → IsQuiet rs c
lowered_quiet rs more c quiet d (interaction x y place s) =
    let high = fired_at rs c s.before s.after s.active (c.next + more) in
    quiet high (interaction (raised more c) high place (record {
      before = s.before;
      equation = s.equation;
      after = s.after;
      active = s.active;
      stands = record { counted = s.stands.counted; parts = s.stands.parts };
      has_rule = s.has_rule;
      result = refl;
    }))
lowered_quiet rs more c quiet d (indirection x y place s) = quiet (raised more d) (name_step rs (raised more c) (raised more d) (raised_step more c d (indirection_step c d place s)))
lowered_quiet rs more c quiet d (collect x y place s) = quiet (raised more d) (name_step rs (raised more c) (raised more d) (raised_step more c d (collect_step c d place s)))

pub quiet_but_next : StepLaws → (rs : Rules) (c d : Configuration) → IsRuleSet rs → Sound rs c → SameButNext c d → IsQuiet rs.rules c → IsQuiet rs.rules d
quiet_but_next laws rs c d set sound s quiet =
    lowered_quiet rs.rules s.others d
    (laws.quiet rs (raised s.more c) (raised s.others d) set sound.over (raised_names s.more c sound.named) s.same (raised_quiet rs.rules s.more c quiet))

-- from a quiet configuration there is no name step
pub no_steps_from_quiet : (rs : List Rule) (c d : Configuration) → IsQuiet rs c → NameSteps c d → c ≡ d
no_steps_from_quiet rs c d quiet (no_step x) = refl
no_steps_from_quiet rs c d quiet (one_more x y z steps step) =
    let stays = no_steps_from_quiet rs x y quiet steps in
    let P : Configuration → Type 0 = λ e. NameStep e z in
    absurd (quiet z (name_step rs x z (transport P (sym stays) step)))

-- ---- the end of a chain

-- A chain of steps leads to this net, wherever its fresh names begin, with these interactions.
pub record LeadsTo (rs : List Rule) (c d : Configuration) (fired : List ℕ) : Type 0 where
  pub kinds : List Kind
  pub end : Configuration
  pub chain : Chain rs kinds c end
  pub interactions : rules_fired kinds ≡ fired
  pub same : SameButNext end d

-- the end of the chain goes on by its name steps
pub reached_further : (rs : List Rule) (c d : Configuration) (fired : List ℕ) → (r : Reaches rs c d fired) → LeadsTo rs c r.net.end_too fired
reached_further rs c d fired r =
    let names = names_chain rs r.end r.net.end r.net.steps in
    record {
      kinds = r.kinds ++ names.kinds;
      end = r.net.end;
      chain = chain_joined rs r.kinds names.kinds c r.end r.net.end r.chain names.chain;
      interactions = rules_fired-append r.kinds names.kinds ∙ ((λ i. r.interactions i ++ names.none i) ∙ append-nil fired);
      same = r.net.same;
    }

pub reached_quiet : StepLaws → (rs : Rules) (c d : Configuration) (fired : List ℕ) → IsRuleSet rs → Sound rs d → Reaches rs.rules c d fired → IsQuiet rs.rules d
    → (kinds : List Kind) × (end : Configuration) × Chain rs.rules kinds c end × (rules_fired kinds ≡ fired) × IsQuiet rs.rules end × SameButNext end d
reached_quiet laws rs c d fired set also r quiet =
    let further = reached_further rs.rules c d fired r in
    let stays = no_steps_from_quiet rs.rules d r.net.end_too quiet r.net.steps_too in
    let P : Configuration → Type 0 = SameButNext further.end in
    let same = transport P (sym stays) further.same in
    (further.kinds, further.end, further.chain, further.interactions, quiet_but_next laws rs d further.end set also (but_next_other_way laws.nets further.end d same) quiet, same)

-- ---- every order

pub fired_count : (kinds : List Kind) → length (rules_fired kinds) ≡ firings kinds
fired_count [] = refl
fired_count (naming ∷ kinds) = fired_count kinds
fired_count (firing i ∷ kinds) = ap suc (fired_count kinds)

pub every_order : StepLaws → OrderLaws → (rs : Rules) (c d e : Configuration) (fired : List ℕ) (kinds : List Kind) → IsRuleSet rs → Sound rs c → Reaches rs.rules c d fired → IsQuiet rs.rules d
    → Chain rs.rules kinds c e → IsQuiet rs.rules e → SameButNext d e × IsPermutation fired (rules_fired kinds)
every_order laws orders rs c d e fired kinds set sound r quiet chain also =
    let end = reached_quiet laws rs c d fired set (reached_sound rs c d fired set sound r) r quiet in
    let both = orders.ends rs end.0 kinds c end.1 e set sound.over sound.named end.2 end.4 chain also in
    let P : List ℕ → Type 0 = λ is. IsPermutation is (rules_fired kinds) in (
      but_next_through d end.1 e (but_next_other_way laws.nets end.1 d end.5) (but_next end.1 e both.0),
      transport P end.3 (fired_alike end.0 kinds both.1),
    )

-- rounds are a chain of steps
pub rounds_too : StepLaws → OrderLaws → (rs : Rules) (n : ℕ) (c d : Configuration) (fired : List ℕ) → IsRuleSet rs → Sound rs c → Reaches rs.rules c d fired → IsQuiet rs.rules d
    → IsQuiet rs.rules (iterate rs.rules n c) → SameButNext d (iterate rs.rules n c)
rounds_too laws orders rs n c d fired set sound r quiet also =
    let end = reached_quiet laws rs c d fired set (reached_sound rs c d fired set sound r) r quiet in
    let same = orders.rounds rs n c end.1 set sound.over sound.named (orders.steps rs.rules end.0 c end.1 end.2) end.4 also in
    but_next_through d end.1 (iterate rs.rules n c) (but_next_other_way laws.nets end.1 d end.5) (but_next end.1 (iterate rs.rules n c) same)

pub some_rounds : StepLaws → OrderLaws → (rs : Rules) (c d : Configuration) (fired : List ℕ) → IsRuleSet rs → Sound rs c → Reaches rs.rules c d fired → IsQuiet rs.rules d
    → (n : ℕ) × IsQuiet rs.rules (iterate rs.rules n c)
some_rounds laws orders rs c d fired set sound r quiet =
    let end = reached_quiet laws rs c d fired set (reached_sound rs c d fired set sound r) r quiet in
    let some = orders.some_rounds rs end.0 c end.1 set sound.over sound.named end.2 end.4 in
    (some.0, some.2)

-- ---- what isn't quiet yet

pub further : (rs : List Rule) (c d : Configuration) (fired : List ℕ) → Reaches rs c d fired
    → (kinds : List Kind) × (end : Configuration) × (other : Configuration) × Chain rs kinds c end × (rules_fired kinds ≡ fired) × NameSteps d other × SameButNext end other
further rs c d fired r = let on = reached_further rs c d fired r in (on.kinds, on.end, r.net.end_too, on.chain, on.interactions, r.net.steps_too, on.same)

pub same_end : StepLaws → SettlingLaws → OrderLaws → (rs : Rules) (c d e f : Configuration) (fired : List ℕ) (ks ls : List Kind) → IsRuleSet rs → Sound rs c → Reaches rs.rules c d fired
    → Chain rs.rules ks c e → IsQuiet rs.rules e → Chain rs.rules ls d f → IsQuiet rs.rules f → SameButNext e f × IsPermutation (rules_fired ks) (fired ++ rules_fired ls)
same_end laws nets orders rs c d e f fired ks ls set sound r one quiet other also =
    let on = goes_on_so laws nets rs ls c d f fired set sound r other in
    let both = every_order laws orders rs c f e (fired ++ rules_fired ls) ks set sound on also one quiet in
    (but_next_other_way laws.nets f e both.0, IsPermutation-sym (fired ++ rules_fired ls) (rules_fired ks) both.1)
