-- Lemmas: interactions of configurations that are one net.
use Rattle.std.proofs.Common.{◌≡◌, ◌⊎◌, ℕ, ◌+◌, ◌≤◌, ◌<◌, List, [], ◌∷◌, ◌++◌, true, ◌&&◌, Some, append_assoc, refl, sym, ap, ◌∙◌, arith, inl, inr, subst as transport}
use Rattle.std.proofs.lemmas.Bool.{and_parts}
use Rattle.std.proofs.lemmas.List.Sorted.{IsPermutation-refl, IsPermutation-append, IsPermutation-append_comm, IsPermutation-middle}
use Rattle.std.specs.List.{flat_map, list_all}
use Rattle.std.specs.Prelude.{IsPermutation}
use Rattle.ic_term.specs.Tree.{Tree, names, Pair, pair_names}
use Rattle.ic_term.specs.Configuration.{Configuration, configuration_names, names_in, occurrences}
use Rattle.ic_term.specs.Symbol.{Symbol, is_tree_over, is_pair_over, is_over}
use Rattle.ic_rules.specs.Rule.{Rule}
use Rattle.ic_rules.specs.RuleSet.{Rules, IsRuleSet}
use Rattle.ic_settle.specs.NameSteps.{NameStep, NameSteps, no_step, one_more}
use Rattle.ic_settle.specs.lemmas.SubstitutionLaws.{and_both, occurrences-append}
use Rattle.ic_round.specs.Firing.{Active, active_pair, products_by, count_of}
use Rattle.ic_round.specs.Naming.{HasNames}
use Rattle.ic_round.specs.Steps.{Interaction, Step, interaction, no_steps, then_step}
use Rattle.ic_round.specs.lemmas.ChainLemmas.{steps-over, steps-names}
use Rattle.ic_round.specs.lemmas.NameStepLemmas.{name_step}
use Rattle.ic_confluence.specs.Kinds.{Kind, naming, firing, StepOf}
use Rattle.ic_confluence.specs.Sameness.{Same, through}
use Rattle.ic_confluence.specs.lemmas.Actives.{HasRule, has_rule}
use Rattle.ic_confluence.specs.lemmas.Counts.{All_from, below_next}
use Rattle.ic_reaching.specs.OneNet.{raised, SameButNext}
use Rattle.ic_reaching.specs.FreshNames.{AreFresh, Fires}
use Rattle.ic_reaching.proofs.Given.{NetLaws, StepLaws}
use Rattle.ic_reaching.proofs.ButNext.{but_next, but_next_other_way, but_next_through, raised_names}
use Rattle.ic_reaching.proofs.FreshNets.{fronted, fired_with, any_fresh, far_fresh, fired_names}
use Rattle.ic_reaching.specs.lemmas.Orders.{any_order, permuted, permuted_counts}

-- ---- what is asked of the steps

pub record Sound (rs : Rules) (c : Configuration) : Type 0 where
  pub over : is_over rs.symbols c ≡ true
  pub named : HasNames c

pub step_of : (rs : List Rule) (k : Kind) (c d : Configuration) → StepOf rs k c d → Step rs c d
step_of rs naming c d step = name_step rs c d step
step_of rs (firing i) c d step = interaction c d step.0 step.1

pub sound_step : (rs : Rules) (k : Kind) (c d : Configuration) → IsRuleSet rs → Sound rs c → StepOf rs.rules k c d → Sound rs d
sound_step rs k c d set sound step =
    let chain = then_step c c d (no_steps c) (step_of rs.rules k c d step) in
    record { over = steps-over rs c d set sound.over chain; named = steps-names rs c d set sound.over sound.named chain }

pub sound_steps : (rs : Rules) (c d : Configuration) → IsRuleSet rs → Sound rs c → NameSteps c d → Sound rs d
sound_steps rs c d set sound (no_step x) = sound
sound_steps rs c d set sound (one_more x y z steps step) = sound_step rs naming y z set (sound_steps rs x y set sound steps) step

-- ---- an interaction before name steps is one after them

pub record After (rs : List Rule) (i : ℕ) (b e : Configuration) : Type 0 where
  pub fired : Configuration
  pub end : Configuration
  pub fires : StepOf rs (firing i) b fired
  pub steps : NameSteps e end
  pub same : Same end fired

fires_one_after : StepLaws → (rs : Rules) → IsRuleSet rs → (i : ℕ) (y z e : Configuration) → Sound rs y → NameStep y z → After rs.rules i y e → After rs.rules i z e
fires_one_after laws rs set i y z e sound last before = by (laws.meet rs naming (firing i) y z before.fired set sound.over sound.named last before.fires)
  where
    by : ((naming ≡ firing i) × Same z before.fired) ⊎ ((f : Configuration) × (g : Configuration) × StepOf rs.rules (firing i) z f × StepOf rs.rules naming before.fired g × Same f g)
        → After rs.rules i z e
    by (inl both) = let bad : naming ≡ firing i = both.0 in cc
    by (inr (f, g, fires, names, net)) =
        let nets = laws.nets in
        let sound_f = sound_step rs (firing i) y before.fired set sound before.fires in
        let too = nets.steps before.fired before.end g sound_f.named (nets.other_way before.end before.fired before.same) names in
        record {
          fired = f;
          end = too.0;
          fires = fires;
          steps = one_more e before.end too.0 before.steps too.1;
          same = through too.0 g f (nets.other_way g too.0 too.2) (nets.other_way f g net);
        }

pub fires_after : StepLaws → (rs : Rules) → IsRuleSet rs → (i : ℕ) (d b e : Configuration) → Sound rs d → NameSteps d b → StepOf rs.rules (firing i) d e → After rs.rules i b e
fires_after laws rs set i d b e sound (no_step x) step = record { fired = e; end = e; fires = step; steps = no_step e; same = laws.nets.itself e }
fires_after laws rs set i d b e sound (one_more x y z steps last) step =
    fires_one_after laws rs set i y z e (sound_steps rs x y set sound steps) last (fires_after laws rs set i x y e sound steps step)

-- ---- equations in another order

abbrev AllOver : List Symbol → List Pair → List Pair → Type 0
AllOver ss es fs = list_all (is_pair_over ss) es ≡ true → list_all (is_pair_over ss) fs ≡ true

pub permuted_over : (ss : List Symbol) (es fs : List Pair) → IsPermutation es fs → list_all (is_pair_over ss) es ≡ true → list_all (is_pair_over ss) fs ≡ true
permuted_over ss = any_order (AllOver ss) (record {
  same = λ es over. over;
  more = λ p es fs rest over. let both = and_parts (is_pair_over ss p) (list_all (is_pair_over ss) es) over in and_both both.0 (rest both.1);
  first_two = λ p q es over.
      let one = and_parts (is_pair_over ss p) (is_pair_over ss q && list_all (is_pair_over ss) es) over in
      let two = and_parts (is_pair_over ss q) (list_all (is_pair_over ss) es) one.1 in
      and_both two.0 (and_both one.0 two.1);
  in_turn = λ es fs gs first second over. second (first over);
})

-- the equation in front of the others
pub rule_in_front : (rs : Rules) (c : Configuration) (p : Pair) (others : List Pair) (a : Active) → IsRuleSet rs → is_over rs.symbols c ≡ true → IsPermutation c.equations (p ∷ others)
    → active_pair rs.rules p ≡ Some a → HasRule rs.rules p a
rule_in_front rs c p others a set over moved is =
    let ss = rs.symbols in
    let all = (and_parts (list_all (is_tree_over ss) c.interface) (list_all (is_pair_over ss) c.equations) over).1 in
    let here = and_parts (is_pair_over ss p) (list_all (is_pair_over ss) others) (permuted_over ss c.equations (p ∷ others) moved all) in
    has_rule rs p a set here.0 is

pub counts_in_front : (c : Configuration) (es : List Pair) → IsPermutation c.equations es → (n : ℕ)
    → occurrences n (configuration_names (record c { equations = es })) ≡ occurrences n (configuration_names c)
counts_in_front c es moved n =
    let now = occurrences-append n (flat_map names c.interface) (flat_map pair_names es) in
    let before = occurrences-append n (flat_map names c.interface) (flat_map pair_names c.equations) in
    let same = permuted_counts c.equations es moved n in
    omega (arith, now, before, same)

pub names_in_front : (c : Configuration) (es : List Pair) → IsPermutation c.equations es → HasNames c → HasNames (record c { equations = es })
names_in_front c es moved named = record {
  below = All_from (λ n. n < c.next) (names_in c.interface es) (λ n some. let same = counts_in_front c es moved n in below_next c named n (omega (arith, same, some)));
  twice = λ n. let same = counts_in_front c es moved n in let two = named.twice n in omega (arith, same, two);
}

pub fresh_in_front : (c : Configuration) (es : List Pair) (count bound : ℕ) (u : ℕ → ℕ) → IsPermutation c.equations es → AreFresh c count bound u
    → AreFresh (record c { equations = es }) count bound u
fresh_in_front c es count bound u moved fresh = record {
  absent = λ k low. counts_in_front c es moved (u k) ∙ fresh.absent k low;
  apart = fresh.apart;
  below = fresh.below;
}

-- ---- the fresh names of an interaction, counted on from any number that is high enough

abbrev pub fired_at : List Rule → Configuration → List Pair → List Pair → Active → ℕ → Configuration
fired_at rs c before after a base = record {
  interface = c.interface;
  equations = before ++ (products_by rs base a ++ after);
  next = base + count_of rs a.rule;
}

out_of_front : (out before after : List Pair) → IsPermutation (before ++ (out ++ after)) (out ++ (before ++ after))
out_of_front out before after =
    let P : List Pair → Type 0 = λ es. IsPermutation es (out ++ (before ++ after)) in
    let Q : List Pair → Type 0 = λ es. IsPermutation ((before ++ out) ++ after) es in
    transport P (append_assoc before out after) (transport Q (append_assoc out before after)
    (IsPermutation-append (before ++ out) (out ++ before) after after (IsPermutation-append_comm before out) (IsPermutation-refl after)))

brought_to_front : (c : Configuration) (before : List Pair) (p : Pair) (after : List Pair) → c.equations ≡ before ++ p ∷ after → IsPermutation c.equations (p ∷ (before ++ after))
brought_to_front c before p after parts = let P : List Pair → Type 0 = λ es. IsPermutation es (p ∷ (before ++ after)) in transport P (sym parts) (IsPermutation-middle before p after)

pub any_base : NetLaws → (rs : List Rule) (c : Configuration) (before : List Pair) (p : Pair) (after : List Pair) (a : Active) → HasRule rs p a → HasNames c
    → c.equations ≡ before ++ p ∷ after → (one other : ℕ) → c.next ≤ one → c.next ≤ other → SameButNext (fired_at rs c before after a one) (fired_at rs c before after a other)
any_base laws rs c before p after a h named parts one other high also =
    let rest = before ++ after in
    let front = names_in_front c (p ∷ rest) (brought_to_front c before p after parts) named in
    let m = count_of rs a.rule in
    let middle = any_fresh laws rs c p rest a h front (λ k. one + k) (λ k. other + k) (one + m) (other + m)
    (far_fresh (fronted c p rest) m one front high) (far_fresh (fronted c p rest) m other front also) in
    but_next_through (fired_at rs c before after a one) (fired_with rs c rest a (λ k. one + k) (one + m)) (fired_at rs c before after a other)
    (in_two_orders one)
    (but_next_through (fired_with rs c rest a (λ k. one + k) (one + m)) (fired_with rs c rest a (λ k. other + k) (other + m)) (fired_at rs c before after a other)
    middle (but_next_other_way laws (fired_at rs c before after a other) (fired_with rs c rest a (λ k. other + k) (other + m)) (in_two_orders other)))
  where
    in_two_orders : (base : ℕ) → SameButNext (fired_at rs c before after a base) (fired_with rs c (before ++ after) a (λ k. base + k) (base + count_of rs a.rule))
    in_two_orders base =
        but_next (fired_at rs c before after a base) (fired_with rs c (before ++ after) a (λ k. base + k) (base + count_of rs a.rule))
        (permuted (fired_at rs c before after a base) (products_by rs base a ++ (before ++ after)) (out_of_front (products_by rs base a) before after))

-- ---- configurations that are the same net wherever fresh names begin fire by the same rules

rule_at : (rs : Rules) (c d : Configuration) (place : ℕ) → IsRuleSet rs → Sound rs c → (s : Interaction rs.rules c d place) → HasRule rs.rules s.equation s.active
rule_at rs c d place set sound s =
    rule_in_front rs c s.equation (s.before ++ s.after) s.active set sound.over (brought_to_front c s.before s.equation s.after s.stands.parts) s.has_rule

pub record Higher (rs : List Rule) (i more : ℕ) (c d : Configuration) : Type 0 where
  pub end : Configuration
  pub step : StepOf rs (firing i) (raised more c) end
  pub same : SameButNext end d

fires_higher : NetLaws → (rs : Rules) → IsRuleSet rs → (i more : ℕ) (c d : Configuration) → Sound rs c → StepOf rs.rules (firing i) c d → Higher rs.rules i more c d
fires_higher laws rs set i more c d sound (place, s, is) =
    let P : Configuration → Type 0 = SameButNext (fired_at rs.rules c s.before s.after s.active (c.next + more)) in
    record {
      end = fired_at rs.rules c s.before s.after s.active (c.next + more);
      step = (
        place,
        record {
          before = s.before;
          equation = s.equation;
          after = s.after;
          active = s.active;
          stands = record { counted = s.stands.counted; parts = s.stands.parts };
          has_rule = s.has_rule;
          result = refl;
        },
        is,
      );
      same = transport P (sym s.result)
          (any_base laws rs.rules c s.before s.equation s.after s.active (rule_at rs c d place set sound s) sound.named s.stands.parts (c.next + more) c.next (omega arith) (omega arith));
    }

pub record Lower (rs : List Rule) (i : ℕ) (c d : Configuration) : Type 0 where
  pub end : Configuration
  pub step : StepOf rs (firing i) c end
  pub same : SameButNext end d

fires_lower : NetLaws → (rs : Rules) → IsRuleSet rs → (i more : ℕ) (c d : Configuration) → Sound rs c → StepOf rs.rules (firing i) (raised more c) d → Lower rs.rules i c d
fires_lower laws rs set i more c d sound (place, s, is) =
    let P : Configuration → Type 0 = SameButNext (fired_at rs.rules c s.before s.after s.active c.next) in
    let h = rule_at rs (raised more c) d place set (record { over = sound.over; named = raised_names more c sound.named }) s in
    record {
      end = fired_at rs.rules c s.before s.after s.active c.next;
      step = (
        place,
        record {
          before = s.before;
          equation = s.equation;
          after = s.after;
          active = s.active;
          stands = record { counted = s.stands.counted; parts = s.stands.parts };
          has_rule = s.has_rule;
          result = refl;
        },
        is,
      );
      same = transport P (sym s.result) (any_base laws rs.rules c s.before s.equation s.after s.active h sound.named s.stands.parts c.next (c.next + more) (omega arith) (omega arith));
    }

pub fires_but_next : StepLaws → (rs : Rules) → IsRuleSet rs → (i : ℕ) (c d after : Configuration) → Sound rs c → Sound rs d → SameButNext c d → StepOf rs.rules (firing i) d after → Lower rs.rules i c after
fires_but_next laws rs set i c d after sound also s step =
    let nets = laws.nets in
    let high = fires_higher nets rs set i s.others d after also step in
    let too = laws.steps rs (firing i) (raised s.others d) (raised s.more c) high.end set also.over (raised_names s.others d also.named)
    (nets.other_way (raised s.more c) (raised s.others d) s.same) high.step in
    let low = fires_lower nets rs set i s.more c too.0 sound too.1 in
    record {
      end = low.end;
      step = low.step;
      same = but_next_through low.end too.0 after low.same (but_next_through too.0 high.end after (but_next too.0 high.end (nets.other_way high.end too.0 too.2)) high.same);
    }

-- ---- an interaction with any fresh names

-- the interaction of the equation in front, with the next fresh names
pub fires_in_front : (rs : List Rule) (c d : Configuration) (i : ℕ) → (s : Fires rs c d i)
    → StepOf rs (firing i) (fronted c s.equation s.others) (fired_with rs c s.others s.active (λ k. c.next + k) (c.next + count_of rs s.active.rule))
fires_in_front rs c d i s = (
  0,
  record {
    before = [];
    equation = s.equation;
    after = s.others;
    active = s.active;
    stands = record { counted = refl; parts = refl };
    has_rule = s.has_rule;
    result = refl;
  },
  s.by_rule,
)

-- and that it leads to the same net
pub fires_alike : NetLaws → (rs : Rules) (c d : Configuration) (i : ℕ) → IsRuleSet rs → Sound rs c → (s : Fires rs.rules c d i)
    → SameButNext (fired_with rs.rules c s.others s.active (λ k. c.next + k) (c.next + count_of rs.rules s.active.rule)) d × HasNames d
fires_alike laws rs c d i set sound s = (
  but_next_through ordinary given d
      (any_fresh laws rs.rules c s.equation s.others s.active h front (λ k. c.next + k) s.names (c.next + m) d.next (far_fresh (fronted c s.equation s.others) m c.next front (omega arith)) fresh)
      (but_next given d ordered),
  transport HasNames whole_d (names_in_front given d.equations s.equations (fired_names rs.rules c s.equation s.others s.active h front s.names d.next s.higher fresh)),
)
  where
    m : ℕ
    m = count_of rs.rules s.active.rule

    ordinary : Configuration
    ordinary = fired_with rs.rules c s.others s.active (λ k. c.next + k) (c.next + m)

    given : Configuration
    given = fired_with rs.rules c s.others s.active s.names d.next

    h : HasRule rs.rules s.equation s.active
    h = rule_in_front rs c s.equation s.others s.active set sound.over s.given s.has_rule

    front : HasNames (fronted c s.equation s.others)
    front = names_in_front c (s.equation ∷ s.others) s.given sound.named

    fresh : AreFresh (fronted c s.equation s.others) m d.next s.names
    fresh =
        let P : ℕ → Type 0 = λ i. AreFresh c (count_of rs.rules i) d.next s.names in
        fresh_in_front c (s.equation ∷ s.others) m d.next s.names s.given (transport P (sym s.by_rule) s.fresh)

    whole_d : record given { equations = d.equations } ≡ d
    whole_d = ap (λ (ts : List Tree). record { interface = ts; equations = d.equations; next = d.next }) (sym s.interface)

    ordered : Same given d
    ordered = let P : Configuration → Type 0 = Same given in transport P whole_d (permuted given d.equations s.equations)
