-- Lemmas: interactions without their places, beside steps that put terms for names and under renaming.
use Rattle.std.proofs.Common.{◌≡◌, ◌⊎◌, ℕ, ◌+◌, ◌≤◌, ◌<◌, List, [], ◌∷◌, ◌++◌, true, Option, None, Some, length, map, refl, sym, ap, ◌∙◌, arith, inl, inr, subst as transport}
use Rattle.std.proofs.lemmas.Bool.{and_parts, cases_lt}
use Rattle.std.specs.List.{list_all}
use Rattle.ic_term.specs.Tree.{Pair}
use Rattle.ic_term.specs.Configuration.{Configuration, configuration_names, names_in, occurrences}
use Rattle.ic_term.specs.Symbol.{Symbol, is_over, is_tree_over, is_pair_over}
use Rattle.ic_rules.specs.Rule.{Rule}
use Rattle.ic_rules.specs.RuleSet.{Rules, IsRuleSet}
use Rattle.ic_settle.specs.Settling.{Binding, occurs, subst_pair, Binds}
use Rattle.ic_round.specs.Firing.{Active, active_pair, products_by, count_of}
use Rattle.ic_round.specs.Naming.{HasNames}
use Rattle.ic_round.specs.Steps.{Interaction}
use Rattle.ic_round.specs.lemmas.ActivityLemmas.{active_right_name}
use Rattle.ic_confluence.specs.Sameness.{renamed_pair, renamed_in, Renames}
use Rattle.ic_confluence.specs.lemmas.Counts.{in_configuration, below_next}
use Rattle.ic_confluence.specs.lemmas.Replacing.{Replaced, replaced_at, place_of, TwoReplaced, two_replaced, replaced_mapped, replaced_counts}
use Rattle.ic_confluence.proofs.Putting.{occurs_some, bound_in, Putting, Counted, counted}
use Rattle.ic_confluence.specs.lemmas.Actives.{HasRule, has_rule, older_products, put_active, put_products, active_put, renamed_active, renamed_products, active_renamed}

-- a configuration with these equations, once an active equation has fired
abbrev pub fired_in : List Rule → Configuration → List Pair → Active → Configuration
fired_in rs c es a = record { interface = c.interface; equations = es; next = c.next + count_of rs a.rule }

-- an interaction, without its place
pub record Firing (rs : List Rule) (c d : Configuration) : Type 0 where
  pub equation : Pair
  pub active : Active
  pub others : List Pair
  pub at : Replaced equation (products_by rs c.next active) c.equations others
  pub has_rule : active_pair rs equation ≡ Some active
  pub result : d ≡ fired_in rs c others active

abbrev pub from_interaction : (rs : List Rule) (c d : Configuration) (place : ℕ) → Interaction rs c d place → Firing rs c d
from_interaction rs c d place s =
    let out = products_by rs c.next s.active in
    let P : List Pair → Type 0 = λ es. Replaced s.equation out es (s.before ++ (out ++ s.after)) in
    record {
      equation = s.equation;
      active = s.active;
      others = s.before ++ (out ++ s.after);
      at = transport P (sym s.stands.parts) (replaced_at s.equation out s.before s.after);
      has_rule = s.has_rule;
      result = s.result;
    }

pub to_interaction : (rs : List Rule) (c d : Configuration) → (s : Firing rs c d) → (place : ℕ) × (i : Interaction rs c d place) × (i.active ≡ s.active)
to_interaction rs c d s =
    let place = place_of s.equation (products_by rs c.next s.active) c.equations s.others s.at in (
      length place.before,
      record {
        before = place.before;
        equation = s.equation;
        after = place.after;
        active = s.active;
        stands = record { counted = refl; parts = place.given };
        has_rule = s.has_rule;
        result = s.result ∙ ap (λ es. fired_in rs c es s.active) place.result;
      },
      refl,
    )

-- what is kept by every step
pub record Sound (rs : Rules) (c : Configuration) : Type 0 where
  pub over : is_over rs.symbols c ≡ true
  pub named : HasNames c

over_at : (ss : List Symbol) (p : Pair) (out es fs : List Pair) → Replaced p out es fs → list_all (is_pair_over ss) es ≡ true → is_pair_over ss p ≡ true
over_at ss p out [] fs r over = absurd r
over_at ss p out (q ∷ es) fs (inl (same, is)) over =
    let P : Pair → Type 0 = λ z. is_pair_over ss z ≡ true in
    transport P same (and_parts (is_pair_over ss q) (list_all (is_pair_over ss) es) over).0
over_at ss p out (q ∷ es) fs (inr (rest, r, is)) over = over_at ss p out es rest r (and_parts (is_pair_over ss q) (list_all (is_pair_over ss) es) over).1

pub rule_of : (rs : Rules) (c d : Configuration) → IsRuleSet rs → Sound rs c → (s : Firing rs.rules c d) → HasRule rs.rules s.equation s.active
rule_of rs c d set sound s =
    let over = (and_parts (list_all (is_tree_over rs.symbols) c.interface) (list_all (is_pair_over rs.symbols) c.equations) sound.over).1 in
    has_rule rs s.equation s.active set (over_at rs.symbols s.equation (products_by rs.rules c.next s.active) c.equations s.others s.at over) s.has_rule

-- ---- beside a step that puts a term for a name

pub no_Some : (a : Active) (o : Option Active) → o ≡ Some a → o ≡ None → ⊥
no_Some a o e f = let both = sym e ∙ f in cc

-- an equation that binds a name isn't active
pub active_binds_none : (rs : List Rule) (p : Pair) (a : Active) (b : Binding) → active_pair rs p ≡ Some a → Binds p b → ⊥
active_binds_none rs p a b is (inl e) = no_Some a (active_pair rs p) is (ap (active_pair rs) e)
active_binds_none rs p a b is (inr e) = no_Some a (active_pair rs p) is (ap (active_pair rs) e ∙ active_right_name rs b.term b.name)

still_outside : (rs : List Rule) (c : Configuration) (p : Pair) (a : Active) (b : Binding) (rest both : List Pair) → HasNames c → HasRule rs p a → Counted c rest b
    → Replaced p (products_by rs c.next a) rest both → occurs b.name (names_in c.interface both) ≡ true
still_outside rs c p a b rest both named h is at =
    let x = b.name in
    let two = is.twice in
    let once = is.once in
    let low = below_next c named x (omega (arith, two)) in
    let counts = replaced_counts x p (products_by rs c.next a) rest both at in
    let older = older_products rs p a h c.next x low in
    let one = in_configuration x c.interface rest in
    let other = in_configuration x c.interface both in
    occurs_some x (names_in c.interface both) (omega (arith, once, counts, older, one, other))

-- The two steps are taken in either order, and lead to one configuration.
pub put_and_fire : (rs : Rules) (c d e : Configuration) → IsRuleSet rs → Sound rs c → (s : Firing rs.rules c d) → Putting c e
    → (f : Configuration) × Putting d f × (r : Firing rs.rules e f) × (r.active.rule ≡ s.active.rule)
put_and_fire rs c d e set sound s r = at (two_replaced s.equation r.equation (products_by rs.rules c.next s.active) [] c.equations s.others r.others s.at r.at)
  where
    h : HasRule rs.rules s.equation s.active
    h = rule_of rs c d set sound s

    is : Counted c r.others r.bound
    is = counted c e sound.named r

    at : TwoReplaced s.equation r.equation (products_by rs.rules c.next s.active) [] s.others r.others
        → (f : Configuration) × Putting d f × (t : Firing rs.rules e f) × (t.active.rule ≡ s.active.rule)
    at (inl (same, equal)) =
        let P : Pair → Type 0 = λ z. Binds z r.bound in
        absurd (active_binds_none rs.rules s.equation s.active r.bound s.has_rule (transport P (sym same) r.side))
    at (inr (both, bind_at, fire_at)) =
        let x = r.bound.name in
        let t = r.bound.term in
        let two = is.twice in
        let low = below_next c sound.named x (omega (arith, two)) in
        let end = bound_in (fired_in rs.rules c s.others s.active) both r.bound in
        let fires : Firing rs.rules (bound_in c r.others r.bound) end = record {
          equation = subst_pair x t s.equation;
          active = put_active x t s.active;
          others = map (subst_pair x t) both;
          at =
              let P : List Pair → Type 0 = λ out. Replaced (subst_pair x t s.equation) out (map (subst_pair x t) r.others) (map (subst_pair x t) both) in
              transport P (put_products rs.rules s.equation s.active h c.next x t low)
              (replaced_mapped (subst_pair x t) s.equation (products_by rs.rules c.next s.active) r.others both fire_at);
          has_rule = active_put rs.rules x t s.equation s.active s.has_rule;
          result = refl;
        } in
        let puts : Putting (fired_in rs.rules c s.others s.active) end = record {
          equation = r.equation;
          others = both;
          bound = r.bound;
          at = bind_at;
          side = r.side;
          outside = still_outside rs.rules c s.equation s.active r.bound r.others both sound.named h is fire_at;
          result = refl;
        } in
        let P : Configuration → Type 0 = λ z. Putting z end in
        let Q : Configuration → Type 0 = λ z. (v : Firing rs.rules z end) × (v.active.rule ≡ s.active.rule) in
        let fired = transport Q (sym r.result) (fires, refl) in
        (end, transport P (sym s.result) puts, fired.0, fired.1)

-- ---- under renaming

abbrev pub renamed_firing : (rs : Rules) (c after : Configuration) (f : ℕ → ℕ) → IsRuleSet rs → Sound rs c → ((n : ℕ) → c.next ≤ n → f n ≡ n) → (s : Firing rs.rules c after)
    → Firing rs.rules (renamed_in f c) (renamed_in f after)
renamed_firing rs c after f set sound fresh s =
    let h = rule_of rs c after set sound s in
    let P : List Pair → Type 0 = λ out. Replaced (renamed_pair f s.equation) out (map (renamed_pair f) c.equations) (map (renamed_pair f) s.others) in
    record {
      equation = renamed_pair f s.equation;
      active = renamed_active f s.active;
      others = map (renamed_pair f) s.others;
      at = transport P (renamed_products rs.rules s.equation s.active h c.next c.next f (λ k low. fresh (c.next + k) (omega arith)))
          (replaced_mapped (renamed_pair f) s.equation (products_by rs.rules c.next s.active) c.equations s.others s.at);
      has_rule = active_renamed rs.rules f s.equation s.active s.has_rule;
      result = ap (renamed_in f) s.result;
    }

-- a name that was taken before occurs as often as it did
pub old_counts : (rs : Rules) (c after : Configuration) → IsRuleSet rs → Sound rs c → Firing rs.rules c after → (n : ℕ) → n < c.next
    → occurrences n (configuration_names after) ≡ occurrences n (configuration_names c)
old_counts rs c after set sound s n low =
    let h = rule_of rs c after set sound s in
    let is = ap (λ (e : Configuration). occurrences n (configuration_names e)) s.result in
    let counts = replaced_counts n s.equation (products_by rs.rules c.next s.active) c.equations s.others s.at in
    let older = older_products rs.rules s.equation s.active h c.next n low in
    let one = in_configuration n c.interface c.equations in
    let other = in_configuration n c.interface s.others in
    omega (arith, is, counts, older, one, other)

pub renames_after_firing : (rs : Rules) (c d after : Configuration) → IsRuleSet rs → Sound rs c → (r : Renames c d) → Firing rs.rules c after → Renames after (renamed_in r.to after)
renames_after_firing rs c d after set sound r s = record {
  to = r.to;
  from = r.from;
  there_and_back = r.there_and_back;
  back_and_there = r.back_and_there;
  free = λ n once. stays n once (cases_lt n c.next);
  fresh = λ n high. r.fresh n (let grown = ap (λ (e : Configuration). e.next) s.result in omega (arith, grown, high));
  result = refl;
}
  where
    stays : (n : ℕ) → occurrences n (configuration_names after) ≡ 1 → (n < c.next) ⊎ (c.next ≤ n) → r.to n ≡ n
    stays n once (inl low) = r.free n (sym (old_counts rs c after set sound s n low) ∙ once)
    stays n once (inr high) = r.fresh n high
