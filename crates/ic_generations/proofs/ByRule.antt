-- Lemmas: by which rules the active equations fire: the same ones, each as often, of one net, after name steps that make no equation active, and in a
-- generation.
use Rattle.std.proofs.Common.{◌≡◌, ℕ, ◌<◌, List, [], ◌∷◌, ◌++◌, true, Option, None, Some, is_none, map, refl, sym, ap, ◌∙◌, append-nil, arith, subst as transport}
use Rattle.std.proofs.lemmas.Bool.{and_parts}
use Rattle.std.proofs.lemmas.Grind.{flat_map-append}
use Rattle.std.proofs.lemmas.List.Sorted.{IsPermutation-refl, IsPermutation-sym, IsPermutation-trans, IsPermutation-cons, IsPermutation-append_right}
use Rattle.std.specs.Prelude.{IsPermutation}
use Rattle.std.specs.List.{AllByRecursion, flat_map, list_all}
use Rattle.std.specs.Option.{option_map, option_to_list}
use Rattle.ic_term.specs.Tree.{Tree, Pair, pair_names}
use Rattle.ic_term.specs.Configuration.{Configuration, occurrences}
use Rattle.ic_term.specs.Symbol.{is_over, is_tree_over, is_pair_over}
use Rattle.ic_rules.specs.Rule.{Rule}
use Rattle.ic_rules.specs.RuleSet.{Rules, IsRuleSet}
use Rattle.ic_settle.specs.Settling.{subst_pair}
use Rattle.ic_settle.specs.NameSteps.{NameStep, NameSteps, no_step, one_more}
use Rattle.ic_settle.specs.lemmas.SubstitutionLaws.{All-front, All-back}
use Rattle.ic_round.specs.Firing.{Active, oriented, active_pair}
use Rattle.ic_round.specs.Naming.{HasNames}
use Rattle.ic_confluence.specs.Kinds.{StepOf, firing}
use Rattle.ic_confluence.specs.Sameness.{Alike, Rearranged, nothing, kept, swapped, one_by_one, renamed_pair, Same, renaming, rearranging, through}
use Rattle.ic_confluence.specs.lemmas.Actives.{put_active, active_put, renamed_active, oriented_renamed, sides_renamed}
use Rattle.ic_confluence.specs.lemmas.Counts.{in_configuration, in_more}
use Rattle.ic_confluence.specs.lemmas.Equivalence.{Alike-sym, same_equations}
use Rattle.ic_confluence.specs.lemmas.Over.{same_over}
use Rattle.ic_reaching.specs.OneNet.{SameButNext, raised}
use Rattle.ic_reaching.specs.lemmas.Orders.{any_order}
use Rattle.ic_generations.specs.Firings.{rule_of, rules_of}
use Rattle.ic_generations.specs.Generations.{Generation, Goes, ended, fires, passes, changes}
use Rattle.ic_generations.proofs.Given.{Sound}
use Rattle.ic_generations.proofs.Fired.{count_in}
use Rattle.ic_generations.proofs.Lists.{behind_too}
use Rattle.ic_generations.proofs.Anywhere.{raised_names}
use Rattle.ic_generations.proofs.Settling.{how_many, StaysInert, stay_inert, binding_inert, many_before, many_after, steps_keep, step_keeps}

-- ---- an equation that stands alone

abbrev only : List Pair → ℕ → Configuration
only es next = record { interface = []; equations = es; next = next }

-- what a step of one net is of another
pub record StepLaws : Type 0 where
  pub names : (c d : Configuration) → Same c d → HasNames c → HasNames d
  pub steps : (rs : Rules) (i : ℕ) (c d after : Configuration) → IsRuleSet rs → is_over rs.symbols c ≡ true → HasNames c → Same c d → StepOf rs.rules (firing i) c after
      → (end : Configuration) × StepOf rs.rules (firing i) d end × Same after end

sound_too : StepLaws → (rs : Rules) (c d : Configuration) → Sound rs c → Same c d → Sound rs d
sound_too laws rs c d sound same = record { over = same_over rs.symbols c d same sound.over; named = laws.names c d same sound.named }

stands_alone : (q p : Pair) (before after : List Pair) → q ∷ [] ≡ before ++ p ∷ after → p ≡ q
stands_alone q p [] after e = cc
stands_alone q p (b ∷ []) after e = cc
stands_alone q p (b ∷ d ∷ before) after e = cc

pub ruled : (rs : List Rule) (p : Pair) (a : Active) → active_pair rs p ≡ Some a → rule_of rs p ≡ a.rule ∷ []
ruled rs p a is = ap (λ o. option_to_list (option_map (λ (b : Active). b.rule) o)) is

pub unruled : (rs : List Rule) (p : Pair) → active_pair rs p ≡ None → rule_of rs p ≡ []
unruled rs p is = ap (λ o. option_to_list (option_map (λ (b : Active). b.rule) o)) is

alike_fires : StepLaws → (rs : Rules) (p q : Pair) (next : ℕ) (a : Active) → IsRuleSet rs → Sound rs (only (p ∷ []) next) → Alike p q → active_pair rs.rules p ≡ Some a
    → (b : Active) × (active_pair rs.rules q ≡ Some b) × (b.rule ≡ a.rule)
alike_fires laws rs p q next a set sound alike is =
    let same = same_equations (only (p ∷ []) next) (q ∷ []) (kept p q [] [] alike nothing) in
    let too = laws.steps rs a.rule (only (p ∷ []) next) (only (q ∷ []) next) _ set sound.over sound.named same
    (0, record { before = []; equation = p; after = []; active = a; stands = record { counted = refl; parts = refl }; has_rule = is; result = refl }, refl) in
    by too.1
  where
    by : {end : Configuration} → StepOf rs.rules (firing a.rule) (only (q ∷ []) next) end → (b : Active) × (active_pair rs.rules q ≡ Some b) × (b.rule ≡ a.rule)
    by (place, s, rule) = (s.active, ap (active_pair rs.rules) (sym (stands_alone q s.equation s.before s.after s.stands.parts)) ∙ s.has_rule, rule)

alike_rule : StepLaws → (rs : Rules) (p q : Pair) (next : ℕ) → IsRuleSet rs → Sound rs (only (p ∷ []) next) → Alike p q → (one other : Option Active) → active_pair rs.rules p ≡ one → active_pair rs.rules q ≡ other
    → rule_of rs.rules q ≡ rule_of rs.rules p
alike_rule laws rs p q next set sound alike (Some a) other is also =
    let too = alike_fires laws rs p q next a set sound alike is in
    ruled rs.rules q too.0 too.1 ∙ (ap (λ i. i ∷ []) too.2 ∙ sym (ruled rs.rules p a is))
alike_rule laws rs p q next set sound alike None None is also = unruled rs.rules q also ∙ sym (unruled rs.rules p is)
alike_rule laws rs p q next set sound alike None (Some b) is also =
    let sound_q = sound_too laws rs (only (p ∷ []) next) (only (q ∷ []) next) sound (same_equations (only (p ∷ []) next) (q ∷ []) (kept p q [] [] alike nothing)) in
    let back = alike_fires laws rs q p next b set sound_q (Alike-sym p q alike) also in
    let bad : None ≡ Some back.0 = sym is ∙ back.1 in absurd (none_some back.0 bad)
  where
    none_some : (a : Active) → None ≡ Some a → ⊥
    none_some a e = cc

-- ---- equations in another order

sound_first : (rs : Rules) (p : Pair) (es : List Pair) (next : ℕ) → Sound rs (only (p ∷ es) next) → Sound rs (only (p ∷ []) next)
sound_first rs p es next sound = record {
  over = rw ((and_parts (is_pair_over rs.symbols p) (list_all (is_pair_over rs.symbols) es) sound.over).0) refl;
  named = record {
    below = rw (append-nil (pair_names p)) (All-front (λ n. n < next) (pair_names p) (flat_map pair_names es) sound.named.below);
    twice = λ n.
        let one = in_configuration n [] (p ∷ []) in
        let all = in_configuration n [] (p ∷ es) in
        let first = in_more n p [] in
        let more = in_more n p es in
        let nothing : count_in n [] ≡ 0 = refl in
        let two = sound.named.twice n in
        omega (arith, one, all, first, more, nothing, two);
  };
}

sound_rest : (rs : Rules) (p : Pair) (es : List Pair) (next : ℕ) → Sound rs (only (p ∷ es) next) → Sound rs (only es next)
sound_rest rs p es next sound = record {
  over = (and_parts (is_pair_over rs.symbols p) (list_all (is_pair_over rs.symbols) es) sound.over).1;
  named = record {
    below = All-back (λ n. n < next) (pair_names p) (flat_map pair_names es) sound.named.below;
    twice = λ n.
        let one = in_configuration n [] es in
        let all = in_configuration n [] (p ∷ es) in
        let more = in_more n p es in
        let two = sound.named.twice n in
        omega (arith, one, all, more, two);
  };
}

arranged_rules : StepLaws → (rs : Rules) (es fs : List Pair) (next : ℕ) → IsRuleSet rs → Sound rs (only es next) → Rearranged es fs → IsPermutation (rules_of rs.rules es) (rules_of rs.rules fs)
arranged_rules laws rs es fs next set sound nothing = IsPermutation-refl []
arranged_rules laws rs es fs next set sound (kept p q ps qs alike rest) =
    let here = alike_rule laws rs p q next set (sound_first rs p ps next sound) alike (active_pair rs.rules p) (active_pair rs.rules q) refl refl in
    let later = arranged_rules laws rs ps qs next set (sound_rest rs p ps next sound) rest in
    transport (λ l. IsPermutation (rule_of rs.rules p ++ rules_of rs.rules ps) (l ++ rules_of rs.rules qs)) (sym here)
    (IsPermutation-append_right (rule_of rs.rules p) (rules_of rs.rules ps) (rules_of rs.rules qs) later)
arranged_rules laws rs es fs next set sound (swapped p q ps) = behind_too (rule_of rs.rules p) (rule_of rs.rules q) (rules_of rs.rules ps)
arranged_rules laws rs es fs next set sound (one_by_one ps qs zs first second) =
    let middle = sound_too laws rs (only ps next) (only qs next) sound (same_equations (only ps next) qs first) in
    IsPermutation-trans (rules_of rs.rules ps) (rules_of rs.rules qs) (rules_of rs.rules zs) (arranged_rules laws rs ps qs next set sound first) (arranged_rules laws rs qs zs next set middle second)

-- ---- of one net

renamed_rule : (f : ℕ → ℕ) (o : Option Active) → option_map (λ (a : Active). a.rule) (option_map (renamed_active f) o) ≡ option_map (λ (a : Active). a.rule) o
renamed_rule f None = refl
renamed_rule f (Some a) = refl

renamed_rules : (rs : List Rule) (f : ℕ → ℕ) (es : List Pair) → rules_of rs (map (renamed_pair f) es) ≡ rules_of rs es
renamed_rules rs f [] = refl
renamed_rules rs f (p ∷ es) =
    let is : active_pair rs (renamed_pair f p) ≡ option_map (renamed_active f) (active_pair rs p) =
    ap (oriented (renamed_pair f p).left (renamed_pair f p).right) (sides_renamed rs f p.left p.right) ∙ oriented_renamed f p.left p.right _ in
    let here = ap (λ o. option_to_list (option_map (λ (a : Active). a.rule) o)) is ∙ ap option_to_list (renamed_rule f (active_pair rs p)) in
    let rest = renamed_rules rs f es in
    λ i. here i ++ rest i

equations_sound : (rs : Rules) (c : Configuration) → Sound rs c → Sound rs (only c.equations c.next)
equations_sound rs c sound = record {
  over = (and_parts (list_all (is_tree_over rs.symbols) c.interface) (list_all (is_pair_over rs.symbols) c.equations) sound.over).1;
  named = record {
    below = All-back (λ n. n < c.next) _ (flat_map pair_names c.equations) sound.named.below;
    twice = λ n.
        let one = in_configuration n [] c.equations in
        let nothing : occurrences n (flat_map pair_names []) ≡ 0 = refl in
        let all = in_configuration n c.interface c.equations in
        let two = sound.named.twice n in
        omega (arith, one, nothing, all, two);
  };
}

same_rules : StepLaws → (rs : Rules) (c d : Configuration) → IsRuleSet rs → Sound rs c → Same c d → IsPermutation (rules_of rs.rules c.equations) (rules_of rs.rules d.equations)
same_rules laws rs c d set sound (renaming x y r) =
    transport (IsPermutation (rules_of rs.rules x.equations)) (sym (ap (λ (z : Configuration). rules_of rs.rules z.equations) r.result ∙ renamed_rules rs.rules r.to x.equations)) (IsPermutation-refl (rules_of rs.rules x.equations))
same_rules laws rs c d set sound (rearranging x y r) = arranged_rules laws rs x.equations y.equations x.next set (equations_sound rs x sound) r.equations
same_rules laws rs c d set sound (through x y z first second) =
    IsPermutation-trans (rules_of rs.rules x.equations) (rules_of rs.rules y.equations) (rules_of rs.rules z.equations) (same_rules laws rs x y set sound first) (same_rules laws rs y z set (sound_too laws rs x y sound first) second)

pub rules_but_next : StepLaws → (rs : Rules) (c d : Configuration) → IsRuleSet rs → Sound rs c → SameButNext c d → IsPermutation (rules_of rs.rules c.equations) (rules_of rs.rules d.equations)
rules_but_next laws rs c d set sound s =
    same_rules laws rs (raised s.more c) (raised s.others d) set (record { over = sound.over; named = raised_names s.more c sound.named }) s.same

-- ---- after name steps that make no equation active

put_rule : (rs : List Rule) (x : ℕ) (t : Tree) (p : Pair) (found : Option Active) → active_pair rs p ≡ found → StaysInert rs x t p → rule_of rs (subst_pair x t p) ≡ rule_of rs p
put_rule rs x t p None is inert = unruled rs (subst_pair x t p) (inert is) ∙ sym (unruled rs p is)
put_rule rs x t p (Some a) is inert = ruled rs (subst_pair x t p) (put_active x t a) (active_put rs x t p a is) ∙ sym (ruled rs p a is)

put_rules : (rs : List Rule) (x : ℕ) (t : Tree) (es : List Pair) → AllByRecursion (StaysInert rs x t) es → rules_of rs (map (subst_pair x t) es) ≡ rules_of rs es
put_rules rs x t [] inert = refl
put_rules rs x t (p ∷ es) inert =
    let here = put_rule rs x t p (active_pair rs p) refl inert.0 in
    let rest = put_rules rs x t es inert.1 in
    λ i. here i ++ rest i

pub rules-append : (rs : List Rule) (es fs : List Pair) → rules_of rs (es ++ fs) ≡ rules_of rs es ++ rules_of rs fs
rules-append rs es fs = flat_map-append (rule_of rs) es fs

others_rules : (rs : List Rule) (before : List Pair) (p : Pair) (after : List Pair) → active_pair rs p ≡ None → rules_of rs (before ++ p ∷ after) ≡ rules_of rs (before ++ after)
others_rules rs before p after none =
    rules-append rs before (p ∷ after) ∙ (ap (λ l. rules_of rs before ++ (l ++ rules_of rs after)) (unruled rs p none) ∙ sym (rules-append rs before after))

step_rules : (rs : List Rule) (c d : Configuration) → (s : NameStep c d) → how_many rs d.equations ≡ how_many rs c.equations → rules_of rs d.equations ≡ rules_of rs c.equations
step_rules rs c d s same =
    let x = s.bound.name in
    let t = s.bound.term in
    let inert = stay_inert rs x t (s.before ++ s.after) (sym (many_after rs c d s) ∙ (same ∙ many_before rs c d s)) in
    ap (λ (e : Configuration). rules_of rs e.equations) s.result
    ∙ (put_rules rs x t (s.before ++ s.after) inert
    ∙ (sym (others_rules rs s.before s.equation s.after (binding_inert rs s.equation s.bound s.side)) ∙ ap (rules_of rs) (sym s.place)))

pub steps_rules : (rs : List Rule) (c d : Configuration) → NameSteps c d → how_many rs d.equations ≡ how_many rs c.equations → rules_of rs d.equations ≡ rules_of rs c.equations
steps_rules rs c d (no_step x) same = refl
steps_rules rs c d (one_more x y z steps step) same =
    let first = steps_keep rs x y steps in
    let last = step_keeps rs y z step in
    step_rules rs y z step (omega (arith, first, last, same)) ∙ steps_rules rs x y steps (omega (arith, first, last, same))

-- ---- in a generation

moved_rules : (rs : List Rule) (es fs : List Pair) → IsPermutation es fs → IsPermutation (rules_of rs es) (rules_of rs fs)
moved_rules rs = any_order (λ es fs. IsPermutation (rules_of rs es) (rules_of rs fs)) (record {
  same = λ es. IsPermutation-refl (rules_of rs es);
  more = λ p es fs moved. IsPermutation-append_right (rule_of rs p) (rules_of rs es) (rules_of rs fs) moved;
  first_two = λ p q es. behind_too (rule_of rs p) (rule_of rs q) (rules_of rs es);
  in_turn = λ es fs gs one other. IsPermutation-trans (rules_of rs es) (rules_of rs fs) (rules_of rs gs) one other;
})

goes_rules : (rs : List Rule) (rules : List ℕ) (g e : Generation) → Goes rs rules g e → IsPermutation (rules ++ rules_of rs e.now) (rules_of rs g.now)
goes_rules rs rules g e (ended x) = IsPermutation-refl (rules_of rs x.now)
goes_rules rs rules g e (fires rule more x y z s later) =
    let rest = goes_rules rs more y z later in
    let after = transport (λ (l : List Pair). IsPermutation (more ++ rules_of rs z.now) (rules_of rs l)) s.now rest in
    let one = IsPermutation-cons rule (more ++ rules_of rs z.now) (rules_of rs s.later) after in
    let is : rule_of rs s.equation ≡ rule ∷ [] = ruled rs s.equation s.active s.has_rule ∙ ap (λ i. i ∷ []) s.by_rule in
    let before = transport (λ l. IsPermutation (rules_of rs x.now) (l ++ rules_of rs s.later)) is (moved_rules rs x.now (s.equation ∷ s.later) s.given) in
    IsPermutation-trans (rule ∷ (more ++ rules_of rs z.now)) (rule ∷ rules_of rs s.later) (rules_of rs x.now) one
    (IsPermutation-sym (rules_of rs x.now) (rule ∷ rules_of rs s.later) before)
goes_rules rs rules g e (passes more x y z s later) =
    let rest = goes_rules rs more y z later in
    let after = transport (λ (h : Generation). IsPermutation (more ++ rules_of rs z.now) (rules_of rs h.now)) s.result rest in
    let before = transport (λ l. IsPermutation (rules_of rs x.now) (l ++ rules_of rs s.later)) (unruled rs s.equation s.no_rule) (moved_rules rs x.now (s.equation ∷ s.later) s.given) in
    IsPermutation-trans (more ++ rules_of rs z.now) (rules_of rs s.later) (rules_of rs x.now) after (IsPermutation-sym (rules_of rs x.now) (rules_of rs s.later) before)
goes_rules rs rules g e (changes more x y z s later) =
    transport (λ (l : List Pair). IsPermutation (more ++ rules_of rs z.now) (rules_of rs l)) s.now (goes_rules rs more y z later)

inert_rules : (rs : List Rule) (es : List Pair) → list_all (λ p. is_none (active_pair rs p)) es ≡ true → rules_of rs es ≡ []
inert_rules rs [] inert = refl
inert_rules rs (p ∷ es) inert =
    let both = and_parts (is_none (active_pair rs p)) (list_all (λ q. is_none (active_pair rs q)) es) inert in
    let here = unruled rs p (none_is (active_pair rs p) both.0) in
    let rest = inert_rules rs es both.1 in
    λ i. here i ++ rest i
  where
    none_is : (o : Option Active) → is_none o ≡ true → o ≡ None
    none_is None e = refl
    none_is (Some a) e = cc

pub generation_rules : (rs : List Rule) (rules : List ℕ) (g e : Generation) → list_all (λ p. is_none (active_pair rs p)) g.rest ≡ true → Goes rs rules g e → e.now ≡ []
    → IsPermutation rules (rules_of rs (g.now ++ g.rest))
generation_rules rs rules g e inert steps empty =
    let all = goes_rules rs rules g e steps in
    let none = transport (λ (l : List Pair). IsPermutation (rules ++ rules_of rs l) (rules_of rs g.now)) empty all in
    let over = transport (λ l. IsPermutation l (rules_of rs g.now)) (append-nil rules) none in
    let whole = rules-append rs g.now g.rest ∙ (ap (λ l. rules_of rs g.now ++ l) (inert_rules rs g.rest inert) ∙ append-nil (rules_of rs g.now)) in
    transport (IsPermutation rules) (sym whole) over
