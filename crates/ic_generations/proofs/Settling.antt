-- Lemmas: name steps that make no equation active may be taken before the active equations fire or after.
use Rattle.std.proofs.Common.{◌≡◌, ◌⊎◌, ℕ, ◌+◌, ◌≤◌, ◌<◌, List, [], ◌∷◌, ◌++◌, Bool, true, false, cond, Option, None, Some, is_some, length, map, refl, sym, ap, ◌∙◌, arith, inl, inr}
use Rattle.std.proofs.lemmas.Bool.{cases_Bool, and_parts}
use Rattle.std.proofs.lemmas.List.{map-append}
use Rattle.std.proofs.lemmas.List.Folds.{list_all-append}
use Rattle.std.specs.Prelude.{filter}
use Rattle.std.specs.List.{AllByRecursion, list_all}
use Rattle.std.specs.Option.{option_map_or}
use Rattle.ic_term.specs.Tree.{Tree, name, agent, Pair}
use Rattle.ic_term.specs.Configuration.{Configuration, names_in, occurrences}
use Rattle.ic_term.specs.Symbol.{is_pair_over}
use Rattle.ic_rules.specs.Rule.{Rule}
use Rattle.ic_rules.specs.RuleSet.{Rules, IsRuleSet}
use Rattle.ic_settle.specs.Settling.{Binding, Binds, occurs, subst, subst_pair}
use Rattle.ic_settle.specs.NameSteps.{NameStep, NameSteps, no_step, one_more}
use Rattle.ic_settle.specs.lemmas.SubstitutionLaws.{occurrences_none, occurrences_some}
use Rattle.ic_round.specs.Firing.{Active, active_pair, products_by, count_of, names_taken, fired_pair, fired_from, next_after, fired}
use Rattle.ic_round.specs.Steps.{no_steps, then_step}
use Rattle.ic_round.specs.lemmas.ChainLemmas.{steps-over, steps-names}
use Rattle.ic_round.specs.lemmas.NameStepLemmas.{name_step}
use Rattle.ic_confluence.specs.lemmas.Actives.{has_rule, put_products, active_put}
use Rattle.ic_confluence.specs.lemmas.Counts.{in_configuration, in_more, below_next}
use Rattle.ic_confluence.specs.lemmas.Replacing.{in_both}
use Rattle.ic_generations.proofs.Given.{Sound}
use Rattle.ic_generations.proofs.Fired.{count_in, fired_older}
use Rattle.ic_generations.proofs.InTurn.{fired-append, after-append}
use Rattle.ic_generations.proofs.Anywhere.{equations_over}

-- ---- how many equations are active

abbrev pub how_many : List Rule → List Pair → ℕ
how_many rs es = length (filter (λ p. is_some (active_pair rs p)) es)

one_or_none : (x : Pair) (rest : List Pair) (b : Bool) → length (cond b (x ∷ rest) rest) ≡ cond b 1 0 + length rest
one_or_none x rest true = omega arith
one_or_none x rest false = omega arith

pub many-cons : (rs : List Rule) (p : Pair) (es : List Pair) → how_many rs (p ∷ es) ≡ cond (is_some (active_pair rs p)) 1 0 + how_many rs es
many-cons rs p es = one_or_none p (filter (λ q. is_some (active_pair rs q)) es) (is_some (active_pair rs p))

pub many-append : (rs : List Rule) (es fs : List Pair) → how_many rs (es ++ fs) ≡ how_many rs es + how_many rs fs
many-append rs [] fs = let nothing : how_many rs [] ≡ 0 = refl in omega (arith, nothing)
many-append rs (p ∷ es) fs =
    let here = many-cons rs p (es ++ fs) in
    let own = many-cons rs p es in
    let rest = many-append rs es fs in
    omega (arith, here, own, rest)

-- an equation with a name at a side isn't active
name_right : (rs : List Rule) (t : Tree) (x : ℕ) → active_pair rs (record { left = t; right = name x }) ≡ None
name_right rs (name n) x = refl
name_right rs (agent s ts) x = refl

pub binding_inert : (rs : List Rule) (p : Pair) (b : Binding) → Binds p b → active_pair rs p ≡ None
binding_inert rs p b (inl is) = ap (active_pair rs) is
binding_inert rs p b (inr is) = ap (active_pair rs) is ∙ name_right rs b.term b.name

-- ---- a term put for a name

count_put : (rs : List Rule) (x : ℕ) (t : Tree) (p : Pair) (found : Option Active) → active_pair rs p ≡ found → cond (is_some found) 1 0 ≤ cond (is_some (active_pair rs (subst_pair x t p))) 1 0
count_put rs x t p None is = omega arith
count_put rs x t p (Some a) is = let there : ◌≡◌ {A = ℕ} (cond (is_some (active_pair rs (subst_pair x t p))) 1 0) 1 = rw (active_put rs x t p a is) refl in omega (arith, there)

put_keeps : (rs : List Rule) (x : ℕ) (t : Tree) (es : List Pair) → how_many rs es ≤ how_many rs (map (subst_pair x t) es)
put_keeps rs x t [] = omega arith
put_keeps rs x t (p ∷ es) =
    let before = many-cons rs p es in
    let after = many-cons rs (subst_pair x t p) (map (subst_pair x t) es) in
    let here = count_put rs x t p (active_pair rs p) refl in
    let rest = put_keeps rs x t es in
    omega (arith, before, after, here, rest)

-- an equation that isn't active isn't so after it either
abbrev pub StaysInert : List Rule → ℕ → Tree → Pair → Type 0
StaysInert rs x t p = active_pair rs p ≡ None → active_pair rs (subst_pair x t p) ≡ None

inert_here : (rs : List Rule) (x : ℕ) (t : Tree) (p : Pair) (es : List Pair) → how_many rs (map (subst_pair x t) (p ∷ es)) ≡ how_many rs (p ∷ es)
    → (found : Option Active) → active_pair rs (subst_pair x t p) ≡ found → StaysInert rs x t p
inert_here rs x t p es same None is none = is
inert_here rs x t p es same (Some a) is none =
    let before = many-cons rs p es in
    let after = many-cons rs (subst_pair x t p) (map (subst_pair x t) es) in
    let nothing : ◌≡◌ {A = ℕ} (cond (is_some (active_pair rs p)) 1 0) 0 = rw none refl in
    let one : ◌≡◌ {A = ℕ} (cond (is_some (active_pair rs (subst_pair x t p))) 1 0) 1 = rw is refl in
    let rest = put_keeps rs x t es in
    absurd (omega (arith, before, after, nothing, one, rest, same))

inert_later : (rs : List Rule) (x : ℕ) (t : Tree) (p : Pair) (es : List Pair) → how_many rs (map (subst_pair x t) (p ∷ es)) ≡ how_many rs (p ∷ es)
    → how_many rs (map (subst_pair x t) es) ≡ how_many rs es
inert_later rs x t p es same =
    let before = many-cons rs p es in
    let after = many-cons rs (subst_pair x t p) (map (subst_pair x t) es) in
    let here = count_put rs x t p (active_pair rs p) refl in
    let rest = put_keeps rs x t es in
    omega (arith, before, after, here, rest, same)

pub stay_inert : (rs : List Rule) (x : ℕ) (t : Tree) (es : List Pair) → how_many rs (map (subst_pair x t) es) ≡ how_many rs es → AllByRecursion (StaysInert rs x t) es
stay_inert rs x t [] same = tt
stay_inert rs x t (p ∷ es) same = (inert_here rs x t p es same (active_pair rs (subst_pair x t p)) refl, stay_inert rs x t es (inert_later rs x t p es same))

-- ---- and the active equations fired

put_found : (rs : Rules) (x : ℕ) (t : Tree) (base : ℕ) (p : Pair) (found : Option Active) → IsRuleSet rs → is_pair_over rs.symbols p ≡ true → x < base → active_pair rs.rules p ≡ found → StaysInert rs.rules x t p
    → (fired_pair rs.rules base (subst_pair x t p) ≡ map (subst_pair x t) (fired_pair rs.rules base p)) × (names_taken rs.rules (subst_pair x t p) ≡ names_taken rs.rules p)
put_found rs x t base p None set over low is inert =
    let after = inert is in (
      ap (λ o. option_map_or (products_by rs.rules base) o (subst_pair x t p ∷ [])) after ∙ sym (ap (λ o. map (subst_pair x t) (option_map_or (products_by rs.rules base) o (p ∷ []))) is),
      ap (λ o. option_map_or (λ (a : Active). count_of rs.rules a.rule) o 0) after ∙ sym (ap (λ o. option_map_or (λ (a : Active). count_of rs.rules a.rule) o 0) is),
    )
put_found rs x t base p (Some a) set over low is inert =
    let after = active_put rs.rules x t p a is in
    let products = put_products rs.rules p a (has_rule rs p a set over is) base x t low in (
      ap (λ o. option_map_or (products_by rs.rules base) o (subst_pair x t p ∷ [])) after
          ∙ (sym products ∙ sym (ap (λ o. map (subst_pair x t) (option_map_or (products_by rs.rules base) o (p ∷ []))) is)),
      ap (λ o. option_map_or (λ (b : Active). count_of rs.rules b.rule) o 0) after ∙ sym (ap (λ o. option_map_or (λ (b : Active). count_of rs.rules b.rule) o 0) is),
    )

put_fired : (rs : Rules) (x : ℕ) (t : Tree) (base : ℕ) (es : List Pair) → IsRuleSet rs → list_all (is_pair_over rs.symbols) es ≡ true → x < base → AllByRecursion (StaysInert rs.rules x t) es
    → (fired_from rs.rules base (map (subst_pair x t) es) ≡ map (subst_pair x t) (fired_from rs.rules base es)) × (next_after rs.rules base (map (subst_pair x t) es) ≡ next_after rs.rules base es)
put_fired rs x t base [] set over low inert = (refl, refl)
put_fired rs x t base (p ∷ es) set over low inert =
    let both = and_parts (is_pair_over rs.symbols p) (list_all (is_pair_over rs.symbols) es) over in
    let here = put_found rs x t base p (active_pair rs.rules p) set both.0 low refl inert.0 in
    let later = base + names_taken rs.rules p in
    let rest = put_fired rs x t later es set both.1 (omega (arith, low)) inert.1 in
    let moved = ap (λ k. fired_from rs.rules (base + k) (map (subst_pair x t) es)) here.1 in
    let top = ap (λ k. next_after rs.rules (base + k) (map (subst_pair x t) es)) here.1 in (
      (λ i. here.0 i ++ moved i) ∙ (ap (λ l. map (subst_pair x t) (fired_pair rs.rules base p) ++ l) rest.0 ∙ sym (map-append (subst_pair x t) (fired_pair rs.rules base p) (fired_from rs.rules later es))),
      top ∙ rest.1,
    )

-- ---- one name step

pub there_is : (x : ℕ) (ns : List ℕ) → 1 ≤ occurrences x ns → (occurs x ns ≡ true) ⊎ (occurs x ns ≡ false) → occurs x ns ≡ true
there_is x ns some (inl found) = found
there_is x ns some (inr lost) = let none = occurrences_none x ns lost in absurd (omega (arith, none, some))

others_many : (rs : List Rule) (before : List Pair) (p : Pair) (after : List Pair) → active_pair rs p ≡ None → how_many rs (before ++ p ∷ after) ≡ how_many rs (before ++ after)
others_many rs before p after none =
    let all = many-append rs before (p ∷ after) in
    let own = many-cons rs p after in
    let nothing : ◌≡◌ {A = ℕ} (cond (is_some (active_pair rs p)) 1 0) 0 = rw none refl in
    let others = many-append rs before after in
    omega (arith, all, own, nothing, others)

pub many_before : (rs : List Rule) (c d : Configuration) (s : NameStep c d) → how_many rs c.equations ≡ how_many rs (s.before ++ s.after)
many_before rs c d s = ap (how_many rs) s.place ∙ others_many rs s.before s.equation s.after (binding_inert rs s.equation s.bound s.side)

pub many_after : (rs : List Rule) (c d : Configuration) (s : NameStep c d) → how_many rs d.equations ≡ how_many rs (map (subst_pair s.bound.name s.bound.term) (s.before ++ s.after))
many_after rs c d s = ap (λ (e : Configuration). how_many rs e.equations) s.result

pub step_keeps : (rs : List Rule) (c d : Configuration) → NameStep c d → how_many rs c.equations ≤ how_many rs d.equations
step_keeps rs c d s =
    let before = many_before rs c d s in
    let after = many_after rs c d s in
    let more = put_keeps rs s.bound.name s.bound.term (s.before ++ s.after) in
    omega (arith, before, after, more)

module _ (rs : Rules) (set : IsRuleSet rs) (c d : Configuration) (sound : Sound rs c) (s : NameStep c d) (same : how_many rs.rules d.equations ≡ how_many rs.rules c.equations) where
  abbrev x : ℕ
  x = s.bound.name

  abbrev t : Tree
  t = s.bound.term

  abbrev others : List Pair
  others = s.before ++ s.after

  abbrev front : List Pair
  front = fired_from rs.rules c.next s.before

  abbrev top : ℕ
  top = next_after rs.rules c.next s.before

  abbrev back : List Pair
  back = fired_from rs.rules top s.after

  given_over : list_all (is_pair_over rs.symbols) (s.before ++ s.equation ∷ s.after) ≡ true
  given_over = ap (list_all (is_pair_over rs.symbols)) (sym s.place) ∙ equations_over rs c sound.over

  others_over : list_all (is_pair_over rs.symbols) others ≡ true
  others_over =
      let both = and_parts (list_all (is_pair_over rs.symbols) s.before) (list_all (is_pair_over rs.symbols) (s.equation ∷ s.after)) (sym (list_all-append (is_pair_over rs.symbols) s.before (s.equation ∷ s.after)) ∙ given_over) in
      let rest = and_parts (is_pair_over rs.symbols s.equation) (list_all (is_pair_over rs.symbols) s.after) both.1 in
      list_all-append (is_pair_over rs.symbols) s.before s.after ∙ (rw (both.0, rest.1) refl)

  low : x < c.next
  low =
      let some = occurrences_some x (names_in c.interface others) s.outside in
      let split = in_configuration x c.interface others in
      let both = in_both x s.before s.after in
      let all = in_configuration x c.interface c.equations in
      let place = ap (λ l. count_in x l) s.place in
      let whole = in_both x s.before (s.equation ∷ s.after) in
      let more = in_more x s.equation s.after in
      below_next c sound.named x (omega (arith, some, split, both, all, place, whole, more))

  apart : front ++ back ≡ fired_from rs.rules c.next others
  apart = sym (fired-append rs.rules c.next s.before s.after)

  none : active_pair rs.rules s.equation ≡ None
  none = binding_inert rs.rules s.equation s.bound s.side

  own : fired_pair rs.rules top s.equation ≡ s.equation ∷ []
  own = ap (λ o. option_map_or (products_by rs.rules top) o (s.equation ∷ [])) none

  taken : names_taken rs.rules s.equation ≡ 0
  taken = ap (λ o. option_map_or (λ (a : Active). count_of rs.rules a.rule) o 0) none

  stays : top + names_taken rs.rules s.equation ≡ top
  stays = let k = taken in omega (arith, k)

  place : fired_from rs.rules c.next c.equations ≡ front ++ s.equation ∷ back
  place =
      ap (fired_from rs.rules c.next) s.place
      ∙ (fired-append rs.rules c.next s.before (s.equation ∷ s.after)
      ∙ (λ i. front ++ (own i ++ fired_from rs.rules (stays i) s.after)))

  tops : next_after rs.rules c.next others ≡ next_after rs.rules c.next c.equations
  tops =
      after-append rs.rules c.next s.before s.after
      ∙ (ap (λ n. next_after rs.rules n s.after) (sym stays)
      ∙ (sym (after-append rs.rules c.next s.before (s.equation ∷ s.after)) ∙ ap (next_after rs.rules c.next) (sym s.place)))

  inert : AllByRecursion (StaysInert rs.rules x t) others
  inert = stay_inert rs.rules x t others (sym (many_after rs.rules c d s) ∙ (same ∙ many_before rs.rules c d s))

  pub step_fires : NameStep (fired rs.rules c) (fired rs.rules d)
  step_fires =
      let put = put_fired rs x t c.next others set others_over low inert in
      record {
        before = front;
        equation = s.equation;
        after = back;
        bound = s.bound;
        place = place;
        side = s.side;
        outside = there_is x (names_in c.interface (front ++ back))
            (let some = occurrences_some x (names_in c.interface others) s.outside in
            let split = in_configuration x c.interface others in
            let now = in_configuration x c.interface (front ++ back) in
            let equal = ap (count_in x) apart in
            let older = fired_older rs c.next x others set others_over low in
            omega (arith, some, split, now, equal, older)) (cases_Bool (occurs x (names_in c.interface (front ++ back))));
        result = ap (fired rs.rules) s.result
            ∙ (λ i. record { interface = map (subst x t) c.interface; equations = (put.0 ∙ ap (map (subst_pair x t)) (sym apart)) i; next = (put.1 ∙ tops) i });
      }

-- ---- name steps one after another

pub steps_sound : (rs : Rules) (c d : Configuration) → IsRuleSet rs → Sound rs c → NameSteps c d → Sound rs d
steps_sound rs c d set sound (no_step x) = sound
steps_sound rs c d set sound (one_more x y z steps step) =
    let before = steps_sound rs x y set sound steps in
    let chain = then_step y y z (no_steps y) (name_step rs.rules y z step) in
    record { over = steps-over rs y z set before.over chain; named = steps-names rs y z set before.over before.named chain }

pub steps_keep : (rs : List Rule) (c d : Configuration) → NameSteps c d → how_many rs c.equations ≤ how_many rs d.equations
steps_keep rs c d (no_step x) = omega arith
steps_keep rs c d (one_more x y z steps step) = let first = steps_keep rs x y steps in let last = step_keeps rs y z step in omega (arith, first, last)

pub steps_fire : (rs : Rules) (c d : Configuration) → IsRuleSet rs → Sound rs c → NameSteps c d → how_many rs.rules d.equations ≡ how_many rs.rules c.equations → NameSteps (fired rs.rules c) (fired rs.rules d)
steps_fire rs c d set sound (no_step x) same = no_step (fired rs.rules x)
steps_fire rs c d set sound (one_more x y z steps step) same =
    let first = steps_keep rs.rules x y steps in
    let last = step_keeps rs.rules y z step in
    one_more (fired rs.rules x) (fired rs.rules y) (fired rs.rules z) (steps_fire rs x y set sound steps (omega (arith, first, last, same)))
    (step_fires rs set y z (steps_sound rs x y set sound steps) step (omega (arith, first, last, same)))

pub joined : (c d e : Configuration) → NameSteps c d → NameSteps d e → NameSteps c e
joined c d e first (no_step x) = first
joined c d e first (one_more x y z steps step) = one_more c y z (joined c x y first steps) step
