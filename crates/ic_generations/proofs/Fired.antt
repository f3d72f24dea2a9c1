-- Lemmas: some equations fired among others: how often names occur, and which other fresh names make the same net.
use Rattle.std.proofs.Common.{◌≡◌, ◌⊎◌, ℕ, ◌+◌, ◌≤◌, ◌<◌, List, [], ◌∷◌, ◌++◌, true, Option, None, Some, map, refl, sym, ap, ◌∙◌, arith, inl, inr}
use Rattle.std.proofs.lemmas.Bool.{cases_lt, and_parts}
use Rattle.std.proofs.lemmas.List.{map-append}
use Rattle.std.specs.List.{flat_map, list_all}
use Rattle.std.specs.Option.{option_map_or}
use Rattle.ic_term.specs.Tree.{Tree, names, Pair, pair_names}
use Rattle.ic_term.specs.Configuration.{Configuration, configuration_names, occurrences}
use Rattle.ic_term.specs.Symbol.{is_pair_over}
use Rattle.ic_rules.specs.Rule.{Rule}
use Rattle.ic_rules.specs.RuleSet.{Rules, IsRuleSet}
use Rattle.ic_round.specs.Firing.{Active, active_pair, products_by, count_of, names_taken, fired_pair, fired_from, next_after}
use Rattle.ic_round.specs.Naming.{HasNames}
use Rattle.ic_round.specs.lemmas.FreshNames.{absent_above}
use Rattle.ic_confluence.specs.Sameness.{renamed_pair, renamed_in}
use Rattle.ic_confluence.specs.lemmas.Actives.{has_rule, older_products, later_products, fresh_products, renamed_active, renamed_products, active_renamed}
use Rattle.ic_confluence.specs.lemmas.Counts.{in_configuration, in_more}
use Rattle.ic_confluence.specs.lemmas.Replacing.{in_both}
use Rattle.ic_reaching.specs.OneNet.{SameButNext}
use Rattle.ic_generations.proofs.Renamed.{Stay, pair_stays, renamed_net}

-- ---- how often names occur in what has fired

abbrev pub count_in : ℕ → List Pair → ℕ
count_in n es = occurrences n (flat_map pair_names es)

abbrev AreOver : Rules → List Pair → Type 0
AreOver rs es = list_all (is_pair_over rs.symbols) es ≡ true

alone : (n : ℕ) (p : Pair) → count_in n (p ∷ []) ≡ occurrences n (pair_names p)
alone n p = let more = in_more n p [] in let nothing : count_in n [] ≡ 0 = refl in omega (arith, more, nothing)

-- of one equation, by what was found of it
found_older : (rs : Rules) (base n : ℕ) (p : Pair) (found : Option Active) → IsRuleSet rs → is_pair_over rs.symbols p ≡ true → active_pair rs.rules p ≡ found → n < base
    → count_in n (option_map_or (products_by rs.rules base) found (p ∷ [])) ≡ occurrences n (pair_names p)
found_older rs base n p None set over is low = alone n p
found_older rs base n p (Some a) set over is low = older_products rs.rules p a (has_rule rs p a set over is) base n low

found_later : (rs : Rules) (base n : ℕ) (p : Pair) (found : Option Active) → IsRuleSet rs → is_pair_over rs.symbols p ≡ true → active_pair rs.rules p ≡ found
    → base + option_map_or (λ a. count_of rs.rules a.rule) found 0 ≤ n
    → count_in n (option_map_or (products_by rs.rules base) found (p ∷ [])) ≡ occurrences n (pair_names p)
found_later rs base n p None set over is high = alone n p
found_later rs base n p (Some a) set over is high = later_products rs.rules p a (has_rule rs p a set over is) base n high

found_once : (rs : Rules) (base n : ℕ) (p : Pair) (found : Option Active) → IsRuleSet rs → is_pair_over rs.symbols p ≡ true → active_pair rs.rules p ≡ found → base ≤ n
    → occurrences n (pair_names p) ≡ 0 → count_in n (option_map_or (products_by rs.rules base) found (p ∷ [])) ≡ 1 → ⊥
found_once rs base n p None set over is high none once = let own = alone n p in omega (arith, own, none, once)
found_once rs base n p (Some a) set over is high none once = fresh_products rs.rules p a (has_rule rs p a set over is) base n high none once

-- of all: a name below the base as often as before
pub fired_older : (rs : Rules) (base n : ℕ) (ps : List Pair) → IsRuleSet rs → AreOver rs ps → n < base → count_in n (fired_from rs.rules base ps) ≡ count_in n ps
fired_older rs base n [] set over low = refl
fired_older rs base n (p ∷ ps) set over low =
    let both = and_parts (is_pair_over rs.symbols p) (list_all (is_pair_over rs.symbols) ps) over in
    let later = base + names_taken rs.rules p in
    let here = found_older rs base n p (active_pair rs.rules p) set both.0 refl low in
    let rest = fired_older rs later n ps set both.1 (omega (arith, low)) in
    let parts = in_both n (fired_pair rs.rules base p) (fired_from rs.rules later ps) in
    let whole = in_more n p ps in
    omega (arith, here, rest, parts, whole)

-- and a fresh one never once
once_or_later : (rs : Rules) (base n : ℕ) (p : Pair) (ps : List Pair) → IsRuleSet rs → AreOver rs (p ∷ ps) → base ≤ n → count_in n (p ∷ ps) ≡ 0 → count_in n (fired_from rs.rules base (p ∷ ps)) ≡ 1
    → (base + names_taken rs.rules p ≤ n → count_in n ps ≡ 0 → count_in n (fired_from rs.rules (base + names_taken rs.rules p) ps) ≡ 1 → ⊥) → ⊥
once_or_later rs base n p ps set over high none once again =
    let both = and_parts (is_pair_over rs.symbols p) (list_all (is_pair_over rs.symbols) ps) over in
    let whole = in_more n p ps in
    let later = base + names_taken rs.rules p in
    let parts = in_both n (fired_pair rs.rules base p) (fired_from rs.rules later ps) in
    elim (cases_lt n later) [
      | inl low ↦
          let rest = fired_older rs later n ps set both.1 low in
          found_once rs base n p (active_pair rs.rules p) set both.0 refl high (omega (arith, whole, none)) (omega (arith, parts, rest, whole, none, once))
      | inr more ↦
          let here = found_later rs base n p (active_pair rs.rules p) set both.0 refl more in
          again more (omega (arith, whole, none)) (omega (arith, parts, here, whole, none, once))
    ]

pub fired_once : (rs : Rules) (base n : ℕ) (ps : List Pair) → IsRuleSet rs → AreOver rs ps → base ≤ n → count_in n ps ≡ 0 → count_in n (fired_from rs.rules base ps) ≡ 1 → ⊥
fired_once rs base n [] set over high none once = let nothing : count_in n [] ≡ 0 = refl in omega (arith, once, nothing)
fired_once rs base n (p ∷ ps) set over high none once =
    once_or_later rs base n p ps set over high none once
    (λ more zero one. fired_once rs (base + names_taken rs.rules p) n ps set (and_parts (is_pair_over rs.symbols p) (list_all (is_pair_over rs.symbols) ps) over).1 more zero one)

-- ---- what has fired with its names turned into others

same_Some : {X : Type 0} (x y : X) → Some x ≡ Some y → x ≡ y
same_Some x y e = cc

pub active_stays : (rs : List Rule) (p : Pair) (a : Active) (f : ℕ → ℕ) → active_pair rs p ≡ Some a → Stay f (pair_names p) → renamed_active f a ≡ a
active_stays rs p a f is stay =
    same_Some (renamed_active f a) a (sym (active_renamed rs f p a is) ∙ (ap (active_pair rs) (pair_stays f p stay) ∙ is))

renamed_found : (rs : Rules) (m n : ℕ) (p : Pair) (f : ℕ → ℕ) (found : Option Active) → IsRuleSet rs → is_pair_over rs.symbols p ≡ true → active_pair rs.rules p ≡ found
    → Stay f (pair_names p) → ((j : ℕ) → f (m + j) ≡ n + j)
    → map (renamed_pair f) (option_map_or (products_by rs.rules m) found (p ∷ [])) ≡ option_map_or (products_by rs.rules n) found (p ∷ [])
renamed_found rs m n p f None set over is stay moves = ap (λ q. q ∷ []) (pair_stays f p stay)
renamed_found rs m n p f (Some a) set over is stay moves =
    renamed_products rs.rules p a (has_rule rs p a set over is) m n f (λ k low. moves k) ∙ ap (products_by rs.rules n) (active_stays rs.rules p a f is stay)

pub renamed_fired : (rs : Rules) (m n : ℕ) (ps : List Pair) (f : ℕ → ℕ) → IsRuleSet rs → AreOver rs ps → Stay f (flat_map pair_names ps) → ((j : ℕ) → f (m + j) ≡ n + j)
    → map (renamed_pair f) (fired_from rs.rules m ps) ≡ fired_from rs.rules n ps
renamed_fired rs m n [] f set over stay moves = refl
renamed_fired rs m n (p ∷ ps) f set over stay moves =
    let both = and_parts (is_pair_over rs.symbols p) (list_all (is_pair_over rs.symbols) ps) over in
    let k = names_taken rs.rules p in
    let here = renamed_found rs m n p f (active_pair rs.rules p) set both.0 refl (λ i some. stay i (let split = in_more i p ps in omega (arith, split, some))) moves in
    let rest = renamed_fired rs (m + k) (n + k) ps f set both.1 (λ i some. stay i (let split = in_more i p ps in omega (arith, split, some)))
    (λ j. let one : m + k + j ≡ m + (k + j) = omega arith in let other : n + (k + j) ≡ n + k + j = omega arith in ap f one ∙ (moves (k + j) ∙ other)) in
    map-append (renamed_pair f) (fired_pair rs.rules m p) (fired_from rs.rules (m + k) ps) ∙ (λ i. here i ++ rest i)

-- ---- some equations fired, with the rest as it stands

abbrev pub made_of : List Tree → List Pair → List Pair → ℕ → Configuration
made_of ts now rest next = record { interface = ts; equations = now ++ rest; next = next }

abbrev pub fired_among : List Rule → List Tree → List Pair → List Pair → ℕ → Configuration
fired_among rs ts now rest next = record { interface = ts; equations = fired_from rs next now ++ rest; next = next_after rs next now }

pub in_whole : (n : ℕ) (ts : List Tree) (now rest : List Pair) (next : ℕ)
    → occurrences n (configuration_names (made_of ts now rest next)) ≡ occurrences n (flat_map names ts) + (count_in n now + count_in n rest)
in_whole n ts now rest next =
    let all = in_configuration n ts (now ++ rest) in
    let both = in_both n now rest in
    omega (arith, all, both)

-- Fresh names turned into others that don't occur, no two into one.
pub record Moves (ts : List Tree) (now rest : List Pair) (next : ℕ) (g : ℕ → ℕ) : Type 0 where
  pub low : (n : ℕ) → n < next → g n ≡ n
  pub apart : (m n : ℕ) → next ≤ m → next ≤ n → g m ≡ g n → m ≡ n
  pub absent : (m n : ℕ) → 1 ≤ occurrences m (configuration_names (made_of ts now rest next)) → next ≤ n → m ≡ g n → ⊥

pub moved_net : (rs : Rules) (ts : List Tree) (now rest : List Pair) (next top : ℕ) (g : ℕ → ℕ) → IsRuleSet rs → AreOver rs now → HasNames (made_of ts now rest next) → Moves ts now rest next g
    → SameButNext (fired_among rs.rules ts now rest next) (record (renamed_in g (fired_among rs.rules ts now rest next)) { next = top })
moved_net rs ts now rest next top g set over named moves = renamed_net end g top (λ m n one other same. by m n one other same (cases_lt m next) (cases_lt n next)) (λ n once. free n once (cases_lt n next))
  where
    end : Configuration
    end = fired_among rs.rules ts now rest next

    given : Configuration
    given = made_of ts now rest next

    counts : (n : ℕ) → occurrences n (configuration_names end) ≡ occurrences n (flat_map names ts) + (count_in n (fired_from rs.rules next now) + count_in n rest)
    counts n = in_whole n ts (fired_from rs.rules next now) rest (next_after rs.rules next now)

    older : (n : ℕ) → n < next → 1 ≤ occurrences n (configuration_names end) → 1 ≤ occurrences n (configuration_names given)
    older n low some =
        let after = counts n in
        let before = in_whole n ts now rest next in
        let same = fired_older rs next n now set over low in
        omega (arith, after, before, same, some)

    by : (m n : ℕ) → 1 ≤ occurrences m (configuration_names end) → 1 ≤ occurrences n (configuration_names end) → g m ≡ g n → (m < next) ⊎ (next ≤ m) → (n < next) ⊎ (next ≤ n) → m ≡ n
    by m n one other same (inl low) (inl less) = sym (moves.low m low) ∙ (same ∙ moves.low n less)
    by m n one other same (inl low) (inr more) = absurd (moves.absent m n (older m low one) more (sym (moves.low m low) ∙ same))
    by m n one other same (inr high) (inl less) = absurd (moves.absent n m (older n less other) high (sym (moves.low n less) ∙ sym same))
    by m n one other same (inr high) (inr more) = moves.apart m n high more same

    free : (n : ℕ) → occurrences n (configuration_names end) ≡ 1 → (n < next) ⊎ (next ≤ n) → g n ≡ n
    free n once (inl low) = moves.low n low
    free n once (inr high) =
        let after = counts n in
        let before = in_whole n ts now rest next in
        let none = absent_above n next (configuration_names given) named.below high in
        absurd (fired_once rs next n now set over high (omega (arith, before, none)) (omega (arith, after, before, none, once)))
