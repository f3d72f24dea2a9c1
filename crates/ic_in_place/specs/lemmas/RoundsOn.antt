-- Lemmas: rounds that go on from the net of other rounds, and which rules fire in all of them.
use Rattle.std.proofs.Common.{◌≡◌, ℕ, zero, suc, ◌+◌, ◌<◌, List, [], ◌∷◌, ◌++◌, Option, None, Some, length, refl, sym, ap, ◌∙◌, append_assoc, append-nil, arith, subst}
use Rattle.std.specs.List.{AllByRecursion}
use Rattle.std.specs.Option.{option_map, option_map_or, option_to_list}
use Rattle.std.specs.Prelude.{IsPermutation}
use Rattle.std.proofs.lemmas.List.Sorted.{IsPermutation-refl, IsPermutation-sym, IsPermutation-append}
use Rattle.ic_term.specs.Tree.{Pair}
use Rattle.ic_term.specs.Configuration.{Configuration, configuration_names}
use Rattle.ic_rules.specs.Rule.{Rule}
use Rattle.ic_round.specs.ActivePlaces.{active_from}
use Rattle.ic_round.specs.Firing.{Active, active_pair}
use Rattle.ic_round.specs.Naming.{HasNames}
use Rattle.ic_round.specs.Rounds.{iterate, round}
use Rattle.ic_generations.specs.Firings.{rules_of}
use Rattle.ic_reaching.specs.OneNet.{raised}
use Rattle.ic_in_place.specs.Counting.{rules_in}

-- rounds, and then more of them
pub rounds_on : (rs : List Rule) (m n : ℕ) (c : Configuration) → iterate rs (m + n) c ≡ iterate rs m (iterate rs n c)
rounds_on rs zero n c = let same : 0 + n ≡ n = omega arith in ap (λ (k : ℕ). iterate rs k c) same
rounds_on rs (suc m) n c = let same : suc m + n ≡ suc (m + n) = omega arith in ap (λ (k : ℕ). iterate rs k c) same ∙ ap (round rs) (rounds_on rs m n c)

-- the first round, and then the others
pub round_first : (rs : List Rule) (k : ℕ) (c : Configuration) → iterate rs k (round rs c) ≡ iterate rs (suc k) c
round_first rs zero c = refl
round_first rs (suc k) c = ap (round rs) (round_first rs k c)

-- by which rules they fire
pub rules_first : (rs : List Rule) (n : ℕ) (c : Configuration) → rules_in rs (suc n) c ≡ rules_of rs c.equations ++ rules_in rs n (round rs c)
rules_first rs zero c = sym (append-nil (rules_of rs c.equations))
rules_first rs (suc n) c =
    let last : rules_of rs (iterate rs (suc n) c).equations ≡ rules_of rs (iterate rs n (round rs c)).equations =
    ap (λ (d : Configuration). rules_of rs d.equations) (sym (round_first rs n c)) in
    ap (λ (l : List ℕ). l ++ rules_of rs (iterate rs (suc n) c).equations) (rules_first rs n c)
    ∙ (append_assoc (rules_of rs c.equations) (rules_in rs n (round rs c)) (rules_of rs (iterate rs (suc n) c).equations)
    ∙ ap (λ (l : List ℕ). rules_of rs c.equations ++ (rules_in rs n (round rs c) ++ l)) last)

-- What fires in rounds, and then in those of another configuration, which fire by the same rules as the later ones.
pub rules_after : (rs : List Rule) (over : ℕ) (c d : Configuration)
    → ((n : ℕ) → IsPermutation (rules_of rs (iterate rs (n + over) c).equations) (rules_of rs (iterate rs n d).equations)) → (n : ℕ)
    → IsPermutation (rules_in rs over c ++ rules_in rs n d) (rules_in rs (n + over) c)
rules_after rs over c d same zero =
    let none : over ≡ 0 + over = omega arith in
    subst (λ (k : ℕ). IsPermutation (rules_in rs over c ++ []) (rules_in rs k c)) none
    (subst (λ (l : List ℕ). IsPermutation l (rules_in rs over c)) (sym (append-nil (rules_in rs over c))) (IsPermutation-refl (rules_in rs over c)))
rules_after rs over c d same (suc n) =
    let front = rules_in rs over c in
    let more = rules_in rs n d in
    let last = rules_of rs (iterate rs n d).equations in
    let there = rules_of rs (iterate rs (n + over) c).equations in
    let next : suc (n + over) ≡ suc n + over = omega arith in
    let all = IsPermutation-append (front ++ more) (rules_in rs (n + over) c) last there (rules_after rs over c d same n) (IsPermutation-sym there last (same n)) in
    subst (λ (k : ℕ). IsPermutation (front ++ (more ++ last)) (rules_in rs k c)) next
    (subst (λ (l : List ℕ). IsPermutation l (rules_in rs (suc (n + over)) c)) (append_assoc front more last) all)

-- as many rules fire as equations are active
pub rules_active : (rs : List Rule) (i : ℕ) (es : List Pair) → length (rules_of rs es) ≡ length (active_from rs i es)
rules_active rs i [] = refl
rules_active rs i (p ∷ es) = at (active_pair rs p) (rules_active rs (i + 1) es)
  where
    at : (o : Option Active) → length (rules_of rs es) ≡ length (active_from rs (i + 1) es)
        → length (option_to_list (option_map (λ a. a.rule) o) ++ rules_of rs es)
        ≡ length (option_map_or (λ a. i ∷ active_from rs (i + 1) es) o (active_from rs (i + 1) es))
    at None rest = rest
    at (Some a) rest = omega (arith, rest)

-- names stay below a number that is raised
still_below : (next more : ℕ) (ns : List ℕ) → AllByRecursion (λ n. n < next) ns → AllByRecursion (λ n. n < next + more) ns
still_below next more [] all = all
still_below next more (n ∷ ns) all = (let low = all.0 in omega (arith, low), still_below next more ns all.1)

pub raised_names : (more : ℕ) (c : Configuration) → HasNames c → HasNames (raised more c)
raised_names more c named = record { below = still_below c.next more (configuration_names c) named.below; twice = named.twice }
