-- Lemmas: which fresh names an interaction takes is no matter.
use Rattle.std.proofs.Common.{◌≡◌, ℕ, ◌+◌, ◌≤◌, ◌<◌, List, ◌∷◌, ◌++◌, map, sym, ap, ◌∙◌, arith, subst as transport}
use Rattle.std.proofs.lemmas.Grind.{flat_map-append}
use Rattle.std.proofs.lemmas.List.{map-append}
use Rattle.std.specs.List.{AllByRecursion, flat_map}
use Rattle.ic_term.specs.Tree.{Tree, names, Pair, pair_names}
use Rattle.ic_term.specs.Configuration.{Configuration, configuration_names, names_in, occurrences}
use Rattle.ic_rules.specs.Renaming.{renamed}
use Rattle.ic_rules.specs.Rule.{Rule, rule_names}
use Rattle.ic_settle.specs.lemmas.SubstitutionLaws.{occurrences-append, All-front, All-back}
use Rattle.ic_round.specs.Firing.{Active, count_of}
use Rattle.ic_round.specs.Naming.{HasNames}
use Rattle.ic_round.specs.lemmas.FreshNames.{absent_above}
use Rattle.ic_confluence.specs.Sameness.{renamed_pair, Same, renaming, through}
use Rattle.ic_confluence.specs.lemmas.Actives.{HasRule, count_is}
use Rattle.ic_confluence.specs.lemmas.Counts.{All_from, below_next}
use Rattle.ic_reaching.specs.OneNet.{SameButNext}
use Rattle.ic_reaching.specs.FreshNames.{products_with, AreFresh}
use Rattle.ic_reaching.proofs.Given.{NetLaws}
use Rattle.ic_reaching.proofs.Exchanges.{Apart, Disjoint, exchanged, to_other, stays, Among, first, second, neither, among, there_and_back}
use Rattle.ic_reaching.proofs.Copies.{in_products, copy_never_once, copy_twice, copy_absent, renamed_products, renamed_terms_stay, renamed_pairs_stay, sides_stay}

-- ---- lists of names

pub absent_from : (c : Configuration) → HasNames c → (n : ℕ) → c.next ≤ n → occurrences n (configuration_names c) ≡ 0
absent_from c named n high = absent_above n c.next (configuration_names c) named.below high

-- ---- an equation in front, and what stands in its place

pub in_front : (n : ℕ) (ts : List Tree) (p : Pair) (es : List Pair)
    → occurrences n (names_in ts (p ∷ es)) ≡ occurrences n (flat_map names ts) + (occurrences n (pair_names p) + occurrences n (flat_map pair_names es))
in_front n ts p es =
    let all = occurrences-append n (flat_map names ts) (pair_names p ++ flat_map pair_names es) in
    let more = occurrences-append n (pair_names p) (flat_map pair_names es) in
    omega (arith, all, more)

pub in_two : (n : ℕ) (ts : List Tree) (es fs : List Pair)
    → occurrences n (names_in ts (es ++ fs)) ≡ occurrences n (flat_map names ts) + (occurrences n (flat_map pair_names es) + occurrences n (flat_map pair_names fs))
in_two n ts es fs =
    let all = occurrences-append n (flat_map names ts) (flat_map pair_names (es ++ fs)) in
    let split = ap (occurrences n) (flat_map-append pair_names es fs) in
    let more = occurrences-append n (flat_map pair_names es) (flat_map pair_names fs) in
    omega (arith, all, split, more)

-- a configuration of which the equation p stands in front of these others, and it with the products in its place
abbrev pub fronted : Configuration → Pair → List Pair → Configuration
fronted c p others = record c { equations = p ∷ others }

abbrev pub fired_with : List Rule → Configuration → List Pair → Active → (ℕ → ℕ) → ℕ → Configuration
fired_with rs c others a u next = record { interface = c.interface; equations = products_with rs u a ++ others; next = next }

pub fired_counts : (rs : List Rule) (c : Configuration) (p : Pair) (others : List Pair) (a : Active) (h : HasRule rs p a) (u : ℕ → ℕ) (next n : ℕ)
    → occurrences n (configuration_names (fired_with rs c others a u next)) ≡ occurrences n (configuration_names (fronted c p others)) + occurrences n (map u (rule_names h.rule))
fired_counts rs c p others a h u next n =
    let now = in_two n c.interface (products_with rs u a) others in
    let before = in_front n c.interface p others in
    let own = in_products rs p a h u n in
    omega (arith, now, before, own)

-- ---- one list of fresh names for another that has none in common with it

pub same_elsewhere : (rs : List Rule) (c : Configuration) (p : Pair) (others : List Pair) (a : Active) → HasRule rs p a → (u v : ℕ → ℕ) (next : ℕ)
    → AreFresh (fronted c p others) (count_of rs a.rule) next u → AreFresh (fronted c p others) (count_of rs a.rule) next v → Disjoint (count_of rs a.rule) u v
    → Same (fired_with rs c others a u next) (fired_with rs c others a v next)
same_elsewhere rs c p others a h u v next one other disjoint = renaming (fired_with rs c others a u next) (fired_with rs c others a v next) (record {
  to = f;
  from = f;
  there_and_back = back;
  back_and_there = back;
  free = λ n once. free n once (among u v m n);
  fresh = λ n high. stays u v m n
      (λ k low same. let less = one.below k low in omega (arith, less, same, high))
      (λ k low same. let less = other.below k low in omega (arith, less, same, high));
  result = sym (λ i. record { interface = terms i; equations = equations i; next = next });
})
  where
    m : ℕ
    m = count_of rs a.rule

    f : ℕ → ℕ
    f = exchanged u v m

    back : (n : ℕ) → f (f n) ≡ n
    back = there_and_back u v m one.apart other.apart disjoint

    count : m ≡ h.rule.names
    count = count_is rs p a h

    counts : (n : ℕ) → occurrences n (configuration_names (fired_with rs c others a u next)) ≡ occurrences n (configuration_names (fronted c p others)) + occurrences n (map u (rule_names h.rule))
    counts = fired_counts rs c p others a h u next

    apart : Apart h.rule.names u
    apart j k low less same = one.apart j k (omega (arith, low, count)) (omega (arith, less, count)) same

    free : (n : ℕ) → occurrences n (configuration_names (fired_with rs c others a u next)) ≡ 1 → Among u v m n → f n ≡ n
    free n once (neither none also) = stays u v m n none also
    free n once (first k low is) =
        let P : ℕ → Type 0 = λ z. occurrences z (configuration_names (fired_with rs c others a u next)) ≡ 1 in
        let here = transport P (sym is) once in
        let all = counts (u k) in
        let none = one.absent k low in
        absurd (copy_never_once h.rule h.is_rule u k apart (omega (arith, low, count)) (omega (arith, here, all, none)))
    free n once (second k low is) =
        let P : ℕ → Type 0 = λ z. occurrences z (configuration_names (fired_with rs c others a u next)) ≡ 1 in
        let here = transport P (sym is) once in
        let all = counts (v k) in
        let none = other.absent k low in
        let nowhere = copy_absent h.rule h.is_rule u (v k) (λ j less same. disjoint j k (omega (arith, less, count)) low same) in
        absurd (omega (arith, here, all, none, nowhere))

    kept : AllByRecursion (λ n. f n ≡ n) (configuration_names (fronted c p others))
    kept = All_from (λ n. f n ≡ n) (configuration_names (fronted c p others)) (λ n some. stays u v m n
        (λ k low same. let none = one.absent k low in let equal = ap (λ z. occurrences z (configuration_names (fronted c p others))) same in omega (arith, none, equal, some))
        (λ k low same. let none = other.absent k low in let equal = ap (λ z. occurrences z (configuration_names (fronted c p others))) same in omega (arith, none, equal, some)))

    terms : map (renamed f) c.interface ≡ c.interface
    terms = renamed_terms_stay f c.interface (All-front (λ n. f n ≡ n) (flat_map names c.interface) (pair_names p ++ flat_map pair_names others) kept)

    rest : AllByRecursion (λ n. f n ≡ n) (pair_names p ++ flat_map pair_names others)
    rest = All-back (λ n. f n ≡ n) (flat_map names c.interface) (pair_names p ++ flat_map pair_names others) kept

    sides : (renamed f a.left ≡ a.left) × (renamed f a.right ≡ a.right)
    sides = sides_stay f p a h.sides (All-front (λ n. f n ≡ n) (pair_names p) (flat_map pair_names others) rest)

    equations : map (renamed_pair f) (products_with rs u a ++ others) ≡ products_with rs v a ++ others
    equations =
        let split = map-append (renamed_pair f) (products_with rs u a) others in
        let front = renamed_products rs p a h u v f sides.0 sides.1 (λ k low. to_other u v m k one.apart (omega (arith, low, count))) in
        let after = renamed_pairs_stay f others (All-back (λ n. f n ≡ n) (pair_names p) (flat_map pair_names others) rest) in
        split ∙ (λ i. front i ++ after i)

-- ---- any two lists of fresh names: both for one that is far from both

higher_fresh : (c : Configuration) (count bound higher : ℕ) (u : ℕ → ℕ) → bound ≤ higher → AreFresh c count bound u → AreFresh c count higher u
higher_fresh c count bound higher u high fresh = record {
  absent = fresh.absent;
  apart = fresh.apart;
  below = λ k low. let less = fresh.below k low in omega (arith, less, high);
}

pub far_fresh : (c : Configuration) (count from : ℕ) → HasNames c → c.next ≤ from → AreFresh c count (from + count) (λ k. from + k)
far_fresh c count from named high = record {
  absent = λ k low. absent_from c named (from + k) (omega (arith, high));
  apart = λ j k low less same. omega (arith, same);
  below = λ k low. omega (arith, low);
}

pub any_fresh : NetLaws → (rs : List Rule) (c : Configuration) (p : Pair) (others : List Pair) (a : Active) → HasRule rs p a → HasNames (fronted c p others)
    → (u v : ℕ → ℕ) (next later : ℕ) → AreFresh (fronted c p others) (count_of rs a.rule) next u → AreFresh (fronted c p others) (count_of rs a.rule) later v
    → SameButNext (fired_with rs c others a u next) (fired_with rs c others a v later)
any_fresh laws rs c p others a h named u v next later one other =
    let m = count_of rs a.rule in
    let from = c.next + (next + later) in
    let top = from + m in
    let far = far_fresh (fronted c p others) m from named (omega arith) in
    let left = same_elsewhere rs c p others a h u (λ k. from + k) top (higher_fresh (fronted c p others) m next top u (omega arith) one) far
    (λ j k low less same. let below = one.below j low in omega (arith, below, same)) in
    let right = same_elsewhere rs c p others a h v (λ k. from + k) top (higher_fresh (fronted c p others) m later top v (omega arith) other) far
    (λ j k low less same. let below = other.below j low in omega (arith, below, same)) in
    let both = through (fired_with rs c others a u top) (fired_with rs c others a (λ k. from + k) top) (fired_with rs c others a v top)
    left (laws.other_way (fired_with rs c others a v top) (fired_with rs c others a (λ k. from + k) top) right) in
    let P : ℕ → Type 0 = λ z. Same (fired_with rs c others a u z) (fired_with rs c others a v top) in
    let Q : ℕ → Type 0 = λ z. Same (fired_with rs c others a u (next + (c.next + later + m))) (fired_with rs c others a v z) in
    let sum_one : top ≡ next + (c.next + later + m) = omega arith in
    let sum_other : top ≡ later + (c.next + next + m) = omega arith in
    record { more = c.next + later + m; others = c.next + next + m; same = transport Q sum_other (transport P sum_one both) }

-- names stay few, and below
pub fired_names : (rs : List Rule) (c : Configuration) (p : Pair) (others : List Pair) (a : Active) → HasRule rs p a → HasNames (fronted c p others)
    → (u : ℕ → ℕ) (next : ℕ) → c.next ≤ next → AreFresh (fronted c p others) (count_of rs a.rule) next u → HasNames (fired_with rs c others a u next)
fired_names rs c p others a h named u next high fresh = record {
  below = All_from (λ n. n < next) (configuration_names (fired_with rs c others a u next)) (λ n some. low n some (among u u m n));
  twice = λ n. few n (among u u m n);
}
  where
    m : ℕ
    m = count_of rs a.rule

    count : m ≡ h.rule.names
    count = count_is rs p a h

    counts : (n : ℕ) → occurrences n (configuration_names (fired_with rs c others a u next)) ≡ occurrences n (configuration_names (fronted c p others)) + occurrences n (map u (rule_names h.rule))
    counts = fired_counts rs c p others a h u next

    apart : Apart h.rule.names u
    apart j k less lower same = fresh.apart j k (omega (arith, less, count)) (omega (arith, lower, count)) same

    old : (n : ℕ) → ((k : ℕ) → k < m → u k ≡ n → ⊥) → occurrences n (configuration_names (fired_with rs c others a u next)) ≡ occurrences n (configuration_names (fronted c p others))
    old n none =
        let all = counts n in
        let nowhere = copy_absent h.rule h.is_rule u n (λ k less same. none k (omega (arith, less, count)) same) in
        omega (arith, all, nowhere)

    low : (n : ℕ) → 1 ≤ occurrences n (configuration_names (fired_with rs c others a u next)) → Among u u m n → n < next
    low n some (first k less is) = let below = fresh.below k less in omega (arith, below, is)
    low n some (second k less is) = let below = fresh.below k less in omega (arith, below, is)
    low n some (neither none also) =
        let same = old n none in
        let below = below_next (fronted c p others) named n (omega (arith, same, some)) in
        omega (arith, below, high)

    new : (n k : ℕ) → k < m → u k ≡ n → occurrences n (configuration_names (fired_with rs c others a u next)) ≤ 2
    new n k less is =
        let P : ℕ → Type 0 = λ z. occurrences z (configuration_names (fired_with rs c others a u next)) ≤ 2 in
        let all = counts (u k) in
        let none = fresh.absent k less in
        let twice = copy_twice h.rule h.is_rule u k apart (omega (arith, less, count)) in
        transport P is (omega (arith, all, none, twice))

    few : (n : ℕ) → Among u u m n → occurrences n (configuration_names (fired_with rs c others a u next)) ≤ 2
    few n (first k less is) = new n k less is
    few n (second k less is) = new n k less is
    few n (neither none also) = let same = old n none in let two = named.twice n in omega (arith, same, two)
