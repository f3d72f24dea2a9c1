-- Lemmas: equations that don't fire in a round are the same net as their sides in the interface. So the order of those that do is no matter.
use Rattle.std.proofs.Common.{◌≡◌, ℕ, ◌+◌, List, [], ◌∷◌, ◌++◌, true, map, refl, sym, ap, ◌∙◌, append-nil, arith, subst as transport}
use Rattle.std.proofs.lemmas.Bool.{and_parts}
use Rattle.std.proofs.lemmas.List.Sorted.{IsPermutation-middle}
use Rattle.std.specs.Prelude.{IsPermutation}
use Rattle.std.specs.List.{flat_map, list_all}
use Rattle.ic_term.specs.Tree.{Tree, names, Pair}
use Rattle.ic_term.specs.Configuration.{Configuration, configuration_names, names_in, occurrences}
use Rattle.ic_term.specs.Symbol.{Symbol, is_tree_over, is_pair_over}
use Rattle.ic_rules.specs.Renaming.{renamed}
use Rattle.ic_rules.specs.RuleSet.{Rules, IsRuleSet}
use Rattle.ic_settle.specs.lemmas.SubstitutionLaws.{occurrences-append, and_both}
use Rattle.ic_round.specs.Firing.{fired_from, next_after}
use Rattle.ic_round.specs.Naming.{HasNames}
use Rattle.ic_confluence.specs.Sameness.{itself, Rearranged, kept, renamed_pair, renamed_in, Same, renaming, rearranging, through}
use Rattle.ic_confluence.specs.lemmas.Counts.{in_configuration, in_pair, in_more, names_like}
use Rattle.ic_confluence.specs.lemmas.Equivalence.{Same-sym, same_equations}
use Rattle.ic_reaching.specs.lemmas.Orders.{permuted}
use Rattle.ic_generations.proofs.Given.{Sound, FiringLaws}
use Rattle.ic_generations.proofs.Fired.{count_in, made_of, fired_among, in_whole}
use Rattle.ic_generations.proofs.Anywhere.{fired_sound}

-- ---- the first two terms of an interface as an equation

abbrev shown : List Tree → List Pair → ℕ → Configuration
shown [] es next = record { interface = []; equations = es; next = next }
shown (t ∷ []) es next = record { interface = t ∷ []; equations = es; next = next }
shown (t ∷ u ∷ ts) es next = record { interface = ts; equations = record { left = t; right = u } ∷ es; next = next }

shown_counts : (n : ℕ) (ts : List Tree) (es : List Pair) (next : ℕ) → occurrences n (configuration_names (shown ts es next)) ≡ occurrences n (names_in ts es)
shown_counts n [] es next = refl
shown_counts n (t ∷ []) es next = refl
shown_counts n (t ∷ u ∷ ts) es next =
    let p : Pair = record { left = t; right = u } in
    let after = in_configuration n ts (p ∷ es) in
    let more = in_more n p es in
    let pair = in_pair n p in
    let before = in_configuration n (t ∷ u ∷ ts) es in
    let first = occurrences-append n (names t) (names u ++ flat_map names ts) in
    let second = occurrences-append n (names u) (flat_map names ts) in
    omega (arith, after, more, pair, before, first, second)

shown_renamed : (f : ℕ → ℕ) (ts : List Tree) (es : List Pair) (next : ℕ) → shown (map (renamed f) ts) (map (renamed_pair f) es) next ≡ renamed_in f (shown ts es next)
shown_renamed f [] es next = refl
shown_renamed f (t ∷ []) es next = refl
shown_renamed f (t ∷ u ∷ ts) es next = refl

shown_next : (ts : List Tree) (es : List Pair) (next : ℕ) → (shown ts es next).next ≡ next
shown_next [] es next = refl
shown_next (t ∷ []) es next = refl
shown_next (t ∷ u ∷ ts) es next = refl

shown_arranged : (ts : List Tree) (es fs : List Pair) (next : ℕ) → Rearranged es fs → Same (shown ts es next) (shown ts fs next)
shown_arranged [] es fs next r = same_equations (shown [] es next) fs r
shown_arranged (t ∷ []) es fs next r = same_equations (shown (t ∷ []) es next) fs r
shown_arranged (t ∷ u ∷ ts) es fs next r =
    let p : Pair = record { left = t; right = u } in
    same_equations (shown (t ∷ u ∷ ts) es next) (p ∷ fs) (kept p p es fs (itself p) r)

abbrev show_first : Configuration → Configuration
show_first c = shown c.interface c.equations c.next

shown_same : (c d : Configuration) → Same c d → Same (show_first c) (show_first d)
shown_same c d (renaming x y r) =
    let counts = λ (n : ℕ). shown_counts n x.interface x.equations x.next in
    let top = shown_next x.interface x.equations x.next in
    renaming (show_first x) (show_first y) (record {
      to = r.to;
      from = r.from;
      there_and_back = r.there_and_back;
      back_and_there = r.back_and_there;
      free = λ n once. r.free n (sym (counts n) ∙ once);
      fresh = λ n high. r.fresh n (omega (arith, high, top));
      result = ap show_first r.result ∙ shown_renamed r.to x.interface x.equations x.next;
    })
shown_same c d (rearranging x y r) =
    transport (Same (show_first x)) (sym (ap show_first r.result)) (shown_arranged x.interface x.equations y.equations x.next r.equations)
shown_same c d (through x y z first second) = through (show_first x) (show_first y) (show_first z) (shown_same x y first) (shown_same y z second)

-- ---- the sides of equations in front of an interface

abbrev hidden : List Pair → List Tree → List Tree
hidden [] ts = ts
hidden (p ∷ ps) ts = p.left ∷ p.right ∷ hidden ps ts

abbrev hiding : List Tree → List Pair → List Pair → ℕ → Configuration
hiding ts now rest next = record { interface = hidden rest ts; equations = now; next = next }

show_all : (ts : List Tree) (rest es fs : List Pair) (m n : ℕ) → Same (hiding ts es rest m) (hiding ts fs rest n) → Same (made_of ts es rest m) (made_of ts fs rest n)
show_all ts [] es fs m n same =
    let whole = λ (l : List Pair) (k : ℕ). ap {B = Configuration} (λ z. record { interface = ts; equations = z; next = k }) (sym (append-nil l)) in
    transport (Same (made_of ts es [] m)) (whole fs n) (transport (λ z. Same z (record { interface = ts; equations = fs; next = n })) (whole es m) same)
show_all ts (p ∷ rest) es fs m n same =
    let one = show_all ts rest (p ∷ es) (p ∷ fs) m n (shown_same (hiding ts es (p ∷ rest) m) (hiding ts fs (p ∷ rest) n) same) in
    let place = λ (l : List Pair) (k : ℕ). permuted (made_of ts l (p ∷ rest) k) (p ∷ (l ++ rest)) (IsPermutation-middle l p rest) in
    through (made_of ts es (p ∷ rest) m) (made_of ts (p ∷ es) rest m) (made_of ts fs (p ∷ rest) n) (place es m)
    (through (made_of ts (p ∷ es) rest m) (made_of ts (p ∷ fs) rest n) (made_of ts fs (p ∷ rest) n) one
    (Same-sym (made_of ts fs (p ∷ rest) n) (made_of ts (p ∷ fs) rest n) (place fs n)))

hidden_terms : (n : ℕ) (rest : List Pair) (ts : List Tree) → occurrences n (flat_map names (hidden rest ts)) ≡ count_in n rest + occurrences n (flat_map names ts)
hidden_terms n [] ts = let nothing : count_in n [] ≡ 0 = refl in omega (arith, nothing)
hidden_terms n (p ∷ rest) ts =
    let first = occurrences-append n (names p.left) (names p.right ++ flat_map names (hidden rest ts)) in
    let second = occurrences-append n (names p.right) (flat_map names (hidden rest ts)) in
    let pair = in_pair n p in
    let more = in_more n p rest in
    let later = hidden_terms n rest ts in
    omega (arith, first, second, pair, more, later)

hidden_counts : (n : ℕ) (ts : List Tree) (now rest : List Pair) (next : ℕ) → occurrences n (configuration_names (hiding ts now rest next)) ≡ occurrences n (configuration_names (made_of ts now rest next))
hidden_counts n ts now rest next =
    let before = in_whole n ts now rest next in
    let after = in_configuration n (hidden rest ts) now in
    let terms = hidden_terms n rest ts in
    omega (arith, before, after, terms)

hidden_over : (ss : List Symbol) (rest : List Pair) (ts : List Tree) → list_all (is_pair_over ss) rest ≡ true → list_all (is_tree_over ss) ts ≡ true → list_all (is_tree_over ss) (hidden rest ts) ≡ true
hidden_over ss [] ts over terms = terms
hidden_over ss (p ∷ rest) ts over terms =
    let both = and_parts (is_pair_over ss p) (list_all (is_pair_over ss) rest) over in
    let sides = and_parts (is_tree_over ss p.left) (is_tree_over ss p.right) both.0 in
    and_both sides.0 (and_both sides.1 (hidden_over ss rest ts both.1 terms))

-- ---- what is over the symbols, in parts

pub record PartsOver (rs : Rules) (ts : List Tree) (now rest : List Pair) : Type 0 where
  pub terms : list_all (is_tree_over rs.symbols) ts ≡ true
  pub now_over : list_all (is_pair_over rs.symbols) now ≡ true
  pub rest_over : list_all (is_pair_over rs.symbols) rest ≡ true

hidden_sound : (rs : Rules) (ts : List Tree) (now rest : List Pair) (next : ℕ) → PartsOver rs ts now rest → HasNames (made_of ts now rest next) → Sound rs (hiding ts now rest next)
hidden_sound rs ts now rest next over named = record {
  over = and_both (hidden_over rs.symbols rest ts over.rest_over over.terms) over.now_over;
  named = names_like (made_of ts now rest next) (hiding ts now rest next) refl (λ n. hidden_counts n ts now rest next) named;
}

-- ---- some equations fired among others

-- in any order
pub fired_in_order : FiringLaws → (rs : Rules) (ts : List Tree) (now also rest : List Pair) (next : ℕ) → IsRuleSet rs → PartsOver rs ts now rest → HasNames (made_of ts now rest next) → IsPermutation now also
    → Same (fired_among rs.rules ts now rest next) (fired_among rs.rules ts also rest next)
fired_in_order laws rs ts now also rest next set over named moved =
    let sound = hidden_sound rs ts now rest next over named in
    show_all ts rest (fired_from rs.rules next now) (fired_from rs.rules next also) (next_after rs.rules next now) (next_after rs.rules next also)
    (laws.fired rs (hiding ts now rest next) (hiding ts also rest next) set sound.over sound.named (permuted (hiding ts now rest next) also moved))

-- with names
pub fired_names : (rs : Rules) (ts : List Tree) (now rest : List Pair) (next : ℕ) → IsRuleSet rs → PartsOver rs ts now rest → HasNames (made_of ts now rest next) → HasNames (fired_among rs.rules ts now rest next)
fired_names rs ts now rest next set over named =
    let after = fired_sound rs (hiding ts now rest next) set (hidden_sound rs ts now rest next over named) in
    let top = next_after rs.rules next now in
    names_like (hiding ts (fired_from rs.rules next now) rest top) (made_of ts (fired_from rs.rules next now) rest top) refl (λ n. sym (hidden_counts n ts (fired_from rs.rules next now) rest top)) after.named
