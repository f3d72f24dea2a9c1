-- Lemmas: what configurations of the same net have in common.
use Rattle.std.proofs.Common.{◌≡◌, ◌↔◌, ℕ, suc, ◌+◌, ◌*◌, ◌≤◌, List, [], ◌∷◌, true, length, map, refl, sym, ap, ◌∙◌, arith, subst as transport}
use Rattle.std.proofs.lemmas.List.Sums.{sum_by-cons}
use Rattle.std.specs.Prelude.{sum_by}
use Rattle.ic_term.specs.Tree.{Tree, name, agent, Trees, no_trees, more_trees, names, nodes, nodes_of, Pair, pair_nodes}
use Rattle.ic_term.specs.Configuration.{Configuration, configuration_names, configuration_nodes, occurrences}
use Rattle.ic_term.specs.Symbol.{is_over}
use Rattle.ic_rules.specs.Renaming.{renamed, renamed_trees}
use Rattle.ic_rules.specs.RuleSet.{Rules, IsRuleSet}
use Rattle.ic_settle.specs.lemmas.SubstitutionLaws.{nodes-subst}
use Rattle.ic_round.specs.Naming.{HasNames}
use Rattle.ic_round.specs.Quiet.{IsQuiet}
use Rattle.ic_round.specs.Steps.{Steps}
use Rattle.ic_confluence.specs.Sameness.{Alike, itself, exchanged, rotated, in_turn, Rearranged, nothing, kept, swapped, one_by_one, renamed_pair, renamed_in, Same, renaming, rearranging, through}
use Rattle.ic_confluence.specs.lemmas.Counts.{in_configuration}
use Rattle.ic_confluence.specs.lemmas.Puts.{undone_is_one_to_one, occurrences-renamed_in}
use Rattle.ic_confluence.specs.lemmas.Equivalence.{Same-sym}
use Rattle.ic_confluence.proofs.Moving.{arranged_configuration}
use Rattle.ic_confluence.proofs.TwoFirings.{renamed_terms_stay}
use Rattle.ic_confluence.proofs.Order.{same_ends}
use Rattle.ic_confluence.proofs.Chains.{chain_from}

-- ---- free names

once_too : (c d : Configuration) → Same c d → (n : ℕ) → occurrences n (configuration_names c) ≡ 1 → occurrences n (configuration_names d) ≡ 1
once_too c d (renaming x y r) n once =
    let one = undone_is_one_to_one r.to r.from r.there_and_back in
    let P : ℕ → Type 0 = λ k. occurrences k (configuration_names (renamed_in r.to x)) ≡ 1 in
    let Q : Configuration → Type 0 = λ z. occurrences n (configuration_names z) ≡ 1 in
    transport Q (sym r.result) (transport P (r.free n once) (occurrences-renamed_in r.to one n x ∙ once))
once_too c d (rearranging x y r) n once =
    let Q : Configuration → Type 0 = λ z. occurrences n (configuration_names z) ≡ 1 in
    transport Q (sym r.result) (sym (arranged_configuration n x.interface x.equations y.equations r.equations) ∙ once)
once_too c d (through x y z first second) n once = once_too y z second n (once_too x y first n once)

pub same_free : (c d : Configuration) → Same c d → (n : ℕ) → (occurrences n (configuration_names c) ≡ 1) ↔ (occurrences n (configuration_names d) ≡ 1)
same_free c d same n = (once_too c d same n, once_too d c (Same-sym c d same) n)

-- ---- sizes

one_fewer_node : (l o m k : ℕ) → l + o ≡ m + o * k → o ≡ 1 → l + 1 ≡ m + k
one_fewer_node l o m k e f = let g = rw f at e in omega (arith, g)

alike_nodes : (p q : Pair) → Alike p q → pair_nodes p ≡ pair_nodes q
alike_nodes p q (itself r) = refl
alike_nodes p q (exchanged r) = omega arith
alike_nodes p q (rotated r s is) =
    let one = one_fewer_node _ (occurrences is.cut (names is.outer)) (nodes is.outer) (nodes is.inner) (nodes-subst is.cut is.inner is.outer) is.once_outer in
    let other = one_fewer_node _ (occurrences is.cut (names is.inner)) (nodes is.inner) (nodes is.outer) (nodes-subst is.cut is.outer is.inner) is.once_inner in
    let given = ap pair_nodes is.given in
    let result = ap pair_nodes is.result in
    omega (arith, one, other, given, result)
alike_nodes p q (in_turn r s t first second) = alike_nodes r s first ∙ alike_nodes s t second

arranged_nodes : (es fs : List Pair) → Rearranged es fs → sum_by pair_nodes es ≡ sum_by pair_nodes fs
arranged_nodes es fs nothing = refl
arranged_nodes es fs (kept p q ps qs alike rest) =
    let one = sum_by-cons pair_nodes p ps in
    let other = sum_by-cons pair_nodes q qs in
    let here = alike_nodes p q alike in
    let later = arranged_nodes ps qs rest in
    omega (arith, one, other, here, later)
arranged_nodes es fs (swapped p q ps) =
    let a = sum_by-cons pair_nodes p (q ∷ ps) in
    let b = sum_by-cons pair_nodes q ps in
    let c = sum_by-cons pair_nodes q (p ∷ ps) in
    let d = sum_by-cons pair_nodes p ps in
    omega (arith, a, b, c, d)
arranged_nodes es fs (one_by_one ps qs rs first second) = arranged_nodes ps qs first ∙ arranged_nodes qs rs second

mutual
  renamed_nodes : (f : ℕ → ℕ) (t : Tree) → nodes (renamed f t) ≡ nodes t
  renamed_nodes f (name n) = refl
  renamed_nodes f (agent s ts) = ap (λ n. 1 + n) (renamed_nodes_of f ts)

  renamed_nodes_of : (f : ℕ → ℕ) (ts : Trees) → nodes_of (renamed_trees f ts) ≡ nodes_of ts
  renamed_nodes_of f no_trees = refl
  renamed_nodes_of f (more_trees t ts) = λ i. renamed_nodes f t i + renamed_nodes_of f ts i

terms_nodes : (f : ℕ → ℕ) (ts : List Tree) → sum_by nodes (map (renamed f) ts) ≡ sum_by nodes ts
terms_nodes f [] = refl
terms_nodes f (t ∷ ts) =
    let one = sum_by-cons nodes (renamed f t) (map (renamed f) ts) in
    let other = sum_by-cons nodes t ts in
    let here = renamed_nodes f t in
    let later = terms_nodes f ts in
    omega (arith, one, other, here, later)

pairs_nodes : (f : ℕ → ℕ) (es : List Pair) → sum_by pair_nodes (map (renamed_pair f) es) ≡ sum_by pair_nodes es
pairs_nodes f [] = refl
pairs_nodes f (p ∷ es) =
    let one = sum_by-cons pair_nodes (renamed_pair f p) (map (renamed_pair f) es) in
    let other = sum_by-cons pair_nodes p es in
    let left = renamed_nodes f p.left in
    let right = renamed_nodes f p.right in
    let later = pairs_nodes f es in
    omega (arith, one, other, left, right, later)

pub same_nodes : (c d : Configuration) → Same c d → configuration_nodes d ≡ configuration_nodes c
same_nodes c d (renaming x y r) = ap configuration_nodes r.result ∙ (λ i. terms_nodes r.to x.interface i + pairs_nodes r.to x.equations i)
same_nodes c d (rearranging x y r) = ap configuration_nodes r.result ∙ ap (λ n. sum_by nodes x.interface + n) (sym (arranged_nodes x.equations y.equations r.equations))
same_nodes c d (through x y z first second) = same_nodes y z second ∙ same_nodes x y first

arranged_length : (es fs : List Pair) → Rearranged es fs → length es ≡ length fs
arranged_length es fs (kept p q ps qs alike rest) = ap suc (arranged_length ps qs rest)
arranged_length es fs (one_by_one ps qs rs first second) = arranged_length ps qs first ∙ arranged_length qs rs second
arranged_length es fs _ = refl

renamed_length : (f : ℕ → ℕ) (es : List Pair) → length (map (renamed_pair f) es) ≡ length es
renamed_length f [] = refl
renamed_length f (p ∷ es) = ap suc (renamed_length f es)

pub same_length : (c d : Configuration) → Same c d → length d.equations ≡ length c.equations
same_length c d (renaming x y r) = ap (λ (e : Configuration). length e.equations) r.result ∙ renamed_length r.to x.equations
same_length c d (rearranging x y r) = sym (arranged_length x.equations y.equations r.equations)
same_length c d (through x y z first second) = same_length y z second ∙ same_length x y first

-- ---- no equation, and no name twice

none_left : (es : List Pair) → length es ≡ 0 → es ≡ []
none_left [] e = refl
none_left (p ∷ es) e = absurd (omega (arith, e))

pub same_text : (c d : Configuration) → Same c d → c.equations ≡ [] → ((n : ℕ) → occurrences n (configuration_names c) ≤ 1) → d ≡ c
same_text c d (renaming x y r) none once =
    let terms = renamed_terms_stay r.to x.interface (λ n some. r.free n (let parts = in_configuration n x.interface x.equations in let most = once n in omega (arith, parts, most, some))) in
    let pairs : map (renamed_pair r.to) x.equations ≡ x.equations = ap (map (renamed_pair r.to)) none ∙ sym none in
    r.result ∙ (λ i. record { interface = terms i; equations = pairs i; next = x.next })
same_text c d (rearranging x y r) none once =
    let count = same_length x y (rearranging x y r) in
    let left = none_left y.equations (count ∙ ap length none) in
    r.result ∙ (λ i. record { interface = x.interface; equations = (left ∙ sym none) i; next = x.next })
same_text c d (through x y z first second) none once =
    let here = same_text x y first none once in
    let P : Configuration → Type 0 = λ w. w.equations ≡ [] in
    let Q : Configuration → Type 0 = λ w. (n : ℕ) → occurrences n (configuration_names w) ≤ 1 in
    same_text y z second (transport P (sym here) none) (transport Q (sym here) once) ∙ here

-- a result of this form is the result of every order, as a text
pub one_text : (rs : Rules) (c d e : Configuration) → IsRuleSet rs → is_over rs.symbols c ≡ true → HasNames c → Steps rs.rules c d → IsQuiet rs.rules d
    → d.equations ≡ [] → ((n : ℕ) → occurrences n (configuration_names d) ≤ 1) → Steps rs.rules c e → IsQuiet rs.rules e → e ≡ d
one_text rs c d e set over named steps quiet none once others also =
    let one = chain_from rs.rules c d steps in
    let other = chain_from rs.rules c e others in
    same_text d e (same_ends rs one.0 other.0 c d e set over named one.1 quiet other.1 also).0 none once
