-- Lemmas: configurations without equations are one net only where one is the other renamed.
use Rattle.std.proofs.Common.{◌≡◌, ◌↔◌, ℕ, List, [], ◌∷◌, map, refl, sym, ap, ◌∙◌, arith, subst as transport}
use Rattle.std.specs.List.{flat_map}
use Rattle.std.proofs.lemmas.List.{map-id}
use Rattle.std.proofs.lemmas.Simd.{map-map}
use Rattle.ic_term.specs.Tree.{Tree, names, Pair}
use Rattle.ic_term.specs.Configuration.{Configuration, configuration_names, occurrences}
use Rattle.ic_rules.specs.Renaming.{renamed}
use Rattle.ic_rules.specs.lemmas.NumberingLaws.{Fixes, terms-fixed}
use Rattle.ic_rules.specs.lemmas.RenamingLaws.{Through, terms-through}
use Rattle.ic_confluence.specs.Sameness.{Rearranged, nothing, one_by_one, renamed_in, renamed_pair, Renames, Same, renaming, rearranging, through}
use Rattle.ic_nets.specs.Likeness.{alone, church_false, church_true}

-- ---- renaming by nothing, and twice

abbrev same_name : ℕ → ℕ
same_name n = n

all_stay : (ns : List ℕ) → Fixes same_name ns
all_stay [] = tt
all_stay (n ∷ ns) = (refl, all_stay ns)

terms_stay : (ts : List Tree) → map (renamed same_name) ts ≡ ts
terms_stay ts = terms-fixed same_name ts (all_stay (flat_map names ts))

tree_stays : (t : Tree) → renamed same_name t ≡ t
tree_stays t = let alone = terms_stay (t ∷ []) in cc

pairs_stay : (es : List Pair) → map (renamed_pair same_name) es ≡ es
pairs_stay es = (λ i. map (λ (p : Pair). record { left = tree_stays p.left i; right = tree_stays p.right i }) es) ∙ map-id es

module _ (f g : ℕ → ℕ) where
  abbrev both : ℕ → ℕ
  both n = g (f n)

  all_twice : (ns : List ℕ) → Through f g both ns
  all_twice [] = tt
  all_twice (n ∷ ns) = (refl, all_twice ns)

  terms_twice : (ts : List Tree) → map (renamed g) (map (renamed f) ts) ≡ map (renamed both) ts
  terms_twice ts = terms-through f g both ts (all_twice (flat_map names ts))

  tree_twice : (t : Tree) → renamed g (renamed f t) ≡ renamed both t
  tree_twice t = let alone = terms_twice (t ∷ []) in cc

  pairs_twice : (es : List Pair) → map (renamed_pair g) (map (renamed_pair f) es) ≡ map (renamed_pair both) es
  pairs_twice es = map-map (renamed_pair g) (renamed_pair f) es ∙ (λ i. map (λ (p : Pair). record { left = tree_twice p.left i; right = tree_twice p.right i }) es)

  renamed_twice : (c : Configuration) → renamed_in g (renamed_in f c) ≡ renamed_in both c
  renamed_twice c = λ i. record { interface = terms_twice c.interface i; equations = pairs_twice c.equations i; next = c.next }

pub Renames-refl : (c : Configuration) → Renames c c
Renames-refl c = record {
  to = same_name;
  from = same_name;
  there_and_back = λ n. refl;
  back_and_there = λ n. refl;
  free = λ n once. refl;
  fresh = λ n high. refl;
  result = λ i. record { interface = sym (terms_stay c.interface) i; equations = sym (pairs_stay c.equations) i; next = c.next };
}

-- ---- no equations

none_too : (es fs : List Pair) → Rearranged es fs → es ≡ [] → fs ≡ []
none_too es fs nothing e = refl
none_too es fs (one_by_one ps qs rs first second) e = none_too qs rs second (none_too ps qs first e)
none_too es fs _ e = cc

no_equations : (c d : Configuration) → Same c d → c.equations ≡ [] → d.equations ≡ []
no_equations c d (renaming x y r) e = ap (λ (z : Configuration). z.equations) r.result ∙ ap (map (renamed_pair r.to)) e
no_equations c d (rearranging x y r) e = none_too x.equations y.equations r.equations e
no_equations c d (through x y z first second) e = no_equations y z second (no_equations x y first e)

module _ (free : (c d : Configuration) → Same c d → (n : ℕ) → (occurrences n (configuration_names c) ≡ 1) ↔ (occurrences n (configuration_names d) ≡ 1)) where
  pub renames_through : (c d e : Configuration) → Same c d → Renames c d → Renames d e → Renames c e
  renames_through c d e same r s = record {
    to = λ n. s.to (r.to n);
    from = λ n. r.from (s.from n);
    there_and_back = λ n. ap r.from (s.there_and_back (r.to n)) ∙ r.there_and_back n;
    back_and_there = λ n. ap s.to (r.back_and_there (s.from n)) ∙ s.back_and_there n;
    free = λ n once. ap s.to (r.free n once) ∙ s.free n ((free c d same n).0 once);
    fresh = λ n high. let next : d.next ≡ c.next = ap (λ (z : Configuration). z.next) r.result in ap s.to (r.fresh n high) ∙ s.fresh n (omega (arith, high, next));
    result = s.result ∙ ap (renamed_in s.to) r.result ∙ renamed_twice r.to s.to c;
  }

  pub only_renamed : (c d : Configuration) → Same c d → c.equations ≡ [] → Renames c d
  only_renamed c d (renaming x y r) none = r
  only_renamed c d (rearranging x y r) none =
      let left : y.equations ≡ x.equations = none_too x.equations y.equations r.equations none ∙ sym none in
      let stays : y ≡ x = r.result ∙ (λ i. record { interface = x.interface; equations = left i; next = x.next }) in
      transport (λ (z : Configuration). Renames x z) (sym stays) (Renames-refl x)
  only_renamed c d (through x y z first second) none =
      renames_through x y z first (only_renamed x y first none) (only_renamed y z second (no_equations x y first none))

-- ---- true and false

pub true_isnt_false : (l e : ℕ) → Renames (alone (church_true l e)) (alone (church_false l e)) → ⊥
true_isnt_false l e r = let same : church_false l e ∷ [] ≡ renamed r.to (church_true l e) ∷ [] = ap (λ (z : Configuration). z.interface) r.result in cc
