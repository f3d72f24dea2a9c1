-- Lemmas: sides of equations may stand in the interface, two by two, while name steps are taken elsewhere.
use Rattle.std.proofs.Common.{◌≡◌, ◌⊎◌, ℕ, ◌≤◌, List, [], ◌∷◌, ◌++◌, true, false, map, take, drop, refl, sym, ap, ◌∙◌, append_assoc, arith, inl, inr, subst as transport}
use Rattle.std.proofs.lemmas.Bool.{cases_Bool}
use Rattle.std.proofs.lemmas.Grind.{flat_map-append as flat_parts}
use Rattle.std.proofs.lemmas.List.{map-append, take-map, drop-map, take-append-drop}
use Rattle.std.specs.List.{flat_map}
use Rattle.ic_term.specs.Tree.{Tree, names, Pair, pair_names}
use Rattle.ic_term.specs.Configuration.{Configuration, names_in, occurrences}
use Rattle.ic_rules.specs.Renaming.{renamed}
use Rattle.ic_settle.specs.Settling.{occurs, subst, subst_pair}
use Rattle.ic_settle.specs.NameSteps.{NameStep, NameSteps, no_step, one_more}
use Rattle.ic_settle.specs.lemmas.SubstitutionLaws.{occurrences-append, occurrences_some, occurrences_none}
use Rattle.ic_confluence.specs.Sameness.{Rearranged, nothing, kept, swapped, one_by_one, itself, Same, renaming, rearranging, through}
use Rattle.ic_confluence.specs.lemmas.Counts.{in_configuration}
use Rattle.ic_confluence.specs.lemmas.Replacing.{in_both}
use Rattle.ic_reaching.specs.OneNet.{raised, SameButNext}

abbrev pub pairs_from : List Tree → List Pair
pairs_from [] = []
pairs_from (t ∷ []) = []
pairs_from (t ∷ u ∷ ts) = record { left = t; right = u } ∷ pairs_from ts

abbrev pub AreTwos : List Tree → Type 0
AreTwos [] = Unit {0}
AreTwos (t ∷ []) = ⊥
AreTwos (t ∷ u ∷ ts) = AreTwos ts

-- terms of the interface after so many are sides of equations, two by two
abbrev pub joined : ℕ → Configuration → Configuration
joined a c = record {
  interface = take a c.interface;
  equations = c.equations ++ pairs_from (drop a c.interface);
  next = c.next;
}

pairs_map : (f : Tree → Tree) (ts : List Tree) → pairs_from (map f ts) ≡ map (λ p. record { left = f p.left; right = f p.right }) (pairs_from ts)
pairs_map f [] = refl
pairs_map f (t ∷ []) = refl
pairs_map f (t ∷ u ∷ ts) = ap (λ l. record { left = f t; right = f u } ∷ l) (pairs_map f ts)

twos_map : (f : Tree → Tree) (ts : List Tree) → AreTwos ts → AreTwos (map f ts)
twos_map f [] are = tt
twos_map f (t ∷ []) are = are
twos_map f (t ∷ u ∷ ts) are = twos_map f ts are

twos_names : (ts : List Tree) → AreTwos ts → flat_map pair_names (pairs_from ts) ≡ flat_map names ts
twos_names [] are = refl
twos_names (t ∷ []) are = absurd are
twos_names (t ∷ u ∷ ts) are = append_assoc (names t) (names u) (flat_map pair_names (pairs_from ts)) ∙ ap (λ l. names t ++ (names u ++ l)) (twos_names ts are)

pub joined_counts : (x a : ℕ) (ts : List Tree) (es : List Pair) → AreTwos (drop a ts)
    → occurrences x (names_in (take a ts) (es ++ pairs_from (drop a ts))) ≡ occurrences x (names_in ts es)
joined_counts x a ts es are =
    let one = in_configuration x (take a ts) (es ++ pairs_from (drop a ts)) in
    let two = in_both x es (pairs_from (drop a ts)) in
    let three = ap (occurrences x) (twos_names (drop a ts) are) in
    let four = in_configuration x ts es in
    let five = ap (λ l. occurrences x (flat_map names l)) (sym (take-append-drop a ts)) ∙ (ap (occurrences x) (flat_parts names (take a ts) (drop a ts)) ∙ occurrences-append x (flat_map names (take a ts)) (flat_map names (drop a ts))) in
    omega (arith, one, two, three, four, five)

there_is : (x : ℕ) (ns : List ℕ) → 1 ≤ occurrences x ns → (occurs x ns ≡ true) ⊎ (occurs x ns ≡ false) → occurs x ns ≡ true
there_is x ns some (inl found) = found
there_is x ns some (inr lost) = let none = occurrences_none x ns lost in absurd (omega (arith, none, some))

mapped : (f : Tree → Tree) (a : ℕ) (i : List Tree) (es : List Pair)
    → map (λ p. record { left = f p.left; right = f p.right }) es ++ pairs_from (drop a (map f i))
    ≡ map (λ p. record { left = f p.left; right = f p.right }) (es ++ pairs_from (drop a i))
mapped f a i es =
    ap (λ l. map (λ p. record { left = f p.left; right = f p.right }) es ++ pairs_from l) (drop-map f a i)
    ∙ (ap (λ l. map (λ p. record { left = f p.left; right = f p.right }) es ++ l) (pairs_map f (drop a i))
    ∙ sym (map-append (λ p. record { left = f p.left; right = f p.right }) es (pairs_from (drop a i))))

twos_kept : (f : Tree → Tree) (a : ℕ) (i : List Tree) → AreTwos (drop a i) → AreTwos (drop a (map f i))
twos_kept f a i are = transport AreTwos (sym (drop-map f a i)) (twos_map f (drop a i) are)

-- ---- name steps

joined_step : (a : ℕ) (c d : Configuration) → AreTwos (drop a c.interface) → NameStep c d → NameStep (joined a c) (joined a d) × AreTwos (drop a d.interface)
joined_step a c d are s =
    let x = s.bound.name in
    let u = s.bound.term in
    let i = c.interface in
    let more = pairs_from (drop a i) in
    let after = s.after ++ more in (
      record {
        before = s.before;
        equation = s.equation;
        after = after;
        bound = s.bound;
        place = ap (λ l. l ++ more) s.place ∙ append_assoc s.before (s.equation ∷ s.after) more;
        side = s.side;
        outside = there_is x (names_in (take a i) (s.before ++ after))
            (let some = occurrences_some x (names_in i (s.before ++ s.after)) s.outside in
            let same = joined_counts x a i (s.before ++ s.after) are in
            let apart = ap (λ l. occurrences x (names_in (take a i) l)) (append_assoc s.before s.after more) in
            omega (arith, some, same, apart)) (cases_Bool (occurs x (names_in (take a i) (s.before ++ after))));
        result = ap (joined a) s.result
            ∙ (λ j. record {
              interface = take-map (subst x u) a i j;
              equations = (mapped (subst x u) a i (s.before ++ s.after) ∙ ap (map (subst_pair x u)) (append_assoc s.before s.after more)) j;
              next = c.next;
            });
      },
      transport (λ (z : Configuration). AreTwos (drop a z.interface)) (sym s.result) (twos_kept (subst x u) a i are),
    )

pub joined_steps : (a : ℕ) (c d : Configuration) → AreTwos (drop a c.interface) → NameSteps c d → NameSteps (joined a c) (joined a d) × AreTwos (drop a d.interface)
joined_steps a c d are (no_step x) = (no_step (joined a x), are)
joined_steps a c d are (one_more x y z steps s) =
    let before = joined_steps a x y are steps in
    let last = joined_step a y z before.1 s in
    (one_more (joined a x) (joined a y) (joined a z) before.0 last.0, last.1)

-- ---- the same net

rearranged_itself : (es : List Pair) → Rearranged es es
rearranged_itself [] = nothing
rearranged_itself (p ∷ es) = kept p p es es (itself p) (rearranged_itself es)

rearranged_more : (more es fs : List Pair) → Rearranged es fs → Rearranged (es ++ more) (fs ++ more)
rearranged_more more es fs nothing = rearranged_itself more
rearranged_more more es fs (kept p q xs ys alike rest) = kept p q (xs ++ more) (ys ++ more) alike (rearranged_more more xs ys rest)
rearranged_more more es fs (swapped p q xs) = swapped p q (xs ++ more)
rearranged_more more es fs (one_by_one xs ys zs one two) =
    one_by_one (xs ++ more) (ys ++ more) (zs ++ more) (rearranged_more more xs ys one) (rearranged_more more ys zs two)

joined_same : (a : ℕ) (c d : Configuration) → AreTwos (drop a c.interface) → Same c d → Same (joined a c) (joined a d) × AreTwos (drop a d.interface)
joined_same a c d are (renaming x y r) = (
  renaming (joined a x) (joined a y) (record {
    to = r.to;
    from = r.from;
    there_and_back = r.there_and_back;
    back_and_there = r.back_and_there;
    free = λ n once. r.free n (sym (joined_counts n a x.interface x.equations are) ∙ once);
    fresh = r.fresh;
    result = ap (joined a) r.result
        ∙ (λ j. record {
          interface = take-map (renamed r.to) a x.interface j;
          equations = mapped (renamed r.to) a x.interface x.equations j;
          next = x.next;
        });
  }),
  transport (λ (z : Configuration). AreTwos (drop a z.interface)) (sym r.result) (twos_kept (renamed r.to) a x.interface are),
)
joined_same a c d are (rearranging x y r) =
    let same : y.interface ≡ x.interface = ap (λ (z : Configuration). z.interface) r.result in (
      rearranging (joined a x) (joined a y) (record {
        equations = transport (λ (l : List Tree). Rearranged (x.equations ++ pairs_from (drop a x.interface)) (y.equations ++ pairs_from (drop a l))) (sym same)
            (rearranged_more (pairs_from (drop a x.interface)) x.equations y.equations r.equations);
        result = λ j. record { interface = take a (same j); equations = (joined a y).equations; next = ap (λ (z : Configuration). z.next) r.result j };
      }),
      transport (λ (l : List Tree). AreTwos (drop a l)) (sym same) are,
    )
joined_same a c d are (through x y z one two) =
    let first = joined_same a x y are one in
    let second = joined_same a y z first.1 two in
    (through (joined a x) (joined a y) (joined a z) first.0 second.0, second.1)

pub joined_but_next : (a : ℕ) (c d : Configuration) → AreTwos (drop a c.interface) → SameButNext c d → SameButNext (joined a c) (joined a d)
joined_but_next a c d are s = record { more = s.more; others = s.others; same = (joined_same a (raised s.more c) (raised s.others d) are s.same).0 }
