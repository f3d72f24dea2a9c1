-- Lemmas: one equation of a list replaced by others, and two of them, wherever they stand.
use Rattle.std.proofs.Common.{◌≡◌, ◌⊎◌, ℕ, ◌+◌, List, [], ◌∷◌, ◌++◌, map, refl, sym, ap, ◌∙◌, arith, inl, inr, subst as transport}
use Rattle.std.proofs.lemmas.List.{map-append}
use Rattle.std.proofs.lemmas.Grind.{flat_map-append}
use Rattle.std.specs.List.{flat_map}
use Rattle.ic_term.specs.Tree.{Tree, Pair, pair_names}
use Rattle.ic_term.specs.Configuration.{names_in, occurrences}
use Rattle.ic_settle.specs.lemmas.SubstitutionLaws.{occurrences-append}
use Rattle.ic_confluence.specs.Sameness.{Alike, itself, Rearranged, kept, swapped, one_by_one}
use Rattle.ic_confluence.specs.lemmas.Counts.{in_configuration, in_more}
use Rattle.ic_confluence.specs.lemmas.Equivalence.{Rearranged-refl}

-- the second list is the first one with this equation replaced by these
abbrev pub Replaced : Pair → List Pair → List Pair → List Pair → Type 0
Replaced p out [] fs = ⊥
Replaced p out (q ∷ es) fs = ((q ≡ p) × (fs ≡ out ++ es)) ⊎ ((rest : List Pair) × Replaced p out es rest × (fs ≡ q ∷ rest))

pub replaced_at : (p : Pair) (out before after : List Pair) → Replaced p out (before ++ p ∷ after) (before ++ (out ++ after))
replaced_at p out [] after = inl (refl, refl)
replaced_at p out (q ∷ before) after = inr (before ++ (out ++ after), replaced_at p out before after, refl)

-- where it stands
pub record PlaceOf (p : Pair) (out es fs : List Pair) : Type 0 where
  pub before : List Pair
  pub after : List Pair
  pub given : es ≡ before ++ p ∷ after
  pub result : fs ≡ before ++ (out ++ after)

pub place_of : (p : Pair) (out es fs : List Pair) → Replaced p out es fs → PlaceOf p out es fs
place_of p out [] fs r = absurd r
place_of p out (q ∷ es) fs (inl (same, is)) = record { before = []; after = es; given = ap (λ h. h ∷ es) same; result = is }
place_of p out (q ∷ es) fs (inr (rest, r, is)) =
    let at = place_of p out es rest r in
    record { before = q ∷ at.before; after = at.after; given = ap (λ l. q ∷ l) at.given; result = is ∙ ap (λ l. q ∷ l) at.result }

pub replaced_after : (p : Pair) (out front es fs : List Pair) → Replaced p out es fs → Replaced p out (front ++ es) (front ++ fs)
replaced_after p out [] es fs r = r
replaced_after p out (h ∷ front) es fs r = inr (front ++ fs, replaced_after p out front es fs r, refl)

pub replaced_mapped : (f : Pair → Pair) (p : Pair) (out es fs : List Pair) → Replaced p out es fs → Replaced (f p) (map f out) (map f es) (map f fs)
replaced_mapped f p out [] fs r = absurd r
replaced_mapped f p out (q ∷ es) fs (inl (same, is)) = inl (ap f same, ap (map f) is ∙ map-append f out es)
replaced_mapped f p out (q ∷ es) fs (inr (rest, r, is)) = inr (map f rest, replaced_mapped f p out es rest r, ap (map f) is)

-- ---- two equations

-- the same equation, or two that are replaced in either order
abbrev pub TwoReplaced : Pair → Pair → List Pair → List Pair → List Pair → List Pair → Type 0
TwoReplaced p q out more fs gs =
    ((p ≡ q) × (out ≡ more → fs ≡ gs)) ⊎ ((both : List Pair) × Replaced q more fs both × Replaced p out gs both)

later_both : (h p q : Pair) (out more fs gs ps qs : List Pair) → fs ≡ h ∷ ps → gs ≡ h ∷ qs → TwoReplaced p q out more ps qs → TwoReplaced p q out more fs gs
later_both h p q out more fs gs ps qs a b (inl (same, equal)) = inl (same, λ e. a ∙ (ap (λ l. h ∷ l) (equal e) ∙ sym b))
later_both h p q out more fs gs ps qs a b (inr (both, r, s)) =
    let P : List Pair → Type 0 = λ l. Replaced q more l (h ∷ both) in
    let Q : List Pair → Type 0 = λ l. Replaced p out l (h ∷ both) in
    inr (h ∷ both, transport P (sym a) (inr (both, r, refl)), transport Q (sym b) (inr (both, s, refl)))

pub two_replaced : (p q : Pair) (out more es fs gs : List Pair) → Replaced p out es fs → Replaced q more es gs → TwoReplaced p q out more fs gs
two_replaced p q out more [] fs gs r s = absurd r
two_replaced p q out more (h ∷ es) fs gs (inl (a, b)) (inl (c, d)) = inl (sym a ∙ c, λ same. b ∙ (ap (λ o. o ++ es) same ∙ sym d))
two_replaced p q out more (h ∷ es) fs gs (inl (a, b)) (inr (rest, s, d)) =
    let P : List Pair → Type 0 = λ l. Replaced q more l (out ++ rest) in
    let Q : List Pair → Type 0 = λ l. Replaced p out l (out ++ rest) in
    inr (out ++ rest, transport P (sym b) (replaced_after q more out es rest s), transport Q (sym d) (inl (a, refl)))
two_replaced p q out more (h ∷ es) fs gs (inr (rest, r, b)) (inl (c, d)) =
    let P : List Pair → Type 0 = λ l. Replaced q more l (more ++ rest) in
    let Q : List Pair → Type 0 = λ l. Replaced p out l (more ++ rest) in
    inr (more ++ rest, transport P (sym b) (inl (c, refl)), transport Q (sym d) (replaced_after p out more es rest r))
two_replaced p q out more (h ∷ es) fs gs (inr (ps, r, b)) (inr (qs, s, d)) = later_both h p q out more fs gs ps qs b d (two_replaced p q out more es ps qs r s)

-- ---- how often names occur

pub in_both : (n : ℕ) (es fs : List Pair)
    → occurrences n (flat_map pair_names (es ++ fs)) ≡ occurrences n (flat_map pair_names es) + occurrences n (flat_map pair_names fs)
in_both n es fs = ap (occurrences n) (flat_map-append pair_names es fs) ∙ occurrences-append n (flat_map pair_names es) (flat_map pair_names fs)

pub replaced_counts : (n : ℕ) (p : Pair) (out es fs : List Pair) → Replaced p out es fs
    → occurrences n (flat_map pair_names fs) + occurrences n (pair_names p) ≡ occurrences n (flat_map pair_names es) + occurrences n (flat_map pair_names out)
replaced_counts n p out [] fs r = absurd r
replaced_counts n p out (q ∷ es) fs (inl (same, is)) =
    let split = ap (λ l. occurrences n (flat_map pair_names l)) is ∙ in_both n out es in
    let first = in_more n q es in
    let equal = ap (λ r. occurrences n (pair_names r)) same in
    omega (arith, split, first, equal)
replaced_counts n p out (q ∷ es) fs (inr (rest, r, is)) =
    let split = ap (λ l. occurrences n (flat_map pair_names l)) is ∙ in_more n q rest in
    let first = in_more n q es in
    let later = replaced_counts n p out es rest r in
    omega (arith, split, first, later)

-- the names outside of an equation, and its own
pub removed_counts : (n : ℕ) (ts : List Tree) (p : Pair) (es rest : List Pair) → Replaced p [] es rest
    → occurrences n (names_in ts es) ≡ occurrences n (names_in ts rest) + occurrences n (pair_names p)
removed_counts n ts p es rest r =
    let all = in_configuration n ts es in
    let others = in_configuration n ts rest in
    let counts : occurrences n (flat_map pair_names rest) + occurrences n (pair_names p) ≡ occurrences n (flat_map pair_names es) + 0 = replaced_counts n p [] es rest r in
    omega (arith, all, others, counts)

-- ---- to the front

pub to_front : (p : Pair) (es rest : List Pair) → Replaced p [] es rest → Rearranged es (p ∷ rest)
to_front p [] rest r = absurd r
to_front p (q ∷ es) rest (inl (same, is)) =
    let P : List Pair → Type 0 = λ l. Rearranged (q ∷ es) (p ∷ l) in
    let Q : Pair → Type 0 = λ h. Alike q h in
    transport P (sym is) (kept q p es es (transport Q same (itself q)) (Rearranged-refl es))
to_front p (q ∷ es) rest (inr (more, r, is)) =
    let P : List Pair → Type 0 = λ l. Rearranged (q ∷ es) (p ∷ l) in
    transport P (sym is) (one_by_one _ (q ∷ p ∷ more) _ (kept q q es (p ∷ more) (itself q) (to_front p es more r)) (swapped q p more))
