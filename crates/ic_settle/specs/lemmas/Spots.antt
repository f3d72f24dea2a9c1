-- The containers in which a name occurs, as a list with one entry for each occurrence.
use Rattle.std.proofs.Common.{◌≡◌, ℕ, suc, ◌+◌, ◌<◌, ◌≤◌, ◌==◌, List, [], ◌∷◌, ◌++◌, Bool, cond, Option, None, Some, length, refl, sym, ap, ◌∙◌, append_assoc, append-nil, length-append, eq-eqb, inl, inr, arith, subst as transport}
use Rattle.std.proofs.lemmas.Bool.{cases_Bool, cases_lt, ne_eqb}
use Rattle.std.specs.List.{flat_map}
use Rattle.std.proofs.lemmas.Option.{same_Some}
use Rattle.ic_term.specs.Tree.{Tree, Pair, names, pair_names}
use Rattle.ic_term.specs.Configuration.{names_in, occurrences}
use Rattle.ic_settle.specs.lemmas.Containers.{noted, noted_in, noted_equations, noted_from}
use Rattle.ic_settle.specs.lemmas.SubstitutionLaws.{occurrences-append, occurrences-cons}

-- one entry for each occurrence of a name among the names of a container
abbrev pub spots_in : ℕ → ℕ → List ℕ → List ℕ
spots_in y place [] = []
spots_in y place (n ∷ ns) = cond (n == y) (place ∷ spots_in y place ns) (spots_in y place ns)

-- those of a name in equations, numbered from a place on, and in the interface after them
abbrev pub spots_from : ℕ → ℕ → List Pair → List Tree → List ℕ
spots_from y place [] ts = spots_in y place (flat_map names ts)
spots_from y place (p ∷ ps) ts = spots_in y place (pair_names p) ++ spots_from y (suc place) ps ts

-- the first and the last of at most two
abbrev pub IsPlaced : Option (ℕ × ℕ) → List ℕ → Type 0
IsPlaced found [] = found ≡ None
IsPlaced found (a ∷ []) = found ≡ Some (a, a)
IsPlaced found (a ∷ b ∷ []) = found ≡ Some (a, b)
IsPlaced found (a ∷ b ∷ c ∷ ds) = Unit {0}

pub noted_in_append : (y place : ℕ) (ns ms : List ℕ) (found : Option (ℕ × ℕ)) → noted_in y place (ns ++ ms) found ≡ noted_in y place ms (noted_in y place ns found)
noted_in_append y place [] ms found = refl
noted_in_append y place (n ∷ ns) ms found = noted_in_append y place ns ms (cond (n == y) (noted place found) found)

-- ---- the program's notes say where the spots are

placed_push : (found : Option (ℕ × ℕ)) (ps : List ℕ) (place : ℕ) → IsPlaced found ps → IsPlaced (noted place found) (ps ++ place ∷ [])
placed_push found (a ∷ b ∷ []) place is = tt
placed_push found (a ∷ b ∷ c ∷ ds) place is = tt
placed_push found _ place is = ap (noted place) is

placed_in : (y place : ℕ) (ns : List ℕ) (found : Option (ℕ × ℕ)) (ps : List ℕ) → IsPlaced found ps → IsPlaced (noted_in y place ns found) (ps ++ spots_in y place ns)
placed_in y place [] found ps is = let P : List ℕ → Type 0 = IsPlaced found in transport P (sym (append-nil ps)) is
placed_in y place (n ∷ ns) found ps is = elim (cases_Bool (n == y)) [
  | inl e ↦ let P : Bool → Type 0 = λ b. IsPlaced (noted_in y place ns (cond b (noted place found) found)) (ps ++ cond b (place ∷ spots_in y place ns) (spots_in y place ns)) in
      let Q : List ℕ → Type 0 = IsPlaced (noted_in y place ns (noted place found)) in
      transport P (sym e) (transport Q (append_assoc ps (place ∷ []) (spots_in y place ns)) (placed_in y place ns (noted place found) (ps ++ place ∷ []) (placed_push found ps place is)))
  | inr e ↦ let P : Bool → Type 0 = λ b. IsPlaced (noted_in y place ns (cond b (noted place found) found)) (ps ++ cond b (place ∷ spots_in y place ns) (spots_in y place ns)) in
      transport P (sym e) (placed_in y place ns found ps is)
]

placed_from : (y place : ℕ) (es : List Pair) (ts : List Tree) (found : Option (ℕ × ℕ)) (ps : List ℕ) → IsPlaced found ps
    → IsPlaced (noted_from y place es ts found) (ps ++ spots_from y place es ts)
placed_from y place [] ts found ps is = placed_in y place (flat_map names ts) found ps is
placed_from y place (e ∷ es) ts found ps is =
    let Q : List ℕ → Type 0 = IsPlaced (noted_from y (suc place) es ts (noted_in y place (pair_names e) found)) in
    transport Q (append_assoc ps (spots_in y place (pair_names e)) (spots_from y (suc place) es ts))
    (placed_from y (suc place) es ts (noted_in y place (pair_names e) found) (ps ++ spots_in y place (pair_names e)) (placed_in y place (pair_names e) found ps is))

pub placed_all : (y : ℕ) (es : List Pair) (ts : List Tree) → IsPlaced (noted_from y 0 es ts None) (spots_from y 0 es ts)
placed_all y es ts = placed_from y 0 es ts None [] refl

-- ---- how many spots there are

length-spots_in : (y place : ℕ) (ns : List ℕ) → length (spots_in y place ns) ≡ occurrences y ns
length-spots_in y place [] = refl
length-spots_in y place (n ∷ ns) = elim (cases_Bool (n == y)) [
  | inl e ↦ ap (λ b. length (cond b (place ∷ spots_in y place ns) (spots_in y place ns))) e
      ∙ one_more (length (spots_in y place ns)) (occurrences y ns) (length-spots_in y place ns)
      ∙ ap (λ b. cond b 1 0 + occurrences y ns) (sym e) ∙ sym (occurrences-cons y n ns)
  | inr e ↦ ap (λ b. length (cond b (place ∷ spots_in y place ns) (spots_in y place ns))) e
      ∙ none_more (length (spots_in y place ns)) (occurrences y ns) (length-spots_in y place ns)
      ∙ ap (λ b. cond b 1 0 + occurrences y ns) (sym e) ∙ sym (occurrences-cons y n ns)
]
  where
    one_more : (l o : ℕ) → l ≡ o → suc l ≡ 1 + o
    one_more l o h = omega arith

    none_more : (l o : ℕ) → l ≡ o → l ≡ 0 + o
    none_more l o h = omega arith

equations_length : (y place : ℕ) (es : List Pair) (ts : List Tree) → length (spots_from y place es ts) ≡ occurrences y (flat_map pair_names es) + occurrences y (flat_map names ts)
equations_length y place [] ts = omega (arith, length-spots_in y place (flat_map names ts))
equations_length y place (e ∷ es) ts =
    omega (
      arith,
      length-append (spots_in y place (pair_names e)) (spots_from y (suc place) es ts),
      length-spots_in y place (pair_names e),
      equations_length y (suc place) es ts,
      occurrences-append y (pair_names e) (flat_map pair_names es),
    )

pub length-spots : (y : ℕ) (es : List Pair) (ts : List Tree) → length (spots_from y 0 es ts) ≡ occurrences y (names_in ts es)
length-spots y es ts = omega (arith, equations_length y 0 es ts, occurrences-append y (flat_map names ts) (flat_map pair_names es))

-- ---- how many of them are a container

count_here : (y place : ℕ) (ns : List ℕ) → occurrences place (spots_in y place ns) ≡ occurrences y ns
count_here y place [] = refl
count_here y place (n ∷ ns) = elim (cases_Bool (n == y)) [
  | inl e ↦ ap (λ b. occurrences place (cond b (place ∷ spots_in y place ns) (spots_in y place ns))) e
      ∙ occurrences-cons place place (spots_in y place ns) ∙ ap (λ b. cond b 1 0 + occurrences place (spots_in y place ns)) (eq-eqb place place refl)
      ∙ ap (λ k. 1 + k) (count_here y place ns)
      ∙ ap (λ b. cond b 1 0 + occurrences y ns) (sym e) ∙ sym (occurrences-cons y n ns)
  | inr e ↦ ap (λ b. occurrences place (cond b (place ∷ spots_in y place ns) (spots_in y place ns))) e
      ∙ none_more (occurrences place (spots_in y place ns)) (occurrences y ns) (count_here y place ns)
      ∙ ap (λ b. cond b 1 0 + occurrences y ns) (sym e) ∙ sym (occurrences-cons y n ns)
]
  where
    none_more : (l o : ℕ) → l ≡ o → l ≡ 0 + o
    none_more l o h = omega arith

count_elsewhere : (y place k : ℕ) (ns : List ℕ) → (place ≡ k → ⊥) → occurrences k (spots_in y place ns) ≡ 0
count_elsewhere y place k [] apart = refl
count_elsewhere y place k (n ∷ ns) apart = elim (cases_Bool (n == y)) [
  | inl e ↦ ap (λ b. occurrences k (cond b (place ∷ spots_in y place ns) (spots_in y place ns))) e
      ∙ occurrences-cons k place (spots_in y place ns) ∙ ap (λ b. cond b 1 0 + occurrences k (spots_in y place ns)) (ne_eqb place k apart)
      ∙ none_more (occurrences k (spots_in y place ns)) (count_elsewhere y place k ns apart)
  | inr e ↦ ap (λ b. occurrences k (cond b (place ∷ spots_in y place ns) (spots_in y place ns))) e ∙ count_elsewhere y place k ns apart
]
  where
    none_more : (l : ℕ) → l ≡ 0 → 0 + l ≡ 0
    none_more l h = omega arith

count_before : (y place k : ℕ) (es : List Pair) (ts : List Tree) → k < place → occurrences k (spots_from y place es ts) ≡ 0
count_before y place k [] ts below = count_elsewhere y place k (flat_map names ts) (λ e. omega arith)
count_before y place k (e ∷ es) ts below =
    omega (
      arith,
      occurrences-append k (spots_in y place (pair_names e)) (spots_from y (suc place) es ts),
      count_elsewhere y place k (pair_names e) (λ e. omega arith),
      count_before y (suc place) k es ts (omega arith),
    )

-- a container with a spot is one of the equations or the interface
count_within : (y place k : ℕ) (es : List Pair) (ts : List Tree) → place + length es < k → occurrences k (spots_from y place es ts) ≡ 0
count_within y place k [] ts above = count_elsewhere y place k (flat_map names ts) (λ e. omega arith)
count_within y place k (e ∷ es) ts above =
    omega (
      arith,
      occurrences-append k (spots_in y place (pair_names e)) (spots_from y (suc place) es ts),
      count_elsewhere y place k (pair_names e) (λ e. omega arith),
      count_within y (suc place) k es ts (omega arith),
    )

-- ---- equations that hold a name as often as their numbers are among the spots

abbrev pub AreInside : ℕ → List ℕ → ℕ → List Pair → Type 0
AreInside y spots place [] = Unit {0}
AreInside y spots place (p ∷ ps) = (occurrences y (pair_names p) ≡ occurrences place spots) × AreInside y spots (suc place) ps

inside_from : (y place : ℕ) (es : List Pair) (ts : List Tree) (front : List ℕ) → ((k : ℕ) → place ≤ k → occurrences k front ≡ 0)
    → AreInside y (front ++ spots_from y place es ts) place es
inside_from y place [] ts front none = tt
inside_from y place (e ∷ es) ts front none =
    let own = spots_in y place (pair_names e) in
    let rest = spots_from y (suc place) es ts in
    let Q : List ℕ → Type 0 = λ spots. AreInside y spots (suc place) es in
    let later : (k : ℕ) → suc place ≤ k → occurrences k (front ++ own) ≡ 0 =
    λ k above. omega (arith, occurrences-append k front own, none k (omega arith), count_elsewhere y place k (pair_names e) (λ h. omega arith)) in (
      omega (
        arith,
        occurrences-append place front (own ++ rest),
        occurrences-append place own rest,
        none place (omega arith),
        count_here y place (pair_names e),
        count_before y (suc place) place es ts (omega arith),
      ),
      transport Q (append_assoc front own rest) (inside_from y (suc place) es ts (front ++ own) later),
    )

pub inside_all : (y : ℕ) (es : List Pair) (ts : List Tree) → AreInside y (spots_from y 0 es ts) 0 es
inside_all y es ts = inside_from y 0 es ts [] (λ k above. refl)

-- what is noted lies within the containers
pub placed-within : (y : ℕ) (es : List Pair) (ts : List Tree) (found : ℕ × ℕ) → occurrences y (names_in ts es) ≤ 2 → noted_from y 0 es ts None ≡ Some found
    → (found.0 < length es + 1) × (found.1 < length es + 1)
placed-within y es ts found few noted_is =
    let size = length-spots y es ts in
    by (spots_from y 0 es ts) (omega arith) (noted_from y 0 es ts None) (placed_all y es ts) noted_is (λ k above. count_within y 0 k es ts above)
  where
    not_above : (n k c r : ℕ) → c ≡ 1 + r → (n < k → c ≡ 0) → k < n + 1
    not_above n k c r some none = elim (cases_lt k (n + 1)) [ inl h ↦ h | inr h ↦ (let zero_is = none (omega arith) in absurd (omega arith)) ]

    first_counted : (a : ℕ) (ps : List ℕ) → occurrences a (a ∷ ps) ≡ 1 + occurrences a ps
    first_counted a ps = occurrences-cons a a ps ∙ ap (λ b. cond b 1 0 + occurrences a ps) (eq-eqb a a refl)

    last_counted : (a b : ℕ) → (k : ℕ) × (occurrences b (a ∷ b ∷ []) ≡ 1 + k)
    last_counted a b = (cond (a == b) 1 0, two (cond (a == b) 1 0) (occurrences b (a ∷ b ∷ [])) (occurrences b (b ∷ [])) (occurrences-cons b a (b ∷ [])) (first_counted b []))
      where
        two : (c o r : ℕ) → o ≡ c + r → r ≡ 1 + 0 → o ≡ 1 + c
        two c o r f g = omega arith

    by : (spots : List ℕ) → length spots ≤ 2 → (o : Option (ℕ × ℕ)) → IsPlaced o spots → o ≡ Some found → ((k : ℕ) → 0 + length es < k → occurrences k spots ≡ 0)
        → (found.0 < length es + 1) × (found.1 < length es + 1)
    by [] short o is here none = (let bad = sym is ∙ here in cc)
    by (a ∷ []) short o is here none =
        let same : Some (a, a) ≡ Some found = sym is ∙ here in
        let pair_is = same_Some (a, a) found same in
        let in_range = not_above (length es) a (occurrences a (a ∷ [])) (occurrences a []) (first_counted a []) (λ h. none a (omega arith)) in
        (omega (arith, ap (λ q. q.0) pair_is, in_range), omega (arith, ap (λ q. q.1) pair_is, in_range))
    by (a ∷ b ∷ []) short o is here none =
        let same : Some (a, b) ≡ Some found = sym is ∙ here in
        let pair_is = same_Some (a, b) found same in
        let counted = last_counted a b in
        let first = not_above (length es) a (occurrences a (a ∷ b ∷ [])) (occurrences a (b ∷ [])) (first_counted a (b ∷ [])) (λ h. none a (omega arith)) in
        let second = not_above (length es) b (occurrences b (a ∷ b ∷ [])) counted.0 counted.1 (λ h. none b (omega arith)) in
        (omega (arith, ap (λ q. q.0) pair_is, first), omega (arith, ap (λ q. q.1) pair_is, second))
    by (a ∷ b ∷ c ∷ ds) short o is here none = absurd (omega arith)

-- the interface is noted after the equations
pub noted_after : (y place : ℕ) (es : List Pair) (ts : List Tree) (found : Option (ℕ × ℕ))
    → noted_in y (place + length es) (flat_map names ts) (noted_equations y place es found) ≡ noted_from y place es ts found
noted_after y place [] ts found = (let same : place + 0 ≡ place = omega arith in ap (λ k. noted_in y k (flat_map names ts) found) same)
noted_after y place (e ∷ es) ts found =
    let same : place + suc (length es) ≡ suc place + length es = omega arith in
    ap (λ k. noted_in y k (flat_map names ts) (noted_equations y (suc place) es (noted_in y place (pair_names e) found))) same
    ∙ noted_after y (suc place) es ts (noted_in y place (pair_names e) found)
