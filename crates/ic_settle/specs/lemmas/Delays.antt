-- Bindings that wait: one is taken, none is there, one more is put in.
use Rattle.std.proofs.Common.{◌≡◌, ℕ, ◌+◌, ◌*◌, ◌≤◌, ◌==◌, List, [], ◌∷◌, ◌++◌, cond, Option, None, Some, map, refl, sym, ap, ◌∙◌, append_assoc, append-nil, eq-eqb, inl, inr, arith, subst as transport}
use Rattle.std.proofs.lemmas.Bool.{eqb-true, cases_Bool}
use Rattle.std.specs.List.{flat_map}
use Rattle.ic_term.specs.Tree.{Tree, name, agent, Trees, trees_of, Pair, names, pair_names}
use Rattle.ic_term.specs.Configuration.{occurrences}
use Rattle.ic_settle.specs.Settling.{Binding, subst}
use Rattle.ic_settle.specs.lemmas.Waiting.{look, IsTaken, IsAdded, put_each, put_each_pair, bound, here, IsDelayed, Resolves, Rebuilds, RebuildsTerms}
use Rattle.ic_settle.specs.lemmas.SubstitutionLaws.{occurrences-append, occurrences-cons, subst-absent}
use Rattle.ic_settle.specs.lemmas.PutEach.{names_of-trees_of, put_each-agent, put_each-unbound, bound-cons}

-- ---- what is pending, told by its counts

pub delays-fewer : (bs : List Binding) (es : List (ℕ × Tree)) (ns ms : List ℕ) → ((y : ℕ) → occurrences y ms ≤ occurrences y ns)
    → IsDelayed bs es ns → IsDelayed bs es ms
delays-fewer bs es ns ms fewer d = record { same = d.same; once = λ y. less _ _ _ _ _ (fewer y) (d.once y); keys = d.keys }
  where
    less : (m n w b e : ℕ) → m ≤ n → n + w + 2 * b ≤ 2 + e → m + w + 2 * b ≤ 2 + e
    less m n w b e f g = omega arith

pub delays-rest : (bs : List Binding) (es : List (ℕ × Tree)) (ns rest : List ℕ) → IsDelayed bs es (ns ++ rest) → IsDelayed bs es rest
delays-rest bs es ns rest d = delays-fewer bs es (ns ++ rest) rest (λ y. omega (arith, occurrences-append y ns rest)) d

-- ---- a name that has an entry

module _ (es es' : List (ℕ × Tree)) (x : ℕ) (u : Tree) (taken : IsTaken es es' x u) where
  left_there : (y : ℕ) (v : Tree) → look es' y ≡ Some v → look es y ≡ Some v
  left_there y v found = elim (cases_Bool (x == y)) [
    | inl e ↦ let gone : look es' y ≡ None = taken.gone y ∙ ap (λ b. cond b None (look es y)) e in
        let bad : None ≡ Some v = sym gone ∙ found in cc
    | inr e ↦ sym (taken.gone y ∙ ap (λ b. cond b None (look es y)) e) ∙ found
  ]

  here_taken : (y : ℕ) → here (look es y) ≤ cond (x == y) 1 0 + here (look es' y)
  here_taken y = elim (cases_Bool (x == y)) [
    | inl e ↦ rw e (at_most (look es y) (here (look es' y)))
    | inr e ↦ let same : look es' y ≡ look es y = taken.gone y ∙ ap (λ b. cond b None (look es y)) e in
        rw (e, same) (omega arith)
  ]
    where
      at_most : (o : Option Tree) (k : ℕ) → here o ≤ 1 + k
      at_most None k = omega arith
      at_most (Some t) k = omega arith

  here_fewer : (y : ℕ) → here (look es' y) ≤ here (look es y)
  here_fewer y = elim (cases_Bool (x == y)) [
    | inl e ↦ let gone : look es' y ≡ None = taken.gone y ∙ ap (λ b. cond b None (look es y)) e in rw gone (omega arith)
    | inr e ↦ let same : look es' y ≡ look es y = taken.gone y ∙ ap (λ b. cond b None (look es y)) e in rw same (omega arith)
  ]

  pub delays-take : (bs : List Binding) (rest : List ℕ) → IsDelayed bs es (x ∷ rest) → IsDelayed bs es' (names u ++ rest)
  delays-take bs rest d = record {
    same = λ y v found. d.same y v (left_there y v found);
    once = λ y. step _ _ _ _ _ _ _ _ _ _ (occurrences-cons y x rest) (occurrences-append y (names u) rest) (taken.held y) (d.once y) (here_taken y);
    keys = λ y. omega (arith, d.keys y, here_fewer y);
  }
    where
      step : (P q r n N W W' B E E' : ℕ) → P ≡ q + r → N ≡ n + r → W' + n ≡ W → P + W + 2 * B ≤ 2 + E → E ≤ q + E' → N + W' + 2 * B ≤ 2 + E'
      step P q r n N W W' B E E' f g h i j = omega arith

-- ---- a name that has none

pub delays-absent : (bs : List Binding) (es : List (ℕ × Tree)) (x : ℕ) (rest : List ℕ) → look es x ≡ None → IsDelayed bs es (x ∷ rest) → bound x bs ≡ 0
delays-absent bs es x rest none d =
    let once : occurrences x (x ∷ rest) ≡ 1 + occurrences x rest = occurrences-cons x x rest ∙ ap (λ b. cond b 1 0 + occurrences x rest) (eq-eqb x x refl) in
    step _ _ _ _ _ once (ap here none) (d.once x)
  where
    step : (P r W B E : ℕ) → P ≡ 1 + r → E ≡ 0 → P + W + 2 * B ≤ 2 + E → B ≡ 0
    step P r W B E f g h = omega arith

-- ---- one more binding

module _ (bs : List Binding) (es es' : List (ℕ × Tree)) (x : ℕ) (v : Tree) (added : IsAdded es es' x v)
    (free : bound x bs ≡ 0) (absent : occurrences x (names (put_each bs v)) ≡ 0) where
  abbrev binding_of_it : Binding
  binding_of_it = record { name = x; term = put_each bs v }

  itself_put : put_each (binding_of_it ∷ bs) (name x) ≡ put_each (binding_of_it ∷ bs) v
  itself_put =
      ap (subst x (put_each bs v)) (put_each-unbound bs x free)
      ∙ ap (λ b. cond b (put_each bs v) (name x)) (eq-eqb x x refl)
      ∙ sym (subst-absent x (put_each bs v) (put_each bs v) absent)

  more_there : (rest : List ℕ) → IsDelayed bs es rest → (q : ℕ) (w : Tree) → look es' q ≡ Some w → put_each (binding_of_it ∷ bs) (name q) ≡ put_each (binding_of_it ∷ bs) w
  more_there rest d q w found = elim (cases_Bool (x == q)) [
    | inl e ↦ let same : Some v ≡ Some w = sym (added.there q ∙ ap (λ b. cond b (Some v) (look es q)) e) ∙ found in
        let term : v ≡ w = cc in
        ap (λ y. put_each (binding_of_it ∷ bs) (name y)) (sym (eqb-true x q e)) ∙ itself_put ∙ ap (put_each (binding_of_it ∷ bs)) term
    | inr e ↦ let old : look es q ≡ Some w = sym (added.there q ∙ ap (λ b. cond b (Some v) (look es q)) e) ∙ found in
        ap (subst x (put_each bs v)) (d.same q w old)
  ]

  here_more : (rest : List ℕ) → IsDelayed bs es rest → (q : ℕ) → (here (look es q) + cond (x == q) 1 0 ≤ here (look es' q)) × (here (look es' q) ≤ cond (x == q) 1 0 + here (look es q))
  here_more rest d q = elim (cases_Bool (x == q)) [
    | inl e ↦ let there : look es' q ≡ Some v = added.there q ∙ ap (λ b. cond b (Some v) (look es q)) e in
        let none : here (look es q) ≤ 0 = omega (arith, d.keys q, ap (λ y. bound y bs) (sym (eqb-true x q e)) ∙ free) in
        rw (e, there) (omega arith, omega arith)
    | inr e ↦ let same : look es' q ≡ look es q = added.there q ∙ ap (λ b. cond b (Some v) (look es q)) e in
        rw (e, same) (omega arith, omega arith)
  ]

  pub delays-bind : (rest : List ℕ) → IsDelayed bs es (x ∷ (names v ++ rest)) → IsDelayed (binding_of_it ∷ bs) es' rest
  delays-bind rest d = record {
    same = more_there (x ∷ (names v ++ rest)) d;
    once = λ q. step _ _ _ _ _ _ _ _ _ _ _ (occurrences-cons q x (names v ++ rest)) (occurrences-append q (names v) rest) (added.held q) (bound-cons q binding_of_it bs)
        (d.once q) (here_more (x ∷ (names v ++ rest)) d q).0;
    keys = λ q. keys_step _ _ _ _ _ (bound-cons q binding_of_it bs) (d.keys q) (here_more (x ∷ (names v ++ rest)) d q).1;
  }
    where
      step : (P q N n r W W' B B' E E' : ℕ) → P ≡ q + N → N ≡ n + r → W' ≡ W + n → B' ≡ q + B → P + W + 2 * B ≤ 2 + E → E + q ≤ E' → r + W' + 2 * B' ≤ 2 + E'
      step P q N n r W W' B B' E E' f g h i j k = omega arith

      keys_step : (q B B' E E' : ℕ) → B' ≡ q + B → E ≤ B → E' ≤ q + E → E' ≤ B'
      keys_step q B B' E E' f g h = omega arith

-- ---- a term resolved at its top

-- on the way: the term so far stands for the given one
abbrev pub ResolvesSoFar : List (ℕ × Tree) → List (ℕ × Tree) → Tree → Tree → Type 0
ResolvesSoFar es es' t u = (bs : List Binding) (rest : List ℕ) → IsDelayed bs es (names t ++ rest)
    → (put_each bs u ≡ put_each bs t) × IsDelayed bs es' (names u ++ rest)

pub resolves-start : (es : List (ℕ × Tree)) (t : Tree) → ResolvesSoFar es es t t
resolves-start es t bs rest d = (refl, d)

pub resolves-more : (es es' es'' : List (ℕ × Tree)) (t u : Tree) (x : ℕ) → ResolvesSoFar es es' t (name x) → IsTaken es' es'' x u → ResolvesSoFar es es'' t u
resolves-more es es' es'' t u x so_far taken bs rest d =
    let before = so_far bs rest d in
    (sym (before.1.same x u taken.there) ∙ before.0, delays-take es' es'' x u taken bs rest before.1)

pub resolves-name : (es es' : List (ℕ × Tree)) (t : Tree) (x : ℕ) → ResolvesSoFar es es' t (name x) → look es' x ≡ None → Resolves es es' t (name x)
resolves-name es es' t x so_far none bs rest d =
    let before = so_far bs rest d in
    (before.0, (delays-absent bs es' x rest none before.1, before.1))

pub resolves-agent : (es es' : List (ℕ × Tree)) (t : Tree) (s : ℕ) (ts : Trees) → ResolvesSoFar es es' t (agent s ts) → Resolves es es' t (agent s ts)
resolves-agent es es' t s ts so_far bs rest d = let before = so_far bs rest d in (before.0, (tt, before.1))

-- ---- a term rebuilt

pub rebuilds-name : (es es' : List (ℕ × Tree)) (t : Tree) (x : ℕ) → Resolves es es' t (name x) → Rebuilds es es' t (name x)
rebuilds-name es es' t x resolves bs rest d =
    let top = resolves bs rest d in
    (sym (put_each-unbound bs x top.1.0) ∙ top.0, delays-rest bs es' (x ∷ []) rest top.1.1)

pub rebuilds-agent : (es es' es'' : List (ℕ × Tree)) (t : Tree) (s : ℕ) (ts us : List Tree) → Resolves es es' t (agent s (trees_of ts)) → RebuildsTerms es' es'' ts us
    → Rebuilds es es'' t (agent s (trees_of us))
rebuilds-agent es es' es'' t s ts us resolves arguments bs rest d =
    let top = resolves bs rest d in
    let P : List ℕ → Type 0 = λ ns. IsDelayed bs es' (ns ++ rest) in
    let below = arguments bs rest (transport P (names_of-trees_of ts) top.1.1) in
    (ap (λ vs. agent s (trees_of vs)) below.0 ∙ sym (put_each-agent bs s ts) ∙ top.0, below.1)

-- ---- lists on the way: what is done, and what is left

abbrev pub RebuildsSoFar : List (ℕ × Tree) → List Tree → List (ℕ × Tree) → List Tree → List Tree → Type 0
RebuildsSoFar es ts es' done left = (bs : List Binding) (rest : List ℕ) → IsDelayed bs es (flat_map names ts ++ rest)
    → (done ++ map (put_each bs) left ≡ map (put_each bs) ts) × IsDelayed bs es' (flat_map names left ++ rest)

pub rebuilds-end : (es : List (ℕ × Tree)) (ts : List Tree) (es' : List (ℕ × Tree)) (us : List Tree) → RebuildsSoFar es ts es' us [] → RebuildsTerms es es' ts us
rebuilds-end es ts es' us so_far bs rest d = let all = so_far bs rest d in (sym (append-nil us) ∙ all.0, all.1)

abbrev pub RebuildsPairsSoFar : List (ℕ × Tree) → List Pair → List (ℕ × Tree) → List Pair → List Pair → Type 0
RebuildsPairsSoFar es ps es' done left = (bs : List Binding) (rest : List ℕ) → IsDelayed bs es (flat_map pair_names ps ++ rest)
    → (done ++ map (put_each_pair bs) left ≡ map (put_each_pair bs) ps) × IsDelayed bs es' (flat_map pair_names left ++ rest)

pub pairs-more : (es : List (ℕ × Tree)) (ps : List Pair) (es' es'' es''' : List (ℕ × Tree)) (done : List Pair) (p q : Pair) (left : List Pair)
    → RebuildsPairsSoFar es ps es' done (p ∷ left) → Rebuilds es' es'' p.left q.left → Rebuilds es'' es''' p.right q.right
    → RebuildsPairsSoFar es ps es''' (done ++ q ∷ []) left
pairs-more es ps es' es'' es''' done p q left so_far first second bs rest d =
    let before = so_far bs rest d in
    let P : List ℕ → Type 0 = λ ns. IsDelayed bs es' ns in
    let later = flat_map pair_names left ++ rest in
    let spread = append_assoc (names p.left ++ names p.right) (flat_map pair_names left) rest ∙ append_assoc (names p.left) (names p.right) later in
    let one = first bs (names p.right ++ later) (transport P spread before.1) in
    let two = second bs later one.1 in
    let pair_is : q ≡ put_each_pair bs p = λ i. record { left = one.0 i; right = two.0 i } in
    (append_assoc done (q ∷ []) (map (put_each_pair bs) left) ∙ ap (λ v. done ++ v ∷ map (put_each_pair bs) left) pair_is ∙ before.0, two.1)
