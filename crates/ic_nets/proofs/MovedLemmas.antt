-- Equations that are rearranged join the same, where agents keep their numbers.
use Rattle.std.proofs.Common.{◌≡◌, ℕ, ◌+◌, ◌≤◌, ◌==◌, List, [], ◌∷◌, ◌++◌, Bool, true, false, cond, map, refl, sym, ap, ◌∙◌, arith, append_assoc, subst as transport}
use Rattle.std.proofs.lemmas.Bool.{eqb-true}
use Rattle.ic_term.specs.Tree.{Tree, name, agent, Pair}
use Rattle.ic_settle.specs.Settling.{subst}
use Rattle.ic_confluence.specs.Sameness.{Alike, itself, exchanged, rotated, in_turn, Rearranged, nothing, kept, swapped, one_by_one, turned}
use Rattle.ic_nets.specs.declared.port.Port.{Port}
use Rattle.ic_nets.specs.declared.port.Port.TheVariants.{Principal}
use Rattle.ic_nets.proofs.SumLemmas.{bit, itself_equal, sum, sum-append}
use Rattle.ic_nets.proofs.MarkLemmas.{Item, wired, stood, between, Side, side_port, Marked, Markeds, letter, node, bare, items_in, put, at, one, held, held-occurrences, itself_put, bare-put, parted, Zipped, zipped}
use Rattle.ic_nets.proofs.ValueLemmas.{Weight, BothWays, value, Few, Symmetric, Blind, SameCounts, value_same, contracted}

-- an equation whose names stand at these sides, where it has two
pub record Equation : Type 0 where
  pub left_side : Side
  pub right_side : Side
  pub left : Marked
  pub right : Marked

abbrev pub bare_pair : Equation → Pair
bare_pair d = record { left = bare d.left; right = bare d.right }

abbrev pub sides_items : (l r : Side) → (t u : Marked) → List Item
sides_items l r (letter m) (letter n) = stood m (side_port l) ∷ stood n (side_port r) ∷ between l r ∷ []
sides_items l r (letter m) (node k s ts) = stood m (Principal k) ∷ []
sides_items l r (node k s ts) (letter n) = stood n (Principal k) ∷ []
sides_items l r (node k s ts) (node j q us) = wired (Principal k) (Principal j) ∷ []

abbrev pub pair_items : Equation → List Item
pair_items d = items_in d.left ++ (sides_items d.left_side d.right_side d.left d.right ++ items_in d.right)

abbrev pub all_items : List Equation → List Item
all_items [] = []
all_items (d ∷ ds) = pair_items d ++ all_items ds

module _ (N : ℕ) where
  -- they have the same but for wires, and the same wires beside whatever else there is
  abbrev pub Agree : List Item → List Item → Type 0
  Agree xs ys = ((w : Item → ℕ) → Blind w → sum w xs ≡ sum w ys)
      × ((P : Weight) → BothWays P → (cs : List Item) → Few N (cs ++ xs) → value P N (cs ++ xs) ≡ value P N (cs ++ ys))

  agree_itself : (xs : List Item) → Agree xs xs
  agree_itself xs = (λ w blind. refl, λ P both cs few. refl)

  at_blind : (n : ℕ) → Blind (at n one)
  at_blind n = ((λ p q. refl, λ l r. refl), λ p q. refl, λ m p q. refl)

  few_same : (xs ys : List Item) → ((n : ℕ) → sum (at n one) xs ≡ sum (at n one) ys) → Few N xs → Few N ys
  few_same xs ys same few n = (omega (arith, same n, (few n).0), λ le. sym (same n) ∙ (few n).1 le)

  pub few_too : (cs xs ys : List Item) → ((w : Item → ℕ) → Blind w → sum w xs ≡ sum w ys) → Few N (cs ++ xs) → Few N (cs ++ ys)
  few_too cs xs ys same few =
      few_same (cs ++ xs) (cs ++ ys) (λ n. sum-append (at n one) cs xs ∙ ap (λ k. sum (at n one) cs + k) (same (at n one) (at_blind n)) ∙ sym (sum-append (at n one) cs ys)) few

  counts_beside : (cs xs ys : List Item) → SameCounts xs ys → SameCounts (cs ++ xs) (cs ++ ys)
  counts_beside cs xs ys same w even = sum-append w cs xs ∙ ap (λ k. sum w cs + k) (same w even) ∙ sym (sum-append w cs ys)

  by_counts : (xs ys : List Item) → SameCounts xs ys → Agree xs ys
  by_counts xs ys same = (λ w blind. same w blind.0, λ P both cs few. value_same P both N (cs ++ xs) (cs ++ ys) (counts_beside cs xs ys same) few)

  agree_through : (xs ys zs : List Item) → Agree xs ys → Agree ys zs → Agree xs zs
  agree_through xs ys zs a b = (λ w blind. a.0 w blind ∙ b.0 w blind, λ P both cs few. a.1 P both cs few ∙ b.1 P both cs (few_too cs xs ys a.0 few))

  agree_both : (xs ys us vs : List Item) → Agree xs ys → Agree us vs → Agree (xs ++ us) (ys ++ vs)
  agree_both xs ys us vs a b =
      agree_through (xs ++ us) (ys ++ us) (ys ++ vs)
      (λ w blind. sum-append w xs us ∙ ap (λ k. k + sum w us) (a.0 w blind) ∙ sym (sum-append w ys us), λ P both cs few. first P both cs few)
      (λ w blind. sum-append w ys us ∙ ap (λ k. sum w ys + k) (b.0 w blind) ∙ sym (sum-append w ys vs), λ P both cs few. second P both cs few)
    where
      crossing : (cs xs : List Item) → SameCounts (cs ++ (xs ++ us)) ((cs ++ us) ++ xs)
      crossing cs xs w even = omega (arith, sum-append w cs (xs ++ us), sum-append w xs us, sum-append w (cs ++ us) xs, sum-append w cs us)

      few_across : (cs xs : List Item) → Few N (cs ++ (xs ++ us)) → Few N ((cs ++ us) ++ xs)
      few_across cs xs few = few_same (cs ++ (xs ++ us)) ((cs ++ us) ++ xs) (λ n. crossing cs xs (at n one) (at_blind n).0) few

      first : (P : Weight) → BothWays P → (cs : List Item) → Few N (cs ++ (xs ++ us)) → value P N (cs ++ (xs ++ us)) ≡ value P N (cs ++ (ys ++ us))
      first P both cs few =
          let across = few_across cs xs few in
          value_same P both N _ _ (crossing cs xs) few
          ∙ a.1 P both (cs ++ us) across
          ∙ value_same P both N _ _ (λ w even. sym (crossing cs ys w even)) (few_too (cs ++ us) xs ys a.0 across)

      second : (P : Weight) → BothWays P → (cs : List Item) → Few N (cs ++ (ys ++ us)) → value P N (cs ++ (ys ++ us)) ≡ value P N (cs ++ (ys ++ vs))
      second P both cs few =
          ap (value P N) (sym (append_assoc cs ys us))
          ∙ b.1 P both (cs ++ ys) (transport (λ (zs : List Item). Few N zs) (sym (append_assoc cs ys us)) few)
          ∙ ap (value P N) (append_assoc cs ys vs)

  -- ---- a circle cut elsewhere

  some_bit : (b : Bool) → bit b ≡ 1 → b ≡ true
  some_bit true e = refl
  some_bit false e = absurd (omega arith)

  module _ (x k s : ℕ) (us : Markeds) (j r : ℕ) (vs : Markeds) (once_u : held x (bare (node k s us)) ≡ 1) (once_v : held x (bare (node j r vs)) ≡ 1) where
    abbrev U : Marked
    U = node k s us

    abbrev V : Marked
    V = node j r vs

    in_v : Zipped x U (items_in V) (items_in (put x U V))
    in_v = zipped x U j r vs once_v

    in_u : Zipped x V (items_in U) (items_in (put x V U))
    in_u = zipped x V k s us once_u

    abbrev a : Port
    a = in_v.0

    abbrev b : Port
    b = in_u.0

    abbrev others : List Item
    others = in_v.1 ++ in_u.1

    abbrev given : List Item
    given = stood x (Principal j) ∷ items_in (put x U V)

    abbrev result : List Item
    result = stood x (Principal k) ∷ items_in (put x V U)

    given_counts : (w : Item → ℕ) → sum w given ≡ w (stood x (Principal j)) + (w (stood x b) + (w (wired a (Principal k)) + sum w others))
    given_counts w =
        omega (arith, in_v.3 w, in_u.2 w, sum-append w in_v.1 in_u.1)

    result_counts : (w : Item → ℕ) → sum w result ≡ w (stood x (Principal k)) + (w (stood x a) + (w (wired b (Principal j)) + sum w others))
    result_counts w =
        omega (arith, in_u.3 w, in_v.2 w, sum-append w in_v.1 in_u.1)

    -- the name is a wire, so that it is left out
    wired_up : (P : Weight) → BothWays P → (p q c d : Port) (cs xs : List Item)
        → ((w : Item → ℕ) → sum w xs ≡ w (stood x p) + (w (stood x q) + (w (wired c d) + sum w others)))
        → Few N (cs ++ xs) → value P N (cs ++ xs) ≡ P p q + (P c d + value P N (cs ++ others))
    wired_up P both p q c d cs xs counts few =
        let tail : List Item = wired c d ∷ (cs ++ others) in
        let sorted : SameCounts (cs ++ xs) (stood x p ∷ stood x q ∷ tail) =
        λ w even. omega (arith, sum-append w cs xs, counts w, sum-append w cs others) in
        let count : sum (at x one) (cs ++ xs) ≡ 1 + (1 + sum (at x one) tail) = omega (arith, sorted (at x one) (at_blind x).0, itself_equal x) in
        let within : N ≤ x → ⊥ = λ le. omega (arith, count, (few x).1 le) in
        let contracted_is = contracted P N x p q tail (omega (arith, count, (few x).0)) (omega (arith, within)) in
        omega (arith, value_same P both N (cs ++ xs) (stood x p ∷ stood x q ∷ tail) sorted few, contracted_is)

    recut : Agree given result
    recut =
        let blind_same : (w : Item → ℕ) → Blind w → sum w given ≡ sum w result =
        λ w blind. omega (arith, given_counts w, result_counts w, blind.1 a (Principal k), blind.1 b (Principal j), blind.2 x (Principal j) (Principal k), blind.2 x b a) in (
          blind_same,
          λ P both cs few.
              let before = wired_up P both (Principal j) b a (Principal k) cs given given_counts few in
              let after = wired_up P both (Principal k) a b (Principal j) cs result result_counts (few_too cs given result blind_same few) in
              omega (arith, both (Principal j) b, both a (Principal k)),
        )

  abbrev pub MovedTo : Equation → Pair → Type 0
  MovedTo d q = (e : Equation) × (bare_pair e ≡ q) × Agree (pair_items d) (pair_items e)

  circle_moved : (x : ℕ) (u t : Tree) → held x u ≡ 1 → held x t ≡ 1 → (d : Equation)
      → bare_pair d ≡ record { left = name x; right = subst x u t } → MovedTo d (record { left = name x; right = subst x t u })
  circle_moved x (name n) t once_u once_t d same =
      let it = some_bit (n == x) once_u in
      let right : subst x (name n) t ≡ subst x t (name n) =
      ap (λ m. subst x (name m) t) (eqb-true n x it) ∙ itself_put x t ∙ sym (ap (λ b. cond b t (name n)) it) in
      (d, same ∙ (λ i. record { left = name x; right = right i }), agree_itself (pair_items d))
  circle_moved x (agent s us) (name n) once_u once_t d same =
      let it = some_bit (n == x) once_t in
      let right : subst x (agent s us) (name n) ≡ subst x (name n) (agent s us) =
      ap (λ b. cond b (agent s us) (name n)) it ∙ sym (itself_put x (agent s us)) ∙ sym (ap (λ m. subst x (name m) (agent s us)) (eqb-true n x it)) in
      (d, same ∙ (λ i. record { left = name x; right = right i }), agree_itself (pair_items d))
  circle_moved x (agent s us) (agent r vs) once_u once_t d same =
      let found = parted x d.right (agent s us) (agent r vs) (ap (λ (p : Pair). p.right) same) once_t in
      let U = found.0 in
      let V = found.1 in
      let after : Equation = record d { right = put x V U } in
      let left : bare d.left ≡ name x = ap (λ (p : Pair). p.left) same in (
        after,
        λ i. record { left = left i; right = (bare-put x V U ∙ (λ h. subst x (found.3 h) (found.2 h))) i },
        transport (λ (m : Marked). Agree (pair_items (record d { right = m })) (pair_items after)) (sym found.4)
            (by d.left_side d.right_side d.left U V left found.2 found.3 (ap (held x) found.2 ∙ once_u) (ap (held x) found.3 ∙ once_t)),
      )
    where
      by : (l m : Side) (L U V : Marked) → bare L ≡ name x → bare U ≡ agent s us → bare V ≡ agent r vs → held x (bare U) ≡ 1 → held x (bare V) ≡ 1
          → Agree (pair_items (record { left_side = l; right_side = m; left = L; right = put x U V })) (pair_items (record { left_side = l; right_side = m; left = L; right = put x V U }))
      by l m (letter n) (node k1 s1 us1) (node k2 s2 us2) is is_u is_v o1 o2 =
          let same_name : x ≡ n = cc in
          transport (λ (n : ℕ). Agree (stood n (Principal k2) ∷ items_in (put x (node k1 s1 us1) (node k2 s2 us2))) (stood n (Principal k1) ∷ items_in (put x (node k2 s2 us2) (node k1 s1 us1)))) same_name
          (recut x k1 s1 us1 k2 s2 us2 o1 o2)
      by l m (node k0 s0 us0) U V is is_u is_v o1 o2 = cc
      by l m (letter n) (letter i) V is is_u is_v o1 o2 = cc
      by l m (letter n) (node k1 s1 us1) (letter i) is is_u is_v o1 o2 = cc

  -- ---- equations

  sides_turned : (w : Item → ℕ) → Symmetric w → (l r : Side) (t u : Marked) → sum w (sides_items l r t u) ≡ sum w (sides_items r l u t)
  sides_turned w even l r (letter m) (letter n) = omega (arith, even.1 l r)
  sides_turned w even l r (node k s ts) (node j q us) = ap (λ m. m + 0) (even.0 (Principal k) (Principal j))
  sides_turned w even l r _ _ = refl

  abbrev turned_round : Equation → Equation
  turned_round d = record { left_side = d.right_side; right_side = d.left_side; left = d.right; right = d.left }

  turned_counts : (d : Equation) → SameCounts (pair_items d) (pair_items (turned_round d))
  turned_counts d w even =
      let middle = sides_items d.left_side d.right_side d.left d.right in
      let back = sides_items d.right_side d.left_side d.right d.left in
      omega (arith, sum-append w (items_in d.left) (middle ++ items_in d.right), sum-append w middle (items_in d.right), sum-append w (items_in d.right) (back ++ items_in d.left), sum-append w back (items_in d.left), sides_turned w even d.left_side d.right_side d.left d.right)

  pair_moved : (p q : Pair) → Alike p q → (d : Equation) → bare_pair d ≡ p → MovedTo d q
  pair_moved p q (itself o) d same = (d, same, agree_itself (pair_items d))
  pair_moved p q (exchanged o) d same = (turned_round d, ap turned same, by_counts (pair_items d) (pair_items (turned_round d)) (turned_counts d))
  pair_moved p q (rotated o i r) d same =
      let found = circle_moved r.cut r.inner r.outer (held-occurrences r.cut r.inner ∙ r.once_inner) (held-occurrences r.cut r.outer ∙ r.once_outer) d (same ∙ r.given) in
      (found.0, found.1 ∙ sym r.result, found.2)
  pair_moved p q (in_turn o m i first second) d same =
      let one = pair_moved p m first d same in
      let two = pair_moved m q second one.0 one.1 in
      (two.0, two.1, agree_through (pair_items d) (pair_items one.0) (pair_items two.0) one.2 two.2)

  abbrev pub AllMoved : List Equation → List Pair → Type 0
  AllMoved ds fs = (es : List Equation) × (map bare_pair es ≡ fs) × Agree (all_items ds) (all_items es)

  pub all_moved : (es fs : List Pair) → Rearranged es fs → (ds : List Equation) → map bare_pair ds ≡ es → AllMoved ds fs
  all_moved es fs nothing [] same = ([], refl, agree_itself [])
  all_moved es fs nothing (d ∷ ds) same = cc
  all_moved es fs (kept p q gs hs alike rest) [] same = cc
  all_moved es fs (kept p q gs hs alike rest) (d ∷ ds) same =
      let here : bare_pair d ≡ p = cc in
      let later : map bare_pair ds ≡ gs = cc in
      let one = pair_moved p q alike d here in
      let all = all_moved gs hs rest ds later in
      (one.0 ∷ all.0, λ i. one.1 i ∷ all.1 i, agree_both (pair_items d) (pair_items one.0) (all_items ds) (all_items all.0) one.2 all.2)
  all_moved es fs (swapped p q gs) [] same = cc
  all_moved es fs (swapped p q gs) (d ∷ []) same = cc
  all_moved es fs (swapped p q gs) (d ∷ e ∷ ds) same = (
    e ∷ d ∷ ds,
    swap (bare_pair d) (bare_pair e) (map bare_pair ds) same,
    by_counts (all_items (d ∷ e ∷ ds)) (all_items (e ∷ d ∷ ds)) (λ w even.
        omega (arith, sum-append w (pair_items d) (pair_items e ++ all_items ds), sum-append w (pair_items e) (all_items ds), sum-append w (pair_items e) (pair_items d ++ all_items ds), sum-append w (pair_items d) (all_items ds))),
  )
    where
      swap : (a b : Pair) (cs : List Pair) → (a ∷ b ∷ cs) ≡ (p ∷ q ∷ gs) → (b ∷ a ∷ cs) ≡ (q ∷ p ∷ gs)
      swap a b cs is = cc
  all_moved es fs (one_by_one gs hs is first second) ds same =
      let one = all_moved gs hs first ds same in
      let two = all_moved hs is second one.0 one.1 in
      (two.0, two.1, agree_through (all_items ds) (all_items one.0) (all_items two.0) one.2 two.2)
