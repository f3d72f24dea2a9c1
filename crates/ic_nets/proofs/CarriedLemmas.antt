-- The agents and points of a net that are numbered anew are carried to others.
use Rattle.std.proofs.Common.{◌≡◌, ℕ, zero, suc, ◌+◌, ◌≤◌, ◌==◌, List, [], ◌∷◌, ◌++◌, Bool, true, false, cond, length, map, refl, sym, ap, ◌∙◌, arith}
use Rattle.std.proofs.lemmas.List.{length-append, map-append}
use Rattle.ic_term.specs.Tree.{list_of}
use Rattle.ic_nets.specs.Nets.{agents_among, agents_in, end_of, pair_agents, are_names}
use Rattle.ic_nets.specs.Likeness.{is_bound}
use Rattle.ic_nets.specs.declared.port.Port.{Port}
use Rattle.ic_nets.specs.declared.port.Port.TheVariants.{Interface, Principal, Auxiliary, Left, Right, Free}
use Rattle.ic_nets.proofs.SumLemmas.{counted, sum, sum-append, sum-map, sum-same, total-same}
use Rattle.ic_nets.proofs.MarkLemmas.{Item, wired, stood, placed, between, Side, side_port, Marked, Markeds, letter, node, no_more, more, bare, bares, hung_item, items_in, items_among, at, one}
use Rattle.ic_nets.proofs.ValueLemmas.{Weight, name_worth, joined_by, ports_in, ports-sum, value, Few}
use Rattle.ic_nets.proofs.MovedLemmas.{Equation, bare_pair, sides_items, pair_items, all_items}
use Rattle.ic_nets.proofs.DrawnLemmas.{mark, marks, mark_all, bares-marks, on_parts}

-- ---- the numbers of agents, and the sides at which names stand, in the order of the text

abbrev mutual
  pub ids_in : Marked → List ℕ
  ids_in (letter n) = []
  ids_in (node k s ts) = k ∷ ids_among ts

  pub ids_among : Markeds → List ℕ
  ids_among no_more = []
  ids_among (more t ts) = ids_in t ++ ids_among ts

abbrev pub ids_all : List Equation → List ℕ
ids_all [] = []
ids_all (d ∷ ds) = (ids_in d.left ++ ids_in d.right) ++ ids_all ds

abbrev sides_by : (l r : Side) → (t u : Marked) → List Side
sides_by l r (letter m) (letter n) = l ∷ r ∷ []
sides_by l r t u = []

abbrev pub sides_all : List Equation → List Side
sides_all [] = []
sides_all (d ∷ ds) = sides_by d.left_side d.right_side d.left d.right ++ sides_all ds

abbrev more_points : (t u : Marked) → ℕ → ℕ
more_points (letter m) (letter n) c = suc c
more_points t u c = c

abbrev pub points_all : List Equation → ℕ
points_all [] = 0
points_all (d ∷ ds) = more_points d.left d.right (points_all ds)

abbrev pub sides_counted : (first count : ℕ) → List Side
sides_counted j zero = []
sides_counted j (suc n) = (j, false) ∷ (j, true) ∷ sides_counted (j + 1) n

-- ---- what they weigh

module _ (v : ℕ → ℕ) (u : Side → ℕ) where
  abbrev pub on_numbers : Item → ℕ
  on_numbers = on_parts (λ k a. v k) (λ l r. u l + u r)

  hung_none : (p : Port) (t : Marked) → on_numbers (hung_item p t) ≡ 0
  hung_none p (letter n) = refl
  hung_none p (node k s ts) = refl

  mutual
    ids_sum_in : (t : Marked) → sum on_numbers (items_in t) ≡ sum v (ids_in t)
    ids_sum_in (letter n) = refl
    ids_sum_in (node k s ts) = ap (λ n. v k + n) (ids_sum_among (Auxiliary k) 1 ts)

    pub ids_sum_among : (port : ℕ → Port) (i : ℕ) (ts : Markeds) → sum on_numbers (items_among port i ts) ≡ sum v (ids_among ts)
    ids_sum_among port i no_more = refl
    ids_sum_among port i (more t ts) =
        omega (arith, sum-append v (ids_in t) (ids_among ts), ids_sum_in t, ids_sum_among port (i + 1) ts, hung_none (port i) t, sum-append on_numbers (items_in t) (items_among port (i + 1) ts))

  sides_sum_by : (l r : Side) (t w : Marked) → sum on_numbers (sides_items l r t w) ≡ sum u (sides_by l r t w)
  sides_sum_by l r (letter m) (letter n) = omega arith
  sides_sum_by l r (node k s ts) (node j q us) = refl
  sides_sum_by l r t w = refl

  pub numbers_sum : (ds : List Equation) → sum on_numbers (all_items ds) ≡ sum v (ids_all ds) + sum u (sides_all ds)
  numbers_sum [] = refl
  numbers_sum (d ∷ ds) =
      let middle = sides_items d.left_side d.right_side d.left d.right in
      let ids = sum-append v (ids_in d.left ++ ids_in d.right) (ids_all ds) in
      let both = sum-append v (ids_in d.left) (ids_in d.right) in
      let sides = sum-append u (sides_by d.left_side d.right_side d.left d.right) (sides_all ds) in
      let items = sum-append on_numbers (pair_items d) (all_items ds) in
      let left = sum-append on_numbers (items_in d.left) (middle ++ items_in d.right) in
      let right = sum-append on_numbers middle (items_in d.right) in
      omega (arith, ids_sum_in d.left, ids_sum_in d.right, sides_sum_by d.left_side d.right_side d.left d.right, numbers_sum ds)

-- ---- lists that are counted on

pub length_counted : (k n : ℕ) → n ≡ length (counted k n)
length_counted k zero = refl
length_counted k (suc n) = ap suc (length_counted (k + 1) n)

pub sides_length : (j : ℕ) (ds : List Equation) → length (sides_all ds) ≡ length (sides_counted j (points_all ds))
sides_length j [] = refl
sides_length j (d ∷ ds) = by d.left d.right (sides_length j ds) (sides_length (j + 1) ds)
  where
    by : (t u : Marked) → length (sides_all ds) ≡ length (sides_counted j (points_all ds)) → length (sides_all ds) ≡ length (sides_counted (j + 1) (points_all ds))
        → length (sides_by d.left_side d.right_side t u ++ sides_all ds) ≡ length (sides_counted j (more_points t u (points_all ds)))
    by (letter m) (letter n) here next = ap (λ c. suc (suc c)) next
    by (letter m) (node k s ts) here next = here
    by (node k s ts) u here next = here

module _ (f : ℕ → ℕ) where
  pub parted_count : (k : ℕ) (xs ys : List ℕ) → map f (xs ++ ys) ≡ counted k (length (xs ++ ys)) → (map f xs ≡ counted k (length xs)) × (map f ys ≡ counted (k + length xs) (length ys))
  parted_count k [] ys same = let none : k ≡ k + 0 = omega arith in (refl, same ∙ ap (λ j. counted j (length ys)) none)
  parted_count k (x ∷ xs) ys same =
      let here : f x ≡ k = cc in
      let rest : map f (xs ++ ys) ≡ counted (k + 1) (length (xs ++ ys)) = cc in
      let later = parted_count (k + 1) xs ys rest in
      let count : k + 1 + length xs ≡ k + suc (length xs) = omega arith in
      ((λ i. here i ∷ later.0 i), later.1 ∙ ap (λ j. counted j (length ys)) count)

-- ---- agents and points are carried

module _ (f : ℕ → ℕ) (g : Side → Side) where
  abbrev pub carry : Port → Port
  carry (Principal k) = Principal (f k)
  carry (Auxiliary k i) = Auxiliary (f k) i
  carry (Left j) = side_port (g (j, false))
  carry (Right j) = side_port (g (j, true))
  carry p = p

  abbrev pub carry_item : Item → Item
  carry_item (wired p q) = wired (carry p) (carry q)
  carry_item (stood n p) = stood n (carry p)
  carry_item (placed k a) = placed (f k) a
  carry_item (between l r) = between (g l) (g r)

  pub carry_side : (s : Side) → carry (side_port s) ≡ side_port (g s)
  carry_side (j, true) = refl
  carry_side (j, false) = refl

  mutual
    ids_count : (t : Marked) → length (ids_in t) ≡ length (agents_in (bare t))
    ids_count (letter n) = refl
    ids_count (node k s ts) = ap suc (all_ids_count ts)

    pub all_ids_count : (ts : Markeds) → length (ids_among ts) ≡ length (agents_among (bares ts))
    all_ids_count no_more = refl
    all_ids_count (more t ts) = length-append (ids_in t) (ids_among ts) ∙ (λ i. ids_count t i + all_ids_count ts i) ∙ sym (length-append (agents_in (bare t)) (agents_among (bares ts)))

  hung_carried : (p q : Port) → carry p ≡ q → (k : ℕ) (t : Marked) → map f (ids_in t) ≡ counted k (length (ids_in t)) → carry_item (hung_item p t) ≡ hung_item q (mark k (bare t))
  hung_carried p q same k (letter n) ids = ap (stood n) same
  hung_carried p q same k (node j s ts) ids = let here : f j ≡ k = cc in λ i. wired (same i) (Principal (here i))

  mutual
    items_carried : (k : ℕ) (t : Marked) → map f (ids_in t) ≡ counted k (length (ids_in t)) → map carry_item (items_in t) ≡ items_in (mark k (bare t))
    items_carried k (letter n) ids = refl
    items_carried k (node j s ts) ids =
        let here : f j ≡ k = cc in
        let rest : map f (ids_among ts) ≡ counted (k + 1) (length (ids_among ts)) = cc in
        let arity : length (list_of (bares ts)) ≡ length (list_of (bares (marks (k + 1) (bares ts)))) = ap (λ us. length (list_of us)) (sym (bares-marks (k + 1) (bares ts))) in
        λ i. placed (here i) (record { sym = s; arity = arity i }) ∷ among_carried (Auxiliary j) (Auxiliary k) (λ n d. Auxiliary (here d) n) 1 (k + 1) ts rest i

    pub among_carried : (port ports : ℕ → Port) → ((i : ℕ) → carry (port i) ≡ ports i) → (i k : ℕ) (ts : Markeds) → map f (ids_among ts) ≡ counted k (length (ids_among ts))
        → map carry_item (items_among port i ts) ≡ items_among ports i (marks k (bares ts))
    among_carried port ports same i k no_more ids = refl
    among_carried port ports same i k (more t ts) ids =
        let parts = parted_count f k (ids_in t) (ids_among ts) ids in
        let hung = hung_carried (port i) (ports i) (same i) k t parts.0 in
        let first = items_carried k t parts.0 in
        let later = among_carried port ports same (i + 1) (k + length (ids_in t)) ts parts.1 in
        ap (λ xs. carry_item (hung_item (port i) t) ∷ xs) (map-append carry_item (items_in t) (items_among port (i + 1) ts))
        ∙ (λ d. hung d ∷ (first d ++ later d))
        ∙ ap (λ j. hung_item (ports i) (mark k (bare t)) ∷ (items_in (mark k (bare t)) ++ items_among ports (i + 1) (marks (k + j) (bares ts)))) (ids_count t)

  sides_carried : (l r : Side) (j k i : ℕ) (t u : Marked) → map f (ids_in t) ≡ counted k (length (ids_in t)) → map f (ids_in u) ≡ counted i (length (ids_in u))
      → map g (sides_by l r t u) ≡ sides_counted j (more_points t u 0) → map carry_item (sides_items l r t u) ≡ sides_items (j, false) (j, true) (mark k (bare t)) (mark i (bare u))
  sides_carried l r j k i (letter m) (letter n) ids_t ids_u sides =
      let left : g l ≡ (j, false) = cc in
      let right : g r ≡ (j, true) = cc in
      λ d. stood m ((carry_side l ∙ ap side_port left) d) ∷ stood n ((carry_side r ∙ ap side_port right) d) ∷ between (left d) (right d) ∷ []
  sides_carried l r j k i (letter m) (node a s ts) ids_t ids_u sides = let here : f a ≡ i = cc in λ d. stood m (Principal (here d)) ∷ []
  sides_carried l r j k i (node a s ts) (letter n) ids_t ids_u sides = let here : f a ≡ k = cc in λ d. stood n (Principal (here d)) ∷ []
  sides_carried l r j k i (node a s ts) (node b q us) ids_t ids_u sides =
      let left : f a ≡ k = cc in
      let right : f b ≡ i = cc in
      λ d. wired (Principal (left d)) (Principal (right d)) ∷ []

  -- the sides of an equation, and those after it
  parted_sides : (l r : Side) (j k i : ℕ) (t u : Marked) (ss : List Side) (m : ℕ) → map g (sides_by l r t u ++ ss) ≡ sides_counted j (more_points t u m)
      → (map g (sides_by l r t u) ≡ sides_counted j (more_points t u 0)) × (map g ss ≡ sides_counted (cond (are_names (end_of k (bare t)) (end_of i (bare u))) (j + 1) j) m)
  parted_sides l r j k i (letter x) (letter y) ss m same =
      let left : g l ≡ (j, false) = cc in
      let right : g r ≡ (j, true) = cc in
      let rest : map g ss ≡ sides_counted (j + 1) m = cc in
      ((λ d. left d ∷ right d ∷ []), rest)
  parted_sides l r j k i (node a s ts) (node b q us) ss m same = (refl, same)
  parted_sides l r j k i t u ss m same = (refl, same)

  pub all_carried : (j k : ℕ) (ds : List Equation) → map f (ids_all ds) ≡ counted k (length (ids_all ds)) → map g (sides_all ds) ≡ sides_counted j (points_all ds)
      → map carry_item (all_items ds) ≡ all_items (mark_all j k (map bare_pair ds))
  all_carried j k [] ids sides = refl
  all_carried j k (d ∷ ds) ids sides =
      let l = bare d.left in
      let r = bare d.right in
      let outer = parted_count f k (ids_in d.left ++ ids_in d.right) (ids_all ds) ids in
      let inner = parted_count f k (ids_in d.left) (ids_in d.right) outer.0 in
      let right = k + length (ids_in d.left) in
      let later = k + length (ids_in d.left ++ ids_in d.right) in
      let parts = parted_sides d.left_side d.right_side j k right d.left d.right (sides_all ds) (points_all ds) sides in
      let middle = sides_items d.left_side d.right_side d.left d.right in
      let point : ℕ = cond (are_names (end_of k l) (end_of right r)) (j + 1) j in
      let both : length (ids_in d.left ++ ids_in d.right) ≡ length (pair_agents (bare_pair d)) =
      length-append (ids_in d.left) (ids_in d.right) ∙ (λ i. ids_count d.left i + ids_count d.right i) ∙ sym (length-append (agents_in l) (agents_in r)) in
      map-append carry_item (pair_items d) (all_items ds)
      ∙ ap (λ xs. xs ++ map carry_item (all_items ds)) (map-append carry_item (items_in d.left) (middle ++ items_in d.right) ∙ ap (λ xs. map carry_item (items_in d.left) ++ xs) (map-append carry_item middle (items_in d.right)))
      ∙ (λ h. (items_carried k d.left inner.0 h ++ (sides_carried d.left_side d.right_side j k right d.left d.right inner.0 inner.1 parts.0 h ++ items_carried right d.right inner.1 h))
      ++ all_carried point later ds outer.1 parts.1 h)
      ∙ (λ h. (items_in (mark k l) ++ (sides_items (j, false) (j, true) (mark k l) (mark (k + ids_count d.left h) r) ++ items_in (mark (k + ids_count d.left h) r)))
      ++ all_items (mark_all (cond (are_names (end_of k l) (end_of (k + ids_count d.left h) r)) (j + 1) j) (k + both h) (map bare_pair ds)))

-- ---- carrying is one-to-one

abbrev kind : Port → ℕ
kind (Interface i) = 0
kind (Principal k) = 1
kind (Auxiliary k i) = 2
kind (Free n) = 3
kind p = 4

abbrev side_of : Port → Side
side_of (Left j) = (j, false)
side_of (Right j) = (j, true)
side_of p = (0, false)

side_back : (s : Side) → side_of (side_port s) ≡ s
side_back (j, true) = refl
side_back (j, false) = refl

side_kind : (s : Side) → kind (side_port s) ≡ 4
side_kind (j, true) = refl
side_kind (j, false) = refl

side_bound : (s : Side) → is_bound (side_port s) ≡ true
side_bound (j, true) = refl
side_bound (j, false) = refl

module _ (f : ℕ → ℕ) (g : Side → Side) (one_f : (x y : ℕ) → f x ≡ f y → x ≡ y) (one_g : (x y : Side) → g x ≡ g y → x ≡ y) where
  pub carry_bound : (p : Port) → is_bound p ≡ true → is_bound (carry f g p) ≡ true
  carry_bound (Left j) b = side_bound (g (j, false))
  carry_bound (Right j) b = side_bound (g (j, true))
  carry_bound p b = b

  carry_kind : (p : Port) → kind (carry f g p) ≡ kind p
  carry_kind (Left j) = side_kind (g (j, false))
  carry_kind (Right j) = side_kind (g (j, true))
  carry_kind p = refl

  same_side : (s t : Side) → side_port (g s) ≡ side_port (g t) → s ≡ t
  same_side s t same = one_g s t (sym (side_back (g s)) ∙ ap side_of same ∙ side_back (g t))

  apart_by : (p q : Port) → kind p ≡ kind q → carry f g p ≡ carry f g q → p ≡ q
  apart_by (Interface i) (Interface j) kinds same = same
  apart_by (Principal i) (Principal j) kinds same = ap Principal (one_f i j (cc))
  apart_by (Auxiliary k i) (Auxiliary l j) kinds same = let hosts = one_f k l (cc) in let places : i ≡ j = cc in λ d. Auxiliary (hosts d) (places d)
  apart_by (Left i) (Left j) kinds same = ap side_port (same_side (i, false) (j, false) same)
  apart_by (Left i) (Right j) kinds same = ap side_port (same_side (i, false) (j, true) same)
  apart_by (Right i) (Left j) kinds same = ap side_port (same_side (i, true) (j, false) same)
  apart_by (Right i) (Right j) kinds same = ap side_port (same_side (i, true) (j, true) same)
  apart_by (Free i) (Free j) kinds same = same
  apart_by p q kinds same = absurd (omega (arith, kinds))

  pub carry_apart : (p q : Port) → carry f g p ≡ carry f g q → p ≡ q
  carry_apart p q same = apart_by p q (sym (carry_kind p) ∙ ap kind same ∙ carry_kind q) same

  -- ---- what is carried weighs as much by what it is carried to

  ports_carried : (n : ℕ) (xs : List Item) → ports_in n (map (carry_item f g) xs) ≡ map (carry f g) (ports_in n xs)
  ports_carried n [] = refl
  ports_carried n (stood m p ∷ xs) = by (m == n) (ports_carried n xs)
    where
      by : (b : Bool) → ports_in n (map (carry_item f g) xs) ≡ map (carry f g) (ports_in n xs)
          → cond b (carry f g p ∷ ports_in n (map (carry_item f g) xs)) (ports_in n (map (carry_item f g) xs)) ≡ map (carry f g) (cond b (p ∷ ports_in n xs) (ports_in n xs))
      by true later = ap (λ ps. carry f g p ∷ ps) later
      by false later = later
  ports_carried n (x ∷ xs) = ports_carried n xs

  module _ (P : Weight) where
    abbrev pub before_carry : Weight
    before_carry p q = P (carry f g p) (carry f g q)

    worth_carried : (n : ℕ) (ps : List Port) → sum one ps ≤ 2 → name_worth before_carry n ps ≡ name_worth P n (map (carry f g) ps)
    worth_carried n (p ∷ q ∷ r ∷ ps) low = absurd (omega (arith, low))
    worth_carried n _ low = refl

    joined_carried : (x : Item) → joined_by before_carry x ≡ joined_by P (carry_item f g x)
    joined_carried (wired p q) = refl
    joined_carried x = refl

    pub value_carried : (N : ℕ) (xs : List Item) → Few N xs → value before_carry N xs ≡ value P N (map (carry_item f g) xs)
    value_carried N xs few =
        λ i. (sum-same (joined_by before_carry) (λ x. joined_by P (carry_item f g x)) joined_carried xs ∙ sym (sum-map (carry_item f g) (joined_by P) xs)) i
        + total-same (λ n. name_worth before_carry n (ports_in n xs)) (λ n. name_worth P n (ports_in n (map (carry_item f g) xs)))
        (λ n. worth_carried n (ports_in n xs) (omega (arith, ports-sum n one xs, (few n).0)) ∙ ap (name_worth P n) (sym (ports_carried n xs))) N i

  at_carried : (n : ℕ) (x : Item) → at n one (carry_item f g x) ≡ at n one x
  at_carried n (wired p q) = refl
  at_carried n x = refl

  pub few_carried : (N : ℕ) (xs : List Item) → Few N xs → Few N (map (carry_item f g) xs)
  few_carried N xs few n =
      let same = sum-map (carry_item f g) (at n one) xs ∙ sum-same (λ x. at n one (carry_item f g x)) (at n one) (at_carried n) xs in
      (omega (arith, same, (few n).0), λ le. same ∙ (few n).1 le)
