-- Laws of bindings put in.
use Rattle.std.proofs.Common.{◌≡◌, ℕ, ◌+◌, ◌*◌, ◌==◌, List, [], ◌∷◌, ◌++◌, Bool, true, false, cond, map, refl, sym, ap, ◌∙◌, arith}
use Rattle.std.proofs.lemmas.Bool.{eqb-true, eqb-false, ne_eqb}
use Rattle.std.specs.List.{flat_map}
use Rattle.ic_term.specs.Tree.{Tree, name, agent, Trees, no_trees, more_trees, trees_of, Pair, names, names_of, nodes, nodes_of, pair_names}
use Rattle.ic_term.specs.Configuration.{names_in, occurrences}
use Rattle.ic_settle.specs.Settling.{Binding, subst, subst_all, subst_pair}
use Rattle.ic_settle.specs.lemmas.Waiting.{put_each, put_each_pair, bound}
use Rattle.ic_settle.specs.lemmas.SubstitutionLaws.{occurrences-append, occurrences-cons}
use Rattle.ic_settle.specs.lemmas.WholeLaws.{whole, names_of-whole, subst_all-whole}

-- ---- arguments as lists

pub names_of-trees_of : (ts : List Tree) → names_of (trees_of ts) ≡ flat_map names ts
names_of-trees_of [] = refl
names_of-trees_of (t ∷ ts) = ap (λ ns. names t ++ ns) (names_of-trees_of ts)

subst_all-trees_of : (x : ℕ) (u : Tree) (ts : List Tree) → subst_all x u (trees_of ts) ≡ trees_of (map (subst x u) ts)
subst_all-trees_of x u [] = refl
subst_all-trees_of x u (t ∷ ts) = ap (more_trees (subst x u t)) (subst_all-trees_of x u ts)

pub one_node : (t : Tree) → (n : ℕ) × (nodes t ≡ n + 1)
one_node (name x) = (0, refl)
one_node (agent s ts) = (nodes_of ts, omega arith)

-- ---- one more binding

pub map_put : (b : Binding) (bs : List Binding) (ts : List Tree) → map (subst b.name b.term) (map (put_each bs) ts) ≡ map (put_each (b ∷ bs)) ts
map_put b bs [] = refl
map_put b bs (t ∷ ts) = ap (λ r. put_each (b ∷ bs) t ∷ r) (map_put b bs ts)

pub map_put_pair : (b : Binding) (bs : List Binding) (ps : List Pair) → map (subst_pair b.name b.term) (map (put_each_pair bs) ps) ≡ map (put_each_pair (b ∷ bs)) ps
map_put_pair b bs [] = refl
map_put_pair b bs (p ∷ ps) = ap (λ r. put_each_pair (b ∷ bs) p ∷ r) (map_put_pair b bs ps)

pub map_put_none : (ts : List Tree) → map (put_each []) ts ≡ ts
map_put_none [] = refl
map_put_none (t ∷ ts) = ap (λ r. t ∷ r) (map_put_none ts)

pub map_put_pair_none : (ps : List Pair) → map (put_each_pair []) ps ≡ ps
map_put_pair_none [] = refl
map_put_pair_none (p ∷ ps) = ap (λ r. p ∷ r) (map_put_pair_none ps)

-- ---- an agent, and a name that isn't bound

pub put_each-agent : (bs : List Binding) (s : ℕ) (ts : List Tree) → put_each bs (agent s (trees_of ts)) ≡ agent s (trees_of (map (put_each bs) ts))
put_each-agent [] s ts = ap (λ us. agent s (trees_of us)) (sym (map_put_none ts))
put_each-agent (b ∷ bs) s ts =
    ap (subst b.name b.term) (put_each-agent bs s ts)
    ∙ ap (agent s) (subst_all-trees_of b.name b.term (map (put_each bs) ts) ∙ ap trees_of (map_put b bs ts))

pub put_each-stays_agent : (bs : List Binding) (s : ℕ) (ts : Trees) → (us : Trees) × (put_each bs (agent s ts) ≡ agent s us)
put_each-stays_agent [] s ts = (ts, refl)
put_each-stays_agent (b ∷ bs) s ts =
    let rest = put_each-stays_agent bs s ts in (subst_all b.name b.term rest.0, ap (subst b.name b.term) rest.1)

other_name : (x : ℕ) (u : Tree) (y : ℕ) → (x == y) ≡ false → subst x u (name y) ≡ name y
other_name x u y e = ap (λ b. cond b u (name y)) (ne_eqb y x (λ same. eqb-false x y e (sym same)))

pub bound-cons : (y : ℕ) (b : Binding) (bs : List Binding) → bound y (b ∷ bs) ≡ cond (b.name == y) 1 0 + bound y bs
bound-cons y b bs = occurrences-cons y b.name (map (λ c. c.name) bs)

pub counted_no : (c : Bool) (r : ℕ) → cond c 1 0 + r ≡ 0 → (c ≡ false) × (r ≡ 0)
counted_no true r e = absurd (omega arith)
counted_no false r e = (refl, omega arith)

pub put_each-unbound : (bs : List Binding) (y : ℕ) → bound y bs ≡ 0 → put_each bs (name y) ≡ name y
put_each-unbound [] y none = refl
put_each-unbound (b ∷ bs) y none =
    let parts = counted_no (b.name == y) (bound y bs) (sym (bound-cons y b bs) ∙ none) in
    ap (subst b.name b.term) (put_each-unbound bs y parts.1) ∙ other_name b.name b.term y parts.0

-- ---- how often a name occurs after a substitution of another one

product_one : (A p a k : ℕ) → A ≡ k → p ≡ 0 → a ≡ 1 → A ≡ p + a * k
product_one A p a k f g h = rw (f, g, h) (omega arith)

product_none : (A p a k : ℕ) → A ≡ p → a ≡ 0 → A ≡ p + a * k
product_none A p a k f g = rw (f, g) (omega arith)

product_sum : (p a m q b n o s w k : ℕ) → p ≡ m + a * k → q ≡ n + b * k → o ≡ a + b → s ≡ m + n → w ≡ p + q → w ≡ s + o * k
product_sum p a m q b n o s w k e f g h i = rw (i, h, g, e, f) (omega arith)

exact_name : (n x : ℕ) (u : Tree) (m : ℕ) → (x == n) ≡ false → (b : Bool) → (m == x) ≡ b
    → occurrences n (names (cond (m == x) u (name m))) ≡ occurrences n (m ∷ []) + occurrences x (m ∷ []) * occurrences n (names u)
exact_name n x u m ne true e =
    let absent : occurrences n (m ∷ []) ≡ 0 = ap (λ j. occurrences n (j ∷ [])) (eqb-true m x e) ∙ ap (λ b. 0 + cond b 1 0) ne in
    let once : occurrences x (m ∷ []) ≡ 1 = ap (λ b. 0 + cond b 1 0) e in
    product_one (occurrences n (names (cond (m == x) u (name m)))) (occurrences n (m ∷ [])) (occurrences x (m ∷ [])) (occurrences n (names u))
    (ap (λ b. occurrences n (names (cond b u (name m)))) e) absent once
exact_name n x u m ne false e =
    let never : occurrences x (m ∷ []) ≡ 0 = ap (λ b. 0 + cond b 1 0) e in
    product_none (occurrences n (names (cond (m == x) u (name m)))) (occurrences n (m ∷ [])) (occurrences x (m ∷ [])) (occurrences n (names u))
    (ap (λ b. occurrences n (names (cond b u (name m)))) e) never

mutual
  pub occurrences-exact : (n x : ℕ) (u t : Tree) → (x == n) ≡ false
      → occurrences n (names (subst x u t)) ≡ occurrences n (names t) + occurrences x (names t) * occurrences n (names u)
  occurrences-exact n x u (name m) ne = exact_name n x u m ne (m == x) refl
  occurrences-exact n x u (agent s ts) ne = occurrences-exact_all n x u ts ne

  pub occurrences-exact_all : (n x : ℕ) (u : Tree) (ts : Trees) → (x == n) ≡ false
      → occurrences n (names_of (subst_all x u ts)) ≡ occurrences n (names_of ts) + occurrences x (names_of ts) * occurrences n (names u)
  occurrences-exact_all n x u no_trees ne = omega arith
  occurrences-exact_all n x u (more_trees t ts) ne =
      product_sum (occurrences n (names (subst x u t))) (occurrences x (names t)) (occurrences n (names t)) (occurrences n (names_of (subst_all x u ts)))
      (occurrences x (names_of ts)) (occurrences n (names_of ts)) _ _ _ (occurrences n (names u))
      (occurrences-exact n x u t ne) (occurrences-exact_all n x u ts ne)
      (occurrences-append x (names t) (names_of ts)) (occurrences-append n (names t) (names_of ts)) (occurrences-append n (names (subst x u t)) (names_of (subst_all x u ts)))

pub occurrences-exact_pair : (n x : ℕ) (u : Tree) (p : Pair) → (x == n) ≡ false
    → occurrences n (pair_names (subst_pair x u p)) ≡ occurrences n (pair_names p) + occurrences x (pair_names p) * occurrences n (names u)
occurrences-exact_pair n x u p ne =
    product_sum (occurrences n (names (subst x u p.left))) (occurrences x (names p.left)) (occurrences n (names p.left)) (occurrences n (names (subst x u p.right)))
    (occurrences x (names p.right)) (occurrences n (names p.right)) _ _ _ (occurrences n (names u))
    (occurrences-exact n x u p.left ne) (occurrences-exact n x u p.right ne)
    (occurrences-append x (names p.left) (names p.right)) (occurrences-append n (names p.left) (names p.right))
    (occurrences-append n (names (subst x u p.left)) (names (subst x u p.right)))

pub occurrences-exact_in : (n x : ℕ) (u : Tree) (ts : List Tree) (es : List Pair) → (x == n) ≡ false
    → occurrences n (names_in (map (subst x u) ts) (map (subst_pair x u) es)) ≡ occurrences n (names_in ts es) + occurrences x (names_in ts es) * occurrences n (names u)
occurrences-exact_in n x u ts es ne =
    let exact = occurrences-exact_all n x u (whole ts es) ne in
    let renamed : names_of (subst_all x u (whole ts es)) ≡ names_in (map (subst x u) ts) (map (subst_pair x u) es) =
    ap names_of (subst_all-whole x u ts es) ∙ names_of-whole (map (subst x u) ts) (map (subst_pair x u) es) in
    rw (← renamed, ← names_of-whole ts es) exact
