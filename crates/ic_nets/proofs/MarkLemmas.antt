-- Terms whose agents keep their numbers wherever they are put, and what is joined in them.
use Rattle.std.proofs.Common.{◌≡◌, ℕ, zero, suc, ◌+◌, ◌==◌, ◌⊎◌, inl, inr, List, [], ◌∷◌, ◌++◌, Bool, true, false, cond, length, refl, sym, ap, ◌∙◌, arith, subst as transport}
use Rattle.std.proofs.lemmas.Bool.{cond_both, eqb-true}
use Rattle.ic_term.specs.Tree.{Tree, name, agent, Trees, no_trees, more_trees, list_of, names, names_of}
use Rattle.ic_term.specs.Configuration.{occurrences}
use Rattle.ic_settle.specs.Settling.{subst, subst_all}
use Rattle.ic_settle.specs.lemmas.SubstitutionLaws.{subst-absent, subst_all-absent}
use Rattle.ic_nets.specs.declared.net.Agent.{Agent}
use Rattle.ic_nets.specs.declared.port.Port.{Port}
use Rattle.ic_nets.specs.declared.port.Port.TheVariants.{Principal, Auxiliary, Left, Right}
use Rattle.ic_nets.proofs.SumLemmas.{bit, sum, sum-append, sum-count}

-- the left or the right side of an equation of two names
abbrev pub Side : Type 0
Side = ℕ × Bool

abbrev pub side_port : Side → Port
side_port s = cond s.1 (Right s.0) (Left s.0)

-- what a net has: two ports that are joined, a name at a port, an agent with its number, and a point between two sides
pub data Item : Type 0 where
  wired : Port → Port → Item
  stood : ℕ → Port → Item
  placed : ℕ → Agent → Item
  between : Side → Side → Item

-- a term whose agents have numbers
mutual
  pub data Marked : Type 0 where
    letter : ℕ → Marked
    node : ℕ → ℕ → Markeds → Marked

  pub data Markeds : Type 0 where
    no_more : Markeds
    more : Marked → Markeds → Markeds

-- without the numbers
abbrev mutual
  pub bare : Marked → Tree
  bare (letter n) = name n
  bare (node k s ts) = agent s (bares ts)

  pub bares : Markeds → Trees
  bares no_more = no_trees
  bares (more t ts) = more_trees (bare t) (bares ts)

-- a term hangs at a port
abbrev pub hung_item : Port → Marked → Item
hung_item p (letter n) = stood n p
hung_item p (node k s ts) = wired p (Principal k)

abbrev pub shape : ℕ → Markeds → Agent
shape s ts = record { sym = s; arity = length (list_of (bares ts)) }

abbrev mutual
  pub items_in : Marked → List Item
  items_in (letter n) = []
  items_in (node k s ts) = placed k (shape s ts) ∷ items_among (Auxiliary k) 1 ts

  pub items_among : (ℕ → Port) → ℕ → Markeds → List Item
  items_among port i no_more = []
  items_among port i (more t ts) = hung_item (port i) t ∷ (items_in t ++ items_among port (i + 1) ts)

-- a term put for a name
abbrev mutual
  pub put : ℕ → Marked → Marked → Marked
  put x u (letter n) = cond (n == x) u (letter n)
  put x u (node k s ts) = node k s (puts x u ts)

  pub puts : ℕ → Marked → Markeds → Markeds
  puts x u no_more = no_more
  puts x u (more t ts) = more (put x u t) (puts x u ts)

-- ---- how often a name occurs

module _ (x : ℕ) where
  abbrev mutual
    pub held : Tree → ℕ
    held (name n) = bit (n == x)
    held (agent s ts) = helds ts

    pub helds : Trees → ℕ
    helds no_trees = 0
    helds (more_trees t ts) = held t + helds ts

  abbrev is_it : ℕ → ℕ
  is_it n = bit (n == x)

  mutual
    held-sum : (t : Tree) → held t ≡ sum is_it (names t)
    held-sum (name n) = omega arith
    held-sum (agent s ts) = helds-sum ts

    helds-sum : (ts : Trees) → helds ts ≡ sum is_it (names_of ts)
    helds-sum no_trees = refl
    helds-sum (more_trees t ts) = (λ i. held-sum t i + helds-sum ts i) ∙ sym (sum-append is_it (names t) (names_of ts))

  pub sum-occurrences : (ns : List ℕ) → sum is_it ns ≡ occurrences x ns
  sum-occurrences ns = sum-count (λ n. n == x) ns

  pub held-occurrences : (t : Tree) → held t ≡ occurrences x (names t)
  held-occurrences t = held-sum t ∙ sum-occurrences (names t)

  none : (b : Bool) → bit b ≡ 0 → b ≡ false
  none true e = absurd (omega arith)
  none false e = refl

  some : (b : Bool) → bit b ≡ 1 → b ≡ true
  some true e = refl
  some false e = absurd (omega arith)

  one_of : (a b : ℕ) → a + b ≡ 1 → ((a ≡ 1) × (b ≡ 0)) ⊎ ((a ≡ 0) × (b ≡ 1))
  one_of zero b e = inr (refl, omega (arith, e))
  one_of (suc zero) b e = inl (refl, omega (arith, e))
  one_of (suc (suc a)) b e = absurd (omega (arith, e))

  -- ---- putting a term for a name

  tree_kept : (u t : Tree) → held t ≡ 0 → subst x u t ≡ t
  tree_kept u t e = subst-absent x u t (sym (held-occurrences t) ∙ e)

  trees_kept : (u : Tree) (ts : Trees) → helds ts ≡ 0 → subst_all x u ts ≡ ts
  trees_kept u ts e = subst_all-absent x u ts (sym (helds-sum ts ∙ sum-occurrences (names_of ts)) ∙ e)

  mutual
    pub itself_put : (t : Tree) → subst x (name x) t ≡ t
    itself_put (name n) = cond_both (n == x) (name x) (name n) (λ t. t ≡ name n) (λ e. ap name (sym (eqb-true n x e))) (λ e. refl)
    itself_put (agent s ts) = ap (agent s) (itself_puts ts)

    itself_puts : (ts : Trees) → subst_all x (name x) ts ≡ ts
    itself_puts no_trees = refl
    itself_puts (more_trees t ts) = λ i. more_trees (itself_put t i) (itself_puts ts i)

  module _ (U : Marked) where
    mutual
      kept : (t : Marked) → held (bare t) ≡ 0 → put x U t ≡ t
      kept (letter n) e = ap (λ b. cond b U (letter n)) (none (n == x) e)
      kept (node k s ts) e = ap (node k s) (kept_all ts e)

      kept_all : (ts : Markeds) → helds (bares ts) ≡ 0 → puts x U ts ≡ ts
      kept_all no_more e = refl
      kept_all (more t ts) e = λ i. more (kept t (omega (arith, e)) i) (kept_all ts (omega (arith, e)) i)

    mutual
      pub bare-put : (t : Marked) → bare (put x U t) ≡ subst x (bare U) (bare t)
      bare-put (letter n) = by (n == x)
        where
          by : (b : Bool) → bare (cond b U (letter n)) ≡ cond b (bare U) (name n)
          by true = refl
          by false = refl
      bare-put (node k s ts) = ap (agent s) (bares-puts ts)

      bares-puts : (ts : Markeds) → bares (puts x U ts) ≡ subst_all x (bare U) (bares ts)
      bares-puts no_more = refl
      bares-puts (more t ts) = λ i. more_trees (bare-put t i) (bares-puts ts i)

    as_many : (ts : Markeds) → length (list_of (bares (puts x U ts))) ≡ length (list_of (bares ts))
    as_many no_more = refl
    as_many (more t ts) = ap suc (as_many ts)

  -- ---- what is a term with a term put for a name that occurs in it once, is one with its numbers

  abbrev pub Parted : Marked → (u t : Tree) → Type 0
  Parted d u t = (U : Marked) × (V : Marked) × (bare U ≡ u) × (bare V ≡ t) × (d ≡ put x U V)

  abbrev AllParted : Markeds → Tree → Trees → Type 0
  AllParted ds u ts = (U : Marked) × (Vs : Markeds) × (bare U ≡ u) × (bares Vs ≡ ts) × (ds ≡ puts x U Vs)

  mutual
    pub parted : (d : Marked) (u t : Tree) → bare d ≡ subst x u t → held t ≡ 1 → Parted d u t
    parted d u (name n) same once =
        let it = some (n == x) once in
        (d, letter n, same ∙ ap (λ b. cond b u (name n)) it, refl, sym (ap (λ b. cond b d (letter n)) it))
    parted (letter m) u (agent s ts) same once = cc
    parted (node k r ds) u (agent s ts) same once =
        let root : s ≡ r = cc in
        let arguments : bares ds ≡ subst_all x u ts = cc in
        let found = all_parted ds u ts arguments once in
        (found.0, node k r found.1, found.2, λ i. agent (sym root i) (found.3 i), ap (node k r) found.4)

    all_parted : (ds : Markeds) (u : Tree) (ts : Trees) → bares ds ≡ subst_all x u ts → helds ts ≡ 1 → AllParted ds u ts
    all_parted ds u no_trees same once = absurd (omega (arith, once))
    all_parted no_more u (more_trees t ts) same once = cc
    all_parted (more d ds) u (more_trees t ts) same once =
        let first : bare d ≡ subst x u t = cc in
        let rest : bares ds ≡ subst_all x u ts = cc in
        let in_first = parted d u t first in
        let in_rest = all_parted ds u ts rest in
        elim (one_of (held t) (helds ts) once) [
          | inl e ↦
              let found = in_first e.0 in
              let stays = rest ∙ trees_kept u ts e.1 in
              (found.0, more found.1 ds, found.2, λ i. more_trees (found.3 i) (stays i), λ i. more (found.4 i) (sym (kept_all found.0 ds (ap helds stays ∙ e.1)) i))
          | inr e ↦
              let found = in_rest e.1 in
              let stays = first ∙ tree_kept u t e.0 in
              (found.0, more d found.1, found.2, λ i. more_trees (stays i) (found.3 i), λ i. more (sym (kept found.0 d (ap held stays ∙ e.0)) i) (found.4 i))
        ]

  -- ---- the name stands at one port, and the term that is put for it hangs there

  module _ (U : Marked) where
    abbrev pub Zipped : (before after : List Item) → Type 0
    Zipped xs ys = (a : Port) × (others : List Item) × ((w : Item → ℕ) → sum w xs ≡ w (stood x a) + sum w others)
        × ((w : Item → ℕ) → sum w ys ≡ w (hung_item a U) + (sum w others + sum w (items_in U)))

    after_front : (front : List Item) (xs ys : List Item) → Zipped xs ys → Zipped (front ++ xs) (front ++ ys)
    after_front front xs ys z = (
      z.0,
      front ++ z.1,
      λ w. omega (arith, sum-append w front xs, z.2 w, sum-append w front z.1),
      λ w. omega (arith, sum-append w front ys, z.3 w, sum-append w front z.1),
    )

    before : (xs ys tail : List Item) → Zipped xs ys → Zipped (xs ++ tail) (ys ++ tail)
    before xs ys tail z = (
      z.0,
      z.1 ++ tail,
      λ w. omega (arith, sum-append w xs tail, z.2 w, sum-append w z.1 tail),
      λ w. omega (arith, sum-append w ys tail, z.3 w, sum-append w z.1 tail),
    )

    noded : (k s : ℕ) (ts : Markeds) → Zipped (items_among (Auxiliary k) 1 ts) (items_among (Auxiliary k) 1 (puts x U ts)) → Zipped (items_in (node k s ts)) (items_in (put x U (node k s ts)))
    noded k s ts z =
        transport (λ (a : ℕ). Zipped (items_in (node k s ts)) (placed k (record { sym = s; arity = a }) ∷ items_among (Auxiliary k) 1 (puts x U ts))) (sym (as_many U ts))
        (after_front (placed k (shape s ts) ∷ []) _ _ z)

    all_zipped : (port : ℕ → Port) (i : ℕ) (ts : Markeds) → helds (bares ts) ≡ 1 → Zipped (items_among port i ts) (items_among port i (puts x U ts))
    all_zipped port i no_more once = absurd (omega (arith, once))
    all_zipped port i (more (letter n) ts) once = by (n == x) refl once (all_zipped port (i + 1) ts)
      where
        tail : List Item
        tail = items_among port (i + 1) ts

        after : List Item
        after = items_among port (i + 1) (puts x U ts)

        by : (b : Bool) → (n == x) ≡ b → bit b + helds (bares ts) ≡ 1 → (helds (bares ts) ≡ 1 → Zipped tail after)
            → Zipped (stood n (port i) ∷ tail) (hung_item (port i) (cond b U (letter n)) ∷ (items_in (cond b U (letter n)) ++ after))
        by true e once tail_zipped =
            transport (λ (us : Markeds). Zipped (stood n (port i) ∷ tail) (hung_item (port i) U ∷ (items_in U ++ items_among port (i + 1) us)))
            (sym (kept_all U ts (omega (arith, once))))
            (port i, tail, λ w. ap (λ m. w (stood m (port i)) + sum w tail) (eqb-true n x e), λ w. omega (arith, sum-append w (items_in U) tail))
        by false e once tail_zipped = after_front (stood n (port i) ∷ []) _ _ (tail_zipped (omega (arith, once)))
    all_zipped port i (more (node k s us) ts) once =
        let tail = items_among port (i + 1) ts in
        let after = items_among port (i + 1) (puts x U ts) in
        let in_first = all_zipped (Auxiliary k) 1 us in
        let in_rest = all_zipped port (i + 1) ts in
        elim (one_of (helds (bares us)) (helds (bares ts)) once) [
          | inl e ↦
              after_front (wired (port i) (Principal k) ∷ []) (items_in (node k s us) ++ tail) (items_in (put x U (node k s us)) ++ after)
              (transport (λ (vs : Markeds). Zipped (items_in (node k s us) ++ tail) (items_in (put x U (node k s us)) ++ items_among port (i + 1) vs))
              (sym (kept_all U ts e.1)) (before (items_in (node k s us)) (items_in (put x U (node k s us))) tail (noded k s us (in_first e.0))))
          | inr e ↦
              after_front (wired (port i) (Principal k) ∷ []) (items_in (node k s us) ++ tail) (items_in (put x U (node k s us)) ++ after)
              (transport (λ (v : Marked). Zipped (items_in (node k s us) ++ tail) (items_in v ++ after))
              (sym (kept U (node k s us) e.0)) (after_front (items_in (node k s us)) tail after (in_rest e.1)))
        ]

    pub zipped : (k s : ℕ) (ts : Markeds) → helds (bares ts) ≡ 1 → Zipped (items_in (node k s ts)) (items_in (put x U (node k s ts)))
    zipped k s ts once = noded k s ts (all_zipped (Auxiliary k) 1 ts once)

-- ---- names at ports

-- what the ports at which a name stands weigh
abbrev pub at : ℕ → (Port → ℕ) → Item → ℕ
at x v (stood n p) = cond (n == x) (v p) 0
at x v y = 0

abbrev pub one : Port → ℕ
one p = 1
