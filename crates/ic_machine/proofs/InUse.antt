-- How many places are in use, of each kind.
use Rattle.std.proofs.Common.{◌≡◌, ℕ, zero, suc, ◌+◌, ◌<◌, ◌≤◌, ◌==◌, inl, inr, List, [], ◌∷◌, ◌++◌, Bool, true, false, cond, length, map, max, take, drop, slice_index_or, refl, ap, sym, ◌∙◌, arith, sum_by, zero-add}
use Rattle.std.specs.List.{AllByRecursion}
use Rattle.std.proofs.Math.ListN.{get_or-map}
use Rattle.std.proofs.Math.Nat.{max-eq_left, max-eq_right, max-le}
use Rattle.std.proofs.lemmas.Bool.{eq-eqb, ne_eqb}
use Rattle.std.proofs.lemmas.Bool.Decides.{leb_tells}
use Rattle.std.proofs.lemmas.List.{length-append}
use Rattle.std.proofs.lemmas.List.Sorted.{sum_by-IsPermutation}
use Rattle.std.proofs.lemmas.List.Sums.{sum_by-append, sum_by-cons}
use Rattle.ic_arena.specs.declared.word.Word.{Word}
use Rattle.ic_arena.specs.Word.{agent_word}
use Rattle.ic_arena.specs.Piece.{Piece, idle}
use Rattle.ic_arena.specs.Tables.{Replaced, Blocks, block_piece, blocks_from, blocks_pieces, names_pieces}
use Rattle.ic_machine.specs.declared.equation.Equation.{Equation}
use Rattle.ic_machine.specs.declared.machine.Machine.TheInside.{Inside}
use Rattle.ic_machine.specs.declared.plan.Link.{Link}
use Rattle.ic_machine.specs.declared.tables.Tables.{Tables}
use Rattle.ic_machine.specs.Plan.{Planned, linked, made_each, pieces_made}
use Rattle.ic_machine.specs.Net.{Net, equated_of, in_use, is_at, places_of}
use Rattle.ic_machine.specs.inner.Firing.{heaps_pieces, table, Opened, Makes}
use Rattle.ic_machine.specs.inner.Machine.{net_of}
use Rattle.ic_machine.specs.inner.Tables.{size_at}
use Rattle.ic_machine.specs.lemmas.FiringKeeps.{all_append}
use Rattle.ic_machine.proofs.Standing.{all_names, one_block}

-- ---- the greatest of two

-- what is the greatest of two numbers, where one of them was that of two already, and the other grows
pub greatest_on : (a b o p q : ℕ) → a ≡ max o p → b ≡ max a q → p ≤ q → b ≡ max o q
greatest_on a b o p q e f h = f ∙ (ap (λ (n : ℕ). max n q) e ∙ on)
  where
    on : max (max o p) q ≡ max o q
    on = elim (leb_tells o q) [
      | inl t ↦ (let le : o ≤ q = t.1 in max-eq_right (max-le le h) ∙ sym (max-eq_right le))
      | inr t ↦ (let lt : q < o = t.1 in
          let here : max o p ≡ o = max-eq_left (omega arith) in
          ap (λ (n : ℕ). max n q) here)
    ]

-- the greatest of two numbers is one more at most
pub one_more : (a o p q : ℕ) → a ≡ max o q → q ≡ p + 1 → p ≤ o → a ≤ o + 1
one_more a o p q e f h = let most : max o q ≤ o + 1 = max-le (omega arith) (omega arith) in omega arith

-- one piece more
pub one_longer : (x : Piece) (xs ys : List Piece) → Replaced [] (x ∷ []) xs ys → length ys ≡ length xs + 1
one_longer x xs ys r =
    let a : length xs ≡ length r.front + length r.back = ap length r.before ∙ length-append r.front r.back in
    let b : length ys ≡ length r.front + suc (length r.back) = ap length r.after ∙ length-append r.front (x ∷ r.back) in
    omega arith

-- ---- what is of a kind

all_counted : (kind : ℕ) (ps : List Piece) → AllByRecursion (λ p. is_at kind p ≡ true) ps → in_use kind ps ≡ length ps
all_counted kind [] h = refl
all_counted kind (p ∷ ps) h =
    let a = sum_by-cons (λ x. cond (is_at kind x) 1 0) p ps in
    let b = all_counted kind ps h.1 in
    let here : ◌≡◌ {A = ℕ} (cond (is_at kind p) 1 0) 1 = ap (λ (b : Bool). cond b 1 0) h.0 in
    omega arith

none_counted : (kind : ℕ) (ps : List Piece) → AllByRecursion (λ p. is_at kind p ≡ false) ps → in_use kind ps ≡ 0
none_counted kind [] h = refl
none_counted kind (p ∷ ps) h =
    let a = sum_by-cons (λ x. cond (is_at kind x) 1 0) p ps in
    let b = none_counted kind ps h.1 in
    let here : ◌≡◌ {A = ℕ} (cond (is_at kind p) 1 0) 0 = ap (λ (b : Bool). cond b 1 0) h.0 in
    omega arith

-- equations are at no place
pub equations_at_none : (kind : ℕ) (es : List Equation) → in_use kind (map equated_of es) ≡ 0
equations_at_none kind [] = refl
equations_at_none kind (e ∷ es) =
    sum_by-cons (λ x. cond (is_at kind x) 1 0) (equated_of e) (map equated_of es) ∙ omega (arith, equations_at_none kind es)

pub links_at_none : (kind : ℕ) (rs : List Word) (ls : List Link) → in_use kind (map (linked rs) ls) ≡ 0
links_at_none kind rs [] = refl
links_at_none kind rs (l ∷ ls) =
    sum_by-cons (λ x. cond (is_at kind x) 1 0) (linked rs l) (map (linked rs) ls) ∙ omega (arith, links_at_none kind rs ls)

-- names are of the first kind
pub names_in_use : (b : ℕ) (ws : List Word) → in_use 0 (names_pieces b ws) ≡ length (names_pieces b ws)
names_in_use b ws = all_counted 0 (names_pieces b ws)
    (all_names (λ p. is_at 0 p ≡ true) b ws (λ i le lt. refl) (λ i w le lt. refl))

pub names_elsewhere : (s b : ℕ) (ws : List Word) → in_use (suc s) (names_pieces b ws) ≡ 0
names_elsewhere s b ws = none_counted (suc s) (names_pieces b ws)
    (all_names (λ p. is_at (suc s) p ≡ false) b ws (λ i le lt. ne_eqb 0 (suc s) (λ e. omega arith))
    (λ i w le lt. ne_eqb 0 (suc s) (λ e. omega arith)))

-- agents are of the kind of their tag
blocks_all : (kind s k i n : ℕ) (ws : List Word) (b : Bool) → (s + 1 == kind) ≡ b
    → AllByRecursion (λ p. is_at kind p ≡ b) (blocks_from s k i n ws)
blocks_all kind s k i zero ws b e = tt
blocks_all kind s k i (suc n) ws b e =
    all_append (λ p. is_at kind p ≡ b) (block_piece (agent_word s i) (take k ws)) (blocks_from s k (i + 1) n (drop k ws))
    (one_block (λ p. is_at kind p ≡ b) (agent_word s i) (take k ws) (λ some. e))
    (blocks_all kind s k (i + 1) n (drop k ws) b e)

blocks_in_use : (kind s : ℕ) (b : Blocks) → kind ≡ s + 1 → in_use kind (blocks_pieces s b) ≡ length (blocks_pieces s b)
blocks_in_use kind s b e = all_counted kind (blocks_pieces s b)
    (blocks_all kind s b.arity 0 b.count b.words true (eq-eqb (s + 1) kind (sym e)))

blocks_elsewhere : (kind s : ℕ) (b : Blocks) → (s + 1 ≡ kind → ⊥) → in_use kind (blocks_pieces s b) ≡ 0
blocks_elsewhere kind s b h = none_counted kind (blocks_pieces s b)
    (blocks_all kind s b.arity 0 b.count b.words false (ne_eqb (s + 1) kind h))

heaps_elsewhere : (kind base : ℕ) (hs : List Blocks) → kind ≤ base → in_use kind (heaps_pieces base hs) ≡ 0
heaps_elsewhere kind base [] h = refl
heaps_elsewhere kind base (b ∷ bs) h =
    let here : in_use kind (blocks_pieces base b) ≡ 0 = blocks_elsewhere kind base b (λ e. omega arith) in
    let rest : in_use kind (heaps_pieces (base + 1) bs) ≡ 0 = heaps_elsewhere kind (base + 1) bs (omega arith) in
    omega (arith, sum_by-append {X = Piece})

heaps_in_use : (kind base i s : ℕ) (hs : List Blocks) → s ≡ base + i → kind ≡ s + 1
    → in_use kind (heaps_pieces base hs) ≡ length (blocks_pieces s (table hs i))
heaps_in_use kind base i s [] e f = refl
heaps_in_use kind base zero s (b ∷ bs) e f =
    let same : s ≡ base = omega arith in
    let here : in_use kind (blocks_pieces base b) ≡ length (blocks_pieces base b) = blocks_in_use kind base b (omega arith) in
    let there : length (blocks_pieces s b) ≡ length (blocks_pieces base b) = ap (λ (x : ℕ). length (blocks_pieces x b)) same in
    let rest : in_use kind (heaps_pieces (base + 1) bs) ≡ 0 = heaps_elsewhere kind (base + 1) bs (omega arith) in
    omega (arith, sum_by-append {X = Piece})
heaps_in_use kind base (suc i) s (b ∷ bs) e f =
    let here : in_use kind (blocks_pieces base b) ≡ 0 = blocks_elsewhere kind base b (λ q. omega arith) in
    let rest : in_use kind (heaps_pieces (base + 1) bs) ≡ length (blocks_pieces s (table bs i)) =
    heaps_in_use kind (base + 1) i s bs (omega arith) f in
    omega (arith, sum_by-append {X = Piece})

-- ---- what tables hold

-- how many places of a kind entries of names and tables of agents use
abbrev pub used_at : ℕ → List Word → List Blocks → ℕ
used_at zero ns hs = length (names_pieces 0 ns)
used_at (suc s) ns hs = length (blocks_pieces s (table hs s))

pub tables_in_use : (kind : ℕ) (ns : List Word) (hs : List Blocks)
    → in_use kind (names_pieces 0 ns) + in_use kind (heaps_pieces 0 hs) ≡ used_at kind ns hs
tables_in_use zero ns hs =
    let a : in_use 0 (names_pieces 0 ns) ≡ length (names_pieces 0 ns) = names_in_use 0 ns in
    let b : in_use 0 (heaps_pieces 0 hs) ≡ 0 = heaps_elsewhere 0 0 hs (omega arith) in
    omega arith
tables_in_use (suc s) ns hs =
    let a : in_use (suc s) (names_pieces 0 ns) ≡ 0 = names_elsewhere s 0 ns in
    let b : in_use (suc s) (heaps_pieces 0 hs) ≡ length (blocks_pieces s (table hs s)) =
    heaps_in_use (suc s) 0 s s hs (sym (zero-add s)) (omega arith) in
    omega arith

-- what a plan makes, beside what was held, uses what the tables do where it is made
pub made_in_use : (kind : ℕ) (p : Planned) (n : ℕ) (ns ns' : List Word) (hs hs' : List Blocks) (r0 r1 r2 : List Word)
    (ps rest : List Equation) (o : Opened n ns ns' r0 r1) (m : Makes p.made (heaps_pieces 0 hs) (heaps_pieces 0 hs') r1 r2)
    → in_use kind (pieces_made p r2 o.names m.places
    ++ (names_pieces 0 ns ++ (heaps_pieces 0 hs ++ (map equated_of ps ++ map equated_of rest)))) ≡ used_at kind ns' hs'
made_in_use kind p n ns ns' hs hs' r0 r1 r2 ps rest o m =
    let f : Piece → ℕ = λ x. cond (is_at kind x) 1 0 in
    let i : List Piece = map idle o.names in
    let a : List Piece = made_each r2 p.made m.places in
    let l : List Piece = map (linked r2) p.links in
    let held : List Piece = names_pieces 0 ns ++ (heaps_pieces 0 hs ++ (map equated_of ps ++ map equated_of rest)) in
    let z1 : sum_by f l ≡ 0 = links_at_none kind r2 p.links in
    let z2 : sum_by f (map equated_of ps) ≡ 0 = equations_at_none kind ps in
    let z3 : sum_by f (map equated_of rest) ≡ 0 = equations_at_none kind rest in
    let n1 = sum_by-IsPermutation f (names_pieces 0 ns') (i ++ names_pieces 0 ns) o.pieces in
    let h1 = sum_by-IsPermutation f (heaps_pieces 0 hs') (a ++ heaps_pieces 0 hs) m.pieces in
    let end : sum_by f (names_pieces 0 ns') + sum_by f (heaps_pieces 0 hs') ≡ used_at kind ns' hs' = tables_in_use kind ns' hs' in
    omega (arith, sum_by-append {X = Piece})

-- ---- how many places tables have

pub same_size : (t u : Tables) → length u.names.entries ≡ length t.names.entries
    → ((s : ℕ) → (table u.heaps.items s).count ≡ (table t.heaps.items s).count) → (kind : ℕ)
    → size_at kind u ≡ size_at kind t
same_size t u names counts zero = names
same_size t u names counts (suc s) = counts s

pub as_used : (t u : Tables) (ns : List Word) (hs : List Blocks)
    → length u.names.entries ≡ max (length t.names.entries) (length (names_pieces 0 ns))
    → ((s : ℕ) → (table u.heaps.items s).count ≡ max (table t.heaps.items s).count (length (blocks_pieces s (table hs s))))
    → (kind : ℕ) → size_at kind u ≡ max (size_at kind t) (used_at kind ns hs)
as_used t u ns hs names counts zero = names
as_used t u ns hs names counts (suc s) = counts s

-- a net has as many places as its tables
pub net_size : (m : Inside) (kind : ℕ) → places_of kind (net_of m) ≡ size_at kind m.tables
net_size m zero = refl
net_size m (suc s) = get_or-map (λ b. b.count) m.tables.heaps.items s
    (record { arity = 0; count = 0; words = []; capacity = 0 })

pub same_places : (a b : Net) → b.names ≡ a.names → b.agents ≡ a.agents → (kind : ℕ) → places_of kind b ≡ places_of kind a
same_places a b names agents zero = names
same_places a b names agents (suc s) = ap (λ (l : List ℕ). slice_index_or l s 0) agents
