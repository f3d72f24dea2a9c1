-- A pending pair that fires: it is taken out, and stands beside the others.
use Rattle.std.proofs.Common.{◌≡◌, ℕ, ◌+◌, ◌-◌, ◌<◌, List, [], ◌∷◌, ◌++◌, Some, length, map, max, slice_get, ap, sym, subst, ◌∙◌, append_assoc, arith}
use Rattle.std.specs.List.Sorted.{IsPermutation}
use Rattle.std.proofs.lemmas.List.{map-append}
use Rattle.std.proofs.lemmas.List.Sorted.{IsPermutation-middle, IsPermutation-sym}
use Rattle.ic_arena.specs.declared.word.Word.{Word}
use Rattle.ic_arena.specs.Piece.{Piece}
use Rattle.ic_arena.specs.Tables.{Blocks, names_pieces}
use Rattle.ic_machine.specs.declared.equation.Equation.{Equation}
use Rattle.ic_machine.specs.declared.tables.Tables.{Tables}
use Rattle.ic_machine.specs.Plan.{Planned, Plans}
use Rattle.ic_machine.specs.Net.{equated_of, in_use}
use Rattle.ic_machine.specs.Generations.{FiresPair}
use Rattle.ic_machine.specs.Runs.{Way}
use Rattle.ic_machine.specs.Separate.{IsSeparate}
use Rattle.ic_machine.specs.Steps.{no_step}
use Rattle.ic_machine.specs.inner.Firing.{AreSame, arities_of, heaps_pieces, table}
use Rattle.ic_machine.specs.inner.Pairs.{CanFire}
use Rattle.ic_machine.specs.inner.Tables.{FiresBy, held}
use Rattle.ic_machine.specs.lemmas.RunsOn.{way_from}
use Rattle.ic_machine.specs.lemmas.Separation.{separate_in_order}
use Rattle.ic_machine.proofs.Heaps.{arity_known, same_arities, same_at, same_pieces}
use Rattle.ic_machine.proofs.InUse.{same_size}

-- ---- the tables of a pair

-- the table of an agent, by its tag
tagged : (hs : List Blocks) (t s k : ℕ) → t ≡ s + 1 → slice_get (arities_of hs) s ≡ Some k
    → (t - 1 < length hs) × ((table hs (t - 1)).arity ≡ k)
tagged hs t s k tag arity =
    let known : (s < length hs) × ((table hs s).arity ≡ k) = arity_known hs s k arity in
    let place : t - 1 ≡ s = omega arith in
    (let below : s < length hs = known.0 in omega arith, ap (λ (n : ℕ). (table hs n).arity) place ∙ known.1)

module _ (hs : List Blocks) (e : Equation) (p : Planned) (can : CanFire (arities_of hs) e p) where
  pub left_table : (e.left.tag - 1 < length hs) × ((table hs (e.left.tag - 1)).arity ≡ can.left_args)
  left_table = tagged hs e.left.tag can.left can.left_args can.left_tag can.left_arity

  pub right_table : (e.right.tag - 1 < length hs) × ((table hs (e.right.tag - 1)).arity ≡ can.right_args)
  right_table = tagged hs e.right.tag can.right can.right_args can.right_tag can.right_arity

-- ---- orders of pieces

module _ (n h y : List Piece) (e : Equation) where
  -- a pair that is the last of those that are pending
  pub pair_end : (ps : List Equation)
      → IsPermutation (equated_of e ∷ (n ++ (h ++ (map equated_of ps ++ y)))) (n ++ (h ++ (map equated_of (ps ++ e ∷ []) ++ y)))
  pair_end ps =
      let x : Piece = equated_of e in
      let q : List Piece = map equated_of ps in
      let front : List Piece = n ++ (h ++ q) in
      let join : (z : List Piece) → front ++ z ≡ n ++ (h ++ (q ++ z)) = λ z.
      append_assoc n (h ++ q) z ∙ ap (λ (v : List Piece). n ++ v) (append_assoc h q z) in
      let end : n ++ (h ++ (map equated_of (ps ++ e ∷ []) ++ y)) ≡ n ++ (h ++ (q ++ x ∷ y)) =
      ap (λ (v : List Piece). n ++ (h ++ (v ++ y))) (map-append equated_of ps (e ∷ []))
      ∙ ap (λ (v : List Piece). n ++ (h ++ v)) (append_assoc q (x ∷ []) y) in
      let moved = IsPermutation-sym (front ++ x ∷ y) (x ∷ (front ++ y)) (IsPermutation-middle front x y) in
      subst (λ (v : List Piece). IsPermutation (x ∷ (n ++ (h ++ (q ++ y)))) v) (join (x ∷ y) ∙ sym end)
      (subst (λ (v : List Piece). IsPermutation (x ∷ v) (front ++ x ∷ y)) (join y) moved)

  -- one that is the first
  pub pair_front : IsPermutation (equated_of e ∷ (n ++ (h ++ y))) (n ++ (h ++ equated_of e ∷ y))
  pair_front =
      let x : Piece = equated_of e in
      let moved = IsPermutation-sym ((n ++ h) ++ x ∷ y) (x ∷ ((n ++ h) ++ y)) (IsPermutation-middle (n ++ h) x y) in
      subst (λ (v : List Piece). IsPermutation (x ∷ (n ++ (h ++ y))) v) (append_assoc n h (x ∷ y))
      (subst (λ (v : List Piece). IsPermutation (x ∷ v) ((n ++ h) ++ x ∷ y)) (append_assoc n h y) moved)

-- what tables hold, with a pair before it, and others pending
abbrev pub apart : Tables → Equation → List Equation → List Piece → List Piece
apart t e others y =
    equated_of e ∷ (names_pieces 0 t.names.entries ++ (heaps_pieces 0 t.heaps.items ++ (map equated_of others ++ y)))

pub last_apart : (t : Tables) (e : Equation) (others : List Equation) (y : List Piece) → t.pending.items ≡ others ++ e ∷ []
    → IsPermutation (held t y) (apart t e others y)
last_apart t e others y is =
    let n : List Piece = names_pieces 0 t.names.entries in
    let h : List Piece = heaps_pieces 0 t.heaps.items in
    let end : List Piece = n ++ (h ++ (map equated_of (others ++ e ∷ []) ++ y)) in
    subst (λ (l : List Equation). IsPermutation (n ++ (h ++ (map equated_of l ++ y))) (apart t e others y)) (sym is)
    (IsPermutation-sym (apart t e others y) end (pair_end n h y e others))

pub first_apart : (t : Tables) (e : Equation) (others : List Equation) (y : List Piece) → t.pending.items ≡ e ∷ others
    → IsPermutation (held t y) (apart t e others y)
first_apart t e others y is =
    let n : List Piece = names_pieces 0 t.names.entries in
    let h : List Piece = heaps_pieces 0 t.heaps.items in
    let z : List Piece = map equated_of others ++ y in
    subst (λ (l : List Equation). IsPermutation (n ++ (h ++ (map equated_of l ++ y))) (apart t e others y)) (sym is)
    (IsPermutation-sym (apart t e others y) (n ++ (h ++ equated_of e ∷ z)) (pair_front n h z e))

-- ---- tables

-- a way of what is held, from one of a pair beside it
pub way_apart : (p : Plans) (e : Equation) (i : ℕ) (old new : Tables) (others rest : List Equation)
    → IsPermutation (held old (map equated_of rest)) (apart old e others (map equated_of rest))
    → (by : FiresBy p e i old new others rest)
    → Way p (i ∷ []) (by.moment ∷ []) (held old (map equated_of rest)) (held new (map equated_of rest))
way_apart p e i old new others rest order by =
    let start : List Piece = held old (map equated_of rest) in
    let mid : List Piece = apart old e others (map equated_of rest) in
    way_from p (i ∷ []) (by.moment ∷ []) start mid (held new (map equated_of rest)) (no_step start mid order) by.way

-- Where memory was taken, a pair beside the others is named no more often than before.
pub separate_apart : (t u : Tables) (e : Equation) → u.names.entries ≡ t.names.entries → AreSame t.heaps.items u.heaps.items
    → IsPermutation (held t []) (apart t e u.pending.items []) → IsSeparate (arities_of t.heaps.items) [] (held t [])
    → IsSeparate (arities_of u.heaps.items) [] (equated_of e ∷ held u [])
separate_apart t u e names same order s =
    let one = separate_in_order (arities_of t.heaps.items) [] (held t []) (apart t e u.pending.items []) order s in
    rw (names, same_pieces t.heaps.items u.heaps.items 0 same, same_arities t.heaps.items u.heaps.items same) one

-- What fires in tables where memory was taken, and the pair was taken out, fires in those before.
pub fires_before : (p : Plans) (e : Equation) (i : ℕ) (t u new : Tables) (others rest : List Equation)
    → u.names.entries ≡ t.names.entries → AreSame t.heaps.items u.heaps.items → FiresBy p e i u new others rest
    → FiresBy p e i t new others rest
fires_before p e i t u new others rest names same by =
    let n : List Piece = names_pieces 0 u.names.entries in
    let h : List Piece = heaps_pieces 0 t.heaps.items in
    let first : (y : List Piece) → n ++ (heaps_pieces 0 u.heaps.items ++ y) ≡ names_pieces 0 t.names.entries ++ (h ++ y) = λ y.
    ap (λ (x : List Piece). n ++ (x ++ y)) (same_pieces t.heaps.items u.heaps.items 0 same)
    ∙ ap (λ (ws : List Word). names_pieces 0 ws ++ (h ++ y)) names in
    record {
      moment = by.moment;
      bare = λ more es after.
          let b = by.bare more es after in
          record {
            middle = b.middle;
            pair = subst (λ (x : List Piece). FiresPair p e i (equated_of e ∷ x) b.middle) (first (map equated_of es)) b.pair;
            links = b.links;
          };
      way = subst (λ (x : List Piece). Way p (i ∷ []) (by.moment ∷ []) (equated_of e ∷ x) (held new (map equated_of rest)))
          (first (map equated_of others ++ map equated_of rest)) by.way;
      places = λ kind. by.places kind
          ∙ ap (λ (k : ℕ). max k (in_use kind by.moment))
          (same_size t u (ap length names) (λ s. (same_at t.heaps.items u.heaps.items same s).1) kind);
    }
