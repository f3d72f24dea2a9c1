-- Lemmas: the net of a machine into which words were unpacked.
use Rattle.std.proofs.Common.{◌≡◌, ℕ, ◌*◌, ◌^◌, ◌<◌, List, [], ◌++◌, length, map, max, reverse, take, cond, refl, ap, sym, subst, ◌∙◌, arith}
use Rattle.std.specs.List.{AllByRecursion}
use Rattle.std.proofs.lemmas.List.{length-reverse}
use Rattle.std.proofs.lemmas.List.Sums.{sum_by-append}
use Rattle.ic_arena.specs.declared.word.Word.{Word}
use Rattle.ic_arena.specs.declared.word.TheConstants.{GIVEN}
use Rattle.ic_arena.specs.Word.{word_eq}
use Rattle.ic_arena.specs.Piece.{Piece, room, uses}
use Rattle.ic_arena.specs.Tables.{Blocks, names_pieces}
use Rattle.ic_machine.specs.declared.equation.Equation.{Equation}
use Rattle.ic_machine.specs.declared.machine.Machine.TheInside.{Inside}
use Rattle.ic_machine.specs.declared.tables.Tables.{Tables}
use Rattle.ic_machine.specs.Moving.{end_word, side_of, sides_of, AreSpelled, Ends, Spells, Unpacks}
use Rattle.ic_machine.specs.Net.{equated_of, in_use, pieces, places_of, IsPair}
use Rattle.ic_machine.specs.Plan.{constants, Plans}
use Rattle.ic_machine.specs.Separate.{IsSeparate}
use Rattle.ic_machine.specs.Steps.{Steps}
use Rattle.ic_machine.specs.inner.Firing.{arities_of, heaps_pieces}
use Rattle.ic_machine.specs.inner.Machine.{net_of, IsSound}
use Rattle.ic_machine.specs.inner.Moving.{side_in}
use Rattle.ic_machine.specs.inner.Unpacking.{pairs_on, AreKept}
use Rattle.ic_machine.specs.lemmas.Balance.{equations_room}
use Rattle.ic_machine.proofs.Grown.{net_symbols}
use Rattle.ic_machine.proofs.Heaps.{as_many}
use Rattle.ic_machine.proofs.LinkPairs.{all_linked, sides_pairs, stack_equated}
use Rattle.ic_machine.proofs.Sweeps.{swept_separate}
use Rattle.ic_machine.proofs.Trees.{sides_length, spells_count}
use Rattle.ic_machine.proofs.Unpacked.{kept_after, separate_kept, separate_less}
use Rattle.ic_machine.proofs.TablesOnce.{tables_told}

-- what is kept beside equations
pub net_kept : (arities : List ℕ) (i ws vs : List Word) (ps us xs ys : List Piece) → IsSeparate arities (i ++ ws) (ps ++ (us ++ xs))
    → AreKept arities ws vs xs ys → IsSeparate arities (i ++ vs) (ps ++ (us ++ ys))
net_kept arities i ws vs ps us xs ys s f = separate_kept arities i ws vs ps (us ++ xs) (us ++ ys) s (kept_after arities ws vs us xs ys f)

-- a machine whose tables have changed
pub tables_sound : (m : Inside) (t : Tables) → IsSound m → arities_of t.heaps.items ≡ arities_of m.tables.heaps.items
    → IsSeparate (arities_of m.tables.heaps.items) m.interface.items (pieces (net_of (record m { tables = t })))
    → AllByRecursion IsPair t.pending.items → length t.names.entries < 2 ^ 32 → t.registers.items ≡ m.tables.registers.items → t.spare ≡ 0
    → IsSound (record m { tables = t })
tables_sound m t sound known separate pairs few registers spare =
    let many : length t.heaps.items ≡ length m.tables.heaps.items = as_many m.tables.heaps.items t.heaps.items known in
    record {
      separate = subst (λ (a : List ℕ). IsSeparate a m.interface.items (pieces (net_of (record m { tables = t })))) (sym known) separate;
      pairs = pairs;
      aside = sound.aside;
      names = few;
      symbols = subst (λ (k : ℕ). k < GIVEN) (sym many) sound.symbols;
      registers = ap (λ (k : ℕ). take k t.registers.items) many
          ∙ (ap (take (length m.tables.heaps.items)) registers ∙ (sound.registers ∙ ap constants (sym many)));
      spare = λ some. absurd (omega (arith, some, spare));
      counts = sound.counts;
    }

module _ (m : Inside) (t t' : Tables) (b b' : Ends) (ws words : List Word)
    (known : arities_of t.heaps.items ≡ arities_of m.tables.heaps.items) (heaps : t'.heaps.items ≡ t.heaps.items) (pending : t.pending.items ≡ m.tables.pending.items)
    (links : (p : Plans) (rest : List Piece) → Steps p []
    (map equated_of (pairs_on ws) ++ (names_pieces 0 t.names.entries ++ (map equated_of t.pending.items ++ rest)))
    (names_pieces 0 t'.names.entries ++ (map equated_of t'.pending.items ++ rest))) where
  abbrev put : List Piece
  put = names_pieces 0 t.names.entries ++ heaps_pieces 0 t.heaps.items

  pub put_linked : (p : Plans) → Steps p []
      (map equated_of (reverse (pairs_on ws)) ++ (map equated_of m.tables.pending.items ++ (map equated_of m.aside.items ++ put)))
      (pieces (net_of (record m { tables = t' })))
  put_linked p =
      let all : Steps p []
      (map equated_of (reverse (pairs_on ws)) ++ (map equated_of t.pending.items ++ (map equated_of m.aside.items ++ put)))
      (map equated_of t'.pending.items ++ (map equated_of m.aside.items ++ (names_pieces 0 t'.names.entries ++ heaps_pieces 0 t.heaps.items))) =
      all_linked p ws t.pending.items t'.pending.items m.aside.items (names_pieces 0 t.names.entries) (names_pieces 0 t'.names.entries)
      (heaps_pieces 0 t.heaps.items) (links p (heaps_pieces 0 t.heaps.items ++ map equated_of m.aside.items)) in
      subst (λ (h : List Blocks). Steps p []
      (map equated_of (reverse (pairs_on ws)) ++ (map equated_of m.tables.pending.items ++ (map equated_of m.aside.items ++ put)))
      (map equated_of t'.pending.items ++ (map equated_of m.aside.items ++ (names_pieces 0 t'.names.entries ++ heaps_pieces 0 h)))) (sym heaps)
      (subst (λ (v : List Equation). Steps p []
      (map equated_of (reverse (pairs_on ws)) ++ (map equated_of v ++ (map equated_of m.aside.items ++ put)))
      (map equated_of t'.pending.items ++ (map equated_of m.aside.items ++ (names_pieces 0 t'.names.entries ++ heaps_pieces 0 t.heaps.items)))) pending all)

  -- with the ends of cuts
  pub put_bordered : IsSeparate (arities_of m.tables.heaps.items) (m.interface.items ++ map end_word b.ends) (pieces (net_of m))
      → AreKept (arities_of m.tables.heaps.items) (map end_word b.ends) (ws ++ map end_word b'.ends) (net_of m).places put
      → IsSeparate (arities_of m.tables.heaps.items) (m.interface.items ++ map end_word b'.ends) (pieces (net_of (record m { tables = t' })))
  put_bordered bordered kept =
      let a : List ℕ = arities_of m.tables.heaps.items in
      let start : List Piece = map equated_of m.tables.pending.items ++ (map equated_of m.aside.items ++ put) in
      let held : IsSeparate a (m.interface.items ++ (ws ++ map end_word b'.ends)) start =
      net_kept a m.interface.items (map end_word b.ends) (ws ++ map end_word b'.ends) (map equated_of m.tables.pending.items)
      (map equated_of m.aside.items) (net_of m).places put bordered kept in
      swept_separate a (m.interface.items ++ map end_word b'.ends) (map equated_of (reverse (pairs_on ws)) ++ start)
      (pieces (net_of (record m { tables = t' }))) put_linked
      (stack_equated a m.interface.items ws (map end_word b'.ends) start held)

  -- words that came from elsewhere
  pub put_unpacked : AreSpelled (arities_of m.tables.heaps.items) words
      → Spells (arities_of m.tables.heaps.items) (side_in t b') (side_of (net_of m) b) (reverse ws) words
      → ((kind : ℕ) → places_of kind (net_of (record m { tables = t' })) ≡ max (places_of kind (net_of m)) (in_use kind put))
      → Unpacks words (net_of m) (net_of (record m { tables = t' })) b b'
  put_unpacked spelled spells room =
      let a : List ℕ = arities_of m.tables.heaps.items in
      let trees = spells_count a (side_in t b') (side_of (net_of m) b) (reverse ws) words spells in
      let others = spells_count a spelled.full spelled.rest (sides_of spelled.equations) words spelled.spells in
      let two = sides_length spelled.equations in
      let turned = length-reverse ws in
      let even : length ws ≡ 2 * length spelled.equations = omega arith in
      let sides : sides_of (reverse (pairs_on ws)) ≡ reverse ws = sides_pairs ws (length spelled.equations) even in
      record {
        equations = reverse (pairs_on ws);
        places = put;
        spells = subst (λ (l : List Word). Spells a (side_in t b') (side_of (net_of m) b) l words) (sym sides) spells;
        once = λ w. tables_told w t.names.entries t.heaps.items;
        linked = put_linked;
        room = room;
        symbols = net_symbols m t' (ap arities_of heaps ∙ known);
        arities = ap arities_of heaps ∙ known;
        interface = refl;
        interactions = refl;
        counts = refl;
        aside = refl;
      }

-- places and ends of cuts, without equations and the interface
pub places_separate : (arities : List ℕ) (i e : List Word) (ps us : List Equation) (xs : List Piece)
    → IsSeparate arities (i ++ e) (map equated_of ps ++ (map equated_of us ++ xs)) → IsSeparate arities e xs
places_separate arities i e ps us xs s = record {
  each = λ w c.
      let before = s.each w c in
      let a = sum_by-append (λ (v : Word). cond (word_eq w v) 1 0) i e in
      let u1 = sum_by-append (uses w) (map equated_of ps) (map equated_of us ++ xs) in
      let u2 = sum_by-append (uses w) (map equated_of us) xs in
      let r1 = sum_by-append (room w) (map equated_of ps) (map equated_of us ++ xs) in
      let r2 = sum_by-append (room w) (map equated_of us) xs in
      let none = equations_room w ps in
      let nothing = equations_room w us in
      omega arith;
}

-- a machine whose places have changed, and no equation
pub places_sound : (m : Inside) (t : Tables) (b b' : Ends) (ws : List Word) → IsSound m
    → arities_of t.heaps.items ≡ arities_of m.tables.heaps.items → t.pending.items ≡ m.tables.pending.items
    → t.registers.items ≡ m.tables.registers.items → length t.names.entries < 2 ^ 32 → t.spare ≡ 0
    → IsSeparate (arities_of m.tables.heaps.items) (m.interface.items ++ map end_word b.ends) (pieces (net_of m))
    → AreKept (arities_of m.tables.heaps.items) (map end_word b.ends) (ws ++ map end_word b'.ends) (net_of m).places
    (names_pieces 0 t.names.entries ++ heaps_pieces 0 t.heaps.items) → IsSound (record m { tables = t })
places_sound m t b b' ws sound known pending registers few spare bordered kept =
    let a : List ℕ = arities_of m.tables.heaps.items in
    let put : List Piece = names_pieces 0 t.names.entries ++ heaps_pieces 0 t.heaps.items in
    let held : IsSeparate a m.interface.items (map equated_of m.tables.pending.items ++ (map equated_of m.aside.items ++ put)) =
    separate_less a m.interface.items (ws ++ map end_word b'.ends) (map equated_of m.tables.pending.items ++ (map equated_of m.aside.items ++ put))
    (net_kept a m.interface.items (map end_word b.ends) (ws ++ map end_word b'.ends) (map equated_of m.tables.pending.items)
    (map equated_of m.aside.items) (net_of m).places put bordered kept) in
    tables_sound m t sound known
    (subst (λ (l : List Equation). IsSeparate a m.interface.items (map equated_of l ++ (map equated_of m.aside.items ++ put))) (sym pending) held)
    (subst (λ (l : List Equation). AllByRecursion IsPair l) (sym pending) sound.pairs) few registers spare
