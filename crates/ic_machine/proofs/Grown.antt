-- Lemmas: how many places tables have as something is unpacked, and when one of them is full.
use Rattle.std.proofs.Common.{◌≡◌, ◌⊎◌, inl, inr, ℕ, zero, suc, ◌+◌, ◌^◌, ◌<◌, ◌≤◌, List, [], ◌∷◌, Result, Ok, Err, length, max, slice_set, cond, ap, sym, subst, ◌∙◌, arith}
use Rattle.std.specs.Prelude.{OnOk}
use Rattle.std.proofs.Math.Nat.{le-max_left, le-max_right, max-eq_left, max-eq_right}
use Rattle.std.proofs.lemmas.Bool.Decides.{leb_tells}
use Rattle.std.proofs.lemmas.List.{length-map}
use Rattle.std.proofs.lemmas.List.Sums.{sum_by-append}
use Rattle.ic_arena.specs.declared.word.Word.{Word}
use Rattle.ic_arena.specs.Word.{agent_word, name_word}
use Rattle.ic_arena.specs.Piece.{agent_of, idle}
use Rattle.ic_arena.specs.Tables.{Blocks, Replaced, blocks_pieces, names_pieces}
use Rattle.ic_machine.specs.declared.machine.Machine.TheInside.{Inside}
use Rattle.ic_machine.specs.declared.tables.Tables.{Tables}
use Rattle.ic_machine.specs.Moving.{Ends, Unpacks}
use Rattle.ic_machine.specs.Net.{Net, in_use, is_at, places_of}
use Rattle.ic_machine.specs.inner.Firing.{arities_of, heaps_pieces, table}
use Rattle.ic_machine.specs.inner.Machine.{net_of}
use Rattle.ic_machine.specs.inner.Moving.{places_in}
use Rattle.ic_machine.specs.inner.Tables.{size_at}
use Rattle.ic_machine.specs.inner.Unpacking.{BlocksGrow, HasFullTable, NamesGrow, PutsAgent, TablesGrow}
use Rattle.ic_machine.proofs.Heaps.{as_many, set_at}
use Rattle.ic_machine.proofs.InUse.{greatest_on, net_size, one_longer, same_size, tables_in_use, used_at}
use Rattle.ic_machine.proofs.Standing.{blocks_few, names_few}

-- ---- names

pub names_stay : (es : List Word) → NamesGrow es es
names_stay es = record { places = sym (max-eq_left (names_few 0 es)); more = omega arith }

pub names_opened : (es fs gs : List Word) (n : ℕ) → fs ≡ es → Replaced [] (idle (name_word n) ∷ []) (names_pieces 0 fs) (names_pieces 0 gs)
    → length gs ≡ max (length fs) (length (names_pieces 0 gs)) → NamesGrow es gs
names_opened es fs gs n same opened len =
    let one = one_longer (idle (name_word n)) (names_pieces 0 fs) (names_pieces 0 gs) opened in
    let alike : length (names_pieces 0 fs) ≡ length (names_pieces 0 es) = ap (λ (l : List Word). length (names_pieces 0 l)) same in
    record {
      places = len ∙ ap (λ (l : List Word). max (length l) (length (names_pieces 0 gs))) same;
      more = omega (arith, one, alike);
    }

-- ---- blocks

blocks_stand : (s : ℕ) (b : Blocks) → b.count ≡ max b.count (length (blocks_pieces s b))
blocks_stand s b = sym (max-eq_left (blocks_few s b.arity 0 b.count b.words))

pub blocks_stay : (hs : List Blocks) → BlocksGrow hs hs
blocks_stay hs = record { places = λ s. blocks_stand s (table hs s); more = λ s. omega arith }

-- a table was read, and put back as it was
pub blocks_read : (hs : List Blocks) (s : ℕ) (b : Blocks) → b ≡ table hs s → BlocksGrow hs (slice_set hs s b)
blocks_read hs s b same = record {
  places = set_at (λ k x. x.count ≡ max (table hs k).count (length (blocks_pieces k x))) hs s b (λ k. blocks_stand k (table hs k))
      (blocks_stand s b ∙ ap (λ (x : Blocks). max x.count (length (blocks_pieces s b))) same);
  more = set_at (λ k x. length (blocks_pieces k (table hs k)) ≤ length (blocks_pieces k x)) hs s b (λ k. omega arith)
      (let alike : length (blocks_pieces s b) ≡ length (blocks_pieces s (table hs s)) = ap (λ (x : Blocks). length (blocks_pieces s x)) same in omega (arith, alike));
}

-- an agent was put into a table
pub blocks_put : (hs : List Blocks) (s block : ℕ) (b b' : Blocks) (ws vs : List Word) → b ≡ table hs s → PutsAgent block b b' ws vs
    → ((k : ℕ) → b'.count ≡ max b.count (length (blocks_pieces k b'))) → BlocksGrow hs (slice_set hs s b')
blocks_put hs s block b b' ws vs same put count = record {
  places = set_at (λ k x. x.count ≡ max (table hs k).count (length (blocks_pieces k x))) hs s b' (λ k. blocks_stand k (table hs k))
      (count s ∙ ap (λ (x : Blocks). max x.count (length (blocks_pieces s b'))) same);
  more = set_at (λ k x. length (blocks_pieces k (table hs k)) ≤ length (blocks_pieces k x)) hs s b' (λ k. omega arith)
      (let one = one_longer (agent_of (agent_word s block) put.arguments) (blocks_pieces s b) (blocks_pieces s b') (put.made s) in
      let alike : length (blocks_pieces s b) ≡ length (blocks_pieces s (table hs s)) = ap (λ (x : Blocks). length (blocks_pieces s x)) same in
      omega (arith, one, alike));
}

-- ---- tables

-- what is in use in all
in_all : (kind : ℕ) (t : Tables) → in_use kind (places_in t) ≡ used_at kind t.names.entries t.heaps.items
in_all kind t =
    sum_by-append (λ x. cond (is_at kind x) 1 0) (names_pieces 0 t.names.entries) (heaps_pieces 0 t.heaps.items)
    ∙ tables_in_use kind t.names.entries t.heaps.items

pub tables_grow : (t u : Tables) → NamesGrow t.names.entries u.names.entries → BlocksGrow t.heaps.items u.heaps.items → TablesGrow t u
tables_grow t u n b = record { places = size; more = grows }
  where
    size : (kind : ℕ) → size_at kind u ≡ max (size_at kind t) (in_use kind (places_in u))
    size zero = n.places ∙ ap (λ (k : ℕ). max (length t.names.entries) k) (sym (in_all zero u))
    size (suc s) = b.places s ∙ ap (λ (k : ℕ). max (table t.heaps.items s).count k) (sym (in_all (suc s) u))

    grows : (kind : ℕ) → in_use kind (places_in t) ≤ in_use kind (places_in u)
    grows zero = let x = in_all zero t in let y = in_all zero u in let m = n.more in omega (arith, x, y, m)
    grows (suc s) = let x = in_all (suc s) t in let y = in_all (suc s) u in let m = b.more s in omega (arith, x, y, m)

pub tables_stay : (t : Tables) → TablesGrow t t
tables_stay t = tables_grow t t (names_stay t.names.entries) (blocks_stay t.heaps.items)

pub tables_then : (t u v : Tables) → TablesGrow t u → TablesGrow u v → TablesGrow t v
tables_then t u v a b = record {
  places = λ kind. greatest_on (size_at kind u) (size_at kind v) (size_at kind t) (in_use kind (places_in u)) (in_use kind (places_in v))
      (a.places kind) (b.places kind) (b.more kind);
  more = λ kind. let x = a.more kind in let y = b.more kind in omega (arith, x, y);
}

-- of a result
pub on_names : {T E : Type 0} (r : Result T E) (t : Tables) (u : Tables) → u.heaps.items ≡ t.heaps.items
    → NamesGrow t.names.entries u.names.entries → OnOk r (TablesGrow t u)
on_names (Ok x) t u same n =
    tables_grow t u n (subst (λ (l : List Blocks). BlocksGrow t.heaps.items l) (sym same) (blocks_stay t.heaps.items))
on_names (Err e) t u same n = tt

pub on_blocks : {T E : Type 0} (r : Result T E) (t : Tables) (u : Tables) → u.names.entries ≡ t.names.entries
    → OnOk r (BlocksGrow t.heaps.items u.heaps.items) → OnOk r (TablesGrow t u)
on_blocks (Ok x) t u same b =
    tables_grow t u (subst (λ (l : List Word). NamesGrow t.names.entries l) (sym same) (names_stay t.names.entries)) b
on_blocks (Err e) t u same b = tt

-- the net of a machine
pub net_room : (m : Inside) (before put after : Tables) → before.names.entries ≡ m.tables.names.entries → before.heaps.items ≡ m.tables.heaps.items
    → length after.names.entries ≡ length put.names.entries → after.heaps.items ≡ put.heaps.items → TablesGrow before put
    → (kind : ℕ) → places_of kind (net_of (record m { tables = after })) ≡ max (places_of kind (net_of m)) (in_use kind (places_in put))
net_room m before put after names heaps len same g kind =
    let at : size_at kind after ≡ size_at kind put = same_size put after len (λ s. ap (λ (l : List Blocks). (table l s).count) same) kind in
    let was : size_at kind before ≡ size_at kind m.tables =
    same_size m.tables before (ap length names) (λ s. ap (λ (l : List Blocks). (table l s).count) heaps) kind in
    net_size (record m { tables = after }) kind
    ∙ (at ∙ (g.places kind ∙ ap (λ (k : ℕ). max k (in_use kind (places_in put))) (was ∙ sym (net_size m kind))))

pub net_symbols : (m : Inside) (after : Tables) → arities_of after.heaps.items ≡ arities_of m.tables.heaps.items
    → length (net_of (record m { tables = after })).agents ≡ length (net_of m).agents
net_symbols m after known =
    length-map after.heaps.items (λ (b : Blocks). b.count)
    ∙ (as_many m.tables.heaps.items after.heaps.items known ∙ sym (length-map m.tables.heaps.items (λ (b : Blocks). b.count)))

pub net_full : (m : Inside) (t after : Tables) → length after.names.entries ≡ length t.names.entries → after.heaps.items ≡ t.heaps.items
    → HasFullTable t → (kind : ℕ) × (2 ^ 32 ≤ places_of kind (net_of (record m { tables = after })) + 1)
net_full m t after len same full =
    let at : size_at full.0 after ≡ size_at full.0 t = same_size t after len (λ s. ap (λ (l : List Blocks). (table l s).count) same) full.0 in
    let net = net_size (record m { tables = after }) full.0 in
    let many = full.1 in
    (full.0, omega (arith, at, net, many))

-- ---- what a machine has

pub net_fits : (m : Inside) (kind : ℕ) → in_use kind (net_of m).places ≤ places_of kind (net_of m)
net_fits m kind =
    let t : Tables = m.tables in
    let is : size_at kind t ≡ max (size_at kind t) (in_use kind (places_in t)) = (tables_stay t).places kind in
    let most : in_use kind (places_in t) ≤ max (size_at kind t) (in_use kind (places_in t)) = le-max_right (size_at kind t) (in_use kind (places_in t)) in
    let net = net_size m kind in
    omega (arith, is, most, net)

pub net_tables : (m : Inside) → length (net_of m).agents ≡ length (net_of m).arities
net_tables m = length-map m.tables.heaps.items (λ (b : Blocks). b.count) ∙ sym (length-map m.tables.heaps.items (λ (b : Blocks). b.arity))

-- ---- what was unpacked

pub unpacked_kept : (words : List Word) (old new : Net) (before after : Ends) (kind : ℕ) → Unpacks words old new before after
    → places_of kind old ≤ places_of kind new
unpacked_kept words old new before after kind is =
    let room = is.room kind in
    let most = le-max_left (places_of kind old) (in_use kind is.places) in
    omega (arith, room, most)

pub unpacked_enough : (words : List Word) (old new : Net) (before after : Ends) (kind : ℕ) → (is : Unpacks words old new before after)
    → in_use kind is.places ≤ places_of kind new
unpacked_enough words old new before after kind is =
    let room = is.room kind in
    let most = le-max_right (places_of kind old) (in_use kind is.places) in
    omega (arith, room, most)

pub unpacked_no_more : (words : List Word) (old new : Net) (before after : Ends) (kind : ℕ) → (is : Unpacks words old new before after)
    → (places_of kind new ≡ places_of kind old) ⊎ (in_use kind is.places ≡ places_of kind new)
unpacked_no_more words old new before after kind is = elim (leb_tells (places_of kind old) (in_use kind is.places)) [
  | inl few ↦ inr (sym (is.room kind ∙ max-eq_right few.1))
  | inr many ↦ inl (is.room kind ∙ max-eq_left (let lt : in_use kind is.places < places_of kind old = many.1 in omega (arith, lt)))
]
