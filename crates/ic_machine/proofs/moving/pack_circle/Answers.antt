use Rattle.std.proofs.Common.{◌≡◌, ℕ, ◌+◌, ◌^◌, ◌<◌, ◌≤◌, List, [], ◌∷◌, ◌++◌, length, map, max, refl, ap, sym, subst, arith, sum_by}
use Rattle.std.proofs.lemmas.List.Sorted.{IsPermutation-append_left, IsPermutation-refl, IsPermutation-sym}
use Rattle.ic_arena.specs.declared.word.Word.{Word}
use Rattle.ic_arena.specs.declared.word.TheConstants.{FREE, IDLE}
use Rattle.ic_arena.specs.Word.{name_word}
use Rattle.ic_arena.specs.Piece.{Piece, idle, room, waits}
use Rattle.ic_arena.specs.Tables.{Entries, Replaced, entry, names_pieces}
use Rattle.ic_machine.specs.declared.tables.Tables.{Tables}
use Rattle.ic_machine.specs.Moving.{Ends, Side, none_opened, one_opened, end_word}
use Rattle.ic_machine.specs.inner.Firing.{arities_of, heaps_pieces}
use Rattle.ic_machine.specs.inner.Moving.{places_in, side_in, AreInHand, HasMoreNames, IsAsLarge}
use Rattle.ic_machine.proofs.Opening.{circle_hand, free_nowhere, opened_entry, waits_anew, WaitsAnew}
use Rattle.ic_machine.proofs.InUse.{one_longer, one_more}
use Rattle.ic_machine.proofs.Parcels.{packs_from}
use Rattle.ic_machine.proofs.Standing.{names_few}
use Rattle.ic_machine.proofs.moving.pack_circle.Goals as goal

-- a new name, and the names after it
opened : (es ms ns : List Word) (j : ℕ) → ms ≡ es → Replaced [] (idle (name_word j) ∷ []) (names_pieces 0 ms) (names_pieces 0 ns)
    → Replaced [] (idle (name_word j) ∷ []) (names_pieces 0 es) (names_pieces 0 ns)
opened es ms ns j same o = subst (λ (l : List Word). Replaced [] (idle (name_word j) ∷ []) (names_pieces 0 l) (names_pieces 0 ns)) same o

module _ (t : Tables) (ms ns : List Word) (fs : Entries) (i j : ℕ) (u y : Word) (same : ms ≡ t.names.entries)
    (o : Replaced [] (idle (name_word j) ∷ []) (names_pieces 0 ms) (names_pieces 0 ns)) (new : y ≡ name_word j)
    (is : u ≡ entry t.names.entries i) (word : u.tag < IDLE)
    (r : Replaced (waits (name_word i) (entry ns i) ∷ []) (waits (name_word i) y ∷ []) (names_pieces 0 ns) (names_pieces 0 fs.entries)) where
  -- the name waits for it
  anew : WaitsAnew (name_word i) y u (names_pieces 0 t.names.entries) (names_pieces 0 fs.entries)
  anew =
      let es : List Word = t.names.entries in
      let before : Replaced [] (idle (name_word j) ∷ []) (names_pieces 0 es) (names_pieces 0 ns) = opened es ms ns j same o in
      subst (λ (x : Word). WaitsAnew (name_word i) x u (names_pieces 0 es) (names_pieces 0 fs.entries)) (sym new)
      (waits_anew (name_word i) (name_word j) u (names_pieces 0 es) (names_pieces 0 ns) (names_pieces 0 fs.entries) before
      (subst (λ (x : Word). Replaced (waits (name_word i) u ∷ []) (waits (name_word i) x ∷ []) (names_pieces 0 ns) (names_pieces 0 fs.entries)) new
      (subst (λ (v : Word). Replaced (waits (name_word i) v ∷ []) (waits (name_word i) y ∷ []) (names_pieces 0 ns) (names_pieces 0 fs.entries))
      (opened_entry es ns i j u is word before) r)))

  in_hand : (b : Ends) (others : List Word) → AreInHand [] others t b → AreInHand (y ∷ u ∷ []) others (record t { names = fs }) b
  in_hand b others =
      circle_hand (arities_of t.heaps.items) (name_word i) y u (names_pieces 0 t.names.entries) (names_pieces 0 fs.entries)
      (heaps_pieces 0 t.heaps.items) (map end_word b.ends ++ others) anew

pub replace-requires-clause-waits : goal.replace-requires-clause-waits
replace-requires-clause-waits c =
    let es : List Word = c.args.tables.now.names.entries in
    let ns : List Word = c.open.new.self.entries in
    let word : c.get-right.result.tag < IDLE = c.if-right-ge-IDLE.false in
    subst (λ (v : Word). v.tag < IDLE)
    (sym (opened_entry es ns c.args.name c.open.result c.get-right.result c.get-right.ensures word
    (opened es c.reserve.new.self.entries ns c.open.result c.in_ok-reserve.ensures.entries c.open.ensures.opened))) word

-- how many names there are then
names_then : (es ms ns fs : List Word) (j : ℕ) → ms ≡ es → Replaced [] (idle (name_word j) ∷ []) (names_pieces 0 ms) (names_pieces 0 ns)
    → length ns ≡ max (length ms) (length (names_pieces 0 ns)) → length fs ≡ length ns → (length es ≤ length fs) × (length fs ≤ length es + 1)
names_then es ms ns fs j same o many len =
    let longer = one_longer (idle (name_word j)) (names_pieces 0 ms) (names_pieces 0 ns) o in
    let once = one_more (length ns) (length ms) (length (names_pieces 0 ms)) (length (names_pieces 0 ns)) many longer (names_few 0 ms) in
    let old = ap (length {A = Word}) same in
    (omega arith, omega arith)

pub pack_equation-requires-clause-named : goal.pack_equation-requires-clause-named
pack_equation-requires-clause-named c =
    in_hand c.args.tables.now c.reserve.new.self.entries c.open.new.self.entries c.replace.new.self c.args.name c.open.result
    c.get-right.result c.name-left.result c.in_ok-reserve.ensures.entries c.open.ensures.opened c.name-left.ensures
    c.get-right.ensures c.if-right-ge-IDLE.false c.replace.ensures.replaced c.args.borders.now [] c.requires.named

pub returns-then-right-ge-IDLE-clause-opened : goal.returns-then-right-ge-IDLE-clause-opened
returns-then-right-ge-IDLE-clause-opened c = none_opened (side_in c.args.tables.now c.args.borders.now) c.args.parcel.now.words.items

-- what the tables kept
more_names : (t : Tables) (ns : Entries) (new : Tables) → (length t.names.entries ≤ length ns.entries) × (length ns.entries ≤ length t.names.entries + 1)
    → length t.names.entries + 1 < 2 ^ 32 → IsAsLarge (record t { names = ns }) new → HasMoreNames t new
more_names t ns new more few size = record {
  names = let same = size.names in let low = more.0 in omega arith;
  few = let same = size.names in let high = more.1 in omega arith;
  blocks = size.blocks;
  arities = size.arities;
  pending = size.pending;
  registers = size.registers;
  spare = size.spare;
}

pub returns-in_err-pack_equation-clause-left : goal.returns-in_err-pack_equation-clause-left
returns-in_err-pack_equation-clause-left c = λ others hand.
    c.in_err-pack_equation.ensures.left others (in_hand c.args.tables.now c.reserve.new.self.entries c.open.new.self.entries c.replace.new.self c.args.name c.open.result
    c.get-right.result c.name-left.result c.in_ok-reserve.ensures.entries c.open.ensures.opened c.name-left.ensures
    c.get-right.ensures c.if-right-ge-IDLE.false c.replace.ensures.replaced c.args.borders.now others hand)

pub returns-in_err-pack_equation-clause-size : goal.returns-in_err-pack_equation-clause-size
returns-in_err-pack_equation-clause-size c =
    let t : Tables = c.args.tables.now in
    more_names t c.replace.new.self c.pack_equation.new.tables
    (names_then t.names.entries c.reserve.new.self.entries c.open.new.self.entries c.replace.new.self.entries c.open.result
    c.in_ok-reserve.ensures.entries c.open.ensures.opened c.open.ensures.len c.replace.ensures.len)
    (omega (arith, c.if-len-ge-MAX_ENTRIES.false, c.len.ensures)) c.in_err-pack_equation.ensures.size

pub returns-clause-opened : goal.returns-clause-opened
returns-clause-opened c =
    let t : Tables = c.args.tables.now in
    let b : Ends = c.args.borders.now in
    let es : List Word = t.names.entries in
    let fs : List Word = c.replace.new.self.entries in
    let h : List Piece = heaps_pieces 0 t.heaps.items in
    let x : Word = name_word c.args.name in
    let y : Word = c.name-left.result in
    let u : Word = c.get-right.result in
    let new : Side = side_in c.pack_equation.new.tables c.pack_equation.new.borders in
    let us : List Word = c.args.parcel.now.words.items in
    let vs : List Word = c.pack_equation.new.parcel.words.items in
    let w = anew c.args.tables.now c.reserve.new.self.entries c.open.new.self.entries c.replace.new.self c.args.name c.open.result
    c.get-right.result c.name-left.result c.in_ok-reserve.ensures.entries c.open.ensures.opened c.name-left.ensures
    c.get-right.ensures c.if-right-ge-IDLE.false c.replace.ensures.replaced in
    let free = subst (λ (l : List Word). (entry l c.open.result).tag ≡ FREE) c.in_ok-reserve.ensures.entries c.open.ensures.fresh in
    one_opened (side_in t b) (side_in t b) new us us vs (none_opened (side_in t b) us) (record {
      name = x;
      fresh = y;
      word = u;
      others = w.others ++ h;
      named = (refl, ap (λ (v : Word). v.tag) c.name-left.ensures);
      free = subst (λ (v : Word). sum_by (room v) (places_in t) ≡ 0) (sym c.name-left.ensures) (free_nowhere es t.heaps.items c.open.result free);
      waited = IsPermutation-append_left h (names_pieces 0 es) (waits x u ∷ w.others) w.waited;
      packs = packs_from (arities_of t.heaps.items) (record { left = y; right = u } ∷ [])
          (record { places = names_pieces 0 fs ++ h; ends = b.ends }) new
          (record { places = waits x y ∷ idle y ∷ (w.others ++ h); ends = b.ends }) us vs
          (IsPermutation-sym (names_pieces 0 fs ++ h) (waits x y ∷ idle y ∷ (w.others ++ h))
          (IsPermutation-append_left h (names_pieces 0 fs) (waits x y ∷ idle y ∷ w.others) w.waits_now))
          (IsPermutation-refl b.ends) c.in_ok-pack_equation.ensures.packs;
    })

pub returns-clause-named : goal.returns-clause-named
returns-clause-named c = λ others hand.
    c.in_ok-pack_equation.ensures.named others (in_hand c.args.tables.now c.reserve.new.self.entries c.open.new.self.entries c.replace.new.self c.args.name c.open.result
    c.get-right.result c.name-left.result c.in_ok-reserve.ensures.entries c.open.ensures.opened c.name-left.ensures
    c.get-right.ensures c.if-right-ge-IDLE.false c.replace.ensures.replaced c.args.borders.now others hand)

pub returns-clause-left : goal.returns-clause-left
returns-clause-left c = λ others hand.
    c.in_ok-pack_equation.ensures.left others (in_hand c.args.tables.now c.reserve.new.self.entries c.open.new.self.entries c.replace.new.self c.args.name c.open.result
    c.get-right.result c.name-left.result c.in_ok-reserve.ensures.entries c.open.ensures.opened c.name-left.ensures
    c.get-right.ensures c.if-right-ge-IDLE.false c.replace.ensures.replaced c.args.borders.now others hand)

pub returns-clause-size : goal.returns-clause-size
returns-clause-size c =
    let t : Tables = c.args.tables.now in
    more_names t c.replace.new.self c.pack_equation.new.tables
    (names_then t.names.entries c.reserve.new.self.entries c.open.new.self.entries c.replace.new.self.entries c.open.result
    c.in_ok-reserve.ensures.entries c.open.ensures.opened c.open.ensures.len c.replace.ensures.len)
    (omega (arith, c.if-len-ge-MAX_ENTRIES.false, c.len.ensures)) c.in_ok-pack_equation.ensures.size
