use Rattle.std.specs.Vec.{with_items}
use Rattle.std.proofs.Common.{◌≡◌, ◌+◌, ◌-◌, ◌<◌, ◌≤◌, ℕ, List, [], ◌∷◌, ◌++◌, Some, length, map, max, slice_get, take, ap, sym, subst, refl, ◌∙◌, append_assoc, arith}
use Rattle.std.proofs.lemmas.List.{length-append, length-map, take-take}
use Rattle.std.proofs.lemmas.List.Sorted.{IsPermutation-refl}
use Rattle.ic_arena.specs.declared.word.Word.{Word}
use Rattle.ic_arena.specs.declared.word.TheConstants.{GIVEN}
use Rattle.ic_arena.specs.Piece.{Piece}
use Rattle.ic_arena.specs.Tables.{Blocks, names_pieces}
use Rattle.ic_machine.specs.declared.equation.Equation.{Equation}
use Rattle.ic_machine.specs.declared.tables.Tables.{Tables}
use Rattle.ic_machine.specs.Plan.{Planned, IsPlan, constants, pieces_made, planned}
use Rattle.ic_machine.specs.Net.{equated_of, in_use}
use Rattle.ic_machine.specs.Generations.{FiresPair}
use Rattle.ic_machine.specs.Separate.{IsSeparate}
use Rattle.ic_machine.specs.Steps.{AreFresh, no_step}
use Rattle.ic_machine.specs.inner.Firing.{HasRoom, SameSize, Taken, arities_of, heaps_pieces, table}
use Rattle.ic_machine.specs.inner.Tables.{arguments_of, size_of}
use Rattle.ic_machine.specs.lemmas.FiringKeeps.{all_of}
use Rattle.ic_machine.specs.lemmas.Separation.{separate_in_order}
use Rattle.ic_machine.proofs.AtPlaces.{tables_of_pairs}
use Rattle.ic_machine.proofs.Fired.{left_table, pair_end, right_table}
use Rattle.ic_machine.proofs.Firings.{args_named, args_words, fire_pair, fresh_fewer, left_there, pair_first, right_there}
use Rattle.ic_machine.proofs.Heaps.{as_many, room_same, same_sizes_on}
use Rattle.ic_machine.proofs.InUse.{same_size}
use Rattle.ic_machine.proofs.Registers.{written, written_twice}
use Rattle.ic_machine.proofs.Sound.{first_of}
use Rattle.ic_machine.proofs.Spare.{blocks_same}
use Rattle.ic_machine.proofs.tables.Tables.fire.Goals as goal
use Rattle.ic_machine.proofs.tables.Tables.fire.Goals.{After-take_into-both}

-- the tables are separate, with the pair as the last one that is pending
beside_others : (t : Tables) (e : Equation) → IsSeparate (arities_of t.heaps.items) []
    (equated_of e ∷ (names_pieces 0 t.names.entries ++ (heaps_pieces 0 t.heaps.items ++ (map equated_of t.pending.items ++ []))))
    → IsSeparate (arities_of t.heaps.items) [] (names_pieces 0 t.names.entries ++ (heaps_pieces 0 t.heaps.items
    ++ (map equated_of (t.pending.items ++ e ∷ []) ++ [])))
beside_others t e s =
    let n : List Piece = names_pieces 0 t.names.entries in
    let h : List Piece = heaps_pieces 0 t.heaps.items in
    let ps : List Equation = t.pending.items in
    separate_in_order (arities_of t.heaps.items) [] (equated_of e ∷ (n ++ (h ++ (map equated_of ps ++ []))))
    (n ++ (h ++ (map equated_of (ps ++ e ∷ []) ++ []))) (pair_end n h [] e ps) s

-- words that are taken out, beside the same registers
taken_beside : (w : Word) (k : ℕ) (xs ys : List Piece) (before before' after after' : List Word) → before ≡ before'
    → after ≡ after' → Taken w k xs ys before after → Taken w k xs ys before' after'
taken_beside w k xs ys before before' after after' e f taken =
    subst (λ (l : List Word). Taken w k xs ys before' l) f (subst (λ (l : List Word). Taken w k xs ys l after) e taken)

-- ---- what is known as the arguments are in the registers

module _ (g : _) (c : After-take_into-both g) where
  arities3 : arities_of c.take_into-both.new.heaps.items ≡ arities_of c.args.self.now.heaps.items
  arities3 = c.take_into-both.ensures.arities ∙ c.take_into-left.ensures.arities

  sizes3 : (s : ℕ) → SameSize (table c.args.self.now.heaps.items s) (table c.take_into-both.new.heaps.items s)
  sizes3 = same_sizes_on c.args.self.now.heaps.items c.take_into-left.new.heaps.items c.take_into-both.new.heaps.items
      c.take_into-left.ensures.sizes c.take_into-both.ensures.sizes

  len3 : length c.take_into-both.new.heaps.items ≡ length c.args.self.now.heaps.items
  len3 = as_many c.args.self.now.heaps.items c.take_into-both.new.heaps.items arities3

  -- the tables then
  abbrev tables3 : Tables
  tables3 = record c.args.self.now {
    heaps = c.take_into-both.new.heaps;
    registers = with_items (with_items c.args.self.now.registers c.take_into-left.new.registers) c.take_into-both.new.registers;
  }

  symbols : c.len-symbols.result ≡ length c.args.self.now.heaps.items
  symbols = omega (arith, c.len-symbols.ensures, c.args.self.now.heaps.ok.0)

  wide : length c.take_into-left.new.registers ≡ length c.args.self.now.registers.items
  wide = c.take_into-left.ensures.len ∙ ap length c.deref_mut.ensures.value

  second : c.deref_mut-2.result.now ≡ c.take_into-left.new.registers
  second = c.deref_mut-2.ensures.value ∙ written c.args.self.now.registers c.take_into-left.new.registers wide

  last : tables3.registers.items ≡ c.take_into-both.new.registers
  last = written_twice c.args.self.now.registers c.take_into-left.new.registers c.take_into-both.new.registers wide
      (c.take_into-both.ensures.len ∙ ap length second)

  left : Taken c.args.pair.left (table c.args.self.now.heaps.items (c.args.pair.left.tag - 1)).arity
      (heaps_pieces 0 c.args.self.now.heaps.items) (heaps_pieces 0 c.take_into-left.new.heaps.items)
      (take (length c.args.self.now.heaps.items) c.args.self.now.registers.items)
      (take c.take_into-left.result c.take_into-left.new.registers)
  left = taken_beside c.args.pair.left _ _ _ (take c.len-symbols.result c.deref_mut.result.now) _ _ _
      (λ i. take (symbols i) (c.deref_mut.ensures.value i)) refl c.take_into-left.ensures.taken

  right : Taken c.args.pair.right (table c.take_into-left.new.heaps.items (c.args.pair.right.tag - 1)).arity
      (heaps_pieces 0 c.take_into-left.new.heaps.items) (heaps_pieces 0 c.take_into-both.new.heaps.items)
      (take c.take_into-left.result c.take_into-left.new.registers)
      (take c.take_into-both.result tables3.registers.items)
  right = taken_beside c.args.pair.right _ _ _ (take c.take_into-left.result c.deref_mut-2.result.now) _
      (take c.take_into-both.result c.take_into-both.new.registers) _
      (ap (take c.take_into-left.result) second) (ap (take c.take_into-both.result) (sym last)) c.take_into-both.ensures.taken

  filled : take c.take_into-both.result tables3.registers.items
      ≡ constants (length c.args.self.now.heaps.items) ++ (left.args ++ right.args)
  filled =
      right.pushed ∙ (ap (λ (x : List Word). x ++ right.args) left.pushed
      ∙ (append_assoc (take (length c.args.self.now.heaps.items) c.args.self.now.registers.items) left.args right.args
      ∙ ap (λ (x : List Word). x ++ (left.args ++ right.args)) c.requires.registers))

  many : c.take_into-both.result ≡ length c.args.self.now.heaps.items + length (left.args ++ right.args)
  many =
      let l = left.count in
      let r = right.count in
      let both = length-append left.args right.args in
      let n = symbols in
      omega (arith, c.take_into-left.ensures.filled, c.take_into-both.ensures.filled)

pub take_into-left-requires-clause-there : goal.take_into-left-requires-clause-there
take_into-left-requires-clause-there g c = λ some.
    let t : Tables = c.args.self.now in
    let can = c.requires.plan in
    let arity = (left_table t.heaps.items c.args.pair (planned c.args.plan.now) can).1 in
    left_there t.names.entries t.heaps.items t.pending.items c.args.pair can.left can.left_args
    (beside_others t c.args.pair c.requires.separate) can.left_tag can.left_arity (omega arith)

pub take_into-both-requires-clause-symbol : goal.take_into-both-requires-clause-symbol
take_into-both-requires-clause-symbol g c =
    let below = (right_table c.args.self.now.heaps.items c.args.pair (planned c.args.plan.now) c.requires.plan).0 in
    let len = as_many c.args.self.now.heaps.items c.take_into-left.new.heaps.items c.take_into-left.ensures.arities in
    omega (arith, c.requires.plan.right_tag)

pub take_into-both-requires-clause-there : goal.take_into-both-requires-clause-there
take_into-both-requires-clause-there g c = λ some.
    let t : Tables = c.args.self.now in
    let e : Equation = c.args.pair in
    let can = c.requires.plan in
    let again = (c.take_into-left.ensures.sizes (e.right.tag - 1)).arity
    ∙ (right_table t.heaps.items e (planned c.args.plan.now) can).1 in
    right_there t.names.entries t.heaps.items c.take_into-left.new.heaps.items t.pending.items e can.right
    (table t.heaps.items (e.left.tag - 1)).arity can.right_args (take c.len-symbols.result c.deref_mut.result.now)
    (take c.take_into-left.result c.take_into-left.new.registers) c.take_into-left.ensures.taken
    (beside_others t e c.requires.separate) can.right_tag can.right_arity (omega arith)

pub make-requires-clause-ready : goal.make-requires-clause-ready
make-requires-clause-ready g c =
    let d = (goal.at.make-requires-clause-ready g c).After-take_into-both in
    let e : Equation = c.args.pair in
    let can = c.requires.plan in
    let t : Tables = c.args.self.now in
    let p : Planned = planned c.args.plan.now in
    let h1 : List Blocks = t.heaps.items in
    let h2 : List Blocks = c.take_into-left.new.heaps.items in
    let h3 : List Blocks = c.take_into-both.new.heaps.items in
    let l = left g d in
    let r = right g d in
    let args : List Word = l.args ++ r.args in
    let left_count : length l.args ≡ can.left_args = l.count ∙ (left_table h1 e p can).1 in
    let right_count : length r.args ≡ can.right_args =
    r.count ∙ ((c.take_into-left.ensures.sizes (e.right.tag - 1)).arity ∙ (right_table h1 e p can).1) in
    let count : length args ≡ can.left_args + can.right_args = length-append l.args r.args ∙ (rw (left_count, right_count) refl) in
    let few : length h1 < GIVEN = c.requires.symbols in
    let same : length h3 ≡ length h1 = len3 g d in
    let r0 : List Word = take (length h1) t.registers.items in
    let r1 : List Word = take c.take_into-left.result c.take_into-left.new.registers in
    let r2 : List Word = take c.take_into-both.result (tables3 g d).registers.items in
    let separate = beside_others t e c.requires.separate in
    record {
      args = args;
      len = many g d ∙ ap (λ (k : ℕ). k + length args) (sym same);
      words_are = filled g d ∙ ap (λ (k : ℕ). constants k ++ args) (sym same);
      plan = subst (λ (a : List ℕ). IsPlan a (length args) p) (sym (arities3 g d))
          (subst (λ (k : ℕ). IsPlan (arities_of h1) k p) (sym count) can.is_plan);
      words = args_words t.names.entries t.pending.items e _ _ h1 h2 h3 r0 r1 r2 l r separate few;
      symbols = omega arith;
      named = args_named t.names.entries t.pending.items e _ _ h1 h2 h3 r0 r1 r2 l r separate;
    }

pub make-requires-clause-memory : goal.make-requires-clause-memory
make-requires-clause-memory g c =
    let d = (goal.at.make-requires-clause-memory g c).After-take_into-both in
    let t : Tables = c.args.self.now in
    let memory = c.requires.memory in
    let p : Planned = planned c.args.plan.now in
    let again = (c.take_into-left.ensures.sizes (c.args.pair.right.tag - 1)).arity in
    let room : length t.heaps.items + (arguments_of c.args.pair t.heaps.items + p.names + length p.made)
    ≤ length t.registers.items = memory.registers in
    let same = len3 g d in
    let start = symbols g d in
    let width : length (tables3 g d).registers.items ≡ length t.registers.items =
    ap length (last g d) ∙ (c.take_into-both.ensures.len ∙ (ap length (second g d) ∙ wide g d)) in
    record {
      names = memory.names;
      few = memory.few;
      pending = memory.pending;
      registers = omega (arith, c.take_into-left.ensures.filled, c.take_into-both.ensures.filled);
      heaps = all_of (HasRoom t.heaps.items (length p.made)) (HasRoom c.take_into-both.new.heaps.items (length p.made))
          p.made (λ m room. room_same t.heaps.items c.take_into-both.new.heaps.items (length p.made) m (sizes3 g d) room) memory.heaps;
    }

pub returns-clause-fires : goal.returns-clause-fires
returns-clause-fires g c = λ q i a b rest left_tag right_tag arities number pending aside.
    let d = (goal.at.returns-clause-fires g c).After-take_into-both in
    let t : Tables = c.args.self.now in
    let e : Equation = c.args.pair in
    let can = c.requires.plan in
    let p : Planned = planned c.args.plan.now in
    let h1 : List Blocks = t.heaps.items in
    let h2 : List Blocks = c.take_into-left.new.heaps.items in
    let h3 : List Blocks = c.take_into-both.new.heaps.items in
    let made = c.make.ensures.made in
    let regs0 : List Word = take (length h1) t.registers.items in
    let regs1 : List Word = take c.take_into-left.result c.take_into-left.new.registers in
    let regs2 : List Word = take c.take_into-both.result (tables3 g d).registers.items in
    let pa : a ≡ can.left = omega (arith, can.left_tag) in
    let pb : b ≡ can.right = omega (arith, can.right_tag) in
    let ka = ap (λ (l : List ℕ). slice_get l a) arities
    ∙ (ap (slice_get (arities_of h1)) pa ∙ (can.left_arity ∙ ap (λ (k : ℕ). Some k) (sym (left_table h1 e p can).1))) in
    let kb = ap (λ (l : List ℕ). slice_get l b) arities
    ∙ (ap (slice_get (arities_of h1)) pb ∙ (can.right_arity
    ∙ ap (λ (k : ℕ). Some k) (sym ((c.take_into-left.ensures.sizes (e.right.tag - 1)).arity ∙ (right_table h1 e p can).1)))) in
    let r0 : regs0 ≡ constants (length q.arities) =
    c.requires.registers ∙ ap constants (sym (ap length arities ∙ length-map h1 (λ x. x.arity))) in
    let n : List Piece = names_pieces 0 t.names.entries in
    let pairs : List Piece = map equated_of t.pending.items in
    let others : List Piece → List Piece = λ (y : List Piece). n ++ (heaps_pieces 0 h3 ++ y) in
    let new : List Piece = pieces_made p (regs2 ++ (made.names ++ made.made)) made.names made.made in
    let fired : (y : List Piece) → AreFresh (made.names ++ made.made) (others y)
    → FiresPair q e i (equated_of e ∷ (n ++ (heaps_pieces 0 h1 ++ y))) (new ++ others y) = λ y fresh.
    pair_first q e i n (heaps_pieces 0 h1) y (new ++ others y)
    (fire_pair q i a b p [] e (table h1 (e.left.tag - 1)).arity (table h2 (e.right.tag - 1)).arity t.names.entries h1 h2 h3
    regs0 regs1 regs2 made.names made.made y (left g d) (right g d) left_tag right_tag ka kb number r0 made.names_count made.made_count made.name_tags made.made_tags fresh) in
    let all : List Piece = pairs ++ map equated_of rest in
    let start : List Piece = equated_of e ∷ (n ++ (heaps_pieces 0 h1 ++ all)) in
    record {
      moment = new ++ others all;
      bare = λ more es after. record {
        middle = new ++ others (map equated_of es);
        pair = fired (map equated_of es)
            (fresh_fewer (made.names ++ made.made) n (heaps_pieces 0 h3) t.pending.items es (made.fresh es));
        links = made.bare q (map equated_of es) more after;
      };
      way = (
        record {
          before = start;
          steps = no_step start start (IsPermutation-refl start);
          pairs = (
            (λ is. absurd (omega (arith, left_tag)), λ is. absurd (omega (arith, right_tag))),
            tables_of_pairs t.names.entries h1 t.pending.items rest pending aside,
          );
          fires = (fired all (made.fresh rest)).fires;
        },
        made.steps q (map equated_of rest),
      );
      places = λ kind.
          made.places kind rest
          ∙ ap (λ (k : ℕ). max k (in_use kind (new ++ others all))) (same_size t (tables3 g d) refl (λ s. (sizes3 g d s).count) kind);
    }

pub returns-clause-registers : goal.returns-clause-registers
returns-clause-registers g c =
    let d = (goal.at.returns-clause-registers g c).After-take_into-both in
    let p : Planned = planned c.args.plan.now in
    let made = c.make.ensures.made in
    let more : List Word = made.names ++ made.made in
    let args : List Word = (left g d).args ++ (right g d).args in
    let n : ℕ = length c.args.self.now.heaps.items in
    let hs : List Blocks = c.make.new.self.heaps.items in
    let rs : List Word = c.make.new.self.registers.items in
    let k : ℕ = c.take_into-both.result + (p.names + length p.made) in
    let same : length hs ≡ n = as_many c.take_into-both.new.heaps.items hs c.make.ensures.arities ∙ len3 g d in
    let count = many g d in
    sym (take-take (length hs) k rs (omega arith))
    ∙ first_of n (length hs) (take k rs) (args ++ more) same
    (made.registers ∙ (ap (λ (x : List Word). x ++ more) (filled g d) ∙ append_assoc (constants n) args more))

pub returns-clause-room : goal.returns-clause-room
returns-clause-room g c = λ n room.
    let d = (goal.at.returns-clause-room g c).After-take_into-both in
    let t : Tables = c.args.self.now in
    let k : ℕ = n + size_of (planned c.args.plan.now) in
    let len : length c.take_into-both.new.heaps.items ≡ length t.heaps.items = len3 g d in
    c.make.ensures.room n (record {
      names = room.names;
      few = room.few;
      pending = room.pending;
      heaps = λ s lt. blocks_same k (table t.heaps.items s) (table c.take_into-both.new.heaps.items s) (sizes3 g d s)
          (room.heaps s (omega arith));
    })
