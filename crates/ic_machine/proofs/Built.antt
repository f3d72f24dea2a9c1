-- What a builder has made: one agent more, and all of it linked.
use Rattle.std.proofs.Common.{◌≡◌, ℕ, zero, suc, ◌+◌, ◌<◌, ◌≤◌, List, [], ◌∷◌, ◌++◌, cond, length, map, take, refl, ap, sym, subst, ◌∙◌, append_assoc, arith, slice_index_or, slice_set}
use Rattle.std.specs.Global.{Vec}
use Rattle.std.specs.List.{AllByRecursion, flat_map}
use Rattle.std.specs.List.Sorted.{IsPermutation}
use Rattle.std.proofs.lemmas.List.{append-nil, length-append, length-map, length_push}
use Rattle.std.proofs.lemmas.List.Concat.{flat_map-append}
use Rattle.std.proofs.lemmas.List.Sorted.{IsPermutation-sym}
use Rattle.std.proofs.lemmas.List.Sums.{sum_by-append}
use Rattle.ic_arena.specs.declared.word.Word.{Word}
use Rattle.ic_arena.specs.declared.word.TheConstants.{NAME, IDLE, GIVEN}
use Rattle.ic_arena.specs.Word.{name_word, word_eq, count}
use Rattle.ic_arena.specs.Piece.{Piece, idle}
use Rattle.ic_arena.specs.Tables.{Blocks, blocks_from, names_pieces, register}
use Rattle.ic_machine.specs.declared.building.Builder.TheInside.{Inside}
use Rattle.ic_machine.specs.declared.plan.Link.{Link}
use Rattle.ic_machine.specs.declared.tables.Tables.{Tables}
use Rattle.ic_machine.specs.Building.{Building, Builds, CanBegin}
use Rattle.ic_machine.specs.Net.{Net, in_use, pieces, places_of}
use Rattle.ic_machine.specs.Plan.{ArePlans, Made, Plans, IsPlan, constants, linked, made_each, pieces_made}
use Rattle.ic_machine.specs.Runs.{HaveHead, Starts, first_registers, given_words}
use Rattle.ic_machine.specs.Separate.{IsSeparate}
use Rattle.ic_machine.specs.Steps.{AreFresh, Steps}
use Rattle.ic_machine.specs.inner.Building.{IsBuilder}
use Rattle.ic_machine.specs.inner.Firing.{arities_of, heaps_pieces, table, AreSame, Makes, Opened}
use Rattle.ic_machine.specs.inner.Linking.{AreLinks}
use Rattle.ic_machine.specs.inner.Making.{AreFull, MakesOne}
use Rattle.ic_machine.specs.inner.Tables.{size_at}
use Rattle.ic_machine.specs.lemmas.FiringKeeps.{all_append, all_of}
use Rattle.ic_machine.specs.lemmas.StepsOn.{steps_to}
use Rattle.ic_machine.proofs.Fresh.{agent_tags, fresh_append, makes_more, makes_none, no_name}
use Rattle.ic_machine.proofs.Heaps.{as_many, same_all, same_at, same_length, same_set, table_read}
use Rattle.ic_machine.proofs.InUse.{made_in_use, used_at}
use Rattle.ic_machine.proofs.Limits.{none_yet}
use Rattle.ic_machine.proofs.Making.{filled_count, made_steps, plan_links}
use Rattle.ic_machine.proofs.Running.{held_order}
use Rattle.ic_machine.proofs.Sound.{first_registers as taken_registers}
use Rattle.ic_machine.proofs.Standing.{blocks_few}
use Rattle.ic_machine.proofs.Starting.{given_length, given_none, start_separate}

pub placed_count : (made : List Made) (placed : List Word)
    → map (λ (w : Word). w.tag) placed ≡ map (λ (m : Made). m.symbol + 1) made → length placed ≡ length made
placed_count made placed tags =
    sym (length-map placed (λ (w : Word). w.tag)) ∙ (ap length tags ∙ length-map made (λ (m : Made). m.symbol + 1))

-- the first of some fresh places, and the others
pub fresh_front : (us vs : List Word) (rest : List Piece) → AreFresh (us ++ vs) rest → AreFresh us rest
fresh_front [] vs rest h = tt
fresh_front (u ∷ us) vs rest h =
    let both : count u (us ++ vs) ≡ count u us + count u vs = sum_by-append (λ x. cond (word_eq u x) 1 0) us vs in
    let none : count u (us ++ vs) ≡ 0 = h.1 in
    (h.0, omega arith, fresh_front us vs rest h.2)

pub fresh_back : (us vs : List Word) (rest : List Piece) → AreFresh (us ++ vs) rest → AreFresh vs rest
fresh_back [] vs rest h = h
fresh_back (u ∷ us) vs rest h = fresh_back us vs rest h.2

-- the registers before those of fresh names
abbrev pub base : List ℕ → ℕ → List Word
base arities given = constants (length arities) ++ given_words given

-- the names and the agents, as they are opened and made
abbrev pub built_opened : (given names : ℕ) (made : List Made) (b : Building) (h : Builds given names made b) (ns : List Word)
    → names_pieces 0 ns ≡ b.names → Opened names [] ns (base b.arities given) (base b.arities given ++ h.opened)
built_opened given names made b h ns is = record {
  names = h.opened;
  count = h.names_count;
  pushed = refl;
  tags = h.name_tags;
  pieces = subst (λ (l : List Piece). IsPermutation (names_pieces 0 ns) l) (sym (append-nil (map idle h.opened)))
      (subst (λ (l : List Piece). IsPermutation l (map idle h.opened)) (sym is) h.names_are);
  fresh = fresh_front h.opened h.placed [] h.fresh;
}

abbrev pub built_makes : (given names : ℕ) (made : List Made) (b : Building) (h : Builds given names made b)
    → Makes made [] b.agents (base b.arities given ++ h.opened) b.registers
built_makes given names made b h = record {
  places = h.placed;
  count = placed_count made h.placed h.made_tags;
  pushed = h.registers ∙ sym (append_assoc (base b.arities given) h.opened h.placed
      ∙ append_assoc (constants (length b.arities)) (given_words given) (h.opened ++ h.placed));
  tags = h.made_tags;
  pieces = subst (λ (l : List Piece). IsPermutation b.agents l) (sym (append-nil (made_each b.registers made h.placed))) h.agents_are;
  fresh = fresh_back h.opened h.placed [] h.fresh;
}

pub builds_from : (given names : ℕ) (made : List Made) (b : Building) (opened : List Word) → length opened ≡ names
    → AllByRecursion (λ w. w.tag ≡ NAME) opened → AreFresh opened [] → IsPermutation b.names (map idle opened)
    → Makes made [] b.agents (base b.arities given ++ opened) b.registers
    → AllByRecursion (λ k. k < length b.registers) (flat_map (λ n. n.operands) made) → Builds given names made b
builds_from given names made b opened counted tags fresh are m filled = record {
  opened = opened;
  placed = m.places;
  names_count = counted;
  name_tags = tags;
  made_tags = m.tags;
  fresh = fresh_append opened m.places [] fresh m.fresh
      (all_of (λ w. w.tag ≡ NAME) (λ w. count w m.places ≡ 0) opened
      (λ w e. no_name w m.places e (agent_tags made m.places m.tags)) tags);
  registers = m.pushed ∙ (append_assoc (base b.arities given) opened m.places
      ∙ append_assoc (constants (length b.arities)) (given_words given) (opened ++ m.places));
  filled = filled;
  names_are = are;
  agents_are = subst (λ (l : List Piece). IsPermutation b.agents l) (append-nil (made_each b.registers made m.places)) m.pieces;
}

-- how many registers there are
pub built_count : (given names : ℕ) (made : List Made) (b : Building) → Builds given names made b
    → length b.registers ≡ length b.arities + given + names + length made
built_count given names made b h =
    let all = ap length h.registers ∙ filled_count (length b.arities) (given_words given ++ (h.opened ++ h.placed)) in
    let gs : length (given_words given) ≡ given = given_length given in
    let parts = length-append (given_words given) (h.opened ++ h.placed) in
    let both = length-append h.opened h.placed in
    let placed : length h.placed ≡ length made = placed_count made h.placed h.made_tags in
    let opened : length h.opened ≡ names = h.names_count in
    omega arith

-- one agent more is made
pub builds_more : (given names : ℕ) (made : List Made) (n : Made) (a b : Building) → b.arities ≡ a.arities → b.names ≡ a.names
    → MakesOne n a.agents b.agents a.registers b.registers → AllByRecursion (λ k. k < length a.registers) n.operands
    → Builds given names made a → Builds given names (made ++ n ∷ []) b
builds_more given names made n a b arities same one within h =
    let more : Makes (made ++ n ∷ []) [] b.agents (base a.arities given ++ h.opened) (a.registers ++ one.place ∷ []) =
    makes_more made n [] a.agents b.agents (base a.arities given ++ h.opened) a.registers one.place
    (built_makes given names made a h) h.filled within one.pieces one.fresh one.tag in
    let longer : length b.registers ≡ length a.registers + 1 = ap length one.pushed ∙ length_push a.registers one.place in
    let operands = flat_map-append (λ (m : Made). m.operands) made (n ∷ []) in
    builds_from given names (made ++ n ∷ []) b h.opened h.names_count h.name_tags (fresh_front h.opened h.placed [] h.fresh)
    (subst (λ (l : List Piece). IsPermutation l (map idle h.opened)) (sym same) h.names_are)
    (subst (λ (l : List Word). Makes (made ++ n ∷ []) [] b.agents (base b.arities given ++ h.opened) l) (sym one.pushed)
    (subst (λ (l : List ℕ). Makes (made ++ n ∷ []) [] b.agents (base l given ++ h.opened) (a.registers ++ one.place ∷ []))
    (sym arities) more))
    (subst (λ (l : List ℕ). AllByRecursion (λ k. k < length b.registers) l) (sym operands)
    (all_of (λ k. k < length a.registers) (λ k. k < length b.registers) (flat_map (λ (m : Made). m.operands) made ++ (n.operands ++ []))
    (λ k lt. omega arith)
    (all_append (λ k. k < length a.registers) (flat_map (λ (m : Made). m.operands) made) (n.operands ++ []) h.filled
    (all_append (λ k. k < length a.registers) n.operands [] within tt))))

-- ---- what is made, linked

module _ (b : Building) (links : List Link) (interface : List ℕ) (can : CanBegin links interface b) (ns : List Word)
    (hs : List Blocks) (named : names_pieces 0 ns ≡ b.names) (held : heaps_pieces 0 hs ≡ b.agents) where
  abbrev first : List Piece
  first = pieces_made can.plan b.registers can.builds.opened can.builds.placed

  abbrev opened : Opened can.plan.names [] ns (base b.arities can.given) (base b.arities can.given ++ can.builds.opened)
  opened = built_opened can.given can.plan.names can.plan.made b can.builds ns named

  abbrev makes : Makes can.plan.made [] (heaps_pieces 0 hs) (base b.arities can.given ++ can.builds.opened) b.registers
  makes = record {
    places = can.builds.placed;
    count = (built_makes can.given can.plan.names can.plan.made b can.builds).count;
    pushed = (built_makes can.given can.plan.names can.plan.made b can.builds).pushed;
    tags = can.builds.made_tags;
    pieces = subst (λ (l : List Piece). IsPermutation l (made_each b.registers can.plan.made can.builds.placed ++ [])) (sym held)
        (built_makes can.given can.plan.names can.plan.made b can.builds).pieces;
    fresh = (built_makes can.given can.plan.names can.plan.made b can.builds).fresh;
  }

  -- the interface is in registers that are filled
  pub begun_filled : AllByRecursion (λ k. k < length b.registers) interface
  begun_filled =
      let all = built_count can.given can.plan.names can.plan.made b can.builds in
      all_of (λ k. k < length b.arities + can.given + can.plan.names + length can.plan.made) (λ k. k < length b.registers) interface
      (λ k lt. omega arith) can.start.filled

  -- the links can be linked
  pub begun_links : AllByRecursion (λ w. w.tag < IDLE) b.registers → AreLinks links b.registers ns
  begun_links words =
      let h = can.builds in
      let gs : List Word = given_words can.given in
      let registers : b.registers ≡ constants (length b.arities) ++ (gs ++ (h.opened ++ h.placed)) = h.registers in
      subst (λ (l : List Link). AreLinks l b.registers ns) can.links_are
      (subst (λ (l : List Word). AreLinks can.plan.links l ns) (sym registers)
      (plan_links b.arities can.plan gs h.opened h.placed [] ns
      (subst (λ (k : ℕ). IsPlan b.arities k can.plan) (sym (given_length can.given)) can.start.plan)
      h.names_count makes.count (agent_tags can.plan.made h.placed h.made_tags)
      (subst (λ (l : List Word). AllByRecursion (λ w. w.tag < IDLE) l) registers words) opened.pieces
      (λ i. let none : count (name_word i) gs ≡ 0 = given_none (name_word i) 0 can.given (λ e. omega arith) in omega arith)))

  -- what was made comes to be held, as it is linked
  pub begun_steps : (q : Plans) (ns' : List Word) (es : List Piece)
      → ((others : List Piece) → Steps q [] (map (linked b.registers) links ++ (names_pieces 0 ns ++ ([] ++ others)))
      (names_pieces 0 ns' ++ (es ++ others)))
      → Steps q [] first (es ++ ([] ++ (names_pieces 0 ns' ++ heaps_pieces 0 hs)))
  begun_steps q ns' es link =
      let n : List Piece = names_pieces 0 ns' in
      let h : List Piece = heaps_pieces 0 hs in
      let whole : Steps q [] (first ++ []) (n ++ (h ++ (es ++ []))) =
      made_steps q can.plan can.plan.names [] ns ns' [] hs (base b.arities can.given)
      (base b.arities can.given ++ can.builds.opened) b.registers [] es [] opened makes
      (λ others. subst (λ (l : List Link). Steps q [] (map (linked b.registers) l ++ (names_pieces 0 ns ++ ([] ++ others)))
      (n ++ (es ++ others))) (sym can.links_are) (link others)) in
      steps_to q [] first (n ++ (h ++ (es ++ []))) (es ++ ([] ++ (n ++ h)))
      (subst (λ (l : List Piece). Steps q [] l (n ++ (h ++ (es ++ [])))) (append-nil first) whole)
      (IsPermutation-sym (es ++ ([] ++ (n ++ h))) (n ++ (h ++ (es ++ []))) (held_order es [] n h))

  -- it uses the places that there are
  begun_in_use : (kind : ℕ) → in_use kind first ≡ used_at kind ns hs
  begun_in_use kind =
      ap (in_use kind) (sym (append-nil first))
      ∙ made_in_use kind can.plan can.plan.names [] ns [] hs (base b.arities can.given)
      (base b.arities can.given ++ can.builds.opened) b.registers [] [] opened makes

  -- and it is separate
  pub begun_separate : length b.arities < GIVEN → IsSeparate b.arities (map (register b.registers) interface) first
  begun_separate symbols =
      let h = can.builds in
      subst (λ (l : List Word). IsSeparate b.arities (map (register l) interface) (pieces_made can.plan l h.opened h.placed))
      (sym h.registers)
      (start_separate b.arities can.given can.plan interface h.opened h.placed symbols can.start h.names_count makes.count)

  pub begun_starts : (q : Plans) (n : Net) → b.arities ≡ q.arities → n.interface ≡ map (register b.registers) interface
      → Steps q [] first (pieces n) → ((kind : ℕ) → places_of kind n ≡ used_at kind ns hs)
      → length n.agents ≡ length q.arities → HaveHead links b.registers [] n.pending
      → Starts q can.given can.plan interface n
  begun_starts q n same interface_is steps places symbols head =
      let h = can.builds in
      let registers : b.registers ≡ first_registers q.arities can.given h.opened h.placed =
      h.registers ∙ ap (λ (a : List ℕ). first_registers a can.given h.opened h.placed) same in
      record {
        first = first;
        begins = record {
          names = h.opened;
          made = h.placed;
          names_count = h.names_count;
          name_tags = h.name_tags;
          made_tags = h.made_tags;
          fresh = h.fresh;
          interface_is = interface_is ∙ ap (λ (l : List Word). map (register l) interface) registers;
          pieces = ap (λ (l : List Word). pieces_made can.plan l h.opened h.placed) registers;
        };
        steps = steps;
        places = λ kind. places kind ∙ sym (begun_in_use kind);
        symbols = symbols;
        head = subst (λ (l : List Word). HaveHead can.plan.links l [] n.pending) registers
            (subst (λ (l : List Link). HaveHead l b.registers [] n.pending) (sym can.links_are) head);
      }

-- ---- memory for one agent more

pub more_memory : (hs : List Blocks) (s : ℕ) (b b' : Blocks) → s < length hs → b ≡ slice_index_or hs s b → b'.arity ≡ b.arity
    → b'.count ≡ b.count → b'.words ≡ b.words → b.capacity ≤ b'.capacity → AreSame hs (slice_set hs s b')
more_memory hs s b b' lt is arity count words memory =
    let same : b ≡ table hs s = table_read hs s b lt is in
    same_set hs hs s b' (same_all hs) (arity ∙ ap (λ (x : Blocks). x.arity) same) (count ∙ ap (λ (x : Blocks). x.count) same)
    (words ∙ ap (λ (x : Blocks). x.words) same) (subst (λ (x : Blocks). x.capacity ≤ b'.capacity) same memory)

-- no block is free in tables that have more memory
pub full_same : (hs gs : List Blocks) → AreSame hs gs → AreFull hs → AreFull gs
full_same hs gs same full s =
    let at = same_at hs gs same s in
    at.1 ∙ (full s ∙ (λ i. length (blocks_from s (sym at.0 i) 0 (sym at.1 i) (sym at.2 i))))

-- ---- what a builder keeps

-- it takes more memory
pub grown_sound : (m : Inside) → IsBuilder m → (heaps : Vec Blocks) (registers : Vec Word) → AreSame m.tables.heaps.items heaps.items
    → registers.items ≡ m.tables.registers.items → IsBuilder (record m { tables = record m.tables { heaps = heaps; registers = registers } })
grown_sound m sound heaps registers same filled = record {
  names = sound.names;
  symbols = subst (λ (k : ℕ). k < GIVEN) (sym (same_length m.tables.heaps.items heaps.items same)) sound.symbols;
  words = subst (λ (l : List Word). AllByRecursion (λ w. w.tag < IDLE) l) (sym filled) sound.words;
  all_names = sound.all_names;
  all_blocks = full_same m.tables.heaps.items heaps.items same sound.all_blocks;
  few = λ s.
      let count = (same_at m.tables.heaps.items heaps.items same s).1 in
      let few = sound.few s in
      let len = ap length filled in
      omega arith;
  pending = sound.pending;
  spare = sound.spare;
}

-- it makes an agent
pub made_sound : (m : Inside) → IsBuilder m → (heaps : Vec Blocks) (registers : Vec Word)
    → arities_of heaps.items ≡ arities_of m.tables.heaps.items → AllByRecursion (λ w. w.tag < IDLE) registers.items
    → AreFull heaps.items → ((s : ℕ) → (table heaps.items s).count ≤ (table m.tables.heaps.items s).count + 1)
    → length registers.items ≡ length m.tables.registers.items + 1
    → IsBuilder (record m { tables = record m.tables { heaps = heaps; registers = registers } })
made_sound m sound heaps registers arities words full more longer = record {
  names = sound.names;
  symbols = subst (λ (k : ℕ). k < GIVEN) (sym (as_many m.tables.heaps.items heaps.items arities)) sound.symbols;
  words = words;
  all_names = sound.all_names;
  all_blocks = full;
  few = λ s. (let one = more s in let few = sound.few s in omega arith);
  pending = sound.pending;
  spare = sound.spare;
}

-- all places are used
pub built_size : (m : Inside) → IsBuilder m → (t : Tables) → length t.names.entries ≡ length m.tables.names.entries
    → t.heaps ≡ m.tables.heaps → (kind : ℕ) → size_at kind t ≡ used_at kind m.tables.names.entries m.tables.heaps.items
built_size m sound t names heaps zero = names ∙ sound.all_names
built_size m sound t names heaps (suc s) = ap (λ (h : Vec Blocks). (table h.items s).count) heaps ∙ sound.all_blocks s

-- names alone are what it begins with
pub builds_names : (given names : ℕ) (b : Building) (ns old before : List Word) → old ≡ [] → b.names ≡ names_pieces 0 ns → b.agents ≡ []
    → before ≡ base b.arities given → Opened names old ns before b.registers → Builds given names [] b
builds_names given names b ns old before none are nothing is o =
    let registers : b.registers ≡ base b.arities given ++ o.names = o.pushed ∙ ap (λ (l : List Word). l ++ o.names) is in
    builds_from given names [] b o.names o.count o.tags (subst (λ (l : List Word). AreFresh o.names (names_pieces 0 l)) none o.fresh)
    (subst (λ (l : List Piece). IsPermutation l (map idle o.names)) (sym are)
    (subst (λ (l : List Piece). IsPermutation (names_pieces 0 ns) l) (append-nil (map idle o.names))
    (subst (λ (l : List Word). IsPermutation (names_pieces 0 ns) (map idle o.names ++ names_pieces 0 l)) none o.pieces)))
    (subst (λ (l : List Piece). Makes [] [] l (base b.arities given ++ o.names) b.registers) (sym nothing)
    (subst (λ (l : List Word). Makes [] [] [] (base b.arities given ++ o.names) l) (sym registers)
    (makes_none [] (base b.arities given ++ o.names)))) tt

-- no block is free where there is none
pub nothing_full : (hs : List Blocks) → AllByRecursion (λ b. b.count ≡ 0) hs → AreFull hs
nothing_full hs h s =
    let none = none_yet hs s h in
    let few = blocks_few s (table hs s).arity 0 (table hs s).count (table hs s).words in
    omega arith

-- there may be no plans
pub no_plans : (arities : List ℕ) → ArePlans (record { arities = arities; pairs = []; plans = [] })
no_plans arities = record { counted = refl; known = tt; each = λ a b left right x y. tt }

pub taken_all : (n : ℕ) → take n (constants n) ≡ constants n
taken_all n = taken_registers n n (constants n) refl refl
