-- Lemmas: names that are put through.
use Rattle.std.proofs.Common.{◌≡◌, ◌≢◌, ℕ, zero, suc, ◌+◌, ◌<◌, ◌≤◌, ◌==◌, inl, inr, List, [], ◌∷◌, ◌++◌, Bool, true, false, cond, Contains, length, map, take, drop, refl, ap, sym, subst, ◌∙◌, arith, add-zero, zero-add, sum_by}
use Rattle.std.specs.List.{AllByRecursion}
use Rattle.std.proofs.lemmas.Bool.{eq-eqb}
use Rattle.std.proofs.lemmas.Bool.Decides.{eqb_tells}
use Rattle.std.proofs.lemmas.List.{append-nil}
use Rattle.std.proofs.lemmas.List.Sums.{sum_by-append, sum_by-cons}
use Rattle.ic_arena.specs.declared.word.Word.{Word}
use Rattle.ic_arena.specs.declared.word.TheConstants.{IDLE, FREE, NAME}
use Rattle.ic_arena.specs.Word.{agent_word, name_word, word_eq, count}
use Rattle.ic_arena.specs.Piece.{Piece, equated, idle, waits, agent_of, room, uses}
use Rattle.ic_arena.specs.Tables.{Blocks, Entries, Replaced, block_piece, blocks_from, blocks_pieces, entry, entry_piece, names_pieces}
use Rattle.ic_machine.specs.declared.equation.Equation.{Equation}
use Rattle.ic_machine.specs.Net.{Net, equated_of, in_use, is_at, pieces, ArePutThrough}
use Rattle.ic_machine.specs.Plan.{Plans}
use Rattle.ic_machine.specs.Runs.{Counted, Ran}
use Rattle.ic_machine.specs.Separate.{IsSeparate}
use Rattle.ic_machine.specs.Steps.{Steps}
use Rattle.ic_machine.specs.inner.Firing.{heaps_pieces}
use Rattle.ic_machine.specs.inner.Tables.{HasRoomFor, HasSpare}
use Rattle.ic_machine.specs.declared.tables.Tables.{Tables}
use Rattle.ic_machine.specs.inner.Sweeping.{IsMark, IsThrough, IsRoomy}
use Rattle.ic_machine.specs.lemmas.Separation.{balanced}
use Rattle.ic_machine.specs.lemmas.Balance.{equations_room, steps_balance}
use Rattle.ic_machine.specs.lemmas.FiringKeeps.{all_append}
use Rattle.ic_machine.specs.lemmas.Orders.{replaced_sum}
use Rattle.ic_machine.specs.lemmas.RunsOn.{counted_none}
use Rattle.ic_machine.proofs.Heaps.{tables_elsewhere}
use Rattle.ic_machine.proofs.InUse.{same_places, tables_in_use}
use Rattle.ic_machine.proofs.LinkSteps.{joined}
use Rattle.ic_machine.proofs.NameRooms.{has_entry, replaced_length, word_eq_refl}
use Rattle.ic_machine.proofs.Reading.{waiting_contained}
use Rattle.ic_machine.proofs.Running.{held_way}
use Rattle.ic_machine.proofs.Standing.{all_contained, one_block, sum_contained}

-- a word that waits is no mark
pub not_mark : (w : Word) → w.tag < IDLE → IsMark w → ⊥
not_mark w low (inl e) = absurd (omega (arith, low, e))
not_mark w low (inr e) = absurd (omega (arith, low, e))

-- One name of a table joins two others: it is freed, and the one that waited for it waits for what waited for it.
pub record Joining (name between : ℕ) (waiting : Word) (old mid new : List Word) : Type 0 where
  pub apart : between ≢ name
  pub waits_for : entry old name ≡ name_word between
  pub is_waiting : entry old between ≡ waiting
  pub word : waiting.tag < IDLE
  pub gone : Replaced (waits (name_word between) waiting ∷ []) [] (names_pieces 0 old) (names_pieces 0 mid)
  pub put : Replaced (waits (name_word name) (name_word between) ∷ []) (waits (name_word name) waiting ∷ [])
      (names_pieces 0 mid) (names_pieces 0 new)
  pub free : (entry mid between).tag ≡ FREE
  pub kept : (i : ℕ) → i ≢ between → entry mid i ≡ entry old i
  pub is_put : entry new name ≡ waiting
  pub stays : (i : ℕ) → i ≢ name → entry new i ≡ entry mid i

module _ (name between : ℕ) (waiting : Word) (old mid new : List Word) (j : Joining name between waiting old mid new) where
  pub joining_steps : (p : Plans) (rest : List Piece) → Steps p [] (names_pieces 0 old ++ rest) (names_pieces 0 new ++ rest)
  joining_steps p rest = joined p (name_word name) (name_word between) waiting (names_pieces 0 old) (names_pieces 0 mid) (names_pieces 0 new) rest j.gone j.put

  pub joining_fewer : length (names_pieces 0 new) + 1 ≡ length (names_pieces 0 old)
  joining_fewer =
      let a = replaced_length (waits (name_word between) waiting ∷ []) [] (names_pieces 0 old) (names_pieces 0 mid) j.gone in
      let b = replaced_length (waits (name_word name) (name_word between) ∷ []) (waits (name_word name) waiting ∷ []) (names_pieces 0 mid) (names_pieces 0 new) j.put in
      omega arith

  pub joining_room : IsRoomy old → IsRoomy new
  joining_room roomy i =
      let w : Word = name_word i in
      let before = roomy i in
      let ua = replaced_sum (uses w) (waits (name_word between) waiting ∷ []) [] (names_pieces 0 old) (names_pieces 0 mid) j.gone in
      let ub = replaced_sum (uses w) (waits (name_word name) (name_word between) ∷ []) (waits (name_word name) waiting ∷ []) (names_pieces 0 mid) (names_pieces 0 new) j.put in
      let ra = replaced_sum (room w) (waits (name_word between) waiting ∷ []) [] (names_pieces 0 old) (names_pieces 0 mid) j.gone in
      let rb = replaced_sum (room w) (waits (name_word name) (name_word between) ∷ []) (waits (name_word name) waiting ∷ []) (names_pieces 0 mid) (names_pieces 0 new) j.put in
      omega arith

  -- the entry of the name between is free, that of the name is what waited, and others are as they were
  between_free : (entry new between).tag ≡ FREE
  between_free = ap (λ (w : Word). w.tag) (j.stays between j.apart) ∙ j.free

  other_entry : (i : ℕ) → i ≢ name → i ≢ between → entry new i ≡ entry old i
  other_entry i a b = j.stays i a ∙ j.kept i b

  -- a name that was through is so still
  pub joining_through : (i : ℕ) → IsThrough old i → IsThrough new i
  joining_through i h k e apart = elim (eqb_tells i name) [
    | inl here ↦ (let at : i ≡ name = here.1 in
        let mark : IsMark (entry old between) = h between (ap (entry old) at ∙ j.waits_for) (λ same. j.apart (same ∙ at)) in
        absurd (not_mark waiting j.word (subst IsMark j.is_waiting mark)))
    | inr there ↦ elim (eqb_tells i between) [
      | inl mid ↦ (let at : i ≡ between = mid.1 in
          let free : (entry new between).tag ≡ FREE = between_free in
          let named : (entry new between).tag ≡ NAME = ap (λ (w : Word). w.tag) (sym (ap (entry new) at) ∙ e) in
          absurd (omega (arith, free, named)))
      | inr out ↦ (let before : entry old i ≡ name_word k = sym (other_entry i there.1 out.1) ∙ e in
          let mark : IsMark (entry old k) = h k before apart in
          elim (eqb_tells k name) [
            | inl is ↦ absurd (not_mark (name_word between) (omega arith) (subst IsMark (ap (entry old) is.1 ∙ j.waits_for) mark))
            | inr apart_too ↦ elim (eqb_tells k between) [
              | inl is ↦ inr (ap (λ (n : ℕ). (entry new n).tag) is.1 ∙ between_free)
              | inr beside ↦ subst IsMark (sym (other_entry k apart_too.1 beside.1)) mark
            ]
          ])
    ]
  ]

-- a name that another waits for has an entry, which isn't free
entry_uses : (ws : List Word) (i j : ℕ) → i < length ws → entry ws i ≡ name_word j
    → 1 ≤ sum_by (uses (name_word j)) (names_pieces 0 ws)
entry_uses ws i j lt e =
    let v : Word = name_word j in
    let tag : (entry ws i).tag ≡ NAME = ap (λ (w : Word). w.tag) e in
    let there : Contains (names_pieces 0 ws ++ []) (waits (name_word i) (entry ws i)) = waiting_contained ws [] i lt (omega (arith, tag)) in
    let counted = sum_contained (uses v) (names_pieces 0 ws ++ []) (waits (name_word i) (entry ws i)) there in
    let all = sum_by-append (uses v) (names_pieces 0 ws) [] in
    let nothing : sum_by (uses v) [] ≡ 0 = refl in
    let own : ◌≡◌ {A = ℕ} (cond (word_eq v v) 1 0) 1 = ap (λ (b : Bool). cond b 1 0) (word_eq_refl v) in
    let one : uses v (waits (name_word i) (entry ws i)) ≡ cond (word_eq v v) 1 0 =
    ap (λ (w : Word). count v (w ∷ [])) e ∙ sum_by-cons (λ x. cond (word_eq v x) 1 0) v [] ∙ add-zero (cond (word_eq v v) 1 0) in
    omega (arith, counted, all, nothing, own, one)

pub named_entry : (ws : List Word) (i j : ℕ) → IsRoomy ws → i < length ws → entry ws i ≡ name_word j → j < length ws
named_entry ws i j roomy lt e =
    let used = entry_uses ws i j lt e in
    let enough = roomy j in
    has_entry ws j (omega (arith, used, enough))

-- a word that waits is in the entry of a name
abbrev waits_at : List Word → Piece → Type 0
waits_at ws (equated l r) = Unit {0}
waits_at ws (idle x) = Unit {0}
waits_at ws (waits x u) = (i : ℕ) × (x ≡ name_word i) × (entry ws i ≡ u) × ¬ IsMark u
waits_at ws (agent_of a vs) = Unit {0}

no_mark : (w : Word) → (w.tag == FREE) ≡ false → (w.tag == IDLE) ≡ false → IsMark w → ⊥
no_mark w free none (inl e) = let is : (w.tag == IDLE) ≡ true = eq-eqb w.tag IDLE e in cc
no_mark w free none (inr e) = let is : (w.tag == FREE) ≡ true = eq-eqb w.tag FREE e in cc

one_waits : (all : List Word) (b : ℕ) (w : Word) → entry all b ≡ w → AllByRecursion (waits_at all) (entry_piece b w)
one_waits all b w at = by (w.tag == FREE) (w.tag == IDLE) refl refl
  where
    by : (f m : Bool) → (w.tag == FREE) ≡ f → (w.tag == IDLE) ≡ m
        → AllByRecursion (waits_at all) (cond f [] (cond m (idle (name_word b) ∷ []) (waits (name_word b) w ∷ [])))
    by true m free none = tt
    by false true free none = (tt, tt)
    by false false free none = ((b, refl, at, no_mark w free none), tt)

entries_wait : (all ws : List Word) (b : ℕ) → ((i : ℕ) → entry all (b + i) ≡ entry ws i)
    → AllByRecursion (waits_at all) (names_pieces b ws)
entries_wait all [] b at = tt
entries_wait all (w ∷ ws) b at =
    let here : b + 0 ≡ b = omega arith in
    all_append (waits_at all) (entry_piece b w) (names_pieces (b + 1) ws)
    (one_waits all b w (sym (ap (entry all) here) ∙ at 0))
    (entries_wait all ws (b + 1) (λ i. let next : (b + 1) + i ≡ b + suc i = omega arith in ap (entry all) next ∙ at (suc i)))

blocks_wait : (all : List Word) (s k i n : ℕ) (ws : List Word) → AllByRecursion (waits_at all) (blocks_from s k i n ws)
blocks_wait all s k i zero ws = tt
blocks_wait all s k i (suc n) ws =
    all_append (waits_at all) (block_piece (agent_word s i) (take k ws)) (blocks_from s k (i + 1) n (drop k ws))
    (one_block (waits_at all) (agent_word s i) (take k ws) (λ some. tt))
    (blocks_wait all s k (i + 1) n (drop k ws))

heaps_wait : (all : List Word) (base : ℕ) (hs : List Blocks) → AllByRecursion (waits_at all) (heaps_pieces base hs)
heaps_wait all base [] = tt
heaps_wait all base (b ∷ bs) =
    all_append (waits_at all) (blocks_pieces base b) (heaps_pieces (base + 1) bs)
    (blocks_wait all base b.arity 0 b.count b.words) (heaps_wait all (base + 1) bs)

-- a name that waits for another is through
name_through : (ws : List Word) (x y u : Word) → ((i : ℕ) → IsThrough ws i) → waits_at ws (waits x y) → waits_at ws (waits y u) → x ≡ y
name_through ws x y u through a b = elim (eqb_tells b.0 a.0) [
  | inl same ↦ a.1 ∙ sym (ap name_word same.1) ∙ sym b.1
  | inr other ↦ absurd (b.3 (subst IsMark b.2 (through a.0 b.0 (a.2 ∙ b.1) other.1)))
]

-- where all names are through, their pieces are
pub tables_through : (ws : List Word) (hs : List Blocks) → ((i : ℕ) → IsThrough ws i) → ArePutThrough (names_pieces 0 ws ++ heaps_pieces 0 hs)
tables_through ws hs through x y u first second =
    let all : AllByRecursion (waits_at ws) (names_pieces 0 ws ++ heaps_pieces 0 hs) =
    all_append (waits_at ws) (names_pieces 0 ws) (heaps_pieces 0 hs)
    (entries_wait ws ws 0 (λ i. ap (entry ws) (zero-add i)))
    (heaps_wait ws 0 hs) in
    name_through ws x y u through
    (all_contained (waits_at ws) (names_pieces 0 ws ++ heaps_pieces 0 hs) (waits x y) all first)
    (all_contained (waits_at ws) (names_pieces 0 ws ++ heaps_pieces 0 hs) (waits y u) all second)

-- ---- the net

-- a net whose places change by steps that fire nothing
pub swept_ran : (p : Plans) (a b : Net) → Steps p [] (pieces a) (pieces b) → b ≡ record a { places = b.places } → Ran p a b
swept_ran p a b steps same = record {
  fired = [];
  moments = [];
  way = steps;
  places = same_places a b (ap (λ (n : Net). n.names) same) (ap (λ (n : Net). n.agents) same);
  symbols = ap (λ (n : Net). length n.agents) same;
  counted = ap (λ (n : Net). n.interactions) same ∙ sym (add-zero a.interactions);
  counts = subst (λ (l : List ℕ). Counted [] a.counts l) (sym (ap (λ (n : Net). n.counts) same)) (counted_none a.counts);
  arities = ap (λ (n : Net). n.arities) same;
  interface = ap (λ (n : Net). n.interface) same;
  more = [];
  aside = ap (λ (n : Net). n.aside) same ∙ sym (append-nil a.aside);
  stuck = tt;
}

-- The net stays separate over steps that fire nothing, whatever the plans.
pub swept_separate : (arities : List ℕ) (i : List Word) (xs ys : List Piece) → ((p : Plans) → Steps p [] xs ys)
    → IsSeparate arities i xs → IsSeparate arities i ys
swept_separate arities i xs ys steps =
    let no_plans : Plans = record { arities = []; pairs = []; plans = [] } in
    balanced arities i xs ys (λ w. steps_balance no_plans [] w xs ys refl (steps no_plans))

-- what is spare is there still
pub swept_spare : (t : Tables) (ns : Entries) → length ns.entries ≡ length t.names.entries → ns.capacity ≡ t.names.capacity
    → HasSpare t → HasSpare (record t { names = ns })
swept_spare t ns len capacity spare some =
    let h : HasRoomFor t.spare t = spare some in
    record {
      names = omega (arith, len, capacity, h.names);
      few = omega (arith, len, h.few);
      pending = h.pending;
      heaps = h.heaps;
    }

-- the names of a net are roomy, where the net is separate: equations, agents and the interface name them too
pub separate_room : (arities : List ℕ) (interface : List Word) (ps us : List Equation) (ns : List Word) (hs : List Blocks)
    → IsSeparate arities interface (map equated_of ps ++ (map equated_of us ++ (names_pieces 0 ns ++ heaps_pieces 0 hs)))
    → IsRoomy ns
separate_room arities interface ps us ns hs s i =
    let w : Word = name_word i in
    let p : List Piece = map equated_of ps in
    let a : List Piece = map equated_of us in
    let n : List Piece = names_pieces 0 ns in
    let h : List Piece = heaps_pieces 0 hs in
    let before = s.each w refl in
    let none = equations_room w ps in
    let nothing = equations_room w us in
    let agents : sum_by (room w) h ≡ 0 = tables_elsewhere w 0 hs (λ k le lt q. omega arith) in
    omega (arith, sum_by-append {X = Piece})

-- the names of a table of names and tables of agents
pub names_used : (ns : List Word) (hs : List Blocks) → in_use NAME (names_pieces 0 ns ++ heaps_pieces 0 hs) ≡ length (names_pieces 0 ns)
names_used ns hs =
    sum_by-append (λ p. cond (is_at 0 p) 1 0) (names_pieces 0 ns) (heaps_pieces 0 hs) ∙ tables_in_use 0 ns hs

-- steps of the names are steps of the net
pub net_swept : (p : Plans) (ps us : List Equation) (old new : List Word) (hs : List Blocks)
    → ((rest : List Piece) → Steps p [] (names_pieces 0 old ++ rest) (names_pieces 0 new ++ rest))
    → Steps p [] (map equated_of ps ++ (map equated_of us ++ (names_pieces 0 old ++ heaps_pieces 0 hs)))
    (map equated_of ps ++ (map equated_of us ++ (names_pieces 0 new ++ heaps_pieces 0 hs)))
net_swept p ps us old new hs steps =
    held_way p [] [] ps us ps (names_pieces 0 old) (heaps_pieces 0 hs) (names_pieces 0 new) (heaps_pieces 0 hs) (steps (heaps_pieces 0 hs ++ (map equated_of ps ++ map equated_of us)))
