-- Words that wait for names, where nothing else is left: circles that are opened, and the test that nothing is left.
use Rattle.std.proofs.Common.{◌≡◌, ℕ, zero, suc, ◌+◌, ◌*◌, ◌<◌, ◌≤◌, ◌==◌, inl, inr, List, [], ◌∷◌, ◌++◌, true, false, length, take, drop, slice_index_or, refl, ap, sym, subst, ◌∙◌, zero-add, arith, sum_by, eq-eqb}
use Rattle.std.specs.List.{AllByRecursion}
use Rattle.std.specs.List.Sorted.{IsPermutation}
use Rattle.std.proofs.Math.Nat.{suc-mul, zero-mul}
use Rattle.std.proofs.lemmas.Bool.{ne_eqb}
use Rattle.std.proofs.lemmas.Bool.Decides.{eqb_tells}
use Rattle.std.proofs.lemmas.List.{drop-drop, get_or-drop, get_or-take}
use Rattle.std.proofs.lemmas.List.Sorted.{IsPermutation-refl, IsPermutation-trans, IsPermutation-cons, IsPermutation-middle}
use Rattle.std.proofs.lemmas.List.Sums.{sum_by-append}
use Rattle.ic_arena.specs.declared.word.Word.{Word}
use Rattle.ic_arena.specs.declared.word.TheConstants.{FREE, IDLE}
use Rattle.ic_arena.specs.Word.{name_word, agent_word, word_eq}
use Rattle.ic_arena.specs.Piece.{Piece, idle, waits, room, uses}
use Rattle.ic_arena.specs.Tables.{AreBlocks, Blocks, Replaced, block_at, block_piece, blocks_from, blocks_pieces, entry, entry_piece, first_word, names_pieces}
use Rattle.ic_machine.specs.Moving.{IsIdle, Side, AreOpened, none_opened, one_opened, AreShipped, no_more, shipped, passed}
use Rattle.ic_machine.specs.Separate.{IsSeparate}
use Rattle.ic_machine.specs.lemmas.FiringKeeps.{all_append}
use Rattle.ic_machine.specs.inner.Firing.{heaps_pieces}
use Rattle.ic_machine.specs.lemmas.Orders.{replaced_after, replaced_sum}
use Rattle.ic_machine.specs.lemmas.Separation.{sum_of_parts, twice}
use Rattle.ic_machine.proofs.Heaps.{block_length, tables_elsewhere}
use Rattle.ic_machine.proofs.NameRooms.{free_room, word_eq_refl}
use Rattle.ic_machine.proofs.Taking.{block_some}
use Rattle.ic_machine.proofs.Packing.{count_append, entry_is, list_heads, list_tails, names_sum, entry_apart, waits_for}

-- ---- a circle is opened

-- the entry of a name for which a word waits
waiting_piece : (i : ℕ) (u : Word) → u.tag < IDLE → entry_piece i u ≡ waits (name_word i) u ∷ []
waiting_piece i u word =
    let not_free : (u.tag == FREE) ≡ false = ne_eqb u.tag FREE (λ e. omega arith) in
    let not_idle : (u.tag == IDLE) ≡ false = ne_eqb u.tag IDLE (λ e. omega arith) in
    rw (not_free, not_idle) refl

-- it stays where another name is opened
pub opened_entry : (ws vs : List Word) (i j : ℕ) (u : Word) → u ≡ entry ws i → u.tag < IDLE
    → Replaced [] (idle (name_word j) ∷ []) (names_pieces 0 ws) (names_pieces 0 vs) → entry vs i ≡ u
opened_entry ws vs i j u is word r =
    let f : Piece → ℕ = waits_for i u in
    let sums = replaced_sum f [] (idle (name_word j) ∷ []) (names_pieces 0 ws) (names_pieces 0 vs) r in
    let own : sum_by f (waits (name_word i) u ∷ []) ≡ 1 = rw (eq-eqb i i refl, word_eq_refl u) refl in
    let none : sum_by f (idle (name_word j) ∷ []) ≡ 0 = refl in
    let nothing : sum_by f [] ≡ 0 = refl in
    let old : sum_by f (names_pieces 0 ws) ≡ sum_by f (entry_piece i (entry ws i)) =
    names_sum f ws 0 i i (sym (zero-add i)) (λ k w apart. entry_apart i k u w (ne_eqb k i apart)) in
    let there = ap (λ (w : Word). sum_by f (entry_piece i w)) (sym is) ∙ (ap (sum_by f) (waiting_piece i u word) ∙ own) in
    let its : sum_by f (names_pieces 0 vs) ≡ sum_by f (entry_piece i (entry vs i)) =
    names_sum f vs 0 i i (sym (zero-add i)) (λ k w apart. entry_apart i k u w (ne_eqb k i apart)) in
    entry_is i u (entry vs i) (omega arith)

-- what two lists have beside two elements
pub two_out : (a b : Piece) (f1 b1 f2 b2 : List Piece) → (a ≡ b → ⊥) → f1 ++ a ∷ b1 ≡ f2 ++ b ∷ b2
    → (ps : List Piece) × IsPermutation (f1 ++ b1) (b ∷ ps) × IsPermutation (f2 ++ b2) (a ∷ ps)
two_out a b [] b1 [] b2 apart e = absurd (apart (list_heads a b b1 b2 e))
two_out a b [] b1 (y ∷ f2) b2 apart e = (
  f2 ++ b2,
  subst (λ (l : List Piece). IsPermutation l (b ∷ (f2 ++ b2))) (sym (list_tails a y b1 (f2 ++ b ∷ b2) e)) (IsPermutation-middle f2 b b2),
  subst (λ (x : Piece). IsPermutation (y ∷ (f2 ++ b2)) (x ∷ (f2 ++ b2))) (sym (list_heads a y b1 (f2 ++ b ∷ b2) e))
      (IsPermutation-refl (y ∷ (f2 ++ b2))),
)
two_out a b (y ∷ f1) b1 [] b2 apart e = (
  f1 ++ b1,
  subst (λ (x : Piece). IsPermutation (y ∷ (f1 ++ b1)) (x ∷ (f1 ++ b1))) (list_heads y b (f1 ++ a ∷ b1) b2 e)
      (IsPermutation-refl (y ∷ (f1 ++ b1))),
  subst (λ (l : List Piece). IsPermutation l (a ∷ (f1 ++ b1))) (list_tails y b (f1 ++ a ∷ b1) b2 e) (IsPermutation-middle f1 a b1),
)
two_out a b (y ∷ f1) b1 (z ∷ f2) b2 apart e =
    let later = two_out a b f1 b1 f2 b2 apart (list_tails y z (f1 ++ a ∷ b1) (f2 ++ b ∷ b2) e) in (
      y ∷ later.0,
      IsPermutation-trans (y ∷ (f1 ++ b1)) (y ∷ b ∷ later.0) (b ∷ y ∷ later.0) (IsPermutation-cons y (f1 ++ b1) (b ∷ later.0) later.1)
          (IsPermutation-middle (y ∷ []) b later.0),
      subst (λ (x : Piece). IsPermutation (x ∷ (f2 ++ b2)) (a ∷ y ∷ later.0)) (list_heads y z (f1 ++ a ∷ b1) (f2 ++ b ∷ b2) e)
          (IsPermutation-trans (y ∷ (f2 ++ b2)) (y ∷ a ∷ later.0) (a ∷ y ∷ later.0) (IsPermutation-cons y (f2 ++ b2) (a ∷ later.0) later.2)
          (IsPermutation-middle (y ∷ []) a later.0)),
    )

-- A name waits for a new one.
pub record WaitsAnew (x y u : Word) (old new : List Piece) : Type 0 where
  pub others : List Piece
  pub waited : IsPermutation old (waits x u ∷ others)
  pub waits_now : IsPermutation new (waits x y ∷ idle y ∷ others)

idle_apart : (y x u : Word) → idle y ≡ waits x u → ⊥
idle_apart y x u e = cc

pub waits_anew : (x y u : Word) (old mid new : List Piece) → Replaced [] (idle y ∷ []) old mid
    → Replaced (waits x u ∷ []) (waits x y ∷ []) mid new → WaitsAnew x y u old new
waits_anew x y u old mid new p q =
    let two = two_out (idle y) (waits x u) p.front p.back q.front q.back (idle_apart y x u) (sym p.after ∙ q.before) in
    record {
      others = two.0;
      waited = subst (λ (l : List Piece). IsPermutation l (waits x u ∷ two.0)) (sym p.before) two.1;
      waits_now = IsPermutation-trans new (waits x y ∷ (q.front ++ q.back)) (waits x y ∷ idle y ∷ two.0)
          (replaced_after (waits x u ∷ []) (waits x y ∷ []) mid new q)
          (IsPermutation-cons (waits x y) (q.front ++ q.back) (idle y ∷ two.0) two.2);
    }

pub circle_hand : (arities : List ℕ) (x y u : Word) (old new h : List Piece) (rest : List Word) → WaitsAnew x y u old new
    → IsSeparate arities rest (old ++ h) → IsSeparate arities (y ∷ u ∷ rest) (new ++ h)
circle_hand arities x y u old new h rest anew s = record {
  each = λ w place.
      let before = s.each w place in
      let a = count_append w (y ∷ u ∷ []) rest in
      let two = twice (word_eq w y) in
      let ux = sum_of_parts (uses w) old (waits x u ∷ []) anew.others anew.waited in
      let rx = sum_of_parts (room w) old (waits x u ∷ []) anew.others anew.waited in
      let uy = sum_of_parts (uses w) new (waits x y ∷ idle y ∷ []) anew.others anew.waits_now in
      let ry = sum_of_parts (room w) new (waits x y ∷ idle y ∷ []) anew.others anew.waits_now in
      omega (arith, sum_by-append {X = Piece});
}

-- a name that is free is at no place
pub free_nowhere : (ws : List Word) (hs : List Blocks) (i : ℕ) → (entry ws i).tag ≡ FREE
    → sum_by (room (name_word i)) (names_pieces 0 ws ++ heaps_pieces 0 hs) ≡ 0
free_nowhere ws hs i free =
    let names = free_room ws i free in
    let agents : sum_by (room (name_word i)) (heaps_pieces 0 hs) ≡ 0 = tables_elsewhere (name_word i) 0 hs (λ k le lt q. omega arith) in
    omega (arith, sum_by-append {X = Piece})

-- ---- cuts, one after another

pub shipped_on : (arities ns ms : List ℕ) (a b c : Side) (us vs ws : List Word) → AreShipped arities ns a b us vs
    → AreShipped arities ms b c vs ws → AreShipped arities (ns ++ ms) a c us ws
shipped_on arities ns ms a b c us vs ws (no_more s xs) second = second
shipped_on arities ns ms a b c us vs ws (shipped k ks p q r xs ys zs one rest) second =
    shipped k (ks ++ ms) p q c xs ys ws one (shipped_on arities ks ms q r c ys zs ws rest second)
shipped_on arities ns ms a b c us vs ws (passed k ks p q xs ys none rest) second =
    passed k (ks ++ ms) p c xs ws none (shipped_on arities ks ms p q c xs ys ws rest second)

-- what was opened, one word after another
pub opened_on : (arities : List ℕ) (a b c : Side) (us vs ws : List Word) → AreOpened arities a b us vs → AreOpened arities b c vs ws
    → AreOpened arities a c us ws
opened_on arities a b c us vs ws first (none_opened s xs) = first
opened_on arities a b c us vs ws first (one_opened p q r xs ys zs some last) =
    one_opened a q r us ys zs (opened_on arities a p q us xs ys first some) last

-- ---- nothing is left

free_piece : (b : ℕ) (w : Word) → (w.tag == FREE) ≡ true → entry_piece b w ≡ []
free_piece b w e = rw e refl

idle_piece : (b : ℕ) (w : Word) → (w.tag == FREE) ≡ false → (w.tag == IDLE) ≡ true → entry_piece b w ≡ idle (name_word b) ∷ []
idle_piece b w e f = rw (e, f) refl

entry_idle : (b : ℕ) (w : Word) → IDLE ≤ w.tag → w.tag ≤ FREE → AllByRecursion IsIdle (entry_piece b w)
entry_idle b w low high = elim (eqb_tells w.tag FREE) [
  | inl t ↦ subst (AllByRecursion IsIdle) (sym (free_piece b w t.0)) tt
  | inr t ↦ (let other = t.1 in
      subst (AllByRecursion IsIdle) (sym (idle_piece b w t.0 (eq-eqb w.tag IDLE (omega (arith, other))))) (tt, tt))
]

-- names for which nothing waits
pub names_idle : (ws : List Word) (b : ℕ) → ((j : ℕ) → j < length ws → (IDLE ≤ (entry ws j).tag) × ((entry ws j).tag ≤ FREE))
    → AllByRecursion IsIdle (names_pieces b ws)
names_idle [] b h = tt
names_idle (w ∷ ws) b h =
    let here = h 0 (omega arith) in
    all_append IsIdle (entry_piece b w) (names_pieces (b + 1) ws) (entry_idle b w here.0 here.1)
    (names_idle ws (b + 1) (λ j lt. h (suc j) (omega arith)))

-- a block whose first word has the mark says nothing
pub block_free : (a : Word) (vs : List Word) (d : Word) → 0 < length vs → (slice_index_or vs 0 d).tag ≡ FREE → block_piece a vs ≡ []
block_free a [] d some free = absurd (omega arith)
block_free a (v ∷ vs) d some free = rw (eq-eqb v.tag FREE free) refl

pub marked_block : (b : Blocks) (a : Word) (m o : ℕ) → o ≡ m * b.arity → AreBlocks b → m < b.count → (first_word b m).tag ≡ FREE
    → block_piece a (take b.arity (drop o b.words)) ≡ []
marked_block b a m o at sound lt free =
    let some : 1 ≤ b.arity = block_some b sound (omega arith) in
    let len : length (block_at b m) ≡ b.arity = block_length b m sound lt in
    let none : m * b.arity + 0 ≡ m * b.arity = omega arith in
    let first = get_or-take b.arity (drop (m * b.arity) b.words) 0 (name_word 0) some
    ∙ (get_or-drop (m * b.arity) b.words 0 (name_word 0) ∙ ap (λ (k : ℕ). slice_index_or b.words k (name_word 0)) none) in
    ap (λ (k : ℕ). block_piece a (take b.arity (drop k b.words))) at
    ∙ block_free a (block_at b m) (name_word 0) (omega arith) (ap (λ (w : Word). w.tag) first ∙ free)

-- blocks that say nothing
pub no_blocks : (s k i n : ℕ) (ws : List Word)
    → ((j m o : ℕ) → j ≡ i + m → o ≡ m * k → m < n → block_piece (agent_word s j) (take k (drop o ws)) ≡ [])
    → blocks_from s k i n ws ≡ []
no_blocks s k i zero ws h = refl
no_blocks s k i (suc n) ws h =
    let none : 0 * k ≡ 0 = zero-mul k in
    let first : block_piece (agent_word s i) (take k ws) ≡ [] = h i 0 0 (omega arith) (omega arith) (omega arith) in
    let later : blocks_from s k (i + 1) n (drop k ws) ≡ [] = no_blocks s k (i + 1) n (drop k ws) (λ j m o e f lt.
    let more : suc m * k ≡ m * k + k = suc-mul m k in
    ap (λ (l : List Word). block_piece (agent_word s j) (take k l)) (drop-drop o k ws)
    ∙ h j (suc m) (k + o) (omega arith) (omega arith) (omega arith)) in
    λ t. first t ++ later t

-- no table says anything
pub no_agents : (s : ℕ) (hs : List Blocks) → AllByRecursion (λ b. (k : ℕ) → blocks_pieces k b ≡ []) hs → heaps_pieces s hs ≡ []
no_agents s [] all = refl
no_agents s (b ∷ bs) all =
    let first = all.0 s in
    let later = no_agents (s + 1) bs all.1 in
    λ t. first t ++ later t
