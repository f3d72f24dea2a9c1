-- Lemmas: an agent that is put into a block, with its arguments from the top of a stack.
use Rattle.std.proofs.Common.{◌≡◌, ℕ, zero, suc, ◌+◌, ◌-◌, ◌<◌, ◌≤◌, ◌==◌, inl, inr, Bool, true, false, List, [], ◌∷◌, ◌++◌, Option, None, Some, length, map, max, take, drop, reverse, slice_get, slice_set, zero-add, refl, ap, sym, subst, ◌∙◌, arith, sum_by}
use Rattle.std.specs.Cmp.{unsigned_Decides}
use Rattle.std.specs.List.{AllByRecursion, range_with_len}
use Rattle.std.specs.Option.{option_map_or}
use Rattle.std.proofs.lemmas.Bool.Decides.{leb_tells}
use Rattle.std.proofs.lemmas.List.{length-drop, length-reverse, reverse-reverse, take-append-drop}
use Rattle.std.proofs.lemmas.List.Sums.{sum_by-append}
use Rattle.ic_arena.specs.declared.word.Word.{Word}
use Rattle.ic_arena.specs.declared.word.TheConstants.{GIVEN, IDLE, NAME}
use Rattle.ic_arena.specs.Word.{agent_word, count, name_word}
use Rattle.ic_arena.specs.Piece.{Piece, agent_of, room}
use Rattle.ic_arena.specs.Tables.{Blocks, Replaced, blocks_from, blocks_pieces, names_pieces, register}
use Rattle.ic_machine.specs.Held.{IsTagOf}
use Rattle.ic_machine.specs.Moving.{CutEnd, end_word, times}
use Rattle.ic_machine.specs.Separate.{is_constant_tag, IsSeparate}
use Rattle.ic_machine.specs.inner.Firing.{heaps_pieces, arities_of, table}
use Rattle.ic_machine.specs.inner.Unpacking.{AreKept, IsNext, MakesAgent, PutsAgent}
use Rattle.ic_machine.proofs.Heaps.{arity_at, arity_known, table_replaced, tables_elsewhere}
use Rattle.ic_machine.proofs.NameRooms.{replaced_length}
use Rattle.ic_machine.proofs.Standing.{names_few}
use Rattle.ic_machine.proofs.Unpacked.{ends_times, made_first, top_words}

-- the places of the words on top are places of the stack
pub below_top : (end a n : ℕ) → 1 ≤ end → AllByRecursion (λ k. k < end) (map (λ (k : ℕ). end - (k + 1)) (range_with_len a n))
below_top end a zero h = tt
below_top end a (suc n) h = (omega arith, below_top end (a + 1) n h)

pub puts_agent : (old mid new : Blocks) (block : ℕ) (ws vs : List Word) (ks : List ℕ) → mid.arity ≡ old.arity → mid.count ≡ old.count
    → mid.words ≡ old.words → old.arity ≤ length ws
    → ks ≡ map (λ (k : ℕ). length ws - (k + 1)) (range_with_len 0 old.arity) → vs ≡ take (length ws - old.arity) ws
    → ((s : ℕ) → Replaced [] (agent_of (agent_word s block) (map (register ws) ks) ∷ []) (blocks_pieces s mid) (blocks_pieces s new))
    → PutsAgent block old new ws vs
puts_agent old mid new block ws vs ks arity count words enough places rest made =
    let top : List Word = drop (length ws - old.arity) ws in
    let read : map (register ws) ks ≡ reverse top = ap (map (register ws)) places ∙ top_words ws old.arity enough in
    let len = length-drop (length ws - old.arity) ws in
    let turned = length-reverse top in
    record {
      arguments = reverse top;
      count = omega arith;
      before = sym (ap (λ (l : List Word). l ++ reverse (reverse top)) rest
          ∙ (ap (λ (l : List Word). take (length ws - old.arity) ws ++ l) (reverse-reverse top)
          ∙ take-append-drop (length ws - old.arity) ws));
      made = λ s.
          let same : blocks_pieces s mid ≡ blocks_pieces s old = (λ i. blocks_from s (arity i) 0 (count i) (words i)) in
          subst (λ (l : List Piece). Replaced [] (agent_of (agent_word s block) (reverse top) ∷ []) l (blocks_pieces s new)) same
          (subst (λ (l : List Word). Replaced [] (agent_of (agent_word s block) l ∷ []) (blocks_pieces s mid) (blocks_pieces s new)) read (made s));
    }

-- whether agents of a symbol have no arguments
pub constant_of : (hs : List Blocks) (s : ℕ) → s < length hs → is_constant_tag (arities_of hs) (suc s) ≡ ((table hs s).arity == 0)
constant_of hs s lt = ap (λ (o : Option ℕ). option_map_or (λ k. k == 0) o (suc s == GIVEN)) (arity_at hs s lt)

pub makes_agent : (hs : List Blocks) (tag s : ℕ) (b b' : Blocks) (block : ℕ) (ws vs us : List Word) → tag ≡ s + 1 → s < length hs
    → b ≡ table hs s → 1 ≤ b.arity → PutsAgent block b b' ws vs → us ≡ vs ++ record { tag = tag; index = block } ∷ []
    → MakesAgent (arities_of hs) tag (heaps_pieces 0 hs) (heaps_pieces 0 (slice_set hs s b')) ws us
makes_agent hs tag s b b' block ws vs us is lt same some p after =
    let w : Word = record { tag = tag; index = block } in
    let place : agent_word s block ≡ w = (λ i. record { tag = sym is i; index = block }) in
    let arity : (table hs s).arity ≡ length p.arguments = ap (λ (x : Blocks). x.arity) (sym same) ∙ sym p.count in
    let put : Replaced [] (agent_of (agent_word s block) p.arguments ∷ []) (blocks_pieces s (table hs s)) (blocks_pieces s b') =
    subst (λ (x : Blocks). Replaced [] (agent_of (agent_word s block) p.arguments ∷ []) (blocks_pieces s x) (blocks_pieces s b')) same (p.made s) in
    let all = subst (λ (x : Word). Replaced [] (agent_of x p.arguments ∷ []) (heaps_pieces 0 hs) (heaps_pieces 0 (slice_set hs s b'))) place
    (table_replaced hs 0 s s b' [] (agent_of (agent_word s block) p.arguments ∷ []) (sym (zero-add s)) lt put) in
    record {
      arguments = p.arguments;
      known = record {
        symbol = s;
        is = is;
        known = arity_at hs s lt ∙ ap Some arity;
        some = (let count = p.count in omega arith);
      };
      rest = vs;
      before = p.before;
      place = w;
      is = refl;
      made = made_first (agent_of w p.arguments) (heaps_pieces 0 hs) (heaps_pieces 0 (slice_set hs s b')) all;
      after = after;
    }

-- the same tables, where one has more memory
pub pieces_same : (hs : List Blocks) (s : ℕ) (b : Blocks) → b.arity ≡ (table hs s).arity → b.count ≡ (table hs s).count
    → b.words ≡ (table hs s).words → heaps_pieces 0 (slice_set hs s b) ≡ heaps_pieces 0 hs
pieces_same hs s b arity count words = by hs 0 s b arity count words
  where
    by : (hs : List Blocks) (base s : ℕ) (b : Blocks) → b.arity ≡ (table hs s).arity → b.count ≡ (table hs s).count
        → b.words ≡ (table hs s).words → heaps_pieces base (slice_set hs s b) ≡ heaps_pieces base hs
    by [] base s b a c w = refl
    by (h ∷ hs) base zero b a c w = (λ i. blocks_from base (a i) 0 (c i) (w i) ++ heaps_pieces (base + 1) hs)
    by (h ∷ hs) base (suc s) b a c w = ap (λ (l : List Piece). blocks_pieces base h ++ l) (by hs (base + 1) s b a c w)

-- a word was not put onto the stack
pub kept_dropped : (arities : List ℕ) (ws vs us : List Word) (xs ys : List Piece) → AreKept arities ws (vs ++ us) xs ys
    → AreKept arities ws vs xs ys
kept_dropped arities ws vs us xs ys f = record {
  each = λ w c.
      let a = f.each w c in
      omega (arith, sum_by-append {X = Word});
}

pub all_front : (P : Word → Type 0) (ws vs : List Word) → AllByRecursion P (ws ++ vs) → AllByRecursion P ws
all_front P [] vs h = tt
all_front P (w ∷ ws) vs h = (h.0, all_front P ws vs h.1)

-- each end of a cut has room
pub ends_roomy : (arities : List ℕ) (ws entries : List Word) (bs : List CutEnd) (hs : List Blocks)
    → IsSeparate arities (ws ++ map end_word bs) (names_pieces 0 entries ++ heaps_pieces 0 hs)
    → (i : ℕ) → times i (map (λ (e : CutEnd). e.name) bs) ≤ sum_by (room (name_word i)) (names_pieces 0 entries)
ends_roomy arities ws entries bs hs s i =
    let w : Word = name_word i in
    let n : List Piece = names_pieces 0 entries in
    let h : List Piece = heaps_pieces 0 hs in
    let before = s.each w refl in
    let same = ends_times i bs in
    let agents : sum_by (room w) h ≡ 0 = tables_elsewhere w 0 hs (λ k le lt q. omega arith) in
    omega (arith, sum_by-append {X = Word}, sum_by-append {X = Piece})

none_past : (hs : List Blocks) (s : ℕ) → length hs ≤ s → slice_get (arities_of hs) s ≡ None
none_past [] s h = refl
none_past (b ∷ hs) zero h = absurd (omega arith)
none_past (b ∷ hs) (suc s) h = none_past hs s (omega arith)

-- a word that is next is no mark
pub next_word : (hs : List Blocks) (w : Word) (trees : ℕ) → length hs < GIVEN → IsNext (arities_of hs) trees w → ¬ (w.tag ≡ NAME) → w.tag < IDLE
next_word hs w trees few next other = by (is_constant_tag (arities_of hs) w.tag) refl
  where
    past : (t : ℕ) → is_constant_tag (arities_of hs) t ≡ true → t < IDLE
    past zero e = omega arith
    past (suc s) e = elim (leb_tells (length hs) s) [
      | inl t ↦
          (let none = ap (λ (o : Option ℕ). option_map_or (λ k. k == 0) o (suc s == GIVEN)) (none_past hs s t.1) in
          let given : suc s ≡ GIVEN = (unsigned_Decides (suc s) GIVEN).0 (sym none ∙ e) in
          omega (arith, given))
      | inr t ↦ (let there = t.1 in omega (arith, there, few))
    ]

    by : (b : Bool) → is_constant_tag (arities_of hs) w.tag ≡ b → w.tag < IDLE
    by true e = past w.tag e
    by false e =
        let at = next.agent other e in
        let is = at.1.is in
        let lt = (arity_known hs at.1.symbol at.0 at.1.known).0 in
        omega (arith, is, lt, few)

-- What is known of the tag of an agent that is to be put onto a stack of so many words.
module _ (hs : List Blocks) (t n : ℕ)
    (known : is_constant_tag (arities_of hs) t ≡ false → (k : ℕ) × IsTagOf (arities_of hs) t k × (k ≤ n)) where
  pub tag_some : 1 ≤ t
  tag_some = by t refl
    where
      by : (u : ℕ) → t ≡ u → 1 ≤ u
      by zero e =
          let at = known (ap (is_constant_tag (arities_of hs)) e) in
          let is = at.1.is in
          absurd (omega (arith, is, e))
      by (suc u) e = omega arith

  -- it is that of no symbol
  pub past_plain : length hs < t → is_constant_tag (arities_of hs) t ≡ false → ⊥
  past_plain past e =
      let at = known e in
      let is = at.1.is in
      let lt = (arity_known hs at.1.symbol at.0 at.1.known).0 in
      omega (arith, is, lt, past)

  module _ (s : ℕ) (is : t ≡ s + 1) (lt : s < length hs) where
    whether : is_constant_tag (arities_of hs) t ≡ ((table hs s).arity == 0)
    whether = let next : t ≡ suc s = omega (arith, is) in ap (is_constant_tag (arities_of hs)) next ∙ constant_of hs s lt

    -- its agents have no arguments
    pub bare_plain : (table hs s).arity ≡ 0 → is_constant_tag (arities_of hs) t ≡ false → ⊥
    bare_plain none e =
        let z = sym e ∙ (whether ∙ (unsigned_Decides (table hs s).arity 0).1 none) in cc

    -- they have some
    pub armed : 1 ≤ (table hs s).arity → is_constant_tag (arities_of hs) t ≡ true → ⊥
    armed some e =
        let none : (table hs s).arity ≡ 0 = (unsigned_Decides (table hs s).arity 0).0 (sym whether ∙ e) in
        omega (arith, none, some)

    pub armed_enough : 1 ≤ (table hs s).arity → (table hs s).arity ≤ n
    armed_enough some =
        by (is_constant_tag (arities_of hs) t) refl
      where
        by : (b : Bool) → is_constant_tag (arities_of hs) t ≡ b → (table hs s).arity ≤ n
        by true e = absurd (armed some e)
        by false e =
            let at = known e in
            let same : at.1.symbol ≡ s = (let a = at.1.is in omega (arith, a, is)) in
            let arity : (table hs at.1.symbol).arity ≡ at.0 = (arity_known hs at.1.symbol at.0 at.1.known).1 in
            let here : (table hs s).arity ≡ at.0 = ap (λ (k : ℕ). (table hs k).arity) (sym same) ∙ arity in
            let few = at.2 in
            omega (arith, here, few)

-- there is at most one name more
pub opened_few : (old new : List Word) (p : Piece) → Replaced [] (p ∷ []) (names_pieces 0 old) (names_pieces 0 new)
    → length new ≡ max (length old) (length (names_pieces 0 new)) → length new ≤ length old + 1
opened_few old new p r is =
    let one = replaced_length [] (p ∷ []) (names_pieces 0 old) (names_pieces 0 new) r in
    let few = names_few 0 old in
    omega (arith, one, few, is)
