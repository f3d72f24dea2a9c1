-- Lemmas: a word on top of a stack that waits for a new name.
use Rattle.std.proofs.Common.{◌≡◌, ℕ, suc, ◌<◌, inl, inr, List, [], ◌∷◌, ◌++◌, cond, length, max, reverse, refl, ap, sym, subst, ◌∙◌, arith, sum_by}
use Rattle.std.specs.List.{AllByRecursion}
use Rattle.std.specs.List.Sorted.{IsPermutation}
use Rattle.std.proofs.lemmas.Bool.Decides.{eqb_tells}
use Rattle.std.proofs.lemmas.List.{reverse-append}
use Rattle.std.proofs.lemmas.List.Sums.{sum_by-cons}
use Rattle.std.proofs.lemmas.List.Sorted.{IsPermutation-refl, IsPermutation-trans, IsPermutation-cons, IsPermutation-append_left}
use Rattle.ic_arena.specs.declared.word.Word.{Word}
use Rattle.ic_arena.specs.declared.word.TheConstants.{FREE, IDLE}
use Rattle.ic_arena.specs.Word.{name_word, word_eq}
use Rattle.ic_arena.specs.Piece.{Piece, idle, room, uses, waits}
use Rattle.ic_arena.specs.Tables.{Replaced, entry, entry_piece, names_pieces}
use Rattle.ic_machine.specs.Moving.{CutEnd, Side, Spells, follow}
use Rattle.ic_machine.specs.inner.Unpacking.{AreKept, NamesGrow, SetsApart, apart, stays}
use Rattle.ic_machine.specs.lemmas.Orders.{replaced_after, replaced_sum}
use Rattle.ic_machine.specs.lemmas.Separation.{sum_of_parts}
use Rattle.ic_machine.proofs.Grown.{names_stay}
use Rattle.ic_machine.proofs.NameRooms.{entry_room, free_entry, free_room, has_entry, replaced_length, word_eq_refl}
use Rattle.ic_machine.proofs.Packing.{one_out}
use Rattle.ic_machine.proofs.Unpacked.{kept_before, kept_below, kept_same, one_more_word}

-- ---- the new name

-- an entry that has room for two is one for which nothing waits
two_roomy : (n : ℕ) (v : Word) → sum_by (room (name_word n)) (entry_piece n v) ≡ 2 → v.tag ≡ IDLE
two_roomy n v two = elim (eqb_tells v.tag FREE) [
  | inl t ↦ (let none : sum_by (room (name_word n)) (entry_piece n v) ≡ 0 = ap (sum_by (room (name_word n))) (free_entry n v t.1) in
      absurd (omega (arith, two, none)))
  | inr t ↦ elim (eqb_tells v.tag IDLE) [
    | inl s ↦ s.1
    | inr s ↦ (let piece : entry_piece n v ≡ waits (name_word n) v ∷ [] = rw (t.0, s.0) refl in
        let own : sum_by (room (name_word n)) (waits (name_word n) v ∷ []) ≡ 1 = rw (word_eq_refl (name_word n)) refl in
        let one : sum_by (room (name_word n)) (entry_piece n v) ≡ 1 = ap (sum_by (room (name_word n))) piece ∙ own in
        absurd (omega (arith, two, one)))
  ]
]

-- nothing waits for a name that was opened
pub opened_idle : (ws vs : List Word) (n : ℕ) → (entry ws n).tag ≡ FREE
    → Replaced [] (idle (name_word n) ∷ []) (names_pieces 0 ws) (names_pieces 0 vs) → (entry vs n).tag ≡ IDLE
opened_idle ws vs n free r =
    let f : Piece → ℕ = room (name_word n) in
    let none : sum_by f (names_pieces 0 ws) ≡ 0 = free_room ws n free in
    let sums = replaced_sum f [] (idle (name_word n) ∷ []) (names_pieces 0 ws) (names_pieces 0 vs) r in
    let own : sum_by f (idle (name_word n) ∷ []) ≡ 2 = rw (word_eq_refl (name_word n)) refl in
    let nothing : sum_by f [] ≡ 0 = refl in
    let here = entry_room vs n in
    two_roomy n (entry vs n) (omega (arith, none, sums, own, nothing, here))

-- it has an entry
pub opened_there : (ws vs : List Word) (n : ℕ) → Replaced [] (idle (name_word n) ∷ []) (names_pieces 0 ws) (names_pieces 0 vs) → n < length vs
opened_there ws vs n r =
    let f : Piece → ℕ = room (name_word n) in
    let sums = replaced_sum f [] (idle (name_word n) ∷ []) (names_pieces 0 ws) (names_pieces 0 vs) r in
    let own : sum_by f (idle (name_word n) ∷ []) ≡ 2 = rw (word_eq_refl (name_word n)) refl in
    let nothing : sum_by f [] ≡ 0 = refl in
    has_entry vs n (omega (arith, sums, own, nothing))

-- a name was opened, and a word waits for it
pub waits_newly : (x u : Word) (old mid new : List Piece) → Replaced [] (idle x ∷ []) old mid
    → Replaced (idle x ∷ []) (waits x u ∷ []) mid new → IsPermutation new (waits x u ∷ old)
waits_newly x u old mid new p q =
    let same : IsPermutation (q.front ++ q.back) (p.front ++ p.back) =
    one_out (idle x) q.front q.back p.front p.back (sym q.before ∙ p.after) in
    IsPermutation-trans new (waits x u ∷ (q.front ++ q.back)) (waits x u ∷ old) (replaced_after (idle x ∷ []) (waits x u ∷ []) mid new q)
    (IsPermutation-cons (waits x u) (q.front ++ q.back) old
    (subst (λ (l : List Piece). IsPermutation (q.front ++ q.back) l) (sym p.before) same))

-- the word on top of a stack
pub last_one : (P : Word → Type 0) (ws : List Word) (v : Word) → AllByRecursion P (ws ++ v ∷ []) → P v
last_one P [] v h = h.0
last_one P (w ∷ ws) v h = last_one P ws v h.1

-- nothing has changed
pub same_apart : (es fs ws vs : List Word) → fs ≡ es → vs ≡ ws → SetsApart es fs ws vs
same_apart es fs ws vs e f =
    subst (λ (l : List Word). SetsApart es l ws vs) (sym e) (subst (λ (l : List Word). SetsApart es es ws l) (sym f) (stays es ws))

-- the word on top waits for a name that was opened
pub waits_apart : (es ms ns fs : List Word) (n : ℕ) (w : Word) (ss ws vs : List Word) → ms ≡ es
    → Replaced [] (idle (name_word n) ∷ []) (names_pieces 0 ms) (names_pieces 0 ns) → length ns ≡ max (length ms) (length (names_pieces 0 ns))
    → Replaced (idle (name_word n) ∷ []) (waits (name_word n) w ∷ []) (names_pieces 0 ns) (names_pieces 0 fs) → length fs ≡ length ns
    → ws ≡ ss ++ w ∷ [] → vs ≡ ss ++ name_word n ∷ [] → SetsApart es fs ws vs
waits_apart es ms ns fs n w ss ws vs same opened len put long before after =
    let x : Word = name_word n in
    let as_many = replaced_length (idle x ∷ []) (waits x w ∷ []) (names_pieces 0 ns) (names_pieces 0 fs) put in
    let alike : length (names_pieces 0 ns) ≡ length (names_pieces 0 fs) = omega (arith, as_many) in
    let made : SetsApart es fs (ss ++ w ∷ []) (ss ++ x ∷ []) =
    apart es fs ss x w refl
    (subst (λ (l : List Word). IsPermutation (names_pieces 0 fs) (waits x w ∷ names_pieces 0 l)) same
    (waits_newly x w (names_pieces 0 ms) (names_pieces 0 ns) (names_pieces 0 fs) opened put))
    (long ∙ (len ∙ (ap (λ (l : List Word). max (length l) (length (names_pieces 0 ns))) same ∙ ap (λ (k : ℕ). max (length es) k) alike))) in
    subst (λ (l : List Word). SetsApart es fs l vs) (sym before) (subst (λ (l : List Word). SetsApart es fs (ss ++ w ∷ []) l) (sym after) made)

-- ---- what it keeps

pub apart_spelled : (arities : List ℕ) (es fs : List Word) (ends : List CutEnd) (h : List Piece) (ws vs : List Word) → SetsApart es fs ws vs
    → (rest : Side) (ts : List Word) → Spells arities (record { places = names_pieces 0 es ++ h; ends = ends }) rest (reverse ws) ts
    → Spells arities (record { places = names_pieces 0 fs ++ h; ends = ends }) rest (reverse vs) ts
apart_spelled arities es fs ends h ws vs (stays xs ss) rest ts s = s
apart_spelled arities es fs ends h ws vs (apart xs ys ss name word is new len) rest ts s =
    let from : Side = record { places = names_pieces 0 es ++ h; ends = ends } in
    let to : Side = record { places = names_pieces 0 fs ++ h; ends = ends } in
    let before : Spells arities from rest (word ∷ reverse ss) ts =
    subst (λ (l : List Word). Spells arities from rest l ts) (reverse-append ss (word ∷ [])) s in
    let after : Spells arities to rest (name ∷ reverse ss) ts =
    follow to from rest name word (reverse ss) ts is
    (IsPermutation-append_left h (names_pieces 0 fs) (waits name word ∷ names_pieces 0 es) new) (IsPermutation-refl ends) before in
    subst (λ (l : List Word). Spells arities to rest l ts) (sym (reverse-append ss (name ∷ []))) after

pub apart_kept : (arities : List ℕ) (es fs ends : List Word) (h : List Piece) (ws vs : List Word) → SetsApart es fs ws vs
    → AreKept arities (ws ++ ends) (vs ++ ends) (names_pieces 0 es ++ h) (names_pieces 0 fs ++ h)
apart_kept arities es fs ends h ws vs (stays xs ss) = kept_same arities (ws ++ ends) (names_pieces 0 es ++ h)
apart_kept arities es fs ends h ws vs (apart xs ys ss name word is new len) =
    kept_before arities (ws ++ ends) (vs ++ ends) (names_pieces 0 es) (names_pieces 0 fs) h
    (kept_below arities ws vs ends (names_pieces 0 es) (names_pieces 0 fs) (record {
      each = λ w c.
          let us = sum_of_parts (uses w) (names_pieces 0 fs) (waits name word ∷ []) (names_pieces 0 es) new in
          let rs = sum_of_parts (room w) (names_pieces 0 fs) (waits name word ∷ []) (names_pieces 0 es) new in
          let u = sum_by-cons (uses w) (waits name word) [] in
          let r = sum_by-cons (room w) (waits name word) [] in
          let used = sum_by-cons (λ (v : Word). cond (word_eq w v) 1 0) word [] in
          let a = one_more_word w word ss in
          let b = one_more_word w name ss in
          omega (arith, us, rs, u, r, used, a, b);
    }))

pub apart_grow : (es fs ws vs : List Word) → SetsApart es fs ws vs → NamesGrow es fs
apart_grow es fs ws vs (stays xs ss) = names_stay es
apart_grow es fs ws vs (apart xs ys ss name word is new len) = record {
  places = len;
  more = (let longer = sum_of_parts (λ p. 1) (names_pieces 0 fs) (waits name word ∷ []) (names_pieces 0 es) new in
      let a = all_counted (names_pieces 0 fs) in let b = all_counted (names_pieces 0 es) in omega (arith, longer, a, b));
}
  where
    all_counted : (ps : List Piece) → sum_by (λ (p : Piece). 1) ps ≡ length ps
    all_counted [] = refl
    all_counted (p ∷ ps) = let a = sum_by-cons (λ (q : Piece). 1) p ps in let b = all_counted ps in omega (arith, a, b)

pub apart_len : (es fs ws vs : List Word) → SetsApart es fs ws vs → length vs ≡ length ws
apart_len es fs ws vs (stays xs ss) = refl
apart_len es fs ws vs (apart xs ys ss name word is new len) = as_long ss
  where
    as_long : (us : List Word) → length (us ++ name ∷ []) ≡ length (us ++ word ∷ [])
    as_long [] = refl
    as_long (u ∷ us) = ap suc (as_long us)
