-- How the pieces of the table of names change with its entries.
use Rattle.std.proofs.Common.{◌≡◌, ℕ, zero, suc, ◌+◌, ◌<◌, ◌==◌, List, [], ◌∷◌, ◌++◌, false, length, refl, ap, sym, ◌∙◌, arith, append_assoc, slice_set, zero-add}
use Rattle.std.proofs.lemmas.Bool.{ne_eqb}
use Rattle.ic_arena.specs.declared.word.Word.{Word}
use Rattle.ic_arena.specs.declared.word.TheConstants.{IDLE, FREE}
use Rattle.ic_arena.specs.Word.{name_word}
use Rattle.ic_arena.specs.Piece.{Piece, idle, waits}
use Rattle.ic_arena.specs.Tables.{Replaced, entry_piece, names_pieces, entry}

-- what one piece more in front does
pub replaced_after_front : (f old new xs ys : List Piece) → Replaced old new xs ys
    → Replaced old new (f ++ xs) (f ++ ys)
replaced_after_front f old new xs ys r = record {
  front = f ++ r.front;
  back = r.back;
  before = ap (λ l. f ++ l) r.before ∙ sym (append_assoc f r.front (old ++ r.back));
  after = ap (λ l. f ++ l) r.after ∙ sym (append_assoc f r.front (new ++ r.back));
}

-- an entry that is written
pub replaced_at : (ws : List Word) (b i j : ℕ) (v : Word) → j ≡ b + i → i < length ws
    → Replaced (entry_piece j (entry ws i)) (entry_piece j v)
    (names_pieces b ws) (names_pieces b (slice_set ws i v))
replaced_at [] b i j v e h = absurd (omega arith)
replaced_at (w ∷ ws) b zero j v e h = let same : j ≡ b = omega arith in rw same (record {
  front = [];
  back = names_pieces (b + 1) ws;
  before = refl;
  after = refl;
})
replaced_at (w ∷ ws) b (suc i) j v e h =
    let next : j ≡ (b + 1) + i = omega arith in
    let there : i < length ws = omega arith in
    replaced_after_front (entry_piece b w) _ _ _ _ (replaced_at ws (b + 1) i j v next there)

-- an entry that is put after the last
pub replaced_end : (ws : List Word) (b j : ℕ) (v : Word) → j ≡ b + length ws
    → Replaced [] (entry_piece j v) (names_pieces b ws) (names_pieces b (ws ++ v ∷ []))
replaced_end [] b j v e = let same : j ≡ b = omega arith in rw same (record {
  front = [];
  back = [];
  before = refl;
  after = refl;
})
replaced_end (w ∷ ws) b j v e =
    let next : j ≡ (b + 1) + length ws = omega arith in
    replaced_after_front (entry_piece b w) _ _ _ _ (replaced_end ws (b + 1) j v next)

pub free_piece : (j : ℕ) (w : Word) → w.tag ≡ FREE → entry_piece j w ≡ []
free_piece j w h = rw h refl

pub idle_piece : (j : ℕ) (w : Word) → w.tag ≡ IDLE → entry_piece j w ≡ idle (name_word j) ∷ []
idle_piece j w h = rw h refl

pub waits_piece : (j : ℕ) (w : Word) → w.tag < IDLE → entry_piece j w ≡ waits (name_word j) w ∷ []
waits_piece j w h =
    let not_free : (w.tag == FREE) ≡ false = ne_eqb _ _ (λ e. omega arith) in
    let not_idle : (w.tag == IDLE) ≡ false = ne_eqb _ _ (λ e. omega arith) in
    rw (not_free, not_idle) refl

-- the same, said of equal lists
pub replaced_as : (old old' new new' xs ys : List Piece) → old ≡ old' → new ≡ new'
    → Replaced old new xs ys → Replaced old' new' xs ys
replaced_as old old' new new' xs ys e f r = record {
  front = r.front;
  back = r.back;
  before = r.before ∙ ap (λ (l : List Piece). r.front ++ (l ++ r.back)) e;
  after = r.after ∙ ap (λ (l : List Piece). r.front ++ (l ++ r.back)) f;
}

-- a free name is opened
pub opened_again : (ws : List Word) (i n : ℕ) → i < length ws → (entry ws i).tag ≡ FREE
    → Replaced [] (idle (name_word i) ∷ [])
    (names_pieces 0 ws) (names_pieces 0 (slice_set ws i (record { tag = IDLE; index = n })))
opened_again ws i n h free = replaced_as _ _ _ _ _ _ (free_piece i (entry ws i) free) refl
    (replaced_at ws 0 i i (record { tag = IDLE; index = n }) (sym (zero-add i)) h)

-- a name after the last is opened
pub opened_after : (ws : List Word) (n : ℕ)
    → Replaced [] (idle (name_word (length ws)) ∷ [])
    (names_pieces 0 ws) (names_pieces 0 (ws ++ record { tag = IDLE; index = n } ∷ []))
opened_after ws n =
    replaced_end ws 0 (length ws) (record { tag = IDLE; index = n }) (sym (zero-add (length ws)))

-- a word waits
pub put_to_wait : (ws : List Word) (i : ℕ) (v : Word) → i < length ws → (entry ws i).tag ≡ IDLE
    → v.tag < IDLE
    → Replaced (idle (name_word i) ∷ []) (waits (name_word i) v ∷ [])
    (names_pieces 0 ws) (names_pieces 0 (slice_set ws i v))
put_to_wait ws i v h none word =
    replaced_as _ _ _ _ _ _ (idle_piece i (entry ws i) none) (waits_piece i v word)
    (replaced_at ws 0 i i v (sym (zero-add i)) h)

-- another word waits
pub wait_replaced : (ws : List Word) (i : ℕ) (v : Word) → i < length ws → (entry ws i).tag < IDLE
    → v.tag < IDLE
    → Replaced (waits (name_word i) (entry ws i) ∷ []) (waits (name_word i) v ∷ [])
    (names_pieces 0 ws) (names_pieces 0 (slice_set ws i v))
wait_replaced ws i v h waited word =
    replaced_as _ _ _ _ _ _ (waits_piece i (entry ws i) waited) (waits_piece i v word)
    (replaced_at ws 0 i i v (sym (zero-add i)) h)

-- a name is freed
pub freed : (ws : List Word) (i n : ℕ) → i < length ws → (entry ws i).tag < IDLE
    → Replaced (waits (name_word i) (entry ws i) ∷ []) []
    (names_pieces 0 ws) (names_pieces 0 (slice_set ws i (record { tag = FREE; index = n })))
freed ws i n h waited =
    replaced_as _ _ _ _ _ _ (waits_piece i (entry ws i) waited) refl
    (replaced_at ws 0 i i (record { tag = FREE; index = n }) (sym (zero-add i)) h)
