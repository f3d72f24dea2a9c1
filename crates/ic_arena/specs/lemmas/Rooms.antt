-- Which places the tables give room.
use Rattle.std.proofs.Common.{◌≡◌, ℕ, zero, suc, ◌+◌, ◌<◌, ◌≤◌, ◌==◌, List, [], ◌∷◌, true, false, take, drop, refl, ◌∙◌, arith, sum_by, cond}
use Rattle.std.proofs.Math.Bool.{and-false, false-and}
use Rattle.std.proofs.lemmas.Bool.{ne_eqb}
use Rattle.std.proofs.lemmas.List.Sums.{sum_by-append}
use Rattle.ic_arena.specs.declared.word.Word.{Word}
use Rattle.ic_arena.specs.declared.word.TheConstants.{FREE, IDLE}
use Rattle.ic_arena.specs.Word.{name_word, agent_word, word_eq}
use Rattle.ic_arena.specs.Piece.{idle, waits, agent_of, room}
use Rattle.ic_arena.specs.Tables.{entry_piece, names_pieces, entry, block_piece, blocks_from}

-- words that differ are two words
pub other_tag : (v w : Word) → (v.tag ≡ w.tag → ⊥) → word_eq v w ≡ false
other_tag v w h = rw (ne_eqb v.tag w.tag h) (false-and (v.index == w.index))

pub other_index : (v w : Word) → (v.index ≡ w.index → ⊥) → word_eq v w ≡ false
other_index v w h = rw (ne_eqb v.index w.index h) (and-false (v.tag == w.tag))

-- the entry of a name gives no room to another word
pub entry_elsewhere : (v : Word) (i : ℕ) (w : Word) → word_eq v (name_word i) ≡ false
    → sum_by (room v) (entry_piece i w) ≡ 0
entry_elsewhere v i w h =
    elim (w.tag == FREE) as (λ t. sum_by (room v)
    (cond t [] (cond (w.tag == IDLE) (idle (name_word i) ∷ []) (waits (name_word i) w ∷ []))) ≡ 0) [
      | true ↦ refl
      | false ↦ elim (w.tag == IDLE) as (λ t. sum_by (room v)
          (cond t (idle (name_word i) ∷ []) (waits (name_word i) w ∷ [])) ≡ 0) [
            | true ↦ rw h refl
            | false ↦ rw h refl
          ]
    ]

-- no entry from a name on gives room to a word that isn't one of these names
pub names_elsewhere : (v : Word) (b : ℕ) (ws : List Word)
    → ((i : ℕ) → b ≤ i → word_eq v (name_word i) ≡ false)
    → sum_by (room v) (names_pieces b ws) ≡ 0
names_elsewhere v b [] h = refl
names_elsewhere v b (w ∷ ws) h =
    let here : sum_by (room v) (entry_piece b w) ≡ 0 = entry_elsewhere v b w (h b (omega arith)) in
    let rest : sum_by (room v) (names_pieces (b + 1) ws) ≡ 0 =
    names_elsewhere v (b + 1) ws (λ i le. h i (omega arith)) in
    sum_by-append (room v) (entry_piece b w) (names_pieces (b + 1) ws) ∙ omega arith

-- a name has the room that its entry gives
pub names_room : (ws : List Word) (b i j : ℕ) → j ≡ b + i
    → sum_by (room (name_word j)) (names_pieces b ws)
    ≡ sum_by (room (name_word j)) (entry_piece j (entry ws i))
names_room [] b i j e = refl
names_room (w ∷ ws) b zero j e =
    let same : j ≡ b = omega arith in
    let rest : sum_by (room (name_word j)) (names_pieces (b + 1) ws) ≡ 0 =
    names_elsewhere (name_word j) (b + 1) ws
    (λ k le. other_index (name_word j) (name_word k) (λ q. omega arith)) in
    sum_by-append (room (name_word j)) (entry_piece b w) (names_pieces (b + 1) ws)
    ∙ (rw (rest, same) (omega arith))
names_room (w ∷ ws) b (suc i) j e =
    let here : sum_by (room (name_word j)) (entry_piece b w) ≡ 0 =
    entry_elsewhere (name_word j) b w (other_index (name_word j) (name_word b) (λ q. omega arith)) in
    let next : j ≡ (b + 1) + i = omega arith in
    let rest : sum_by (room (name_word j)) (names_pieces (b + 1) ws)
    ≡ sum_by (room (name_word j)) (entry_piece j (entry ws i)) = names_room ws (b + 1) i j next in
    sum_by-append (room (name_word j)) (entry_piece b w) (names_pieces (b + 1) ws) ∙ omega arith

-- a block gives no room to another word
pub block_elsewhere : (v a : Word) (ws : List Word) → word_eq v a ≡ false
    → sum_by (room v) (block_piece a ws) ≡ 0
block_elsewhere v a [] h = refl
block_elsewhere v a (w ∷ ws) h = elim (w.tag == FREE) as (λ t. sum_by (room v)
    (cond t [] (agent_of a (w ∷ ws) ∷ [])) ≡ 0) [
      | true ↦ refl
      | false ↦ rw h refl
    ]

-- blocks give no room to a word that isn't one of their agents
pub blocks_elsewhere : (v : Word) (s k i n : ℕ) (ws : List Word)
    → ((p : ℕ) → i ≤ p → p < i + n → word_eq v (agent_word s p) ≡ false)
    → sum_by (room v) (blocks_from s k i n ws) ≡ 0
blocks_elsewhere v s k i zero ws h = refl
blocks_elsewhere v s k i (suc n) ws h =
    let here : sum_by (room v) (block_piece (agent_word s i) (take k ws)) ≡ 0 =
    block_elsewhere v (agent_word s i) (take k ws) (h i (omega arith) (omega arith)) in
    let rest : sum_by (room v) (blocks_from s k (i + 1) n (drop k ws)) ≡ 0 =
    blocks_elsewhere v s k (i + 1) n (drop k ws) (λ p le lt. h p (omega arith) (omega arith)) in
    sum_by-append (room v) (block_piece (agent_word s i) (take k ws))
    (blocks_from s k (i + 1) n (drop k ws)) ∙ omega arith
