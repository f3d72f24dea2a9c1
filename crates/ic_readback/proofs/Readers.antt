-- Lemmas: what a reader has read.
use Rattle.std.proofs.Common.{◌≡◌, ℕ, ◌+◌, ◌-◌, ◌≤◌, ◌<◌, List, [], ◌∷◌, ◌++◌, cond, length, map, take, reverse, sum_by, slice_index_or, refl, sym, ap, ◌∙◌, arith, inl, inr, append_assoc, append-nil, subst as transport}
use Rattle.std.specs.Prelude.{Contains, IsPermutation}
use Rattle.std.specs.List.{AllByRecursion}
use Rattle.std.proofs.lemmas.Bool.{cases_lt}
use Rattle.std.proofs.lemmas.List.{take_more, reverse-reverse}
use Rattle.std.proofs.lemmas.List.Concat.{flat_map-append}
use Rattle.ic_arena.specs.declared.word.Word.{Word}
use Rattle.ic_arena.specs.Word.{word_eq, name_word, agent_word}
use Rattle.ic_arena.specs.Piece.{Piece, equated, idle, waits, agent_of, room}
use Rattle.ic_machine.specs.declared.equation.Equation.{Equation}
use Rattle.ic_machine.specs.Held.{Held, IsHeld, ArgumentsTaken}
use Rattle.ic_meaning.specs.Nets.{holds, IsAgentOf}
use Rattle.ic_readback.specs.declared.token.Token.{Token}
use Rattle.ic_readback.specs.declared.token.Token.TheVariants.{Agent}
use Rattle.ic_readback.specs.declared.loose.Loose.{Loose}
use Rattle.ic_readback.specs.declared.reader.Reader.{Reader}
use Rattle.ic_readback.specs.Reading.{sides_of}
use Rattle.ic_readback.specs.inner.Expanding.{state, Steps, no_step, IsIdle}
use Rattle.ic_readback.specs.inner.Writing.{part, part_of, Gathered, nothing, waited, alone as alone_part}
use Rattle.ic_readback.specs.inner.Reading.{at_words, HasRead, Gathers, Keeps, HoldOnce}
use Rattle.ic_readback.proofs.Chains.{steps_on, steps_more, steps_tokens, steps_fewer, steps_pieces, contained_sum, gone, all_contained}
use Rattle.ic_readback.proofs.Gathering.{gathered_on, gathered_pieces, gathered_fewer}
use Rattle.ic_readback.proofs.Moves.{all_there}
use Rattle.ic_meaning.specs.lemmas.Terms.{word_itself}

pub no_read : (r : Reader) → r.stack.items ≡ [] → HasRead [] r r
no_read r empty = record { steps = no_step (at_words [] r); empty = empty; arities = refl }

pub read_on : (ws vs : List Word) (old mid new : Reader) → HasRead ws old mid → HasRead vs mid new → HasRead (ws ++ vs) old new
read_on ws vs old mid new first second =
    let a : List ℕ = old.places.arities in
    let one : Steps a (at_words (ws ++ vs) old) (at_words vs mid) = steps_more a vs (at_words ws old) (at_words [] mid) first.steps in
    let two : Steps a (at_words vs mid) (at_words [] new) = transport (λ b. Steps b (at_words vs mid) (at_words [] new)) first.arities second.steps in
    record {
      steps = steps_on a (at_words (ws ++ vs) old) (at_words vs mid) (at_words [] new) one two;
      empty = second.empty;
      arities = second.arities ∙ first.arities;
    }

pub read_next : (xs : List Word) (i : ℕ) (d : Word) (old mid new : Reader) → i < length xs → HasRead (take i xs) old mid → HasRead (slice_index_or xs i d ∷ []) mid new
    → HasRead (take (i + 1) xs) old new
read_next xs i d old mid new low first second =
    transport (λ l. HasRead l old new) (sym (take_more xs i d low)) (read_on (take i xs) (slice_index_or xs i d ∷ []) old mid new first second)

pub sides_next : (es : List Equation) (i : ℕ) (d : Equation) (old mid middle new : Reader) → i < length es → HasRead (sides_of (take i es)) old mid
    → HasRead ((slice_index_or es i d).left ∷ []) mid middle → HasRead ((slice_index_or es i d).right ∷ []) middle new → HasRead (sides_of (take (i + 1) es)) old new
sides_next es i d old mid middle new low first second third =
    let e : Equation = slice_index_or es i d in
    let both = read_on (e.left ∷ []) (e.right ∷ []) mid middle new second third in
    let all = read_on (sides_of (take i es)) (e.left ∷ e.right ∷ []) old mid new first both in
    let more : sides_of (take (i + 1) es) ≡ sides_of (take i es) ++ (e.left ∷ e.right ∷ []) =
    ap sides_of (take_more es i d low) ∙ flat_map-append (λ (e : Equation). e.left ∷ e.right ∷ []) (take i es) (e ∷ []) in
    transport (λ l. HasRead l old new) (sym more) all

pub read_few : (ws : List Word) (old new : Reader) → HasRead ws old new → length old.tokens.items + length ws ≤ length new.tokens.items
read_few ws old new read =
    let long = steps_tokens old.places.arities (at_words ws old) (at_words [] new) read.steps in
    omega arith

pub sides_many : (es : List Equation) → length es ≤ length (sides_of es)
sides_many [] = omega arith
sides_many (e ∷ es) = let rest = sides_many es in omega arith

-- ---- what is left

pub no_gather : (r : Reader) (ls : List Loose) → r.tokens.items ≡ [] → r.stack.items ≡ [] → Gathers r r ls ls
no_gather r ls none empty = record {
  parts = [];
  added = sym (append-nil (map part_of ls));
  gathered = nothing r.places.pieces;
  tokens = none;
  empty = empty;
  arities = refl;
  equations = refl;
}

pub gather_on : (old mid new : Reader) (ls ms ns : List Loose) → Gathers old mid ls ms → Gathers mid new ms ns → Gathers old new ls ns
gather_on old mid new ls ms ns first second =
    let a : List ℕ = old.places.arities in
    record {
      parts = first.parts ++ second.parts;
      added = second.added ∙ (ap (λ l. l ++ second.parts) first.added ∙ append_assoc (map part_of ls) first.parts second.parts);
      gathered = gathered_on a first.parts second.parts old.places.pieces mid.places.pieces new.places.pieces first.gathered
          (transport (λ b. Gathered b second.parts mid.places.pieces new.places.pieces) first.arities second.gathered);
      tokens = second.tokens;
      empty = second.empty;
      arities = second.arities ∙ first.arities;
      equations = second.equations ∙ first.equations;
    }

pub gather_pieces : (p : Piece) (old new : Reader) (ls ms : List Loose) → Gathers old new ls ms → Contains new.places.pieces p → Contains old.places.pieces p
gather_pieces p old new ls ms read there = gathered_pieces old.places.arities p read.parts old.places.pieces new.places.pieces read.gathered there

pub gather_once : (old new : Reader) (ls ms : List Loose) → Gathers old new ls ms → HoldOnce old.places.pieces → HoldOnce new.places.pieces
gather_once old new ls ms read once w =
    let fewer = gathered_fewer old.places.arities (holds w) read.parts old.places.pieces new.places.pieces read.gathered in
    let one = once w in
    omega arith

-- a word that waited for a name is taken, put together, and kept
pub gather_name : (old mid read new : Reader) (ls ms : List Loose) (index : ℕ) (word : Word) → IsPermutation old.places.pieces (waits (name_word index) word ∷ mid.places.pieces)
    → mid.places.arities ≡ old.places.arities → mid.tokens.items ≡ [] → mid.equations ≡ old.equations → read.equations ≡ mid.equations → HasRead (word ∷ []) mid read
    → Keeps (name_word index) read new ls ms → Gathers old new ls ms
gather_name old mid read new ls ms index word taken same tokens equations more has kept =
    let a : List ℕ = old.places.arities in
    let us : List Token = read.tokens.items in
    let steps : Steps a (state [] (word ∷ []) mid.places.pieces) (state us [] read.places.pieces) =
    transport (λ l. Steps a (state l (word ∷ []) mid.places.pieces) (state us [] read.places.pieces)) tokens
    (transport (λ b. Steps b (at_words (word ∷ []) mid) (at_words [] read)) same has.steps) in
    record {
      parts = part (name_word index) us ∷ [];
      added = kept.added;
      gathered = transport (λ (h : Held). Gathered a (part (name_word index) us ∷ []) old.places.pieces h.pieces) (sym kept.places)
          (waited [] (name_word index) word us old.places.pieces old.places.pieces mid.places.pieces read.places.pieces (nothing old.places.pieces) refl taken steps);
      tokens = kept.tokens;
      empty = kept.stack ∙ has.empty;
      arities = ap (λ (h : Held). h.arities) kept.places ∙ (has.arities ∙ same);
      equations = kept.equations ∙ (more ∙ equations);
    }

-- no word waits for a name that has no room
pub room_none : (x u : Word) (ps : List Piece) → sum_by (room x) ps ≡ 0 → Contains ps (waits x u) → ⊥
room_none x u ps free there =
    let some = contained_sum (room x) (waits x u) ps there in
    let itself : ◌≡◌ {A = ℕ} (cond (word_eq x x) 1 0) 1 = rw (word_itself x) refl in
    absurd (omega arith)

pub read_pieces : (p : Piece) (ws : List Word) (old new : Reader) → HasRead ws old new → Contains new.places.pieces p → Contains old.places.pieces p
read_pieces p ws old new read there = steps_pieces old.places.arities p (at_words ws old) (at_words [] new) read.steps there

-- the arguments of an agent are taken, put together after it, and kept
pub gather_agent : (old read new : Reader) (mid : Held) (ls ms : List Loose) (agent : Word) (ts : List Token) (st : List Word) → old.stack.items ≡ [] → old.tokens.items ≡ []
    → ArgumentsTaken agent old.places mid old.stack.items st
    → ((vs : List Word) → IsPermutation old.places.pieces (agent_of agent vs ∷ mid.pieces) → IsAgentOf old.places.arities agent.tag (length vs))
    → mid.arities ≡ old.places.arities → ts ≡ old.tokens.items ++ Agent (agent.tag - 1) ∷ []
    → Steps mid.arities (state ts (reverse st) mid.pieces) (at_words [] read) → read.stack.items ≡ [] → read.places.arities ≡ mid.arities → read.equations ≡ old.equations
    → Keeps agent read new ls ms → Gathers old new ls ms
gather_agent old read new mid ls ms agent ts st empty none taken known same tokens steps empty_too arities equations kept =
    let a : List ℕ = old.places.arities in
    let vs : List Word = taken.arguments in
    let us : List Token = read.tokens.items in
    let stack : reverse st ≡ vs = ap reverse (taken.pushed ∙ ap (λ l. l ++ reverse vs) empty) ∙ reverse-reverse vs in
    let start : ts ≡ Agent (agent.tag - 1) ∷ [] = tokens ∙ ap (λ l. l ++ Agent (agent.tag - 1) ∷ []) none in
    let all : Steps a (state (Agent (agent.tag - 1) ∷ []) vs mid.pieces) (state us [] read.places.pieces) =
    transport (λ l. Steps a (state l vs mid.pieces) (at_words [] read)) start
    (transport (λ l. Steps a (state ts l mid.pieces) (at_words [] read)) stack
    (transport (λ b. Steps b (state ts (reverse st) mid.pieces) (at_words [] read)) same steps)) in
    record {
      parts = part agent us ∷ [];
      added = kept.added;
      gathered = transport (λ (h : Held). Gathered a (part agent us ∷ []) old.places.pieces h.pieces) (sym kept.places)
          (alone_part [] agent vs us old.places.pieces old.places.pieces mid.pieces read.places.pieces (nothing old.places.pieces) (known vs taken.taken) taken.taken all);
      tokens = kept.tokens;
      empty = kept.stack ∙ empty_too;
      arities = ap (λ (h : Held). h.arities) kept.places ∙ (arities ∙ same);
      equations = kept.equations ∙ equations;
    }

-- once an agent is taken, it is at its place no more
pub taken_once : (agent : Word) (old mid : Held) (before after vs : List Word) → ArgumentsTaken agent old mid before after → HoldOnce old.pieces
    → Contains mid.pieces (agent_of agent vs) → ⊥
taken_once agent old mid before after vs taken once there =
    let some = contained_sum (holds agent) (agent_of agent vs) mid.pieces there in
    let all = gone (holds agent) old.pieces mid.pieces (agent_of agent taken.arguments) taken.taken in
    let one = once agent in
    let itself : ◌≡◌ {A = ℕ} (cond (word_eq agent agent) 1 0) 1 = rw (word_itself agent) refl in
    absurd (omega arith)

-- ---- for the loops

pub read_as : (ws : List Word) (old new : Reader) (k : ℕ) → HasRead ws old new → HasRead ws old (record new { equations = k })
read_as ws old new k read = record { steps = read.steps; empty = read.empty; arities = read.arities }

pub gather_same : (old new : Reader) (ls : List Loose) → new.places ≡ old.places → new.tokens.items ≡ [] → new.equations ≡ old.equations → new.stack.items ≡ [] → Gathers old new ls ls
gather_same old new ls places tokens equations empty = record {
  parts = [];
  added = sym (append-nil (map part_of ls));
  gathered = transport (λ (h : Held). Gathered old.places.arities [] old.places.pieces h.pieces) (sym places) (nothing old.places.pieces);
  tokens = tokens;
  empty = empty;
  arities = ap (λ (h : Held). h.arities) places;
  equations = equations;
}

pub none_next : (P : ℕ → Type 0) (i : ℕ) → ((j : ℕ) → j < i → P j) → P i → (j : ℕ) → j < i + 1 → P j
none_next P i before here j low = elim (cases_lt j i) [
  | inl less ↦ before j less
  | inr high ↦ transport P (let same : i ≡ j = omega arith in same) here
]

pub gather_held : (old new : Reader) (ls ms : List Loose) → Gathers old new ls ms → AllByRecursion (IsHeld old.places.arities) old.places.pieces → AllByRecursion (IsHeld new.places.arities) new.places.pieces
gather_held old new ls ms read held =
    transport (λ a. AllByRecursion (IsHeld a) new.places.pieces) (sym read.arities)
    (all_contained (IsHeld old.places.arities) new.places.pieces
    (λ p there. all_there (IsHeld old.places.arities) old.places.pieces p held (gather_pieces p old new ls ms read there)))

pub agent_is : (a : Word) (s : ℕ) → a.tag ≡ s + 1 → a ≡ agent_word s a.index
agent_is a s e = λ i. record { tag = e i; index = a.index }

-- what holds no waiting word, and no agent, is idle
pub all_idle : (arities : List ℕ) (ps : List Piece) → AllByRecursion (IsHeld arities) ps → ((x u : Word) → ¬ Contains ps (waits x u))
    → ((a : Word) (vs : List Word) → ¬ Contains ps (agent_of a vs)) → AllByRecursion IsIdle ps
all_idle arities ps held no_wait no_agent = all_contained IsIdle ps at
  where
    at : (p : Piece) → Contains ps p → IsIdle p
    at (equated l r) there = all_there (IsHeld arities) ps (equated l r) held there
    at (idle x) there = tt
    at (waits x u) there = no_wait x u there
    at (agent_of a vs) there = no_agent a vs there

pub read_once : (ws : List Word) (old new : Reader) → HasRead ws old new → HoldOnce old.places.pieces → HoldOnce new.places.pieces
read_once ws old new read once w =
    let fewer = steps_fewer old.places.arities (holds w) (at_words ws old) (at_words [] new) read.steps in
    let one = once w in
    omega arith
