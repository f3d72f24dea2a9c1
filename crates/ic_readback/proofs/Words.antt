-- Lemmas: the terms of words that are put together.
use Rattle.std.proofs.Common.{◌≡◌, ℕ, suc, ◌+◌, ◌-◌, ◌≤◌, ◌<◌, ◌==◌, List, [], ◌∷◌, ◌++◌, Bool, true, false, cond, Option, Some, length, map, slice_get, slice_index_or, sum_by, refl, sym, ap, ◌∙◌, arith, add-one, subst as transport, true≢false as true_false}
use Rattle.std.proofs.lemmas.Bool.{ne_eqb}
use Rattle.std.proofs.lemmas.List.{length-append, length-drop, length-map, map-append}
use Rattle.std.proofs.lemmas.List.Sums.{sum_by-cons, sum_by-append}
use Rattle.std.proofs.lemmas.List.Sorted.{sum_by-IsPermutation}
use Rattle.std.proofs.lemmas.Option.{slice_get_within, slice_get_past, slice_get-get_or, get_or_from_slice_get}
use Rattle.std.specs.Cmp.{unsigned_Decides}
use Rattle.std.specs.Option.{option_map_or}
use Rattle.ic_term.specs.Tree.{Tree, name, agent, no_trees}
use Rattle.ic_arena.specs.declared.word.Word.{Word}
use Rattle.ic_arena.specs.declared.word.TheConstants.{GIVEN}
use Rattle.ic_arena.specs.Word.{word_eq, count}
use Rattle.ic_arena.specs.Piece.{Piece, waits, agent_of, room, uses}
use Rattle.ic_machine.specs.Separate.{is_constant_tag}
use Rattle.ic_flat.specs.declared.word.Word.{Word as FlatWord}
use Rattle.ic_flat.specs.declared.word.Word.TheVariants.{Name as FlatName, Agent as FlatAgent}
use Rattle.ic_flat.specs.Words.{arguments, with_word}
use Rattle.ic_meaning.specs.Words.{Numbers, constant, term}
use Rattle.ic_readback.specs.declared.token.Token.TheVariants.{Name, Agent}
use Rattle.ic_readback.specs.Reading.{number_of, flat_word, flat_words, AreGiven}
use Rattle.ic_readback.specs.inner.Expanding.{State, Step, follow, opened, plain, named, Steps, no_step, one_more}
use Rattle.ic_readback.specs.lemmas.Rows.{over, WholeOver, over-append, whole-append, length-over, whole-over}

-- the terms of a state in a row
abbrev pub row : Numbers → State → List Tree
row n s = over (flat_words n s.tokens) (map (term n) s.words)

-- ---- tags

pub plain_tag : (arities : List ℕ) (tag s : ℕ) → tag ≡ s + 1 → slice_get arities s ≡ Some 0 → is_constant_tag arities tag ≡ true
plain_tag arities tag s e known =
    ap (is_constant_tag arities) (e ∙ add-one s) ∙ ap (λ (o : Option ℕ). option_map_or (λ k. k == 0) o (suc s == GIVEN)) known

pub plain_term : (n : Numbers) (w : Word) (s : ℕ) → length n.arities < GIVEN → w.tag ≡ s + 1 → slice_get n.arities s ≡ Some 0 → term n w ≡ agent s no_trees
plain_term n w s few tag known =
    let is = plain_tag n.arities w.tag s tag known in
    let low = slice_get_within n.arities s 0 known in
    let other : (w.tag == GIVEN) ≡ false = ne_eqb w.tag GIVEN (λ e. omega (arith, few, low, e, tag)) in
    let symbol : w.tag - 1 ≡ s = omega arith in
    rw (is, other, symbol) refl

-- a symbol past all known ones is none
unknown_tag : (arities : List ℕ) → length arities < GIVEN → is_constant_tag arities GIVEN ≡ true
unknown_tag arities few =
    ap (λ (o : Option ℕ). option_map_or (λ k. k == 0) o true) (slice_get_past arities (GIVEN - 1) (omega (arith, few)))

-- a word that is written by itself is a name
pub named_term : (n : Numbers) (w : Word) → length n.arities < GIVEN → (is_constant_tag n.arities w.tag ≡ true → w.tag ≡ GIVEN) → (w.tag ≡ GIVEN → w.index < length n.given)
    → term n w ≡ name (number_of n w)
named_term n w few only within = at (w.tag == GIVEN) refl (is_constant_tag n.arities w.tag) refl
  where
    at : (b : Bool) → (w.tag == GIVEN) ≡ b → (c : Bool) → is_constant_tag n.arities w.tag ≡ c
        → cond c (constant n w) (name (n.of_place w)) ≡ name (cond b (slice_index_or n.given w.index 0) (n.of_place w))
    at true e true f =
        let tag = (unsigned_Decides w.tag GIVEN).0 e in
        let found = slice_get-get_or n.given w.index 0 (within tag) in
        rw (e, found) refl
    at true e false f =
        let tag = (unsigned_Decides w.tag GIVEN).0 e in
        absurd (true_false (sym (ap (is_constant_tag n.arities) tag ∙ unknown_tag n.arities few) ∙ f))
    at false e true f = absurd (true_false (sym ((unsigned_Decides w.tag GIVEN).1 (only f)) ∙ e))
    at false e false f = refl

-- ---- a token is written in the place of a word

-- as many terms are there, and each agent has its arguments
write_one : (W : List FlatWord) (f : FlatWord) (xs ys : List Tree) (y : Tree) → arguments f ≡ length xs → WholeOver W (y ∷ ys)
    → WholeOver (W ++ f ∷ []) (xs ++ ys) × (length (over (W ++ f ∷ []) (xs ++ ys)) ≡ length (over W (y ∷ ys)))
write_one W f xs ys y arity whole =
    let counted = length-append xs ys in
    let there : arguments f ≤ length (xs ++ ys) = omega arith in
    let as_many : length (y ∷ ys) ≡ length (with_word f (xs ++ ys)) = one_term f (xs ++ ys) (length ys) (omega arith) in
    let written = over-append W (f ∷ []) (xs ++ ys) in
    let first = whole-over W (y ∷ ys) (with_word f (xs ++ ys)) as_many whole in
    (whole-append W (f ∷ []) (xs ++ ys) first (there, tt), ap length written ∙ sym (length-over W (y ∷ ys) (with_word f (xs ++ ys)) as_many))
  where
    one_term : (f : FlatWord) (ts : List Tree) (k : ℕ) → length ts ≡ arguments f + k → suc k ≡ length (with_word f ts)
    one_term (FlatName m) ts k e = omega arith
    one_term (FlatAgent s a) ts k e = let rest = length-drop a ts in omega arith

pub whole_step : (n : Numbers) (s t : State) → Step n.arities s t → WholeOver (flat_words n s.tokens) (map (term n) s.words)
    → WholeOver (flat_words n t.tokens) (map (term n) t.words) × (length (row n t) ≡ length (row n s))
whole_step n s t (follow ts x u ws ps qs tag taken) whole =
    let W : List FlatWord = flat_words n ts in
    let T : List Tree = map (term n) ws in
    (whole-over W (term n x ∷ T) (term n u ∷ T) refl whole, length-over W (term n u ∷ T) (term n x ∷ T) refl)
whole_step n s t (opened ts a vs ws ps qs is taken) whole =
    let W : List FlatWord = flat_words n ts in
    let f : FlatWord = flat_word n (Agent (a.tag - 1)) in
    let symbol : a.tag - 1 ≡ is.symbol = (let e = is.is in omega arith) in
    let arity : arguments f ≡ length (map (term n) vs) =
    ap (λ (k : ℕ). slice_index_or n.arities k 0) symbol ∙ (get_or_from_slice_get n.arities is.symbol (length vs) 0 is.known ∙ sym (length-map vs (term n))) in
    let one = write_one W f (map (term n) vs) (map (term n) ws) (term n a) arity whole in
    let tokens = map-append (flat_word n) ts (Agent (a.tag - 1) ∷ []) in
    let words = map-append (term n) vs ws in
    (transport2 (λ v l. WholeOver v l) (sym tokens) (sym words) one.0, (λ i. length (over (tokens i) (words i))) ∙ one.1)
  where
    transport2 : {A B : Type 0} (P : A → B → Type 0) {a b : A} {c d : B} → a ≡ b → c ≡ d → P a c → P b d
    transport2 P {a = a} {d = d} e f p = transport (λ x. P x d) e (transport (P a) f p)
whole_step n s t (plain ts k w ws ps tag known) whole =
    let one = write_one (flat_words n ts) (flat_word n (Agent k)) [] (map (term n) ws) (term n w) (get_or_from_slice_get n.arities k 0 0 known) whole in
    let tokens = map-append (flat_word n) ts (Agent k ∷ []) in
    (transport (λ v. WholeOver v (map (term n) ws)) (sym tokens) one.0, (λ i. length (over (tokens i) (map (term n) ws))) ∙ one.1)
whole_step n s t (named ts w ws ps is) whole =
    let one = write_one (flat_words n ts) (flat_word n (Name w)) [] (map (term n) ws) (term n w) refl whole in
    let tokens = map-append (flat_word n) ts (Name w ∷ []) in
    (transport (λ v. WholeOver v (map (term n) ws)) (sym tokens) one.0, (λ i. length (over (tokens i) (map (term n) ws))) ∙ one.1)

pub whole_steps : (n : Numbers) (s t : State) → Steps n.arities s t → WholeOver (flat_words n s.tokens) (map (term n) s.words)
    → WholeOver (flat_words n t.tokens) (map (term n) t.words) × (length (row n t) ≡ length (row n s))
whole_steps n s t (no_step a) whole = (whole, refl)
whole_steps n s t (one_more a b c first rest) whole =
    let here = whole_step n a b first whole in
    let later = whole_steps n b c rest here.0 in
    (later.0, later.1 ∙ here.1)

-- ---- what words and pieces name

-- no word is named more often, and no place loses more room than it is named less
pub record Balances (w : Word) (s t : State) : Type 0 where
  pub named_less : count w t.words + sum_by (uses w) t.pieces ≤ count w s.words + sum_by (uses w) s.pieces
  pub roomy : (count w t.words + sum_by (uses w) t.pieces) + sum_by (room w) s.pieces ≤ (count w s.words + sum_by (uses w) s.pieces) + sum_by (room w) t.pieces

pub balance_step : (arities : List ℕ) (w : Word) (s t : State) → Step arities s t → Balances w s t
balance_step arities w s t (follow ts x u ws ps qs tag taken) =
    let p : Piece = waits x u in
    let a = sum_by-IsPermutation (uses w) ps (p ∷ qs) taken in
    let b = sum_by-IsPermutation (room w) ps (p ∷ qs) taken in
    let c = sum_by-cons (uses w) p qs in
    let d = sum_by-cons (room w) p qs in
    let e = sum_by-cons (λ v. cond (word_eq w v) 1 0) x ws in
    let f = sum_by-cons (λ v. cond (word_eq w v) 1 0) u ws in
    record { named_less = omega arith; roomy = omega arith }
balance_step arities w s t (opened ts x vs ws ps qs is taken) =
    let p : Piece = agent_of x vs in
    let a = sum_by-IsPermutation (uses w) ps (p ∷ qs) taken in
    let b = sum_by-IsPermutation (room w) ps (p ∷ qs) taken in
    let c = sum_by-cons (uses w) p qs in
    let d = sum_by-cons (room w) p qs in
    let e = sum_by-cons (λ v. cond (word_eq w v) 1 0) x ws in
    let f = sum_by-append (λ v. cond (word_eq w v) 1 0) vs ws in
    record { named_less = omega arith; roomy = omega arith }
balance_step arities w s t (plain ts k v ws ps tag known) =
    let e = sum_by-cons (λ v. cond (word_eq w v) 1 0) v ws in
    record { named_less = omega arith; roomy = omega arith }
balance_step arities w s t (named ts v ws ps is) =
    let e = sum_by-cons (λ v. cond (word_eq w v) 1 0) v ws in
    record { named_less = omega arith; roomy = omega arith }

pub given_step : (arities given : List ℕ) (s t : State) → Step arities s t → AreGiven given s.words s.pieces → AreGiven given t.words t.pieces
given_step arities given s t step are w tag some =
    let b = balance_step arities w s t step in
    let fewer = b.named_less in
    are w tag (omega arith)
