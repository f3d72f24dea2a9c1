-- Lemmas: the terms of words, and how often names of places occur.
use Rattle.std.proofs.Common.{◌≡◌, ℕ, suc, ◌+◌, ◌-◌, ◌≤◌, ◌<◌, ◌==◌, List, [], ◌∷◌, ◌++◌, Bool, true, false, cond, Option, None, Some, length, map, slice_get, sum_by, refl, sym, ap, ◌∙◌, eq-eqb, arith, add-one, true≢false as true_false}
use Rattle.std.proofs.lemmas.Bool.{ne_eqb, and_parts}
use Rattle.std.proofs.lemmas.List.Sums.{sum_by-cons}
use Rattle.std.specs.Cmp.{unsigned_Decides}
use Rattle.std.specs.List.{flat_map}
use Rattle.std.specs.Option.{option_map_or}
use Rattle.ic_term.specs.Tree.{name, agent, no_trees, trees_of, names, names_of, Pair, pair_names}
use Rattle.ic_term.specs.Configuration.{occurrences}
use Rattle.ic_settle.specs.lemmas.SubstitutionLaws.{occurrences-append}
use Rattle.ic_settle.specs.lemmas.StepLaws.{itself_once as occurs_once}
use Rattle.ic_arena.specs.declared.word.Word.{Word}
use Rattle.ic_arena.specs.declared.word.TheConstants.{NAME, GIVEN}
use Rattle.ic_arena.specs.Word.{word_eq, count, agent_word}
use Rattle.ic_arena.specs.Piece.{Piece, equated, idle, waits, agent_of, room, uses}
use Rattle.ic_machine.specs.Separate.{is_constant_tag}
use Rattle.ic_meaning.specs.Words.{Numbers, AreNumbers, constant, term}
use Rattle.ic_meaning.specs.Nets.{equations_of, IsAgentOf}
use Rattle.ic_settle.specs.lemmas.PutEach.{names_of-trees_of}

-- ---- words

pub same_word : (v w : Word) → word_eq v w ≡ true → v ≡ w
same_word v w e =
    let both = and_parts (v.tag == w.tag) (v.index == w.index) e in
    let tags = (unsigned_Decides v.tag w.tag).0 both.0 in
    let places = (unsigned_Decides v.index w.index).0 both.1 in
    λ i. record { tag = tags i; index = places i }

pub word_itself : (w : Word) → word_eq w w ≡ true
word_itself w = rw (eq-eqb w.tag w.tag refl, eq-eqb w.index w.index refl) refl

pub name_tag : (arities : List ℕ) (tag : ℕ) → tag ≡ NAME → is_constant_tag arities tag ≡ false
name_tag arities tag e = rw e refl

pub agent_tag : (arities : List ℕ) (tag arity : ℕ) → IsAgentOf arities tag arity → is_constant_tag arities tag ≡ false
agent_tag arities tag arity is =
    ap (is_constant_tag arities) (is.is ∙ add-one is.symbol)
    ∙ (ap (λ (o : Option ℕ). option_map_or (λ k. k == 0) o (suc is.symbol == GIVEN)) is.known
    ∙ ne_eqb arity 0 (λ e. let some = is.some in omega (arith, some, e)))

pub place_term : (n : Numbers) (w : Word) → is_constant_tag n.arities w.tag ≡ false → term n w ≡ name (n.of_place w)
place_term n w e = rw e refl

pub constant_term : (n : Numbers) (s i : ℕ) → AreNumbers n → s < length n.arities → slice_get n.arities s ≡ Some 0
    → term n (agent_word s i) ≡ agent s no_trees
constant_term n s i sound low none =
    let is : is_constant_tag n.arities (s + 1) ≡ true =
    ap (is_constant_tag n.arities) (add-one s) ∙ ap (λ (o : Option ℕ). option_map_or (λ k. k == 0) o (suc s == GIVEN)) none in
    let few = sound.few in
    let other : (s + 1 == GIVEN) ≡ false = ne_eqb (s + 1) GIVEN (λ e. omega (arith, few, low, e)) in
    let symbol : (s + 1) - 1 ≡ s = omega arith in
    rw (is, other, symbol) refl

-- ---- how often the name of a place occurs

pub occurs_not : (n m : ℕ) → (m ≡ n → ⊥) → occurrences n (m ∷ []) ≡ 0
occurs_not n m apart = rw (ne_eqb m n apart) refl

apart_tags : (n : Numbers) (v w : Word) → is_constant_tag n.arities v.tag ≡ true → is_constant_tag n.arities w.tag ≡ false
    → word_eq w v ≡ false
apart_tags n v w first other = at (word_eq w v) refl
  where
    at : (b : Bool) → word_eq w v ≡ b → word_eq w v ≡ false
    at false e = e
    at true e =
        let same = same_word w v e in
        absurd (true_false (sym first ∙ (ap (λ (u : Word). is_constant_tag n.arities u.tag) (sym same) ∙ other)))

constant_names : (n : Numbers) (v w : Word) → AreNumbers n → occurrences (n.of_place w) (names (constant n v)) ≡ 0
constant_names n v w sound = at (v.tag == GIVEN) (slice_get n.given v.index) refl
  where
    at : (b : Bool) (o : Option ℕ) → slice_get n.given v.index ≡ o
        → occurrences (n.of_place w) (names (cond b (option_map_or name (slice_get n.given v.index) (agent (v.tag - 1) no_trees)) (agent (v.tag - 1) no_trees))) ≡ 0
    at false o e = refl
    at true None e = rw e refl
    at true (Some x) e = rw e (occurs_not (n.of_place w) x (λ same. sound.not_given v.index x w e (sym same)))

place_names : (n : Numbers) (v w : Word) → AreNumbers n → occurrences (n.of_place w) (n.of_place v ∷ []) ≡ cond (word_eq w v) 1 0
place_names n v w sound = at (word_eq w v) refl
  where
    at : (b : Bool) → word_eq w v ≡ b → occurrences (n.of_place w) (n.of_place v ∷ []) ≡ cond b 1 0
    at true e = let same = ap n.of_place (same_word w v e) in rw (← same) (occurs_once (n.of_place w))
    at false e = occurs_not (n.of_place w) (n.of_place v) (λ same. true_false (sym (sound.apart w v (sym same)) ∙ e))

-- in a word that is this one
pub word_names : (n : Numbers) (v w : Word) → AreNumbers n → is_constant_tag n.arities w.tag ≡ false
    → occurrences (n.of_place w) (names (term n v)) ≡ cond (word_eq w v) 1 0
word_names n v w sound place = at (is_constant_tag n.arities v.tag) refl
  where
    at : (b : Bool) → is_constant_tag n.arities v.tag ≡ b
        → occurrences (n.of_place w) (names (cond b (constant n v) (name (n.of_place v)))) ≡ cond (word_eq w v) 1 0
    at true e = constant_names n v w sound ∙ ap (λ (b : Bool). cond {A = ℕ} b 1 0) (sym (apart_tags n v w e place))
    at false e = place_names n v w sound

pub words_names : (n : Numbers) (ws : List Word) (w : Word) → AreNumbers n → is_constant_tag n.arities w.tag ≡ false
    → occurrences (n.of_place w) (flat_map names (map (term n) ws)) ≡ count w ws
words_names n [] w sound place = refl
words_names n (v ∷ ws) w sound place =
    let here = word_names n v w sound place in
    let rest = words_names n ws w sound place in
    let parts = occurrences-append (n.of_place w) (names (term n v)) (flat_map names (map (term n) ws)) in
    let counted : count w (v ∷ ws) ≡ cond (word_eq w v) 1 0 + count w ws = sum_by-cons (λ u. cond (word_eq w u) 1 0) v ws in
    omega arith

-- in what a piece says, at most as often as it uses the place and lets it be named
piece_names : (n : Numbers) (p : Piece) (w : Word) → AreNumbers n → is_constant_tag n.arities w.tag ≡ false
    → occurrences (n.of_place w) (flat_map pair_names (equations_of n p)) ≤ uses w p + room w p
piece_names n (equated l r) w sound place =
    let a = word_names n l w sound place in
    let b = word_names n r w sound place in
    let parts = occurrences-append (n.of_place w) (names (term n l)) (names (term n r)) in
    let more = occurrences-append (n.of_place w) (names (term n l) ++ names (term n r)) [] in
    let counted : count w (l ∷ r ∷ []) ≡ cond (word_eq w l) 1 0 + count w (r ∷ []) = sum_by-cons (λ u. cond (word_eq w u) 1 0) l (r ∷ []) in
    omega arith
piece_names n (idle x) w sound place = omega arith
piece_names n (waits x u) w sound place =
    let a = place_names n x w sound in
    let b = word_names n u w sound place in
    let parts = occurrences-append (n.of_place w) (n.of_place x ∷ []) (names (term n u)) in
    let more = occurrences-append (n.of_place w) (n.of_place x ∷ names (term n u)) [] in
    omega arith
piece_names n (agent_of x ws) w sound place =
    let a = place_names n x w sound in
    let b = words_names n ws w sound place in
    let same = ap (occurrences (n.of_place w)) (names_of-trees_of (map (term n) ws)) in
    let parts = occurrences-append (n.of_place w) (n.of_place x ∷ []) (names_of (trees_of (map (term n) ws))) in
    let more = occurrences-append (n.of_place w) (n.of_place x ∷ names_of (trees_of (map (term n) ws))) [] in
    omega arith

pub flat_names : (ps qs : List Pair) → flat_map pair_names (ps ++ qs) ≡ flat_map pair_names ps ++ flat_map pair_names qs
flat_names [] qs = refl
flat_names (p ∷ ps) qs = ap (λ ns. pair_names p ++ ns) (flat_names ps qs) ∙ sym (assoc (pair_names p) (flat_map pair_names ps) (flat_map pair_names qs))
  where
    assoc : (a b c : List ℕ) → (a ++ b) ++ c ≡ a ++ (b ++ c)
    assoc [] b c = refl
    assoc (x ∷ a) b c = ap (λ l. x ∷ l) (assoc a b c)

pub pieces_names : (n : Numbers) (ps : List Piece) (w : Word) → AreNumbers n → is_constant_tag n.arities w.tag ≡ false
    → occurrences (n.of_place w) (flat_map pair_names (flat_map (equations_of n) ps)) ≤ sum_by (uses w) ps + sum_by (room w) ps
pieces_names n [] w sound place = omega arith
pieces_names n (p ∷ ps) w sound place =
    let here = piece_names n p w sound place in
    let rest = pieces_names n ps w sound place in
    let flat = ap (occurrences (n.of_place w)) (flat_names (equations_of n p) (flat_map (equations_of n) ps)) in
    let parts = occurrences-append (n.of_place w) (flat_map pair_names (equations_of n p)) (flat_map pair_names (flat_map (equations_of n) ps)) in
    let u = sum_by-cons (uses w) p ps in
    let r = sum_by-cons (room w) p ps in
    omega arith
