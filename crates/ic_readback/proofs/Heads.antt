-- Lemmas: what the terms that are read begin with.
use Rattle.std.proofs.Common.{◌≡◌, ℕ, ◌+◌, ◌-◌, ◌≤◌, ◌==◌, List, [], ◌∷◌, ◌++◌, Bool, true, false, cond, Some, length, drop, map, slice_index_or, sum_by, refl, sym, ap, ◌∙◌, arith, append_assoc, append-nil, subst as transport}
use Rattle.std.specs.Prelude.{Contains}
use Rattle.std.specs.Cmp.{unsigned_Decides}
use Rattle.std.proofs.lemmas.Bool.{ne_eqb, and_parts}
use Rattle.std.proofs.lemmas.List.{map-append}
use Rattle.std.proofs.lemmas.List.Sums.{sum_by-cons, sum_by-append}
use Rattle.std.proofs.lemmas.Option.{get_or_from_slice_get, slice_get-get_or}
use Rattle.ic_term.specs.Tree.{Tree, name}
use Rattle.ic_arena.specs.declared.word.Word.{Word}
use Rattle.ic_arena.specs.declared.word.TheConstants.{NAME, GIVEN}
use Rattle.ic_arena.specs.Word.{word_eq, count}
use Rattle.ic_arena.specs.Piece.{Piece, equated, idle, waits, agent_of, room, uses}
use Rattle.ic_machine.specs.declared.equation.Equation.{Equation}
use Rattle.ic_machine.specs.Net.{Net, equated_of, pieces}
use Rattle.ic_machine.specs.Separate.{IsSeparate, is_constant_tag}
use Rattle.ic_machine.specs.lemmas.Balance.{equations_room as sides_room}
use Rattle.ic_flat.specs.Words.{forest, IsWhole}
use Rattle.ic_flat.specs.lemmas.WordLaws.{forest-append}
use Rattle.ic_meaning.specs.Words.{Numbers}
use Rattle.ic_meaning.specs.Nets.{IsPiece, ArePieces, AreNetPieces}
use Rattle.ic_readback.specs.declared.token.Token.{Token}
use Rattle.ic_readback.specs.declared.token.Token.TheVariants.{Name, Agent}
use Rattle.ic_readback.specs.Reading.{number_of, flat_word, flat_words, AreGiven, HeadIs, BeginAs, sides_of}
use Rattle.ic_readback.specs.inner.Expanding.{State, state, IsName, Step, follow, opened, plain, named, Steps, no_step, one_more}
use Rattle.ic_readback.proofs.Chains.{contains_cons, contains_first, all_contained, step_pieces}
use Rattle.ic_readback.proofs.Moves.{all_there}
use Rattle.ic_readback.proofs.Words.{balance_step, given_step}
use Rattle.ic_readback.proofs.Ends.{first_state, sides_given}
use Rattle.ic_readback.proofs.Puttings.{equations_in}
use Rattle.ic_readback.specs.inner.Parted.{ReadsNet}
use Rattle.ic_readback.proofs.Results.{with_arities}
use Rattle.ic_readback.proofs.StepNets.{some_first as first_some}
use Rattle.ic_meaning.specs.lemmas.Orders.{all_back}

-- ---- lists

begin_more : (n : Numbers) (ws : List Word) (ts us : List Tree) → BeginAs n ws ts → BeginAs n ws (ts ++ us)
begin_more n [] ts us begin = tt
begin_more n (w ∷ ws) [] us begin = absurd begin
begin_more n (w ∷ ws) (t ∷ ts) us begin = (begin.0, begin_more n ws ts us begin.1)

begin_name : (n : Numbers) (x u : Word) (ws : List Word) (ts : List Tree) → x.tag ≡ NAME → BeginAs n (u ∷ ws) ts → BeginAs n (x ∷ ws) ts
begin_name n x u ws [] tag begin = absurd begin
begin_name n x u ws (t ∷ ts) tag begin = ((λ other. absurd (other tag)), begin.1)

pub begin_after : (n : Numbers) (vs ws : List Word) (ts : List Tree) → BeginAs n (vs ++ ws) ts → (length vs ≤ length ts) × BeginAs n ws (drop (length vs) ts)
begin_after n [] ws ts begin = (omega arith, begin)
begin_after n (v ∷ vs) ws [] begin = absurd begin
begin_after n (v ∷ vs) ws (t ∷ ts) begin =
    let rest = begin_after n vs ws ts begin.1 in
    let low = rest.0 in
    ((let h : length (v ∷ vs) ≤ length (t ∷ ts) = omega arith in h), rest.1)

-- ---- a place that is named has something there

word_same : (v w : Word) → word_eq v w ≡ true → w ≡ v
word_same v w e =
    let both = and_parts (v.tag == w.tag) (v.index == w.index) e in
    let tags = (unsigned_Decides v.tag w.tag).0 both.0 in
    let places = (unsigned_Decides v.index w.index).0 both.1 in
    λ i. record { tag = sym tags i; index = sym places i }

name_apart : (w x : Word) → ¬ (w.tag ≡ NAME) → x.tag ≡ NAME → word_eq w x ≡ false
name_apart w x other tag = rw (ne_eqb w.tag x.tag (λ e. other (e ∙ tag))) refl

agent_there : (arities : List ℕ) (w : Word) (ps : List Piece) → ArePieces arities ps → ¬ (w.tag ≡ NAME) → 1 ≤ sum_by (room w) ps
    → ((vs : List Word) → ¬ Contains ps (agent_of w vs)) → ⊥
agent_there arities w [] are other some nowhere = absurd (omega arith)
agent_there arities w (equated l r ∷ ps) are other some nowhere =
    let parts = sum_by-cons (room w) (equated l r) ps in
    agent_there arities w ps are.1 other (omega arith) (λ vs there. nowhere vs (contains_cons (equated l r) (agent_of w vs) ps there))
agent_there arities w (idle x ∷ ps) are other some nowhere =
    let parts = sum_by-cons (room w) (idle x) ps in
    let zero : ◌≡◌ {A = ℕ} (cond (word_eq w x) 2 0) 0 = rw (name_apart w x other are.0) refl in
    agent_there arities w ps are.1 other (omega arith) (λ vs there. nowhere vs (contains_cons (idle x) (agent_of w vs) ps there))
agent_there arities w (waits x u ∷ ps) are other some nowhere =
    let parts = sum_by-cons (room w) (waits x u) ps in
    let zero : ◌≡◌ {A = ℕ} (cond (word_eq w x) 1 0) 0 = rw (name_apart w x other are.0) refl in
    agent_there arities w ps are.1 other (omega arith) (λ vs there. nowhere vs (contains_cons (waits x u) (agent_of w vs) ps there))
agent_there arities w (agent_of a us ∷ ps) are other some nowhere = at (word_eq w a) refl
    (λ more. agent_there arities w ps are.1 other more (λ vs there. nowhere vs (contains_cons (agent_of a us) (agent_of w vs) ps there)))
  where
    at : (b : Bool) → word_eq w a ≡ b → (1 ≤ sum_by (room w) ps → ⊥) → ⊥
    at true e rest = nowhere us (transport (λ (v : Word). Contains (agent_of a us ∷ ps) (agent_of v us)) (word_same w a e) (contains_first (agent_of a us) ps))
    at false e rest =
        let parts = sum_by-cons (room w) (agent_of a us) ps in
        let zero : ◌≡◌ {A = ℕ} (cond (word_eq w a) 1 0) 0 = rw e refl in
        rest (omega arith)

-- ---- what a state keeps

pub record Kept (n : Numbers) (s : State) : Type 0 where
  pub separate : IsSeparate n.arities s.words s.pieces
  pub are : ArePieces n.arities s.pieces
  pub given : AreGiven n.given s.words s.pieces

pub kept_step : (n : Numbers) (s t : State) → Step n.arities s t → Kept n s → Kept n t
kept_step n s t step kept = record {
  separate = record {
    each = λ w place.
        let before = kept.separate.each w place in
        let b = balance_step n.arities w s t step in
        let more = b.roomy in
        omega arith;
  };
  are = all_contained (IsPiece n.arities) t.pieces (λ p there. all_there (IsPiece n.arities) s.pieces p kept.are (step_pieces n.arities p s t step there));
  given = given_step n.arities n.given s t step kept.given;
}

head_of_name : (n : Numbers) (ts : List Token) (w : Word) (ws : List Word) (ps : List Piece) → IsName n.arities ps w → Kept n (state ts (w ∷ ws) ps) → ¬ (w.tag ≡ NAME)
    → HeadIs n w (name (number_of n w))
head_of_name n ts w ws ps is kept other = at (is_constant_tag n.arities w.tag) refl
  where
    at : (b : Bool) → is_constant_tag n.arities w.tag ≡ b → HeadIs n w (name (number_of n w))
    at true e =
        let tag = is.given e in
        let some = first_some w ws in
        let low = kept.given w tag (omega arith) in
        let number : number_of n w ≡ slice_index_or n.given w.index 0 = rw ((unsigned_Decides w.tag GIVEN).1 tag) refl in
        (tag, slice_get-get_or n.given w.index 0 low ∙ ap Some (sym number))
    at false e =
        let some = first_some w ws in
        let few = kept.separate.each w e in
        absurd (agent_there n.arities w ps kept.are other (omega arith) (is.agent_not other))

-- ---- the terms of words

pub record Written (n : Numbers) (s t : State) : Type 0 where
  pub more : List Token
  pub tokens : t.tokens ≡ s.tokens ++ more
  pub whole : IsWhole (flat_words n more)
  pub begin : BeginAs n s.words (forest (flat_words n more))

written_first : (n : Numbers) (a b t : State) → Step n.arities a b → Kept n a → Written n b t → Written n a t
written_first n a b t (follow ts x u ws ps qs tag taken) kept rest = record {
  more = rest.more;
  tokens = rest.tokens;
  whole = rest.whole;
  begin = begin_name n x u ws (forest (flat_words n rest.more)) tag rest.begin;
}
written_first n a b t (opened ts x vs ws ps qs is taken) kept rest =
    let s : ℕ = x.tag - 1 in
    let F : List Tree = forest (flat_words n rest.more) in
    let symbol : s ≡ is.symbol = (let e = is.is in omega arith) in
    let arity : slice_index_or n.arities s 0 ≡ length vs =
    ap (λ (k : ℕ). slice_index_or n.arities k 0) symbol ∙ get_or_from_slice_get n.arities is.symbol (length vs) 0 is.known in
    let after = begin_after n vs ws F rest.begin in
    let enough = after.0 in
    let there : slice_index_or n.arities s 0 ≤ length F = omega arith in
    let tag : x.tag ≡ s + 1 = (let e = is.is in omega arith) in
    record {
      more = Agent s ∷ rest.more;
      tokens = rest.tokens ∙ append_assoc ts (Agent s ∷ []) rest.more;
      whole = (there, rest.whole);
      begin = ((λ other. tag), transport (λ (k : ℕ). BeginAs n ws (drop k F)) (sym arity) after.1);
    }
written_first n a b t (plain ts k w ws ps tag known) kept rest =
    let F : List Tree = forest (flat_words n rest.more) in
    let arity : slice_index_or n.arities k 0 ≡ 0 = get_or_from_slice_get n.arities k 0 0 known in
    record {
      more = Agent k ∷ rest.more;
      tokens = rest.tokens ∙ append_assoc ts (Agent k ∷ []) rest.more;
      whole = ((let h : slice_index_or n.arities k 0 ≤ length F = omega arith in h), rest.whole);
      begin = ((λ other. tag), transport (λ (k : ℕ). BeginAs n ws (drop k F)) (sym arity) rest.begin);
    }
written_first n a b t (named ts w ws ps is) kept rest = record {
  more = Name w ∷ rest.more;
  tokens = rest.tokens ∙ append_assoc ts (Name w ∷ []) rest.more;
  whole = (omega arith, rest.whole);
  begin = (head_of_name n ts w ws ps is kept, rest.begin);
}

pub written : (n : Numbers) (s t : State) → Steps n.arities s t → t.words ≡ [] → Kept n s → Written n s t
written n s t (no_step a) empty kept = record {
  more = [];
  tokens = sym (append-nil a.tokens);
  whole = tt;
  begin = transport (λ l. BeginAs n l []) (sym empty) tt;
}
written n s t (one_more a b c first rest) empty kept = written_first n a b c first kept (written n b c rest empty (kept_step n a b first kept))

-- ---- the first state

sides_used : (w : Word) (es : List Equation) → sum_by (uses w) (map equated_of es) ≡ count w (sides_of es)
sides_used w [] = refl
sides_used w (e ∷ es) =
    let a = sum_by-cons (uses w) (equated_of e) (map equated_of es) in
    let b = sum_by-append (λ v. cond (word_eq w v) 1 0) (e.left ∷ e.right ∷ []) (sides_of es) in
    let rest = sides_used w es in
    omega arith

pub first_kept : (n : Numbers) (is : List Word) (es fs : List Equation) (ps : List Piece) → AreNetPieces n.arities is (map equated_of es ++ (map equated_of fs ++ ps))
    → AreGiven n.given is (map equated_of es ++ (map equated_of fs ++ ps)) → Kept n (first_state is es fs ps)
first_kept n is es fs ps are given = record {
  separate = record { each = apart };
  are = all_back (IsPiece n.arities) (map equated_of fs) ps (all_back (IsPiece n.arities) (map equated_of es) (map equated_of fs ++ ps) are.each);
  given = sides_given n.given is es fs ps given;
}
  where
    apart : (w : Word) → is_constant_tag n.arities w.tag ≡ false → count w (is ++ (sides_of es ++ sides_of fs)) + sum_by (uses w) ps ≤ sum_by (room w) ps
    apart w place =
        let few = are.separate.each w place in
        let a = sum_by-append (λ v. cond (word_eq w v) 1 0) is (sides_of es ++ sides_of fs) in
        let b = sum_by-append (λ v. cond (word_eq w v) 1 0) (sides_of es) (sides_of fs) in
        let c = sum_by-append (uses w) (map equated_of es) (map equated_of fs ++ ps) in
        let d = sum_by-append (uses w) (map equated_of fs) ps in
        let e = sides_used w es in
        let f = sides_used w fs in
        let g = sum_by-append (room w) (map equated_of es) (map equated_of fs ++ ps) in
        let h = sum_by-append (room w) (map equated_of fs) ps in
        let i = sides_room w es in
        let j = sides_room w fs in
        omega arith

pub result_heads : (m : Net) (ts : List Token) (k : ℕ) → ReadsNet m.arities m ts k → (n : Numbers) → n.arities ≡ m.arities → AreNetPieces n.arities m.interface (pieces m)
    → AreGiven n.given m.interface (pieces m) → BeginAs n (m.interface ++ (sides_of m.pending ++ sides_of m.aside)) (forest (flat_words n ts))
result_heads m ts k reads n same are given =
    let r = with_arities m ts k n same reads in
    let words : List Word = m.interface ++ (sides_of m.pending ++ sides_of m.aside) in
    let s : State = first_state m.interface m.pending m.aside m.places in
    let w : Written n s (state r.roots [] r.between) = written n s (state r.roots [] r.between) r.steps refl (first_kept n m.interface m.pending m.aside m.places are given) in
    let more : List Token = equations_in r.done in
    let tokens : flat_words n ts ≡ flat_words n w.more ++ flat_words n more =
    ap (flat_words n) (r.tokens ∙ ap (λ l. l ++ more) w.tokens) ∙ map-append (flat_word n) w.more more in
    transport (λ l. BeginAs n words (forest l)) (sym tokens)
    (transport (BeginAs n words) (sym (forest-append (flat_words n w.more) (flat_words n more) w.whole))
    (begin_more n words (forest (flat_words n w.more)) (forest (flat_words n more)) w.begin))
