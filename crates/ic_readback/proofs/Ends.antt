-- Lemmas: what is read in the end.
use Rattle.std.proofs.Common.{◌≡◌, ℕ, ◌+◌, ◌*◌, ◌-◌, ◌≤◌, ◌<◌, List, [], ◌∷◌, ◌++◌, cond, length, map, take, drop, sum_by, slice_index_or, refl, sym, ap, ◌∙◌, arith, append_assoc, subst as transport}
use Rattle.std.specs.List.{flat_map, AllByRecursion}
use Rattle.std.specs.Prelude.{IsPermutation}
use Rattle.std.proofs.lemmas.Bool.{ne_eqb}
use Rattle.std.proofs.lemmas.List.{length-append, length-map, map-append, append-nil, take_at, drop_at}
use Rattle.std.proofs.lemmas.List.Concat.{flat_map-append}
use Rattle.std.proofs.lemmas.List.Sums.{sum_by-cons, sum_by-append}
use Rattle.std.proofs.lemmas.List.Sorted.{sum_by-IsPermutation}
use Rattle.std.proofs.lemmas.Option.{get_or_from_slice_get, slice_get_within}
use Rattle.ic_term.specs.Tree.{Tree, name, agent, trees_of, Pair}
use Rattle.ic_term.specs.Configuration.{Configuration}
use Rattle.ic_round.specs.Naming.{HasNames}
use Rattle.ic_reaching.specs.OneNet.{OneNet}
use Rattle.ic_arena.specs.declared.word.Word.{Word}
use Rattle.ic_arena.specs.declared.word.TheConstants.{GIVEN}
use Rattle.ic_arena.specs.Word.{word_eq, count}
use Rattle.ic_arena.specs.Piece.{Piece, idle, waits, agent_of, uses}
use Rattle.ic_machine.specs.declared.equation.Equation.{Equation}
use Rattle.ic_machine.specs.Net.{equated_of}
use Rattle.ic_flat.specs.declared.word.Word.{Word as FlatWord}
use Rattle.ic_flat.specs.Words.{forest, with_word}
use Rattle.ic_flat.specs.Flat.{pairs_of}
use Rattle.ic_meaning.specs.Words.{Numbers, term}
use Rattle.ic_meaning.specs.Nets.{equations_of, net_of, holds, IsAgentOf}
use Rattle.ic_meaning.specs.lemmas.Orders.{flat_order}
use Rattle.ic_readback.specs.declared.token.Token.{Token}
use Rattle.ic_readback.specs.declared.token.Token.TheVariants.{Name, Agent}
use Rattle.ic_readback.specs.Reading.{number_of, flat_word, flat_words, configuration_read, AreGiven, sides_of}
use Rattle.ic_readback.specs.inner.Expanding.{State, state, Steps, no_step, one_more, Left, none, circle, alone, IsIdle}
use Rattle.ic_readback.specs.lemmas.Given.{NetLaws}
use Rattle.ic_readback.specs.lemmas.Rows.{over, WholeOver, over-nil, over-append, whole-append, over-more, over-agent, pairs-more}
use Rattle.ic_readback.specs.lemmas.RowNets.{net_of_row, row_of_piece, to_configured}
use Rattle.ic_readback.proofs.Words.{row, whole_steps, given_step}
use Rattle.ic_readback.proofs.StepNets.{net_at, named_row, net_steps}

-- ---- what is left becomes equations

pub given_steps : (arities given : List ℕ) (s t : State) → Steps arities s t → AreGiven given s.words s.pieces → AreGiven given t.words t.pieces
given_steps arities given s t (no_step a) are = are
given_steps arities given s t (one_more a b c first rest) are = given_steps arities given b c rest (given_step arities given a b first are)

pub whole-more : (ws : List FlatWord) (ts us : List Tree) → WholeOver ws ts → WholeOver ws (ts ++ us)
whole-more [] ts us whole = tt
whole-more (w ∷ ws) ts us whole =
    (let more = ap length (over-more ws ts us whole.1) ∙ length-append (over ws ts) us in let there = whole.0 in omega arith, whole-more ws ts us whole.1)

-- the tokens of a state write whole terms, so many and two for each equation
pub record IsRow (n : Numbers) (terms k : ℕ) (s : State) : Type 0 where
  pub whole : WholeOver (flat_words n s.tokens) (map (term n) s.words)
  pub even : length (row n s) ≡ terms + 2 * k

-- the state in which a piece that is left has become an equation of a name and a term that is to be put together
pub record Begun (n : Numbers) (x : ℕ) (t : Tree) (s m : State) : Type 0 where
  pub whole : WholeOver (flat_words n m.tokens) (map (term n) m.words)
  pub row_is : row n m ≡ row n s ++ name x ∷ t ∷ []

place_number : (n : Numbers) (w : Word) → ¬ (w.tag ≡ GIVEN) → number_of n w ≡ n.of_place w
place_number n w other = rw (ne_eqb w.tag GIVEN other) refl

circle_begun : (n : Numbers) (ts : List Token) (x u : Word) (ps qs : List Piece) → WholeOver (flat_words n ts) []
    → Begun n (number_of n x) (term n u) (state ts [] ps) (state (ts ++ Name x ∷ []) (u ∷ []) qs)
circle_begun n ts x u ps qs whole =
    let W : List FlatWord = flat_words n ts in
    let f : FlatWord = flat_word n (Name x) in
    let T : List Tree = term n u ∷ [] in
    let tokens = map-append (flat_word n) ts (Name x ∷ []) in
    let first = whole-more W [] (name (number_of n x) ∷ T) whole in
    let all : WholeOver (W ++ f ∷ []) T = whole-append W (f ∷ []) T first (omega arith, tt) in
    record {
      whole = transport (λ v. WholeOver v T) (sym tokens) all;
      row_is = named_row n ts x T ∙ over-more W [] (name (number_of n x) ∷ T) whole;
    }

agent_begun : (n : Numbers) (ts : List Token) (a : Word) (vs : List Word) (ps qs : List Piece) → IsAgentOf n.arities a.tag (length vs) → WholeOver (flat_words n ts) []
    → Begun n (number_of n a) (agent (a.tag - 1) (trees_of (map (term n) vs))) (state ts [] ps) (state (ts ++ Name a ∷ Agent (a.tag - 1) ∷ []) vs qs)
agent_begun n ts a vs ps qs is whole =
    let s : ℕ = a.tag - 1 in
    let W : List FlatWord = flat_words n ts in
    let f : FlatWord = flat_word n (Name a) in
    let g : FlatWord = flat_word n (Agent s) in
    let V : List Tree = map (term n) vs in
    let t : Tree = agent s (trees_of V) in
    let symbol : s ≡ is.symbol = (let e = is.is in omega arith) in
    let arity : slice_index_or n.arities s 0 ≡ length V =
    ap (λ (k : ℕ). slice_index_or n.arities k 0) symbol ∙ (get_or_from_slice_get n.arities is.symbol (length vs) 0 is.known ∙ sym (length-map vs (term n))) in
    let tokens = map-append (flat_word n) ts (Name a ∷ Agent s ∷ []) in
    let taken : with_word g V ≡ t ∷ [] =
    ap (with_word g) (sym (append-nil V)) ∙ over-agent s (slice_index_or n.arities s 0) V [] (sym arity) in
    let named : over (f ∷ g ∷ []) V ≡ name (number_of n a) ∷ t ∷ [] = ap (λ l. name (number_of n a) ∷ l) taken in
    let first : WholeOver W (over (f ∷ g ∷ []) V) = transport (λ l. WholeOver W l) (sym named) (whole-more W [] (name (number_of n a) ∷ t ∷ []) whole) in
    let all : WholeOver (W ++ f ∷ g ∷ []) V = whole-append W (f ∷ g ∷ []) V first (omega arith, (omega arith, tt)) in
    record {
      whole = transport (λ v. WholeOver v V) (sym tokens) all;
      row_is = ap (λ l. over l V) tokens ∙ (over-append W (f ∷ g ∷ []) V ∙ (ap (over W) named ∙ over-more W [] (name (number_of n a) ∷ t ∷ []) whole));
    }

pub agent_not_given : (arities : List ℕ) (tag k : ℕ) → length arities < GIVEN → IsAgentOf arities tag k → ¬ (tag ≡ GIVEN)
agent_not_given arities tag k few is same =
    let known = slice_get_within arities is.symbol k is.known in
    let e = is.is in
    absurd (omega arith)

place_begun : (n : Numbers) (w : Word) (t : Tree) (s m : State) → ¬ (w.tag ≡ GIVEN) → Begun n (number_of n w) t s m → Begun n (n.of_place w) t s m
place_begun n w t s m other begun = transport (λ (k : ℕ). Begun n k t s m) (place_number n w other) begun

pub left_whole : (n : Numbers) (terms k j : ℕ) (s t : State) → Left n.arities j s t → s.words ≡ [] → IsRow n terms k s → IsRow n terms (k + j) t
left_whole n terms k j s t (none a) empty is = record { whole = is.whole; even = (let e = is.even in omega arith) }
left_whole n terms k j s t (circle i a ts us x u ps qs rs before tag taken steps) empty is =
    let first = left_whole n terms k i a (state ts [] ps) before empty is in
    let begun = circle_begun n ts x u ps qs first.whole in
    let m : State = state (ts ++ Name x ∷ []) (u ∷ []) qs in
    let all = whole_steps n m (state us [] rs) steps begun.whole in
    let two = ap length begun.row_is ∙ length-append (row n (state ts [] ps)) (name (number_of n x) ∷ term n u ∷ []) in
    let long = all.1 in
    let even = first.even in
    record { whole = all.0; even = omega arith }
left_whole n terms k j s t (alone i a ts us x vs ps qs rs before of taken steps) empty is =
    let first = left_whole n terms k i a (state ts [] ps) before empty is in
    let begun = agent_begun n ts x vs ps qs of first.whole in
    let m : State = state (ts ++ Name x ∷ Agent (x.tag - 1) ∷ []) vs qs in
    let all = whole_steps n m (state us [] rs) steps begun.whole in
    let two = ap length begun.row_is ∙ length-append (row n (state ts [] ps)) (name (number_of n x) ∷ agent (x.tag - 1) (trees_of (map (term n) vs)) ∷ []) in
    let long = all.1 in
    let even = first.even in
    record { whole = all.0; even = omega arith }

pub given_piece : (given : List ℕ) (p : Piece) (ws : List Word) (ps qs : List Piece) → ((w : Word) → count w ws ≤ uses w p) → IsPermutation ps (p ∷ qs)
    → AreGiven given [] ps → AreGiven given ws qs
given_piece given p ws ps qs inside taken are w tag some =
    let a = sum_by-IsPermutation (uses w) ps (p ∷ qs) taken in
    let b = sum_by-cons (uses w) p qs in
    let less = inside w in
    are w tag (omega arith)

-- what is left, together with what is said of given names
pub record LeftNet (n : Numbers) (terms next : ℕ) (s t : State) : Type 0 where
  pub net : OneNet (net_at n terms s next) (net_at n terms t next)
  pub given : AreGiven n.given t.words t.pieces

left_one : NetLaws → (n : Numbers) (terms k next : ℕ) (x : ℕ) (t : Tree) (ps qs : List Piece) (ts : List Token) (m u : State) → length n.arities < GIVEN
    → m.pieces ≡ qs → IsPermutation (flat_map (equations_of n) ps) (record { left = name x; right = t } ∷ flat_map (equations_of n) qs)
    → IsRow n terms k (state ts [] ps) → HasNames (net_at n terms (state ts [] ps) next) → Begun n x t (state ts [] ps) m
    → AreGiven n.given m.words m.pieces → Steps n.arities m u → LeftNet n terms next (state ts [] ps) u
left_one laws n terms k next x t ps qs ts m u few same moved is has begun given steps =
    let s : State = state ts [] ps in
    let es : List Pair = flat_map (equations_of n) ps in
    let fs : List Pair = flat_map (equations_of n) qs in
    let c : Configuration = net_at n terms s next in
    let first : OneNet c (net_of_row terms (row n s ++ name x ∷ t ∷ []) fs next) = row_of_piece laws terms k x next t (row n s) es fs is.even has moved in
    let there : OneNet c (net_at n terms m next) =
    transport (λ r. OneNet c (net_of_row terms r (flat_map (equations_of n) m.pieces) next)) (sym begun.row_is)
    (transport (λ l. OneNet c (net_of_row terms (row n s ++ name x ∷ t ∷ []) (flat_map (equations_of n) l) next)) (sym same) first) in
    let two = ap length begun.row_is ∙ length-append (row n s) (name x ∷ t ∷ []) in
    let even = is.even in
    let long : length (row n m) ≡ terms + 2 * (k + 1) = omega arith in
    let later = net_steps laws n terms (k + 1) next m u few given steps begun.whole long there.names_too in
    record {
      net = laws.through c (net_at n terms m next) (net_at n terms u next) there later;
      given = given_steps n.arities n.given m u steps given;
    }

pub left_net : NetLaws → (n : Numbers) (terms k next j : ℕ) (s t : State) → length n.arities < GIVEN → AreGiven n.given s.words s.pieces → Left n.arities j s t → s.words ≡ []
    → IsRow n terms k s → HasNames (net_at n terms s next) → LeftNet n terms next s t
left_net laws n terms k next j s t few given (none a) empty is has = record { net = laws.itself (net_at n terms a next) has; given = given }
left_net laws n terms k next j s t few given (circle i a ts us x u ps qs rs before tag taken steps) empty is has =
    let first = left_net laws n terms k next i a (state ts [] ps) few given before empty is has in
    let kept = left_whole n terms k i a (state ts [] ps) before empty is in
    let m : State = state (ts ++ Name x ∷ []) (u ∷ []) qs in
    let begun = place_begun n x (term n u) (state ts [] ps) m (λ e. absurd (omega (arith, tag, e))) (circle_begun n ts x u ps qs kept.whole) in
    let one = left_one laws n terms (k + i) next (n.of_place x) (term n u) ps qs ts m (state us [] rs) few refl (flat_order (equations_of n) ps (waits x u ∷ qs) taken)
    kept first.net.names_too begun (given_piece n.given (waits x u) (u ∷ []) ps qs (λ w. omega arith) taken first.given) steps in
    record { net = laws.through (net_at n terms a next) (net_at n terms (state ts [] ps) next) (net_at n terms (state us [] rs) next) first.net one.net; given = one.given }
left_net laws n terms k next j s t few given (alone i a ts us x vs ps qs rs before of taken steps) empty is has =
    let first = left_net laws n terms k next i a (state ts [] ps) few given before empty is has in
    let kept = left_whole n terms k i a (state ts [] ps) before empty is in
    let m : State = state (ts ++ Name x ∷ Agent (x.tag - 1) ∷ []) vs qs in
    let begun = place_begun n x (agent (x.tag - 1) (trees_of (map (term n) vs))) (state ts [] ps) m (agent_not_given n.arities x.tag (length vs) few of)
    (agent_begun n ts x vs ps qs of kept.whole) in
    let one = left_one laws n terms (k + i) next (n.of_place x) (agent (x.tag - 1) (trees_of (map (term n) vs))) ps qs ts m (state us [] rs) few refl
    (flat_order (equations_of n) ps (agent_of x vs ∷ qs) taken)
    kept first.net.names_too begun (given_piece n.given (agent_of x vs) vs ps qs (λ w. omega arith) taken first.given) steps in
    record { net = laws.through (net_at n terms a next) (net_at n terms (state ts [] ps) next) (net_at n terms (state us [] rs) next) first.net one.net; given = one.given }

-- ---- the words of a machine

pub sides_long : (es : List Equation) → length (sides_of es) ≡ 2 * length es
sides_long [] = refl
sides_long (e ∷ es) = omega (arith, sides_long es)

pairs_of_sides : (n : Numbers) (es : List Equation) → pairs_of (map (term n) (sides_of es)) ≡ flat_map (equations_of n) (map equated_of es)
pairs_of_sides n [] = refl
pairs_of_sides n (e ∷ es) = ap (λ l. record { left = term n e.left; right = term n e.right } ∷ l) (pairs_of_sides n es)

abbrev pub first_state : List Word → List Equation → List Equation → List Piece → State
first_state is es fs ps = state [] (is ++ (sides_of es ++ sides_of fs)) ps

first_counted : (n : Numbers) (is : List Word) (es fs : List Equation) (ps : List Piece) → length (row n (first_state is es fs ps)) ≡ length is + 2 * (length es + length fs)
first_counted n is es fs ps =
    let a = length-map (is ++ (sides_of es ++ sides_of fs)) (term n) in
    let b = length-append is (sides_of es ++ sides_of fs) in
    let c = length-append (sides_of es) (sides_of fs) in
    let d = sides_long es in
    let e = sides_long fs in
    omega arith

pub first_row : (n : Numbers) (is : List Word) (es fs : List Equation) (ps : List Piece) → IsRow n (length is) (length es + length fs) (first_state is es fs ps)
first_row n is es fs ps = record { whole = tt; even = first_counted n is es fs ps }

pub first_net : (n : Numbers) (is : List Word) (es fs : List Equation) (ps : List Piece)
    → net_at n (length is) (first_state is es fs ps) (net_of n is (map equated_of es ++ (map equated_of fs ++ ps))).next
    ≡ net_of n is (map equated_of es ++ (map equated_of fs ++ ps))
first_net n is es fs ps =
    let k : ℕ = length is in
    let e : Piece → List Pair = equations_of n in
    let next : ℕ = (net_of n is (map equated_of es ++ (map equated_of fs ++ ps))).next in
    let T : List Tree = map (term n) is in
    let S : List Tree = map (term n) (sides_of es ++ sides_of fs) in
    let parts : map (term n) (is ++ (sides_of es ++ sides_of fs)) ≡ T ++ S = map-append (term n) is (sides_of es ++ sides_of fs) in
    let counted = length-map is (term n) in
    let interface : take k (map (term n) (is ++ (sides_of es ++ sides_of fs))) ≡ T = ap (take k) parts ∙ take_at T S k counted in
    let even : length (map (term n) (sides_of es)) ≡ 2 * length es = length-map (sides_of es) (term n) ∙ sides_long es in
    let pairs : pairs_of (drop k (map (term n) (is ++ (sides_of es ++ sides_of fs)))) ≡ flat_map e (map equated_of es) ++ flat_map e (map equated_of fs) =
    ap (λ l. pairs_of (drop k l)) parts
    ∙ (ap pairs_of (drop_at T S k counted)
    ∙ (ap pairs_of (map-append (term n) (sides_of es) (sides_of fs))
    ∙ (pairs-more (map (term n) (sides_of es)) (map (term n) (sides_of fs)) (length es) even
    ∙ (λ i. pairs_of_sides n es i ++ pairs_of_sides n fs i)))) in
    let all : pairs_of (drop k (map (term n) (is ++ (sides_of es ++ sides_of fs)))) ++ flat_map e ps ≡ flat_map e (map equated_of es ++ (map equated_of fs ++ ps)) =
    ap (λ l. l ++ flat_map e ps) pairs
    ∙ (append_assoc (flat_map e (map equated_of es)) (flat_map e (map equated_of fs)) (flat_map e ps)
    ∙ (ap (λ l. flat_map e (map equated_of es) ++ l) (sym (flat_map-append e (map equated_of fs) ps))
    ∙ sym (flat_map-append e (map equated_of es) (map equated_of fs ++ ps)))) in
    λ i. record { interface = interface i; equations = all i; next = next }

idle_equations : (n : Numbers) (ps : List Piece) → AllByRecursion IsIdle ps → flat_map (equations_of n) ps ≡ []
idle_equations n [] all = refl
idle_equations n (idle x ∷ ps) all = idle_equations n ps all.1
idle_equations n _ all = absurd all.0

pub sides_given : (given : List ℕ) (is : List Word) (es fs : List Equation) (ps : List Piece) → AreGiven given is (map equated_of es ++ (map equated_of fs ++ ps))
    → AreGiven given (is ++ (sides_of es ++ sides_of fs)) ps
sides_given given is es fs ps are w tag some =
    let a = sum_by-append (λ v. cond (word_eq w v) 1 0) is (sides_of es ++ sides_of fs) in
    let b = sum_by-append (λ v. cond (word_eq w v) 1 0) (sides_of es) (sides_of fs) in
    let c = sum_by-append (uses w) (map equated_of es) (map equated_of fs ++ ps) in
    let d = sum_by-append (uses w) (map equated_of fs) ps in
    let e = sides_used w es in
    let f = sides_used w fs in
    are w tag (omega arith)
  where
    sides_used : (w : Word) (es : List Equation) → sum_by (uses w) (map equated_of es) ≡ count w (sides_of es)
    sides_used w [] = refl
    sides_used w (e ∷ es) =
        let a = sum_by-cons (uses w) (equated_of e) (map equated_of es) in
        let b = sum_by-append (λ v. cond (word_eq w v) 1 0) (e.left ∷ e.right ∷ []) (sides_of es) in
        let rest = sides_used w es in
        omega arith

-- ---- all together

-- what was read of a net: its words and equations, and then what was left, until places are idle
pub record WasRead (arities : List ℕ) (is : List Word) (es fs : List Equation) (ps : List Piece) (ts : List Token) (j : ℕ) : Type 0 where
  pub tokens : List Token
  pub between : List Piece
  pub end : List Piece
  pub steps : Steps arities (first_state is es fs ps) (state tokens [] between)
  pub left : Left arities j (state tokens [] between) (state ts [] end)

pub read_net : NetLaws → (n : Numbers) (is : List Word) (es fs : List Equation) (ps : List Piece) (ts : List Token) (j : ℕ) → length n.arities < GIVEN
    → (r : WasRead n.arities is es fs ps ts j) → AllByRecursion IsIdle r.end → AreGiven n.given is (map equated_of es ++ (map equated_of fs ++ ps))
    → HasNames (net_of n is (map equated_of es ++ (map equated_of fs ++ ps)))
    → OneNet (net_of n is (map equated_of es ++ (map equated_of fs ++ ps))) (configuration_read n ts (length is))
read_net laws n is es fs ps ts j few r places_idle given has =
    let c : Configuration = net_of n is (map equated_of es ++ (map equated_of fs ++ ps)) in
    let terms : ℕ = length is in
    let count : ℕ = length es + length fs in
    let s : State = first_state is es fs ps in
    let m : State = state r.tokens [] r.between in
    let e : State = state ts [] r.end in
    let W : List FlatWord = flat_words n ts in
    let same = first_net n is es fs ps in
    let first = first_row n is es fs ps in
    let named = transport HasNames (sym same) has in
    let given_sides = sides_given n.given is es fs ps given in
    let one = net_steps laws n terms count c.next s m few given_sides r.steps first.whole first.even named in
    let kept = whole_steps n s m r.steps first.whole in
    let rest = left_net laws n terms count c.next j m e few (given_steps n.arities n.given s m r.steps given_sides) r.left refl
    (record { whole = kept.0; even = kept.1 ∙ first.even }) one.names_too in
    let all = laws.through (net_at n terms s c.next) (net_at n terms m c.next) (net_at n terms e c.next) one rest.net in
    let start : OneNet c (net_at n terms e c.next) = transport (λ d. OneNet d (net_at n terms e c.next)) same all in
    let d : Configuration = record { interface = take terms (forest W); equations = pairs_of (drop terms (forest W)); next = c.next } in
    let words = over-nil W in
    let none_left : pairs_of (drop terms (over W [])) ++ flat_map (equations_of n) r.end ≡ pairs_of (drop terms (forest W)) =
    ap (λ l. pairs_of (drop terms (over W [])) ++ l) (idle_equations n r.end places_idle)
    ∙ (append-nil (pairs_of (drop terms (over W []))) ∙ ap (λ l. pairs_of (drop terms l)) words) in
    let end : net_at n terms e c.next ≡ d = (λ i. record { interface = take terms (words i); equations = none_left i; next = c.next }) in
    to_configured laws c d (transport (OneNet c) end start)

pub once_places : (es fs : List Equation) (ps : List Piece) → ((w : Word) → sum_by (holds w) (map equated_of es ++ (map equated_of fs ++ ps)) ≤ 1)
    → (w : Word) → sum_by (holds w) ps ≤ 1
once_places es fs ps once w =
    let a = sum_by-append (holds w) (map equated_of es) (map equated_of fs ++ ps) in
    let b = sum_by-append (holds w) (map equated_of fs) ps in
    let one = once w in
    omega arith
