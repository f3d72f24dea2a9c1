-- Lemmas: steps keep the net.
use Rattle.std.proofs.Common.{◌≡◌, ℕ, ◌+◌, ◌*◌, ◌-◌, ◌≤◌, ◌<◌, List, [], ◌∷◌, ◌++◌, cond, length, map, eq-eqb, refl, sym, ap, ◌∙◌, arith, slice_index_or, subst as transport}
use Rattle.std.specs.List.{flat_map}
use Rattle.std.specs.Prelude.{IsPermutation}
use Rattle.std.proofs.lemmas.List.{length-map, map-append}
use Rattle.std.proofs.lemmas.List.Sums.{sum_by-cons}
use Rattle.std.proofs.lemmas.Option.{get_or_from_slice_get}
use Rattle.ic_term.specs.Tree.{Tree, name, agent, trees_of, Pair}
use Rattle.ic_term.specs.Configuration.{Configuration}
use Rattle.ic_round.specs.Naming.{HasNames}
use Rattle.ic_reaching.specs.OneNet.{OneNet}
use Rattle.ic_arena.specs.declared.word.Word.{Word}
use Rattle.ic_arena.specs.declared.word.TheConstants.{GIVEN}
use Rattle.ic_arena.specs.Word.{word_eq, count}
use Rattle.ic_arena.specs.Piece.{Piece, waits, agent_of}
use Rattle.ic_flat.specs.declared.word.Word.{Word as FlatWord}
use Rattle.ic_meaning.specs.Words.{Numbers, term}
use Rattle.ic_meaning.specs.Nets.{equations_of}
use Rattle.ic_meaning.specs.lemmas.Terms.{name_tag, agent_tag, place_term}
use Rattle.ic_meaning.specs.lemmas.Orders.{flat_order}
use Rattle.ic_readback.specs.declared.token.Token.{Token}
use Rattle.ic_readback.specs.declared.token.Token.TheVariants.{Name, Agent}
use Rattle.ic_readback.specs.Reading.{number_of, flat_word, flat_words, AreGiven}
use Rattle.ic_readback.specs.inner.Expanding.{State, state, Step, follow, opened, plain, named, Steps, no_step, one_more}
use Rattle.ic_readback.specs.lemmas.Given.{NetLaws}
use Rattle.ic_readback.specs.lemmas.Rows.{over, WholeOver, over-append, over-agent}
use Rattle.ic_readback.specs.lemmas.RowNets.{net_of_row, put_row}
use Rattle.ic_readback.proofs.Words.{row, plain_term, named_term, whole_step, given_step}

-- the net of a state: the terms of its row, and its pieces beside
abbrev pub net_at : Numbers → ℕ → State → ℕ → Configuration
net_at n terms s next = net_of_row terms (row n s) (flat_map (equations_of n) s.pieces) next

-- an agent with its arguments after it
pub opened_row : (n : Numbers) (ts : List Token) (k : ℕ) (vs ws : List Word) → slice_index_or n.arities k 0 ≡ length vs
    → over (flat_words n (ts ++ Agent k ∷ [])) (map (term n) (vs ++ ws)) ≡ over (flat_words n ts) (agent k (trees_of (map (term n) vs)) ∷ map (term n) ws)
opened_row n ts k vs ws arity =
    let W : List FlatWord = flat_words n ts in
    let f : FlatWord = flat_word n (Agent k) in
    let tokens = map-append (flat_word n) ts (Agent k ∷ []) in
    let words = map-append (term n) vs ws in
    (λ i. over (tokens i) (words i))
    ∙ (over-append W (f ∷ []) (map (term n) vs ++ map (term n) ws)
    ∙ ap (over W) (over-agent k (slice_index_or n.arities k 0) (map (term n) vs) (map (term n) ws) (length-map vs (term n) ∙ sym arity)))

-- a name by itself
pub named_row : (n : Numbers) (ts : List Token) (w : Word) (us : List Tree)
    → over (flat_words n (ts ++ Name w ∷ [])) us ≡ over (flat_words n ts) (name (number_of n w) ∷ us)
named_row n ts w us =
    ap (λ l. over l us) (map-append (flat_word n) ts (Name w ∷ [])) ∙ over-append (flat_words n ts) (flat_word n (Name w) ∷ []) us

pub some_first : (w : Word) (ws : List Word) → 1 ≤ count w (w ∷ ws)
some_first w ws =
    let parts = sum_by-cons (λ v. cond (word_eq w v) 1 0) w ws in
    let itself : ◌≡◌ {A = ℕ} (cond (word_eq w w) 1 0) 1 = rw (eq-eqb w.tag w.tag refl, eq-eqb w.index w.index refl) refl in
    omega arith

-- the piece of a place is put where a word names it
put_word : NetLaws → (n : Numbers) (terms k next : ℕ) (ts : List Token) (w : Word) (ws : List Word) (t : Tree) (ps : List Piece) (qs : List Pair)
    → term n w ≡ name (n.of_place w)
    → IsPermutation (flat_map (equations_of n) ps) (record { left = name (n.of_place w); right = t } ∷ qs)
    → length (row n (state ts (w ∷ ws) ps)) ≡ terms + 2 * k → HasNames (net_at n terms (state ts (w ∷ ws) ps) next)
    → OneNet (net_at n terms (state ts (w ∷ ws) ps) next) (net_of_row terms (over (flat_words n ts) (t ∷ map (term n) ws)) qs next)
put_word laws n terms k next ts w ws t ps qs is moved even has =
    let W : List FlatWord = flat_words n ts in
    let T : List Tree = map (term n) ws in
    let es : List Pair = flat_map (equations_of n) ps in
    let end : Configuration = net_of_row terms (over W (t ∷ T)) qs next in
    let put = put_row laws terms k (n.of_place w) next t W T es qs
    (transport (λ (z : Tree). length (over W (z ∷ T)) ≡ terms + 2 * k) is even)
    (transport (λ (z : Tree). HasNames (net_of_row terms (over W (z ∷ T)) es next)) is has) moved in
    transport (λ (z : Tree). OneNet (net_of_row terms (over W (z ∷ T)) es next) end) (sym is) put

pub net_step : NetLaws → (n : Numbers) (terms k next : ℕ) (s t : State) → length n.arities < GIVEN → AreGiven n.given s.words s.pieces → Step n.arities s t
    → length (row n s) ≡ terms + 2 * k → HasNames (net_at n terms s next) → OneNet (net_at n terms s next) (net_at n terms t next)
net_step laws n terms k next s t few given (follow ts x u ws ps qs tag taken) even has =
    put_word laws n terms k next ts x ws (term n u) ps (flat_map (equations_of n) qs) (place_term n x (name_tag n.arities x.tag tag))
    (flat_order (equations_of n) ps (waits x u ∷ qs) taken) even has
net_step laws n terms k next s t few given (opened ts a vs ws ps qs is taken) even has =
    let put = put_word laws n terms k next ts a ws (agent (a.tag - 1) (trees_of (map (term n) vs))) ps (flat_map (equations_of n) qs)
    (place_term n a (agent_tag n.arities a.tag (length vs) is)) (flat_order (equations_of n) ps (agent_of a vs ∷ qs) taken) even has in
    let symbol : a.tag - 1 ≡ is.symbol = (let e = is.is in omega arith) in
    let arity = ap (λ (k : ℕ). slice_index_or n.arities k 0) symbol ∙ get_or_from_slice_get n.arities is.symbol (length vs) 0 is.known in
    let same = opened_row n ts (a.tag - 1) vs ws arity in
    transport (λ r. OneNet (net_at n terms (state ts (a ∷ ws) ps) next) (net_of_row terms r (flat_map (equations_of n) qs) next)) (sym same) put
net_step laws n terms k next s t few given (plain ts m w ws ps tag known) even has =
    let is = plain_term n w m few tag known in
    let same = opened_row n ts m [] ws (get_or_from_slice_get n.arities m 0 0 known) ∙ ap (λ (z : Tree). over (flat_words n ts) (z ∷ map (term n) ws)) (sym is) in
    let c : Configuration = net_at n terms (state ts (w ∷ ws) ps) next in
    transport (λ r. OneNet c (net_of_row terms r (flat_map (equations_of n) ps) next)) (sym same) (laws.itself c has)
net_step laws n terms k next s t few given (named ts w ws ps of) even has =
    let is = named_term n w few of.given (λ tag. given w tag (let some = some_first w ws in omega arith)) in
    let same = named_row n ts w (map (term n) ws) ∙ ap (λ (z : Tree). over (flat_words n ts) (z ∷ map (term n) ws)) (sym is) in
    let c : Configuration = net_at n terms (state ts (w ∷ ws) ps) next in
    transport (λ r. OneNet c (net_of_row terms r (flat_map (equations_of n) ps) next)) (sym same) (laws.itself c has)

pub net_steps : NetLaws → (n : Numbers) (terms k next : ℕ) (s t : State) → length n.arities < GIVEN → AreGiven n.given s.words s.pieces → Steps n.arities s t
    → WholeOver (flat_words n s.tokens) (map (term n) s.words) → length (row n s) ≡ terms + 2 * k → HasNames (net_at n terms s next)
    → OneNet (net_at n terms s next) (net_at n terms t next)
net_steps laws n terms k next s t few given (no_step a) whole even has = laws.itself (net_at n terms a next) has
net_steps laws n terms k next s t few given (one_more a b c first rest) whole even has =
    let here = net_step laws n terms k next a b few given first even has in
    let kept = whole_step n a b first whole in
    let later = net_steps laws n terms k next b c few (given_step n.arities n.given a b first given) rest kept.0 (kept.1 ∙ even) here.names_too in
    laws.through (net_at n terms a next) (net_at n terms b next) (net_at n terms c next) here later
