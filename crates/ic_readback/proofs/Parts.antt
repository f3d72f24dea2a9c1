-- Lemmas: terms that were read by themselves.
use Rattle.std.proofs.Common.{◌≡◌, ℕ, ◌+◌, ◌-◌, ◌≤◌, ◌<◌, List, [], ◌∷◌, ◌++◌, false, cond, length, map, slice_index_or, sum_by, refl, sym, ap, ◌∙◌, arith, inl, inr, append_assoc, append-nil, subst as transport}
use Rattle.std.specs.Prelude.{◌⊎◌, Contains, IsPermutation}
use Rattle.std.specs.List.{AllByRecursion}
use Rattle.std.proofs.lemmas.List.{length-append, length-map}
use Rattle.std.proofs.lemmas.List.Sums.{sum_by-cons}
use Rattle.std.proofs.lemmas.List.Sorted.{IsPermutation-sym, Contains-permutation}
use Rattle.std.proofs.lemmas.Option.{get_or_from_slice_get}
use Rattle.ic_term.specs.Tree.{Tree, agent, trees_of}
use Rattle.ic_arena.specs.declared.word.Word.{Word}
use Rattle.ic_arena.specs.declared.word.TheConstants.{NAME, GIVEN}
use Rattle.ic_arena.specs.Word.{word_eq, count}
use Rattle.ic_arena.specs.Piece.{Piece, waits, agent_of}
use Rattle.ic_flat.specs.declared.word.Word.{Word as FlatWord}
use Rattle.ic_flat.specs.Words.{with_word, forest}
use Rattle.ic_meaning.specs.Words.{Numbers, term}
use Rattle.ic_meaning.specs.Nets.{holds, IsAgentOf}
use Rattle.ic_readback.specs.declared.token.Token.{Token}
use Rattle.ic_readback.specs.declared.token.Token.TheVariants.{Name, Agent}
use Rattle.ic_readback.specs.Reading.{flat_word, flat_words, AreGiven}
use Rattle.ic_readback.specs.inner.Expanding.{State, state, IsName, Step, follow, opened, plain, named, Steps, no_step, one_more, Left, none, circle, alone}
use Rattle.ic_readback.specs.inner.Reading.{HoldOnce}
use Rattle.ic_readback.specs.inner.Writing.{Part, part, Gathered, nothing, waited, alone as alone_part}
use Rattle.ic_readback.proofs.Chains.{contains_first, contained_sum, steps_pieces, gone, after as taken_after}
use Rattle.ic_readback.proofs.Gathering.{gathered_pieces, gathered_fewer}
use Rattle.ic_readback.specs.lemmas.Rows.{WholeOver, over-nil, whole-nil, over-agent}
use Rattle.ic_readback.proofs.Words.{row, whole_steps, given_step}
use Rattle.ic_readback.proofs.Ends.{given_steps, given_piece, agent_not_given}
use Rattle.ic_readback.proofs.Puttings.{EachName, Not, each_both, AreInOrder, order_more, all_more, equations_in, tokens_more}
use Rattle.ic_readback.proofs.Shapes.{IsTerm, one_tree}
use Rattle.ic_meaning.specs.lemmas.Terms.{word_itself}

-- ---- they are equations of what is left

abbrev with_front : List Token → State → State
with_front R s = state (R ++ s.tokens) s.words s.pieces

step_front : (arities : List ℕ) (R : List Token) (s t : State) → Step arities s t → Step arities (with_front R s) (with_front R t)
step_front arities R s t (follow ts x u ws ps qs tag taken) = follow (R ++ ts) x u ws ps qs tag taken
step_front arities R s t (opened ts a vs ws ps qs is taken) =
    transport (λ l. Step arities (state (R ++ ts) (a ∷ ws) ps) (state l (vs ++ ws) qs)) (append_assoc R ts (Agent (a.tag - 1) ∷ [])) (opened (R ++ ts) a vs ws ps qs is taken)
step_front arities R s t (plain ts k w ws ps tag known) =
    transport (λ l. Step arities (state (R ++ ts) (w ∷ ws) ps) (state l ws ps)) (append_assoc R ts (Agent k ∷ [])) (plain (R ++ ts) k w ws ps tag known)
step_front arities R s t (named ts w ws ps is) =
    transport (λ l. Step arities (state (R ++ ts) (w ∷ ws) ps) (state l ws ps)) (append_assoc R ts (Name w ∷ [])) (named (R ++ ts) w ws ps is)

steps_front : (arities : List ℕ) (R : List Token) (s t : State) → Steps arities s t → Steps arities (with_front R s) (with_front R t)
steps_front arities R s t (no_step a) = no_step (with_front R a)
steps_front arities R s t (one_more a b c first rest) = one_more (with_front R a) (with_front R b) (with_front R c) (step_front arities R a b first) (steps_front arities R b c rest)

steps_between : (arities : List ℕ) (S more us T : List Token) (vs : List Word) (ps qs : List Piece) (w : Word) → Steps arities (state more vs ps) (state us [] qs)
    → T ≡ S ++ Name w ∷ us → Steps arities (state (S ++ Name w ∷ more) vs ps) (state T [] qs)
steps_between arities S more us T vs ps qs w steps is =
    transport (λ l. Steps arities (state (S ++ Name w ∷ more) vs ps) (state l [] qs)) (append_assoc S (Name w ∷ []) us ∙ sym is)
    (transport (λ l. Steps arities (state l vs ps) (state ((S ++ Name w ∷ []) ++ us) [] qs)) (append_assoc S (Name w ∷ []) more)
    (steps_front arities (S ++ Name w ∷ []) (state more vs ps) (state us [] qs) steps))

pub left_of : (arities : List ℕ) (R : List Token) (parts : List Part) (ps qs : List Piece) → Gathered arities parts ps qs
    → Left arities (length parts) (state R [] ps) (state (R ++ equations_in parts) [] qs)
left_of arities R parts ps qs (nothing os) =
    transport (λ l. Left arities 0 (state R [] os) (state l [] os)) (sym (append-nil R)) (none (state R [] os))
left_of arities R parts ps qs (waited before x u us os ms ns ss rest tag taken steps) =
    let S : List Token = R ++ equations_in before in
    let T : List Token = R ++ equations_in (before ++ part x us ∷ []) in
    let first = left_of arities R before os ms rest in
    let more : length before + 1 ≡ length (before ++ part x us ∷ []) = omega (arith, length-append before (part x us ∷ [])) in
    transport (λ (k : ℕ). Left arities k (state R [] os) (state T [] ss)) more
    (circle (length before) (state R [] os) S T x u ms ns ss first tag taken (steps_between arities S [] us T (u ∷ []) ns ss x steps (tokens_more R before x us)))
left_of arities R parts ps qs (alone_part before a vs us os ms ns ss rest is taken steps) =
    let S : List Token = R ++ equations_in before in
    let T : List Token = R ++ equations_in (before ++ part a us ∷ []) in
    let first = left_of arities R before os ms rest in
    let more : length before + 1 ≡ length (before ++ part a us ∷ []) = omega (arith, length-append before (part a us ∷ [])) in
    transport (λ (k : ℕ). Left arities k (state R [] os) (state T [] ss)) more
    (alone (length before) (state R [] os) S T a vs ms ns ss first is taken (steps_between arities S (Agent (a.tag - 1) ∷ []) us T vs ns ss a steps (tokens_more R before a us)))

-- ---- what is left at a place isn't written

-- something is left at a place
abbrev pub IsLeft : Word → List Piece → Type 0
IsLeft w ps = ((w.tag ≡ NAME) × ((u : Word) × Contains ps (waits w u))) ⊎ (¬ (w.tag ≡ NAME) × ((vs : List Word) × Contains ps (agent_of w vs)))

pub left_by : (w : Word) (ps qs : List Piece) → ((p : Piece) → Contains qs p → Contains ps p) → IsLeft w qs → IsLeft w ps
left_by w ps qs more (inl found) = inl (found.0, (found.1.0, more (waits w found.1.0) found.1.1))
left_by w ps qs more (inr found) = inr (found.0, (found.1.0, more (agent_of w found.1.0) found.1.1))

not_written : (arities : List ℕ) (v w : Word) (ps : List Piece) → IsName arities ps v → IsLeft w ps → v ≡ w → ⊥
not_written arities v w ps is (inl found) same =
    is.waits_not (ap (λ (x : Word). x.tag) same ∙ found.0) found.1.0 (transport (λ (x : Word). Contains ps (waits x found.1.0)) (sym same) found.1.1)
not_written arities v w ps is (inr found) same =
    is.agent_not (λ e. found.0 (sym (ap (λ (x : Word). x.tag) same) ∙ e)) found.1.0 (transport (λ (x : Word). Contains ps (agent_of x found.1.0)) (sym same) found.1.1)

step_untold : (arities : List ℕ) (w : Word) (s t : State) → Step arities s t → IsLeft w s.pieces → EachName (Not w) s.tokens → EachName (Not w) t.tokens
step_untold arities w s t (follow ts x u ws ps qs tag taken) there each = each
step_untold arities w s t (opened ts a vs ws ps qs is taken) there each = each_both (Not w) ts (Agent (a.tag - 1) ∷ []) each tt
step_untold arities w s t (plain ts k v ws ps tag known) there each = each_both (Not w) ts (Agent k ∷ []) each tt
step_untold arities w s t (named ts v ws ps is) there each = each_both (Not w) ts (Name v ∷ []) each (not_written arities v w ps is there, tt)

pub steps_untold : (arities : List ℕ) (w : Word) (s t : State) → Steps arities s t → IsLeft w t.pieces → EachName (Not w) s.tokens → EachName (Not w) t.tokens
steps_untold arities w s t (no_step a) there each = each
steps_untold arities w s t (one_more a b c first rest) there each =
    steps_untold arities w b c rest there
    (step_untold arities w a b first (left_by w a.pieces c.pieces (λ p. steps_pieces arities p a c (one_more a b c first rest)) there) each)

taken_there : (ps qs : List Piece) (p : Piece) → IsPermutation ps (p ∷ qs) → Contains ps p
taken_there ps qs p taken = Contains-permutation (p ∷ qs) ps p (IsPermutation-sym ps (p ∷ qs) taken) (contains_first p qs)

left_held : (w : Word) (ps : List Piece) → IsLeft w ps → 1 ≤ sum_by (holds w) ps
left_held w ps (inl found) =
    let some = contained_sum (holds w) (waits w found.1.0) ps found.1.1 in
    let one : ◌≡◌ {A = ℕ} (cond (word_eq w w) 1 0) 1 = rw (word_itself w) refl in
    omega arith
left_held w ps (inr found) =
    let some = contained_sum (holds w) (agent_of w found.1.0) ps found.1.1 in
    let one : ◌≡◌ {A = ℕ} (cond (word_eq w w) 1 0) 1 = rw (word_itself w) refl in
    omega arith

-- a place of which one piece says what is there is held no more once this is taken
other_place : (w x : Word) (ps qs : List Piece) (p : Piece) → HoldOnce ps → IsPermutation ps (p ∷ qs) → holds x p ≡ 1 → IsLeft w qs → x ≡ w → ⊥
other_place w x ps qs p once taken held there same =
    let some = left_held w qs there in
    let all = gone (holds w) ps qs p taken in
    let one = once w in
    let here : holds w p ≡ 1 = transport (λ (v : Word). holds v p ≡ 1) same held in
    absurd (omega arith)

-- what is still left was not read
gathered_others : (arities : List ℕ) (w : Word) (parts : List Part) (ps qs : List Piece) → HoldOnce ps → Gathered arities parts ps qs → IsLeft w qs
    → AllByRecursion (λ p. EachName (Not w) p.tokens × (p.place ≡ w → ⊥)) parts
gathered_others arities w parts ps qs once (nothing os) there = tt
gathered_others arities w parts ps qs once (waited before x u us os ms ns ss rest tag taken steps) there =
    let s : State = state [] (u ∷ []) ns in
    let t : State = state us [] ss in
    let after : IsLeft w ns = left_by w ns ss (λ p. steps_pieces arities p s t steps) there in
    let one : HoldOnce ms = (λ v. let less = gathered_fewer arities (holds v) before os ms rest in let few = once v in omega arith) in
    let held : ◌≡◌ {A = ℕ} (cond (word_eq x x) 1 0) 1 = rw (word_itself x) refl in
    all_more (λ p. EachName (Not w) p.tokens × (p.place ≡ w → ⊥)) before (part x us)
    (gathered_others arities w before os ms once rest (left_by w ms ns (λ p. taken_after ms ns (waits x u) p taken) after))
    (steps_untold arities w s t steps there tt, other_place w x ms ns (waits x u) one taken held after)
gathered_others arities w parts ps qs once (alone_part before a vs us os ms ns ss rest is taken steps) there =
    let s : State = state (Agent (a.tag - 1) ∷ []) vs ns in
    let t : State = state us [] ss in
    let after : IsLeft w ns = left_by w ns ss (λ p. steps_pieces arities p s t steps) there in
    let one : HoldOnce ms = (λ v. let less = gathered_fewer arities (holds v) before os ms rest in let few = once v in omega arith) in
    let held : ◌≡◌ {A = ℕ} (cond (word_eq a a) 1 0) 1 = rw (word_itself a) refl in
    all_more (λ p. EachName (Not w) p.tokens × (p.place ≡ w → ⊥)) before (part a us)
    (gathered_others arities w before os ms once rest (left_by w ms ns (λ p. taken_after ms ns (agent_of a vs) p taken) after))
    (steps_untold arities w s t steps there tt, other_place w a ms ns (agent_of a vs) one taken held after)

left_name : (x u : Word) (ms ns : List Piece) → x.tag ≡ NAME → IsPermutation ms (waits x u ∷ ns) → IsLeft x ms
left_name x u ms ns tag taken = inl (tag, (u, taken_there ms ns (waits x u) taken))

left_agent : (arities : List ℕ) (a : Word) (vs : List Word) (ms ns : List Piece) → IsAgentOf arities a.tag (length vs) → IsPermutation ms (agent_of a vs ∷ ns) → IsLeft a ms
left_agent arities a vs ms ns is taken = inr ((λ e. let tag = is.is in absurd (omega (arith, tag, e))), (vs, taken_there ms ns (agent_of a vs) taken))

pub gathered_order : (arities : List ℕ) (parts : List Part) (ps qs : List Piece) → HoldOnce ps → Gathered arities parts ps qs → AreInOrder parts
gathered_order arities parts ps qs once (nothing os) = tt
gathered_order arities parts ps qs once (waited before x u us os ms ns ss rest tag taken steps) =
    order_more before (part x us) (gathered_order arities before os ms once rest) (gathered_others arities x before os ms once rest (left_name x u ms ns tag taken))
gathered_order arities parts ps qs once (alone_part before a vs us os ms ns ss rest is taken steps) =
    order_more before (part a us) (gathered_order arities before os ms once rest) (gathered_others arities a before os ms once rest (left_agent arities a vs ms ns is taken))

-- something was left at each place before
pub gathered_left : (arities : List ℕ) (parts : List Part) (ps qs : List Piece) → Gathered arities parts ps qs → AllByRecursion (λ p. IsLeft p.place ps) parts
gathered_left arities parts ps qs (nothing os) = tt
gathered_left arities parts ps qs (waited before x u us os ms ns ss rest tag taken steps) =
    all_more (λ p. IsLeft p.place os) before (part x us) (gathered_left arities before os ms rest)
    (left_by x os ms (λ p. gathered_pieces arities p before os ms rest) (left_name x u ms ns tag taken))
gathered_left arities parts ps qs (alone_part before a vs us os ms ns ss rest is taken steps) =
    all_more (λ p. IsLeft p.place os) before (part a us) (gathered_left arities before os ms rest)
    (left_by a os ms (λ p. gathered_pieces arities p before os ms rest) (left_agent arities a vs ms ns is taken))

-- ---- each is a term

whole_term : (n : Numbers) (us : List Token) (ss : List Piece) → WholeOver (flat_words n us) [] → length (row n (state us [] ss)) ≡ 1 → IsTerm n us
whole_term n us ss whole long =
    let words = over-nil (flat_words n us) in
    let one = one_tree (forest (flat_words n us)) (ap length (sym words) ∙ long) in
    record { whole = whole-nil (flat_words n us) whole; term = one.0; is = one.1 }

pub gathered_terms : (n : Numbers) (parts : List Part) (ps qs : List Piece) → Gathered n.arities parts ps qs → AllByRecursion (λ p. IsTerm n p.tokens) parts
gathered_terms n parts ps qs (nothing os) = tt
gathered_terms n parts ps qs (waited before x u us os ms ns ss rest tag taken steps) =
    let kept = whole_steps n (state [] (u ∷ []) ns) (state us [] ss) steps tt in
    all_more (λ p. IsTerm n p.tokens) before (part x us) (gathered_terms n before os ms rest) (whole_term n us ss kept.0 kept.1)
gathered_terms n parts ps qs (alone_part before a vs us os ms ns ss rest is taken steps) =
    let k : ℕ = a.tag - 1 in
    let g : FlatWord = flat_word n (Agent k) in
    let V : List Tree = map (term n) vs in
    let symbol : k ≡ is.symbol = (let e = is.is in omega arith) in
    let arity : slice_index_or n.arities k 0 ≡ length V =
    ap (λ (k : ℕ). slice_index_or n.arities k 0) symbol ∙ (get_or_from_slice_get n.arities is.symbol (length vs) 0 is.known ∙ sym (length-map vs (term n))) in
    let one : with_word g V ≡ agent k (trees_of V) ∷ [] = ap (with_word g) (sym (append-nil V)) ∙ over-agent k (slice_index_or n.arities k 0) V [] (sym arity) in
    let kept = whole_steps n (state (Agent k ∷ []) vs ns) (state us [] ss) steps ((let h : slice_index_or n.arities k 0 ≤ length V = omega arith in h), tt) in
    all_more (λ p. IsTerm n p.tokens) before (part a us) (gathered_terms n before os ms rest) (whole_term n us ss kept.0 (kept.1 ∙ ap length one))

pub gathered_unwritten : (arities : List ℕ) (parts : List Part) (ps qs : List Piece) → Gathered arities parts ps qs → AllByRecursion (λ p. p.written ≡ false) parts
gathered_unwritten arities parts ps qs (nothing os) = tt
gathered_unwritten arities parts ps qs (waited before x u us os ms ns ss rest tag taken steps) =
    all_more (λ p. p.written ≡ false) before (part x us) (gathered_unwritten arities before os ms rest) refl
gathered_unwritten arities parts ps qs (alone_part before a vs us os ms ns ss rest is taken steps) =
    all_more (λ p. p.written ≡ false) before (part a us) (gathered_unwritten arities before os ms rest) refl

-- ---- names that were given

-- a given name has a number
abbrev pub IsNumbered : List ℕ → Word → Type 0
IsNumbered given v = v.tag ≡ GIVEN → v.index < length given

step_numbered : (arities given : List ℕ) (s t : State) → Step arities s t → AreGiven given s.words s.pieces → EachName (IsNumbered given) s.tokens → EachName (IsNumbered given) t.tokens
step_numbered arities given s t (follow ts x u ws ps qs tag taken) are each = each
step_numbered arities given s t (opened ts a vs ws ps qs is taken) are each = each_both (IsNumbered given) ts (Agent (a.tag - 1) ∷ []) each tt
step_numbered arities given s t (plain ts k v ws ps tag known) are each = each_both (IsNumbered given) ts (Agent k ∷ []) each tt
step_numbered arities given s t (named ts v ws ps is) are each =
    each_both (IsNumbered given) ts (Name v ∷ []) each ((λ tag. are v tag (let some = some_first v ws in omega arith)), tt)
  where
    some_first : (w : Word) (ws : List Word) → 1 ≤ count w (w ∷ ws)
    some_first w ws =
        let parts = sum_by-cons (λ v. cond (word_eq w v) 1 0) w ws in
        let one : ◌≡◌ {A = ℕ} (cond (word_eq w w) 1 0) 1 = rw (word_itself w) refl in
        omega arith

pub steps_numbered : (arities given : List ℕ) (s t : State) → Steps arities s t → AreGiven given s.words s.pieces → EachName (IsNumbered given) s.tokens → EachName (IsNumbered given) t.tokens
steps_numbered arities given s t (no_step a) are each = each
steps_numbered arities given s t (one_more a b c first rest) are each =
    steps_numbered arities given b c rest (given_step arities given a b first are) (step_numbered arities given a b first are each)

pub gathered_numbered : (arities given : List ℕ) (parts : List Part) (ps qs : List Piece) → Gathered arities parts ps qs → AreGiven given [] ps
    → AllByRecursion (λ p. EachName (IsNumbered given) p.tokens) parts × AreGiven given [] qs
gathered_numbered arities given parts ps qs (nothing os) are = (tt, are)
gathered_numbered arities given parts ps qs (waited before x u us os ms ns ss rest tag taken steps) are =
    let first = gathered_numbered arities given before os ms rest are in
    let s : State = state [] (u ∷ []) ns in
    let start = given_piece given (waits x u) (u ∷ []) ms ns (λ w. omega arith) taken first.1 in (
      all_more (λ p. EachName (IsNumbered given) p.tokens) before (part x us) first.0 (steps_numbered arities given s (state us [] ss) steps start tt),
      given_steps arities given s (state us [] ss) steps start,
    )
gathered_numbered arities given parts ps qs (alone_part before a vs us os ms ns ss rest is taken steps) are =
    let first = gathered_numbered arities given before os ms rest are in
    let s : State = state (Agent (a.tag - 1) ∷ []) vs ns in
    let start = given_piece given (agent_of a vs) vs ms ns (λ w. omega arith) taken first.1 in (
      all_more (λ p. EachName (IsNumbered given) p.tokens) before (part a us) first.0 (steps_numbered arities given s (state us [] ss) steps start tt),
      given_steps arities given s (state us [] ss) steps start,
    )

-- no place was given
pub gathered_places : (arities : List ℕ) (parts : List Part) (ps qs : List Piece) → length arities < GIVEN → Gathered arities parts ps qs → AllByRecursion (λ p. p.place.tag ≡ GIVEN → ⊥) parts
gathered_places arities parts ps qs few (nothing os) = tt
gathered_places arities parts ps qs few (waited before x u us os ms ns ss rest tag taken steps) =
    all_more (λ p. p.place.tag ≡ GIVEN → ⊥) before (part x us) (gathered_places arities before os ms few rest) (λ e. absurd (omega (arith, tag, e)))
gathered_places arities parts ps qs few (alone_part before a vs us os ms ns ss rest is taken steps) =
    all_more (λ p. p.place.tag ≡ GIVEN → ⊥) before (part a us) (gathered_places arities before os ms few rest) (agent_not_given arities a.tag (length vs) few is)
