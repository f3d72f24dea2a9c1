-- Lemmas: agents that are put together are taken out as pieces of their places.
use Rattle.std.proofs.Common.{◌≡◌, ℕ, ◌+◌, ◌<◌, ◌==◌, List, [], ◌∷◌, ◌++◌, Bool, true, false, cond, map, sum_by, count_by, refl, sym, ap, ◌∙◌, eq-eqb, arith, append_assoc, subst as transport}
use Rattle.std.proofs.lemmas.List.{map-append}
use Rattle.std.proofs.lemmas.List.Sums.{sum_by-cons}
use Rattle.std.proofs.lemmas.List.Sorted.{IsPermutation-sym, IsPermutation-middle}
use Rattle.std.specs.Cmp.{unsigned_Decides}
use Rattle.std.specs.List.{flat_map, AllByRecursion}
use Rattle.std.specs.Prelude.{IsPermutation}
use Rattle.ic_term.specs.Tree.{Tree, name, agent, trees_of, names, Pair, pair_names}
use Rattle.ic_term.specs.Configuration.{Configuration, configuration_names, names_in, occurrences}
use Rattle.ic_settle.specs.Settling.{Binding, subst, subst_pair, subst_in}
use Rattle.ic_settle.specs.lemmas.SubstitutionLaws.{occurrences-append, subst-absent}
use Rattle.ic_round.specs.Naming.{HasNames}
use Rattle.ic_reaching.specs.OneNet.{OneNet}
use Rattle.ic_reaching.specs.Pieces.{piece}
use Rattle.ic_machine.specs.declared.plan.Link.{Link}
use Rattle.ic_machine.specs.Plan.{Made, AreMade, link_operands}
use Rattle.ic_meaning.specs.Plans.{held_with, held_made, linked_terms}
use Rattle.ic_meaning.proofs.Given.{NetLaws}
use Rattle.ic_meaning.specs.lemmas.Terms.{flat_names}
use Rattle.ic_meaning.proofs.Made.{subst_made, subst_links, subst_held, times, held_names, read_names, UsedFrom, made_names}
use Rattle.ic_confluence.specs.lemmas.Puts.{terms_absent, pairs_absent}
use Rattle.ic_settle.specs.lemmas.PutEach.{names_of-trees_of}

-- the pieces of agents, at places with these names
abbrev pub made_pieces : (ℕ → Tree) → List Made → List ℕ → List Pair
made_pieces held [] xs = []
made_pieces held (m ∷ ms) [] = []
made_pieces held (m ∷ ms) (x ∷ xs) = piece x (agent m.symbol (trees_of (map held m.operands))) ∷ made_pieces held ms xs

-- A register holds a name that is nowhere else.
pub record IsPlace (held : ℕ → Tree) (ts : List Tree) (es : List Pair) (next k x : ℕ) : Type 0 where
  pub is : held k ≡ name x
  pub elsewhere : (j : ℕ) → (j ≡ k → ⊥) → occurrences x (names (held j)) ≡ 0
  pub beside : occurrences x (names_in ts es) ≡ 0
  pub low : x < next

abbrev pub ArePlaces : (ℕ → Tree) → List Tree → List Pair → ℕ → ℕ → List Made → List ℕ → Type 0
ArePlaces held ts es next k [] [] = Unit {0}
ArePlaces held ts es next k [] (x ∷ xs) = ⊥
ArePlaces held ts es next k (m ∷ ms) [] = ⊥
ArePlaces held ts es next k (m ∷ ms) (x ∷ xs) = IsPlace held ts es next k x × ArePlaces held ts es next (k + 1) ms xs

-- a net that is read from registers, with terms and equations beside it
abbrev pub read_from : (ℕ → Tree) → List Tree → List ℕ → List Link → List Pair → ℕ → Configuration
read_from held ts is ls es next = record {
  interface = ts ++ map held is;
  equations = map (linked_terms held) ls ++ es;
  next = next;
}

flat_terms : (ss ts : List Tree) → flat_map names (ss ++ ts) ≡ flat_map names ss ++ flat_map names ts
flat_terms [] ts = refl
flat_terms (s ∷ ss) ts = ap (λ ns. names s ++ ns) (flat_terms ss ts) ∙ sym (append_assoc (names s) (flat_map names ss) (flat_map names ts))

pub read_from_names : (x : ℕ) (held : ℕ → Tree) (ts : List Tree) (is : List ℕ) (ls : List Link) (es : List Pair) (next : ℕ)
    → occurrences x (configuration_names (read_from held ts is ls es next)) ≡ read_names x held ls is + occurrences x (names_in ts es)
read_from_names x held ts is ls es next =
    let a = occurrences-append x (flat_map names (ts ++ map held is)) (flat_map pair_names (map (linked_terms held) ls ++ es)) in
    let b = ap (occurrences x) (flat_terms ts (map held is)) ∙ occurrences-append x (flat_map names ts) (flat_map names (map held is)) in
    let c = ap (occurrences x) (flat_names (map (linked_terms held) ls) es) ∙ occurrences-append x (flat_map pair_names (map (linked_terms held) ls)) (flat_map pair_names es) in
    let d = occurrences-append x (flat_map names ts) (flat_map pair_names es) in
    omega arith

sum_none : (f : ℕ → ℕ) (os : List ℕ) → ((o : ℕ) → f o ≡ 0) → sum_by f os ≡ 0
sum_none f [] none = refl
sum_none f (o ∷ os) none =
    let here = none o in
    let rest = sum_none f os none in
    let parts = sum_by-cons f o os in
    omega arith

sum_none_below : (f : ℕ → ℕ) (k : ℕ) (os : List ℕ) → AllByRecursion (λ o. o < k) os → ((o : ℕ) → o < k → f o ≡ 0) → sum_by f os ≡ 0
sum_none_below f k [] low none = refl
sum_none_below f k (o ∷ os) low none =
    let here = none o low.0 in
    let rest = sum_none_below f k os low.1 none in
    let parts = sum_by-cons f o os in
    omega arith

sum_one : (f : ℕ → ℕ) (k : ℕ) (os : List ℕ) → ((o : ℕ) → f o ≡ cond (o == k) 1 0) → sum_by f os ≡ count_by (λ o. o == k) os
sum_one f k [] is = refl
sum_one f k (o ∷ os) is =
    let here = is o in
    let rest = sum_one f k os is in
    let one = sum_by-cons f o os in
    let two = sum_by-cons (λ j. cond (j == k) 1 0) o os in
    omega arith

-- a name that no register below holds isn't in an agent that is made of those
agent_none : (held : ℕ → Tree) (x k : ℕ) (m : Made) → AllByRecursion (λ o. o < k) m.operands → ((o : ℕ) → o < k → occurrences x (names (held o)) ≡ 0)
    → occurrences x (names (agent m.symbol (trees_of (map held m.operands)))) ≡ 0
agent_none held x k m low none =
    ap (occurrences x) (names_of-trees_of (map held m.operands))
    ∙ (held_names x held m.operands ∙ sum_none_below (times x held) k m.operands low none)

-- another piece beside
places_beside : (held : ℕ → Tree) (ts : List Tree) (es : List Pair) (next k x before : ℕ) (m : Made) (ms : List Made) (xs : List ℕ)
    → held before ≡ name x → before < k → AllByRecursion (λ o. o < before) m.operands
    → ArePlaces held ts es next k ms xs → ArePlaces held ts (piece x (agent m.symbol (trees_of (map held m.operands))) ∷ es) next k ms xs
places_beside held ts es next k x before m [] [] is early low places = tt
places_beside held ts es next k x before m (n ∷ ns) (y ∷ ys) is early low places =
    let place = places.0 in
    let a : Tree = agent m.symbol (trees_of (map held m.operands)) in
    let other : occurrences y (names (name x)) ≡ 0 = ap (λ (t : Tree). occurrences y (names t)) (sym is) ∙ place.elsewhere before (λ same. omega arith) in
    let none = agent_none held y before m low (λ o less. place.elsewhere o (λ same. omega arith)) in
    let b = place.beside in
    let parts = occurrences-append y (flat_map names ts) (flat_map pair_names es) in
    let more = occurrences-append y (flat_map names ts) ((x ∷ names a) ++ flat_map pair_names es) in
    let split = occurrences-append y (x ∷ names a) (flat_map pair_names es) in
    let first = occurrences-append y (x ∷ []) (names a) in (
      record {
        is = place.is;
        elsewhere = place.elsewhere;
        beside = omega arith;
        low = place.low;
      },
      places_beside held ts es next (k + 1) x before m ns ys is (omega arith) low places.1,
    )
places_beside held ts es next k x before m _ _ is early low places = places

-- One agent is taken out.
take_one : NetLaws → (ts : List Tree) (is : List ℕ) (ls : List Link) (es : List Pair) (next k x : ℕ) (m : Made) (ms : List Made) (held : ℕ → Tree)
    → IsPlace held ts es next k x → UsedFrom k (m ∷ ms) (flat_map link_operands ls ++ is) → AllByRecursion (λ o. o < k) m.operands
    → HasNames (read_from (held_made k (m ∷ ms) held) ts is ls es next)
    → OneNet (read_from (held_made k (m ∷ ms) held) ts is ls es next)
    (read_from (held_made (k + 1) ms held) ts is ls (piece x (agent m.symbol (trees_of (map held m.operands))) ∷ es) next)
take_one laws ts is ls es next k x m ms held place used low named =
    let a : Tree = agent m.symbol (trees_of (map held m.operands)) in
    let put : ℕ → Tree = held_with k a held in
    let whole : Configuration = read_from (held_made (k + 1) ms put) ts is ls es next in
    let rest : Configuration = read_from (held_made (k + 1) ms held) ts is ls es next in
    let beside = place.beside in
    let beside_parts = occurrences-append x (flat_map names ts) (flat_map pair_names es) in
    let none_in_a : occurrences x (names a) ≡ 0 = agent_none held x k m low (λ o less. place.elsewhere o (λ same. omega arith)) in
    let put_is : (λ (o : ℕ). subst x a (held o)) ≡ put = (λ i. λ o. put_at o i) in
    let after : (j : ℕ) → subst x a (held_made (k + 1) ms held j) ≡ held_made (k + 1) ms put j =
    (λ j. subst_made x a (k + 1) ms held j ∙ ap (λ (h : ℕ → Tree). held_made (k + 1) ms h j) put_is) in
    let interface_is : map (subst x a) (ts ++ map (held_made (k + 1) ms held) is) ≡ ts ++ map (held_made (k + 1) ms put) is =
    map-append (subst x a) ts (map (held_made (k + 1) ms held) is)
    ∙ (let one = terms_absent x a ts (omega arith) in
    let two = subst_held x a (held_made (k + 1) ms held) (held_made (k + 1) ms put) is after in
    λ i. one i ++ two i) in
    let equations_is : map (subst_pair x a) (map (linked_terms (held_made (k + 1) ms held)) ls ++ es) ≡ map (linked_terms (held_made (k + 1) ms put)) ls ++ es =
    map-append (subst_pair x a) (map (linked_terms (held_made (k + 1) ms held)) ls) es
    ∙ (let one = subst_links x a (held_made (k + 1) ms held) (held_made (k + 1) ms put) ls after in
    let two = pairs_absent x a es (omega arith) in
    λ i. one i ++ two i) in
    let is_put : whole ≡ subst_in x a rest =
    (λ i. record { interface = sym interface_is i; equations = sym equations_is i; next = next }) in
    let later : List ℕ = flat_map (λ (n : Made). n.operands) ms ++ (flat_map link_operands ls ++ is) in
    let once : occurrences x (configuration_names rest) ≡ 1 =
    (let all = read_from_names x (held_made (k + 1) ms held) ts is ls es next in
    let made = made_names x (k + 1) ms held ls is used.1 (λ j high. place.elsewhere j (λ same. omega arith)) in
    let sum = sum_one (times x held) k later held_times in
    let one = used.0 in
    omega arith) in
    let gone : occurrences x (configuration_names whole) ≡ 0 =
    (let all = read_from_names x (held_made (k + 1) ms put) ts is ls es next in
    let absent : (o : ℕ) → times x put o ≡ 0 = put_none none_in_a in
    let made = made_names x (k + 1) ms put ls is used.1 (λ j high. absent j) in
    let sum = sum_none (times x put) later absent in
    omega arith) in
    let b : Binding = record { name = x; term = a } in
    let one = laws.taken whole rest (b ∷ []) next named is_put (once, tt) (gone, refl, place.low, tt) (omega arith) in
    let front : Configuration = record rest { equations = piece x a ∷ rest.equations } in
    let ordered : Configuration = read_from (held_made (k + 1) ms held) ts is ls (piece x a ∷ es) next in
    let two : OneNet front ordered =
    laws.order front ordered.equations one.names_too
    (IsPermutation-sym _ _ (IsPermutation-middle (map (linked_terms (held_made (k + 1) ms held)) ls) (piece x a) es)) in
    laws.through whole front ordered one two
  where
    put_at : (o : ℕ) → subst x (agent m.symbol (trees_of (map held m.operands))) (held o) ≡ held_with k (agent m.symbol (trees_of (map held m.operands))) held o
    put_at o = at (o == k) refl
      where
        at : (b : Bool) → (o == k) ≡ b → subst x (agent m.symbol (trees_of (map held m.operands))) (held o) ≡ cond b (agent m.symbol (trees_of (map held m.operands))) (held o)
        at true e =
            let same = (unsigned_Decides o k).0 e in
            ap (λ (j : ℕ). subst x (agent m.symbol (trees_of (map held m.operands))) (held j)) same
            ∙ (ap (subst x (agent m.symbol (trees_of (map held m.operands)))) place.is
            ∙ (rw (eq-eqb x x refl) refl))
        at false e =
            subst-absent x (agent m.symbol (trees_of (map held m.operands))) (held o)
            (place.elsewhere o (λ same. true_false (sym ((unsigned_Decides o k).1 same) ∙ e)))
          where
            true_false : true ≡ false → ⊥
            true_false e = cc

    held_times : (o : ℕ) → times x held o ≡ cond (o == k) 1 0
    held_times o = at (o == k) refl
      where
        at : (b : Bool) → (o == k) ≡ b → occurrences x (names (held o)) ≡ cond b 1 0
        at true e =
            let same = (unsigned_Decides o k).0 e in
            ap (λ (j : ℕ). occurrences x (names (held j))) same
            ∙ (ap (λ (t : Tree). occurrences x (names t)) place.is ∙ (rw (eq-eqb x x refl) refl))
        at false e = place.elsewhere o (λ same. true_false (sym ((unsigned_Decides o k).1 same) ∙ e))
          where
            true_false : true ≡ false → ⊥
            true_false e = cc

    put_none : occurrences x (names (agent m.symbol (trees_of (map held m.operands)))) ≡ 0 → (o : ℕ)
        → times x (held_with k (agent m.symbol (trees_of (map held m.operands))) held) o ≡ 0
    put_none none o = at (o == k) refl
      where
        at : (b : Bool) → (o == k) ≡ b → occurrences x (names (cond b (agent m.symbol (trees_of (map held m.operands))) (held o))) ≡ 0
        at true e = none
        at false e = place.elsewhere o (λ same. true_false (sym ((unsigned_Decides o k).1 same) ∙ e))
          where
            true_false : true ≡ false → ⊥
            true_false e = cc

-- All agents are taken out.
pub take_made : NetLaws → (arities : List ℕ) (ts : List Tree) (is : List ℕ) (ls : List Link) (next k : ℕ) (ms : List Made) (xs : List ℕ) (es : List Pair) (held : ℕ → Tree)
    → ArePlaces held ts es next k ms xs → UsedFrom k ms (flat_map link_operands ls ++ is) → AreMade arities k ms
    → HasNames (read_from (held_made k ms held) ts is ls es next)
    → OneNet (read_from (held_made k ms held) ts is ls es next)
    (record {
      interface = ts ++ map held is;
      equations = made_pieces held ms xs ++ (map (linked_terms held) ls ++ es);
      next = next;
    })
take_made laws arities ts is ls next k [] xs es held places used made named = laws.itself (read_from held ts is ls es next) named
take_made laws arities ts is ls next k (m ∷ ms) [] es held places used made named = absurd places
take_made laws arities ts is ls next k (m ∷ ms) (x ∷ xs) es held places used made named =
    let a : Tree = agent m.symbol (trees_of (map held m.operands)) in
    let start : Configuration = read_from (held_made k (m ∷ ms) held) ts is ls es next in
    let middle : Configuration = read_from (held_made (k + 1) ms held) ts is ls (piece x a ∷ es) next in
    let one : OneNet start middle = take_one laws ts is ls es next k x m ms held places.0 used made.0.2 named in
    let beside = places_beside held ts es next (k + 1) x k m ms xs places.0.is (omega arith) made.0.2 places.1 in
    let two = take_made laws arities ts is ls next (k + 1) ms xs (piece x a ∷ es) held beside used.1 made.1 one.names_too in
    let end : Configuration = record {
      interface = ts ++ map held is;
      equations = made_pieces held ms xs ++ (map (linked_terms held) ls ++ (piece x a ∷ es));
      next = next;
    } in
    let last : Configuration = record end { equations = piece x a ∷ (made_pieces held ms xs ++ (map (linked_terms held) ls ++ es)) } in
    let split : made_pieces held ms xs ++ (map (linked_terms held) ls ++ (piece x a ∷ es)) ≡ (made_pieces held ms xs ++ map (linked_terms held) ls) ++ (piece x a ∷ es) =
    sym (append_assoc (made_pieces held ms xs) (map (linked_terms held) ls) (piece x a ∷ es)) in
    let joined : piece x a ∷ ((made_pieces held ms xs ++ map (linked_terms held) ls) ++ es) ≡ last.equations =
    ap (λ l. piece x a ∷ l) (append_assoc (made_pieces held ms xs) (map (linked_terms held) ls) es) in
    let moved : IsPermutation end.equations last.equations =
    transport (λ l. IsPermutation l last.equations) (sym split)
    (transport (IsPermutation ((made_pieces held ms xs ++ map (linked_terms held) ls) ++ (piece x a ∷ es))) joined
    (IsPermutation-middle (made_pieces held ms xs ++ map (linked_terms held) ls) (piece x a) es)) in
    let three = laws.order end last.equations two.names_too moved in
    laws.through start middle last one (laws.through middle end last two three)
