-- Lemmas: where a net is over symbols, each given name in it has a number.
use Rattle.std.proofs.Common.{◌≡◌, ℕ, zero, suc, ◌+◌, ◌-◌, ◌<◌, ◌≤◌, ◌==◌, ◌&&◌, List, [], ◌∷◌, ◌++◌, Bool, true, false, Option, None, IsTrue, length, map, cond, slice_get, sum_by, refl, sym, ap, ◌∙◌, arith, subst as transport}
use Rattle.std.specs.Cmp.{unsigned_Decides}
use Rattle.std.specs.List.{flat_map, list_all}
use Rattle.std.specs.Option.{option_map_or}
use Rattle.std.proofs.lemmas.Bool.{false≢true, and_parts}
use Rattle.std.proofs.lemmas.List.Sums.{sum_by-cons}
use Rattle.ic_term.specs.Tree.{Tree, name, agent, no_trees, trees_of}
use Rattle.ic_term.specs.Symbol.{Symbol, has_arity, is_tree_over, are_trees_over, is_pair_over, is_over}
use Rattle.ic_arena.specs.declared.word.Word.{Word}
use Rattle.ic_arena.specs.declared.word.TheConstants.{GIVEN}
use Rattle.ic_arena.specs.Word.{word_eq, count}
use Rattle.ic_arena.specs.Piece.{Piece, equated, idle, waits, agent_of, uses}
use Rattle.ic_machine.specs.Separate.{is_constant_tag}
use Rattle.ic_meaning.specs.Words.{Numbers, constant, term}
use Rattle.ic_meaning.specs.Nets.{net_of, equations_of}
use Rattle.ic_in_place.proofs.Naming.{eq_words}

trees_over : (ss : List Symbol) (ts : List Tree) → are_trees_over ss (trees_of ts) ≡ list_all (is_tree_over ss) ts
trees_over ss [] = refl
trees_over ss (t ∷ ts) = ap (λ b. is_tree_over ss t && b) (trees_over ss ts)

list_all_front : {X : Type 0} (f : X → Bool) (xs ys : List X) → list_all f (xs ++ ys) ≡ true → (list_all f xs ≡ true) × (list_all f ys ≡ true)
list_all_front f [] ys all = (refl, all)
list_all_front f (x ∷ xs) ys all =
    let parts = and_parts (f x) (list_all f (xs ++ ys)) all in
    let rest = list_all_front f xs ys parts.1 in
    ((λ i. parts.0 i && rest.0 i), rest.1)

this_or_later : (ss : List Symbol) (n : Numbers) (w v : Word) (others : ℕ) → is_tree_over ss (term n v) ≡ true → 1 ≤ cond (word_eq w v) 1 0 + others
    → (1 ≤ others → is_tree_over ss (term n w) ≡ true) → is_tree_over ss (term n w) ≡ true
this_or_later ss n w v others over some later = by (word_eq w v) refl
  where
    by : (b : Bool) → word_eq w v ≡ b → is_tree_over ss (term n w) ≡ true
    by true is = transport (λ (x : Word). is_tree_over ss (term n x) ≡ true) (sym (eq_words w v is)) over
    by false is = later (omega (arith, some, ap {B = ℕ} (λ (t : Bool). cond t 1 0) is))

-- a word that is named among words whose terms are over symbols
named_over : (ss : List Symbol) (n : Numbers) (w : Word) (ws : List Word) → list_all (is_tree_over ss) (map (term n) ws) ≡ true → 1 ≤ count w ws → is_tree_over ss (term n w) ≡ true
named_over ss n w [] all some = absurd (omega (arith, some))
named_over ss n w (v ∷ vs) all some =
    let parts = and_parts (is_tree_over ss (term n v)) (list_all (is_tree_over ss) (map (term n) vs)) all in
    this_or_later ss n w v (count w vs) parts.0 (transport (λ k. 1 ≤ k) (sum_by-cons (λ x. cond (word_eq w x) 1 0) v vs) some) (λ more. named_over ss n w vs parts.1 more)

either : {X : Type 0} (a b : ℕ) → 1 ≤ a + b → (1 ≤ a → X) → (1 ≤ b → X) → X
either zero b some one two = two (omega (arith, some))
either (suc a) b some one two = one (omega arith)

slice_get_past : {X : Type 0} (xs : List X) (i : ℕ) → length xs ≤ i → slice_get xs i ≡ None
slice_get_past [] i past = refl
slice_get_past (x ∷ xs) zero past = absurd (omega (arith, past))
slice_get_past (x ∷ xs) (suc i) past = slice_get_past xs i (omega (arith, past))

-- the same among the words that a piece uses
used_over : (ss : List Symbol) (n : Numbers) (w : Word) (p : Piece) → list_all (is_pair_over ss) (equations_of n p) ≡ true → 1 ≤ uses w p → is_tree_over ss (term n w) ≡ true
used_over ss n w (equated l r) all some =
    let sides = and_parts (is_tree_over ss (term n l)) (is_tree_over ss (term n r)) (and_parts (is_pair_over ss (record { left = term n l; right = term n r })) true all).0 in
    named_over ss n w (l ∷ r ∷ []) (λ i. sides.0 i && (sides.1 i && true)) some
used_over ss n w (idle x) all some = absurd (omega (arith, some))
used_over ss n w (waits x u) all some =
    let sides = and_parts (is_tree_over ss (name (n.of_place x))) (is_tree_over ss (term n u)) (and_parts (is_pair_over ss (record { left = name (n.of_place x); right = term n u })) true all).0 in
    named_over ss n w (u ∷ []) (λ i. sides.1 i && true) some
used_over ss n w (agent_of a vs) all some =
    let right : Tree = agent (a.tag - 1) (trees_of (map (term n) vs)) in
    let sides = and_parts (is_tree_over ss (name (n.of_place a))) (is_tree_over ss right) (and_parts (is_pair_over ss (record { left = name (n.of_place a); right = right })) true all).0 in
    let args = and_parts _ (are_trees_over ss (trees_of (map (term n) vs))) sides.1 in
    named_over ss n w vs (sym (trees_over ss (map (term n) vs)) ∙ args.1) some

pieces_over : (ss : List Symbol) (n : Numbers) (w : Word) (ps : List Piece) → list_all (is_pair_over ss) (flat_map (equations_of n) ps) ≡ true → 1 ≤ sum_by (uses w) ps
    → is_tree_over ss (term n w) ≡ true
pieces_over ss n w [] all some = absurd (omega (arith, some))
pieces_over ss n w (p ∷ ps) all some =
    let parts = list_all_front (is_pair_over ss) (equations_of n p) (flat_map (equations_of n) ps) all in
    either (uses w p) (sum_by (uses w) ps) (transport (λ k. 1 ≤ k) (sum_by-cons (uses w) p ps) some)
    (λ here. used_over ss n w p parts.0 here) (λ later. pieces_over ss n w ps parts.1 later)

given_constant : (arities : List ℕ) → length arities < GIVEN → is_constant_tag arities GIVEN ≡ true
given_constant arities few = ap (λ (o : Option ℕ). option_map_or (λ k. k == 0) o true) (slice_get_past arities 4294967292 (omega (arith, few)))

no_symbol : (ss : List Symbol) → length ss < GIVEN → has_arity 0 (slice_get ss (GIVEN - 1)) ≡ false
no_symbol ss few = ap (has_arity 0) (slice_get_past ss (GIVEN - 1) (omega (arith, few)))

-- the term of a given name that has no number is no term over symbols
unknown : (ss : List Symbol) (n : Numbers) (w : Word) → length ss < GIVEN → length n.arities < GIVEN → w.tag ≡ GIVEN → slice_get n.given w.index ≡ None
    → is_tree_over ss (term n w) ≡ true → ⊥
unknown ss n w few few_too tag none over =
    let constant_tag : is_constant_tag n.arities w.tag ≡ true = ap (is_constant_tag n.arities) tag ∙ given_constant n.arities few_too in
    let given : (w.tag == GIVEN) ≡ true = (unsigned_Decides w.tag GIVEN).1 tag in
    let is : term n w ≡ agent (GIVEN - 1) no_trees =
    ap (λ b. cond b (constant n w) (name (n.of_place w))) constant_tag
    ∙ ap (λ b. cond b (option_map_or name (slice_get n.given w.index) (agent (w.tag - 1) no_trees)) (agent (w.tag - 1) no_trees)) given
    ∙ ap (λ (o : Option ℕ). option_map_or name o (agent (w.tag - 1) no_trees)) none
    ∙ ap (λ t. agent (t - 1) no_trees) tag in
    let known = and_parts (has_arity 0 (slice_get ss (GIVEN - 1))) true (sym (ap (is_tree_over ss) is) ∙ over) in
    false≢true (sym (no_symbol ss few) ∙ known.0)

within : (xs : List ℕ) (i : ℕ) → (slice_get xs i ≡ None → ⊥) → i < length xs
within [] i some = absurd (some refl)
within (x ∷ xs) zero some = omega arith
within (x ∷ xs) (suc i) some = let later = within xs i some in omega (arith, later)

pub in_range : (ss : List Symbol) (n : Numbers) (i : List Word) (ps : List Piece) → length ss < GIVEN → length n.arities < GIVEN → IsTrue (is_over ss (net_of n i ps))
    → (w : Word) → w.tag ≡ GIVEN → 1 ≤ count w i + sum_by (uses w) ps → w.index < length n.given
in_range ss n i ps few few_too over w tag some =
    let parts = and_parts (list_all (is_tree_over ss) (map (term n) i)) (list_all (is_pair_over ss) (flat_map (equations_of n) ps)) over in
    within n.given w.index (λ none. unknown ss n w few few_too tag none
    (either (count w i) (sum_by (uses w) ps) some (λ here. named_over ss n w i parts.0 here) (λ later. pieces_over ss n w ps parts.1 later)))
