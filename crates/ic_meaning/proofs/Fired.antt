-- Lemmas: a plan that stands for a rule fires ds the rule does.
use Rattle.std.proofs.Common.{◌≡◌, ℕ, zero, suc, ◌+◌, ◌<◌, ◌==◌, List, [], ◌∷◌, ◌++◌, Bool, true, false, cond, Some, length, map, slice_get, sum_by, refl, sym, ap, ◌∙◌, eq-eqb, arith, subst as transport}
use Rattle.std.proofs.lemmas.Bool.{and_parts}
use Rattle.std.proofs.lemmas.List.Sums.{sum_by-cons}
use Rattle.std.proofs.lemmas.List.Sorted.{IsPermutation-refl, IsPermutation-append_comm}
use Rattle.std.specs.Cmp.{unsigned_Decides}
use Rattle.std.specs.List.{flat_map, AllByRecursion}
use Rattle.std.specs.Prelude.{IsPermutation}
use Rattle.std.proofs.lemmas.Grind.{flat_map-append as flat_parts}
use Rattle.ic_term.specs.Tree.{Tree, name, agent, trees_of, list_of, names, names_of, Pair, pair_names}
use Rattle.ic_term.specs.Configuration.{Configuration, configuration_names, occurrences}
use Rattle.ic_term.specs.lemmas.TreeLaws.{list_of-trees_of}
use Rattle.ic_rules.specs.Renaming.{renamed}
use Rattle.ic_rules.specs.Rule.{Rule}
use Rattle.ic_settle.specs.lemmas.SubstitutionLaws.{occurrences-append}
use Rattle.ic_round.specs.Naming.{HasNames}
use Rattle.ic_round.specs.Firing.{Active, oriented, against}
use Rattle.ic_reaching.specs.OneNet.{OneNet}
use Rattle.ic_reaching.specs.FreshNames.{products_with}
use Rattle.ic_arena.specs.declared.word.Word.{Word}
use Rattle.ic_arena.specs.Word.{agent_word, word_eq, count}
use Rattle.ic_arena.specs.Piece.{Piece, equated, agent_with, room, uses}
use Rattle.ic_arena.specs.Tables.{register}
use Rattle.ic_machine.specs.Separate.{IsSeparate, is_constant_tag}
use Rattle.ic_machine.specs.Steps.{AreFresh}
use Rattle.ic_machine.specs.lemmas.FiresKeep.{agent_uses, agent_room, sum_of_pair}
use Rattle.ic_meaning.specs.Words.{Numbers, AreNumbers, term}
use Rattle.ic_meaning.specs.Nets.{equations_of, net_of}
use Rattle.ic_meaning.specs.Plans.{Argument, arguments_from, matched, met_as}
use Rattle.ic_meaning.proofs.Given.{NetLaws}
use Rattle.ic_meaning.specs.lemmas.Terms.{word_itself, words_names, pieces_names}
use Rattle.ic_meaning.proofs.Filled.{filled_renamed}
use Rattle.ic_meaning.proofs.Registers.{counted}
use Rattle.ic_meaning.proofs.Wholes.{with_equations, brought, put_agent}
use Rattle.ic_settle.specs.lemmas.PutEach.{names_of-trees_of}

-- ---- two agents that meet

abbrev pub agent_term : Numbers → ℕ → List Word → Tree
agent_term n s ws = agent s (trees_of (map (term n) ws))

abbrev pub meeting : Numbers → ℕ → List Word → ℕ → List Word → Pair
meeting n l ls r rs = record { left = agent_term n l ls; right = agent_term n r rs }

pub to_meeting : NetLaws → (n : Numbers) (i : List Word) (xs rest : List Piece) (l p r q : ℕ) (ls rs : List Word) → AreNumbers n
    → slice_get n.arities l ≡ Some (length ls) → slice_get n.arities r ≡ Some (length rs)
    → HasNames (net_of n i xs)
    → IsPermutation xs (equated (agent_word l p) (agent_word r q) ∷ (agent_with (agent_word l p) ls ++ (agent_with (agent_word r q) rs ++ rest)))
    → OneNet (net_of n i xs) (with_equations n i (meeting n l ls r rs ∷ flat_map (equations_of n) rest) (net_of n i xs).next)
to_meeting laws n i xs rest l p r q ls rs sound la ra named moved =
    let e : Piece → List Pair = equations_of n in
    let c : Configuration = net_of n i xs in
    let left : Word = agent_word l p in
    let right : Word = agent_word r q in
    let a : List Piece = agent_with left ls in
    let b : List Piece = agent_with right rs in
    let es : List Pair = flat_map e rest in
    let first = brought laws n i xs (equated left right ∷ []) (a ++ (b ++ rest)) named moved in
    let split : flat_map e (a ++ (b ++ rest)) ≡ flat_map e a ++ (flat_map e b ++ es) =
    flat_parts e a (b ++ rest) ∙ ap (λ k. flat_map e a ++ k) (flat_parts e b rest) in
    let one : Configuration = with_equations n i (record { left = term n left; right = term n right } ∷ (flat_map e a ++ (flat_map e b ++ es))) c.next in
    let to_one : OneNet c one =
    transport (λ k. OneNet c (with_equations n i (record { left = term n left; right = term n right } ∷ k) c.next)) split first in
    let step = put_agent laws n i l p ls (term n right) (flat_map e b ++ es) c.next sound la to_one.names_too in
    let two : Configuration = with_equations n i (record { left = agent_term n l ls; right = term n right } ∷ (flat_map e b ++ es)) c.next in
    let three : Configuration = with_equations n i (record { left = term n right; right = agent_term n l ls } ∷ (flat_map e b ++ es)) c.next in
    let turn = laws.turned two (record { left = agent_term n l ls; right = term n right }) (flat_map e b ++ es) step.names_too (IsPermutation-refl two.equations) in
    let step_too = put_agent laws n i r q rs (agent_term n l ls) es c.next sound ra turn.names_too in
    let four : Configuration = with_equations n i (record { left = agent_term n r rs; right = agent_term n l ls } ∷ es) c.next in
    let five : Configuration = with_equations n i (meeting n l ls r rs ∷ es) c.next in
    let turn_back = laws.turned four (record { left = agent_term n r rs; right = agent_term n l ls }) es step_too.names_too (IsPermutation-refl four.equations) in
    laws.through c one five to_one (laws.through one two five step (laws.through two three five turn (laws.through three four five step_too turn_back)))

-- ---- places that nothing names

pub free_place : (n : Numbers) (i : List Word) (xs rest : List Piece) (l p r q : ℕ) (ls rs : List Word) (w : Word)
    → IsSeparate n.arities i xs → is_constant_tag n.arities w.tag ≡ false
    → IsPermutation xs (equated (agent_word l p) (agent_word r q) ∷ (agent_with (agent_word l p) ls ++ (agent_with (agent_word r q) rs ++ rest)))
    → sum_by (room w) rest ≡ 0
    → (count w i ≡ 0) × (count w ls ≡ 0) × (count w rs ≡ 0) × (sum_by (uses w) rest ≡ 0)
free_place n i xs rest l p r q ls rs w separate place moved free =
    let left : Word = agent_word l p in
    let right : Word = agent_word r q in
    let before = separate.each w place in
    let ux = sum_of_pair (uses w) xs (equated left right) (agent_with left ls) (agent_with right rs) rest moved in
    let rx = sum_of_pair (room w) xs (equated left right) (agent_with left ls) (agent_with right rs) rest moved in
    let ul = agent_uses w left ls in
    let ur = agent_uses w right rs in
    let rl = agent_room w left ls in
    let rr = agent_room w right rs in
    let both : count w (left ∷ right ∷ []) ≡ cond (word_eq w left) 1 0 + count w (right ∷ []) = sum_by-cons (λ u. cond (word_eq w u) 1 0) left (right ∷ []) in
    let a : count w i ≡ 0 = omega arith in
    let b : count w ls ≡ 0 = omega arith in
    let c : count w rs ≡ 0 = omega arith in
    let d : sum_by (uses w) rest ≡ 0 = omega arith in
    (a, b, c, d)

-- such a place has no name in the net of two agents that meet
pub free_name : (n : Numbers) (i : List Word) (rest : List Piece) (l r next : ℕ) (ls rs : List Word) (w : Word) → AreNumbers n
    → is_constant_tag n.arities w.tag ≡ false
    → (count w i ≡ 0) × (count w ls ≡ 0) × (count w rs ≡ 0) × (sum_by (uses w) rest ≡ 0) → sum_by (room w) rest ≡ 0
    → occurrences (n.of_place w) (configuration_names (with_equations n i (meeting n l ls r rs ∷ flat_map (equations_of n) rest) next)) ≡ 0
free_name n i rest l r next ls rs w sound place none free =
    let x : ℕ = n.of_place w in
    let ts : List Tree = map (term n) i in
    let es : List Pair = flat_map (equations_of n) rest in
    let lt : List ℕ = names_of (trees_of (map (term n) ls)) in
    let rt : List ℕ = names_of (trees_of (map (term n) rs)) in
    let of_i = words_names n i w sound place in
    let of_ls = ap (occurrences x) (names_of-trees_of (map (term n) ls)) ∙ words_names n ls w sound place in
    let of_rs = ap (occurrences x) (names_of-trees_of (map (term n) rs)) ∙ words_names n rs w sound place in
    let of_rest = pieces_names n rest w sound place in
    let one = occurrences-append x (flat_map names ts) ((lt ++ rt) ++ flat_map pair_names es) in
    let two = occurrences-append x (lt ++ rt) (flat_map pair_names es) in
    let three = occurrences-append x lt rt in
    let a = none.0 in
    let b = none.1 in
    let c = none.2 in
    let d = none.3 in
    omega arith

pub fresh_room : (ws : List Word) (rest : List Piece) → AreFresh ws rest → AllByRecursion (λ w. sum_by (room w) rest ≡ 0) ws
fresh_room [] rest fresh = tt
fresh_room (w ∷ ws) rest fresh = (fresh.0, fresh_room ws rest fresh.2)

pub fresh_once : (ws : List Word) (rest : List Piece) → AreFresh ws rest → (j : ℕ) → j < length ws → count (register ws j) ws ≡ 1
fresh_once [] rest fresh j low = absurd (omega arith)
fresh_once (w ∷ ws) rest fresh zero low =
    let first : count w (w ∷ ws) ≡ cond (word_eq w w) 1 0 + count w ws = sum_by-cons (λ u. cond (word_eq w u) 1 0) w ws in
    let here : ◌≡◌ {A = ℕ} (cond (word_eq w w) 1 0) 1 = rw (word_itself w) refl in
    let none = fresh.1 in
    omega arith
fresh_once (w ∷ ws) rest fresh (suc j) low =
    let v : Word = register ws j in
    let inside : j < length ws = omega arith in
    let first : count v (w ∷ ws) ≡ cond (word_eq v w) 1 0 + count v ws = sum_by-cons (λ u. cond (word_eq v u) 1 0) w ws in
    let once = fresh_once ws rest fresh.2 j inside in
    let none = fresh.1 in
    let here : ◌≡◌ {A = ℕ} (cond (word_eq v w) 1 0) 0 = at (word_eq v w) refl inside none in
    omega arith
  where
    at : (b : Bool) → word_eq (register ws j) w ≡ b → j < length ws → count w ws ≡ 0 → ◌≡◌ {A = ℕ} (cond b 1 0) 0
    at false e inside none = refl
    at true e inside none =
        let both = and_parts ((register ws j).tag == w.tag) ((register ws j).index == w.index) e in
        let tags = (unsigned_Decides (register ws j).tag w.tag).0 both.0 in
        let places = (unsigned_Decides (register ws j).index w.index).0 both.1 in
        let same : word_eq w (register ws j) ≡ true = rw (eq-eqb w.tag (register ws j).tag (sym tags), eq-eqb w.index (register ws j).index (sym places)) refl in
        let some = counted w ws j inside same in
        absurd (omega arith)

-- ---- the products of a rule, against what registers hold

pub arguments_parts : (k : ℕ) (ts us : List Tree) → arguments_from k (ts ++ us) ≡ arguments_from k ts ++ arguments_from (k + length ts) us
arguments_parts k [] us = let same : k ≡ k + 0 = omega arith in ap (λ (j : ℕ). arguments_from j us) same
arguments_parts k (t ∷ ts) us =
    let same : (k + 1) + length ts ≡ k + suc (length ts) = omega arith in
    ap (λ l. record { register = k; term = t } ∷ l)
    (arguments_parts (k + 1) ts us ∙ ap (λ (j : ℕ). arguments_from (k + 1) ts ++ arguments_from j us) same)

against_matched : (n : Numbers) (held : ℕ → Tree) (own : ℕ → ℕ) (k : ℕ) (ws : List Word) (ts : List Tree) → length ws ≡ length ts
    → ((j : ℕ) → j < length ws → held (k + j) ≡ term n (register ws j))
    → against (map (term n) ws) (map (renamed own) ts) ≡ map (matched held (λ x. name (own x))) (arguments_from k ts)
against_matched n held own k [] [] same is = refl
against_matched n held own k (w ∷ ws) (t ∷ ts) same is =
    let zero_is : k + 0 ≡ k = omega arith in
    let here : term n w ≡ held k = sym (ap held (sym zero_is) ∙ is 0 (omega arith)) in
    let rest = against_matched n held own (k + 1) ws ts (omega arith)
    (λ j low. let next : (k + 1) + j ≡ k + suc j = omega arith in ap held next ∙ is (suc j) (omega arith)) in
    let right = filled_renamed own t in
    λ i. record { left = here i; right = right i } ∷ rest i
against_matched n held own k _ _ same is = absurd (omega arith)

map_parts : (f : Argument → Pair) (ds bs : List Argument) → map f (ds ++ bs) ≡ map f ds ++ map f bs
map_parts f [] bs = refl
map_parts f (a ∷ ds) bs = ap (λ l. f a ∷ l) (map_parts f ds bs)

joined_arguments : (f : Argument → Pair) (k m : ℕ) (ts us : List Tree) → m ≡ length ts
    → map f (arguments_from k ts) ++ map f (arguments_from (k + m) us) ≡ map f (arguments_from k (ts ++ us))
joined_arguments f k m ts us e =
    ap (λ (j : ℕ). map f (arguments_from k ts) ++ map f (arguments_from (k + j) us)) e
    ∙ (sym (map_parts f (arguments_from k ts) (arguments_from (k + length ts) us)) ∙ ap (map f) (sym (arguments_parts k ts us)))

-- the products are the arguments against those of the rule, ds the agents meet it
pub products_matched : (n : Numbers) (held : ℕ → Tree) (own : ℕ → ℕ) (k l r : ℕ) (ls rs : List Word) (turned : Bool) (rule : Rule) (place : ℕ) (rules : List Rule) (active : Active)
    → slice_get rules place ≡ Some rule
    → oriented (agent_term n l ls) (agent_term n r rs) (Some (place, turned)) ≡ Some active
    → length ls ≡ length (met_as turned rule).left_args → length rs ≡ length (met_as turned rule).right_args
    → ((j : ℕ) → j < length ls → held (k + j) ≡ term n (register ls j))
    → ((j : ℕ) → j < length rs → held ((k + length ls) + j) ≡ term n (register rs j))
    → IsPermutation (products_with rules own active)
    (map (matched held (λ x. name (own x))) (arguments_from k ((met_as turned rule).left_args ++ (met_as turned rule).right_args)))
products_matched n held own k l r ls rs false rule place rules active there is left_length right_length left_is right_is =
    let a : Active = record { rule = place; left = agent_term n l ls; right = agent_term n r rs } in
    let same : a ≡ active = cc in
    let f : Argument → Pair = matched held (λ x. name (own x)) in
    let one : products_with rules own a ≡ against (list_of (trees_of (map (term n) ls))) (map (renamed own) rule.left_args)
    ++ against (list_of (trees_of (map (term n) rs))) (map (renamed own) rule.right_args) = rw there refl in
    let left = ap (λ ts. against ts (map (renamed own) rule.left_args)) (list_of-trees_of (map (term n) ls)) ∙ against_matched n held own k ls rule.left_args left_length left_is in
    let right = ap (λ ts. against ts (map (renamed own) rule.right_args)) (list_of-trees_of (map (term n) rs)) ∙ against_matched n held own (k + length ls) rs rule.right_args right_length right_is in
    let both : against (list_of (trees_of (map (term n) ls))) (map (renamed own) rule.left_args)
    ++ against (list_of (trees_of (map (term n) rs))) (map (renamed own) rule.right_args)
    ≡ map f (arguments_from k rule.left_args) ++ map f (arguments_from (k + length ls) rule.right_args) = (λ i. left i ++ right i) in
    let joined = joined_arguments f k (length ls) rule.left_args rule.right_args left_length in
    transport (IsPermutation (products_with rules own active)) (ap (products_with rules own) (sym same) ∙ (one ∙ (both ∙ joined))) (IsPermutation-refl (products_with rules own active))
products_matched n held own k l r ls rs true rule place rules active there is left_length right_length left_is right_is =
    let a : Active = record { rule = place; left = agent_term n r rs; right = agent_term n l ls } in
    let same : a ≡ active = cc in
    let f : Argument → Pair = matched held (λ x. name (own x)) in
    let one : products_with rules own a ≡ against (list_of (trees_of (map (term n) rs))) (map (renamed own) rule.left_args)
    ++ against (list_of (trees_of (map (term n) ls))) (map (renamed own) rule.right_args) = rw there refl in
    let left = ap (λ ts. against ts (map (renamed own) rule.right_args)) (list_of-trees_of (map (term n) ls)) ∙ against_matched n held own k ls rule.right_args left_length left_is in
    let right = ap (λ ts. against ts (map (renamed own) rule.left_args)) (list_of-trees_of (map (term n) rs)) ∙ against_matched n held own (k + length ls) rs rule.left_args right_length right_is in
    let both : against (list_of (trees_of (map (term n) rs))) (map (renamed own) rule.left_args)
    ++ against (list_of (trees_of (map (term n) ls))) (map (renamed own) rule.right_args)
    ≡ map f (arguments_from (k + length ls) rule.left_args) ++ map f (arguments_from k rule.right_args) = (λ i. right i ++ left i) in
    let joined = joined_arguments f k (length ls) rule.right_args rule.left_args left_length in
    transport (IsPermutation (products_with rules own active)) joined
    (transport (λ l. IsPermutation l (map f (arguments_from k rule.right_args) ++ map f (arguments_from (k + length ls) rule.left_args)))
    (sym (ap (products_with rules own) (sym same) ∙ (one ∙ both)))
    (IsPermutation-append_comm (map f (arguments_from (k + length ls) rule.left_args)) (map f (arguments_from k rule.right_args))))
