-- Lemmas: where no equation of pieces is of a plan, the net is one with a quiet one.
use Rattle.std.proofs.Common.{◌≡◌, ℕ, ◌+◌, ◌-◌, ◌≤◌, ◌<◌, ◌==◌, List, [], ◌∷◌, ◌++◌, Bool, true, false, cond, Option, None, Some, IfSome, length, map, slice_get, sum_by, refl, sym, ap, ◌∙◌, eq-eqb, arith, inl, inr, subst as transport, true≢false as true_false}
use Rattle.std.proofs.lemmas.Bool.{ne_eqb}
use Rattle.std.proofs.lemmas.List.Sums.{sum_by-cons}
use Rattle.std.proofs.lemmas.List.Sorted.{IsPermutation-refl, IsPermutation-sym, IsPermutation-trans, IsPermutation-cons, IsPermutation-middle, sum_by-IsPermutation}
use Rattle.std.specs.List.{flat_map, AllByRecursion}
use Rattle.std.specs.Prelude.{IsPermutation, ◌↔◌}
use Rattle.ic_term.specs.Tree.{Tree, name, agent, no_trees, trees_of, names, Pair, pair_names}
use Rattle.ic_term.specs.Configuration.{Configuration, configuration_names, names_in, occurrences}
use Rattle.ic_rules.specs.Rule.{Rule}
use Rattle.ic_rules.specs.RuleSet.{Rules, IsRuleSet}
use Rattle.ic_settle.specs.Settling.{Binding}
use Rattle.ic_settle.specs.lemmas.SubstitutionLaws.{occurrences-append, occurrences-cons}
use Rattle.ic_round.specs.Naming.{HasNames}
use Rattle.ic_round.specs.Quiet.{IsQuiet}
use Rattle.ic_reaching.specs.OneNet.{OneNet}
use Rattle.ic_reaching.specs.Pieces.{piece_of}
use Rattle.ic_arena.specs.declared.word.Word.{Word}
use Rattle.ic_arena.specs.declared.word.TheConstants.{NAME, GIVEN}
use Rattle.ic_arena.specs.Word.{word_eq, count}
use Rattle.ic_arena.specs.Piece.{Piece, equated, idle, waits, agent_of, room, uses}
use Rattle.ic_machine.specs.Net.{IsPairPiece}
use Rattle.ic_machine.specs.Plan.{Plans, plan_of}
use Rattle.ic_machine.specs.Separate.{IsSeparate, is_constant_tag}
use Rattle.ic_meaning.specs.Words.{Numbers, AreNumbers, term}
use Rattle.ic_meaning.specs.Nets.{equations_of, net_of, ArePieces, holds, AreNetPieces, IsStuckPiece}
use Rattle.ic_meaning.specs.Plans.{ArePlansOf}
use Rattle.ic_meaning.proofs.Given.{NetLaws}
use Rattle.ic_meaning.specs.lemmas.Orders.{flat_order}
use Rattle.ic_meaning.specs.lemmas.Terms.{same_word, word_itself, flat_names}
use Rattle.ic_meaning.proofs.Ended.{BindsTo, Side, of_agent, of_name, of_free, HaveNoRule, Stuck, HeadsApart, in_bindings, Bound, to_quiet}
use Rattle.ic_meaning.specs.lemmas.Ruleless.{no_rule}

-- ---- what places are bound to, and the equations that are left

abbrev pub bindings_of : Numbers → List Piece → List Binding
bindings_of n [] = []
bindings_of n (equated l r ∷ ps) = bindings_of n ps
bindings_of n (idle x ∷ ps) = bindings_of n ps
bindings_of n (waits x u ∷ ps) = record { name = n.of_place x; term = term n u } ∷ bindings_of n ps
bindings_of n (agent_of a ws ∷ ps) = record { name = n.of_place a; term = agent (a.tag - 1) (trees_of (map (term n) ws)) } ∷ bindings_of n ps

abbrev pub equated_in : Numbers → List Piece → List Pair
equated_in n [] = []
equated_in n (equated l r ∷ ps) = record { left = term n l; right = term n r } ∷ equated_in n ps
equated_in n (idle x ∷ ps) = equated_in n ps
equated_in n (waits x u ∷ ps) = equated_in n ps
equated_in n (agent_of a ws ∷ ps) = equated_in n ps

parted : (n : Numbers) (ps : List Piece) → IsPermutation (flat_map (equations_of n) ps) (map piece_of (bindings_of n ps) ++ equated_in n ps)
parted n [] = IsPermutation-refl []
parted n (equated l r ∷ ps) =
    let e : Pair = record { left = term n l; right = term n r } in
    let bs : List Pair = map piece_of (bindings_of n ps) in
    IsPermutation-trans (e ∷ flat_map (equations_of n) ps) (e ∷ (bs ++ equated_in n ps)) (bs ++ (e ∷ equated_in n ps))
    (IsPermutation-cons e (flat_map (equations_of n) ps) (bs ++ equated_in n ps) (parted n ps))
    (IsPermutation-sym (bs ++ (e ∷ equated_in n ps)) (e ∷ (bs ++ equated_in n ps)) (IsPermutation-middle bs e (equated_in n ps)))
parted n (idle x ∷ ps) = parted n ps
parted n (waits x u ∷ ps) =
    IsPermutation-cons (record { left = name (n.of_place x); right = term n u }) (flat_map (equations_of n) ps) (map piece_of (bindings_of n ps) ++ equated_in n ps) (parted n ps)
parted n (agent_of a ws ∷ ps) =
    IsPermutation-cons (record { left = name (n.of_place a); right = agent (a.tag - 1) (trees_of (map (term n) ws)) }) (flat_map (equations_of n) ps) (map piece_of (bindings_of n ps) ++ equated_in n ps) (parted n ps)

counts_in_order : (m : ℕ) (ts : List Tree) (es fs : List Pair) → IsPermutation es fs → occurrences m (names_in ts fs) ≡ occurrences m (names_in ts es)
counts_in_order m ts es fs moved =
    let a = occurrences-append m (flat_map names ts) (flat_map pair_names es) in
    let b = occurrences-append m (flat_map names ts) (flat_map pair_names fs) in
    let c = sum_by-IsPermutation (λ k. cond (k == m) 1 0) (flat_map pair_names es) (flat_map pair_names fs) (flat_order pair_names es fs moved) in
    omega arith

-- ---- heads

apart_head : (n : Numbers) (x y : Word) → AreNumbers n → word_eq x y ≡ false → n.of_place y ≡ n.of_place x → ⊥
apart_head n x y sound other same = true_false (sym (sound.apart x y (sym same)) ∙ other)

no_one : (b : Bool) (k : ℕ) → cond {A = ℕ} b 1 0 + k ≡ 0 → b ≡ false
no_one true k e = absurd (omega arith)
no_one false k e = refl

heads_differ : (n : Numbers) (x : Word) (ps : List Piece) → AreNumbers n → sum_by (holds x) ps ≡ 0 → AllByRecursion (λ o. o.name ≡ n.of_place x → ⊥) (bindings_of n ps)
heads_differ n x [] sound none = tt
heads_differ n x (equated l r ∷ ps) sound none = heads_differ n x ps sound (let parts = sum_by-cons (holds x) (equated l r) ps in omega arith)
heads_differ n x (idle y ∷ ps) sound none = heads_differ n x ps sound (let parts = sum_by-cons (holds x) (idle y) ps in omega arith)
heads_differ n x (waits y u ∷ ps) sound none =
    let parts = sum_by-cons (holds x) (waits y u) ps in
    let other = no_one (word_eq x y) (sum_by (holds x) ps) (sym parts ∙ none) in
    (apart_head n x y sound other, heads_differ n x ps sound (omega arith))
heads_differ n x (agent_of y ws ∷ ps) sound none =
    let parts = sum_by-cons (holds x) (agent_of y ws) ps in
    let other = no_one (word_eq x y) (sum_by (holds x) ps) (sym parts ∙ none) in
    (apart_head n x y sound other, heads_differ n x ps sound (omega arith))

heads_apart : (n : Numbers) (ps : List Piece) → AreNumbers n → ((w : Word) → sum_by (holds w) ps ≤ 1) → HeadsApart (bindings_of n ps)
heads_apart n [] sound once = tt
heads_apart n (equated l r ∷ ps) sound once = heads_apart n ps sound (λ w. let few = once w in let parts = sum_by-cons (holds w) (equated l r) ps in omega arith)
heads_apart n (idle x ∷ ps) sound once = heads_apart n ps sound (λ w. let few = once w in let parts = sum_by-cons (holds w) (idle x) ps in omega arith)
heads_apart n (waits x u ∷ ps) sound once =
    let few = once x in
    let parts = sum_by-cons (holds x) (waits x u) ps in
    let here : ◌≡◌ {A = ℕ} (cond (word_eq x x) 1 0) 1 = rw (word_itself x) refl in
    (heads_differ n x ps sound (omega arith), heads_apart n ps sound (λ w. let few = once w in let parts = sum_by-cons (holds w) (waits x u) ps in omega arith))
heads_apart n (agent_of x ws ∷ ps) sound once =
    let few = once x in
    let parts = sum_by-cons (holds x) (agent_of x ws) ps in
    let here : ◌≡◌ {A = ℕ} (cond (word_eq x x) 1 0) 1 = rw (word_itself x) refl in
    (heads_differ n x ps sound (omega arith), heads_apart n ps sound (λ w. let few = once w in let parts = sum_by-cons (holds w) (agent_of x ws) ps in omega arith))

-- each binding is of a place
all_placed : (n : Numbers) (ps : List Piece) → AllByRecursion (λ b. (w : Word) × (b.name ≡ n.of_place w)) (bindings_of n ps)
all_placed n [] = tt
all_placed n (equated l r ∷ ps) = all_placed n ps
all_placed n (idle x ∷ ps) = all_placed n ps
all_placed n (waits x u ∷ ps) = ((x, refl), all_placed n ps)
all_placed n (agent_of a ws ∷ ps) = ((a, refl), all_placed n ps)

-- a name of a place occurs twice, since it is no free one
heads_twice : (n : Numbers) (total : ℕ → ℕ) (bs : List Binding) → AllByRecursion (λ b. (w : Word) × (b.name ≡ n.of_place w)) bs
    → ((m : ℕ) → occurrences m (flat_map pair_names (map piece_of bs)) ≤ total m) → ((m : ℕ) → total m ≤ 2) → ((w : Word) → total (n.of_place w) ≡ 1 → ⊥)
    → AllByRecursion (λ b. total b.name ≡ 2) bs
heads_twice n total [] placed inside few not_free = tt
heads_twice n total (b ∷ bs) placed inside few not_free =
    (twice, heads_twice n total bs placed.1 (λ m. let parts = occurrences-append m (b.name ∷ names b.term) (flat_map pair_names (map piece_of bs)) in let less = inside m in omega arith) few not_free)
  where
    twice : total b.name ≡ 2
    twice =
        let parts = occurrences-append b.name (b.name ∷ names b.term) (flat_map pair_names (map piece_of bs)) in
        let first = occurrences-cons b.name b.name (names b.term) in
        let itself : ◌≡◌ {A = ℕ} (cond (b.name == b.name) 1 0) 1 = rw (eq-eqb b.name b.name refl) refl in
        let less = inside b.name in
        let most = few b.name in
        let other : total b.name ≡ 1 → ⊥ = (λ one. not_free placed.0.0 (ap total (sym placed.0.1) ∙ one)) in
        omega arith

-- ---- stuck equations

bound_to : (n : Numbers) (w : Word) (a : ℕ) (ps : List Piece) → w.tag ≡ a + 1 → ArePieces n.arities ps → 1 ≤ sum_by (room w) ps → BindsTo (bindings_of n ps) (n.of_place w) a
bound_to n w a [] tag are some = absurd (omega arith)
bound_to n w a (equated l r ∷ ps) tag are some = bound_to n w a ps tag are.1 (let parts = sum_by-cons (room w) (equated l r) ps in omega arith)
bound_to n w a (idle x ∷ ps) tag are some =
    bound_to n w a ps tag are.1 (let parts = sum_by-cons (room w) (idle x) ps in
    let other : word_eq w x ≡ false = name_differs w x a tag are.0 in
    let none : ◌≡◌ {A = ℕ} (cond (word_eq w x) 2 0) 0 = rw other refl in omega arith)
  where
    name_differs : (w x : Word) (a : ℕ) → w.tag ≡ a + 1 → x.tag ≡ NAME → word_eq w x ≡ false
    name_differs w x a tag is = rw (ne_eqb w.tag x.tag (λ e. omega arith)) refl
bound_to n w a (waits x u ∷ ps) tag are some =
    inr (bound_to n w a ps tag are.1 (let parts = sum_by-cons (room w) (waits x u) ps in
    let other : word_eq w x ≡ false = name_differs w x a tag are.0 in
    let none : ◌≡◌ {A = ℕ} (cond (word_eq w x) 1 0) 0 = rw other refl in omega arith))
  where
    name_differs : (w x : Word) (a : ℕ) → w.tag ≡ a + 1 → x.tag ≡ NAME → word_eq w x ≡ false
    name_differs w x a tag is = rw (ne_eqb w.tag x.tag (λ e. omega arith)) refl
bound_to n w a (agent_of v ws ∷ ps) tag are some = at (word_eq w v) refl (λ more. bound_to n w a ps tag are.1 more)
  where
    at : (b : Bool) → word_eq w v ≡ b → (1 ≤ sum_by (room w) ps → BindsTo (bindings_of n ps) (n.of_place w) a)
        → BindsTo (record { name = n.of_place v; term = agent (v.tag - 1) (trees_of (map (term n) ws)) } ∷ bindings_of n ps) (n.of_place w) a
    at true e rest =
        let same = same_word w v e in
        let tags : v.tag ≡ a + 1 = ap (λ (u : Word). u.tag) (sym same) ∙ tag in
        let symbol : v.tag - 1 ≡ a = omega arith in
        inl (ap n.of_place (sym same), trees_of (map (term n) ws), ap (λ (s : ℕ). agent s (trees_of (map (term n) ws))) symbol)
    at false e rest =
        let parts = sum_by-cons (room w) (agent_of v ws) ps in
        let none : ◌≡◌ {A = ℕ} (cond (word_eq w v) 1 0) 0 = rw e refl in
        inr (rest (omega arith))

-- a word of a stuck equation, with its symbol
pub record WordSide (n : Numbers) (total : ℕ → ℕ) (bs : List Binding) (w : Word) : Type 0 where
  pub symbol : Option ℕ
  pub side : Side total bs (term n w) symbol
  pub tag : IfSome symbol (λ a. w.tag ≡ a + 1)

word_side : (n : Numbers) (total : ℕ → ℕ) (bs : List Binding) (w : Word) → (w.tag ≡ NAME → ⊥) → ((i x : ℕ) → slice_get n.given i ≡ Some x → total x ≡ 1)
    → (is_constant_tag n.arities w.tag ≡ false → BindsTo bs (n.of_place w) (w.tag - 1)) → WordSide n total bs w
word_side n total bs w tagged free bound = at (is_constant_tag n.arities w.tag) (w.tag == GIVEN) (slice_get n.given w.index) refl refl refl
  where
    symbol_tag : w.tag ≡ (w.tag - 1) + 1
    symbol_tag = let differ : w.tag ≡ 0 → ⊥ = tagged in omega arith

    at : (b c : Bool) (o : Option ℕ) → is_constant_tag n.arities w.tag ≡ b → (w.tag == GIVEN) ≡ c → slice_get n.given w.index ≡ o → WordSide n total bs w
    at false c o e f g =
        let is : term n w ≡ name (n.of_place w) = rw e refl in
        record {
          symbol = Some (w.tag - 1);
          side = transport (λ (t : Tree). Side total bs t (Some (w.tag - 1))) (sym is) (of_name (w.tag - 1) (n.of_place w) (bound e));
          tag = symbol_tag;
        }
    at true false o e f g =
        let is : term n w ≡ agent (w.tag - 1) no_trees = rw (e, f) refl in
        record {
          symbol = Some (w.tag - 1);
          side = transport (λ (t : Tree). Side total bs t (Some (w.tag - 1))) (sym is) (of_agent (w.tag - 1) no_trees);
          tag = symbol_tag;
        }
    at true true None e f g =
        let is : term n w ≡ agent (w.tag - 1) no_trees = rw (e, f, g) refl in
        record {
          symbol = Some (w.tag - 1);
          side = transport (λ (t : Tree). Side total bs t (Some (w.tag - 1))) (sym is) (of_agent (w.tag - 1) no_trees);
          tag = symbol_tag;
        }
    at true true (Some x) e f g =
        let is : term n w ≡ name x = rw (e, f, g) refl in
        record {
          symbol = None;
          side = transport (λ (t : Tree). Side total bs t None) (sym is) (of_free x (free w.index x g));
          tag = tt;
        }

no_rule_of : (rs : Rules) (numbers : List ℕ) (p : Plans) (l r : Word) (o q : Option ℕ) → IsRuleSet rs → ArePlansOf rs numbers p
    → ((a b : ℕ) → l.tag ≡ a + 1 → r.tag ≡ b + 1 → a < length p.arities → b < length p.arities → plan_of p a b ≡ None) → IfSome o (λ a. l.tag ≡ a + 1) → IfSome q (λ b. r.tag ≡ b + 1) → HaveNoRule rs.rules o q
no_rule_of rs numbers p l r None q set plans none left right = tt
no_rule_of rs numbers p l r (Some a) None set plans none left right = tt
no_rule_of rs numbers p l r (Some a) (Some b) set plans none left right = no_rule rs numbers p a b set plans (none a b left right)

-- a place that an equation names is bound
bound_word : (n : Numbers) (i : List Word) (whole : List Piece) (w : Word) → ArePieces n.arities whole → IsSeparate n.arities i whole → (w.tag ≡ NAME → ⊥)
    → 1 ≤ sum_by (uses w) whole → is_constant_tag n.arities w.tag ≡ false → BindsTo (bindings_of n whole) (n.of_place w) (w.tag - 1)
bound_word n i whole w are separate tagged used place =
    let differ : w.tag ≡ 0 → ⊥ = tagged in
    let few = separate.each w place in
    bound_to n w (w.tag - 1) whole (omega arith) are (omega arith)

left_used : (l r : Word) → 1 ≤ count l (l ∷ r ∷ [])
left_used l r =
    let first : count l (l ∷ r ∷ []) ≡ cond (word_eq l l) 1 0 + count l (r ∷ []) = sum_by-cons (λ u. cond (word_eq l u) 1 0) l (r ∷ []) in
    let here : ◌≡◌ {A = ℕ} (cond (word_eq l l) 1 0) 1 = rw (word_itself l) refl in
    omega arith

right_used : (l r : Word) → 1 ≤ count r (l ∷ r ∷ [])
right_used l r =
    let first : count r (l ∷ r ∷ []) ≡ cond (word_eq r l) 1 0 + count r (r ∷ []) = sum_by-cons (λ u. cond (word_eq r u) 1 0) l (r ∷ []) in
    let second : count r (r ∷ []) ≡ cond (word_eq r r) 1 0 + 0 = sum_by-cons (λ u. cond (word_eq r u) 1 0) r [] in
    let here : ◌≡◌ {A = ℕ} (cond (word_eq r r) 1 0) 1 = rw (word_itself r) refl in
    omega arith

all_stuck : (rs : Rules) (numbers : List ℕ) (p : Plans) (n : Numbers) (i : List Word) (total : ℕ → ℕ) (whole ps : List Piece) → IsRuleSet rs → ArePlansOf rs numbers p
    → ((j x : ℕ) → slice_get n.given j ≡ Some x → total x ≡ 1) → ArePieces n.arities whole → IsSeparate n.arities i whole
    → ((w : Word) → sum_by (uses w) ps ≤ sum_by (uses w) whole) → AllByRecursion (IsStuckPiece p) ps
    → AllByRecursion (Stuck rs.rules total (bindings_of n whole)) (equated_in n ps)
all_stuck rs numbers p n i total whole [] set plans free are separate inside stuck = tt
all_stuck rs numbers p n i total whole (equated l r ∷ ps) set plans free are separate inside stuck =
    let of_left = left_used l r in
    let of_right = right_used l r in
    let less_left = inside l in
    let less_right = inside r in
    let parts_left = sum_by-cons (uses l) (equated l r) ps in
    let parts_right = sum_by-cons (uses r) (equated l r) ps in
    let left = word_side n total (bindings_of n whole) l stuck.0.left free (bound_word n i whole l are separate stuck.0.left (omega arith)) in
    let right = word_side n total (bindings_of n whole) r stuck.0.right free (bound_word n i whole r are separate stuck.0.right (omega arith)) in (
      record {
        left_symbol = left.symbol;
        right_symbol = right.symbol;
        left = left.side;
        right = right.side;
        none = no_rule_of rs numbers p l r left.symbol right.symbol set plans stuck.0.no_plan left.tag right.tag;
      },
      all_stuck rs numbers p n i total whole ps set plans free are separate
          (λ w. let less = inside w in let parts = sum_by-cons (uses w) (equated l r) ps in omega arith) stuck.1,
    )
all_stuck rs numbers p n i total whole (idle x ∷ ps) set plans free are separate inside stuck =
    all_stuck rs numbers p n i total whole ps set plans free are separate (λ w. let less = inside w in let parts = sum_by-cons (uses w) (idle x) ps in omega arith) stuck.1
all_stuck rs numbers p n i total whole (waits x u ∷ ps) set plans free are separate inside stuck =
    all_stuck rs numbers p n i total whole ps set plans free are separate (λ w. let less = inside w in let parts = sum_by-cons (uses w) (waits x u) ps in omega arith) stuck.1
all_stuck rs numbers p n i total whole (agent_of a ws ∷ ps) set plans free are separate inside stuck =
    all_stuck rs numbers p n i total whole ps set plans free are separate (λ w. let less = inside w in let parts = sum_by-cons (uses w) (agent_of a ws) ps in omega arith) stuck.1

-- ---- the net

-- a net in pieces is one with this, if its equations are stuck for the rules
pub record Parted (rs : List Rule) (n : Numbers) (i : List Word) (ps : List Piece) : Type 0 where
  pub first : OneNet (net_of n i ps) (in_bindings (map (term n) i) (bindings_of n ps) [] (equated_in n ps) (net_of n i ps).next)
  pub bound : Bound rs (λ m. occurrences m (configuration_names (net_of n i ps)))
      (in_bindings (map (term n) i) (bindings_of n ps) [] (equated_in n ps) (net_of n i ps).next) (bindings_of n ps) [] (equated_in n ps)

abbrev pub total_of : Numbers → List Word → List Piece → ℕ → ℕ
total_of n i ps m = occurrences m (configuration_names (net_of n i ps))

pub in_parts : (laws : NetLaws) (rs : List Rule) (n : Numbers) (i : List Word) (ps : List Piece) → AreNumbers n → AreNetPieces n.arities i ps → HasNames (net_of n i ps)
    → ((x : ℕ) → (occurrences x (configuration_names (net_of n i ps)) ≡ 1) ↔ ((j : ℕ) × (slice_get n.given j ≡ Some x)))
    → (((j x : ℕ) → slice_get n.given j ≡ Some x → total_of n i ps x ≡ 1) → AllByRecursion (Stuck rs (total_of n i ps) (bindings_of n ps)) (equated_in n ps))
    → Parted rs n i ps
in_parts laws rs n i ps sound are named free stuck =
    let c : Configuration = net_of n i ps in
    let total : ℕ → ℕ = λ m. occurrences m (configuration_names c) in
    let bs : List Binding = bindings_of n ps in
    let ss : List Pair = equated_in n ps in
    let d : Configuration = in_bindings (map (term n) i) bs [] ss c.next in
    let order = parted n ps in
    let first : OneNet c d = laws.order c d.equations named order in
    let same : (m : ℕ) → occurrences m (configuration_names d) ≡ total m = (λ m. counts_in_order m (map (term n) i) c.equations d.equations order) in
    let inside : (m : ℕ) → occurrences m (flat_map pair_names (map piece_of bs)) ≤ total m =
    (λ m. let is = same m in
    let a = occurrences-append m (flat_map names (map (term n) i)) (flat_map pair_names (map piece_of bs ++ ss)) in
    let b = ap (occurrences m) (flat_names (map piece_of bs) ss) ∙ occurrences-append m (flat_map pair_names (map piece_of bs)) (flat_map pair_names ss) in
    omega arith) in
    let given_once : (j x : ℕ) → slice_get n.given j ≡ Some x → total x ≡ 1 = (λ j x is. (free x).1 (j, is)) in
    let not_free : (w : Word) → total (n.of_place w) ≡ 1 → ⊥ = (λ w one. let found = (free (n.of_place w)).0 one in sound.not_given found.0 (n.of_place w) w found.1 refl) in
    record {
      first = first;
      bound = record {
        counts = λ m some. same m;
        heads = heads_twice n total bs (all_placed n ps) inside named.twice not_free;
        apart = heads_apart n ps sound are.once;
        circles = tt;
        stuck = stuck given_once;
      };
    }

pub quiet_net : NetLaws → (rs : Rules) (numbers : List ℕ) (p : Plans) (n : Numbers) (i : List Word) (ps : List Piece) → IsRuleSet rs → ArePlansOf rs numbers p → AreNumbers n
    → AreNetPieces n.arities i ps → HasNames (net_of n i ps) → AllByRecursion (IsStuckPiece p) ps
    → ((x : ℕ) → (occurrences x (configuration_names (net_of n i ps)) ≡ 1) ↔ ((j : ℕ) × (slice_get n.given j ≡ Some x)))
    → (e : Configuration) × OneNet (net_of n i ps) e × IsQuiet rs.rules e
quiet_net laws rs numbers p n i ps set plans sound are named stuck free =
    let c : Configuration = net_of n i ps in
    let bs : List Binding = bindings_of n ps in
    let ss : List Pair = equated_in n ps in
    let d : Configuration = in_bindings (map (term n) i) bs [] ss c.next in
    let parts = in_parts laws rs.rules n i ps sound are named free
    (λ given_once. all_stuck rs numbers p n i (total_of n i ps) ps ps set plans given_once are.each are.separate (λ w. omega arith) stuck) in
    let end = to_quiet laws rs.rules (total_of n i ps) (length bs) (map (term n) i) bs [] ss c.next refl parts.first.names_too parts.bound in
    (end.0, laws.through c d end.0 parts.first end.1, end.2)

-- ---- pairs, whatever their rules

pairs_stuck : (n : Numbers) (i : List Word) (total : ℕ → ℕ) (whole ps : List Piece)
    → ((j x : ℕ) → slice_get n.given j ≡ Some x → total x ≡ 1) → ArePieces n.arities whole → IsSeparate n.arities i whole
    → ((w : Word) → sum_by (uses w) ps ≤ sum_by (uses w) whole) → AllByRecursion IsPairPiece ps
    → AllByRecursion (Stuck [] total (bindings_of n whole)) (equated_in n ps)
pairs_stuck n i total whole [] free are separate inside pairs = tt
pairs_stuck n i total whole (equated l r ∷ ps) free are separate inside pairs =
    let of_left = left_used l r in
    let of_right = right_used l r in
    let less_left = inside l in
    let less_right = inside r in
    let parts_left = sum_by-cons (uses l) (equated l r) ps in
    let parts_right = sum_by-cons (uses r) (equated l r) ps in
    let left = word_side n total (bindings_of n whole) l pairs.0.0 free (bound_word n i whole l are separate pairs.0.0 (omega arith)) in
    let right = word_side n total (bindings_of n whole) r pairs.0.1 free (bound_word n i whole r are separate pairs.0.1 (omega arith)) in (
      record {
        left_symbol = left.symbol;
        right_symbol = right.symbol;
        left = left.side;
        right = right.side;
        none = no_rules left.symbol right.symbol;
      },
      pairs_stuck n i total whole ps free are separate
          (λ w. let less = inside w in let parts = sum_by-cons (uses w) (equated l r) ps in omega arith) pairs.1,
    )
  where
    no_rules : (o q : Option ℕ) → HaveNoRule [] o q
    no_rules None q = tt
    no_rules (Some a) None = tt
    no_rules (Some a) (Some b) = refl
pairs_stuck n i total whole (idle x ∷ ps) free are separate inside pairs =
    pairs_stuck n i total whole ps free are separate (λ w. let less = inside w in let parts = sum_by-cons (uses w) (idle x) ps in omega arith) pairs.1
pairs_stuck n i total whole (waits x u ∷ ps) free are separate inside pairs =
    pairs_stuck n i total whole ps free are separate (λ w. let less = inside w in let parts = sum_by-cons (uses w) (waits x u) ps in omega arith) pairs.1
pairs_stuck n i total whole (agent_of a ws ∷ ps) free are separate inside pairs =
    pairs_stuck n i total whole ps free are separate (λ w. let less = inside w in let parts = sum_by-cons (uses w) (agent_of a ws) ps in omega arith) pairs.1

pub pairs_in_parts : (laws : NetLaws) (n : Numbers) (i : List Word) (ps : List Piece) → AreNumbers n → AreNetPieces n.arities i ps → HasNames (net_of n i ps)
    → ((x : ℕ) → (occurrences x (configuration_names (net_of n i ps)) ≡ 1) ↔ ((j : ℕ) × (slice_get n.given j ≡ Some x)))
    → AllByRecursion IsPairPiece ps → Parted [] n i ps
pairs_in_parts laws n i ps sound are named free pairs =
    in_parts laws [] n i ps sound are named free (λ given_once. pairs_stuck n i (total_of n i ps) ps ps given_once are.each are.separate (λ w. omega arith) pairs)
