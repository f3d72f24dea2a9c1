-- Lemmas: where a generation is broken off, its other pairs may be taken, too.
use Rattle.std.proofs.Common.{◌≡◌, ◌⊎◌, inl, inr, ℕ, zero, suc, ◌+◌, ◌-◌, ◌≤◌, ◌<◌, ◌==◌, ◌&&◌, List, [], ◌∷◌, ◌++◌, Bool, true, false, cond, Option, None, Some, length, map, slice_get, sum_by, refl, sym, ap, ◌∙◌, arith, subst as transport}
use Rattle.std.proofs.lemmas.Bool.{cases_lt, ne_eqb}
use Rattle.std.proofs.lemmas.List.Sums.{sum_by-append, sum_by-cons}
use Rattle.std.proofs.lemmas.List.Sorted.{IsPermutation-refl, IsPermutation-trans, IsPermutation-cons, IsPermutation-append_right, sum_by-IsPermutation}
use Rattle.std.proofs.lemmas.Option.{slice_get-get_or}
use Rattle.std.specs.Prelude.{IsPermutation, get_or}
use Rattle.std.specs.List.{AllByRecursion}
use Rattle.ic_rules.specs.RuleSet.{Rules}
use Rattle.ic_round.specs.lemmas.AnyOrder.{each_permuted as all_order}
use Rattle.ic_arena.specs.declared.word.Word.{Word}
use Rattle.ic_arena.specs.declared.word.TheConstants.{NAME}
use Rattle.ic_arena.specs.Word.{agent_word, word_eq, count}
use Rattle.ic_arena.specs.Piece.{Piece, equated, idle, waits, agent_of, agent_with, room, uses}
use Rattle.ic_machine.specs.declared.equation.Equation.{Equation}
use Rattle.ic_machine.specs.Generations.{FiresPair, Takes, ended, fires, stays}
use Rattle.ic_machine.specs.Net.{equated_of, IsActive, IsPair, IsStuck}
use Rattle.ic_machine.specs.Plan.{Made, Planned, Plans, constants, number_of, pieces_made, plan_at, plan_of}
use Rattle.ic_machine.specs.Separate.{is_constant_tag}
use Rattle.ic_machine.specs.Steps.{AreFresh, Steps, no_step}
use Rattle.ic_machine.specs.lemmas.FiresKeep.{agent_room}
use Rattle.ic_meaning.specs.Words.{Numbers}
use Rattle.ic_meaning.specs.Nets.{AreNetPieces, ArePieces, IsAgentOf, IsPiece}
use Rattle.ic_meaning.specs.lemmas.Orders.{all_back}
use Rattle.ic_meaning.specs.lemmas.Terms.{agent_tag, same_word, word_itself}
use Rattle.ic_meaning.proofs.Going.{GoingLaws, Plain, Stands, equated_room, moved_stands, stands_3}
use Rattle.ic_meaning.proofs.Removed.{two_first}

-- ---- fresh words

-- words with these tags, numbered from one on
abbrev words_from : ℕ → List ℕ → List Word
words_from k [] = []
words_from k (t ∷ ts) = record { tag = t; index = k } ∷ words_from (suc k) ts

abbrev name_tags : ℕ → List ℕ
name_tags zero = []
name_tags (suc n) = NAME ∷ name_tags n

names_many : (k n : ℕ) → length (words_from k (name_tags n)) ≡ n
names_many k zero = refl
names_many k (suc n) = ap suc (names_many (suc k) n)

names_tagged : (k n : ℕ) → AllByRecursion (λ w. w.tag ≡ NAME) (words_from k (name_tags n))
names_tagged k zero = tt
names_tagged k (suc n) = (refl, names_tagged (suc k) n)

words_tagged : (k : ℕ) (ts : List ℕ) → map (λ w. w.tag) (words_from k ts) ≡ ts
words_tagged k [] = refl
words_tagged k (t ∷ ts) = ap (λ l. t ∷ l) (words_tagged (suc k) ts)

words_many : (k : ℕ) (ms : List Made) → length (words_from k (map (λ m. m.symbol + 1) ms)) ≡ length ms
words_many k [] = refl
words_many k (m ∷ ms) = ap suc (words_many (suc k) ms)

words_append : (k n : ℕ) (us : List ℕ) → words_from k (name_tags n ++ us) ≡ words_from k (name_tags n) ++ words_from (n + k) us
words_append k zero us = let same : k ≡ 0 + k = omega arith in ap (λ (j : ℕ). words_from j us) same
words_append k (suc n) us =
    let same : n + suc k ≡ suc n + k = omega arith in
    ap (λ l. record { tag = NAME; index = k } ∷ l)
    (words_append (suc k) n us ∙ ap (λ (j : ℕ). words_from (suc k) (name_tags n) ++ words_from j us) same)

tag_apart : (v w : Word) → (v.tag ≡ w.tag → ⊥) → word_eq v w ≡ false
tag_apart v w apart = rw (ne_eqb v.tag w.tag apart) refl

number_apart : (v w : Word) → (v.index ≡ w.index → ⊥) → word_eq v w ≡ false
number_apart v w apart = ap (λ (t : Bool). v.tag == w.tag && t) (ne_eqb v.index w.index apart) ∙ no_and (v.tag == w.tag)
  where
    no_and : (b : Bool) → (b && false) ≡ false
    no_and true = refl
    no_and false = refl

words_apart : (w : Word) (k : ℕ) (ts : List ℕ) → w.index < k → count w (words_from k ts) ≡ 0
words_apart w k [] low = refl
words_apart w k (t ∷ ts) low =
    let v : Word = record { tag = t; index = k } in
    let first : count w (v ∷ words_from (suc k) ts) ≡ cond (word_eq w v) 1 0 + count w (words_from (suc k) ts) = sum_by-cons (λ u. cond (word_eq w u) 1 0) v (words_from (suc k) ts) in
    let here : ◌≡◌ {A = ℕ} (cond (word_eq w v) 1 0) 0 = rw (number_apart w v (λ same. omega (arith, same, low))) refl in
    let rest = words_apart w (suc k) ts (omega (arith, low)) in
    omega (arith, first, here, rest)

number_in : Piece → ℕ
number_in (equated l r) = 0
number_in (idle x) = x.index
number_in (waits x u) = x.index
number_in (agent_of a ws) = a.index

-- a number above those of all places
above : List Piece → ℕ
above [] = 0
above (x ∷ xs) = suc (number_in x) + above xs

no_room : (w : Word) (x : Piece) → number_in x < w.index → room w x ≡ 0
unfolding number_in
no_room w (equated l r) low = refl
no_room w (idle x) low = rw (number_apart w x (λ same. omega (arith, same, low))) refl
no_room w (waits x u) low = rw (number_apart w x (λ same. omega (arith, same, low))) refl
no_room w (agent_of a ws) low = rw (number_apart w a (λ same. omega (arith, same, low))) refl

no_rooms : (w : Word) (ps : List Piece) → above ps ≤ w.index → sum_by (room w) ps ≡ 0
unfolding above
no_rooms w [] low = refl
no_rooms w (x ∷ ps) low =
    let first = sum_by-cons (room w) x ps in
    let here = no_room w x (omega (arith, low)) in
    let rest = no_rooms w ps (omega (arith, low)) in
    omega (arith, first, here, rest)

are_fresh : (k : ℕ) (ts : List ℕ) (ps : List Piece) → above ps ≤ k → AreFresh (words_from k ts) ps
are_fresh k [] ps low = tt
are_fresh k (t ∷ ts) ps low =
    let v : Word = record { tag = t; index = k } in
    (no_rooms v ps low, words_apart v (suc k) ts (omega arith), are_fresh (suc k) ts ps (omega (arith, low)))

-- ---- the agents of a pair are among the pieces

-- an agent with as many arguments, taken out of pieces
abbrev Out : Word → ℕ → List Piece → Type 0
Out w a ps = (ws : List Word) × (rest : List Piece) × IsPermutation ps (agent_of w ws ∷ rest) × (length ws ≡ a)

out_later : (w : Word) (a : ℕ) (x : Piece) (ps : List Piece) → Out w a ps → Out w a (x ∷ ps)
out_later w a x ps out = (
  out.0,
  x ∷ out.1,
  IsPermutation-trans (x ∷ ps) (x ∷ agent_of w out.0 ∷ out.1) (agent_of w out.0 ∷ x ∷ out.1) (IsPermutation-cons x ps (agent_of w out.0 ∷ out.1) out.2) (two_first x (agent_of w out.0) out.1),
  out.3,
)

agent_out : (arities : List ℕ) (w : Word) (s a : ℕ) (ps : List Piece) → w.tag ≡ s + 1 → slice_get arities s ≡ Some a → ArePieces arities ps → 1 ≤ sum_by (room w) ps → Out w a ps
agent_out arities w s a [] tag known are one = absurd (omega (arith, one))
agent_out arities w s a (equated l r ∷ ps) tag known are one =
    let first = sum_by-cons (room w) (equated l r) ps in
    out_later w a (equated l r) ps (agent_out arities w s a ps tag known are.1 (omega (arith, first, one)))
agent_out arities w s a (idle x ∷ ps) tag known are one =
    let first = sum_by-cons (room w) (idle x) ps in
    let none : ◌≡◌ {A = ℕ} (room w (idle x)) 0 = rw (tag_apart w x (λ same. let named : x.tag ≡ 0 = are.0 in omega (arith, same, tag, named))) refl in
    out_later w a (idle x) ps (agent_out arities w s a ps tag known are.1 (omega (arith, first, none, one)))
agent_out arities w s a (waits x u ∷ ps) tag known are one =
    let first = sum_by-cons (room w) (waits x u) ps in
    let none : ◌≡◌ {A = ℕ} (room w (waits x u)) 0 = rw (tag_apart w x (λ same. let named : x.tag ≡ 0 = are.0 in omega (arith, same, tag, named))) refl in
    out_later w a (waits x u) ps (agent_out arities w s a ps tag known are.1 (omega (arith, first, none, one)))
agent_out arities w s a (agent_of b ws ∷ ps) tag known are one = by (word_eq w b) refl (λ some. agent_out arities w s a ps tag known are.1 some)
  where
    first : sum_by (room w) (agent_of b ws ∷ ps) ≡ cond (word_eq w b) 1 0 + sum_by (room w) ps
    first = sum_by-cons (room w) (agent_of b ws) ps

    by : (t : Bool) → word_eq w b ≡ t → (1 ≤ sum_by (room w) ps → Out w a ps) → Out w a (agent_of b ws ∷ ps)
    by false is again = out_later w a (agent_of b ws) ps (again (let none : ◌≡◌ {A = ℕ} (cond (word_eq w b) 1 0) 0 = rw is refl in omega (arith, first, none, one)))
    by true is again =
        let same : w ≡ b = same_word w b is in
        let agent : IsAgentOf arities b.tag (length ws) = are.0 in
        let tags : w.tag ≡ b.tag = ap (λ (v : Word). v.tag) same in
        let symbols : s ≡ agent.symbol = let its = agent.is in omega (arith, tag, tags, its) in
        let long : a ≡ length ws = let both : Some a ≡ Some (length ws) = sym known ∙ (ap (slice_get arities) symbols ∙ agent.known) in cc (both) in (
          ws,
          ps,
          transport (λ (v : Word). IsPermutation (agent_of b ws ∷ ps) (agent_of v ws ∷ ps)) (sym same) (IsPermutation-refl (agent_of b ws ∷ ps)),
          sym long,
        )

-- the same, where one without arguments has no piece
abbrev Apart : Word → ℕ → List Piece → Type 0
Apart w a ps = (ws : List Word) × (rest : List Piece) × IsPermutation ps (agent_with w ws ++ rest) × (length ws ≡ a)

agent_apart : (arities : List ℕ) (w : Word) (s a : ℕ) (ps : List Piece) → w.tag ≡ s + 1 → slice_get arities s ≡ Some a → ArePieces arities ps → (1 ≤ a → 1 ≤ sum_by (room w) ps) → Apart w a ps
agent_apart arities w s zero ps tag known are one = ([], ps, IsPermutation-refl ps, refl)
agent_apart arities w s (suc a) ps tag known are one = by (agent_out arities w s (suc a) ps tag known are (one (omega arith)))
  where
    by : Out w (suc a) ps → Apart w (suc a) ps
    by ([], rest, moved, long) = absurd (omega (arith, long))
    by (v ∷ vs, rest, moved, long) = (v ∷ vs, rest, moved, long)

-- ---- a pair fires

-- a tag of an agent with arguments is one of a place
places_agent : (arities : List ℕ) (s a : ℕ) → slice_get arities s ≡ Some a → 1 ≤ a → is_constant_tag arities (s + 1) ≡ false
places_agent arities s a known some = agent_tag arities (s + 1) a (record { symbol = s; is = refl; known = known; some = some })

two_used : (w l r : Word) → count w (l ∷ r ∷ []) ≡ cond (word_eq w l) 1 0 + cond (word_eq w r) 1 0
two_used w l r =
    let first : count w (l ∷ r ∷ []) ≡ cond (word_eq w l) 1 0 + count w (r ∷ []) = sum_by-cons (λ u. cond (word_eq w u) 1 0) l (r ∷ []) in
    let second : count w (r ∷ []) ≡ cond (word_eq w r) 1 0 + count w [] = sum_by-cons (λ u. cond (word_eq w u) 1 0) r [] in
    let nothing : count w [] ≡ 0 = refl in
    omega (arith, first, second, nothing)

-- a place that a pair names has a piece
room_of_pair : (arities : List ℕ) (i : List Word) (e : Equation) (es : List Equation) (xs : List Piece) (w : Word) → AreNetPieces arities i (map equated_of (e ∷ es) ++ xs) → is_constant_tag arities w.tag ≡ false
    → cond (word_eq w e.left) 1 0 + cond (word_eq w e.right) 1 0 ≤ sum_by (room w) xs
room_of_pair arities i e es xs w are place =
    let few = are.separate.each w place in
    let used = sum_by-cons (uses w) (equated_of e) (map equated_of es ++ xs) in
    let two = two_used w e.left e.right in
    let rooms = sum_by-append (room w) (map equated_of (e ∷ es)) xs in
    let none = equated_room w (e ∷ es) in
    omega (arith, few, used, two, rooms, none)

has_number : (ps : List Planned) (o : Option ℕ) (plan : Planned) → plan_at ps o ≡ Some plan → (k : ℕ) × (o ≡ Some k) × (slice_get ps k ≡ Some plan)
has_number ps None plan is = cc
has_number ps (Some k) plan is = (k, refl, is)

-- what a pair comes to as it fires
abbrev FiredPair : Plans → Equation → List Piece → Type 0
FiredPair p e xs = (k : ℕ) × (ys : List Piece) × FiresPair p e k (equated_of e ∷ xs) ys

words_fire : (p : Plans) (i : List Word) (s t a b : ℕ) (plan : Planned) (es : List Equation) (xs : List Piece) → s < length p.arities → t < length p.arities → plan_of p s t ≡ Some plan
    → AreNetPieces p.arities i (map equated_of (record { left = agent_word s a; right = agent_word t b } ∷ es) ++ xs) → FiredPair p (record { left = agent_word s a; right = agent_word t b }) xs
words_fire p i s t a b plan es xs low also is are =
    let e : Equation = record { left = agent_word s a; right = agent_word t b } in
    let l = e.left in
    let r = e.right in
    let left_arity = slice_get-get_or p.arities s 0 low in
    let right_arity = slice_get-get_or p.arities t 0 also in
    let pieces : ArePieces p.arities xs = all_back (IsPiece p.arities) (map equated_of (e ∷ es)) xs are.each in
    let left = agent_apart p.arities l s (get_or p.arities s 0) xs refl left_arity pieces
    (λ some. let rooms = room_of_pair p.arities i e es xs l are (places_agent p.arities s (get_or p.arities s 0) left_arity some) in
    let here : ◌≡◌ {A = ℕ} (cond (word_eq l l) 1 0) 1 = rw (word_itself l) refl in omega (arith, rooms, here)) in
    let front = agent_with l left.0 in
    let others : ArePieces p.arities left.1 = all_back (IsPiece p.arities) front left.1 (all_order (IsPiece p.arities) xs (front ++ left.1) left.2 pieces) in
    let right = agent_apart p.arities r t (get_or p.arities t 0) left.1 refl right_arity others
    (λ some. let rooms = room_of_pair p.arities i e es xs r are (places_agent p.arities t (get_or p.arities t 0) right_arity some) in
    let here : ◌≡◌ {A = ℕ} (cond (word_eq r r) 1 0) 1 = rw (word_itself r) refl in
    let all = sum_by-IsPermutation (room r) xs (front ++ left.1) left.2 in
    let parts = sum_by-append (room r) front left.1 in
    let own = agent_room r l left.0 in
    omega (arith, rooms, here, all, parts, own)) in
    let rest = right.1 in
    let back = agent_with r right.0 in
    let number = has_number p.plans (number_of p s t) plan is in
    let k = above rest in
    let names = words_from k (name_tags plan.names) in
    let tags = map (λ m. m.symbol + 1) plan.made in
    let made = words_from (plan.names + k) tags in
    let registers = constants (length p.arities) ++ (left.0 ++ (right.0 ++ (names ++ made))) in
    let ys = pieces_made plan registers names made ++ rest in (
      number.0,
      ys,
      record {
        fires = record {
          left = s;
          right = t;
          left_place = a;
          right_place = b;
          left_args = left.0;
          right_args = right.0;
          plan = plan;
          names = names;
          made = made;
          rest = rest;
          number = number.1;
          has_plan = number.2;
          left_arity = left_arity ∙ ap (λ (m : ℕ). Some m) (sym left.3);
          right_arity = right_arity ∙ ap (λ (m : ℕ). Some m) (sym right.3);
          given = IsPermutation-cons (equated l r) xs (front ++ (back ++ rest)) (IsPermutation-trans xs (front ++ left.1) (front ++ (back ++ rest)) left.2 (IsPermutation-append_right front left.1 (back ++ rest) right.2));
          names_count = names_many k plan.names;
          made_count = words_many (plan.names + k) plan.made;
          name_tags = names_tagged k plan.names;
          made_tags = words_tagged (plan.names + k) tags;
          fresh = transport (λ l. AreFresh l rest) (words_append k plan.names tags) (are_fresh k (name_tags plan.names ++ tags) rest (omega arith));
          result = IsPermutation-refl ys;
        };
        left = refl;
        right = refl;
      },
    )

pair_fires : (p : Plans) (i : List Word) (e : Equation) (es : List Equation) (xs : List Piece) → IsActive p e → AreNetPieces p.arities i (map equated_of (e ∷ es) ++ xs) → FiredPair p e xs
pair_fires p i e es xs active are =
    let same : e ≡ record { left = agent_word active.left e.left.index; right = agent_word active.right e.right.index } =
    λ j. record { left = record { tag = active.left_tag j; index = e.left.index }; right = record { tag = active.right_tag j; index = e.right.index } } in
    transport (λ (z : Equation). FiredPair p z xs) (sym same)
    (words_fire p i active.left active.right e.left.index e.right.index active.plan es xs active.left_known active.right_known active.is
    (transport (λ (z : Equation). AreNetPieces p.arities i (map equated_of (z ∷ es) ++ xs)) same are))

-- ---- each pair fires or is stuck

symbol_of : (w : Word) → (w.tag ≡ NAME → ⊥) → w.tag ≡ (w.tag - 1) + 1
symbol_of w tagged = let differ : w.tag ≡ 0 → ⊥ = tagged in omega arith

by_symbols : (p : Plans) (e : Equation) (l r : ℕ) → IsPair e → e.left.tag ≡ l + 1 → e.right.tag ≡ r + 1 → (l < length p.arities) ⊎ (length p.arities ≤ l) → (r < length p.arities) ⊎ (length p.arities ≤ r)
    → (o : Option Planned) → plan_of p l r ≡ o → IsActive p e ⊎ IsStuck p e
by_symbols p e l r pair left right (inl low) (inl also) (Some plan) is =
    inl (record { left = l; right = r; left_tag = left; right_tag = right; left_known = low; right_known = also; plan = plan; is = is })
by_symbols p e l r pair left right (inl low) (inl also) None is = inr (record {
  left = pair.0;
  right = pair.1;
  no_plan = λ a b one two few too.
      let first : a ≡ l = omega (arith, left, one) in
      let second : b ≡ r = omega (arith, right, two) in
      (λ j. plan_of p (first j) (second j)) ∙ is;
})
by_symbols p e l r pair left right (inr high) other o is = inr (record {
  left = pair.0;
  right = pair.1;
  no_plan = λ a b one two few too. absurd (omega (arith, left, one, few, high));
})
by_symbols p e l r pair left right (inl low) (inr high) o is = inr (record {
  left = pair.0;
  right = pair.1;
  no_plan = λ a b one two few too. absurd (omega (arith, right, two, too, high));
})

active_or_stuck : (p : Plans) (e : Equation) → IsPair e → IsActive p e ⊎ IsStuck p e
active_or_stuck p e pair =
    let l = e.left.tag - 1 in
    let r = e.right.tag - 1 in
    by_symbols p e l r pair (symbol_of e.left pair.0) (symbol_of e.right pair.1) (cases_lt l (length p.arities)) (cases_lt r (length p.arities)) (plan_of p l r) refl

-- ---- all of them are taken

pub takes_all : GoingLaws → (rs : Rules) (numbers : List ℕ) (p : Plans) (n : Numbers) (i : List Word) → Plain rs numbers p n → (left : List Equation) (xs : List Piece) → AllByRecursion IsPair left
    → Stands rs n i (map equated_of left ++ xs) → (fired : List ℕ) × (ys : List Piece) × Takes p left [] fired xs ys
takes_all laws rs numbers p n i given [] xs pairs s = ([], xs, ended [] [] xs xs (IsPermutation-refl []) (no_step xs xs (IsPermutation-refl xs)))
takes_all laws rs numbers p n i given (e ∷ es) xs pairs s = by (active_or_stuck p e pairs.0)
    (λ zs stands. takes_all laws rs numbers p n i given es zs pairs.1 stands)
  where
    still : (zs : List Piece) → Steps p [] zs zs
    still zs = no_step zs zs (IsPermutation-refl zs)

    by : IsActive p e ⊎ IsStuck p e
        → ((zs : List Piece) → Stands rs n i (map equated_of es ++ zs) → (fired : List ℕ) × (ys : List Piece) × Takes p es [] fired zs ys)
        → (fired : List ℕ) × (ys : List Piece) × Takes p (e ∷ es) [] fired xs ys
    by (inl active) again =
        let are = transport (λ (l : List ℕ). AreNetPieces l i (map equated_of (e ∷ es) ++ xs)) given.same s.pieces in
        let fired = pair_fires p i e es xs active are in
        let k = fired.0 in
        let zs = fired.1 in
        let moved = IsPermutation-refl (e ∷ es) in
        let stands = stands_3 laws rs numbers p n i given e (e ∷ es) es k [] xs xs zs zs zs s moved (still xs) fired.2 (still zs) in
        let rest = again zs stands in
        (k ∷ rest.0, rest.1, fires e (e ∷ es) es [] k rest.0 xs xs zs rest.1 moved (still xs) fired.2 rest.2)
    by (inr stuck) again =
        let moved = IsPermutation-refl (e ∷ es) in
        let stands = moved_stands laws rs numbers p n i e (e ∷ es) es xs given s moved in
        let rest = again (equated_of e ∷ xs) stands in
        (rest.0, rest.1, stays e (e ∷ es) es [] rest.0 xs xs rest.1 moved (still xs) stuck rest.2)
