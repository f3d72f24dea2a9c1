-- The pass over the equations: what it keeps from one equation to the next.
use Rattle.std.proofs.Common.{◌≡◌, ℕ, suc, ◌+◌, ◌*◌, ◌<◌, ◌≤◌, ◌==◌, List, [], ◌∷◌, ◌++◌, true, false, cond, Option, None, Some, is_some, option_map, length, map, get_or, refl, sym, ap, ◌∙◌, append_assoc, append-nil, length-append, eq-eqb, inl, inr, arith, subst as transport}
use Rattle.std.proofs.lemmas.Bool.{ne_eqb, false_from_ne_true}
use Rattle.std.proofs.lemmas.List.{map-append, length-map}
use Rattle.std.specs.List.{remove}
use Rattle.std.specs.Option.{option_map_or, option_to_list}
use Rattle.ic_term.specs.Tree.{Tree, name, agent, Pair, names, pair_names}
use Rattle.ic_term.specs.Configuration.{Configuration, IsConfiguration, configuration_names, names_in, occurrences}
use Rattle.ic_settle.specs.declared.applicability.Side.{Side}
use Rattle.ic_settle.specs.declared.applicability.Side.TheVariants.{Left, Right}
use Rattle.ic_settle.specs.declared.applicability.Applicable.{Applicable}
use Rattle.ic_settle.specs.declared.applicability.Outlet.{Outlet}
use Rattle.ic_settle.specs.Settling.{Binding, Choice, occurs, subst_pair, subst_in, binding, first_choice, applied, Binds}
use Rattle.ic_settle.specs.Sides.{other_side, bound_by}
use Rattle.ic_settle.specs.Bindings.{is_name, replacement, replaced_by, replaced_in, replaced}
use Rattle.ic_settle.specs.lemmas.Waiting.{look, put_each, put_each_pair, bound, here, IsDelayed, IsTop, IsAdded, Resolves}
use Rattle.ic_settle.specs.lemmas.Containers.{IsRoot, noted_from, elsewhere, outlet, applicable_of, redirected}
use Rattle.ic_settle.specs.lemmas.Passed.{put_in, IsPassed, bound_sides}
use Rattle.ic_settle.specs.lemmas.SubstitutionLaws.{occurrences-append}
use Rattle.ic_settle.specs.lemmas.MiddleLaws.{occurrences-middle}
use Rattle.ic_settle.specs.lemmas.StepLaws.{occurrences-binds, once_outside, itself_once}
use Rattle.ic_settle.specs.lemmas.ChoiceLaws.{binding_binds, first_choice-passed}
use Rattle.ic_settle.specs.lemmas.Settles.{Settles, choice_here, settles-start, settles-skip, settles-step, settles-end}
use Rattle.ic_settle.specs.lemmas.Replaced.{zip_middle, remove_middle, stopped}
use Rattle.ic_settle.specs.lemmas.PutEach.{put_each-unbound, map_put, map_put_pair, map_put_none, map_put_pair_none, bound-cons, counted_no, occurrences-exact_pair, occurrences-exact_in}
use Rattle.ic_settle.specs.lemmas.Delays.{delays-fewer, delays-bind}
use Rattle.ic_settle.specs.lemmas.Spots.{spots_from, IsPlaced, placed_all, length-spots, AreInside, inside_all}
use Rattle.ic_settle.specs.lemmas.Deciding.{elsewhere_other, count-redirected, outside_is, side_of, binding_is, outlet_is}

-- the configuration on its way: bindings put in, equations that are kept, and those to be looked at
abbrev pub current : Configuration → List Binding → List Pair → List Pair → Configuration
current c bs kept rest =
    record { interface = map (put_each bs) c.interface; equations = map (put_each_pair bs) kept ++ map (put_each_pair bs) rest; next = c.next }

abbrev pub spots : Configuration → ℕ → List ℕ
spots c y = spots_from y 0 c.equations c.interface

-- Bindings, and where the links end, such that the slow settling is on its way and has passed the kept equations.
pub record IsPassing (c : Configuration) (kept : List Pair) (es : List (ℕ × Tree)) (links : List ℕ) (look_up : ℕ → Option (ℕ × ℕ))
    (chosen : List (Option Applicable)) (rest : List Pair) : Type 0 where
  pub bs : List Binding
  pub root : ℕ → ℕ
  pub settles : Settles c (current c bs kept rest) (map (put_each_pair bs) kept) (map (put_each_pair bs) rest)
  pub delayed : IsDelayed bs es (names_in c.interface (kept ++ rest))
  pub rooted : IsRoot links root
  pub placed : (y : ℕ) → IsPlaced (look_up y) (spots c y)
  pub total : (y : ℕ) → bound y bs ≡ 0 → occurrences y (configuration_names (current c bs kept rest)) ≡ length (spots c y)
  pub inside : (y : ℕ) → bound y bs ≡ 0 → AreInside y (map root (spots c y)) (length chosen) (map (put_each_pair bs) rest)
  -- the equations passed, and of these the kept ones, as they were given
  pub front : List Pair
  pub given : List Pair
  pub split : front ++ rest ≡ c.equations
  pub counted : length front ≡ length chosen
  pub alike : length given ≡ length kept
  pub told : bound_sides front chosen ++ replaced_in (length kept + length rest) (current c bs kept rest) (given ++ rest) ≡ replaced c

-- ---- the start

map_same : (xs : List ℕ) → map (λ e. e) xs ≡ xs
map_same [] = refl
map_same (x ∷ xs) = ap (λ r. x ∷ r) (map_same xs)

current_none : (c : Configuration) → current c [] [] c.equations ≡ c
current_none c = λ i. record { interface = map_put_none c.interface i; equations = map_put_pair_none c.equations i; next = c.next }

pub passing-start : (c : Configuration) (links : List ℕ) (look_up : ℕ → Option (ℕ × ℕ)) → IsConfiguration c
    → ((e : ℕ) → e < length links → get_or links e 0 ≡ e) → ((y : ℕ) → look_up y ≡ noted_from y 0 c.equations c.interface None)
    → IsPassing c [] [] links look_up [] c.equations
passing-start c links look_up valid own noted = record {
  bs = [];
  root = λ e. e;
  settles =
      let P : Configuration → Type 0 = λ d. Settles c d [] c.equations in
      let Q : List Pair → Type 0 = λ ps. Settles c (current c [] [] c.equations) [] ps in
      transport Q (sym (map_put_pair_none c.equations)) (transport P (sym (current_none c)) (settles-start c valid));
  delayed = record {
    same = λ x u e. (let bad : None ≡ Some u = e in cc);
    once = λ y. omega (arith, valid.twice y);
    keys = λ y. omega arith;
  };
  rooted = record { within = λ e h. h; ends = own; own = λ e h is. refl; along = own };
  placed = λ y. (let P : Option (ℕ × ℕ) → Type 0 = λ o. IsPlaced o (spots c y) in transport P (sym (noted y)) (placed_all y c.equations c.interface));
  total = λ y none. ap (λ d. occurrences y (configuration_names d)) (current_none c) ∙ sym (length-spots y c.equations c.interface);
  inside = λ y none.
      let P : List ℕ → Type 0 = λ ss. AreInside y ss 0 c.equations in
      let Q : List Pair → Type 0 = λ ps. AreInside y (map (λ e. e) (spots c y)) 0 ps in
      transport Q (sym (map_put_pair_none c.equations)) (transport P (sym (map_same (spots c y))) (inside_all y c.equations c.interface));
  front = [];
  given = [];
  split = refl;
  counted = refl;
  alike = refl;
  told =
      let same : 0 + length c.equations ≡ length c.equations = omega arith in
      ap (λ n. replaced_in n (current c [] [] c.equations) c.equations) same ∙ ap (λ d. replaced_in (length c.equations) d c.equations) (current_none c);
}

-- ---- the sides of an equation resolved

pub record IsResolved (bs : List Binding) (p q : Pair) (es : List (ℕ × Tree)) (others : List ℕ) : Type 0 where
  pub same : put_each_pair bs q ≡ put_each_pair bs p
  pub left : IsTop bs q.left
  pub right : IsTop bs q.right
  pub delayed : IsDelayed bs es (pair_names q ++ others)

resolved_pair : (bs : List Binding) (es es' es'' : List (ℕ × Tree)) (ts : List Tree) (kept : List Pair) (p : Pair) (rest : List Pair) (l r : Tree)
    → IsDelayed bs es (names_in ts (kept ++ p ∷ rest)) → Resolves es es' p.left l → Resolves es' es'' p.right r
    → IsResolved bs p (record { left = l; right = r }) es'' (names_in ts (kept ++ rest))
resolved_pair bs es es' es'' ts kept p rest l r d first second =
    let others = names_in ts (kept ++ rest) in
    let before = delays-fewer bs es (names_in ts (kept ++ p ∷ rest)) (names p.left ++ (names p.right ++ others)) (λ y. omega (
      arith,
      occurrences-middle y ts kept p rest,
      occurrences-append y (names p.left) (names p.right),
      occurrences-append y (names p.left) (names p.right ++ others),
      occurrences-append y (names p.right) others,
    )) d in
    let one = first bs (names p.right ++ others) before in
    let between = delays-fewer bs es' (names l ++ (names p.right ++ others)) (names p.right ++ (names l ++ others)) (λ y. omega (
      arith,
      occurrences-append y (names l) (names p.right ++ others),
      occurrences-append y (names p.right) others,
      occurrences-append y (names p.right) (names l ++ others),
      occurrences-append y (names l) others,
    )) one.1.1 in
    let two = second bs (names l ++ others) between in
    record {
      same = λ i. record { left = one.0 i; right = two.0 i };
      left = one.1.0;
      right = two.1.0;
      delayed = delays-fewer bs es'' (names r ++ (names l ++ others)) ((names l ++ names r) ++ others) (λ y. omega (
        arith,
        occurrences-append y (names r) (names l ++ others),
        occurrences-append y (names l) others,
        occurrences-append y (names l ++ names r) others,
        occurrences-append y (names l) (names r),
      )) two.1.1;
    }

pub resolved-next : (c : Configuration) (kept : List Pair) (es es' es'' : List (ℕ × Tree)) (links : List ℕ) (look_up : ℕ → Option (ℕ × ℕ)) (chosen : List (Option Applicable))
    (p : Pair) (rest : List Pair) (l r : Tree) (s : IsPassing c kept es links look_up chosen (p ∷ rest)) → Resolves es es' p.left l → Resolves es' es'' p.right r
    → IsResolved s.bs p (record { left = l; right = r }) es'' (names_in c.interface (kept ++ rest))
resolved-next c kept es es' es'' links look_up chosen p rest l r s first second = resolved_pair s.bs es es' es'' c.interface kept p rest l r s.delayed first second

-- ---- an equation at work

bound_sides-push : (ps : List Pair) (cs : List (Option Applicable)) (p : Pair) (a : Option Applicable) → length ps ≡ length cs
    → bound_sides (ps ++ p ∷ []) (cs ++ a ∷ []) ≡ bound_sides ps cs ++ option_to_list (option_map (bound_by p) a)
bound_sides-push [] [] p a e = append-nil (option_to_list (option_map (bound_by p) a))
bound_sides-push (q ∷ ps) (b ∷ cs) p a e =
    ap (λ r. option_to_list (option_map (bound_by q) b) ++ r) (bound_sides-push ps cs p a (omega arith))
    ∙ sym (append_assoc (option_to_list (option_map (bound_by q) b)) (bound_sides ps cs) (option_to_list (option_map (bound_by p) a)))
bound_sides-push _ _ p a e = absurd (omega arith)

absent_name : (x : ℕ) (t : Tree) → occurrences x (names t) ≡ 0 → is_name x t ≡ false
absent_name x (name y) none = false_from_ne_true (y == x) (λ h. (let one : occurrences x (y ∷ []) ≡ 1 = ap (λ b. 0 + cond b 1 0) h in absurd (omega arith)))
absent_name x (agent s ts) none = refl

itself_name : (x : ℕ) (t : Tree) → t ≡ name x → is_name x t ≡ true
itself_name x t e = ap (is_name x) e ∙ eq-eqb x x refl

binds_side : (q : Pair) (side : Side) (x : ℕ) → side_of q side ≡ name x → Binds q (record { name = x; term = other_side q side })
binds_side q Left x e = inl (ap (λ t. record { left = t; right = q.right }) e)
binds_side q Right x e = inr (ap (λ t. record { left = q.left; right = t }) e)

top_side : (bs : List Binding) (q : Pair) (side : Side) → IsTop bs q.left → IsTop bs q.right → IsTop bs (side_of q side)
top_side bs q Left left right = left
top_side bs q Right left right = right

put_other : (bs : List Binding) (q : Pair) (side : Side) → other_side (put_each_pair bs q) side ≡ put_each bs (other_side q side)
put_other bs q Left = refl
put_other bs q Right = refl

put_side : (bs : List Binding) (q : Pair) (side : Side) → side_of (put_each_pair bs q) side ≡ put_each bs (side_of q side)
put_side bs q Left = refl
put_side bs q Right = refl

-- the given opposite side is the one that the definition of what is replaced takes
given_side : (x : ℕ) (p given : Pair) (side : Side) → side_of p side ≡ name x → occurrences x (names (other_side p side)) ≡ 0
    → replacement x (p, given) ≡ record { name = x; term = other_side given side }
given_side x p given Left is none = ap (λ b. record { name = x; term = cond b given.right given.left }) (itself_name x p.left is)
given_side x p given Right is none = ap (λ b. record { name = x; term = cond b given.right given.left }) (absent_name x p.left none)

module _ (c : Configuration) (kept : List Pair) (es es' : List (ℕ × Tree)) (links links' : List ℕ) (look_up : ℕ → Option (ℕ × ℕ)) (chosen : List (Option Applicable))
    (p : Pair) (rest : List Pair) (q : Pair) (s : IsPassing c kept es links look_up chosen (p ∷ rest))
    (resolved : IsResolved s.bs p q es' (names_in c.interface (kept ++ rest))) where
  abbrev before : List Pair
  before = map (put_each_pair s.bs) kept

  abbrev after : List Pair
  after = map (put_each_pair s.bs) rest

  abbrev outside : List ℕ
  outside = names_in (map (put_each s.bs) c.interface) (before ++ after)

  abbrev other_place : ℕ → Option ℕ
  other_place y = elsewhere s.root (length chosen) (look_up y)

  few : (y : ℕ) → bound y s.bs ≡ 0 → length (spots c y) ≤ 2
  few y free = omega (arith, s.total y free, s.settles.valid.twice y)

  says : (y : ℕ) → bound y s.bs ≡ 0 → occurs y outside ≡ is_some (other_place y)
  says y free = outside_is y (map (put_each s.bs) c.interface) before (put_each_pair s.bs p) after s.root (length chosen) (look_up y) (spots c y)
      (s.placed y) (few y free) (s.total y free) (s.inside y free).0

  decided : binding outside (put_each_pair s.bs p) ≡ option_map (λ o. bound_by (put_each_pair s.bs q) (applicable_of o)) (outlet other_place q.left q.right)
  decided = ap (binding outside) (sym resolved.same) ∙ binding_is outside other_place s.bs q resolved.left resolved.right says

  front_split : (s.front ++ p ∷ []) ++ rest ≡ c.equations
  front_split = append_assoc s.front (p ∷ []) rest ∙ s.split

  front_counted : (a : Option Applicable) → length (s.front ++ p ∷ []) ≡ length (chosen ++ a ∷ [])
  front_counted a = omega (arith, length-append s.front (p ∷ []), length-append chosen (a ∷ []), s.counted)

  inside_place : (a : Option Applicable) (y : ℕ) (ss : List ℕ) (ps : List Pair) → AreInside y ss (suc (length chosen)) ps → AreInside y ss (length (chosen ++ a ∷ [])) ps
  inside_place a y ss ps in_it =
      let P : ℕ → Type 0 = λ n. AreInside y ss n ps in
      let same : suc (length chosen) ≡ length (chosen ++ a ∷ []) = omega (arith, length-append chosen (a ∷ [])) in
      transport P same in_it

  -- ---- it is kept

  kept_before : map (put_each_pair s.bs) (kept ++ q ∷ []) ≡ before ++ put_each_pair s.bs p ∷ []
  kept_before = map-append (put_each_pair s.bs) kept (q ∷ []) ∙ ap (λ r. before ++ r ∷ []) resolved.same

  kept_all : map (put_each_pair s.bs) (kept ++ q ∷ []) ++ after ≡ before ++ put_each_pair s.bs p ∷ after
  kept_all = ap (λ r. r ++ after) kept_before ∙ append_assoc before (put_each_pair s.bs p ∷ []) after

  kept_current : current c s.bs (kept ++ q ∷ []) rest ≡ current c s.bs kept (p ∷ rest)
  kept_current = ap (λ all. record { interface = map (put_each s.bs) c.interface; equations = all; next = c.next }) kept_all

  pub passing-skip : outlet other_place q.left q.right ≡ None → IsRoot links' s.root → IsPassing c (kept ++ q ∷ []) es' links' look_up (chosen ++ None ∷ []) rest
  passing-skip none rooted = record {
    bs = s.bs;
    root = s.root;
    settles =
        let skipped = settles-skip c (current c s.bs kept (p ∷ rest)) before (put_each_pair s.bs p) after s.settles
        (decided ∙ ap (option_map (λ o. bound_by (put_each_pair s.bs q) (applicable_of o))) none) in
        let P : Configuration → Type 0 = λ d. Settles c d (before ++ put_each_pair s.bs p ∷ []) after in
        let Q : List Pair → Type 0 = λ front. Settles c (current c s.bs (kept ++ q ∷ []) rest) front after in
        transport Q (sym kept_before) (transport P (sym kept_current) skipped);
    delayed =
        let regrouped : (kept ++ q ∷ []) ++ rest ≡ kept ++ q ∷ rest = append_assoc kept (q ∷ []) rest in
        delays-fewer s.bs es' (pair_names q ++ names_in c.interface (kept ++ rest)) (names_in c.interface ((kept ++ q ∷ []) ++ rest)) (λ y. omega (
          arith,
          ap (λ l. occurrences y (names_in c.interface l)) regrouped,
          occurrences-middle y c.interface kept q rest,
          occurrences-append y (pair_names q) (names_in c.interface (kept ++ rest)),
        )) resolved.delayed;
    rooted = rooted;
    placed = s.placed;
    total = λ y free. ap (λ d. occurrences y (configuration_names d)) kept_current ∙ s.total y free;
    inside = λ y free. inside_place None y (map s.root (spots c y)) after (s.inside y free).1;
    front = s.front ++ p ∷ [];
    given = s.given ++ p ∷ [];
    split = front_split;
    counted = front_counted None;
    alike = omega (arith, length-append s.given (p ∷ []), length-append kept (q ∷ []), s.alike);
    told =
        let fuel : length (kept ++ q ∷ []) + length rest ≡ length kept + length (p ∷ rest) = omega (arith, length-append kept (q ∷ [])) in
        ap (λ l. l ++ replaced_in (length (kept ++ q ∷ []) + length rest) (current c s.bs (kept ++ q ∷ []) rest) ((s.given ++ p ∷ []) ++ rest))
        (bound_sides-push s.front chosen p None s.counted ∙ append-nil (bound_sides s.front chosen))
        ∙ ap (λ n. bound_sides s.front chosen ++ replaced_in n (current c s.bs (kept ++ q ∷ []) rest) ((s.given ++ p ∷ []) ++ rest)) fuel
        ∙ ap (λ d. bound_sides s.front chosen ++ replaced_in (length kept + length (p ∷ rest)) d ((s.given ++ p ∷ []) ++ rest)) kept_current
        ∙ ap (λ g. bound_sides s.front chosen ++ replaced_in (length kept + length (p ∷ rest)) (current c s.bs kept (p ∷ rest)) g) (append_assoc s.given (p ∷ []) rest)
        ∙ s.told;
  }

  -- ---- it is removed, and its name bound

  module _ (o : Outlet) (found : outlet other_place q.left q.right ≡ Some o) where
    abbrev waiting_term : Tree
    waiting_term = other_side q o.side

    abbrev put_term : Tree
    put_term = put_each s.bs waiting_term

    abbrev put_binding : Binding
    put_binding = record { name = o.name; term = put_term }

    names_it : side_of q o.side ≡ name o.name
    names_it = (outlet_is other_place q.left q.right o found).0

    leads_out : other_place o.name ≡ Some o.target
    leads_out = (outlet_is other_place q.left q.right o found).1

    pub bound_free : bound o.name s.bs ≡ 0
    bound_free = (let P : Tree → Type 0 = IsTop s.bs in transport P names_it (top_side s.bs q o.side resolved.left resolved.right))

    binds_now : binding outside (put_each_pair s.bs p) ≡ Some put_binding
    binds_now =
        decided ∙ ap (option_map (λ w. bound_by (put_each_pair s.bs q) (applicable_of w))) found
        ∙ ap (λ t. Some (record { name = o.name; term = t })) (put_other s.bs q o.side)

    binds_it : Binds (put_each_pair s.bs p) put_binding
    binds_it = (binding_binds outside (put_each_pair s.bs p) put_binding binds_now).0

    one_outside : occurrences o.name outside ≡ 1
    one_outside = once_outside (map (put_each s.bs) c.interface) before (put_each_pair s.bs p) after put_binding binds_it s.settles.valid.twice
        (binding_binds outside (put_each_pair s.bs p) put_binding binds_now).1

    names_of_it : (y : ℕ) → occurrences y (pair_names (put_each_pair s.bs p)) ≡ occurrences y (o.name ∷ []) + occurrences y (names put_term)
    names_of_it y = occurrences-binds y (put_each_pair s.bs p) put_binding binds_it

    in_middle : (y : ℕ) → occurrences y (configuration_names (current c s.bs kept (p ∷ rest))) ≡ occurrences y outside + occurrences y (pair_names (put_each_pair s.bs p))
    in_middle y = occurrences-middle y (map (put_each s.bs) c.interface) before (put_each_pair s.bs p) after

    pub bound_absent : occurrences o.name (names put_term) ≡ 0
    bound_absent = omega (arith, s.settles.valid.twice o.name, in_middle o.name, one_outside, names_of_it o.name, itself_once o.name)

    applied_is : subst_in o.name put_term (record { interface = map (put_each s.bs) c.interface; equations = before ++ after; next = c.next }) ≡ current c (put_binding ∷ s.bs) kept rest
    applied_is =
        let both = map-append (subst_pair o.name put_term) before after
        ∙ ap (λ l. l ++ map (subst_pair o.name put_term) after) (map_put_pair put_binding s.bs kept)
        ∙ ap (λ r. map (put_each_pair (put_binding ∷ s.bs)) kept ++ r) (map_put_pair put_binding s.bs rest) in
        λ i. record { interface = map_put put_binding s.bs c.interface i; equations = both i; next = c.next }

    settles_on : Settles c (current c (put_binding ∷ s.bs) kept rest) (map (put_each_pair (put_binding ∷ s.bs)) kept) (map (put_each_pair (put_binding ∷ s.bs)) rest)
    settles_on =
        let stepped = settles-step c (current c s.bs kept (p ∷ rest)) before (put_each_pair s.bs p) after put_binding s.settles binds_now in
        let P : Configuration → Type 0 = λ d. Settles c d (map (subst_pair o.name put_term) before) (map (subst_pair o.name put_term) after) in
        let Q : List Pair → Type 0 = λ l. Settles c (current c (put_binding ∷ s.bs) kept rest) l (map (subst_pair o.name put_term) after) in
        let R : List Pair → Type 0 = λ r. Settles c (current c (put_binding ∷ s.bs) kept rest) (map (put_each_pair (put_binding ∷ s.bs)) kept) r in
        transport R (map_put_pair put_binding s.bs rest) (transport Q (map_put_pair put_binding s.bs kept) (transport P applied_is stepped))

    delayed_on : (es'' : List (ℕ × Tree)) → IsAdded es' es'' o.name waiting_term → IsDelayed (put_binding ∷ s.bs) es'' (names_in c.interface (kept ++ rest))
    delayed_on es'' added =
        let others = names_in c.interface (kept ++ rest) in
        delays-bind s.bs es' es'' o.name waiting_term added bound_free bound_absent others
        (delays-fewer s.bs es' (pair_names q ++ others) (o.name ∷ (names waiting_term ++ others)) (λ y. omega (
          arith,
          occurrences-append y (pair_names q) others,
          occurrences-binds y q (record { name = o.name; term = waiting_term }) (binds_side q o.side o.name names_it),
          occurrences-append y (o.name ∷ []) (names waiting_term ++ others),
          occurrences-append y (names waiting_term) others,
        )) resolved.delayed)

    -- another name that isn't bound
    module _ (y : ℕ) (free : bound y (put_binding ∷ s.bs) ≡ 0) where
      other_parts : ((o.name == y) ≡ false) × (bound y s.bs ≡ 0)
      other_parts = counted_no (o.name == y) (bound y s.bs) (sym (bound-cons y put_binding s.bs) ∙ free)

      not_it : occurrences y (o.name ∷ []) ≡ 0
      not_it = ap (λ b. 0 + cond b 1 0) other_parts.0

      total_on : occurrences y (configuration_names (current c (put_binding ∷ s.bs) kept rest)) ≡ length (spots c y)
      total_on =
          ap (λ d. occurrences y (configuration_names d)) (sym applied_is)
          ∙ occurrences-exact_in y o.name put_term (map (put_each s.bs) c.interface) (before ++ after) other_parts.0
          ∙ ap (λ k. occurrences y outside + k * occurrences y (names put_term)) one_outside
          ∙ sums (occurrences y outside) (occurrences y (names put_term)) _ _ _ (names_of_it y) not_it (in_middle y) ∙ s.total y other_parts.1
        where
          sums : (a t p' w l : ℕ) → p' ≡ w + t → w ≡ 0 → l ≡ a + p' → a + 1 * t ≡ l
          sums a t p' w l f g h = omega arith

      term_spots : occurrences y (names put_term) ≡ occurrences (length chosen) (map s.root (spots c y))
      term_spots = only (names_of_it y) not_it ∙ (s.inside y other_parts.1).0
        where
          only : {a t w : ℕ} → a ≡ w + t → w ≡ 0 → t ≡ a
          only f g = omega arith

      few_free : length (spots c o.name) ≤ 2
      few_free = few o.name bound_free

      spots_of_it : (k : ℕ) → occurrences k (map s.root (spots c o.name)) ≡ cond (length chosen == k) 1 0 + cond (o.target == k) 1 0
      spots_of_it = elsewhere_other s.root (length chosen) (look_up o.name) (spots c o.name) o.target (s.placed o.name) few_free leads_out
          (omega (arith, (s.inside o.name bound_free).0, names_of_it o.name, itself_once o.name))

      inside_on : (k : ℕ) → length chosen < k → (ps : List Pair) → AreInside y (map s.root (spots c y)) k ps → AreInside o.name (map s.root (spots c o.name)) k ps
          → AreInside y (map (redirected (length chosen) o.target s.root) (spots c y)) k (map (subst_pair o.name put_term) ps)
      inside_on k later [] mine its = tt
      inside_on k later (r ∷ rs) mine its =
          let apart : length chosen ≡ k → ⊥ = λ h. omega arith in
          let times : occurrences o.name (pair_names r) ≡ cond (o.target == k) 1 0 =
          its.0 ∙ spots_of_it k ∙ ap (λ b. cond b 1 0 + cond (o.target == k) 1 0) (ne_eqb (length chosen) k apart) ∙ no_more (cond (o.target == k) 1 0) in (
            occurrences-exact_pair y o.name put_term r other_parts.0
                ∙ ap (λ n. n + occurrences o.name (pair_names r) * occurrences y (names put_term)) mine.0
                ∙ ap (λ n. occurrences k (map s.root (spots c y)) + n * occurrences y (names put_term)) times
                ∙ ap (λ n. occurrences k (map s.root (spots c y)) + cond (o.target == k) 1 0 * n) term_spots
                ∙ sym (count-redirected s.root (length chosen) o.target k (spots c y) apart),
            inside_on (suc k) (omega arith) rs mine.1 its.1,
          )
        where
          no_more : (n : ℕ) → 0 + n ≡ n
          no_more n = omega arith

    told_on : bound_sides (s.front ++ p ∷ []) (chosen ++ Some (applicable_of o) ∷ [])
        ++ replaced_in (length kept + length rest) (current c (put_binding ∷ s.bs) kept rest) (s.given ++ rest) ≡ replaced c
    told_on =
        let d = current c s.bs kept (p ∷ rest) in
        let choice : Choice = record { before = before; after = after; bound = put_binding } in
        let done = bound_sides s.front chosen in
        let first : first_choice d.interface [] d.equations ≡ Some choice =
        choice_here (map (put_each s.bs) c.interface) before (put_each_pair s.bs p) after put_binding s.settles.passed binds_now in
        let fuel : length kept + length (p ∷ rest) ≡ suc (length kept + length rest) = omega arith in
        let same_length : length before ≡ length s.given = omega (arith, length-map kept (put_each_pair s.bs), s.alike) in
        let is_side : side_of (put_each_pair s.bs p) o.side ≡ name o.name =
        ap (λ w. side_of w o.side) (sym resolved.same) ∙ put_side s.bs q o.side ∙ (let top = put_each-unbound s.bs o.name bound_free in ap (put_each s.bs) names_it ∙ top) in
        let no_other : occurrences o.name (names (other_side (put_each_pair s.bs p) o.side)) ≡ 0 =
        ap (λ t. occurrences o.name (names t)) (ap (λ w. other_side w o.side) (sym resolved.same) ∙ put_other s.bs q o.side) ∙ bound_absent in
        let here : replaced_by d (s.given ++ p ∷ rest) choice ≡ bound_by p (applicable_of o) ∷ [] =
        ap (λ w. option_to_list (option_map (replacement o.name) w)) (zip_middle before s.given after rest (put_each_pair s.bs p) p same_length)
        ∙ ap (λ w. w ∷ []) (given_side o.name (put_each_pair s.bs p) p o.side is_side no_other) in
        let left : remove (s.given ++ p ∷ rest) (length before) ≡ s.given ++ rest =
        ap (remove (s.given ++ p ∷ rest)) same_length ∙ remove_middle s.given rest p in
        let step : replaced_in (suc (length kept + length rest)) d (s.given ++ p ∷ rest)
        ≡ bound_by p (applicable_of o) ∷ replaced_in (length kept + length rest) (current c (put_binding ∷ s.bs) kept rest) (s.given ++ rest) =
        ap (λ w. option_map_or
        (λ ch. replaced_by d (s.given ++ p ∷ rest) ch ++ replaced_in (length kept + length rest) (applied d ch) (remove (s.given ++ p ∷ rest) (length ch.before))) w []) first
        ∙ ap (λ w. w ++ replaced_in (length kept + length rest) (applied d choice) (remove (s.given ++ p ∷ rest) (length before))) here
        ∙ ap (λ w. bound_by p (applicable_of o) ∷ replaced_in (length kept + length rest) w (remove (s.given ++ p ∷ rest) (length before))) applied_is
        ∙ ap (λ w. bound_by p (applicable_of o) ∷ replaced_in (length kept + length rest) (current c (put_binding ∷ s.bs) kept rest) w) left in
        let later = replaced_in (length kept + length rest) (current c (put_binding ∷ s.bs) kept rest) (s.given ++ rest) in
        ap (λ l. l ++ later) (bound_sides-push s.front chosen p (Some (applicable_of o)) s.counted)
        ∙ append_assoc done (bound_by p (applicable_of o) ∷ []) later
        ∙ ap (λ l. done ++ l) (sym step)
        ∙ ap (λ n. done ++ replaced_in n d (s.given ++ p ∷ rest)) (sym fuel)
        ∙ s.told

    pub passing-bind : (es'' : List (ℕ × Tree)) → IsAdded es' es'' o.name waiting_term → IsRoot links' (redirected (length chosen) o.target s.root)
        → IsPassing c kept es'' links' look_up (chosen ++ Some (applicable_of o) ∷ []) rest
    passing-bind es'' added rooted = record {
      bs = put_binding ∷ s.bs;
      root = redirected (length chosen) o.target s.root;
      settles = settles_on;
      delayed = delayed_on es'' added;
      rooted = rooted;
      placed = s.placed;
      total = total_on;
      inside = λ y free.
          let P : List Pair → Type 0 = λ ps. AreInside y (map (redirected (length chosen) o.target s.root) (spots c y)) (suc (length chosen)) ps in
          inside_place (Some (applicable_of o)) y (map (redirected (length chosen) o.target s.root) (spots c y)) (map (put_each_pair (put_binding ∷ s.bs)) rest)
          (transport P (map_put_pair put_binding s.bs rest)
          (inside_on y free (suc (length chosen)) (omega arith) after (s.inside y (other_parts y free).1).1 (s.inside o.name bound_free).1));
      front = s.front ++ p ∷ [];
      given = s.given;
      split = front_split;
      counted = front_counted (Some (applicable_of o));
      alike = s.alike;
      told = told_on;
    }

    -- the name has no entry yet
    pub bound_new : look es' o.name ≡ None
    bound_new = no_entry (look es' o.name) (omega (arith, resolved.delayed.keys o.name, bound_free))
      where
        no_entry : (found : Option Tree) → here found ≤ 0 → found ≡ None
        no_entry None few' = refl
        no_entry (Some t) few' = absurd (omega arith)

-- ---- the end

pub passing-end : (c : Configuration) (kept : List Pair) (es : List (ℕ × Tree)) (links : List ℕ) (look_up : ℕ → Option (ℕ × ℕ)) (chosen : List (Option Applicable))
    → IsPassing c kept es links look_up chosen [] → IsPassed c kept es × ((length chosen ≡ length c.equations) × (bound_sides c.equations chosen ≡ replaced c))
passing-end c kept es links look_up chosen s =
    let last = map (put_each_pair s.bs) kept in
    let whole_is : current c s.bs kept [] ≡ put_in s.bs c kept = ap (λ all. record { interface = map (put_each s.bs) c.interface; equations = all; next = c.next }) (append-nil last) in
    let P : Configuration → Type 0 = λ d. Settles c d last [] in
    let ended = transport P whole_is s.settles in
    let done = settles-end c (put_in s.bs c kept) last ended in
    let Q : List ℕ → Type 0 = IsDelayed s.bs es in
    let no_more : replaced_in (length kept + 0) (current c s.bs kept []) (s.given ++ []) ≡ [] =
    nothing_left (length kept + 0) (current c s.bs kept []) (s.given ++ []) s.settles in (
      record {
        bs = s.bs;
        delayed = transport Q (ap (names_in c.interface) (append-nil kept)) s.delayed;
        valid = ended.valid;
        settled = done.0;
        reached = ended.reached;
        ended = done.1;
        over = ended.over;
      },
      (
        sym s.counted ∙ ap length (sym (append-nil s.front) ∙ s.split),
        ap (λ l. bound_sides l chosen) (sym (sym (append-nil s.front) ∙ s.split))
            ∙ sym (append-nil (bound_sides s.front chosen)) ∙ ap (λ r. bound_sides s.front chosen ++ r) (sym no_more) ∙ s.told,
      ),
    )
  where
    nothing_left : (n : ℕ) (d : Configuration) (given : List Pair) {before : List Pair} → Settles c d before [] → replaced_in n d given ≡ []
    nothing_left n d given {before} s' = stopped n d given (ap (first_choice d.interface []) s'.whole ∙ first_choice-passed d.interface [] before [] s'.passed)
