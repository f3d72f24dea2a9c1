-- Lemmas: two steps that put terms for names, from one configuration.
use Rattle.std.proofs.Common.{◌≡◌, ◌⊎◌, ℕ, zero, suc, ◌+◌, ◌*◌, ◌≤◌, ◌<◌, ◌==◌, List, [], ◌∷◌, Bool, true, false, map, refl, sym, ap, ◌∙◌, arith, inl, inr, subst as transport}
use Rattle.std.specs.Cmp.{unsigned_Decides}
use Rattle.ic_term.specs.Tree.{Tree, name, names, Pair}
use Rattle.ic_term.specs.Configuration.{Configuration, configuration_names, names_in, occurrences}
use Rattle.ic_rules.specs.Renaming.{renamed}
use Rattle.ic_rules.specs.lemmas.RenamingLaws.{names-renamed}
use Rattle.ic_settle.specs.Settling.{Binding, subst, subst_pair, subst_in, Binds}
use Rattle.ic_settle.specs.lemmas.SubstitutionLaws.{subst-absent}
use Rattle.ic_settle.specs.lemmas.StepLaws.{occurrences-binds, itself_once as alone_itself}
use Rattle.ic_settle.specs.lemmas.PutEach.{occurrences-exact_in as occurrences-put_in}
use Rattle.ic_round.specs.Naming.{HasNames}
use Rattle.ic_confluence.specs.Sameness.{turned, Rotated, Alike, itself, exchanged, rotated, Rearranged, kept, one_by_one, renamed_pair, renamed_in, Renames, Same, renaming, through}
use Rattle.ic_confluence.specs.lemmas.Counts.{alone_other, apart_sym, in_pair, in_more, in_configuration, below_next, occurrences-gone}
use Rattle.ic_confluence.specs.lemmas.Puts.{terms_absent, pairs_absent, subst_terms-twice, subst_pairs-twice, undone_is_one_to_one, renamed-subst, renamed-back, occurrences-renamed}
use Rattle.ic_confluence.specs.lemmas.Equivalence.{Rearranged-refl, Same-refl, Same-sym, same_equations}
use Rattle.ic_confluence.specs.lemmas.Replacing.{Replaced, TwoReplaced, two_replaced, replaced_mapped, removed_counts, to_front}
use Rattle.ic_confluence.proofs.Arranged.{put_once, alike_counts, one_put as one_time}
use Rattle.ic_confluence.proofs.Putting.{occurs_some, bound_in, Putting, Counted, counted, kept_counts, gone_counts, no_time}
use Rattle.ic_confluence.specs.lemmas.Swaps.{swap, swap_left, swap_right, swap_other, swap_back, turned_terms, turned_pairs, not_there, put_elsewhere, unswapped_terms, unswapped_pairs, swap_renames}

-- Both are the same net at once, or one more step from each leads to one configuration.
abbrev pub Meets : Configuration → Configuration → Type 0
Meets d e = Same d e ⊎ ((f : Configuration) × Putting d f × Putting e f)

-- ---- one equation

-- two names, each put for the other one
two_names : (c : Configuration) (rest : List Pair) (b g : Binding) → HasNames c → Counted c rest b → Counted c rest g
    → b.term ≡ name g.name → g.term ≡ name b.name → Same (bound_in c rest b) (bound_in c rest g)
two_names c rest b g named is also first second =
    let x = b.name in
    let y = g.name in
    let P : Tree → Type 0 = λ t. occurrences x (names t) ≡ 0 in
    let other = not_there y x (transport P first is.absent) in
    let apart = apart_sym y x other in
    let d = bound_in c rest b in
    let gone = gone_counts c rest b is in
    let stays = kept_counts c rest b is y apart in
    let renames : Renames d (renamed_in (swap x y) d) = swap_renames d x y (below_next c named x (let two = is.twice in omega (arith, two)))
    (below_next c named y (let two = also.twice in omega (arith, two))) (λ once. omega (arith, gone, once)) (λ once. let two = also.twice in omega (arith, stays, two, once)) in
    let Q : Configuration → Type 0 = Same d in
    transport Q (arrives x y apart first second) (renaming d (renamed_in (swap x y) d) renames)
  where
    arrives : (x y : ℕ) → (b.name == g.name) ≡ false → b.term ≡ name g.name → g.term ≡ name b.name → renamed_in (swap b.name g.name) (bound_in c rest b) ≡ bound_in c rest g
    arrives x y apart first second = λ i. record {
      interface = (ap (λ t. map (renamed (swap b.name g.name)) (map (subst b.name t) c.interface)) first
          ∙ (turned_terms b.name g.name apart c.interface ∙ ap (λ t. map (subst g.name t) c.interface) (sym second))) i;
      equations = (ap (λ t. map (renamed_pair (swap b.name g.name)) (map (subst_pair b.name t) rest)) first
          ∙ (turned_pairs b.name g.name apart rest ∙ ap (λ t. map (subst_pair g.name t) rest) (sym second))) i;
      next = c.next;
    }

same_binding : (c : Configuration) (rest : List Pair) (b g : Binding) → name b.name ≡ name g.name → b.term ≡ g.term → Same (bound_in c rest b) (bound_in c rest g)
same_binding c rest b g first second =
    let number : b.name ≡ g.name = cc in
    let P : Configuration → Type 0 = Same (bound_in c rest b) in
    transport P (λ i. subst_in (number i) (second i) (record c { equations = rest })) (Same-refl (bound_in c rest b))

one_equation : (c : Configuration) (rest : List Pair) (p : Pair) (b g : Binding) → HasNames c → Counted c rest b → Counted c rest g → Binds p b → Binds p g
    → Same (bound_in c rest b) (bound_in c rest g)
one_equation c rest p b g named is also (inl e) (inl f) =
    same_binding c rest b g (ap (λ (r : Pair). r.left) (sym e ∙ f)) (ap (λ (r : Pair). r.right) (sym e ∙ f))
one_equation c rest p b g named is also (inr e) (inr f) =
    same_binding c rest b g (ap (λ (r : Pair). r.right) (sym e ∙ f)) (ap (λ (r : Pair). r.left) (sym e ∙ f))
one_equation c rest p b g named is also (inl e) (inr f) =
    two_names c rest b g named is also (ap (λ (r : Pair). r.right) (sym e ∙ f)) (ap (λ (r : Pair). r.left) (sym f ∙ e))
one_equation c rest p b g named is also (inr e) (inl f) =
    two_names c rest b g named is also (ap (λ (r : Pair). r.left) (sym e ∙ f)) (ap (λ (r : Pair). r.right) (sym f ∙ e))

-- ---- two equations

-- Two equations that bind names; `rest` is without the first one, `more` without the second one, `both` without both.
record Two (c : Configuration) (p q : Pair) (b g : Binding) (rest more both : List Pair) : Type 0 where
  at_first : Replaced p [] more both
  at_second : Replaced q [] rest both
  first : Binds p b
  second : Binds q g
  is : Counted c rest b
  also : Counted c more g

flipped : (c : Configuration) (p q : Pair) (b g : Binding) (rest more both : List Pair) → Two c p q b g rest more both → Two c q p g b more rest both
flipped c p q b g rest more both w = record { at_first = w.at_second; at_second = w.at_first; first = w.second; second = w.first; is = w.also; also = w.is }

-- the bound name stands once outside of its equation: elsewhere, or in the other equation
outside_counts : (c : Configuration) (p q : Pair) (b g : Binding) (rest more both : List Pair) → Two c p q b g rest more both
    → occurrences b.name (names_in c.interface both) + (occurrences b.name (g.name ∷ []) + occurrences b.name (names g.term)) ≡ 1
outside_counts c p q b g rest more both w =
    let removed = removed_counts b.name c.interface q rest both w.at_second in
    let own = occurrences-binds b.name q g w.second in
    let once = w.is.once in
    omega (arith, removed, own, once)

-- the second equation, once the first one's term is put
put_second : (q : Pair) (b g : Binding) → Binds q g → (g.name == b.name) ≡ false
    → Binds (subst_pair b.name b.term q) (record { name = g.name; term = subst b.name b.term g.term })
put_second q b g side other =
    let left : subst b.name b.term (name g.name) ≡ name g.name = rw other refl in
    elim side [
      | inl e ↦ inl (ap (subst_pair b.name b.term) e ∙ ap (λ t. record { left = t; right = subst b.name b.term g.term }) left)
      | inr e ↦ inr (ap (subst_pair b.name b.term) e ∙ ap (λ t. record { left = subst b.name b.term g.term; right = t }) left)
    ]

none_times : (l m o k : ℕ) → l ≡ m + o * k → k ≡ 0 → l ≡ m
none_times l m o k e f = let g = rw f at e in omega (arith, g)

-- Where the second name doesn't stand in the first term, one more step from each leads to one configuration.
apart_meet : (c : Configuration) (p q : Pair) (b g : Binding) (rest more both : List Pair) → Two c p q b g rest more both
    → (b.name == g.name) ≡ false → occurrences g.name (names b.term) ≡ 0
    → (f : Configuration) × Putting (bound_in c rest b) f × Putting (bound_in c more g) f
apart_meet c p q b g rest more both w apart none =
    let x = b.name in
    let y = g.name in
    let t = b.term in
    let u = g.term in
    let other = apart_sym x y apart in
    let out_x = outside_counts c p q b g rest more both w in
    let out_y = outside_counts c q p g b more rest both (flipped c p q b g rest more both w) in
    let lone_x = alone_other x y other in
    let lone_y = alone_other y x apart in
    let once_y : occurrences y (names_in c.interface both) ≡ 1 = omega (arith, out_y, lone_y, none) in
    let put_y = none_times _ (occurrences y (names_in c.interface both)) (occurrences x (names_in c.interface both)) (occurrences y (names t)) (occurrences-put_in y x t c.interface both apart) none in
    let put_x = one_time _ (occurrences x (names_in c.interface both)) (occurrences y (names_in c.interface both)) (occurrences x (names u)) (occurrences-put_in x y u c.interface both other) once_y in
    let end = bound_in (bound_in c rest b) (map (subst_pair x t) both) (record { name = y; term = subst x t u }) in
    let term_stays = subst-absent y u t none in
    let P : Tree → Type 0 = λ z. Binds (subst_pair y u p) (record { name = x; term = z }) in (
      end,
      record {
        equation = subst_pair x t q;
        others = map (subst_pair x t) both;
        bound = record { name = y; term = subst x t u };
        at = replaced_mapped (subst_pair x t) q [] rest both w.at_second;
        side = put_second q b g w.second other;
        outside = occurs_some y (names_in (map (subst x t) c.interface) (map (subst_pair x t) both)) (omega (arith, put_y, once_y));
        result = refl;
      },
      record {
        equation = subst_pair y u p;
        others = map (subst_pair y u) both;
        bound = b;
        at = replaced_mapped (subst_pair y u) p [] more both w.at_first;
        side = transport P term_stays (put_second p g b w.first apart);
        outside = occurs_some x (names_in (map (subst y u) c.interface) (map (subst_pair y u) both)) (omega (arith, put_x, out_x, lone_x));
        result = λ i. record {
          interface = sym (subst_terms-twice x y t u c.interface apart none) i;
          equations = sym (subst_pairs-twice x y t u both apart none) i;
          next = c.next;
        };
      },
    )

-- the second equation alone takes the term, and may stand in front
in_front : (c : Configuration) (q z : Pair) (b : Binding) (rest both : List Pair) → Replaced q [] rest both → Alike (subst_pair b.name b.term q) z
    → occurrences b.name (names_in c.interface both) ≡ 0 → Same (bound_in c rest b) (record c { equations = z ∷ both })
in_front c q z b rest both at alike none =
    let x = b.name in
    let t = b.term in
    let parts = in_configuration x c.interface both in
    let terms = terms_absent x t c.interface (omega (arith, parts, none)) in
    let pairs = pairs_absent x t both (omega (arith, parts, none)) in
    let front = to_front (subst_pair x t q) (map (subst_pair x t) rest) (map (subst_pair x t) both) (replaced_mapped (subst_pair x t) q [] rest both at) in
    let P : List Pair → Type 0 = λ es. Rearranged (map (subst_pair x t) rest) (z ∷ es) in
    let arranged = transport P pairs (one_by_one (map (subst_pair x t) rest) (subst_pair x t q ∷ map (subst_pair x t) both) (z ∷ map (subst_pair x t) both)
    front (kept (subst_pair x t q) z (map (subst_pair x t) both) (map (subst_pair x t) both) alike (Rearranged-refl (map (subst_pair x t) both)))) in
    let Q : List Tree → Type 0 = λ ts. Same (bound_in c rest b) (record { interface = ts; equations = z ∷ both; next = c.next }) in
    transport Q terms (same_equations (bound_in c rest b) (z ∷ both) arranged)

alike_from : (p q : Pair) → p ≡ q → Alike p q
alike_from p q e = let P : Pair → Type 0 = Alike p in transport P e (itself p)

-- a bound name in another equation that binds it
put_same : (q : Pair) (b g : Binding) → Binds q g → (g.name == b.name) ≡ true → occurrences b.name (names g.term) ≡ 0
    → Alike (subst_pair b.name b.term q) (record { left = b.term; right = g.term })
put_same q b g side same none =
    let left : subst b.name b.term (name g.name) ≡ b.term = rw same refl in
    let right = subst-absent b.name b.term g.term none in
    elim side [
      | inl e ↦ alike_from _ _ (ap (subst_pair b.name b.term) e ∙ (λ i. record { left = left i; right = right i }))
      | inr e ↦
          let here : subst_pair b.name b.term q ≡ record { left = g.term; right = b.term } = ap (subst_pair b.name b.term) e ∙ (λ i. record { left = right i; right = left i }) in
          let P : Pair → Type 0 = λ z. Alike z (record { left = b.term; right = g.term }) in
          transport P (sym here) (exchanged (record { left = g.term; right = b.term }))
    ]

-- one name, bound by both
one_name_twice : (c : Configuration) (p q : Pair) (b g : Binding) (rest more both : List Pair) → Two c p q b g rest more both
    → b.name ≡ g.name → Same (bound_in c rest b) (bound_in c more g)
one_name_twice c p q b g rest more both w same =
    let out_x = outside_counts c p q b g rest more both w in
    let out_y = outside_counts c q p g b more rest both (flipped c p q b g rest more both w) in
    let one_x : occurrences b.name (g.name ∷ []) ≡ 1 = ap (λ k. occurrences k (g.name ∷ [])) same ∙ alone_itself g.name in
    let one_y : occurrences g.name (b.name ∷ []) ≡ 1 = ap (λ k. occurrences k (b.name ∷ [])) (sym same) ∙ alone_itself b.name in
    let yes = (unsigned_Decides b.name g.name).1 same in
    let also = (unsigned_Decides g.name b.name).1 (sym same) in
    let z : Pair = record { left = b.term; right = g.term } in
    let d = in_front c q z b rest both w.at_second (put_same q b g w.second also (omega (arith, out_x, one_x))) (omega (arith, out_x, one_x)) in
    let e = in_front c p (turned z) g more both w.at_first (put_same p g b w.first yes (omega (arith, out_y, one_y))) (omega (arith, out_y, one_y)) in
    let turn = same_equations (record c { equations = z ∷ both }) (turned z ∷ both) (kept z (turned z) both both (exchanged z) (Rearranged-refl both)) in
    through _ (record c { equations = z ∷ both }) _ d (through _ (record c { equations = turned z ∷ both }) _ turn (Same-sym _ _ e))

-- ---- a circle: each name in the other one's term

put_alike_second : (q : Pair) (b g : Binding) → Binds q g → (g.name == b.name) ≡ false
    → Alike (subst_pair b.name b.term q) (record { left = name g.name; right = subst b.name b.term g.term })
put_alike_second q b g side other = elim (put_second q b g side other) [
  | inl e ↦ alike_from _ _ e
  | inr e ↦
      let P : Pair → Type 0 = λ z. Alike z (record { left = name g.name; right = subst b.name b.term g.term }) in
      transport P (sym e) (exchanged (record { left = subst b.name b.term g.term; right = name g.name }))
]

-- what is left of it, cut at one name or at the other one
pub record Circle (c : Configuration) (both : List Pair) (x y : ℕ) (t u : Tree) : Type 0 where
  pub apart : (x == y) ≡ false
  pub low_x : x < c.next
  pub low_y : y < c.next
  pub none_x : occurrences x (names_in c.interface both) ≡ 0
  pub none_y : occurrences y (names_in c.interface both) ≡ 0
  pub x_in_t : occurrences x (names t) ≡ 0
  pub y_in_t : occurrences y (names t) ≡ 1
  pub x_in_u : occurrences x (names u) ≡ 1
  pub y_in_u : occurrences y (names u) ≡ 0

rotation : (c : Configuration) (both : List Pair) (x y : ℕ) (t u : Tree) → Circle c both x y t u
    → Rotated (record { left = name y; right = subst x t u }) (record { left = name y; right = subst y (renamed (swap x y) u) t })
rotation c both x y t u k = record {
  cut = y;
  inner = t;
  outer = renamed (swap x y) u;
  once_inner = k.y_in_t;
  once_outer =
      let one = undone_is_one_to_one (swap x y) (swap x y) (swap_back x y) in
      let P : ℕ → Type 0 = λ n. occurrences n (names (renamed (swap x y) u)) ≡ 1 in
      transport P (swap_left x y) (names_renamed_count one x ∙ k.x_in_u);
  given = λ i. record { left = name y; right = put_elsewhere (swap x y) x y t u (swap_left x y) (swap_other x y) k.y_in_u i };
  result = refl;
}
  where
    names_renamed_count : ((m n : ℕ) → swap x y m ≡ swap x y n → m ≡ n) → (n : ℕ) → occurrences (swap x y n) (names (renamed (swap x y) u)) ≡ occurrences n (names u)
    names_renamed_count one n = ap (occurrences (swap x y n)) (names-renamed (swap x y) u) ∙ occurrences-renamed (swap x y) one n (names u)

pub circle_same : (c : Configuration) (both : List Pair) (x y : ℕ) (t u : Tree) → Circle c both x y t u
    → Same (record c { equations = record { left = name y; right = subst x t u } ∷ both }) (record c { equations = record { left = name x; right = subst y u t } ∷ both })
circle_same c both x y t u k =
    let f = swap x y in
    let v = renamed f u in
    let given : Pair = record { left = name y; right = subst x t u } in
    let turn : Pair = record { left = name y; right = subst y v t } in
    let is = rotation c both x y t u k in
    let middle : Configuration = record c { equations = turn ∷ both } in
    let first = same_equations (record c { equations = given ∷ both }) (turn ∷ both) (kept given turn both both (rotated given turn is) (Rearranged-refl both)) in
    let own_x = in_pair x given in
    let lone = alone_other x y (apart_sym x y k.apart) in
    let gone = no_time _ (occurrences x (names u)) (occurrences x (names t)) (occurrences-gone x t u) k.x_in_t in
    let turned_x = alike_counts x given turn (rotated given turn is) in
    let turned_y = alike_counts y given turn (rotated given turn is) in
    let own_y = in_pair y given in
    let lone_y = alone_itself y in
    let put_y = put_once y x t u k.x_in_u k.apart in
    let y_u = k.y_in_u in
    let y_t = k.y_in_t in
    let all_x = in_configuration x c.interface (turn ∷ both) in
    let all_y = in_configuration y c.interface (turn ∷ both) in
    let more_x = in_more x turn both in
    let more_y = in_more y turn both in
    let parts_x = in_configuration x c.interface both in
    let parts_y = in_configuration y c.interface both in
    let absent_x = k.none_x in
    let absent_y = k.none_y in
    let count_x : occurrences x (configuration_names middle) ≡ 0 = omega (arith, own_x, lone, gone, turned_x, all_x, more_x, parts_x, absent_x) in
    let count_y : occurrences y (configuration_names middle) ≡ 2 = omega (arith, turned_y, own_y, lone_y, put_y, y_u, y_t, all_y, more_y, parts_y, absent_y) in
    let renames = swap_renames middle x y k.low_x k.low_y (λ once. omega (arith, count_x, once)) (λ once. omega (arith, count_y, once)) in
    let terms = unswapped_terms x y c.interface (omega (arith, parts_x, absent_x)) (omega (arith, parts_y, absent_y)) in
    let pairs = unswapped_pairs x y both (omega (arith, parts_x, absent_x)) (omega (arith, parts_y, absent_y)) in
    let one = undone_is_one_to_one f f (swap_back x y) in
    let left : renamed f (name y) ≡ name x = ap name (swap_right x y) in
    let right : renamed f (subst y v t) ≡ subst y u t =
    renamed-subst f one y v t ∙ ((λ i. subst (swap_right x y i) (renamed-back f f (swap_back x y) u i) (renamed f t)) ∙ sym (put_elsewhere f y x u t (swap_right x y) (λ n e g. swap_other x y n g e) k.x_in_t)) in
    let arrives : renamed_in f middle ≡ record c { equations = record { left = name x; right = subst y u t } ∷ both } =
    (λ i. record { interface = terms i; equations = record { left = left i; right = right i } ∷ pairs i; next = c.next }) in
    let P : Configuration → Type 0 = Same middle in
    through _ middle _ first (transport P arrives (renaming middle (renamed_in f middle) renames))

circle_meets : (c : Configuration) (p q : Pair) (b g : Binding) (rest more both : List Pair) → HasNames c → Two c p q b g rest more both
    → (b.name == g.name) ≡ false → 1 ≤ occurrences g.name (names b.term) → 1 ≤ occurrences b.name (names g.term) → Same (bound_in c rest b) (bound_in c more g)
circle_meets c p q b g rest more both named w apart some also =
    let other = apart_sym b.name g.name apart in
    let out_x = outside_counts c p q b g rest more both w in
    let out_y = outside_counts c q p g b more rest both (flipped c p q b g rest more both w) in
    let two_x = w.is.twice in
    let two_y = w.also.twice in
    let k : Circle c both b.name g.name b.term g.term = record {
      apart = apart;
      low_x = below_next c named b.name (omega (arith, two_x));
      low_y = below_next c named g.name (omega (arith, two_y));
      none_x = omega (arith, out_x, also);
      none_y = omega (arith, out_y, some);
      x_in_t = w.is.absent;
      y_in_t = omega (arith, out_y, some);
      x_in_u = omega (arith, out_x, also);
      y_in_u = w.also.absent;
    } in
    let d = in_front c q (record { left = name g.name; right = subst b.name b.term g.term }) b rest both w.at_second (put_alike_second q b g w.second other) k.none_x in
    let e = in_front c p (record { left = name b.name; right = subst g.name g.term b.term }) g more both w.at_first (put_alike_second p g b w.first apart) k.none_y in
    through _ _ _ d (through _ _ _ (circle_same c both b.name g.name b.term g.term k) (Same-sym _ _ e))

-- ---- all of them

two_apart : (c : Configuration) (p q : Pair) (b g : Binding) (rest more both : List Pair) → HasNames c → Two c p q b g rest more both → (b.name == g.name) ≡ false
    → (m n : ℕ) → occurrences g.name (names b.term) ≡ m → occurrences b.name (names g.term) ≡ n → Meets (bound_in c rest b) (bound_in c more g)
two_apart c p q b g rest more both named w apart zero n e f = inr (apart_meet c p q b g rest more both w apart e)
two_apart c p q b g rest more both named w apart (suc m) zero e f =
    let met = apart_meet c q p g b more rest both (flipped c p q b g rest more both w) (apart_sym b.name g.name apart) f in
    inr (met.0, met.2, met.1)
two_apart c p q b g rest more both named w apart (suc m) (suc n) e f =
    inl (circle_meets c p q b g rest more both named w apart (omega (arith, e)) (omega (arith, f)))

two_equations : (c : Configuration) (p q : Pair) (b g : Binding) (rest more both : List Pair) → HasNames c → Two c p q b g rest more both
    → (t : Bool) → (b.name == g.name) ≡ t → Meets (bound_in c rest b) (bound_in c more g)
two_equations c p q b g rest more both named w true e = inl (one_name_twice c p q b g rest more both w ((unsigned_Decides b.name g.name).0 e))
two_equations c p q b g rest more both named w false e =
    two_apart c p q b g rest more both named w e (occurrences g.name (names b.term)) (occurrences b.name (names g.term)) refl refl

either_place : (c : Configuration) (p q : Pair) (b g : Binding) (rest more : List Pair) → HasNames c → Counted c rest b → Counted c more g → Binds p b → Binds q g
    → TwoReplaced p q [] [] rest more → Meets (bound_in c rest b) (bound_in c more g)
either_place c p q b g rest more named is also side other (inl (same, equal)) =
    let P : List Pair → Type 0 = λ es. Counted c es g in
    let Q : Pair → Type 0 = λ z. Binds z g in
    let R : List Pair → Type 0 = λ es. Same (bound_in c rest b) (bound_in c es g) in
    inl (transport R (equal refl) (one_equation c rest p b g named is (transport P (sym (equal refl)) also) side (transport Q (sym same) other)))
either_place c p q b g rest more named is also side other (inr (both, at_second, at_first)) =
    two_equations c p q b g rest more both named (record { at_first = at_first; at_second = at_second; first = side; second = other; is = is; also = also }) (b.name == g.name) refl

pub two_puttings : (c d e : Configuration) → HasNames c → Putting c d → Putting c e → Meets d e
two_puttings c d e named s r =
    let P : Configuration → Type 0 = λ z. Meets z e in
    let Q : Configuration → Type 0 = λ z. Meets (bound_in c s.others s.bound) z in
    transport P (sym s.result) (transport Q (sym r.result)
    (either_place c s.equation r.equation s.bound r.bound s.others r.others named (counted c d named s) (counted c e named r) s.side r.side
    (two_replaced s.equation r.equation [] [] c.equations s.others r.others s.at r.at)))
