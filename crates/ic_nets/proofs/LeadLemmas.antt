-- Configurations that settle to one net: rearranging equations and putting terms for names leads from one to the other.
use Rattle.std.proofs.Common.{◌≡◌, ℕ, ◌+◌, ◌≤◌, List, [], ◌∷◌, ◌++◌, true, map, refl, sym, arith, eq-eqb, inl, subst as transport}
use Rattle.std.specs.List.{flat_map}
use Rattle.ic_term.specs.Tree.{Tree, name, names, Pair, pair_names}
use Rattle.ic_term.specs.Configuration.{Configuration, names_in, occurrences}
use Rattle.ic_settle.specs.Settling.{occurs, subst, subst_in, settled}
use Rattle.ic_settle.specs.NameSteps.{NameStep, NameSteps, no_step, one_more}
use Rattle.ic_settle.specs.lemmas.SubstitutionLaws.{occurrences-append, occurrences_some, subst-absent}
use Rattle.ic_settle.specs.lemmas.StepLaws.{itself_once as alone}
use Rattle.ic_round.specs.Naming.{HasNames}
use Rattle.ic_round.specs.lemmas.NamesLemmas.{name_step-names}
use Rattle.ic_round.specs.lemmas.NameStepLemmas.{in_either, in_first}
use Rattle.ic_confluence.specs.Sameness.{itself, exchanged, Rearranged, nothing, kept, swapped, one_by_one, Same, rearranging, through}
use Rattle.ic_settle.specs.lemmas.Reached.{settled_ends}
use Rattle.ic_confluence.specs.lemmas.Puts.{terms_absent as terms-absent, pairs_absent as pairs-absent}
use Rattle.ic_nets.specs.inner.ReadBack.{equated}
use Rattle.ic_nets.proofs.SettledLemmas.{settles_on}

-- what is proved of configurations of one net
pub record Laws : Type 0 where
  pub back : (c d : Configuration) → Same c d → Same d c
  pub keep : (c d : Configuration) → Same c d → HasNames c → HasNames d
  pub settle : (c d : Configuration) → HasNames c → Same c d → Same (settled c) (settled d)
  pub ends : (c d : Configuration) → HasNames c → NameSteps c d → ((f : Configuration) → ¬ NameStep d f) → Same d (settled c)

-- both settle to one net
abbrev pub Leads : Configuration → Configuration → Type 0
Leads c d = HasNames c → HasNames d × Same (settled d) (settled c)

abbrev pub parts : List Tree → List Pair → ℕ → Configuration
parts ts es n = record { interface = ts; equations = es; next = n }

-- ---- rearranging

pub as_they_are : (es : List Pair) → Rearranged es es
as_they_are [] = nothing
as_they_are (p ∷ es) = kept p p es es (itself p) (as_they_are es)

pub moved_after : (p : Pair) (xs es : List Pair) → Rearranged (p ∷ (xs ++ es)) (xs ++ (p ∷ es))
moved_after p [] es = as_they_are (p ∷ es)
moved_after p (x ∷ xs) es = one_by_one _ _ _ (swapped p x (xs ++ es)) (kept x x _ _ (itself x) (moved_after p xs es))

pub before : (p : Pair) (xs es : List Pair) → Rearranged (xs ++ (p ∷ es)) (p ∷ (xs ++ es))
before p [] es = as_they_are (p ∷ es)
before p (x ∷ xs) es = one_by_one _ _ _ (kept x x _ _ (itself x) (before p xs es)) (swapped x p (xs ++ es))

pub after_these : (xs ys zs : List Pair) → Rearranged ys zs → Rearranged (xs ++ ys) (xs ++ zs)
after_these [] ys zs r = r
after_these (x ∷ xs) ys zs r = kept x x _ _ (itself x) (after_these xs ys zs r)

pub exchange : (xs ys es : List Pair) → Rearranged (xs ++ (ys ++ es)) (ys ++ (xs ++ es))
exchange [] ys es = as_they_are (ys ++ es)
exchange (x ∷ xs) ys es = one_by_one _ _ _ (kept x x _ _ (itself x) (exchange xs ys es)) (moved_after x ys (xs ++ es))

pub turn : (t u : Tree) (es : List Pair) → Rearranged (equated t u ∷ es) (equated u t ∷ es)
turn t u es = kept (equated t u) (equated u t) es es (exchanged (equated t u)) (as_they_are es)

-- ---- terms without the name

pub put_alone : (x : ℕ) (u : Tree) → subst x u (name x) ≡ u
put_alone x u = rw (eq-eqb x x refl) refl

some_among : (x : ℕ) (front back : List Tree) → 1 ≤ occurrences x (flat_map names (front ++ (name x ∷ back)))
some_among x [] back = omega (arith, occurrences-append x (x ∷ []) (flat_map names back), alone x)
some_among x (t ∷ ts) back = omega (arith, occurrences-append x (names t) (flat_map names (ts ++ (name x ∷ back))), some_among x ts back)

-- a name among terms
pub put_among : (x : ℕ) (u : Tree) (before after : List Tree) → occurrences x (flat_map names (before ++ (name x ∷ after))) ≤ 1
    → map (subst x u) (before ++ (name x ∷ after)) ≡ before ++ (u ∷ after)
put_among x u [] after few =
    let none = terms-absent x u after (omega (arith, occurrences-append x (x ∷ []) (flat_map names after), alone x, few)) in
    (λ i. put_alone x u i ∷ none i)
put_among x u (t ∷ ts) after few =
    let all = occurrences-append x (names t) (flat_map names (ts ++ (name x ∷ after))) in
    let none = subst-absent x u t (omega (arith, all, some_among x ts after, few)) in
    (λ i. none i ∷ put_among x u ts after (omega (arith, all, few)) i)

pub stands_among : (x : ℕ) (before after : List Tree) → occurs x (flat_map names (before ++ (name x ∷ after))) ≡ true
stands_among x [] after = in_first x (x ∷ []) (flat_map names after) (rw (eq-eqb x x refl) refl)
stands_among x (t ∷ ts) after = in_either x (names t) (flat_map names (ts ++ (name x ∷ after))) (stands_among x ts after)

module _ (laws : Laws) where
  -- ---- what leads on

  pub leads-through : (c d e : Configuration) → Leads c d → Leads d e → Leads c e
  leads-through c d e first second named = let one = first named in let two = second one.0 in (two.0, through _ _ _ two.1 one.1)

  stays_there : (c : Configuration) → Leads c c
  stays_there c named = (named, rearranging (settled c) (settled c) (record { equations = as_they_are (settled c).equations; result = refl }))

  pub leads-itself : (c d : Configuration) → c ≡ d → Leads c d
  leads-itself c d same =
      let P : Configuration → Type 0 = λ e. Leads c e in
      transport P same (stays_there c)

  leads-step : (c d : Configuration) → NameStep c d → Leads c d
  leads-step c d step named = (
    name_step-names c d step named,
    laws.ends c (settled d) named (settles_on c d (one_more c c d (no_step c) step)) (λ f s. settled_ends d f s),
  )

  pub leads-rearranged : (ts : List Tree) (n : ℕ) (es fs : List Pair) → Rearranged es fs → Leads (parts ts es n) (parts ts fs n)
  leads-rearranged ts n es fs r named =
      let same : Same (parts ts es n) (parts ts fs n) = rearranging _ _ (record { equations = r; result = refl }) in
      (laws.keep _ _ same named, laws.back _ _ (laws.settle _ _ named same))

  -- ---- the first equation is put into the second one, or into the interface

  counted_two : (x : ℕ) (u v w : Tree) (ts : List Tree) (es : List Pair)
      → occurrences x (names_in ts (equated (name x) u ∷ (equated v w ∷ es)))
      ≡ occurrences x (flat_map names ts) + (1 + occurrences x (names u) + (occurrences x (names v) + occurrences x (names w) + occurrences x (flat_map pair_names es)))
  counted_two x u v w ts es =
      let all = occurrences-append x (flat_map names ts) (flat_map pair_names (equated (name x) u ∷ (equated v w ∷ es))) in
      let one = occurrences-append x (x ∷ names u) (flat_map pair_names (equated v w ∷ es)) in
      let two = occurrences-append x (names v ++ names w) (flat_map pair_names es) in
      omega (arith, all, one, two, occurrences-append x (x ∷ []) (names u), alone x, occurrences-append x (names v) (names w))

  pub put_right : (x : ℕ) (u v w put : Tree) (ts : List Tree) (es : List Pair) (n : ℕ)
      → occurs x (names w) ≡ true → (occurrences x (names w) ≤ 1 → subst x u w ≡ put)
      → Leads (parts ts (equated (name x) u ∷ (equated v w ∷ es)) n) (parts ts (equated v put ∷ es) n)
  put_right x u v w put ts es n there is named =
      let two = named.twice x in
      let all = counted_two x u v w ts es in
      let some = occurrences_some x (names w) there in
      let stays_left = subst-absent x u v (omega (arith, two, all, some)) in
      let stays = terms-absent x u ts (omega (arith, two, all, some)) in
      let stay = pairs-absent x u es (omega (arith, two, all, some)) in
      let put_there = is (omega (arith, two, all, some)) in
      let result : subst_in x u (parts ts (equated v w ∷ es) n) ≡ parts ts (equated v put ∷ es) n =
      (λ i. parts (stays i) (equated (stays_left i) (put_there i) ∷ stay i) n) in
      leads-step (parts ts (equated (name x) u ∷ (equated v w ∷ es)) n) (parts ts (equated v put ∷ es) n) (record {
        before = [];
        equation = equated (name x) u;
        after = equated v w ∷ es;
        bound = record { name = x; term = u };
        place = refl;
        side = inl refl;
        outside = in_either x (flat_map names ts) _ (in_first x (names v ++ names w) (flat_map pair_names es) (in_either x (names v) (names w) there));
        result = sym result;
      }) named

  pub put_place : (x : ℕ) (u : Tree) (before after : List Tree) (es : List Pair) (n : ℕ)
      → Leads (parts (before ++ (name x ∷ after)) (equated (name x) u ∷ es) n) (parts (before ++ (u ∷ after)) es n)
  put_place x u before after es n named =
      let ts = before ++ (name x ∷ after) in
      let two = named.twice x in
      let all = occurrences-append x (flat_map names ts) (flat_map pair_names (equated (name x) u ∷ es)) in
      let one = occurrences-append x (x ∷ names u) (flat_map pair_names es) in
      let own = occurrences-append x (x ∷ []) (names u) in
      let self = alone x in
      let there = stands_among x before after in
      let some = occurrences_some x (flat_map names ts) there in
      let put = put_among x u before after (omega (arith, two, all, one, own, self)) in
      let stay = pairs-absent x u es (omega (arith, two, all, one, own, self, some)) in
      let result : subst_in x u (parts ts es n) ≡ parts (before ++ (u ∷ after)) es n = (λ i. parts (put i) (stay i) n) in
      leads-step (parts ts (equated (name x) u ∷ es) n) (parts (before ++ (u ∷ after)) es n) (record {
        before = [];
        equation = equated (name x) u;
        after = es;
        bound = record { name = x; term = u };
        place = refl;
        side = inl refl;
        outside = in_first x (flat_map names ts) (flat_map pair_names es) there;
        result = sym result;
      }) named
