-- Lemmas: a name of a rule that is an argument by itself is read from the register of that argument.
use Rattle.std.proofs.Common.{◌≡◌, ℕ, suc, ◌+◌, ◌-◌, ◌≤◌, ◌<◌, ◌==◌, List, [], ◌∷◌, ◌++◌, Bool, true, false, cond, not, Some, length, map, slice_get, nat_lt, refl, sym, ap, ◌∙◌, eq-eqb, arith, inl, inr, subst as transport}
use Rattle.std.proofs.lemmas.Bool.{ne_eqb, lt-ltb, le-ltb}
use Rattle.std.proofs.lemmas.List.{map-append}
use Rattle.std.proofs.lemmas.List.Sorted.{IsPermutation-refl, IsPermutation-middle, IsPermutation-sym}
use Rattle.std.proofs.lemmas.Bool.{cases_lt}
use Rattle.std.specs.Cmp.{unsigned_Decides}
use Rattle.std.specs.List.{flat_map, filter, AllByRecursion}
use Rattle.ic_term.specs.Tree.{Tree, name, agent, names, Pair, pair_names}
use Rattle.ic_term.specs.Configuration.{Configuration, names_in, occurrences}
use Rattle.ic_settle.specs.Settling.{subst, subst_pair, subst_in}
use Rattle.ic_settle.specs.lemmas.SubstitutionLaws.{occurrences-append, occurrences-cons, subst-absent, All-front, All-back, All-append}
use Rattle.ic_round.specs.Naming.{HasNames}
use Rattle.ic_reaching.specs.OneNet.{OneNet}
use Rattle.ic_meaning.specs.Plans.{Argument, arguments_from, is_name_in, is_matched, matched, filled}
use Rattle.ic_meaning.proofs.Filled.{filled_same, subst_filled, filled_some, some_of_two}
use Rattle.ic_meaning.proofs.Given.{NetLaws}
use Rattle.ic_meaning.specs.lemmas.Terms.{flat_names}
use Rattle.ic_confluence.specs.lemmas.Puts.{terms_absent, pairs_absent}

-- ---- where a name doesn't occur

-- ---- from which register a name is read

-- Names that are read from registers below a bound, are read so far from those below k, and are names of their own from
-- there on. Nothing else has these names.
pub record Named (count bound : ℕ) (held : ℕ → Tree) (registers own : ℕ → ℕ) (ts : List Tree) (es : List Pair) : Type 0 where
  pub apart : (x y : ℕ) → x < count → y < count → registers x ≡ registers y → x ≡ y
  pub own_apart : (x y : ℕ) → x < count → y < count → own x ≡ own y → x ≡ y
  pub not_held : (x : ℕ) → x < count → registers x < bound → (j : ℕ) → j < bound → occurrences (own x) (names (held j)) ≡ 0
  pub not_beside : (x : ℕ) → x < count → registers x < bound → occurrences (own x) (names_in ts es) ≡ 0

abbrev pub so_far : (ℕ → Tree) → (ℕ → ℕ) → (ℕ → ℕ) → ℕ → ℕ → Tree
so_far held registers own k x = cond (nat_lt (registers x) k) (held (registers x)) (name (own x))

pub so_far_held : (held : ℕ → Tree) (registers own : ℕ → ℕ) (k x : ℕ) → registers x < k → so_far held registers own k x ≡ held (registers x)
so_far_held held registers own k x low = rw (lt-ltb (registers x) k low) refl

pub so_far_own : (held : ℕ → Tree) (registers own : ℕ → ℕ) (k x : ℕ) → k ≤ registers x → so_far held registers own k x ≡ name (own x)
so_far_own held registers own k x high = rw (le-ltb (registers x) k high) refl

-- no name is read from this register
so_far_stays : (held : ℕ → Tree) (registers own : ℕ → ℕ) (k x : ℕ) → (registers x ≡ k → ⊥)
    → so_far held registers own k x ≡ so_far held registers own (k + 1) x
so_far_stays held registers own k x other = elim (cases_lt (registers x) k) [
  | inl low ↦ so_far_held held registers own k x low ∙ sym (so_far_held held registers own (k + 1) x (omega arith))
  | inr high ↦
      so_far_own held registers own k x high
      ∙ sym (so_far_own held registers own (k + 1) x (let differ = other in omega arith))
]

subst_itself : (x : ℕ) (u : Tree) → subst x u (name x) ≡ u
subst_itself x u = rw (eq-eqb x x refl) refl

subst_other : (x y : ℕ) (u : Tree) → (y ≡ x → ⊥) → subst x u (name y) ≡ name y
subst_other x y u other = rw (ne_eqb y x other) refl

-- the name that is read from this register
so_far_put : (count bound : ℕ) (held : ℕ → Tree) (registers own : ℕ → ℕ) (ts : List Tree) (es : List Pair) → Named count bound held registers own ts es
    → (k x z : ℕ) → k < bound → x < count → z < count → registers x ≡ k
    → subst (own x) (held k) (so_far held registers own k z) ≡ so_far held registers own (k + 1) z
so_far_put count bound held registers own ts es is k x z inside low also here = elim (cases_lt (registers z) k) [
  | inl less ↦
      ap (subst (own x) (held k)) (so_far_held held registers own k z less)
      ∙ (subst-absent (own x) (held k) (held (registers z)) (is.not_held x low (omega arith) (registers z) (omega arith))
      ∙ sym (so_far_held held registers own (k + 1) z (omega arith)))
  | inr high ↦ ap (subst (own x) (held k)) (so_far_own held registers own k z high) ∙ at (registers z == k) refl high
]
  where
    at : (b : Bool) → (registers z == k) ≡ b → k ≤ registers z → subst (own x) (held k) (name (own z)) ≡ so_far held registers own (k + 1) z
    at true e high =
        let same = (unsigned_Decides (registers z) k).0 e in
        let one : x ≡ z = is.apart x z low also (here ∙ sym same) in
        ap (λ (y : ℕ). subst (own x) (held k) (name (own y))) (sym one)
        ∙ (subst_itself (own x) (held k)
        ∙ (ap held (sym same) ∙ sym (so_far_held held registers own (k + 1) z (omega arith))))
    at false e high =
        let other : registers z ≡ k → ⊥ = (λ same. true_false (sym ((unsigned_Decides (registers z) k).1 same) ∙ e)) in
        let differ : own z ≡ own x → ⊥ = (λ same. let one = is.own_apart z x also low same in other (ap registers one ∙ here)) in
        subst_other (own x) (own z) (held k) differ
        ∙ sym (so_far_own held registers own (k + 1) z (omega arith))
      where
        true_false : true ≡ false → ⊥
        true_false e = cc

-- ---- arguments

abbrev pub argument_names : Argument → List ℕ
argument_names a = names a.term

pub arguments_names : (k : ℕ) (ts : List Tree) → flat_map argument_names (arguments_from k ts) ≡ flat_map names ts
arguments_names k [] = refl
arguments_names k (t ∷ ts) = ap (λ ns. names t ++ ns) (arguments_names (k + 1) ts)

-- all names of arguments are below a count
abbrev pub AreBelow : ℕ → List Argument → Type 0
AreBelow count ds = AllByRecursion (λ z. z < count) (flat_map argument_names ds)

all_names : (P Q : ℕ → Type 0) (ns : List ℕ) → ((z : ℕ) → P z → Q z) → AllByRecursion P ns → AllByRecursion Q ns
all_names P Q [] f all = tt
all_names P Q (n ∷ ns) f all = (f n all.0, all_names P Q ns f all.1)

pub matched_same : (count : ℕ) (held f g : ℕ → Tree) (ds : List Argument) → AreBelow count ds → ((z : ℕ) → z < count → f z ≡ g z)
    → map (matched held f) ds ≡ map (matched held g) ds
matched_same count held f g [] below same = refl
matched_same count held f g (a ∷ ds) below same =
    let here = All-front (λ z. z < count) (names a.term) (flat_map argument_names ds) below in
    let rest = All-back (λ z. z < count) (names a.term) (flat_map argument_names ds) below in
    let term = filled_same f g a.term (all_names (λ z. z < count) (λ z. f z ≡ g z) (names a.term) same here) in
    λ i. record { left = held a.register; right = term i } ∷ matched_same count held f g ds rest same i

-- a term put for a name that no register holds
matched_put : (count bound x : ℕ) (u : Tree) (held f g : ℕ → Tree) (ds : List Argument) → AreBelow count ds → AllByRecursion (λ a. a.register < bound) ds
    → ((j : ℕ) → j < bound → occurrences x (names (held j)) ≡ 0) → ((z : ℕ) → z < count → subst x u (f z) ≡ g z)
    → map (subst_pair x u) (map (matched held f) ds) ≡ map (matched held g) ds
matched_put count bound x u held f g [] below inside absent same = refl
matched_put count bound x u held f g (a ∷ ds) below inside absent same =
    let here = All-front (λ z. z < count) (names a.term) (flat_map argument_names ds) below in
    let rest = All-back (λ z. z < count) (names a.term) (flat_map argument_names ds) below in
    let left = subst-absent x u (held a.register) (absent a.register inside.0) in
    let term = subst_filled x u f a.term
    ∙ filled_same (λ z. subst x u (f z)) g a.term (all_names (λ z. z < count) (λ z. subst x u (f z) ≡ g z) (names a.term) same here) in
    λ i. record { left = left i; right = term i } ∷ matched_put count bound x u held f g ds rest inside.1 absent same i

matched_some : (x z : ℕ) (held f : ℕ → Tree) (ds : List Argument) → 1 ≤ occurrences x (names (f z)) → 1 ≤ occurrences z (flat_map argument_names ds)
    → 1 ≤ occurrences x (flat_map pair_names (map (matched held f) ds))
matched_some x z held f [] some there = absurd (omega arith)
matched_some x z held f (a ∷ ds) some there =
    let parts = occurrences-append z (names a.term) (flat_map argument_names ds) in
    let both = occurrences-append x (names (held a.register)) (names (filled f a.term)) in
    let all = occurrences-append x (names (held a.register) ++ names (filled f a.term)) (flat_map pair_names (map (matched held f) ds)) in
    elim (some_of_two (occurrences z (names a.term)) (occurrences z (flat_map argument_names ds)) (omega arith)) [
      | inl here ↦ let term = filled_some x z f a.term some here in omega arith
      | inr later ↦ let rest = matched_some x z held f ds some later in omega arith
    ]

-- ---- names that are put, one argument after another

abbrev pub with_arguments : (ℕ → Tree) → (ℕ → Tree) → List Tree → List Pair → ℕ → List Argument → List Argument → Configuration
with_arguments held named ts es next ds done = record {
  interface = ts;
  equations = map (matched held named) ds ++ (map (matched held named) done ++ es);
  next = next;
}

-- what is known of arguments, the first of which has this register, and of those that are done
pub record Left (count bound : ℕ) (registers : ℕ → ℕ) (k : ℕ) (args : List Tree) (done : List Argument) : Type 0 where
  pub length_is : k + length args ≡ bound
  pub inside : AllByRecursion (λ a. a.register < bound) done
  pub below : AreBelow count (arguments_from k args)
  pub below_too : AreBelow count done
  pub read : (z : ℕ) → z < count → k ≤ registers z → registers z < bound → slice_get args (registers z - k) ≡ Some (name z)
  pub twice : (z : ℕ) → z < count → k ≤ registers z → registers z < bound
      → occurrences z (flat_map argument_names (arguments_from k args)) + occurrences z (flat_map argument_names done) ≡ 2

inside_from : (bound k : ℕ) (args : List Tree) → k + length args ≤ bound → AllByRecursion (λ a. a.register < bound) (arguments_from k args)
inside_from bound k [] low = tt
inside_from bound k (t ∷ args) low = ((let h : k < bound = omega arith in h), inside_from bound (k + 1) args (omega arith))

-- the argument at a register is the name that is read from there
read_first : (count bound : ℕ) (registers : ℕ → ℕ) (k : ℕ) (t : Tree) (args : List Tree) (done : List Argument) → Left count bound registers k (t ∷ args) done
    → (z : ℕ) → z < count → registers z ≡ k → t ≡ name z
read_first count bound registers k t args done left z low here =
    let first : registers z - k ≡ 0 = omega arith in
    let length_is = left.length_is in
    let found = left.read z low (omega arith) (omega arith) in
    let is : slice_get (t ∷ args) 0 ≡ Some (name z) = ap (slice_get (t ∷ args)) (sym first) ∙ found in
    cc

later : (count bound : ℕ) (registers : ℕ → ℕ) (k : ℕ) (t : Tree) (args : List Tree) (done more : List Argument) → Left count bound registers k (t ∷ args) done
    → AllByRecursion (λ a. a.register < bound) more → AreBelow count more
    → ((z : ℕ) → z < count → k + 1 ≤ registers z → registers z < bound
    → occurrences z (flat_map argument_names more) ≡ occurrences z (names t) + occurrences z (flat_map argument_names done))
    → Left count bound registers (k + 1) args more
later count bound registers k t args done more left inside below counts =
    let length_is = left.length_is in
    record {
      length_is = omega arith;
      inside = inside;
      below = All-back (λ z. z < count) (names t) (flat_map argument_names (arguments_from (k + 1) args)) left.below;
      below_too = below;
      read = λ z low high less.
          let found = left.read z low (omega arith) less in
          let next : registers z - k ≡ suc (registers z - (k + 1)) = omega arith in
          ap (slice_get (t ∷ args)) (sym next) ∙ found;
      twice = λ z low high less.
          let two = left.twice z low (omega arith) less in
          let parts = occurrences-append z (names t) (flat_map argument_names (arguments_from (k + 1) args)) in
          let same = counts z low high less in
          omega arith;
    }

none_at : (x z : ℕ) → (x ≡ z → ⊥) → occurrences z (names (name x)) ≡ 0
none_at x z other = rw (ne_eqb x z other) refl

-- an argument that isn't a name read from its own register is done
match_one : NetLaws → (count bound : ℕ) (held : ℕ → Tree) (registers own : ℕ → ℕ) (ts : List Tree) (es : List Pair) (next k : ℕ) (t : Tree) (args : List Tree) (done : List Argument)
    → Left count bound registers k (t ∷ args) done
    → is_name_in registers k t ≡ false
    → HasNames (with_arguments held (so_far held registers own k) ts es next (record { register = k; term = t } ∷ arguments_from (k + 1) args) done)
    → (Left count bound registers (k + 1) args (record { register = k; term = t } ∷ done)
    → HasNames (with_arguments held (so_far held registers own (k + 1)) ts es next (arguments_from (k + 1) args) (record { register = k; term = t } ∷ done))
    → OneNet (with_arguments held (so_far held registers own (k + 1)) ts es next (arguments_from (k + 1) args) (record { register = k; term = t } ∷ done))
    (with_arguments held (so_far held registers own bound) ts es next (filter (is_matched registers) (arguments_from (k + 1) args)) (record { register = k; term = t } ∷ done)))
    → OneNet (with_arguments held (so_far held registers own k) ts es next (record { register = k; term = t } ∷ arguments_from (k + 1) args) done)
    (with_arguments held (so_far held registers own bound) ts es next (filter (is_matched registers) (record { register = k; term = t } ∷ arguments_from (k + 1) args)) done)
match_one laws count bound held registers own ts es next k t args done left unread named rest =
    let a : Argument = record { register = k; term = t } in
    let ds : List Argument = arguments_from (k + 1) args in
    let f : ℕ → Tree = so_far held registers own k in
    let g : ℕ → Tree = so_far held registers own (k + 1) in
    let h : ℕ → Tree = so_far held registers own bound in
    let length_is = left.length_is in
    let start : Configuration = with_arguments held f ts es next (a ∷ ds) done in
    let moved : Configuration = with_arguments held f ts es next ds (a ∷ done) in
    let one : OneNet start moved =
    laws.order start moved.equations named
    (IsPermutation-sym _ _ (IsPermutation-middle (map (matched held f) ds) (matched held f a) (map (matched held f) done ++ es))) in
    let here = All-front (λ z. z < count) (names t) (flat_map argument_names ds) left.below in
    let below : AreBelow count ds = All-back (λ z. z < count) (names t) (flat_map argument_names ds) left.below in
    let done_below : AreBelow count (a ∷ done) = All-append (λ z. z < count) (names t) (flat_map argument_names done) here left.below_too in
    let stays : (z : ℕ) → z < count → f z ≡ g z = (λ z low. so_far_stays held registers own k z (λ same.
    let is = read_first count bound registers k t args done left z low same in
    true_false (sym (ap (is_name_in registers k) is ∙ (unsigned_Decides (registers z) k).1 same) ∙ unread))) in
    let same_as = matched_same count held f g ds below stays in
    let same_done = matched_same count held f g (a ∷ done) done_below stays in
    let second : Configuration = with_arguments held g ts es next ds (a ∷ done) in
    let is : moved ≡ second = (λ i. record { interface = ts; equations = same_as i ++ (same_done i ++ es); next = next }) in
    let two : OneNet start second = transport (OneNet start) is one in
    let inside : AllByRecursion (λ (b : Argument). b.register < bound) (a ∷ done) = ((let low : k < bound = omega arith in low), left.inside) in
    let three = rest (later count bound registers k t args done (a ∷ done) left inside done_below
    (λ z low high less. occurrences-append z (names t) (flat_map argument_names done))) two.names_too in
    let kept : List Argument = filter (is_matched registers) ds in
    let third : Configuration = with_arguments held h ts es next kept (a ∷ done) in
    let last : Configuration = with_arguments held h ts es next (a ∷ kept) done in
    let four : OneNet third last =
    laws.order third last.equations three.names_too
    (IsPermutation-middle (map (matched held h) kept) (matched held h a) (map (matched held h) done ++ es)) in
    let all = laws.through start second last two (laws.through second third last three four) in
    let filtered : filter (is_matched registers) (a ∷ ds) ≡ a ∷ kept = ap (λ (b : Bool). cond (not b) (a ∷ kept) kept) unread in
    transport (λ l. OneNet start (with_arguments held h ts es next l done)) (sym filtered) all
  where
    true_false : true ≡ false → ⊥
    true_false e = cc

-- a name read from its own register is put for its other occurrence
read_one : NetLaws → (count bound : ℕ) (held : ℕ → Tree) (registers own : ℕ → ℕ) (ts : List Tree) (es : List Pair) (next k x : ℕ) (args : List Tree) (done : List Argument)
    → Named count bound held registers own ts es
    → Left count bound registers k (name x ∷ args) done
    → (registers x == k) ≡ true
    → HasNames (with_arguments held (so_far held registers own k) ts es next (record { register = k; term = name x } ∷ arguments_from (k + 1) args) done)
    → (Left count bound registers (k + 1) args done
    → HasNames (with_arguments held (so_far held registers own (k + 1)) ts es next (arguments_from (k + 1) args) done)
    → OneNet (with_arguments held (so_far held registers own (k + 1)) ts es next (arguments_from (k + 1) args) done)
    (with_arguments held (so_far held registers own bound) ts es next (filter (is_matched registers) (arguments_from (k + 1) args)) done))
    → OneNet (with_arguments held (so_far held registers own k) ts es next (record { register = k; term = name x } ∷ arguments_from (k + 1) args) done)
    (with_arguments held (so_far held registers own bound) ts es next (filter (is_matched registers) (record { register = k; term = name x } ∷ arguments_from (k + 1) args)) done)
read_one laws count bound held registers own ts es next k x args done is left read named rest =
    let a : Argument = record { register = k; term = name x } in
    let ds : List Argument = arguments_from (k + 1) args in
    let f : ℕ → Tree = so_far held registers own k in
    let g : ℕ → Tree = so_far held registers own (k + 1) in
    let h : ℕ → Tree = so_far held registers own bound in
    let length_is = left.length_is in
    let here : registers x ≡ k = (unsigned_Decides (registers x) k).0 read in
    let inside : k < bound = omega arith in
    let low : x < count = left.below.0 in
    let others : List Pair = map (matched held f) ds ++ (map (matched held f) done ++ es) in
    let start : Configuration = with_arguments held f ts es next (a ∷ ds) done in
    let turned_one : Pair = record { left = f x; right = held k } in
    let front : Configuration = record start { equations = turned_one ∷ others } in
    let one : OneNet start front = laws.turned start (matched held f a) others named (IsPermutation-refl start.equations) in
    let own_name : f x ≡ name (own x) = so_far_own held registers own k x (omega arith) in
    let pieced : Configuration = record start { equations = record { left = name (own x); right = held k } ∷ others } in
    let two : OneNet start pieced =
    transport (λ (l : Tree). OneNet start (record start { equations = record { left = l; right = held k } ∷ others })) own_name one in
    let twice = left.twice x low (omega arith) (omega arith) in
    let itself : occurrences x (x ∷ flat_map argument_names ds) ≡ 1 + occurrences x (flat_map argument_names ds) =
    occurrences-cons x x (flat_map argument_names ds) ∙ ap (λ (b : Bool). cond {A = ℕ} b 1 0 + occurrences x (flat_map argument_names ds)) (eq-eqb x x refl) in
    let some : 1 ≤ occurrences (own x) (names (f x)) = rw own_name (some_itself (own x)) in
    let parts = occurrences-append (own x) (flat_map names ts) (flat_map pair_names others) in
    let there : 1 ≤ occurrences (own x) (names_in ts others) =
    elim (some_of_two (occurrences x (flat_map argument_names ds)) (occurrences x (flat_map argument_names done)) (omega arith)) [
      | inl of_as ↦
          let found = matched_some (own x) x held f ds some of_as in
          let split = flat_in (own x) (map (matched held f) ds) (map (matched held f) done ++ es) in
          omega arith
      | inr of_done ↦
          let found = matched_some (own x) x held f done some of_done in
          let split = flat_in (own x) (map (matched held f) ds) (map (matched held f) done ++ es) in
          let more = flat_in (own x) (map (matched held f) done) es in
          omega arith
    ] in
    let three = laws.anywhere pieced (own x) (held k) others two.names_too (IsPermutation-refl pieced.equations) there in
    let second : Configuration = with_arguments held g ts es next ds done in
    let beside = is.not_beside x low (omega arith) in
    let besides = occurrences-append (own x) (flat_map names ts) (flat_map pair_names es) in
    let same_ts = terms_absent (own x) (held k) ts (omega arith) in
    let same_es = pairs_absent (own x) (held k) es (omega arith) in
    let below : AreBelow count ds = left.below.1 in
    let absent = is.not_held x low (omega arith) in
    let put : (z : ℕ) → z < count → subst (own x) (held k) (f z) ≡ g z =
    (λ z also. so_far_put count bound held registers own ts es is k x z inside low also here) in
    let same_as = matched_put count bound (own x) (held k) held f g ds below (inside_from bound (k + 1) args (omega arith)) absent put in
    let same_done = matched_put count bound (own x) (held k) held f g done left.below_too left.inside absent put in
    let equations : map (subst_pair (own x) (held k)) others ≡ map (matched held g) ds ++ (map (matched held g) done ++ es) =
    map-append (subst_pair (own x) (held k)) (map (matched held f) ds) (map (matched held f) done ++ es)
    ∙ ((λ i. same_as i ++ map (subst_pair (own x) (held k)) (map (matched held f) done ++ es))
    ∙ ap (λ l. map (matched held g) ds ++ l)
    (map-append (subst_pair (own x) (held k)) (map (matched held f) done) es ∙ (λ i. same_done i ++ same_es i))) in
    let same : subst_in (own x) (held k) (record pieced { equations = others }) ≡ second =
    (λ i. record { interface = same_ts i; equations = equations i; next = next }) in
    let four : OneNet pieced second = transport (OneNet pieced) same three in
    let five = rest (later count bound registers k (name x) args done done left left.inside left.below_too
    (λ z also high less.
    let none = none_at x z (λ same. let reg = ap registers same in omega arith) in
    omega arith)) four.names_too in
    let kept : List Argument = filter (is_matched registers) ds in
    let last : Configuration = with_arguments held h ts es next kept done in
    let all = laws.through start pieced last two (laws.through pieced second last four five) in
    let filtered : filter (is_matched registers) (a ∷ ds) ≡ kept = ap (λ (b : Bool). cond (not b) (a ∷ kept) kept) read in
    transport (λ l. OneNet start (with_arguments held h ts es next l done)) (sym filtered) all
  where
    some_itself : (n : ℕ) → 1 ≤ occurrences n (n ∷ [])
    some_itself n = rw (eq-eqb n n refl) (omega arith)

    flat_in : (n : ℕ) (ps qs : List Pair) → occurrences n (flat_map pair_names (ps ++ qs)) ≡ occurrences n (flat_map pair_names ps) + occurrences n (flat_map pair_names qs)
    flat_in n ps qs = ap (occurrences n) (flat_names ps qs) ∙ occurrences-append n (flat_map pair_names ps) (flat_map pair_names qs)

by_register : NetLaws → (count bound : ℕ) (held : ℕ → Tree) (registers own : ℕ → ℕ) (ts : List Tree) (es : List Pair) (next k x : ℕ) (args : List Tree) (done : List Argument)
    → Named count bound held registers own ts es
    → Left count bound registers k (name x ∷ args) done
    → HasNames (with_arguments held (so_far held registers own k) ts es next (record { register = k; term = name x } ∷ arguments_from (k + 1) args) done)
    → (b : Bool) → (registers x == k) ≡ b
    → (Left count bound registers (k + 1) args (record { register = k; term = name x } ∷ done)
    → HasNames (with_arguments held (so_far held registers own (k + 1)) ts es next (arguments_from (k + 1) args) (record { register = k; term = name x } ∷ done))
    → OneNet (with_arguments held (so_far held registers own (k + 1)) ts es next (arguments_from (k + 1) args) (record { register = k; term = name x } ∷ done))
    (with_arguments held (so_far held registers own bound) ts es next (filter (is_matched registers) (arguments_from (k + 1) args)) (record { register = k; term = name x } ∷ done)))
    → (Left count bound registers (k + 1) args done
    → HasNames (with_arguments held (so_far held registers own (k + 1)) ts es next (arguments_from (k + 1) args) done)
    → OneNet (with_arguments held (so_far held registers own (k + 1)) ts es next (arguments_from (k + 1) args) done)
    (with_arguments held (so_far held registers own bound) ts es next (filter (is_matched registers) (arguments_from (k + 1) args)) done))
    → OneNet (with_arguments held (so_far held registers own k) ts es next (record { register = k; term = name x } ∷ arguments_from (k + 1) args) done)
    (with_arguments held (so_far held registers own bound) ts es next (filter (is_matched registers) (record { register = k; term = name x } ∷ arguments_from (k + 1) args)) done)
by_register laws count bound held registers own ts es next k x args done is left named true e done_rest read_rest =
    read_one laws count bound held registers own ts es next k x args done is left e named read_rest
by_register laws count bound held registers own ts es next k x args done is left named false e done_rest read_rest =
    match_one laws count bound held registers own ts es next k (name x) args done left e named done_rest

pub put_arguments : NetLaws → (count bound : ℕ) (held : ℕ → Tree) (registers own : ℕ → ℕ) (ts : List Tree) (es : List Pair) (next k : ℕ) (args : List Tree) (done : List Argument)
    → Named count bound held registers own ts es
    → Left count bound registers k args done
    → HasNames (with_arguments held (so_far held registers own k) ts es next (arguments_from k args) done)
    → OneNet (with_arguments held (so_far held registers own k) ts es next (arguments_from k args) done)
    (with_arguments held (so_far held registers own bound) ts es next (filter (is_matched registers) (arguments_from k args)) done)
put_arguments laws count bound held registers own ts es next k [] done is left named =
    let length_is = left.length_is in
    let same : k ≡ bound = omega arith in
    let start : Configuration = with_arguments held (so_far held registers own k) ts es next [] done in
    transport (λ (j : ℕ). OneNet start (with_arguments held (so_far held registers own j) ts es next [] done)) same (laws.itself start named)
put_arguments laws count bound held registers own ts es next k (agent s us ∷ args) done is left named =
    match_one laws count bound held registers own ts es next k (agent s us) args done left refl named
    (λ l n. put_arguments laws count bound held registers own ts es next (k + 1) args (record { register = k; term = agent s us } ∷ done) is l n)
put_arguments laws count bound held registers own ts es next k (name x ∷ args) done is left named =
    by_register laws count bound held registers own ts es next k x args done is left named (registers x == k) refl
    (λ l n. put_arguments laws count bound held registers own ts es next (k + 1) args (record { register = k; term = name x } ∷ done) is l n)
    (λ l n. put_arguments laws count bound held registers own ts es next (k + 1) args done is l n)
