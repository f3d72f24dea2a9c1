-- A name at a side occurs outside of its equation where it occurs twice in the configuration, and not in the other
-- side.
use Rattle.std.proofs.Common.{◌≡◌, ℕ, zero, suc, ◌+◌, ◌<◌, ◌≤◌, ◌==◌, List, [], ◌∷◌, ◌++◌, Bool, true, false, ◌&&◌, ◌||◌, not, cond, Option, None, Some, is_none, length, get_or, refl, sym, ap, ◌∙◌, append_assoc, add-one, arith, inl, inr}
use Rattle.std.specs.Prelude.{nat_eq, nat_le, nat_lt}
use Rattle.std.specs.List.{list_any}
use Rattle.std.specs.Option.{option_map, option_or}
use Rattle.std.proofs.lemmas.Bool.{cases_Bool, eqb-true, eqb-false, eq-eqb, false_from_ne_true, le-leb, lt-leb, le-ltb}
use Rattle.ic_term.specs.Tree.{Tree, name, agent, Pair, names, pair_names}
use Rattle.ic_term.specs.Configuration.{Configuration, names_in, configuration_names, occurrences}
use Rattle.ic_settle.specs.Settling.{Binding, Choice, occurs, side_binding, binding, choice_or, first_choice, applied, settling_step}
use Rattle.ic_settle.specs.lemmas.Ended.{is_applicable, has_applicable}
use Rattle.ic_settle.specs.lemmas.SubstitutionLaws.{occurrences-append, occurrences-cons, occurrences_none, occurrences_some}
use Rattle.ic_settle.specs.lemmas.MiddleLaws.{occurrences-middle}
use Rattle.ic_settle.specs.lemmas.StepLaws.{itself_once}

-- ---- a side

outside_where : (x : ℕ) (outside other all : List ℕ) (a b : Bool) → occurs x outside ≡ a → occurs x other ≡ b
    → occurrences x all ≡ occurrences x outside + (1 + occurrences x other) → occurrences x all ≤ 2
    → a ≡ (not b && nat_le 2 (occurrences x all))
outside_where x outside other all true true e f total few =
    absurd (omega (arith, occurrences_some x outside e, occurrences_some x other f, total, few))
outside_where x outside other all true false e f total few =
    sym (le-leb 2 (occurrences x all) (omega (arith, occurrences_some x outside e, total)))
outside_where x outside other all false true e f total few = refl
outside_where x outside other all false false e f total few =
    sym (lt-leb 2 (occurrences x all) (omega (arith, occurrences_none x outside e, occurrences_none x other f, total)))

none_at : (b : Bool) (bound : Binding) → is_none (cond b (Some bound) None) ≡ not b
none_at true bound = refl
none_at false bound = refl

-- the names of a side and of the other one, and how often each occurs outside of them
abbrev IsTotal : List ℕ → List ℕ → Tree → Tree → Type 0
IsTotal outside all t other = (x : ℕ) → occurrences x all ≡ occurrences x outside + (occurrences x (names t) + occurrences x (names other))

side_same : (outside all : List ℕ) (t other : Tree) → IsTotal outside all t other → ((x : ℕ) → occurrences x all ≤ 2)
    → is_none (side_binding outside t other) ≡ not (is_applicable all t other)
side_same outside all (name x) other total few =
    let one = itself_once x in
    let told = total x in
    let counted : occurrences x all ≡ occurrences x outside + (1 + occurrences x (names other)) = omega (arith, one, told) in
    none_at (occurs x outside) (record { name = x; term = other })
    ∙ ap not (outside_where x outside (names other) all (occurs x outside) (occurs x (names other)) refl refl counted (few x))
side_same outside all (agent s ts) other total few = refl

-- ---- an equation

none_of_two : (a b : Option Binding) → is_none (option_or a b) ≡ (is_none a && is_none b)
none_of_two None b = refl
none_of_two (Some a) b = refl

neither : (a b : Bool) → (not a && not b) ≡ not (a || b)
neither true b = refl
neither false b = refl

pair_same : (outside all : List ℕ) (p : Pair) → ((x : ℕ) → occurrences x all ≡ occurrences x outside + occurrences x (pair_names p))
    → ((x : ℕ) → occurrences x all ≤ 2) → is_none (binding outside p) ≡ not (has_applicable all p)
pair_same outside all p total few =
    let left : IsTotal outside all p.left p.right = λ x. omega (arith, total x, occurrences-append x (names p.left) (names p.right)) in
    let right : IsTotal outside all p.right p.left = λ x. omega (arith, total x, occurrences-append x (names p.left) (names p.right)) in
    none_of_two (side_binding outside p.left p.right) (side_binding outside p.right p.left)
    ∙ rw (side_same outside all p.left p.right left few, side_same outside all p.right p.left right few)
    (neither (is_applicable all p.left p.right) (is_applicable all p.right p.left))

-- ---- a configuration

no_choice : (before after : List Pair) (b : Option Binding) (later : Option Choice) → is_none (choice_or before after b later) ≡ (is_none b && is_none later)
no_choice before after None later = refl
no_choice before after (Some b) later = refl

choice_same : (ts : List Tree) (all : List ℕ) (before ps : List Pair) → ((x : ℕ) → occurrences x all ≡ occurrences x (names_in ts (before ++ ps)))
    → ((x : ℕ) → occurrences x all ≤ 2) → is_none (first_choice ts before ps) ≡ not (list_any (has_applicable all) ps)
choice_same ts all before [] total few = refl
choice_same ts all before (p ∷ after) total few =
    let outside = names_in ts (before ++ after) in
    let here = pair_same outside all p (λ x. total x ∙ occurrences-middle x ts before p after) few in
    let later = choice_same ts all (before ++ p ∷ []) after (λ x. total x ∙ ap (λ ps. occurrences x (names_in ts ps)) (sym (append_assoc before (p ∷ []) after))) few in
    no_choice before after (binding outside p) (first_choice ts (before ++ p ∷ []) after)
    ∙ rw (here, later) (neither (has_applicable all p) (list_any (has_applicable all) after))

none_mapped : (c : Configuration) (o : Option Choice) → is_none (option_map (applied c) o) ≡ is_none o
none_mapped c None = refl
none_mapped c (Some choice) = refl

-- settling takes no step where no equation has an applicable side
pub settled_where : (c : Configuration) (all : List ℕ) → ((x : ℕ) → occurrences x all ≡ occurrences x (configuration_names c))
    → ((x : ℕ) → occurrences x (configuration_names c) ≤ 2) → not (list_any (has_applicable all) c.equations) ≡ is_none (settling_step c)
settled_where c all total few =
    sym (none_mapped c (first_choice c.interface [] c.equations)
    ∙ choice_same c.interface all [] c.equations total (λ x. omega (arith, total x, few x)))

-- ---- a list that rises

no_lower : (x : ℕ) (ns : List ℕ) → ((k : ℕ) → k < length ns → x < get_or ns k 0) → occurrences x ns ≡ 0
no_lower x [] above = refl
no_lower x (n ∷ ns) above =
    let first : x < n = above 0 (omega arith) in
    let other : (n == x) ≡ false = false_from_ne_true (n == x) (λ e. let same = eqb-true n x e in absurd (omega arith)) in
    let rest = no_lower x ns (λ k within. above (suc k) (omega (arith, within))) in
    occurrences-cons x n ns ∙ ap (λ b. cond b 1 0 + occurrences x ns) other ∙ (omega (arith, rest))

abbrev pub Rises : List ℕ → Type 0
Rises ns = (i j : ℕ) → i ≤ j → j < length ns → get_or ns i 0 ≤ get_or ns j 0

few_here : (b : Bool) → cond b 1 0 ≤ 1
few_here true = omega arith
few_here false = omega arith

-- after lower names, a name occurs twice where it is at the second place
abbrev IsTwiceAt : ℕ → List ℕ → ℕ → Type 0
IsTwiceAt x ns next =
    (next < length ns → get_or ns next 0 ≡ x → 2 ≤ occurrences x ns) × ((next < length ns → get_or ns next 0 ≡ x → ⊥) → occurrences x ns < 2)

twice_where : (x : ℕ) (ns : List ℕ) (i : ℕ) → Rises ns → ((k : ℕ) → k < i → k < length ns → get_or ns k 0 < x)
    → ((k : ℕ) → i ≤ k → k < length ns → x ≤ get_or ns k 0) → IsTwiceAt x ns (suc i)
twice_where x [] i rises below above = ((λ within. absurd (omega (arith, within))), (λ other. let none : occurrences x [] ≡ 0 = refl in omega (arith, none)))
twice_where x (n ∷ ns) (suc i) rises below above =
    let first : n < x = below 0 (omega arith) (omega arith) in
    let other : (n == x) ≡ false = false_from_ne_true (n == x) (λ e. let same = eqb-true n x e in absurd (omega arith)) in
    let same : occurrences x (n ∷ ns) ≡ 0 + occurrences x ns = occurrences-cons x n ns ∙ ap (λ b. cond b 1 0 + occurrences x ns) other in
    let rest = twice_where x ns i (λ j k up within. rises (suc j) (suc k) (omega (arith, up)) (omega (arith, within)))
    (λ k low within. below (suc k) (omega (arith, low)) (omega (arith, within)))
    (λ k high within. above (suc k) (omega (arith, high)) (omega (arith, within))) in (
      (λ within at. omega (arith, same, rest.0 (omega (arith, within)) at)),
      (λ unlike. omega (arith, same, rest.1 (λ within at. unlike (omega (arith, within)) at))),
    )
twice_where x (n ∷ []) zero rises below above = (
  (λ within. absurd (omega (arith, within))),
  (λ unlike. let none : occurrences x [] ≡ 0 = refl in omega (arith, none, occurrences-cons x n [], few_here (n == x))),
)
twice_where x (n ∷ m ∷ ns) zero rises below above =
    let low : x ≤ n = above 0 (omega arith) (omega arith) in
    let up : n ≤ m = rises 0 1 (omega arith) (omega arith) in
    let first = occurrences-cons x n (m ∷ ns) in
    let second = occurrences-cons x m ns in (
      (λ within at.
          let here : n ≡ x = omega (arith, low, up, at) in
          omega (arith, first ∙ ap (λ b. cond b 1 0 + occurrences x (m ∷ ns)) (eq-eqb n x here), second ∙ ap (λ b. cond b 1 0 + occurrences x ns) (eq-eqb m x at))),
      (λ unlike. elim (cases_Bool (m == x)) [
        | inl e ↦ absurd (unlike (omega arith) (eqb-true m x e))
        | inr e ↦
            let above_it : x < m = omega (arith, low, up, eqb-false m x e) in
            let none = no_lower x (m ∷ ns) (λ k within. let higher = rises 1 (suc k) (omega arith) (omega (arith, within)) in omega (arith, above_it, higher)) in
            omega (arith, first, none, few_here (n == x))
      ]),
    )

pub twice_at : (x : ℕ) (ns : List ℕ) (i : ℕ) → Rises ns → ((k : ℕ) → k < i → k < length ns → get_or ns k 0 < x)
    → ((k : ℕ) → i ≤ k → k < length ns → x ≤ get_or ns k 0) → IsTwiceAt x ns (i + 1)
twice_at x ns i rises below above = rw (add-one i) (twice_where x ns i rises below above)

-- the test of the second place, and of whether there is one
pub found_twice : (x n count : ℕ) → (n ≡ x → 2 ≤ count) → ((n ≡ x → ⊥) → count < 2) → nat_eq n x ≡ nat_le 2 count
found_twice x n count many few = elim (cases_Bool (nat_eq n x)) [
  | inl e ↦ e ∙ sym (le-leb 2 count (many (eqb-true n x e)))
  | inr e ↦ e ∙ sym (lt-leb 2 count (few (eqb-false n x e)))
]

pub found_none : (i len count : ℕ) → len ≤ i → count < 2 → nat_lt i len ≡ nat_le 2 count
found_none i len count over few = le-ltb i len over ∙ sym (lt-leb 2 count few)
