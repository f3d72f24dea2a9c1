-- Works that are made one by one of active equations.
use Rattle.std.proofs.Common.{◌≡◌, ℕ, ◌+◌, ◌≤◌, List, [], ◌∷◌, ◌++◌, Bool, None, Some, get_or, ◌<◌, length, map, reverse, append_assoc, refl, sym, ap, ◌∙◌, arith}
use Rattle.std.proofs.lemmas.List.{map-append, reverse-append}
use Rattle.std.proofs.lemmas.Option.{same_Some, slice_get_read}
use Rattle.std.specs.Option.{option_map_or}
use Rattle.ic_term.specs.declared.term.Term.{Term}
use Rattle.ic_term.specs.Tree.{Tree, Pair}
use Rattle.ic_term.specs.Term.{tree}
use Rattle.ic_rules.specs.Rule.{Rule}
use Rattle.ic_round.specs.Firing.{Active, oriented, rule_of_sides, active_pair, count_of, names_taken, next_after}
use Rattle.ic_round.specs.Works.{PlainWork, work_at, works_from}
use Rattle.ic_round.specs.lemmas.ActiveRules.{active_by}
use Rattle.ic_round.specs.lemmas.FiredNames.{next_grows}

-- ---- terms taken from a stack

pub popped : (xs ys : List Term) (x : Term) (t : Tree) (ts : List Tree) → xs ≡ ys ++ x ∷ [] → reverse (map tree xs) ≡ t ∷ ts
    → (tree x ≡ t) × (reverse (map tree ys) ≡ ts)
popped xs ys x t ts is top =
    let all : reverse (map tree xs) ≡ tree x ∷ reverse (map tree ys) =
    ap (λ l. reverse (map tree l)) is ∙ ap reverse (map-append tree ys (x ∷ [])) ∙ reverse-append (map tree ys) (tree x ∷ []) in
    let same : tree x ∷ reverse (map tree ys) ≡ t ∷ ts = sym all ∙ top in
    (cc, cc)

pub none_left : (xs : List Term) (t : Tree) (ts : List Tree) → length xs ≡ 0 → reverse (map tree xs) ≡ t ∷ ts → ⊥
none_left [] t ts none top = cc
none_left (x ∷ xs) t ts none top = absurd (omega (arith, none))

-- ---- an active equation

-- and so many names are taken
pub taken_by : (rs : List Rule) (p : Pair) (a : Active) → active_pair rs p ≡ Some a → names_taken rs p ≡ count_of rs a.rule
taken_by rs p a is = ap (λ o. option_map_or (λ b. count_of rs b.rule) o 0) is

pub rule_is : (rs : List Rule) (p : Pair) (a : Active) (i : ℕ) (turned : Bool) → rule_of_sides rs p.left p.right ≡ Some (i, turned) → active_pair rs p ≡ Some a → a.rule ≡ i
rule_is rs p a i turned found is =
    let b = active_by rs p i turned found in
    let same : a ≡ b.0 = same_Some a b.0 (sym is ∙ b.1.0) in
    ap (λ (c : Active). c.rule) same ∙ b.1.1

-- its rule's names, where the rule is read
pub names-read : (rs known : List Rule) (i n : ℕ) (r : Rule) → i < length rs → known ≡ rs → r ≡ get_or known i r → n ≡ r.names → n ≡ count_of rs i
names-read rs known i n r within same read names =
    let there = slice_get_read rs (length rs) i r refl within (read ∙ ap (λ l. get_or l i r) same) in
    names ∙ sym (ap (λ o. option_map_or (λ (q : Rule). q.names) o 0) there)

-- and its work
pub work_is : (rs : List Rule) (p e : Pair) (number base i : ℕ) (turned : Bool) (w : PlainWork) → e ≡ p → rule_of_sides rs p.left p.right ≡ Some (i, turned)
    → w.place ≡ number → w.base ≡ base → oriented e.left e.right (Some (i, turned)) ≡ Some w.active → (active_pair rs p ≡ Some w.active) × (w ≡ work_at number base w.active)
work_is rs p e number base i turned w same found place at active = (
  ap (oriented p.left p.right) found ∙ ap (λ (q : Pair). oriented q.left q.right (Some (i, turned))) (sym same) ∙ active,
  λ j. record { place = place j; base = at j; active = w.active },
)

-- ---- equations one by one

-- the works so far and those of the equations left are all, and so are the names
pub record Takes (rs : List Rule) (all : List PlainWork) (last : ℕ) (works : List PlainWork) (number next : ℕ) (left : List Pair) : Type 0 where
  pub works_so_far : works ++ works_from rs number next left ≡ all
  pub names : next_after rs next left ≡ last

pub takes-inert : (rs : List Rule) (all works : List PlainWork) (last number next : ℕ) (left ps : List Pair) (p : Pair) → Takes rs all last works number next left
    → left ≡ p ∷ ps → rule_of_sides rs p.left p.right ≡ None → Takes rs all last works (number + 1) next ps
takes-inert rs all works last number next left ps p t is none =
    let idle : active_pair rs p ≡ None = ap (oriented p.left p.right) none in
    let taken : next + names_taken rs p ≡ next = ap (λ o. next + option_map_or (λ b. count_of rs b.rule) o 0) idle ∙ omega arith in
    let rest = works_from rs (number + 1) (next + names_taken rs p) ps in
    let here : works_from rs number next left ≡ works_from rs (number + 1) next ps =
    ap (works_from rs number next) is ∙ ap (λ o. option_map_or (λ b. work_at number next b ∷ rest) o rest) idle ∙ ap (λ n. works_from rs (number + 1) n ps) taken in
    record {
      works_so_far = ap (λ l. works ++ l) (sym here) ∙ t.works_so_far;
      names = ap (λ n. next_after rs n ps) (sym taken) ∙ ap (next_after rs next) (sym is) ∙ t.names;
    }

pub takes-active : (rs : List Rule) (all works more : List PlainWork) (last number next later : ℕ) (left ps : List Pair) (p : Pair) (a : Active)
    → Takes rs all last works number next left → left ≡ p ∷ ps → active_pair rs p ≡ Some a → more ≡ works ++ work_at number next a ∷ []
    → later ≡ next + count_of rs a.rule → Takes rs all last more (number + 1) later ps
takes-active rs all works more last number next later left ps p a t is active pushed grown =
    let beyond : later ≡ next + names_taken rs p = grown ∙ ap (λ n. next + n) (sym (taken_by rs p a active)) in
    let rest = works_from rs (number + 1) (next + names_taken rs p) ps in
    let here : works_from rs number next left ≡ work_at number next a ∷ rest =
    ap (works_from rs number next) is ∙ ap (λ o. option_map_or (λ b. work_at number next b ∷ rest) o rest) active in
    record {
      works_so_far =
          (λ i. pushed i ++ works_from rs (number + 1) (beyond i) ps) ∙ append_assoc works (work_at number next a ∷ []) rest
          ∙ ap (λ l. works ++ l) (sym here) ∙ t.works_so_far;
      names = ap (λ n. next_after rs n ps) beyond ∙ ap (next_after rs next) (sym is) ∙ t.names;
    }

-- the names of an active equation end within those of all
pub names-room : (rs : List Rule) (next last : ℕ) (left ps : List Pair) (p : Pair) (a : Active) → left ≡ p ∷ ps → active_pair rs p ≡ Some a → next_after rs next left ≡ last
    → next + count_of rs a.rule ≤ last
names-room rs next last left ps p a is active names =
    omega (arith, taken_by rs p a active, next_grows rs (next + names_taken rs p) ps, ap (next_after rs next) is, names)
