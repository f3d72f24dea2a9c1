-- Lemmas: where a pair that is pending can fire, an interaction is possible in what is read back.
use Rattle.std.proofs.Common.{◌≡◌, ℕ, ◌+◌, ◌<◌, List, [], ◌∷◌, ◌++◌, Bool, true, false, Option, None, Some, length, drop, refl, ap, ◌∙◌, arith, subst as transport}
use Rattle.ic_term.specs.Tree.{Tree, name, agent, Trees, Pair}
use Rattle.ic_term.specs.Configuration.{Configuration}
use Rattle.ic_rules.specs.Rule.{Rule}
use Rattle.ic_rules.specs.RuleSet.{Rules, rule_for}
use Rattle.ic_flat.specs.Flat.{pairs_of}
use Rattle.ic_round.specs.Firing.{Active, active_pair, oriented, rule_of_sides, products_by, count_of}
use Rattle.ic_arena.specs.declared.word.Word.{Word}
use Rattle.ic_arena.specs.declared.word.TheConstants.{NAME, GIVEN}
use Rattle.ic_machine.specs.declared.equation.Equation.{Equation}
use Rattle.ic_machine.specs.Net.{HasNext}
use Rattle.ic_machine.specs.Plan.{Planned, Plans, number_of, plan_at}
use Rattle.ic_meaning.specs.Words.{Numbers}
use Rattle.ic_meaning.specs.Plans.{ArePlansOf, IsOfRule}
use Rattle.ic_readback.specs.Reading.{HeadIs, BeginAs, sides_of}
use Rattle.ic_in_place.specs.Reducing.{CanInteract}

-- ---- the equation of a pair

-- an equation among others, whose sides begin as these words say
record Found (n : Numbers) (l r : Word) (es : List Pair) : Type 0 where
  before : List Pair
  equation : Pair
  after : List Pair
  parts : es ≡ before ++ equation ∷ after
  left : ¬ (l.tag ≡ NAME) → HeadIs n l equation.left
  right : ¬ (r.tag ≡ NAME) → HeadIs n r equation.right

found_later : (n : Numbers) (l r : Word) (p : Pair) (es : List Pair) → Found n l r es → Found n l r (p ∷ es)
found_later n l r p es f = record {
  before = p ∷ f.before;
  equation = f.equation;
  after = f.after;
  parts = ap (λ xs. p ∷ xs) f.parts;
  left = f.left;
  right = f.right;
}

found_in : (n : Numbers) (front : List Equation) (l r : Word) (rest : List Word) (ts : List Tree) → BeginAs n (sides_of front ++ (l ∷ r ∷ rest)) ts → Found n l r (pairs_of ts)
found_in n [] l r rest [] begin = absurd begin
found_in n [] l r rest (t ∷ []) begin = absurd begin.1
found_in n [] l r rest (t ∷ u ∷ us) begin = record {
  before = [];
  equation = record { left = t; right = u };
  after = pairs_of us;
  parts = refl;
  left = begin.0;
  right = begin.1.0;
}
found_in n (e ∷ front) l r rest [] begin = absurd begin
found_in n (e ∷ front) l r rest (t ∷ []) begin = absurd begin.1
found_in n (e ∷ front) l r rest (t ∷ u ∷ us) begin = found_later n l r (record { left = t; right = u }) (pairs_of us) (found_in n front l r rest us begin.1.1)

pub begin_after : (n : Numbers) (ws vs : List Word) (ts : List Tree) → BeginAs n (ws ++ vs) ts → BeginAs n vs (drop (length ws) ts)
begin_after n [] vs ts begin = begin
begin_after n (w ∷ ws) vs [] begin = absurd begin
begin_after n (w ∷ ws) vs (t ∷ ts) begin = begin_after n ws vs ts begin.1

sides_apart : (front : List Equation) (e : Equation) (rest : List Word) → sides_of (front ++ e ∷ []) ++ rest ≡ sides_of front ++ (e.left ∷ e.right ∷ rest)
sides_apart [] e rest = refl
sides_apart (f ∷ front) e rest = ap (λ l. f.left ∷ f.right ∷ l) (sides_apart front e rest)

-- ---- its rule

-- a term that begins as an agent's word is an agent of its symbol
record IsAgent (s : ℕ) (t : Tree) : Type 0 where
  args : Trees
  is : t ≡ agent s args

agent_head : (n : Numbers) (w : Word) (s : ℕ) (t : Tree) → w.tag ≡ s + 1 → s + 1 < GIVEN → HeadIs n w t → IsAgent s t
agent_head n w s (name x) tag low head = absurd (omega (arith, tag, low, head.0))
agent_head n w s (agent r ts) tag low head = let same : r ≡ s = omega (arith, tag, head) in record { args = ts; is = ap (λ k. agent k ts) same }

has_number : (p : Plans) (a b : ℕ) (o : Option ℕ) (plan : Planned) → plan_at p.plans o ≡ Some plan → (i : ℕ) × (o ≡ Some i)
has_number p a b None plan is = cc
has_number p a b (Some i) plan is = (i, refl)

has_rule : (rs : Rules) (numbers : List ℕ) (p : Plans) (place : ℕ) (o : Option (ℕ × Bool)) → IsOfRule rs numbers p (Some place) o → (f : ℕ × Bool) × (o ≡ Some f)
has_rule rs numbers p place None is = absurd is
has_rule rs numbers p place (Some (i, b)) is = ((i, b), refl)

active_of : (t u : Tree) (f : ℕ × Bool) → (a : Active) × (oriented t u (Some f) ≡ Some a)
active_of t u (i, true) = (record { rule = i; left = u; right = t }, refl)
active_of t u (i, false) = (record { rule = i; left = t; right = u }, refl)

active_found : (rs : List Rule) (a b : ℕ) (t u : Tree) (f : ℕ × Bool) → IsAgent a t → IsAgent b u → rule_for rs a b ≡ Some f
    → (x : Active) × (active_pair rs (record { left = t; right = u }) ≡ Some x)
active_found rs a b t u f one two rule =
    let x = active_of t u f in
    (x.0, (ap (oriented t u) ((λ i. rule_of_sides rs (one.is i) (two.is i)) ∙ rule) ∙ x.1))

pub can_interact : (rs : Rules) (numbers : List ℕ) (p : Plans) (n : Numbers) (interface : List Word) (pending aside : List Equation) (ts : List Tree) (c : Configuration)
    → ArePlansOf rs numbers p → length p.arities < GIVEN → HasNext p pending → BeginAs n (interface ++ (sides_of pending ++ sides_of aside)) ts
    → c.equations ≡ pairs_of (drop (length interface) ts) → CanInteract rs.rules c
can_interact rs numbers p n interface pending aside ts c plans few next begin is =
    let pair : Equation = next.pair in
    let a = next.active in
    let low : a.left + 1 < GIVEN = let known = a.left_known in omega (arith, known, few) in
    let low_too : a.right + 1 < GIVEN = let known = a.right_known in omega (arith, known, few) in
    let sides : sides_of pending ++ sides_of aside ≡ sides_of next.front ++ (pair.left ∷ pair.right ∷ sides_of aside) =
    ap (λ es. sides_of es ++ sides_of aside) next.last ∙ sides_apart next.front pair (sides_of aside) in
    let found : Found n pair.left pair.right (pairs_of (drop (length interface) ts)) =
    found_in n next.front pair.left pair.right (sides_of aside) (drop (length interface) ts)
    (transport (λ (ws : List Word). BeginAs n ws (drop (length interface) ts)) sides (begin_after n interface (sides_of pending ++ sides_of aside) ts begin)) in
    let e : Pair = found.equation in
    let left : IsAgent a.left e.left = agent_head n pair.left a.left e.left a.left_tag low (found.left (λ z. let tag = a.left_tag in omega (arith, tag, z))) in
    let right : IsAgent a.right e.right = agent_head n pair.right a.right e.right a.right_tag low_too (found.right (λ z. let tag = a.right_tag in omega (arith, tag, z))) in
    let number = has_number p a.left a.right (number_of p a.left a.right) a.plan a.is in
    let rule = has_rule rs numbers p number.0 (rule_for rs.rules a.left a.right)
    (transport (λ (o : Option ℕ). IsOfRule rs numbers p o (rule_for rs.rules a.left a.right)) number.1 (plans.each a.left a.right a.left_known a.right_known)) in
    let active = active_found rs.rules a.left a.right e.left e.right rule.0 left right rule.1 in (
      record {
        interface = c.interface;
        equations = found.before ++ (products_by rs.rules c.next active.0 ++ found.after);
        next = c.next + count_of rs.rules active.0.rule;
      },
      length found.before,
      record {
        before = found.before;
        equation = e;
        after = found.after;
        active = active.0;
        stands = record { counted = refl; parts = is ∙ found.parts };
        has_rule = active.1;
        result = refl;
      },
    )
