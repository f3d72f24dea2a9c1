-- Lemmas: what is read of stuck pairs is quiet.
use Rattle.std.proofs.Common.{◌≡◌, ℕ, ◌+◌, ◌*◌, ◌-◌, ◌≤◌, ◌==◌, List, [], ◌∷◌, ◌++◌, Bool, true, false, Option, None, Some, length, drop, slice_get, refl, sym, ap, ◌∙◌, arith, inl, inr, append-nil, subst as transport}
use Rattle.std.specs.Prelude.{◌⊎◌, ◌↔◌}
use Rattle.std.specs.List.{flat_map, AllByRecursion}
use Rattle.std.specs.Cmp.{unsigned_Decides}
use Rattle.std.proofs.lemmas.List.{length-drop}
use Rattle.std.proofs.lemmas.List.Concat.{flat_map-append}
use Rattle.ic_term.specs.Tree.{Tree, name, agent, Trees, names, Pair, pair_names}
use Rattle.ic_term.specs.Configuration.{Configuration, configuration_names, occurrences}
use Rattle.ic_rules.specs.Rule.{Rule}
use Rattle.ic_rules.specs.RuleSet.{Rules, IsRuleSet}
use Rattle.ic_settle.specs.Settling.{Binding, Binds}
use Rattle.ic_settle.specs.lemmas.SubstitutionLaws.{occurrences-append, occurrences_some}
use Rattle.ic_settle.specs.lemmas.StepLaws.{itself_once as name_itself}
use Rattle.ic_round.specs.Firing.{Active, active_pair, oriented, rule_of_sides}
use Rattle.ic_round.specs.Naming.{HasNames}
use Rattle.ic_round.specs.Quiet.{IsQuiet}
use Rattle.ic_round.specs.Steps.{Step, interaction, indirection, collect}
use Rattle.ic_arena.specs.declared.word.Word.{Word}
use Rattle.ic_machine.specs.declared.equation.Equation.{Equation}
use Rattle.ic_machine.specs.Net.{Net, IsStuck}
use Rattle.ic_machine.specs.Plan.{Plans}
use Rattle.ic_machine.specs.lemmas.FiringKeeps.{all_of as all_so}
use Rattle.ic_flat.specs.Words.{forest}
use Rattle.ic_flat.specs.Flat.{pairs_of}
use Rattle.ic_meaning.specs.Words.{Numbers, AreNumbers}
use Rattle.ic_meaning.specs.Plans.{ArePlansOf}
use Rattle.ic_meaning.specs.lemmas.Ruleless.{no_rule}
use Rattle.ic_readback.specs.declared.token.Token.{Token}
use Rattle.ic_readback.specs.Reading.{flat_words, configuration_read, sides_of, HeadIs, BeginAs, IsCircle, AreCirclesAfter}
use Rattle.ic_readback.proofs.Heads.{begin_after}
use Rattle.ic_readback.proofs.Ends.{sides_long}

-- ---- equations that no step is possible of

-- an equation is of no rule, and each side that is a name occurs in it alone
abbrev IsEnded : List Rule → (ℕ → ℕ) → Pair → Type 0
IsEnded rs total e = (active_pair rs e ≡ None) × ((y : ℕ) → (e.left ≡ name y) ⊎ (e.right ≡ name y) → total y ≤ occurrences y (pair_names e))

inert : (rs : Rules) (numbers : List ℕ) (p : Plans) (n : Numbers) (e : Equation) (t u : Tree) → IsRuleSet rs → ArePlansOf rs numbers p → IsStuck p e
    → HeadIs n e.left t → HeadIs n e.right u → oriented t u (rule_of_sides rs.rules t u) ≡ None
inert rs numbers p n e (name x) u set plans stuck left right = refl
inert rs numbers p n e (agent a ts) (name y) set plans stuck left right = refl
inert rs numbers p n e (agent a ts) (agent b us) set plans stuck left right =
    ap (oriented (agent a ts) (agent b us)) (no_rule rs numbers p a b set plans (stuck.no_plan a b left right))

agent_name : {a y : ℕ} {ts : Trees} → agent a ts ≡ name y → ⊥
agent_name e = cc

name_name : {x y : ℕ} → name x ≡ name y → x ≡ y
name_name e = cc

some_side : (e : Pair) (y : ℕ) → (e.left ≡ name y) ⊎ (e.right ≡ name y) → 1 ≤ occurrences y (pair_names e)
some_side e y (inl is) =
    let here = ap (λ (t : Tree). occurrences y (names t)) is ∙ name_itself y in
    let parts = occurrences-append y (names e.left) (names e.right) in
    omega arith
some_side e y (inr is) =
    let here = ap (λ (t : Tree). occurrences y (names t)) is ∙ name_itself y in
    let parts = occurrences-append y (names e.left) (names e.right) in
    omega arith

side_once : (n : Numbers) (total : ℕ → ℕ) (w : Word) (t : Tree) (y : ℕ) → ((j x : ℕ) → slice_get n.given j ≡ Some x → total x ≡ 1) → HeadIs n w t → t ≡ name y → total y ≡ 1
side_once n total w (name x) y once head is =
    let same : x ≡ y = name_name is in
    transport (λ (z : ℕ). total z ≡ 1) same (once w.index x head.1)
side_once n total w (agent a ts) y once head is = absurd (agent_name is)

-- the pairs that were set aside, and any after them
all_ended : (rs : Rules) (numbers : List ℕ) (p : Plans) (n : Numbers) (total : ℕ → ℕ) (es : List Equation) (ts : List Tree) (k : ℕ) → IsRuleSet rs → ArePlansOf rs numbers p
    → ((j x : ℕ) → slice_get n.given j ≡ Some x → total x ≡ 1) → AllByRecursion (IsStuck p) es → BeginAs n (sides_of es) ts → length ts ≡ 2 * (length es + k)
    → AllByRecursion (IsEnded rs.rules total) (drop (length es) (pairs_of ts)) → AllByRecursion (IsEnded rs.rules total) (pairs_of ts)
all_ended rs numbers p n total [] ts k set plans once stuck begin even rest = rest
all_ended rs numbers p n total (e ∷ es) (t ∷ u ∷ ts) k set plans once stuck begin even rest =
    let left : HeadIs n e.left t = begin.0 stuck.0.left in
    let right : HeadIs n e.right u = begin.1.0 stuck.0.right in (
      (inert rs numbers p n e t u set plans stuck.0 left right, λ y. sides_once left right y),
      all_ended rs numbers p n total es ts k set plans once stuck.1 begin.1.1 (omega arith) rest,
    )
  where
    sides_once : HeadIs n e.left t → HeadIs n e.right u → (y : ℕ) → (t ≡ name y) ⊎ (u ≡ name y) → total y ≤ occurrences y (pair_names (record { left = t; right = u }))
    sides_once left right y side =
        let some = some_side (record { left = t; right = u }) y side in
        let one = once_side side in
        omega arith
      where
        once_side : (t ≡ name y) ⊎ (u ≡ name y) → total y ≡ 1
        once_side (inl is) = side_once n total e.left t y once left is
        once_side (inr is) = side_once n total e.right u y once right is
all_ended rs numbers p n total (e ∷ es) _ k set plans once stuck begin even rest = absurd (omega arith)

-- ---- circles

-- the name of a circle occurs in its equation alone, and on both sides
circle_ended : (rs : List Rule) (n : Numbers) (c : Configuration) (e : Pair) → AreNumbers n → HasNames c
    → ((x : ℕ) → (occurrences x (configuration_names c) ≡ 1) → ((j : ℕ) × (slice_get n.given j ≡ Some x)))
    → IsCircle n c e → IsEnded rs (λ x. occurrences x (configuration_names c)) e
circle_ended rs n c e sound has given is =
    (transport (λ l. active_pair rs (record { left = l; right = e.right }) ≡ None) (sym is.left) refl, sides)
  where
    x : ℕ
    x = n.of_place is.place

    total : occurrences x (configuration_names c) ≡ 1 + occurrences x (names e.right)
    total = is.alone

    not_once : occurrences x (configuration_names c) ≡ 1 → ⊥
    not_once one = let found = given x one in sound.not_given found.0 x is.place found.1 refl

    inner : occurrences x (names e.right) ≡ 1
    inner =
        let few = has.twice x in
        let all = total in
        let none = not_once in
        omega arith

    both : occurrences x (pair_names e) ≡ 2
    both =
        let parts = occurrences-append x (names e.left) (names e.right) in
        let here = ap (λ (t : Tree). occurrences x (names t)) is.left ∙ name_itself x in
        let one = inner in
        omega arith

    same_name : (y : ℕ) → (e.left ≡ name y) ⊎ (e.right ≡ name y) → x ≡ y
    same_name y (inl left) = name_name (sym is.left ∙ left)
    same_name y (inr right) = at (y == x) refl
      where
        at : (b : Bool) → (y == x) ≡ b → x ≡ y
        at true e = sym ((unsigned_Decides y x).0 e)
        at false e =
            let none : occurrences x (y ∷ []) ≡ 0 = rw e refl in
            let here = ap (λ (t : Tree). occurrences x (names t)) right in
            let one = inner in
            absurd (omega arith)

    sides : (y : ℕ) → (e.left ≡ name y) ⊎ (e.right ≡ name y) → occurrences y (configuration_names c) ≤ occurrences y (pair_names e)
    sides y side =
        transport (λ (z : ℕ). occurrences z (configuration_names c) ≤ occurrences z (pair_names e)) (same_name y side)
        (let all = total in let one = inner in let two = both in omega arith)

-- ---- no step

all_at_middle : {X : Type 0} (P : X → Type 0) (before : List X) (x : X) (after : List X) → AllByRecursion P (before ++ x ∷ after) → P x
all_at_middle P [] x after all = all.0
all_at_middle P (y ∷ before) x after all = all_at_middle P before x after all.1

some_none : {a : Active} {o : Option Active} → o ≡ Some a → o ≡ None → ⊥
some_none e f = let both = sym e ∙ f in cc

ended_quiet : (rs : List Rule) (c : Configuration) → AllByRecursion (IsEnded rs (λ x. occurrences x (configuration_names c))) c.equations → IsQuiet rs c
ended_quiet rs c all d step = at step
  where
    at_place : (before : List Pair) (e : Pair) (after : List Pair) → c.equations ≡ before ++ e ∷ after → IsEnded rs (λ x. occurrences x (configuration_names c)) e
    at_place before e after parts =
        all_at_middle (IsEnded rs (λ x. occurrences x (configuration_names c))) before e after
        (transport (AllByRecursion (IsEnded rs (λ x. occurrences x (configuration_names c)))) parts all)

    side_of : (e : Pair) (b : Binding) → Binds e b → (e.left ≡ name b.name) ⊎ (e.right ≡ name b.name)
    side_of e b (inl here) = inl (ap (λ (p : Pair). p.left) here)
    side_of e b (inr here) = inr (ap (λ (p : Pair). p.right) here)

    no_side : (before : List Pair) (e : Pair) (after : List Pair) (b : Binding) → c.equations ≡ before ++ e ∷ after → Binds e b
        → 1 ≤ occurrences b.name (flat_map names c.interface) + occurrences b.name (flat_map pair_names (before ++ after)) → ⊥
    no_side before e after b parts side some =
        let y : ℕ = b.name in
        let few = (at_place before e after parts).1 y (side_of e b side) in
        let all_names = occurrences-append y (flat_map names c.interface) (flat_map pair_names c.equations) in
        let split = ap (λ l. occurrences y (flat_map pair_names l)) parts
        ∙ (ap (occurrences y) (flat_map-append pair_names before (e ∷ after)) ∙ occurrences-append y (flat_map pair_names before) (pair_names e ++ flat_map pair_names after)) in
        let more = occurrences-append y (pair_names e) (flat_map pair_names after) in
        let others = ap (occurrences y) (flat_map-append pair_names before after) ∙ occurrences-append y (flat_map pair_names before) (flat_map pair_names after) in
        absurd (omega arith)

    at : Step rs c d → ⊥
    at (interaction x y place i) = some_none i.has_rule (at_place i.before i.equation i.after i.stands.parts).0
    at (indirection x y place i) =
        no_side i.before i.equation i.after i.bound i.stands.parts i.side
        (let some = occurrences_some i.bound.name (flat_map pair_names (i.before ++ i.after)) i.elsewhere in omega arith)
    at (collect x y place i) =
        no_side i.before i.equation i.after i.bound i.stands.parts i.side
        (let some = occurrences_some i.bound.name (flat_map names c.interface) i.elsewhere in omega arith)

pub stuck_quiet : (rs : Rules) (numbers : List ℕ) (p : Plans) (n : Numbers) (m : Net) (ts : List Token) (equations : ℕ) → IsRuleSet rs → ArePlansOf rs numbers p → AreNumbers n
    → m.pending ≡ [] → AllByRecursion (IsStuck p) m.aside
    → BeginAs n (m.interface ++ (sides_of m.pending ++ sides_of m.aside)) (forest (flat_words n ts))
    → length (forest (flat_words n ts)) ≡ length m.interface + 2 * equations
    → HasNames (configuration_read n ts (length m.interface)) → AreCirclesAfter n (length m.pending + length m.aside) (configuration_read n ts (length m.interface))
    → ((x : ℕ) → (occurrences x (configuration_names (configuration_read n ts (length m.interface))) ≡ 1) ↔ ((j : ℕ) × (slice_get n.given j ≡ Some x)))
    → IsQuiet rs.rules (configuration_read n ts (length m.interface))
stuck_quiet rs numbers p n m ts equations set plans sound none stuck begin counted has are given =
    let c : Configuration = configuration_read n ts (length m.interface) in
    let F : List Tree = forest (flat_words n ts) in
    let k : ℕ = length m.aside in
    let aside : BeginAs n (m.interface ++ sides_of m.aside) F = transport (λ (l : List Equation). BeginAs n (m.interface ++ (sides_of l ++ sides_of m.aside)) F) none begin in
    let after = begin_after n m.interface (sides_of m.aside) F aside in
    let low = after.0 in
    let long : length (drop (length m.interface) F) ≡ 2 * equations = omega (arith, length-drop (length m.interface) F) in
    let sides : length (sides_of m.aside) ≤ length (drop (length m.interface) F) =
    (begin_after n (sides_of m.aside) [] (drop (length m.interface) F) (transport (λ l. BeginAs n l (drop (length m.interface) F)) (sym (append-nil (sides_of m.aside))) after.1)).0 in
    let many = sides_long m.aside in
    let even : length (drop (length m.interface) F) ≡ 2 * (k + (equations - k)) = omega arith in
    let no_more : length m.pending + k ≡ k = omega (arith, ap (length {A = Equation}) none) in
    let circles : AreCirclesAfter n k c = transport (λ (j : ℕ). AreCirclesAfter n j c) no_more are in
    let rest : AllByRecursion (IsEnded rs.rules (λ x. occurrences x (configuration_names c))) (drop k c.equations) =
    all_so (IsCircle n c) (IsEnded rs.rules (λ x. occurrences x (configuration_names c))) (drop k c.equations)
    (λ e is. circle_ended rs.rules n c e sound has (λ x. (given x).0) is) circles in
    ended_quiet rs.rules c
    (all_ended rs numbers p n (λ x. occurrences x (configuration_names c)) m.aside (drop (length m.interface) F) (equations - k) set plans
    (λ j x there. (given x).1 (j, there)) stuck after.1 even rest)
