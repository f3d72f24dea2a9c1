-- Each warning is among those that are found.
use Rattle.std.proofs.Common.{◌≡◌, ℕ, zero, suc, ◌+◌, ◌&&◌, Bool, true, false, List, [], ◌∷◌, ◌++◌, Some, slice_get, refl, sym, ap, ◌∙◌, append_assoc, subst, arith}
use Rattle.std.proofs.lemmas.Option.{same_Some}
use Rattle.ic_term.specs.Configuration.{Configuration}
use Rattle.ic_term.specs.Tree.{Pair}
use Rattle.ic_rules.specs.Rule.{Rule}
use Rattle.ic_rules.specs.RuleSet.{Rules}
use Rattle.ic_check.specs.Warnings.{Has, HasNoRule, faces, are_apart, has_use, IsReach, AreWarnings, ruleless, ruleless_pairs, unused, unused_rules}
use Rattle.ic_check.specs.declared.warnings.Warnings.{Warnings}
use Rattle.ic_check.proofs.Idle.{same_use}
use Rattle.ic_check.proofs.Reached.{one_reach}
use Rattle.ic_check.proofs.Stuck.{stuck_found}

in_first : {X : Type 0} (x : X) (a b : List X) → Has a x → Has (a ++ b) x
in_first x a b (before, after, is) = (before, after ++ b, ap (λ l. l ++ b) is ∙ append_assoc before (x ∷ after) b)

in_second : {X : Type 0} (x : X) (a b : List X) → Has b x → Has (a ++ b) x
in_second x a b (before, after, is) = (a ++ before, after, ap (λ l. a ++ l) is ∙ sym (append_assoc a before (x ∷ after)))

alone : {X : Type 0} (x : X) (a : List X) → a ≡ x ∷ [] → Has a x
alone x a is = ([], [], is)

each_ruleless : (rs : List Rule) (es : List Pair) (i a b : ℕ) (p : Pair) → slice_get es i ≡ Some p → faces a b p ≡ true → HasNoRule rs a b → Has (ruleless_pairs rs es) (a, b)
each_ruleless rs [] zero a b p at is none = cc
each_ruleless rs [] (suc i) a b p at is none = cc
each_ruleless rs (e ∷ es) zero a b p at is none =
    let same : e ≡ p = same_Some e p at in
    let found : ruleless rs e.left e.right ≡ (a, b) ∷ [] = ap (λ (q : Pair). ruleless rs q.left q.right) same ∙ stuck_found rs p a b is none in
    in_first (a, b) (ruleless rs e.left e.right) (ruleless_pairs rs es) (alone (a, b) (ruleless rs e.left e.right) found)
each_ruleless rs (e ∷ es) (suc i) a b p at is none = in_second (a, b) (ruleless rs e.left e.right) (ruleless_pairs rs es) (each_ruleless rs es i a b p at is none)

each_unused : (among : ℕ → Bool) (rs : List Rule) (k i n : ℕ) (r : Rule) → n ≡ k + i → slice_get rs i ≡ Some r → (among r.left && among r.right) ≡ false → Has (unused_rules among k rs) n
each_unused among [] k zero n r is at not = cc
each_unused among [] k (suc i) n r is at not = cc
each_unused among (x ∷ xs) k zero n r is at not =
    let same : x ≡ r = same_Some x r at in
    let number : k ≡ n = omega (arith, is) in
    let here : unused among n r ≡ n ∷ [] = rw not refl in
    in_first n (unused among k x) (unused_rules among (k + 1) xs) (alone n (unused among k x) ((λ i. unused among (number i) (same i)) ∙ here))
each_unused among (x ∷ xs) k (suc i) n r is at not = in_second n (unused among k x) (unused_rules among (k + 1) xs) (each_unused among xs (k + 1) i n r (omega (arith, is)) at not)

-- ---- among all warnings of a system

pub ruleless_among : (rs : Rules) (c : Configuration) (w : Warnings) (i a b : ℕ) (p : Pair) → AreWarnings rs c w → slice_get c.equations i ≡ Some p → faces a b p ≡ true → HasNoRule rs.rules a b
    → Has w.ruleless.items (a, b)
ruleless_among rs c w i a b p are at faced none = subst (λ l. Has l (a, b)) (sym are.ruleless) (each_ruleless rs.rules c.equations i a b p at faced none)

pub unused_among : (rs : Rules) (c : Configuration) (w : Warnings) (among : ℕ → Bool) (i : ℕ) (r : Rule) → AreWarnings rs c w → IsReach rs.rules c among → slice_get rs.rules i ≡ Some r
    → (among r.left && among r.right) ≡ false → Has w.unused.items i
unused_among rs c w among i r are reach at not =
    let same = one_reach rs.rules c are.among among are.reach reach in
    let here : (are.among r.left && are.among r.right) ≡ false = (λ j. same r.left j && same r.right j) ∙ not in
    subst (λ l. Has l i) (sym are.unused) (each_unused are.among rs.rules 0 i i r (omega arith) at here)

pub meeting_same : (rs : Rules) (c : Configuration) (w : Warnings) (among : ℕ → Bool) → AreWarnings rs c w → IsReach rs.rules c among → w.none_meet ≡ (has_use among rs.rules && are_apart c.equations)
meeting_same rs c w among are reach =
    let same = one_reach rs.rules c are.among among are.reach reach in
    are.none_meet ∙ ap (λ b. b && are_apart c.equations) (same_use are.among among same rs.rules)
