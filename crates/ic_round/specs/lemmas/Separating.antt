-- The active equations taken out of a list one by one.
use Rattle.std.proofs.Common.{◌≡◌, ℕ, ◌+◌, ◌≤◌, ◌<◌, List, [], ◌∷◌, ◌++◌, Bool, true, false, Option, None, Some, length, map, sym, ap, ◌∙◌, append_assoc, length-append, arith}
use Rattle.std.specs.Option.{option_map_or}
use Rattle.ic_term.specs.Tree.{Tree, Pair}
use Rattle.ic_rules.specs.Rule.{Rule}
use Rattle.ic_round.specs.Firing.{Active, oriented, rule_of_sides, active_pair, count_of, names_taken, next_after}
use Rattle.ic_round.specs.Works.{PlainWork, work_at, works_from}
use Rattle.ic_round.specs.Gathering.{gap_at}
use Rattle.ic_round.specs.lemmas.FiredNames.{next_grows}
use Rattle.ic_round.specs.lemmas.ActiveRules.{rule_within}

-- an active equation's rule is there
oriented_found : (t u : Tree) (found : Option (ℕ × Bool)) (a : Active) → oriented t u found ≡ Some a → (turned : Bool) × (found ≡ Some (a.rule, turned))
oriented_found t u None a e = cc
oriented_found t u (Some (i, false)) a e = (false, (let same : i ≡ a.rule = cc in ap (λ k. Some (k, false)) same))
oriented_found t u (Some (i, true)) a e = (true, (let same : i ≡ a.rule = cc in ap (λ k. Some (k, true)) same))

pub active_found : (rs : List Rule) (p : Pair) (a : Active) → active_pair rs p ≡ Some a → (turned : Bool) × (rule_of_sides rs p.left p.right ≡ Some (a.rule, turned))
active_found rs p a e = oriented_found p.left p.right (rule_of_sides rs p.left p.right) a e

pub active_within : (rs : List Rule) (p : Pair) (a : Active) → active_pair rs p ≡ Some a → a.rule < length rs
active_within rs p a e =
    let found = active_found rs p a e in
    rule_within rs p.left p.right a.rule found.0 found.1

-- what is taken out so far, and what the equations left give, are what the whole list gives
pub record Separates (rs : List Rule) (next : ℕ) (all : List Pair) (works : List PlainWork) (kept : List (Option Pair)) (base : ℕ) (left : List Pair) : Type 0 where
  pub same_works : works ++ works_from rs (length kept) base left ≡ works_from rs 0 next all
  pub same_kept : kept ++ map (gap_at rs) left ≡ map (gap_at rs) all
  pub same_next : next_after rs base left ≡ next_after rs next all

pub separates-active : (rs : List Rule) (next : ℕ) (all : List Pair) (works more : List PlainWork) (kept grown : List (Option Pair)) (base later : ℕ) (p : Pair) (left : List Pair) (a : Active)
    → Separates rs next all works kept base (p ∷ left) → active_pair rs p ≡ Some a → more ≡ works ++ work_at (length kept) base a ∷ [] → grown ≡ kept ++ None ∷ []
    → later ≡ base + count_of rs a.rule → Separates rs next all more grown later left
separates-active rs next all works more kept grown base later p left a s is pushed gap last =
    let taken : names_taken rs p ≡ count_of rs a.rule = ap (λ o. option_map_or (λ b. count_of rs b.rule) o 0) is in
    let beyond : later ≡ base + names_taken rs p = last ∙ ap (λ n. base + n) (sym taken) in
    let place : length grown ≡ length kept + 1 = ap length gap ∙ length-append kept (None ∷ []) in
    let rest = works_from rs (length kept + 1) (base + names_taken rs p) left in
    let here : works_from rs (length kept) base (p ∷ left) ≡ work_at (length kept) base a ∷ rest =
    ap (λ o. option_map_or (λ b. work_at (length kept) base b ∷ rest) o rest) is in
    let hole : gap_at rs p ≡ None = ap (λ o. option_map_or (λ b. None) o (Some p)) is in
    record {
      same_works =
          (λ i. pushed i ++ works_from rs (place i) (beyond i) left)
          ∙ append_assoc works (work_at (length kept) base a ∷ []) rest
          ∙ ap (λ l. works ++ l) (sym here) ∙ s.same_works;
      same_kept =
          ap (λ k. k ++ map (gap_at rs) left) gap ∙ append_assoc kept (None ∷ []) (map (gap_at rs) left)
          ∙ ap (λ h. kept ++ h ∷ map (gap_at rs) left) (sym hole) ∙ s.same_kept;
      same_next = ap (λ b. next_after rs b left) beyond ∙ s.same_next;
    }

-- the names of an active equation end within those of the whole list
pub separates-room : (rs : List Rule) (next : ℕ) (all : List Pair) (works : List PlainWork) (kept : List (Option Pair)) (base : ℕ) (p : Pair) (left : List Pair) (a : Active)
    → Separates rs next all works kept base (p ∷ left) → active_pair rs p ≡ Some a → base + count_of rs a.rule ≤ next_after rs next all
separates-room rs next all works kept base p left a s is =
    let taken : names_taken rs p ≡ count_of rs a.rule = ap (λ o. option_map_or (λ b. count_of rs b.rule) o 0) is in
    let grows = next_grows rs (base + names_taken rs p) left in
    let same = s.same_next in
    omega arith
