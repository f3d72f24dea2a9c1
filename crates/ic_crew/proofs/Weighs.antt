-- Works with their sizes in the order in which they are dealt.
use Rattle.std.proofs.Common.{◌≡◌, ℕ, ◌+◌, ◌<◌, ◌==◌, List, [], ◌∷◌, Bool, true, false, cond, ◌&&◌, ◌||◌, nat_lt, length, map, get_or, refl, sym, ap, ◌∙◌, arith, All, IsSortedBy}
use Rattle.std.proofs.lemmas.List.{get_or-map, length-map}
use Rattle.std.specs.Ordering.{is_lt, ordering_then}
use Rattle.std.specs.declared.cmp.Ordering.TheVariants.{Less, Equal, Greater}
use Rattle.ic_rules.specs.Rule.{Rule}
use Rattle.ic_round.specs.WorkViews.{work_of}
use Rattle.ic_crew.specs.declared.weighing.Weighed.{Weighed}
use Rattle.ic_crew.specs.Sizes.{work_size}
use Rattle.ic_crew.specs.Dealing.{is_dealt_before}
use Rattle.ic_crew.specs.inner.Parts.{plain_work, IsWeighed, is_heavier}

-- the first key decides, and where it ties the second
pub by_two_keys : (a b c d : Bool) → is_lt (ordering_then (cond a Less (cond b Equal Greater)) (cond c Less (cond d Equal Greater))) ≡ (a || (b && c))
by_two_keys true b c d = refl
by_two_keys false true true d = refl
by_two_keys false true false true = refl
by_two_keys false true false false = refl
by_two_keys false false c d = refl

heavier_is : (rs : List Rule) (v w : Weighed) → IsWeighed rs v → IsWeighed rs w → is_heavier v w ≡ is_dealt_before rs (plain_work v) (plain_work w)
heavier_is rs v w weighed_v weighed_w =
    ap (λ (s : ℕ). nat_lt s v.size || (s == v.size && nat_lt v.work.place w.work.place)) weighed_w
    ∙ ap (λ (s : ℕ). nat_lt (work_size rs (work_of w.work)) s || (work_size rs (work_of w.work) == s && nat_lt v.work.place w.work.place)) weighed_v

pub dealt_in_order : (rs : List Rule) (ws : List Weighed) → All (IsWeighed rs) ws → IsSortedBy is_heavier ws → IsSortedBy (is_dealt_before rs) (map plain_work ws)
dealt_in_order rs [] weighed sorted = λ k d low high. absurd (omega arith)
dealt_in_order rs (w ∷ ws) weighed sorted = λ k d low high.
    let long = length-map (w ∷ ws) plain_work in
    let next_in : k + 1 < length (w ∷ ws) = omega (arith, high, long) in
    let here_in : k < length (w ∷ ws) = omega (arith, next_in) in
    let next = get_or-map plain_work (w ∷ ws) (k + 1) w d next_in in
    let here = get_or-map plain_work (w ∷ ws) k w d here_in in
    rw (next, here) (sym (heavier_is rs (get_or (w ∷ ws) (k + 1) w) (get_or (w ∷ ws) k w) (weighed (k + 1) w next_in) (weighed k w here_in))
    ∙ sorted k w low next_in)
