-- Lemmas: a step of a desk. Parts are dealt to hands, run there, and are taken back.
use Rattle.std.proofs.Common.{◌≡◌, ℕ, ◌+◌, ◌*◌, ◌/◌, ◌%◌, ◌^◌, ◌<◌, ◌≤◌, ◌==◌, List, [], ◌∷◌, ◌++◌, cond, length, refl, sym, ap, subst, arith, sum_by}
use Rattle.std.specs.Prelude.{IsPermutation}
use Rattle.std.specs.List.{AllByRecursion}
use Rattle.std.proofs.lemmas.List.Sums.{sum_by-cons, sum_by-append}
use Rattle.std.proofs.lemmas.List.Sorted.{IsPermutation-sym}
use Rattle.std.proofs.lemmas.Nat.{div-add-mod'}
use Rattle.std.proofs.Math.Nat.{mul-le-mul_left, mul-le-mul_right}
use Rattle.ic_machine.specs.Plan.{Plans}
use Rattle.ic_workers.specs.Parts.{Part}
use Rattle.ic_workers.specs.declared.kept.Hand.{Hand}
use Rattle.ic_workers.specs.declared.desk.Desk.{Desk}
use Rattle.ic_workers.specs.inner.HandsOn.{Come, HaveWorked}
use Rattle.ic_workers.specs.inner.Keeping.{interactions_of, parts_at, parts_in, parts_in_all, slots_at, AreApart, AreAt, AreFit, AreWithin, HandWorked, HandsWorked, IsDesk, IsIdle, IsKept, IsReady}
use Rattle.ic_workers.proofs.Desks.{come_worked, desk_worked, made_least}
use Rattle.ic_workers.proofs.Lists.{all_of_both, all_of_left, all_of_permutation, all_of_right}
use Rattle.ic_workers.proofs.Slots.{apart_too, at_apart, at_within, having}
use Rattle.ic_workers.proofs.Workings.{worked_beside, worked_none}

abbrev pub made_of : List Hand → ℕ
made_of hs = sum_by (λ h. h.made) hs

-- ---- what all hands have done

pub all_worked : (p : Plans) (gs hs : List Hand) → HandsWorked p gs hs → HaveWorked p (parts_in_all gs) (parts_in_all hs)
all_worked p [] [] a = tt
all_worked p [] (h ∷ hs) a = absurd a
all_worked p (g ∷ gs) [] a = absurd a
all_worked p (g ∷ gs) (h ∷ hs) a =
    worked_beside p (parts_in g) (parts_in h) (parts_in_all gs) (parts_in_all hs) a.0.worked (all_worked p gs hs a.1)

pub all_kept : (p : Plans) (gs hs : List Hand) → HandsWorked p gs hs → AllByRecursion (IsKept p) (parts_in_all hs)
all_kept p [] [] a = tt
all_kept p [] (h ∷ hs) a = absurd a
all_kept p (g ∷ gs) [] a = absurd a
all_kept p (g ∷ gs) (h ∷ hs) a = all_of_both (IsKept p) (parts_in h) (parts_in_all hs) a.0.kept (all_kept p gs hs a.1)

pub all_made : (p : Plans) (gs hs : List Hand) → HandsWorked p gs hs
    → interactions_of (parts_in_all hs) ≡ interactions_of (parts_in_all gs) + made_of hs
all_made p [] [] a = refl
all_made p [] (h ∷ hs) a = absurd a
all_made p (g ∷ gs) [] a = absurd a
all_made p (g ∷ gs) (h ∷ hs) a =
    let f : Part → ℕ = λ (q : Part). q.net.interactions in
    let x = sum_by-append f (parts_in h) (parts_in_all hs) in
    let y = sum_by-append f (parts_in g) (parts_in_all gs) in
    let z = sum_by-cons (λ (k : Hand). k.made) h hs in
    let here = a.0.made in
    let rest = all_made p gs hs a.1 in
    omega (arith, x, y, z, here, rest)

pub made_within : (p : Plans) (budget : ℕ) (gs hs : List Hand) → HandsWorked p gs hs → AllByRecursion (IsIdle budget) gs
    → made_of hs ≤ length gs * budget
made_within p budget [] [] a idle = omega arith
made_within p budget [] (h ∷ hs) a idle = absurd a
made_within p budget (g ∷ gs) [] a idle = absurd a
made_within p budget (g ∷ gs) (h ∷ hs) a idle =
    let z = sum_by-cons (λ (k : Hand). k.made) h hs in
    let here = a.0.within in
    let may = idle.0.may in
    let rest = made_within p budget gs hs a.1 idle.1 in
    omega (arith, z, here, may, rest)

pub all_ready : (p : Plans) (budget : ℕ) (hs : List Hand) → AreFit p → AllByRecursion (IsIdle budget) hs → AllByRecursion (IsKept p) (parts_in_all hs)
    → interactions_of (parts_in_all hs) + budget < 2 ^ 64 → AllByRecursion (IsReady p) hs
all_ready p budget [] fit idle kept few = tt
all_ready p budget (h ∷ hs) fit idle kept few =
    let x = sum_by-append (λ (q : Part). q.net.interactions) (parts_in h) (parts_in_all hs) in
    let may = idle.0.may in (
      record {
        fit = fit;
        kept = all_of_left (IsKept p) (parts_in h) (parts_in_all hs) kept;
        few = omega (arith, x, may, few);
        none = idle.0.none;
      },
      all_ready p budget hs fit idle.1 (all_of_right (IsKept p) (parts_in h) (parts_in_all hs) kept) (omega (arith, x, few)),
    )

-- ---- numbers of parts stay

pub worked_within : (p : Plans) (n : ℕ) (qs rs : List Part) → HaveWorked p qs rs → AreWithin n qs → AreWithin n rs
worked_within p n [] [] a all = tt
worked_within p n [] (r ∷ rs) a all = absurd a
worked_within p n (q ∷ qs) [] a all = absurd a
worked_within p n (q ∷ qs) (r ∷ rs) a all = (subst (λ (m : ℕ). m < n) (sym a.0.number) all.0, worked_within p n qs rs a.1 all.1)

pub worked_having : (p : Plans) (k : ℕ) (qs rs : List Part) → HaveWorked p qs rs → having k rs ≡ having k qs
worked_having p k [] [] a = refl
worked_having p k [] (r ∷ rs) a = absurd a
worked_having p k (q ∷ qs) [] a = absurd a
worked_having p k (q ∷ qs) (r ∷ rs) a =
    let here : ◌≡◌ {A = ℕ} (cond (r.number == k) 1 0) (cond (q.number == k) 1 0) = ap (λ (m : ℕ). cond {A = ℕ} (m == k) 1 0) a.0.number in
    let x = sum_by-cons (λ (s : Part). cond {A = ℕ} (s.number == k) 1 0) r rs in
    let y = sum_by-cons (λ (s : Part). cond {A = ℕ} (s.number == k) 1 0) q qs in
    let rest = worked_having p k qs rs a.1 in
    omega (arith, here, x, y, rest)

pub worked_apart : (p : Plans) (qs rs : List Part) → HaveWorked p qs rs → AreApart qs → AreApart rs
worked_apart p qs rs a apart k =
    let same = worked_having p k qs rs a in
    let few = apart k in
    omega (arith, same, few)

-- ---- from a desk to hands

-- what parts of a desk that are in hands keep
pub in_hands_kept : (p : Plans) (d : Desk) (qs rest : List Part) → IsDesk p d → IsPermutation (qs ++ rest) (parts_at d) → AllByRecursion (IsKept p) qs
in_hands_kept p d qs rest desk moved =
    all_of_left (IsKept p) qs rest
    (all_of_permutation (IsKept p) (parts_at d) (qs ++ rest) (IsPermutation-sym (qs ++ rest) (parts_at d) moved) desk.each)

-- they have slots, after they have run, too
pub in_hands_within : (p : Plans) (d : Desk) (qs rs rest : List Part) → IsDesk p d → IsPermutation (qs ++ rest) (parts_at d) → HaveWorked p qs rs
    → AreWithin (length d.parts.items) rs
in_hands_within p d qs rs rest desk moved ran =
    let n : ℕ = length d.parts.items in
    worked_within p n qs rs ran
    (all_of_left (λ (q : Part). q.number < n) qs rest
    (all_of_permutation (λ (q : Part). q.number < n) (parts_at d) (qs ++ rest) (IsPermutation-sym (qs ++ rest) (parts_at d) moved)
    (at_within d.parts.items 0 n (omega arith) desk.slots)))

-- and no two have one number
pub in_hands_apart : (p : Plans) (d : Desk) (qs rs rest : List Part) → IsDesk p d → IsPermutation (qs ++ rest) (parts_at d) → HaveWorked p qs rs
    → AreApart (rs ++ rest)
in_hands_apart p d qs rs rest desk moved ran =
    worked_apart p (qs ++ rest) (rs ++ rest) (worked_beside p qs rs rest rest ran (worked_none p rest))
    (apart_too (qs ++ rest) (parts_at d) moved (at_apart d.parts.items desk.slots))

-- ---- hands that are taken back

-- of three, the last two
pub apart_last : (us vs ws : List Part) → AreApart ((us ++ vs) ++ ws) → AreApart (vs ++ ws)
apart_last us vs ws apart k =
    let f : Part → ℕ = λ (q : Part). cond {A = ℕ} (q.number == k) 1 0 in
    let x = sum_by-append f (us ++ vs) ws in
    let y = sum_by-append f us vs in
    let z = sum_by-append f vs ws in
    let few = apart k in
    omega (arith, x, y, z, few)

-- ---- all together

-- Parts were dealt to hands, these have worked, and the parts are back.
pub step_desk : (p : Plans) (d m e : Desk) (gs hs : List Hand) → IsDesk p d → IsPermutation (parts_in_all gs ++ parts_at m) (parts_at d)
    → HandsWorked p gs hs → IsPermutation (parts_at e) (parts_in_all hs ++ parts_at m) → AreAt 0 (slots_at e)
    → length e.parts.items ≡ length d.parts.items → e.made ≡ d.made + made_of hs → IsDesk p e × Come p (parts_at d) (parts_at e)
step_desk p d m e gs hs desk moved worked back slots len made = (
  desk_worked p d e (parts_in_all gs) (parts_in_all hs) (parts_at m) (made_of hs) desk moved (all_worked p gs hs worked) (all_kept p gs hs worked)
      (all_made p gs hs worked) back slots len made,
  come_worked p d e (parts_in_all gs) (parts_in_all hs) (parts_at m) moved (all_worked p gs hs worked) back,
)

-- The same of one hand.
pub alone_desk : (p : Plans) (d m e : Desk) (g h : Hand) → IsDesk p d → IsPermutation (parts_in g ++ parts_at m) (parts_at d)
    → HandWorked p g h → IsPermutation (parts_at e) (parts_in h ++ parts_at m) → AreAt 0 (slots_at e)
    → length e.parts.items ≡ length d.parts.items → e.made ≡ d.made + h.made → IsDesk p e × Come p (parts_at d) (parts_at e)
alone_desk p d m e g h desk moved worked back slots len made = (
  desk_worked p d e (parts_in g) (parts_in h) (parts_at m) h.made desk moved worked.worked worked.kept worked.made back slots len made,
  come_worked p d e (parts_in g) (parts_in h) (parts_at m) moved worked.worked back,
)

-- hands that were dealt what a desk had, where there was nothing in them
pub dealt : (gs bs : List Hand) (m d : List Part) → parts_in_all bs ≡ [] → IsPermutation (parts_in_all gs ++ m) (parts_in_all bs ++ d)
    → IsPermutation (parts_in_all gs ++ m) d
dealt gs bs m d none moved = subst (λ (l : List Part). IsPermutation (parts_in_all gs ++ m) (l ++ d)) none moved

-- hands to which parts of a desk were dealt are ready, where no more than so many interactions are left
pub dealt_ready : (p : Plans) (d : Desk) (gs : List Hand) (rest : List Part) (budget left : ℕ) → IsDesk p d → IsPermutation (parts_in_all gs ++ rest) (parts_at d)
    → AllByRecursion (IsIdle budget) gs → budget ≤ left → d.made + left < 2 ^ 64 → AllByRecursion (IsReady p) gs
dealt_ready p d gs rest budget left desk moved idle low few =
    let least = made_least p d (parts_in_all gs) rest desk moved in
    all_ready p budget gs desk.fit idle (in_hands_kept p d (parts_in_all gs) rest desk moved) (omega (arith, least, low, few))

-- so many interactions for each of some hands are no more than there are
pub shared_within : (count left share budget : ℕ) → share ≡ left / count → budget ≤ share → count * budget ≤ left
shared_within count left share budget is few =
    let low : count * budget ≤ count * share = mul-le-mul_left count few in
    let same : count * share ≡ count * (left / count) = ap (λ (n : ℕ). count * n) is in
    let whole : left / count * count + left % count ≡ left = div-add-mod' left count in
    omega (arith, low, same, whole)

-- nor are those for one of them
pub one_within : (count left budget : ℕ) → 1 ≤ count → count * budget ≤ left → budget ≤ left
one_within count left budget some all =
    let one : 1 * budget ≤ count * budget = mul-le-mul_right budget some in
    omega (arith, one, all)
