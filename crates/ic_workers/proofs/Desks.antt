-- Lemmas: what a desk keeps.
use Rattle.std.proofs.Common.{◌≡◌, ◌⊎◌, inl, inr, ℕ, ◌+◌, ◌-◌, ◌*◌, ◌%◌, ◌<◌, ◌≤◌, ◌==◌, ◌&&◌, List, [], ◌∷◌, ◌++◌, Option, None, Some, Bool, true, false, cond, length, map, get_or, set, nat_le, refl, sym, ap, subst, arith, ◌∙◌, sum_by, length-append, length-set}
use Rattle.std.specs.Prelude.{IsPermutation}
use Rattle.std.specs.List.{AllByRecursion, flat_map}
use Rattle.std.proofs.lemmas.Bool.{eqb-true, leb-true}
use Rattle.std.proofs.lemmas.List.{append-nil, length-map}
use Rattle.std.proofs.lemmas.List.Sums.{sum_by-cons, sum_by-append}
use Rattle.std.proofs.lemmas.List.Sorted.{IsPermutation-refl, IsPermutation-sym, IsPermutation-to_front, length_permutation, sum_by-IsPermutation}
use Rattle.ic_arena.specs.declared.word.Word.{Word}
use Rattle.ic_machine.specs.Moving.{Ends, spells_cut, worth, KeepWorth}
use Rattle.ic_in_place.specs.Stopping.{IsBegun}
use Rattle.ic_machine.specs.Net.{Net, pieces, IsStuck}
use Rattle.ic_machine.specs.Plan.{Planned, Plans}
use Rattle.ic_machine.specs.Separate.{IsSeparate}
use Rattle.ic_workers.specs.Parts.{Part}
use Rattle.ic_workers.specs.declared.kept.Kept.{Kept}
use Rattle.ic_workers.specs.declared.desk.Desk.{Desk}
use Rattle.ic_workers.specs.inner.HandsOn.{Come, HaveWorked, IsBare, IsNew, stayed, ordered, worked, added}
use Rattle.ic_workers.specs.inner.Keeping.{interactions_of, part_of, parts_at, slot, slots_at, AreAt, AreFit, AreWithin, Changes, Comes, IsDesk, IsKept, KeepsDesk}
use Rattle.ic_workers.proofs.Lists.{all_of_both, all_of_permutation, all_of_right, flat_last, flat_of_map, get_map, map_set, one_in, one_out, others, same_flat, same_length}
use Rattle.ic_workers.proofs.Slots.{at_end, at_set, at_slot, at_within, full_slot}
use Rattle.ic_workers.proofs.Workings.{come_on, worked_beside, worked_len, worked_none}

-- what a number is worth over parts
abbrev pub worth_of : ℕ → List Part → ℕ
worth_of c qs = sum_by (λ q. worth c q.borders) qs

pub worth_stays : (p : Plans) (c : ℕ) (qs rs : List Part) → HaveWorked p qs rs → worth_of c rs ≡ worth_of c qs
worth_stays p c [] [] a = refl
worth_stays p c [] (r ∷ rs) a = absurd a
worth_stays p c (q ∷ qs) [] a = absurd a
worth_stays p c (q ∷ qs) (r ∷ rs) a =
    let here : worth c r.borders ≡ worth c q.borders = ap (worth c) a.0.borders in
    let rest = worth_stays p c qs rs a.1 in
    let x = sum_by-cons (λ (s : Part). worth c s.borders) r rs in
    let y = sum_by-cons (λ (s : Part). worth c s.borders) q qs in
    omega (arith, here, rest, x, y)

-- ---- some parts have run

worth_moves : (p : Plans) (c : ℕ) (old new before after rest : List Part) → IsPermutation (before ++ rest) old → HaveWorked p before after
    → IsPermutation (after ++ rest) new → worth_of c new ≡ worth_of c old
worth_moves p c old new before after rest moved ran back =
    let f : Part → ℕ = λ (q : Part). worth c q.borders in
    let a = sum_by-IsPermutation f (before ++ rest) old moved in
    let b = sum_by-IsPermutation f (after ++ rest) new back in
    let x = sum_by-append f before rest in
    let y = sum_by-append f after rest in
    let same = worth_stays p c before after ran in
    omega (arith, a, b, x, y, same)

pub desk_worked : (p : Plans) (d e : Desk) (before after rest : List Part) (made : ℕ) → IsDesk p d
    → IsPermutation (before ++ rest) (parts_at d) → HaveWorked p before after → AllByRecursion (IsKept p) after
    → interactions_of after ≡ interactions_of before + made → IsPermutation (parts_at e) (after ++ rest)
    → AreAt 0 (slots_at e) → length e.parts.items ≡ length d.parts.items → e.made ≡ d.made + made → IsDesk p e
desk_worked p d e before after rest made desk moved ran kept counted back slots len all =
    let there : IsPermutation (after ++ rest) (parts_at e) = IsPermutation-sym (parts_at e) (after ++ rest) back in
    let here : AllByRecursion (IsKept p) (before ++ rest) =
    all_of_permutation (IsKept p) (parts_at d) (before ++ rest) (IsPermutation-sym (before ++ rest) (parts_at d) moved) desk.each in
    record {
      fit = desk.fit;
      each = all_of_permutation (IsKept p) (after ++ rest) (parts_at e) there
          (all_of_both (IsKept p) after rest kept (all_of_right (IsKept p) before rest here));
      slots = slots;
      full =
          let a = length_permutation (before ++ rest) (parts_at d) moved in
          let b = length_permutation (after ++ rest) (parts_at e) there in
          let w = worked_len p before after ran in
          let x = length-append before rest in
          let y = length-append after rest in
          let full = desk.full in
          omega (arith, a, b, w, x, y, full, len);
      few = let few = desk.few in omega (arith, len, few);
      two = λ c.
          let s = worth_moves p c (parts_at d) (parts_at e) before after rest moved ran there in
          let few = desk.two c in
          omega (arith, s, few);
      unused = λ c low.
          let s = worth_moves p c (parts_at d) (parts_at e) before after rest moved ran there in
          let none = desk.unused c (omega (arith, len, low)) in
          omega (arith, s, none);
      counted =
          let f : Part → ℕ = λ (q : Part). q.net.interactions in
          let a = sum_by-IsPermutation f (before ++ rest) (parts_at d) moved in
          let b = sum_by-IsPermutation f (after ++ rest) (parts_at e) there in
          let x = sum_by-append f before rest in
          let y = sum_by-append f after rest in
          let so_far = desk.counted in
          omega (arith, a, b, x, y, so_far, counted, all);
    }

pub come_worked : (p : Plans) (d e : Desk) (before after rest : List Part) → IsPermutation (before ++ rest) (parts_at d)
    → HaveWorked p before after → IsPermutation (parts_at e) (after ++ rest) → Come p (parts_at d) (parts_at e)
come_worked p d e before after rest moved ran back =
    ordered (parts_at d) (after ++ rest) (parts_at e)
    (worked (parts_at d) (before ++ rest) (after ++ rest)
    (stayed (parts_at d) (before ++ rest) (IsPermutation-sym (before ++ rest) (parts_at d) moved))
    (worked_beside p before after rest rest ran (worked_none p rest)))
    (IsPermutation-sym (parts_at e) (after ++ rest) back)

-- no part makes more than all have made together
pub made_least : (p : Plans) (d : Desk) (qs rest : List Part) → IsDesk p d → IsPermutation (qs ++ rest) (parts_at d) → interactions_of qs ≤ d.made
made_least p d qs rest desk moved =
    let f : Part → ℕ = λ (q : Part). q.net.interactions in
    let a = sum_by-IsPermutation f (qs ++ rest) (parts_at d) moved in
    let x = sum_by-append f qs rest in
    let so_far = desk.counted in
    omega (arith, a, x, so_far)

-- ---- what looks the same

pub desk_same : (p : Plans) (ws : List Word) (d e : Desk) → slots_at e ≡ slots_at d → e.made ≡ d.made → KeepsDesk p ws d → KeepsDesk p ws e
desk_same p ws d e slots made keep =
    let parts : parts_at e ≡ parts_at d = same_flat slot e.parts.items d.parts.items slots in
    let len : length e.parts.items ≡ length d.parts.items = same_length slot e.parts.items d.parts.items slots in
    record {
      fit = keep.fit;
      each = subst (AllByRecursion (IsKept p)) (sym parts) keep.each;
      slots = subst (AreAt 0) (sym slots) keep.slots;
      full = ap length parts ∙ (keep.full ∙ sym len);
      few = let few = keep.few in omega (arith, len, few);
      two = λ c. subst (λ (qs : List Part). worth_of c qs + spells_cut c ws ≤ 2) (sym parts) (keep.two c);
      unused = λ c low. subst (λ (qs : List Part). worth_of c qs + spells_cut c ws ≡ 0) (sym parts) (keep.unused c (omega (arith, len, low)));
      counted = ap interactions_of parts ∙ (keep.counted ∙ sym made);
    }

-- ---- a part is added

-- numbers that a part may give to cuts which has given none
abbrev pub new_ends : ℕ → Ends
new_ends number = record { ends = []; ended = []; next = number; step = 512 }

-- is it one of them
abbrev is_own : ℕ → ℕ → Bool
is_own number c = nat_le number c && (c - number) % 512 == 0

worth_new : (number c : ℕ) (b : Bool) → is_own number c ≡ b → worth c (new_ends number) ≡ 2 * cond b 1 0
worth_new number c b e =
    let same : ◌≡◌ {A = ℕ} (cond (is_own number c) 1 0) (cond b 1 0) = ap (λ (t : Bool). cond {A = ℕ} t 1 0) e in
    omega (arith, same)

pub own_numbers : (number c : ℕ) → number < 512 → (worth c (new_ends number) ≡ 0) ⊎ ((worth c (new_ends number) ≡ 2) × (c % 512 ≡ number))
own_numbers number c low = at (nat_le number c) ((c - number) % 512 == 0) refl refl
  where
    at : (a b : Bool) → nat_le number c ≡ a → ((c - number) % 512 == 0) ≡ b
        → (worth c (new_ends number) ≡ 0) ⊎ ((worth c (new_ends number) ≡ 2) × (c % 512 ≡ number))
    at true true above divides =
        let is : is_own number c ≡ true = (λ i. above i && divides i) in
        let least : number ≤ c = leb-true number c above in
        let whole : (c - number) % 512 ≡ 0 = eqb-true ((c - number) % 512) 0 divides in
        inr (worth_new number c true is, omega (arith, least, whole, low))
    at true false above divides = inl (worth_new number c false (λ i. above i && divides i))
    at false true above divides = inl (worth_new number c false (λ i. above i && divides i))
    at false false above divides = inl (worth_new number c false (λ i. above i && divides i))

others_of : (n : ℕ) (qs : List Part) → AreWithin n qs → AllByRecursion (λ r. ¬ (n ≡ r.number)) qs
others_of n [] all = tt
others_of n (q ∷ qs) all = ((λ same. absurd (omega (arith, same, all.0))), others_of n qs all.1)

-- what a part of nothing is to the parts of a desk, if its number is that of the next slot
pub is_new : (p : Plans) (d : Desk) (k : Kept) → IsDesk p d → IsKept p (part_of k) → k.number ≡ length d.parts.items
    → k.borders ≡ new_ends k.number → length d.parts.items < 512 → IsNew p.arities (part_of k) (parts_at d)
is_new p d k desk kept number borders few =
    let within : AreWithin k.number (parts_at d) =
    at_within d.parts.items 0 k.number (omega (arith, number)) desk.slots in
    record {
      room = omega (arith, number, few);
      other = others_of k.number (parts_at d) within;
      arities_are = kept.arities;
      numbers = λ c.
          let own = own_numbers k.number c (omega (arith, number, few)) in
          let same : worth c k.borders ≡ worth c (new_ends k.number) = ap (worth c) borders in
          elim own [
            | inl none ↦ inl (same ∙ none)
            | inr its ↦ let none = desk.unused c (omega (arith, number, its.1)) in inr (same ∙ its.0, omega (arith, none))
          ];
    }

pub desk_added : (p : Plans) (d e : Desk) (k : Kept) → IsDesk p d → IsBare (part_of k) → IsKept p (part_of k) → k.number ≡ length d.parts.items
    → k.borders ≡ new_ends k.number → length d.parts.items < 512 → e.parts.items ≡ d.parts.items ++ Some k ∷ [] → e.made ≡ d.made → IsDesk p e
desk_added p d e k desk bare kept number borders few items made =
    let xs : List (Option Kept) = d.parts.items in
    let q : Part = part_of k in
    let parts : parts_at e ≡ parts_at d ++ q ∷ [] = ap (flat_map slot) items ∙ flat_last slot xs (Some k) in
    let len : length e.parts.items ≡ length xs + 1 = ap length items ∙ length-append xs (Some k ∷ []) in
    let worths : (c : ℕ) → worth_of c (parts_at e) ≡ worth_of c (parts_at d) + worth c (new_ends k.number) =
    (λ (c : ℕ).
    let f : Part → ℕ = λ (r : Part). worth c r.borders in
    let a : worth_of c (parts_at e) ≡ worth_of c (parts_at d ++ q ∷ []) = ap (worth_of c) parts in
    let b = sum_by-append f (parts_at d) (q ∷ []) in
    let x = sum_by-cons f q [] in
    let same : worth c k.borders ≡ worth c (new_ends k.number) = ap (worth c) borders in
    omega (arith, a, b, x, same)) in
    record {
      fit = desk.fit;
      each = subst (AllByRecursion (IsKept p)) (sym parts) (all_of_both (IsKept p) (parts_at d) (q ∷ []) desk.each (kept, tt));
      slots = subst (λ (ys : List (Option Kept)). AreAt 0 (map slot ys)) (sym items) (at_end xs 0 k (omega (arith, number)) desk.slots);
      full =
          let a : length (parts_at e) ≡ length (parts_at d ++ q ∷ []) = ap length parts in
          let b = length-append (parts_at d) (q ∷ []) in
          let full = desk.full in
          omega (arith, a, b, full, len);
      few = omega (arith, len, few);
      two = λ c.
          let w = worths c in
          let before = desk.two c in
          elim (own_numbers k.number c (omega (arith, number, few))) [
            | inl none ↦ omega (arith, w, before, none)
            | inr its ↦ let none = desk.unused c (omega (arith, number, its.1)) in let two = its.0 in omega (arith, w, none, two)
          ];
      unused = λ c low.
          let w = worths c in
          let before = desk.unused c (omega (arith, len, low)) in
          elim (own_numbers k.number c (omega (arith, number, few))) [
            | inl none ↦ omega (arith, w, before, none)
            | inr its ↦ let own = its.1 in absurd (omega (arith, own, len, low, number))
          ];
      counted =
          let f : Part → ℕ = λ (r : Part). r.net.interactions in
          let a : interactions_of (parts_at e) ≡ interactions_of (parts_at d ++ q ∷ []) = ap interactions_of parts in
          let b = sum_by-append f (parts_at d) (q ∷ []) in
          let x = sum_by-cons f q [] in
          let none = bare.interactions in
          let so_far = desk.counted in
          omega (arith, a, b, x, none, so_far, made);
    }

pub come_added : (p : Plans) (d e : Desk) (k : Kept) → IsDesk p d → IsBare (part_of k) → IsKept p (part_of k) → k.number ≡ length d.parts.items
    → k.borders ≡ new_ends k.number → length d.parts.items < 512 → e.parts.items ≡ d.parts.items ++ Some k ∷ [] → Come p (parts_at d) (parts_at e)
come_added p d e k desk bare kept number borders few items =
    let q : Part = part_of k in
    let parts : parts_at e ≡ parts_at d ++ q ∷ [] = ap (flat_map slot) items ∙ flat_last slot d.parts.items (Some k) in
    subst (Come p (parts_at d)) (sym parts)
    (ordered (parts_at d) (q ∷ parts_at d) (parts_at d ++ q ∷ [])
    (added q (parts_at d) (parts_at d) (stayed (parts_at d) (parts_at d) (IsPermutation-refl (parts_at d))) bare (is_new p d k desk kept number borders few) kept.plans)
    (IsPermutation-sym (parts_at d ++ q ∷ []) (q ∷ parts_at d) (IsPermutation-to_front (parts_at d) q)))

-- ---- a part in a slot changes

pub slot_changes : (P : Part → Part → Type 0) (xs : List (Option Kept)) (k : ℕ) (o : Option Kept) (old new : Kept) → k < length xs → o ≡ get_or xs k o
    → o ≡ Some old → old.number ≡ k → new.number ≡ old.number → P (part_of old) (part_of new)
    → Changes k P (map slot xs) (map slot (set xs k (Some new)))
slot_changes P xs k o old new lt is was own number how = record {
  part = part_of old;
  after = part_of new;
  there = let long = length-map xs slot in omega (arith, lt, long);
  before = get_map slot xs k o [] lt is ∙ ap slot was;
  now = map_set slot xs k (Some new);
  how = how;
  same = number;
}

from_zero : (n : ℕ) → 0 + n ≡ n
from_zero n = omega arith

-- what is known of a part in a slot
pub at_desk : (p : Plans) (ws : List Word) (d : Desk) (k : ℕ) (o : Option Kept) (kept : Kept) → KeepsDesk p ws d → k < length d.parts.items
    → o ≡ get_or d.parts.items k o → o ≡ Some kept
    → IsKept p (part_of kept) × (kept.number ≡ k) × ((c : ℕ) → worth c kept.borders + spells_cut c ws ≤ 2)
at_desk p ws d k o kept keep lt is was =
    let rest : List Part = others slot d.parts.items k in
    let first : IsPermutation (parts_at d) (part_of kept ∷ rest) =
    subst (λ (y : Option Kept). IsPermutation (parts_at d) (slot y ++ rest)) was (one_out slot d.parts.items k o lt is) in
    let all = all_of_permutation (IsKept p) (parts_at d) (part_of kept ∷ rest) first keep.each in
    let number : AllByRecursion (λ q. q.number ≡ 0 + k) (slot (Some kept)) =
    subst (λ (y : Option Kept). AllByRecursion (λ q. q.number ≡ 0 + k) (slot y)) was (at_slot slot d.parts.items 0 k o lt is keep.slots) in (
      all.0,
      number.0 ∙ from_zero k,
      (λ c.
          let f : Part → ℕ = λ (q : Part). worth c q.borders in
          let a = sum_by-IsPermutation f (parts_at d) (part_of kept ∷ rest) first in
          let x = sum_by-cons f (part_of kept) rest in
          let few = keep.two c in
          omega (arith, a, x, few)),
    )

-- each slot of a desk has a part
pub desk_full : (p : Plans) (ws : List Word) (d : Desk) (k : ℕ) (o : Option Kept) → KeepsDesk p ws d → k < length d.parts.items
    → o ≡ get_or d.parts.items k o → o ≡ None → ⊥
desk_full p ws d k o keep lt is none =
    let there = full_slot d.parts.items k keep.full lt in
    let empty : get_or d.parts.items k None ≡ None = subst (λ (y : Option Kept). get_or d.parts.items k y ≡ y) none (sym is) in
    let z : ◌≡◌ {A = Option Kept} None (Some there.0) = sym empty ∙ there.1 in
    cc

-- What a desk keeps where a part has changed, and handed out or taken in words: its numbers of cuts are kept over both.
pub desk_changed : (p : Plans) (us vs : List Word) (d e : Desk) (k : ℕ) (o : Option Kept) (old new : Kept) → KeepsDesk p us d
    → k < length d.parts.items → o ≡ get_or d.parts.items k o → o ≡ Some old → old.number ≡ k → new.number ≡ old.number → IsKept p (part_of new)
    → KeepWorth old.borders new.borders us vs → new.machine.interactions ≡ old.machine.interactions
    → e.parts.items ≡ set d.parts.items k (Some new) → e.made ≡ d.made → KeepsDesk p vs e
desk_changed p us vs d e k o old new keep lt is was own number kept worths count items made =
    let xs : List (Option Kept) = d.parts.items in
    let q : Part = part_of old in
    let r : Part = part_of new in
    let rest : List Part = others slot xs k in
    let first : IsPermutation (parts_at d) (q ∷ rest) =
    subst (λ (y : Option Kept). IsPermutation (flat_map slot xs) (slot y ++ rest)) was (one_out slot xs k o lt is) in
    let then_set : IsPermutation (flat_map slot (set xs k (Some new))) (r ∷ rest) = one_in slot xs k (Some new) lt in
    let second : IsPermutation (parts_at e) (r ∷ rest) =
    subst (λ (ys : List (Option Kept)). IsPermutation (flat_map slot ys) (r ∷ rest)) (sym items) then_set in
    let len : length e.parts.items ≡ length xs = ap length items ∙ length-set xs k (Some new) in
    let back : IsPermutation (r ∷ rest) (parts_at e) = IsPermutation-sym (parts_at e) (r ∷ rest) second in
    let here : AllByRecursion (IsKept p) (q ∷ rest) = all_of_permutation (IsKept p) (parts_at d) (q ∷ rest) first keep.each in
    let sums : (f : Part → ℕ) → sum_by f (parts_at e) + f q ≡ sum_by f (parts_at d) + f r =
    (λ (f : Part → ℕ).
    let a = sum_by-IsPermutation f (parts_at d) (q ∷ rest) first in
    let b = sum_by-IsPermutation f (parts_at e) (r ∷ rest) second in
    let x = sum_by-cons f q rest in
    let y = sum_by-cons f r rest in
    omega (arith, a, b, x, y)) in
    record {
      fit = keep.fit;
      each = all_of_permutation (IsKept p) (r ∷ rest) (parts_at e) back (kept, here.1);
      slots = subst (λ (ys : List (Option Kept)). AreAt 0 (map slot ys)) (sym items)
          (at_set slot xs 0 k (Some new) (number ∙ (own ∙ sym (from_zero k)), tt) keep.slots);
      full =
          let a = length_permutation (parts_at d) (q ∷ rest) first in
          let b = length_permutation (parts_at e) (r ∷ rest) second in
          let full = keep.full in
          omega (arith, a, b, full, len);
      few = let few = keep.few in omega (arith, len, few);
      two = λ c.
          let s = sums (λ (t : Part). worth c t.borders) in
          let w = worths c in
          let before = keep.two c in
          omega (arith, s, w, before);
      unused = λ c low.
          let s = sums (λ (t : Part). worth c t.borders) in
          let w = worths c in
          let before = keep.unused c (omega (arith, len, low)) in
          omega (arith, s, w, before);
      counted =
          let s = sums (λ (t : Part). t.net.interactions) in
          let so_far = keep.counted in
          omega (arith, s, count, so_far, made);
    }

-- ---- the first part

pub kept_begun : (p : Plans) (given : ℕ) (plan : Planned) (operands : List ℕ) (n : Net) → IsBegun p given plan operands n
    → IsKept p (record { number = 0; net = n; borders = new_ends 0 })
kept_begun p given plan operands n begun = record {
  arities = begun.arities;
  plans = ap length begun.counts ∙ length-map p.plans (λ plan. 0);
  bordered = subst (λ (i : List Word). IsSeparate n.arities i (pieces n)) (sym (append-nil n.interface))
      (subst (λ (a : List ℕ). IsSeparate a n.interface (pieces n)) (sym begun.arities) begun.separate);
  interface = inl refl;
  aside = subst (AllByRecursion (IsStuck p)) (sym begun.aside) tt;
}

pub desk_begun : (p : Plans) (d : Desk) (n : Net) → AreFit p → slots_at d ≡ (record { number = 0; net = n; borders = new_ends 0 } ∷ []) ∷ []
    → d.made ≡ 0 → IsKept p (record { number = 0; net = n; borders = new_ends 0 }) → n.interactions ≡ 0 → IsDesk p d
desk_begun p d n fit slots made kept none =
    let q : Part = record { number = 0; net = n; borders = new_ends 0 } in
    let parts : parts_at d ≡ q ∷ [] = sym (flat_of_map slot d.parts.items) ∙ ap (flat_map (λ ps. ps)) slots in
    let len : length d.parts.items ≡ 1 = sym (length-map d.parts.items slot) ∙ ap length slots in
    let worths : (c : ℕ) → worth_of c (parts_at d) ≡ worth c (new_ends 0) =
    (λ (c : ℕ).
    let a : worth_of c (parts_at d) ≡ worth_of c (q ∷ []) = ap (worth_of c) parts in
    let x = sum_by-cons (λ (r : Part). worth c r.borders) q [] in
    omega (arith, a, x)) in
    record {
      fit = fit;
      each = subst (AllByRecursion (IsKept p)) (sym parts) (kept, tt);
      slots = subst (AreAt 0) (sym slots) ((refl, tt), tt);
      full = ap length parts ∙ sym len;
      few = omega (arith, len);
      two = λ c. let w = worths c in elim (own_numbers 0 c (omega arith)) [
        | inl nothing ↦ omega (arith, w, nothing)
        | inr its ↦ let two = its.0 in omega (arith, w, two)
      ];
      unused = λ c low. let w = worths c in elim (own_numbers 0 c (omega arith)) [
        | inl nothing ↦ omega (arith, w, nothing)
        | inr its ↦ let own = its.1 in absurd (omega (arith, own, low, len))
      ];
      counted =
          let a : interactions_of (parts_at d) ≡ interactions_of (q ∷ []) = ap interactions_of parts in
          let x = sum_by-cons (λ (r : Part). r.net.interactions) q [] in
          omega (arith, a, x, none, made);
    }

-- ---- desks that come one from another

pub come_same : (p : Plans) (d e : Desk) → slots_at e ≡ slots_at d → Come p (parts_at d) (parts_at e)
come_same p d e slots =
    subst (Come p (parts_at d)) (sym (same_flat slot e.parts.items d.parts.items slots))
    (stayed (parts_at d) (parts_at d) (IsPermutation-refl (parts_at d)))

pub comes_same : (d e : Desk) → slots_at e ≡ slots_at d → e.made ≡ d.made → Comes d e
comes_same d e slots made p desk = (come_same p d e slots, desk_same p [] d e slots made desk)

pub comes_on : (d e f : Desk) → Comes d e → Comes e f → Comes d f
comes_on d e f first then p desk =
    let one = first p desk in
    let two = then p one.1 in
    (come_on p (parts_at d) (parts_at e) (parts_at f) one.0 two.0, two.1)
