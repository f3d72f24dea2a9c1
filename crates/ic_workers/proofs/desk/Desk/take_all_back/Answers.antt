use Rattle.std.proofs.Common.{◌≡◌, ℕ, ◌+◌, ◌∷◌, ◌++◌, [], ◌<◌, List, length, sym, ap, subst, ◌∙◌, append_assoc, arith}
use Rattle.std.specs.Prelude.{IsPermutation}
use Rattle.std.proofs.lemmas.List.Sums.{sum_by-append, sum_by-cons}
use Rattle.std.proofs.lemmas.List.Sorted.{IsPermutation-append_right, IsPermutation-trans}
use Rattle.ic_workers.specs.Parts.{Part}
use Rattle.ic_workers.specs.declared.kept.Hand.{Hand}
use Rattle.ic_workers.specs.inner.Keeping.{parts_at, parts_in, parts_in_all, AreWithin}
use Rattle.ic_workers.proofs.HandSteps.{apart_last, made_of}
use Rattle.ic_workers.proofs.Lists.{all_of_left, all_of_right, flat_last}
use Rattle.ic_workers.proofs.Slots.{apart_too}
use Rattle.ic_workers.proofs.desk.Desk.take_all_back.Goals as goal

parted : (n : ℕ) (old new : List Hand) (h : Hand) → old ≡ new ++ h ∷ [] → AreWithin n (parts_in_all old) → AreWithin n (parts_in_all new ++ parts_in h)
parted n old new h is within =
    subst (AreWithin n) (flat_last parts_in new h) (subst (λ (hs : List Hand). AreWithin n (parts_in_all hs)) is within)

-- what is left and the one that is taken have made what was left
made_parts : (old new : List Hand) (h : Hand) → old ≡ new ++ h ∷ [] → made_of old ≡ made_of new + h.made
made_parts old new h is =
    let a : made_of old ≡ made_of (new ++ h ∷ []) = ap made_of is in
    let b = sum_by-append (λ (k : Hand). k.made) new (h ∷ []) in
    let x = sum_by-cons (λ (k : Hand). k.made) h [] in
    omega (arith, a, b, x)

moved_parts : (old new : List Hand) (h : Hand) (S all : List Part) → old ≡ new ++ h ∷ [] → IsPermutation (parts_in_all old ++ S) all
    → IsPermutation ((parts_in_all new ++ parts_in h) ++ S) all
moved_parts old new h S all is moved =
    subst (λ (l : List Part). IsPermutation (l ++ S) all) (flat_last parts_in new h)
    (subst (λ (hs : List Hand). IsPermutation (parts_in_all hs ++ S) all) is moved)

pub take_back-requires : goal.take_back-requires
take_back-requires c =
    let old : List Hand = c.loop-hand.hands.items in
    let new : List Hand = c.pop.new.self.items in
    let h : Hand = c.in-Some.hand in
    let n : ℕ = length c.loop-hand.self.parts.items in
    let S : List Part = parts_at c.loop-hand.self in
    let all : List Part = parts_in_all c.args.hands.items ++ parts_at c.args.self.now in
    let popped : old ≡ new ++ h ∷ [] = c.in-Some.ensures.items in
    record {
      few = omega (arith, made_parts old new h popped, c.loop-hand.invariant.made, c.requires.few);
      slots = c.loop-hand.invariant.slots;
      within = all_of_right (λ (q : Part). q.number < n) (parts_in_all new) (parts_in h) (parted n old new h popped c.loop-hand.invariant.within);
      apart = apart_last (parts_in_all new) (parts_in h) S
          (apart_too ((parts_in_all new ++ parts_in h) ++ S) all (moved_parts old new h S all popped c.loop-hand.invariant.moved) c.requires.apart);
    }

pub loop-hand-preserved : goal.loop-hand-preserved
loop-hand-preserved c =
    let old : List Hand = c.loop-hand.hands.items in
    let new : List Hand = c.pop.new.self.items in
    let h : Hand = c.in-Some.hand in
    let n : ℕ = length c.loop-hand.self.parts.items in
    let S : List Part = parts_at c.loop-hand.self in
    let T : List Part = parts_at c.take_back.new.self in
    let all : List Part = parts_in_all c.args.hands.items ++ parts_at c.args.self.now in
    let popped : old ≡ new ++ h ∷ [] = c.in-Some.ensures.items in
    let first : IsPermutation (parts_in_all new ++ T) (parts_in_all new ++ (parts_in h ++ S)) =
    IsPermutation-append_right (parts_in_all new) T (parts_in h ++ S) c.take_back.ensures.moved in
    let second : IsPermutation (parts_in_all new ++ T) ((parts_in_all new ++ parts_in h) ++ S) =
    subst (IsPermutation (parts_in_all new ++ T)) (sym (append_assoc (parts_in_all new) (parts_in h) S)) first in
    record {
      moved = IsPermutation-trans (parts_in_all new ++ T) ((parts_in_all new ++ parts_in h) ++ S) all second
          (moved_parts old new h S all popped c.loop-hand.invariant.moved);
      slots = c.take_back.ensures.slots;
      within = subst (λ (m : ℕ). AreWithin m (parts_in_all new)) (sym c.take_back.ensures.len)
          (all_of_left (λ (q : Part). q.number < n) (parts_in_all new) (parts_in h) (parted n old new h popped c.loop-hand.invariant.within));
      len = c.take_back.ensures.len ∙ c.loop-hand.invariant.len;
      made = omega (arith, made_parts old new h popped, c.take_back.ensures.made, c.loop-hand.invariant.made);
    }
