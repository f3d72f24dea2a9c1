use Rattle.std.proofs.Common.{◌≡◌, ℕ, ◌+◌, ◌<◌, ◌∷◌, ◌++◌, [], List, Option, Some, length, map, set, sym, subst, ◌∙◌, length-set, arith}
use Rattle.std.specs.Prelude.{IsPermutation}
use Rattle.std.specs.List.{flat_map}
use Rattle.std.proofs.lemmas.List.{map-append}
use Rattle.ic_workers.specs.Parts.{Part}
use Rattle.ic_workers.specs.declared.kept.Kept.{Kept}
use Rattle.ic_workers.specs.inner.Keeping.{part_of, parts_at, slot, AreAt, AreWithin}
use Rattle.ic_workers.proofs.Lists.{all_of_left, all_of_right}
use Rattle.ic_workers.proofs.Slots.{at_set, put_back}
use Rattle.ic_workers.proofs.desk.Desk.take_back.Goals as goal
use Rattle.ic_workers.proofs.desk.Desk.take_back.Goals.{In-Some}

-- those that were left are the one that is taken, after all others
parted : (n : ℕ) (old new : List Kept) (kept : Kept) → old ≡ new ++ kept ∷ [] → AreWithin n (map part_of old) → AreWithin n (map part_of new ++ part_of kept ∷ [])
parted n old new kept is within =
    subst (AreWithin n) (map-append part_of new (kept ∷ [])) (subst (λ (ks : List Kept). AreWithin n (map part_of ks)) is within)

last_in : (n : ℕ) (old new : List Kept) (kept : Kept) → old ≡ new ++ kept ∷ [] → AreWithin n (map part_of old) → kept.number < n
last_in n old new kept is within =
    (all_of_right (λ (q : Part). q.number < n) (map part_of new) (part_of kept ∷ []) (parted n old new kept is within)).0

others_in : (n : ℕ) (old new : List Kept) (kept : Kept) → old ≡ new ++ kept ∷ [] → AreWithin n (map part_of old) → AreWithin n (map part_of new)
others_in n old new kept is within =
    all_of_left (λ (q : Part). q.number < n) (map part_of new) (part_of kept ∷ []) (parted n old new kept is within)

from_zero : (n : ℕ) → n ≡ 0 + n
from_zero n = omega arith

pub index_mut-requires : goal.index_mut-requires
index_mut-requires c =
    let low = last_in (length c.loop-kept.self.parts.items) c.loop-kept.parts.items c.pop.new.self.items c.in-Some.kept c.in-Some.ensures.items
    c.loop-kept.invariant.within in
    omega (arith, low, c.loop-kept.self.parts.ok.0)

-- What is kept where the slot has the part. The slot was empty, whatever its old content is looked at as.
back : (c : In-Some)
    → IsPermutation (map part_of c.pop.new.self.items ++ flat_map slot (set c.loop-kept.self.parts.items c.in-Some.kept.number (Some c.in-Some.kept)))
    (map part_of c.args.hand.parts.items ++ parts_at c.args.self.now)
    × AreAt 0 (map slot (set c.loop-kept.self.parts.items c.in-Some.kept.number (Some c.in-Some.kept)))
    × AreWithin (length (set c.loop-kept.self.parts.items c.in-Some.kept.number (Some c.in-Some.kept))) (map part_of c.pop.new.self.items)
    × length (set c.loop-kept.self.parts.items c.in-Some.kept.number (Some c.in-Some.kept)) ≡ length c.args.self.now.parts.items
back c =
    let xs : List (Option Kept) = c.loop-kept.self.parts.items in
    let kept : Kept = c.in-Some.kept in
    let left : List Kept = c.pop.new.self.items in
    let all : List Part = map part_of c.args.hand.parts.items ++ parts_at c.args.self.now in
    let popped : c.loop-kept.parts.items ≡ left ++ kept ∷ [] = c.in-Some.ensures.items in
    let low : kept.number < length xs = last_in (length xs) c.loop-kept.parts.items left kept popped c.loop-kept.invariant.within in
    let len : length (set xs kept.number (Some kept)) ≡ length xs = length-set xs kept.number (Some kept) in (
      put_back xs left kept all low c.loop-kept.invariant.slots c.requires.apart
          (subst (λ (ks : List Kept). IsPermutation (map part_of ks ++ flat_map slot xs) all) popped c.loop-kept.invariant.moved),
      at_set slot xs 0 kept.number (Some kept) (from_zero kept.number, tt) c.loop-kept.invariant.slots,
      subst (λ (n : ℕ). AreWithin n (map part_of left)) (sym len)
          (others_in (length xs) c.loop-kept.parts.items left kept popped c.loop-kept.invariant.within),
      len ∙ c.loop-kept.invariant.len,
    )

pub loop-kept-preserved : goal.loop-kept-preserved
loop-kept-preserved c =
    let b = back (goal.at.loop-kept-preserved c).In-Some in
    record { moved = b.0; slots = b.1; within = b.2; len = b.3; made = c.loop-kept.invariant.made }

pub loop-kept-preserved-in-Some : goal.loop-kept-preserved-in-Some
loop-kept-preserved-in-Some c =
    let b = back (goal.at.loop-kept-preserved-in-Some c).In-Some in
    record { moved = b.0; slots = b.1; within = b.2; len = b.3; made = c.loop-kept.invariant.made }
