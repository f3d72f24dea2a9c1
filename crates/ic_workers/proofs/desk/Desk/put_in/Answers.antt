use Rattle.std.proofs.Common.{◌≡◌, ℕ, ◌+◌, ◌∷◌, ◌++◌, [], List, Option, None, Some, map, set, sym, subst, ◌∙◌}
use Rattle.std.specs.Prelude.{IsPermutation}
use Rattle.std.specs.List.{flat_map, AllByRecursion}
use Rattle.std.proofs.lemmas.List.{map-append}
use Rattle.ic_workers.specs.Parts.{Part}
use Rattle.ic_workers.specs.declared.kept.Kept.{Kept}
use Rattle.ic_workers.specs.inner.Keeping.{part_of, slot, AreAt}
use Rattle.ic_workers.proofs.Lists.{put_at_end, swapped}
use Rattle.ic_workers.proofs.Slots.{at_set}
use Rattle.ic_workers.proofs.desk.Desk.put_in.Goals as goal

-- a slot that becomes empty
emptied : (xs : List (Option Kept)) (i : ℕ) (n : Option Kept) → n ≡ None → AreAt 0 (map slot xs) → AreAt 0 (map slot (set xs i n))
emptied xs i n none at = at_set slot xs 0 i n (subst (λ (o : Option Kept). AllByRecursion (λ q. q.number ≡ 0 + i) (slot o)) (sym none) tt) at

pub returns-in_err-push-clause-slots : goal.returns-in_err-push-clause-slots
returns-in_err-push-clause-slots c = λ at. emptied c.args.self.now.parts.items c.args.part c.take.new.self c.take.ensures.after at

pub returns-in_ok-push-clause-slots : goal.returns-in_ok-push-clause-slots
returns-in_ok-push-clause-slots c = λ at. emptied c.args.self.now.parts.items c.args.part c.take.new.self c.take.ensures.after at

pub returns-in_ok-push-clause-moved : goal.returns-in_ok-push-clause-moved
returns-in_ok-push-clause-moved c =
    let xs : List (Option Kept) = c.args.self.now.parts.items in
    let hs : List Kept = c.args.hand.now.parts.items in
    let kept : Kept = c.in-Some.kept in
    let new : List Part = flat_map slot (set xs c.args.part c.take.new.self) in
    let was : c.index_mut.result.now ≡ Some kept = sym c.take.ensures.value ∙ c.in-Some.is in
    let moved = swapped slot xs c.args.part c.index_mut.result.now c.take.new.self c.requires c.index_mut.ensures.value in
    let first : IsPermutation (flat_map slot xs) (slot c.index_mut.result.now ++ new) =
    subst (λ (o : Option Kept). IsPermutation (slot o ++ flat_map slot xs) (slot c.index_mut.result.now ++ new)) c.take.ensures.after moved in
    let taken : IsPermutation (flat_map slot xs) (part_of kept ∷ new) =
    subst (λ (o : Option Kept). IsPermutation (flat_map slot xs) (slot o ++ new)) was first in
    subst (λ (l : List Kept). IsPermutation (map part_of l ++ new) (map part_of hs ++ flat_map slot xs)) (sym c.in_ok-push.ensures.items)
    (subst (λ (l : List Part). IsPermutation (l ++ new) (map part_of hs ++ flat_map slot xs)) (sym (map-append part_of hs (kept ∷ [])))
    (put_at_end (map part_of hs) (flat_map slot xs) new (part_of kept) taken))
