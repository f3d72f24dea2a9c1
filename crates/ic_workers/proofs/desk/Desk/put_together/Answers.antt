use Rattle.std.proofs.Common.{◌≡◌, ℕ, ◌++◌, List, [], ◌∷◌, refl, sym, subst, ◌∙◌, arith}
use Rattle.ic_machine.specs.Plan.{Plans}
use Rattle.ic_workers.specs.Parts.{Part}
use Rattle.ic_workers.specs.declared.kept.Kept.{Kept}
use Rattle.ic_workers.specs.inner.Keeping.{part_of, parts_at, AreLeft}
use Rattle.ic_workers.proofs.Gathering.{left_begun, left_one_less}
use Rattle.ic_workers.proofs.Together.{all_out, in_hand, in_hand_first, left_out, no_more, none_yet, one_made, taken_out, two_made, two_worth}
use Rattle.ic_workers.proofs.desk.Desk.put_together.Goals as goal

pub loop-part-init : goal.loop-part-init
loop-part-init c = none_yet c.args.self.parts.items c.new-all.result.items c.new-all.ensures.items

pub loop-part-preserved-in-Continue-1 : goal.loop-part-preserved-in-Continue-1
loop-part-preserved-in-Continue-1 c =
    taken_out (parts_at c.args.self) c.loop-part.parts.items c.pop.new.self.items c.in-Some.part c.in-Some-part.kept c.loop-part.all.items c.push.new.self.items
    c.in-Some.ensures.items c.in-Some-part.is c.in_ok-push.ensures.items c.loop-part.invariant

pub loop-part-preserved : goal.loop-part-preserved
loop-part-preserved c =
    left_out (parts_at c.args.self) c.loop-part.parts.items c.pop.new.self.items c.in-Some.part c.loop-part.all.items
    c.in-Some.ensures.items c.in_default-part.is c.loop-part.invariant

pub loop-kept-init : goal.loop-kept-init
loop-kept-init c = λ p desk.
    left_begun p c.args.self (part_of c.in-Some-pop.first) (in_hand c.pop-2.new.self.items) desk
    (all_out (parts_at c.args.self) c.loop-part.parts.items c.loop-part.all.items c.pop-2.new.self.items c.in-Some-pop.first
    (no_more c.loop-part.parts.items (omega (arith, c.in_default.ensures.cases.0, c.loop-part.parts.ok.0)))
    c.in-Some-pop.ensures.items c.loop-part.invariant)

-- the part that is taken comes first of those that are left
next_left : (p : Plans) (all : List Part) (made : ℕ) (first : Part) (ks rest : List Kept) (k : Kept) → ks ≡ rest ++ k ∷ [] → AreLeft p all made first (in_hand ks)
    → AreLeft p all made first (part_of k ∷ in_hand rest)
next_left p all made first ks rest k is left = subst (AreLeft p all made first) (in_hand_first ks rest k is) left

pub gather-requires-clause-kept : goal.gather-requires-clause-kept
gather-requires-clause-kept c =
    let p : Plans = c.requires.desk.0 in
    let first : Part = part_of c.loop-kept.first in
    let all : List Part = parts_at c.args.self in
    let rest : List Part = in_hand c.pop-in-loop-kept.new.self.items in
    let left = next_left p all c.args.self.made first c.loop-kept.all.items c.pop-in-loop-kept.new.self.items c.in-Some-pop-2.kept c.in-Some-pop-2.ensures.items
    (c.loop-kept.invariant p c.requires.desk.1) in
    (p, left.kept.0, left.kept.1.0, two_worth p all c.args.self.made first (part_of c.in-Some-pop-2.kept) rest left)

pub gather-requires-clause-few : goal.gather-requires-clause-few
gather-requires-clause-few c =
    let p : Plans = c.requires.desk.0 in
    let first : Part = part_of c.loop-kept.first in
    let all : List Part = parts_at c.args.self in
    let rest : List Part = in_hand c.pop-in-loop-kept.new.self.items in
    let left = next_left p all c.args.self.made first c.loop-kept.all.items c.pop-in-loop-kept.new.self.items c.in-Some-pop-2.kept c.in-Some-pop-2.ensures.items
    (c.loop-kept.invariant p c.requires.desk.1) in
    let few = two_made p all c.args.self.made first (part_of c.in-Some-pop-2.kept) rest left in
    omega (arith, few)

pub gather-requires-clause-two : goal.gather-requires-clause-two
gather-requires-clause-two c = λ same.
    let p : Plans = c.requires.desk.0 in
    let first : Part = part_of c.loop-kept.first in
    let left = next_left p (parts_at c.args.self) c.args.self.made first c.loop-kept.all.items c.pop-in-loop-kept.new.self.items c.in-Some-pop-2.kept
    c.in-Some-pop-2.ensures.items (c.loop-kept.invariant p c.requires.desk.1) in
    left.later.0 (sym same ∙ left.is_first)

pub gather-requires-clause-later : goal.gather-requires-clause-later
gather-requires-clause-later c =
    let p : Plans = c.requires.desk.0 in
    let first : Part = part_of c.loop-kept.first in
    let left = next_left p (parts_at c.args.self) c.args.self.made first c.loop-kept.all.items c.pop-in-loop-kept.new.self.items c.in-Some-pop-2.kept
    c.in-Some-pop-2.ensures.items (c.loop-kept.invariant p c.requires.desk.1) in
    left.later.0

pub loop-kept-preserved : goal.loop-kept-preserved
loop-kept-preserved c = λ p desk.
    let first : Part = part_of c.loop-kept.first in
    let kept : Part = part_of c.in-Some-pop-2.kept in
    let rest : List Part = in_hand c.pop-in-loop-kept.new.self.items in
    let left = next_left p (parts_at c.args.self) c.args.self.made first c.loop-kept.all.items c.pop-in-loop-kept.new.self.items c.in-Some-pop-2.kept
    c.in-Some-pop-2.ensures.items (c.loop-kept.invariant p desk) in
    let both = c.in_ok-gather.ensures.gathers p left.kept.0 left.kept.1.0 in
    left_one_less p (parts_at c.args.self) c.args.self.made first kept (part_of c.gather.new.first) rest left both.0 both.1 c.gather.ensures.number
    c.in_ok-gather.ensures.worth

-- none is left but the first part
last_left : (p : Plans) (all : List Part) (made : ℕ) (first : Part) (ks : List Kept) → ks ≡ [] → AreLeft p all made first (in_hand ks) → AreLeft p all made first []
last_left p all made first ks none left = subst (λ (l : List Kept). AreLeft p all made first (in_hand l)) none left

pub returns-clause-all : goal.returns-clause-all
returns-clause-all c = λ p desk.
    let first : Part = part_of c.loop-kept.first in
    let left = last_left p (parts_at c.args.self) c.args.self.made first c.loop-kept.all.items
    (no_more c.loop-kept.all.items (omega (arith, c.in_default-pop-2.ensures.cases.0, c.loop-kept.all.ok.0))) (c.loop-kept.invariant p desk) in
    record { part = first; is = refl; come = left.come }

pub returns-clause-kept : goal.returns-clause-kept
returns-clause-kept c = λ p desk.
    let first : Part = part_of c.loop-kept.first in
    let left = last_left p (parts_at c.args.self) c.args.self.made first c.loop-kept.all.items
    (no_more c.loop-kept.all.items (omega (arith, c.in_default-pop-2.ensures.cases.0, c.loop-kept.all.ok.0))) (c.loop-kept.invariant p desk) in
    (left.kept.0.arities, left.kept.0.aside)

pub returns-clause-made : goal.returns-clause-made
returns-clause-made c =
    let p : Plans = c.requires.desk.0 in
    let first : Part = part_of c.loop-kept.first in
    let left = last_left p (parts_at c.args.self) c.args.self.made first c.loop-kept.all.items
    (no_more c.loop-kept.all.items (omega (arith, c.in_default-pop-2.ensures.cases.0, c.loop-kept.all.ok.0))) (c.loop-kept.invariant p c.requires.desk.1) in
    one_made p (parts_at c.args.self) c.args.self.made first left
