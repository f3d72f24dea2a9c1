-- What is appended to a list within its room, part by part.
use Rattle.std.proofs.Common.{◌≡◌, List, ◌++◌, length, length-append, append_assoc, ap, ◌∙◌, arith}
use Rattle.std.specs.Prelude.{Vec}
use Rattle.ic_flat_round.specs.inner.Room.{HasRoom, Appended, GoesOn, GoesOnTo}

-- all of it is left at the start
pub goes_on-start : {X Z : Type 0} (start : Vec X Z) (all left : List X) → HasRoom start all → left ≡ all → GoesOn start all start left
goes_on-start start all left room same =
    let long = ap length same in
    record {
      items = ap (λ l. start.items ++ l) same;
      len = omega (arith, long);
      capacity = omega arith;
      room = omega (arith, room, long);
    }

pub goes_on-room : {X Z : Type 0} (start now : Vec X Z) (all xs left : List X) → GoesOn start all now (xs ++ left) → HasRoom now xs
goes_on-room start now all xs left g = let room = g.room in omega (arith, room, length-append xs left)

pub goes_on-next : {X Z : Type 0} (start now new : Vec X Z) (all xs left : List X) → GoesOn start all now (xs ++ left) → Appended now new xs
    → GoesOn start all new left
goes_on-next start now new all xs left g a =
    let room = g.room in
    let len = g.len in
    let capacity = g.capacity in
    let added = a.len in
    let same = a.capacity in
    record {
      items = ap (λ l. l ++ left) a.items ∙ append_assoc now.items xs left ∙ g.items;
      len = omega (arith, len, added, length-append xs left);
      capacity = omega (arith, capacity, same);
      room = omega (arith, room, added, same, length-append xs left);
    }

pub appended-both : {X Z : Type 0} (old half new : Vec X Z) (xs ys : List X) → Appended old half xs → Appended half new ys → Appended old new (xs ++ ys)
appended-both old half new xs ys a b =
    let first = a.len in
    let last = b.len in
    let before = a.capacity in
    let after = b.capacity in
    record {
      items = b.items ∙ ap (λ l. l ++ ys) a.items ∙ append_assoc old.items xs ys;
      len = omega (arith, first, last, length-append xs ys);
      capacity = omega (arith, before, after);
    }

pub goes_on_to-next : {X Z : Type 0} (start now new : Vec X Z) (all xs left : List X) → GoesOnTo start all now (xs ++ left) → Appended now new xs
    → GoesOnTo start all new left
goes_on_to-next start now new all xs left g a =
    let len = g.len in
    let added = a.len in
    let before = g.capacity in
    let after = a.capacity in
    record {
      items = ap (λ l. l ++ left) a.items ∙ append_assoc now.items xs left ∙ g.items;
      len = omega (arith, len, added, length-append xs left);
      capacity = omega (arith, before, after);
    }
