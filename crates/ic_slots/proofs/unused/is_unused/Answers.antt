use Rattle.std.proofs.Common.{inl, List, false, refl, sym, subst}
use Rattle.std.proofs.lemmas.Bool.{both_ways}
use Rattle.ic_slots.specs.Unused.{looking_of}
use Rattle.ic_jobs.specs.Job.{JobParts}
use Rattle.ic_slots.specs.Held.{IsHeld, the_table}
use Rattle.ic_slots.proofs.UnusedLemmas.{isnt_device, opened-and-looked, no_elements, some_element, unused_table, used_damaged, used_twice}
use Rattle.ic_slots.proofs.unused.is_unused.Goals as goal

pub returns-in-Ok-clause-unused : goal.returns-in-Ok-clause-unused
returns-in-Ok-clause-unused g c keeps =
    let file = g.D.Disk.content c.args.disk in
    let t = c.jobs.result.now in
    let held : IsHeld (the_table t) file = subst (λ (u : List JobParts). IsHeld (the_table u) file) (sym c.jobs.ensures.jobs) (c.in-Ok.ensures.opened keeps) in (
      λ is. inl (subst (λ (u : List JobParts). IsHeld (the_table u) file) (no_elements t c.is_empty-is_empty.result c.is_empty-is_empty.ensures is) held),
      λ unused. some_element t c.is_empty-is_empty.result c.is_empty-is_empty.ensures
          (unused_table c.one_is_held.ensures c.what_is_begun_is_shut.ensures file t held unused),
    )

pub returns-in-TwoAlike-clause-unused : goal.returns-in-TwoAlike-clause-unused
returns-in-TwoAlike-clause-unused g c keeps =
    let file = g.D.Disk.content c.args.disk in
    let says = c.in-Err.ensures.refused keeps in
    let held = rw c.in-TwoAlike.is at says in (
      λ wrong. absurd (both_ways false refl wrong),
      λ unused. absurd (used_twice c.one_is_held.ensures c.what_is_begun_is_shut.ensures file held unused),
    )

pub returns-in-Damaged-clause-unused : goal.returns-in-Damaged-clause-unused
returns-in-Damaged-clause-unused g c keeps =
    let file = g.D.Disk.content c.args.disk in
    let says = c.in-Err.ensures.refused keeps in
    let held = rw c.in-Damaged.is at says in (
      λ wrong. absurd (both_ways false refl wrong),
      λ unused. absurd (used_damaged c.one_is_held.ensures c.what_is_begun_is_shut.ensures file held unused),
    )

pub returns-in-NoSlot-clause-crash : goal.returns-in-NoSlot-clause-crash
returns-in-NoSlot-clause-crash g c =
    let disk = g.D.Disk in
    let mid = c.in-Err.field-0.disk in
    opened-and-looked disk.clock disk.left disk.image disk.content disk.keeps _ (looking_of c.is_begun-begun.result) c.args.disk mid c.is_begun-begun.new.disk
    c.in-Err.ensures.crash (isnt_device c.in-Err.field-0.cause c.in-NoSlot.is) c.is_begun-begun.ensures.keeps (λ file is later. g.met.D.Disk.image_is_left mid (disk.clock c.args.disk) file later is)
    c.is_begun-begun.ensures.same c.is_begun-begun.ensures.images c.is_begun-begun.ensures.leaves
