use Rattle.std.proofs.Common.{List, [], Option, refl, sym, subst, ℕ}
use Rattle.ic_arena.specs.declared.word.Word.{Word}
use Rattle.ic_machine.specs.Moving.{AreSpelled, Unpacks}
use Rattle.ic_workers.specs.declared.kept.Kept.{Kept}
use Rattle.ic_workers.specs.inner.Keeping.{part_of, IsKept, TakesIn}
use Rattle.ic_workers.proofs.Desks.{at_desk, desk_changed, desk_full, slot_changes}
use Rattle.ic_workers.proofs.Workings.{kept_as}
use Rattle.ic_workers.proofs.desk.Desk.send.Goals as goal

pub unpack-requires : goal.unpack-requires
unpack-requires c =
    let words : List Word = c.args.parcel.words.items in
    let here = at_desk c.requires.desk.0 words c.args.self.now c.args.to c.index_mut.result.now c.in-Some.kept c.requires.desk.1.desk c.requires.there
    c.index_mut.ensures.value c.in-Some.is in
    record {
      bordered = here.0.bordered;
      spelled = subst (λ (a : List ℕ). AreSpelled a words) (sym here.0.arities) c.requires.desk.1.spelled;
    }

pub returns-in-Some-clause-sent : goal.returns-in-Some-clause-sent
returns-in-Some-clause-sent c = λ p awaits.
    let xs : List (Option Kept) = c.args.self.now.parts.items in
    let o : Option Kept = c.index_mut.result.now in
    let old : Kept = c.in-Some.kept in
    let new : Kept = c.unpack.new.part in
    let words : List Word = c.args.parcel.words.items in
    let here = at_desk p words c.args.self.now c.args.to o old awaits.desk c.requires.there c.index_mut.ensures.value c.in-Some.is in
    let unpacks : Unpacks words old.machine new.machine old.borders new.borders = c.in_ok-unpack-in-Some.ensures.unpacks in
    let kept : IsKept p (part_of new) =
    kept_as p (part_of old) (part_of new) here.0 c.unpack.ensures.number unpacks.interface unpacks.arities unpacks.counts unpacks.aside c.in_ok-unpack-in-Some.ensures.bordered in (
      slot_changes (TakesIn words) xs c.args.to o old new c.requires.there c.index_mut.ensures.value
          c.in-Some.is here.1 c.unpack.ensures.number
          (record { unpacks = unpacks; worth = c.in_ok-unpack-in-Some.ensures.worth; once = c.unpack.ensures.once }),
      desk_changed p words [] c.args.self.now _ c.args.to o old new awaits.desk c.requires.there c.index_mut.ensures.value c.in-Some.is here.1
          c.unpack.ensures.number kept c.in_ok-unpack-in-Some.ensures.worth unpacks.interactions refl refl,
    )

-- each slot of a desk has a part
pub returns-clause-sent : goal.returns-clause-sent
returns-clause-sent c = λ p awaits.
    absurd (desk_full p c.args.parcel.words.items c.args.self.now c.args.to c.index_mut.result.now awaits.desk c.requires.there c.index_mut.ensures.value
    c.in-None.is)
