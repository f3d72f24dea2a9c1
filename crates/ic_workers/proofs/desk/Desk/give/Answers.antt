use Rattle.std.proofs.Common.{◌≡◌, ℕ, ◌+◌, ◌≤◌, List, [], Option, length, take, refl, sym, ap, subst, arith}
use Rattle.ic_arena.specs.declared.word.Word.{Word}
use Rattle.ic_machine.specs.declared.equation.Equation.{Equation}
use Rattle.ic_machine.specs.Moving.{side_of, spells_cut, worth, KeepWorth, Packs}
use Rattle.ic_machine.specs.Net.{Net}
use Rattle.ic_workers.specs.declared.kept.Kept.{Kept}
use Rattle.ic_workers.specs.inner.Keeping.{part_of, GivesOut, IsKept}
use Rattle.ic_workers.proofs.Desks.{at_desk, desk_changed, desk_full, slot_changes}
use Rattle.ic_workers.proofs.Parcelled.{pack_alone, pack_spelled}
use Rattle.ic_workers.proofs.Workings.{kept_as}
use Rattle.ic_workers.proofs.desk.Desk.give.Goals as goal

pub give-requires : goal.give-requires
give-requires c =
    let here = at_desk c.requires.desk.0 [] c.args.self.now c.args.from c.index_mut.result.now c.in-Some.kept c.requires.desk.1 c.requires.there
    c.index_mut.ensures.value c.in-Some.is in
    record {
      there = omega (arith, c.min-given.ensures, ap length c.pending.ensures);
      bordered = here.0.bordered;
      numbers = λ k. subst (λ (ws : List Word). worth k c.in-Some.kept.borders + spells_cut k ws ≤ 2) (sym c.requires.none) (here.2 k);
    }

pub returns-in_ok-give-in-Some-clause-given : goal.returns-in_ok-give-in-Some-clause-given
returns-in_ok-give-in-Some-clause-given c = λ p desk.
    let xs : List (Option Kept) = c.args.self.now.parts.items in
    let o : Option Kept = c.index_mut.result.now in
    let old : Kept = c.in-Some.kept in
    let new : Kept = record old { machine = c.give.new.self; borders = c.give.new.borders } in
    let here = at_desk p [] c.args.self.now c.args.from o old desk c.requires.there c.index_mut.ensures.value c.in-Some.is in
    let es : List Equation = take c.min-given.result old.machine.pending in
    let before : List Word = c.args.parcel.now.words.items in
    let words : List Word = c.give.new.parcel.words.items in
    let packs : Packs p.arities es (side_of old.machine old.borders) (side_of new.machine new.borders) [] words =
    pack_alone p.arities es (side_of old.machine old.borders) (side_of new.machine new.borders) before words c.requires.none
    (subst (λ (a : List ℕ). Packs a es (side_of old.machine old.borders) (side_of new.machine new.borders) before words) here.0.arities
    c.in_ok-give-in-Some.ensures.packs) in
    let net : new.machine ≡ record old.machine { pending = new.machine.pending; places = new.machine.places } = c.in_ok-give-in-Some.ensures.same in
    let kept : IsKept p (part_of new) =
    kept_as p (part_of old) (part_of new) here.0 refl (ap (λ (n : Net). n.interface) net) (ap (λ (n : Net). n.arities) net) (ap (λ (n : Net). n.counts) net) (ap (λ (n : Net). n.aside) net)
    c.in_ok-give-in-Some.ensures.bordered in
    let worths : KeepWorth old.borders new.borders [] words =
    (λ (k : ℕ). subst (λ (ws : List Word). worth k new.borders + spells_cut k words ≡ worth k old.borders + spells_cut k ws) c.requires.none
    (c.in_ok-give-in-Some.ensures.worth k)) in (
      slot_changes (GivesOut p.arities words) xs c.args.from o old new c.requires.there c.index_mut.ensures.value c.in-Some.is here.1 refl
          (record { pairs = c.min-given.result; packs = packs; pending = c.in_ok-give-in-Some.ensures.pending; same = net; worth = worths; once = c.what_borders_hold.ensures.cuts }),
      record {
        desk = desk_changed p [] words c.args.self.now _ c.args.from o old new desk c.requires.there c.index_mut.ensures.value c.in-Some.is here.1 refl
            kept worths (ap (λ (n : Net). n.interactions) net) refl refl;
        spelled = pack_spelled p.arities es (side_of old.machine old.borders) (side_of new.machine new.borders) [] words refl packs;
      },
    )

-- each slot of a desk has a part
pub returns-in-None-clause-given : goal.returns-in-None-clause-given
returns-in-None-clause-given c = λ p desk.
    absurd (desk_full p [] c.args.self.now c.args.from c.index_mut.result.now desk c.requires.there c.index_mut.ensures.value c.in-None.is)
