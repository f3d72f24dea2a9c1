use Rattle.std.proofs.Common.{◌≡◌, ℕ, ◌+◌, ◌≤◌, ◌∷◌, List, [], Option, Some, refl, sym, ap, subst, ◌∙◌}
use Rattle.ic_arena.specs.declared.word.Word.{Word}
use Rattle.ic_machine.specs.Moving.{side_of, spells_cut, worth, KeepWorth, Ships}
use Rattle.ic_machine.specs.Net.{Net}
use Rattle.ic_workers.specs.declared.kept.Kept.{Kept}
use Rattle.ic_workers.specs.inner.Keeping.{part_of, slot, IsKept, ShipsOut}
use Rattle.ic_workers.proofs.Desks.{at_desk, desk_changed, slot_changes}
use Rattle.ic_workers.proofs.Lists.{same_set}
use Rattle.ic_workers.proofs.Parcelled.{ship_alone, ship_spelled}
use Rattle.ic_workers.proofs.Workings.{kept_as}
use Rattle.ic_workers.proofs.desk.Desk.ship.Goals as goal

pub ship-requires : goal.ship-requires
ship-requires c =
    let here = at_desk c.requires.desk.0 [] c.args.self.now c.args.from c.index_mut.result.now c.in-Some.kept c.requires.desk.1 c.requires.there
    c.index_mut.ensures.value c.in-Some.is in
    record {
      bordered = here.0.bordered;
      numbers = λ k. subst (λ (ws : List Word). worth k c.in-Some.kept.borders + spells_cut k ws ≤ 2) (sym c.requires.none) (here.2 k);
    }

pub returns-in_ok-shipped-in-Some-clause-shipped : goal.returns-in_ok-shipped-in-Some-clause-shipped
returns-in_ok-shipped-in-Some-clause-shipped c = λ e p desk.
    let xs : List (Option Kept) = c.args.self.now.parts.items in
    let o : Option Kept = c.index_mut.result.now in
    let old : Kept = c.in-Some.kept in
    let new : Kept = record old { machine = c.ship.new.self; borders = c.ship.new.borders } in
    let here = at_desk p [] c.args.self.now c.args.from o old desk c.requires.there c.index_mut.ensures.value c.in-Some.is in
    let before : List Word = c.args.parcel.now.words.items in
    let words : List Word = c.ship.new.parcel.words.items in
    let ships : Ships p.arities c.args.cut (side_of old.machine old.borders) (side_of new.machine new.borders) [] words =
    ship_alone p.arities c.args.cut (side_of old.machine old.borders) (side_of new.machine new.borders) before words c.requires.none
    (subst (λ (a : List ℕ). Ships a c.args.cut (side_of old.machine old.borders) (side_of new.machine new.borders) before words) here.0.arities
    (c.ship.ensures.ships (c.in_ok-shipped-in-Some.was ∙ e))) in
    let net : new.machine ≡ record old.machine { places = new.machine.places } = c.in_ok-shipped-in-Some.ensures.same in
    let kept : IsKept p (part_of new) =
    kept_as p (part_of old) (part_of new) here.0 refl (ap (λ (n : Net). n.interface) net) (ap (λ (n : Net). n.arities) net) (ap (λ (n : Net). n.counts) net) (ap (λ (n : Net). n.aside) net)
    c.in_ok-shipped-in-Some.ensures.bordered in
    let worths : KeepWorth old.borders new.borders [] words =
    (λ (k : ℕ). subst (λ (ws : List Word). worth k new.borders + spells_cut k words ≡ worth k old.borders + spells_cut k ws) c.requires.none
    (c.in_ok-shipped-in-Some.ensures.worth k)) in (
      slot_changes (ShipsOut p.arities c.args.cut words) xs c.args.from o old new c.requires.there c.index_mut.ensures.value c.in-Some.is here.1 refl
          (record { ships = ships; same = net; worth = worths; once = c.what_borders_hold.ensures.cuts }),
      record {
        desk = desk_changed p [] words c.args.self.now _ c.args.from o old new desk c.requires.there c.index_mut.ensures.value c.in-Some.is here.1 refl
            kept worths (ap (λ (n : Net). n.interactions) net) refl refl;
        spelled = ship_spelled p.arities c.args.cut (side_of old.machine old.borders) (side_of new.machine new.borders) words ships;
      },
    )

-- where nothing waits, nothing changes
pub returns-in_ok-shipped-in-Some-clause-none : goal.returns-in_ok-shipped-in-Some-clause-none
returns-in_ok-shipped-in-Some-clause-none c = λ e.
    let xs : List (Option Kept) = c.args.self.now.parts.items in
    let o : Option Kept = c.index_mut.result.now in
    let old : Kept = c.in-Some.kept in
    let new : Kept = record old { machine = c.ship.new.self; borders = c.ship.new.borders } in
    let still = c.ship.ensures.unchanged (c.in_ok-shipped-in-Some.was ∙ e) in
    same_set slot xs c.args.from o (Some new) c.requires.there c.index_mut.ensures.value
    ((λ i. record { number = old.number; net = still.0 i; borders = still.1 i } ∷ []) ∙ ap slot (sym c.in-Some.is))
