use Rattle.std.proofs.Common.{◌≡◌, [], map, subst}
use Rattle.ic_machine.specs.declared.machine.Machine.TheInside.{Inside}
use Rattle.ic_machine.specs.declared.tables.Tables.{Tables}
use Rattle.ic_machine.specs.Moving.{Ends, NothingWaits, end_word, side_of, AreBordered}
use Rattle.ic_machine.specs.Net.{Net}
use Rattle.ic_machine.specs.inner.Firing.{arities_of}
use Rattle.ic_machine.specs.inner.Machine.{net_of}
use Rattle.ic_machine.specs.inner.Moving.{places_in, AreInHand}
use Rattle.ic_machine.proofs.Packing.{hand_alone}
use Rattle.ic_machine.proofs.Parcels.{give_bordered, give_sound, queued_of, machine_hand, words_beside, words_of}
use Rattle.ic_machine.proofs.machine.Machine.ship.Goals as goal

-- no word is in hand
in_hand : (m : Inside) (n : Net) (b : Ends) → net_of m ≡ n → AreBordered n b → AreInHand [] (words_beside m 0) m.tables b
in_hand m n b is bordered = machine_hand m n b 0 is bordered

pub ship_from-requires-clause-named : goal.ship_from-requires-clause-named
ship_from-requires-clause-named c =
    let m : Inside = c.self.inside in
    hand_alone (arities_of m.tables.heaps.items) [] (map end_word c.args.borders.now.ends) (words_beside m 0) (places_in m.tables)
    (in_hand m c.args.self.now c.args.borders.now c.self.view_is c.requires.bordered)

pub invariant_of-self : goal.invariant_of-self
invariant_of-self c =
    let m : Inside = c.self.inside in
    let t : Tables = c.ship_from.new.tables in
    let size = c.in_err-shipped.ensures.size in
    give_sound m t 0 c.self.invariant (queued_of t.pending m.tables.pending size.pending) size.names size.arities
    (words_of t.registers m.tables.registers size.registers) size.spare
    (c.in_err-shipped.ensures.left (words_beside m 0) (in_hand m c.args.self.now c.args.borders.now c.self.view_is c.requires.bordered))

pub invariant_of-self-2 : goal.invariant_of-self-2
invariant_of-self-2 c =
    let m : Inside = c.self.inside in
    let t : Tables = c.ship_from.new.tables in
    let size = c.in_ok-shipped.ensures.size in
    give_sound m t 0 c.self.invariant (queued_of t.pending m.tables.pending size.pending) size.names size.arities
    (words_of t.registers m.tables.registers size.registers) size.spare
    (c.in_ok-shipped.ensures.left (words_beside m 0) (in_hand m c.args.self.now c.args.borders.now c.self.view_is c.requires.bordered))

pub returns-clause-none : goal.returns-clause-none
returns-clause-none c = λ e.
    subst (λ (n : Net). NothingWaits c.args.cut (side_of n c.args.borders.now)) c.self.view_is (c.in_ok-shipped.ensures.none e)

pub returns-clause-bordered : goal.returns-clause-bordered
returns-clause-bordered c =
    let m : Inside = c.self.inside in
    let t : Tables = c.ship_from.new.tables in
    give_bordered m t c.ship_from.new.borders 0 (queued_of t.pending m.tables.pending c.in_ok-shipped.ensures.size.pending)
    (c.in_ok-shipped.ensures.named (words_beside m 0) (in_hand m c.args.self.now c.args.borders.now c.self.view_is c.requires.bordered))
