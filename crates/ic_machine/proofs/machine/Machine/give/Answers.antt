use Rattle.std.proofs.Common.{◌≡◌, List, map, take, drop, refl, sym, subst, ◌∙◌}
use Rattle.ic_machine.specs.declared.equation.Equation.{Equation}
use Rattle.ic_machine.specs.declared.machine.Machine.TheInside.{Inside}
use Rattle.ic_machine.specs.declared.tables.Tables.{Tables}
use Rattle.ic_machine.specs.Moving.{end_word, sides_of}
use Rattle.ic_machine.specs.inner.Firing.{arities_of}
use Rattle.ic_machine.specs.inner.Moving.{places_in, AreInHand}
use Rattle.ic_machine.proofs.Packing.{hand_alone}
use Rattle.ic_machine.proofs.Parcels.{give_bordered, give_sound, queued_of, machine_hand, same_sound, words_beside, words_of}
use Rattle.ic_machine.proofs.machine.Machine.give.Goals as goal
use Rattle.ic_machine.proofs.machine.Machine.give.Goals.{After-pack_each-arg-3-1}

module _ (c : After-pack_each-arg-3-1) where
  -- the pairs that are given
  given : c.as_slice.result.now ≡ take c.args.pairs c.self.inside.tables.pending.items
  given =
      c.as_slice.ensures ∙ (queued_of c.replace-given.result c.split_off.new.self c.replace-given.ensures.value
      ∙ c.in_ok-rest.ensures.items)

  -- those that stay
  kept : c.replace-given.new.dest.items ≡ drop c.args.pairs c.self.inside.tables.pending.items
  kept = queued_of c.replace-given.new.dest c.in_ok-rest.rest c.replace-given.ensures.after ∙ c.in_ok-rest.ensures.tail

  -- the given pairs are in hand
  hand : AreInHand (sides_of c.as_slice.result.now) (words_beside c.self.inside c.args.pairs) c.self.inside.tables c.args.borders.now
  hand =
      subst (λ (l : List Equation). AreInHand (sides_of l) (words_beside c.self.inside c.args.pairs) c.self.inside.tables
      c.args.borders.now) (sym given)
      (machine_hand c.self.inside c.args.self.now c.args.borders.now c.args.pairs c.self.view_is c.requires.bordered)

pub pack_each-requires-clause-named : goal.pack_each-requires-clause-named
pack_each-requires-clause-named c =
    let m : Inside = c.self.inside in
    hand_alone (arities_of m.tables.heaps.items) (sides_of c.as_slice.result.now) (map end_word c.args.borders.now.ends)
    (words_beside m c.args.pairs) (places_in m.tables) (hand c)

pub invariant_of-self : goal.invariant_of-self
invariant_of-self c =
    let m : Inside = c.self.inside in
    same_sound m (record m.tables { pending = c.split_off.new.self; spare = 0 }) c.self.invariant
    c.in_err-rest.ensures.err refl refl refl refl

pub invariant_of-self-in_err-pack_each : goal.invariant_of-self-in_err-pack_each
invariant_of-self-in_err-pack_each c =
    let d = (goal.at.invariant_of-self-in_err-pack_each c).After-pack_each-arg-3-1 in
    let m : Inside = c.self.inside in
    let t : Tables = c.pack_each.new.tables in
    let size = c.in_err-pack_each.ensures.size in
    give_sound m t c.args.pairs c.self.invariant (queued_of t.pending c.replace-given.new.dest size.pending ∙ kept d) size.names
    size.arities (words_of t.registers m.tables.registers size.registers) size.spare
    (c.in_err-pack_each.ensures.left (words_beside m c.args.pairs) (hand d))

pub invariant_of-self-2 : goal.invariant_of-self-2
invariant_of-self-2 c =
    let d = (goal.at.invariant_of-self-2 c).After-pack_each-arg-3-1 in
    let m : Inside = c.self.inside in
    let t : Tables = c.pack_each.new.tables in
    let size = c.in_ok-pack_each.ensures.size in
    give_sound m t c.args.pairs c.self.invariant (queued_of t.pending c.replace-given.new.dest size.pending ∙ kept d) size.names
    size.arities (words_of t.registers m.tables.registers size.registers) size.spare
    (c.in_ok-pack_each.ensures.left (words_beside m c.args.pairs) (hand d))

pub returns-clause-bordered : goal.returns-clause-bordered
returns-clause-bordered c =
    let d = (goal.at.returns-clause-bordered c).After-pack_each-arg-3-1 in
    let m : Inside = c.self.inside in
    let t : Tables = c.pack_each.new.tables in
    give_bordered m t c.pack_each.new.borders c.args.pairs
    (queued_of t.pending c.replace-given.new.dest c.in_ok-pack_each.ensures.size.pending ∙ kept d)
    (c.in_ok-pack_each.ensures.named (words_beside m c.args.pairs) (hand d))
