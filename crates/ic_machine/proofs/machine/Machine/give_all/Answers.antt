use Rattle.std.proofs.Common.{◌≡◌, List, [], ◌++◌, map, ◌∙◌, arith}
use Rattle.std.proofs.lemmas.List.Sums.{sum_by-append}
use Rattle.ic_arena.specs.declared.word.Word.{Word}
use Rattle.ic_machine.specs.declared.equation.Equation.{Equation}
use Rattle.ic_machine.specs.declared.machine.Machine.TheInside.{Inside}
use Rattle.ic_machine.specs.declared.tables.Tables.{Tables}
use Rattle.ic_machine.specs.Moving.{Ends, end_word, sides_of}
use Rattle.ic_machine.specs.inner.Firing.{arities_of}
use Rattle.ic_machine.specs.inner.Moving.{places_in, AreInHand}
use Rattle.ic_machine.proofs.Packing.{reordered}
use Rattle.ic_machine.proofs.Parcels.{all_hand, empty_bordered, empty_sound, items_of, queued_of, words_of}
use Rattle.ic_machine.proofs.machine.Machine.give_all.Goals as goal
use Rattle.ic_machine.proofs.machine.Machine.give_all.Goals.{After-give_tables-arg-3-1}

-- without the words of the interface
sides_alone : (es us : List Equation) (i : List Word) (t : Tables) (b : Ends) → AreInHand [] (sides_of es ++ (sides_of us ++ i)) t b
    → AreInHand [] (sides_of es ++ sides_of us) t b
sides_alone es us i t b =
    let e : List Word = map end_word b.ends in
    let p : List Word = sides_of es in
    let q : List Word = sides_of us in
    reordered (arities_of t.heaps.items) (e ++ (p ++ (q ++ i))) (e ++ (p ++ q)) (places_in t) (λ w.
    omega (arith, sum_by-append {X = Word}))

module _ (c : After-give_tables-arg-3-1) where
  -- the words of all equations are in hand
  hand : AreInHand [] (sides_of c.as_slice.result.now ++ (sides_of c.deref-2.result.now ++ c.self.inside.interface.items))
      c.self.inside.tables c.args.borders.now
  hand =
      all_hand c.self.inside c.args.self.now c.args.borders.now c.as_slice.result.now c.deref-2.result.now c.self.view_is
      c.requires.bordered
      (c.as_slice.ensures ∙ queued_of c.replace-pending.result c.self.inside.tables.pending c.replace-pending.ensures.value)
      (c.deref-2.ensures.value ∙ items_of c.replace-aside.result c.self.inside.aside c.replace-aside.ensures.value)

  none_left : (c.replace-pending.new.dest.items ≡ []) × (c.replace-aside.new.dest.items ≡ [])
  none_left = (
    queued_of c.replace-pending.new.dest c.new.result c.replace-pending.ensures.after ∙ c.new.ensures,
    items_of c.replace-aside.new.dest c.new-2.result c.replace-aside.ensures.after ∙ c.new-2.ensures.items,
  )

pub give_tables-requires-clause-named : goal.give_tables-requires-clause-named
give_tables-requires-clause-named c =
    sides_alone c.as_slice.result.now c.deref-2.result.now c.self.inside.interface.items c.self.inside.tables c.args.borders.now (hand c)

pub invariant_of-self-in_err-give_tables : goal.invariant_of-self-in_err-give_tables
invariant_of-self-in_err-give_tables c =
    let d = (goal.at.invariant_of-self-in_err-give_tables c).After-give_tables-arg-3-1 in
    let m : Inside = c.self.inside in
    let t : Tables = c.give_tables.new.tables in
    let size = c.in_err-give_tables.ensures.size in
    empty_sound m t c.replace-aside.new.dest c.self.invariant
    (queued_of t.pending c.replace-pending.new.dest size.pending ∙ (none_left d).0) (none_left d).1 size.few size.arities
    (words_of t.registers m.tables.registers size.registers) size.spare (c.in_err-give_tables.ensures.left m.interface.items (hand d))

pub invariant_of-self-2 : goal.invariant_of-self-2
invariant_of-self-2 c =
    let d = (goal.at.invariant_of-self-2 c).After-give_tables-arg-3-1 in
    let m : Inside = c.self.inside in
    let t : Tables = c.give_tables.new.tables in
    let size = c.in_ok-give_tables.ensures.size in
    empty_sound m t c.replace-aside.new.dest c.self.invariant
    (queued_of t.pending c.replace-pending.new.dest size.pending ∙ (none_left d).0) (none_left d).1 size.few size.arities
    (words_of t.registers m.tables.registers size.registers) size.spare (c.in_ok-give_tables.ensures.left m.interface.items (hand d))

pub returns-clause-bordered : goal.returns-clause-bordered
returns-clause-bordered c =
    let d = (goal.at.returns-clause-bordered c).After-give_tables-arg-3-1 in
    let m : Inside = c.self.inside in
    let t : Tables = c.give_tables.new.tables in
    empty_bordered m t c.replace-aside.new.dest c.give_tables.new.borders
    (queued_of t.pending c.replace-pending.new.dest c.in_ok-give_tables.ensures.size.pending ∙ (none_left d).0) (none_left d).1
    (c.in_ok-give_tables.ensures.named m.interface.items (hand d))
