use Rattle.std.proofs.Common.{◌^◌, ◌<◌, List, [], ◌++◌, ap, sym, subst, append_assoc}
use Rattle.ic_arena.specs.Piece.{Piece}
use Rattle.ic_arena.specs.Tables.{names_pieces}
use Rattle.ic_machine.specs.Steps.{Steps}
use Rattle.ic_machine.specs.declared.machine.Machine.TheInside.{Inside}
use Rattle.ic_machine.specs.Net.{Net, pieces}
use Rattle.ic_machine.specs.Runs.{Ran}
use Rattle.ic_machine.specs.inner.Firing.{arities_of, heaps_pieces}
use Rattle.ic_machine.specs.inner.Machine.{net_of, IsSound}
use Rattle.ic_machine.proofs.AtPlaces.{tables_at_places}
use Rattle.ic_machine.proofs.Sweeps.{net_swept, separate_room, swept_ran, swept_separate, swept_spare, tables_through}
use Rattle.ic_machine.proofs.machine.Machine.sweep.Goals as goal

pub sweep-requires-clause-room : goal.sweep-requires-clause-room
sweep-requires-clause-room c =
    let m : Inside = c.self.inside in
    separate_room (arities_of m.tables.heaps.items) m.interface.items m.tables.pending.items m.aside.items
    m.tables.names.entries m.tables.heaps.items c.self.invariant.separate

-- the machine after it
abbrev after : (c : goal.After-sweep) → Inside
after c = record c.self.inside { tables = record c.self.inside.tables { names = c.sweep.new.names } }

pub invariant_of-self : goal.invariant_of-self
invariant_of-self c =
    let m : Inside = c.self.inside in
    let sound : IsSound m = c.self.invariant in
    record {
      separate = swept_separate (arities_of m.tables.heaps.items) m.interface.items (pieces (net_of m)) (pieces (net_of (after c)))
          (λ p. net_swept p m.tables.pending.items m.aside.items m.tables.names.entries c.sweep.new.names.entries m.tables.heaps.items
          (c.sweep.ensures.steps p)) sound.separate;
      pairs = sound.pairs;
      aside = sound.aside;
      names = subst (λ n. n < 2 ^ 32) (sym c.sweep.ensures.names) sound.names;
      symbols = sound.symbols;
      registers = sound.registers;
      spare = swept_spare m.tables c.sweep.new.names c.sweep.ensures.names c.sweep.ensures.memory sound.spare;
      counts = sound.counts;
    }

pub returns-clause-ran : goal.returns-clause-ran
returns-clause-ran c = λ p.
    let m : Inside = c.self.inside in
    subst (λ (n : Net). Ran p n (net_of (after c))) c.self.view_is
    (swept_ran p (net_of m) (net_of (after c))
    (net_swept p m.tables.pending.items m.aside.items m.tables.names.entries c.sweep.new.names.entries m.tables.heaps.items (c.sweep.ensures.steps p))
    (ap (λ n. record (net_of m) { places = (net_of (after c)).places; names = n }) c.sweep.ensures.names))

pub returns-clause-through : goal.returns-clause-through
returns-clause-through c =
    tables_through c.sweep.new.names.entries c.self.inside.tables.heaps.items c.sweep.ensures.through

pub returns-clause-places : goal.returns-clause-places
returns-clause-places c = tables_at_places c.sweep.new.names.entries c.self.inside.tables.heaps.items

pub returns-clause-separate : goal.returns-clause-separate
returns-clause-separate c =
    let m : Inside = c.self.inside in
    swept_separate (arities_of m.tables.heaps.items) m.interface.items (pieces (net_of m)) (pieces (net_of (after c)))
    (λ p. net_swept p m.tables.pending.items m.aside.items m.tables.names.entries c.sweep.new.names.entries m.tables.heaps.items
    (c.sweep.ensures.steps p)) c.self.invariant.separate

pub returns-clause-steps : goal.returns-clause-steps
returns-clause-steps c = λ p rest.
    let m : Inside = c.self.inside in
    let h : List Piece = heaps_pieces 0 m.tables.heaps.items in
    let old : List Piece = names_pieces 0 m.tables.names.entries in
    let new : List Piece = names_pieces 0 c.sweep.new.names.entries in
    subst (λ (n : Net). Steps p [] (n.places ++ rest) ((new ++ h) ++ rest)) c.self.view_is
    (subst (λ (l : List Piece). Steps p [] l ((new ++ h) ++ rest)) (sym (append_assoc old h rest))
    (subst (λ (l : List Piece). Steps p [] (old ++ (h ++ rest)) l) (sym (append_assoc new h rest))
    (c.sweep.ensures.steps p (h ++ rest))))
