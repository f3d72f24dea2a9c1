use Rattle.std.proofs.Common.{◌≡◌, ◌^◌, ◌<◌, ℕ, List, [], ◌++◌, length, map, take, refl, ap, sym, subst, ◌∙◌, arith}
use Rattle.std.specs.List.{AllByRecursion}
use Rattle.std.proofs.lemmas.List.{length-map}
use Rattle.ic_arena.specs.declared.word.Word.{Word}
use Rattle.ic_arena.specs.declared.word.TheConstants.{GIVEN}
use Rattle.ic_arena.specs.Piece.{Piece}
use Rattle.ic_arena.specs.Tables.{names_pieces, register}
use Rattle.ic_machine.specs.declared.building.Builder.TheInside.{Inside}
use Rattle.ic_machine.specs.declared.equation.Equation.{Equation}
use Rattle.ic_machine.specs.declared.machine.Machine.TheInside.{Inside as Machine}
use Rattle.ic_machine.specs.declared.tables.Tables.{Tables}
use Rattle.ic_machine.specs.Building.{Building, CanBegin}
use Rattle.ic_machine.specs.Plan.{Planned, Plans, constants, linked, pieces_made}
use Rattle.ic_machine.specs.Net.{equated_of, pieces, IsPair}
use Rattle.ic_machine.specs.Runs.{HaveHead, Starts, given_words}
use Rattle.ic_machine.specs.Separate.{IsSeparate}
use Rattle.ic_machine.specs.Steps.{Steps}
use Rattle.ic_machine.specs.inner.Building.{building_of}
use Rattle.ic_machine.specs.inner.Firing.{arities_of, heaps_pieces}
use Rattle.ic_machine.specs.inner.Linking.{AreLinks}
use Rattle.ic_machine.specs.inner.Machine.{net_of}
use Rattle.ic_machine.specs.lemmas.FiresKeep.{steps_keep}
use Rattle.ic_machine.proofs.Built.{begun_filled, begun_links, begun_separate, begun_starts, begun_steps, built_size, no_plans, taken_all}
use Rattle.ic_machine.proofs.InUse.{net_size}
use Rattle.ic_machine.proofs.Sound.{all_none, first_of, none_counted}
use Rattle.ic_machine.proofs.building.Builder.finish.Goals as goal
use Rattle.ic_machine.proofs.building.Builder.finish.Goals.{After-deref-2, After-new}

-- what the builder has
module _ (c : After-deref-2) where
  abbrev m : Inside
  m = c.self.inside

  can : CanBegin c.args.links.now c.args.interface.now (building_of c.self.inside)
  can = subst (CanBegin c.args.links.now c.args.interface.now) (sym c.self.view_is) c.requires.begins

  pending : c.reserve.new.self.items ≡ []
  pending = c.reserve.ensures.items ∙ c.self.invariant.pending

  same : arities_of c.self.inside.tables.heaps.items ≡ c.args.program.now.arities
  same = ap (λ (v : Building). v.arities) c.self.view_is ∙ c.requires.arities

  many : length c.self.inside.tables.heaps.items ≡ length c.args.program.now.arities
  many = sym (length-map c.self.inside.tables.heaps.items (λ b. b.arity)) ∙ ap length same

pub words_at-requires : goal.words_at-requires
words_at-requires c =
    let m : Inside = c.self.inside in
    let can = subst (CanBegin c.args.links.now c.args.interface.now) (sym c.self.view_is) c.requires.begins in
    subst (λ (l : List Word). AllByRecursion (λ k. k < length l) c.args.interface.now) (sym c.deref.ensures.value)
    (begun_filled (building_of m) c.args.links.now c.args.interface.now can m.tables.names.entries m.tables.heaps.items refl refl)

pub link_each-requires-clause-links : goal.link_each-requires-clause-links
link_each-requires-clause-links c =
    let m : Inside = c.self.inside in
    subst (λ (l : List Word). AreLinks c.args.links.now l m.tables.names.entries) (sym c.deref-2.ensures.value)
    (begun_links (building_of m) c.args.links.now c.args.interface.now (can (goal.at.link_each-requires-clause-links c).After-deref-2)
    m.tables.names.entries m.tables.heaps.items refl refl c.self.invariant.words)

-- ---- what is known as all is linked

module _ (c : After-new) where
  abbrev d : After-deref-2
  d = (goal.at.invariant_of-result c).After-deref-2

  abbrev inside : Inside
  inside = c.self.inside

  abbrev tables : Tables
  tables = record c.self.inside.tables { names = c.link_each.new.names; pending = c.link_each.new.pending; registers = c.shrink_to_fit.new.self }

  abbrev machine : Machine
  machine = record {
    interface = c.in_ok-interface.interface;
    aside = c.new.result;
    tables = tables;
    interactions = 0;
    counts = c.in_ok-counts.counts;
  }

  interface : c.in_ok-interface.interface.items ≡ map (register c.self.inside.tables.registers.items) c.args.interface.now
  interface = c.in_ok-interface.ensures ∙ ap (λ (l : List Word). map (register l) c.args.interface.now) c.deref.ensures.value

  link : (q : Plans) (others : List Piece)
      → Steps q [] (map (linked c.self.inside.tables.registers.items) c.args.links.now
      ++ (names_pieces 0 c.self.inside.tables.names.entries ++ ([] ++ others)))
      (names_pieces 0 c.link_each.new.names.entries ++ (map equated_of c.link_each.new.pending.items ++ others))
  link q others =
      let end = names_pieces 0 c.link_each.new.names.entries ++ (map equated_of c.link_each.new.pending.items ++ others) in
      subst (λ (es : List Equation). Steps q [] (map (linked c.self.inside.tables.registers.items) c.args.links.now
      ++ (names_pieces 0 c.self.inside.tables.names.entries ++ (map equated_of es ++ others))) end) (pending d)
      (subst (λ (l : List Word). Steps q [] (map (linked l) c.args.links.now
      ++ (names_pieces 0 c.self.inside.tables.names.entries ++ (map equated_of c.reserve.new.self.items ++ others))) end) c.deref-2.ensures.value
      (c.link_each.ensures.steps q others))

  steps : (q : Plans) (can : CanBegin c.args.links.now c.args.interface.now (building_of c.self.inside))
      → Steps q [] (pieces_made can.plan c.self.inside.tables.registers.items can.builds.opened can.builds.placed) (pieces (net_of machine))
  steps q can =
      let made = pieces_made can.plan c.self.inside.tables.registers.items can.builds.opened can.builds.placed in
      subst (λ (l : List Equation). Steps q [] made (map equated_of c.link_each.new.pending.items ++ (map equated_of l
      ++ (names_pieces 0 c.link_each.new.names.entries ++ heaps_pieces 0 c.self.inside.tables.heaps.items)))) (sym c.new.ensures.items)
      (begun_steps (building_of inside) c.args.links.now c.args.interface.now can inside.tables.names.entries inside.tables.heaps.items refl refl q
      c.link_each.new.names.entries (map equated_of c.link_each.new.pending.items) (link q))

  separate : IsSeparate c.args.program.now.arities c.in_ok-interface.interface.items (pieces (net_of machine))
  separate =
      let q : Plans = record { arities = c.args.program.now.arities; pairs = []; plans = [] } in
      let can' = can d in
      let made = pieces_made can'.plan inside.tables.registers.items can'.builds.opened can'.builds.placed in
      steps_keep q [] c.in_ok-interface.interface.items made (pieces (net_of machine)) (no_plans c.args.program.now.arities) (steps q can')
      (subst (λ (l : List Word). IsSeparate c.args.program.now.arities l made) (sym interface)
      (subst (λ (a : List ℕ). IsSeparate a (map (register inside.tables.registers.items) c.args.interface.now) made) (same d)
      (begun_separate (building_of inside) c.args.links.now c.args.interface.now can' inside.tables.names.entries inside.tables.heaps.items refl refl
      (subst (λ (k : ℕ). k < GIVEN) (sym (length-map inside.tables.heaps.items (λ b. b.arity))) c.self.invariant.symbols))))

pub invariant_of-result : goal.invariant_of-result
invariant_of-result c =
    let e = (goal.at.invariant_of-result c).After-new in
    let m : Inside = c.self.inside in
    let can' = can (d e) in
    let n : ℕ = length m.tables.heaps.items in
    let registers : c.shrink_to_fit.new.self.items ≡ take n m.tables.registers.items =
    c.shrink_to_fit.ensures.items ∙ (c.truncate.ensures.items ∙ ap (λ (k : ℕ). take k m.tables.registers.items) (omega arith)) in
    let filled = can'.builds.registers in
    let known : length (arities_of m.tables.heaps.items) ≡ n = length-map m.tables.heaps.items (λ b. b.arity) in
    let first : take n m.tables.registers.items ≡ constants n =
    first_of (length (arities_of m.tables.heaps.items)) n m.tables.registers.items
    (given_words can'.given ++ (can'.builds.opened ++ can'.builds.placed)) (sym known) filled in
    record {
      separate = subst (λ (a : List ℕ). IsSeparate a c.in_ok-interface.interface.items (pieces (net_of (machine e)))) (sym (same (d e))) (separate e);
      pairs = subst (λ (l : List Equation). AllByRecursion IsPair l) (sym c.link_each.ensures.pushed.after)
          (subst (λ (l : List Equation). AllByRecursion IsPair (l ++ c.link_each.ensures.pushed.more)) (sym (pending (d e))) c.link_each.ensures.pushed.pairs);
      aside = subst (λ (l : List Equation). AllByRecursion IsPair l) (sym c.new.ensures.items) tt;
      names = subst (λ (k : ℕ). k < 2 ^ 32) (sym c.link_each.ensures.names) c.self.invariant.names;
      symbols = c.self.invariant.symbols;
      registers = ap (take n) (registers ∙ first) ∙ taken_all n;
      spare = λ some. absurd (omega (arith, c.self.invariant.spare));
      counts = none_counted c.plans.result.now c.in_ok-counts.counts.items c.in_ok-counts.ensures;
    }

pub returns-clause-arities : goal.returns-clause-arities
returns-clause-arities c = same (goal.at.returns-clause-arities c).After-deref-2

pub returns-clause-starts : goal.returns-clause-starts
returns-clause-starts c =
    let e = (goal.at.returns-clause-starts c).After-new in
    let m : Inside = c.self.inside in
    let q : Plans = c.args.program.now in
    let t : Tables = tables e in
    subst (λ (v : Building). (can : CanBegin c.args.links.now c.args.interface.now v)
    → Starts q can.given can.plan c.args.interface.now (net_of (machine e))) c.self.view_is
    (λ can. begun_starts (building_of m) c.args.links.now c.args.interface.now can m.tables.names.entries m.tables.heaps.items refl refl q
    (net_of (machine e)) (same (d e)) (interface e) (steps e q can)
    (λ kind. net_size (machine e) kind ∙ built_size m c.self.invariant t c.link_each.ensures.names refl kind)
    (length-map m.tables.heaps.items (λ b. b.count) ∙ many (d e))
    (subst (λ (l : List Word). HaveHead c.args.links.now l [] c.link_each.new.pending.items) c.deref-2.ensures.value
    (subst (λ (l : List Equation). HaveHead c.args.links.now c.deref-2.result.now l c.link_each.new.pending.items) (pending (d e)) c.link_each.ensures.head)))

pub returns-clause-counts : goal.returns-clause-counts
returns-clause-counts c =
    c.in_ok-counts.ensures ∙ (sym (all_none c.plans.result.now) ∙ ap (λ (l : List Planned). map {B = ℕ} (λ plan. 0) l) c.plans.ensures)

pub returns-clause-separate : goal.returns-clause-separate
returns-clause-separate c = separate (goal.at.returns-clause-separate c).After-new
