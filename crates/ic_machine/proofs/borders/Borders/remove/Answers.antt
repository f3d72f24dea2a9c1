use Rattle.std.proofs.Common.{◌∷◌, Contains, map, sym, ap, subst}
use Rattle.std.specs.List.Sorted.{IsPermutation}
use Rattle.ic_machine.specs.Moving.{CutEnd, Ends}
use Rattle.ic_machine.specs.inner.Borders.{end_of}
use Rattle.ic_machine.proofs.Ends.{end_removed, removed_paired}
use Rattle.ic_machine.proofs.borders.Borders.remove.Goals as goal

pub invariant_of-self : goal.invariant_of-self
invariant_of-self c =
    let m = c.self.inside in
    let d : CutEnd = record { cut = c.args.cut; name = c.args.name } in
    let there = subst (λ (x : Ends). Contains x.ends d) (sym c.self.view_is) c.requires in
    record {
      paired = removed_paired m.by_cut c.remove.new.self m.by_name c.remove-2.new.self c.args.cut c.args.name c.self.invariant.unique there
          c.self.invariant.paired c.remove.ensures.updates.0 c.remove-2.ensures.updates.0;
      unique = c.remove.ensures.unique;
      step = c.self.invariant.step;
    }

pub returns-clause-removed : goal.returns-clause-removed
returns-clause-removed c =
    let m = c.self.inside in
    let d : CutEnd = record { cut = c.args.cut; name = c.args.name } in
    let there = subst (λ (x : Ends). Contains x.ends d) (sym c.self.view_is) c.requires in
    subst (λ (x : Ends). IsPermutation x.ends (d ∷ map end_of c.remove.new.self.entries)) c.self.view_is
    (end_removed m.by_cut c.remove.new.self m.by_name c.remove-2.new.self c.args.cut c.args.name c.self.invariant.unique there
    c.remove.ensures.entries)

pub returns-clause-numbers : goal.returns-clause-numbers
returns-clause-numbers c = ap (λ (x : Ends). record x { ends = map end_of c.remove.new.self.entries }) c.self.view_is
