use Rattle.std.proofs.Common.{◌++◌, [], List, refl, sym, ap, subst, ◌∙◌, append_assoc}
use Rattle.std.specs.List.{AllByRecursion}
use Rattle.std.proofs.lemmas.List.{append-nil}
use Rattle.ic_machine.specs.declared.telling.Told.{Told}
use Rattle.ic_machine.specs.Moving.{Ends, IsTold}
use Rattle.ic_machine.specs.lemmas.FiringKeeps.{all_append}
use Rattle.ic_machine.proofs.machine.Machine.tell.Goals as goal

pub loop-cut-init : goal.loop-cut-init
loop-cut-init c = record { told = ([], sym (append-nil c.args.told.now.items), tt); same = refl }

pub loop-cut-preserved : goal.loop-cut-preserved
loop-cut-preserved c =
    let old = c.loop-cut.invariant.told in
    let new = c.in_ok-tell_one.ensures.told in
    let all : AllByRecursion (IsTold c.args.self.now c.args.borders.now) new.0 =
    subst (λ (b : Ends). AllByRecursion (IsTold c.args.self.now b) new.0) c.loop-cut.invariant.same new.2 in
    record {
      told = (
        old.0 ++ new.0,
        new.1 ∙ (ap (λ (l : List Told). l ++ new.0) old.1 ∙ append_assoc c.args.told.now.items old.0 new.0),
        all_append (IsTold c.args.self.now c.args.borders.now) old.0 new.0 old.2 all,
      );
      same = c.tell_one.ensures.same ∙ c.loop-cut.invariant.same;
    }
