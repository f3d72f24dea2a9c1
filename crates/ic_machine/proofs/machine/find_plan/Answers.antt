use Rattle.std.proofs.Common.{◌≡◌, List, [], ◌∷◌, ◌++◌, Bool, true, cond, ap, not, refl, sym, subst, ◌∙◌}
use Rattle.std.specs.List.{AllByRecursion}
use Rattle.ic_machine.specs.declared.equation.Equation.{Equation}
use Rattle.ic_machine.specs.Net.{IsPair}
use Rattle.ic_machine.specs.inner.Pairs.{Passed}
use Rattle.ic_machine.proofs.Fresh.{all_back, all_front}
use Rattle.ic_machine.proofs.Running.{passed_more, passed_none}
use Rattle.ic_machine.proofs.machine.find_plan.Goals as goal

pub loop-pair-init : goal.loop-pair-init
loop-pair-init c = record {
  pairs = c.requires;
  passed = passed_none c.args.program.now c.args.pending.now.items c.args.aside.now.items;
  memory = refl;
}

pub loop-pair-preserved : goal.loop-pair-preserved
loop-pair-preserved c =
    let es : List Equation = c.loop-pair.pending.items in
    let us : List Equation = c.loop-pair.aside.items in
    let new : List Equation = c.pop.new.self.items in
    let e : Equation = c.in-Some.pair in
    let parts : es ≡ new ++ e ∷ [] = c.pop.ensures.items e c.in-Some.ensures in
    let pairs = subst (λ (l : List Equation). AllByRecursion IsPair l) parts c.loop-pair.invariant.pairs in
    let fine : ◌≡◌ {A = Bool} true (not c.is_err.result) = sym (ap not c.if-is_err.false) in
    let pushed = c.push.ensures.items
    ∙ ap (λ (b : Bool). cond b (us ++ e ∷ []) us) (c.is_err.ensures.negation ∙ sym fine) in
    record {
      pairs = all_front IsPair new (e ∷ []) pairs;
      passed = subst (λ (l : List Equation). Passed c.args.program.now c.args.pending.now.items c.args.aside.now.items new l)
          (sym pushed)
          (passed_more c.args.program.now c.args.pending.now.items c.args.aside.now.items new us e
          (subst (λ (l : List Equation). Passed c.args.program.now c.args.pending.now.items c.args.aside.now.items l us)
          parts c.loop-pair.invariant.passed)
          (c.in_default-number_for.ensures.none (all_back IsPair new (e ∷ []) pairs).0));
      memory = c.pop.ensures.capacity ∙ c.loop-pair.invariant.memory;
    }
