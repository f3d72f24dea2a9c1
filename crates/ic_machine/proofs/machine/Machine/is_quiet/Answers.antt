use Rattle.std.proofs.Common.{◌≡◌, Bool, true, false, not, Result, Ok, ap, refl, ◌∙◌}
use Rattle.ic_machine.proofs.AtPlaces.{tables_at_places}
use Rattle.ic_machine.proofs.Running.{found_next}
use Rattle.ic_machine.proofs.Sound.{passed_ran, passed_sound}
use Rattle.ic_machine.proofs.machine.Machine.is_quiet.Goals as goal

answered : {E : Type 0} (b : Bool) → ◌≡◌ {A = Result Bool E} (Ok b) (Ok false) → b ≡ false
answered true e = absurd (cc e)
answered false e = refl

pub invariant_of-self : goal.invariant_of-self
invariant_of-self c =
    passed_sound c.args.program.now c.self.inside _ _ c.find_plan.ensures.passed c.self.invariant c.find_plan.ensures.memory

pub returns-in_err-found-clause-ran : goal.returns-in_err-found-clause-ran
returns-in_err-found-clause-ran c =
    passed_ran c.args.program.now c.self.inside c.find_plan.new.pending c.find_plan.new.aside c.find_plan.ensures.passed _ c.self.view_is

pub invariant_of-self-2 : goal.invariant_of-self-2
invariant_of-self-2 c =
    passed_sound c.args.program.now c.self.inside _ _ c.find_plan.ensures.passed c.self.invariant c.find_plan.ensures.memory

pub returns-clause-ran : goal.returns-clause-ran
returns-clause-ran c = passed_ran c.args.program.now c.self.inside c.find_plan.new.pending c.find_plan.new.aside c.find_plan.ensures.passed _ c.self.view_is

pub returns-in_err-found-clause-separate : goal.returns-in_err-found-clause-separate
returns-in_err-found-clause-separate c = (invariant_of-self c).separate

pub returns-clause-separate : goal.returns-clause-separate
returns-clause-separate c = (invariant_of-self-2 c).separate

pub returns-in_err-found-clause-places : goal.returns-in_err-found-clause-places
returns-in_err-found-clause-places c = tables_at_places c.self.inside.tables.names.entries c.self.inside.tables.heaps.items

pub returns-clause-places : goal.returns-clause-places
returns-clause-places c = tables_at_places c.self.inside.tables.names.entries c.self.inside.tables.heaps.items

pub returns-clause-more : goal.returns-clause-more
returns-clause-more c = λ e.
    found_next (λ f. f.0) (λ f. f.1) c.args.program.now c.find_plan.new.pending.items c.in_ok-found.found
    c.in_ok-found.ensures.found
    (ap not c.is_none.ensures ∙ ap (λ (b : Bool). not (not b)) (answered c.is_none.result e))

pub returns-in_err-found-clause-pairs : goal.returns-in_err-found-clause-pairs
returns-in_err-found-clause-pairs c = (invariant_of-self c).pairs

pub returns-clause-pairs : goal.returns-clause-pairs
returns-clause-pairs c = (invariant_of-self-2 c).pairs
