use Rattle.std.proofs.Common.{◌∙◌, ◌∷◌, [], sym, ap, Some}
use Rattle.ic_workers.specs.Parts.{Part}
use Rattle.ic_workers.specs.inner.Keeping.{slot}
use Rattle.ic_workers.proofs.Lists.{same_set}
use Rattle.ic_workers.proofs.desk.Desk.tell.Goals as goal

pub returns-in-Some-clause-slots : goal.returns-in-Some-clause-slots
returns-in-Some-clause-slots c =
    same_set slot c.args.self.now.parts.items c.args.part c.index_mut.result.now (Some c.tell.new.self) c.requires c.index_mut.ensures.value
    (ap (λ (q : Part). q ∷ []) c.tell.ensures ∙ ap slot (sym c.in-Some.is))
