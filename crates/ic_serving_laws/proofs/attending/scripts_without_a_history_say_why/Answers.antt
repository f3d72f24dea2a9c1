use Rattle.std.proofs.Common.{◌∙◌, ap}
use Rattle.ic_serving_laws.proofs.attending.scripts_without_a_history_say_why.Goals as goal

pub returns-clause-unopened : goal.returns-clause-unopened
returns-clause-unopened g c scripts runners turns workers cause says = says

pub returns-clause-stopped : goal.returns-clause-stopped
returns-clause-stopped g c scripts runners turns workers says = says

pub returns-clause-torn : goal.returns-clause-torn
returns-clause-torn g c scripts runners turns workers says = says

pub returns-clause-wanting : goal.returns-clause-wanting
returns-clause-wanting g c scripts runners turns workers says = says

pub returns-clause-stays : goal.returns-clause-stays
returns-clause-stays g c scripts runners turns workers says model =
    ap g.D.Disk.content says.2 ∙ says.1.found.same model

pub returns-clause-as_found : goal.returns-clause-as_found
returns-clause-as_found g c scripts runners turns workers cause says model =
    ap g.D.Disk.content says.3 ∙ says.2.found.same model

pub returns-clause-never : goal.returns-clause-never
returns-clause-never g c scripts runners turns workers = (λ never. never, λ never. never)
