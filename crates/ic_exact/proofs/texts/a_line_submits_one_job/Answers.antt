use Rattle.std.proofs.Common.{◌≡◌, ◌≤◌, sym, ◌∙◌, ap, arith}
use Rattle.ic_term.specs.Configuration.{configuration_names, occurrences}
use Rattle.ic_dump.specs.Telling.{system_of}
use Rattle.ic_exact.proofs.NameLemmas.{occurs_so}
use Rattle.ic_exact.proofs.texts.a_line_submits_one_job.Goals as goal

pub returns-clause-read : goal.returns-clause-read
returns-clause-read c = λ line name j s most is read.
    let same = c.one_line_reading.ensures.answer line _ _ read is.reads in
    let system : s ≡ is.system = cc in
    ((let e : name ≡ j.name = cc in e), (let e : most ≡ j.budget = cc in e), ap system_of system ∙ is.alike)

pub returns-clause-names : goal.returns-clause-names
returns-clause-names c = λ line j is n some. occurs_so is.rename j.config is.config is.renaming n some

pub returns-clause-free : goal.returns-clause-free
returns-clause-free c = λ line j is n free low.
    let once : 1 ≤ occurrences n (configuration_names j.config) = omega (arith, free) in
    ap (λ m. occurrences m (configuration_names is.config)) (sym (is.renaming.free n free low))
    ∙ occurs_so is.rename j.config is.config is.renaming n once ∙ free
