use Rattle.std.proofs.Common.{rules, IsTrue, length}
use Rattle.std.proofs.lemmas.List.{drop-replicate}
use Rattle.ic_rules.specs.JobName.{is_job_name}
use Rattle.ic_rules.proofs.NameLemmas.{kept}
use Rattle.ic_rules.proofs.job_name.JobName.new.Goals as goal

pub invariant_of-result : goal.invariant_of-result
invariant_of-result c =
    let name : IsTrue (is_job_name c.args.text.now) = search rules in
    rw c.copy_from_slice.ensures.after (kept c.args.text.now _ name (drop-replicate (length c.args.text.now) 16 0))
