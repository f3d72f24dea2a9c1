use Rattle.std.proofs.Common.{◌+◌, drop, arith}
use Rattle.std.specs.List.{flat_map}
use Rattle.ic_codec.specs.declared.form.Form.TheVariants.{Ict2}
use Rattle.ic_codec.specs.Jobs.{job_bytes}
use Rattle.ic_codec.proofs.Appending.{bytes_from, left_fits, goes_on}
use Rattle.ic_codec.proofs.jobs.put_jobs.Goals as goal

pub put_job-requires : goal.put_job-requires
put_job-requires c =
    left_fits (job_bytes Ict2 c.job-item.result) (flat_map (job_bytes Ict2) (drop (c.loop-job.job-index + 1) c.args.jobs.now)) (bytes_from (job_bytes Ict2) c.args.jobs.now c.loop-job.job-index c.job-item.result (omega arith) c.job-item.is) c.loop-job.invariant

pub loop-job-preserved : goal.loop-job-preserved
loop-job-preserved c =
    goes_on (job_bytes Ict2 c.job-item.result) (flat_map (job_bytes Ict2) (drop (c.loop-job.job-index + 1) c.args.jobs.now)) (bytes_from (job_bytes Ict2) c.args.jobs.now c.loop-job.job-index c.job-item.result (omega arith) c.job-item.is) c.loop-job.invariant c.put_job.ensures
