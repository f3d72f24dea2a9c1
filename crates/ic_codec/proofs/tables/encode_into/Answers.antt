use Rattle.std.proofs.Common.{List, ◌∷◌, ◌++◌, [], length, refl, ap, sym, subst, arith}
use Rattle.std.specs.List.{flat_map}
use Rattle.ic_jobs.specs.Job.{JobParts}
use Rattle.ic_codec.specs.declared.form.Form.TheVariants.{Ict2}
use Rattle.ic_codec.specs.Jobs.{job_bytes}
use Rattle.ic_codec.specs.Form.{form_head}
use Rattle.ic_codec.specs.inner.Room.{Fits}
use Rattle.ic_codec.proofs.Sizes.{table_length}
use Rattle.ic_codec.proofs.ByteLemmas.{table_are_bytes}
use Rattle.ic_codec.proofs.Appending.{rest_fits}
use Rattle.ic_codec.proofs.tables.encode_into.Goals as goal

pub put_jobs-requires : goal.put_jobs-requires
put_jobs-requires c =
    let t = c.args.table.now in
    let is = c.jobs-jobs.ensures.sound in
    let jobs = flat_map (job_bytes Ict2) t in
    let whole : Fits c.args.out.now ((form_head Ict2) ++ (length t ∷ jobs)) = record { room = omega (arith, c.requires, table_length Ict2 t is); each = table_are_bytes Ict2 t is } in
    let after = rest_fits (form_head Ict2) (length t ∷ jobs) _ refl whole c.put_head.ensures in
    let left = rest_fits (length t ∷ []) jobs _ (ap (λ (l : List JobParts). length l ∷ []) c.jobs-jobs.ensures.jobs) after c.put_byte.ensures in
    subst (λ (l : List JobParts). Fits c.put_byte.new.out (flat_map (job_bytes Ict2) l)) (sym c.jobs-jobs.ensures.jobs) left

pub returns-clause-short : goal.returns-clause-short
returns-clause-short c = table_length Ict2 c.args.table.now c.jobs-jobs.ensures.sound
