use Rattle.std.proofs.Common.{◌≡◌, List, Err, refl, subst}
use Rattle.ic_jobs.specs.Job.{JobParts}
use Rattle.ic_slots.specs.Held.{the_table}
use Rattle.ic_dump.specs.declared.fault.DumpFault.TheVariants.{NoJob, TooLong}
use Rattle.ic_dump.specs.Dumping.{dumped, WritesDump, WritesDumpPart}
use Rattle.ic_dump.proofs.laws.a_dump_of_a_disk_is_that_of_its_table.Goals as goal

one_table : (u t : List JobParts) → the_table u ≡ the_table t → u ≡ t
one_table u t same = cc

pub returns : goal.returns
returns c = record {
  written = λ names file t old new held is.
      subst (λ (u : List JobParts). WritesDump names u old new) (one_table is.0 t (c.one_is_held.ensures file (the_table is.0) (the_table t) (is.1.1 refl) held)) is.2;
  cut = λ names file t old new held is.
      subst (λ (u : List JobParts). WritesDumpPart names u old new) (one_table is.0 t (c.one_is_held.ensures file (the_table is.0) (the_table t) (is.1.1 refl) held)) is.2;
  no_job = λ names file name t held is.
      subst (λ (u : List JobParts). dumped names u ≡ Err (NoJob name)) (one_table is.0 t (c.one_is_held.ensures file (the_table is.0) (the_table t) (is.1.1 refl) held)) is.2;
  too_long = λ names file name t held is.
      subst (λ (u : List JobParts). dumped names u ≡ Err (TooLong name)) (one_table is.0 t (c.one_is_held.ensures file (the_table is.0) (the_table t) (is.1.1 refl) held)) is.2;
}
