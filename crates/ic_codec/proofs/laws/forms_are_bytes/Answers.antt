use Rattle.std.proofs.Common.{inl, inr, List, ℕ, sym, subst}
use Rattle.ic_jobs.specs.Job.{JobParts}
use Rattle.ic_jobs.specs.Table.{IsTable}
use Rattle.ic_codec.specs.declared.form.Form.TheVariants.{Ict1, Ict2}
use Rattle.ic_codec.specs.Tables.{IsFormOf}
use Rattle.ic_codec.specs.inner.Room.{AreBytes}
use Rattle.ic_codec.proofs.ByteLemmas.{table_are_bytes}
use Rattle.ic_codec.proofs.laws.forms_are_bytes.Goals as goal

either : (t : List JobParts) (bytes : List ℕ) → IsTable t → IsFormOf t bytes → AreBytes bytes
either t bytes is (inl new) = subst AreBytes (sym new) (table_are_bytes Ict2 t is)
either t bytes is (inr old) = subst AreBytes (sym old.bytes_are) (table_are_bytes Ict1 t is)

pub returns-clause-new : goal.returns-clause-new
returns-clause-new c = table_are_bytes Ict2

pub returns-clause-either : goal.returns-clause-either
returns-clause-either c = either
