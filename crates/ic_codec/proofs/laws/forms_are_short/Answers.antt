use Rattle.std.proofs.Common.{◌≤◌, inl, inr, List, ℕ, length, sym, subst}
use Rattle.ic_jobs.specs.Job.{JobParts}
use Rattle.ic_jobs.specs.Table.{IsTable}
use Rattle.ic_codec.specs.declared.form.Form.TheVariants.{Ict1, Ict2}
use Rattle.ic_codec.specs.Tables.{IsFormOf}
use Rattle.ic_codec.proofs.Sizes.{table_length}
use Rattle.ic_codec.proofs.laws.forms_are_short.Goals as goal

either : (t : List JobParts) (bytes : List ℕ) → IsTable t → IsFormOf t bytes → length bytes ≤ 3036677
either t bytes is (inl new) = subst (λ (bs : List ℕ). length bs ≤ 3036677) (sym new) (table_length Ict2 t is)
either t bytes is (inr old) = subst (λ (bs : List ℕ). length bs ≤ 3036677) (sym old.bytes_are) (table_length Ict1 t is)

pub returns-clause-new : goal.returns-clause-new
returns-clause-new c = table_length Ict2

pub returns-clause-either : goal.returns-clause-either
returns-clause-either c = either
