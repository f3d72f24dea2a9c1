use Rattle.std.proofs.Common.{inr, refl}
use Rattle.ic_exact.proofs.forms.tables_without_budgets_have_an_old_form.Goals as goal

pub returns : goal.returns
returns c t none = inr (record { unbudgeted = none; bytes_are = refl })
