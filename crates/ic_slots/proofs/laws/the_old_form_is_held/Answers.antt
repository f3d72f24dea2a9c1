use Rattle.std.proofs.Common.{◌∙◌, ⊎_elim, inl, inr, ap}
use Rattle.ic_codec.specs.Tables.{table_bytes, old_table_bytes}
use Rattle.ic_frames.specs.Held.{the_body}
use Rattle.ic_slots.specs.Held.{the_table}
use Rattle.ic_slots.proofs.HeldLemmas.{only_one}
use Rattle.ic_slots.proofs.TableLemmas.{has_table, written_form, old_form}
use Rattle.ic_slots.proofs.laws.the_old_form_is_held.Goals as goal

pub returns-clause-new : goal.returns-clause-new
returns-clause-new c t file sound has = has_table t (table_bytes t) file sound (written_form t) has

pub returns-clause-old : goal.returns-clause-old
returns-clause-old c t file sound none has = has_table t (old_table_bytes t) file sound (old_form t none) has

pub returns-clause-alone : goal.returns-clause-alone
returns-clause-alone c t held file sound none has is =
    only_one c.each_table_has_its_own_bytes.ensures.either file held (the_table t) is (has_table t (old_table_bytes t) file sound (old_form t none) has)

pub returns-clause-only : goal.returns-clause-only
returns-clause-only c t file is = ⊎_elim
    (λ new. inl (is.1.held ∙ ap the_body new))
    (λ old. inr (old.unbudgeted, is.1.held ∙ ap the_body old.bytes_are))
    is.1.form
