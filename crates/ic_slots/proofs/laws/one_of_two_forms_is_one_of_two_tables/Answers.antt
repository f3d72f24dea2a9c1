use Rattle.ic_codec.specs.Tables.{table_bytes, old_table_bytes}
use Rattle.ic_slots.proofs.TableLemmas.{either_table, written_form, old_form}
use Rattle.ic_slots.proofs.laws.one_of_two_forms_is_one_of_two_tables.Goals as goal

pub returns-clause-either : goal.returns-clause-either
returns-clause-either c = either_table

pub returns-clause-old : goal.returns-clause-old
returns-clause-old c t u file sound_t sound_u none_t none_u is =
    either_table t u (old_table_bytes t) (old_table_bytes u) file sound_t sound_u (old_form t none_t) (old_form u none_u) is

pub returns-clause-mixed : goal.returns-clause-mixed
returns-clause-mixed c t u file sound_t sound_u none is =
    either_table t u (old_table_bytes t) (table_bytes u) file sound_t sound_u (old_form t none) (written_form u) is
