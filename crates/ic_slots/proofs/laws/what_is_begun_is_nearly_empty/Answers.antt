use Rattle.std.proofs.Common.{refl}
use Rattle.ic_slots.proofs.BegunLemmas.{after-zero, begun-byte, begun-zero}
use Rattle.ic_slots.proofs.laws.what_is_begun_is_nearly_empty.Goals as goal

pub returns-clause-short : goal.returns-clause-short
returns-clause-short c file begun = begun.0

pub returns-clause-closed : goal.returns-clause-closed
returns-clause-closed c file begun = begun-zero file begun 0 refl refl

pub returns-clause-zeros : goal.returns-clause-zeros
returns-clause-zeros c file i begun past =
    let zeros = after-zero i past in
    begun-zero file begun i zeros.0 zeros.1

pub returns-clause-bytes : goal.returns-clause-bytes
returns-clause-bytes c file i begun = begun-byte file begun i
