use Rattle.std.proofs.Common.{◌∙◌, sym, subst}
use Rattle.ic_state.specs.State.{Kept}
use Rattle.ic_keeping.specs.Way.{IsStateOf}
use Rattle.ic_keeping.proofs.laws.what_was_kept_is_read_back.Goals as goal

pub returns : goal.returns
returns c s bytes k form kept is =
    subst (λ (j : Kept). IsStateOf s j) (c.each_state_has_its_own_bytes.ensures form.0 k form.1 kept (sym form.3 ∙ is)) form.2
