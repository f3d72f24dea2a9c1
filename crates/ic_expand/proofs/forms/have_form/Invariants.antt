use Rattle.std.proofs.Common.{◌≡◌, length}
use Rattle.ic_expand.specs.Forms.{have_form}
use Rattle.ic_expand.specs.Pieces.{pieces}
use Rattle.ic_expand.specs.declared.spot.Spot.TheVariants.{Elsewhere}
use Rattle.ic_expand.proofs.forms.have_form.Given as goal

-- whether what is left has a form tells it of all
abbrev pub invariant-loop-rest : goal.invariant-loop-rest
invariant-loop-rest l = have_form l.before l.spot (pieces l.rest) ≡ have_form 0 Elsewhere (pieces l.text)

abbrev pub decreases-loop-rest : goal.decreases-loop-rest
decreases-loop-rest l = length l.rest
