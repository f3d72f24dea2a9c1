use Rattle.std.proofs.Common.{◌≡◌, ◌<◌, ℕ, List, Bool, Err, cond, ap, refl, length}
use Rattle.std.proofs.lemmas.Bool.{lt-leb}
use Rattle.ic_expand.specs.declared.fault.ExpandFault.TheVariants.{Refused}
use Rattle.ic_expand.specs.declared.fault.Reason.TheVariants.{TextBytes}
use Rattle.ic_expand.specs.declared.limits.TheConstants.{MAX_RICH_TEXT}
use Rattle.ic_expand.specs.Comments.{uncommented}
use Rattle.ic_expand.specs.Expanding.{body_expanded, expanded}
use Rattle.ic_expand.proofs.laws.refusals_by_hand.Goals as goal

pub returns-clause-copier : goal.returns-clause-copier
returns-clause-copier c = refl

pub returns-clause-eraser : goal.returns-clause-eraser
returns-clause-eraser c = refl

pub returns-clause-twice : goal.returns-clause-twice
returns-clause-twice c = refl

pub returns-clause-given : goal.returns-clause-given
returns-clause-given c = refl

pub returns-clause-later : goal.returns-clause-later
returns-clause-later c = refl

pub returns-clause-stood_for : goal.returns-clause-stood_for
returns-clause-stood_for c = refl

pub returns-clause-unended : goal.returns-clause-unended
returns-clause-unended c = refl

pub returns-clause-unknown : goal.returns-clause-unknown
returns-clause-unknown c = refl

pub returns-clause-line : goal.returns-clause-line
returns-clause-line c = refl

too_long : (text : List ℕ) → MAX_RICH_TEXT < length text → expanded text ≡ Err (Refused TextBytes MAX_RICH_TEXT)
too_long text long = ap (λ (few : Bool). cond few (body_expanded (uncommented text)) (Err (Refused TextBytes MAX_RICH_TEXT))) (lt-leb (length text) MAX_RICH_TEXT long)

pub returns-clause-long : goal.returns-clause-long
returns-clause-long c = too_long
