use Rattle.std.proofs.Common.{◌∙◌, ℕ, List, refl, subst}
use Rattle.ic_kept.specs.Sheet.{IsNewest}
use Rattle.ic_state.specs.State.{kept_by, state_bytes}
use Rattle.ic_keeping.proofs.Resuming.{first_held}
use Rattle.ic_keeping.proofs.beginning.begin.Goals as goal

pub returns-in-Ok-clause-newest : goal.returns-in-Ok-clause-newest
returns-in-Ok-clause-newest g c keeps = λ one left.
    subst (λ (b : List ℕ). IsNewest 1 b one) (c.deref.ensures.value ∙ c.in_ok-bytes.ensures.bytes) (c.in-Ok.ensures.newest keeps one left)

pub returns-in-Ok-clause-kept : goal.returns-in-Ok-clause-kept
returns-in-Ok-clause-kept g c s is keeps keeps_too = λ one other left left_too.
    let bytes = state_bytes (kept_by c.args.state.now) in (
      bytes,
      (kept_by c.args.state.now, c.in_ok-bytes.ensures.sound, is, refl),
      first_held bytes one other
          (subst (λ (b : List ℕ). IsNewest 1 b one) (c.deref.ensures.value ∙ c.in_ok-bytes.ensures.bytes) (c.in-Ok.ensures.newest keeps one left))
          (c.in-Ok.ensures.shut keeps_too other left_too),
    )
