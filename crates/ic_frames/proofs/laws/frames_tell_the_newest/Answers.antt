use Rattle.std.proofs.Common.{⊎_elim, ◌∙◌, sym}
use Rattle.std.proofs.lemmas.Bool.{cases_Bool, true≢false}
use Rattle.ic_frames.proofs.laws.frames_tell_the_newest.Goals as goal

pub returns-clause-closed : goal.returns-clause-closed
returns-clause-closed g c file is = (
  is.shut,
  λ shut. ⊎_elim (λ closed. closed) (λ opened. absurd (true≢false (sym (is.opened opened) ∙ shut))) (cases_Bool c.args.frames.now.closed),
)
