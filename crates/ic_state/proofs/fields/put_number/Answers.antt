use Rattle.std.proofs.Common.{◌∙◌, ◌++◌, List, ℕ, ap}
use Rattle.ic_state.specs.Numbers.{eight_bytes}
use Rattle.ic_state.proofs.fields.put_number.Goals as goal

pub returns : goal.returns
unfolding eight_bytes
returns c = c.in_ok-extend_from_slice.ensures.items ∙ ap (λ (l : List ℕ). c.args.out.now.items ++ l) c.to_be_bytes.ensures
