use Rattle.std.proofs.Common.{ℕ, Bool, ap, ◌∙◌}
use Rattle.std.specs.Prelude.{is_some}
use Rattle.std.specs.Map.{lookup}
use Rattle.ic_flat_round.proofs.BoundEntries.{same_test}
use Rattle.ic_flat_round.proofs.bound.contains.Goals as goal

pub returns : goal.returns
returns c = c.contains_key.ensures ∙ ap (λ (t : ℕ → Bool). is_some (lookup t c.args.others.now.entries)) (same_test c.args.name)
