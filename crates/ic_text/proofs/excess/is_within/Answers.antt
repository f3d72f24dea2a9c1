use Rattle.std.proofs.Common.{◌&&◌, ap, ◌∙◌}
use Rattle.std.specs.Prelude.{nat_le}
use Rattle.ic_text.specs.Limits.{most_interface, most_nodes}
use Rattle.ic_text.proofs.excess.is_within.Goals as goal

pub returns-in-Some : goal.returns-in-Some
returns-in-Some c = ap (λ b. b && (nat_le c.args.terms (most_interface c.args.limits) && nat_le c.args.words (most_nodes c.args.limits))) c.in-Some.ensures

pub returns-in-None : goal.returns-in-None
returns-in-None c = c.config_is_within.ensures ∙ ap (λ b. b && (nat_le c.args.terms (most_interface c.args.limits) && nat_le c.args.words (most_nodes c.args.limits))) c.in-None.ensures
