use Rattle.std.proofs.Common.{arith}
use Rattle.ic_round.specs.Firing.{fired}
use Rattle.ic_generations.proofs.Anywhere.{fired_sound}
use Rattle.ic_generations.proofs.Figures.{nodes_are, names_are, amount_fired, amount_settled}
use Rattle.ic_generations.proofs.laws.figures_add_up_over_agents.Goals as goal

pub returns : goal.returns
returns c = record {
  nodes = nodes_are;
  names = names_are;
  settled = amount_settled;
  round = λ f rs x set over named.
      let one = amount_fired f rs x set over in
      let other = amount_settled f (fired rs.rules x) (fired_sound rs x set (record { over = over; named = named })).named in
      omega (arith, one, other);
}
