use Rattle.ic_settle.specs.Settling.{settled}
use Rattle.ic_settle.specs.lemmas.Reached.{settled_steps, settled_ends}
use Rattle.ic_round.specs.Firing.{fired}
use Rattle.ic_confluence.specs.lemmas.Equivalence.{Same-sym}
use Rattle.ic_generations.proofs.Anywhere.{fired_sound}
use Rattle.ic_generations.proofs.Settling.{steps_keep, steps_fire, joined}
use Rattle.ic_generations.proofs.ByRule.{steps_rules}
use Rattle.ic_generations.proofs.Waiting.{settled_beside}
use Rattle.ic_generations.proofs.laws.name_steps_may_wait_for_a_round.Goals as goal

pub returns : goal.returns
returns c = record {
  active = λ rs x y steps. steps_keep rs.rules x y steps;
  fired = λ rs x y set over named steps same. steps_fire rs x y set (record { over = over; named = named }) steps same;
  elsewhere = λ rs ts es rest next end agents steps none inert. settled_beside rs.rules ts es rest next end agents steps none inert;
  rules = λ rs x y steps same. steps_rules rs.rules x y steps same;
  round = λ rs x y set over named steps same.
      let one = fired rs.rules x in
      let other = fired rs.rules y in
      let more = steps_fire rs x y set (record { over = over; named = named }) steps same in
      let sound = fired_sound rs x set (record { over = over; named = named }) in
      Same-sym (settled other) (settled one)
      (c.every_order_settles_to_the_same_net.ensures.settled one (settled other) sound.named (joined one other (settled other) more (settled_steps other)) (λ z step. settled_ends other z step));
}
