use Rattle.std.proofs.Common.{subst as transport}
use Rattle.ic_confluence.specs.Sameness.{Same}
use Rattle.ic_settle.specs.Settling.{settled}
use Rattle.ic_nets.proofs.GraphLemmas.{parts_alike}
use Rattle.ic_nets.proofs.SettledLemmas.{settled_next}
use Rattle.ic_nets.proofs.laws.same_nets_are_alike.Goals as goal

pub returns-clause-same : goal.returns-clause-same
returns-clause-same c rs k d m n twice same is_m is_n =
    let parts = c.same_nets_are_renamed_and_rearranged.ensures.parts k d same in
    parts_alike rs k parts.0 d m n twice parts.1 parts.2 is_m is_n

pub returns-clause-settled : goal.returns-clause-settled
returns-clause-settled c rs k d m n sound_k sound_d still_k still_d is_m is_n = (
  λ alike.
      let one = c.alike_nets_settle_to_one.ensures.settled rs k d m n sound_k sound_d is_m is_n alike in
      let next = one.0 in
      (next, transport (λ e. Same e (record d { next = next })) (settled_next next k still_k) (transport (λ e. Same (settled (record k { next = next })) e) (settled_next next d still_d) one.1)),
  λ one.
      let next = one.0 in
      let parts = c.same_nets_are_renamed_and_rearranged.ensures.parts (record k { next = next }) (record d { next = next }) one.1 in
      parts_alike rs (record k { next = next }) parts.0 (record d { next = next }) m n sound_k.twice parts.1 parts.2
      (record { interface = is_m.interface; agents = is_m.agents; joints = is_m.joints; wires = is_m.wires })
      (record { interface = is_n.interface; agents = is_n.agents; joints = is_n.joints; wires = is_n.wires }),
)
