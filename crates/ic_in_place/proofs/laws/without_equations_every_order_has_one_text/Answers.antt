use Rattle.ic_in_place.proofs.OneText.{one_text}
use Rattle.ic_in_place.proofs.laws.without_equations_every_order_has_one_text.Goals as goal

pub returns : goal.returns
returns c =
    λ s bounds answer e interactions by_rule kinds set over named is none chain still.
    let net = (c.a_quiet_end_is_that_of_every_order.ensures.every_order s bounds answer e interactions by_rule kinds set over named is chain still).0 in
    one_text c.same_nets_have_one_shape.ensures.free c.what_is_renumbered_forgets_names.ensures s.rules.rules answer e net none still
