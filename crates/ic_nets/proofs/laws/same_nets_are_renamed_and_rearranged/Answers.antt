use Rattle.std.proofs.Common.{refl}
use Rattle.ic_nets.specs.Likeness.{alone, church_false, church_true}
use Rattle.ic_nets.proofs.PartedLemmas.{parted}
use Rattle.ic_nets.proofs.SameLemmas.{only_renamed, true_isnt_false}
use Rattle.ic_nets.proofs.laws.same_nets_are_renamed_and_rearranged.Goals as goal

pub returns-clause-parts : goal.returns-clause-parts
returns-clause-parts c = parted c.same_nets_have_one_shape.ensures.free

pub returns-clause-renamed : goal.returns-clause-renamed
returns-clause-renamed c = only_renamed c.same_nets_have_one_shape.ensures.free

pub returns-clause-true_and_false : goal.returns-clause-true_and_false
returns-clause-true_and_false c l e same =
    true_isnt_false l e (only_renamed c.same_nets_have_one_shape.ensures.free
    (alone (church_true l e)) (alone (church_false l e)) same refl)
