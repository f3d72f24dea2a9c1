use Rattle.std.specs.Arc.{arc_value}
use Rattle.ic_crew.specs.WorkLists.{works_of}
use Rattle.ic_crew.proofs.Matches.{parts_suit}
use Rattle.ic_crew.proofs.crews.fire_by_lines.Goals as goal

pub parcels_of-requires : goal.parcels_of-requires
parcels_of-requires g c =
    parts_suit (arc_value c.args.rules.now).rules (works_of c.args.works) c.in_ok-deal.field-0.items c.requires.suit c.in_ok-deal.ensures.each_once
