use Rattle.ic_serving_laws.proofs.ServedLemmas.{turns_stopped}
use Rattle.ic_serving_laws.proofs.served.answered_lines_stay.Goals as goal

pub returns : goal.returns
returns g c moves limit most result ls before after serving front more parted run = turns_stopped c.histories_split_and_join.ensures.table c.histories_split_and_join.ensures.legal c.one_is_held.ensures
    g.met.D.Disk.content_is_image g.met.D.Disk.image_is_left g.met.D.Disk.left_is_image
    limit moves c.args.old.now c.args.new.now c.args.found.now most serving.front serving.turns front more parted run
