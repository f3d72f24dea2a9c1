use Rattle.std.proofs.Common.{refl}
use Rattle.ic_disk.specs.History.{clock_of}
use Rattle.ic_lives.proofs.MemLemmas.{image_now}
use Rattle.ic_lives.proofs.reached.a_disk_in_use_is_found.Goals as goal

pub returns : goal.returns
returns c later = record { keeps = refl; moment = clock_of c.args.after.now; since = later; left = λ file image. image_now c.args.after.now file image }
