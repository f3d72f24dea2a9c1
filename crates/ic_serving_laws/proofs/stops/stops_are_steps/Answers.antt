use Rattle.std.proofs.Common.{◌≢◌, refl}
use Rattle.ic_disk.specs.declared.disk.Disk.{Ghosts}
use Rattle.ic_book.specs.Moves.{Move, opens, refuses, answers, fails, takes, rounds, keeps, stays, closes, stops}
use Rattle.ic_book.specs.Server.{IsFound, Server, Step, disk_in, down, up}
use Rattle.ic_serving_laws.proofs.stops.stops_are_steps.Goals as goal

module _ {D : Type 0} {ghosts : Ghosts D} where
  stopped : (move : Move) (before after : Server ghosts) (found : D) → ((other : Move) → move ≢ stops other) → Step move before after
      → IsFound ghosts (disk_in before) (disk_in after) found → Step {ghosts = ghosts} (stops move) before (down found)
  stopped opens (down disk) after found other step here = (after, step, here)
  stopped opens (up book) after found other step here = (after, step, here)
  stopped (refuses cause) (down disk) after found other step here = (after, step, here)
  stopped (refuses cause) (up book) after found other step here = (after, step, here)
  stopped (answers who command reply) (down disk) after found other step here = (after, step, here)
  stopped (answers who command reply) (up book) after found other step here = (after, step, here)
  stopped (fails who command reply) (down disk) after found other step here = (after, step, here)
  stopped (fails who command reply) (up book) after found other step here = (after, step, here)
  stopped (takes who command reply) (down disk) after found other step here = (after, step, here)
  stopped (takes who command reply) (up book) after found other step here = (after, step, here)
  stopped (rounds name reply) (down disk) after found other step here = (after, step, here)
  stopped (rounds name reply) (up book) after found other step here = (after, step, here)
  stopped keeps (down disk) after found other step here = (after, step, here)
  stopped keeps (up book) after found other step here = (after, step, here)
  stopped stays (down disk) after found other step here = (after, step, here)
  stopped stays (up book) after found other step here = (after, step, here)
  stopped closes (down disk) after found other step here = (after, step, here)
  stopped closes (up book) after found other step here = (after, step, here)
  stopped (stops move) before after found other step here = absurd (other move refl)

pub returns-clause-steps : goal.returns-clause-steps
returns-clause-steps g c move before after = stopped move before after c.args.found.now

pub returns-clause-found : goal.returns-clause-found
returns-clause-found g c before after moment model since left = record { keeps = model; moment = moment; since = since; left = left }
