use Rattle.ic_frames.specs.Places.{place}
use Rattle.ic_frames.specs.Fields.{body}
use Rattle.ic_frames.proofs.HeldLemmas.{stands_has}
use Rattle.ic_frames.proofs.laws.one_body_is_kept.Goals as goal

pub returns : goal.returns
returns g c keeps ready =
    let disk = g.D.Disk in
    let frames = c.args.frames.now in
    let kept = body (place frames.newest) (disk.content frames.disk) in
    let is = frames.kept keeps ready in
    record {
      kept = kept;
      held = stands_has frames.newest frames.number frames.closed kept (disk.content frames.disk) (is.stands (disk.content frames.disk) (g.met.D.Disk.content_is_image frames.disk));
      images = λ file there. stands_has frames.newest frames.number frames.closed kept file (is.stands file there);
    }
