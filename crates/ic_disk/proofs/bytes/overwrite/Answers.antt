use Rattle.ic_disk.proofs.ContentLemmas.{put_mid-laid}
use Rattle.ic_disk.proofs.bytes.overwrite.Goals as goal

pub returns : goal.returns
returns c = rw c.copy_from_slice.ensures.after (put_mid-laid c.args.at c.args.bytes.now c.args.content.now c.requires)
