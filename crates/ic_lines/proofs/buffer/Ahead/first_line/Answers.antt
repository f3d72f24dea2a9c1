use Rattle.std.proofs.Common.{◌∙◌, sym}
use Rattle.ic_lines.proofs.TakingLemmas.{fed_at, seen_ahead}
use Rattle.ic_lines.proofs.buffer.Ahead.first_line.Goals as goal

pub returns-in-Some : goal.returns-in-Some
returns-in-Some c =
    let ahead = seen_ahead c.deref.result.now c.self.inside.bytes.items c.self.inside.start c.deref.ensures.value ∙ c.self.view_is in
    fed_at _ c.args.self.now c.in-Some.feed ahead (sym c.in-Some.is ∙ c.place_of_feed.ensures)
