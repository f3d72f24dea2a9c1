use Rattle.std.proofs.Common.{◌∙◌, sym}
use Rattle.ic_lines.proofs.TakingLemmas.{no_feed, past_feed, seen_ahead}
use Rattle.ic_lines.proofs.buffer.Ahead.pass_line.Goals as goal

pub returns-in-Some : goal.returns-in-Some
returns-in-Some c line rest unfed parted =
    let ahead = seen_ahead c.deref.result.now c.self.inside.bytes.items c.self.inside.start c.deref.ensures.value ∙ c.self.view_is in
    past_feed _ c.args.self.now c.self.inside.bytes.items c.self.inside.start c.in-Some.feed line rest ahead c.self.view_is (sym c.in-Some.is ∙ c.place_of_feed.ensures) unfed parted

pub returns-in-None : goal.returns-in-None
returns-in-None c line rest unfed parted =
    let ahead = seen_ahead c.deref.result.now c.self.inside.bytes.items c.self.inside.start c.deref.ensures.value ∙ c.self.view_is in
    absurd (no_feed _ c.args.self.now line rest c.place_of_feed.result ahead c.place_of_feed.ensures c.in-None.is parted)
