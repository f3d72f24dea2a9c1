use Rattle.std.proofs.Common.{rules, ◌≡◌, ◌≤◌, ◌<◌, ◌-◌, ◌++◌, [], length, take, sym, ap, ◌∙◌, is_none, true, false, arith}
use Rattle.std.proofs.lemmas.List.{take_all}
use Rattle.ic_lines.proofs.TakingLemmas.{long_front, moved_front, seen_ahead, cuts_of, none_left, some_left, drop_all_after, fed_after}
use Rattle.ic_lines.proofs.buffer.Ahead.move_line.Goals as goal

pub returns-then-count-room-clause-long : goal.returns-then-count-room-clause-long
returns-then-count-room-clause-long c = λ is.
    let ahead = seen_ahead c.deref.result.now c.self.inside.bytes.items c.self.inside.start c.deref.ensures.value ∙ c.self.view_is in
    let cuts = cuts_of _ c.args.self.now c.place_of_feed-feed.result c.unwrap_or-count.result ahead c.place_of_feed-feed.ensures c.unwrap_or-count.ensures in
    let long : 262144 - length c.args.line.now.items < c.unwrap_or-count.result = omega arith in
    long_front c.args.line.now.items c.args.self.now c.unwrap_or-count.result c.requires cuts long

pub returns-then-is_none-clause-moved : goal.returns-then-is_none-clause-moved
returns-then-is_none-clause-moved c =
    let ahead = seen_ahead c.deref.result.now c.self.inside.bytes.items c.self.inside.start c.deref.ensures.value ∙ c.self.view_is in
    let cuts = cuts_of _ c.args.self.now c.place_of_feed-feed.result c.unwrap_or-count.result ahead c.place_of_feed-feed.ensures c.unwrap_or-count.ensures in
    let fits : c.unwrap_or-count.result ≤ 262144 - length c.args.line.now.items = omega arith in
    let front = moved_front c.args.line.now.items c.args.self.now c.unwrap_or-count.result c.requires cuts fits in
    let none : is_none c.place_of_feed-feed.result ≡ true = search rules in
    let all : length c.args.self.now ≤ c.unwrap_or-count.result = none_left _ c.args.self.now c.place_of_feed-feed.result c.unwrap_or-count.result 0 [] ahead c.place_of_feed-feed.ensures c.unwrap_or-count.ensures none in
    let whole : take c.unwrap_or-count.result c.args.self.now ≡ c.args.self.now = take_all _ _ all in
    let items : c.extend_from_slice.new.self.items ≡ c.args.line.now.items ++ take c.unwrap_or-count.result c.args.self.now = rw (← ahead) c.in_ok-extend_from_slice.ensures.items in
    (rw items front, drop_all_after _ _ _ c.self.view_is all, ap (λ xs. c.args.line.now.items ++ xs) (sym whole) ∙ sym items)

pub returns-clause-moved : goal.returns-clause-moved
returns-clause-moved c =
    let ahead = seen_ahead c.deref.result.now c.self.inside.bytes.items c.self.inside.start c.deref.ensures.value ∙ c.self.view_is in
    let cuts = cuts_of _ c.args.self.now c.place_of_feed-feed.result c.unwrap_or-count.result ahead c.place_of_feed-feed.ensures c.unwrap_or-count.ensures in
    let fits : c.unwrap_or-count.result ≤ 262144 - length c.args.line.now.items = omega arith in
    let front = moved_front c.args.line.now.items c.args.self.now c.unwrap_or-count.result c.requires cuts fits in
    let some : is_none c.place_of_feed-feed.result ≡ false = search rules in
    let less : c.unwrap_or-count.result < length c.args.self.now = some_left _ c.args.self.now c.place_of_feed-feed.result c.unwrap_or-count.result ahead c.place_of_feed-feed.ensures c.unwrap_or-count.ensures some in
    let items : c.extend_from_slice.new.self.items ≡ c.args.line.now.items ++ take c.unwrap_or-count.result c.args.self.now = rw (← ahead) c.in_ok-extend_from_slice.ensures.items in
    (rw items front, fed_after _ _ _ _ _ _ cuts less c.self.view_is items)
