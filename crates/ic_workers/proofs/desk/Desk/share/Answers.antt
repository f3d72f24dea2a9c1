use Rattle.std.proofs.Common.{◌<◌, List, sym, subst}
use Rattle.ic_arena.specs.declared.word.Word.{Word}
use Rattle.ic_workers.specs.inner.Keeping.{GivesOut, TakesIn}
use Rattle.ic_workers.proofs.Lists.{ok_then}
use Rattle.ic_workers.proofs.Sends.{desk_hands_over, given_on}
use Rattle.ic_workers.proofs.desk.Desk.share.Goals as goal

pub send-requires : goal.send-requires
send-requires c = record {
  desk = (c.requires.desk.0, (c.in_ok-give.ensures.given c.requires.desk.0 c.requires.desk.1).1);
  there = subst (λ n. c.args.to < n) (sym c.give.ensures.len) c.requires.to;
}

pub returns-clause-come : goal.returns-clause-come
returns-clause-come c = ok_then c.send.result (λ sent. λ p desk.
    let words : List Word = c.give.new.parcel.words.items in
    let given = c.in_ok-give.ensures.given p desk in
    let there = sent p given.1 in (
      desk_hands_over p c.args.from c.args.to (GivesOut p.arities words) (TakesIn words) c.args.self.now c.give.new.self c.send.new.self c.requires.two desk
          given.0 there.0 (given_on c.what_a_part_sends_stays_one_net.ensures.given p words),
      there.1,
    )) c.send.ensures.sent
