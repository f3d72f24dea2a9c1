use Rattle.std.proofs.Common.{◌∙◌, ◌<◌, Ok, List, sym, subst}
use Rattle.ic_arena.specs.declared.word.Word.{Word}
use Rattle.ic_workers.specs.inner.Keeping.{ShipsOut, TakesIn}
use Rattle.ic_workers.proofs.Desks.{comes_same}
use Rattle.ic_workers.proofs.Sends.{desk_hands_over, shipped_on}
use Rattle.ic_workers.proofs.desk.Desk.hand_over.Goals as goal

pub send-requires : goal.send-requires
send-requires c =
    let did = c.in_ok-shipped.was ∙ (λ i. Ok (c.if-not-shipped.false i)) in
    record {
      desk = (c.requires.desk.0, (c.ship.ensures.shipped did c.requires.desk.0 c.requires.desk.1).1);
      there = subst (λ n. c.args.to < n) (sym c.ship.ensures.len) c.requires.to;
    }

pub returns-clause-come : goal.returns-clause-come
returns-clause-come c = λ p desk.
    let words : List Word = c.ship.new.parcel.words.items in
    let shipped = c.ship.ensures.shipped (c.in_ok-shipped.was ∙ (λ i. Ok (c.if-not-shipped.false i))) p desk in
    let there = c.in_ok-send.ensures.sent p shipped.1 in (
      desk_hands_over p c.args.from c.args.to (ShipsOut p.arities c.args.cut words) (TakesIn words) c.args.self.now c.ship.new.self c.send.new.self
          c.requires.two desk shipped.0 there.0 (shipped_on c.what_a_part_sends_stays_one_net.ensures.shipped p c.args.cut words),
      there.1,
    )

-- where nothing waits, nothing changes
pub returns-then-not-shipped-clause-come : goal.returns-then-not-shipped-clause-come
returns-then-not-shipped-clause-come c =
    comes_same c.args.self.now c.ship.new.self (c.ship.ensures.none (c.in_ok-shipped.was ∙ (λ i. Ok (c.if-not-shipped.true i)))) c.ship.ensures.made
