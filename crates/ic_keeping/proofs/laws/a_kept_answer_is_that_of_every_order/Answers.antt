use Rattle.std.proofs.Common.{◌∙◌, ℕ, List, ap, length, subst, sym}
use Rattle.ic_in_place.specs.Counting.{AreCounts}
use Rattle.ic_keeping.proofs.Orders.{as_many, counts_moved}
use Rattle.ic_keeping.proofs.laws.a_kept_answer_is_that_of_every_order.Goals as goal

pub returns-clause-net : goal.returns-clause-net
returns-clause-net c = λ s bounds k e kinds is chain still.
    (c.what_is_reached_quiet_is_the_end_of_every_order.ensures.every_order s.rules s.config is.answer e is.way.fired kinds is.sound.rules is.sound.over is.sound.names
    is.way.reached is.ended chain still).0

pub returns-clause-interactions : goal.returns-clause-interactions
returns-clause-interactions c = λ s bounds k e kinds is chain still.
    as_many is.way.fired _
    (c.what_is_reached_quiet_is_the_end_of_every_order.ensures.every_order s.rules s.config is.answer e is.way.fired kinds is.sound.rules is.sound.over is.sound.names
    is.way.reached is.ended chain still).1
    ∙ sym is.way.counted

pub returns-clause-by_rule : goal.returns-clause-by_rule
returns-clause-by_rule c = λ s bounds k e kinds is chain still.
    counts_moved _ is.way.fired _ k.by_rule
    (c.what_is_reached_quiet_is_the_end_of_every_order.ensures.every_order s.rules s.config is.answer e is.way.fired kinds is.sound.rules is.sound.over is.sound.names
    is.way.reached is.ended chain still).1
    is.way.counts

pub returns-clause-chain : goal.returns-clause-chain
returns-clause-chain c = λ s bounds end k is.
    let way = is.way in (
      way.reached.kinds,
      way.reached.end,
      way.reached.chain,
      ap length way.reached.interactions ∙ sym way.counted,
      subst (λ (fired : List ℕ). AreCounts (length s.rules.rules) fired k.by_rule) (sym way.reached.interactions) way.counts,
      way.reached.net,
    )
