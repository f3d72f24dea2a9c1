use Rattle.std.proofs.Common.{◌≡◌, take, filter, not}
use Rattle.ic_meaning.specs.First.{joins_agents}
use Rattle.ic_plans.proofs.generation.agents_first.Given as goal

-- of the links so far, those of two agents and the others
abbrev pub invariant-loop-link : goal.invariant-loop-link
invariant-loop-link l = record {
  pairs : l.pairs.items ≡ filter (joins_agents l.constants l.made) (take l.link-index l.links);
  others : l.others.items ≡ filter (λ k. not (joins_agents l.constants l.made k)) (take l.link-index l.links);
}
