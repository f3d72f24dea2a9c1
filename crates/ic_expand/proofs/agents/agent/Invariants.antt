use Rattle.std.proofs.Common.{◌≡◌, ◌++◌, drop, map}
use Rattle.ic_expand.specs.Generic.{agent_text, listed}
use Rattle.ic_expand.proofs.agents.agent.Given as goal

-- what is written so far and what is left to write is the agent
abbrev pub invariant-loop-arg : goal.invariant-loop-arg
invariant-loop-arg l = l.out.items ++ listed l.sign (map (λ a. a.items) (drop l.arg-index l.args)) ≡ agent_text l.symbol (map (λ a. a.items) l.args)
