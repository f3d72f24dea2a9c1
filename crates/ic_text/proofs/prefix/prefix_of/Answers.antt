use Rattle.std.proofs.Common.{ap, ◌∙◌}
use Rattle.ic_text.specs.inner.Prefix.{head_words}
use Rattle.ic_text.proofs.prefix.prefix_of.Goals as goal

pub returns-clause-nodes : goal.returns-clause-nodes
returns-clause-nodes c = λ p spelled. c.in_ok-nodes.ensures ∙ ap (head_words c.args.text.now) c.deref.ensures.value ∙ c.in_ok-outline.ensures.nodes p spelled

pub returns-clause-rules : goal.returns-clause-rules
returns-clause-rules c = λ rs spelled. c.in_ok-nodes.ensures ∙ ap (head_words c.args.text.now) c.deref.ensures.value ∙ c.in_ok-outline.ensures.rules rs spelled
