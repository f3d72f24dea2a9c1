use Rattle.std.proofs.Common.{sym, ◌∙◌}
use Rattle.ic_nets.proofs.DrawLemmas.{drawn_plain}
use Rattle.ic_nets.proofs.stream.graph_of.Goals as goal

pub returns-in-Ok-build-clause-read : goal.returns-in-Ok-build-clause-read
returns-in-Ok-build-clause-read c =
    drawn_plain c.args.text.now c.in-Ok-find_config.found.0 c.in-Ok-find_config.found.1 c.in_ok-draw-in-Ok-build.field-0.items
    (sym c.has_rules.ensures ∙ c.if-has_rules.false) c.in-Ok-find_config.ensures.read
