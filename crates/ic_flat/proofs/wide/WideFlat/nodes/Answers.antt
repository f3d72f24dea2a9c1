use Rattle.std.proofs.Common.{sym, ◌∙◌}
use Rattle.ic_flat.specs.lemmas.FlatLaws.{nodes-configuration_of}
use Rattle.ic_flat.proofs.wide.WideFlat.nodes.Goals as goal

pub returns-clause-nodes : goal.returns-clause-nodes
returns-clause-nodes c =
    let f = c.self.inside in
    rw (← c.self.view_is) (c.len.ensures ∙ f.words.ok.0 ∙ sym (nodes-configuration_of f.words.items f.terms f.equations f.next c.self.invariant.0.counted))
