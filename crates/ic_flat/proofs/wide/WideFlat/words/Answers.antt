use Rattle.std.proofs.Common.{sym, ◌∙◌}
use Rattle.ic_flat.specs.lemmas.FlatLaws.{words-configuration_of}
use Rattle.ic_flat.proofs.wide.WideFlat.words.Goals as goal

pub returns-clause-words : goal.returns-clause-words
returns-clause-words c =
    let f = c.self.inside in
    rw (← c.self.view_is)
    (c.as_slice.ensures.value ∙ sym (words-configuration_of f.words.items f.terms f.equations f.next c.self.invariant.0.counted c.self.invariant.0.whole))
