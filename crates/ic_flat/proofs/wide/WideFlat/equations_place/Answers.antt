use Rattle.ic_flat.specs.lemmas.FlatLaws.{interface-configuration_of}
use Rattle.ic_flat.proofs.wide.WideFlat.equations_place.Goals as goal

pub returns-clause-place : goal.returns-clause-place
returns-clause-place c =
    let f = c.self.inside in
    rw (← c.self.view_is)
    (interface-configuration_of f.words.items f.terms f.equations f.next c.self.invariant.0.counted f.place c.self.invariant.0.whole c.self.invariant.1)
