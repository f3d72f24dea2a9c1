use Rattle.std.proofs.Common.{sym}
use Rattle.ic_flat.specs.lemmas.FlatLaws.{length-equations}
use Rattle.ic_flat.proofs.wide.WideFlat.equations_len.Goals as goal

pub returns-clause-equations : goal.returns-clause-equations
returns-clause-equations c =
    let f = c.self.inside in rw (← c.self.view_is) (sym (length-equations f.words.items f.terms f.equations f.next c.self.invariant.0.counted))
