use Rattle.std.proofs.Common.{refl, replicate}
use Rattle.std.proofs.lemmas.List.{length-replicate}
use Rattle.ic_expand.specs.Generic.{copies, names_from}
use Rattle.ic_expand.proofs.GenericLemmas.{copies_are, erased_is, length-copies, length-names_from, replicate_are}
use Rattle.ic_expand.proofs.laws.generic_rules_keep_arities.Goals as goal

pub returns-clause-copied : goal.returns-clause-copied
returns-clause-copied c = λ s t.
    (names_from 0 t.arity, names_from 26 t.arity, copies s t.arity, length-names_from 0 t.arity, length-names_from 26 t.arity, length-copies s t.arity, copies_are s t.arity, refl)

pub returns-clause-annihilated : goal.returns-clause-annihilated
returns-clause-annihilated c = λ s. refl

pub returns-clause-erased : goal.returns-clause-erased
returns-clause-erased c = λ s t. (replicate t.arity s, length-replicate t.arity s, replicate_are s t.arity, erased_is s t)
