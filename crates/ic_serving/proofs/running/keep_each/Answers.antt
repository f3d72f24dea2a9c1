use Rattle.std.proofs.Common.{inl, inr, refl}
use Rattle.ic_serving.specs.Moments.{IsKeptOrNow}
use Rattle.ic_book.specs.lemmas.Chains.{by_nothing}
use Rattle.ic_serving.specs.lemmas.Leaving.{leaves_nothing}
use Rattle.ic_serving.proofs.running.keep_each.Goals as goal

pub returns-clause-crash : goal.returns-clause-crash
returns-clause-crash g c = leaves_nothing c.args.book.now (IsKeptOrNow c.args.book.now) (g.met.D.Disk.left_is_image _) c.facts.ensures.either
    c.facts.ensures.history.replayed (by_nothing c.args.book.now c.facts.ensures.step) (inl refl) (inr refl)
