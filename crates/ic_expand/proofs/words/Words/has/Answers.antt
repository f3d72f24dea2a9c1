use Rattle.std.proofs.Common.{◌∙◌, List, ℕ, ap, map}
use Rattle.std.specs.Borrow.{Bor}
use Rattle.ic_expand.specs.Names.{is_among}
use Rattle.ic_expand.proofs.Placed.{told_among}
use Rattle.ic_expand.proofs.words.Words.has.Goals as goal

pub returns : goal.returns
returns c =
    c.contains_key.ensures ∙ told_among c.self.inside.places (map (λ (w : Bor (List ℕ)). w.now) c.self.inside.words.items) c.args.word.now c.self.invariant
    ∙ ap (is_among c.args.word.now) c.self.view_is
