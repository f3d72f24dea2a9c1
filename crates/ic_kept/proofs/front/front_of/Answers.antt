use Rattle.std.proofs.Common.{◌∙◌, ℕ, List, take, ap}
use Rattle.ic_kept.proofs.SheetLemmas.{number_read, size_read}
use Rattle.ic_kept.proofs.front.front_of.Goals as goal

pub returns-clause-number : goal.returns-clause-number
returns-clause-number c = number_read c.args.bytes.now c.split_at-3.result.0.now c.number_in.result
    (c.split_at-3.ensures.front ∙ ap (λ (l : List ℕ). take 8 l) c.split_at.ensures.back) c.number_in.ensures

pub returns-clause-size : goal.returns-clause-size
returns-clause-size c = size_read c.args.bytes.now c.split_at-4.result.0.now c.number_in-2.result
    (c.split_at-4.ensures.front ∙ ap (λ (l : List ℕ). take 8 l) c.split_at-2.ensures.back) c.number_in-2.ensures
