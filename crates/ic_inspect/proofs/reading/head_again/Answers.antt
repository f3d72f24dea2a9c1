use Rattle.std.proofs.Common.{sym, ◌∙◌}
use Rattle.std.specs.Cmp.Lexicographic.{bytes_decides}
use Rattle.std.proofs.lemmas.Bool.{false≢true}
use Rattle.ic_inspect.proofs.ReadLemmas.{differing, same_head}
use Rattle.ic_inspect.proofs.reading.head_again.Goals as goal

-- the later head is what the reader has, and the same as that of the slot
pub returns-then-same-clause-same : goal.returns-then-same-clause-same
returns-then-same-clause-same g c =
    let equal = (bytes_decides c.head_of.result.now c.as_slice.result.now).0 (sym c.are_same-same.ensures ∙ c.if-same.true) in
    same_head c.args.slot.now c.in_ok-later.later.items (g.R.Read.remaining c.args.again.now) c.in_ok-later.ensures.front
    (sym c.head_of.ensures ∙ equal ∙ c.as_slice.ensures.value)

pub returns-clause-changed : goal.returns-clause-changed
returns-clause-changed g c = λ is.
    differing c.args.slot.now c.in_ok-later.later.items (g.R.Read.remaining c.args.again.now) c.in_ok-later.ensures.front
    (λ e. false≢true (sym c.if-same.false ∙ c.are_same-same.ensures
    ∙ (bytes_decides c.head_of.result.now c.as_slice.result.now).1 (c.head_of.ensures ∙ e ∙ sym c.as_slice.ensures.value)))
