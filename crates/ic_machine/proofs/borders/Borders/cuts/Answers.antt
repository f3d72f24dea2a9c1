use Rattle.std.proofs.Common.{◌++◌, ◌∷◌, [], ℕ, List, map, ap, sym, ◌∙◌, append_assoc}
use Rattle.std.proofs.lemmas.List.{append-nil}
use Rattle.ic_machine.specs.Moving.{CutEnd, Ends}
use Rattle.ic_machine.proofs.Ends.{keys_cuts}
use Rattle.ic_machine.proofs.borders.Borders.cuts.Goals as goal

pub loop-cut-init : goal.loop-cut-init
loop-cut-init c =
    ap (λ (l : List ℕ). l ++ c.into_iter-cut-iterator.result) c.new-cuts.ensures.items
    ∙ (c.into_iter-cut-iterator.ensures.into_iter_gives ∙ (c.keys-cut-items.ensures.rest ∙ (keys_cuts c.self.inside.by_cut.entries
    ∙ ap (λ (x : Ends). map (λ (e : CutEnd). e.cut) x.ends) c.self.view_is)))

pub loop-cut-preserved : goal.loop-cut-preserved
loop-cut-preserved c =
    ap (λ (l : List ℕ). l ++ c.next.new.self) c.in_ok-push.ensures.items
    ∙ (append_assoc c.loop-cut.cuts.items (c.in-Some.cut.now ∷ []) c.next.new.self
    ∙ (ap (λ (l : List ℕ). c.loop-cut.cuts.items ++ l) (sym c.in-Some.ensures.steps) ∙ c.loop-cut.invariant))

pub returns : goal.returns
returns c =
    sym (append-nil c.loop-cut.cuts.items)
    ∙ (ap (λ (l : List ℕ). c.loop-cut.cuts.items ++ l) (sym c.in-None.ensures.steps.0) ∙ c.loop-cut.invariant)
