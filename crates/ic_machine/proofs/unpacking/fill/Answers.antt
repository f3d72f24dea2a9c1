use Rattle.std.proofs.Common.{◌+◌, ◌-◌, ◌∷◌, [], ◌++◌, ℕ, List, sym, ap, ◌∙◌, arith}
use Rattle.std.proofs.lemmas.List.FromFn.{map-range_with_len_more}
use Rattle.ic_machine.proofs.unpacking.fill.Goals as goal

pub loop-place-preserved : goal.loop-place-preserved
loop-place-preserved c =
    let f : ℕ → ℕ = λ k. c.args.end - (k + 1) in
    let more = map-range_with_len_more f 0 c.loop-place.place c.loop-place.place (omega arith) in
    c.in_ok-push.ensures.items ∙ (ap (λ (l : List ℕ). l ++ f c.loop-place.place ∷ []) c.loop-place.invariant ∙ sym more)
