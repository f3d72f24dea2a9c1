use Rattle.std.proofs.Common.{◌*◌, ◌≤◌, ◌++◌, length, drop, append-nil, sym, ap, ◌∙◌, arith}
use Rattle.std.proofs.lemmas.List.{length-drop}
use Rattle.ic_plans.proofs.NetLemmas.{links-left}
use Rattle.ic_plans.proofs.first.links_of_pairs.Goals as goal

pub returns : goal.returns
returns c =
    let os = c.args.operands.now in
    let left = drop (2 * c.loop-i.i) os in
    let few : length left ≤ 1 = omega (arith, length-drop (2 * c.loop-i.i) os) in
    sym (append-nil c.loop-i.links.items) ∙ ap (λ l. c.loop-i.links.items ++ l) (sym (links-left left few)) ∙ c.loop-i.invariant
