use Rattle.std.proofs.Common.{◌∷◌, ◌++◌, [], map, reverse, drop, length, ap, ◌∙◌, ◌-◌, arith}
use Rattle.std.proofs.lemmas.List.{map-append, take_all, take_at, length-drop}
use Rattle.ic_machine.specs.Plan.{made_of}
use Rattle.ic_plans.proofs.StackLemmas.{take-reverse, drop-reverse}
use Rattle.ic_plans.proofs.flattening.make_agent.Goals as goal

pub returns-clause-made : goal.returns-clause-made
returns-clause-made c =
    let old = c.args.operands.now.items in
    let rest = c.len.result - c.args.arity in
    let top = drop rest c.deref.result.now in
    let turned = c.reverse.new.self in
    let taken = c.in_ok-taken.taken.items in
    let same = c.deref_mut.ensures.value in
    ap (map made_of) c.in_ok-push.ensures.items
    ∙ map-append made_of c.args.makes.now.items _
    ∙ ap (λ l. map made_of c.args.makes.now.items ++ record { symbol = c.args.symbol; operands = l } ∷ [])
    (take_at turned (drop (length turned) taken) (length taken) (c.reverse.ensures.len ∙ ap length same)
    ∙ c.reverse.ensures.after
    ∙ ap reverse (same ∙ c.in_ok-taken.ensures.ok ∙ take_all _ top (omega (arith, length-drop rest c.deref.result.now))
    ∙ ap (drop rest) c.deref.ensures.value)
    ∙ take-reverse old rest c.args.arity (omega (arith, c.requires, c.len.ensures)))

pub returns-clause-left : goal.returns-clause-left
returns-clause-left c = ap reverse c.truncate.ensures.items ∙ drop-reverse c.args.operands.now.items _ c.args.arity (omega (arith, c.requires, c.len.ensures))
