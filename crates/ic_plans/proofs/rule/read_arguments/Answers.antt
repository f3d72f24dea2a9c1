use Rattle.std.proofs.Common.{◌≡◌, ◌+◌, ◌<◌, ◌++◌, ◌∷◌, [], length, map, take, subst, sym, ap, ◌∙◌, append_assoc, arith}
use Rattle.std.proofs.lemmas.List.{map_more, length-append, length-map, length-take-le}
use Rattle.ic_term.specs.Term.{tree}
use Rattle.ic_meaning.specs.Plans.{arguments_from}
use Rattle.ic_plans.specs.inner.Registers.{AreRegisters}
use Rattle.ic_plans.proofs.RegisterLemmas.{arguments-more, arguments-below}
use Rattle.ic_plans.proofs.rule.read_arguments.Goals as goal

pub loop-i-preserved : goal.loop-i-preserved
loop-i-preserved c = λ count start before from regs.
    let terms = c.args.terms.now in
    let i = c.loop-i.i in
    let t = c.index-terms-i.result in
    let within : i < length terms = omega arith in
    let so_far = before ++ map tree (take i terms) in
    let counted : count + length so_far ≡ c.args.from + i = omega (arith, from, length-append before (map tree (take i terms)), length-map (take i terms) tree, length-take-le i terms (omega arith)) in
    let more = map_more tree terms i t within ∙ ap (λ u. map tree (take i terms) ++ tree u ∷ []) (sym c.index-terms-i.is) in
    let same = ap (arguments_from count) (ap (λ l. before ++ l) more ∙ sym (append_assoc before (map tree (take i terms)) (tree t ∷ [])))
    ∙ arguments-more count so_far (tree t) ∙ ap (λ n. arguments_from count so_far ++ record { register = n; term = tree t } ∷ []) counted in
    let next = c.in_ok-read_argument.ensures (arguments_from count so_far) start
    (arguments-below count so_far (c.args.from + i) (omega (arith, counted))) (c.loop-i.invariant count start before from regs) in
    subst (λ l. AreRegisters l start 0 c.read_argument.new.registers) (sym same) next
