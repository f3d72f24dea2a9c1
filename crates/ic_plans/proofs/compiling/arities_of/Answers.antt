use Rattle.std.proofs.Common.{◌∙◌, ap, sym, ◌++◌, ◌∷◌, []}
use Rattle.ic_plans.proofs.EntryLemmas.{arities_more}
use Rattle.ic_plans.proofs.compiling.arities_of.Goals as goal

pub loop-symbol-preserved : goal.loop-symbol-preserved
loop-symbol-preserved c =
    c.in_ok-push.ensures.items ∙ ap (λ l. l ++ c.arity.result ∷ []) c.loop-symbol.invariant
    ∙ sym (arities_more c.args.symbols.now c.loop-symbol.symbol c.arity.result c.arity.ensures)
