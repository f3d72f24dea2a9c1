use Rattle.std.proofs.Common.{◌∙◌, Option, ℕ, sym, ap, is_some}
use Rattle.ic_expand.proofs.AskedLemmas.{is_for_some}
use Rattle.ic_expand.proofs.writing.Sheet.refused_symbol.Goals as goal

pub lacks_rules-requires-clause-known : goal.lacks_rules-requires-clause-known
lacks_rules-requires-clause-known c =
    ap (λ (o : Option ℕ). is_some o) (sym c.arity_in-arity.ensures) ∙ is_for_some c.args.kind c.arity_in-arity.result (sym c.is_for.ensures ∙ c.if-is_for.true)
