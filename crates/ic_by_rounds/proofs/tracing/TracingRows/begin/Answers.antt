use Rattle.std.proofs.Common.{◌∙◌, sym, subst}
use Rattle.ic_by_rounds.specs.inner.Amounts.{AreOrigins}
use Rattle.ic_by_rounds.proofs.Showing.{told_none}
use Rattle.ic_by_rounds.proofs.tracing.TracingRows.begin.Goals as goal

pub returns : goal.returns
returns g c = record {
  none = λ held. told_none c.args.system.now c.args.numbers.now c.args.self.now _ held
      (subst (AreOrigins c.args.system.now c.args.numbers.now) (sym c.in_ok-begin_table.ensures.origins) c.in_ok-origins.ensures) c.in_ok-begin_table.ensures.format c.in_ok-begin_table.ensures.held
      (λ is. c.in_ok-begin_table.ensures.line (sym c.in_ok-begin_table.ensures.format ∙ is));
}
