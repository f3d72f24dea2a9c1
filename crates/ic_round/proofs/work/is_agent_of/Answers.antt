use Rattle.std.proofs.Common.{◌≡◌, ◌==◌, true, length, sym, ap, ◌∙◌, arith}
use Rattle.std.specs.Cmp.{unsigned_Decides}
use Rattle.ic_round.proofs.WorkLemmas.{is_agent_of-cell}
use Rattle.ic_round.proofs.work.is_agent_of.Goals as goal

pub returns-then-cell-sym : goal.returns-then-cell-sym
returns-then-cell-sym c =
    let holds : (c.args.cell.now.sym == c.args.sym) ≡ true = (unsigned_Decides _ _).1 c.if-cell-sym.true in
    let whole = is_agent_of-cell c.args.sym c.args.arity c.args.cell.now in
    let same : c.len.result ≡ length c.args.cell.now.args.items = omega arith in
    sym (whole ∙ rw holds (ap (λ n. n == c.args.arity) (sym same)))
