use Rattle.std.proofs.Common.{◌≡◌, List, ◌∷◌, take, inl, inr, ap, subst, [], ◌∙◌, ℕ, ap₂, arith, sym}
use Rattle.std.specs.List.{list_all}
use Rattle.std.proofs.lemmas.List.Sums.{prefix_len-le-length}
use Rattle.ic_expand.specs.Pieces.{first_byte, joins, pieces}
use Rattle.ic_expand.proofs.Cutting.{cut_some, lone_piece, run_piece}
use Rattle.ic_expand.proofs.pieces.split_piece.Goals as goal

pub split_at-requires-else-run-eq0 : goal.split_at-requires-else-run-eq0
split_at-requires-else-run-eq0 c = omega (arith, c.run_len-run.ensures, prefix_len-le-length joins c.args.text.now)

pub returns-else-run-eq0-clause-pieces : goal.returns-else-run-eq0-clause-pieces
returns-else-run-eq0-clause-pieces c =
    cut_some c.args.text.now c.run_len-run.result c.run_len-run.ensures c.if-run-eq0.false
    ∙ ap₂ (λ (front back : List ℕ). front ∷ pieces back) (sym c.split_at-else-run-eq0.ensures.front) (sym c.split_at-else-run-eq0.ensures.back)

pub returns-then-run-eq0-clause-sort : goal.returns-then-run-eq0-clause-sort
returns-then-run-eq0-clause-sort c =
    inl (subst (λ (p : List ℕ). p ≡ first_byte p ∷ []) (sym c.split_at.ensures.front) (lone_piece c.args.text.now c.requires))

pub returns-else-run-eq0-clause-sort : goal.returns-else-run-eq0-clause-sort
returns-else-run-eq0-clause-sort c =
    inr (ap (list_all joins) (c.split_at-else-run-eq0.ensures.front ∙ ap (λ (n : ℕ). take n c.args.text.now) c.run_len-run.ensures) ∙ run_piece c.args.text.now)
