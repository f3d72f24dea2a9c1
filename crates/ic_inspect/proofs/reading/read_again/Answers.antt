use Rattle.std.proofs.Common.{inl, inr}
use Rattle.std.proofs.lemmas.Result.{err_from_is_err_and}
use Rattle.ic_inspect.proofs.ReadLemmas.{head_moved, one_moved, other_moved}
use Rattle.ic_inspect.proofs.reading.read_again.Goals as goal

pub returns-in_err-head_again-clause-changed : goal.returns-in_err-head_again-clause-changed
returns-in_err-head_again-clause-changed g c =
    let e = err_from_is_err_and c.from_residual.result c.from_residual.ensures.1 in
    rw (e.1, e.2) (λ same. inl (other_moved c.deref.result.now c.args.slots.now.first.items (g.R.Read.remaining c.args.first.now) c.deref.ensures.value
    (c.in_err-head_again.ensures.changed same)))

pub returns-in_err-head_again-2-clause-changed : goal.returns-in_err-head_again-2-clause-changed
returns-in_err-head_again-2-clause-changed g c =
    let e = err_from_is_err_and c.from_residual-in_err-head_again-2.result c.from_residual-in_err-head_again-2.ensures.1 in
    rw (e.1, e.2) (λ same. inr (inl (other_moved c.deref-2.result.now c.args.slots.now.second.items (g.S.Read.remaining c.args.second.now) c.deref-2.ensures.value
    (c.in_err-head_again-2.ensures.changed same))))

pub returns-then-is_one_file-clause-first : goal.returns-then-is_one_file-clause-first
returns-then-is_one_file-clause-first g c =
    head_moved c.deref.result.now c.args.slots.now.first.items (g.R.Read.remaining c.args.first.now) c.deref.ensures.value c.in_ok-head_again.ensures.same

pub returns-then-is_one_file-clause-second : goal.returns-then-is_one_file-clause-second
returns-then-is_one_file-clause-second g c =
    head_moved c.deref-2.result.now c.args.slots.now.second.items (g.S.Read.remaining c.args.second.now) c.deref-2.ensures.value c.in_ok-head_again-2.ensures.same

pub returns-then-is_one_file-clause-one_file : goal.returns-then-is_one_file-clause-one_file
returns-then-is_one_file-clause-one_file g c =
    one_moved _ _ _ _ _ _ c.deref-3.ensures.value c.deref-4.ensures.value c.is_one_file.ensures c.if-is_one_file.true

pub returns-clause-changed : goal.returns-clause-changed
returns-clause-changed g c = λ same.
    inr (inr (one_moved _ _ _ _ _ _ c.deref-3.ensures.value c.deref-4.ensures.value c.is_one_file.ensures c.if-is_one_file.false))
