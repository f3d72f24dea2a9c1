use Rattle.std.proofs.Common.{◌∙◌, ◌++◌, ℕ, List, ap, append-nil, refl, sym}
use Rattle.ic_serving_laws.proofs.laws.a_serving_ends_so.Goals as goal

pub returns-clause-all : goal.returns-clause-all
returns-clause-all g c limit most done ls old new is = sym (is.parted ∙ ap (λ (more : List (List ℕ)). is.front ++ more) is.all ∙ append-nil is.front)

pub returns-clause-served : goal.returns-clause-served
returns-clause-served g c limit most done ls old new is = is.served

pub returns-clause-kept : goal.returns-clause-kept
returns-clause-kept g c limit most done ls old new is before = is.kept before

pub returns-clause-front : goal.returns-clause-front
returns-clause-front g c limit most fault ls old new is = is.parted

pub returns-clause-fault : goal.returns-clause-fault
returns-clause-fault g c limit most fault ls old new other is = is.ended other

pub returns-clause-cut : goal.returns-clause-cut
returns-clause-cut g c limit most ls old new is = is.cut refl

pub returns-clause-kept_at_cut : goal.returns-clause-kept_at_cut
returns-clause-kept_at_cut g c limit most ls old new is before = is.kept_at_cut refl before
