use Rattle.std.proofs.lemmas.List.Sorted.{IsPermutation-refl}
use Rattle.ic_workers.specs.inner.HandsOn.{stayed}
use Rattle.ic_workers.specs.inner.Keeping.{parts_at}
use Rattle.ic_workers.proofs.desk.Desk.spare.Goals as goal

pub returns-then-not-has_work-clause-come : goal.returns-then-not-has_work-clause-come
returns-then-not-has_work-clause-come c =
    stayed (parts_at c.args.self.now) (parts_at c.args.self.now) (IsPermutation-refl (parts_at c.args.self.now))

pub returns-then-number-ge-MOST_PARTS-clause-come : goal.returns-then-number-ge-MOST_PARTS-clause-come
returns-then-number-ge-MOST_PARTS-clause-come c =
    stayed (parts_at c.args.self.now) (parts_at c.args.self.now) (IsPermutation-refl (parts_at c.args.self.now))
