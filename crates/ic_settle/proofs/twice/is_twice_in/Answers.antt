use Rattle.std.proofs.Common.{ℕ, arith, ltb, ltb-true, ltb-false, rules}
use Rattle.std.proofs.lemmas.List.Sorted.{IsPartitionPoint-from_clause, IsPartitionedBy-ltb}
use Rattle.ic_settle.specs.lemmas.Twice.{twice_at, found_twice, found_none}
use Rattle.ic_settle.proofs.twice.is_twice_in.Goals as goal

pub returns-then-first-names : goal.returns-then-first-names
returns-then-first-names c =
    let names = c.args.names.now in
    let x = c.args.name in
    let i = c.partition_point-first.result in
    let parted = IsPartitionedBy-ltb (λ (n : ℕ). n) names x c.requires in
    let point = IsPartitionPoint-from_clause (λ n. ltb n x) names i c.partition_point-first.ensures.partitioned parted (λ a r q k. search rules) in
    let told = twice_at x names i (λ j k up within. c.requires j k 0 up within)
    (λ k low within. ltb-true _ _ (point.0 k 0 (omega arith) low)) (λ k high within. ltb-false _ _ (point.1 k 0 high within)) in
    found_twice x _ _ (told.0 c.if-first-names.true) (λ unlike. told.1 (λ within at. unlike at))

pub returns-else-first-names : goal.returns-else-first-names
returns-else-first-names c =
    let names = c.args.names.now in
    let x = c.args.name in
    let i = c.partition_point-first.result in
    let parted = IsPartitionedBy-ltb (λ (n : ℕ). n) names x c.requires in
    let point = IsPartitionPoint-from_clause (λ n. ltb n x) names i c.partition_point-first.ensures.partitioned parted (λ a r q k. search rules) in
    let told = twice_at x names i (λ j k up within. c.requires j k 0 up within)
    (λ k low within. ltb-true _ _ (point.0 k 0 (omega arith) low)) (λ k high within. ltb-false _ _ (point.1 k 0 high within)) in
    found_none _ _ _ c.if-first-names.false (told.1 (λ within at. absurd (omega (arith, within, c.if-first-names.false))))
