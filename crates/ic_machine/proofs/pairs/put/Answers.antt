use Rattle.std.proofs.Common.{◌≡◌, ℕ, ◌<◌, ◌==◌, Some, cond, ap, ◌∙◌, arith}
use Rattle.std.specs.Ordering.{nat_cmp, is_eq}
use Rattle.std.specs.BTreeMap.{get}
use Rattle.std.proofs.lemmas.Bool.Decides.{nat_tests}
use Rattle.ic_machine.proofs.PairIndexLemmas.{put_row, put_key}
use Rattle.ic_machine.proofs.pairs.put.Goals as goal
use Rattle.ic_machine.proofs.pairs.put.Goals.{else-row-rows-via-then-row-rows+else-column-rows, else-row-rows-via-else-row-rows}

-- a map's test of a key is equality
is_same : (m n : ℕ) → is_eq (nat_cmp m n) ≡ (m == n)
is_same m n = grind (arith, nat_tests)

pub returns-then-column-rows-clause-put : goal.returns-then-column-rows-clause-put
returns-then-column-rows-clause-put c =
    put_row c.args.rows c.args.entries.now.items c.args.others.now c.args.a c.args.b c.args.number c.requires
    (omega (arith, c.if-row-rows.true)) (omega (arith, c.if-column-rows.true))

pub returns-clause-put : goal.returns-clause-put
returns-clause-put c =
    let high : c.args.a < c.args.rows → c.args.b < c.args.rows → ⊥ =
    elim c.else-row-rows.branch [
      | else-row-rows-via-then-row-rows+else-column-rows w ↦ λ la lb. omega (arith, w.if-column-rows.false, lb)
      | else-row-rows-via-else-row-rows w ↦ λ la lb. omega (arith, w.if-row-rows.false, la)
    ] in
    put_key c.args.rows c.args.entries.now.items c.args.others.now c.args.a c.args.b c.args.number c.insert.new.self high (omega (arith, c.ranges.b.fits))
    (λ k. c.in_ok-insert.ensures.updates.0 k
    ∙ ap (λ b. cond b (Some c.args.number) (get nat_cmp c.args.others.now k)) (is_same c.key_of.result k)
    ∙ ap (λ m. cond (m == k) (Some c.args.number) (get nat_cmp c.args.others.now k)) c.key_of.ensures)
