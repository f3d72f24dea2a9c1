use Rattle.std.proofs.Common.{◌≡◌, ◌+◌, ◌<◌, ◌≤◌, not, filter, get_or, length, sym, ap, ◌∙◌, arith}
use Rattle.std.specs.List.{range_with_len}
use Rattle.ic_naming.specs.Naming.{is_kept}
use Rattle.ic_rules.specs.lemmas.Spared.{one_taken, one_spare}
use Rattle.ic_naming.proofs.Numberings.{kept_so}
use Rattle.ic_naming.proofs.Spares.{spare_front}
use Rattle.ic_naming.proofs.numbering.spare_numbers.Goals as goal
use Rattle.ic_naming.proofs.numbering.spare_numbers.Goals.{then-not-is_kept+in_ok-push, else-not-is_kept}

pub returns-then-len-firsts : goal.returns-then-len-firsts
returns-then-len-firsts c =
    let names = c.args.names.now in
    let spare = c.loop-number.spare.items in
    let within : c.loop-number.number ≤ length names + length names = omega (arith, c.loop-number-test.true) in
    let long : c.args.listed.now.firsts < length spare = omega (arith, c.len.ensures) in
    spare_front names spare c.loop-number.number c.args.listed.now.firsts within c.loop-number.invariant long

pub returns : goal.returns
returns c = λ k low.
    let names = c.args.names.now in
    let last : c.loop-number.number ≡ length names + length names = omega (arith, c.loop-number-test.false, c.loop-number.auto.number-end) in
    ap (λ l. get_or l k 0) (c.loop-number.invariant ∙ ap (λ m. filter (λ n. not (is_kept names n)) (range_with_len 0 m)) last)

pub loop-number-preserved : goal.loop-number-preserved
loop-number-preserved c =
    let names = c.args.names.now in
    let k = c.loop-number.number in
    let so_far = c.loop-number.spare.items in
    let known : c.is_kept.result ≡ is_kept names k = c.is_kept.ensures ∙ kept_so names c.args.listed.now c.requires k in
    elim c.if-not-is_kept.branch [
      | then-not-is_kept+in_ok-push w ↦ rw (w.spare-is, w.in_ok-push.ensures.items) (one_spare (is_kept names) k so_far c.loop-number.invariant (sym known ∙ w.if-not-is_kept.true))
      | else-not-is_kept w ↦ rw w.spare-is (one_taken (is_kept names) k so_far c.loop-number.invariant (sym known ∙ w.if-not-is_kept.false))
    ]
