use Rattle.std.proofs.Common.{◌≡◌, ◌<◌, length, take, get_or, refl, sym, ap, ◌∙◌, arith}
use Rattle.std.proofs.Math.Seq.{take-length}
use Rattle.std.specs.List.{range_with_len}
use Rattle.std.proofs.lemmas.List.FromFn.{length-range_with_len}
use Rattle.ic_rules.specs.Renaming.{first_occurrences}
use Rattle.ic_rules.proofs.CountedUp.{counted_again, counted_next, passed_over}
use Rattle.ic_rules.proofs.renaming.are_counted_up.Goals as goal
use Rattle.ic_rules.proofs.renaming.are_counted_up.Goals.{then-name-next-2, else-name-next-2}

pub returns-then-name-next : goal.returns-then-name-next
returns-then-name-next c =
    let names = c.args.names.now in
    let i = c.loop-name.name-index in
    let within : i < length names = omega arith in
    let past : c.loop-name.next < get_or names i 0 = omega arith in (
      (λ e. cc),
      (λ in_order. absurd (passed_over names i c.loop-name.next (length (first_occurrences names)) within c.loop-name.invariant.0 past in_order)),
    )

pub loop-name-preserved : goal.loop-name-preserved
loop-name-preserved c =
    let names = c.args.names.now in
    let i = c.loop-name.name-index in
    let within : i < length names = omega arith in
    elim c.if-name-next-2.branch [
      | then-name-next-2 w ↦
          let here : get_or names i 0 ≡ c.loop-name.next = omega arith in
          rw w.next-is (counted_next names i c.loop-name.next within c.loop-name.invariant.0 here, omega arith)
      | else-name-next-2 w ↦
          let below : get_or names i 0 < c.loop-name.next = omega arith in
          rw w.next-is (counted_again names i c.loop-name.next within c.loop-name.invariant.0 below, omega arith)
    ]

pub returns : goal.returns
returns c =
    let names = c.args.names.now in
    let all : c.loop-name.name-index ≡ length names = omega arith in
    let whole : first_occurrences names ≡ range_with_len 0 c.loop-name.next =
    ap first_occurrences (sym (take-length names)) ∙ ap (λ n. first_occurrences (take n names)) (sym all) ∙ c.loop-name.invariant.0 in
    let count : length (first_occurrences names) ≡ c.loop-name.next = ap length whole ∙ length-range_with_len 0 c.loop-name.next in
    ((λ _. whole ∙ ap (range_with_len 0) (sym count)), (λ _. refl))
