use Rattle.std.proofs.Common.{◌≡◌, ◌+◌, get_or, min, unwrap_or, ap, subst, ◌∙◌, arith}
use Rattle.std.proofs.lemmas.List.{take_all}
use Rattle.ic_check.specs.inner.Tallies.{IsTally, tallied}
use Rattle.ic_check.proofs.Tallying.{tally_more}
use Rattle.ic_check.proofs.names.tally.Goals as goal

pub loop-name-init : goal.loop-name-init
loop-name-init c = record { counts = λ x. ap (λ o. unwrap_or o 0) (c.in_ok-counts.ensures x) }

pub loop-name-preserved : goal.loop-name-preserved
loop-name-preserved c =
    let names = c.args.names.now in
    let i = c.loop-name.name-index in
    let was : c.unwrap_or-before.result ≡ tallied c.loop-name.counts (get_or names i 0) = c.unwrap_or-before.ensures ∙ ap (λ o. unwrap_or o 0) c.get.ensures in
    let number : c.min.result + 1 ≡ min (tallied c.loop-name.counts (get_or names i 0)) 1 + 1 = omega (arith, c.min.ensures, was) in
    record {
      counts = tally_more names i (c.min.result + 1) c.loop-name.counts c.set.new.self (omega arith) number c.in_ok-set.ensures.set c.loop-name.invariant.counts;
    }

pub returns : goal.returns
returns c = subst (λ names. IsTally names c.loop-name.counts) (take_all c.loop-name.name-index c.args.names.now c.loop-name-test.false) c.loop-name.invariant.counts
