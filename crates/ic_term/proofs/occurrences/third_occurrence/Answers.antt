use Rattle.std.proofs.Common.{◌≡◌, ◌+◌, ◌<◌, ◌==◌, Some, cond, take, get_or, length, unwrap_or, ap, arith, sym, ◌∙◌}
use Rattle.ic_names.specs.Table.{found}
use Rattle.ic_term.specs.Configuration.{occurrences}
use Rattle.ic_term.proofs.ThirdOccurrence.{third_from_more, occurrences_more, counted_more}
use Rattle.ic_term.proofs.occurrences.third_occurrence.Goals as goal

pub loop-name-preserved : goal.loop-name-preserved
loop-name-preserved c =
    let names = c.args.names.now in
    let i = c.loop-name.name-index in
    let name = get_or names i 0 in
    let within : i < length names = omega arith in
    let invariant = c.loop-name.invariant in
    let before : c.unwrap_or-before.result ≡ occurrences name (take i names) = c.unwrap_or-before.ensures ∙ ap (λ o. unwrap_or o 0) c.get.ensures ∙ invariant.0 name in
    let below : occurrences name (take i names) < 2 = omega (arith, before, c.if-before-ge2.false) in (
      (λ q. counted_more q names i within (found c.loop-name.counts q) (found c.set.new.self q) (invariant.0 q)
          (c.in_ok-set.ensures.set q ∙ ap (λ k. cond (name == q) (Some (k + 1)) (found c.loop-name.counts q)) before)),
      (λ q. occurrences_more q names i within below (invariant.1 q)),
      sym (third_from_more names i within below) ∙ invariant.2,
    )
