use Rattle.std.proofs.Common.{◌+◌, ◌<◌, ◌++◌, ◌∷◌, Bool, length, map, drop, get_or, sym, ap, ◌∙◌, append_assoc, arith}
use Rattle.std.proofs.lemmas.List.{drop_more}
use Rattle.ic_term.specs.Term.{tree}
use Rattle.ic_meaning.specs.Plans.{arguments_from}
use Rattle.ic_plans.specs.inner.Registers.{links_of, register_of}
use Rattle.ic_plans.proofs.LinkLemmas.{link-step}
use Rattle.ic_plans.proofs.rule.link_arguments.Goals as goal
use Rattle.ic_plans.proofs.rule.link_arguments.Goals.{then-not-is_read+in_ok-push, else-not-is_read}

pub loop-i-preserved : goal.loop-i-preserved
loop-i-preserved c =
    let terms = c.args.terms.now in
    let operands = c.args.operands.now in
    let i = c.loop-i.i in
    let t = c.index-terms-i.result in
    let o = get_or operands i 0 in
    let within : i < length terms = omega arith in
    let inside : i < length operands = omega (arith, c.requires.counted) in
    let registers = register_of c.args.registers.now in
    let old = c.loop-i.links.items in
    let us = map tree (drop (i + 1) terms) in
    let os = drop (i + 1) operands in
    let rest = links_of registers (arguments_from (c.args.from + (i + 1)) us) os in
    let first = ap (map tree) (drop_more terms i t within) ∙ ap (λ u. tree u ∷ us) (sym c.index-terms-i.is) in
    let operand = drop_more operands i 0 inside in
    let step = λ (b : Bool). link-step registers c.args.from i (map tree (drop i terms)) us (drop i operands) os (tree t) o b first operand in
    elim c.if-not-is_read.branch [
      | then-not-is_read+in_ok-push w ↦
          rw w.links-is (ap (λ l. l ++ rest) w.in_ok-push.ensures.items ∙ append_assoc old _ rest
          ∙ ap (λ l. old ++ l) (sym (step _ (sym c.is_read.ensures ∙ w.if-not-is_read.true))) ∙ c.loop-i.invariant)
      | else-not-is_read w ↦
          rw w.links-is (ap (λ l. old ++ l) (sym (step _ (sym c.is_read.ensures ∙ w.if-not-is_read.false))) ∙ c.loop-i.invariant)
    ]
