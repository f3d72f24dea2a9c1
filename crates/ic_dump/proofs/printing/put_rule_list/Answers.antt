use Rattle.std.proofs.Common.{map, refl}
use Rattle.ic_rules.specs.RuleSet.{IsRuleOver}
use Rattle.ic_text.specs.SystemSource.{rule_words}
use Rattle.ic_dump.specs.Telling.{rule_of}
use Rattle.ic_text.specs.lemmas.Separated.{between_rules, Begun, begun_first, begun_further, next_listed}
use Rattle.ic_dump.proofs.PrintLemmas.{next_each}
use Rattle.ic_dump.proofs.printing.put_rule_list.Goals as goal
use Rattle.ic_dump.proofs.printing.put_rule_list.Goals.{then-place-gt0+in_ok-push, else-place-gt0}

pub put_rule-requires : goal.put_rule-requires
put_rule-requires c =
    (next_each (IsRuleOver c.args.symbols.now) c.loop-place.place c.args.rules.now c.index-rules-place.result c.loop-place-test.true c.index-rules-place.is c.loop-place.invariant.over).0

pub loop-place-preserved : goal.loop-place-preserved
loop-place-preserved c =
    let ss = c.args.symbols.now in
    let xs = c.args.rules.now in
    let n = c.loop-place.place in
    let x = c.index-rules-place.result in
    let out = c.loop-place.out.items in
    let begun : Begun between_rules n out c.if-place-gt0.out.items = elim c.if-place-gt0.branch [
      | then-place-gt0+in_ok-push w ↦ begun_further between_rules n out c.if-place-gt0.out.items w.if-place-gt0.true (rw w.out-is w.in_ok-push.ensures.items)
      | else-place-gt0 w ↦ begun_first between_rules n out c.if-place-gt0.out.items w.if-place-gt0.false (rw w.out-is refl)
    ] in
    record {
      over = (next_each (IsRuleOver ss) n xs x c.loop-place-test.true c.index-rules-place.is c.loop-place.invariant.over).1;
      whole = next_listed between_rules (λ l. map rule_words (map (rule_of ss) l)) (λ r. rule_words (rule_of ss r)) (λ r l. refl)
          n xs x out c.if-place-gt0.out.items c.put_rule.new.out.items _ c.loop-place-test.true c.index-rules-place.is begun
          c.in_ok-put_rule.ensures c.loop-place.invariant.whole;
    }
