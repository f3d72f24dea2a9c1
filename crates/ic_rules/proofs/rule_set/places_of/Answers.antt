use Rattle.std.proofs.Common.{◌<◌, ◌==◌, ◌&&◌, Some, length, map, take, cond, ap, sym, ◌∙◌, arith}
use Rattle.std.specs.BTreeMap.{get}
use Rattle.std.specs.List.{list_any}
use Rattle.ic_rules.specs.declared.rule_set.SymbolPair.{SymbolPair}
use Rattle.ic_rules.specs.Rule.{same_pair}
use Rattle.ic_rules.specs.Written.{written}
use Rattle.ic_rules.specs.inner.Places.{pair_cmp}
use Rattle.ic_rules.proofs.RuleSetLemmas.{pair_there, repeated_here, repeated_later, places_next, none_of_either, pair_test}
use Rattle.ic_rules.proofs.rule_set.places_of.Goals as goal

pub returns-then-has_pair-clause-twice : goal.returns-then-has_pair-clause-twice
returns-then-has_pair-clause-twice c =
    let rs = c.args.rules.now in
    let i = c.loop-i.i in
    let within : i < length rs = omega arith in
    let item = c.index-rules-i in
    let there = pair_there c.loop-i.places (map written (take i rs)) (written item.result) c.loop-i.invariant.0 ∙ sym c.has_pair.ensures ∙ c.if-has_pair.true in
    let moved = ap (λ p. list_any (same_pair (written p)) (map written (take i rs))) (sym item.is) ∙ there in
    sym c.loop-i.invariant.1 ∙ repeated_here rs i item.result within moved

pub loop-i-preserved : goal.loop-i-preserved
loop-i-preserved c =
    let rs = c.args.rules.now in
    let i = c.loop-i.i in
    let within : i < length rs = omega arith in
    let item = c.index-rules-i in
    let new = pair_there c.loop-i.places (map written (take i rs)) (written item.result) c.loop-i.invariant.0 ∙ sym c.has_pair.ensures ∙ c.if-has_pair.false in
    let moved = ap (λ p. list_any (same_pair (written p)) (map written (take i rs))) (sym item.is) ∙ new in
    let none = none_of_either _ _ (sym c.has_pair.ensures ∙ c.if-has_pair.false) in
    let put = λ (q : SymbolPair). c.in_ok-insert.ensures.updates.0 q
    ∙ ap (λ b. cond b (Some i) (get pair_cmp c.loop-i.places q)) (pair_test _ q)
    ∙ ap (λ p. cond ((written p).left == q.first && (written p).right == q.second) (Some i) (get pair_cmp c.loop-i.places q)) item.is in
    let absent = ap (λ p. get pair_cmp c.loop-i.places (record { first = (written p).left; second = (written p).right })) (sym item.is) ∙ none in
    (places_next c.loop-i.places c.insert.new.self rs i item.result within c.loop-i.invariant.0 absent put, sym (repeated_later rs i item.result within moved) ∙ c.loop-i.invariant.1)
