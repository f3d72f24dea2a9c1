use Rattle.std.proofs.Common.{◌≡◌, ◌-◌, ◌≤◌, ◌∷◌, ◌∙◌, suc, ap, drop, length, sym, subst, List, arith}
use Rattle.ic_flat.specs.declared.word.Word.{Word}
use Rattle.ic_flat.specs.Words.{forest}
use Rattle.ic_flat_round.specs.inner.Room.{GoesOn}
use Rattle.ic_flat_round.specs.inner.RuleWords.{against_words, product_words}
use Rattle.ic_flat_rules.specs.Standing.{tree_at}
use Rattle.ic_flat_rules.specs.lemmas.WordPlaces.{first-rest}
use Rattle.ic_flat_round.proofs.Appending.{goes_on-room, goes_on-next}
use Rattle.ic_flat_round.proofs.RaisedWords.{against-more}
use Rattle.ic_flat_round.proofs.firing.put_products.Goals as goal

pub put_product-end-requires-clause-room : goal.put_product-end-requires-clause-room
put_product-end-requires-clause-room c =
    let i = c.loop-due.invariant in
    let ts = forest (drop c.loop-due.place c.args.words.now) in
    let us = forest (drop c.loop-due.from c.args.template.now) in
    let t = tree_at c.args.words.now c.loop-due.place in
    let u = tree_at c.args.template.now c.loop-due.from in
    let some = c.loop-due-test.true in
    let first : 1 ≤ length ts = omega (arith, some, i.there) in
    let second : 1 ≤ length us = omega (arith, some, i.terms_there) in
    let all = against_words c.args.base c.args.count (forest (drop c.args.place c.args.words.now)) (forest (drop c.args.from c.args.template.now)) in
    let next = against-more c.args.base c.loop-due.due ts us (drop 1 ts) (drop 1 us) t u some (first-rest ts first) (first-rest us second) in
    goes_on-room c.args.out.now c.loop-due.out all (product_words c.args.base t u) (against_words c.args.base (c.loop-due.due - 1) (drop 1 ts) (drop 1 us))
    (subst (λ (l : List Word). GoesOn c.args.out.now all c.loop-due.out l) next i.left)

pub loop-due-preserved : goal.loop-due-preserved
loop-due-preserved c =
    let i = c.loop-due.invariant in
    let put = c.put_product-end.ensures in
    let ts = forest (drop c.loop-due.place c.args.words.now) in
    let us = forest (drop c.loop-due.from c.args.template.now) in
    let ts' = forest (drop c.put_product-end.result.0 c.args.words.now) in
    let us' = forest (drop c.put_product-end.result.1 c.args.template.now) in
    let t = tree_at c.args.words.now c.loop-due.place in
    let u = tree_at c.args.template.now c.loop-due.from in
    let some = c.loop-due-test.true in
    let first : ts ≡ t ∷ ts' = put.argument.terms in
    let second : us ≡ u ∷ us' = put.term.terms in
    let one : suc (c.loop-due.due - 1) ≡ c.loop-due.due = omega (arith, some) in
    let all = against_words c.args.base c.args.count (forest (drop c.args.place c.args.words.now)) (forest (drop c.args.from c.args.template.now)) in
    let next = against-more c.args.base c.loop-due.due ts us ts' us' t u some first second in
    record {
      there = omega (arith, some, i.there, ap length first);
      terms_there = omega (arith, some, i.terms_there, ap length second);
      rest = (λ j. drop (one j) (sym second j)) ∙ i.rest;
      left =
          goes_on-next c.args.out.now c.loop-due.out c.put_product-end.new.out all (product_words c.args.base t u) (against_words c.args.base (c.loop-due.due - 1) ts' us')
          (subst (λ (l : List Word). GoesOn c.args.out.now all c.loop-due.out l) next i.left) put.put;
    }
