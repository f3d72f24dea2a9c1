use Rattle.std.proofs.Common.{ap, drop, length, subst, List, length-append, arith}
use Rattle.std.proofs.lemmas.List.{length-drop}
use Rattle.ic_flat.specs.declared.word.Word.{Word}
use Rattle.ic_flat.specs.Words.{forest}
use Rattle.ic_flat.specs.lemmas.WordLaws.{forest-le}
use Rattle.ic_round.specs.Firing.{arguments}
use Rattle.ic_flat_round.specs.inner.Room.{Appended}
use Rattle.ic_flat_round.specs.inner.RuleWords.{against_words}
use Rattle.ic_flat_rules.specs.Standing.{tree_at}
use Rattle.ic_flat_round.proofs.Appending.{appended-both}
use Rattle.ic_flat_round.proofs.Interacting.{count_at, enough_at, agent_words, second_words}
use Rattle.ic_flat_round.proofs.firing.put_interaction.Goals as goal

pub put_products-from-requires-clause-there : goal.put_products-from-requires-clause-there
put_products-from-requires-clause-there c = enough_at c.args.words.now c.args.left c.arguments-left_count.result c.requires.whole c.requires.there c.arguments-left_count.ensures

pub put_products-from-requires-clause-terms_there : goal.put_products-from-requires-clause-terms_there
put_products-from-requires-clause-terms_there c =
    let all = c.requires.terms_there in
    omega (arith, all, count_at c.args.words.now c.args.left c.arguments-left_count.result c.requires.whole c.requires.there c.arguments-left_count.ensures)

pub put_products-from-requires-clause-room : goal.put_products-from-requires-clause-room
put_products-from-requires-clause-room c =
    let ws = c.args.words.now in
    let terms = forest c.args.template.now in
    let ts = arguments (tree_at ws c.args.left) in
    let us = arguments (tree_at ws c.args.right) in
    let base = c.args.base in
    let room = c.requires.room in
    let first = agent_words ws c.args.left c.arguments-left_count.result base terms c.requires.whole c.requires.there c.arguments-left_count.ensures in
    omega (
      arith,
      room,
      ap length first,
      length-append (against_words base (length ts) ts terms) (against_words base (length us) us (drop (length ts) terms)),
    )

pub put_products-requires-clause-there : goal.put_products-requires-clause-there
put_products-requires-clause-there c = enough_at c.args.words.now c.args.right c.arguments-right_count.result c.requires.whole c.requires.right_there c.arguments-right_count.ensures

pub put_products-requires-clause-terms_there : goal.put_products-requires-clause-terms_there
put_products-requires-clause-terms_there c =
    let all = c.requires.terms_there in
    omega (
      arith,
      all,
      count_at c.args.words.now c.args.left c.arguments-left_count.result c.requires.whole c.requires.there c.arguments-left_count.ensures,
      count_at c.args.words.now c.args.right c.arguments-right_count.result c.requires.whole c.requires.right_there c.arguments-right_count.ensures,
      ap length c.put_products-from.ensures.rest,
      length-drop c.arguments-left_count.result (forest c.args.template.now),
    )

pub put_products-requires-clause-room : goal.put_products-requires-clause-room
put_products-requires-clause-room c =
    let ws = c.args.words.now in
    let vs = c.args.template.now in
    let terms = forest vs in
    let ts = arguments (tree_at ws c.args.left) in
    let us = arguments (tree_at ws c.args.right) in
    let base = c.args.base in
    let room = c.requires.room in
    let put = c.put_products-from.ensures.put in
    let len = put.len in
    let capacity = put.capacity in
    let first = agent_words ws c.args.left c.arguments-left_count.result base terms c.requires.whole c.requires.there c.arguments-left_count.ensures in
    let count = count_at ws c.args.left c.arguments-left_count.result c.requires.whole c.requires.there c.arguments-left_count.ensures in
    let second = second_words ws vs c.args.right c.arguments-right_count.result c.arguments-left_count.result c.put_products-from.result base ts
    c.requires.whole c.requires.right_there c.arguments-right_count.ensures count c.put_products-from.ensures.rest in
    omega (
      arith,
      room,
      len,
      capacity,
      ap length first,
      ap length second,
      length-append (against_words base (length ts) ts terms) (against_words base (length us) us (drop (length ts) terms)),
    )

pub overflow_add-result : goal.overflow_add-result
overflow_add-result c =
    let all = c.requires.terms_there in
    omega (
      arith,
      all,
      count_at c.args.words.now c.args.left c.arguments-left_count.result c.requires.whole c.requires.there c.arguments-left_count.ensures,
      count_at c.args.words.now c.args.right c.arguments-right_count.result c.requires.whole c.requires.right_there c.arguments-right_count.ensures,
      forest-le c.args.template.now,
    )

pub returns-clause-count : goal.returns-clause-count
returns-clause-count c =
    omega (
      arith,
      count_at c.args.words.now c.args.left c.arguments-left_count.result c.requires.whole c.requires.there c.arguments-left_count.ensures,
      count_at c.args.words.now c.args.right c.arguments-right_count.result c.requires.whole c.requires.right_there c.arguments-right_count.ensures,
    )

pub returns-clause-put : goal.returns-clause-put
returns-clause-put c =
    let ws = c.args.words.now in
    let vs = c.args.template.now in
    let terms = forest vs in
    let ts = arguments (tree_at ws c.args.left) in
    let us = arguments (tree_at ws c.args.right) in
    let base = c.args.base in
    let first = agent_words ws c.args.left c.arguments-left_count.result base terms c.requires.whole c.requires.there c.arguments-left_count.ensures in
    let count = count_at ws c.args.left c.arguments-left_count.result c.requires.whole c.requires.there c.arguments-left_count.ensures in
    let second = second_words ws vs c.args.right c.arguments-right_count.result c.arguments-left_count.result c.put_products-from.result base ts
    c.requires.whole c.requires.right_there c.arguments-right_count.ensures count c.put_products-from.ensures.rest in
    let half = c.put_products-from.new.out in
    let a = subst (λ (l : List Word). Appended c.args.out.now half l) first c.put_products-from.ensures.put in
    let b = subst (λ (l : List Word). Appended half c.put_products.new.out l) second c.put_products.ensures.put in
    appended-both c.args.out.now half c.put_products.new.out (against_words base (length ts) ts terms) (against_words base (length us) us (drop (length ts) terms)) a b
