use Rattle.std.proofs.Common.{arith}
use Rattle.std.proofs.lemmas.List.{length-append}
use Rattle.ic_flat.specs.Words.{tree_words}
use Rattle.ic_flat_round.specs.inner.RuleWords.{raised_words}
use Rattle.ic_flat_rules.specs.Standing.{tree_at}
use Rattle.ic_flat_round.proofs.Appending.{appended-both}
use Rattle.ic_flat_round.proofs.firing.put_product.Goals as goal

pub put_argument-end-requires-clause-room : goal.put_argument-end-requires-clause-room
put_argument-end-requires-clause-room c =
    let room = c.requires.room in
    omega (arith, room, length-append (tree_words (tree_at c.args.words.now c.args.place)) (raised_words c.args.base (tree_at c.args.template.now c.args.from)))

pub put_template-until-requires-clause-room : goal.put_template-until-requires-clause-room
put_template-until-requires-clause-room c =
    let room = c.requires.room in
    let len = c.put_argument-end.ensures.put.len in
    let capacity = c.put_argument-end.ensures.put.capacity in
    omega (
      arith,
      room,
      len,
      capacity,
      length-append (tree_words (tree_at c.args.words.now c.args.place)) (raised_words c.args.base (tree_at c.args.template.now c.args.from)),
    )

pub returns-clause-put : goal.returns-clause-put
returns-clause-put c =
    appended-both c.args.out.now c.put_argument-end.new.out c.put_template-until.new.out (tree_words (tree_at c.args.words.now c.args.place))
    (raised_words c.args.base (tree_at c.args.template.now c.args.from)) c.put_argument-end.ensures.put c.put_template-until.ensures.put
