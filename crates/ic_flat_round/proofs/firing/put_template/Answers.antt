use Rattle.std.proofs.Common.{◌+◌, ◌-◌, ◌∷◌, ◌++◌, [], List, get_or, length, map, ap, ◌∙◌, subst, arith}
use Rattle.ic_flat.specs.declared.word.Word.{Word}
use Rattle.ic_flat.specs.declared.word.Word.TheVariants.{Name}
use Rattle.ic_flat.specs.Words.{arguments}
use Rattle.ic_flat_round.specs.inner.Room.{Appended, GoesOn}
use Rattle.ic_flat_round.specs.inner.RuleWords.{raised_word, raised_words}
use Rattle.ic_flat_rules.specs.Standing.{tree_at}
use Rattle.ic_flat_round.proofs.Appending.{goes_on-start, goes_on-next}
use Rattle.ic_flat_round.proofs.RaisedWords.{raised-words}
use Rattle.ic_flat_round.proofs.DueWords.{due_words, due_words-one, due_words-next, due-start, due-next, due-end, due_there, due_few}
use Rattle.ic_flat_round.proofs.firing.put_template.Goals as goal

pub loop-due-init : goal.loop-due-init
loop-due-init c =
    let vs = c.args.template.now in
    let u = tree_at vs c.args.from in
    let raise : List Word → List Word = map (raised_word c.args.base) in
    record {
      due = due-start vs c.args.from c.requires.there;
      left =
          goes_on-start c.args.out.now (raised_words c.args.base u) (raise (due_words vs c.args.from 1)) c.requires.room
          (ap raise (due_words-one vs c.args.from c.requires.there) ∙ raised-words c.args.base u);
    }

pub overflow_add-due : goal.overflow_add-due
overflow_add-due c =
    let vs = c.args.template.now in
    let next = due-next vs c.args.from c.loop-due.until c.loop-due.due (Name 0) c.requires.whole c.loop-due.invariant.due c.loop-due-test.true in
    let few = due_few vs c.args.from (c.loop-due.until + 1) _ next in
    omega (arith, few, c.arguments.ensures)

pub push_reserved-requires : goal.push_reserved-requires
push_reserved-requires c =
    let vs = c.args.template.now in
    let i = c.loop-due.invariant in
    let some = c.loop-due-test.true in
    let there = due_there vs c.args.from c.loop-due.until c.loop-due.due i.due some in
    let next = due_words-next vs c.loop-due.until c.loop-due.due (Name 0) c.requires.whole there some in
    let room = i.left.room in
    omega (arith, room, ap (λ l. length (map (raised_word c.args.base) l)) next)

pub loop-due-preserved : goal.loop-due-preserved
loop-due-preserved c =
    let vs = c.args.template.now in
    let i = c.loop-due.invariant in
    let some = c.loop-due-test.true in
    let until = c.loop-due.until in
    let there = due_there vs c.args.from until c.loop-due.due i.due some in
    let next = due_words-next vs until c.loop-due.due (Name 0) c.requires.whole there some in
    let w = get_or vs until (Name 0) in
    let raise : List Word → List Word = map (raised_word c.args.base) in
    let all = raised_words c.args.base (tree_at vs c.args.from) in
    let later = raise (due_words vs (until + 1) (c.loop-due.due - 1 + arguments w)) in
    let put : Appended c.loop-due.out c.push_reserved.new.self (raised_word c.args.base w ∷ []) =
    record {
      items = c.push_reserved.ensures.items ∙ ap (λ v. c.loop-due.out.items ++ v ∷ []) c.raised.ensures;
      len = c.push_reserved.ensures.len;
      capacity = omega (arith, c.push_reserved.ensures.capacity);
    } in
    rw c.arguments.ensures (record {
      due = due-next vs c.args.from until c.loop-due.due (Name 0) c.requires.whole i.due some;
      left =
          goes_on-next c.args.out.now c.loop-due.out c.push_reserved.new.self all (raised_word c.args.base w ∷ []) later
          (subst (λ (l : List Word). GoesOn c.args.out.now all c.loop-due.out l) (ap raise next) i.left) put;
    })

pub returns-clause-term : goal.returns-clause-term
returns-clause-term c = due-end c.args.template.now c.args.from c.loop-due.until c.loop-due.due c.requires.there c.loop-due.invariant.due c.loop-due-test.false
