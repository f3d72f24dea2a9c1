use Rattle.std.proofs.Common.{◌≡◌, inl, inr, [], ◌∷◌, refl, arith}
use Rattle.ic_jobs.specs.declared.event.Event.TheVariants.{Command as by_command}
use Rattle.ic_serving.specs.inner.Group.{HaveCome, asked}
use Rattle.ic_serving.proofs.CallLemmas.{clock_same}
use Rattle.ic_serving.proofs.GroupLemmas.{come_begins, come_kept, come_then, passed_none}
use Rattle.ic_serving.proofs.PageLemmas.{one_room}
use Rattle.ic_serving.proofs.RunLemmas.{on_err}
use Rattle.ic_serving.proofs.grouping.answer_group.Goals as goal

pub returns-in_err-answers-clause-begun : goal.returns-in_err-answers-clause-begun
returns-in_err-answers-clause-begun g c = on_err c.from_residual.result _ (record {
  commands = [];
  ls = [];
  asks = tt;
  took = passed_none c.args.lines.now;
  few = (let some = c.requires.some in omega (arith, some));
  begun = c.take_command.ensures.begun;
  crash = c.take_command.ensures.crash;
})

pub returns-in_err-take_ready-clause-begun : goal.returns-in_err-take_ready-clause-begun
returns-in_err-take_ready-clause-begun g c =
    let first : HaveCome c.args.limit (by_command c.args.first ∷ []) c.args.book.now c.take_command.new.book = record {
      table = c.in_ok-answers.ensures.taken.table;
      kept = c.take_command.ensures.begun.kept;
      page = λ room. c.in_ok-answers.ensures.page (one_room c.args.book.now c.args.first room);
      crash = c.take_command.ensures.crash;
    } in
    let r = c.take_ready.ensures.taken c.args.limit in
    let all = come_then (by_command c.args.first ∷ []) (asked r.commands) c.args.book.now c.take_command.new.book c.take_ready.new.book first r.come in
    let few = r.few in
    let some = c.requires.some in
    on_err c.from_residual-in_err-take_ready.result _ (record {
      commands = r.commands;
      ls = r.ls;
      asks = r.asks;
      took = r.took;
      few = omega (arith, few, some);
      begun = come_begins (asked (c.args.first ∷ r.commands)) c.args.book.now c.take_ready.new.book all;
      crash = all.crash;
    })

pub returns-in_err-keep_all-clause-begun : goal.returns-in_err-keep_all-clause-begun
returns-in_err-keep_all-clause-begun g c =
    let first : HaveCome c.args.limit (by_command c.args.first ∷ []) c.args.book.now c.take_command.new.book = record {
      table = c.in_ok-answers.ensures.taken.table;
      kept = c.take_command.ensures.begun.kept;
      page = λ room. c.in_ok-answers.ensures.page (one_room c.args.book.now c.args.first room);
      crash = c.take_command.ensures.crash;
    } in
    let r = c.take_ready.ensures.taken c.args.limit in
    let all = come_then (by_command c.args.first ∷ []) (asked r.commands) c.args.book.now c.take_command.new.book c.take_ready.new.book first r.come in
    let kept = come_kept (asked (c.args.first ∷ r.commands)) c.args.book.now c.take_ready.new.book c.keep_all.new.book all c.keep_all.ensures.table
    (inl c.in_err-keep_all.ensures.unkept) c.keep_all.ensures.page c.keep_all.ensures.crash in
    let few = r.few in
    let some = c.requires.some in
    on_err c.from_residual-in_err-keep_all.result _ (record {
      commands = r.commands;
      ls = r.ls;
      asks = r.asks;
      took = r.took;
      few = omega (arith, few, some);
      begun = come_begins (asked (c.args.first ∷ r.commands)) c.args.book.now c.keep_all.new.book kept;
      crash = kept.crash;
    })

pub returns-clause-done : goal.returns-clause-done
returns-clause-done g c =
    let first : HaveCome c.args.limit (by_command c.args.first ∷ []) c.args.book.now c.take_command.new.book = record {
      table = c.in_ok-answers.ensures.taken.table;
      kept = c.take_command.ensures.begun.kept;
      page = λ room. c.in_ok-answers.ensures.page (one_room c.args.book.now c.args.first room);
      crash = c.take_command.ensures.crash;
    } in
    let r = c.in_ok-take_ready.ensures.taken c.args.limit in
    let all = come_then (by_command c.args.first ∷ []) (asked r.commands) c.args.book.now c.take_command.new.book c.take_ready.new.book first r.come in
    let few = r.few in
    let some = c.requires.some in
    let counted = r.counted refl in
    let own = r.taken refl in
    record {
      commands = r.commands;
      ls = r.ls;
      asks = r.asks;
      took = r.took;
      counted = omega (arith, counted);
      few = omega (arith, counted, few, some);
      between = c.take_ready.new.book;
      taken = (c.take_command.new.book, c.in_ok-answers.answers.items, own.0, own.1, c.in_ok-answers.ensures.taken, own.2);
      kept = c.in_ok-keep_all.ensures.made;
      table = c.keep_all.ensures.table;
      fresh = c.in_ok-answers.ensures.fresh;
      come = come_kept (asked (c.args.first ∷ r.commands)) c.args.book.now c.take_ready.new.book c.keep_all.new.book all c.keep_all.ensures.table
          (inr c.in_ok-keep_all.ensures.last) c.keep_all.ensures.page c.keep_all.ensures.crash;
      calls = λ room.
          let one = clock_same c.args.book.now c.take_command.new.book (c.take_command.ensures.still room) in
          let two = clock_same c.take_command.new.book c.take_ready.new.book r.keeper in
          let keep = c.keep_all.ensures.calls in
          omega (arith, one, two, keep);
    }

pub returns-in_err-take_ready-clause-few_unkept : goal.returns-in_err-take_ready-clause-few_unkept
returns-in_err-take_ready-clause-few_unkept g c =
    let ready = c.take_ready.ensures.taken c.args.limit in
    let first = c.take_command.ensures.few_unkept in
    let few = ready.few in
    let more = ready.unkept in
    let some = c.requires.some in
    omega (arith, first, few, more, some)

pub returns-in_err-keep_all-clause-few_unkept : goal.returns-in_err-keep_all-clause-few_unkept
returns-in_err-keep_all-clause-few_unkept g c =
    let ready = c.take_ready.ensures.taken c.args.limit in
    let first = c.take_command.ensures.few_unkept in
    let few = ready.few in
    let more = ready.unkept in
    let fewer = c.keep_all.ensures.fewer in
    let some = c.requires.some in
    omega (arith, first, few, more, fewer, some)
