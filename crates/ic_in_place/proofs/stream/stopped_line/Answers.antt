use Rattle.std.proofs.Common.{◌≡◌, [], Bool, IsTrue, false, cond, sym, ap, ◌∙◌, subst}
use Rattle.std.proofs.lemmas.Bool.{false≢true}
use Rattle.std.specs.List.{list_all}
use Rattle.ic_rules.specs.RuleSet.{Rules}
use Rattle.ic_flat.specs.Words.{is_word_over}
use Rattle.ic_naming.specs.Naming.{renumbered}
use Rattle.ic_streams.specs.Streams.{line_of}
use Rattle.ic_in_place.specs.Reductions.{is_written}
use Rattle.ic_in_place.proofs.Written.{line_so, stuck_so}
use Rattle.ic_in_place.proofs.stream.stopped_line.Goals as goal

pub unwritten-requires : goal.unwritten-requires
unwritten-requires c = c.requires

pub line_reached-requires-clause-whole : goal.line_reached-requires-clause-whole
line_reached-requires-clause-whole c = (c.in_ok-reduced.ensures.read c.requires.0 c.requires.1).4.whole

pub line_reached-requires-clause-over : goal.line_reached-requires-clause-over
line_reached-requires-clause-over c =
    let same = c.symbols-symbols.ensures.symbols ∙ ap (λ (r : Rules). r.symbols) (c.deref.ensures ∙ c.in_ok-rules.ensures.cases ∙ c.rules.ensures.rules) in
    subst (λ ss. IsTrue (list_all (is_word_over ss) c.in_ok-reduced.reduced.words.items)) (sym same) (c.in_ok-reduced.ensures.read c.requires.0 c.requires.1).4.over

pub line_reached-requires-clause-counted : goal.line_reached-requires-clause-counted
line_reached-requires-clause-counted c = (c.in_ok-reduced.ensures.read c.requires.0 c.requires.1).4.counted

pub left_at_end-requires-clause-whole : goal.left_at_end-requires-clause-whole
left_at_end-requires-clause-whole c = (c.in_ok-reduced.ensures.read c.requires.0 c.requires.1).4.whole

pub left_at_end-requires-clause-over : goal.left_at_end-requires-clause-over
left_at_end-requires-clause-over c =
    let same = c.symbols-symbols.ensures.symbols ∙ ap (λ (r : Rules). r.symbols) (c.deref.ensures ∙ c.in_ok-rules.ensures.cases ∙ c.rules.ensures.rules) in
    subst (λ ss. IsTrue (list_all (is_word_over ss) c.in_ok-reduced.reduced.words.items)) (sym same) (c.in_ok-reduced.ensures.read c.requires.0 c.requires.1).4.over

pub left_at_end-requires-clause-counted : goal.left_at_end-requires-clause-counted
left_at_end-requires-clause-counted c = (c.in_ok-reduced.ensures.read c.requires.0 c.requires.1).4.counted

pub returns-clause-of : goal.returns-clause-of
returns-clause-of c = λ bounds come.
    let s = c.args.system in
    let reduced = c.in_ok-reduced.reduced in
    let same = c.symbols-symbols.ensures.symbols ∙ ap (λ (r : Rules). r.symbols) (c.deref.ensures ∙ c.in_ok-rules.ensures.cases ∙ c.rules.ensures.rules) in
    let ss = c.symbols-symbols.result.now in
    let read = c.in_ok-reduced.ensures.read bounds come in (
      record {
        answer = read.0;
        rule_set = come.sound.rules;
        over = come.sound.over;
        names = come.sound.names;
        reached = read.1;
        name_steps = read.3;
        together = λ written. read.2;
        prints = line_so c.args.asked reduced.end ss s.rules.symbols reduced.words.items reduced.terms read.0 _ c.in_ok-line.ensures same read.4.written;
        stuck = stuck_so reduced.end ss s.rules.symbols reduced.words.items reduced.terms read.0 _ c.in_ok-at_end.ensures same read.4.written;
        rules = c.in_ok-rules.ensures.cases ∙ c.rules.ensures.rules;
      },
      read.5,
    )

pub returns-then-not-is_written-clause-of : goal.returns-then-not-is_written-clause-of
returns-then-not-is_written-clause-of c = λ bounds come.
    let s = c.args.system in
    let unwritten : c.is_written.result ≡ false = cc c.if-not-is_written.true in
    let both = c.in_ok-outcome.ensures.told bounds come in
    let told = both.0 in
    let none : is_written c.args.asked c.in_ok-outcome.outcome.end ≡ false = ap (is_written c.args.asked) c.in_ok-outcome.ensures.end ∙ sym c.is_written.ensures ∙ unwritten in (
      record {
        answer = told.answer;
        rule_set = come.sound.rules;
        over = come.sound.over;
        names = come.sound.names;
        reached = told.reached;
        name_steps = told.name_steps;
        together = λ written. absurd (false≢true (sym none ∙ written));
        prints = c.new.ensures.items ∙ sym (ap (λ (b : Bool). cond b (line_of s.rules.symbols (renumbered told.answer)) []) none);
        stuck = told.stuck;
        rules = told.rules;
      },
      both.1,
    )
