use Rattle.std.proofs.Common.{IsTrue, sym, ap, ◌∙◌, subst}
use Rattle.std.specs.List.{list_all}
use Rattle.ic_flat.specs.Words.{is_word_over}
use Rattle.ic_rules.specs.RuleSet.{Rules}
use Rattle.ic_in_place.proofs.Written.{stuck_alike}
use Rattle.ic_in_place.proofs.stream.read_unwritten.Goals as goal

pub left_at_end-requires-clause-whole : goal.left_at_end-requires-clause-whole
left_at_end-requires-clause-whole c = (c.in_ok-read.ensures.read c.requires.0 c.requires.1).4.whole

pub left_at_end-requires-clause-over : goal.left_at_end-requires-clause-over
left_at_end-requires-clause-over c =
    let same = c.symbols.ensures.symbols ∙ ap (λ (r : Rules). r.symbols) (c.deref.ensures ∙ c.in_ok-rules.ensures.cases ∙ c.rules.ensures.rules) in
    subst (λ ss. IsTrue (list_all (is_word_over ss) c.in_ok-read.read.words.items)) (sym same) (c.in_ok-read.ensures.read c.requires.0 c.requires.1).4.over

pub left_at_end-requires-clause-counted : goal.left_at_end-requires-clause-counted
left_at_end-requires-clause-counted c = (c.in_ok-read.ensures.read c.requires.0 c.requires.1).4.counted

pub returns-clause-told : goal.returns-clause-told
returns-clause-told c = λ bounds come.
    let to = c.in_ok-read.read in
    let read = c.in_ok-read.ensures.read bounds come in
    let same = c.symbols.ensures.symbols ∙ ap (λ (r : Rules). r.symbols) (c.deref.ensures ∙ c.in_ok-rules.ensures.cases ∙ c.rules.ensures.rules) in (
      record {
        answer = read.0;
        reached = read.1;
        name_steps = read.3;
        stuck = stuck_alike to.end _ _ _ _ _ read.0 _ c.in_ok-at_end.ensures same read.4;
        rules = c.in_ok-rules.ensures.cases ∙ c.rules.ensures.rules;
      },
      read.5,
    )
