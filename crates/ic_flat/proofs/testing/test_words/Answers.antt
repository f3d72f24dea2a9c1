use Rattle.std.proofs.Common.{Some, None, sym, ap, ◌∙◌, nat_lt}
use Rattle.std.specs.List.{list_all}
use Rattle.ic_term.specs.Configuration.{third_occurrence}
use Rattle.ic_flat.proofs.TestingLemmas.{past_a_limit, not_below, unless_thirdly}
use Rattle.ic_flat.proofs.testing.test_words.Goals as goal

pub returns-then-words-gt-MAX_WIDE_NODES : goal.returns-then-words-gt-MAX_WIDE_NODES
returns-then-words-gt-MAX_WIDE_NODES c =
    past_a_limit c.args.words.now c.args.terms c.args.equations c.args.next c.requires c.then-words-gt-MAX_WIDE_NODES.either

pub returns-then-not-are_below : goal.returns-then-not-are_below
returns-then-not-are_below c =
    let ws = c.args.words.now in
    let names = c.deref.ensures.value ∙ c.in_ok-names.ensures in
    not_below ws c.args.terms c.args.equations c.args.next c.requires
    (sym (ap (list_all (λ n. nat_lt n c.args.next)) names) ∙ sym c.are_below.ensures ∙ c.if-not-are_below.true)

pub returns-in-Some : goal.returns-in-Some
returns-in-Some c =
    let ws = c.args.words.now in
    let names = c.deref.ensures.value ∙ c.in_ok-names.ensures in
    let names_again = c.deref-2.ensures.value ∙ c.in_ok-names.ensures in
    unless_thirdly ws c.args.terms c.args.equations c.args.next c.requires c.if-words-gt-MAX_WIDE_NODES.false c.if-next-gt-MAX_NEXT.false
    (sym (ap (list_all (λ n. nat_lt n c.args.next)) names) ∙ sym c.are_below.ensures ∙ c.if-not-are_below.false)
    (Some c.in-Some.name) (sym c.in-Some.is ∙ c.in_ok-name.ensures ∙ ap third_occurrence names_again)

pub returns : goal.returns
returns c =
    let ws = c.args.words.now in
    let names = c.deref.ensures.value ∙ c.in_ok-names.ensures in
    let names_again = c.deref-2.ensures.value ∙ c.in_ok-names.ensures in
    unless_thirdly ws c.args.terms c.args.equations c.args.next c.requires c.if-words-gt-MAX_WIDE_NODES.false c.if-next-gt-MAX_NEXT.false
    (sym (ap (list_all (λ n. nat_lt n c.args.next)) names) ∙ sym c.are_below.ensures ∙ c.if-not-are_below.false)
    None (sym c.in-None.is ∙ c.in_ok-name.ensures ∙ ap third_occurrence names_again)
