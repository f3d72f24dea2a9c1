use Rattle.std.proofs.Common.{◌≡◌, ◌<◌, ◌≤◌, ◌∙◌, length, sym, ap, subst}
use Rattle.ic_state.specs.State.{Kept}
use Rattle.ic_term.specs.declared.limits.TheConstants.{MAX_WIDE_NODES}
use Rattle.ic_keeping.specs.Way.{AreAlike, GoesFurther, IsReachedFrom}
use Rattle.ic_keeping.proofs.ByRounds.{more_over}
use Rattle.ic_keeping.proofs.GoingLemmas.{no_less_itself}
use Rattle.ic_keeping.proofs.laws.kept_states_go_on.Goals as goal

pub returns-clause-after : goal.returns-clause-after
returns-clause-after c = λ s k next k_kept next_kept is.
    let one : k ≡ is.before = c.each_state_has_its_own_bytes.ensures k is.before k_kept is.was_kept is.old_is in
    let other : next ≡ is.after = c.each_state_has_its_own_bytes.ensures next is.after next_kept is.is_kept is.new_is in (
      subst (λ (x : Kept). IsReachedFrom s x next) (sym one) (subst (λ (x : Kept). IsReachedFrom s is.before x) (sym other) is.from),
      subst (λ (x : Kept). GoesFurther x.interactions x.ended next) (sym one) (subst (λ (x : Kept). GoesFurther is.before.interactions is.before.ended x) (sym other) is.further),
    )

pub returns-clause-rounds : goal.returns-clause-rounds
returns-clause-rounds c = λ s k next k_kept next_kept is.
    let one : k ≡ is.before = c.each_state_has_its_own_bytes.ensures k is.before k_kept is.was_kept is.old_is in
    let other : next ≡ is.after = c.each_state_has_its_own_bytes.ensures next is.after next_kept is.is_kept is.new_is in
    subst (λ (x : Kept). AreAlike x.rounds next.rounds) (sym one) (subst (λ (x : Kept). AreAlike is.before.rounds x.rounds) (sym other) is.alike)

pub returns-clause-more_rounds : goal.returns-clause-more_rounds
returns-clause-more_rounds c = λ s k next m n k_kept next_kept is some other later.
    let one : k ≡ is.before = c.each_state_has_its_own_bytes.ensures k is.before k_kept is.was_kept is.old_is in
    let two : next ≡ is.after = c.each_state_has_its_own_bytes.ensures next is.after next_kept is.is_kept is.new_is in
    more_over s is.before is.after m n is.from is.alike (ap (λ (x : Kept). x.rounds) (sym one) ∙ some) (ap (λ (x : Kept). x.rounds) (sym two) ∙ other)
    (subst (λ (x : Kept). x.interactions < is.after.interactions) one (subst (λ (x : Kept). k.interactions < x.interactions) two later))

pub returns-clause-few : goal.returns-clause-few
returns-clause-few c = λ s k next k_kept next_kept is.
    subst (λ (x : Kept). length x.words ≤ MAX_WIDE_NODES) (sym (c.each_state_has_its_own_bytes.ensures next is.after next_kept is.is_kept is.new_is)) is.few

pub returns-clause-of : goal.returns-clause-of
returns-clause-of c s from one other held =
    (held.0, (held.1.0, held.1.1, held.1.2, held.1.4), held.2)

pub returns-clause-reached : goal.returns-clause-reached
returns-clause-reached c = λ s k next is. (is.was, is.is, is.was.next, is.is.next, is.more, is.reached, is.counted, is.text, is.millis)

pub returns-clause-run : goal.returns-clause-run
returns-clause-run c = λ s bounds most asked k run has.
    let on = has.onward in
    (on.was.next, on.is.next, on.more, on.reached, on.counted, on.text)

pub returns-clause-as_far : goal.returns-clause-as_far
returns-clause-as_far c = λ kept k is. (is.interactions, is.by_rule, is.ended)

pub returns-clause-from : goal.returns-clause-from
returns-clause-from c s one other held =
    (held.1.0, (held.0, (held.1.0, held.1.1, held.1.2, no_less_itself held.1.0, held.1.3), held.2))

pub returns-clause-no_less : goal.returns-clause-no_less
returns-clause-no_less c = λ from k is. (is.interactions, is.alike)
