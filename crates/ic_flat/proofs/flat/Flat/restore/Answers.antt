use Rattle.std.proofs.Common.{Err, refl, rules, subst, ◌∙◌}
use Rattle.ic_term.specs.Configuration.{Configuration, restored}
use Rattle.ic_term.specs.ConfigFault.{Answers}
use Rattle.ic_flat.specs.Flat.{configuration_of}
use Rattle.ic_flat.proofs.NarrowLemmas.{past, alike, kept}
use Rattle.ic_flat.proofs.flat.Flat.restore.Goals as goal

pub returns-then-passes_a_limit : goal.returns-then-passes_a_limit
returns-then-passes_a_limit c =
    past c.args.words.items c.deref.result.now c.deref.ensures.value c.args.terms c.args.equations c.args.next c.requires.counted
    (configuration_of c.args.words.items c.args.terms c.args.next) refl refl c.passes_a_limit.result c.passes_a_limit.ensures
    c.wide_ones_are_configurations_but_for_their_limits.ensures.refused c.if-passes_a_limit.true

pub returns-in_err-wide : goal.returns-in_err-wide
returns-in_err-wide c =
    let same = alike c.args.words.items c.deref.result.now c.deref.ensures.value c.args.terms c.args.equations c.args.next c.requires.counted
    (configuration_of c.args.words.items c.args.terms c.args.next) refl refl c.passes_a_limit.result c.passes_a_limit.ensures
    c.wide_ones_are_configurations_but_for_their_limits.ensures.alike c.if-passes_a_limit.false in
    let told : Answers {T = Configuration} (Err c.in_err-wide.field-0.0) (restored (configuration_of c.args.words.items c.args.terms c.args.next)) =
    subst (Answers {T = Configuration} (Err c.in_err-wide.field-0.0)) same c.in_err-wide.ensures in
    search (told, rules)

pub invariant_of-result : goal.invariant_of-result
invariant_of-result c =
    kept c.args.words.items c.deref.result.now c.deref.ensures.value c.args.terms c.args.equations c.args.next c.requires.counted
    (configuration_of c.args.words.items c.args.terms c.args.next) refl refl c.passes_a_limit.result c.passes_a_limit.ensures
    c.wide_ones_are_configurations_but_for_their_limits.ensures.taken c.wide_ones_are_configurations_but_for_their_limits.ensures.narrow c.if-passes_a_limit.false
    c.in_ok-wide.wide c.in_ok-wide.ensures

pub returns : goal.returns
returns c =
    let same = alike c.args.words.items c.deref.result.now c.deref.ensures.value c.args.terms c.args.equations c.args.next c.requires.counted
    (configuration_of c.args.words.items c.args.terms c.args.next) refl refl c.passes_a_limit.result c.passes_a_limit.ensures
    c.wide_ones_are_configurations_but_for_their_limits.ensures.alike c.if-passes_a_limit.false in
    c.in_ok-wide.ensures ∙ same
