use Rattle.std.proofs.Common.{◌≡◌, ◌+◌, ◌*◌, List, length, refl, sym, subst}
use Rattle.ic_term.specs.Configuration.{Configuration, configuration_names, configured, is_within_wide}
use Rattle.ic_flat.specs.declared.word.Word.{Word}
use Rattle.ic_flat.specs.Flat.{configuration_of}
use Rattle.ic_flat.specs.Words.{forest, IsWhole}
use Rattle.ic_keeping.proofs.Refusing.{no_third, past_wide}
use Rattle.ic_keeping.proofs.systems.config_of.Goals as goal

pub returns-in-None-clause-refused : goal.returns-in-None-clause-refused
returns-in-None-clause-refused c equations whole counted twice =
    let words : c.deref.result.now ≡ c.args.words.items = c.deref.ensures.value in
    absurd (c.in-None.ensures.none refl
    (subst (λ (ws : List Word). IsWhole ws) (sym words) whole) equations
    (subst (λ (ws : List Word). length (forest ws) ≡ c.args.terms + 2 * equations) (sym words) counted))

pub returns-in-Err-Name-clause-refused : goal.returns-in-Err-Name-clause-refused
returns-in-Err-Name-clause-refused c equations whole counted twice =
    let there = configuration_of c.args.words.items c.args.terms 0 in
    let config : Configuration = configured there.interface there.equations in
    let none = (c.third_occurrence_is_the_first.ensures.none (configuration_names config)).1 twice in
    let refused = rw c.in-Err-Name.field-0-is at c.in-Err-Name.ensures in
    absurd (no_third (is_within_wide config) config c.in-Err-Name.field-0-0 none refused)

pub returns-in-Err-Limit-clause-limit : goal.returns-in-Err-Limit-clause-limit
returns-in-Err-Limit-clause-limit c twice limit =
    let there = configuration_of c.args.words.items c.args.terms 0 in
    let config : Configuration = configured there.interface there.equations in
    let refused = rw c.in-Err-Limit.field-0-is at c.in-Err-Limit.ensures in
    past_wide c.wide_ones_are_configurations_but_for_their_limits.ensures.taken config (c.next_is_one_above_the_greatest_name.ensures.above (configuration_names config)) twice refused
