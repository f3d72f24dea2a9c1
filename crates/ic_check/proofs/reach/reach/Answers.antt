use Rattle.std.proofs.Common.{◌≡◌, ◌++◌, ◌∙◌, ℕ, List, [], ap, subst}
use Rattle.ic_confluence.specs.Agents.{configuration_symbols}
use Rattle.ic_check.specs.inner.Growing.{Joins}
use Rattle.ic_check.proofs.Growth.{is_reach}
use Rattle.ic_check.proofs.reach.reach.Goals as goal

pub returns : goal.returns
returns c =
    let symbols = c.put_config.new.out.items in
    let first = c.join.new.seen.items in
    let listed : symbols ≡ configuration_symbols c.args.config.now = c.in_ok-put_config.ensures ∙ ap (λ (l : List ℕ). l ++ configuration_symbols c.args.config.now) c.new-symbols.ensures.items in
    let half : Joins [] c.deref.result.now first = subst (λ (l : List ℕ). Joins l c.deref.result.now first) c.new-seen.ensures.items c.in_ok-join.ensures in
    let joins : Joins [] symbols first = subst (λ (l : List ℕ). Joins [] l first) c.deref.ensures.value half in
    is_reach c.args.rules.now c.args.config.now symbols first c.grow.new.seen.items c.in_ok-makings_of.field-0.items listed joins c.in_ok-makings_of.ensures c.in_ok-grow.ensures
