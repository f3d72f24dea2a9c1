use Rattle.std.proofs.Common.{◌≡◌, ◌∙◌, ◌+◌, ◌<◌, ◌^◌, ℕ, sym, subst}
use Rattle.std.specs.Prelude.{SomeIff}
use Rattle.ic_in_place.specs.Counting.{name_steps}
use Rattle.ic_in_place.proofs.NameSteps.{CountLaws, as_many_name_steps, chain_counts}
use Rattle.ic_in_place.proofs.laws.name_steps_are_those_of_every_order.Goals as goal

pub returns-clause-every_order : goal.returns-clause-every_order
returns-clause-every_order c = λ rs d e n kinds set over named are chain still.
    as_many_name_steps are.kinds kinds
    (c.every_order_ends_in_the_same_net.ensures.ends rs are.kinds kinds d are.end e set over named are.chain are.quiet chain still).1
    ∙ are.count

pub returns-clause-equations : goal.returns-clause-equations
returns-clause-equations c = λ rs d e kinds set over named chain.
    let laws : CountLaws = record {
      itself = c.what_is_reached_is_one_net.ensures.itself;
      names = c.what_is_reached_is_one_net.ensures.names;
      over = c.what_is_reached_is_one_net.ensures.over;
      chain = c.what_is_reached_goes_on.ensures.chain;
    } in
    (chain_counts laws rs kinds d e set over named chain).equations

pub returns-clause-told : goal.returns-clause-told
returns-clause-told c = λ rs d e interactions left told kinds set over named tells chain still.
    let are = tells.1 in
    let same : name_steps kinds ≡ tells.0 = as_many_name_steps are.kinds kinds
    (c.every_order_ends_in_the_same_net.ensures.ends rs are.kinds kinds d are.end e set over named are.chain are.quiet chain still).1
    ∙ are.count in
    subst (λ (k : ℕ). SomeIff told (k + interactions + left < 2 ^ 64) k) (sym same) tells.2
