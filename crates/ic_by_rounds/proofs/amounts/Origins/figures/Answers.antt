use Rattle.std.proofs.Common.{◌≤◌, ◌+◌, ◌-◌, ◌*◌, ◌%◌, ◌^◌, ℕ, length, map, refl, sym, ap, ◌∙◌, arith}
use Rattle.ic_generations.specs.Figures.{amount_made, amount_spent, arity_of}
use Rattle.ic_in_place.specs.Amounts.{by_counts}
use Rattle.ic_by_rounds.specs.declared.amounts.Amounts.{Amounts}
use Rattle.ic_by_rounds.specs.inner.Amounts.{one_each, products}
use Rattle.ic_by_rounds.proofs.Changes.{all_changed, names_told, nodes_told}
use Rattle.ic_by_rounds.proofs.amounts.Origins.figures.Goals as goal

pub returns : goal.returns
returns c = λ s numbers origins many.
    let o = c.args.self.now in
    let fired = c.args.fired.now in
    let rs = s.rules in
    let counted = origins.changes.many in
    let few : length fired ≤ length o.changes.items = omega (arith, many, counted) in
    let arities : ℕ → ℕ = arity_of rs.symbols in
    let spent : (ℕ → ℕ) → ℕ = λ f. by_counts (amount_spent f rs.rules) numbers fired 0 in
    let made : (ℕ → ℕ) → ℕ = λ f. by_counts (amount_made f rs.rules) numbers fired 0 in
    let added : (Amounts → ℕ) → ℕ = λ g. products fired (map g o.changes.items) in
    let by_arities = all_changed rs arities (λ (a : Amounts). a.arities) numbers fired o.changes.items few (λ i change there. (origins.changes.each i change there).arities) in
    let by_agents = all_changed rs one_each (λ (a : Amounts). a.agents) numbers fired o.changes.items few (λ i change there. (origins.changes.each i change there).agents) in
    let nodes : ℕ = ((o.terms + (c.args.equations * 2) % 2 ^ 64) % 2 ^ 64 + c.after-amounts.result.arities) % 2 ^ 64 in
    let names : ℕ = (nodes + (2 ^ 64 - c.after-amounts.result.agents)) % 2 ^ 64 in
    let agents_are = c.after-amounts.ensures.agents few in
    let first = nodes_told nodes o.terms c.args.equations o.begun.arities (added (λ a. a.arities)) (spent arities) (made arities) c.after-amounts.result.arities
    (c.after-amounts.ensures.arities few) by_arities refl in
    let second = names_told names nodes o.begun.agents (added (λ a. a.agents)) (spent one_each) (made one_each) c.after-amounts.result.agents
    agents_are by_agents (omega (arith, agents_are)) refl in
    record {
      nodes_fit = omega arith;
      names_fit = omega arith;
      nodes_are = first ∙ (λ i. (origins.terms i + 2 * c.args.equations + (origins.arities i + made arities)) % 2 ^ 64);
      names_are = ap (λ (b : ℕ). (names + (b + made one_each)) % 2 ^ 64) (sym origins.agents) ∙ second;
    }
