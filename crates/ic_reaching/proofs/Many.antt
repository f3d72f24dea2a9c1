-- Lemmas: any number of parts that run side by side.
use Rattle.std.proofs.Common.{◌≡◌, ℕ, ◌≤◌, List, [], ◌∷◌, true, map, refl, arith}
use Rattle.std.specs.List.{AllByRecursion, flat_map}
use Rattle.ic_term.specs.Configuration.{Configuration, configuration_names, occurrences}
use Rattle.ic_term.specs.Symbol.{is_over}
use Rattle.ic_rules.specs.RuleSet.{Rules, IsRuleSet}
use Rattle.ic_round.specs.Naming.{HasNames}
use Rattle.ic_reaching.specs.Reaching.{Reaches}
use Rattle.ic_reaching.specs.Beside.{together, all_together, PartRun, HasRun}
use Rattle.ic_reaching.proofs.Given.{SettlingLaws, StepLaws}
use Rattle.ic_reaching.proofs.Beside.{counts_beside}
use Rattle.ic_reaching.proofs.Frames.{ShapeLaws}
use Rattle.ic_reaching.proofs.Parts.{above, few_of}
use Rattle.ic_reaching.proofs.Reached.{begins}
use Rattle.ic_reaching.proofs.Sides.{FreeStep, last, whole_named, over_together, side_by_side}

abbrev given_of : List PartRun → List Configuration
given_of runs = map (λ run. run.given) runs

abbrev reached_of : List PartRun → List Configuration
reached_of runs = map (λ run. run.reached) runs

given_over : (rs : Rules) (runs : List PartRun) → AllByRecursion (HasRun rs) runs → is_over rs.symbols (all_together (given_of runs)) ≡ true
given_over rs [] each = refl
given_over rs (run ∷ runs) each = over_together rs run.given (all_together (given_of runs)) each.0.over (given_over rs runs each.1)

-- the names of a part are no more than those of the whole
after_named : (c d : Configuration) → HasNames (together c d) → (n : ℕ) → occurrences n (configuration_names d) ≤ 2
after_named c d named n = let two = few_of c d.interface d.equations named n in omega (arith, two)

given_named : (rs : Rules) (runs : List PartRun) → AllByRecursion (HasRun rs) runs → ((n : ℕ) → occurrences n (configuration_names (all_together (given_of runs))) ≤ 2) → HasNames (all_together (given_of runs))
given_named rs [] each twice = record { below = tt; twice = twice }
given_named rs (run ∷ runs) each twice =
    let others = all_together (given_of runs) in
    whole_named (last others) run.given each.0.names (λ n. let all = counts_beside (last others) (above (last others) run.given) n in let two = twice n in omega (arith, all, two))

reached_named : (rs : Rules) (runs : List PartRun) → AllByRecursion (HasRun rs) runs → ((n : ℕ) → occurrences n (configuration_names (all_together (reached_of runs))) ≤ 2) → HasNames (all_together (reached_of runs))
reached_named rs [] each twice = record { below = tt; twice = twice }
reached_named rs (run ∷ runs) each twice =
    let others = all_together (reached_of runs) in
    whole_named (last others) run.reached each.0.reaches.net.names_too (λ n. let all = counts_beside (last others) (above (last others) run.reached) n in let two = twice n in omega (arith, all, two))

pub all_side_by_side : FreeStep → StepLaws → SettlingLaws → ShapeLaws → (rs : Rules) (runs : List PartRun) → IsRuleSet rs → AllByRecursion (HasRun rs) runs
    → HasNames (all_together (given_of runs)) → HasNames (all_together (reached_of runs))
    → Reaches rs.rules (all_together (given_of runs)) (all_together (reached_of runs)) (flat_map (λ run. run.fired) runs)
all_side_by_side free laws nets shapes rs [] set each named also = begins laws.nets rs.rules (all_together []) named
all_side_by_side free laws nets shapes rs (run ∷ runs) set each named also =
    let c = all_together (given_of runs) in
    let d = all_together (reached_of runs) in
    let named_c = given_named rs runs each.1 (after_named run.given c named) in
    let named_d = reached_named rs runs each.1 (after_named run.reached d also) in
    let few = few_of run.reached d.interface d.equations also in
    side_by_side free laws nets shapes rs run.given c run.reached d run.fired (flat_map (λ run. run.fired) runs) set
    (record { over = each.0.over; named = each.0.names }) (record { over = given_over rs runs each.1; named = named_c })
    each.0.reaches (all_side_by_side free laws nets shapes rs runs set each.1 named_c named_d) named
    (record { once = λ n some. let two = few n in omega (arith, two, some) })
    (record { once = λ n some. let two = few n in omega (arith, two, some) })
