use Rattle.std.proofs.Common.{◌≡◌, ◌<◌, ◌++◌, Some, length, map, get_or, slice_get, sum_by, refl, sym, ap, subst, ◌∙◌, arith}
use Rattle.std.proofs.lemmas.List.{length-map}
use Rattle.std.proofs.lemmas.Option.{slice_get_read}
use Rattle.std.proofs.lemmas.Result.{IfOk-weaker}
use Rattle.std.specs.List.{AllByRecursion}
use Rattle.ic_term.specs.Tree.{nodes}
use Rattle.ic_term.specs.Term.{tree}
use Rattle.ic_rules.specs.Rule.{rule_names}
use Rattle.ic_machine.specs.Plan.{planned}
use Rattle.ic_meaning.specs.Plans.{met_as, rule_arguments}
use Rattle.ic_plans.specs.inner.Entries.{arities_of}
use Rattle.ic_plans.specs.inner.Registers.{IsPlanFor}
use Rattle.ic_plans.proofs.MetLemmas.{met_at, met_names}
use Rattle.ic_plans.proofs.EntryLemmas.{if_some}
use Rattle.ic_plans.proofs.compiling.plan_of_rule.Goals as goal

pub plan_of_arguments-requires : goal.plan_of_arguments-requires
plan_of_arguments-requires c =
    let rs = c.args.rules.now in
    let r = c.index-rules-number.result in
    let there : slice_get rs.rules c.args.number ≡ Some r =
    slice_get_read rs.rules (length rs.rules) c.args.number r refl c.requires (c.index-rules-number.is ∙ ap (λ l. get_or l c.args.number r) c.rules.ensures.rules) in
    let met = met_at rs c.args.number r c.args.turned c.rules.ensures.sound there in
    let left = c.arguments.result.0.now in
    let right = c.arguments.result.1.now in
    let nodes_are : sum_by nodes (map tree left ++ map tree right) ≡ sum_by nodes (rule_arguments (met_as c.args.turned r)) =
    (λ i. sum_by nodes (c.arguments.ensures.left i ++ c.arguments.ensures.right i)) in
    record {
      room = omega (
        arith,
        met.few,
        met_names c.args.turned r,
        c.names.ensures.names,
        nodes_are,
        ap length c.arguments.ensures.left,
        ap length c.arguments.ensures.right,
        length-map left tree,
        length-map right tree,
        c.len-count.ensures.len,
        c.len-count.ensures.sound.few,
      );
    }

pub returns : goal.returns
returns c =
    let rs = c.args.rules.now in
    let r = c.index-rules-number.result in
    let there : slice_get rs.rules c.args.number ≡ Some r =
    slice_get_read rs.rules (length rs.rules) c.args.number r refl c.requires (c.index-rules-number.is ∙ ap (λ l. get_or l c.args.number r) c.rules.ensures.rules) in
    let met = met_at rs c.args.number r c.args.turned c.rules.ensures.sound there in
    let count = sym (c.len-count.ensures.len ∙ ap length c.symbols.ensures.symbols) in
    IfOk-weaker c.plan_of_arguments.result _ _
    (λ plan makes. if_some (λ r. IsPlanFor (arities_of rs) (met_as c.args.turned r) (planned plan)) (slice_get rs.rules c.args.number) r there
    (makes rs.symbols (met_as c.args.turned r) count (met_names c.args.turned r ∙ sym c.names.ensures.names)
    (sym c.arguments.ensures.left) (sym c.arguments.ensures.right)
    (subst (λ n. AllByRecursion (λ x. x < n) (rule_names (met_as c.args.turned r))) (met_names c.args.turned r ∙ sym c.names.ensures.names) met.below)
    met.paired met.over))
    c.plan_of_arguments.ensures
