use Rattle.std.proofs.Common.{◌≡◌, List, Ok, map, ap, sym, ◌∙◌, add-one, subst}
use Rattle.std.proofs.lemmas.List.Sorted.{IsPermutation-refl}
use Rattle.std.specs.List.Sorted.{IsPermutation}
use Rattle.ic_term.specs.Symbol.{is_over}
use Rattle.ic_term.specs.Configuration.{Configuration}
use Rattle.ic_round.specs.Works.{PlainFired}
use Rattle.ic_round.specs.WorkViews.{fired_of}
use Rattle.ic_round.specs.Rounds.{round, iterate}
use Rattle.ic_round.specs.Steps.{Steps}
use Rattle.ic_round.specs.lemmas.RoundLemmas.{plan_completes}
use Rattle.ic_round.specs.lemmas.SettledLemmas.{settled_over}
use Rattle.ic_round.specs.Firing.{fired}
use Rattle.ic_round.specs.lemmas.StepsLemmas.{round_reached}
use Rattle.ic_reference.proofs.rounds.round.Goals as goal

in_order : (all : List PlainFired) (fs : List PlainFired) → fs ≡ all → IsPermutation all fs
in_order all fs e = let P : List PlainFired → Type 0 = λ l. IsPermutation all l in subst P (sym e) (IsPermutation-refl all)

pub returns-in_ok-settle-in-Ok-clause-round : goal.returns-in_ok-settle-in-Ok-clause-round
returns-in_ok-settle-in-Ok-clause-round c =
    let all = plan_completes c.args.rules.now.rules c.args.config _ _ c.in_ok-plan.ensures.plan c.in_ok-plan.ensures.fired (in_order _ _ c.in_ok-results.ensures) in
    ap (λ (d : Configuration). Ok d) c.in_ok-settle-in-Ok.ensures.settled ∙ all.answer c.in-Ok.fired c.in-Ok.ensures

pub returns-in_ok-settle-in-Ok-clause-reached : goal.returns-in_ok-settle-in-Ok-clause-reached
returns-in_ok-settle-in-Ok-clause-reached c =
    let all = plan_completes c.args.rules.now.rules c.args.config _ _ c.in_ok-plan.ensures.plan c.in_ok-plan.ensures.fired (in_order _ _ c.in_ok-results.ensures) in
    let is_round : c.in_ok-settle-in-Ok.field-0 ≡ round c.args.rules.now.rules c.args.config = c.in_ok-settle-in-Ok.ensures.settled ∙ all.settles c.in-Ok.fired c.in-Ok.ensures in
    let P : Configuration → Type 0 = Steps c.args.rules.now.rules c.args.config in
    subst P (sym is_round) (round_reached c.args.rules.now.rules c.args.config)

pub returns-in_ok-settle-in-Ok-clause-over : goal.returns-in_ok-settle-in-Ok-clause-over
returns-in_ok-settle-in-Ok-clause-over c =
    let rs = c.args.rules.now in
    let all = plan_completes c.args.rules.now.rules c.args.config _ _ c.in_ok-plan.ensures.plan c.in_ok-plan.ensures.fired (in_order _ _ c.in_ok-results.ensures) in
    let is_round : c.in_ok-settle-in-Ok.field-0 ≡ round c.args.rules.now.rules c.args.config = c.in_ok-settle-in-Ok.ensures.settled ∙ all.settles c.in-Ok.fired c.in-Ok.ensures in
    ap (is_over rs.symbols) is_round ∙ settled_over rs.symbols (fired rs.rules c.args.config) c.in_ok-plan.ensures.over

pub gather-requires : goal.gather-requires
gather-requires c =
    (plan_completes c.args.rules.now.rules c.args.config _ (map fired_of c.in_ok-results.results.items) c.in_ok-plan.ensures.plan c.in_ok-plan.ensures.fired
    (in_order _ _ c.in_ok-results.ensures)).valid

pub returns-in_ok-settle-in-Ok-clause-counted : goal.returns-in_ok-settle-in-Ok-clause-counted
returns-in_ok-settle-in-Ok-clause-counted c start n e =
    let rs = c.args.rules.now.rules in
    let all = plan_completes c.args.rules.now.rules c.args.config _ _ c.in_ok-plan.ensures.plan c.in_ok-plan.ensures.fired (in_order _ _ c.in_ok-results.ensures) in
    let is_round : c.in_ok-settle-in-Ok.field-0 ≡ round c.args.rules.now.rules c.args.config = c.in_ok-settle-in-Ok.ensures.settled ∙ all.settles c.in-Ok.fired c.in-Ok.ensures in
    is_round ∙ ap (round rs) e ∙ ap (λ k. iterate rs k start) (sym (add-one n))
