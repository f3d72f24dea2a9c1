use Rattle.std.proofs.Common.{◌≡◌, ◌≤◌, List, IsTrue, map, ap, sym, ◌∙◌, arith, subst}
use Rattle.std.specs.List.Sorted.{IsPermutation}
use Rattle.std.specs.List.{All, AllByRecursion, Contains, list_all}
use Rattle.ic_term.specs.Configuration.{configuration_nodes}
use Rattle.ic_term.specs.Symbol.{is_tree_over, is_pair_over}
use Rattle.ic_term.specs.declared.limits.TheConstants.{MAX_NODES, MAX_NEXT}
use Rattle.ic_round.specs.Firing.{fired, next_after}
use Rattle.ic_round.specs.Gathering.{Gapped, gathered, gapped, gap_at}
use Rattle.ic_round.specs.Works.{PlainWork, suits, result_of, works_from}
use Rattle.ic_round.specs.WorkViews.{work_of}
use Rattle.std.proofs.lemmas.Bool.{and_parts}
use Rattle.ic_round.specs.lemmas.SoundRules.{HasSoundRule, sound_rules}
use Rattle.ic_round.specs.lemmas.OverSymbols.{fired_over}
use Rattle.ic_round.specs.lemmas.AnyOrder.{any_order, any_results}
use Rattle.ic_round.specs.lemmas.Planned.{works-places, works-bases, works_suit}
use Rattle.ic_reference.proofs.WorkLists.{places_of_works, bases_of_works}
use Rattle.ic_round.specs.lemmas.RoundLemmas.{fired_is}
use Rattle.ic_reference.proofs.planning.plan.Goals as goal
use Rattle.ic_reference.proofs.planning.plan.Goals.{After-new}

works_are : (c : After-new) → map work_of c.in_ok-separated.separated.works.items ≡ works_from c.args.rules.now.rules 0 c.args.config.next c.args.config.equations
works_are c =
    let parts = c.into_parts-interface.ensures in
    c.in_ok-separated.ensures.works ∙ (λ i. works_from c.args.rules.now.rules 0 (parts.next i) (parts.equations i))

rest_is : (c : After-new) → c.new.result ≡ gapped c.args.rules.now.rules c.args.config
rest_is c =
    let parts = c.into_parts-interface.ensures in
    let rs = c.args.rules.now.rules in
    let equations = c.in_ok-separated.ensures.equations ∙ ap (map (gap_at rs)) parts.equations in
    let next = c.in_ok-separated.ensures.next ∙ (λ i. next_after rs (parts.next i) (parts.equations i)) in
    c.new.ensures ∙ (λ i. record { interface = parts.interface i; equations = equations i; next = next i })

pub returns-clause-places : goal.returns-clause-places
returns-clause-places c =
    places_of_works c.in_ok-separated.separated.works.items ∙ ap (map (λ (w : PlainWork). w.place)) (works_are c)
    ∙ works-places c.args.rules.now.rules 0 c.args.config.next c.args.config.equations

pub returns-clause-bases : goal.returns-clause-bases
returns-clause-bases c =
    bases_of_works c.in_ok-separated.separated.works.items ∙ ap (map (λ (w : PlainWork). w.base)) (works_are c)
    ∙ works-bases c.args.rules.now.rules 0 c.args.config.next c.args.config.equations

low : (c : After-new) → (fired c.args.rules.now.rules c.args.config).next ≤ MAX_NEXT
low c = let size = c.fired_size-size.ensures.names in let few = c.if-size-gt-MAX_NEXT.false in omega arith

sound : (c : After-new) → AllByRecursion (HasSoundRule c.args.rules.now.rules) c.args.config.equations
sound c =
    let rs = c.args.rules.now in
    let set = c.in_ok-separated.ensures.sound in
    let over = and_parts (list_all (is_tree_over rs.symbols) c.args.config.interface) (list_all (is_pair_over rs.symbols) c.args.config.equations) c.requires in
    sound_rules rs.symbols rs.rules c.args.config.equations set.fitting set.each over.1

pub returns-clause-suit : goal.returns-clause-suit
returns-clause-suit c =
    let P : List PlainWork → Type 0 = λ ws. AllByRecursion (λ w. IsTrue (suits c.args.rules.now.rules w)) ws in
    subst P (sym (works_are c)) (works_suit c.args.rules.now.rules 0 c.args.config.next c.args.config.equations (sound c) (low c))

pub returns-clause-fired : goal.returns-clause-fired
returns-clause-fired c =
    let size = c.fired_size-size.ensures.nodes in
    let few = c.if-size-gt-MAX_NODES.false in
    let small : configuration_nodes (fired c.args.rules.now.rules c.args.config) ≤ MAX_NODES = omega arith in
    fired_is c.args.rules.now.rules c.args.config (sound c) c.into_parts-interface.ensures.sound small (low c)

pub returns-clause-over : goal.returns-clause-over
returns-clause-over c =
    let rs = c.args.rules.now in
    fired_over rs.symbols rs.rules c.args.config c.in_ok-separated.ensures.sound.fitting c.requires

pub returns-clause-any_order : goal.returns-clause-any_order
returns-clause-any_order c fs same =
    let rs = c.args.rules.now.rules in
    let P : List PlainWork → Type 0 = λ ws. IsPermutation (map (result_of rs) ws) fs in
    ap (λ (g : Gapped). gathered g fs) (rest_is c) ∙ any_order rs c.args.config fs (subst P (works_are c) same)

pub returns-clause-any_results : goal.returns-clause-any_results
returns-clause-any_results c fs whole known full =
    let rs = c.args.rules.now.rules in
    let P : List PlainWork → Type 0 = λ ws. All (Contains (map (result_of rs) ws)) fs in
    any_results rs c.args.config fs whole (subst P (works_are c) known) (sym (ap (λ (g : Gapped). gathered g fs) (rest_is c)) ∙ full)
