use Rattle.std.proofs.Common.{◌≡◌, ◌+◌, ℕ, List, ◌++◌, length, map, not, filter, sym, ap, subst, ◌∙◌, arith}
use Rattle.std.specs.Prelude.{IsPermutation}
use Rattle.std.proofs.lemmas.List.{length-map}
use Rattle.ic_term.specs.Symbol.{Symbol}
use Rattle.ic_rules.specs.RuleSet.{Rules}
use Rattle.ic_machine.specs.declared.plan.Link.{Link}
use Rattle.ic_machine.specs.Building.{CanBegin}
use Rattle.ic_machine.specs.Runs.{Starts}
use Rattle.ic_meaning.specs.Plans.{first_made}
use Rattle.ic_meaning.specs.First.{joins_agents}
use Rattle.ic_plans.specs.inner.Laying.{IsLaidOut}
use Rattle.ic_plans.proofs.GenerationLemmas.{moved_first, pairs_first}
use Rattle.ic_plans.proofs.LayLemmas.{begins_with, can_begin, laid_with}
use Rattle.ic_plans.proofs.generation.begin_with_pairs.Goals as goal
use Rattle.ic_plans.proofs.generation.begin_with_pairs.Goals.{In_ok-links}

-- links that stand in this order
abbrev ordered : ℕ → ℕ → List Link → List Link
ordered constants made links = filter (joins_agents constants made) links ++ filter (λ l. not (joins_agents constants made l)) links

module _ (c : In_ok-links) where
  constants : c.len-constants.result ≡ length (map (λ (s : Symbol). s.arity) c.args.system.now.rules.symbols)
  constants =
      let ss = c.args.system.now.rules.symbols in
      c.len-constants.ensures.len ∙ (ap length (c.symbols.ensures.symbols ∙ ap (λ (r : Rules). r.symbols) (c.deref.ensures ∙ c.rules.ensures.rules))
      ∙ sym (length-map ss (λ (s : Symbol). s.arity)))

  sorted : let laid = c.in_ok-builder.ensures.laid in
      let test = joins_agents (length (map (λ (s : Symbol). s.arity) c.args.system.now.rules.symbols))
      (first_made (map (λ (s : Symbol). s.arity) c.args.system.now.rules.symbols) (length c.in_ok-builder.field-0.first.given.items) laid.plan) in
      (c.in_ok-links.links.items ≡ filter test laid.plan.links ++ filter (λ l. not (test l)) laid.plan.links)
      × (c.in_ok-links.pairs ≡ length (filter test laid.plan.links))
  sorted =
      let laid = c.in_ok-builder.ensures.laid in
      let given = length c.in_ok-builder.field-0.first.given.items in
      let count = constants in
      let made : c.len-constants.result + c.len.result + c.in_ok-builder.field-0.first.names
      ≡ first_made (map (λ (s : Symbol). s.arity) c.args.system.now.rules.symbols) given laid.plan = omega (arith, count, c.len.ensures, laid.names_are) in
      let links : c.deref-2.result.now ≡ laid.plan.links = c.deref-2.ensures.value ∙ sym laid.links_are in (
        c.in_ok-links.ensures.links ∙ (λ i. ordered (count i) (made i) (links i)),
        c.in_ok-links.ensures.pairs ∙ (λ i. length (filter (joins_agents (count i) (made i)) (links i))),
      )

  abbrev laid : IsLaidOut (map (λ (s : Symbol). s.arity) c.args.system.now.rules.symbols) c.in_ok-builder.field-0.first.given.items c.args.system.now.config
      c.in_ok-builder.field-0.first.names c.in_ok-builder.field-0.interface.items c.in_ok-links.links.items c.in_ok-builder.field-0.builder
  laid =
      let l = c.in_ok-builder.field-0 in
      let old = c.in_ok-builder.ensures.laid in
      let test = joins_agents (length (map (λ (s : Symbol). s.arity) c.args.system.now.rules.symbols))
      (first_made (map (λ (s : Symbol). s.arity) c.args.system.now.rules.symbols) (length l.first.given.items) old.plan) in
      laid_with c.args.system.now l.first.given.items l.first.names l.interface.items l.links.items l.builder old c.in_ok-links.links.items
      (subst (λ (ls : List Link). IsPermutation ls c.in_ok-links.links.items) old.links_are
      (subst (λ (ls : List Link). IsPermutation old.plan.links ls) (sym sorted.0) (moved_first test old.plan.links)))

pub finish-requires-clause-arities : goal.finish-requires-clause-arities
finish-requires-clause-arities c = c.in_ok-builder.ensures.laid.arities_are ∙ sym c.requires.arities

pub finish-requires-clause-begins : goal.finish-requires-clause-begins
finish-requires-clause-begins c =
    let l = c.in_ok-builder.field-0 in
    let now = laid (goal.at.finish-requires-clause-begins c).In_ok-links in
    subst (λ (ls : List Link). CanBegin ls c.deref-4.result.now l.builder) (sym c.deref-3.ensures.value)
    (subst (λ (ks : List ℕ). CanBegin c.in_ok-links.links.items ks l.builder) (sym c.deref-4.ensures.value)
    (can_begin c.args.system.now l.first.given.items l.first.names l.interface.items c.in_ok-links.links.items l.builder now))

pub returns-clause-begins : goal.returns-clause-begins
returns-clause-begins c =
    let l = c.in_ok-builder.field-0 in
    let p = c.args.program.now in
    let n = c.in_ok-machine.machine in
    let d = (goal.at.returns-clause-begins c).In_ok-links in
    let order = sorted d in
    let starts : (can : CanBegin c.in_ok-links.links.items l.interface.items l.builder) → Starts p can.given can.plan l.interface.items n =
    subst (λ (ls : List Link). (can : CanBegin ls l.interface.items l.builder) → Starts p can.given can.plan l.interface.items n) c.deref-3.ensures.value
    (subst (λ (ks : List ℕ). (can : CanBegin c.deref-3.result.now ks l.builder) → Starts p can.given can.plan ks n) c.deref-4.ensures.value
    c.in_ok-machine.ensures.starts) in (
      begins_with c.args.system.now l.first.given.items l.first.names l.interface.items c.in_ok-links.links.items l.builder (laid d) p n
          (starts (can_begin c.args.system.now l.first.given.items l.first.names l.interface.items c.in_ok-links.links.items l.builder (laid d))),
      pairs_first (map (λ (s : Symbol). s.arity) c.args.system.now.rules.symbols) (length l.first.given.items) c.in_ok-builder.ensures.laid.plan
          c.in_ok-links.links.items c.in_ok-links.pairs order.0 order.1,
    )
