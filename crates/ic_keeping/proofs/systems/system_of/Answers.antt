use Rattle.std.proofs.Common.{⊎_elim, inl, inr, sym, subst, arith}
use Rattle.std.proofs.lemmas.Result.{err_from_is_err_and}
use Rattle.std.specs.Prelude.{IsTrue}
use Rattle.std.specs.Arc.{arc_value}
use Rattle.ic_term.specs.Symbol.{is_over}
use Rattle.ic_flat.specs.Flat.{configuration_of}
use Rattle.ic_rules.specs.RuleSet.{Rules}
use Rattle.ic_rules.specs.System.{SystemParts}
use Rattle.ic_round.specs.Naming.{HasNames}
use Rattle.ic_keeping.proofs.Refusing.{over_parts}
use Rattle.ic_keeping.proofs.WayLemmas.{names_of}
use Rattle.ic_keeping.proofs.systems.system_of.Goals as goal

pub returns-in-Some-clause-names : goal.returns-in-Some-clause-names
returns-in-Some-clause-names c = subst (λ (s : SystemParts). HasNames s.config) (sym c.in-Some.ensures.system) (names_of c.in_ok-config.config c.next.ensures.sound)

pub returns-in_err-config-clause-refused : goal.returns-in_err-config-clause-refused
returns-in_err-config-clause-refused c equations whole counted twice over =
    let e = err_from_is_err_and c.from_residual.result c.from_residual.ensures.1 in
    rw (e.1, e.2) (c.in_err-config.ensures.refused equations whole counted twice)

pub returns-in-None-clause-refused : goal.returns-in-None-clause-refused
returns-in-None-clause-refused c equations whole counted twice over =
    let here = over_parts (arc_value c.args.rules.now).symbols c.in_ok-config.config (configuration_of c.args.words.items c.args.terms 0)
    c.in_ok-config.ensures.interface c.in_ok-config.ensures.equations over in
    let there = subst (λ (rs : Rules). IsTrue (is_over rs.symbols c.in_ok-config.config)) (sym c.in_ok-clone.ensures.cases) here in
    let e = c.in-None.ensures.over.1 there in
    cc (e)

pub returns-in_err-config-clause-limit : goal.returns-in_err-config-clause-limit
returns-in_err-config-clause-limit c twice =
    let e = err_from_is_err_and c.from_residual.result c.from_residual.ensures.1 in
    rw (e.1, e.2) (λ limit. ⊎_elim (λ many. inl many) (λ high. inr (omega (arith, high))) (c.in_err-config.ensures.limit twice limit))

pub returns-in_err-config-clause-only : goal.returns-in_err-config-clause-only
returns-in_err-config-clause-only c =
    let e = err_from_is_err_and c.from_residual.result c.from_residual.ensures.1 in
    rw (e.1, e.2) c.in_err-config.ensures.only
