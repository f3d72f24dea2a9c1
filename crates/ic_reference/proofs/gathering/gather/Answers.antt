use Rattle.std.proofs.Common.{◌≡◌, Ok, map, option_map, length, ap, sym, ◌∙◌, arith}
use Rattle.std.proofs.lemmas.List.{with_items_is}
use Rattle.std.specs.Vec.Iter.{into_iter_items, into_iter_len}
use Rattle.ic_term.specs.Term.{pair}
use Rattle.ic_term.specs.Configuration.{Configuration}
use Rattle.ic_round.specs.WorkViews.{fired_of}
use Rattle.ic_reference.proofs.Gathers.{next_placed, next_stranger, ended, gathered-lost, gathered-strange, gathered-full}
use Rattle.ic_reference.proofs.gathering.gather.Goals as goal

pub loop-fired-preserved-then-not-put : goal.loop-fired-preserved-then-not-put
loop-fired-preserved-then-not-put c =
    let first = c.in-Some.ensures.steps.0 in
    let counted : into_iter_len c.next.new.self ≡ length (into_iter_items c.next.new.self) = omega (arith, c.in-Some.ensures.steps.1, c.loop-fired.invariant.0, ap length first) in
    let same : length c.put.new.slots ≡ c.loop-fired.slots.len = c.put.auto.slots ∙ c.deref_mut.ensures.len in
    let put = rw c.deref_mut.ensures.value at c.put.ensures in
    (counted, rw (with_items_is c.loop-fired.slots c.put.new.slots same) (next_stranger _ _ _ _ _ _ c.in-Some.fired _ _ first c.loop-fired.invariant.1 put c.if-not-put.true))

pub loop-fired-preserved : goal.loop-fired-preserved
loop-fired-preserved c =
    let first = c.in-Some.ensures.steps.0 in
    let counted : into_iter_len c.next.new.self ≡ length (into_iter_items c.next.new.self) = omega (arith, c.in-Some.ensures.steps.1, c.loop-fired.invariant.0, ap length first) in
    let same : length c.put.new.slots ≡ c.loop-fired.slots.len = c.put.auto.slots ∙ c.deref_mut.ensures.len in
    let put = rw c.deref_mut.ensures.value at c.put.ensures in
    (counted, rw (with_items_is c.loop-fired.slots c.put.new.slots same) (next_placed _ _ _ _ _ _ c.in-Some.fired _ _ first c.loop-fired.invariant.1 put c.if-not-put.false))

pub returns-in_default : goal.returns-in_default
returns-in_default c =
    let empty : length (into_iter_items c.loop-fired.fired-iterator) ≡ 0 = sym c.loop-fired.invariant.0 ∙ c.in-None.ensures.steps.0 in
    let done = ended _ _ _ _ (into_iter_items c.loop-fired.fired-iterator) empty c.loop-fired.invariant.1 in
    sym (gathered-lost c.args.rest (map fired_of c.args.results.items) _ _ done (sym c.in_ok-equations.ensures ∙ ap (option_map (λ es. map pair es.items)) c.in_default.is))

pub returns-then-strange : goal.returns-then-strange
returns-then-strange c =
    let empty : length (into_iter_items c.loop-fired.fired-iterator) ≡ 0 = sym c.loop-fired.invariant.0 ∙ c.in-None.ensures.steps.0 in
    let done = ended _ _ _ _ (into_iter_items c.loop-fired.fired-iterator) empty c.loop-fired.invariant.1 in
    sym (gathered-strange c.args.rest (map fired_of c.args.results.items) _ _ (map pair c.in-Some-2.equations.items) done
    (sym c.in_ok-equations.ensures ∙ ap (option_map (λ es. map pair es.items)) c.in-Some-2.is) c.if-strange.true)

pub from_parts-requires : goal.from_parts-requires
from_parts-requires c =
    let empty : length (into_iter_items c.loop-fired.fired-iterator) ≡ 0 = sym c.loop-fired.invariant.0 ∙ c.in-None.ensures.steps.0 in
    let done = ended _ _ _ _ (into_iter_items c.loop-fired.fired-iterator) empty c.loop-fired.invariant.1 in
    let full = gathered-full c.args.rest (map fired_of c.args.results.items) _ _ (map pair c.in-Some-2.equations.items) done
    (sym c.in_ok-equations.ensures ∙ ap (option_map (λ es. map pair es.items)) c.in-Some-2.is) c.if-strange.false in
    let parts = c.into_parts-interface.ensures in
    rw (parts.interface, parts.next) (c.requires _ full)

pub returns : goal.returns
returns c =
    let empty : length (into_iter_items c.loop-fired.fired-iterator) ≡ 0 = sym c.loop-fired.invariant.0 ∙ c.in-None.ensures.steps.0 in
    let done = ended _ _ _ _ (into_iter_items c.loop-fired.fired-iterator) empty c.loop-fired.invariant.1 in
    let full = gathered-full c.args.rest (map fired_of c.args.results.items) _ _ (map pair c.in-Some-2.equations.items) done
    (sym c.in_ok-equations.ensures ∙ ap (option_map (λ es. map pair es.items)) c.in-Some-2.is) c.if-strange.false in
    let parts = c.into_parts-interface.ensures in
    let made = c.from_parts.ensures ∙ (λ i. record { interface = parts.interface i; equations = map pair c.in-Some-2.equations.items; next = parts.next i }) in
    ap (λ (d : Configuration). Ok d) made ∙ sym full
