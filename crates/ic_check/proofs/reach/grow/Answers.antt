use Rattle.std.proofs.Common.{ℕ, List, refl, sym, subst}
use Rattle.ic_check.specs.inner.Growing.{HasNoReady, IsReadyAt, Joins}
use Rattle.ic_check.specs.declared.reach.Making.{Making}
use Rattle.ic_check.proofs.Growth.{IsGrown, grown_begin, grown_end, grown_next}
use Rattle.ic_check.proofs.reach.grow.Goals as goal

pub loop-place-init : goal.loop-place-init
loop-place-init c = record { grown = grown_begin c.args.waiting.items c.args.seen.now.items }

pub loop-place-preserved : goal.loop-place-preserved
loop-place-preserved c =
    let waiting = c.loop-place.waiting.items in
    let now = c.loop-place.seen.items in
    let new = c.join.new.seen.items in
    let making = c.remove-making.result in
    let half : IsReadyAt c.deref-in-loop-place.result.now waiting c.in-Some.place =
    subst (λ (ws : List Making). IsReadyAt c.deref-in-loop-place.result.now ws c.in-Some.place) c.deref.ensures.value c.in-Some.ensures.ready in
    let ready : IsReadyAt now waiting c.in-Some.place = subst (λ (l : List ℕ). IsReadyAt l waiting c.in-Some.place) c.deref-in-loop-place.ensures.value half in
    let joins : Joins now making.made.items new = subst (λ (l : List ℕ). Joins now l new) c.deref-in-Some.ensures.value c.in_ok-join.ensures in
    record {
      grown = subst (λ (ws : List Making). IsGrown c.args.waiting.items c.args.seen.now.items ws new) (sym c.remove-making.ensures.items)
          (grown_next c.args.waiting.items c.args.seen.now.items waiting now c.in-Some.place making new c.loop-place.invariant.grown ready c.remove-making.ensures.value joins);
    }

pub returns : goal.returns
returns c =
    let waiting = c.loop-place.waiting.items in
    let now = c.loop-place.seen.items in
    let half : HasNoReady c.deref-in-loop-place.result.now waiting =
    subst (λ (ws : List Making). HasNoReady c.deref-in-loop-place.result.now ws) c.deref.ensures.value (c.in_default.ensures.none refl) in
    let none : HasNoReady now waiting = subst (λ (l : List ℕ). HasNoReady l waiting) c.deref-in-loop-place.ensures.value half in
    grown_end c.args.waiting.items c.args.seen.now.items waiting now c.loop-place.invariant.grown none
