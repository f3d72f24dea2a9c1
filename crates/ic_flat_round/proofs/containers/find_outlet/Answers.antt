use Rattle.std.proofs.Common.{◌≡◌, ℕ, ◌==◌, ◌∙◌, Option, None, Some, cond, option_map, sym, ap}
use Rattle.std.proofs.lemmas.Bool.{eq-eqb}
use Rattle.ic_settle.specs.declared.applicability.Outlet.{Outlet}
use Rattle.ic_settle.specs.lemmas.Containers.{applicable_of, elsewhere}
use Rattle.ic_settle.specs.lemmas.Deciding.{outlet_second}
use Rattle.ic_flat_round.specs.inner.Heads.{head, told_at}
use Rattle.ic_flat_round.specs.inner.Places.{found}
use Rattle.ic_flat_round.proofs.containers.find_outlet.Goals as goal

pub returns-then-target-place-2-clause-root : goal.returns-then-target-place-2-clause-root
returns-then-target-place-2-clause-root c = λ r is.
    let one = c.root-target.ensures.root r is in
    let two = c.root-target-2.ensures.root r one.1 in
    let second = outlet_second r c.args.place (found c.args.places.now) c.args.side (head c.args.word) c.in-Name.name (c.in_ok-first.first, c.in_ok-first.last) c.root-target.result c.root-target-2.result
    (ap head c.in-Name.is) c.in_ok-first.ensures one.0 two.0 c.if-target-place.false c.if-target-place-2.true in
    (ap (option_map (λ o. (applicable_of o, o.target))) second, two.1)

pub returns-clause-root : goal.returns-clause-root
returns-clause-root c = λ r is.
    let one = c.root-target.ensures.root r is in
    let two = c.root-target-2.ensures.root r one.1 in
    let place = c.args.place in
    let other : ℕ → Option ℕ = λ y. elsewhere r place (found c.args.places.now y) in
    let first = r c.in_ok-first.first in
    let last = r c.in_ok-first.last in
    let none : other c.in-Name.name ≡ None =
    ap (elsewhere r place) (sym c.in_ok-first.ensures)
    ∙ ap (λ b. cond b (cond (last == place) None (Some last)) (Some first)) (eq-eqb first place (sym one.0 ∙ c.if-target-place.false))
    ∙ ap (λ b. cond b None (Some last)) (eq-eqb last place (sym two.0 ∙ c.if-target-place-2.false)) in
    let make : ℕ → Outlet = λ target. record { name = c.in-Name.name; side = c.args.side; target = target } in
    (sym (ap (told_at other c.args.side) (ap head c.in-Name.is) ∙ ap (option_map (λ o. (applicable_of o, o.target))) (ap (option_map make) none)), two.1)
