use Rattle.std.proofs.Common.{◌≡◌, ◌∷◌, ◌++◌, ◌==◌, [], Some, cond, length, sym, ap, ◌∙◌, arith}
use Rattle.std.proofs.Math.ListN.{set}
use Rattle.std.specs.Ordering.{nat_cmp}
use Rattle.std.specs.BTreeMap.{get}
use Rattle.ic_nets.specs.Nets.{wire_of}
use Rattle.ic_nets.specs.inner.Named.{place_of}
use Rattle.ic_nets.proofs.WiringLemmas.{is_same, placed_again, placed_new, placed_within, stood_again, stood_new}
use Rattle.ic_nets.proofs.wiring.add_standing.Goals as goal

pub index-requires : goal.index-requires
index-requires c =
    let name = c.args.standing.now.name in
    let found = sym (c.requires name) ∙ sym (c.copied.ensures ∙ c.get.ensures.value) ∙ c.in-Some.is in
    let within = placed_within c.args.wires.now.items name c.in-Some.place found in
    omega (arith, within)

pub index_mut-requires : goal.index_mut-requires
index_mut-requires c =
    let name = c.args.standing.now.name in
    let found = sym (c.requires name) ∙ sym (c.copied.ensures ∙ c.get.ensures.value) ∙ c.in-Some.is in
    let within = placed_within c.args.wires.now.items name c.in-Some.place found in
    omega (arith, within)

pub returns-in-Some-clause-wires : goal.returns-in-Some-clause-wires
returns-in-Some-clause-wires c =
    let s = c.args.standing.now in
    let ws = c.args.wires.now.items in
    let place = c.in-Some.place in
    let found = sym (c.requires s.name) ∙ sym (c.copied.ensures ∙ c.get.ensures.value) ∙ c.in-Some.is in
    ap (λ w. set ws place (s.name, w)) (c.wire_of-wire.ensures ∙ ap (λ v. wire_of (Some v.1) s) c.index.ensures)
    ∙ sym (stood_again ws s place c.index.result.now found)

pub returns-in-Some-clause-indexed : goal.returns-in-Some-clause-indexed
returns-in-Some-clause-indexed c = λ n.
    let name = c.args.standing.now.name in
    let found = sym (c.requires name) ∙ sym (c.copied.ensures ∙ c.get.ensures.value) ∙ c.in-Some.is in
    c.requires n ∙ placed_again c.args.wires.now.items name c.in-Some.place c.wire_of-wire.result n found

pub returns-in_ok-push-in-None-clause-wires : goal.returns-in_ok-push-in-None-clause-wires
returns-in_ok-push-in-None-clause-wires c =
    let s = c.args.standing.now in
    let ws = c.args.wires.now.items in
    let none = sym (c.requires s.name) ∙ sym (c.copied.ensures ∙ c.get.ensures.value) ∙ c.in-None.is in
    c.in_ok-push-in-None.ensures.items ∙ ap (λ w. ws ++ (s.name, w) ∷ []) c.wire_of.ensures ∙ sym (stood_new ws s none)

pub returns-in_ok-push-in-None-clause-indexed : goal.returns-in_ok-push-in-None-clause-indexed
returns-in_ok-push-in-None-clause-indexed c = λ n.
    let name = c.args.standing.now.name in
    let ws = c.args.wires.now.items in
    let others = get nat_cmp c.args.places.now n in
    let none = sym (c.requires name) ∙ sym (c.copied.ensures ∙ c.get.ensures.value) ∙ c.in-None.is in
    let last : c.len.result ≡ length ws = omega (arith, c.len.ensures) in
    c.in_ok-insert-in-None.ensures.updates.0 n ∙ ap (λ b. cond b (Some c.len.result) others) (is_same name n)
    ∙ ap (λ k. cond (name == n) (Some k) others) last ∙ ap (cond (name == n) (Some (length ws))) (c.requires n)
    ∙ placed_new ws name c.wire_of.result n none ∙ ap (place_of n) (sym c.in_ok-push-in-None.ensures.items)
