use Rattle.std.proofs.Common.{◌≡◌, ◌<◌, ℕ, List, length, sym, ap, ◌∙◌, arith, subst as transport}
use Rattle.std.proofs.Math.ListN.{set}
use Rattle.std.proofs.lemmas.List.{with_items_is}
use Rattle.ic_settle.specs.lemmas.Containers.{IsRoot}
use Rattle.ic_settle.specs.lemmas.Links.{still-free, set-linked, set-unlinked, set-root}
use Rattle.ic_flat_round.specs.inner.Heads.{heads}
use Rattle.ic_flat_round.specs.inner.Places.{found}
use Rattle.ic_flat_round.proofs.HeadLemmas.{chosen-some}
use Rattle.ic_flat_round.proofs.containers.Containers.applicable.Goals as goal

pub first_outlet-requires-clause-known : goal.first_outlet-requires-clause-known
first_outlet-requires-clause-known c = λ y p is. rw c.deref_mut.ensures.value (c.requires.known y p is)

pub returns-in_err-applicable-clause-free : goal.returns-in_err-applicable-clause-free
returns-in_err-applicable-clause-free c =
    let same : length c.first_outlet.new.links ≡ c.args.self.now.links.len = c.first_outlet.auto.links ∙ c.deref_mut.ensures.len in
    let free = still-free c.args.self.now.links.items c.deref_mut.result.now c.first_outlet.new.links c.args.place c.requires.free c.deref_mut.ensures.value c.first_outlet.auto.links c.in_err-applicable.ensures.unlinked in
    rw (with_items_is c.args.self.now.links c.first_outlet.new.links same) (λ e above within. free e (omega arith) within)

pub returns-clause-linked : goal.returns-clause-linked
returns-clause-linked c =
    let links = c.first_outlet.new.links in
    let same : length links ≡ c.args.self.now.links.len = c.first_outlet.auto.links ∙ c.deref_mut.ensures.len in
    let free = still-free c.args.self.now.links.items c.deref_mut.result.now links c.args.place c.requires.free c.deref_mut.ensures.value c.first_outlet.auto.links c.in_ok-applicable.ensures.unlinked in
    let inside : c.args.place < length links = omega (arith, c.requires.inside, c.first_outlet.auto.links, ap length c.deref_mut.ensures.value) in
    let to = c.in_ok-applicable.ensures.target in
    rw (with_items_is c.args.self.now.links links same) (set-linked links c.in_ok-applicable.ensures.linked c.args.place c.in_ok-applicable.target inside free to.0 to.1.0 to.1.1)

pub returns-clause-free : goal.returns-clause-free
returns-clause-free c =
    let links = c.first_outlet.new.links in
    let same : length links ≡ c.args.self.now.links.len = c.first_outlet.auto.links ∙ c.deref_mut.ensures.len in
    let free = still-free c.args.self.now.links.items c.deref_mut.result.now links c.args.place c.requires.free c.deref_mut.ensures.value c.first_outlet.auto.links c.in_ok-applicable.ensures.unlinked in
    let inside : c.args.place < length links = omega (arith, c.requires.inside, c.first_outlet.auto.links, ap length c.deref_mut.ensures.value) in
    let to = c.in_ok-applicable.ensures.target in
    rw (with_items_is c.args.self.now.links links same) (set-unlinked links c.in_ok-applicable.ensures.linked c.args.place c.in_ok-applicable.target inside free to.0 to.1.0 to.1.1)

pub returns-clause-chosen : goal.returns-clause-chosen
returns-clause-chosen c =
    let links = c.first_outlet.new.links in
    let same : length links ≡ c.args.self.now.links.len = c.first_outlet.auto.links ∙ c.deref_mut.ensures.len in
    let free = still-free c.args.self.now.links.items c.deref_mut.result.now links c.args.place c.requires.free c.deref_mut.ensures.value c.first_outlet.auto.links c.in_ok-applicable.ensures.unlinked in
    let inside : c.args.place < length links = omega (arith, c.requires.inside, c.first_outlet.auto.links, ap length c.deref_mut.ensures.value) in
    let to = c.in_ok-applicable.ensures.target in
    let target = c.in_ok-applicable.target in
    rw (with_items_is c.args.self.now.links links same) (λ r is.
    let P : List ℕ → Type 0 = λ l. IsRoot l r in
    let ends = c.in_ok-applicable.ensures.root r (transport P (sym c.deref_mut.ensures.value) is) in
    chosen-some r c.args.place (found c.args.self.now.places) (heads c.args.left c.args.right) (set links c.args.place target) c.in_ok-applicable.applicable target ends.0
    (set-root links c.in_ok-applicable.ensures.linked c.args.place target inside free to.0 to.1.0 to.1.1 r ends.1))
