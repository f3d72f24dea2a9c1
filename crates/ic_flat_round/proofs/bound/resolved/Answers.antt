use Rattle.std.proofs.Common.{◌≡◌, ℕ, ◌+◌, ◌<◌, List, Option, None, Some, take, drop, sym, arith, subst as transport}
use Rattle.ic_term.specs.Tree.{Tree, agent, trees_of}
use Rattle.ic_settle.specs.lemmas.Waiting.{IsTaken, Resolves, nodes_kept}
use Rattle.ic_settle.specs.lemmas.PutEach.{one_node}
use Rattle.ic_settle.specs.lemmas.Delays.{ResolvesSoFar, resolves-start, resolves-more, resolves-name, resolves-agent}
use Rattle.ic_flat.specs.declared.word.Word.TheVariants.{Name}
use Rattle.ic_flat.specs.Words.{forest}
use Rattle.ic_flat_rules.specs.Standing.{tree_at}
use Rattle.ic_flat_round.specs.inner.Waits.{waiting}
use Rattle.ic_flat_rules.specs.lemmas.WordPlaces.{name_at, agent_at}
use Rattle.ic_flat_round.proofs.BoundEntries.{taken_is}
use Rattle.ic_flat_round.proofs.BoundPlaces.{within-removed}
use Rattle.ic_flat_round.proofs.bound.resolved.Goals as goal

pub loop-place-init : goal.loop-place-init
loop-place-init c = record {
  there = c.requires.there;
  within = c.requires.within;
  so_far = resolves-start (waiting c.args.words.now c.args.bound.now.entries) (tree_at c.args.words.now c.args.place);
}

pub loop-place-smaller : goal.loop-place-smaller
loop-place-smaller c =
    let ws = c.args.words.now in
    let u = tree_at ws c.in-Some.term in
    let taken : IsTaken (waiting ws c.loop-place.bound.entries) (waiting ws c.unbound.new.bound.entries) c.in-Name.name u =
    taken_is (tree_at ws) c.loop-place.bound.entries c.unbound.new.bound.entries c.in-Name.name (Some c.in-Some.term)
    c.in-Some.ensures.value c.in-Some.ensures.updates c.in-Some.ensures.entries c.in-Some.ensures.unchanged in
    let fewer = taken.nodes in
    let some = (one_node u).1 in
    let less : nodes_kept (waiting ws c.unbound.new.bound.entries) < nodes_kept (waiting ws c.loop-place.bound.entries) = omega (arith, fewer, some) in
    less

pub loop-place-preserved : goal.loop-place-preserved
loop-place-preserved c =
    let ws = c.args.words.now in
    let i = c.loop-place.invariant in
    let es = c.loop-place.bound.entries in
    let es' = c.unbound.new.bound.entries in
    let x = c.in-Name.name in
    let u = tree_at ws c.in-Some.term in
    let given = waiting ws c.args.bound.now.entries in
    let t = tree_at ws c.args.place in
    let taken : IsTaken (waiting ws es) (waiting ws es') x u =
    taken_is (tree_at ws) es es' x (Some c.in-Some.term) c.in-Some.ensures.value c.in-Some.ensures.updates c.in-Some.ensures.entries c.in-Some.ensures.unchanged in
    let P : Tree → Type 0 = λ v. ResolvesSoFar given (waiting ws es) t v in
    record {
      there = i.within x c.in-Some.term (sym c.in-Some.ensures.value);
      within = within-removed ws es es' x i.within c.in-Some.ensures.updates;
      so_far = resolves-more given (waiting ws es) (waiting ws es') t u x (transport P (name_at ws c.loop-place.place (Name 0) x i.there c.in-Name.is) i.so_far) taken;
    }

pub returns-in-None-clause-resolves : goal.returns-in-None-clause-resolves
returns-in-None-clause-resolves c =
    let ws = c.args.words.now in
    let i = c.loop-place.invariant in
    let es = c.loop-place.bound.entries in
    let es' = c.unbound.new.bound.entries in
    let x = c.in-Name.name in
    let given = waiting ws c.args.bound.now.entries in
    let t = tree_at ws c.args.place in
    let nothing : Option ℕ = None in
    let absent = taken_is (tree_at ws) es es' x nothing c.in-None.ensures.value c.in-None.ensures.updates c.in-None.ensures.entries c.in-None.ensures.unchanged in
    let here = name_at ws c.loop-place.place (Name 0) x i.there c.in-Name.is in
    let P : Tree → Type 0 = λ v. ResolvesSoFar given (waiting ws es) t v in
    let Q : Tree → Type 0 = λ v. Resolves given (waiting ws es) t v in
    let R : List (ℕ × Tree) → Type 0 = λ w. Resolves given w t (tree_at ws c.loop-place.place) in
    transport R (sym absent.1) (transport Q (sym here) (resolves-name given (waiting ws es) t x (transport P here i.so_far) absent.0))

pub returns-in-Agent-clause-resolves : goal.returns-in-Agent-clause-resolves
returns-in-Agent-clause-resolves c =
    let ws = c.args.words.now in
    let i = c.loop-place.invariant in
    let es = waiting ws c.loop-place.bound.entries in
    let given = waiting ws c.args.bound.now.entries in
    let t = tree_at ws c.args.place in
    let s = c.in-Agent.field-0 in
    let ts = trees_of (take c.in-Agent.field-1 (forest (drop (c.loop-place.place + 1) ws))) in
    let here : tree_at ws c.loop-place.place ≡ agent s ts = agent_at ws c.loop-place.place (Name 0) s c.in-Agent.field-1 i.there c.in-Agent.is in
    let P : Tree → Type 0 = λ v. ResolvesSoFar given es t v in
    let Q : Tree → Type 0 = λ v. Resolves given es t v in
    transport Q (sym here) (resolves-agent given es t s ts (transport P here i.so_far))
