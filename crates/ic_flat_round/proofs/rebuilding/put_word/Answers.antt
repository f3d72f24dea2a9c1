use Rattle.std.proofs.Common.{ℕ, ◌+◌, Option, None, Some, drop, sym, arith}
use Rattle.std.proofs.lemmas.List.{length-drop}
use Rattle.ic_flat.specs.declared.word.Word.TheVariants.{Name}
use Rattle.ic_flat.specs.lemmas.WordLaws.{forest-le}
use Rattle.ic_flat_rules.specs.Standing.{tree_at}
use Rattle.ic_flat_round.specs.inner.Waits.{waiting}
use Rattle.ic_flat_round.proofs.BoundEntries.{taken_is}
use Rattle.ic_flat_round.proofs.StackedSpans.{span_of-one, span-agent}
use Rattle.ic_flat_round.proofs.WrittenSpans.{word-bound, word-name, word-agent}
use Rattle.ic_flat_round.proofs.rebuilding.put_word.Goals as goal

pub overflow_add-result : goal.overflow_add-result
overflow_add-result c =
    let ws = c.args.words.now in
    let parts = span-agent ws c.args.span (Name 0) c.in-Agent.sym c.in-Agent.arity c.requires.whole c.requires.span c.requires.some c.in-Agent.is in
    let enough = parts.5 in
    omega (arith, enough, forest-le (drop (c.args.span.place + 1) ws), length-drop (c.args.span.place + 1) ws)

pub returns-in_ok-push-in-Some-clause-span : goal.returns-in_ok-push-in-Some-clause-span
returns-in_ok-push-in-Some-clause-span c =
    (span_of-one c.args.words.now c.in-Some.place (c.requires.within c.in-Name.name c.in-Some.place (sym c.in-Some.ensures.value))).0

pub returns-in_ok-push-in-Agent-clause-span : goal.returns-in_ok-push-in-Agent-clause-span
returns-in_ok-push-in-Agent-clause-span c =
    (span-agent c.args.words.now c.args.span (Name 0) c.in-Agent.sym c.in-Agent.arity c.requires.whole c.requires.span c.requires.some c.in-Agent.is).5

pub returns-in_ok-push-in-Some-clause-puts : goal.returns-in_ok-push-in-Some-clause-puts
returns-in_ok-push-in-Some-clause-puts c =
    let ws = c.args.words.now in
    let es = c.args.bound.now.entries in
    let es' = c.unbound.new.bound.entries in
    let taken = taken_is (tree_at ws) es es' c.in-Name.name (Some c.in-Some.place) c.in-Some.ensures.value c.in-Some.ensures.updates c.in-Some.ensures.entries c.in-Some.ensures.unchanged in
    (word-bound ws c.args.span (Name 0) c.requires.span c.requires.some (waiting ws es) (waiting ws es') c.args.out.now.items c.args.stack.now.items c.push.new.self.items
    c.in-Name.name c.in-Some.place c.in-Name.is taken (c.requires.within c.in-Name.name c.in-Some.place (sym c.in-Some.ensures.value)) c.in_ok-push-in-Some.ensures.items).0

pub returns-in_ok-push-in-Some-clause-less : goal.returns-in_ok-push-in-Some-clause-less
returns-in_ok-push-in-Some-clause-less c =
    let ws = c.args.words.now in
    let es = c.args.bound.now.entries in
    let es' = c.unbound.new.bound.entries in
    let taken = taken_is (tree_at ws) es es' c.in-Name.name (Some c.in-Some.place) c.in-Some.ensures.value c.in-Some.ensures.updates c.in-Some.ensures.entries c.in-Some.ensures.unchanged in
    (word-bound ws c.args.span (Name 0) c.requires.span c.requires.some (waiting ws es) (waiting ws es') c.args.out.now.items c.args.stack.now.items c.push.new.self.items
    c.in-Name.name c.in-Some.place c.in-Name.is taken (c.requires.within c.in-Name.name c.in-Some.place (sym c.in-Some.ensures.value)) c.in_ok-push-in-Some.ensures.items).1

pub returns-in_ok-push-in-None-clause-puts : goal.returns-in_ok-push-in-None-clause-puts
returns-in_ok-push-in-None-clause-puts c =
    let ws = c.args.words.now in
    let es = c.args.bound.now.entries in
    let es' = c.unbound.new.bound.entries in
    let nothing : Option ℕ = None in
    let absent = taken_is (tree_at ws) es es' c.in-Name.name nothing c.in-None.ensures.value c.in-None.ensures.updates c.in-None.ensures.entries c.in-None.ensures.unchanged in
    (word-name ws c.args.span (Name 0) c.requires.span c.requires.some (waiting ws es) (waiting ws es') c.args.out.now.items c.push-in-None.new.self.items c.args.stack.now.items
    c.in-Name.name c.in-Name.is absent.0 absent.1 c.in_ok-push-in-None.ensures.items).0

pub returns-in_ok-push-in-None-clause-less : goal.returns-in_ok-push-in-None-clause-less
returns-in_ok-push-in-None-clause-less c =
    let ws = c.args.words.now in
    let es = c.args.bound.now.entries in
    let es' = c.unbound.new.bound.entries in
    let nothing : Option ℕ = None in
    let absent = taken_is (tree_at ws) es es' c.in-Name.name nothing c.in-None.ensures.value c.in-None.ensures.updates c.in-None.ensures.entries c.in-None.ensures.unchanged in
    (word-name ws c.args.span (Name 0) c.requires.span c.requires.some (waiting ws es) (waiting ws es') c.args.out.now.items c.push-in-None.new.self.items c.args.stack.now.items
    c.in-Name.name c.in-Name.is absent.0 absent.1 c.in_ok-push-in-None.ensures.items).1

pub returns-in_ok-push-in-Agent-clause-puts : goal.returns-in_ok-push-in-Agent-clause-puts
returns-in_ok-push-in-Agent-clause-puts c =
    let ws = c.args.words.now in
    (word-agent ws c.args.span (Name 0) c.requires.span c.requires.some (waiting ws c.args.bound.now.entries) c.args.out.now.items c.push-in-Agent.new.self.items c.args.stack.now.items
    c.in-Agent.sym c.in-Agent.arity c.requires.whole c.in-Agent.is c.in_ok-push-in-Agent.ensures.items).0

pub returns-in_ok-push-in-Agent-clause-less : goal.returns-in_ok-push-in-Agent-clause-less
returns-in_ok-push-in-Agent-clause-less c =
    let ws = c.args.words.now in
    (word-agent ws c.args.span (Name 0) c.requires.span c.requires.some (waiting ws c.args.bound.now.entries) c.args.out.now.items c.push-in-Agent.new.self.items c.args.stack.now.items
    c.in-Agent.sym c.in-Agent.arity c.requires.whole c.in-Agent.is c.in_ok-push-in-Agent.ensures.items).1
