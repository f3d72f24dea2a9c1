use Rattle.std.proofs.Common.{◌≡◌, ◌+◌, ◌≤◌, ◌∷◌, List, [], get_or, length, map, drop, ap, sym, ◌∙◌, subst as transport}
use Rattle.std.proofs.lemmas.List.{drop_all}
use Rattle.ic_term.specs.Tree.{Tree}
use Rattle.ic_flat.specs.Flat.{sides}
use Rattle.ic_flat_round.specs.declared.pass.Kept.{Kept}
use Rattle.ic_flat_round.specs.declared.rebuilding.Span.{Span}
use Rattle.ic_flat_rules.specs.Standing.{tree_at}
use Rattle.ic_flat_round.specs.inner.Waits.{waiting, kept_at}
use Rattle.ic_flat_round.specs.inner.Rebuilding.{IsSpan, PutsOn, span_terms, state}
use Rattle.ic_flat_round.proofs.PutWords.{puts-both, puts-more}
use Rattle.ic_flat_round.proofs.StackedSpans.{span_of-one, kept_there, sides-more}
use Rattle.ic_flat_round.proofs.rebuilding.put_equations.Goals as goal

pub put_terms-requires-clause-span : goal.put_terms-requires-clause-span
put_terms-requires-clause-span c =
    let ws = c.args.words.now in
    let there = kept_there ws c.args.kept.now c.loop-equation.equation-index (record { left = 0; right = 0 }) c.requires.kept c.loop-equation-test.true in
    transport (λ (s : Span). IsSpan ws s) (sym c.one_term.ensures) (span_of-one ws (get_or c.args.kept.now c.loop-equation.equation-index (record { left = 0; right = 0 })).left there.0).0

pub put_terms-requires-in-loop-equation-clause-span : goal.put_terms-requires-in-loop-equation-clause-span
put_terms-requires-in-loop-equation-clause-span c =
    let ws = c.args.words.now in
    let there = kept_there ws c.args.kept.now c.loop-equation.equation-index (record { left = 0; right = 0 }) c.requires.kept c.loop-equation-test.true in
    transport (λ (s : Span). IsSpan ws s) (sym c.one_term-in-loop-equation.ensures) (span_of-one ws (get_or c.args.kept.now c.loop-equation.equation-index (record { left = 0; right = 0 })).right there.1).0

pub loop-equation-preserved : goal.loop-equation-preserved
loop-equation-preserved c =
    let ws = c.args.words.now in
    let kept = c.args.kept.now in
    let n = c.loop-equation.equation-index in
    let i = c.loop-equation.invariant in
    let k = get_or kept n (record { left = 0; right = 0 }) in
    let there = kept_there ws kept n (record { left = 0; right = 0 }) c.requires.kept c.loop-equation-test.true in
    let es = waiting ws c.loop-equation.bound.entries in
    let es' = waiting ws c.put_terms.new.bound.entries in
    let es'' = waiting ws c.put_terms-in-loop-equation.new.bound.entries in
    let out = c.loop-equation.out.items in
    let out' = c.put_terms.new.out.items in
    let out'' = c.put_terms-in-loop-equation.new.out.items in
    let l = tree_at ws k.left in
    let r = tree_at ws k.right in
    let rest = sides (map (kept_at ws) (drop (n + 1) kept)) in
    let start = state (waiting ws c.args.bound.now.entries) c.args.out.now.items (sides (map (kept_at ws) kept)) in
    let one : span_terms ws c.one_term.result ≡ l ∷ [] = ap (span_terms ws) c.one_term.ensures ∙ (span_of-one ws k.left there.0).1 in
    let two : span_terms ws c.one_term-in-loop-equation.result ≡ r ∷ [] = ap (span_terms ws) c.one_term-in-loop-equation.ensures ∙ (span_of-one ws k.right there.1).1 in
    let first = puts-more es es' out out' (l ∷ []) (r ∷ rest) (transport (λ (ts : List Tree). PutsOn (state es out ts) (state es' out' [])) one c.in_ok-put_terms.ensures.puts) in
    let second = puts-more es' es'' out' out'' (r ∷ []) rest (transport (λ (ts : List Tree). PutsOn (state es' out' ts) (state es'' out'' [])) two c.in_ok-put_terms-2.ensures.puts) in
    let before = transport (λ (ts : List Tree). PutsOn start (state es out ts)) (sides-more ws kept n (record { left = 0; right = 0 }) c.loop-equation-test.true) i.puts in
    record {
      within = c.in_ok-put_terms-2.ensures.within;
      empty = c.in_ok-put_terms-2.ensures.empty;
      puts =
          puts-both start (state es' out' (r ∷ rest)) (state es'' out'' rest) (puts-both start (state es out (l ∷ r ∷ rest)) (state es' out' (r ∷ rest)) before first) second;
    }

pub returns : goal.returns
returns c =
    let ws = c.args.words.now in
    let kept = c.args.kept.now in
    let n = c.loop-equation.equation-index in
    let at_end : length kept ≤ n = c.loop-equation-test.false in
    let start = state (waiting ws c.args.bound.now.entries) c.args.out.now.items (sides (map (kept_at ws) kept)) in
    transport (λ (l : List Kept). PutsOn start (state (waiting ws c.loop-equation.bound.entries) c.loop-equation.out.items (sides (map (kept_at ws) l)))) (drop_all n kept at_end)
    c.loop-equation.invariant.puts
