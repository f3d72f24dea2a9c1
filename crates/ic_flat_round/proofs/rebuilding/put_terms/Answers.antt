use Rattle.std.proofs.Common.{◌≡◌, ◌++◌, ◌∷◌, List, [], length, length-append, sum_by, ap, sym, ◌∙◌, append-nil, arith, subst as transport}
use Rattle.ic_term.specs.Tree.{Tree, nodes}
use Rattle.ic_flat_round.specs.inner.Waits.{waiting}
use Rattle.ic_flat_round.specs.inner.Rebuilding.{IsSpan, PutsOn, span_terms, stacked, state, on_stack}
use Rattle.ic_flat_round.proofs.PutWords.{puts-none, puts-both}
use Rattle.ic_flat_round.proofs.StackedSpans.{all_front, stacked-pop, span_none}
use Rattle.std.specs.List.{AllByRecursion}
use Rattle.std.proofs.lemmas.List.{nil_from_length}
use Rattle.ic_flat_round.specs.declared.rebuilding.Span.{Span}
use Rattle.ic_flat_round.proofs.rebuilding.put_terms.Goals as goal

pub loop-rest-init : goal.loop-rest-init
loop-rest-init c =
    let ws = c.args.words.now in
    let start = state (waiting ws c.args.bound.now.entries) c.args.out.now.items (span_terms ws c.args.span) in
    let all : span_terms ws c.args.span ++ stacked ws c.args.stack.now.items ≡ span_terms ws c.args.span =
    ap (λ l. span_terms ws c.args.span ++ stacked ws l) c.requires.empty ∙ append-nil (span_terms ws c.args.span) in
    record {
      span = c.requires.span;
      stack = transport (λ (l : List Span). AllByRecursion (IsSpan ws) l) (sym c.requires.empty) tt;
      within = c.requires.within;
      puts = transport (λ (l : List Tree). PutsOn start (state (waiting ws c.args.bound.now.entries) c.args.out.now.items l)) (sym all) (puts-none start);
    }

pub loop-rest-preserved-then-rest-gt0 : goal.loop-rest-preserved-then-rest-gt0
loop-rest-preserved-then-rest-gt0 c =
    let ws = c.args.words.now in
    let i = c.loop-rest.invariant in
    let put = c.in_ok-span.ensures in
    let start = state (waiting ws c.args.bound.now.entries) c.args.out.now.items (span_terms ws c.args.span) in
    record {
      span = put.span;
      stack = put.stack;
      within = put.within;
      puts =
          puts-both start (on_stack ws c.loop-rest.bound.entries c.put_words.new.out.items c.in_ok-rest.rest c.loop-rest.stack.items)
          (on_stack ws c.put_word.new.bound.entries c.put_word.new.out.items c.in_ok-span.span c.put_word.new.stack.items)
          (puts-both start (on_stack ws c.loop-rest.bound.entries c.loop-rest.out.items c.loop-rest.span c.loop-rest.stack.items)
          (on_stack ws c.loop-rest.bound.entries c.put_words.new.out.items c.in_ok-rest.rest c.loop-rest.stack.items) i.puts
          (c.in_ok-rest.ensures.puts c.loop-rest.stack.items)) put.puts;
    }

pub loop-rest-preserved : goal.loop-rest-preserved
loop-rest-preserved c =
    let ws = c.args.words.now in
    let i = c.loop-rest.invariant in
    let next = c.in-Some.next in
    let popped = stacked-pop ws c.loop-rest.stack.items c.pop.new.self.items c.pop.result next c.pop.ensures.items c.in-Some.is in
    let spans = all_front (IsSpan ws) c.pop.new.self.items next (transport (λ (l : List Span). AllByRecursion (IsSpan ws) l) popped.0 i.stack) in
    let start = state (waiting ws c.args.bound.now.entries) c.args.out.now.items (span_terms ws c.args.span) in
    let left : span_terms ws c.in_ok-rest.rest ++ stacked ws c.loop-rest.stack.items ≡ span_terms ws next ++ stacked ws c.pop.new.self.items =
    (λ j. span_none ws c.in_ok-rest.rest c.if-rest-gt0.false j ++ popped.1 j) in
    record {
      span = spans.1;
      stack = spans.0;
      within = i.within;
      puts =
          transport (λ (l : List Tree). PutsOn start (state (waiting ws c.loop-rest.bound.entries) c.put_words.new.out.items l)) left
          (puts-both start (on_stack ws c.loop-rest.bound.entries c.loop-rest.out.items c.loop-rest.span c.loop-rest.stack.items)
          (on_stack ws c.loop-rest.bound.entries c.put_words.new.out.items c.in_ok-rest.rest c.loop-rest.stack.items) i.puts
          (c.in_ok-rest.ensures.puts c.loop-rest.stack.items));
    }

pub returns-in-None-clause-puts : goal.returns-in-None-clause-puts
returns-in-None-clause-puts c =
    let ws = c.args.words.now in
    let start = state (waiting ws c.args.bound.now.entries) c.args.out.now.items (span_terms ws c.args.span) in
    let nothing : c.loop-rest.stack.items ≡ [] = nil_from_length c.loop-rest.stack.items (omega (arith, c.in-None.ensures.cases.0, c.loop-rest.stack.ok.0)) in
    let left : span_terms ws c.in_ok-rest.rest ++ stacked ws c.loop-rest.stack.items ≡ [] =
    (λ j. span_none ws c.in_ok-rest.rest c.if-rest-gt0.false j ++ stacked ws (nothing j)) in
    transport (λ (l : List Tree). PutsOn start (state (waiting ws c.loop-rest.bound.entries) c.put_words.new.out.items l)) left
    (puts-both start (on_stack ws c.loop-rest.bound.entries c.loop-rest.out.items c.loop-rest.span c.loop-rest.stack.items)
    (on_stack ws c.loop-rest.bound.entries c.put_words.new.out.items c.in_ok-rest.rest c.loop-rest.stack.items) c.loop-rest.invariant.puts
    (c.in_ok-rest.ensures.puts c.loop-rest.stack.items))

pub loop-rest-smaller-then-rest-gt0 : goal.loop-rest-smaller-then-rest-gt0
loop-rest-smaller-then-rest-gt0 c =
    let less = c.in_ok-rest.ensures.less c.loop-rest.stack.items in
    let put = c.in_ok-span.ensures.less in
    let few = c.in_ok-span.ensures.few in
    omega (arith, less, put, few)

pub loop-rest-smaller : goal.loop-rest-smaller
loop-rest-smaller c =
    let ws = c.args.words.now in
    let less = c.in_ok-rest.ensures.less c.loop-rest.stack.items in
    let popped = stacked-pop ws c.loop-rest.stack.items c.pop.new.self.items c.pop.result c.in-Some.next c.pop.ensures.items c.in-Some.is in
    let left : span_terms ws c.in_ok-rest.rest ++ stacked ws c.loop-rest.stack.items ≡ span_terms ws c.in-Some.next ++ stacked ws c.pop.new.self.items =
    (λ j. span_none ws c.in_ok-rest.rest c.if-rest-gt0.false j ++ popped.1 j) in
    omega (arith, less, ap (sum_by nodes) left, ap length popped.0, length-append c.pop.new.self.items (c.in-Some.next ∷ []))
