use Rattle.std.proofs.Common.{[], ◌∷◌, map, sym, ap, subst, ◌∙◌, arith}
use Rattle.std.proofs.lemmas.List.{map-append}
use Rattle.std.proofs.lemmas.Result.{err_from_is_err_and}
use Rattle.ic_term.specs.Term.{tree}
use Rattle.ic_term.specs.Tree.{Tree}
use Rattle.ic_codec.specs.inner.Fronts.{BeginsWithTree}
use Rattle.ic_codec.proofs.TermReading.{agent_begins, none_without_budget, none_without_bytes, none_without_number, none_without_symbol, none_without_arguments, none_more, one_more}
use Rattle.ic_codec.proofs.terms.+read.Goals as goal

pub term_at-returns-then-budget-eq0-clause-refused : goal.term_at-returns-then-budget-eq0-clause-refused
term_at-returns-then-budget-eq0-clause-refused t c =
    λ same. none_without_budget c.args.symbols.now c.args.budget c.args.bytes.now (omega arith)

pub term_at-returns-in_err-first-clause-refused : goal.term_at-returns-in_err-first-clause-refused
term_at-returns-in_err-first-clause-refused t c =
    let e = err_from_is_err_and c.from_residual.result c.from_residual.ensures.1 in
    rw (e.1, e.2) (λ same. none_without_bytes c.args.symbols.now c.args.budget c.args.bytes.now c.in_err-first.ensures.refused.1)

pub term_at-returns-in_err-name-clause-refused : goal.term_at-returns-in_err-name-clause-refused
term_at-returns-in_err-name-clause-refused t c =
    let e = err_from_is_err_and c.from_residual-in_err-name.result c.from_residual-in_err-name.ensures.1 in
    rw (e.1, e.2) (λ same. none_without_number c.args.symbols.now c.args.budget c.args.bytes.now c.in_ok-first.rest.now c.requires
    (c.in_ok-first.ensures.read ∙ ap (λ k. k ∷ c.in_ok-first.rest.now) c.if-first.true) c.in_err-name.ensures.refused.1)

pub term_at-returns-then-sym-len-clause-refused : goal.term_at-returns-then-sym-len-clause-refused
term_at-returns-then-sym-len-clause-refused t c =
    λ same. none_without_symbol c.args.symbols.now c.args.budget c.in_ok-first.first c.args.bytes.now c.in_ok-first.rest.now
    c.in_ok-first.ensures.read c.if-first.false (omega arith)

pub term_at-returns-in_err-args-clause-refused : goal.term_at-returns-in_err-args-clause-refused
term_at-returns-in_err-args-clause-refused t c =
    let e = err_from_is_err_and c.from_residual-in_err-args.result c.from_residual-in_err-args.ensures.1 in
    rw (e.1, e.2) (λ same. none_without_arguments c.args.symbols.now c.args.budget c.in_ok-first.first c.arity.result c.args.bytes.now c.in_ok-first.rest.now
    (omega arith) c.in_ok-first.ensures.read c.if-first.false c.arity.ensures (c.in_err-args.ensures.refused same))

pub term_at-returns-clause-read : goal.term_at-returns-clause-read
term_at-returns-clause-read t c =
    subst (λ (x : Tree). BeginsWithTree c.args.symbols.now c.args.budget c.args.bytes.now x c.in_ok-args.left c.in_ok-args.rest.now)
    (sym c.in_ok-agent.ensures)
    (agent_begins c.args.symbols.now c.args.budget c.in_ok-first.first c.arity.result c.in_ok-args.left (map tree c.in_ok-args.args.items)
    c.args.bytes.now c.in_ok-first.rest.now c.in_ok-args.rest.now (omega arith) c.in_ok-first.ensures.read c.arity.ensures c.in_ok-args.ensures.read)

pub terms_at-returns-in_err-term-clause-refused : goal.terms_at-returns-in_err-term-clause-refused
terms_at-returns-in_err-term-clause-refused t c =
    let e = err_from_is_err_and c.from_residual.result c.from_residual.ensures.1 in
    rw (e.1, e.2) (λ same. none_more c.args.symbols.now c.args.count c.loop.counter c.args.budget c.args.bytes.now (map tree c.loop.terms.items) c.loop.left c.loop.rest.now
    c.requires (omega arith) c.loop.invariant (c.in_err-term.ensures.refused same))

pub terms_at-loop-preserved : goal.terms_at-loop-preserved
terms_at-loop-preserved t c =
    rw (ap (map tree) c.in_ok-push.ensures.items ∙ map-append tree c.loop.terms.items (c.in_ok-term.term ∷ []))
    (one_more c.args.symbols.now c.loop.counter c.args.budget c.args.bytes.now (map tree c.loop.terms.items) c.loop.left c.loop.rest.now (tree c.in_ok-term.term) c.in_ok-term.now_left
    c.in_ok-term.now_rest.now c.loop.invariant c.in_ok-term.ensures.read)
