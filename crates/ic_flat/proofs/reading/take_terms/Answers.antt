use Rattle.std.proofs.Common.{◌≡◌, ◌++◌, [], ◌∷◌, sym, ap, ◌∙◌, arith}
use Rattle.std.proofs.lemmas.List.{map-append, nil_from_length}
use Rattle.ic_term.specs.Term.{tree}
use Rattle.ic_flat.specs.inner.Stacks.{upright}
use Rattle.ic_flat.proofs.StackLemmas.{popped-some, popped-none, take-one_more, take-none_more}
use Rattle.ic_flat.proofs.reading.take_terms.Goals as goal
use Rattle.ic_flat.proofs.reading.take_terms.Goals.{in-Some+in_ok-push, in_default}

-- a term more is taken, or there is none
pub loop-preserved : goal.loop-preserved
loop-preserved c =
    let all = upright c.args.stack.now.items in
    elim c.match-pop.branch [
      | in-Some+in_ok-push w ↦
          let step = take-one_more all c.loop.counter (tree w.in-Some.term) (upright c.pop.new.self.items) (sym c.loop.invariant.left ∙ popped-some c.loop.stack.items c.pop.new.self.items c.pop.result w.in-Some.term c.pop.ensures.items w.in-Some.is) in
          rw (w.terms-is, w.in_ok-push.ensures.items) (record {
            taken = map-append tree c.loop.terms.items (w.in-Some.term ∷ []) ∙ ap (λ l. l ++ tree w.in-Some.term ∷ []) c.loop.invariant.taken ∙ sym step.0;
            left = sym step.1;
          })
      | in_default w ↦
          let none : c.pop.new.self.items ≡ [] = nil_from_length c.pop.new.self.items (omega (arith, w.in_default.ensures.cases.1, c.pop.new.self.ok.0)) in
          let old : c.loop.stack.items ≡ [] = sym (popped-none c.loop.stack.items c.pop.new.self.items c.pop.result c.pop.ensures.items w.in_default.is) ∙ none in
          let step = take-none_more all c.loop.counter (sym c.loop.invariant.left ∙ ap upright old) in
          rw w.terms-is (record { taken = c.loop.invariant.taken ∙ sym step.0; left = ap upright none ∙ sym step.1 })
    ]
