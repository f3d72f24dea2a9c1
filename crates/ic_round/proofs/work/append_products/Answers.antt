use Rattle.std.proofs.Common.{◌≡◌, ◌+◌, ◌++◌, ◌∷◌, [], List, ◌≤◌, map, min, drop, length, refl, sym, ap, ◌∙◌, append-nil, arith, option_to_list}
use Rattle.std.proofs.lemmas.List.{drop_all}
use Rattle.std.specs.Vec.Iter.{into_iter_items, into_iter_len}
use Rattle.ic_term.specs.declared.term.Term.{Term}
use Rattle.ic_term.specs.declared.term.Equation.{Equation}
use Rattle.ic_term.specs.Term.{tree, pair}
use Rattle.ic_rules.specs.Renaming.{renamed}
use Rattle.ic_round.specs.Firing.{against}
use Rattle.ic_round.specs.lemmas.Words.{u64_MAX}
use Rattle.ic_round.proofs.WorkLemmas.{against-next}
use Rattle.ic_round.specs.lemmas.Products.{against-none}
use Rattle.ic_round.proofs.work.append_products.Goals as goal
use Rattle.ic_round.proofs.work.append_products.Goals.{else-loop-term-test, then-loop-term-test+in_default}

pub loop-term-preserved : goal.loop-term-preserved
loop-term-preserved c =
    let i = c.loop-term.term-index in
    let items = into_iter_items c.loop-term.arguments in
    let rest = into_iter_items c.next.new.self in
    let first : items ≡ c.in-Some.argument ∷ rest = c.next.ensures.items ∙ ap (λ o. option_to_list o ++ rest) c.in-Some.is in
    let e : Equation = record { left = c.in-Some.argument; right = c.in_ok-raised_term.field-0 } in
    let counted : into_iter_len c.next.new.self ≡ length rest = omega (arith, c.in-Some.ensures.cases.1, c.loop-term.invariant.0, ap length first) in (
      counted,
      against-next (renamed (λ k. min (c.args.base + k) u64_MAX)) c.loop-term.products.items c.push.new.self.items e items rest c.in-Some.argument c.args.terms.now i c.term-item.result _
          (omega arith) c.term-item.is first c.in_ok-push.ensures.items refl c.in_ok-raised_term.ensures c.loop-term.invariant.1,
    )

none_left : (xs : List Term) → length xs ≡ 0 → map tree xs ≡ []
none_left [] e = refl
none_left (x ∷ xs) e = absurd (omega (arith, e))

pub returns : goal.returns
returns c =
    let R = renamed (λ k. min (c.args.base + k) u64_MAX) in
    elim c.loop-term-test.branch [
      | else-loop-term-test w ↦
          let at_end : length c.args.terms.now ≤ c.loop-term.term-index = omega arith in
          let done = ap (λ ts. map pair c.loop-term.products.items ++ against (map tree (into_iter_items c.loop-term.arguments)) (map R (map tree ts))) (drop_all c.loop-term.term-index c.args.terms.now at_end) in
          sym (append-nil (map pair c.loop-term.products.items))
          ∙ ap (λ l. map pair c.loop-term.products.items ++ l) (sym (against-none (map tree (into_iter_items c.loop-term.arguments))))
          ∙ sym done ∙ c.loop-term.invariant.1
      | then-loop-term-test+in_default w ↦
          let items = into_iter_items c.loop-term.arguments in
          let empty : length items ≡ 0 = sym c.loop-term.invariant.0 ∙ w.in_default.ensures.cases.0 in
          let done = ap (λ ts. map pair c.loop-term.products.items ++ against ts (map R (map tree (drop c.loop-term.term-index c.args.terms.now)))) (none_left items empty) in
          sym (append-nil (map pair c.loop-term.products.items)) ∙ sym done ∙ c.loop-term.invariant.1
    ]
