use Rattle.std.proofs.Common.{sym, ◌∙◌}
use Rattle.std.specs.Cmp.Lexicographic.{pointwise}
use Rattle.std.proofs.lemmas.Bool.{eqb-true}
use Rattle.ic_flat.specs.Words.{word_eq}
use Rattle.ic_flat.specs.lemmas.FlatLaws.{word_eq-configuration_eq}
use Rattle.ic_flat.proofs.equality.FlatPartialEq.eq.Goals as goal
use Rattle.ic_flat.proofs.equality.FlatPartialEq.eq.Goals.{then-next, else-next}

-- where `next` and the terms agree, the words decide
pub returns-then-interface_len : goal.returns-then-interface_len
returns-then-interface_len c =
    let words = c.are_same.ensures ∙ (λ i. pointwise word_eq (c.words.ensures.words i) (c.words-then-interface_len.ensures.words i)) in
    elim c.if-next.branch [
      | then-next w ↦
          let next = sym c.next.ensures.next ∙ w.if-next.true ∙ c.next-2.ensures.next in
          let counts = eqb-true w.interface_len.result w.interface_len-then-next.result (sym w.value-is ∙ c.if-interface_len.true) in
          words ∙ word_eq-configuration_eq c.args.self.now c.args.other.now next (sym w.interface_len.ensures.terms ∙ counts ∙ w.interface_len-then-next.ensures.terms)
      | else-next w ↦ absurd (w.if-next.false (eqb-true c.next.result c.next-2.result (sym w.value-is ∙ c.if-interface_len.true)))
    ]
