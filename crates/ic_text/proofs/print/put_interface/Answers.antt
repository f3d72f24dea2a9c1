use Rattle.std.proofs.Common.{map, refl}
use Rattle.ic_term.specs.Symbol.{is_tree_over}
use Rattle.ic_term.specs.Term.{tree}
use Rattle.ic_text.specs.declared.token.Mark.TheVariants.{Comma}
use Rattle.ic_text.specs.Source.{words}
use Rattle.ic_text.specs.Text.{source_of}
use Rattle.ic_text.proofs.PrintLemmas.{next_all}
use Rattle.ic_text.specs.lemmas.Separated.{Begun, begun_first, begun_further, next_listed}
use Rattle.ic_text.proofs.print.put_interface.Goals as goal
use Rattle.ic_text.proofs.print.put_interface.Goals.{then-place-gt0+in_ok-push, else-place-gt0}

pub loop-place-preserved : goal.loop-place-preserved
loop-place-preserved c =
    let ss = c.args.symbols.now in
    let xs = c.args.terms.now in
    let n = c.loop-place.place in
    let x = c.index-terms-place.result in
    let out = c.loop-place.out.items in
    let begun : Begun Comma n out c.if-place-gt0.out.items = elim c.if-place-gt0.branch [
      | then-place-gt0+in_ok-push w ↦ begun_further Comma n out c.if-place-gt0.out.items w.if-place-gt0.true (rw w.out-is w.in_ok-push.ensures.items)
      | else-place-gt0 w ↦ begun_first Comma n out c.if-place-gt0.out.items w.if-place-gt0.false (rw w.out-is refl)
    ] in
    record {
      over = next_all (is_tree_over ss) tree n xs x c.loop-place-test.true c.index-terms-place.is c.loop-place.invariant.over;
      whole = next_listed Comma (λ l. map words (map (source_of ss) (map tree l))) (λ t. words (source_of ss (tree t))) (λ t l. refl)
          n xs x out c.if-place-gt0.out.items c.put_term.new.out.items _ c.loop-place-test.true c.index-terms-place.is begun
          c.in_ok-put_term.ensures c.loop-place.invariant.whole;
    }
