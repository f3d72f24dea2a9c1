use Rattle.std.proofs.Common.{◌≡◌, ℕ, ◌==◌, ◌+◌, ◌&&◌, Bool, false, true, not, drop, get_or, ne_eqb, refl, sym, ap, ◌∙◌, arith}
use Rattle.std.proofs.lemmas.List.{at_drop_all, at_drop_more}
use Rattle.ic_text.specs.Token.{is_blank}
use Rattle.ic_batch.proofs.NumberLemmas.{from_feed, from_more, from_same, from_stop, is_line_after, number_from}
use Rattle.ic_batch.proofs.reading.line_after.Goals as goal
use Rattle.ic_batch.proofs.reading.line_after.Goals.{then-byte-eq10, else-byte-eq10+then-not-is_begun+then-not-is_blank+else-left-eq0, else-byte-eq10+else-not-is_begun, else-not-is_begun-via-then-not-is_begun+else-not-is_blank, else-not-is_begun-via-else-not-is_begun}

begins : (is_begun blank : Bool) → is_begun ≡ false → blank ≡ false → (not is_begun && not blank) ≡ true
begins false false new text = refl
begins false true new text = cc
begins true blank new text = cc

begun : (is_begun blank : Bool) → is_begun ≡ true → (not is_begun && not blank) ≡ false
begun true blank is = refl
begun false blank is = cc

blank_only : (is_begun blank : Bool) → blank ≡ true → (not is_begun && not blank) ≡ false
blank_only true blank is = refl
blank_only false true is = refl
blank_only false false is = cc

pub loop-byte-init : goal.loop-byte-init
loop-byte-init c = (refl, omega arith)

pub returns-then-left-eq0 : goal.returns-then-left-eq0
returns-then-left-eq0 c more =
    let text = c.args.text.now in
    let i = c.loop-byte.byte-index in
    let b = get_or text i 0 in
    let left = c.loop-byte.left in
    let new = begins c.loop-byte.is_begun (is_blank b) c.if-not-is_begun.true (sym c.is_blank.ensures ∙ c.if-not-is_blank.true) in
    let answered : number_from text c.args.many false 1 ≡ c.loop-byte.line =
    sym c.loop-byte.invariant.0
    ∙ at_drop_more (λ bs. number_from bs left c.loop-byte.is_begun c.loop-byte.line) text i 0 c.loop-byte-test.true
    ∙ from_stop b (drop (i + 1) text) left c.loop-byte.line c.loop-byte.is_begun (ne_eqb b 10 c.if-byte-eq10.false) new (ap (λ (n : ℕ). n == 0) c.if-left-eq0.true) in
    is_line_after text c.args.many c.loop-byte.line answered more

pub loop-byte-preserved : goal.loop-byte-preserved
loop-byte-preserved c =
    let text = c.args.text.now in
    let i = c.loop-byte.byte-index in
    let b = get_or text i 0 in
    let rest = drop (i + 1) text in
    let left = c.loop-byte.left in
    let line = c.loop-byte.line in
    let is_begun = c.loop-byte.is_begun in
    let here = sym (at_drop_more (λ bs. number_from bs left is_begun line) text i 0 c.loop-byte-test.true) ∙ c.loop-byte.invariant.0 in
    elim c.if-byte-eq10.branch [
      | then-byte-eq10 w ↦ rw (w.line-is, w.left-is, w.is_begun-is) (
        sym (from_feed b rest left line is_begun (ap (λ (n : ℕ). n == 10) w.if-byte-eq10.true)) ∙ here,
        omega (arith, c.loop-byte.invariant.1),
      )
      | else-byte-eq10+then-not-is_begun+then-not-is_blank+else-left-eq0 w ↦ rw (w.line-is, w.left-is, w.is_begun-is) (
        sym (from_more b rest left line is_begun (ne_eqb b 10 w.if-byte-eq10.false) (begins is_begun (is_blank b) w.if-not-is_begun.true (sym w.is_blank.ensures ∙ w.if-not-is_blank.true)) (ne_eqb left 0 w.if-left-eq0.false)) ∙ here,
        omega (arith, c.loop-byte.invariant.1),
      )
      | else-byte-eq10+else-not-is_begun w ↦
          let skip : (not is_begun && not (is_blank b)) ≡ false = elim w.else-not-is_begun.branch [
            | else-not-is_begun-via-then-not-is_begun+else-not-is_blank v ↦ blank_only is_begun (is_blank b) (sym v.is_blank.ensures ∙ v.if-not-is_blank.false)
            | else-not-is_begun-via-else-not-is_begun v ↦ begun is_begun (is_blank b) v.if-not-is_begun.false
          ] in
          rw (w.line-is, w.left-is, w.is_begun-is) (
            sym (from_same b rest left line is_begun (ne_eqb b 10 w.if-byte-eq10.false) skip) ∙ here,
            omega (arith, c.loop-byte.invariant.1),
          )
    ]

pub returns : goal.returns
returns c more =
    let text = c.args.text.now in
    let i = c.loop-byte.byte-index in
    let none = at_drop_all (λ bs. number_from bs c.loop-byte.left c.loop-byte.is_begun c.loop-byte.line) text i (omega (arith, c.loop-byte-test.false)) in
    is_line_after text c.args.many c.loop-byte.line (sym c.loop-byte.invariant.0 ∙ none) more
