use Rattle.std.proofs.Common.{◌≡◌, ◌∙◌, ◌∷◌, suc, sym, ap, add-one, arith}
use Rattle.ic_term.specs.Tree.{pair_names}
use Rattle.ic_settle.specs.lemmas.Containers.{noted_in, noted_equations}
use Rattle.ic_flat_rules.specs.Standing.{pair_at, pairs_at}
use Rattle.ic_flat_round.specs.inner.Places.{found}
use Rattle.ic_flat_round.proofs.PassingWords.{names-pair_slice}
use Rattle.ic_flat_round.proofs.containers.note_equations.Goals as goal

pub loop-place-preserved : goal.loop-place-preserved
loop-place-preserved c =
    let i = c.loop-place.invariant in
    let ws = c.args.words.now in
    let s = c.sides_at-sides.result in
    let at = c.sides_at-sides.ensures in
    let n = c.loop-place.number in
    let first = at.sides.left.before in
    let last = at.sides.right.before in
    record {
      noted = λ y.
          let before = found c.loop-place.places y in
          let after = found c.note_words.new.places y in
          let rest = pairs_at ws s.end in
          let here : pairs_at ws c.loop-place.place ≡ pair_at ws s ∷ rest = at.equations in
          let both : after ≡ noted_in y n (pair_names (pair_at ws s)) before =
          c.in_ok-note_words.ensures y ∙ ap (λ l. noted_in y n l before) (names-pair_slice ws s c.requires.whole at.sides) in
          ap (λ k. noted_equations y k rest after) (add-one n) ∙ ap (noted_equations y (suc n) rest) both
          ∙ ap (λ l. noted_equations y n l before) (sym here) ∙ i.noted y;
      twos = at.twos;
      within = at.sides.right.within;
      few = omega (arith, i.few, first, last, at.begins);
    }
