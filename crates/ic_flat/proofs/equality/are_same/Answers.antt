use Rattle.std.proofs.Common.{◌≡◌, ℕ, ◌+◌, ◌<◌, ◌≤◌, List, ◌&&◌, Bool, true, false, not, length, drop, get_or, refl, sym, ap, ◌∙◌, arith}
use Rattle.std.specs.Cmp.Lexicographic.{pointwise}
use Rattle.std.proofs.lemmas.List.{drop_more, length-drop, nil_from_length}
use Rattle.ic_flat.specs.declared.word.Word.{Word}
use Rattle.ic_flat.specs.declared.word.Word.TheVariants.{Name}
use Rattle.ic_flat.specs.Words.{word_eq}
use Rattle.ic_flat.proofs.equality.are_same.Goals as goal

-- what is left from a place on is the words there and those after them
next_ones : (ws vs : List Word) (i : ℕ) (ne : Bool) → i < length ws → length ws ≡ length vs → ne ≡ not (word_eq (get_or ws i (Name 0)) (get_or vs i (Name 0)))
    → pointwise word_eq (drop i ws) (drop i vs) ≡ (not ne && pointwise word_eq (drop (i + 1) ws) (drop (i + 1) vs))
next_ones ws vs i ne within same is =
    let there : i < length vs = omega (arith, within, same) in
    let here = word_eq (get_or ws i (Name 0)) (get_or vs i (Name 0)) in
    let rest = pointwise word_eq (drop (i + 1) ws) (drop (i + 1) vs) in
    (λ j. pointwise word_eq (drop_more ws i (Name 0) within j) (drop_more vs i (Name 0) there j))
    ∙ ap (λ b. b && rest) (sym (ap not is ∙ twice here))
  where
    twice : (b : Bool) → not (not b) ≡ b
    twice true = refl
    twice false = refl

none_left : (ws vs : List Word) (i : ℕ) → length ws ≤ i → length ws ≡ length vs → pointwise word_eq (drop i ws) (drop i vs) ≡ true
none_left ws vs i at_end same =
    let first = nil_from_length (drop i ws) (omega (arith, length-drop i ws, at_end)) in
    let last = nil_from_length (drop i vs) (omega (arith, length-drop i vs, at_end, same)) in
    λ j. pointwise word_eq (first j) (last j)

pub returns-then-ne : goal.returns-then-ne
returns-then-ne c =
    let ws = c.args.left.now in
    let vs = c.args.right.now in
    let i = c.loop-i.i in
    sym (c.loop-i.invariant.left ∙ next_ones ws vs i c.ne.result c.loop-i-test.true c.if-left-right.false c.ne.ensures
    ∙ ap (λ b. not b && pointwise word_eq (drop (i + 1) ws) (drop (i + 1) vs)) c.if-ne.true)

pub loop-i-preserved : goal.loop-i-preserved
loop-i-preserved c =
    let ws = c.args.left.now in
    let vs = c.args.right.now in
    let i = c.loop-i.i in
    let there = c.loop-i-test.true in
    record {
      within = omega (arith, there);
      left = c.loop-i.invariant.left ∙ next_ones ws vs i c.ne.result there c.if-left-right.false c.ne.ensures
          ∙ ap (λ b. not b && pointwise word_eq (drop (i + 1) ws) (drop (i + 1) vs)) c.if-ne.false;
    }

pub returns : goal.returns
returns c = sym (c.loop-i.invariant.left ∙ none_left c.args.left.now c.args.right.now c.loop-i.i c.loop-i-test.false c.if-left-right.false)
