use Rattle.std.proofs.Common.{◌≡◌, ◌<◌, ◌≤◌, ℕ, ◌+◌, ◌-◌, ◌/◌, [], ◌∷◌, ◌++◌, reverse, inl, inr, refl, sym, ap, subst, ◌∙◌, arith, vec_items, vec_len, take-append-drop}
use Rattle.std.specs.List.{AllByRecursion, flat_map}
use Rattle.std.proofs.lemmas.Bool.{cases_lt}
use Rattle.ic_pool.proofs.CutWorks.{part_of, joined-snoc, All-append, All-reverse}
use Rattle.ic_pool.proofs.batches.cut.Goals as goal

-- what is left after one batch more, and the batch
record CutOnce (before after batch count done : ℕ) : Type 0 where
  enough : count ≤ after + (done + 1)
  last : 0 < after → done + 1 < count
  some : 0 < batch

cut_once : (before after batch count done : ℕ) → done < count → count ≤ before + done → after ≡ before - before / (count - done) → batch + after ≡ before
    → CutOnce before after batch count done
cut_once before after batch count done below few kept all =
    let part = part_of before (count - done) (omega arith) (omega (arith, few)) in
    let within = part.within in let enough = part.enough in let some = part.some in
    record {
      enough = omega (arith, within, enough, kept, few);
      last = λ more. elim (cases_lt (done + 1) count) [
        | inl h ↦ h
        | inr h ↦ let whole : before / (count - done) ≡ before = part.last (omega arith) in absurd (omega (arith, whole, kept, more))
      ];
      some = omega (arith, some, within, kept, all);
    }

pub loop-done-preserved : goal.loop-done-preserved
loop-done-preserved c =
    let rest = c.loop-done.rest in
    let inv = c.loop-done.invariant in
    let tail = c.in_ok-batch.batch in
    let kept = c.in_ok-batch.ensures.len ∙ (λ i. c.len-in-loop-done.ensures i - c.len.ensures i / (c.args.count - c.loop-done.done)) in
    let pushed = c.in_ok-push.ensures.items in
    let longer = c.in_ok-push.ensures.len in
    let counted = inv.1 in
    let halves = (λ i. c.in_ok-batch.ensures.items i ++ c.in_ok-batch.ensures.tail i) ∙ take-append-drop _ rest.items in
    let once = cut_once (vec_len rest) (vec_len c.split_off.new.self) (vec_len tail) c.args.count c.loop-done.done c.loop-done-test.true inv.2 kept
    (ap (λ n. vec_len tail + n) c.in_ok-batch.ensures.len ∙ c.in_ok-batch.ensures.tail_len) in (
      ap (λ bs. c.split_off.new.self.items ++ flat_map vec_items (reverse bs)) pushed
          ∙ joined-snoc vec_items c.split_off.new.self.items tail.items c.loop-done.batches.items tail refl
          ∙ ap (λ l. l ++ flat_map vec_items (reverse c.loop-done.batches.items)) halves ∙ inv.0,
      omega (arith, longer, counted),
      once.enough,
      once.last,
      subst (λ bs. AllByRecursion (λ b. 0 < vec_len b) bs) (sym pushed)
          (All-append (λ b. 0 < vec_len b) c.loop-done.batches.items (tail ∷ []) inv.4 (once.some, tt)),
    )

pub returns-clause-none_empty : goal.returns-clause-none_empty
returns-clause-none_empty c =
    subst (λ bs. AllByRecursion (λ b. 0 < vec_len b) bs) (sym c.reverse.ensures.items)
    (All-reverse (λ b. 0 < vec_len b) c.loop-done.batches.items c.loop-done.invariant.4)
