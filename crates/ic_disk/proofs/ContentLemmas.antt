-- How a write is made in place.
use Rattle.std.proofs.Common.{◌≡◌, ⊎_elim, ℕ, ◌+◌, ◌-◌, ◌≤◌, List, ◌++◌, length, take, drop, sym, ◌∙◌, ap, subst, arith, append_assoc}
use Rattle.std.proofs.lemmas.Bool.{cases_lt}
use Rattle.std.proofs.lemmas.List.{ext_get_or, take-append-le, length-replicate}
use Rattle.std.specs.Prelude.{replicate}
use borrow.Rule.Slice.PartMut.{put_mid, Post-is}
use Rattle.ic_disk.specs.Content.{filled_to, laid}
use Rattle.ic_disk.specs.lemmas.ContentLaws.{length-filled_to, filled_to-at, length-laid, laid-before, laid-inside, laid-after}

-- over bytes that are there already
pub put_mid-laid : (at : ℕ) (bytes file : List ℕ) → at + length bytes ≤ length file → put_mid at (at + length bytes - at) file bytes ≡ laid at bytes file
unfolding laid
put_mid-laid at bytes file within =
    ap (λ (back : List ℕ). take at file ++ (bytes ++ back)) (Post-is at (at + length bytes) file (omega arith))
    ∙ sym (append_assoc (take at file) bytes (drop (at + length bytes) file))
    ∙ ap (λ (front : List ℕ). front ++ bytes ++ drop (at + length bytes) file) (sym (take-append-le at file (replicate (at - length file) 0) (omega arith)))

-- zeros in the place of what is laid change nothing
pub laid-filled_to : (at end : ℕ) (bytes file : List ℕ) → end ≤ at + length bytes → laid at bytes (filled_to end file) ≡ laid at bytes file
laid-filled_to at end bytes file short = ext_get_or 0 (laid at bytes (filled_to end file)) (laid at bytes file) same_length
    (λ i inside. ⊎_elim
    (λ before. laid-before at bytes (filled_to end file) i before ∙ filled_to-at end file i ∙ sym (laid-before at bytes file i before))
    (λ from. ⊎_elim
    (λ until. laid-inside at bytes (filled_to end file) i from until ∙ sym (laid-inside at bytes file i from until))
    (λ past. laid-after at bytes (filled_to end file) i past ∙ filled_to-at end file i ∙ sym (laid-after at bytes file i past))
    (cases_lt i (at + length bytes)))
    (cases_lt i at))
  where
    same_length : length (laid at bytes (filled_to end file)) ≡ length (laid at bytes file)
    same_length = omega (arith, length-laid at bytes (filled_to end file), length-laid at bytes file, length-filled_to end file)

-- a byte in each place of a range
pub put_mid-replicated : (at n byte : ℕ) (file : List ℕ) → at + n ≤ length file → put_mid at (at + n - at) file (replicate n byte) ≡ laid at (replicate n byte) file
put_mid-replicated at n byte file within =
    let same : length (replicate n byte) ≡ n = length-replicate n byte in
    subst (λ (m : ℕ). put_mid at (at + m - at) file (replicate n byte) ≡ laid at (replicate n byte) file) same (put_mid-laid at (replicate n byte) file (omega (arith, same)))
