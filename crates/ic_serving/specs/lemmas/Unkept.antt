-- How much isn't kept, while rounds are kept after each so many of them.
use Rattle.std.proofs.Common.{◌≡◌, ◌⊎◌, inl, inr, ⊎_elim, ℕ, suc, ◌+◌, ◌-◌, ◌<◌, ◌≤◌, ◌%◌, ◌∙◌, List, [], ◌∷◌, ◌++◌, ap, sym, length, length-append, arith}
use Rattle.std.proofs.Math.Nat.{suc-mod, mod-eq_of_lt, mod_self, zero-mod}
use Rattle.std.proofs.lemmas.Bool.{cases_lt}
use Rattle.std.proofs.lemmas.Nat.{mod_below}
use Rattle.ic_disk.specs.declared.disk.Disk.{Ghosts}
use Rattle.ic_jobs.specs.declared.event.Entry.{Entry}
use Rattle.ic_book.specs.declared.book.Book.{Book}
use Rattle.ic_book.specs.Book.{log_of, kept_of}
use Rattle.ic_serving.specs.Booked.{unkept_of, IsAllKept}

-- where all is kept, nothing isn't
pub none_unkept : {D : Type 0} {ghosts : Ghosts D} (book : Book D ghosts) → IsAllKept book → unkept_of book ≡ 0
none_unkept book all = less (kept_of book) (length (log_of book)) all
  where
    less : (a b : ℕ) → a ≡ b → b - a ≡ 0
    less a b same = omega (arith, same)

-- the remainder after one more
next_part : (n every : ℕ) → 0 < every → ((n + 1) % every ≡ n % every + 1) ⊎ ((n + 1) % every ≡ 0)
next_part n every some = ⊎_elim
    (λ (less : suc (n % every) < every). inl (one ∙ mod-eq_of_lt less ∙ up (n % every)))
    (λ (more : every ≤ suc (n % every)). inr (one ∙ whole (suc (n % every)) (omega (arith, more, mod_below n every some))))
    (cases_lt (suc (n % every)) every)
  where
    up : (k : ℕ) → suc k ≡ k + 1
    up k = omega arith

    one : (n + 1) % every ≡ suc (n % every) % every
    one = ap (λ (k : ℕ). k % every) (sym (up n)) ∙ suc-mod n every

    whole : (k : ℕ) → k ≡ every → k % every ≡ 0
    whole k same = ap (λ (j : ℕ). j % every) same ∙ mod_self every

-- one entry more is no more than so many, where those that have come since the last keep are fewer
pub one_within : (n every a b : ℕ) → 0 < every → a ≤ n % every → b ≤ a + 1 → b ≤ every
one_within n every a b some few more = omega (arith, few, more, mod_below n every some)

-- after a round more, and a keep where it is due; the number of rounds may begin anew
pub due_within : (n m every a b c : ℕ) → 0 < every → (m ≡ n + 1) ⊎ (m ≡ 0) → a ≤ n % every → b ≤ a + 1 → c ≤ b
    → (m % every ≡ 0 → c ≡ 0) → c ≤ m % every
due_within n m every a b c some (inl next) few more fewer due = ⊎_elim
    (λ (up : (n + 1) % every ≡ n % every + 1). let is : m % every ≡ n % every + 1 = ap (λ (k : ℕ). k % every) next ∙ up in omega (arith, is, few, more, fewer))
    (λ (none : (n + 1) % every ≡ 0). let nothing : c ≡ 0 = due (ap (λ (k : ℕ). k % every) next ∙ none) in omega (arith, nothing))
    (next_part n every some)
due_within n m every a b c some (inr again) few more fewer due =
    let nothing : c ≡ 0 = due (ap (λ (k : ℕ). k % every) again ∙ zero-mod every) in
    omega (arith, nothing)

-- what isn't kept where the log stays, and where an entry comes to it
pub same_unkept : (log more : List Entry) (kept now : ℕ) → more ≡ log → now ≡ kept → length more - now ≤ length log - kept
same_unkept log more kept now is same = let long = ap length is in omega (arith, long, same)

pub one_unkept : (log more : List Entry) (e : Entry) (kept now : ℕ) → more ≡ log ++ e ∷ [] → now ≡ kept → length more - now ≤ (length log - kept) + 1
one_unkept log more e kept now is same =
    let long = ap length is ∙ length-append log (e ∷ []) in
    omega (arith, long, same)
