-- How many calls there were, and which refusal a round has.
use Rattle.std.proofs.Common.{◌≡◌, ◌≢◌, ◌⊎◌, ⊎_elim, inl, inr, ℕ, ◌+◌, ◌≤◌, refl, sym, arith}
use Rattle.std.proofs.Math.Nat.{eq-or-lt_of_le}
use Rattle.ic_book.specs.declared.fault.BookFault.{BookFault}
use Rattle.ic_book.specs.declared.fault.BookFault.TheVariants.{Broken, LogFull, Worn, Memory, Device}

pub counted : {before now : ℕ} → before ≤ now → now ≤ before + 1 → (now ≡ before) ⊎ (now ≡ before + 1)
counted later one = ⊎_elim (λ same. inl (sym same)) (λ less. inr (omega (arith, less, one))) (eq-or-lt_of_le later)

pub of_three : (fault : BookFault) → (fault ≢ Broken → fault ≢ LogFull → fault ≡ Memory) → (fault ≡ Broken) ⊎ ((fault ≡ LogFull) ⊎ (fault ≡ Memory))
of_three Broken is = inl refl
of_three LogFull is = inr (inl refl)
of_three Worn is = inr (inr (is (λ same. cc) (λ same. cc)))
of_three Memory is = inr (inr refl)
of_three Device is = inr (inr (is (λ same. cc) (λ same. cc)))
