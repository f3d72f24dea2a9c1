-- Files that are torn on one range and then on another.
use Rattle.std.proofs.Common.{⊎_elim, ℕ, ◌<◌, List, length, ◌∙◌, subst, arith}
use Rattle.ic_disk.specs.Images.{Only, TornFrom, Within}
use Rattle.ic_disk.specs.PlainImages.{AgreesOutside, AgreesWithAny, two_ranges}

module _ (at n other m : ℕ) where
  pub torn_once : (images : List ℕ → Type 0) → Within (TornFrom at n images) (AgreesWithAny (two_ranges at n other m) images)
  torn_once images file from = (
    from.0,
    from.1,
    record {
      no_shorter = from.2.no_shorter;
      same = λ i inside outside. ⊎_elim (λ before. from.2.before i inside before) (λ after. from.2.after i inside after) outside.0;
    },
  )

  pub torn_twice : (images mid : List ℕ → Type 0) → Within mid (TornFrom at n images) → Within (TornFrom other m mid) (AgreesWithAny (two_ranges at n other m) images)
  torn_twice images mid within file from =
      let first = within from.0 from.1 in (
        first.0,
        first.1,
        record {
          no_shorter = omega (arith, first.2.no_shorter, from.2.no_shorter);
          same = λ i inside outside.
              let still : i < length from.0 = omega (arith, inside, first.2.no_shorter) in
              ⊎_elim (λ before. from.2.before i still before) (λ after. from.2.after i still after) outside.1.0
              ∙ ⊎_elim (λ before. first.2.before i inside before) (λ after. first.2.after i inside after) outside.0;
        },
      )

  -- where there was one image
  pub agrees_settled : (content : List ℕ) (images : List ℕ → Type 0) → Only content images → Within (AgreesWithAny (two_ranges at n other m) images) (AgreesOutside (two_ranges at n other m) content)
  agrees_settled content images only file agrees = subst (λ (old : List ℕ). AgreesOutside (two_ranges at n other m) old file) (only.no_other agrees.0 agrees.1) agrees.2
