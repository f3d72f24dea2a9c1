-- What a numbering of names tells them by.
use Rattle.std.proofs.Common.{◌≡◌, ℕ, ◌≤◌, ◌==◌, ◌&&◌, List, Bool, true, false, cond, get_or, refl, ap, ◌∙◌, arith}
use Rattle.std.specs.Prelude.{nat_le}
use Rattle.ic_term.specs.Configuration.{occurrences}
use Rattle.ic_rules.specs.Renaming.{first_occurrences}
use Rattle.ic_text.specs.declared.limits.TheConstants.{MAX_NAME}
use Rattle.ic_naming.specs.declared.numbering.Listed.{Listed}
use Rattle.ic_naming.specs.declared.numbering.Numbering.{Numbering}
use Rattle.ic_naming.specs.Naming.{is_kept, spare_numbers, told_name}
use Rattle.ic_naming.specs.inner.Numbering.{AreListed, IsNumbering, is_listed_kept, place_in, told_by}
use Rattle.ic_naming.proofs.Places.{place-le}

turned : (a b : Bool) → (a && b) ≡ (b && a)
turned true true = refl
turned true false = refl
turned false true = refl
turned false false = refl

-- by its mark a name is kept that is kept in the list
pub kept_so : (names : List ℕ) (l : Listed) → AreListed names l → (name : ℕ) → is_listed_kept l name ≡ is_kept names name
kept_so names l are name =
    ap (λ (b : Bool). nat_le name MAX_NAME && b) (are.single name) ∙ turned (nat_le name MAX_NAME) (occurrences name names == 1)

told_at : (names : List ℕ) (n : Numbering) → IsNumbering names n → (name : ℕ) → told_by n name ≡ told_name names name
told_at names n is name =
    let place = is.listed.places.each name in
    let low : place_in n.listed name ≤ n.listed.firsts = omega (arith, place, is.listed.places.many, place-le (first_occurrences names) name) in
    ap (λ b. cond b name (get_or n.spare.items (place_in n.listed name) 0)) (kept_so names n.listed is.listed name)
    ∙ ap (cond (is_kept names name) name) (is.spare (place_in n.listed name) low ∙ ap (λ k. get_or (spare_numbers names) k 0) place)

pub told_same : (names : List ℕ) (n : Numbering) → IsNumbering names n → told_by n ≡ told_name names
told_same names n is = λ i name. told_at names n is name i
