-- Lemmas: no two borders of a machine have one cut, or one name.
use Rattle.std.proofs.Common.{◌≡◌, ℕ, ◌≤◌, ◌==◌, List, [], ◌∷◌, Option, Some, map, slice_get, suc, refl, subst}
use Rattle.std.specs.List.{AllByRecursion, IsDistinct}
use Rattle.std.proofs.lemmas.Cmp.{nat_eq_equiv}
use Rattle.std.proofs.lemmas.Map.Entries.{lookup_from_place}
use Rattle.ic_machine.specs.declared.borders.Border.{Border}
use Rattle.ic_machine.specs.declared.borders.Borders.TheInside.{Inside}
use Rattle.ic_machine.specs.Moving.{times}
use Rattle.ic_machine.specs.inner.Borders.{cut_at, end_of, ends_of, AreListed}
use Rattle.ic_machine.proofs.Ends.{cuts_in, keys_cuts}
use Rattle.ic_machine.proofs.EndsOnce.{distinct_once, names_once}

distinct_cuts : (b : Inside) → AreListed b → IsDistinct (λ a b. a == b) (cuts_in b.by_cut.entries)
distinct_cuts b are = subst (IsDistinct (λ a b. a == b)) (keys_cuts b.by_cut.entries) are.unique

pub borders_cuts : (b : Inside) → AreListed b → (x : ℕ) → times x (map (λ e. e.cut) (ends_of b).ends) ≤ 1
borders_cuts b are x = distinct_once (cuts_in b.by_cut.entries) (distinct_cuts b are) x

all_named : (gs : ℕ → Option ℕ) (es : List (ℕ × Border)) → ((i k : ℕ) (x : Border) → slice_get es i ≡ Some (k, x) → gs x.name ≡ Some k)
    → AllByRecursion (λ e. gs e.name ≡ Some e.cut) (map end_of es)
all_named gs [] each = tt
all_named gs (e ∷ es) each = (each 0 e.0 e.1 refl, all_named gs es (λ i. each (suc i)))

pub borders_names : (b : Inside) → AreListed b → (x : ℕ) → times x (map (λ e. e.name) (ends_of b).ends) ≤ 1
borders_names b are x =
    names_once (cut_at b.by_name) (map end_of b.by_cut.entries)
    (all_named (cut_at b.by_name) b.by_cut.entries (λ i k y at. are.paired.named k y (lookup_from_place nat_eq_equiv b.by_cut.entries i k y are.unique at)))
    (distinct_cuts b are) x
