-- One equation of the program's list fired in its place.
use Rattle.std.proofs.Common.{◌≡◌, ℕ, ◌+◌, ◌<◌, List, [], ◌∷◌, ◌++◌, Some, length, map, slice_get, get_or, take, drop, option_map, refl, sym, ap, ◌∙◌, append_assoc, drop-cons, add-one}
use Rattle.std.proofs.lemmas.List.{map-append, take-map, drop-map}
use Rattle.std.proofs.lemmas.Option.{slice_get-map, slice_get_read}
use Rattle.std.specs.List.{remove}
use Rattle.std.specs.Option.{option_map_or}
use Rattle.ic_term.specs.declared.term.Equation.{Equation}
use Rattle.ic_term.specs.Term.{pair}
use Rattle.ic_term.specs.Tree.{Pair}
use Rattle.ic_rules.specs.Rule.{Rule}
use Rattle.ic_round.specs.Firing.{Active, active_pair, products_by, fired_pair}
use Rattle.ic_reference.specs.inner.Replacing.{fired_at}

-- the first equation from a place on is the one at the place
pub first_from : (es : List Equation) (i : ℕ) (e : Equation) → i < length es → e ≡ get_or (drop i es) 0 e → e ≡ get_or es i e
first_from es i e within first = first ∙ ap (λ l. get_or l 0 e) (drop-cons es i e within)

pub first_there : (es : List Equation) (i : ℕ) (e : Equation) → i < length es → e ≡ get_or (drop i es) 0 e → slice_get (map pair es) i ≡ Some (pair e)
first_there es i e within first =
    slice_get-map pair es i ∙ ap (option_map pair) (slice_get_read es (length es) i e refl within (first_from es i e within first))

-- without it, those after the place are left
pub rest_from : (es : List Equation) (i : ℕ) (e : Equation) → i < length es → remove (drop i es) 0 ≡ drop (i + 1) es
rest_from es i e within = ap (λ l. remove l 0) (drop-cons es i e within) ∙ ap (λ k. drop k es) (sym (add-one i))

pub fired_pair-active : (rs : List Rule) (base : ℕ) (p : Pair) (a : Active) → active_pair rs p ≡ Some a → fired_pair rs base p ≡ products_by rs base a
fired_pair-active rs base p a is = ap (λ o. option_map_or (products_by rs base) o (p ∷ [])) is

-- what stands in its place, between those before and those after it
pub fired_at-made : (rs : List Rule) (base : ℕ) (es : List Equation) (i : ℕ) (p : Pair) (out : List Pair) (all middle : List Equation) → slice_get (map pair es) i ≡ Some p
    → out ≡ fired_pair rs base p → map pair middle ≡ map pair (take i es) ++ out → all ≡ middle ++ drop (i + 1) es
    → map pair all ≡ fired_at rs base (map pair es) i
fired_at-made rs base es i p out all middle there is half whole =
    let here : option_map_or (fired_pair rs base) (slice_get (map pair es) i) [] ≡ out = ap (λ o. option_map_or (fired_pair rs base) o []) there ∙ sym is in
    ap (map pair) whole ∙ map-append pair middle (drop (i + 1) es) ∙ ap (λ l. l ++ map pair (drop (i + 1) es)) half
    ∙ append_assoc (map pair (take i es)) out (map pair (drop (i + 1) es))
    ∙ (λ j. sym (take-map pair i es) j ++ (sym here j ++ sym (drop-map pair (i + 1) es) j))
