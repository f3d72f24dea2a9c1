-- One turn of the program's loop over the equations.
use Rattle.std.proofs.Common.{◌≡◌, ℕ, List, [], ◌∷◌, ◌++◌, Option, None, Some, MatchOption, length, refl, sym, ap, ◌∙◌, subst as transport}
use Rattle.std.proofs.lemmas.Option.{same_Some}
use Rattle.ic_term.specs.Tree.{Tree, Pair}
use Rattle.ic_term.specs.Configuration.{Configuration, names_in}
use Rattle.ic_settle.specs.declared.applicability.Applicable.{Applicable}
use Rattle.ic_settle.specs.declared.applicability.Outlet.{Outlet}
use Rattle.ic_settle.specs.Sides.{other_side}
use Rattle.ic_settle.specs.lemmas.Waiting.{look, IsAdded, Resolves}
use Rattle.ic_settle.specs.lemmas.Containers.{IsRoot, IsChosen, elsewhere, outlet, applicable_of, redirected}
use Rattle.ic_settle.specs.lemmas.Passing.{IsPassing, IsResolved, resolved-next, passing-skip, passing-bind, bound_new}

module _ (c : Configuration) (kept : List Pair) (es es' es'' : List (ℕ × Tree)) (links links' : List ℕ) (look_up : ℕ → Option (ℕ × ℕ)) (chosen : List (Option Applicable))
    (p : Pair) (rest : List Pair) (q : Pair) (s : IsPassing c kept es links look_up chosen (p ∷ rest)) (first : Resolves es es' p.left q.left) (second : Resolves es' es'' p.right q.right)
    (found : Option Applicable) (says : (root : ℕ → ℕ) → IsRoot links root → IsChosen root (length chosen) look_up q links' found) where
  resolved : IsResolved s.bs p q es'' (names_in c.interface (kept ++ rest))
  resolved = resolved-next c kept es es' es'' links look_up chosen p rest q.left q.right s first second

  abbrev Says : Option Outlet → Type 0
  Says o = MatchOption o ((found ≡ None) × IsRoot links' s.root) (λ w. (found ≡ Some (applicable_of w)) × IsRoot links' (redirected (length chosen) w.target s.root))

  abbrev found_outlet : Option Outlet
  found_outlet = outlet (λ y. elsewhere s.root (length chosen) (look_up y)) q.left q.right

  pub turn-none : found ≡ None → IsPassing c (kept ++ q ∷ []) es'' links' look_up (chosen ++ None ∷ []) rest
  turn-none is = by found_outlet refl (says s.root s.rooted)
    where
      by : (o : Option Outlet) → found_outlet ≡ o → Says o → IsPassing c (kept ++ q ∷ []) es'' links' look_up (chosen ++ None ∷ []) rest
      by None e m = passing-skip c kept es es'' links links' look_up chosen p rest q s resolved e m.1
      by (Some w) e m = (let bad : None ≡ Some (applicable_of w) = sym is ∙ m.0 in cc)

  pub turn-new : (a : Applicable) → found ≡ Some a → look es'' a.name ≡ None
  turn-new a is = by found_outlet refl (says s.root s.rooted)
    where
      by : (o : Option Outlet) → found_outlet ≡ o → Says o → look es'' a.name ≡ None
      by None e m = (let bad : Some a ≡ None = sym is ∙ m.0 in cc)
      by (Some w) e m =
          let same = same_Some (applicable_of w) a (sym m.0 ∙ is) in
          ap (λ b. look es'' b.name) (sym same) ∙ bound_new c kept es es'' links links' look_up chosen p rest q s resolved w e

  pub turn-some : (a : Applicable) → found ≡ Some a → (after : List (ℕ × Tree)) → IsAdded es'' after a.name (other_side q a.side)
      → IsPassing c kept after links' look_up (chosen ++ Some a ∷ []) rest
  turn-some a is after added = by found_outlet refl (says s.root s.rooted)
    where
      by : (o : Option Outlet) → found_outlet ≡ o → Says o → IsPassing c kept after links' look_up (chosen ++ Some a ∷ []) rest
      by None e m = (let bad : Some a ≡ None = sym is ∙ m.0 in cc)
      by (Some w) e m =
          let same = same_Some (applicable_of w) a (sym m.0 ∙ is) in
          let P : Applicable → Type 0 = λ b. IsAdded es'' after b.name (other_side q b.side) in
          let Q : Applicable → Type 0 = λ b. IsPassing c kept after links' look_up (chosen ++ Some b ∷ []) rest in
          transport Q same (passing-bind c kept es es'' links links' look_up chosen p rest q s resolved w e after (transport P (sym same) added) m.1)
