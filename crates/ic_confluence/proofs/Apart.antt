-- Lemmas: circles that are two nets.
use Rattle.std.proofs.Common.{◌≡◌, ◌⊎◌, ℕ, zero, suc, [], ◌∷◌, ◌++◌, length, refl, sym, ap, ◌∙◌, inl, inr, subst as transport}
use Rattle.std.specs.List.{AllByRecursion}
use Rattle.std.proofs.lemmas.List.Elements.{All-from_recursion, recursion_from_All}
use Rattle.std.proofs.lemmas.List.Sorted.{All-permutation}
use Rattle.ic_confluence.specs.Circle.{of_equations, circle_of}
use Rattle.ic_confluence.specs.Sameness.{Same}
use Rattle.ic_confluence.proofs.Agents.{same_symbols}
use Rattle.ic_confluence.proofs.Ways.{Way, turn, turn_by, from_parts, one_way}

pub other_agents : (a b : ℕ) → (a ≡ b → ⊥) → Same (of_equations (circle_of (a ∷ a ∷ []) ∷ [])) (of_equations (circle_of (b ∷ b ∷ []) ∷ [])) → ⊥
other_agents a b differ same =
    let P : ℕ → Type 0 = λ n. n ≡ a in
    let moved = same_symbols (of_equations (circle_of (a ∷ a ∷ []) ∷ [])) (of_equations (circle_of (b ∷ b ∷ []) ∷ [])) same in
    let each : AllByRecursion P (b ∷ b ∷ []) = recursion_from_All P (b ∷ b ∷ []) (All-permutation P (a ∷ a ∷ []) (b ∷ b ∷ []) moved (All-from_recursion P (a ∷ a ∷ []) (refl, (refl, tt)))) in
    differ (sym each.0)

abbrev of_three : ℕ → ℕ → ℕ → Way
of_three a b c = (a, 0) ∷ (b, 0) ∷ (c, 0) ∷ []

-- the three ways that begin at one of three agents
abbrev OneOfThree : ℕ → ℕ → ℕ → Way → Type 0
OneOfThree a b c w = (w ≡ of_three a b c) ⊎ ((w ≡ of_three b c a) ⊎ (w ≡ of_three c a b))

turned_three : (a b c n : ℕ) (w : Way) → OneOfThree a b c w → OneOfThree a b c (turn_by n w)
turned_three a b c zero w one = one
turned_three a b c (suc n) w (inl e) = turned_three a b c n (turn w) (inr (inl (ap turn e)))
turned_three a b c (suc n) w (inr (inl e)) = turned_three a b c n (turn w) (inr (inr (ap turn e)))
turned_three a b c (suc n) w (inr (inr e)) = turned_three a b c n (turn w) (inl (ap turn e))

abbrev first_symbol : Way → ℕ
first_symbol [] = 0
first_symbol (e ∷ w) = e.0

abbrev second_symbol : Way → ℕ
second_symbol [] = 0
second_symbol (e ∷ w) = first_symbol w

never_turned : (a b c : ℕ) → (a ≡ b → ⊥) → (b ≡ c → ⊥) → (c ≡ a → ⊥) → OneOfThree a b c (of_three a c b) → ⊥
never_turned a b c ab bc ca (inl e) = bc (sym (ap second_symbol e))
never_turned a b c ab bc ca (inr (inl e)) = ab (ap first_symbol e)
never_turned a b c ab bc ca (inr (inr e)) = ca (sym (ap first_symbol e))

pub other_order : (a b c : ℕ) → (a ≡ b → ⊥) → (b ≡ c → ⊥) → (c ≡ a → ⊥)
    → Same (of_equations (circle_of (a ∷ b ∷ c ∷ []) ∷ [])) (of_equations (circle_of (a ∷ c ∷ b ∷ []) ∷ [])) → ⊥
other_order a b c ab bc ca same =
    let parts = one_way (of_equations (circle_of (a ∷ b ∷ c ∷ []) ∷ [])) (of_equations (circle_of (a ∷ c ∷ b ∷ []) ∷ [])) (circle_of (a ∷ b ∷ c ∷ [])) (circle_of (a ∷ c ∷ b ∷ [])) same refl refl in
    let given : of_three a b c ≡ parts.0 ++ parts.1 = parts.2 in
    let result : of_three a c b ≡ parts.1 ++ parts.0 = parts.3 in
    let turned_so : turn_by (length parts.0) (of_three a b c) ≡ of_three a c b = ap (turn_by (length parts.0)) given ∙ (from_parts parts.0 parts.1 ∙ sym result) in
    let P : Way → Type 0 = OneOfThree a b c in
    never_turned a b c ab bc ca (transport P turned_so (turned_three a b c (length parts.0) (of_three a b c) (inl refl)))
