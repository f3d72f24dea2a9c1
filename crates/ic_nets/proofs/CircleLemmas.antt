-- The nets of a circle and of the circle cut are alike.
use Rattle.std.proofs.Common.{◌≡◌, ℕ, zero, suc, inr, List, [], ◌∷◌, true, refl, sym, ap, ◌∙◌}
use Rattle.ic_rules.specs.Rule.{Rule}
use Rattle.ic_confluence.specs.Circle.{cut_at_x, cut_at_y, of_equations, uncut}
use Rattle.ic_nets.specs.Likeness.{AreAlike, empty, matched, crossed, chained, is_bound}
use Rattle.ic_nets.specs.Nets.{IsNet}
use Rattle.ic_nets.specs.declared.net.Net.{Net}
use Rattle.ic_nets.specs.declared.port.Port.{Port}
use Rattle.ic_nets.specs.declared.port.Port.TheVariants.{Principal, Auxiliary, Free}
use Rattle.ic_nets.proofs.AlikeLemmas.{nets_alike}

-- the first agent and the second one exchanged
abbrev other : ℕ → ℕ
other zero = 1
other (suc zero) = 0
other (suc (suc k)) = suc (suc k)

other_twice : (k : ℕ) → other (other k) ≡ k
other_twice (suc zero) = refl
other_twice _ = refl

abbrev over : Port → Port
over (Principal k) = Principal (other k)
over (Auxiliary k i) = Auxiliary (other k) i
over p = p

over_twice : (p : Port) → over (over p) ≡ p
over_twice (Principal k) = ap Principal (other_twice k)
over_twice (Auxiliary k i) = ap (λ a. Auxiliary a i) (other_twice k)
over_twice p = refl

over_bound : (p : Port) → is_bound p ≡ true → is_bound (over p) ≡ true
over_bound (Free n) b = b
over_bound p b = refl

over_apart : (p q : Port) → over p ≡ over q → p ≡ q
over_apart p q same = sym (over_twice p) ∙ ap over same ∙ over_twice q

pub circles_alike : (rs : List Rule) (a b : ℕ) (m n : Net) → IsNet rs (uncut a b) m → IsNet rs (of_equations (cut_at_y a b ∷ [])) n → AreAlike m n
circles_alike rs a b = nets_alike rs (uncut a b) (of_equations (cut_at_y a b ∷ [])) over over_bound over_apart (λ k. refl) (λ i. refl) refl (crossed _ _ []) empty
    (matched _ _ _ _ (inr refl) (matched _ _ _ _ (inr refl) empty))

pub cuts_alike : (rs : List Rule) (a b : ℕ) (m n : Net) → IsNet rs (of_equations (cut_at_y a b ∷ [])) m → IsNet rs (of_equations (cut_at_x a b ∷ [])) n → AreAlike m n
cuts_alike rs a b = nets_alike rs (of_equations (cut_at_y a b ∷ [])) (of_equations (cut_at_x a b ∷ [])) over over_bound over_apart (λ k. refl) (λ i. refl) refl (crossed _ _ []) empty
    (chained _ _ _ (crossed _ _ []) (matched _ _ _ _ (inr refl) (matched _ _ _ _ (inr refl) empty)))
