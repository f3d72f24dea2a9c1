-- Lemmas: the smallest circle that indirection ends in two ways.
use Rattle.std.proofs.Common.{◌≡◌, ℕ, [], ◌∷◌, refl, sym, ap, arith, inl}
use Rattle.ic_term.specs.Tree.{Tree, name, agent, Trees, Pair}
use Rattle.ic_settle.specs.NameSteps.{NameStep}
use Rattle.ic_confluence.specs.Circle.{one_argument, of_equations, uncut, cut_at_x, cut_at_y}
use Rattle.ic_confluence.specs.Sameness.{turned, renamed_pair, Same}
use Rattle.ic_confluence.proofs.Meeting.{Circle, circle_same}

pub ends_at_y : (a b : ℕ) → NameStep (uncut a b) (of_equations (cut_at_y a b ∷ []))
ends_at_y a b = record {
  before = [];
  equation = record { left = name 0; right = one_argument a (name 1) };
  after = record { left = name 1; right = one_argument b (name 0) } ∷ [];
  bound = record { name = 0; term = one_argument a (name 1) };
  place = refl;
  side = inl refl;
  outside = refl;
  result = refl;
}

pub ends_at_x : (a b : ℕ) → NameStep (uncut a b) (of_equations (cut_at_x a b ∷ []))
ends_at_x a b = record {
  before = record { left = name 0; right = one_argument a (name 1) } ∷ [];
  equation = record { left = name 1; right = one_argument b (name 0) };
  after = [];
  bound = record { name = 1; term = one_argument b (name 0) };
  place = refl;
  side = inl refl;
  outside = refl;
  result = refl;
}

pub same_circle : (a b : ℕ) → Same (of_equations (cut_at_y a b ∷ [])) (of_equations (cut_at_x a b ∷ []))
same_circle a b =
    let k : Circle (uncut a b) [] 0 1 (one_argument a (name 1)) (one_argument b (name 0)) = record {
      apart = refl;
      low_x = omega arith;
      low_y = omega arith;
      none_x = refl;
      none_y = refl;
      x_in_t = refl;
      y_in_t = refl;
      x_in_u = refl;
      y_in_u = refl;
    } in
    circle_same (uncut a b) [] 0 1 (one_argument a (name 1)) (one_argument b (name 0)) k

abbrev symbol_of : Tree → ℕ
symbol_of (name n) = 0
symbol_of (agent s ts) = s

name_or : (n s : ℕ) (ts : Trees) → name n ≡ agent s ts → ⊥
name_or n s ts e = cc

pub apart_as_they_stand : (a b : ℕ) → (a ≡ b → ⊥) → (f : ℕ → ℕ) → renamed_pair f (cut_at_y a b) ≡ cut_at_x a b → ⊥
apart_as_they_stand a b differ f e = differ (sym (ap (λ (p : Pair). symbol_of p.right) e))

pub apart_turned : (a b : ℕ) (f : ℕ → ℕ) → renamed_pair f (cut_at_y a b) ≡ turned (cut_at_x a b) → ⊥
apart_turned a b f e = name_or _ _ _ (ap (λ (p : Pair). p.left) e)
