-- Lemmas: the plan of addition.
use Rattle.std.proofs.Common.{◌≡◌, ℕ, zero, suc, ◌+◌, ◌≤◌, ◌<◌, ◌==◌, refl, ap, slice_index_or, arith, inl, inr}
use Rattle.std.proofs.lemmas.List.Sorted.{IsPermutation-refl}
use Rattle.std.specs.Prelude.{Contains, count_by}
use Rattle.ic_term.specs.Tree.{Tree, name, agent}
use Rattle.ic_machine.specs.Plan.{operands_of}
use Rattle.ic_meaning.specs.Example.{addition_arities, addition_rule, addition_plan}
use Rattle.ic_meaning.specs.Plans.{StandsFor, HasRegister, arguments_of, equations_made, rule_arguments}

-- y is read from the register of the argument that it is, and r from that of the fresh name
abbrev place : ℕ → ℕ
place zero = 3
place (suc x) = 5

read_at : (x : ℕ) → x < 2 → HasRegister (arguments_of 2 addition_rule) place 5 1 x
read_at zero low = inr (1, refl)
read_at (suc zero) low = inl ((let h : 5 ≤ 5 = omega arith in h), (let h : 5 < 5 + 1 = omega arith in h))
read_at (suc (suc x)) low = absurd (omega arith)

apart_at : (x y : ℕ) → x < 2 → y < 2 → place x ≡ place y → x ≡ y
apart_at zero zero lx ly same = refl
apart_at (suc x) (suc y) lx ly same = omega arith
apart_at _ _ lx ly same = absurd (omega arith)

used_at : (k : ℕ) → k < 2 → count_by (λ m. m == 6 + k) (operands_of addition_plan) ≡ 1
used_at (suc (suc k)) low = absurd (omega arith)
used_at _ low = refl

abbrev number_in : Tree → ℕ
number_in (name x) = x
number_in (agent s ts) = 0

no_argument : (i : ℕ) → i < 3 → slice_index_or (rule_arguments addition_rule) i (name 1) ≡ name 1 → ⊥
no_argument (suc zero) low is = let same : 0 ≡ 1 = ap number_in is in absurd (omega (arith, same))
no_argument (suc (suc (suc i))) low is = absurd (omega arith)
no_argument _ low is = cc

fresh_at : (k : ℕ) → k < 1 → (x : ℕ) × (x < 2) × (place x ≡ 5 + k) × ¬ Contains (rule_arguments addition_rule) (name x)
fresh_at zero low = (1, (let h : 1 < 2 = omega arith in h), refl, (λ there. no_argument there.0 there.1 there.2))
fresh_at (suc k) low = absurd (omega arith)

pub addition_stands : StandsFor addition_arities addition_rule addition_plan
addition_stands = record {
  registers = place;
  read = read_at;
  apart = apart_at;
  fresh = fresh_at;
  used = used_at;
  equations = λ held constants. IsPermutation-refl (equations_made 6 addition_plan held);
}
