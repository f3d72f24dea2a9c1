-- Lemmas: a step that puts a term for a name is an indirection or a collect.
use Rattle.std.proofs.Common.{◌≡◌, ◌∙◌, ◌==◌, ◌||◌, ℕ, List, ◌++◌, Bool, true, false, length, refl, sym, ap, inl, inr}
use Rattle.std.proofs.lemmas.Bool.{or_cases}
use Rattle.std.proofs.lemmas.List.Folds.{list_any-append}
use Rattle.std.specs.List.{flat_map}
use Rattle.ic_term.specs.Tree.{names, pair_names}
use Rattle.ic_term.specs.Configuration.{Configuration}
use Rattle.ic_rules.specs.Rule.{Rule}
use Rattle.ic_settle.specs.Settling.{occurs}
use Rattle.ic_settle.specs.NameSteps.{NameStep}
use Rattle.ic_round.specs.Steps.{Step, indirection, collect, Indirection, Collect}

pub in_either : (x : ℕ) (ms ns : List ℕ) → occurs x ns ≡ true → occurs x (ms ++ ns) ≡ true
in_either x ms ns e = list_any-append (λ n. n == x) ms ns ∙ ap (λ b. occurs x ms || b) e ∙ or_true (occurs x ms)
  where
    or_true : (b : Bool) → (b || true) ≡ true
    or_true true = refl
    or_true false = refl

pub in_first : (x : ℕ) (ms ns : List ℕ) → occurs x ms ≡ true → occurs x (ms ++ ns) ≡ true
in_first x ms ns e = list_any-append (λ n. n == x) ms ns ∙ ap (λ b. b || occurs x ns) e

-- a step of settling is a step
pub name_step : (rs : List Rule) (c d : Configuration) → NameStep c d → Step rs c d
name_step rs c d s =
    let elsewhere = sym (list_any-append (λ n. n == s.bound.name) (flat_map names c.interface) (flat_map pair_names (s.before ++ s.after))) ∙ s.outside in
    elim (or_cases (occurs s.bound.name (flat_map names c.interface)) (occurs s.bound.name (flat_map pair_names (s.before ++ s.after))) elsewhere) [
      | inl h ↦ collect c d (length s.before) (record {
        before = s.before;
        equation = s.equation;
        after = s.after;
        bound = s.bound;
        stands = record { counted = refl; parts = s.place };
        side = s.side;
        elsewhere = h;
        result = s.result;
      })
      | inr h ↦ indirection c d (length s.before) (record {
        before = s.before;
        equation = s.equation;
        after = s.after;
        bound = s.bound;
        stands = record { counted = refl; parts = s.place };
        side = s.side;
        elsewhere = h;
        result = s.result;
      })
    ]

-- and the other way round
pub indirection_step : (c d : Configuration) (place : ℕ) → Indirection c d place → NameStep c d
indirection_step c d place i = record {
  before = i.before;
  equation = i.equation;
  after = i.after;
  bound = i.bound;
  place = i.stands.parts;
  side = i.side;
  outside = in_either i.bound.name (flat_map names c.interface) (flat_map pair_names (i.before ++ i.after)) i.elsewhere;
  result = i.result;
}

pub collect_step : (c d : Configuration) (place : ℕ) → Collect c d place → NameStep c d
collect_step c d place i = record {
  before = i.before;
  equation = i.equation;
  after = i.after;
  bound = i.bound;
  place = i.stands.parts;
  side = i.side;
  outside = in_first i.bound.name (flat_map names c.interface) (flat_map pair_names (i.before ++ i.after)) i.elsewhere;
  result = i.result;
}
