-- Lemmas: firing is interactions, one for each active equation, and these lead nowhere else.
use Rattle.std.proofs.Common.{◌≡◌, ℕ, ◌+◌, List, [], ◌∷◌, ◌++◌, Bool, cond, Option, None, Some, is_some, length, refl, sym, ap, ◌∙◌, append_assoc, append-nil, arith, subst as transport}
use Rattle.std.proofs.lemmas.List.Sums.{sum_by-append, sum_by-cons}
use Rattle.std.specs.Prelude.{count_by, filter}
use Rattle.std.specs.Option.{option_map_or}
use Rattle.ic_term.specs.Tree.{Tree, Pair}
use Rattle.ic_term.specs.Configuration.{Configuration}
use Rattle.ic_rules.specs.Rule.{Rule}
use Rattle.ic_round.specs.Firing.{Active, active_pair, products_by, count_of, names_taken, fired_pair, fired_from, next_after, fired}
use Rattle.ic_round.specs.Steps.{Interaction}
use Rattle.ic_round.specs.Interactions.{Interactions, active_equations}

-- ---- one for each active equation

-- a configuration on its way: these equations are done, those aren't
abbrev way : List Tree → List Pair → List Pair → ℕ → Configuration
way ts done ps base = record { interface = ts; equations = done ++ ps; next = base }

-- and at the end of it
abbrev end_of : List Rule → List Tree → List Pair → List Pair → ℕ → Configuration
end_of rs ts done ps base = way ts (done ++ fired_from rs base ps) [] (next_after rs base ps)

abbrev actives : List Rule → List Pair → List Pair
actives rs ps = filter (λ p. is_some (active_pair rs p)) ps

fire_next : (rs : List Rule) (ts : List Tree) (done : List Pair) (p : Pair) (ps : List Pair) (base : ℕ) (a : Active) → active_pair rs p ≡ Some a
    → (step : Interaction rs (way ts done (p ∷ ps) base) (way ts (done ++ products_by rs base a) ps (base + count_of rs a.rule)) (length done)) × (step.equation ≡ p)
fire_next rs ts done p ps base a is = (
  record {
    before = done;
    equation = p;
    after = ps;
    active = a;
    stands = record { counted = refl; parts = refl };
    has_rule = is;
    result = ap (λ es. record { interface = ts; equations = es; next = base + count_of rs a.rule }) (append_assoc done (products_by rs base a) ps);
  },
  refl,
)

-- the next equation isn't active
pass_next : (ts : List Tree) (done : List Pair) (p : Pair) (ps : List Pair) (base : ℕ) → way ts (done ++ p ∷ []) ps (base + 0) ≡ way ts done (p ∷ ps) base
pass_next ts done p ps base =
    let same : base + 0 ≡ base = omega arith in
    λ i. record { interface = ts; equations = append_assoc done (p ∷ []) ps i; next = same i }

-- the next equation, and those after it
one_more : (rs : List Rule) (ts : List Tree) (done : List Pair) (p : Pair) (ps : List Pair) (base : ℕ) (found : Option Active) (end : Configuration) → active_pair rs p ≡ found
    → Interactions rs (actives rs ps) (way ts (done ++ option_map_or (products_by rs base) found (p ∷ [])) ps (base + option_map_or (λ a. count_of rs a.rule) found 0)) end
    → Interactions rs (cond (is_some found) (p ∷ actives rs ps) (actives rs ps)) (way ts done (p ∷ ps) base) end
one_more rs ts done p ps base None end is rest =
    let P : Configuration → Type 0 = λ c. Interactions rs (actives rs ps) c end in
    transport P (pass_next ts done p ps base) rest
one_more rs ts done p ps base (Some a) end is rest =
    let step = fire_next rs ts done p ps base a is in
    (_, _, step.0, step.1, rest)

all_fired : (rs : List Rule) (ts : List Tree) (done ps : List Pair) (base : ℕ) → Interactions rs (actives rs ps) (way ts done ps base) (end_of rs ts done ps base)
all_fired rs ts done [] base = ap (λ es. record { interface = ts; equations = es; next = base }) (sym (append-nil (done ++ [])))
all_fired rs ts done (p ∷ ps) base =
    let out = fired_pair rs base p in
    let k = names_taken rs p in
    let P : List Pair → Type 0 = λ es. Interactions rs (actives rs (p ∷ ps)) (way ts done (p ∷ ps) base) (record { interface = ts; equations = es ++ []; next = next_after rs (base + k) ps }) in
    transport P (append_assoc done out (fired_from rs (base + k) ps))
    (one_more rs ts done p ps base (active_pair rs p) (end_of rs ts (done ++ out) ps (base + k)) refl (all_fired rs ts (done ++ out) ps (base + k)))

pub fires_actives : (rs : List Rule) (c : Configuration) → Interactions rs (active_equations rs c) c (fired rs c)
fires_actives rs c =
    let P : List Pair → Type 0 = λ es. Interactions rs (active_equations rs c) c (record { interface = c.interface; equations = es; next = (fired rs c).next }) in
    transport P (append-nil (fired_from rs c.next c.equations)) (all_fired rs c.interface [] c.equations c.next)

-- ---- and these lead nowhere else

-- the same interface, the same fresh names, and each equation as often
record AsMany (c d : Configuration) : Type 0 where
  interface : c.interface ≡ d.interface
  next : c.next ≡ d.next
  equations : (test : Pair → Bool) → count_by test c.equations ≡ count_by test d.equations

same_active : (rs : List Rule) (p q : Pair) (a b : Active) → active_pair rs p ≡ Some a → active_pair rs q ≡ Some b → p ≡ q → a ≡ b
same_active rs p q a b one other same = let both = sym one ∙ ap (active_pair rs) same ∙ other in cc

-- what an interaction leaves of each equation
counted : (rs : List Rule) (c d : Configuration) (place : ℕ) (s : Interaction rs c d place) (test : Pair → Bool)
    → count_by test d.equations + cond (test s.equation) 1 0 ≡ count_by test c.equations + count_by test (products_by rs c.next s.active)
counted rs c d place s test =
    let size : Pair → ℕ = λ p. cond (test p) 1 0 in
    let out = products_by rs c.next s.active in
    let given = ap (count_by test) s.stands.parts in
    let made = ap (λ (e : Configuration). count_by test e.equations) s.result in
    omega (
      arith,
      given,
      made,
      sum_by-append size s.before (s.equation ∷ s.after),
      sum_by-cons size s.equation s.after,
      sum_by-append size s.before (out ++ s.after),
      sum_by-append size out s.after,
    )

next_one : (rs : List Rule) (c d c' d' : Configuration) (place place' : ℕ) (s : Interaction rs c d place) (t : Interaction rs c' d' place')
    → s.equation ≡ t.equation → AsMany c c' → AsMany d d'
next_one rs c d c' d' place place' s t same many =
    let active = same_active rs s.equation t.equation s.active t.active s.has_rule t.has_rule same in
    record {
      interface = ap (λ (e : Configuration). e.interface) s.result ∙ many.interface ∙ sym (ap (λ (e : Configuration). e.interface) t.result);
      next = ap (λ (e : Configuration). e.next) s.result ∙ (λ i. many.next i + count_of rs (active i).rule) ∙ sym (ap (λ (e : Configuration). e.next) t.result);
      equations = λ test.
          let out : count_by test (products_by rs c.next s.active) ≡ count_by test (products_by rs c'.next t.active) = λ i. count_by test (products_by rs (many.next i) (active i)) in
          let here : cond {A = ℕ} (test s.equation) 1 0 ≡ cond {A = ℕ} (test t.equation) 1 0 = ap (λ (p : Pair). cond {A = ℕ} (test p) 1 0) same in
          let one = counted rs c d place s test in
          let other = counted rs c' d' place' t test in
          omega (arith, one, other, out, here, many.equations test);
    }

along : (rs : List Rule) (ps : List Pair) (c d c' d' : Configuration) → Interactions rs ps c d → Interactions rs ps c' d' → AsMany c c' → AsMany d d'
along rs [] c d c' d' one other many =
    let P : Configuration → Type 0 = λ x. AsMany x d' in
    let Q : Configuration → Type 0 = λ x. AsMany c x in
    transport P one (transport Q other many)
along rs (p ∷ ps) c d c' d' one other many =
    along rs ps one.0 d other.0 d' one.4 other.4
    (next_one rs c one.0 c' other.0 one.1 other.1 one.2 other.2 (one.3 ∙ sym other.3) many)

itself : (c : Configuration) → AsMany c c
itself c = record { interface = refl; next = refl; equations = λ test. refl }

fires_only : (rs : List Rule) (c d : Configuration) → Interactions rs (active_equations rs c) c d → AsMany d (fired rs c)
fires_only rs c d given = along rs (active_equations rs c) c d c (fired rs c) given (fires_actives rs c) (itself c)

pub only_interface : (rs : List Rule) (c d : Configuration) → Interactions rs (active_equations rs c) c d → d.interface ≡ (fired rs c).interface
only_interface rs c d given = (fires_only rs c d given).interface

pub only_next : (rs : List Rule) (c d : Configuration) → Interactions rs (active_equations rs c) c d → d.next ≡ (fired rs c).next
only_next rs c d given = (fires_only rs c d given).next

pub only_equations : (rs : List Rule) (c d : Configuration) → Interactions rs (active_equations rs c) c d
    → (test : Pair → Bool) → count_by test d.equations ≡ count_by test (fired rs c).equations
only_equations rs c d given = (fires_only rs c d given).equations
