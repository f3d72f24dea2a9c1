-- Lemmas: rounds are a chain of steps with as many interactions as equations are fired.
use Rattle.std.proofs.Common.{◌≡◌, ℕ, zero, suc, ◌+◌, cond, List, [], ◌∷◌, ◌++◌, Option, None, Some, is_some, count_by, length, ◌==◌, inl, inr, refl, sym, ap, ◌∙◌, append_assoc, append-nil, arith, subst}
use Rattle.std.specs.Prelude.{sum_by}
use Rattle.std.specs.List.{flat_map}
use Rattle.std.proofs.lemmas.Bool.{or_cases}
use Rattle.std.proofs.lemmas.List.{length_push}
use Rattle.std.proofs.lemmas.List.Folds.{list_any-append}
use Rattle.std.proofs.lemmas.List.Sums.{sum_by-cons, sum_by_push}
use Rattle.std.specs.Option.{option_map_or}
use Rattle.ic_term.specs.Tree.{Tree, Pair, names, pair_names}
use Rattle.ic_term.specs.Configuration.{Configuration}
use Rattle.ic_rules.specs.Rule.{Rule}
use Rattle.ic_settle.specs.NameSteps.{NameStep}
use Rattle.ic_settle.specs.Settling.{occurs, Choice, first_choice, applied, settled_in, settled}
use Rattle.ic_round.specs.Firing.{Active, active_pair, products_by, count_of, names_taken, fired_pair, fired_from, next_after, fired}
use Rattle.ic_round.specs.ActivePlaces.{active, active_from}
use Rattle.ic_round.specs.Steps.{interaction, indirection, collect, Steps, no_steps, then_step}
use Rattle.ic_round.specs.Rounds.{iterate}
use Rattle.ic_round.specs.lemmas.SettledLemmas.{choice_step}
use Rattle.ic_by_rounds.specs.Interacting.{interactions_of}
use Rattle.ic_by_rounds.specs.Tracing.{active_count, row_after, rows_of}
use Rattle.ic_by_rounds.specs.declared.row.Row.{Row}

-- a chain of steps of which so many are interactions
abbrev Interacts : List Rule → Configuration → Configuration → ℕ → Type 0
Interacts rs c d n = (steps : Steps rs c d) × (interactions_of rs c d steps ≡ n)

-- how many of these equations are active
abbrev pub actives : List Rule → List Pair → ℕ
actives rs ps = count_by (λ p. is_some (active_pair rs p)) ps

-- a configuration on its way: these equations are done, those aren't
abbrev way : List Tree → List Pair → List Pair → ℕ → Configuration
way ts done ps base = record { interface = ts; equations = done ++ ps; next = base }

fire_next : (rs : List Rule) (c : Configuration) (ts : List Tree) (done : List Pair) (p : Pair) (ps : List Pair) (base n : ℕ) (a : Active) → active_pair rs p ≡ Some a
    → Interacts rs c (way ts done (p ∷ ps) base) n → Interacts rs c (way ts done (products_by rs base a ++ ps) (base + count_of rs a.rule)) (suc n)
fire_next rs c ts done p ps base n a is (steps, count) = (
  then_step c _ _ steps (interaction _ _ (length done) (record {
    before = done;
    equation = p;
    after = ps;
    active = a;
    stands = record { counted = refl; parts = refl };
    has_rule = is;
    result = refl;
  })),
  ap suc count,
)

regrouped : (rs : List Rule) (c : Configuration) (ts : List Tree) (done out ps : List Pair) (base n : ℕ) → Interacts rs c (way ts done (out ++ ps) base) n → Interacts rs c (way ts (done ++ out) ps base) n
regrouped rs c ts done out ps base n chain =
    let P : List Pair → Type 0 = λ es. Interacts rs c (record { interface = ts; equations = es; next = base }) n in
    subst P (sym (append_assoc done out ps)) chain

-- as many as the equation is active
abbrev pub one_of : Option Active → ℕ
one_of None = 0
one_of (Some a) = 1

one_fired : (rs : List Rule) (c : Configuration) (ts : List Tree) (done : List Pair) (p : Pair) (ps : List Pair) (base n : ℕ) (found : Option Active) → active_pair rs p ≡ found
    → Interacts rs c (way ts done (p ∷ ps) base) n
    → Interacts rs c (way ts (done ++ option_map_or (products_by rs base) found (p ∷ [])) ps (base + option_map_or (λ a. count_of rs a.rule) found 0)) (one_of found + n)
one_fired rs c ts done p ps base n None is chain =
    let P : ℕ → Type 0 = λ b. Interacts rs c (way ts (done ++ p ∷ []) ps b) n in
    let Q : ℕ → Type 0 = λ k. Interacts rs c (way ts (done ++ p ∷ []) ps (base + 0)) k in
    let same : base ≡ base + 0 = omega arith in
    let count : n ≡ 0 + n = omega arith in
    subst Q count (subst P same (regrouped rs c ts done (p ∷ []) ps base n chain))
one_fired rs c ts done p ps base n (Some a) is chain =
    let Q : ℕ → Type 0 = λ k. Interacts rs c (way ts (done ++ products_by rs base a) ps (base + count_of rs a.rule)) k in
    let count : suc n ≡ 1 + n = omega arith in
    subst Q count (regrouped rs c ts done (products_by rs base a) ps (base + count_of rs a.rule) (suc n) (fire_next rs c ts done p ps base n a is chain))

pub actives_cons : (rs : List Rule) (p : Pair) (ps : List Pair) (found : Option Active) → active_pair rs p ≡ found → actives rs (p ∷ ps) ≡ one_of found + actives rs ps
actives_cons rs p ps None e = sum_by-cons (λ q. cond (is_some (active_pair rs q)) 1 0) p ps ∙ ap (λ o. cond (is_some o) 1 0 + actives rs ps) e
actives_cons rs p ps (Some a) e = sum_by-cons (λ q. cond (is_some (active_pair rs q)) 1 0) p ps ∙ ap (λ o. cond (is_some o) 1 0 + actives rs ps) e

all_fired : (rs : List Rule) (c : Configuration) (ts : List Tree) (done ps : List Pair) (base n : ℕ) → Interacts rs c (way ts done ps base) n
    → Interacts rs c (way ts (done ++ fired_from rs base ps) [] (next_after rs base ps)) (actives rs ps + n)
all_fired rs c ts done [] base n chain =
    let Q : ℕ → Type 0 = λ k. Interacts rs c (way ts (done ++ []) [] base) k in
    let count : n ≡ 0 + n = omega arith in
    subst Q count (regrouped rs c ts done [] [] base n chain)
all_fired rs c ts done (p ∷ ps) base n chain =
    let more = all_fired rs c ts (done ++ fired_pair rs base p) ps (base + names_taken rs p) (one_of (active_pair rs p) + n) (one_fired rs c ts done p ps base n (active_pair rs p) refl chain) in
    let P : List Pair → Type 0 = λ es. Interacts rs c (way ts es [] (next_after rs (base + names_taken rs p) ps)) (actives rs ps + (one_of (active_pair rs p) + n)) in
    let Q : ℕ → Type 0 = λ k. Interacts rs c (way ts (done ++ fired_from rs base (p ∷ ps)) [] (next_after rs base (p ∷ ps))) k in
    let each = actives_cons rs p ps (active_pair rs p) refl in
    let count : actives rs ps + (one_of (active_pair rs p) + n) ≡ actives rs (p ∷ ps) + n = omega (arith, each) in
    subst Q count (subst P (append_assoc done (fired_pair rs base p) (fired_from rs (base + names_taken rs p) ps)) more)

fired_interacts : (rs : List Rule) (c d : Configuration) (n : ℕ) → Interacts rs c d n → Interacts rs c (fired rs d) (active_count rs d + n)
fired_interacts rs c d n chain =
    let all = all_fired rs c d.interface [] d.equations d.next n chain in
    let P : List Pair → Type 0 = λ es. Interacts rs c (record { interface = d.interface; equations = es; next = (fired rs d).next }) (active_count rs d + n) in
    subst P (append-nil (fired_from rs d.next d.equations)) all

-- ---- settling

-- an indirection or a collect is no interaction
name_step_too : (rs : List Rule) (c d e : Configuration) (n : ℕ) → NameStep d e → Interacts rs c d n → Interacts rs c e n
name_step_too rs c d e n s (steps, count) =
    let elsewhere = sym (list_any-append (λ n. n == s.bound.name) (flat_map names d.interface) (flat_map pair_names (s.before ++ s.after))) ∙ s.outside in
    elim (or_cases (occurs s.bound.name (flat_map names d.interface)) (occurs s.bound.name (flat_map pair_names (s.before ++ s.after))) elsewhere) [
      | inl h ↦ (
        then_step c d e steps (collect d e (length s.before) (record {
          before = s.before;
          equation = s.equation;
          after = s.after;
          bound = s.bound;
          stands = record { counted = refl; parts = s.place };
          side = s.side;
          elsewhere = h;
          result = s.result;
        })),
        count,
      )
      | inr h ↦ (
        then_step c d e steps (indirection d e (length s.before) (record {
          before = s.before;
          equation = s.equation;
          after = s.after;
          bound = s.bound;
          stands = record { counted = refl; parts = s.place };
          side = s.side;
          elsewhere = h;
          result = s.result;
        })),
        count,
      )
    ]

settled_in_interacts : (rs : List Rule) (k : ℕ) (c d : Configuration) (n : ℕ) → Interacts rs c d n → Interacts rs c (settled_in k d) n
settled_in_interacts rs zero c d n chain = chain
settled_in_interacts rs (suc k) c d n chain = at (first_choice d.interface [] d.equations) refl (λ e more. settled_in_interacts rs k c e n more)
  where
    at : (found : Option Choice) → first_choice d.interface [] d.equations ≡ found
        → ((e : Configuration) → Interacts rs c e n → Interacts rs c (settled_in k e) n) → Interacts rs c (settled_in (suc k) d) n
    at None e rest = rw e chain
    at (Some choice) e rest = rw e (rest (applied d choice) (name_step_too rs c d (applied d choice) n (choice_step d choice e) chain))

settled_interacts : (rs : List Rule) (c d : Configuration) (n : ℕ) → Interacts rs c d n → Interacts rs c (settled d) n
settled_interacts rs c d n chain = settled_in_interacts rs (length d.equations) c d n chain

-- ---- rounds

pub rounds_interact : (rs : List Rule) (c : Configuration) (n : ℕ) → Interacts rs c (iterate rs n c) (sum_by (λ row. row.pairs) (rows_of rs c n))
rounds_interact rs c zero = (no_steps c, refl)
rounds_interact rs c (suc n) =
    let before = rounds_interact rs c n in
    let sum = sum_by (λ row. row.pairs) (rows_of rs c n) in
    let there = settled_interacts rs c (fired rs (iterate rs n c)) (active_count rs (iterate rs n c) + sum) (fired_interacts rs c (iterate rs n c) sum before) in
    let pushed = sum_by_push (λ (row : Row). row.pairs) (rows_of rs c n) (row_after rs c n) in
    let count : active_count rs (iterate rs n c) + sum ≡ sum_by (λ row. row.pairs) (rows_of rs c (suc n)) = omega (arith, pushed) in
    let Q : ℕ → Type 0 = λ k. Interacts rs c (iterate rs (suc n) c) k in
    subst Q count there

pub as_many_rows : (rs : List Rule) (c : Configuration) (n : ℕ) → length (rows_of rs c n) ≡ n
as_many_rows rs c zero = refl
as_many_rows rs c (suc n) = let before = as_many_rows rs c n in omega (arith, length_push (rows_of rs c n) (row_after rs c n))

active_count_from : (rs : List Rule) (i : ℕ) (ps : List Pair) → actives rs ps ≡ length (active_from rs i ps)
active_count_from rs i [] = refl
active_count_from rs i (p ∷ ps) = actives_cons rs p ps (active_pair rs p) refl ∙ at (active_pair rs p) (active_count_from rs (i + 1) ps)
  where
    at : (found : Option Active) → actives rs ps ≡ length (active_from rs (i + 1) ps)
        → one_of found + actives rs ps ≡ length (option_map_or (λ a. i ∷ active_from rs (i + 1) ps) found (active_from rs (i + 1) ps))
    at None rest = omega (arith, rest)
    at (Some a) rest = omega (arith, rest)

pub active_counted : (rs : List Rule) (c : Configuration) → active_count rs c ≡ length (active rs c)
active_counted rs c = active_count_from rs 0 c.equations
