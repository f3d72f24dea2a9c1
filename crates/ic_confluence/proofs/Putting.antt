-- Lemmas: a step that puts a term for a name, wherever its equation stands, and how often names occur before and after it.
use Rattle.std.proofs.Common.{◌≡◌, ℕ, ◌+◌, ◌*◌, ◌≤◌, ◌==◌, List, [], ◌∷◌, ◌++◌, Bool, true, false, cond, refl, sym, ap, ◌∙◌, eq-eqb, arith, subst as transport}
use Rattle.std.proofs.lemmas.Bool.{true_from_ne_false}
use Rattle.std.specs.Cmp.{unsigned_Decides}
use Rattle.ic_term.specs.Tree.{names, Pair}
use Rattle.ic_term.specs.Configuration.{Configuration, configuration_names, names_in, occurrences}
use Rattle.ic_settle.specs.Settling.{Binding, occurs, subst_in, Binds}
use Rattle.ic_settle.specs.NameSteps.{NameStep}
use Rattle.ic_settle.specs.lemmas.SubstitutionLaws.{occurrences_none, occurrences_some, occurrences-cons}
use Rattle.ic_settle.specs.lemmas.StepLaws.{occurrences-binds}
use Rattle.ic_settle.specs.lemmas.PutEach.{occurrences-exact_in as occurrences-put_in}
use Rattle.ic_round.specs.Naming.{HasNames}
use Rattle.ic_round.specs.lemmas.NamesLemmas.{name_step-names}
use Rattle.ic_confluence.specs.lemmas.Counts.{occurrences-gone_in}
use Rattle.ic_confluence.specs.lemmas.Replacing.{Replaced, replaced_at, place_of, removed_counts}
use Rattle.ic_confluence.proofs.Arranged.{one_put}

pub occurs_some : (n : ℕ) (ns : List ℕ) → 1 ≤ occurrences n ns → occurs n ns ≡ true
occurs_some n ns some = true_from_ne_false (occurs n ns) (λ e. let none = occurrences_none n ns e in absurd (omega (arith, none, some)))

-- a configuration with these equations alone, and a term put for a name in it
abbrev pub bound_in : Configuration → List Pair → Binding → Configuration
bound_in c rest b = subst_in b.name b.term (record c { equations = rest })

-- a step that puts a term for a name, without its place
pub record Putting (c d : Configuration) : Type 0 where
  pub equation : Pair
  pub others : List Pair
  pub bound : Binding
  pub at : Replaced equation [] c.equations others
  pub side : Binds equation bound
  pub outside : occurs bound.name (names_in c.interface others) ≡ true
  pub result : d ≡ bound_in c others bound

pub from_step : (c d : Configuration) → NameStep c d → Putting c d
from_step c d s =
    let P : List Pair → Type 0 = λ es. Replaced s.equation [] es (s.before ++ s.after) in
    record {
      equation = s.equation;
      others = s.before ++ s.after;
      bound = s.bound;
      at = transport P (sym s.place) (replaced_at s.equation [] s.before s.after);
      side = s.side;
      outside = s.outside;
      result = s.result;
    }

pub to_step : (c d : Configuration) → Putting c d → NameStep c d
to_step c d s =
    let place = place_of s.equation [] c.equations s.others s.at in
    record {
      before = place.before;
      equation = s.equation;
      after = place.after;
      bound = s.bound;
      place = place.given;
      side = s.side;
      outside = ap (λ es. occurs s.bound.name (names_in c.interface es)) (sym place.result) ∙ s.outside;
      result = s.result ∙ ap (λ es. bound_in c es s.bound) place.result;
    }

-- ---- how often names occur

-- of the name, its term and the other equations
pub record Counted (c : Configuration) (others : List Pair) (b : Binding) : Type 0 where
  pub total : (n : ℕ) → occurrences n (configuration_names c) ≡ occurrences n (names_in c.interface others) + occurrences n (b.name ∷ names b.term)
  pub once : occurrences b.name (names_in c.interface others) ≡ 1
  pub absent : occurrences b.name (names b.term) ≡ 0
  pub twice : occurrences b.name (configuration_names c) ≡ 2

pub counted : (c d : Configuration) → HasNames c → (s : Putting c d) → Counted c s.others s.bound
counted c d named s =
    let x = s.bound.name in
    let here = occurrences-cons x x (names s.bound.term) in
    let itself : ◌≡◌ {A = ℕ} (cond (x == x) 1 0) 1 = rw (eq-eqb x x refl) refl in
    let all = total_of x in
    let some = occurrences_some x (names_in c.interface s.others) s.outside in
    let two = named.twice x in
    record {
      total = total_of;
      once = omega (arith, here, itself, all, some, two);
      absent = omega (arith, here, itself, all, some, two);
      twice = omega (arith, here, itself, all, some, two);
    }
  where
    total_of : (n : ℕ) → occurrences n (configuration_names c) ≡ occurrences n (names_in c.interface s.others) + occurrences n (s.bound.name ∷ names s.bound.term)
    total_of n =
        let removed = removed_counts n c.interface s.equation c.equations s.others s.at in
        let own = occurrences-binds n s.equation s.bound s.side in
        let alone = occurrences-cons n s.bound.name [] in
        let more = occurrences-cons n s.bound.name (names s.bound.term) in
        let nothing : occurrences n [] ≡ 0 = refl in
        omega (arith, removed, own, alone, more, nothing)

pub no_time : (l o k : ℕ) → l ≡ o * k → k ≡ 0 → l ≡ 0
no_time l o k e f = let g = rw f at e in omega (arith, g)

-- another name occurs as often as before, and the bound one no more
pub kept_counts : (c : Configuration) (others : List Pair) (b : Binding) → Counted c others b → (n : ℕ) → (b.name == n) ≡ false
    → occurrences n (configuration_names (bound_in c others b)) ≡ occurrences n (configuration_names c)
kept_counts c others b is n apart =
    let now = one_put _ (occurrences n (names_in c.interface others)) (occurrences b.name (names_in c.interface others)) (occurrences n (names b.term))
    (occurrences-put_in n b.name b.term c.interface others apart) is.once in
    let before = is.total n in
    let first = occurrences-cons n b.name (names b.term) in
    let other : ◌≡◌ {A = ℕ} (cond (b.name == n) 1 0) 0 = rw apart refl in
    omega (arith, now, before, first, other)

pub gone_counts : (c : Configuration) (others : List Pair) (b : Binding) → Counted c others b
    → occurrences b.name (configuration_names (bound_in c others b)) ≡ 0
gone_counts c others b is = no_time _ (occurrences b.name (names_in c.interface others)) (occurrences b.name (names b.term)) (occurrences-gone_in b.name b.term c.interface others) is.absent

once_before : (c : Configuration) (others : List Pair) (b : Binding) → Counted c others b → (n : ℕ) → (t : Bool) → (b.name == n) ≡ t
    → occurrences n (configuration_names (bound_in c others b)) ≡ 1 → occurrences n (configuration_names c) ≡ 1
once_before c others b is n true e once =
    let same = (unsigned_Decides b.name n).0 e in
    let none = gone_counts c others b is in
    let equal = ap (λ k. occurrences k (configuration_names (bound_in c others b))) same in
    absurd (omega (arith, none, equal, once))
once_before c others b is n false e once = sym (kept_counts c others b is n e) ∙ once

once_after : (c : Configuration) (others : List Pair) (b : Binding) → Counted c others b → (n : ℕ) → (t : Bool) → (b.name == n) ≡ t
    → occurrences n (configuration_names c) ≡ 1 → occurrences n (configuration_names (bound_in c others b)) ≡ 1
once_after c others b is n true e once =
    let same = (unsigned_Decides b.name n).0 e in
    let two = is.twice in
    let equal = ap (λ k. occurrences k (configuration_names c)) same in
    absurd (omega (arith, two, equal, once))
once_after c others b is n false e once = kept_counts c others b is n e ∙ once

-- the names that occur once
pub free_before : (c d : Configuration) → HasNames c → Putting c d → (n : ℕ) → occurrences n (configuration_names d) ≡ 1 → occurrences n (configuration_names c) ≡ 1
free_before c d named s n once =
    let P : Configuration → Type 0 = λ e. occurrences n (configuration_names e) ≡ 1 in
    once_before c s.others s.bound (counted c d named s) n (s.bound.name == n) refl (transport P s.result once)

pub free_after : (c d : Configuration) → HasNames c → Putting c d → (n : ℕ) → occurrences n (configuration_names c) ≡ 1 → occurrences n (configuration_names d) ≡ 1
free_after c d named s n once =
    let P : Configuration → Type 0 = λ e. occurrences n (configuration_names e) ≡ 1 in
    transport P (sym s.result) (once_after c s.others s.bound (counted c d named s) n (s.bound.name == n) refl once)

pub putting_names : (c d : Configuration) → HasNames c → Putting c d → HasNames d
putting_names c d named s = name_step-names c d (to_step c d s) named
