-- Lemmas: a configuration with a rest beside it, and its steps.
use Rattle.std.proofs.Common.{◌≡◌, ◌⊎◌, ℕ, ◌+◌, ◌*◌, ◌≤◌, ◌<◌, ◌==◌, List, [], ◌∷◌, ◌++◌, Bool, true, false, append_assoc, map, refl, sym, ap, ◌∙◌, arith, inl, inr, subst as transport}
use Rattle.std.proofs.lemmas.Bool.{cases_lt}
use Rattle.std.proofs.lemmas.Grind.{flat_map-append}
use Rattle.std.proofs.lemmas.List.{map-append}
use Rattle.std.proofs.lemmas.List.Sorted.{IsPermutation-middle}
use Rattle.std.specs.Cmp.{unsigned_Decides}
use Rattle.std.specs.List.{flat_map}
use Rattle.std.specs.Prelude.{IsPermutation}
use Rattle.ic_term.specs.Tree.{Tree, names, Pair, pair_names}
use Rattle.ic_term.specs.Configuration.{Configuration, configuration_names, names_in, occurrences}
use Rattle.ic_rules.specs.Rule.{Rule}
use Rattle.ic_rules.specs.RuleSet.{Rules, IsRuleSet}
use Rattle.ic_settle.specs.Settling.{subst, subst_pair, subst_in, occurs}
use Rattle.ic_settle.specs.NameSteps.{NameStep, NameSteps, no_step, one_more}
use Rattle.ic_settle.specs.lemmas.SubstitutionLaws.{occurrences-append, occurrences_some}
use Rattle.ic_settle.specs.lemmas.MiddleLaws.{occurrences-middle}
use Rattle.ic_settle.specs.lemmas.StepLaws.{itself_once, occurrences-binds, once_outside, occurrences-subst_in}
use Rattle.ic_settle.specs.lemmas.PutEach.{occurrences-exact_in as occurrences-put_in}
use Rattle.ic_round.specs.Firing.{products_by, count_of}
use Rattle.ic_round.specs.Naming.{HasNames}
use Rattle.ic_confluence.specs.Kinds.{Kind, naming, firing, StepOf, Chain}
use Rattle.ic_confluence.specs.lemmas.Counts.{occurrences-gone_in, All_from, below_next}
use Rattle.ic_confluence.specs.lemmas.Puts.{terms_absent, pairs_absent}
use Rattle.ic_reaching.proofs.ButNext.{steps_names}
use Rattle.ic_reaching.proofs.Copies.{in_products, copy_absent}
use Rattle.ic_reaching.proofs.Firing.{Sound, sound_step, rule_in_front}
use Rattle.ic_reaching.proofs.Pieces.{occurs_some}
use Rattle.ic_confluence.specs.lemmas.Replacing.{in_both}

-- terms before and after those of the interface, and equations after those that are there
pub record Rest : Type 0 where
  pub before : List Tree
  pub after : List Tree
  pub equations : List Pair

abbrev pub rest_names : Rest → List ℕ
rest_names r = names_in (r.before ++ r.after) r.equations

abbrev pub with_rest : Rest → Configuration → Configuration
with_rest r c = record {
  interface = r.before ++ (c.interface ++ r.after);
  equations = c.equations ++ r.equations;
  next = c.next;
}

-- a name of the rest occurs at most once in the configuration
abbrev pub ApartFrom : Rest → Configuration → Type 0
ApartFrom r c = (n : ℕ) → 1 ≤ occurrences n (rest_names r) → occurrences n (configuration_names c) ≤ 1

-- and is below a bound
abbrev pub RestBelow : Rest → ℕ → Type 0
RestBelow r top = (n : ℕ) → 1 ≤ occurrences n (rest_names r) → n < top

-- ---- how often names occur

pub in_terms : (n : ℕ) (ts us : List Tree) → occurrences n (flat_map names (ts ++ us)) ≡ occurrences n (flat_map names ts) + occurrences n (flat_map names us)
in_terms n ts us = ap (occurrences n) (flat_map-append names ts us) ∙ occurrences-append n (flat_map names ts) (flat_map names us)

pub counts_of_rest : (r : Rest) (n : ℕ)
    → occurrences n (rest_names r) ≡ occurrences n (flat_map names r.before) + (occurrences n (flat_map names r.after) + occurrences n (flat_map pair_names r.equations))
counts_of_rest r n =
    let rest = occurrences-append n (flat_map names (r.before ++ r.after)) (flat_map pair_names r.equations) in
    let both = in_terms n r.before r.after in
    omega (arith, rest, both)

pub counts_beside : (r : Rest) (c : Configuration) (n : ℕ)
    → occurrences n (configuration_names (with_rest r c)) ≡ occurrences n (configuration_names c) + occurrences n (rest_names r)
counts_beside r c n =
    let all = occurrences-append n (flat_map names (r.before ++ (c.interface ++ r.after))) (flat_map pair_names (c.equations ++ r.equations)) in
    let one = in_terms n r.before (c.interface ++ r.after) in
    let two = in_terms n c.interface r.after in
    let three = in_both n c.equations r.equations in
    let own = occurrences-append n (flat_map names c.interface) (flat_map pair_names c.equations) in
    let rest = counts_of_rest r n in
    omega (arith, all, one, two, three, own, rest)

pub names_beside : (r : Rest) (c : Configuration) → HasNames c → RestBelow r c.next → ((n : ℕ) → occurrences n (configuration_names c) + occurrences n (rest_names r) ≤ 2)
    → HasNames (with_rest r c)
names_beside r c named low few = record {
  below = All_from (λ n. n < c.next) (configuration_names (with_rest r c)) (λ n some. at n some (cases_lt 0 (occurrences n (rest_names r))));
  twice = λ n. let all = counts_beside r c n in let two = few n in omega (arith, all, two);
}
  where
    at : (n : ℕ) → 1 ≤ occurrences n (configuration_names (with_rest r c)) → (0 < occurrences n (rest_names r)) ⊎ (occurrences n (rest_names r) ≤ 0) → n < c.next
    at n some (inl here) = low n (omega (arith, here))
    at n some (inr none) = let all = counts_beside r c n in below_next c named n (omega (arith, all, none, some))

-- ---- a term put for a name

-- a name for which a term is put occurs twice
pub bound_twice : (c d : Configuration) → (s : NameStep c d) → 2 ≤ occurrences s.bound.name (configuration_names c)
bound_twice c d s =
    let x = s.bound.name in
    let all = occurrences-middle x c.interface s.before s.equation s.after in
    let given = ap (λ es. occurrences x (names_in c.interface es)) s.place in
    let own = occurrences-binds x s.equation s.bound s.side in
    let one = itself_once x in
    let some = occurrences_some x (names_in c.interface (s.before ++ s.after)) s.outside in
    omega (arith, all, given, own, one, some)

nowhere : (r : Rest) (c : Configuration) (x : ℕ) → ApartFrom r c → 2 ≤ occurrences x (configuration_names c) → occurrences x (rest_names r) ≡ 0
nowhere r c x apart two = elim (cases_lt 0 (occurrences x (rest_names r))) [
  | inl some ↦ let once = apart x (omega (arith, some)) in absurd (omega (arith, once, two))
  | inr none ↦ omega (arith, none)
]

put_beside : (r : Rest) (c : Configuration) (x : ℕ) (t : Tree) → occurrences x (rest_names r) ≡ 0 → with_rest r (subst_in x t c) ≡ subst_in x t (with_rest r c)
put_beside r c x t none = λ i. record { interface = terms i; equations = equations i; next = c.next }
  where
    before_stays : map (subst x t) r.before ≡ r.before
    before_stays = let all = counts_of_rest r x in terms_absent x t r.before (omega (arith, all, none))

    after_stays : map (subst x t) r.after ≡ r.after
    after_stays = let all = counts_of_rest r x in terms_absent x t r.after (omega (arith, all, none))

    pairs_stay : map (subst_pair x t) r.equations ≡ r.equations
    pairs_stay = let all = counts_of_rest r x in pairs_absent x t r.equations (omega (arith, all, none))

    middle : map (subst x t) (c.interface ++ r.after) ≡ map (subst x t) c.interface ++ r.after
    middle = map-append (subst x t) c.interface r.after ∙ ap (λ us. map (subst x t) c.interface ++ us) after_stays

    terms : r.before ++ (map (subst x t) c.interface ++ r.after) ≡ map (subst x t) (r.before ++ (c.interface ++ r.after))
    terms = sym (map-append (subst x t) r.before (c.interface ++ r.after) ∙ (λ i. before_stays i ++ middle i))

    equations : map (subst_pair x t) c.equations ++ r.equations ≡ map (subst_pair x t) (c.equations ++ r.equations)
    equations = sym (map-append (subst_pair x t) c.equations r.equations ∙ ap (λ fs. map (subst_pair x t) c.equations ++ fs) pairs_stay)

pub step_beside : (r : Rest) (c d : Configuration) → ApartFrom r c → NameStep c d → NameStep (with_rest r c) (with_rest r d)
step_beside r c d apart s = record {
  before = s.before;
  equation = s.equation;
  after = s.after ++ r.equations;
  bound = s.bound;
  place = ap (λ es. es ++ r.equations) s.place ∙ append_assoc s.before (s.equation ∷ s.after) r.equations;
  side = s.side;
  outside = ap (λ es. occurs x (names_in whole.interface es)) (sym together) ∙ occurs_some x (configuration_names (with_rest r others)) (omega (arith, counts, some));
  result = ap (with_rest r) s.result ∙ (put_beside r others x s.bound.term (nowhere r c x apart (bound_twice c d s)) ∙ ap (λ es. subst_in x s.bound.term (record whole { equations = es })) together);
}
  where
    x : ℕ
    x = s.bound.name

    whole : Configuration
    whole = with_rest r c

    others : Configuration
    others = record c { equations = s.before ++ s.after }

    together : (s.before ++ s.after) ++ r.equations ≡ s.before ++ (s.after ++ r.equations)
    together = append_assoc s.before s.after r.equations

    counts : occurrences x (configuration_names (with_rest r others)) ≡ occurrences x (configuration_names others) + occurrences x (rest_names r)
    counts = counts_beside r others x

    some : 1 ≤ occurrences x (configuration_names others)
    some = occurrences_some x (configuration_names others) s.outside

once_put : (l m o k : ℕ) → l ≤ m + o * k → o ≡ 1 → l ≤ m + k
once_put l m o k e f = let g = rw f at e in omega (arith, g)

one_time : (l m o k : ℕ) → l ≡ m + o * k → o ≡ 1 → l ≡ m + k
one_time l m o k e f = let g = rw f at e in omega (arith, g)

once_elsewhere : (c d : Configuration) → HasNames c → (s : NameStep c d) → occurrences s.bound.name (names_in c.interface (s.before ++ s.after)) ≡ 1
once_elsewhere c d named s =
    let twice : (n : ℕ) → occurrences n (names_in c.interface (s.before ++ s.equation ∷ s.after)) ≤ 2 = λ n. rw (← s.place) (named.twice n) in
    once_outside c.interface s.before s.equation s.after s.bound s.side twice s.outside

-- no name occurs more often after a step
pub step_counts : (c d : Configuration) → HasNames c → NameStep c d → (n : ℕ) → occurrences n (configuration_names d) ≤ occurrences n (configuration_names c)
step_counts c d named s n =
    let rest = s.before ++ s.after in
    let all = occurrences-middle n c.interface s.before s.equation s.after in
    let given = ap (λ es. occurrences n (names_in c.interface es)) s.place in
    let own = occurrences-binds n s.equation s.bound s.side in
    let is = ap (λ e. occurrences n (configuration_names e)) s.result in
    let put = once_put _ (occurrences n (names_in c.interface rest)) (occurrences s.bound.name (names_in c.interface rest)) (occurrences n (names s.bound.term))
    (occurrences-subst_in n s.bound.name s.bound.term c.interface rest) (once_elsewhere c d named s) in
    omega (arith, all, given, own, is, put)

-- another name occurs as often as before
other_counts : (c d : Configuration) → HasNames c → (s : NameStep c d) → (n : ℕ) → (s.bound.name == n) ≡ false → occurrences n (configuration_names d) ≡ occurrences n (configuration_names c)
other_counts c d named s n apart =
    let rest = s.before ++ s.after in
    let all = occurrences-middle n c.interface s.before s.equation s.after in
    let given = ap (λ es. occurrences n (names_in c.interface es)) s.place in
    let own = occurrences-binds n s.equation s.bound s.side in
    let none : occurrences n (s.bound.name ∷ []) ≡ 0 = rw apart refl in
    let is = ap (λ e. occurrences n (configuration_names e)) s.result in
    let put = one_time _ (occurrences n (names_in c.interface rest)) (occurrences s.bound.name (names_in c.interface rest)) (occurrences n (names s.bound.term))
    (occurrences-put_in n s.bound.name s.bound.term c.interface rest apart) (once_elsewhere c d named s) in
    omega (arith, all, given, own, none, is, put)

no_time : (l o k : ℕ) → l ≡ o * k → k ≡ 0 → l ≡ 0
no_time l o k e f = let g = rw f at e in omega (arith, g)

-- and the one for which a term is put no more
bound_gone : (c d : Configuration) → HasNames c → (s : NameStep c d) → occurrences s.bound.name (configuration_names d) ≡ 0
bound_gone c d named s =
    let x = s.bound.name in
    let rest = s.before ++ s.after in
    let all = occurrences-middle x c.interface s.before s.equation s.after in
    let given = ap (λ es. occurrences x (names_in c.interface es)) s.place in
    let own = occurrences-binds x s.equation s.bound s.side in
    let one = itself_once x in
    let elsewhere = once_elsewhere c d named s in
    let two = named.twice x in
    let is = ap (λ e. occurrences x (configuration_names e)) s.result in
    let gone = no_time _ (occurrences x (names_in c.interface rest)) (occurrences x (names s.bound.term)) (occurrences-gone_in x s.bound.term c.interface rest) (omega (arith, all, given, own, one, elsewhere, two)) in
    omega (arith, is, gone)

-- a name that occurs once still does, and did before
pub single_kept : (c d : Configuration) → HasNames c → NameStep c d → (n : ℕ) → occurrences n (configuration_names c) ≡ 1 → occurrences n (configuration_names d) ≡ 1
single_kept c d named s n once = at (s.bound.name == n) refl
  where
    at : (b : Bool) → (s.bound.name == n) ≡ b → occurrences n (configuration_names d) ≡ 1
    at true e =
        let two = bound_twice c d s in
        let same = ap (λ k. occurrences k (configuration_names c)) ((unsigned_Decides s.bound.name n).0 e) in
        absurd (omega (arith, two, same, once))
    at false e = other_counts c d named s n e ∙ once

pub single_before : (c d : Configuration) → HasNames c → NameStep c d → (n : ℕ) → occurrences n (configuration_names d) ≡ 1 → occurrences n (configuration_names c) ≡ 1
single_before c d named s n once = at (s.bound.name == n) refl
  where
    at : (b : Bool) → (s.bound.name == n) ≡ b → occurrences n (configuration_names c) ≡ 1
    at true e =
        let none = bound_gone c d named s in
        let same = ap (λ k. occurrences k (configuration_names d)) ((unsigned_Decides s.bound.name n).0 e) in
        absurd (omega (arith, none, same, once))
    at false e = sym (other_counts c d named s n e) ∙ once

-- ---- name steps

pub steps_counts : (c d : Configuration) → HasNames c → NameSteps c d → (n : ℕ) → occurrences n (configuration_names d) ≤ occurrences n (configuration_names c)
steps_counts c d named (no_step x) n = omega arith
steps_counts c d named (one_more x y z steps step) n =
    let fewer = steps_counts x y named steps n in
    let one = step_counts y z (steps_names x y steps named) step n in
    omega (arith, fewer, one)

pub singles_kept : (c d : Configuration) → HasNames c → NameSteps c d → (n : ℕ) → occurrences n (configuration_names c) ≡ 1 → occurrences n (configuration_names d) ≡ 1
singles_kept c d named (no_step x) n once = once
singles_kept c d named (one_more x y z steps step) n once = single_kept y z (steps_names x y steps named) step n (singles_kept x y named steps n once)

pub singles_before : (c d : Configuration) → HasNames c → NameSteps c d → (n : ℕ) → occurrences n (configuration_names d) ≡ 1 → occurrences n (configuration_names c) ≡ 1
singles_before c d named (no_step x) n once = once
singles_before c d named (one_more x y z steps step) n once = singles_before x y named steps n (single_before y z (steps_names x y steps named) step n once)

pub steps_beside : (r : Rest) (c d : Configuration) → HasNames c → ApartFrom r c → NameSteps c d → NameSteps (with_rest r c) (with_rest r d)
steps_beside r c d named apart (no_step x) = no_step (with_rest r x)
steps_beside r c d named apart (one_more x y z steps step) =
    one_more (with_rest r x) (with_rest r y) (with_rest r z) (steps_beside r x y named apart steps)
    (step_beside r y z (λ n some. let fewer = steps_counts x y named steps n in let once = apart n some in omega (arith, fewer, once)) step)

-- ---- an interaction

pub fires_beside : (rs : List Rule) (r : Rest) (i : ℕ) (c d : Configuration) → StepOf rs (firing i) c d → StepOf rs (firing i) (with_rest r c) (with_rest r d)
fires_beside rs r i c d (place, s, is) = (
  place,
  record {
    before = s.before;
    equation = s.equation;
    after = s.after ++ r.equations;
    active = s.active;
    stands = record {
      counted = s.stands.counted;
      parts = ap (λ es. es ++ r.equations) s.stands.parts ∙ append_assoc s.before (s.equation ∷ s.after) r.equations;
    };
    has_rule = s.has_rule;
    result = ap (with_rest r) s.result ∙ ap (λ es. record {
      interface = r.before ++ (c.interface ++ r.after);
      equations = es;
      next = c.next + count_of rs s.active.rule;
    }) (append_assoc s.before (products_by rs c.next s.active ++ s.after) r.equations ∙ ap (λ es. s.before ++ es) (append_assoc (products_by rs c.next s.active) s.after r.equations));
  },
  is,
)

-- a name that isn't fresh occurs as often as before
pub fired_old : (rs : Rules) (i : ℕ) (c d : Configuration) → IsRuleSet rs → Sound rs c → StepOf rs.rules (firing i) c d → (n : ℕ) → n < c.next
    → occurrences n (configuration_names d) ≡ occurrences n (configuration_names c)
fired_old rs i c d set sound (place, s, is) n old =
    let p = s.equation in
    let a = s.active in
    let out = products_by rs.rules c.next a in
    let P : List Pair → Type 0 = λ es. IsPermutation es (p ∷ (s.before ++ s.after)) in
    let h = rule_in_front rs c p (s.before ++ s.after) a set sound.over (transport P (sym s.stands.parts) (IsPermutation-middle s.before p s.after)) s.has_rule in
    let made = in_products rs.rules p a h (λ k. c.next + k) n in
    let none = copy_absent h.rule h.is_rule (λ k. c.next + k) n (λ k low same. omega (arith, same, old)) in
    let before = occurrences-middle n c.interface s.before p s.after in
    let given = ap (λ es. occurrences n (names_in c.interface es)) s.stands.parts in
    let others = occurrences-append n (flat_map names c.interface) (flat_map pair_names (s.before ++ s.after)) in
    let parts = in_both n s.before s.after in
    let now = occurrences-append n (flat_map names c.interface) (flat_map pair_names (s.before ++ (out ++ s.after))) in
    let one = in_both n s.before (out ++ s.after) in
    let two = in_both n out s.after in
    let result = ap (λ e. occurrences n (configuration_names e)) s.result in
    omega (arith, made, none, before, given, others, parts, now, one, two, result)

fired_higher : (rs : List Rule) (i : ℕ) (c d : Configuration) → StepOf rs (firing i) c d → c.next ≤ d.next
fired_higher rs i c d (place, s, is) = let next = ap (λ (e : Configuration). e.next) s.result in omega (arith, next)

-- ---- a chain

pub record Beside (rs : List Rule) (r : Rest) (ks : List Kind) (c d : Configuration) : Type 0 where
  pub chain : Chain rs ks (with_rest r c) (with_rest r d)
  pub fewer : (n : ℕ) → n < c.next → occurrences n (configuration_names d) ≤ occurrences n (configuration_names c)
  pub higher : c.next ≤ d.next

pub chain_beside : (rs : Rules) (r : Rest) (ks : List Kind) (c d : Configuration) → IsRuleSet rs → Sound rs c → ApartFrom r c → RestBelow r c.next → Chain rs.rules ks c d → Beside rs.rules r ks c d
chain_beside rs r [] c d set sound apart low chain =
    let P : Configuration → Type 0 = Beside rs.rules r [] c in
    transport P chain (record { chain = refl; fewer = λ n old. omega arith; higher = omega arith })
chain_beside rs r (naming ∷ ks) c d set sound apart low (e, step, chain) =
    let same : e.next ≡ c.next = ap (λ (x : Configuration). x.next) step.result in
    let fewer = step_counts c e sound.named step in
    let rest = chain_beside rs r ks e d set (sound_step rs naming c e set sound step) (λ n some. let one = fewer n in let once = apart n some in omega (arith, one, once))
    (λ n some. let below = low n some in omega (arith, same, below)) chain in
    record {
      chain = (with_rest r e, step_beside r c e apart step, rest.chain);
      fewer = λ n old. let one = fewer n in let more = rest.fewer n (omega (arith, same, old)) in omega (arith, one, more);
      higher = let more = rest.higher in omega (arith, same, more);
    }
chain_beside rs r (firing i ∷ ks) c d set sound apart low (e, step, chain) =
    let high = fired_higher rs.rules i c e step in
    let old = fired_old rs i c e set sound step in
    let rest = chain_beside rs r ks e d set (sound_step rs (firing i) c e set sound step)
    (λ n some. let same = old n (low n some) in let once = apart n some in omega (arith, same, once))
    (λ n some. let below = low n some in omega (arith, high, below)) chain in
    record {
      chain = (with_rest r e, fires_beside rs.rules r i c e step, rest.chain);
      fewer = λ n less. let same = old n less in let more = rest.fewer n (omega (arith, high, less)) in omega (arith, same, more);
      higher = let more = rest.higher in omega (arith, high, more);
    }
