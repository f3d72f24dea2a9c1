-- Lemmas, which a reader of the contracts doesn't need: each step keeps that names are below `next` and occur at most
-- twice.
use Rattle.std.proofs.Common.{◌≡◌, ℕ, ◌+◌, ◌*◌, ◌≤◌, ◌<◌, List, ◌∷◌, ◌++◌, map, sym, ap, ◌∙◌, arith, inl, inr, subst as transport}
use Rattle.std.proofs.lemmas.Bool.{cases_lt}
use Rattle.std.proofs.lemmas.Grind.{flat_map-append}
use Rattle.std.specs.List.{AllByRecursion, flat_map}
use Rattle.ic_term.specs.Tree.{Tree, Pair, names, names_of, pair_names}
use Rattle.ic_term.specs.Configuration.{Configuration, names_in, occurrences}
use Rattle.ic_rules.specs.Rule.{Rule}
use Rattle.ic_settle.specs.Settling.{subst, subst_all, subst_pair}
use Rattle.ic_settle.specs.NameSteps.{NameStep}
use Rattle.ic_settle.specs.lemmas.SubstitutionLaws.{occurrences-append, All-append, All-front, All-back, All-subst_all}
use Rattle.ic_settle.specs.lemmas.WholeLaws.{whole, names_of-whole, subst_all-whole}
use Rattle.ic_settle.specs.lemmas.MiddleLaws.{occurrences-middle, All-middle}
use Rattle.ic_settle.specs.lemmas.StepLaws.{occurrences-binds, occurrences-subst_in, All-binds, once_outside}
use Rattle.ic_round.specs.Naming.{HasNames}
use Rattle.ic_round.specs.lemmas.FreshNames.{absent_above}
use Rattle.ic_round.specs.lemmas.FiredNames.{Fires, All-mono}

-- ---- equations in the place of one

occurrences-replaced : (n : ℕ) (ts : List Tree) (before out after : List Pair)
    → occurrences n (names_in ts (before ++ (out ++ after))) ≡ occurrences n (names_in ts (before ++ after)) + occurrences n (flat_map pair_names out)
occurrences-replaced n ts before out after =
    let first = flat_map names ts in
    let front = flat_map pair_names before in
    let middle = flat_map pair_names out in
    let back = flat_map pair_names after in
    rw (flat_map-append pair_names before (out ++ after), flat_map-append pair_names out after, flat_map-append pair_names before after)
    (omega (
      arith,
      occurrences-append n first (front ++ (middle ++ back)),
      occurrences-append n front (middle ++ back),
      occurrences-append n middle back,
      occurrences-append n first (front ++ back),
      occurrences-append n front back,
    ))

All-replaced : (P : ℕ → Type 0) (ts : List Tree) (before out after : List Pair) → AllByRecursion P (names_in ts (before ++ after)) → AllByRecursion P (flat_map pair_names out)
    → AllByRecursion P (names_in ts (before ++ (out ++ after)))
All-replaced P ts before out after all more =
    let first = flat_map names ts in
    let front = flat_map pair_names before in
    let middle = flat_map pair_names out in
    let back = flat_map pair_names after in
    let parts : AllByRecursion P (first ++ (front ++ back)) = rw (flat_map-append pair_names before after) at all in
    let rest = All-back P first (front ++ back) parts in
    rw (flat_map-append pair_names before (out ++ after), flat_map-append pair_names out after)
    (All-append P first (front ++ (middle ++ back)) (All-front P first (front ++ back) parts)
    (All-append P front (middle ++ back) (All-front P front back rest) (All-append P middle back more (All-back P front back rest))))

pub replaced_names : (rs : List Rule) (c : Configuration) (before : List Pair) (p : Pair) (after out : List Pair) (taken : ℕ) → Fires rs c.next p out taken
    → c.equations ≡ before ++ p ∷ after → HasNames c
    → HasNames (record { interface = c.interface; equations = before ++ (out ++ after); next = c.next + taken })
replaced_names rs c before p after out taken fired split named =
    let ts = c.interface in
    let old_below : AllByRecursion (λ n. n < c.next) (names_in ts (before ++ p ∷ after)) = rw (← split) named.below in
    let below = All-middle (λ n. n < c.next) ts before p after old_below in
    record {
      below = All-replaced (λ n. n < c.next + taken) ts before out after (All-mono _ _ (λ n h. omega arith) _ below.0) (fired.below below.1);
      twice = λ n.
          let now = occurrences-replaced n ts before out after in
          let here = occurrences-middle n ts before p after in
          let old : occurrences n (names_in ts (before ++ p ∷ after)) ≤ 2 = rw (← split) (named.twice n) in
          elim (cases_lt n c.next) [
            | inl less ↦ let few = fired.older n less in omega arith
            | inr high ↦ let few = fired.fresh n in let none = absent_above n c.next (names_in ts (before ++ p ∷ after)) old_below high in omega arith
          ];
    }

-- ---- a term in the place of a name

All-put : (P : ℕ → Type 0) (x : ℕ) (u : Tree) (ts : List Tree) (es : List Pair) → AllByRecursion P (names u) → AllByRecursion P (names_in ts es)
    → AllByRecursion P (names_in (map (subst x u) ts) (map (subst_pair x u) es))
All-put P x u ts es first all =
    let renamed : names_of (subst_all x u (whole ts es)) ≡ names_in (map (subst x u) ts) (map (subst_pair x u) es) =
    ap names_of (subst_all-whole x u ts es) ∙ names_of-whole (map (subst x u) ts) (map (subst_pair x u) es) in
    rw (← renamed) (All-subst_all P x u (whole ts es) first (rw (names_of-whole ts es) all))

at_most_two : (o k n m p l : ℕ) → o ≡ 1 → n ≤ m + o * k → p ≡ l + k → m + p ≤ 2 → n ≤ 2
at_most_two o k n m p l one e f bound = let g = rw one at e in omega arith

pub name_step-names : (c d : Configuration) → NameStep c d → HasNames c → HasNames d
name_step-names c d s named =
    let ts = c.interface in
    let rest = s.before ++ s.after in
    let b = s.bound in
    let old_below : AllByRecursion (λ n. n < c.next) (names_in ts (s.before ++ s.equation ∷ s.after)) = rw (← s.place) named.below in
    let old_twice : (n : ℕ) → occurrences n (names_in ts (s.before ++ s.equation ∷ s.after)) ≤ 2 = λ n. rw (← s.place) (named.twice n) in
    let below = All-middle (λ n. n < c.next) ts s.before s.equation s.after old_below in
    let one = once_outside ts s.before s.equation s.after b s.side old_twice s.outside in
    transport HasNames (sym s.result) (record {
      below = All-put (λ n. n < c.next) b.name b.term ts rest (All-binds (λ n. n < c.next) s.equation b s.side below.1) below.0;
      twice = λ n.
          let bound : occurrences n (names_in ts rest) + occurrences n (pair_names s.equation) ≤ 2 = omega (arith, old_twice n, occurrences-middle n ts s.before s.equation s.after) in
          at_most_two _ (occurrences n (names b.term)) _ (occurrences n (names_in ts rest)) (occurrences n (pair_names s.equation)) _ one
          (occurrences-subst_in n b.name b.term ts rest) (occurrences-binds n s.equation b s.side) bound;
    })
