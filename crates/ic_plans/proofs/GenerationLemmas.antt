-- A plan whose links stand in another order, those of two agents first.
use Rattle.std.proofs.Common.{◌≡◌, ℕ, ◌+◌, ◌≤◌, ◌<◌, ◌==◌, List, [], ◌∷◌, ◌++◌, Bool, true, false, not, cond, Some, length, map, take, drop, slice_get, filter, refl, sym, ap, subst, ◌∙◌, arith}
use Rattle.std.specs.Prelude.{IsPermutation}
use Rattle.std.specs.List.{flat_map, AllByRecursion}
use Rattle.std.proofs.lemmas.List.{length-append, take_at, drop_at}
use Rattle.std.proofs.lemmas.List.Sorted.{IsPermutation-sym, IsPermutation-trans, IsPermutation-append_left, IsPermutation-append_right, IsPermutation-map, IsPermutation-filter_both, sum_by-IsPermutation}
use Rattle.ic_term.specs.Configuration.{Configuration}
use Rattle.ic_round.specs.lemmas.AnyOrder.{each_permuted}
use Rattle.ic_machine.specs.declared.plan.Link.{Link}
use Rattle.ic_machine.specs.Plan.{Planned, IsPlan, link_operands, operands_of, allowance}
use Rattle.ic_machine.specs.Runs.{IsStart}
use Rattle.ic_meaning.specs.Plans.{first_made, held_made, linked_terms, named_terms, StandsForNet}
use Rattle.ic_meaning.specs.lemmas.Orders.{flat_order}
use Rattle.ic_meaning.specs.First.{joins_agents, LinksPairsFirst}

-- the same plan with other links
abbrev pub with_links : Planned → List Link → Planned
with_links p links = record { names = p.names; made = p.made; links = links }

-- as often among the registers that it uses
pub used_alike : (p : Planned) (links : List Link) → IsPermutation p.links links → IsPermutation (operands_of p) (operands_of (with_links p links))
used_alike p links moved =
    IsPermutation-append_right (flat_map (λ m. m.operands) p.made) (flat_map link_operands p.links) (flat_map link_operands links)
    (flat_order link_operands p.links links moved)

pub plan_with : (arities : List ℕ) (arguments : ℕ) (p : Planned) (links : List Link) → IsPermutation p.links links
    → IsPlan arities arguments p → IsPlan arities arguments (with_links p links)
plan_with arities arguments p links moved plan =
    let used = used_alike p links moved in
    record {
      made = plan.made;
      links = each_permuted (λ k. k < length arities + arguments + p.names + length p.made) (flat_map link_operands p.links) (flat_map link_operands links)
          (flat_order link_operands p.links links moved) plan.links;
      constant = each_permuted (λ k. k < length arities → slice_get arities k ≡ Some 0) (operands_of p) (operands_of (with_links p links)) used plan.constant;
      linear = λ k above. subst (λ n. n ≤ allowance (length arities + arguments) p.names k)
          (sym (sum_by-IsPermutation (λ m. cond (m == k) 1 0) (operands_of p) (operands_of (with_links p links)) used)) (plan.linear k above);
    }

pub start_with : (arities : List ℕ) (given : ℕ) (p : Planned) (links : List Link) (interface : List ℕ) → IsPermutation p.links links
    → IsStart arities given p interface → IsStart arities given (with_links p links) interface
start_with arities given p links interface moved start =
    let used = used_alike p links moved in
    let all = IsPermutation-append_right interface (operands_of p) (operands_of (with_links p links)) used in
    record {
      plan = plan_with arities given p links moved start.plan;
      filled = start.filled;
      constant = start.constant;
      linear = λ k above. subst (λ n. n ≤ allowance (length arities + given) p.names k)
          (sym (sum_by-IsPermutation (λ m. cond (m == k) 1 0) (interface ++ operands_of p) (interface ++ operands_of (with_links p links)) all)) (start.linear k above);
    }

pub stands_with : (arities given : List ℕ) (c : Configuration) (p : Planned) (links : List Link) (interface : List ℕ) → IsPermutation p.links links
    → StandsForNet arities given c p interface → StandsForNet arities given c (with_links p links) interface
stands_with arities given c p links interface moved stands =
    let used = used_alike p links moved in
    let all = IsPermutation-append_left interface (operands_of p) (operands_of (with_links p links)) used in
    let held = held_made (first_made arities (length given) p) p.made (named_terms (length arities) (given ++ stands.names)) in
    record {
      names = stands.names;
      count = stands.count;
      below = stands.below;
      once = stands.once;
      occur = stands.occur;
      within = stands.within;
      constant = stands.constant;
      used = λ k below. sum_by-IsPermutation (λ m. cond (m == first_made arities (length given) p + k) 1 0) (operands_of p ++ interface) (operands_of (with_links p links) ++ interface) all
          ∙ stands.used k below;
      interface_is = stands.interface_is;
      equations = IsPermutation-trans (map (linked_terms held) links) (map (linked_terms held) p.links) c.equations
          (IsPermutation-sym (map (linked_terms held) p.links) (map (linked_terms held) links) (IsPermutation-map (linked_terms held) p.links links moved))
          stands.equations;
    }

-- ---- those of two agents first

pub moved_first : (test : Link → Bool) (links : List Link) → IsPermutation links (filter test links ++ filter (λ l. not (test l)) links)
moved_first test links = IsPermutation-filter_both test (λ l. not (test l)) (λ l. refl) links

all-filter : {X : Type 0} (test : X → Bool) (xs : List X) → AllByRecursion (λ x. test x ≡ true) (filter test xs)
all-filter test [] = tt
all-filter test (x ∷ xs) = at (test x) refl (all-filter test xs)
  where
    at : (b : Bool) → test x ≡ b → AllByRecursion (λ x. test x ≡ true) (filter test xs)
        → AllByRecursion (λ x. test x ≡ true) (cond b (x ∷ filter test xs) (filter test xs))
    at true e rest = (e, rest)
    at false e rest = rest

none-filter : {X : Type 0} (test : X → Bool) (xs : List X) → AllByRecursion (λ x. test x ≡ false) (filter (λ x. not (test x)) xs)
none-filter test [] = tt
none-filter test (x ∷ xs) = at (test x) refl (none-filter test xs)
  where
    at : (b : Bool) → test x ≡ b → AllByRecursion (λ x. test x ≡ false) (filter (λ x. not (test x)) xs)
        → AllByRecursion (λ x. test x ≡ false) (cond (not b) (x ∷ filter (λ x. not (test x)) xs) (filter (λ x. not (test x)) xs))
    at true e rest = rest
    at false e rest = (e, rest)

pub pairs_first : (arities : List ℕ) (given : ℕ) (p : Planned) (links : List Link) (count : ℕ)
    → let test = joins_agents (length arities) (first_made arities given p) in
    links ≡ filter test p.links ++ filter (λ l. not (test l)) p.links → count ≡ length (filter test p.links)
    → LinksPairsFirst arities given (with_links p links) count
pairs_first arities given p links count are counts =
    let test = joins_agents (length arities) (first_made arities given p) in
    let front = filter test p.links in
    let back = filter (λ l. not (test l)) p.links in
    let taken : take count links ≡ front = ap (take count) are ∙ take_at front back count (sym counts) in
    let dropped : drop count links ≡ back = ap (drop count) are ∙ drop_at front back count (sym counts) in
    record {
      few = omega (arith, ap length are, length-append front back, counts);
      pairs = subst (λ ls. AllByRecursion (λ l. test l ≡ true) ls) (sym taken) (all-filter test p.links);
      others = subst (λ ls. AllByRecursion (λ l. test l ≡ false) ls) (sym dropped) (none-filter test p.links);
    }
