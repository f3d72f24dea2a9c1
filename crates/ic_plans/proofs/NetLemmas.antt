-- The plan of a configuration: a machine can begin with it, and it stands for the configuration.
use Rattle.std.proofs.Common.{◌≡◌, ◌↔◌, ◌⊎◌, ℕ, zero, suc, ◌+◌, ◌-◌, ◌*◌, ◌^◌, ◌≤◌, ◌<◌, ◌==◌, List, [], ◌∷◌, ◌++◌, Bool, true, false, cond, Option, None, Some, length, map, take, drop, get_or, slice_get, nat_lt, count_by, refl, sym, ap, subst, ◌∙◌, arith, inl, inr}
use Rattle.std.specs.Prelude.{unwrap_or, IsPermutation}
use Rattle.std.proofs.lemmas.Option.{none-some, slice_get_within, slice_get-get_or, get_or_from_slice_get, same_Some}
use Rattle.std.proofs.lemmas.Bool.{ltb-true, ltb-false, lt-ltb, le-ltb}
use Rattle.std.proofs.lemmas.List.{length-append, length-map, length-drop, take-append-drop, take-map, drop-map, take_at, drop_at}
use Rattle.std.proofs.lemmas.List.Sorted.{IsPermutation-refl}
use Rattle.std.proofs.lemmas.List.Sums.{sum_by-cons}
use Rattle.std.specs.Cmp.{unsigned_Decides}
use Rattle.std.specs.List.{flat_map, list_all, AllByRecursion, Contains}
use Rattle.ic_term.specs.Tree.{Tree, name, agent, Trees, no_trees, more_trees, names, names_of}
use Rattle.ic_term.specs.Configuration.{Configuration, IsWide, configuration_nodes, configuration_names, occurrences}
use Rattle.ic_term.specs.Symbol.{Symbol, AreSymbols, is_over}
use Rattle.ic_settle.specs.lemmas.SubstitutionLaws.{All-append, All-front, All-back}
use Rattle.ic_flat.specs.declared.word.Word.{Word}
use Rattle.ic_flat.specs.Words.{forest, is_word_over, word_names}
use Rattle.ic_flat.specs.Flat.{pairs_of, sides, configuration_words}
use Rattle.ic_flat.specs.lemmas.WordTests.{names-forest}
use Rattle.ic_flat.specs.lemmas.FlatLaws.{all_terms, pairs_of-sides, forest-configuration_words, counted-configuration_words, names-words, nodes-words, over-words}
use Rattle.ic_machine.specs.declared.plan.Link.{Link}
use Rattle.ic_machine.specs.Plan.{Made, Planned, IsPlan, allowance, link_operands, operands_of}
use Rattle.ic_machine.specs.Runs.{IsStart}
use Rattle.ic_meaning.specs.Plans.{filled, filled_all, held_made, HoldConstants, linked_terms, named_terms, StandsForNet}
use Rattle.ic_plans.specs.inner.Given.{AreGiven, AreFresh, operand_links, Numbers, number_in, register_in}
use Rattle.ic_plans.specs.inner.Flattening.{times_read, times_made, made_operands, AreFlat, IsRead, WouldBeFlat}
use Rattle.ic_plans.proofs.FlatLemmas.{count-append, count-cons, count-other, count-same, times-below, times-within, times-above}
use Rattle.ic_plans.proofs.RegisterLemmas.{all_there, there_front}
use Rattle.ic_plans.proofs.RuleLemmas.{not_same}
use Rattle.ic_plans.proofs.PlanLemmas.{read_words}
use Rattle.ic_confluence.specs.lemmas.Counts.{All_from}

-- ---- links

-- links two by two use each register once
pub links-operands : (os : List ℕ) (n : ℕ) → length os ≡ 2 * n → flat_map link_operands (operand_links os) ≡ os
links-operands [] n even = refl
links-operands (k ∷ []) n even = absurd (omega arith)
links-operands (k ∷ m ∷ os) zero even = absurd (omega arith)
links-operands (k ∷ m ∷ os) (suc n) even = let fewer : length os ≡ 2 * n = omega arith in ap (λ l. k ∷ m ∷ l) (links-operands os n fewer)

linked-pairs : (after : ℕ → Tree) (os : List ℕ) → map (linked_terms after) (operand_links os) ≡ pairs_of (map after os)
linked-pairs after (k ∷ m ∷ os) = ap (λ l. record { left = after k; right = after m } ∷ l) (linked-pairs after os)
linked-pairs after _ = refl

-- one register is left, or none
pub links-left : (os : List ℕ) → length os ≤ 1 → operand_links os ≡ []
links-left (k ∷ m ∷ os) few = absurd (omega arith)
links-left _ few = refl

-- ---- names put for themselves

mutual
  itself : (f : ℕ → Tree) (t : Tree) → AllByRecursion (λ x. f x ≡ name x) (names t) → filled f t ≡ t
  itself f (name x) all = all.0
  itself f (agent s ts) all = ap (agent s) (itself_all f ts all)

  itself_all : (f : ℕ → Tree) (ts : Trees) → AllByRecursion (λ x. f x ≡ name x) (names_of ts) → filled_all f ts ≡ ts
  itself_all f no_trees all = refl
  itself_all f (more_trees t ts) all =
      let front = itself f t (All-front (λ x. f x ≡ name x) (names t) (names_of ts) all) in
      let back = itself_all f ts (All-back (λ x. f x ≡ name x) (names t) (names_of ts) all) in
      λ i. more_trees (front i) (back i)

map-itself : (f : ℕ → Tree) (ts : List Tree) → AllByRecursion (λ x. f x ≡ name x) (flat_map names ts) → map (filled f) ts ≡ ts
map-itself f [] all = refl
map-itself f (t ∷ ts) all =
    let front = itself f t (All-front (λ x. f x ≡ name x) (names t) (flat_map names ts) all) in
    let back = map-itself f ts (All-back (λ x. f x ≡ name x) (names t) (flat_map names ts) all) in
    λ i. front i ∷ back i

-- ---- places of a list

all-places : (P : ℕ → Type 0) (xs : List ℕ) → ((j x : ℕ) → slice_get xs j ≡ Some x → P x) → AllByRecursion P xs
all-places P [] each = tt
all-places P (x ∷ xs) each = (each 0 x refl, all-places P xs (λ j y there. each (suc j) y there))

pub there-occurs : (x : ℕ) (xs : List ℕ) (j : ℕ) → slice_get xs j ≡ Some x → 1 ≤ occurrences x xs
there-occurs x [] j there = absurd (none-some x there)
there-occurs x (y ∷ xs) zero there =
    let one = count-cons x y xs in
    let same = count-same y x (same_Some y x there) in
    omega arith
there-occurs x (y ∷ xs) (suc j) there =
    let one = count-cons x y xs in
    let rest = there-occurs x xs j there in
    omega arith

pub occurs-there : (x : ℕ) (xs : List ℕ) → 1 ≤ occurrences x xs → (j : ℕ) × (slice_get xs j ≡ Some x)
occurs-there x [] some = absurd (omega arith)
occurs-there x (y ∷ xs) some = at (y == x) refl (occurs-there x xs)
  where
    at : (b : Bool) → (y == x) ≡ b → (1 ≤ occurrences x xs → (j : ℕ) × (slice_get xs j ≡ Some x)) → (j : ℕ) × (slice_get (y ∷ xs) j ≡ Some x)
    at true e later = (0, ap Some ((unsigned_Decides y x).0 e))
    at false e later =
        let one = count-cons x y xs in
        let other = count-other y x (not_same y x e) in
        let w = later (omega arith) in
        (suc w.0, w.1)

-- what stands at one place at most stands once at most
pub at-one-place : (x : ℕ) (xs : List ℕ) → ((i j : ℕ) → slice_get xs i ≡ Some x → slice_get xs j ≡ Some x → i ≡ j) → occurrences x xs ≤ 1
at-one-place x [] apart = omega arith
at-one-place x (y ∷ xs) apart =
    at (y == x) refl (at-one-place x xs (λ i j a b. let places = apart (suc i) (suc j) a b in omega arith))
  where
    none : (1 ≤ occurrences x xs → ⊥) → occurrences x xs ≡ 0
    none never = omega arith

    at : (b : Bool) → (y == x) ≡ b → occurrences x xs ≤ 1 → occurrences x (y ∷ xs) ≤ 1
    at true e later =
        let same = (unsigned_Decides y x).0 e in
        let one = count-cons x y xs in
        let here = count-same y x same in
        let rest = none (λ some. let w = occurs-there x xs some in let places = apart 0 (suc w.0) (ap Some same) w.1 in omega arith) in
        omega arith
    at false e later =
        let one = count-cons x y xs in
        let other = count-other y x (not_same y x e) in
        omega arith

-- one list and then another
pub there-either : (xs ys : List ℕ) (j x : ℕ) → slice_get (xs ++ ys) j ≡ Some x
    → (slice_get xs j ≡ Some x) ⊎ ((i : ℕ) × (j ≡ length xs + i) × (slice_get ys i ≡ Some x))
there-either [] ys j x there = inr (j, omega arith, there)
there-either (z ∷ xs) ys zero x there = inl there
there-either (z ∷ xs) ys (suc j) x there = at (there-either xs ys j x there)
  where
    at : (slice_get xs j ≡ Some x) ⊎ ((i : ℕ) × (j ≡ length xs + i) × (slice_get ys i ≡ Some x))
        → (slice_get xs j ≡ Some x) ⊎ ((i : ℕ) × (suc j ≡ length (z ∷ xs) + i) × (slice_get ys i ≡ Some x))
    at (inl p) = inl p
    at (inr q) = let place = q.1 in inr (q.0, omega arith, q.2)

pub there-back : (xs ys : List ℕ) (i x : ℕ) → slice_get ys i ≡ Some x → slice_get (xs ++ ys) (length xs + i) ≡ Some x
there-back [] ys i x there = let same : 0 + i ≡ i = omega arith in ap (slice_get ys) same ∙ there
there-back (z ∷ xs) ys i x there =
    let next : length (z ∷ xs) + i ≡ suc (length xs + i) = omega arith in
    ap (slice_get (z ∷ (xs ++ ys))) next ∙ there-back xs ys i x there

-- ---- the registers of all names

module _ (ns : List ℕ) (count : ℕ) (given others : List ℕ) (mid all : Numbers)
    (are_given : AreGiven ns count given mid) (are_fresh : AreFresh ns (count + length given) others mid all) where
  abbrev listed : List ℕ
  listed = given ++ others

  -- a name of the list has the register of its place
  listed-found : (j x : ℕ) → slice_get listed j ≡ Some x → number_in all x ≡ Some (count + j)
  listed-found j x there = at (there-either given others j x there)
    where
      at : (slice_get given j ≡ Some x) ⊎ ((i : ℕ) × (j ≡ length given + i) × (slice_get others i ≡ Some x)) → number_in all x ≡ Some (count + j)
      at (inl p) = (are_fresh.registers_are x (count + j)).1 (inl ((are_given.registers_are x (count + j)).1 (j, p, refl)))
      at (inr q) = let place = q.1 in (are_fresh.registers_are x (count + j)).1 (inr (q.0, q.2, omega arith))

  register-is : (j x : ℕ) → slice_get listed j ≡ Some x → register_in all x ≡ count + j
  register-is j x there = ap (λ o. unwrap_or o 0) (listed-found j x there)

  apart : (x i j : ℕ) → slice_get listed i ≡ Some x → slice_get listed j ≡ Some x → i ≡ j
  apart x i j a b =
      let same = same_Some (count + i) (count + j) (sym (listed-found i x a) ∙ listed-found j x b) in
      omega arith

  pub listed-once : (x : ℕ) → occurrences x listed ≤ 1
  listed-once x = at-one-place x listed (apart x)

  -- the names are those of the list
  pub occurs-listed : (x : ℕ) → 1 ≤ occurrences x ns → (j : ℕ) × (slice_get listed j ≡ Some x)
  occurs-listed x some = at (number_in mid x) refl
    where
      at : (o : Option ℕ) → number_in mid x ≡ o → (j : ℕ) × (slice_get listed j ≡ Some x)
      at (Some r) e = let w = (are_given.registers_are x r).0 e in (w.0, there_front given others w.0 x w.1)
      at None e = let w = (are_fresh.others x).0 (e, some) in (length given + w.0, there-back given others w.0 x w.1)

  pub listed-occurs : (j x : ℕ) → slice_get listed j ≡ Some x → 1 ≤ occurrences x ns
  listed-occurs j x there = at (there-either given others j x there)
    where
      at : (slice_get given j ≡ Some x) ⊎ ((i : ℕ) × (j ≡ length given + i) × (slice_get others i ≡ Some x)) → 1 ≤ occurrences x ns
      at (inl p) = let one = (are_given.once x).1 (j, p) in omega arith
      at (inr q) = ((are_fresh.others x).1 (q.0, q.2)).1

  abbrev IsListed : ℕ → Type 0
  IsListed x = (j : ℕ) × (slice_get listed j ≡ Some x)

  all_listed : AllByRecursion IsListed ns
  all_listed = All_from IsListed ns occurs-listed

  -- a register is read as often as its name stands there
  reads : (j x : ℕ) → slice_get listed j ≡ Some x → (ms : List ℕ) → AllByRecursion IsListed ms
      → count_by (λ y. register_in all y == count + j) ms ≡ occurrences x ms
  reads j x there [] each = refl
  reads j x there (y ∷ ms) each =
      let one = count-register (count + j) y ms in
      let two = count-cons x y ms in
      let rest = reads j x there ms each.1 in
      let here = by (y == x) refl in
      omega arith
    where
      count-register : (k y : ℕ) (ms : List ℕ) → count_by (λ z. register_in all z == k) (y ∷ ms)
          ≡ cond (register_in all y == k) 1 0 + count_by (λ z. register_in all z == k) ms
      count-register k y ms = sum_by-cons (λ z. cond (register_in all z == k) 1 0) y ms

      by : (b : Bool) → (y == x) ≡ b → ◌≡◌ {A = ℕ} (cond (register_in all y == count + j) 1 0) (cond (y == x) 1 0)
      by true e =
          let same = (unsigned_Decides y x).0 e in
          count-same (register_in all y) (count + j) (ap (register_in all) same ∙ register-is j x there) ∙ sym (ap (λ b. cond b 1 0) e)
      by false e =
          count-other (register_in all y) (count + j) (λ s. not_same y x e (same s)) ∙ sym (ap (λ b. cond b 1 0) e)
        where
          same : register_in all y ≡ count + j → y ≡ x
          same s =
              let place = sym (register-is each.0.0 y each.0.1) ∙ s in
              let equal : each.0.0 ≡ j = omega arith in
              same_Some y x (sym each.0.1 ∙ ap (slice_get listed) equal ∙ there)

  reads-none : (k : ℕ) → count + length listed ≤ k → (ms : List ℕ) → AllByRecursion IsListed ms → count_by (λ y. register_in all y == k) ms ≡ 0
  reads-none k high [] each = refl
  reads-none k high (y ∷ ms) each =
      let one = sum_by-cons (λ z. cond (register_in all z == k) 1 0) y ms in
      let rest = reads-none k high ms each.1 in
      let place = register-is each.0.0 y each.0.1 in
      let low = slice_get_within listed each.0.0 y each.0.1 in
      let other = count-other (register_in all y) k (λ s. omega arith) in
      omega arith

  -- that of a given name is read once
  pub given-read : (k : ℕ) → count ≤ k → k < count + length given → count_by (λ y. register_in all y == k) ns ≡ 1
  given-read k high low =
      let place : k - count < length given = omega arith in
      let x = get_or given (k - count) 0 in
      let there = slice_get-get_or given (k - count) 0 place in
      let same : k ≡ count + (k - count) = omega arith in
      ap (λ j. count_by (λ y. register_in all y == j) ns) same
      ∙ reads (k - count) x (there_front given others (k - count) x there) ns all_listed
      ∙ (are_given.once x).1 (k - count, there)

  -- each other one as often as any name may stand there
  pub other-read : (k bound : ℕ) → ((x : ℕ) → occurrences x ns ≤ bound) → count ≤ k → k < count + length listed → count_by (λ y. register_in all y == k) ns ≤ bound
  other-read k bound few high low =
      let place : k - count < length listed = omega arith in
      let x = get_or listed (k - count) 0 in
      let there = slice_get-get_or listed (k - count) 0 place in
      let same : k ≡ count + (k - count) = omega arith in
      let is = ap (λ j. count_by (λ y. register_in all y == j) ns) same ∙ reads (k - count) x there ns all_listed in
      let most = few x in
      omega arith

  -- and one of an agent is not read
  pub none-read : (k : ℕ) → count + length listed ≤ k → count_by (λ y. register_in all y == k) ns ≡ 0
  none-read k high = reads-none k high ns all_listed

  pub listed-bounds : (x : ℕ) → 1 ≤ occurrences x ns → (count ≤ register_in all x) × (register_in all x < count + length given + length others)
  listed-bounds x some =
      let w = occurs-listed x some in
      let place = register-is w.0 x w.1 in
      let low = slice_get_within listed w.0 x w.1 in
      let sum = length-append given others in
      (omega arith, omega arith)

  -- the names are put for themselves
  pub named : (x : ℕ) → 1 ≤ occurrences x ns → named_terms count listed (register_in all x) ≡ name x
  named x some =
      let w = occurs-listed x some in
      let high : count ≤ count + w.0 = omega arith in
      let place : count + w.0 - count ≡ w.0 = omega arith in
      ap (named_terms count listed) (register-is w.0 x w.1)
      ∙ ap (λ b. cond b (agent (count + w.0) no_trees) (name (get_or listed (count + w.0 - count) 0))) (le-ltb (count + w.0) count high)
      ∙ ap name (ap (λ j. get_or listed j 0) place ∙ get_or_from_slice_get listed w.0 x 0 w.1)

times-few : (first count k : ℕ) → times_made first count k ≤ 1
times-few first count k = at (nat_lt k first) (nat_lt k (first + count)) refl refl
  where
    at : (a b : Bool) → nat_lt k first ≡ a → nat_lt k (first + count) ≡ b → times_made first count k ≤ 1
    at true b p q = let e = times-below first count k (ltb-true k first p) in omega arith
    at false true p q = let e = times-within first count k (ltb-false k first p) (ltb-true k (first + count) q) in omega arith
    at false false p q = let e = times-above first count k (ltb-false k (first + count) q) in omega arith

-- ---- the plan of a configuration

module _ (ss : List Symbol) (c : Configuration) (given others : List ℕ) (mid all : Numbers) (made : List Made) (operands : List ℕ)
    (sound : IsWide c) (over : is_over ss c ≡ true)
    (are_given : AreGiven (flat_map word_names (configuration_words c)) (length (map (λ s. s.arity) ss)) given mid)
    (are_fresh : AreFresh (flat_map word_names (configuration_words c)) (length (map (λ s. s.arity) ss) + length given) others mid all)
    (would : WouldBeFlat (map (λ s. s.arity) ss) (register_in all) (length (map (λ s. s.arity) ss) + length given + length others) (configuration_words c) made operands)
    (counted : length operands ≡ length (forest (configuration_words c))) where
  abbrev arities : List ℕ
  arities = map (λ s. s.arity) ss

  abbrev count : ℕ
  count = length (map (λ s. s.arity) ss)

  abbrev ws : List Word
  ws = configuration_words c

  abbrev ns : List ℕ
  ns = flat_map word_names (configuration_words c)

  abbrev first : ℕ
  first = length (map (λ s. s.arity) ss) + length given + length others

  abbrev terms : ℕ
  terms = length c.interface

  abbrev interface : List ℕ
  interface = take (length c.interface) operands

  abbrev plan : Planned
  plan = record { names = length others; made = made; links = operand_links (drop (length c.interface) operands) }

  abbrev held : ℕ → Tree
  held = named_terms (length (map (λ s. s.arity) ss)) (given ++ others)

  flat : AreFlat (map (λ s. s.arity) ss) (register_in all) (length (map (λ s. s.arity) ss) + length given + length others) (configuration_words c) made operands
  flat =
      let same = length-map ss (λ (s : Symbol). s.arity) in
      let places = All_from (λ x. (length ss ≤ register_in all x) × (register_in all x < first)) ns
      (λ x some. let b = listed-bounds ns count given others mid all are_given are_fresh x some in (omega (arith, b.0, same), b.1)) in
      would (omega arith) (read_words ss (register_in all) first ws places (over-words ss c ∙ over))

  links-are : flat_map link_operands (operand_links (drop terms operands)) ≡ drop terms operands
  links-are = links-operands (drop terms operands) (length c.equations) (omega (arith, length-drop terms operands, counted, counted-configuration_words c))

  total : (k : ℕ) → count ≤ k
      → count_by (λ m. m == k) interface + count_by (λ m. m == k) (operands_of plan)
      ≡ times_read (register_in all) k ws + times_made first (length made) k
  total k high =
      let linked = ap (count_by (λ m. m == k)) links-are in
      let used = count-append k (made_operands made) (flat_map link_operands (operand_links (drop terms operands))) in
      let parts = ap (count_by (λ m. m == k)) (sym (take-append-drop terms operands)) ∙ count-append k interface (drop terms operands) in
      let whole = count-append k (made_operands made) operands in
      let flatly = flat.used k high in
      omega arith

  sum : length (given ++ others) ≡ length given + length others
  sum = length-append given others

  -- no name is read from a register of an agent
  none_made : (k : ℕ) → first ≤ k → times_read (register_in all) k ws ≡ 0
  none_made k high = none-read ns count given others mid all are_given are_fresh k (omega (arith, sum))

  twice : (x : ℕ) → occurrences x ns ≤ 2
  twice x = let same = ap (occurrences x) (names-words c) in let two = sound.twice x in omega arith

  linear : (k : ℕ) → count ≤ k → count_by (λ m. m == k) interface + count_by (λ m. m == k) (operands_of plan) ≤ allowance (count + length given) (length others) k
  linear k high = at (nat_lt k (count + length given)) (nat_lt k (count + length given + length others)) refl refl
    where
      at : (a b : Bool) → nat_lt k (count + length given) ≡ a → nat_lt k (count + length given + length others) ≡ b
          → count_by (λ m. m == k) interface + count_by (λ m. m == k) (operands_of plan) ≤ allowance (count + length given) (length others) k
      at true b p q =
          let low : k < count + length given = ltb-true k (count + length given) p in
          let both = total k high in
          let read = given-read ns count given others mid all are_given are_fresh k high low in
          let none = times-below first (length made) k (omega arith) in
          let one : allowance (count + length given) (length others) k ≡ 1 = ap (λ d. cond d 1 (cond (nat_lt k (count + length given + length others)) 2 1)) p in
          omega arith
      at false true p q =
          let low : k < first = ltb-true k first q in
          let both = total k high in
          let read = other-read ns count given others mid all are_given are_fresh k 2 twice high (omega (arith, low, sum)) in
          let none = times-below first (length made) k low in
          let two : allowance (count + length given) (length others) k ≡ 2 = (λ i. cond (p i) 1 (cond (q i) 2 1)) in
          omega arith
      at false false p q =
          let above : first ≤ k = ltb-false k first q in
          let both = total k high in
          let read = none_made k above in
          let few = times-few first (length made) k in
          let one : allowance (count + length given) (length others) k ≡ 1 = (λ i. cond (p i) 1 (cond (q i) 2 1)) in
          omega arith

  abbrev IsConstant : ℕ → Type 0
  IsConstant k = k < length (map (λ s. s.arity) ss) → slice_get (map (λ s. s.arity) ss) k ≡ Some 0

  split : (P : ℕ → Type 0) → AllByRecursion P operands → AllByRecursion P (take terms operands ++ drop terms operands)
  split P each = rw (take-append-drop terms operands) each

  front : (P : ℕ → Type 0) → AllByRecursion P operands → AllByRecursion P interface
  front P each = All-front P (take terms operands) (drop terms operands) (split P each)

  back : (P : ℕ → Type 0) → AllByRecursion P operands → AllByRecursion P (flat_map link_operands (operand_links (drop terms operands)))
  back P each = subst (AllByRecursion P) (sym links-are) (All-back P (take terms operands) (drop terms operands) (split P each))

  is_plan : IsPlan arities (length given) plan
  is_plan = record {
    made = flat.agents;
    links = back (λ k. k < first + length made) flat.within;
    constant = All-append IsConstant (made_operands made) (flat_map link_operands (operand_links (drop terms operands)))
        (All-front IsConstant (made_operands made) operands flat.constant)
        (back IsConstant (All-back IsConstant (made_operands made) operands flat.constant));
    linear = λ k high. let both = linear k high in omega arith;
  }

  pub net_starts : IsStart (map (λ s. s.arity) ss) (length given) (record { names = length others; made = made; links = operand_links (drop (length c.interface) operands) }) (take (length c.interface) operands)
  net_starts = record {
    plan = is_plan;
    filled = front (λ k. k < first + length made) flat.within;
    constant = front IsConstant (All-back IsConstant (made_operands made) operands flat.constant);
    linear = λ k high. let both = linear k high in let parts = count-append k interface (operands_of plan) in omega arith;
  }

  -- ---- its terms

  constants : HoldConstants count held
  constants s low = ap (λ b. cond b (agent s no_trees) (name (get_or (given ++ others) (s - count) 0))) (lt-ltb s count low)

  same_terms : map (held_made first made held) operands ≡ all_terms c
  same_terms =
      let f : ℕ → Tree = λ x. held (register_in all x) in
      let each = All_from (λ x. f x ≡ name x) ns (named ns count given others mid all are_given are_fresh) in
      let here = subst (AllByRecursion (λ x. f x ≡ name x)) (sym (names-forest ws)) each in
      flat.terms held constants ∙ map-itself f (forest ws) here ∙ forest-configuration_words c

  abbrev after : ℕ → Tree
  after = held_made first made held

  pub net_stands : StandsForNet (map (λ s. s.arity) ss) given c (record { names = length others; made = made; links = operand_links (drop (length c.interface) operands) }) (take (length c.interface) operands)
  net_stands = record {
    names = others;
    count = refl;
    below = all-places (λ x. x < c.next) (given ++ others) below;
    once = listed-once ns count given others mid all are_given are_fresh;
    occur = All-back (λ x. 1 ≤ occurrences x (configuration_names c)) given others
        (all-places (λ x. 1 ≤ occurrences x (configuration_names c)) (given ++ others) occurs);
    within = front (λ k. k < first + length made) flat.within;
    constant = front IsConstant (All-back IsConstant (made_operands made) operands flat.constant);
    used = λ k low.
        let both = total (first + k) (omega arith) in
        let parts = count-append (first + k) (operands_of plan) interface in
        let none = none_made (first + k) (omega arith) in
        let one = times-within first (length made) (first + k) (omega arith) (omega arith) in
        omega arith;
    interface_is = sym (take-map after terms operands) ∙ ap (take terms) same_terms ∙ take_at c.interface (sides c.equations) terms refl;
    equations = subst (λ l. IsPermutation l c.equations) (sym equations_are) (IsPermutation-refl c.equations);
  }
    where
      occurs : (j x : ℕ) → slice_get (given ++ others) j ≡ Some x → 1 ≤ occurrences x (configuration_names c)
      occurs j x there =
          let some = listed-occurs ns count given others mid all are_given are_fresh j x there in
          let same = ap (occurrences x) (names-words c) in
          omega arith

      below : (j x : ℕ) → slice_get (given ++ others) j ≡ Some x → x < c.next
      below j x there =
          let some = listed-occurs ns count given others mid all are_given are_fresh j x there in
          let same = ap (occurrences x) (names-words c) in
          let w = occurs-there x (configuration_names c) (omega arith) in
          all_there (λ x. x < c.next) (configuration_names c) w.0 x sound.below w.1

      equations_are : map (linked_terms after) (operand_links (drop terms operands)) ≡ c.equations
      equations_are =
          linked-pairs after (drop terms operands)
          ∙ ap pairs_of (sym (drop-map after terms operands) ∙ ap (drop terms) same_terms ∙ drop_at c.interface (sides c.equations) terms refl)
          ∙ pairs_of-sides c.equations

-- ---- what a function has of these

pub words-few : (c : Configuration) (ss : List Symbol) (ws : List Word) (n : ℕ) → IsWide c → AreSymbols ss → ws ≡ configuration_words c → n ≡ length ss
    → (n ≤ 65536) × (length ws ≤ 2 ^ 31)
words-few c ss ws n sound symbols words counted =
    let nodes : configuration_nodes c ≤ 2 ^ 31 = sound.nodes in
    let few : length ss ≤ 65536 = symbols.few in
    (omega arith, omega (arith, ap length words, nodes-words c, nodes))

pub enough-operands : (c : Configuration) (ws : List Word) (operands : List ℕ) (terms : ℕ) → ws ≡ configuration_words c → length operands ≡ length (forest ws)
    → terms ≡ length c.interface → terms ≤ length operands
enough-operands c ws operands terms words counted are =
    omega (arith, counted, ap (λ l. length (forest l)) words, counted-configuration_words c, are)

-- the names that were given are those that stand once
pub given-exactly : (c : Configuration) (ws : List Word) (start : ℕ) (given : List ℕ) (mid : Numbers) → ws ≡ configuration_words c
    → AreGiven (flat_map word_names ws) start given mid → (x : ℕ) → (occurrences x (configuration_names c) ≡ 1) ↔ Contains given x
given-exactly c ws start given mid words are_given x = (there, back)
  where
    same : occurrences x (flat_map word_names ws) ≡ occurrences x (configuration_names c)
    same = ap (λ l. occurrences x (flat_map word_names l)) words ∙ ap (occurrences x) (names-words c)

    there : occurrences x (configuration_names c) ≡ 1 → Contains given x
    there once =
        let w = (are_given.once x).0 (same ∙ once) in
        (w.0, slice_get_within given w.0 x w.1, get_or_from_slice_get given w.0 x x w.1)

    back : Contains given x → occurrences x (configuration_names c) ≡ 1
    back w = sym same ∙ (are_given.once x).1 (w.0, slice_get-get_or given w.0 x w.1 ∙ ap Some w.2)

module _ (ss : List Symbol) (c : Configuration) (given others : List ℕ) (mid all : Numbers) (made : List Made) (operands : List ℕ)
    (ws : List Word) (n g : ℕ) (words : ws ≡ configuration_words c) (symbols : n ≡ length ss) (givens : g ≡ length given)
    (sound : IsWide c) (over : is_over ss c ≡ true)
    (are_given : AreGiven (flat_map word_names ws) n given mid) (are_fresh : AreFresh (flat_map word_names ws) (n + g) others mid all)
    (would : WouldBeFlat (map (λ s. s.arity) ss) (register_in all) (n + g + length others) ws made operands)
    (counted : length operands ≡ length (forest ws)) where
  at_count : n ≡ length (map (λ s. s.arity) ss)
  at_count = symbols ∙ sym (length-map ss (λ (s : Symbol). s.arity))

  given_there : AreGiven (flat_map word_names (configuration_words c)) (length (map (λ s. s.arity) ss)) given mid
  given_there = subst (λ m. AreGiven (flat_map word_names (configuration_words c)) m given mid) at_count
      (subst (λ l. AreGiven (flat_map word_names l) n given mid) words are_given)

  at_start : n + g ≡ length (map (λ s. s.arity) ss) + length given
  at_start = omega (arith, at_count, givens)

  fresh_there : AreFresh (flat_map word_names (configuration_words c)) (length (map (λ s. s.arity) ss) + length given) others mid all
  fresh_there = subst (λ m. AreFresh (flat_map word_names (configuration_words c)) m others mid all) at_start
      (subst (λ l. AreFresh (flat_map word_names l) (n + g) others mid all) words are_fresh)

  would_there : WouldBeFlat (map (λ s. s.arity) ss) (register_in all) (length (map (λ s. s.arity) ss) + length given + length others) (configuration_words c) made operands
  would_there = subst (λ m. WouldBeFlat (map (λ s. s.arity) ss) (register_in all) (m + length others) (configuration_words c) made operands) at_start
      (subst (λ l. WouldBeFlat (map (λ s. s.arity) ss) (register_in all) (n + g + length others) l made operands) words would)

  counted_there : length operands ≡ length (forest (configuration_words c))
  counted_there = counted ∙ ap (λ l. length (forest l)) words

  module _ (names : ℕ) (interface : List ℕ) (links : List Link) (names_are : names ≡ length others)
      (interface_is : interface ≡ take (length c.interface) operands) (links_are : links ≡ operand_links (drop (length c.interface) operands)) where
    pub first_starts : IsStart (map (λ s. s.arity) ss) (length given) (record { names = names; made = made; links = links }) interface
    first_starts = rw (names_are, interface_is, links_are)
        (net_starts ss c given others mid all made operands sound over given_there fresh_there would_there counted_there)

    pub first_stands : StandsForNet (map (λ s. s.arity) ss) given c (record { names = names; made = made; links = links }) interface
    first_stands = rw (names_are, interface_is, links_are)
        (net_stands ss c given others mid all made operands sound over given_there fresh_there would_there counted_there)

-- what the names of the words are read from
pub words-read : (ss : List Symbol) (c : Configuration) (given others : List ℕ) (mid all : Numbers) (ws : List Word) (n g : ℕ)
    → ws ≡ configuration_words c → n ≡ length ss → g ≡ length given → is_over ss c ≡ true → AreGiven (flat_map word_names ws) n given mid
    → AreFresh (flat_map word_names ws) (n + g) others mid all
    → AllByRecursion (IsRead (map (λ s. s.arity) ss) (register_in all) (n + g + length others)) ws
words-read ss c given others mid all ws n g words symbols givens over are_given are_fresh =
    let ns = flat_map word_names ws in
    let fresh = subst (λ k. AreFresh ns (n + k) others mid all) givens are_fresh in
    let places = All_from (λ x. (length ss ≤ register_in all x) × (register_in all x < n + g + length others)) ns
    (λ x some. let b = listed-bounds ns n given others mid all are_given fresh x some in (omega (arith, b.0, symbols), omega (arith, b.1, givens))) in
    read_words ss (register_in all) (n + g + length others) ws places (ap (list_all (is_word_over ss)) words ∙ over-words ss c ∙ over)
