-- The names that a configuration is told by: different ones stay different, free ones stay, and all may stand in a text.
use Rattle.std.proofs.Common.{◌≡◌, ℕ, suc, ◌+◌, ◌*◌, ◌<◌, ◌≤◌, ◌==◌, ◌||◌, Bool, true, false, cond, List, [], ◌∷◌, ◌++◌, length, map, get_or, refl, sym, ap, ◌∙◌, arith, length-append, one-add}
use Rattle.std.specs.List.{list_any, AllByRecursion}
use Rattle.std.proofs.lemmas.Bool.{false≢true}
use Rattle.ic_rules.specs.Renaming.{first_after, first_occurrences, number_among}
use Rattle.ic_rules.specs.lemmas.NumberingLaws.{Undone, Among, each_among, each_undone, name_at}
use Rattle.ic_text.specs.declared.limits.TheConstants.{MAX_NAME}
use Rattle.ic_naming.specs.Naming.{IsOneToOne, is_kept, spare_numbers, told_name}
use Rattle.ic_naming.specs.lemmas.Spare.{kept_low, spare_is, spare_placed, spares_suffice}

place_below : (n : ℕ) (firsts : List ℕ) → list_any (λ m. n == m) firsts ≡ true → number_among firsts n < length firsts
place_below n [] there = absurd (false≢true there)
place_below n (m ∷ ms) there = by_test (n == m) refl there (place_below n ms)
  where
    by_test : (b : Bool) → (n == m) ≡ b → (b || list_any (λ k. n == k) ms) ≡ true → (list_any (λ k. n == k) ms ≡ true → number_among ms n < length ms) → number_among (m ∷ ms) n < suc (length ms)
    by_test true is e below = rw is (omega arith)
    by_test false is e below = let rest : number_among ms n < length ms = below e in rw (is, one-add) (omega (arith, rest))

pub numbers_below : (firsts ns : List ℕ) → Among firsts ns → AllByRecursion (λ n. n < length firsts) (map (number_among firsts) ns)
numbers_below firsts [] all = tt
numbers_below firsts (n ∷ ns) all = (place_below n firsts all.0, numbers_below firsts ns all.1)

few_firsts : (ns seen : List ℕ) → length (first_after seen ns) ≤ length seen + length ns
few_firsts [] seen = omega arith
few_firsts (n ∷ ns) seen = by_test (list_any (λ m. n == m) seen) (few_firsts ns seen) (few_firsts ns (seen ++ n ∷ []))
  where
    by_test : (b : Bool) → length (first_after seen ns) ≤ length seen + length ns → length (first_after (seen ++ n ∷ []) ns) ≤ length (seen ++ n ∷ []) + length ns
        → length (cond b (first_after seen ns) (first_after (seen ++ n ∷ []) ns)) ≤ length seen + suc (length ns)
    by_test true known new = omega (arith, known)
    by_test false known new = omega (arith, new, length-append seen (n ∷ []))

-- there are no more first occurrences than names
pub firsts_within : (ns : List ℕ) → length (first_occurrences ns) ≤ length ns
firsts_within ns = omega (arith, few_firsts ns [])

module _ (names : List ℕ) where
  spare_there : (n : ℕ) → list_any (λ m. n == m) (first_occurrences names) ≡ true → number_among (first_occurrences names) n < length (spare_numbers names)
  spare_there n there = omega (arith, place_below n (first_occurrences names) there, firsts_within names, spares_suffice names)

  -- the name that a told name tells
  abbrev pub named : ℕ → ℕ
  named m = cond (is_kept names m) m (name_at (first_occurrences names) (number_among (spare_numbers names) m))

  named_back : (n : ℕ) → list_any (λ m. n == m) (first_occurrences names) ≡ true → name_at (first_occurrences names) (number_among (first_occurrences names) n) ≡ n → named (told_name names n) ≡ n
  named_back n there undone = by_test (is_kept names n) refl
    where
      by_test : (b : Bool) → is_kept names n ≡ b → named (cond b n (get_or (spare_numbers names) (number_among (first_occurrences names) n) 0)) ≡ n
      by_test true is = rw is refl
      by_test false is =
          let k = number_among (first_occurrences names) n in
          let less : k < length (spare_numbers names) = spare_there n there in
          let free : is_kept names (get_or (spare_numbers names) k 0) ≡ false = (spare_is names k less).1 in
          let placed : number_among (spare_numbers names) (get_or (spare_numbers names) k 0) ≡ k = spare_placed names k less in
          rw (free, placed) undone

  pub told_undone : Undone (told_name names) named names
  told_undone = each names (each_among [] names) (each_undone names)
    where
      each : (ms : List ℕ) → Among (first_occurrences names) ms → Undone (number_among (first_occurrences names)) (name_at (first_occurrences names)) ms → Undone (told_name names) named ms
      each [] among undone = tt
      each (m ∷ ms) among undone = (named_back m among.0 undone.0, each ms among.1 undone.1)

  told_low : 2 * length names ≤ MAX_NAME + 1 → (n : ℕ) → list_any (λ m. n == m) (first_occurrences names) ≡ true → told_name names n ≤ MAX_NAME
  told_low few n there = by_test (is_kept names n) refl
    where
      by_test : (b : Bool) → is_kept names n ≡ b → cond b n (get_or (spare_numbers names) (number_among (first_occurrences names) n) 0) ≤ MAX_NAME
      by_test true is = kept_low names n is
      by_test false is = let low = (spare_is names (number_among (first_occurrences names) n) (spare_there n there)).0 in omega (arith, low, few)

  pub all_low : 2 * length names ≤ MAX_NAME + 1 → AllByRecursion (λ n. n ≤ MAX_NAME) (map (told_name names) names)
  all_low few = each names (each_among [] names)
    where
      each : (ms : List ℕ) → Among (first_occurrences names) ms → AllByRecursion (λ n. n ≤ MAX_NAME) (map (told_name names) ms)
      each [] among = tt
      each (m ∷ ms) among = (told_low few m among.0, each ms among.1)

-- different names stay different where they are undone
pub one_to_one : (f back : ℕ → ℕ) (ns : List ℕ) → Undone f back ns → IsOneToOne f ns
one_to_one f back ns undone = each ns undone
  where
    inner : (m : ℕ) → back (f m) ≡ m → (ks : List ℕ) → Undone f back ks → AllByRecursion (λ n. f m ≡ f n → m ≡ n) ks
    inner m um [] uk = tt
    inner m um (k ∷ ks) uk = ((λ e. sym um ∙ ap back e ∙ uk.0), inner m um ks uk.1)

    each : (ms : List ℕ) → Undone f back ms → AllByRecursion (λ m. AllByRecursion (λ n. f m ≡ f n → m ≡ n) ns) ms
    each [] um = tt
    each (m ∷ ms) um = (inner m um.0 ns undone, each ms um.1)

pub told_apart : (ns : List ℕ) → IsOneToOne (told_name ns) ns
told_apart ns = one_to_one (told_name ns) (named ns) ns (told_undone ns)
