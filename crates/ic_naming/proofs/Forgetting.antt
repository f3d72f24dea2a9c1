-- What is renumbered forgets the names that it had: names that are turned into others, and that a text tells nothing of, are
-- told by the same names.
use Rattle.std.proofs.Common.{◌≡◌, ℕ, ◌+◌, ◌≤◌, ◌==◌, ◌||◌, Bool, true, false, not, cond, List, [], ◌∷◌, ◌++◌, map, filter, get_or, inl, inr, refl, sym, ap, ◌∙◌, subst, arith, one-add}
use Rattle.std.specs.List.{flat_map, list_any, range_with_len, AllByRecursion}
use Rattle.std.proofs.lemmas.Bool.{cases_lt, eqb-true, false≢true}
use Rattle.std.proofs.lemmas.List.{length-map}
use Rattle.ic_term.specs.Configuration.{occurrences}
use Rattle.ic_rules.specs.Renaming.{first_after, first_occurrences, number_among}
use Rattle.ic_rules.specs.lemmas.NumberingLaws.{Among, Undone, first_after-map, number_among-map, occurrences-renamed, self_eq, undone-append}
use Rattle.ic_flat.specs.declared.word.Word.{Word}
use Rattle.ic_flat.specs.declared.word.Word.TheVariants.{Name, Agent}
use Rattle.ic_flat.specs.Words.{word_names}
use Rattle.ic_text.specs.declared.limits.TheConstants.{MAX_NAME}
use Rattle.ic_naming.specs.Naming.{RenamesUntold, is_kept, renamed_word, renumbered_words, spare_numbers, told_name}
use Rattle.ic_naming.specs.lemmas.Occurring.{led_back, undone_in}
use Rattle.ic_naming.specs.lemmas.RenamedWords.{word_names-renamed}
use Rattle.ic_naming.specs.lemmas.Spare.{kept_low}
use Rattle.ic_naming.proofs.Kept.{free_kept, kept_once}

-- ---- a list has its own names

among_more : (n : ℕ) (ns ms : List ℕ) → Among ns ms → Among (n ∷ ns) ms
among_more n ns [] all = tt
among_more n ns (m ∷ ms) all = (or_later (m == n) (list_any (λ k. m == k) ns) all.0, among_more n ns ms all.1)
  where
    or_later : (a b : Bool) → b ≡ true → (a || b) ≡ true
    or_later true b is = refl
    or_later false b is = is

among_itself : (ns : List ℕ) → Among ns ns
among_itself [] = tt
among_itself (n ∷ ns) =
    let here : list_any (λ k. n == k) (n ∷ ns) ≡ true = rw (self_eq n) refl in
    (here, among_more n ns ns (among_itself ns))

-- ---- different names that stay different are led back

-- the first name of a list that has this new name
abbrev name_before : (ℕ → ℕ) → List ℕ → ℕ → ℕ
name_before f ns k = get_or ns (number_among (map f ns) k) 0

leads_back : (f : ℕ → ℕ) (n : ℕ) (ms : List ℕ) → list_any (λ k. n == k) ms ≡ true → AllByRecursion (λ m. f n ≡ f m → n ≡ m) ms → name_before f ms (f n) ≡ n
leads_back f n [] there apart = absurd (false≢true there)
leads_back f n (m ∷ ms) there apart = by_test (f n == f m) refl (leads_back f n ms)
  where
    later : (b : Bool) → (n == m) ≡ b → (f n == f m) ≡ false → (b || list_any (λ k. n == k) ms) ≡ true → list_any (λ k. n == k) ms ≡ true
    later true is differ e =
        let same : (f n == f m) ≡ true = ap (λ k. f n == f k) (sym (eqb-true n m is)) ∙ self_eq (f n) in
        absurd (false≢true (sym differ ∙ same))
    later false is differ e = e

    by_test : (b : Bool) → (f n == f m) ≡ b → (list_any (λ k. n == k) ms ≡ true → AllByRecursion (λ k. f n ≡ f k → n ≡ k) ms → name_before f ms (f n) ≡ n)
        → name_before f (m ∷ ms) (f n) ≡ n
    by_test true is rest = rw is (sym (apart.0 (eqb-true (f n) (f m) is)))
    by_test false is rest =
        let after : list_any (λ k. n == k) ms ≡ true = later (n == m) refl is there in
        rw (is, one-add) (rest after apart.1)

undone_by : (f : ℕ → ℕ) (ns ms : List ℕ) → Among ns ms → AllByRecursion (λ m. AllByRecursion (λ n. f m ≡ f n → m ≡ n) ns) ms → Undone f (name_before f ns) ms
undone_by f ns [] there apart = tt
undone_by f ns (m ∷ ms) there apart = (leads_back f m ns there.0 apart.0, undone_by f ns ms there.1 apart.1)

-- ---- first occurrences are names of the list

undone_firsts : (f back : ℕ → ℕ) (seen ns : List ℕ) → Undone f back seen → Undone f back ns → Undone f back (first_after seen ns)
undone_firsts f back seen [] us un = us
undone_firsts f back seen (n ∷ ns) us un =
    by_test (list_any (λ m. n == m) seen) (undone_firsts f back seen ns us un.1) (undone_firsts f back (seen ++ n ∷ []) ns (undone-append f back seen (n ∷ []) us (un.0, tt)) un.1)
  where
    by_test : (b : Bool) → Undone f back (first_after seen ns) → Undone f back (first_after (seen ++ n ∷ []) ns)
        → Undone f back (cond b (first_after seen ns) (first_after (seen ++ n ∷ []) ns))
    by_test true known new = known
    by_test false known new = new

-- ---- the same names are kept

same_tests : (a b : Bool) → (a ≡ true → b ≡ true) → (b ≡ true → a ≡ true) → a ≡ b
same_tests true b to from = sym (to refl)
same_tests false true to from = from refl
same_tests false false to from = refl

module _ (f : ℕ → ℕ) (ns : List ℕ) (untold : RenamesUntold f ns) where
  abbrev back : ℕ → ℕ
  back = name_before f ns

  undone : Undone f back ns
  undone = undone_by f ns ns (among_itself ns) untold.one_to_one

  -- a name that is led back stands as often as its new name
  as_often : (n : ℕ) → back (f n) ≡ n → occurrences (f n) (map f ns) ≡ occurrences n ns
  as_often n led = occurrences-renamed f back n ns led undone

  -- a free name may stand in a text where its new name may
  low_before : (n : ℕ) → occurrences n ns ≡ 1 → f n ≤ MAX_NAME → n ≤ MAX_NAME
  low_before n once low = elim (cases_lt MAX_NAME n) [
    | inl more ↦ absurd (omega (arith, low, untold.great n once more))
    | inr is ↦ is
  ]

  kept_after : (k : ℕ) → is_kept ns k ≡ true → is_kept (map f ns) k ≡ true
  kept_after k kept =
      let once : occurrences k ns ≡ 1 = kept_once ns k kept in
      let low : k ≤ MAX_NAME = kept_low ns k kept in
      let stays : f k ≡ k = untold.kept k once low in
      let led : back (f k) ≡ k = undone_in f back k ns undone (omega (arith, once)) in
      let still : occurrences k (map f ns) ≡ 1 = ap (λ m. occurrences m (map f ns)) (sym stays) ∙ as_often k led ∙ once in
      free_kept (map f ns) k still low

  kept_before : (k : ℕ) → is_kept (map f ns) k ≡ true → is_kept ns k ≡ true
  kept_before k kept =
      let once : occurrences k (map f ns) ≡ 1 = kept_once (map f ns) k kept in
      let low : k ≤ MAX_NAME = kept_low (map f ns) k kept in
      let leads : f (back k) ≡ k = led_back f back k ns undone (omega (arith, once)) in
      let before : occurrences (back k) ns ≡ 1 = sym (as_often (back k) (ap back leads)) ∙ ap (λ m. occurrences m (map f ns)) leads ∙ once in
      let low_too : back k ≤ MAX_NAME = low_before (back k) before (subst (λ (m : ℕ). m ≤ MAX_NAME) (sym leads) low) in
      let stays : back k ≡ k = sym (untold.kept (back k) before low_too) ∙ leads in
      subst (λ (m : ℕ). is_kept ns m ≡ true) stays (free_kept ns (back k) before low_too)

  same_kept : (k : ℕ) → is_kept (map f ns) k ≡ is_kept ns k
  same_kept k = same_tests (is_kept (map f ns) k) (is_kept ns k) (kept_before k) (kept_after k)

  -- so the same numbers are spare
  same_spare : spare_numbers (map f ns) ≡ spare_numbers ns
  same_spare = λ i. filter (λ n. not (same_kept n i)) (range_with_len 0 (length-map ns f i + length-map ns f i))

  -- ---- a new name is told by the name that the old one is told by

  -- a name is kept where its new name is
  kept_there : (n : ℕ) → back (f n) ≡ n → is_kept (map f ns) (f n) ≡ true → is_kept ns n ≡ true
  kept_there n led kept =
      let once : occurrences n ns ≡ 1 = sym (as_often n led) ∙ kept_once (map f ns) (f n) kept in
      free_kept ns n once (low_before n once (kept_low (map f ns) (f n) kept))

  -- its place by first occurrence stays
  same_place : (n : ℕ) → back (f n) ≡ n → number_among (first_occurrences (map f ns)) (f n) ≡ number_among (first_occurrences ns) n
  same_place n led =
      ap (λ firsts. number_among firsts (f n)) (first_after-map f back [] ns tt undone)
      ∙ number_among-map f back (first_occurrences ns) n (undone_firsts f back [] ns tt undone) led

  told_again : (n : ℕ) → back (f n) ≡ n → told_name (map f ns) (f n) ≡ told_name ns n
  told_again n led = by_test (is_kept ns n) refl
    where
      spare : get_or (spare_numbers (map f ns)) (number_among (first_occurrences (map f ns)) (f n)) 0 ≡ get_or (spare_numbers ns) (number_among (first_occurrences ns) n) 0
      spare = λ i. get_or (same_spare i) (same_place n led i) 0

      by_test : (b : Bool) → is_kept ns n ≡ b → told_name (map f ns) (f n) ≡ cond b n (get_or (spare_numbers ns) (number_among (first_occurrences ns) n) 0)
      by_test true is =
          let stays : f n ≡ n = untold.kept n (kept_once ns n is) (kept_low ns n is) in
          let kept : is_kept (map f ns) (f n) ≡ true = ap (is_kept (map f ns)) stays ∙ kept_after n is in
          rw kept stays
      by_test false is =
          let kept : is_kept (map f ns) (f n) ≡ false = unkept (is_kept (map f ns) (f n)) refl in
          rw kept spare
        where
          unkept : (a : Bool) → is_kept (map f ns) (f n) ≡ a → a ≡ false
          unkept true e = absurd (false≢true (sym is ∙ kept_there n led e))
          unkept false e = refl

  all_told_again : (ms : List ℕ) → Undone f back ms → AllByRecursion (λ n. told_name (map f ns) (f n) ≡ told_name ns n) ms
  all_told_again [] led = tt
  all_told_again (m ∷ ms) led = (told_again m led.0, all_told_again ms led.1)

-- ---- words

words-through : (f g h : ℕ → ℕ) (ws : List Word) → AllByRecursion (λ n. g (f n) ≡ h n) (flat_map word_names ws) → map (renamed_word g) (map (renamed_word f) ws) ≡ map (renamed_word h) ws
words-through f g h [] all = refl
words-through f g h (Name n ∷ ws) all = λ i. Name (all.0 i) ∷ words-through f g h ws all.1 i
words-through f g h (Agent s arity ∷ ws) all = ap (λ vs. Agent s arity ∷ vs) (words-through f g h ws all)

pub renumbered-renamed : (f : ℕ → ℕ) (ws : List Word) → RenamesUntold f (flat_map word_names ws) → renumbered_words (map (renamed_word f) ws) ≡ renumbered_words ws
renumbered-renamed f ws untold =
    let ns : List ℕ = flat_map word_names ws in
    ap (λ (ms : List ℕ). map (renamed_word (told_name ms)) (map (renamed_word f) ws)) (word_names-renamed f ws)
    ∙ words-through f (told_name (map f ns)) (told_name ns) ws (all_told_again f ns untold ns (undone f ns untold))
