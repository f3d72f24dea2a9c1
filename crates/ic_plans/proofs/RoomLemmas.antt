-- There are enough registers: names of words and agents of words have no more together than there are words.
use Rattle.std.proofs.Common.{◌≡◌, ◌⊎◌, ℕ, zero, suc, ◌+◌, ◌≤◌, ◌<◌, ◌==◌, List, [], ◌∷◌, ◌++◌, Bool, true, false, cond, Some, length, map, take, drop, get_or, slice_get, refl, sym, ap, ◌∙◌, arith, inl, inr}
use Rattle.std.proofs.lemmas.List.{drop_more, length-append, length-map, map-append, take-append-drop, length-take-le}
use Rattle.std.proofs.Math.Seq.{get_or-append_seam}
use Rattle.std.proofs.lemmas.List.Concat.{flat_map-append}
use Rattle.std.specs.Cmp.{unsigned_Decides}
use Rattle.std.specs.List.{flat_map, AllByRecursion}
use Rattle.std.proofs.lemmas.Option.{same_Some}
use Rattle.ic_term.specs.Configuration.{occurrences}
use Rattle.ic_flat.specs.declared.word.Word.{Word}
use Rattle.ic_flat.specs.declared.word.Word.TheVariants.{Name, Agent}
use Rattle.ic_flat.specs.Words.{word_names}
use Rattle.ic_plans.specs.inner.Given.{AreGiven, AreFresh, Numbers, number_in}
use Rattle.ic_plans.proofs.FlatLemmas.{count-cons, count-other, count-same}
use Rattle.ic_plans.proofs.RuleLemmas.{not_same}
use Rattle.ic_plans.proofs.NetLemmas.{at-one-place, there-either, occurs-there}

-- ---- lists

-- a list without one of its elements
record Without (x : ℕ) (ns : List ℕ) : Type 0 where
  rest : List ℕ
  one_less : length ns ≡ suc (length rest)
  others : (y : ℕ) → occurrences y ns ≡ cond (x == y) 1 0 + occurrences y rest

without : (x : ℕ) (ns : List ℕ) → 1 ≤ occurrences x ns → Without x ns
without x [] some = absurd (omega arith)
without x (n ∷ ns) some = at (n == x) refl (without x ns)
  where
    at : (b : Bool) → (n == x) ≡ b → (1 ≤ occurrences x ns → Without x ns) → Without x (n ∷ ns)
    at true e later = record {
      rest = ns;
      one_less = refl;
      others = λ y. ap (λ m. occurrences y (m ∷ ns)) ((unsigned_Decides n x).0 e) ∙ count-cons y x ns;
    }
    at false e later =
        let one = count-cons x n ns in
        let other = count-other n x (not_same n x e) in
        let w = later (omega arith) in
        record {
          rest = n ∷ w.rest;
          one_less = ap suc w.one_less;
          others = λ y. (let all = w.others y in let here = count-cons y n ns in let there = count-cons y n w.rest in omega arith);
        }

-- a list in which no number stands more often than in another is no longer
no_longer : (xs ns : List ℕ) → ((x : ℕ) → occurrences x xs ≤ occurrences x ns) → length xs ≤ length ns
no_longer [] ns all = omega arith
no_longer (x ∷ xs) ns all =
    let one = count-cons x x xs in
    let same = count-same x x refl in
    let here = all x in
    let w = without x ns (omega arith) in
    let shorter = no_longer xs w.rest (λ y. (let more = all y in let old = w.others y in let new = count-cons y x xs in omega arith)) in
    omega (arith, shorter, w.one_less)

-- there are no more names than words
pub names-length : (ws : List Word) → length (flat_map word_names ws) ≤ length ws
names-length [] = omega arith
names-length (Name n ∷ ws) = omega (arith, names-length ws)
names-length (Agent s n ∷ ws) = omega (arith, names-length ws)

-- those before a place, those of the word there, and those after it
names-split : (ws : List Word) (i : ℕ) → length (flat_map word_names ws) ≡ length (flat_map word_names (take i ws)) + length (flat_map word_names (drop i ws))
names-split ws i =
    ap (λ l. length (flat_map word_names l)) (sym (take-append-drop i ws))
    ∙ ap length (flat_map-append word_names (take i ws) (drop i ws))
    ∙ length-append (flat_map word_names (take i ws)) (flat_map word_names (drop i ws))

pub names-here : (ws : List Word) (i : ℕ) (d : Word) → i < length ws
    → length (flat_map word_names (drop i ws)) ≡ length (word_names (get_or ws i d)) + length (flat_map word_names (drop (i + 1) ws))
names-here ws i d within =
    ap (λ l. length (flat_map word_names l)) (drop_more ws i d within)
    ∙ length-append (word_names (get_or ws i d)) (flat_map word_names (drop (i + 1) ws))

-- those up to a place, and those of the word there
pub names-until : (ws : List Word) (i : ℕ) (d : Word) → i < length ws
    → length (flat_map word_names (take (i + 1) ws)) ≡ length (flat_map word_names (take i ws)) + length (word_names (get_or ws i d))
names-until ws i d within =
    let all = names-split ws i in
    let here = names-here ws i d within in
    let more = names-split ws (i + 1) in
    omega arith

-- what the name at a place is read from, among those of all names
pub read-here : (registers : ℕ → ℕ) (ws : List Word) (i : ℕ) (reads : List ℕ) (left : ℕ) (d : Word) → i < length ws
    → reads ≡ map registers (flat_map word_names ws) → left ≡ length (flat_map word_names (take i ws))
    → AllByRecursion (λ x. registers x ≡ get_or reads left 0) (word_names (get_or ws i d))
read-here registers ws i reads left d within are is = at (get_or ws i d) refl
  where
    front : List ℕ
    front = map registers (flat_map word_names (take i ws))

    back : List ℕ
    back = map registers (flat_map word_names (drop (i + 1) ws))

    split : (w : Word) → get_or ws i d ≡ w → reads ≡ front ++ (map registers (word_names w) ++ back)
    split w e =
        are ∙ ap (λ l. map registers (flat_map word_names l)) (sym (take-append-drop i ws) ∙ ap (λ l. take i ws ++ l) (drop_more ws i d within ∙ ap (λ v. v ∷ drop (i + 1) ws) e))
        ∙ ap (map registers) (flat_map-append word_names (take i ws) (w ∷ drop (i + 1) ws))
        ∙ map-append registers (flat_map word_names (take i ws)) (word_names w ++ flat_map word_names (drop (i + 1) ws))
        ∙ ap (λ l. front ++ l) (map-append registers (word_names w) (flat_map word_names (drop (i + 1) ws)))

    at : (w : Word) → get_or ws i d ≡ w → AllByRecursion (λ x. registers x ≡ get_or reads left 0) (word_names w)
    at (Agent s n) e = tt
    at (Name x) e =
        let place : left ≡ length front = is ∙ sym (length-map (flat_map word_names (take i ws)) registers) in
        (sym ((λ j. get_or (split (Name x) e j) (place j) 0) ∙ get_or-append_seam front (registers x) back 0), tt)

-- the agents after a place, and the register of one more
pub room-here : (ws : List Word) (i made first most : ℕ) (d : Word) → i < length ws
    → made + (i + 1) + length (flat_map word_names (drop (i + 1) ws)) ≤ length ws → first + length ws ≤ most + length (flat_map word_names ws)
    → first + made < most + length (word_names (get_or ws i d))
room-here ws i made first most d within few room =
    let all = names-split ws i in
    let here = names-here ws i d within in
    let front = names-length (take i ws) in
    let count = length-take-le i ws (omega arith) in
    omega arith

-- the same, where registers are counted that are filled
pub room-now : (ws : List Word) (i filled first most : ℕ) (d : Word) → i < length ws
    → filled + (i + 1) + length (flat_map word_names (drop (i + 1) ws)) ≤ first + length ws → first + length ws ≤ most + length (flat_map word_names ws)
    → filled < most + length (word_names (get_or ws i d))
room-now ws i filled first most d within few room =
    let all = names-split ws i in
    let here = names-here ws i d within in
    let front = names-length (take i ws) in
    let count = length-take-le i ws (omega arith) in
    omega arith

-- ---- registers of names

module _ (ns ms : List ℕ) (count : ℕ) (given others : List ℕ) (mid all : Numbers)
    (are_given : AreGiven ns count given mid) (are_fresh : AreFresh ms (count + length given) others mid all)
    (of_them : (x : ℕ) → occurrences x ms ≤ occurrences x ns) where
  abbrev listed : List ℕ
  listed = given ++ others

  listed-found : (j x : ℕ) → slice_get listed j ≡ Some x → number_in all x ≡ Some (count + j)
  listed-found j x there = at (there-either given others j x there)
    where
      at : (slice_get given j ≡ Some x) ⊎ ((i : ℕ) × (j ≡ length given + i) × (slice_get others i ≡ Some x)) → number_in all x ≡ Some (count + j)
      at (inl p) = (are_fresh.registers_are x (count + j)).1 (inl ((are_given.registers_are x (count + j)).1 (j, p, refl)))
      at (inr q) = let place = q.1 in (are_fresh.registers_are x (count + j)).1 (inr (q.0, q.2, omega arith))

  apart : (x i j : ℕ) → slice_get listed i ≡ Some x → slice_get listed j ≡ Some x → i ≡ j
  apart x i j a b =
      let same = same_Some (count + i) (count + j) (sym (listed-found i x a) ∙ listed-found j x b) in
      omega arith

  occurs : (x : ℕ) → 1 ≤ occurrences x listed → 1 ≤ occurrences x ns
  occurs x some = let w = occurs-there x listed some in at (there-either given others w.0 x w.1)
    where
      at : {j : ℕ} → (slice_get given j ≡ Some x) ⊎ ((i : ℕ) × (j ≡ length given + i) × (slice_get others i ≡ Some x)) → 1 ≤ occurrences x ns
      at {j} (inl p) = let one = (are_given.once x).1 (j, p) in omega arith
      at (inr q) = let here = ((are_fresh.others x).1 (q.0, q.2)).1 in let more = of_them x in omega arith

  below : (x : ℕ) → occurrences x listed ≤ occurrences x ns
  below x = at (occurrences x listed) refl
    where
      at : (k : ℕ) → occurrences x listed ≡ k → occurrences x listed ≤ occurrences x ns
      at zero none = omega arith
      at (suc k) some = let one = at-one-place x listed (apart x) in let there = occurs x (omega arith) in omega arith

  -- they have no more registers than there are names
  pub registers-few : length given + length others ≤ length ns
  registers-few = let few = no_longer listed ns below in omega (arith, few, length-append given others)
