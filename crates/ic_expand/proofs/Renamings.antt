-- Names are written one to one.
use Rattle.std.proofs.Common.{◌≡◌, ℕ, zero, suc, ◌+◌, ◌<◌, ◌==◌, ◌||◌, Bool, true, false, not, cond, List, [], ◌∷◌, ◌++◌, length, get_or, nat_lt, Option, None, Some, refl, sym, ap, ◌∙◌, arith}
use Rattle.std.specs.List.{AllByRecursion, fold, list_any, position, position_or_len}
use Rattle.std.specs.Str.{bytes_eq}
use Rattle.std.proofs.lemmas.Bool.{and_parts, false≢true, or_left, or_right}
use Rattle.std.proofs.lemmas.Bool.Decides.{nat_tests}
use Rattle.std.proofs.lemmas.List.Folds.{list_any-append}
use Rattle.std.proofs.lemmas.List.Quantifiers.{position-Some}
use Rattle.std.proofs.lemmas.Slice.Eq.{bytes_eq-Decides}
use Rattle.ic_text.specs.Name.{is_name, name_number, name_text}
use Rattle.ic_text.specs.lemmas.NameLemmas.{is_name-name_text, name_number-name_text}
use Rattle.ic_expand.specs.declared.names.Spelling.{Spelling}
use Rattle.ic_expand.specs.declared.names.Spelling.TheVariants.{Short, Long}
use Rattle.ic_expand.specs.declared.spot.Spot.{Spot}
use Rattle.ic_expand.specs.declared.spot.Spot.TheVariants.{Elsewhere, Opening}
use Rattle.ic_expand.specs.Spots.{after}
use Rattle.ic_expand.specs.Names.{AreApart, IsRenaming, is_among, is_named, is_rich_name, is_spelt, names, names_of, spare_of, told_at, told_word, with_word}
use Rattle.ic_expand.proofs.Spares.{spare_free, spare_placed, spares_suffice}

-- ---- lists of words

each_at : (P : List ℕ → Type 0) (ws : List (List ℕ)) (k : ℕ) → AllByRecursion P ws → k < length ws → P (get_or ws k [])
each_at P [] k all less = absurd (omega (arith, less))
each_at P (w ∷ ws) zero all less = all.0
each_at P (w ∷ ws) (suc k) all less = each_at P ws k all.1 (omega (arith, less))

each_append : (P : List ℕ → Type 0) (vs ws : List (List ℕ)) → AllByRecursion P vs → AllByRecursion P ws → AllByRecursion P (vs ++ ws)
each_append P [] ws one other = other
each_append P (v ∷ vs) ws one other = (one.0, each_append P vs ws one.1 other)

each_kept : (P Q : List ℕ → Type 0) (ws : List (List ℕ)) → ((w : List ℕ) → P w → Q w) → AllByRecursion P ws → AllByRecursion Q ws
each_kept P Q [] to all = tt
each_kept P Q (w ∷ ws) to all = (to w all.0, each_kept P Q ws to all.1)

-- each word of a list is one of the list
abbrev Among : List (List ℕ) → List (List ℕ) → Type 0
Among all ws = AllByRecursion (λ w. is_among w all ≡ true) ws

itself : (w : List ℕ) → bytes_eq w w ≡ true
itself w = (bytes_eq-Decides w w).1 refl

among_more : (v : List ℕ) (all ws : List (List ℕ)) → Among all ws → Among (v ∷ all) ws
among_more v all [] a = tt
among_more v all (w ∷ ws) a = (or_right (bytes_eq w v) (is_among w all) a.0, among_more v all ws a.1)

among_self : (ws : List (List ℕ)) → Among ws ws
among_self [] = tt
among_self (w ∷ ws) = (or_left (bytes_eq w w) (is_among w ws) (itself w), among_more w ws ws (among_self ws))

-- a word that is one of a list has a place there
placed : (p : List ℕ → Bool) (ws : List (List ℕ)) → list_any p ws ≡ true → position_or_len p ws < length ws
placed p [] any = absurd (false≢true any)
placed p (w ∷ ws) any = by_test (p w) refl any (λ later. placed p ws later)
  where
    by_test : (b : Bool) → p w ≡ b → (b || list_any p ws) ≡ true → (list_any p ws ≡ true → position_or_len p ws < length ws)
        → cond (not b) (1 + position_or_len p ws) 0 < suc (length ws)
    by_test true is any later = omega arith
    by_test false is any later = omega (arith, later any)

place_some : (p : List ℕ → Bool) (ws : List (List ℕ)) → position_or_len p ws < length ws → position p ws ≡ Some (position_or_len p ws)
place_some p ws less = chosen (position_or_len p ws) (length ws) less
  where
    chosen : (m n : ℕ) → m < n → cond (nat_lt m n) (Some m) None ≡ Some m
    chosen m n h = grind (arith, nat_tests)

-- ---- what a name is written as

module _ (shorts longs : List (List ℕ)) (are_short : AllByRecursion (λ w. is_name w ≡ true) shorts) (are_long : AllByRecursion (λ w. is_name w ≡ false) longs) where
  abbrev spare : List ℕ
  spare = spare_of shorts longs

  abbrev pub told : List ℕ → List ℕ
  told w = told_word longs spare w

  -- the name of the text that is written so
  abbrev back : List ℕ → List ℕ
  back w = cond (is_among w shorts) w (get_or longs (position_or_len (λ m. name_number w == m) spare) [])

  -- the word at a place of the long names
  at_place : (w : List ℕ) (k : ℕ) → position (bytes_eq w) longs ≡ Some k → (k < length longs) × (w ≡ get_or longs k [])
  at_place w k is = let at = position-Some (bytes_eq w) longs k [] is in (at.0, (bytes_eq-Decides w (get_or longs k [])).0 at.1)

  -- a name of the calculus stays
  kept : (w : List ℕ) → is_name w ≡ true → told w ≡ w
  kept w is = by_place (position (bytes_eq w) longs) refl
    where
      by_place : (o : Option ℕ) → position (bytes_eq w) longs ≡ o → told_at spare w o ≡ w
      by_place None none = refl
      by_place (Some k) some =
          let at = at_place w k some in
          absurd (false≢true (sym (ap is_name at.1 ∙ each_at (λ v. is_name v ≡ false) longs k are_long at.0) ∙ is))

  back_short : (w : List ℕ) → is_name w ≡ true → is_among w shorts ≡ true → back (told w) ≡ w
  back_short w is there = ap back (kept w is) ∙ ap (λ (b : Bool). cond b w (get_or longs (position_or_len (λ m. name_number w == m) spare) [])) there

  -- a long name is written as the name with the spare number at its place
  long_is : (w : List ℕ) → is_among w longs ≡ true → told w ≡ name_text (get_or spare (position_or_len (bytes_eq w) longs) 0)
  long_is w there = ap (told_at spare w) (place_some (bytes_eq w) longs (placed (bytes_eq w) longs there))

  back_long : (w : List ℕ) → is_among w longs ≡ true → back (told w) ≡ w
  back_long w there =
      let k = position_or_len (bytes_eq w) longs in
      let less : k < length longs = placed (bytes_eq w) longs there in
      let fits : k < length spare = omega (arith, less, spares_suffice shorts longs) in
      let n = get_or spare k 0 in
      let at = at_place w k (place_some (bytes_eq w) longs less) in
      ap back (long_is w there)
      ∙ ap (λ (b : Bool). cond b (name_text n) (get_or longs (position_or_len (λ m. name_number (name_text n) == m) spare) [])) (spare_free shorts (length shorts + length longs) k fits)
      ∙ ap (λ (j : ℕ). get_or longs (position_or_len (λ m. j == m) spare) []) (name_number-name_text n)
      ∙ ap (λ (j : ℕ). get_or longs j []) (spare_placed shorts (length shorts + length longs) k fits)
      ∙ sym at.1

  -- each name is found again
  undone : AllByRecursion (λ w. back (told w) ≡ w) (shorts ++ longs)
  undone =
      each_append (λ w. back (told w) ≡ w) shorts longs
      (each_short shorts are_short (among_self shorts)) (each_kept (λ w. is_among w longs ≡ true) (λ w. back (told w) ≡ w) longs back_long (among_self longs))
    where
      each_short : (ws : List (List ℕ)) → AllByRecursion (λ w. is_name w ≡ true) ws → Among shorts ws → AllByRecursion (λ w. back (told w) ≡ w) ws
      each_short [] are there = tt
      each_short (w ∷ ws) are there = (back_short w are.0 there.0, each_short ws are.1 there.1)

  -- different names stay different
  stay_apart : AreApart told (shorts ++ longs)
  stay_apart = each (shorts ++ longs) undone
    where
      inner : (v : List ℕ) → back (told v) ≡ v → (ws : List (List ℕ)) → AllByRecursion (λ w. back (told w) ≡ w) ws → AllByRecursion (λ w. told v ≡ told w → v ≡ w) ws
      inner v of [] us = tt
      inner v of (w ∷ ws) us = ((λ e. sym of ∙ ap back e ∙ us.0), inner v of ws us.1)

      each : (vs : List (List ℕ)) → AllByRecursion (λ w. back (told w) ≡ w) vs → AllByRecursion (λ v. AllByRecursion (λ w. told v ≡ told w → v ≡ w) (shorts ++ longs)) vs
      each [] us = tt
      each (v ∷ vs) us = (inner v us.0 (shorts ++ longs) undone, each vs us.1)

  become_names : AllByRecursion (λ w. is_name (told w) ≡ true) (shorts ++ longs)
  become_names =
      each_append (λ w. is_name (told w) ≡ true) shorts longs
      (each_kept (λ w. is_name w ≡ true) (λ w. is_name (told w) ≡ true) shorts (λ w is. ap is_name (kept w is) ∙ is) are_short)
      (each_kept (λ w. is_among w longs ≡ true) (λ w. is_name (told w) ≡ true) longs
      (λ w there. ap is_name (long_is w there) ∙ is_name-name_text (get_or spare (position_or_len (bytes_eq w) longs) 0)) (among_self longs))

  pub renames : IsRenaming told (shorts ++ longs)
  renames = record { apart = stay_apart; told = become_names; kept = kept }

-- ---- the names of a text

all_spelt : (spelling : Spelling) (spot : Spot) (ps : List (List ℕ)) → AllByRecursion (λ w. is_spelt spelling w ≡ true) (names spelling spot ps)
all_spelt spelling spot [] = tt
all_spelt spelling spot (p ∷ ps) = by_test (is_named spelling spot p) refl (all_spelt spelling (after spot p) ps)
  where
    spelt : (s : Spot) → is_named spelling s p ≡ true → is_spelt spelling p ≡ true
    spelt Opening is = absurd (false≢true is)
    spelt _ is = is

    by_test : (b : Bool) → is_named spelling spot p ≡ b → AllByRecursion (λ w. is_spelt spelling w ≡ true) (names spelling (after spot p) ps)
        → AllByRecursion (λ w. is_spelt spelling w ≡ true) (cond b (p ∷ names spelling (after spot p) ps) (names spelling (after spot p) ps))
    by_test true is rest = (spelt spot is, rest)
    by_test false is rest = rest

-- what holds of each word holds of those that are noted
noted_each : (P : List ℕ → Type 0) (ws vs : List (List ℕ)) → AllByRecursion P ws → AllByRecursion P vs → AllByRecursion P (fold with_word ws vs)
noted_each P ws [] old new = old
noted_each P ws (v ∷ vs) old new = noted_each P (with_word ws v) vs (by_test (is_among v ws)) new.1
  where
    by_test : (b : Bool) → AllByRecursion P (cond b ws (ws ++ v ∷ []))
    by_test true = old
    by_test false = each_append P ws (v ∷ []) old (new.0, tt)

pub names_spelt : (spelling : Spelling) (ps : List (List ℕ)) → AllByRecursion (λ w. is_spelt spelling w ≡ true) (names_of spelling ps)
names_spelt spelling ps = noted_each (λ w. is_spelt spelling w ≡ true) [] (names spelling Elsewhere ps) tt (all_spelt spelling Elsewhere ps)

not_name : (w : List ℕ) → is_spelt Long w ≡ true → is_name w ≡ false
not_name w is = back_from (is_name w) (and_parts (is_rich_name w) (not (is_name w)) is).1
  where
    back_from : (b : Bool) → not b ≡ true → b ≡ false
    back_from false e = refl
    back_from true e = sym e

-- the names of a text are written one to one
pub text_renames : (ps : List (List ℕ)) → IsRenaming (told_word (names_of Long ps) (spare_of (names_of Short ps) (names_of Long ps))) (names_of Short ps ++ names_of Long ps)
text_renames ps =
    renames (names_of Short ps) (names_of Long ps) (names_spelt Short ps)
    (each_kept (λ w. is_spelt Long w ≡ true) (λ w. is_name w ≡ false) (names_of Long ps) not_name (names_spelt Long ps))

-- ---- no name is left out

still_there : (w : List ℕ) (ws vs : List (List ℕ)) → is_among w ws ≡ true → is_among w (fold with_word ws vs) ≡ true
still_there w ws [] there = there
still_there w ws (v ∷ vs) there = still_there w (with_word ws v) vs (by_test (is_among v ws))
  where
    by_test : (b : Bool) → is_among w (cond b ws (ws ++ v ∷ [])) ≡ true
    by_test true = there
    by_test false = list_any-append (bytes_eq w) ws (v ∷ []) ∙ or_left (is_among w ws) (is_among w (v ∷ [])) there

noted_there : (w : List ℕ) (ws vs : List (List ℕ)) → is_among w vs ≡ true → is_among w (fold with_word ws vs) ≡ true
noted_there w ws [] there = absurd (false≢true there)
noted_there w ws (v ∷ vs) there = by_word (bytes_eq w v) refl there (λ any. noted_there w (with_word ws v) vs any)
  where
    added : bytes_eq w v ≡ true → (b : Bool) → is_among v ws ≡ b → is_among w (cond b ws (ws ++ v ∷ [])) ≡ true
    added same true is = ap (λ (u : List ℕ). is_among u ws) ((bytes_eq-Decides w v).0 same) ∙ is
    added same false is = list_any-append (bytes_eq w) ws (v ∷ []) ∙ or_right (is_among w ws) (is_among w (v ∷ [])) (or_left (bytes_eq w v) false same)

    by_word : (b : Bool) → bytes_eq w v ≡ b → (b || is_among w vs) ≡ true → (is_among w vs ≡ true → is_among w (fold with_word (with_word ws v) vs) ≡ true)
        → is_among w (fold with_word (with_word ws v) vs) ≡ true
    by_word true same any later = still_there w (with_word ws v) vs (added same (is_among v ws) refl)
    by_word false other any later = later any

pub each_noted : (spelling : Spelling) (ps : List (List ℕ)) (w : List ℕ) → is_among w (names spelling Elsewhere ps) ≡ true → is_among w (names_of spelling ps) ≡ true
each_noted spelling ps w there = noted_there w [] (names spelling Elsewhere ps) there
