-- What stands ahead in a text: lists of it, and how they are found from the last byte on.
use Rattle.std.proofs.Common.{◌≡◌, ℕ, zero, suc, ◌+◌, ◌-◌, ◌<◌, ◌≤◌, ◌==◌, ◌&&◌, ◌⊎◌, Bool, true, false, cond, List, [], ◌∷◌, ◌++◌, take, drop, get_or, length, length-append, refl, sym, ap, ap₂, ◌∙◌, inl, inr, arith}
use Rattle.std.specs.List.{list_all, position}
use Rattle.std.specs.Str.{bytes_eq}
use Rattle.std.proofs.lemmas.Bool.{eqb-true, and_parts}
use Rattle.std.proofs.lemmas.Bool.Decides.{nat_tests}
use Rattle.ic_text.specs.Token.{is_blank}
use Rattle.ic_expand.specs.Pieces.{first_byte, joins}
use Rattle.ic_expand.specs.Reading.{arguments, beyond, commas, leading_word, partner}
use Rattle.ic_expand.specs.inner.Ahead.{arguments_by, counts_of, levels, marks, side, sides_of}
use Rattle.ic_expand.specs.inner.Given.{last_side}

-- ---- the last of a list

module _ {X : Type 0} where
  take_all : (xs ys : List X) → take (length xs) (xs ++ ys) ≡ xs
  take_all [] ys = refl
  take_all (x ∷ xs) ys = ap (λ l. x ∷ l) (take_all xs ys)

  get_after : (xs : List X) (x d : X) → get_or (xs ++ x ∷ []) (length xs) d ≡ x
  get_after [] x d = refl
  get_after (y ∷ xs) x d = get_after xs x d

  one_less : (xs : List X) (x : X) → length (xs ++ x ∷ []) - 1 ≡ length xs
  one_less xs x = ap (λ (n : ℕ). n - 1) (length-append xs (x ∷ [])) ∙ (let e : length xs + 1 - 1 ≡ length xs = omega arith in e)

  pub take_front : (xs : List X) (x : X) → take (length (xs ++ x ∷ []) - 1) (xs ++ x ∷ []) ≡ xs
  take_front xs x = ap (λ (n : ℕ). take n (xs ++ x ∷ [])) (one_less xs x) ∙ take_all xs (x ∷ [])

  pub get_last : (xs : List X) (x d : X) → get_or (xs ++ x ∷ []) (length (xs ++ x ∷ []) - 1) d ≡ x
  get_last xs x d = ap (λ (n : ℕ). get_or (xs ++ x ∷ []) n d) (one_less xs x) ∙ get_after xs x d

-- ---- marks

abbrev pub less : {X : Type 0} → Bool → List X → List X
less t xs = cond t (take (length xs - 1) xs) xs

module _ {X : Type 0} (mark : ℕ) (f : List ℕ → X) where
  -- what is said of the first mark
  first_mark : (d : X) (g : List ℕ → X) → g [] ≡ d → ((b : ℕ) (bs : List ℕ) → g (b ∷ bs) ≡ cond (b == mark) (f bs) (g bs)) → (text : List ℕ)
      → get_or (marks mark f text) (length (marks mark f text) - 1) d ≡ g text
  first_mark d g none more [] = sym none
  first_mark d g none more (b ∷ bs) = by (b == mark) (first_mark d g none more bs) ∙ sym (more b bs)
    where
      by : (t : Bool) → get_or (marks mark f bs) (length (marks mark f bs) - 1) d ≡ g bs
          → get_or (cond t (marks mark f bs ++ f bs ∷ []) (marks mark f bs)) (length (cond t (marks mark f bs ++ f bs ∷ []) (marks mark f bs)) - 1) d ≡ cond t (f bs) (g bs)
      by true later = get_last (marks mark f bs) (f bs) d
      by false later = later

  module _ (apart : joins mark ≡ false) (other : (0 == mark) ≡ false) where
    not_mark : (b : ℕ) → joins b ≡ true → (t : Bool) → (b == mark) ≡ t → t ≡ false
    not_mark b is true e = sym (sym apart ∙ sym (ap joins (eqb-true b mark e)) ∙ is)
    not_mark b is false e = refl

    run_kept : (p more : List ℕ) → list_all joins p ≡ true → marks mark f (p ++ more) ≡ marks mark f more
    run_kept [] more all = refl
    run_kept (b ∷ p) more all =
        let parts = and_parts (joins b) (list_all joins p) all in
        ap (λ t. cond t (marks mark f (p ++ more) ++ f (p ++ more) ∷ []) (marks mark f (p ++ more))) (not_mark b parts.0 (b == mark) refl) ∙ run_kept p more parts.1

    run_first : (p : List ℕ) → list_all joins p ≡ true → (first_byte p == mark) ≡ false
    run_first [] all = other
    run_first (b ∷ p) all = not_mark b (and_parts (joins b) (list_all joins p) all).0 (b == mark) refl

    lone : (b : ℕ) (more : List ℕ) → less (b == mark) (marks mark f (b ∷ more)) ≡ marks mark f more
    lone b more = by (b == mark)
      where
        by : (t : Bool) → less t (cond t (marks mark f more ++ f more ∷ []) (marks mark f more)) ≡ marks mark f more
        by true = take_front (marks mark f more) (f more)
        by false = refl

    -- what is left after a piece
    pub passed : (p more rest : List ℕ) → rest ≡ p ++ more → (p ≡ first_byte p ∷ []) ⊎ (list_all joins p ≡ true)
        → less (first_byte p == mark) (marks mark f rest) ≡ marks mark f more
    passed p more rest whole (inl one) =
        ap (λ l. less (first_byte p == mark) (marks mark f l)) (whole ∙ ap (λ l. l ++ more) one) ∙ lone (first_byte p) more
    passed p more rest whole (inr run) =
        ap (λ t. less t (marks mark f rest)) (run_first p run) ∙ ap (marks mark f) whole ∙ run_kept p more run

-- ---- commas

get_more : (l : List ℕ) (d : ℕ) → get_or (drop 1 l) d 0 ≡ get_or l (suc d) 0
get_more [] d = refl
get_more (n ∷ l) d = refl

commas_at : (bs : List ℕ) (d : ℕ) → get_or (levels bs) d 0 ≡ commas d bs
commas_at [] d = refl
commas_at (b ∷ bs) d = by (b == 40) (b == 41) (b == 44) d (commas_at bs)
  where
    apart : (d : ℕ) → (suc d == 0) ≡ false
    apart d = grind (arith, nat_tests)

    by : (opens shuts comma : Bool) (d : ℕ) → ((e : ℕ) → get_or (levels bs) e 0 ≡ commas e bs)
        → get_or (cond opens (drop 1 (levels bs)) (cond shuts (0 ∷ levels bs) (cond comma ((1 + get_or (levels bs) 0 0) ∷ drop 1 (levels bs)) (levels bs)))) d 0
        ≡ cond opens (commas (d + 1) bs) (cond shuts (cond (d == 0) 0 (commas (d - 1) bs)) (cond (comma && (d == 0)) (1 + commas d bs) (commas d bs)))
    by true shuts comma d before = get_more (levels bs) d ∙ before (suc d) ∙ (let e : suc d ≡ d + 1 = omega arith in ap (λ n. commas n bs) e)
    by false true comma zero before = refl
    by false true comma (suc d) before = before d ∙ sym (ap₂ (λ t n. cond t 0 (commas n bs)) (apart d) (let e : suc d - 1 ≡ d = omega arith in e))
    by false false true zero before = ap (λ n. 1 + n) (before 0)
    by false false true (suc d) before = get_more (levels bs) d ∙ before (suc d) ∙ sym (ap (λ t. cond (true && t) (1 + commas (suc d) bs) (commas (suc d) bs)) (apart d))
    by false false false d before = before d

commas_few : (bs : List ℕ) (d : ℕ) → commas d bs ≤ length bs
commas_few [] d = omega arith
commas_few (b ∷ bs) d = by (b == 40) (b == 41) (b == 44 && d == 0) (d == 0) (commas_few bs)
  where
    by : (opens shuts comma out : Bool) → ((e : ℕ) → commas e bs ≤ length bs)
        → cond opens (commas (d + 1) bs) (cond shuts (cond out 0 (commas (d - 1) bs)) (cond comma (1 + commas d bs) (commas d bs))) ≤ suc (length bs)
    by true shuts comma out before = let h = before (d + 1) in omega (arith, h)
    by false true comma true before = omega arith
    by false true comma false before = let h = before (d - 1) in omega (arith, h)
    by false false true out before = let h = before d in omega (arith, h)
    by false false false out before = let h = before d in omega (arith, h)

-- in the innermost parenthesis
pub inmost : (bs : List ℕ) → get_or (levels bs) 0 0 ≡ commas 0 bs
inmost bs = commas_at bs 0

pub inmost_few : (bs : List ℕ) → get_or (levels bs) 0 0 ≤ length bs
inmost_few bs = let h = commas_few bs 0 in let e = inmost bs in omega (arith, h, e)

abbrev pub first_count : List ℕ → ℕ
first_count text = get_or (counts_of text) (length (counts_of text) - 1) 0

abbrev count_after : List ℕ → ℕ
count_after [] = 0
count_after (b ∷ bs) = cond (b == 40) (commas 0 bs) (count_after bs)

first_is : (text : List ℕ) → first_count text ≡ count_after text
first_is text = first_mark 40 (commas 0) 0 count_after refl (λ b bs. refl) text

after_few : (text : List ℕ) → count_after text ≤ length text
after_few [] = omega arith
after_few (b ∷ bs) = by (b == 40) (after_few bs)
  where
    by : (t : Bool) → count_after bs ≤ length bs → cond t (commas 0 bs) (count_after bs) ≤ suc (length bs)
    by true later = let h = commas_few bs 0 in omega (arith, h)
    by false later = omega (arith, later)

pub first_few : (text : List ℕ) → first_count text ≤ length text
first_few text = let h = after_few text in let e = first_is text in omega (arith, h, e)

blank_opens : (b : ℕ) → is_blank b ≡ true → (t : Bool) → (b == 40) ≡ t → t ≡ false
blank_opens b is true e = sym (sym (ap is_blank (eqb-true b 40 e)) ∙ is)
blank_opens b is false e = refl

-- the number of arguments by the commas of the first parenthesis
by_count : (text : List ℕ) → arguments_by (count_after text) text ≡ arguments text
by_count [] = refl
by_count (b ∷ bs) = by (is_blank b) refl (by_count bs)
  where
    opens : (t : Bool) → cond t (1 + cond t (commas 0 bs) (count_after bs)) 0 ≡ cond t (1 + commas 0 bs) 0
    opens true = refl
    opens false = refl

    by : (t : Bool) → is_blank b ≡ t → arguments_by (count_after bs) bs ≡ arguments bs
        → cond t (arguments_by (cond (b == 40) (commas 0 bs) (count_after bs)) bs) (cond (b == 40) (1 + cond (b == 40) (commas 0 bs) (count_after bs)) 0)
        ≡ cond t (arguments bs) (cond (b == 40) (1 + commas 0 bs) 0)
    by true is later = ap (λ (t : Bool). arguments_by (cond t (commas 0 bs) (count_after bs)) bs) (blank_opens b is (b == 40) refl) ∙ later
    by false is later = opens (b == 40)

pub arguments_are : (text : List ℕ) → arguments_by (first_count text) text ≡ arguments text
arguments_are text = ap (λ n. arguments_by n text) (first_is text) ∙ by_count text

-- ---- one byte more, from the last on

tail_at : (text : List ℕ) (j : ℕ) → j < length text → drop j text ≡ get_or text j 0 ∷ drop (suc j) text
tail_at [] j within = absurd (omega (arith, within))
tail_at (b ∷ text) zero within = refl
tail_at (b ∷ text) (suc j) within = tail_at text j (omega (arith, within))

pub tail_back : (text : List ℕ) (i : ℕ) → 0 < i → i ≤ length text → drop (i - 1) text ≡ get_or text (i - 1) 0 ∷ drop i text
tail_back text zero some within = absurd (omega (arith, some))
tail_back text (suc j) some within = let e : suc j - 1 ≡ j = omega arith in rw e (tail_at text j (omega (arith, within)))

pub tail_end : (text : List ℕ) → drop (length text) text ≡ []
tail_end [] = refl
tail_end (b ∷ text) = tail_end text

pub tail_few : (i : ℕ) (text : List ℕ) → length (drop i text) ≤ length text
tail_few zero text = omega arith
tail_few (suc i) [] = omega arith
tail_few (suc i) (b ∷ text) = let h = tail_few i text in omega (arith, h)

take_long : (xs : List ℕ) (n : ℕ) → length xs ≤ n → take n xs ≡ xs
take_long [] zero short = refl
take_long [] (suc n) short = refl
take_long (x ∷ xs) zero short = absurd (omega (arith, short))
take_long (x ∷ xs) (suc n) short = ap (λ l. x ∷ l) (take_long xs n (omega (arith, short)))

tail_length : (i : ℕ) (text : List ℕ) → length (drop i text) ≤ length text - i
tail_length zero text = omega arith
tail_length (suc i) [] = omega arith
tail_length (suc i) (b ∷ text) = let h = tail_length i text in omega (arith, h)

pub tail_whole : (i : ℕ) (text : List ℕ) → take (length text - i) (drop i text) ≡ drop i text
tail_whole i text = take_long (drop i text) (length text - i) (tail_length i text)

-- ---- sides

pub side_more : (known : List (List ℕ)) (b : ℕ) (bs : List ℕ) → side known (b ∷ bs) ≡ cond (b == 60) (position (bytes_eq (leading_word bs)) known) (side known bs)
side_more known b bs = by (b == 60)
  where
    by : (t : Bool) → position (bytes_eq (leading_word (cond t bs (beyond 60 bs)))) known ≡ cond t (position (bytes_eq (leading_word bs)) known) (side known bs)
    by true = refl
    by false = refl

pub last_side_is : (known : List (List ℕ)) (text : List ℕ) → last_side known (sides_of known text) ≡ position (bytes_eq (partner text)) known
last_side_is known text = first_mark 62 (side known) (position (bytes_eq []) known) (λ t. side known (beyond 62 t)) refl more text
  where
    more : (b : ℕ) (bs : List ℕ) → side known (beyond 62 (b ∷ bs)) ≡ cond (b == 62) (side known bs) (side known (beyond 62 bs))
    more b bs = by (b == 62)
      where
        by : (t : Bool) → side known (cond t bs (beyond 62 bs)) ≡ cond t (side known bs) (side known (beyond 62 bs))
        by true = refl
        by false = refl
