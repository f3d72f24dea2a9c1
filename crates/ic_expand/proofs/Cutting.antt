-- How a text is cut into its pieces, and joined of them.
use Rattle.std.proofs.Common.{◌≡◌, ◌≢◌, ℕ, zero, suc, ◌+◌, ◌<◌, ◌&&◌, Bool, true, false, cond, List, [], ◌∷◌, ◌++◌, take, drop, length, refl, sym, ap, ◌∙◌, arith}
use Rattle.std.specs.List.{concat, list_all, prefix_len}
use Rattle.ic_expand.specs.Pieces.{first_byte, is_word, joins, pieces, with_byte}

-- ---- joined

concat-with_byte : (b : ℕ) (ps : List (List ℕ)) → concat (with_byte b ps) ≡ b ∷ concat ps
concat-with_byte b [] = refl
concat-with_byte b (p ∷ ps) = by_test (joins b && is_word p)
  where
    by_test : (t : Bool) → concat (cond t ((b ∷ p) ∷ ps) ((b ∷ []) ∷ p ∷ ps)) ≡ b ∷ (p ++ concat ps)
    by_test true = refl
    by_test false = refl

-- the pieces of a text, one after another, are the text
pub concat-pieces : (bs : List ℕ) → concat (pieces bs) ≡ bs
concat-pieces [] = refl
concat-pieces (b ∷ bs) = concat-with_byte b (pieces bs) ∙ ap (λ l. b ∷ l) (concat-pieces bs)

-- ---- cut

no_word : {A : Type 0} (t : Bool) (x y : A) → cond (t && false) x y ≡ y
no_word true x y = refl
no_word false x y = refl

-- a byte that is of no word is a piece by itself
pub lone : (b : ℕ) (ps : List (List ℕ)) → joins b ≡ false → with_byte b ps ≡ (b ∷ []) ∷ ps
lone b [] isnt = refl
lone b (p ∷ ps) isnt = rw isnt refl

-- so is a byte before what begins with no word
pub parted : (b : ℕ) (bs : List ℕ) → prefix_len joins bs ≡ 0 → with_byte b (pieces bs) ≡ (b ∷ []) ∷ pieces bs
parted b [] none = refl
parted b (c ∷ cs) none = by_byte (joins c) refl none
  where
    by_byte : (t : Bool) → joins c ≡ t → cond t (1 + prefix_len joins cs) 0 ≡ 0 → with_byte b (with_byte c (pieces cs)) ≡ (b ∷ []) ∷ with_byte c (pieces cs)
    by_byte true is some = absurd (omega (arith, some))
    by_byte false is some =
        let alone = lone c (pieces cs) is in
        let two : with_byte b ((c ∷ []) ∷ pieces cs) ≡ (b ∷ []) ∷ (c ∷ []) ∷ pieces cs =
        ap (λ (t : Bool). cond (joins b && t) ((b ∷ c ∷ []) ∷ pieces cs) ((b ∷ []) ∷ (c ∷ []) ∷ pieces cs)) is ∙ no_word (joins b) _ _ in
        ap (with_byte b) alone ∙ two ∙ ap (λ ps. (b ∷ []) ∷ ps) (sym alone)

-- a byte of words before a word
grown : (b c : ℕ) (p : List ℕ) (ps : List (List ℕ)) → joins b ≡ true → joins c ≡ true → with_byte b ((c ∷ p) ∷ ps) ≡ (b ∷ c ∷ p) ∷ ps
grown b c p ps is that = rw (is, that) refl

-- the bytes of words with which a text begins are its first piece
pub cut_run : (bs : List ℕ) (n : ℕ) → prefix_len joins bs ≡ suc n → pieces bs ≡ take (suc n) bs ∷ pieces (drop (suc n) bs)
cut_run [] n is = absurd (omega (arith, is))
cut_run (b ∷ bs) n is = by_byte (joins b) refl is (λ m some. cut_run bs m some)
  where
    with_word : (cs : List ℕ) (m : ℕ) → joins b ≡ true → prefix_len joins cs ≡ suc m → pieces cs ≡ take (suc m) cs ∷ pieces (drop (suc m) cs)
        → with_byte b (pieces cs) ≡ (b ∷ take (suc m) cs) ∷ pieces (drop (suc m) cs)
    with_word [] m one none cut = absurd (omega (arith, none))
    with_word (c ∷ cs) m one there cut = ap (with_byte b) cut ∙ grown b c (take m cs) (pieces (drop m cs)) one (begins (joins c) refl there)
      where
        begins : (t : Bool) → joins c ≡ t → cond t (1 + prefix_len joins cs) 0 ≡ suc m → joins c ≡ true
        begins true it e = it
        begins false it e = absurd (omega (arith, e))

    longer : (m : ℕ) → joins b ≡ true → prefix_len joins bs ≡ m → m ≡ n → ((k : ℕ) → prefix_len joins bs ≡ suc k → pieces bs ≡ take (suc k) bs ∷ pieces (drop (suc k) bs))
        → with_byte b (pieces bs) ≡ (b ∷ take n bs) ∷ pieces (drop n bs)
    longer zero one none same before = rw (sym same) (parted b bs none)
    longer (suc m) one some same before = rw (sym same) (with_word bs m one some (before m some))

    by_byte : (t : Bool) → joins b ≡ t → cond t (1 + prefix_len joins bs) 0 ≡ suc n → ((k : ℕ) → prefix_len joins bs ≡ suc k → pieces bs ≡ take (suc k) bs ∷ pieces (drop (suc k) bs))
        → with_byte b (pieces bs) ≡ (b ∷ take n bs) ∷ pieces (drop n bs)
    by_byte false it e before = absurd (omega (arith, e))
    by_byte true it e before = longer (prefix_len joins bs) it refl (omega (arith, e)) before

-- the same of a number of bytes
pub cut_some : (bs : List ℕ) (n : ℕ) → n ≡ prefix_len joins bs → n ≢ 0 → pieces bs ≡ take n bs ∷ pieces (drop n bs)
cut_some bs zero is other = absurd (other refl)
cut_some bs (suc n) is other = cut_run bs n (sym is)

-- ---- a piece is one byte, or bytes of words

pub lone_piece : (text : List ℕ) → 0 < length text → take 1 text ≡ first_byte (take 1 text) ∷ []
lone_piece [] some = absurd (omega (arith, some))
lone_piece (b ∷ bs) some = refl

pub run_piece : (text : List ℕ) → list_all joins (take (prefix_len joins text) text) ≡ true
run_piece [] = refl
run_piece (b ∷ bs) = by (joins b) refl (run_piece bs)
  where
    by : (t : Bool) → joins b ≡ t → list_all joins (take (prefix_len joins bs) bs) ≡ true → list_all joins (take (cond t (1 + prefix_len joins bs) 0) (b ∷ bs)) ≡ true
    by true is later = ap (λ (k : ℕ). list_all joins (take k (b ∷ bs))) (let e : 1 + prefix_len joins bs ≡ suc (prefix_len joins bs) = omega arith in e) ∙ (λ i. is i && later i)
    by false is later = refl
