-- How often a plan uses what is in registers.
use Rattle.std.proofs.Common.{◌≡◌, ℕ, zero, suc, ◌+◌, ◌*◌, ◌<◌, ◌≤◌, ◌==◌, inl, inr, List, [], ◌∷◌, ◌++◌, Bool, true, false, cond, length, refl, ap, sym, subst, ◌∙◌, append_assoc, arith, sum_by, count_by}
use Rattle.std.specs.List.{AllByRecursion, range_with_len}
use Rattle.std.proofs.Math.Nat.{zero-mul}
use Rattle.std.proofs.Math.Seq.{get_or-append_seam}
use Rattle.std.proofs.lemmas.Bool.{ne_eqb}
use Rattle.std.proofs.lemmas.Bool.Decides.{eqb_tells}
use Rattle.std.proofs.lemmas.List.{length_push}
use Rattle.std.proofs.lemmas.List.Sums.{sum_by-cons}
use Rattle.ic_arena.specs.declared.word.Word.{Word}
use Rattle.ic_arena.specs.Word.{word_eq, count}
use Rattle.ic_arena.specs.Tables.{register}

pub cond_none : (b : Bool) → ◌≡◌ {A = ℕ} (cond b 0 0) 0
cond_none true = refl
cond_none false = refl

pub sum_by_both : (f g : ℕ → ℕ) (xs : List ℕ)
    → sum_by (λ x. f x + g x) xs ≡ sum_by f xs + sum_by g xs
sum_by_both f g [] = refl
sum_by_both f g (x ∷ xs) =
    let a : sum_by (λ y. f y + g y) (x ∷ xs) ≡ (f x + g x) + sum_by (λ y. f y + g y) xs =
    sum_by-cons (λ y. f y + g y) x xs in
    let b : sum_by f (x ∷ xs) ≡ f x + sum_by f xs = sum_by-cons f x xs in
    let c : sum_by g (x ∷ xs) ≡ g x + sum_by g xs = sum_by-cons g x xs in
    let ih : sum_by (λ y. f y + g y) xs ≡ sum_by f xs + sum_by g xs = sum_by_both f g xs in
    omega arith

pub sum_by_same : (f g : ℕ → ℕ) (xs : List ℕ) → ((x : ℕ) → f x ≡ g x) → sum_by f xs ≡ sum_by g xs
sum_by_same f g [] h = refl
sum_by_same f g (x ∷ xs) h =
    let b : sum_by f (x ∷ xs) ≡ f x + sum_by f xs = sum_by-cons f x xs in
    let c : sum_by g (x ∷ xs) ≡ g x + sum_by g xs = sum_by-cons g x xs in
    let here : f x ≡ g x = h x in
    let ih : sum_by f xs ≡ sum_by g xs = sum_by_same f g xs h in
    omega arith

-- sums over numbers from b on
pub range_none : (f : ℕ → ℕ) (b n : ℕ) → ((k : ℕ) → b ≤ k → f k ≡ 0)
    → sum_by f (range_with_len b n) ≡ 0
range_none f b zero h = refl
range_none f b (suc n) h =
    let a = sum_by-cons f b (range_with_len (b + 1) n) in
    let here : f b ≡ 0 = h b (omega arith) in
    let ih : sum_by f (range_with_len (b + 1) n) ≡ 0 = range_none f (b + 1) n (λ k le. h k (omega arith)) in
    omega arith

pub range_le : (f g : ℕ → ℕ) (b n : ℕ) → ((k : ℕ) → b ≤ k → f k ≤ g k)
    → sum_by f (range_with_len b n) ≤ sum_by g (range_with_len b n)
range_le f g b zero h = omega arith
range_le f g b (suc n) h =
    let x = sum_by-cons f b (range_with_len (b + 1) n) in
    let y = sum_by-cons g b (range_with_len (b + 1) n) in
    let here : f b ≤ g b = h b (omega arith) in
    let ih : sum_by f (range_with_len (b + 1) n) ≤ sum_by g (range_with_len (b + 1) n) =
    range_le f g (b + 1) n (λ k le. h k (omega arith)) in
    omega arith

pub range_parts : (f : ℕ → ℕ) (b n m : ℕ)
    → sum_by f (range_with_len b (n + m))
    ≡ sum_by f (range_with_len b n) + sum_by f (range_with_len (b + n) m)
range_parts f b zero m =
    let e : 0 + m ≡ m = omega arith in
    let z : b + 0 ≡ b = omega arith in
    rw (e, z) (omega arith)
range_parts f b (suc n) m =
    let e : suc n + m ≡ suc (n + m) = omega arith in
    let z : b + suc n ≡ (b + 1) + n = omega arith in
    let x = sum_by-cons f b (range_with_len (b + 1) (n + m)) in
    let y = sum_by-cons f b (range_with_len (b + 1) n) in
    let ih = range_parts f (b + 1) n m in
    rw (e, z) (omega arith)

-- one number, if it passes a test
abbrev pub one_at : (ℕ → Bool) → ℕ → ℕ → ℕ
one_at p o k = cond (p k) (cond (o == k) 1 0) 0

pub other_at : (p : ℕ → Bool) (o k : ℕ) → (o ≡ k → ⊥) → one_at p o k ≡ 0
other_at p o k h = rw (ne_eqb o k h) (cond_none (p k))

pub same_at : (p : ℕ → Bool) (o k : ℕ) → o ≡ k → (o == k) ≡ true → one_at p o k ≡ cond (p o) 1 0
same_at p o k e t = rw (t, e) refl

pub picked : (p : ℕ → Bool) (o b n : ℕ) → b ≤ o → o < b + n
    → sum_by (one_at p o) (range_with_len b n) ≡ cond (p o) 1 0
picked p o b zero le lt = absurd (omega arith)
picked p o b (suc n) le lt =
    let a = sum_by-cons (one_at p o) b (range_with_len (b + 1) n) in
    elim (eqb_tells o b) [
      | inl t ↦ (let here : one_at p o b ≡ cond (p o) 1 0 = same_at p o b t.1 t.0 in
          let rest : sum_by (one_at p o) (range_with_len (b + 1) n) ≡ 0 =
          range_none (one_at p o) (b + 1) n (λ k more. other_at p o k (λ e. omega arith)) in
          omega arith)
      | inr f ↦ (let here : one_at p o b ≡ 0 = other_at p o b f.1 in
          let rest : sum_by (one_at p o) (range_with_len (b + 1) n) ≡ cond (p o) 1 0 =
          picked p o (b + 1) n (omega arith) (omega arith) in
          omega arith)
    ]

pub unpicked : (p : ℕ → Bool) (o b n : ℕ) → p o ≡ false
    → sum_by (one_at p o) (range_with_len b n) ≡ 0
unpicked p o b n fails = range_none (one_at p o) b n (λ k le. elim (eqb_tells o k) [
  | inl t ↦ same_at p o k t.1 t.0 ∙ ap (λ (v : Bool). cond v 1 0) fails
  | inr f ↦ other_at p o k f.1
])

pub first_is : (p : ℕ → Bool) (o b n : ℕ) → (p o ≡ true → (b ≤ o) × (o < b + n))
    → sum_by (one_at p o) (range_with_len b n) ≡ cond (p o) 1 0
first_is p o b n h = bool_cases (p o)
    (λ t. let there : (b ≤ o) × (o < b + n) = h t in picked p o b n there.0 there.1)
    (λ f. unpicked p o b n f ∙ sym (ap (λ (v : Bool). cond v 1 0) f))
  where
    bool_cases : {A : Type 0} (b : Bool) → (b ≡ true → A) → (b ≡ false → A) → A
    bool_cases true t f = t refl
    bool_cases false t f = f refl

pub apart_at : (p : ℕ → Bool) (o k : ℕ) (ops : List ℕ)
    → cond (p k) (count_by (λ m. m == k) (o ∷ ops)) 0
    ≡ one_at p o k + cond (p k) (count_by (λ m. m == k) ops) 0
apart_at p o k ops =
    let a : count_by (λ m. m == k) (o ∷ ops) ≡ cond (o == k) 1 0 + count_by (λ m. m == k) ops =
    sum_by-cons (λ m. cond (m == k) 1 0) o ops in
    elim (p k) as (λ v. cond v (count_by (λ m. m == k) (o ∷ ops)) 0
    ≡ cond v (cond (o == k) 1 0) 0 + cond v (count_by (λ m. m == k) ops) 0) [
      | true ↦ a
      | false ↦ refl
    ]

-- how many of a list pass a test, by how often each number stands there
pub by_number : (p : ℕ → Bool) (ops : List ℕ) (b n : ℕ)
    → AllByRecursion (λ k. p k ≡ true → (b ≤ k) × (k < b + n)) ops
    → count_by p ops
    ≡ sum_by (λ k. cond (p k) (count_by (λ m. m == k) ops) 0) (range_with_len b n)
by_number p [] b n h = sym (range_none (λ k. cond (p k) 0 0) b n (λ k le. cond_none (p k)))
by_number p (o ∷ ops) b n h =
    let a : count_by p (o ∷ ops) ≡ cond (p o) 1 0 + count_by p ops =
    sum_by-cons (λ k. cond (p k) 1 0) o ops in
    let first = first_is p o b n h.0 in
    let rest = by_number p ops b n h.1 in
    let both : sum_by (λ k. one_at p o k + cond (p k) (count_by (λ m. m == k) ops) 0) (range_with_len b n)
    ≡ sum_by (one_at p o) (range_with_len b n)
    + sum_by (λ k. cond (p k) (count_by (λ m. m == k) ops) 0) (range_with_len b n) =
    sum_by_both (one_at p o) (λ k. cond (p k) (count_by (λ m. m == k) ops) 0) (range_with_len b n) in
    let split : sum_by (λ k. cond (p k) (count_by (λ m. m == k) (o ∷ ops)) 0) (range_with_len b n)
    ≡ sum_by (λ k. one_at p o k + cond (p k) (count_by (λ m. m == k) ops) 0) (range_with_len b n) =
    sum_by_same (λ k. cond (p k) (count_by (λ m. m == k) (o ∷ ops)) 0)
    (λ k. one_at p o k + cond (p k) (count_by (λ m. m == k) ops) 0) (range_with_len b n)
    (λ k. apart_at p o k ops) in
    omega arith

-- how many of a list pass a test, where each number stands there at most so often
pub at_most : (p : ℕ → Bool) (a : ℕ → ℕ) (ops : List ℕ) (b n : ℕ)
    → AllByRecursion (λ k. p k ≡ true → (b ≤ k) × (k < b + n)) ops
    → ((k : ℕ) → b ≤ k → count_by (λ m. m == k) ops ≤ a k)
    → count_by p ops ≤ sum_by (λ k. cond (p k) (a k) 0) (range_with_len b n)
at_most p a ops b n within few =
    let e = by_number p ops b n within in
    let l : sum_by (λ k. cond (p k) (count_by (λ m. m == k) ops) 0) (range_with_len b n)
    ≤ sum_by (λ k. cond (p k) (a k) 0) (range_with_len b n) =
    range_le (λ k. cond (p k) (count_by (λ m. m == k) ops) 0) (λ k. cond (p k) (a k) 0) b n
    (λ k le. let h : count_by (λ m. m == k) ops ≤ a k = few k le in
    elim (p k) as (λ v. cond v (count_by (λ m. m == k) ops) 0 ≤ cond v (a k) 0) [
      | true ↦ h
      | false ↦ omega arith
    ]) in
    omega arith

pub times : (b : Bool) (n c : ℕ) → (cond b 1 0 + n) * c ≡ cond b c 0 + n * c
times true n c = omega arith
times false n c = omega arith

-- the registers of one part, which all may be used as often
pub part_sum : (w : Word) (before part later : List Word) (a : ℕ → ℕ) (c b : ℕ) → b ≡ length before
    → ((k : ℕ) → b ≤ k → k < b + length part → a k ≡ c)
    → sum_by (λ k. cond (word_eq w (register (before ++ (part ++ later)) k)) (a k) 0)
    (range_with_len b (length part))
    ≡ count w part * c
part_sum w before [] later a c b e h = sym (zero-mul c)
part_sum w before (x ∷ part) later a c b e h =
    let f : ℕ → ℕ = λ k. cond (word_eq w (register (before ++ (x ∷ (part ++ later))) k)) (a k) 0 in
    let g : ℕ → ℕ = λ k. cond (word_eq w (register ((before ++ x ∷ []) ++ (part ++ later)) k)) (a k) 0 in
    let s = sum_by-cons f b (range_with_len (b + 1) (length part)) in
    let at : register (before ++ (x ∷ (part ++ later))) b ≡ x =
    subst (λ (k : ℕ). register (before ++ (x ∷ (part ++ later))) k ≡ x) (sym e)
    (get_or-append_seam before x (part ++ later) _) in
    let here : f b ≡ cond (word_eq w x) c 0 =
    ap (λ (v : Word). cond (word_eq w v) (a b) 0) at
    ∙ ap (λ (y : ℕ). cond (word_eq w x) y 0) (h b (omega arith) (omega arith)) in
    let longer : b + 1 ≡ length (before ++ x ∷ []) = omega (arith, length_push before x) in
    let ih : sum_by g (range_with_len (b + 1) (length part)) ≡ count w part * c =
    part_sum w (before ++ x ∷ []) part later a c (b + 1) longer (λ k le lt. h k (omega arith) (omega arith)) in
    let same : sum_by f (range_with_len (b + 1) (length part)) ≡ sum_by g (range_with_len (b + 1) (length part)) =
    ap (λ (l : List Word). sum_by (λ k. cond (word_eq w (register l k)) (a k) 0) (range_with_len (b + 1) (length part)))
    (sym (append_assoc before (x ∷ []) (part ++ later))) in
    let counted : count w (x ∷ part) ≡ cond (word_eq w x) 1 0 + count w part =
    sum_by-cons (λ v. cond (word_eq w v) 1 0) x part in
    s ∙ (rw (here, same, ih, counted) (sym (times (word_eq w x) (count w part) c)))
