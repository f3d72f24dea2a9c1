-- Lemmas: so many names exchanged for others, one by one.
use Rattle.std.proofs.Common.{◌≡◌, ◌⊎◌, ℕ, zero, suc, ◌<◌, ◌==◌, Bool, true, false, Option, None, Some, cond, refl, sym, ap, ◌∙◌, arith, inl, inr, subst as transport}
use Rattle.std.proofs.lemmas.Bool.{cases_lt}
use Rattle.std.specs.Cmp.{unsigned_Decides}

-- the place of a number among the first so many of these
pub found : (ℕ → ℕ) → ℕ → ℕ → Option ℕ
found u zero n = None
found u (suc m) n = cond (u m == n) (Some m) (found u m n)

found_here : (u : ℕ → ℕ) (m n k : ℕ) (b : Bool) → (u m == n) ≡ b → cond b (Some m) (found u m n) ≡ Some k
    → (found u m n ≡ Some k → (k < m) × (u k ≡ n)) → (k < suc m) × (u k ≡ n)
found_here u m n k true e f rest = let same : m ≡ k = cc in (omega (arith, same), ap u (sym same) ∙ (unsigned_Decides (u m) n).0 e)
found_here u m n k false e f rest = let later = rest f in (omega (arith, later.0), later.1)

pub found_some : (u : ℕ → ℕ) (m n k : ℕ) → found u m n ≡ Some k → (k < m) × (u k ≡ n)
unfolding found
found_some u zero n k e = cc
found_some u (suc m) n k e = found_here u m n k (u m == n) refl e (found_some u m n k)

below_or_last : (i j : ℕ) → i < suc j → (i < j) ⊎ (i ≡ j)
below_or_last i j low = elim (cases_lt i j) [ inl less ↦ inl less | inr more ↦ inr (omega (arith, low, more)) ]

not_here : (u : ℕ → ℕ) (m n k : ℕ) (b : Bool) → (u m == n) ≡ b → cond b (Some m) (found u m n) ≡ None → u k ≡ n → (k < m) ⊎ (k ≡ m)
    → (found u m n ≡ None → k < m → ⊥) → ⊥
not_here u m n k true e f same place rest = cc
not_here u m n k false e f same (inl low) rest = rest f low
not_here u m n k false e f same (inr last) rest =
    let yes = (unsigned_Decides (u m) n).1 (ap u (sym last) ∙ same) in
    let bad : true ≡ false = sym yes ∙ e in cc

pub found_none : (u : ℕ → ℕ) (m n k : ℕ) → found u m n ≡ None → k < m → u k ≡ n → ⊥
unfolding found
found_none u zero n k e low same = omega (arith, low)
found_none u (suc m) n k e low same = not_here u m n k (u m == n) refl e same (below_or_last k m low) (λ f less. found_none u m n k f less same)

-- no two of the first so many are one
abbrev pub Apart : ℕ → (ℕ → ℕ) → Type 0
Apart m u = (j k : ℕ) → j < m → k < m → u j ≡ u k → j ≡ k

-- none of the first so many of these is one of those
abbrev pub Disjoint : ℕ → (ℕ → ℕ) → (ℕ → ℕ) → Type 0
Disjoint m u v = (j k : ℕ) → j < m → k < m → u j ≡ v k → ⊥

pub found_at : (u : ℕ → ℕ) (m k : ℕ) → Apart m u → k < m → found u m (u k) ≡ Some k
found_at u m k apart low = at (found u m (u k)) refl
  where
    at : (o : Option ℕ) → found u m (u k) ≡ o → found u m (u k) ≡ Some k
    at None e = absurd (found_none u m (u k) k e low refl)
    at (Some j) e = let is = found_some u m (u k) j e in e ∙ ap Some (apart j k is.0 low is.1)

pub found_nowhere : (u : ℕ → ℕ) (m n : ℕ) → ((k : ℕ) → k < m → u k ≡ n → ⊥) → found u m n ≡ None
found_nowhere u m n none = at (found u m n) refl
  where
    at : (o : Option ℕ) → found u m n ≡ o → found u m n ≡ None
    at None e = e
    at (Some j) e = let is = found_some u m n j e in absurd (none j is.0 is.1)

-- ---- each of the first so many of these for the one of those at its place, and the other way round

abbrev pub picked : (ℕ → ℕ) → Option ℕ → ℕ → ℕ
picked v (Some k) other = v k
picked v None other = other

abbrev pub exchanged : (ℕ → ℕ) → (ℕ → ℕ) → ℕ → ℕ → ℕ
exchanged u v m n = picked v (found u m n) (picked u (found v m n) n)

pub to_other : (u v : ℕ → ℕ) (m k : ℕ) → Apart m u → k < m → exchanged u v m (u k) ≡ v k
to_other u v m k apart low = ap (λ o. picked v o (picked u (found v m (u k)) (u k))) (found_at u m k apart low)

pub to_one : (u v : ℕ → ℕ) (m k : ℕ) → Apart m v → Disjoint m u v → k < m → exchanged u v m (v k) ≡ u k
to_one u v m k apart disjoint low =
    ap (λ o. picked v o (picked u (found v m (v k)) (v k))) (found_nowhere u m (v k) (λ j less same. disjoint j k less low same))
    ∙ ap (λ o. picked u o (v k)) (found_at v m k apart low)

pub stays : (u v : ℕ → ℕ) (m n : ℕ) → ((k : ℕ) → k < m → u k ≡ n → ⊥) → ((k : ℕ) → k < m → v k ≡ n → ⊥) → exchanged u v m n ≡ n
stays u v m n none also =
    ap (λ o. picked v o (picked u (found v m n) n)) (found_nowhere u m n none) ∙ ap (λ o. picked u o n) (found_nowhere v m n also)

-- where a number is among them
pub data Among (u v : ℕ → ℕ) (m n : ℕ) : Type 0 where
  first : (k : ℕ) → k < m → u k ≡ n → Among u v m n
  second : (k : ℕ) → k < m → v k ≡ n → Among u v m n
  neither : ((k : ℕ) → k < m → u k ≡ n → ⊥) → ((k : ℕ) → k < m → v k ≡ n → ⊥) → Among u v m n

pub among : (u v : ℕ → ℕ) (m n : ℕ) → Among u v m n
among u v m n = at (found u m n) (found v m n) refl refl
  where
    at : (o p : Option ℕ) → found u m n ≡ o → found v m n ≡ p → Among u v m n
    at (Some k) p e f = let is = found_some u m n k e in first k is.0 is.1
    at None (Some k) e f = let is = found_some v m n k f in second k is.0 is.1
    at None None e f = neither (λ k low same. found_none u m n k e low same) (λ k low same. found_none v m n k f low same)

pub there_and_back : (u v : ℕ → ℕ) (m : ℕ) → Apart m u → Apart m v → Disjoint m u v → (n : ℕ) → exchanged u v m (exchanged u v m n) ≡ n
there_and_back u v m one other disjoint n = at (among u v m n)
  where
    at : Among u v m n → exchanged u v m (exchanged u v m n) ≡ n
    at (first k low is) =
        let P : ℕ → Type 0 = λ z. exchanged u v m (exchanged u v m z) ≡ z in
        transport P is (ap (exchanged u v m) (to_other u v m k one low) ∙ to_one u v m k other disjoint low)
    at (second k low is) =
        let P : ℕ → Type 0 = λ z. exchanged u v m (exchanged u v m z) ≡ z in
        transport P is (ap (exchanged u v m) (to_one u v m k other disjoint low) ∙ to_other u v m k one low)
    at (neither none also) = ap (exchanged u v m) (stays u v m n none also) ∙ stays u v m n none also
