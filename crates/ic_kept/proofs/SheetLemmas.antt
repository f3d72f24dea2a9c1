-- What the fields of a file are after each write of a keep.
use Rattle.std.proofs.Common.{◌≡◌, ◌⊎◌, inl, inr, ⊎_elim, ℕ, ◌+◌, ◌^◌, ◌<◌, ◌≤◌, Bool, true, false, List, [], ◌∷◌, length, get_or, sym, ◌∙◌, ap, subst, arith}
use Rattle.std.proofs.lemmas.Nat.{from_be_bytes-to_be_bytes_8}
use Rattle.std.specs.Prelude.{replicate}
use Rattle.std.specs.Int.{w64, from_be_bytes, to_be_bytes}
use Rattle.ic_disk.specs.Content.{bytes_at, laid}
use Rattle.ic_disk.specs.Images.{Torn}
use Rattle.ic_disk.specs.lemmas.ContentLaws.{length-laid, laid-inside}
use Rattle.ic_disk.specs.lemmas.ImageLaws.{torn_laid}
use Rattle.ic_kept.specs.Sheet.{number, size, IsMade, IsAfterGate, IsNewest, IsShut, IsOlder, IsBelow, IsBeside}
use Rattle.ic_kept.proofs.FileLemmas.{torn_bytes, laid_bytes, laid_first, torn_first, get_or-bytes_at}

pub zero_is_one : ◌≡◌ {A = ℕ} 0 1 → ⊥
zero_is_one e = omega (arith, e)

-- what is shut is older than all
pub shut_older : (n : ℕ) (file : List ℕ) → IsShut file → IsOlder n file
shut_older n file is = record { made = is.made; older = λ opened. absurd (is.shut opened) }

pub number_torn : (r m : ℕ) (a c : List ℕ) → Torn r m a c → 17 ≤ length a → (9 ≤ r) ⊎ (r + m ≤ 1) → number c ≡ number a
unfolding number
number_torn r m a c torn made apart = ap (λ (bytes : List ℕ). from_be_bytes w64 bytes)
    (torn_bytes r m 1 8 a c torn (omega (arith, made)) (⊎_elim (λ before. inl (omega (arith, before))) (λ after. inr (omega (arith, after))) apart))

pub size_torn : (r m : ℕ) (a c : List ℕ) → Torn r m a c → 17 ≤ length a → (17 ≤ r) ⊎ (r + m ≤ 9) → size c ≡ size a
unfolding size
size_torn r m a c torn made apart = ap (λ (bytes : List ℕ). from_be_bytes w64 bytes)
    (torn_bytes r m 9 8 a c torn (omega (arith, made)) (⊎_elim (λ before. inl (omega (arith, before))) (λ after. inr (omega (arith, after))) apart))

-- A write at the gate leaves a number that is below.
pub gate_torn : (n : ℕ) (a c : List ℕ) → IsBelow n a → Torn 0 1 a c → IsBelow n c
gate_torn n a c is torn = record {
  made = omega (arith, is.made, torn.no_shorter);
  below = subst (λ (k : ℕ). k < n) (sym (number_torn 0 1 a c torn is.made (inr (omega arith)))) is.below;
}

pub beside_older : (closed : Bool) (n : ℕ) (file : List ℕ) → IsBeside closed n file → IsOlder n file
beside_older true n file is = shut_older n file is
beside_older false n file is = record { made = is.made; older = λ opened. is.below }

-- A write after the gate leaves it shut.
pub after_torn : (r m : ℕ) (a c : List ℕ) → 1 ≤ r → IsShut a → Torn r m a c → IsShut c
after_torn r m a c after is torn = record {
  made = omega (arith, is.made, torn.no_shorter);
  shut = λ opened. is.shut (sym (torn_first r m a c torn after (omega (arith, is.made))) ∙ opened);
}

-- A write at the gate leaves what is after it.
pub after_stays : (n : ℕ) (state a c : List ℕ) → IsAfterGate n state a → Torn 0 1 a c → IsAfterGate n state c
after_stays n state a c is torn =
    let made : 17 ≤ length a = omega (arith, is.within) in
    record {
      number_is = number_torn 0 1 a c torn made (inr (omega arith)) ∙ is.number_is;
      size_is = size_torn 0 1 a c torn made (inr (omega arith)) ∙ is.size_is;
      within = omega (arith, is.within, torn.no_shorter);
      state_is = torn_bytes 0 1 17 (length state) a c torn is.within (inr (omega arith)) ∙ is.state_is;
    }

pub laid_shut : (a : List ℕ) → IsMade a → IsShut (laid 0 (0 ∷ []) a)
laid_shut a made = record {
  made = omega (arith, made, length-laid 0 (0 ∷ []) a);
  shut = λ opened. zero_is_one (sym (laid_first 0 a) ∙ opened);
}

pub laid_open : (n : ℕ) (state a : List ℕ) → IsAfterGate n state a → IsNewest n state (laid 0 (1 ∷ []) a)
laid_open n state a is = record {
  opened = laid_first 1 a;
  after = after_stays n state a (laid 0 (1 ∷ []) a) is (torn_laid 0 (1 ∷ []) a);
}

-- The state, its length and its number are laid in turn.
module _ (n : ℕ) (state xs ys a b c d : List ℕ) (fits : n < 2 ^ 64) (short : length state < 2 ^ 64) (made : 17 ≤ length a)
    (first : b ≡ laid 17 state a) (is_size : xs ≡ to_be_bytes w64 (length state)) (second : c ≡ laid 9 xs b) (is_number : ys ≡ to_be_bytes w64 n) (third : d ≡ laid 1 ys c) where
  long_xs : length xs ≡ 8
  long_xs = ap length is_size

  long_ys : length ys ≡ 8
  long_ys = ap length is_number

  torn_second : Torn 9 8 b c
  torn_second = subst (λ (l : List ℕ). Torn 9 8 b l) (sym second) (subst (λ (k : ℕ). Torn 9 k b (laid 9 xs b)) long_xs (torn_laid 9 xs b))

  torn_third : Torn 1 8 c d
  torn_third = subst (λ (l : List ℕ). Torn 1 8 c l) (sym third) (subst (λ (k : ℕ). Torn 1 k c (laid 1 ys c)) long_ys (torn_laid 1 ys c))

  long_b : 17 + length state ≤ length b
  long_b = omega (arith, ap length first, length-laid 17 state a)

  long_c : 17 + length state ≤ length c
  long_c = omega (arith, torn_second.no_shorter, long_b)

  number_laid : number d ≡ n
  unfolding number
  number_laid =
      ap (λ (l : List ℕ). from_be_bytes w64 (bytes_at 1 8 l)) third
      ∙ ap (λ (k : ℕ). from_be_bytes w64 (bytes_at 1 k (laid 1 ys c))) (sym long_ys)
      ∙ ap (λ (l : List ℕ). from_be_bytes w64 l) (laid_bytes 1 ys c ∙ is_number)
      ∙ from_be_bytes-to_be_bytes_8 n fits

  size_laid : size c ≡ length state
  unfolding size
  size_laid =
      ap (λ (l : List ℕ). from_be_bytes w64 (bytes_at 9 8 l)) second
      ∙ ap (λ (k : ℕ). from_be_bytes w64 (bytes_at 9 k (laid 9 xs b))) (sym long_xs)
      ∙ ap (λ (l : List ℕ). from_be_bytes w64 l) (laid_bytes 9 xs b ∙ is_size)
      ∙ from_be_bytes-to_be_bytes_8 (length state) short

  pub laid_after : IsAfterGate n state d
  laid_after = record {
    number_is = number_laid;
    size_is = size_torn 1 8 c d torn_third (omega (arith, long_c)) (inr (omega arith)) ∙ size_laid;
    within = omega (arith, torn_third.no_shorter, long_c);
    state_is =
        torn_bytes 1 8 17 (length state) c d torn_third long_c (inr (omega arith))
        ∙ torn_bytes 9 8 17 (length state) b c torn_second long_b (inr (omega arith))
        ∙ ap (λ (l : List ℕ). bytes_at 17 (length state) l) first
        ∙ laid_bytes 17 state a;
  }

-- what was read of a head
pub gate_read : (file bytes : List ℕ) → bytes ≡ bytes_at 0 1 file → get_or bytes 0 0 ≡ get_or file 0 0
gate_read file bytes read = ap (λ (l : List ℕ). get_or l 0 0) read ∙ get_or-bytes_at 0 1 0 file (omega arith)

pub number_read : (file bytes : List ℕ) (n : ℕ) → bytes ≡ bytes_at 1 8 file → n ≡ from_be_bytes w64 bytes → number file ≡ n
unfolding number
number_read file bytes n read is = sym (is ∙ ap (λ (b : List ℕ). from_be_bytes w64 b) read)

pub size_read : (file bytes : List ℕ) (n : ℕ) → bytes ≡ bytes_at 9 8 file → n ≡ from_be_bytes w64 bytes → size file ≡ n
unfolding size
size_read file bytes n read is = sym (is ∙ ap (λ (b : List ℕ). from_be_bytes w64 b) read)

-- a new head
pub zeros_shut : (a : List ℕ) → IsShut (laid 0 (replicate 17 0) a)
zeros_shut a = record {
  made = omega (arith, length-laid 0 (replicate 17 0) a);
  shut = λ opened. zero_is_one (sym (laid-inside 0 (replicate 17 0) a 0 (omega arith) (omega arith)) ∙ opened);
}
