-- A frame that is laid over a file stands there as a slot.
use Rattle.std.proofs.Common.{◌≡◌, ℕ, ◌+◌, ◌-◌, ◌^◌, ◌<◌, ◌≤◌, true, List, [], ◌∷◌, ◌++◌, length, get_or, set, take, drop, refl, sym, ◌∙◌, ap, arith, length-drop}
use Rattle.std.proofs.lemmas.List.{ext_get_or, get_or-take, get_or-drop, get_or-set_same, length-set, drop-set-lt, take_all, take-append-drop, take-take, drop-drop, drop-take, drop_more, places}
use Rattle.std.proofs.lemmas.Slice.{take-put_mid_below, drop-put_mid, between-put_mid, between_is}
use Rattle.std.proofs.lemmas.Nat.{from_be_bytes-to_be_bytes_4, from_be_bytes-to_be_bytes_8}
use Rattle.std.specs.Int.{w32, w64, from_be_bytes, to_be_bytes}
use borrow.Rule.Slice.PartMut.{put_mid}
use Rattle.ic_disk.specs.Content.{laid, bytes_at}
use Rattle.ic_disk.specs.lemmas.ContentLaws.{length-laid, laid-inside}
use Rattle.ic_frames.specs.Fields.{number, size, body, is_whole}
use Rattle.ic_frames.specs.Layout.{after_gate}
use Rattle.ic_frames.specs.inner.Standing.{IsFrame}
use Rattle.ic_frames.proofs.FieldLemmas.{length-bytes_at, get_or-bytes_at, whole_from}

-- the same bytes at two places
pub shifted_bytes : (k j n : ℕ) (a b : List ℕ) → k + n ≤ length a → j + n ≤ length b → ((i : ℕ) → i < n → get_or b (j + i) 0 ≡ get_or a (k + i) 0) → bytes_at j n b ≡ bytes_at k n a
shifted_bytes k j n a b within within_new same = ext_get_or 0 (bytes_at j n b) (bytes_at k n a)
    (length-bytes_at j n b within_new ∙ sym (length-bytes_at k n a within))
    (λ i inside.
    let below : i < n = omega (arith, inside, length-bytes_at j n b within_new) in
    get_or-bytes_at j n i b below ∙ same i below ∙ sym (get_or-bytes_at k n i a below))

-- A frame that is laid from its gate on, or from the byte after it.
module _ (skip at n : ℕ) (held frame file : List ℕ) (low : skip ≤ 1) (is : IsFrame n held frame) (short : length held ≤ 3036677) where
  pub length-framed : at + 13 + length held ≤ length (laid (at + skip) (drop skip frame) file)
  length-framed = omega (arith, length-laid (at + skip) (drop skip frame) file, length-drop skip frame, is.long)

  pub framed_at : (i : ℕ) → skip ≤ i → i < 13 + length held → get_or (laid (at + skip) (drop skip frame) file) (at + i) 0 ≡ get_or frame i 0
  framed_at i from until =
      let back : skip + (at + i - (at + skip)) ≡ i = omega arith in
      laid-inside (at + skip) (drop skip frame) file (at + i) (omega arith) (omega (arith, until, length-drop skip frame, is.long))
      ∙ get_or-drop skip frame (at + i - (at + skip)) 0
      ∙ ap (λ (k : ℕ). get_or frame k 0) back

  framed_bytes : (k m : ℕ) → 1 ≤ k → k + m ≤ 13 + length held → bytes_at (at + k) m (laid (at + skip) (drop skip frame) file) ≡ bytes_at k m frame
  framed_bytes k m from until = shifted_bytes k (at + k) m frame (laid (at + skip) (drop skip frame) file) (omega (arith, is.long)) (omega (arith, length-framed))
      (λ i below. let there : at + k + i ≡ at + (k + i) = omega arith in
      ap (λ (j : ℕ). get_or (laid (at + skip) (drop skip frame) file) j 0) there ∙ framed_at (k + i) (omega arith) (omega (arith, below)))

  pub number-framed : number at (laid (at + skip) (drop skip frame) file) ≡ n
  unfolding number
  number-framed = ap (λ (bytes : List ℕ). from_be_bytes w64 bytes) (framed_bytes 1 8 (omega arith) (omega arith)) ∙ is.number_is

  pub size-framed : size at (laid (at + skip) (drop skip frame) file) ≡ length held
  unfolding size
  size-framed = ap (λ (bytes : List ℕ). from_be_bytes w32 bytes) (framed_bytes 9 4 (omega arith) (omega arith)) ∙ is.size_is

  pub whole-framed : is_whole at (laid (at + skip) (drop skip frame) file) ≡ true
  whole-framed = whole_from at (laid (at + skip) (drop skip frame) file) (omega (arith, size-framed, short)) (omega (arith, size-framed, length-framed))

  pub body-framed : body at (laid (at + skip) (drop skip frame) file) ≡ held
  unfolding body
  body-framed =
      ap (λ (m : ℕ). bytes_at (at + 13) m (laid (at + skip) (drop skip frame) file)) size-framed
      ∙ framed_bytes 13 (length held) (omega arith) (omega arith)
      ∙ ap (λ (bytes : List ℕ). bytes_at 0 (length held) bytes) is.body_is
      ∙ take_all (length held) held (omega arith)

  -- from its gate on
  pub gate-framed : skip ≡ 0 → get_or (laid (at + skip) (drop skip frame) file) at 0 ≡ 0
  gate-framed none =
      let here : at + 0 ≡ at = omega arith in
      ap (λ (k : ℕ). get_or (laid (at + skip) (drop skip frame) file) k 0) (sym here) ∙ framed_at 0 (omega arith) (omega arith) ∙ is.gate_is

pub each_part : (a b c d p q r s : List ℕ) → a ≡ p → b ≡ q → c ≡ r → d ≡ s → a ++ b ++ c ++ d ≡ p ++ q ++ r ++ s
each_part a b c d p q r s first second third fourth = rw (first, second, third, fourth) refl

-- two parts that meet are one
pub joined : (at k m : ℕ) (file : List ℕ) → bytes_at at (k + m) file ≡ bytes_at at k file ++ bytes_at (at + k) m file
joined at k m file =
    let whole = bytes_at at (k + m) file in
    sym (take-append-drop k whole)
    ∙ ap (λ (l : List ℕ). l ++ drop k whole) (take-take k (k + m) (drop at file) (omega arith))
    ∙ ap (λ (l : List ℕ). bytes_at at k file ++ l) (drop-take k m (drop at file) ∙ ap (λ (l : List ℕ). take m l) (drop-drop k at file))

-- a gate, a number, a length and what follows
parted : (frame : List ℕ) → frame ≡ bytes_at 0 1 frame ++ bytes_at 1 8 frame ++ bytes_at 9 4 frame ++ drop 13 frame
parted frame =
    sym (take-append-drop 13 frame)
    ∙ ap (λ (l : List ℕ). l ++ drop 13 frame) (joined 0 9 4 frame ∙ ap (λ (l : List ℕ). l ++ bytes_at 9 4 frame) (joined 0 1 8 frame))

pub gate_part : (at gate : ℕ) (file : List ℕ) → at < length file → get_or file at 0 ≡ gate → bytes_at at 1 file ≡ gate ∷ []
gate_part at gate file within gate_is = ap (λ (l : List ℕ). take 1 l) (drop_more file at 0 within) ∙ ap (λ (b : ℕ). b ∷ []) gate_is

-- The head of a frame that is filled in.
module _ (n : ℕ) (frame xs ys : List ℕ) (fits : n < 2 ^ 64) (head : 13 ≤ length frame) (short : length frame ≤ 13 + 3036677) (is_number : xs ≡ to_be_bytes w64 n) (is_size : ys ≡ to_be_bytes w32 (length frame - 13)) where
  long_number : length xs ≡ 8
  long_number = ap length is_number

  long_size : length ys ≡ 4
  long_size = ap length is_size

  length-started : length (set frame 0 0) ≡ length frame
  length-started = length-set frame 0 0

  length-numbered : length (put_mid 1 8 (set frame 0 0) xs) ≡ length frame
  length-numbered = grind (arith, places, long_number, length-started)

  length-filled : length (put_mid 9 4 (put_mid 1 8 (set frame 0 0) xs) ys) ≡ length frame
  length-filled = grind (arith, places, long_size, length-numbered)

  front_stays : take 9 (put_mid 9 4 (put_mid 1 8 (set frame 0 0) xs) ys) ≡ take 9 (put_mid 1 8 (set frame 0 0) xs)
  front_stays = take-put_mid_below 9 4 (put_mid 1 8 (set frame 0 0) xs) ys 9 (omega arith) (omega (arith, length-numbered))

  gate_filled : get_or (put_mid 9 4 (put_mid 1 8 (set frame 0 0) xs) ys) 0 0 ≡ 0
  gate_filled =
      let a = set frame 0 0 in
      let b = put_mid 1 8 a xs in
      sym (get_or-take 9 (put_mid 9 4 b ys) 0 0 (omega arith))
      ∙ ap (λ (l : List ℕ). get_or l 0 0) front_stays
      ∙ get_or-take 9 b 0 0 (omega arith)
      ∙ sym (get_or-take 1 b 0 0 (omega arith))
      ∙ ap (λ (l : List ℕ). get_or l 0 0) (take-put_mid_below 1 8 a xs 1 (omega arith) (omega (arith, length-started)))
      ∙ get_or-take 1 a 0 0 (omega arith)
      ∙ get_or-set_same frame 0 0 0 (omega arith)

  number_filled : bytes_at 1 8 (put_mid 9 4 (put_mid 1 8 (set frame 0 0) xs) ys) ≡ xs
  number_filled =
      let a = set frame 0 0 in
      let b = put_mid 1 8 a xs in
      between_is (put_mid 9 4 b ys) 1 9
      ∙ ap (λ (l : List ℕ). drop 1 l) front_stays
      ∙ sym (between_is b 1 9)
      ∙ between-put_mid 1 8 a xs 9 (omega (arith, length-started)) long_number

  size_filled : bytes_at 9 4 (put_mid 9 4 (put_mid 1 8 (set frame 0 0) xs) ys) ≡ ys
  size_filled = between-put_mid 9 4 (put_mid 1 8 (set frame 0 0) xs) ys 13 (omega (arith, length-numbered)) long_size

  body_filled : drop 13 (put_mid 9 4 (put_mid 1 8 (set frame 0 0) xs) ys) ≡ drop 13 frame
  body_filled =
      drop-put_mid 9 4 (put_mid 1 8 (set frame 0 0) xs) ys 13 (omega arith) (omega (arith, length-numbered)) long_size
      ∙ drop-put_mid 1 8 (set frame 0 0) xs 13 (omega arith) (omega (arith, length-started)) long_number
      ∙ drop-set-lt 13 frame 0 0 (omega arith)

  bytes_filled : put_mid 9 4 (put_mid 1 8 (set frame 0 0) xs) ys ≡ 0 ∷ after_gate n (drop 13 frame)
  bytes_filled =
      let filled = put_mid 9 4 (put_mid 1 8 (set frame 0 0) xs) ys in
      parted filled
      ∙ each_part (bytes_at 0 1 filled) (bytes_at 1 8 filled) (bytes_at 9 4 filled) (drop 13 filled)
      (0 ∷ []) (to_be_bytes w64 n) (to_be_bytes w32 (length (drop 13 frame))) (drop 13 frame)
      (gate_part 0 0 filled (omega (arith, length-filled)) gate_filled)
      (number_filled ∙ is_number)
      (size_filled ∙ is_size ∙ ap (λ (size : ℕ). to_be_bytes w32 size) (sym (length-drop 13 frame)))
      body_filled

  pub filled_frame : IsFrame n (drop 13 frame) (put_mid 9 4 (put_mid 1 8 (set frame 0 0) xs) ys)
  unfolding number size
  filled_frame = record {
    gate_is = gate_filled;
    number_is = ap (λ (bytes : List ℕ). from_be_bytes w64 bytes) (number_filled ∙ is_number) ∙ from_be_bytes-to_be_bytes_8 n fits;
    size_is = ap (λ (bytes : List ℕ). from_be_bytes w32 bytes) (size_filled ∙ is_size) ∙ from_be_bytes-to_be_bytes_4 (length frame - 13) (omega arith) ∙ sym (length-drop 13 frame);
    long = length-filled ∙ omega (arith, length-drop 13 frame);
    body_is = body_filled;
    bytes_are = bytes_filled;
  }
