-- A slot by itself, and the file that has two slots, say the same of them.
use Rattle.std.proofs.Common.{◌≡◌, ◌↔◌, ⊎_elim, ℕ, suc, ◌+◌, ◌-◌, ◌<◌, ◌≤◌, ◌==◌, ◌&&◌, Bool, true, false, cond, List, [], ◌∷◌, ◌++◌, Option, None, Some, length, take, drop, get_or, refl, sym, ap, subst, ◌∙◌, arith, length-drop, length-append}
use Rattle.std.specs.Prelude.{nat_le, replicate}
use Rattle.std.specs.Int.{w32, w64, from_be_bytes}
use Rattle.std.proofs.lemmas.Bool.{le-leb, leb-true, lt-leb, and_from, and_parts, and_right, cases_Bool, cases_lt, false≢true, false_from_ne_true}
use Rattle.std.proofs.lemmas.List.{drop-drop, drop_all, drop_at, ext_get_or, get_or-take, get_or-drop, length-replicate, length-take, length-take-le, take-take, take-append-le}
use Rattle.ic_codec.specs.Tables.{IsFormOf}
use Rattle.ic_disk.specs.Content.{bytes_at, filled_to}
use Rattle.ic_frames.specs.declared.frame.TheConstants.{HEAD, MAX_BODY}
use Rattle.ic_frames.specs.declared.slot.TheConstants.{SECOND_AT}
use Rattle.ic_frames.specs.Fields.{number, size, body, is_open, is_whole}
use Rattle.ic_inspect.specs.declared.seen.Body.{Body}
use Rattle.ic_inspect.specs.declared.seen.Body.TheVariants.{TooLong, CutShort, NoTable, Holds}
use Rattle.ic_inspect.specs.declared.seen.Seen.{Seen}
use Rattle.ic_inspect.specs.Seeing.{IsBodySeen, IsSeenAt}
use Rattle.ic_inspect.specs.Slots.{body_room, file_of, is_one_file, slot_read}

-- ---- the same slot at two places of two files
pub record SameAt (p q : ℕ) (f g : List ℕ) : Type 0 where
  pub headed : nat_le (q + HEAD) (length g) ≡ nat_le (p + HEAD) (length f)
  pub opened : is_open q g ≡ is_open p f
  pub number_is : number q g ≡ number p f
  pub size_is : size q g ≡ size p f
  pub whole_is : is_whole q g ≡ is_whole p f
  pub body_is : is_whole p f ≡ true → body q g ≡ body p f

pub same_refl : (p : ℕ) (f : List ℕ) → SameAt p p f f
same_refl p f = record { headed = refl; opened = refl; number_is = refl; size_is = refl; whole_is = refl; body_is = λ w. refl }

pub same_sym : (p q : ℕ) (f g : List ℕ) → SameAt p q f g → SameAt q p g f
same_sym p q f g s = record {
  headed = sym s.headed;
  opened = sym s.opened;
  number_is = sym s.number_is;
  size_is = sym s.size_is;
  whole_is = sym s.whole_is;
  body_is = λ w. sym (s.body_is (sym s.whole_is ∙ w));
}

pub same_trans : (p q r : ℕ) (f g h : List ℕ) → SameAt p q f g → SameAt q r g h → SameAt p r f h
same_trans p q r f g h s t = record {
  headed = t.headed ∙ s.headed;
  opened = t.opened ∙ s.opened;
  number_is = t.number_is ∙ s.number_is;
  size_is = t.size_is ∙ s.size_is;
  whole_is = t.whole_is ∙ s.whole_is;
  body_is = λ w. t.body_is (s.whole_is ∙ w) ∙ s.body_is w;
}

module _ (whole : (at : ℕ) (file : List ℕ) → (is_whole at file ≡ true) ↔ ((size at file ≤ MAX_BODY) × (at + HEAD + size at file ≤ length file))) where
  same_body : (p q : ℕ) (f g : List ℕ) (b : Body) → SameAt p q f g → IsBodySeen p b f → IsBodySeen q b g
  same_body p q f g TooLong s long = omega (arith, long, s.size_is)
  same_body p q f g CutShort s cut =
      let few : size q g ≤ MAX_BODY = omega (arith, cut.0, s.size_is) in (
        few,
        ⊎_elim
            (λ less. less)
            (λ within. absurd (let w = (whole p f).0 (sym s.whole_is ∙ (whole q g).1 (few, within)) in omega (arith, w.1, cut.1)))
            (cases_lt (length g) (q + HEAD + size q g)),
      )
  same_body p q f g NoTable s seen = (s.whole_is ∙ seen.0, λ t is form. seen.1 t is (subst (λ b. IsFormOf t b) (s.body_is seen.0) form))
  same_body p q f g (Holds t) s seen = (s.whole_is ∙ seen.0, seen.1, subst (λ b. IsFormOf t b) (sym (s.body_is seen.0)) seen.2)

  pub same_seen : (p q : ℕ) (f g : List ℕ) (seen : Option Seen) → SameAt p q f g → IsSeenAt p seen f → IsSeenAt q seen g
  same_seen p q f g None s short = ⊎_elim
      (λ less. less)
      (λ within. absurd (let there = leb-true (p + HEAD) (length f) (sym s.headed ∙ le-leb (q + HEAD) (length g) within) in omega (arith, there, short)))
      (cases_lt (length g) (q + HEAD))
  same_seen p q f g (Some seen) s is = record {
    within = leb-true (q + HEAD) (length g) (s.headed ∙ le-leb (p + HEAD) (length f) is.within);
    opened = is.opened ∙ sym s.opened;
    number_is = is.number_is ∙ sym s.number_is;
    size_is = is.size_is ∙ sym s.size_is;
    body_is = same_body p q f g seen.body s is.body_is;
  }

-- ---- what follows a place
room_drop : (p n : ℕ) (file : List ℕ) → 0 < n → nat_le (p + n) (length file) ≡ nat_le n (length (drop p file))
room_drop p n file some = ⊎_elim
    (λ e. e ∙ sym (le-leb n (length (drop p file)) (omega (arith, leb-true (p + n) (length file) e, length-drop p file))))
    (λ e. e ∙ sym (false_from_ne_true (nat_le n (length (drop p file)))
    (λ is. false≢true (sym e ∙ le-leb (p + n) (length file) (omega (arith, leb-true n (length (drop p file)) is, length-drop p file, some))))))
    (cases_Bool (nat_le (p + n) (length file)))

bytes_drop : (p k m : ℕ) (file : List ℕ) → bytes_at (p + k) m file ≡ bytes_at k m (drop p file)
bytes_drop p k m file = ap (take m) (sym (drop-drop k p file))

open_drop : (p : ℕ) (file : List ℕ) → is_open p file ≡ is_open 0 (drop p file)
unfolding is_open
open_drop p file =
    let here : p + 0 ≡ p = omega arith in
    ap (λ (t : Bool). t && (get_or file p 0 == 1)) (room_drop p 13 file (omega arith))
    ∙ ap (λ (g : ℕ). nat_le 13 (length (drop p file)) && (g == 1)) (ap (λ i. get_or file i 0) (sym here) ∙ sym (get_or-drop p file 0 0))

number_drop : (p : ℕ) (file : List ℕ) → number p file ≡ number 0 (drop p file)
unfolding number
number_drop p file = ap (λ (b : List ℕ). from_be_bytes w64 b) (bytes_drop p 1 8 file)

size_drop : (p : ℕ) (file : List ℕ) → size p file ≡ size 0 (drop p file)
unfolding size
size_drop p file = ap (λ (b : List ℕ). from_be_bytes w32 b) (bytes_drop p 9 4 file)

body_drop : (p : ℕ) (file : List ℕ) → body p file ≡ body 0 (drop p file)
unfolding body
body_drop p file = ap (λ (m : ℕ). bytes_at (p + 13) m file) (size_drop p file) ∙ bytes_drop p 13 (size 0 (drop p file)) file

whole_drop : (p : ℕ) (file : List ℕ) → is_whole p file ≡ is_whole 0 (drop p file)
unfolding is_whole
whole_drop p file =
    let n = size 0 (drop p file) in
    let apart : p + 13 + n ≡ p + (13 + n) = omega arith in
    ap (λ (m : ℕ). nat_le m MAX_BODY && nat_le (p + 13 + m) (length file)) (size_drop p file)
    ∙ ap (λ (t : Bool). nat_le n MAX_BODY && t) (ap (λ k. nat_le k (length file)) apart ∙ room_drop p (13 + n) file (omega arith))

pub same_drop : (p : ℕ) (file : List ℕ) → SameAt 0 p (drop p file) file
same_drop p file = record {
  headed = room_drop p HEAD file (omega arith);
  opened = open_drop p file;
  number_is = number_drop p file;
  size_is = size_drop p file;
  whole_is = whole_drop p file;
  body_is = λ w. body_drop p file;
}

-- ---- the first bytes, if they are enough
byte_of : (k m i : ℕ) (file : List ℕ) → i < m → get_or (bytes_at k m file) i 0 ≡ get_or file (k + i) 0
byte_of k m i file below = get_or-take m (drop k file) i 0 below ∙ get_or-drop k file i 0

bytes_front : (k m n : ℕ) (file : List ℕ) → k + m ≤ n → bytes_at k m (take n file) ≡ bytes_at k m file
bytes_front k m n file inside = ext_get_or 0 (bytes_at k m (take n file)) (bytes_at k m file)
    (omega (arith, inside, length-take m (drop k (take n file)), length-drop k (take n file), length-take n file, length-take m (drop k file), length-drop k file))
    (λ i within.
    let below : i < m = omega (arith, within, length-take m (drop k (take n file))) in
    byte_of k m i (take n file) below ∙ get_or-take n file (k + i) 0 (omega (arith, below, inside)) ∙ sym (byte_of k m i file below))

room_front : (m n : ℕ) (file : List ℕ) → m ≤ n → nat_le m (length (take n file)) ≡ nat_le m (length file)
room_front m n file few = ⊎_elim
    (λ e. le-leb m (length (take n file)) (omega (arith, few, leb-true m (length file) e, length-take n file)) ∙ sym e)
    (λ e. false_from_ne_true (nat_le m (length (take n file)))
    (λ is. false≢true (sym e ∙ le-leb m (length file) (omega (arith, leb-true m (length (take n file)) is, length-take n file)))) ∙ sym e)
    (cases_Bool (nat_le m (length file)))

-- the head is that of the first thirteen bytes or more
pub open_front : (n : ℕ) (file : List ℕ) → 13 ≤ n → is_open 0 (take n file) ≡ is_open 0 file
unfolding is_open
open_front n file long =
    ap (λ (t : Bool). t && (get_or (take n file) 0 0 == 1)) (room_front 13 n file long)
    ∙ ap (λ (g : ℕ). nat_le 13 (length file) && (g == 1)) (get_or-take n file 0 0 (omega (arith, long)))

pub number_front : (n : ℕ) (file : List ℕ) → 13 ≤ n → number 0 (take n file) ≡ number 0 file
unfolding number
number_front n file long = ap (λ (b : List ℕ). from_be_bytes w64 b) (bytes_front 1 8 n file (omega (arith, long)))

pub size_front : (n : ℕ) (file : List ℕ) → 13 ≤ n → size 0 (take n file) ≡ size 0 file
unfolding size
size_front n file long = ap (λ (b : List ℕ). from_be_bytes w32 b) (bytes_front 9 4 n file (omega (arith, long)))

body_front : (n : ℕ) (file : List ℕ) → 13 ≤ n → 13 + size 0 file ≤ n → body 0 (take n file) ≡ body 0 file
unfolding body
body_front n file long enough = ap (λ (m : ℕ). bytes_at 13 m (take n file)) (size_front n file long) ∙ bytes_front 13 (size 0 file) n file enough

-- ---- rooms
pub full_room : (bytes : List ℕ) → 13 ≤ length bytes → size 0 bytes ≤ MAX_BODY → body_room bytes ≡ size 0 bytes
full_room bytes long few =
    let both : (nat_le HEAD (length bytes) && nat_le (size 0 bytes) MAX_BODY) ≡ true =
    and_from (nat_le HEAD (length bytes)) (nat_le (size 0 bytes) MAX_BODY) (le-leb HEAD (length bytes) long) (le-leb (size 0 bytes) MAX_BODY few) in
    ap (λ (t : Bool). cond t (size 0 bytes) 0) both

pub no_room : (bytes : List ℕ) → length bytes < HEAD → body_room bytes ≡ 0
no_room bytes short =
    let none : nat_le HEAD (length bytes) ≡ false = lt-leb HEAD (length bytes) short in
    ap (λ (t : Bool). cond (t && nat_le (size 0 bytes) MAX_BODY) (size 0 bytes) 0) none

pub long_room : (bytes : List ℕ) → MAX_BODY < size 0 bytes → body_room bytes ≡ 0
long_room bytes long =
    let none : (nat_le HEAD (length bytes) && nat_le (size 0 bytes) MAX_BODY) ≡ false =
    and_right (nat_le HEAD (length bytes)) (nat_le (size 0 bytes) MAX_BODY) (lt-leb (size 0 bytes) MAX_BODY long) in
    ap (λ (t : Bool). cond t (size 0 bytes) 0) none

pub room_few : (bytes : List ℕ) → body_room bytes ≤ MAX_BODY
room_few bytes = by (nat_le HEAD (length bytes) && nat_le (size 0 bytes) MAX_BODY) refl
  where
    by : (b : Bool) → (nat_le HEAD (length bytes) && nat_le (size 0 bytes) MAX_BODY) ≡ b → cond b (size 0 bytes) 0 ≤ MAX_BODY
    by true is = leb-true (size 0 bytes) MAX_BODY ((and_parts (nat_le HEAD (length bytes)) (nat_le (size 0 bytes) MAX_BODY) is).1)
    by false is = omega arith

-- the head alone tells it
pub room_of_front : (n : ℕ) (bytes : List ℕ) → 13 ≤ n → body_room (take n bytes) ≡ body_room bytes
room_of_front n bytes long =
    let within = room_front HEAD n bytes long in
    let sizes = size_front n bytes long in
    λ i. cond (within i && nat_le (sizes i) MAX_BODY) (sizes i) 0

pub room_of_head : (bytes : List ℕ) → body_room (take HEAD bytes) ≡ body_room bytes
room_of_head bytes = room_of_front HEAD bytes (omega arith)

pub take-append-add : (k m : ℕ) (xs ys : List ℕ) → length xs ≡ k → take (k + m) (xs ++ ys) ≡ xs ++ take m ys
take-append-add k m [] ys is =
    let all : k + m ≡ m = omega (arith, is) in
    ap (λ (n : ℕ). take n ys) all
take-append-add k m (x ∷ xs) ys is =
    let all : k + m ≡ suc (length xs + m) = omega (arith, is) in
    ap (λ (n : ℕ). take n (x ∷ xs ++ ys)) all ∙ ap (λ (l : List ℕ). x ∷ l) (take-append-add (length xs) m xs ys refl)

-- as many bytes hold the head, and the body where that is whole
pub record Enough (n : ℕ) (file : List ℕ) : Type 0 where
  pub head : 13 ≤ n
  pub body : 13 ≤ length file → size 0 file ≤ MAX_BODY → 13 + size 0 file ≤ n

module _ (whole : (at : ℕ) (file : List ℕ) → (is_whole at file ≡ true) ↔ ((size at file ≤ MAX_BODY) × (at + HEAD + size at file ≤ length file))) where
  whole_front : (n : ℕ) (file : List ℕ) → Enough n file → is_whole 0 file ≡ is_whole 0 (take n file)
  whole_front n file enough =
      let same = size_front n file enough.head in
      ⊎_elim
      (λ e.
      let w = (whole 0 file).0 e in
      let fits = enough.body (omega (arith, w.1)) w.0 in
      e ∙ sym ((whole 0 (take n file)).1 (omega (arith, w.0, same), omega (arith, w.1, fits, same, length-take n file))))
      (λ e. e ∙ sym (false_from_ne_true (is_whole 0 (take n file))
      (λ is. let w = (whole 0 (take n file)).0 is in false≢true (sym e ∙ (whole 0 file).1 (omega (arith, w.0, same), omega (arith, w.1, same, length-take n file))))))
      (cases_Bool (is_whole 0 file))

  pub same_front : (n : ℕ) (file : List ℕ) → Enough n file → SameAt 0 0 (take n file) file
  same_front n file enough = record {
    headed = sym (room_front HEAD n file enough.head);
    opened = sym (open_front n file enough.head);
    number_is = sym (number_front n file enough.head);
    size_is = sym (size_front n file enough.head);
    whole_is = whole_front n file enough;
    body_is = λ w.
        let parts = (whole 0 file).0 (whole_front n file enough ∙ w) in
        sym (body_front n file enough.head (enough.body (omega (arith, parts.1)) parts.0));
  }

  -- ---- what is read of a slot
  pub same_read : (bytes : List ℕ) → SameAt 0 0 (slot_read bytes) bytes
  same_read bytes = same_front (HEAD + body_room bytes) bytes (record {
    head = omega arith;
    body = λ long few. let room = full_room bytes long few in omega (arith, room);
  })

  -- ---- the file of two slots
  pub same_first : (first second : List ℕ) → is_one_file first second ≡ true → SameAt 0 0 first (file_of first second)
  same_first first [] one = same_sym 0 0 (take SECOND_AT first) first
      (same_front SECOND_AT first (record { head = omega arith; body = λ long few. omega (arith, few) }))
  same_first first (b ∷ bs) one =
      let n = HEAD + body_room first in
      let file = file_of first (b ∷ bs) in
      let within : n ≤ length first = leb-true n (length first) one in
      let few : n ≤ SECOND_AT = omega (arith, room_few first) in
      let filled = filled_to SECOND_AT first in
      let long : SECOND_AT ≤ length filled = omega (arith, length-append first (replicate (SECOND_AT - length first) 0), length-replicate {A = ℕ} (SECOND_AT - length first) 0) in
      let full : length (take SECOND_AT filled) ≡ SECOND_AT = length-take-le SECOND_AT filled long in
      let fronts : take n file ≡ take n first =
      take-append-le n (take SECOND_AT filled) (b ∷ bs) (omega (arith, full, few)) ∙ take-take n SECOND_AT filled few ∙ take-append-le n first (replicate (SECOND_AT - length first) 0) within in
      let enough : Enough n first = record { head = omega arith; body = λ long few. let room = full_room first long few in omega (arith, room) } in
      let sizes : size 0 file ≡ size 0 first = sym (size_front n file enough.head) ∙ ap (size 0) fronts ∙ size_front n first enough.head in
      let there : Enough n file = record { head = enough.head; body = λ _ small. let fits = enough.body (omega (arith, within)) (omega (arith, small, sizes)) in omega (arith, fits, sizes) } in
      same_trans 0 0 0 first (take n first) file (same_sym 0 0 (take n first) first (same_front n first enough))
      (subst (λ (l : List ℕ). SameAt 0 0 l file) fronts (same_front n file there))

-- after the place of the second slot the file has what was read of it
after_second : (first second : List ℕ) → drop SECOND_AT (file_of first second) ≡ second
after_second first [] = drop_all SECOND_AT (take SECOND_AT first) (omega (arith, length-take SECOND_AT first))
after_second first (b ∷ bs) =
    let filled = filled_to SECOND_AT first in
    let long : SECOND_AT ≤ length filled = omega (arith, length-append first (replicate (SECOND_AT - length first) 0), length-replicate {A = ℕ} (SECOND_AT - length first) 0) in
    drop_at (take SECOND_AT filled) (b ∷ bs) SECOND_AT (length-take-le SECOND_AT filled long)

pub same_second : (first second : List ℕ) → SameAt 0 SECOND_AT second (file_of first second)
same_second first second = subst (λ (l : List ℕ). SameAt 0 SECOND_AT l (file_of first second)) (after_second first second) (same_drop SECOND_AT (file_of first second))
