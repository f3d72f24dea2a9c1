-- What a buffer of lines takes.
use Rattle.std.proofs.Common.{◌≡◌, ℕ, suc, ◌+◌, ◌-◌, ◌<◌, ◌≤◌, ◌==◌, List, [], ◌∷◌, ◌++◌, Bool, true, false, not, Option, None, Some, Result, Ok, Err, is_none, unwrap_or, length, take, drop, refl, sym, ap, subst, ◌∙◌, inl, inr, arith, append-nil, append_assoc, length-append}
use Rattle.std.specs.Prelude.{◌≢◌, position, nat_lt}
use Rattle.std.specs.Result.{IsErrAnd}
use Rattle.std.specs.List.{position_or_len}
use Rattle.std.specs.Io.KnownBytes.{Consumes, IsAtEnd, Keeps, prepend_known}
use Rattle.std.proofs.lemmas.Bool.{cases_Bool, false≢true, or_from, or_parts, eqb-true, ltb-true, ltb-false}
use Rattle.std.proofs.lemmas.List.{take-append-drop, length-take, length-drop, take_all, drop-drop, drop_all}
use Rattle.std.proofs.lemmas.List.Folds.{list_any-append}
use Rattle.ic_text.specs.declared.limits.TheConstants.{MAX_TEXT}
use Rattle.ic_lines.specs.declared.buffer.LineFault.{LineFault}
use Rattle.ic_lines.specs.declared.buffer.LineFault.TheVariants.{LongLine}
use Rattle.ic_lines.specs.Lines.{has_feed, lines}
use Rattle.ic_lines.specs.Taking.{TakesLine, HasNoLine, HasLongLine, IsFed, IsTooLong}
use Rattle.ic_lines.specs.inner.Front.{IsFront, IsLongFront, MovesFront, Advances}
use Rattle.ic_lines.proofs.LineLemmas.{lines_first, lines_last, lines_begin}

abbrev is_feed : ℕ → Bool
is_feed b = b == 10

-- ---- the first line feed

-- this many bytes stand before the first line feed, or are all there are
pub record Cuts (bytes : List ℕ) (count : ℕ) : Type 0 where
  pub unfed : has_feed (take count bytes) ≡ false
  pub within : count ≤ length bytes
  pub fed : count < length bytes → bytes ≡ take count bytes ++ 10 ∷ drop (suc count) bytes

cut_more : (b : ℕ) (bs : List ℕ) (n : ℕ) → is_feed b ≡ false → Cuts bs n → Cuts (b ∷ bs) (suc n)
cut_more b bs n e h = record {
  unfed = or_from (is_feed b) (has_feed (take n bs)) e h.unfed;
  within = (let w = h.within in omega (arith, w));
  fed = λ less. (let rest = h.fed (omega (arith, less)) in ap (λ xs. b ∷ xs) rest);
}

pub cut : (bytes : List ℕ) → Cuts bytes (position_or_len (λ b. b == 10) bytes)
cut [] = record { unfed = refl; within = omega arith; fed = λ less. absurd (omega (arith, less)) }
cut (b ∷ bs) = elim (cases_Bool (is_feed b)) [
  | inl e ↦ (let at : position_or_len is_feed (b ∷ bs) ≡ 0 = rw e refl in
      rw at (record { unfed = refl; within = omega arith; fed = λ less. ap (λ x. x ∷ bs) (eqb-true b 10 e) }))
  | inr e ↦ (let at : position_or_len is_feed (b ∷ bs) ≡ suc (position_or_len is_feed bs) = rw e (omega arith) in
      rw at (cut_more b bs (position_or_len is_feed bs) e (cut bs)))
]

-- where `position` stands as a count
pub count_at : (bytes : List ℕ) (feed : Option ℕ) → feed ≡ position (λ b. b == 10) bytes
    → unwrap_or feed (length bytes) ≡ position_or_len (λ b. b == 10) bytes
count_at bytes feed is = elim (cases_Bool (nat_lt (position_or_len is_feed bytes) (length bytes))) [
  | inl e ↦ rw (is, e) refl
  | inr e ↦ (let n = cut bytes in let le = ltb-false _ _ e in let w = n.within in rw (is, e) (omega (arith, le, w)))
]

pub none_at : (bytes : List ℕ) (feed : Option ℕ) → feed ≡ position (λ b. b == 10) bytes → is_none feed ≡ true
    → length bytes ≤ position_or_len (λ b. b == 10) bytes
none_at bytes feed is none = elim (cases_Bool (nat_lt (position_or_len is_feed bytes) (length bytes))) [
  | inl e ↦ (let some : feed ≡ Some (position_or_len is_feed bytes) = rw (is, e) refl in let bad : true ≡ false = sym none ∙ ap is_none some in cc)
  | inr e ↦ ltb-false _ _ e
]

pub some_at : (bytes : List ℕ) (feed : Option ℕ) → feed ≡ position (λ b. b == 10) bytes → is_none feed ≡ false
    → position_or_len (λ b. b == 10) bytes < length bytes
some_at bytes feed is some = elim (cases_Bool (nat_lt (position_or_len is_feed bytes) (length bytes))) [
  | inl e ↦ ltb-true _ _ e
  | inr e ↦ (let none : feed ≡ None = rw (is, e) refl in let bad : false ≡ true = sym some ∙ ap is_none none in cc)
]

-- ---- a front and what is moved after it

unfed_both : (front bytes : List ℕ) → has_feed front ≡ false → has_feed bytes ≡ false → has_feed (front ++ bytes) ≡ false
unfed_both front bytes p q = list_any-append is_feed front bytes ∙ or_from (has_feed front) (has_feed bytes) p q

pub long_front : (front ahead : List ℕ) (count : ℕ) → IsFront front → Cuts ahead count → MAX_TEXT - length front < count
    → IsLongFront (front ++ ahead)
long_front front ahead count f h long = record {
  front = front ++ take count ahead;
  rest = drop count ahead;
  parted = ap (λ xs. front ++ xs) (sym (take-append-drop count ahead)) ∙ sym (append_assoc front (take count ahead) (drop count ahead));
  unfed = unfed_both front (take count ahead) f.unfed h.unfed;
  long = (let w = h.within in omega (arith, w, long, length-append front (take count ahead), length-take count ahead));
}

pub moved_front : (front ahead : List ℕ) (count : ℕ) → IsFront front → Cuts ahead count → count ≤ MAX_TEXT - length front
    → IsFront (front ++ take count ahead)
moved_front front ahead count f h fits = record {
  unfed = unfed_both front (take count ahead) f.unfed h.unfed;
  short = (let w = h.within in let s = f.short in omega (arith, w, s, fits, length-append front (take count ahead), length-take count ahead));
}

-- ---- lines that are taken

pub long_text : (text more : List ℕ) → IsLongFront text → IsTooLong (text ++ more)
long_text text more h = long_of h.front (h.rest ++ more) (text ++ more) (ap (λ xs. xs ++ more) h.parted ∙ append_assoc h.front h.rest more) h.unfed h.long
  where
    long_of : (front rest all : List ℕ) → all ≡ front ++ rest → has_feed front ≡ false → MAX_TEXT < length front → IsTooLong all
    long_of [] rest all is unfed long = absurd (omega (arith, long))
    long_of (b ∷ bs) rest all is unfed long =
        let h = lines_begin b bs rest unfed in
        record {
          line = (b ∷ bs) ++ h.more;
          rest = h.rest;
          first = ap lines is ∙ h.is;
          long = omega (arith, long, length-append (b ∷ bs) h.more);
        }

pub has_long : (old now : Option (List ℕ)) (front : List ℕ) → Consumes old now front → IsLongFront front → HasLongLine old
has_long None now front p h = tt
has_long (Some t) None front p h = absurd p
has_long (Some t) (Some xs) front p h = rw p (long_text front xs h)

-- a line feed was met
takes_line : (old now : Option (List ℕ)) (front line ahead : List ℕ) → Consumes old now front
    → has_feed line ≡ false → front ≡ line ++ 10 ∷ ahead → TakesLine line old (prepend_known ahead now)
takes_line None now front line ahead p unfed is = tt
takes_line (Some t) None front line ahead p unfed is = absurd p
takes_line (Some t) (Some xs) front line ahead p unfed is =
    let all : t ≡ line ++ 10 ∷ (ahead ++ xs) = p ∙ ap (λ ys. ys ++ xs) is ∙ append_assoc line (10 ∷ ahead) xs in
    ap lines all ∙ lines_first line (ahead ++ xs) unfed

-- the end was met
takes_last : (old now : Option (List ℕ)) (line ahead : List ℕ) → Consumes old now line → IsAtEnd now
    → has_feed line ≡ false → (length line == 0) ≡ false → ahead ≡ [] → TakesLine line old (prepend_known ahead now)
takes_last None now line ahead p end unfed some none = tt
takes_last (Some t) None line ahead p end unfed some none = absurd p
takes_last (Some t) (Some xs) [] ahead p end unfed some none = let bad : true ≡ false = some in cc
takes_last (Some t) (Some xs) (b ∷ bs) ahead p end unfed some none =
    let all : t ≡ b ∷ bs = p ∙ ap (λ ys. (b ∷ bs) ++ ys) end ∙ append-nil (b ∷ bs) in
    let left : ahead ++ xs ≡ [] = rw (none, end) refl in
    ap lines all ∙ lines_last b bs unfed ∙ ap (λ ys. (b ∷ bs) ∷ lines ys) (sym left)

pub takes_none : (old now : Option (List ℕ)) (line : List ℕ) → Consumes old now line → IsAtEnd now → (length line == 0) ≡ true → HasNoLine old
takes_none None now line p end none = tt
takes_none (Some t) None line p end none = absurd p
takes_none (Some t) (Some xs) [] p end none = let all : t ≡ [] = p ∙ end in ap lines all
takes_none (Some t) (Some xs) (b ∷ bs) p end none = let zero : length (b ∷ bs) ≡ 0 = eqb-true (length (b ∷ bs)) 0 none in absurd (omega (arith, zero))

-- ---- bytes after a place

pub seen_ahead : (seen bytes : List ℕ) (start : ℕ) → seen ≡ bytes → take (length seen - start) (drop start seen) ≡ drop start bytes
seen_ahead seen bytes start is = take_all (length seen - start) (drop start seen) (omega (arith, length-drop start seen)) ∙ ap (drop start) is

pub cuts_of : (seen ahead : List ℕ) (feed : Option ℕ) (count : ℕ) → seen ≡ ahead → feed ≡ position (λ b. b == 10) seen
    → count ≡ unwrap_or feed (length seen) → Cuts ahead count
cuts_of seen ahead feed count is found counted =
    let n : count ≡ position_or_len is_feed ahead = counted ∙ count_at seen feed found ∙ ap (position_or_len is_feed) is in
    rw n (cut ahead)

pub none_left : (seen ahead : List ℕ) (feed : Option ℕ) (count start : ℕ) (bytes : List ℕ) → seen ≡ ahead → feed ≡ position (λ b. b == 10) seen
    → count ≡ unwrap_or feed (length seen) → is_none feed ≡ true → length ahead ≤ count
none_left seen ahead feed count start bytes is found counted none =
    let n : count ≡ position_or_len is_feed seen = counted ∙ count_at seen feed found in
    rw (n, ← is) (none_at seen feed found none)

pub some_left : (seen ahead : List ℕ) (feed : Option ℕ) (count : ℕ) → seen ≡ ahead → feed ≡ position (λ b. b == 10) seen
    → count ≡ unwrap_or feed (length seen) → is_none feed ≡ false → count < length ahead
some_left seen ahead feed count is found counted some =
    let n : count ≡ position_or_len is_feed seen = counted ∙ count_at seen feed found in
    rw (n, ← is) (some_at seen feed found some)

-- ---- a line feed is met, and more is moved

took : (some : Bool) (front ahead line left : List ℕ) (before now : Option (List ℕ)) → some ≡ true → MovesFront (Ok some) front ahead line left
    → Consumes before now (front ++ ahead) → TakesLine line before (prepend_known left now)
took some front ahead line left before now is moved p =
    let m : MovesFront (Ok true) front ahead line left = rw is at moved in
    takes_line before now (front ++ ahead) line left p m.0.unfed m.1

-- what was moved is the line, and nothing of the next one has come
took_swapped : (some : Bool) (front ahead line left x y : List ℕ) (before now : Option (List ℕ)) → some ≡ true → MovesFront (Ok some) front ahead line left
    → Consumes before now (front ++ ahead) → x ≡ line → y ≡ [] → TakesLine x before (prepend_known (y ++ left) now)
took_swapped some front ahead line left x y before now is moved p ex ey = rw (ex, ey) (took some front ahead line left before now is moved p)

-- no line feed is met, and all is moved
pub moved_all : (some : Bool) (front ahead line left : List ℕ) → some ≡ false → MovesFront (Ok some) front ahead line left
    → IsFront line × (left ≡ []) × (front ++ ahead ≡ line)
moved_all some front ahead line left is moved =
    let m : MovesFront (Ok false) front ahead line left = rw is at moved in m

-- nothing is taken
pub stays : (old next : Option (List ℕ)) (front left : List ℕ) → Consumes old next front → left ≡ front → Keeps old (prepend_known left next)
stays None next front left p is = tt
stays (Some t) None front left p is = absurd p
stays (Some t) (Some xs) front left p is = ap (λ ys. ys ++ xs) is ∙ sym p

pub kept_after : (old now next : Option (List ℕ)) (front : List ℕ) → Consumes old now front → Keeps now next → Consumes old next front
kept_after None now next front p q = tt
kept_after (Some t) None next front p q = absurd p
kept_after (Some t) (Some xs) None front p q = absurd q
kept_after (Some t) (Some xs) (Some ys) front p q = p ∙ ap (λ zs. front ++ zs) (sym q)

pub same_front : (old now : Option (List ℕ)) (front line : List ℕ) → Consumes old now front → front ≡ line → Consumes old now line
same_front old now front line p is = subst (Consumes old now) is p

pub moved_after : (front ahead line left : List ℕ) → left ≡ [] → front ++ ahead ≡ line → line ++ left ≡ front ++ ahead
moved_after front ahead line left none all = ap (λ xs. line ++ xs) none ∙ append-nil line ∙ sym all

pub drop_all_after : (bytes ahead : List ℕ) (start : ℕ) {count : ℕ} → drop start bytes ≡ ahead → length ahead ≤ count → drop (start + count) bytes ≡ []
drop_all_after bytes ahead start {count} is all =
    sym (drop-drop count start bytes) ∙ ap (drop count) is ∙ drop_all count ahead all

pub fed_after : (line ahead bytes moved : List ℕ) (start count : ℕ) → Cuts ahead count → count < length ahead → drop start bytes ≡ ahead
    → moved ≡ line ++ take count ahead → line ++ ahead ≡ moved ++ 10 ∷ drop (start + count + 1) bytes
fed_after line ahead bytes moved start count cuts less is items =
    let after : drop (suc count) ahead ≡ drop (start + count + 1) bytes =
    ap (drop (suc count)) (sym is) ∙ drop-drop (suc count) start bytes ∙ ap (λ n. drop n bytes) (omega arith) in
    ap (λ xs. line ++ xs) (cuts.fed less) ∙ sym (append_assoc line (take count ahead) (10 ∷ drop (suc count) ahead))
    ∙ ap (λ xs. xs ++ 10 ∷ drop (suc count) ahead) (sym items) ∙ ap (λ xs. moved ++ 10 ∷ xs) after

took_last : (old now next : Option (List ℕ)) (line more left : List ℕ) → Consumes old now line → Consumes now next more
    → more ≡ [] → IsAtEnd now → has_feed line ≡ false → (length line == 0) ≡ false → left ≡ []
    → TakesLine line old (prepend_known left next)
took_last None now next line more left p q none end unfed some empty = tt
took_last (Some t) None next line more left p q none end unfed some empty = absurd p
took_last (Some t) (Some xs) None line more left p q none end unfed some empty = absurd q
took_last (Some t) (Some xs) (Some ys) line more left p q none end unfed some empty =
    let over : ys ≡ [] = sym (q ∙ ap (λ zs. zs ++ ys) none) ∙ end in
    let all : t ≡ line ++ ys = p ∙ ap (λ zs. line ++ zs) (q ∙ ap (λ zs. zs ++ ys) none) in
    takes_last (Some t) (Some ys) line left all over unfed some empty

took_last_swapped : (old now next : Option (List ℕ)) (line more x y : List ℕ) → Consumes old now line → Consumes now next more
    → more ≡ [] → IsAtEnd now → has_feed line ≡ false → x ≡ line → y ≡ [] → (length x == 0) ≡ false
    → TakesLine x old (prepend_known (y ++ more) next)
took_last_swapped old now next line more x y p q none end unfed ex ey some =
    let filled : (length line == 0) ≡ false = ap (λ xs. length xs == 0) (sym ex) ∙ some in
    rw (ex, ey) (took_last old now next line more more p q none end unfed filled none)

-- ---- what a call that takes the next line does

no_bytes : (xs : List ℕ) → (length xs == 0) ≡ true → xs ≡ []
no_bytes [] e = refl
no_bytes (b ∷ bs) e = let zero : length (b ∷ bs) ≡ 0 = eqb-true (length (b ∷ bs)) 0 e in absurd (omega (arith, zero))

pub kept_parts : (front ahead line left : List ℕ) → line ≡ front → left ≡ ahead → line ++ left ≡ front ++ ahead
kept_parts front ahead line left p q = rw (p, q) refl

abbrev said : Bool → Result Bool LineFault
said b = Ok b

apart : said true ≡ said false → ⊥
apart is = let bad : false ≡ true = cc in false≢true bad

advanced : (line : List ℕ) (old new : Option (List ℕ)) → TakesLine line old new → length line ≤ MAX_TEXT → Advances (Ok true) line old new
advanced line old new taken short = record {
  taken = λ is. taken;
  short = λ is. short;
  end = λ is. absurd (apart is);
  stays = λ is. absurd (apart is);
  long = λ is. (let never : ⊥ = cc in absurd never);
  fault = tt;
  none = λ other. absurd (other refl);
}

advanced_none : (line : List ℕ) (old new : Option (List ℕ)) → HasNoLine old → Keeps old new → line ≡ [] → Advances (Ok false) line old new
advanced_none line old new end kept none = record {
  taken = λ is. absurd (apart (sym is));
  short = λ is. absurd (apart (sym is));
  end = λ is. end;
  stays = λ is. kept;
  long = λ is. (let never : ⊥ = cc in absurd never);
  fault = tt;
  none = λ other. none;
}

pub advanced_fault : (r : Result Bool LineFault) (fault : LineFault) (line : List ℕ) (old new : Option (List ℕ)) → IsErrAnd r (λ x. x ≡ fault)
    → Keeps old new → line ≡ [] → (fault ≡ LongLine → HasLongLine old) → Advances r line old new
advanced_fault (Ok v) fault line old new is kept none long = absurd is
advanced_fault (Err e) fault line old new is kept none long = record {
  taken = λ other. (let never : ⊥ = cc in absurd never);
  short = λ other. (let never : ⊥ = cc in absurd never);
  end = λ other. (let never : ⊥ = cc in absurd never);
  stays = λ other. (let never : ⊥ = cc in absurd never);
  long = λ same. (let named : e ≡ fault = is in long cc);
  fault = kept;
  none = λ other. none;
}

-- a line feed is met: what was moved is the line, and nothing of the next one has come
pub advanced_line : (some : Bool) (front ahead line left x y : List ℕ) (before now : Option (List ℕ)) → some ≡ true → MovesFront (Ok some) front ahead line left
    → Consumes before now (front ++ ahead) → x ≡ line → y ≡ [] → Advances (Ok true) x before (prepend_known (y ++ left) now)
advanced_line some front ahead line left x y before now is moved p ex ey =
    let m : MovesFront (Ok true) front ahead line left = rw is at moved in
    advanced x before (prepend_known (y ++ left) now) (took_swapped some front ahead line left x y before now is moved p ex ey) (rw ex m.0.short)

-- no byte has come, of this line or of another
none_taken : (old now next : Option (List ℕ)) (line more y : List ℕ) → Consumes old now line → Consumes now next more
    → line ≡ [] → more ≡ [] → y ≡ [] → Keeps old (prepend_known (y ++ more) next)
none_taken None now next line more y p q first second third = tt
none_taken (Some t) None next line more y p q first second third = absurd p
none_taken (Some t) (Some xs) None line more y p q first second third = absurd q
none_taken (Some t) (Some xs) (Some ys) line more y p q first second third =
    let one : t ≡ xs = p ∙ ap (λ zs. zs ++ xs) first in
    let two : xs ≡ ys = q ∙ ap (λ zs. zs ++ ys) second in
    rw (third, second) (sym (one ∙ two))

-- the end is met: what has come is the last line, unless it has no byte
pub advanced_last : (some empty : Bool) (len : ℕ) (old now next : Option (List ℕ)) (line more x y : List ℕ) → some ≡ false → empty ≡ (len == 0) → len ≡ length x
    → Consumes old now line → Consumes now next more → (said some ≢ said true → more ≡ []) → (said some ≡ said false → IsAtEnd now)
    → IsFront line → x ≡ line → y ≡ [] → Advances (Ok (not empty)) x old (prepend_known (y ++ more) next)
advanced_last some false len old now next line more x y off blank same p q none end f ex ey =
    let byte : (length x == 0) ≡ false = ap (λ n. n == 0) (sym same) ∙ sym blank in
    advanced x old (prepend_known (y ++ more) next)
    (took_last_swapped old now next line more x y p q (none (λ on. let bad : false ≡ true = cc in false≢true bad)) (end (ap said off)) f.unfed ex ey byte)
    (rw ex f.short)
advanced_last some true len old now next line more x y off blank same p q none end f ex ey =
    let all : (length x == 0) ≡ true = ap (λ n. n == 0) (sym same) ∙ sym blank in
    let nothing : more ≡ [] = none (λ on. let bad : false ≡ true = cc in false≢true bad) in
    advanced_none x old (prepend_known (y ++ more) next)
    (takes_none old now line p (end (ap said off)) (ap (λ xs. length xs == 0) (sym ex) ∙ all))
    (none_taken old now next line more y p q (sym ex ∙ no_bytes x all) nothing ey)
    (no_bytes x all)

-- ---- a line that is ready

-- the first line feed parts bytes in one way
pub one_rest : (line rest other more : List ℕ) → has_feed line ≡ false → has_feed other ≡ false → line ++ 10 ∷ rest ≡ other ++ 10 ∷ more → rest ≡ more
one_rest [] rest [] more p q is = cc
one_rest [] rest (c ∷ cs) more p q is =
    let parts = or_parts (c == 10) (has_feed cs) q in
    let same : 10 ≡ c = cc in
    let bad : true ≡ false = ap (λ b. b == 10) same ∙ parts.0 in cc
one_rest (b ∷ bs) rest [] more p q is =
    let parts = or_parts (b == 10) (has_feed bs) p in
    let same : b ≡ 10 = cc in
    let bad : true ≡ false = sym (ap (λ c. c == 10) same) ∙ parts.0 in cc
one_rest (b ∷ bs) rest (c ∷ cs) more p q is =
    let first = or_parts (b == 10) (has_feed bs) p in
    let second = or_parts (c == 10) (has_feed cs) q in
    let tails : bs ++ 10 ∷ rest ≡ cs ++ 10 ∷ more = cc in
    one_rest bs rest cs more first.1 second.1 tails

-- what follows a front without a line feed
pub after_front : (front bytes line rest : List ℕ) → has_feed front ≡ false → has_feed line ≡ false → front ++ bytes ≡ line ++ 10 ∷ rest
    → (left : List ℕ) × (has_feed left ≡ false) × (bytes ≡ left ++ 10 ∷ rest)
after_front [] bytes line rest p q is = (line, q, is)
after_front (b ∷ bs) bytes [] rest p q is =
    let parts = or_parts (b == 10) (has_feed bs) p in
    let same : b ≡ 10 = cc in
    let bad : true ≡ false = sym (ap (λ c. c == 10) same) ∙ parts.0 in cc
after_front (b ∷ bs) bytes (c ∷ cs) rest p q is =
    let first = or_parts (b == 10) (has_feed bs) p in
    let second = or_parts (c == 10) (has_feed cs) q in
    let tails : bs ++ bytes ≡ cs ++ 10 ∷ rest = cc in
    after_front bs bytes cs rest first.1 second.1 tails

-- a line feed stands among bytes that one parts
pub feed_among : (line rest : List ℕ) → has_feed (line ++ 10 ∷ rest) ≡ true
feed_among [] rest = refl
feed_among (b ∷ bs) rest = elim (cases_Bool (b == 10)) [
  | inl e ↦ rw e refl
  | inr e ↦ rw e (feed_among bs rest)
]

-- what follows the first line, also where a reader has more
pub fed_taken : (line rest old now : List ℕ) (remaining : Option (List ℕ)) → has_feed line ≡ false → old ≡ line ++ 10 ∷ rest → now ≡ rest
    → TakesLine line (prepend_known old remaining) (prepend_known now remaining)
fed_taken line rest old now None unfed parted is = tt
fed_taken line rest old now (Some text) unfed parted is =
    ap (λ xs. lines (xs ++ text)) parted ∙ ap lines (append_assoc line (10 ∷ rest) text) ∙ lines_first line (rest ++ text) unfed
    ∙ ap (λ xs. line ∷ lines (xs ++ text)) (sym is)

-- what stands before the first line feed
pub fed_at : (seen now : List ℕ) (feed : ℕ) → seen ≡ now → Some feed ≡ position (λ b. b == 10) seen → IsFed (take feed seen) now
fed_at seen now feed same is =
    let at : feed ≡ position_or_len is_feed seen = count_at seen (Some feed) is in
    let less : position_or_len is_feed seen < length seen = some_at seen (Some feed) is refl in
    let c : Cuts seen feed = subst (λ (n : ℕ). Cuts seen n) (sym at) (cut seen) in
    record { rest = drop (suc feed) seen; unfed = c.unfed; parted = sym same ∙ c.fed (omega (arith, at, less)) }

-- and what stands after it
pub past_feed : (seen now bytes : List ℕ) (start feed : ℕ) (line rest : List ℕ) → seen ≡ now → drop start bytes ≡ now
    → Some feed ≡ position (λ b. b == 10) seen → has_feed line ≡ false → now ≡ line ++ 10 ∷ rest → drop (start + (feed + 1)) bytes ≡ rest
unfolding fed_at
past_feed seen now bytes start feed line rest same view is unfed parted =
    let f = fed_at seen now feed same is in
    let next : f.rest ≡ rest = one_rest (take feed seen) f.rest line rest f.unfed unfed (sym f.parted ∙ parted) in
    let one : feed + 1 ≡ suc feed = omega arith in
    ap (λ n. drop (start + n) bytes) one ∙ sym (drop-drop (suc feed) start bytes) ∙ ap (drop (suc feed)) (view ∙ sym same) ∙ next

pub no_feed : (seen now line rest : List ℕ) (feed : Option ℕ) → seen ≡ now → feed ≡ position (λ b. b == 10) seen → feed ≡ None → now ≡ line ++ 10 ∷ rest → ⊥
no_feed seen now line rest feed same found none parted =
    let all = none_at seen feed found (ap is_none none) in
    let unfed : has_feed seen ≡ false = ap has_feed (sym (take_all (position_or_len is_feed seen) seen all)) ∙ (cut seen).unfed in
    let fed : has_feed seen ≡ true = ap has_feed (same ∙ parted) ∙ feed_among line rest in
    let bad : true ≡ false = sym fed ∙ unfed in cc
