-- The bytes of a state, read from the front.
use Rattle.std.proofs.Common.{◌≡◌, ℕ, zero, suc, ◌*◌, ◌^◌, ◌<◌, ◌≤◌, Bool, true, false, List, [], ◌∷◌, ◌++◌, Option, None, Some, append_assoc, append-nil, length, get_or, nat_eq, refl, sym, ap, subst, ◌∙◌, arith}
use Rattle.std.proofs.lemmas.Grind.{get_or_default_zero}
use Rattle.std.proofs.lemmas.List.{length-append}
use Rattle.std.specs.List.{flat_map, AllByRecursion}
use Rattle.ic_flat.specs.declared.word.Word.{Word}
use Rattle.ic_state.specs.Numbers.{eight_bytes}
use Rattle.ic_state.specs.Words.{width, word_bytes, IsKeptWord}
use Rattle.std.specs.Prelude.{IfSome}
use Rattle.ic_state.specs.State.{Kept, IsKept, ended_number, format_number, front_length, head_numbers, plain_bytes, rounds_numbers, state_bytes}
use Rattle.ic_state.specs.declared.rounds.TheConstants.{BY_ROUNDS}
use Rattle.ic_state.proofs.NumberLemmas.{eight_bytes-injective, fronts, length-eight_bytes}
use Rattle.ic_state.proofs.ListLemmas.{length-spelled, same_spelled}
use Rattle.ic_state.proofs.WordLemmas.{word_bytes-injective, length-word_bytes}

abbrev pub IsSmall : ℕ → Type 0
IsSmall n = n < 2 ^ 64

ended_small : (ended : Bool) → ended_number ended < 2
ended_small true = omega arith
ended_small false = omega arith

-- the number with which a state begins tells its form, and isn't that of one by rounds
pub format_small : (narrow : Bool) → format_number narrow < 2 ^ 64
format_small true = omega arith
format_small false = omega arith

pub one_form : (a b : Bool) → format_number a ≡ format_number b → a ≡ b
one_form true false e = absurd (omega (arith, e))
one_form false true e = absurd (omega (arith, e))
one_form _ _ e = refl

no_rounds : (narrow : Bool) → format_number narrow ≡ BY_ROUNDS → ⊥
no_rounds true e = omega (arith, e)
no_rounds false e = omega (arith, e)

head_fits : (k : Kept) → IsKept k → AllByRecursion IsSmall (head_numbers k)
head_fits k is = (format_small k.narrow, (is.terms, (is.interactions, (omega (arith, ended_small k.ended), (is.rules, (is.count, (is.millis, tt)))))))

pub same_numbers : (xs ys : List ℕ) (a b : List ℕ) → AllByRecursion IsSmall xs → AllByRecursion IsSmall ys → length xs ≡ length ys
    → flat_map eight_bytes xs ++ a ≡ flat_map eight_bytes ys ++ b → (xs ≡ ys) × (a ≡ b)
same_numbers xs ys a b = same_spelled eight_bytes 8 length-eight_bytes IsSmall eight_bytes-injective xs ys a b

pub same_words : (narrow : Bool) (xs ys : List Word) (a b : List ℕ) → AllByRecursion (IsKeptWord narrow) xs → AllByRecursion (IsKeptWord narrow) ys → length xs ≡ length ys
    → flat_map (word_bytes narrow) xs ++ a ≡ flat_map (word_bytes narrow) ys ++ b → (xs ≡ ys) × (a ≡ b)
same_words narrow xs ys a b = same_spelled (word_bytes narrow) (width narrow) (length-word_bytes narrow) (IsKeptWord narrow) (word_bytes-injective narrow) xs ys a b

-- the parts of the bytes of a state
abbrev after_head : Kept → List ℕ
after_head k = flat_map eight_bytes k.by_rule ++ (flat_map (word_bytes k.narrow) k.words ++ k.text)

pub too_short : (k : Kept) (bytes : List ℕ) → length bytes < 8 * 7 → bytes ≡ plain_bytes k → ⊥
too_short k bytes short is = omega (arith, short, ap length is, length-append (flat_map eight_bytes (head_numbers k)) (after_head k), length-spelled eight_bytes 8 length-eight_bytes (head_numbers k))

-- What was read of the head is that of each state that has these bytes after what is said of rounds.
module _ (head bytes rest : List ℕ) (long : length head ≡ 7) (small : AllByRecursion IsSmall head) (read : bytes ≡ flat_map eight_bytes head ++ rest)
    (k : Kept) (kept : IsKept k) (is : bytes ≡ plain_bytes k) where
  pub head_is : (head ≡ head_numbers k) × (rest ≡ after_head k)
  head_is = same_numbers head (head_numbers k) rest (after_head k) small (head_fits k kept) long (sym read ∙ is)

  pub format_is : get_or head 0 0 ≡ format_number k.narrow
  format_is = ap (λ (l : List ℕ). get_or l 0 0) head_is.0

  pub ended_is : get_or head 3 0 ≤ 1
  ended_is = omega (arith, ap (λ (l : List ℕ). get_or l 3 0) head_is.0, ended_small k.ended)

  pub interactions_are : get_or head 2 0 ≡ k.interactions
  interactions_are = ap (λ (l : List ℕ). get_or l 2 0) head_is.0

  pub ended_at : get_or head 3 0 ≡ ended_number k.ended
  ended_at = ap (λ (l : List ℕ). get_or l 3 0) head_is.0

  pub millis_are : get_or head 6 0 ≡ k.millis
  millis_are = ap (λ (l : List ℕ). get_or l 6 0) head_is.0

  pub rules_are : get_or head 4 0 ≡ length k.by_rule
  rules_are = ap (λ (l : List ℕ). get_or l 4 0) head_is.0

  pub words_are : get_or head 5 0 ≡ length k.words
  words_are = ap (λ (l : List ℕ). get_or l 5 0) head_is.0

  pub rules_fit : length rest < 8 * get_or head 4 0 → ⊥
  rules_fit short = omega (
    arith,
    short,
    rules_are,
    ap length head_is.1,
    length-append (flat_map eight_bytes k.by_rule) (flat_map (word_bytes k.narrow) k.words ++ k.text),
    length-spelled eight_bytes 8 length-eight_bytes k.by_rule,
  )

  pub words_fit : (narrow : Bool) (by_rule after : List ℕ) → get_or head 0 0 ≡ format_number narrow → length by_rule ≡ get_or head 4 0 → AllByRecursion IsSmall by_rule
      → rest ≡ flat_map eight_bytes by_rule ++ after → length after < width narrow * get_or head 5 0 → ⊥
  words_fit narrow by_rule after form count fits next short =
      let spell = word_bytes k.narrow in
      let both = same_numbers by_rule k.by_rule after (flat_map spell k.words ++ k.text) fits kept.by_rule (count ∙ rules_are) (sym next ∙ head_is.1) in
      let less : length after < width k.narrow * get_or head 5 0 = subst (λ (b : Bool). length after < width b * get_or head 5 0) (one_form narrow k.narrow (sym form ∙ format_is)) short in
      let few : length after < width k.narrow * length k.words = subst (λ (n : ℕ). length after < width k.narrow * n) words_are less in
      omega (arith, few, ap length both.1, length-append (flat_map spell k.words) k.text, length-spelled spell (width k.narrow) (length-word_bytes k.narrow) k.words)

pub ended_told : (b : Bool) (n : ℕ) → n ≡ ended_number b → nat_eq n 1 ≡ b
ended_told true n e = ap (λ (m : ℕ). nat_eq m 1) e
ended_told false n e = ap (λ (m : ℕ). nat_eq m 1) e

one_ended : (a b : Bool) → ended_number a ≡ ended_number b → a ≡ b
one_ended true false e = absurd (omega (arith, e))
one_ended false true e = absurd (omega (arith, e))
one_ended _ _ e = refl

-- ---- what is said of rounds

abbrev tail_numbers : Kept → List ℕ
tail_numbers k = k.terms ∷ k.interactions ∷ ended_number k.ended ∷ length k.by_rule ∷ length k.words ∷ k.millis ∷ []

plain_front : (k : Kept) → plain_bytes k ≡ eight_bytes (format_number k.narrow) ++ (flat_map eight_bytes (tail_numbers k) ++ after_head k)
plain_front k = append_assoc (eight_bytes (format_number k.narrow)) (flat_map eight_bytes (tail_numbers k)) (after_head k)

pub long_plain : (k : Kept) → 56 ≤ length (plain_bytes k)
long_plain k = omega (arith, length-append (flat_map eight_bytes (head_numbers k)) (after_head k), length-spelled eight_bytes 8 length-eight_bytes (head_numbers k))

rounds_front : (made : ℕ) (plain : List ℕ) → flat_map eight_bytes (rounds_numbers (Some made)) ++ plain ≡ eight_bytes BY_ROUNDS ++ (eight_bytes made ++ plain)
rounds_front made plain =
    append_assoc (eight_bytes BY_ROUNDS) (eight_bytes made ++ []) plain
    ∙ ap (λ (l : List ℕ). eight_bytes BY_ROUNDS ++ l) (ap (λ (l : List ℕ). l ++ plain) (append-nil (eight_bytes made)))

-- a number and what comes after it, read from the front
one_number : (m n : ℕ) (a b : List ℕ) → m < 2 ^ 64 → n < 2 ^ 64 → eight_bytes m ++ a ≡ eight_bytes n ++ b → (m ≡ n) × (a ≡ b)
one_number m n a b small little e =
    let parts = fronts (eight_bytes m) (eight_bytes n) a b (length-eight_bytes m ∙ sym (length-eight_bytes n)) e in
    (eight_bytes-injective m n small little parts.0, parts.1)

-- what a state is that says this of rounds
said_so : (k : Kept) (o : Option ℕ) → k.rounds ≡ o → state_bytes k ≡ flat_map eight_bytes (rounds_numbers o) ++ plain_bytes k
said_so k o e = ap (λ (r : Option ℕ). flat_map eight_bytes (rounds_numbers r) ++ plain_bytes k) e

-- the first number tells whether a state is by rounds
pub none_said : (format : ℕ) (bytes after rest : List ℕ) (k : Kept) → format < 2 ^ 64 → bytes ≡ eight_bytes format ++ after → (format ≡ BY_ROUNDS → ⊥) → bytes ++ rest ≡ state_bytes k
    → (None ≡ k.rounds) × (bytes ++ rest ≡ plain_bytes k)
none_said format bytes after rest k small read other is = by k.rounds refl
  where
    by : (o : Option ℕ) → k.rounds ≡ o → (None ≡ k.rounds) × (bytes ++ rest ≡ plain_bytes k)
    by None e = (sym e, is ∙ said_so k None e)
    by (Some made) e =
        let whole = sym (append_assoc (eight_bytes format) after rest) ∙ ap (λ (l : List ℕ). l ++ rest) (sym read) ∙ is ∙ said_so k (Some made) e ∙ rounds_front made (plain_bytes k) in
        absurd (other (one_number format BY_ROUNDS (after ++ rest) (eight_bytes made ++ plain_bytes k) small (omega arith) whole).0)

some_said : (bytes after rest : List ℕ) (k : Kept) (o : Option ℕ) → k.rounds ≡ o → bytes ≡ eight_bytes BY_ROUNDS ++ after → bytes ++ rest ≡ state_bytes k
    → (made : ℕ) × (o ≡ Some made) × (after ++ rest ≡ eight_bytes made ++ plain_bytes k)
some_said bytes after rest k None e read is =
    let whole = sym (append_assoc (eight_bytes BY_ROUNDS) after rest) ∙ ap (λ (l : List ℕ). l ++ rest) (sym read) ∙ is ∙ said_so k None e ∙ plain_front k in
    absurd (no_rounds k.narrow (sym (one_number BY_ROUNDS (format_number k.narrow) (after ++ rest) (flat_map eight_bytes (tail_numbers k) ++ after_head k) (omega arith) (format_small k.narrow) whole).0))
some_said bytes after rest k (Some made) e read is =
    let whole = sym (append_assoc (eight_bytes BY_ROUNDS) after rest) ∙ ap (λ (l : List ℕ). l ++ rest) (sym read) ∙ is ∙ said_so k (Some made) e ∙ rounds_front made (plain_bytes k) in
    (made, refl, (one_number BY_ROUNDS BY_ROUNDS (after ++ rest) (eight_bytes made ++ plain_bytes k) (omega arith) (omega arith) whole).1)

small_made : (o : Option ℕ) (made : ℕ) → o ≡ Some made → IfSome o (λ n. n < 2 ^ 64) → made < 2 ^ 64
small_made None made e small = cc (e)
small_made (Some n) made e small = let same : n ≡ made = cc (e) in omega (arith, same, small)

pub made_said : (format made : ℕ) (bytes after plain rest : List ℕ) (k : Kept) → IsKept k → format ≡ BY_ROUNDS → made < 2 ^ 64 → bytes ≡ eight_bytes format ++ after → after ≡ eight_bytes made ++ plain
    → bytes ++ rest ≡ state_bytes k → (Some made ≡ k.rounds) × (plain ++ rest ≡ plain_bytes k)
made_said format made bytes after plain rest k kept is_format small read then is =
    let said = some_said bytes after rest k k.rounds refl (read ∙ ap (λ (n : ℕ). eight_bytes n ++ after) is_format) is in
    let parts = one_number made said.0 (plain ++ rest) (plain_bytes k) small (small_made k.rounds said.0 said.1 kept.rounds)
    (sym (append_assoc (eight_bytes made) plain rest) ∙ ap (λ (l : List ℕ). l ++ rest) (sym then) ∙ said.2) in
    (ap (λ (n : ℕ). Some n) parts.0 ∙ sym said.1, parts.1)

-- fewer bytes than a number has are fewer than stand before the lists
pub short_front : (bytes : List ℕ) (o : Option ℕ) → length bytes < 8 → length bytes < front_length o
short_front bytes None short = omega (arith, short)
short_front bytes (Some made) short = omega (arith, short)

pub short_said : (format : ℕ) (bytes after rest : List ℕ) (k : Kept) → format ≡ BY_ROUNDS → bytes ≡ eight_bytes format ++ after → length after < 8 → bytes ++ rest ≡ state_bytes k
    → length bytes < front_length k.rounds
short_said format bytes after rest k is_format read short is =
    let said = some_said bytes after rest k k.rounds refl (read ∙ ap (λ (n : ℕ). eight_bytes n ++ after) is_format) is in
    let long : length bytes < 16 = omega (arith, short, ap length read, length-append (eight_bytes format) after, length-eight_bytes format) in
    below k.rounds long
  where
    below : (o : Option ℕ) → length bytes < 16 → length bytes < front_length o
    below None low = omega (arith, low)
    below (Some made) low = omega (arith, low)

-- no state is shorter than what stands before its lists
pub long_state : (k : Kept) → front_length k.rounds ≤ length (state_bytes k)
long_state k = by k.rounds refl
  where
    by : (o : Option ℕ) → k.rounds ≡ o → front_length k.rounds ≤ length (state_bytes k)
    by None e = omega (arith, ap front_length e, ap length (said_so k None e), long_plain k)
    by (Some made) e = omega (
      arith,
      ap front_length e,
      ap length (said_so k (Some made) e ∙ rounds_front made (plain_bytes k)),
      length-append (eight_bytes BY_ROUNDS) (eight_bytes made ++ plain_bytes k),
      length-append (eight_bytes made) (plain_bytes k),
      length-eight_bytes BY_ROUNDS,
      length-eight_bytes made,
      long_plain k,
    )

-- what comes after what is said of rounds is short where all of it is
pub short_plain : (o p : Option ℕ) (bytes plain : List ℕ) → o ≡ p → bytes ≡ flat_map eight_bytes (rounds_numbers o) ++ plain → length plain < 56 → length bytes < front_length p
short_plain None p bytes plain same read short = omega (arith, ap length read, short, ap front_length same)
short_plain (Some made) p bytes plain same read short = omega (
  arith,
  ap length (read ∙ rounds_front made plain),
  length-append (eight_bytes BY_ROUNDS) (eight_bytes made ++ plain),
  length-append (eight_bytes made) plain,
  length-eight_bytes BY_ROUNDS,
  length-eight_bytes made,
  short,
  ap front_length same,
)

one_said : (k other : Kept) → IsKept k → IsKept other → (o : Option ℕ) → k.rounds ≡ o → state_bytes k ≡ state_bytes other → (k.rounds ≡ other.rounds) × (plain_bytes k ≡ plain_bytes other)
one_said k other kept kept_too None e same =
    let bytes = plain_bytes k in
    let all : bytes ++ [] ≡ state_bytes other = append-nil bytes ∙ sym (said_so k None e) ∙ same in
    let said = none_said (format_number k.narrow) bytes (flat_map eight_bytes (tail_numbers k) ++ after_head k) [] other (format_small k.narrow) (plain_front k) (no_rounds k.narrow) all in
    (e ∙ said.0, sym (append-nil bytes) ∙ said.1)
one_said k other kept kept_too (Some made) e same =
    let bytes = state_bytes k in
    let all : bytes ++ [] ≡ state_bytes other = append-nil bytes ∙ same in
    let small = small_made k.rounds made e kept.rounds in
    let said = made_said BY_ROUNDS made bytes (eight_bytes made ++ plain_bytes k) (plain_bytes k) [] other kept_too refl small (said_so k (Some made) e ∙ rounds_front made (plain_bytes k)) refl all in
    (e ∙ said.0, sym (append-nil (plain_bytes k)) ∙ said.1)

-- two states of the same bytes
pub one_state : (k other : Kept) → IsKept k → IsKept other → state_bytes k ≡ state_bytes other → k ≡ other
one_state k other kept kept_too same =
    let said = one_said k other kept kept_too k.rounds refl same in
    let heads = head_is (head_numbers k) (plain_bytes k) (after_head k) refl (head_fits k kept) refl other kept_too said.1 in
    let at = λ (i : ℕ). ap (λ (l : List ℕ). get_or l i 0) heads.0 in
    let narrow : k.narrow ≡ other.narrow = one_form k.narrow other.narrow (at 0) in
    let rules = same_numbers k.by_rule other.by_rule (flat_map (word_bytes k.narrow) k.words ++ k.text) (flat_map (word_bytes other.narrow) other.words ++ other.text)
    kept.by_rule kept_too.by_rule (at 4) heads.1 in
    let words = same_words k.narrow k.words other.words k.text other.text kept.words (subst (λ (b : Bool). AllByRecursion (IsKeptWord b) other.words) (sym narrow) kept_too.words) (at 5)
    (rules.1 ∙ ap (λ (b : Bool). flat_map (word_bytes b) other.words ++ other.text) (sym narrow)) in
    let terms : k.terms ≡ other.terms = at 1 in
    let interactions : k.interactions ≡ other.interactions = at 2 in
    let ended : k.ended ≡ other.ended = one_ended k.ended other.ended (at 3) in
    let millis : k.millis ≡ other.millis = at 6 in
    let by_rule : k.by_rule ≡ other.by_rule = rules.0 in
    let ws : k.words ≡ other.words = words.0 in
    let text : k.text ≡ other.text = words.1 in
    let rounds : k.rounds ≡ other.rounds = said.0 in
    λ i. record { text = text i; words = ws i; terms = terms i; interactions = interactions i; by_rule = by_rule i; ended = ended i; millis = millis i; rounds = rounds i; narrow = narrow i }

-- what an index reads, whatever stands past the end
pub read_at : (xs : List ℕ) (i x : ℕ) → x ≡ get_or xs i x → i < length xs → x ≡ get_or xs i 0
read_at xs i x is below = is ∙ get_or_default_zero xs i x below

-- a number that is 1 or 0 is told by whether it is 1
pub ended_fits : (n : ℕ) → n ≤ 1 → n ≡ ended_number (nat_eq n 1)
ended_fits zero low = refl
ended_fits (suc zero) low = refl
ended_fits (suc (suc n)) low = absurd (omega (arith, low))

-- a list of seven numbers is these
pub seven : (xs : List ℕ) → length xs ≡ 7
    → xs ≡ get_or xs 0 0 ∷ get_or xs 1 0 ∷ get_or xs 2 0 ∷ get_or xs 3 0 ∷ get_or xs 4 0 ∷ get_or xs 5 0 ∷ get_or xs 6 0 ∷ []
seven (a ∷ b ∷ c ∷ d ∷ e ∷ f ∷ g ∷ []) long = refl
seven [] long = absurd (omega (arith, long))
seven (a ∷ []) long = absurd (omega (arith, long))
seven (a ∷ b ∷ []) long = absurd (omega (arith, long))
seven (a ∷ b ∷ c ∷ []) long = absurd (omega (arith, long))
seven (a ∷ b ∷ c ∷ d ∷ []) long = absurd (omega (arith, long))
seven (a ∷ b ∷ c ∷ d ∷ e ∷ []) long = absurd (omega (arith, long))
seven (a ∷ b ∷ c ∷ d ∷ e ∷ f ∷ []) long = absurd (omega (arith, long))
seven (a ∷ b ∷ c ∷ d ∷ e ∷ f ∷ g ∷ h ∷ rest) long = absurd (omega (arith, long))

-- in how many bytes the numbers stand that come before the lists
pub front_is_long : (k : Kept) → length (flat_map eight_bytes (rounds_numbers k.rounds ++ head_numbers k)) ≡ front_length k.rounds
front_is_long k = by k.rounds
  where
    by : (o : Option ℕ) → length (flat_map eight_bytes (rounds_numbers o ++ head_numbers k)) ≡ front_length o
    by None = omega (arith, length-spelled eight_bytes 8 length-eight_bytes (rounds_numbers None ++ head_numbers k))
    by (Some made) = omega (arith, length-spelled eight_bytes 8 length-eight_bytes (rounds_numbers (Some made) ++ head_numbers k))
