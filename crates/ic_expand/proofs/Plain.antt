-- A text without comments, long names and generic rules is written as it is; and comments mean nothing.
use Rattle.std.proofs.Common.{◌≡◌, ℕ, ◌+◌, ◌≤◌, ◌==◌, Bool, true, false, not, cond, List, [], ◌∷◌, ◌++◌, length, Option, None, Result, Ok, Err, codes, refl, sym, ap, ◌∙◌, subst, append-nil, nat_le, arith}
use Rattle.std.specs.List.{concat, fold, list_any}
use Rattle.std.specs.Str.{bytes_eq}
use Rattle.std.proofs.lemmas.Bool.{false≢true, or_parts}
use Rattle.std.proofs.lemmas.Bool.Decides.{nat_tests}
use Rattle.std.proofs.lemmas.Slice.Eq.{bytes_eq-Decides}
use Rattle.ic_text.specs.Token.{is_blank}
use Rattle.ic_expand.specs.declared.fault.Reason.{Reason}
use Rattle.ic_expand.specs.declared.fault.Reason.TheVariants.{TextBytes, NoText}
use Rattle.ic_expand.specs.declared.fault.ExpandFault.TheVariants.{Refused}
use Rattle.ic_expand.specs.declared.fault.ExpandFault.{ExpandFault}
use Rattle.ic_expand.specs.declared.names.Spelling.TheVariants.{Long}
use Rattle.ic_expand.specs.declared.spot.Spot.{Spot}
use Rattle.ic_expand.specs.declared.spot.Spot.TheVariants.{Elsewhere, Opening, Asked, Given}
use Rattle.ic_expand.specs.declared.spot.Kind.TheVariants.{Copier, Eraser}
use Rattle.ic_expand.specs.declared.limits.TheConstants.{MAX_RICH_TEXT}
use Rattle.ic_expand.specs.Begins.{blanks_before, is_begun}
use Rattle.ic_expand.specs.Comments.{uncommented, uncommented_from}
use Rattle.ic_expand.specs.Pieces.{first_byte, pieces}
use Rattle.ic_expand.specs.Spots.{after, after_first, after_other, opens_rule}
use Rattle.ic_expand.specs.Names.{is_named, is_spelt, names, told_word, with_word}
use Rattle.ic_expand.specs.Expanding.{Sheet, before_text, body_expanded, expanded, kept_word, piece_text, refusal, sheet_of, unless_refused, with_generic, written, written_pieces}
use Rattle.ic_expand.proofs.Cutting.{concat-pieces}

le-true : (m n : ℕ) → m ≤ n → nat_le m n ≡ true
le-true m n less = grind (arith, nat_tests)

-- a text that isn't too long
fits : (text : List ℕ) → length text ≤ MAX_RICH_TEXT → expanded text ≡ body_expanded (uncommented text)
fits text short = ap (λ (b : Bool). cond b (body_expanded (uncommented text)) (Err (Refused TextBytes MAX_RICH_TEXT))) (le-true (length text) MAX_RICH_TEXT short)

-- ---- comments

-- a text without the sign of a comment
pub none-commented : (text : List ℕ) → list_any (λ b. b == 35) text ≡ false → uncommented text ≡ text
none-commented [] none = refl
none-commented (b ∷ bs) none =
    let parts = or_parts (b == 35) (list_any (λ c. c == 35) bs) none in
    by_byte (b == 35) parts.0 (none-commented bs parts.1)
  where
    by_byte : (t : Bool) → t ≡ false → uncommented_from false bs ≡ bs → cond t (uncommented_from true bs) (b ∷ uncommented_from false bs) ≡ b ∷ bs
    by_byte true is rest = absurd (false≢true (sym is))
    by_byte false is rest = ap (λ l. b ∷ l) rest

-- what stands before a sign of a comment stays
before-commented : (a c : List ℕ) → list_any (λ b. b == 35) a ≡ false → uncommented (a ++ c) ≡ a ++ uncommented c
before-commented [] c none = refl
before-commented (b ∷ bs) c none =
    let parts = or_parts (b == 35) (list_any (λ d. d == 35) bs) none in
    by_byte (b == 35) parts.0 (before-commented bs c parts.1)
  where
    by_byte : (t : Bool) → t ≡ false → uncommented_from false (bs ++ c) ≡ bs ++ uncommented_from false c → cond t (uncommented_from true (bs ++ c)) (b ∷ uncommented_from false (bs ++ c)) ≡ b ∷ (bs ++ uncommented_from false c)
    by_byte true is rest = absurd (false≢true (sym is))
    by_byte false is rest = ap (λ l. b ∷ l) rest

-- a comment goes on as far as its line
within-commented : (c rest : List ℕ) → list_any (λ b. b == 10) c ≡ false → uncommented_from true (c ++ rest) ≡ uncommented_from true rest
within-commented [] rest none = refl
within-commented (b ∷ bs) rest none =
    let parts = or_parts (b == 10) (list_any (λ d. d == 10) bs) none in
    by_byte (b == 10) parts.0 (within-commented bs rest parts.1)
  where
    by_byte : (t : Bool) → t ≡ false → uncommented_from true (bs ++ rest) ≡ uncommented_from true rest
        → cond (not t) (uncommented_from true (bs ++ rest)) (b ∷ uncommented_from false (bs ++ rest)) ≡ uncommented_from true rest
    by_byte true is later = absurd (false≢true (sym is))
    by_byte false is later = later

pub one-commented : (a c b : List ℕ) → list_any (λ d. d == 35) a ≡ false → list_any (λ d. d == 10) c ≡ false
    → uncommented (a ++ 35 ∷ (c ++ 10 ∷ b)) ≡ a ++ 10 ∷ uncommented b
one-commented a c b none line = before-commented a (35 ∷ (c ++ 10 ∷ b)) none ∙ ap (λ l. a ++ l) (within-commented c (10 ∷ b) line)

pub last-commented : (a c : List ℕ) → list_any (λ d. d == 35) a ≡ false → list_any (λ d. d == 10) c ≡ false → uncommented (a ++ 35 ∷ c) ≡ a
last-commented a c none line =
    before-commented a (35 ∷ c) none
    ∙ ap (λ l. a ++ l) (ap (uncommented_from true) (sym (append-nil c)) ∙ within-commented c [] line)
    ∙ append-nil a

-- texts that differ in their comments alone mean the same
pub same-expanded : (v w : List ℕ) → uncommented v ≡ uncommented w → length v ≤ MAX_RICH_TEXT → length w ≤ MAX_RICH_TEXT → expanded v ≡ expanded w
same-expanded v w same short also = fits v short ∙ ap body_expanded same ∙ sym (fits w also)

-- ---- plain texts

-- a word that is no long name is neither `copy` nor `erase`
no_keyword : (p : List ℕ) → is_spelt Long p ≡ false → after_first p ≡ Elsewhere
no_keyword p plain = by_words (bytes_eq p (codes "copy")) refl (bytes_eq p (codes "erase")) refl
  where
    by_words : (a : Bool) → bytes_eq p (codes "copy") ≡ a → (b : Bool) → bytes_eq p (codes "erase") ≡ b → cond a (Asked Copier) (cond b (Asked Eraser) Elsewhere) ≡ Elsewhere
    by_words true is b other = absurd (false≢true (sym plain ∙ ap (is_spelt Long) ((bytes_eq-Decides p (codes "copy")).0 is)))
    by_words false is true other = absurd (false≢true (sym plain ∙ ap (is_spelt Long) ((bytes_eq-Decides p (codes "erase")).0 other)))
    by_words false is false other = refl

-- in no generic rule
abbrev IsFree : Spot → Type 0
IsFree Elsewhere = Unit {0}
IsFree Opening = Unit {0}
IsFree (Asked kind) = ⊥
IsFree Given = ⊥

free_by : (blank opens : Bool) (spot next : Spot) → IsFree spot → IsFree next → IsFree (cond blank spot (cond opens Opening next))
free_by true opens spot next free later = free
free_by false true spot next free later = tt
free_by false false spot next free later = later

free_other : (spot : Spot) (p : List ℕ) → is_spelt Long p ≡ false → IsFree spot → IsFree (after_other spot p)
free_other Elsewhere p plain free = tt
free_other Opening p plain free = subst IsFree (sym (no_keyword p plain)) tt
free_other _ p plain free = absurd free

free_after : (spot : Spot) (p : List ℕ) → is_spelt Long p ≡ false → IsFree spot → IsFree (after spot p)
free_after spot p plain free = free_by (is_blank (first_byte p)) (opens_rule (first_byte p)) spot (after_other spot p) free (free_other spot p plain free)

either_none : (b : Bool) (o : Option Reason) → o ≡ None → cond b None o ≡ None
either_none true o is = refl
either_none false o is = is

free_refusal : (sheet : Sheet) (earlier : List (List ℕ)) (spot : Spot) (p : List ℕ) → IsFree spot → refusal sheet earlier spot p ≡ None
free_refusal sheet earlier (Asked kind) p free = absurd free
free_refusal sheet earlier Given p free = absurd free
free_refusal sheet earlier _ p free = either_none (is_blank (first_byte p)) None refl

free_text : (sheet : Sheet) (earlier : List (List ℕ)) (spot : Spot) (p : List ℕ) → sheet.longs ≡ [] → is_spelt Long p ≡ false → IsFree spot → piece_text sheet earlier spot p ≡ p
free_text sheet earlier Elsewhere p none plain free = ap (λ (longs : List (List ℕ)). told_word longs sheet.spare p) none
free_text sheet earlier Opening p none plain free = ap (λ (s : Spot). kept_word s p) (no_keyword p plain)
free_text sheet earlier _ p none plain free = absurd free

written_plain : (sheet : Sheet) (earlier : List (List ℕ)) (spot : Spot) (at : ℕ) (ps : List (List ℕ)) → sheet.longs ≡ [] → IsFree spot → list_any (is_spelt Long) ps ≡ false
    → written sheet earlier spot at ps ≡ Ok (concat ps)
written_plain sheet earlier spot at [] none free plain = refl
written_plain sheet earlier spot at (p ∷ ps) none free plain =
    let parts = or_parts (is_spelt Long p) (list_any (is_spelt Long) ps) plain in
    let rest = written_plain sheet (with_generic earlier spot p) (after spot p) (at + length p) ps none (free_after spot p parts.0 free) parts.1 in
    ap (λ (r : Option Reason). unless_refused r at (piece_text sheet earlier spot p) (written sheet (with_generic earlier spot p) (after spot p) (at + length p) ps)) (free_refusal sheet earlier spot p free)
    ∙ ap (λ (r : Result (List ℕ) ExpandFault). before_text (piece_text sheet earlier spot p) r) rest
    ∙ ap (λ (t : List ℕ). Ok (t ++ concat ps)) (free_text sheet earlier spot p none parts.0 free)

no_names : (spot : Spot) (ps : List (List ℕ)) → list_any (is_spelt Long) ps ≡ false → names Long spot ps ≡ []
no_names spot [] plain = refl
no_names spot (p ∷ ps) plain =
    let parts = or_parts (is_spelt Long p) (list_any (is_spelt Long) ps) plain in
    ap (λ (b : Bool). cond b (p ∷ names Long (after spot p) ps) (names Long (after spot p) ps)) (unnamed spot parts.0) ∙ no_names (after spot p) ps parts.1
  where
    unnamed : (s : Spot) → is_spelt Long p ≡ false → is_named Long s p ≡ false
    unnamed Opening isnt = refl
    unnamed _ isnt = isnt

begun-expanded : (body : List ℕ) → is_begun body ≡ true → body_expanded body ≡ written_pieces (pieces body)
begun-expanded body begun = ap (λ (b : Bool). cond b (written_pieces (pieces body)) (Err (Refused NoText (blanks_before body)))) begun

pub plain-expanded : (text : List ℕ) → length text ≤ MAX_RICH_TEXT → is_begun text ≡ true → list_any (λ b. b == 35) text ≡ false → list_any (is_spelt Long) (pieces text) ≡ false
    → expanded text ≡ Ok text
plain-expanded text short begun none plain =
    fits text short
    ∙ ap body_expanded (none-commented text none)
    ∙ begun-expanded text begun
    ∙ written_plain (sheet_of (pieces text)) [] Elsewhere 0 (pieces text) (ap (fold with_word []) (no_names Elsewhere (pieces text) plain)) tt plain
    ∙ ap (λ (t : List ℕ). Ok t) (concat-pieces text)
