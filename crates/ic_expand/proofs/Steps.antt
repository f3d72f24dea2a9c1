-- What one piece more makes of what is found in a text.
use Rattle.std.proofs.Common.{◌≡◌, ℕ, ◌+◌, ◌||◌, Bool, true, false, cond, List, ◌∷◌, ◌++◌, length, refl, sym, ap, ◌∙◌, append_assoc, Option, None, Result, Ok, Err}
use Rattle.std.specs.List.{concat, fold, list_any}
use Rattle.std.proofs.lemmas.Bool.{false≢true}
use Rattle.std.proofs.lemmas.List.Sums.{fold-append}
use Rattle.ic_term.specs.Symbol.{Symbol}
use Rattle.ic_expand.specs.declared.fault.Reason.{Reason}
use Rattle.ic_expand.specs.declared.fault.ExpandFault.{ExpandFault}
use Rattle.ic_expand.specs.declared.names.Spelling.{Spelling}
use Rattle.ic_expand.specs.declared.spot.Spot.{Spot}
use Rattle.ic_expand.specs.Pieces.{pieces}
use Rattle.ic_expand.specs.Spots.{after}
use Rattle.ic_expand.specs.Reading.{arguments, asked, asked_by, heads, is_head, is_use, noted, partner, uses}
use Rattle.ic_expand.specs.Names.{is_named, names, with_word}
use Rattle.ic_expand.specs.Expanding.{Sheet, before_text, piece_text, refusal, unless_refused, with_generic, written}
use Rattle.ic_expand.proofs.Cutting.{concat-pieces}

-- ---- a list with one element more where a test says so

if_yes : {X Y : Type 0} (f : List X → Y) (b : Bool) (x : X) (xs : List X) → b ≡ true → f (cond b (x ∷ xs) xs) ≡ f (x ∷ xs)
if_yes f true x xs is = refl
if_yes f false x xs is = absurd (false≢true is)

if_no : {X : Type 0} (b : Bool) (x : X) (xs : List X) → b ≡ false → cond b (x ∷ xs) xs ≡ xs
if_no true x xs is = absurd (false≢true (sym is))
if_no false x xs is = refl

-- ---- symbols

module _ (ss : List Symbol) (spot : Spot) (p more rest : List ℕ) (cut : pieces rest ≡ p ∷ pieces more) where
  pub used : is_use spot p ≡ true
      → fold noted ss (uses spot (pieces rest)) ≡ fold noted (noted ss (record { text = p; arity = arguments more })) (uses (after spot p) (pieces more))
  used is =
      ap (λ ps. fold noted ss (uses spot ps)) cut
      ∙ if_yes (fold noted ss) (is_use spot p) (record { text = p; arity = arguments (concat (pieces more)) }) (uses (after spot p) (pieces more)) is
      ∙ ap (λ (text : List ℕ). fold noted (noted ss (record { text = p; arity = arguments text })) (uses (after spot p) (pieces more))) (concat-pieces more)

  pub unused : is_use spot p ≡ false → uses spot (pieces rest) ≡ uses (after spot p) (pieces more)
  unused is = ap (uses spot) cut ∙ if_no (is_use spot p) (record { text = p; arity = arguments (concat (pieces more)) }) (uses (after spot p) (pieces more)) is

-- ---- symbols that are asked for

pub asked_more : (ss : List Symbol) (spot : Spot) (p more rest : List ℕ) → pieces rest ≡ p ∷ pieces more
    → fold noted ss (asked spot (pieces rest)) ≡ fold noted (fold noted ss (asked_by spot p)) (asked (after spot p) (pieces more))
asked_more ss spot p more rest cut = ap (λ ps. fold noted ss (asked spot ps)) cut ∙ fold-append noted ss (asked_by spot p) (asked (after spot p) (pieces more))

-- ---- pairs

module _ (p_at : List ℕ × List ℕ → Bool) (spot : Spot) (p more rest : List ℕ) (cut : pieces rest ≡ p ∷ pieces more) where
  pub paired : is_head spot p ≡ true
      → list_any p_at (heads spot (pieces rest)) ≡ (p_at (p, partner more) || list_any p_at (heads (after spot p) (pieces more)))
  paired is =
      ap (λ ps. list_any p_at (heads spot ps)) cut
      ∙ if_yes (list_any p_at) (is_head spot p) (p, partner (concat (pieces more))) (heads (after spot p) (pieces more)) is
      ∙ ap (λ (text : List ℕ). p_at (p, partner text) || list_any p_at (heads (after spot p) (pieces more))) (concat-pieces more)

  pub unpaired : is_head spot p ≡ false → list_any p_at (heads spot (pieces rest)) ≡ list_any p_at (heads (after spot p) (pieces more))
  unpaired is = ap (λ ps. list_any p_at (heads spot ps)) cut
      ∙ ap (list_any p_at) (if_no (is_head spot p) (p, partner (concat (pieces more))) (heads (after spot p) (pieces more)) is)

-- ---- names

module _ (ws : List (List ℕ)) (spelling : Spelling) (spot : Spot) (p more rest : List ℕ) (cut : pieces rest ≡ p ∷ pieces more) where
  pub called : is_named spelling spot p ≡ true
      → fold with_word ws (names spelling spot (pieces rest)) ≡ fold with_word (with_word ws p) (names spelling (after spot p) (pieces more))
  called is =
      ap (λ ps. fold with_word ws (names spelling spot ps)) cut
      ∙ if_yes (fold with_word ws) (is_named spelling spot p) p (names spelling (after spot p) (pieces more)) is

-- ---- what is written

pub before-before : (front text : List ℕ) (r : Result (List ℕ) ExpandFault) → before_text front (before_text text r) ≡ before_text (front ++ text) r
before-before front text (Ok rest) = ap (λ (t : List ℕ). Ok t) (sym (append_assoc front text rest))
before-before front text (Err fault) = refl

module _ (sheet : Sheet) (earlier : List (List ℕ)) (spot : Spot) (at : ℕ) (out : List ℕ) (p more rest : List ℕ) (cut : pieces rest ≡ p ∷ pieces more) where
  -- what follows the piece
  abbrev later : Result (List ℕ) ExpandFault
  later = written sheet (with_generic earlier spot p) (after spot p) (at + length p) (pieces more)

  pub put_more : refusal sheet earlier spot p ≡ None
      → before_text out (written sheet earlier spot at (pieces rest)) ≡ before_text (out ++ piece_text sheet earlier spot p) later
  put_more none =
      ap (λ ps. before_text out (written sheet earlier spot at ps)) cut
      ∙ ap (λ (r : Option Reason). before_text out (unless_refused r at (piece_text sheet earlier spot p) later)) none
      ∙ before-before out (piece_text sheet earlier spot p) later
