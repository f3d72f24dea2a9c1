use Rattle.std.proofs.Common.{◌≡◌, ℕ, ◌==◌, ◌<◌, Bool, true, false, map, cond, get_or, refl, ap, ◌∙◌, arith}
use Rattle.std.proofs.lemmas.List.FromFn.{get_or-map-range_with_len}
use Rattle.std.specs.List.{range_with_len}
use Rattle.ic_text.specs.Token.{is_word_byte}
use Rattle.ic_text.specs.declared.token.TheConstants.{WORD_BYTES}
use Rattle.ic_text.proofs.token.is_word_byte.Goals as goal

abbrev sign : ℕ → ℕ
sign byte = cond (is_word_byte byte) 49 48

-- the table has the sign of each byte
table_is : WORD_BYTES ≡ map sign (range_with_len 0 256)
table_is = refl

signed : (t : Bool) → (cond t 49 48 == 49) ≡ t
signed true = refl
signed false = refl

read : (byte : ℕ) → byte < 256 → (get_or WORD_BYTES byte 0 == 49) ≡ is_word_byte byte
read byte low =
    ap (λ (n : ℕ). n == 49) (ap (λ t. get_or t byte 0) table_is ∙ get_or-map-range_with_len sign 0 256 byte byte 0 low (omega arith))
    ∙ signed (is_word_byte byte)

pub returns : goal.returns
returns c = read c.args.byte (omega arith)
