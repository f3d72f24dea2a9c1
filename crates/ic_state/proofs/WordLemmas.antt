-- Words and their numbers.
use Rattle.std.proofs.Common.{◌≡◌, ℕ, ◌+◌, ◌-◌, ◌*◌, ◌<◌, Bool, true, false, List, length, take, drop, refl, ap, ◌∙◌, arith}
use Rattle.std.specs.Int.{w64, to_be_bytes}
use Rattle.ic_flat.specs.declared.word.Word.{Word}
use Rattle.ic_flat.specs.declared.word.Word.TheVariants.{Name, Agent}
use Rattle.ic_state.specs.Numbers.{eight_bytes, four_bytes}
use Rattle.ic_state.specs.Words.{agents_from, argument_room, number_bytes, symbol_room, width, word_number, word_bytes, IsKeptWord}
use Rattle.ic_state.proofs.NumberLemmas.{eight_bytes-injective, four_bytes-injective, length-eight_bytes, length-four_bytes}

agent_small : (narrow : Bool) (s a : ℕ) → s < symbol_room narrow → a < argument_room narrow → a * symbol_room narrow + s < agents_from narrow
agent_small true s a low few = omega (arith, low, few)
agent_small false s a low few = omega (arith, low, few)

pub word_number-small : (narrow : Bool) (w : Word) → IsKeptWord narrow w → word_number narrow w < 2 * agents_from narrow
word_number-small narrow (Name n) kept = omega (arith, kept)
word_number-small narrow (Agent s a) kept = omega (arith, agent_small narrow s a kept.0 kept.1)

one_agent : (narrow : Bool) (s a r b : ℕ) → s < symbol_room narrow → r < symbol_room narrow → a * symbol_room narrow + s ≡ b * symbol_room narrow + r → (s ≡ r) × (a ≡ b)
one_agent true s a r b low down e = let high : a ≡ b = omega (arith, low, down, e) in (omega (arith, high, e), high)
one_agent false s a r b low down e = let high : a ≡ b = omega (arith, low, down, e) in (omega (arith, high, e), high)

pub word_number-injective : (narrow : Bool) (v w : Word) → IsKeptWord narrow v → IsKeptWord narrow w → word_number narrow v ≡ word_number narrow w → v ≡ w
word_number-injective narrow (Name n) (Name m) kept kept_too e = ap Name e
word_number-injective narrow (Name n) (Agent s a) kept kept_too e = absurd (omega (arith, kept, e))
word_number-injective narrow (Agent s a) (Name n) kept kept_too e = absurd (omega (arith, kept_too, e))
word_number-injective narrow (Agent s a) (Agent r b) kept kept_too e =
    let same = one_agent narrow s a r b kept.0 kept_too.0 (omega (arith, e)) in
    rw (same.0, same.1) refl

number_bytes-injective : (narrow : Bool) (m n : ℕ) → m < 2 * agents_from narrow → n < 2 * agents_from narrow → number_bytes narrow m ≡ number_bytes narrow n → m ≡ n
number_bytes-injective true m n small little e = four_bytes-injective m n (omega (arith, small)) (omega (arith, little)) e
number_bytes-injective false m n small little e = eight_bytes-injective m n (omega (arith, small)) (omega (arith, little)) e

pub word_bytes-injective : (narrow : Bool) (v w : Word) → IsKeptWord narrow v → IsKeptWord narrow w → word_bytes narrow v ≡ word_bytes narrow w → v ≡ w
word_bytes-injective narrow v w kept kept_too e = word_number-injective narrow v w kept kept_too
    (number_bytes-injective narrow (word_number narrow v) (word_number narrow w) (word_number-small narrow v kept) (word_number-small narrow w kept_too) e)

-- the last bytes of eight are the number, where it fits them
last_of : (narrow : Bool) (n : ℕ) → take (8 - (8 - width narrow)) (drop (8 - width narrow) (to_be_bytes w64 n)) ≡ number_bytes narrow n
unfolding eight_bytes four_bytes
last_of true n = refl
last_of false n = refl

pub last_bytes : (narrow : Bool) (long n : ℕ) (bytes : List ℕ) → long ≡ width narrow → bytes ≡ to_be_bytes w64 n → take (8 - (8 - long)) (drop (8 - long) bytes) ≡ number_bytes narrow n
last_bytes narrow long n bytes fits are =
    ap (λ (l : List ℕ). take (8 - (8 - long)) (drop (8 - long) l)) are
    ∙ ap (λ (m : ℕ). take (8 - (8 - m)) (drop (8 - m) (to_be_bytes w64 n))) fits
    ∙ last_of narrow n

length-number_bytes : (narrow : Bool) (n : ℕ) → length (number_bytes narrow n) ≡ width narrow
length-number_bytes true n = length-four_bytes n
length-number_bytes false n = length-eight_bytes n

pub length-word_bytes : (narrow : Bool) (w : Word) → length (word_bytes narrow w) ≡ width narrow
length-word_bytes narrow w = length-number_bytes narrow (word_number narrow w)

-- bytes that end before so many words
pub too_few : (narrow : Bool) (read left long count : ℕ) → read < count → left < width narrow → long ≡ width narrow * read + left → long < width narrow * count
too_few true read left long count more short is = omega (arith, more, short, is)
too_few false read left long count more short is = omega (arith, more, short, is)
