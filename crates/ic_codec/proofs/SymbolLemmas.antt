-- Symbols that are appended one by one.
use Rattle.std.proofs.Common.{◌≡◌, ℕ, zero, suc, ◌+◌, ◌<◌, List, [], ◌∷◌, length, drop, Option, Some, None, IfSome, refl, ap, arith, add-one}
use Rattle.std.specs.Prelude.{Vec, slice_get}
use Rattle.std.specs.List.{flat_map}
use Rattle.ic_term.specs.Symbol.{Symbol}
use Rattle.ic_codec.specs.Symbols.{symbol_bytes}
use Rattle.ic_codec.specs.inner.Room.{Fits, Appended, GoesOn}
use Rattle.ic_codec.proofs.Appending.{left_fits, goes_on}

-- the symbol of a number, and those after it
pub from_number : (ss : List Symbol) (i : ℕ) → IfSome (slice_get ss i) (λ s. drop i ss ≡ s ∷ drop (suc i) ss)
from_number [] i = tt
from_number (s ∷ ss) zero = refl
from_number (s ∷ ss) (suc i) = from_number ss i

there : (ss : List Symbol) (i : ℕ) → i < length ss → slice_get ss i ≡ None → ⊥
there [] i below e = omega arith
there (s ∷ ss) zero below e = cc
there (s ∷ ss) (suc i) below e = there ss i (omega arith) e

module _ {Z : Type 0} where
  fits_at : {start now : Vec ℕ Z} {bytes : List ℕ} (ss : List Symbol) (i : ℕ) (o : Option Symbol) → IfSome o (λ s. drop i ss ≡ s ∷ drop (suc i) ss)
      → GoesOn start bytes now (flat_map symbol_bytes (drop i ss)) → IfSome o (λ s. Fits now (symbol_bytes s))
  fits_at ss i None at goes = tt
  fits_at ss i (Some s) at goes = left_fits (symbol_bytes s) (flat_map symbol_bytes (drop (suc i) ss)) (ap (flat_map symbol_bytes) at) goes

  pub symbol_fits : {start now : Vec ℕ Z} {bytes : List ℕ} (ss : List Symbol) (i : ℕ) → GoesOn start bytes now (flat_map symbol_bytes (drop i ss))
      → IfSome (slice_get ss i) (λ s. Fits now (symbol_bytes s))
  symbol_fits ss i goes = fits_at ss i (slice_get ss i) (from_number ss i) goes

  go_on_at : {start now new : Vec ℕ Z} {bytes : List ℕ} (ss : List Symbol) (i : ℕ) (o : Option Symbol) → (o ≡ None → ⊥)
      → IfSome o (λ s. drop i ss ≡ s ∷ drop (suc i) ss) → GoesOn start bytes now (flat_map symbol_bytes (drop i ss))
      → IfSome o (λ s. Appended now new (symbol_bytes s)) → GoesOn start bytes new (flat_map symbol_bytes (drop (suc i) ss))
  go_on_at ss i None is at goes put = absurd (is refl)
  go_on_at ss i (Some s) is at goes put =
      goes_on (symbol_bytes s) (flat_map symbol_bytes (drop (suc i) ss)) (ap (flat_map symbol_bytes) at) goes put

  pub symbols_go_on : {start now new : Vec ℕ Z} {bytes : List ℕ} (ss : List Symbol) (i : ℕ) → i < length ss
      → GoesOn start bytes now (flat_map symbol_bytes (drop i ss)) → IfSome (slice_get ss i) (λ s. Appended now new (symbol_bytes s))
      → GoesOn start bytes new (flat_map symbol_bytes (drop (i + 1) ss))
  symbols_go_on ss i below goes put = rw add-one (go_on_at ss i (slice_get ss i) (there ss i below) (from_number ss i) goes put)
