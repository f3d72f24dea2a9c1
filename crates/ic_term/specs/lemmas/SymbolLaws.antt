-- Lemmas, which a reader of the contracts doesn't need: the test of equality of symbols is equality.
use Rattle.std.specs.Prelude.{◌≡◌, ℕ, ◌==◌, List, refl}
use Rattle.std.specs.Bool.{Decides}
use Rattle.std.specs.Str.{bytes_eq}
use Rattle.std.specs.Cmp.{IsEquivalence, decided, unsigned_Decides}
use Rattle.std.specs.Cmp.Lexicographic.{bytes_decides}
use Rattle.std.proofs.lemmas.Bool.{and_parts}
use Rattle.std.proofs.Common.{sym, ◌∙◌, ap}
use Rattle.std.specs.Cmp.Lexicographic.{pointwise_decides}
use Rattle.ic_term.specs.Symbol.{Symbol, symbol_eq, symbols_eq}

pub symbol_eq-Decides : (s t : Symbol) → Decides (symbol_eq s t) (s ≡ t)
symbol_eq-Decides s t = (
  (λ e. let parts = and_parts (bytes_eq s.text t.text) (s.arity == t.arity) e in
      let text = (bytes_decides s.text t.text).0 parts.0 in
      let arity = (unsigned_Decides s.arity t.arity).0 parts.1 in
      ap (λ (a : List ℕ × ℕ). record { text = a.0; arity = a.1 }) (λ i. (text i, arity i))),
  (λ e. ap (symbol_eq s) (sym e) ∙ (rw ((bytes_decides s.text s.text).1 refl) ((unsigned_Decides s.arity s.arity).1 refl))),
)

pub symbols_eq-Decides : (ss ts : List Symbol) → Decides (symbols_eq ss ts) (ss ≡ ts)
symbols_eq-Decides ss ts = pointwise_decides symbol_eq-Decides ss ts

pub symbols_eq-equivalence : IsEquivalence symbols_eq
symbols_eq-equivalence = decided symbols_eq symbols_eq-Decides
