use Rattle.std.proofs.Common.{◌≡◌, ◌+◌, ◌||◌, true, not, cond, [], ◌∷◌, ◌++◌, length, refl, arith}
use Rattle.std.specs.Prelude.{nat_lt}
use Rattle.std.proofs.lemmas.Bool.{lt-ltb}
use Rattle.std.proofs.lemmas.List.FromFn.{length-map-range_with_len, get_or-map-range_with_len}
use Rattle.ic_term.specs.declared.limits.TheConstants.{MAX_WIDE_SYMBOLS}
use Rattle.ic_text.specs.Name.{name_text}
use Rattle.ic_expand.specs.Generic.{agent_text}
use Rattle.ic_exact.proofs.texts.none_is_left_out_below_the_limits.Goals as goal

pub returns-clause-symbol : goal.returns-clause-symbol
returns-clause-symbol c = λ ss s new few.
    let room : nat_lt (length ss) MAX_WIDE_SYMBOLS ≡ true = lt-ltb (length ss) MAX_WIDE_SYMBOLS few in
    λ i. cond (new i || not (room i)) ss (ss ++ s ∷ [])

pub returns-clause-pair : goal.returns-clause-pair
returns-clause-pair c = refl

pub returns-clause-all : goal.returns-clause-all
returns-clause-all c = λ s n. length-map-range_with_len (λ k. agent_text s (name_text k ∷ name_text (k + 26) ∷ [])) 0 n

pub returns-clause-copy : goal.returns-clause-copy
returns-clause-copy c = λ s n k below. get_or-map-range_with_len (λ k. agent_text s (name_text k ∷ name_text (k + 26) ∷ [])) 0 n k k [] below (omega arith)
