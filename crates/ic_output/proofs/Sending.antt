-- What a writer holds.
use Rattle.std.proofs.Common.{◌≡◌, ℕ, ◌-◌, List, ◌++◌, Option, None, Some, length, take, drop, sym, ap, ◌∙◌, append_assoc, take-append-drop}
use Rattle.std.proofs.lemmas.List.{take_rest}
use Rattle.std.specs.Io.KnownBytes.{Appends, Keeps}

appends_kept : (old mid new : Option (List ℕ)) (a : List ℕ) → Appends old mid a → Keeps mid new → Appends old new a
appends_kept None mid new a p q = tt
appends_kept (Some xs) None new a p q = absurd p
appends_kept (Some xs) (Some ys) None a p q = absurd q
appends_kept (Some xs) (Some ys) (Some zs) a p q = q ∙ p

appends_more : (old mid new : Option (List ℕ)) (a b : List ℕ) → Appends old mid a → Appends mid new b → Appends old new (a ++ b)
appends_more None mid new a b p q = tt
appends_more (Some xs) None new a b p q = absurd p
appends_more (Some xs) (Some ys) None a b p q = absurd q
appends_more (Some xs) (Some ys) (Some zs) a b p q = q ∙ ap (λ c. c ++ b) p ∙ append_assoc xs a b

-- a front of the bytes is written, and this is the rest of them
pub record IsSent (bytes rest : List ℕ) (old now : Option (List ℕ)) : Type 0 where
  pub sent : List ℕ
  pub parted : bytes ≡ sent ++ rest
  pub written : Appends old now sent

pub sent_more : (bytes rest : List ℕ) (n : ℕ) (old mid new : Option (List ℕ)) → IsSent bytes rest old mid → Appends mid new (take n rest)
    → IsSent bytes (take (length rest - n) (drop n rest)) old new
sent_more bytes rest n old mid new s more = record {
  sent = s.sent ++ take n rest;
  parted = s.parted ∙ ap (λ l. s.sent ++ l) (sym (take-append-drop n rest)) ∙ sym (append_assoc s.sent (take n rest) (drop n rest))
      ∙ ap (λ l. (s.sent ++ take n rest) ++ l) (sym (take_rest rest n));
  written = appends_more old mid new s.sent (take n rest) s.written more;
}

pub sent_kept : (bytes rest : List ℕ) (old mid new : Option (List ℕ)) → IsSent bytes rest old mid → Keeps mid new → IsSent bytes rest old new
sent_kept bytes rest old mid new s kept = record { sent = s.sent; parted = s.parted; written = appends_kept old mid new s.sent s.written kept }
