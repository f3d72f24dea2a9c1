-- What a writer holds.
use Rattle.std.proofs.Common.{◌≡◌, ℕ, List, [], ◌++◌, Option, None, Some, sym, ap, subst, ◌∙◌, append-nil, append_assoc}
use Rattle.std.specs.Io.KnownBytes.{Appends}
use Rattle.ic_output.specs.Output.{AppendsFront}

pub appends_none : (c : Option (List ℕ)) → Appends c c []
appends_none None = tt
appends_none (Some xs) = sym (append-nil xs)

pub appends_more : (old mid new : Option (List ℕ)) (a b : List ℕ) → Appends old mid a → Appends mid new b → Appends old new (a ++ b)
appends_more None mid new a b p q = tt
appends_more (Some xs) None new a b p q = absurd p
appends_more (Some xs) (Some ys) None a b p q = absurd q
appends_more (Some xs) (Some ys) (Some zs) a b p q = q ∙ ap (λ c. c ++ b) p ∙ append_assoc xs a b

-- a front of the bytes is written, and this is the rest of them
pub record IsSent (bytes rest : List ℕ) (old now : Option (List ℕ)) : Type 0 where
  pub sent : List ℕ
  pub parted : bytes ≡ sent ++ rest
  pub written : Appends old now sent

pub sent_front : (bytes rest : List ℕ) (old now : Option (List ℕ)) → IsSent bytes rest old now → AppendsFront old now [] bytes
sent_front bytes rest old now s = record { sent = s.sent; unsent = rest; parted = s.parted; written = s.written }

-- the next part is written whole
pub sent_part : (bytes part rest : List ℕ) (old mid new : Option (List ℕ)) → IsSent bytes (part ++ rest) old mid → Appends mid new part
    → IsSent bytes rest old new
sent_part bytes part rest old mid new s more = record {
  sent = s.sent ++ part;
  parted = s.parted ∙ sym (append_assoc s.sent part rest);
  written = appends_more old mid new s.sent part s.written more;
}

-- a front of the next part is written
pub sent_cut : (bytes part rest : List ℕ) (old mid new : Option (List ℕ)) → IsSent bytes (part ++ rest) old mid → AppendsFront mid new [] part
    → AppendsFront old new [] bytes
sent_cut bytes part rest old mid new s cut = record {
  sent = s.sent ++ cut.sent;
  unsent = cut.unsent ++ rest;
  parted = s.parted ∙ ap (λ (p : List ℕ). s.sent ++ (p ++ rest)) cut.parted ∙ ap (λ (p : List ℕ). s.sent ++ p) (append_assoc cut.sent cut.unsent rest)
      ∙ sym (append_assoc s.sent cut.sent (cut.unsent ++ rest));
  written = appends_more old mid new s.sent cut.sent s.written cut.written;
}

-- three parts, of which none is written yet
pub sent_begin : (a b s : List ℕ) (c : Option (List ℕ)) → IsSent (a ++ b ++ s) (a ++ (b ++ s)) c c
sent_begin a b s c = record { sent = []; parted = append_assoc a b s; written = appends_none c }

-- the last part
pub sent_last : (bytes part : List ℕ) (old now : Option (List ℕ)) → IsSent bytes part old now → IsSent bytes (part ++ []) old now
sent_last bytes part old now s = subst (λ (l : List ℕ). IsSent bytes l old now) (sym (append-nil part)) s
