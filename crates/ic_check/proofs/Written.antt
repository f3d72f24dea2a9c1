-- What was written grows.
use Rattle.std.proofs.Common.{ℕ, List, [], ◌++◌, Option, None, Some, Result, Ok, Err, OnOk, sym, ap, ◌∙◌, append-nil, append_assoc}
use Rattle.std.specs.Prelude.{OnErr}
use Rattle.std.specs.Io.KnownBytes.{Appends, Keeps}
use Rattle.ic_output.specs.Output.{AppendsFront}
use Rattle.ic_check.specs.Files.{Grows}

appends_none : (c : Option (List ℕ)) → Appends c c []
appends_none None = tt
appends_none (Some xs) = sym (append-nil xs)

pub grows_none : (c : Option (List ℕ)) → Grows c c
grows_none c = record { more = []; appended = appends_none c }

pub grows_kept : (old new : Option (List ℕ)) → Keeps old new → Grows old new
grows_kept None new p = record { more = []; appended = tt }
grows_kept (Some xs) None p = absurd p
grows_kept (Some xs) (Some ys) p = record { more = []; appended = p ∙ sym (append-nil xs) }

pub grows_front : (old new : Option (List ℕ)) (bytes : List ℕ) → AppendsFront old new [] bytes → Grows old new
grows_front old new bytes front = record { more = front.sent; appended = front.written }

appends_more : (old mid new : Option (List ℕ)) (a b : List ℕ) → Appends old mid a → Appends mid new b → Appends old new (a ++ b)
appends_more None mid new a b p q = tt
appends_more (Some xs) None new a b p q = absurd p
appends_more (Some xs) (Some ys) None a b p q = absurd q
appends_more (Some xs) (Some ys) (Some zs) a b p q = q ∙ ap (λ c. c ++ b) p ∙ append_assoc xs a b

pub grows_more : (old mid new : Option (List ℕ)) → Grows old mid → Grows mid new → Grows old new
grows_more old mid new one two = record { more = one.more ++ two.more; appended = appends_more old mid new one.more two.more one.appended two.appended }

pub grows_by : (old new : Option (List ℕ)) (bytes : List ℕ) → Appends old new bytes → Grows old new
grows_by old new bytes put = record { more = bytes; appended = put }

-- what was written by a call that writes bytes or a front of them
pub grows_either : {T E : Type 0} (r : Result T E) (old new : Option (List ℕ)) (bytes : List ℕ) → OnOk r (Appends old new bytes) → OnErr r (AppendsFront old new [] bytes) → Grows old new
grows_either (Ok v) old new bytes all front = grows_by old new bytes all
grows_either (Err e) old new bytes all front = grows_front old new bytes front
