-- What the answer of a disk with a fuse says of the disk behind it.
use Rattle.std.proofs.Common.{refl, ◌≡◌, ◌⊎◌, inl, inr, ⊎_elim, ℕ, ◌-◌, List, length, take, arith, length-append, length-take, Result, Ok, Err, OnOk, OnErr}
use Rattle.std.proofs.lemmas.List.{length-replicate}
use Rattle.std.specs.Prelude.{IsErr, is_ok, replicate}
use Rattle.ic_disk.specs.Model.{Write, Call, write, sync}
use Rattle.ic_disk.specs.History.{History, with_call}
use Rattle.ic_disk.specs.Fuse.{Answers, torn_bytes}
use Rattle.ic_disk.specs.declared.fuse.Turn.{Turn}
use Rattle.ic_disk.specs.declared.fuse.Turn.TheVariants.{Make, Skip, MakeAndFail, Tear}
use Rattle.ic_disk.proofs.HistoryLemmas.{LeftBySync, LeftByWrite}

ok_is_no_err : {T : Type 0} (E : Type 0) (x : T) → IsErr {T = T} {E = E} (Ok x) → ⊥
ok_is_no_err E x is = cc

pub answers_ok : {T E : Type 0} (turn : Turn) (call : Call) (result : Result T E) (old new : History) → Answers turn call result old new → OnOk result (new ≡ with_call call old)
answers_ok Make call result old new answers = answers.0
answers_ok {E = E} Skip call (Ok x) old new answers = absurd (ok_is_no_err E x answers.0)
answers_ok Skip call (Err e) old new answers = tt
answers_ok {E = E} MakeAndFail call (Ok x) old new answers = absurd (ok_is_no_err E x answers.0)
answers_ok MakeAndFail call (Err e) old new answers = tt
answers_ok {E = E} (Tear n) call (Ok x) old new answers = absurd (ok_is_no_err E x answers.0)
answers_ok (Tear n) call (Err e) old new answers = tt

length-torn : (n : ℕ) (bytes : List ℕ) → length (torn_bytes n bytes) ≡ length bytes
length-torn n bytes = omega (arith, length-append (take n bytes) (replicate (length bytes - n) 0), length-take n bytes, length-replicate {A = ℕ} (length bytes - n) 0)

pub write_answers_err : {T E : Type 0} (turn : Turn) (w : Write) (result : Result T E) (old new : History) → Answers turn (write w) result old new → OnErr result (LeftByWrite w old new)
write_answers_err turn w (Ok x) old new answers = tt
write_answers_err Make w (Err e) old new answers = inr (inl answers.1)
write_answers_err Skip w (Err e) old new answers = inl answers.1
write_answers_err MakeAndFail w (Err e) old new answers = ⊎_elim (λ made. inr (inr (w.bytes, refl, made))) (λ failed. inr (inl failed)) answers.1
write_answers_err (Tear n) w (Err e) old new answers = ⊎_elim
    (λ torn. inr (inr (torn_bytes n w.bytes, length-torn n w.bytes, torn)))
    (λ none. ⊎_elim (λ same. inl same) (λ failed. inr (inl failed)) none)
    answers.1

pub sync_answers_err : {T E : Type 0} (turn : Turn) (result : Result T E) (old new : History) → Answers turn sync result old new → OnErr result (LeftBySync old new)
sync_answers_err turn (Ok x) old new answers = tt
sync_answers_err Make (Err e) old new answers = inr (inl answers.1)
sync_answers_err MakeAndFail (Err e) old new answers = ⊎_elim (λ made. inr (inr made)) (λ failed. inr (inl failed)) answers.1
sync_answers_err _ (Err e) old new answers = inl answers.1

pub answers_by : {T E : Type 0} (turn turn' : Turn) (call : Call) (result : Result T E) (old new : History) → turn ≡ turn' → Answers turn' call result old new → Answers turn call result old new
answers_by turn turn' call result old new same answers = rw same answers

-- two results that are both Ok or both Err
pub on_ok_same : {T U E F : Type 0} (r : Result T E) (s : Result U F) (P : Type 0) → is_ok r ≡ is_ok s → OnOk s P → OnOk r P
on_ok_same (Ok x) (Ok y) P same holds = holds
on_ok_same (Ok x) (Err e) P same holds = cc
on_ok_same (Err e) s P same holds = tt

pub on_err_same : {T U E F : Type 0} (r : Result T E) (s : Result U F) (P : Type 0) → is_ok r ≡ is_ok s → OnErr s P → OnErr r P
on_err_same (Err e) (Err f) P same holds = holds
on_err_same (Err e) (Ok y) P same holds = cc
on_err_same (Ok x) s P same holds = tt

pub err_same : {T U E F : Type 0} (r : Result T E) (s : Result U F) → is_ok r ≡ is_ok s → IsErr s → IsErr r
err_same (Err e) s same is = refl
err_same (Ok x) (Err e) same is = cc
err_same {F = F} (Ok x) (Ok y) same is = absurd (ok_is_no_err F y is)

-- a result is Ok or Err
pub either : {T E : Type 0} (r : Result T E) (P Q : Type 0) → OnOk r P → OnErr r Q → P ⊎ Q
either (Ok x) P Q p q = inl p
either (Err e) P Q p q = inr q
