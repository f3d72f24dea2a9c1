-- Lemmas: how a run of calls begins, goes on, is joined to another and is weakened.
use Rattle.std.proofs.Common.{inl, inr, ⊎_elim, ℕ, List, arith}
use Rattle.std.proofs.lemmas.Bool.{cases_lt}
use Rattle.ic_disk.specs.Time.{Elapses, LeavesOnly, LeftSince}

-- a call that goes by at no time
pub elapses_none : (clock : ℕ) (past : ℕ → List ℕ → Type 0) (midst : List ℕ → Type 0) → Elapses clock clock past past midst
elapses_none clock past midst = record { later = omega arith; one_call = omega arith; nothing_else = λ t c left. inl left; stays = λ t c left. left }

module _ {D : Type 0} (clock : D → ℕ) (left : D → ℕ → List ℕ → Type 0) where
  -- before the first call
  pub started : (old : D) (P : List ℕ → Type 0) → ((file : List ℕ) → LeftSince (left old) (clock old) file → P file) → LeavesOnly clock left old old P
  started old P here = record { later = omega arith; each = here; before = λ t c past left. left }

  -- one more call, in whose midst a crash leaves what has P
  pub goes_on : (old mid new : D) (P midst : List ℕ → Type 0) → LeavesOnly clock left old mid P → Elapses (clock mid) (clock new) (left mid) (left new) midst
      → ((file : List ℕ) → midst file → P file) → LeavesOnly clock left old new P
  goes_on old mid new P midst so_far time here = record {
    later = omega (arith, so_far.later, time.later);
    each = λ c left. ⊎_elim (λ was. so_far.each c (left.0, left.1, was)) (λ now. here c now.1) (time.nothing_else left.0 c left.2);
    before = λ t c past left. ⊎_elim (so_far.before t c past) (λ now. absurd (omega (arith, past, so_far.later, now.0))) (time.nothing_else t c left);
  }

  -- one run after another
  pub then_runs : (old mid new : D) (P Q : List ℕ → Type 0) → LeavesOnly clock left old mid P → LeavesOnly clock left mid new Q
      → ((file : List ℕ) → Q file → P file) → LeavesOnly clock left old new P
  then_runs old mid new P Q first second here = record {
    later = omega (arith, first.later, second.later);
    each = λ c left. ⊎_elim
        (λ past. first.each c (left.0, left.1, second.before left.0 c past left.2))
        (λ now. here c (second.each c (left.0, now, left.2)))
        (cases_lt left.0 (clock mid));
    before = λ t c past left. first.before t c past (second.before t c (omega (arith, past, first.later)) left);
  }

  -- what has P has Q
  pub leaves_weaker : (old new : D) (P Q : List ℕ → Type 0) → LeavesOnly clock left old new P → ((file : List ℕ) → P file → Q file) → LeavesOnly clock left old new Q
  leaves_weaker old new P Q run weaker = record {
    later = run.later;
    each = λ c left. weaker c (run.each c left);
    before = run.before;
  }
