-- The names that an event mentions are its own.
use Rattle.std.proofs.Common.{◌≡◌, ℕ, zero, suc, ◌<◌, List, [], ◌∷◌, Bool, true, false, IsTrue, ◌↔◌, ◌||◌, refl, sym, ap, arith}
use Rattle.std.specs.Prelude.{slice_index_or}
use Rattle.std.specs.List.{Contains}
use Rattle.std.specs.Str.{bytes_eq}
use Rattle.std.specs.Cmp.Lexicographic.{bytes_decides}
use Rattle.std.proofs.lemmas.Bool.{or_right}
use Rattle.ic_jobs.specs.declared.command.Command.{Command}
use Rattle.ic_jobs.specs.declared.command.Command.TheVariants.{Submit, CopyJob, Pause, Resume, Cancel, Fetch, List as list_jobs}
use Rattle.ic_jobs.specs.declared.event.Event.{Event}
use Rattle.ic_jobs.specs.declared.event.Event.TheVariants.{Command as by_command, Round}
use Rattle.ic_jobs.specs.Names.{command_mentions, mentions, command_names, event_names}

at_place : (n x : List ℕ) (k : ℕ) → k < 1 → slice_index_or (n ∷ []) k x ≡ x → n ≡ x
at_place n x zero h e = e
at_place n x (suc k) h e = absurd (omega arith)

one_name : (x n : List ℕ) → IsTrue (bytes_eq x n) ↔ Contains (n ∷ []) x
one_name x n = (
  λ is. (0, omega arith, sym ((bytes_decides x n).0 is)),
  λ h. (bytes_decides x n).1 (sym (at_place n x h.0 h.1 h.2)),
)

first_or_second : (x m n : List ℕ) (p q : Bool) → bytes_eq x m ≡ p → bytes_eq x n ≡ q → (p || q) ≡ true → Contains (m ∷ n ∷ []) x
first_or_second x m n true q first second is = (0, omega arith, sym ((bytes_decides x m).0 first))
first_or_second x m n false true first second is = (1, omega arith, sym ((bytes_decides x n).0 second))
first_or_second x m n false false first second is = cc

among_two : (x m n : List ℕ) (k : ℕ) → k < 2 → slice_index_or (m ∷ n ∷ []) k x ≡ x → (bytes_eq x m || bytes_eq x n) ≡ true
among_two x m n zero h e = ap (λ (p : Bool). p || bytes_eq x n) ((bytes_decides x m).1 (sym e))
among_two x m n (suc zero) h e = or_right (bytes_eq x m) (bytes_eq x n) ((bytes_decides x n).1 (sym e))
among_two x m n (suc (suc k)) h e = absurd (omega arith)

two_names : (x m n : List ℕ) → IsTrue (bytes_eq x m || bytes_eq x n) ↔ Contains (m ∷ n ∷ []) x
two_names x m n = (
  λ is. first_or_second x m n (bytes_eq x m) (bytes_eq x n) refl refl is,
  λ h. among_two x m n h.0 h.1 h.2,
)

no_name : (x : List ℕ) → IsTrue false ↔ Contains [] x
no_name x = (λ is. cc, λ h. absurd (let low : h.0 < 0 = h.1 in omega arith))

of_command : (x : List ℕ) (c : Command) → IsTrue (command_mentions x c) ↔ Contains (command_names c) x
of_command x (Submit n s most) = one_name x n
of_command x (CopyJob old new) = two_names x old new
of_command x (Pause n) = one_name x n
of_command x (Resume n) = one_name x n
of_command x (Cancel n) = one_name x n
of_command x (Fetch n) = one_name x n
of_command x list_jobs = no_name x

pub mentions_names : (x : List ℕ) (e : Event) → IsTrue (mentions x e) ↔ Contains (event_names e) x
mentions_names x (by_command c) = of_command x c
mentions_names x (Round n) = one_name x n
