-- The job of a name, after a round and a submit.
use Rattle.std.proofs.Common.{◌≡◌, ℕ, List, [], ◌∷◌, Bool, true, false, Option, None, Some, refl, sym, ap, subst, ◌∙◌, true≢false}
use Rattle.std.specs.Prelude.{IsSome, if◌then◌else◌}
use Rattle.std.specs.List.{AllByRecursion, IsDistinct}
use Rattle.std.specs.Option.{option_map_or}
use Rattle.std.specs.Str.{bytes_eq}
use Rattle.std.proofs.lemmas.Slice.Eq.{bytes_eq-Decides}
use Rattle.std.proofs.lemmas.Map.Keys.{IsDistinct-head, IsDistinct-tail}
use Rattle.ic_jobs.specs.declared.event.Event.TheVariants.{Round}
use Rattle.ic_jobs.specs.declared.reply.Reply.TheVariants.{Moved, Halted}
use Rattle.ic_jobs.specs.declared.state.State.TheVariants as state
use Rattle.ic_jobs.specs.State.{is_running}
use Rattle.ic_jobs.specs.Job.{JobParts, can_move, moved, in_state}
use Rattle.ic_jobs.specs.Table.{is_named, job_names, job_named, with_changed}
use Rattle.ic_jobs.specs.Events.{Outcome, after_round, outcome, where_running}
use Rattle.ic_jobs.specs.History.{table_after}
use Rattle.ic_batch.specs.Way.{after_event}

-- the table after a round of a running job
round_table : (t : List JobParts) (name : List ℕ) (j : JobParts) → job_named name t ≡ Some j → is_running j.state ≡ true
    → table_after t (Round name) ≡ (after_round t name j).table
round_table t name j there runs =
    ap (λ (o : Option JobParts). option_map_or (λ (p : Outcome). p.table) (where_running (after_round t name) o) t) there
    ∙ ap (λ (b : Bool). option_map_or (λ (p : Outcome). p.table) (if b then Some (after_round t name j) else None) t) runs

-- what a round makes of a running job of this name
abbrev pub change : JobParts → JobParts → JobParts
change j = if can_move j then moved else in_state state.Halted

change_table : (t : List JobParts) (name : List ℕ) (b : Bool)
    → (if b then outcome (with_changed name moved t) Moved else outcome (with_changed name (in_state state.Halted) t) Halted).table
    ≡ with_changed name (if b then moved else in_state state.Halted) t
change_table t name true = refl
change_table t name false = refl

pub round_changes : (t : List JobParts) (name : List ℕ) (j : JobParts) → job_named name t ≡ Some j → is_running j.state ≡ true
    → table_after t (Round name) ≡ with_changed name (change j) t
round_changes t name j there runs = round_table t name j there runs ∙ change_table t name (can_move j)

pub keeps_name : (b : Bool) (k : JobParts) → ((if b then moved else in_state state.Halted) k).name ≡ k.name
keeps_name true k = refl
keeps_name false k = refl

changed_is : (b : Bool) (j : JobParts) → (if b then moved else in_state state.Halted) j ≡ (if b then moved j else in_state state.Halted j)
changed_is true j = refl
changed_is false j = refl

pub change_is : (j : JobParts) → change j j ≡ after_event j
change_is j = changed_is (can_move j) j

pub same_name : (a b : List ℕ) → bytes_eq a b ≡ true → a ≡ b
same_name a b is = (bytes_eq-Decides a b).0 is

pub is_same : (a b : List ℕ) → a ≡ b → bytes_eq a b ≡ true
is_same a b is = (bytes_eq-Decides a b).1 is

-- what is there has a job
pub some_there : {X : Type 0} (o : Option X) → IsSome o → (x : X) × (o ≡ Some x)
some_there None is = cc
some_there (Some x) is = (x, refl)

-- no other job has the name of the first
apart : (name : List ℕ) (x : JobParts) (xs : List JobParts) → name ≡ x.name → AllByRecursion (λ y. bytes_eq x.name y ≡ false) (job_names xs)
    → AllByRecursion (λ y. is_named name y ≡ true → y ≡ x) xs
apart name x [] same none = tt
apart name x (y ∷ ys) same none =
    (λ is. absurd (true≢false (sym is ∙ ap (λ (n : List ℕ). bytes_eq n y.name) same ∙ none.0)), apart name x ys same none.1)

-- in a table one job has the name
pub one_named : (name : List ℕ) (t : List JobParts) (j : JobParts) → IsDistinct bytes_eq (job_names t) → job_named name t ≡ Some j
    → AllByRecursion (λ y. is_named name y ≡ true → y ≡ j) t
one_named name [] j distinct there = tt
one_named name (x ∷ xs) j distinct there =
    by (is_named name x) refl there (IsDistinct-head bytes_eq x.name (job_names xs) distinct) (one_named name xs j (IsDistinct-tail bytes_eq x.name (job_names xs) distinct))
  where
    by : (b : Bool) → is_named name x ≡ b → ◌≡◌ {A = Option JobParts} (if b then Some x else job_named name xs) (Some j) → AllByRecursion (λ y. bytes_eq x.name y ≡ false) (job_names xs)
        → (job_named name xs ≡ Some j → AllByRecursion (λ y. is_named name y ≡ true → y ≡ j) xs) → AllByRecursion (λ y. is_named name y ≡ true → y ≡ j) (x ∷ xs)
    by true is there none rest =
        let first : x ≡ j = cc in
        (λ named. first, subst (λ (k : JobParts). AllByRecursion (λ y. is_named name y ≡ true → y ≡ k) xs) first (apart name x xs (same_name name x.name is) none))
    by false is there none rest = (λ named. absurd (true≢false (sym named ∙ is)), rest there)
