-- Where a table would have too many entries.
use Rattle.std.proofs.Common.{◌≡◌, ℕ, zero, suc, ◌<◌, inl, inr, List, [], ◌∷◌, Contains, Result, Err, slice_index_or, length, map, refl, ap, sym, ◌∙◌, arith}
use Rattle.std.specs.List.{AllByRecursion}
use Rattle.std.proofs.Math.ListN.{get_or-map}
use Rattle.std.proofs.lemmas.List.{length-map}
use Rattle.ic_arena.specs.Tables.{Blocks}
use Rattle.ic_machine.specs.declared.plan.Make.{Make}
use Rattle.ic_machine.specs.Plan.{Planned, made_of}
use Rattle.ic_machine.specs.Net.{Net, IsFull}
use Rattle.ic_machine.specs.inner.Firing.{table}
use Rattle.ic_machine.specs.inner.Tables.{IsTooMuch}

-- what would be too much for the tables is too much for the net that they hold
pub full_net : (p : Planned) (n : Net) (names : ℕ) (hs : List Blocks) → n.names ≡ names
    → n.agents ≡ map (λ b. b.count) hs → IsTooMuch p names hs → IsFull p n
full_net p n names hs e f h = elim h [
  | inl much ↦ inl (omega arith)
  | inr much ↦ inr (
    much.0,
    much.1,
    let count : slice_index_or n.agents much.0.symbol 0 ≡ (table hs much.0.symbol).count =
        ap (λ (l : List ℕ). slice_index_or l much.0.symbol 0) f
        ∙ get_or-map (λ b. b.count) hs much.0.symbol (record { arity = 0; count = 0; words = []; capacity = 0 }) in
        let many = much.2 in
        omega arith,
  )
]

-- an agent that is to be made is one of those that were planned
pub made_contained : (ms : List Make) (i : ℕ) (m : Make) → i < length ms → m ≡ slice_index_or ms i m
    → Contains (map made_of ms) (made_of m)
made_contained ms i m lt is =
    let len : length (map made_of ms) ≡ length ms = length-map ms made_of in
    (i, omega arith, get_or-map made_of ms i m ∙ ap made_of (sym is))

-- in tables that are empty, it is too much only where more agents are made than there are numbers
pub none_yet : (hs : List Blocks) (s : ℕ) → AllByRecursion (λ b. b.count ≡ 0) hs → (table hs s).count ≡ 0
none_yet [] s h = refl
none_yet (b ∷ bs) zero h = h.0
none_yet (b ∷ bs) (suc s) h = none_yet bs s h.1

-- a fault that is handed on is the one that came
pub same_fault : {T E : Type 0} (r : Result T E) (y f l : E) → r ≡ Err y → y ≡ f → r ≡ Err l → f ≡ l
same_fault {T} {E} r y f l is same e = sym same ∙ inside y l (sym is ∙ e)
  where
    inside : (y l : E) → ◌≡◌ {A = Result T E} (Err y) (Err l) → y ≡ l
    inside y l e = cc
