-- The registers of names: a name more, and what each name is read from.
use Rattle.std.proofs.Common.{◌≡◌, ◌⊎◌, ℕ, zero, suc, ◌+◌, ◌≤◌, ◌<◌, ◌==◌, List, [], ◌∷◌, ◌++◌, Bool, true, false, cond, Option, None, Some, length, slice_get, slice_index_or, true≢false, refl, sym, ap, subst, ◌∙◌, arith, inl, inr}
use Rattle.std.specs.Prelude.{is_some}
use Rattle.std.proofs.lemmas.Option.{none-some, same_Some}
use Rattle.std.specs.Cmp.{unsigned_Decides}
use Rattle.std.specs.List.{AllByRecursion}
use Rattle.ic_term.specs.Tree.{Tree, name, agent}
use Rattle.ic_meaning.specs.Plans.{Argument, arguments_from}
use Rattle.ic_plans.specs.inner.Registers.{Registers, found, AreRegisters}

-- ---- lists

pub all_there : {X : Type 0} (P : X → Type 0) (xs : List X) (i : ℕ) (x : X) → AllByRecursion P xs → slice_get xs i ≡ Some x → P x
all_there P [] i x all there = absurd (none-some x there)
all_there P (y ∷ ys) zero x all there = subst P (same_Some y x there) all.0
all_there P (y ∷ ys) (suc i) x all there = all_there P ys i x all.1 there

pub there_front : {X : Type 0} (xs ys : List X) (i : ℕ) (x : X) → slice_get xs i ≡ Some x → slice_get (xs ++ ys) i ≡ Some x
there_front [] ys i x there = absurd (none-some x there)
there_front (y ∷ xs) ys zero x there = there
there_front (y ∷ xs) ys (suc i) x there = there_front xs ys i x there

pub there_last : {X : Type 0} (xs : List X) (x : X) → slice_get (xs ++ x ∷ []) (length xs) ≡ Some x
there_last [] x = refl
there_last (y ∷ xs) x = there_last xs x

pub there_either : {X : Type 0} (xs : List X) (a b : X) (i : ℕ) → slice_get (xs ++ a ∷ []) i ≡ Some b → (slice_get xs i ≡ Some b) ⊎ (a ≡ b)
there_either [] a b zero there = inr (same_Some a b there)
there_either [] a b (suc i) there = absurd (none-some b there)
there_either (x ∷ xs) a b zero there = inl there
there_either (x ∷ xs) a b (suc i) there = there_either xs a b i there

pub some_there : (o : Option ℕ) → is_some o ≡ true → (s : ℕ) × (o ≡ Some s)
some_there None some = absurd (true≢false (sym some))
some_there (Some s) some = (s, refl)

pub none_there : (o : Option ℕ) → is_some o ≡ false → o ≡ None
none_there None none = refl
none_there (Some s) none = absurd (true≢false none)

-- ---- arguments

-- the name that a term is, or 0
abbrev pub number_in : Tree → ℕ
number_in (name x) = x
number_in (agent s ts) = 0

pub argument_there : (k : ℕ) (ts : List Tree) (i : ℕ) (t : Tree) → i < length ts → slice_index_or ts i t ≡ t
    → slice_get (arguments_from k ts) i ≡ Some (record { register = k + i; term = t })
argument_there k [] i t low is = absurd (omega arith)
argument_there k (u ∷ ts) zero t low is = let same : k ≡ k + 0 = omega arith in (λ j. Some (record { register = same j; term = is j }))
argument_there k (u ∷ ts) (suc i) t low is =
    let same : (k + 1) + i ≡ k + suc i = omega arith in
    argument_there (k + 1) ts i t (omega arith) is ∙ ap (λ j. Some (record { register = j; term = t })) same

pub arguments-more : (k : ℕ) (ts : List Tree) (t : Tree)
    → arguments_from k (ts ++ t ∷ []) ≡ arguments_from k ts ++ record { register = k + length ts; term = t } ∷ []
arguments-more k [] t = let same : k ≡ k + 0 = omega arith in ap (λ j. record { register = j; term = t } ∷ []) same
arguments-more k (u ∷ ts) t =
    let same : (k + 1) + length ts ≡ k + length (u ∷ ts) = omega arith in
    ap (λ l. record { register = k; term = u } ∷ l) (arguments-more (k + 1) ts t ∙ ap (λ j. arguments_from (k + 1) ts ++ record { register = j; term = t } ∷ []) same)

pub arguments-below : (k : ℕ) (ts : List Tree) (bound : ℕ) → k + length ts ≤ bound → AllByRecursion (λ a. a.register < bound) (arguments_from k ts)
arguments-below k [] bound high = tt
arguments-below k (t ∷ ts) bound high = (omega arith, arguments-below (k + 1) ts bound (omega arith))

pub arguments-at : (k : ℕ) (ts : List Tree) (i : ℕ) (a : Argument) → slice_get (arguments_from k ts) i ≡ Some a → (a.register ≡ k + i) × (i < length ts)
arguments-at k [] i a there = absurd (none-some a there)
arguments-at k (t ∷ ts) zero a there =
    let same = ap (λ b. b.register) (same_Some (record { register = k; term = t }) a there) in
    (omega arith, omega arith)
arguments-at k (t ∷ ts) (suc i) a there = let rest = arguments-at (k + 1) ts i a there in (omega arith, omega arith)

-- ---- a name more

module _ (arguments : List Argument) (start fresh : ℕ) (old new : Registers) (x r : ℕ)
    (updated : (q : ℕ) → found new q ≡ cond (x == q) (Some r) (found old q))
    (regs : AreRegisters arguments start fresh old) (other : (y : ℕ) → found old y ≡ Some r → ⊥) where
  -- it has its register, and the others have theirs
  which : (y s : ℕ) → found new y ≡ Some s → ((x ≡ y) × (r ≡ s)) ⊎ (found old y ≡ Some s)
  which y s there = at (x == y) refl
    where
      at : (b : Bool) → (x == y) ≡ b → ((x ≡ y) × (r ≡ s)) ⊎ (found old y ≡ Some s)
      at true e = inl ((unsigned_Decides x y).0 e, same_Some r s (sym (updated y ∙ ap (λ b. cond b (Some r) (found old y)) e) ∙ there))
      at false e = inr (sym (updated y ∙ ap (λ b. cond b (Some r) (found old y)) e) ∙ there)

  new_apart : (y z s : ℕ) → found new y ≡ Some s → found new z ≡ Some s → y ≡ z
  new_apart y z s a b = at (which y s a) (which z s b)
    where
      at : ((x ≡ y) × (r ≡ s)) ⊎ (found old y ≡ Some s) → ((x ≡ z) × (r ≡ s)) ⊎ (found old z ≡ Some s) → y ≡ z
      at (inl p) (inl q) = sym p.0 ∙ q.0
      at (inl p) (inr q) = absurd (other z (q ∙ ap Some (sym p.1)))
      at (inr p) (inl q) = absurd (other y (p ∙ ap Some (sym q.1)))
      at (inr p) (inr q) = regs.apart y z s p q

pub argument-kept : (arguments : List Argument) (start : ℕ) (a : Argument) (registers : Registers) → AreRegisters arguments start 0 registers
    → ((x : ℕ) → a.term ≡ name x → (r : ℕ) × (found registers x ≡ Some r)) → AreRegisters (arguments ++ a ∷ []) start 0 registers
argument-kept arguments start a registers regs has = record {
  read = λ x r there. at x r (regs.read x r there);
  apart = regs.apart;
  own = λ i s x there. own_at i s x (there_either arguments a (record { register = s; term = name x }) i there);
}
  where
    own_at : (i s x : ℕ) → (slice_get arguments i ≡ Some (record { register = s; term = name x })) ⊎ (a ≡ record { register = s; term = name x })
        → (r : ℕ) × (found registers x ≡ Some r) × ¬ ((start ≤ r) × (r < start + 0))
    own_at i s x (inl p) = regs.own i s x p
    own_at i s x (inr e) = let r = has x (ap (λ (b : Argument). b.term) e) in (r.0, r.1, (λ h. omega (arith, h.0, h.1)))

    at : (x r : ℕ) → ((start ≤ r) × (r < start + 0)) ⊎ ((i : ℕ) × (slice_get arguments i ≡ Some (record { register = r; term = name x })))
        → ((start ≤ r) × (r < start + 0)) ⊎ ((i : ℕ) × (slice_get (arguments ++ a ∷ []) i ≡ Some (record { register = r; term = name x })))
    at x r (inl p) = inl p
    at x r (inr q) = inr (q.0, there_front arguments (a ∷ []) q.0 (record { register = r; term = name x }) q.1)

-- a register that no name of so few arguments has
unread : (arguments : List Argument) (start fresh : ℕ) (old : Registers) (r : ℕ) → AreRegisters arguments start fresh old
    → AllByRecursion (λ a. a.register < r) arguments → (start ≤ r → r < start + fresh → ⊥) → (y : ℕ) → found old y ≡ Some r → ⊥
unread arguments start fresh old r regs below out y there = at (regs.read y r there)
  where
    at : ((start ≤ r) × (r < start + fresh)) ⊎ ((i : ℕ) × (slice_get arguments i ≡ Some (record { register = r; term = name y }))) → ⊥
    at (inl p) = out p.0 p.1
    at (inr q) =
        let low = all_there (λ (a : Argument). a.register < r) arguments q.0 (record { register = r; term = name y }) below q.1 in
        omega arith

-- an argument that is a name with no register yet
pub argument-added : (arguments : List Argument) (start : ℕ) (old new : Registers) (x own : ℕ)
    → ((q : ℕ) → found new q ≡ cond (x == q) (Some own) (found old q))
    → AllByRecursion (λ a. a.register < own) arguments → AreRegisters arguments start 0 old
    → AreRegisters (arguments ++ record { register = own; term = name x } ∷ []) start 0 new
argument-added arguments start old new x own updated below regs = record {
  read = λ y s there. at y s (which arguments start 0 old new x own updated regs other y s there);
  apart = new_apart arguments start 0 old new x own updated regs other;
  own = λ i s y there. own_at i s y (there_either arguments mine (record { register = s; term = name y }) i there);
}
  where
    mine : Argument
    mine = record { register = own; term = name x }

    other : (y : ℕ) → found old y ≡ Some own → ⊥
    other = unread arguments start 0 old own regs below (λ a b. omega arith)

    longer : (y s : ℕ) → ((start ≤ s) × (s < start + 0)) ⊎ ((i : ℕ) × (slice_get arguments i ≡ Some (record { register = s; term = name y })))
        → ((start ≤ s) × (s < start + 0)) ⊎ ((i : ℕ) × (slice_get (arguments ++ mine ∷ []) i ≡ Some (record { register = s; term = name y })))
    longer y s (inl p) = inl p
    longer y s (inr q) = inr (q.0, there_front arguments (mine ∷ []) q.0 (record { register = s; term = name y }) q.1)

    at : (y s : ℕ) → ((x ≡ y) × (own ≡ s)) ⊎ (found old y ≡ Some s)
        → ((start ≤ s) × (s < start + 0)) ⊎ ((i : ℕ) × (slice_get (arguments ++ mine ∷ []) i ≡ Some (record { register = s; term = name y })))
    at y s (inl p) = inr (length arguments, there_last arguments mine ∙ (λ i. Some (record { register = p.1 i; term = name (p.0 i) })))
    at y s (inr q) = longer y s (regs.read y s q)

    own_is : (y : ℕ) → (x == y) ≡ true → (r : ℕ) × (found new y ≡ Some r) × ¬ ((start ≤ r) × (r < start + 0))
    own_is y e = (own, updated y ∙ ap (λ b. cond b (Some own) (found old y)) e, (λ h. omega (arith, h.0, h.1)))

    own_at : (i s y : ℕ) → (slice_get arguments i ≡ Some (record { register = s; term = name y })) ⊎ (mine ≡ record { register = s; term = name y })
        → (r : ℕ) × (found new y ≡ Some r) × ¬ ((start ≤ r) × (r < start + 0))
    own_at i s y (inr e) = own_is y ((unsigned_Decides x y).1 (ap (λ (b : Argument). number_in b.term) e))
    own_at i s y (inl p) = by (x == y) refl
      where
        by : (b : Bool) → (x == y) ≡ b → (r : ℕ) × (found new y ≡ Some r) × ¬ ((start ≤ r) × (r < start + 0))
        by true e = own_is y e
        by false e =
            let it = regs.own i s y p in
            (it.0, updated y ∙ ap (λ b. cond b (Some own) (found old y)) e ∙ it.1, it.2)

-- a fresh one
pub fresh-added : (arguments : List Argument) (start fresh : ℕ) (old new : Registers) (x : ℕ)
    → ((q : ℕ) → found new q ≡ cond (x == q) (Some (start + fresh)) (found old q))
    → found old x ≡ None → AllByRecursion (λ a. a.register < start) arguments → AreRegisters arguments start fresh old
    → AreRegisters arguments start (fresh + 1) new
fresh-added arguments start fresh old new x updated none below regs = record {
  read = λ y s there. at y s (which arguments start fresh old new x (start + fresh) updated regs other y s there);
  apart = new_apart arguments start fresh old new x (start + fresh) updated regs other;
  own = λ i s y there. own_at i s y there (x == y) refl;
}
  where
    lower : (xs : List Argument) → AllByRecursion (λ a. a.register < start) xs → AllByRecursion (λ a. a.register < start + fresh) xs
    lower [] all = tt
    lower (a ∷ xs) all = (omega (arith, all.0), lower xs all.1)

    other : (y : ℕ) → found old y ≡ Some (start + fresh) → ⊥
    other = unread arguments start fresh old (start + fresh) regs (lower arguments below) (λ a b. omega arith)

    less : (r s f : ℕ) → r < s + (f + 1) → (r ≡ s + f → ⊥) → r < s + f
    less r s f low other = omega arith

    own_at : (i s y : ℕ) → slice_get arguments i ≡ Some (record { register = s; term = name y }) → (b : Bool) → (x == y) ≡ b
        → (r : ℕ) × (found new y ≡ Some r) × ¬ ((start ≤ r) × (r < start + (fresh + 1)))
    own_at i s y there true e =
        let it = regs.own i s y there in
        absurd (none-some it.0 (sym none ∙ ap (found old) ((unsigned_Decides x y).0 e) ∙ it.1))
    own_at i s y there false e =
        let it = regs.own i s y there in (
          it.0,
          updated y ∙ ap (λ b. cond b (Some (start + fresh)) (found old y)) e ∙ it.1,
          (λ h. it.2 (h.0, less it.0 start fresh h.1 (λ same. other y (it.1 ∙ ap Some same)))),
        )

    wider : (y s : ℕ) → ((start ≤ s) × (s < start + fresh)) ⊎ ((i : ℕ) × (slice_get arguments i ≡ Some (record { register = s; term = name y })))
        → ((start ≤ s) × (s < start + (fresh + 1))) ⊎ ((i : ℕ) × (slice_get arguments i ≡ Some (record { register = s; term = name y })))
    wider y s (inl p) = inl (p.0, omega (arith, p.1))
    wider y s (inr q) = inr q

    at : (y s : ℕ) → ((x ≡ y) × (start + fresh ≡ s)) ⊎ (found old y ≡ Some s)
        → ((start ≤ s) × (s < start + (fresh + 1))) ⊎ ((i : ℕ) × (slice_get arguments i ≡ Some (record { register = s; term = name y })))
    at y s (inl p) = let same = p.1 in inl (omega arith, omega arith)
    at y s (inr q) = wider y s (regs.read y s q)
