-- Memory that is spare.
use Rattle.std.specs.Global.{Vec}
use Rattle.std.proofs.Common.{◌≡◌, false, Result, Ok, Err, OnOk, is_err, ℕ, zero, suc, ◌+◌, ◌*◌, ◌^◌, ◌<◌, ◌≤◌, inl, inr, List, [], ◌∷◌, length, slice_set, ap, refl, sym, subst, ◌∙◌, arith}
use Rattle.std.specs.List.{AllByRecursion}
use Rattle.std.proofs.Math.Nat.{eq-or-lt_of_le, mul-le-mul_right}
use Rattle.std.proofs.lemmas.List.{length-append}
use Rattle.ic_arena.specs.declared.word.Word.{Word}
use Rattle.ic_arena.specs.Tables.{Blocks}
use Rattle.ic_machine.specs.declared.equation.Equation.{Equation}
use Rattle.ic_machine.specs.declared.tables.Tables.{Tables}
use Rattle.ic_machine.specs.Plan.{Planned, Plans}
use Rattle.ic_machine.specs.inner.Firing.{AreSame, HasBlocks, HasRoom, IsGrown, SameSize, table}
use Rattle.ic_machine.specs.inner.Pairs.{Passed}
use Rattle.ic_machine.specs.inner.Queue.{Queued}
use Rattle.ic_machine.specs.inner.Tables.{HasMemory, HasRoomFor, HasSpare}
use Rattle.ic_machine.specs.lemmas.FiringKeeps.{all_of}
use Rattle.ic_machine.proofs.Heaps.{same_at, same_length, set_at, table_set}

-- what holds where a call is fine, and it is no error
pub fine : {T E : Type 0} (r : Result T E) (P : Type 0) → OnOk r P → is_err r ≡ false → P
fine (Ok x) P h e = h
fine (Err y) P h e = absurd (cc e)

times : (m n k : ℕ) → (m + n) * k ≡ m * k + n * k
times m n k = omega arith

-- a table has memory for fewer blocks too
pub blocks_fewer : (m n : ℕ) (b : Blocks) → m ≤ n → HasBlocks n b → HasBlocks m b
blocks_fewer m n b le h =
    let most : m * b.arity ≤ n * b.arity = mul-le-mul_right b.arity le in
    let fits : length b.words + n * b.arity ≤ b.capacity = h.0 in
    let few : b.count + n < 2 ^ 32 = h.1 in
    (omega arith, omega arith)

-- and for what is left where some were made
pub blocks_left : (n k : ℕ) (a b : Blocks) → IsGrown k a b → HasBlocks (n + k) a → HasBlocks n b
blocks_left n k a b g h =
    let parts : (n + k) * a.arity ≡ n * a.arity + k * a.arity = times n k a.arity in
    let same : n * b.arity ≡ n * a.arity = ap (λ (x : ℕ). n * x) g.arity in
    let fits : length a.words + (n + k) * a.arity ≤ a.capacity = h.0 in
    let few : a.count + (n + k) < 2 ^ 32 = h.1 in
    let len = g.len in
    let count = g.count in
    let capacity = g.capacity in
    (omega arith, omega arith)

pub blocks_same : (n : ℕ) (a b : Blocks) → SameSize a b → HasBlocks n a → HasBlocks n b
blocks_same n a b g h =
    let same : n * b.arity ≡ n * a.arity = ap (λ (x : ℕ). n * x) g.arity in
    let fits : length a.words + n * a.arity ≤ a.capacity = h.0 in
    let few : a.count + n < 2 ^ 32 = h.1 in
    let len = g.len in
    let count = g.count in
    let capacity = g.capacity in
    (omega arith, omega arith)

-- it has it still where tables got more
pub blocks_more : (hs gs : List Blocks) (n s : ℕ) → AreSame hs gs → HasBlocks n (table hs s) → HasBlocks n (table gs s)
blocks_more hs gs n s same h =
    let z = same_at hs gs same s in
    let big : n * (table gs s).arity ≡ n * (table hs s).arity = ap (λ (x : ℕ). n * x) z.0 in
    let count : (table gs s).count ≡ (table hs s).count = z.1 in
    let len : length (table gs s).words ≡ length (table hs s).words = ap length z.2 in
    let more : (table hs s).capacity ≤ (table gs s).capacity = z.3 in
    let fits : length (table hs s).words + n * (table hs s).arity ≤ (table hs s).capacity = h.0 in
    let few : (table hs s).count + n < 2 ^ 32 = h.1 in
    (omega arith, omega arith)

-- one more block in one table
pub grown_set : (h0 hs : List Blocks) (i s : ℕ) (b : Blocks) → ((t : ℕ) → IsGrown i (table h0 t) (table hs t))
    → b.arity ≡ (table hs s).arity → b.count ≤ (table hs s).count + 1
    → length b.words ≤ length (table hs s).words + (table hs s).arity → b.capacity ≡ (table hs s).capacity
    → (t : ℕ) → IsGrown (i + 1) (table h0 t) (table (slice_set hs s b) t)
grown_set h0 hs i s b all arity count len capacity t =
    set_at (λ k c. IsGrown (i + 1) (table h0 k) c) hs s b (λ k. more k (all k)) now t
  where
    more : (k : ℕ) → IsGrown i (table h0 k) (table hs k) → IsGrown (i + 1) (table h0 k) (table hs k)
    more k g =
        let a : ℕ = (table h0 k).arity in
        let next : (i + 1) * a ≡ i * a + 1 * a = times i 1 a in
        let c = g.count in
        let l = g.len in
        record { arity = g.arity; count = omega arith; len = omega arith; capacity = g.capacity }

    now : IsGrown (i + 1) (table h0 s) b
    now =
        let g = all s in
        let a : ℕ = (table h0 s).arity in
        let next : (i + 1) * a ≡ i * a + 1 * a = times i 1 a in
        let one : 1 * a ≡ a = omega arith in
        let same : (table hs s).arity ≡ a = g.arity in
        let c = g.count in
        let l = g.len in
        record { arity = arity ∙ g.arity; count = omega arith; len = omega arith; capacity = capacity ∙ g.capacity }

table_other : (hs : List Blocks) (i s : ℕ) (b : Blocks) → s < i → table (slice_set hs i b) s ≡ table hs s
table_other [] i s b h = refl
table_other (c ∷ cs) zero s b h = absurd (omega arith)
table_other (c ∷ cs) (suc i) zero b h = refl
table_other (c ∷ cs) (suc i) (suc s) b h = table_other cs i s b (omega arith)

-- so many tables have memory, and the next one got it
pub room_next : (hs : List Blocks) (n i : ℕ) (b : Blocks) → i < length hs → ((s : ℕ) → s < i → HasBlocks n (table hs s))
    → HasBlocks n b → (s : ℕ) → s < i + 1 → HasBlocks n (table (slice_set hs i b) s)
room_next hs n i b there all here s lt =
    let known : s ≤ i = omega arith in
    elim (eq-or-lt_of_le known) [
      | inl e ↦ subst (λ (x : Blocks). HasBlocks n x)
          (sym (ap (λ (k : ℕ). table (slice_set hs i b) k) e ∙ table_set hs i b there)) here
      | inr e ↦ subst (λ (x : Blocks). HasBlocks n x) (sym (table_other hs i s b e)) (all s e)
    ]

-- what is spare is there where no less can be pending
pub spare_fewer : (t : Tables) (es : Queued) → length es.items + t.pending.capacity ≤ es.capacity + length t.pending.items
    → HasSpare t → HasSpare (record t { pending = es })
spare_fewer t es room h = λ some.
    let r : HasRoomFor t.spare t = h some in
    let enough : length t.pending.items + t.spare ≤ t.pending.capacity = r.pending in
    record { names = r.names; few = r.few; pending = omega arith; heaps = r.heaps }

-- a plan that makes no more has the memory that it needs
pub room_for_plan : (n : ℕ) (p : Planned) (hs : List Blocks) → length p.made ≤ n
    → ((s : ℕ) → s < length hs → HasBlocks n (table hs s)) → AllByRecursion (λ m. m.symbol < length hs) p.made
    → AllByRecursion (HasRoom hs (length p.made)) p.made
room_for_plan n p hs le all known =
    all_of (λ m. m.symbol < length hs) (HasRoom hs (length p.made)) p.made
    (λ m lt. blocks_fewer (length p.made) n (table hs m.symbol) le (all m.symbol lt)) known

-- what is spare stays so where equations are set aside
pub passed_spare : (p : Plans) (t : Tables) (es : Queued) (us us' : List Equation)
    → Passed p t.pending.items us es.items us' → es.capacity ≡ t.pending.capacity → HasSpare t
    → HasSpare (record t { pending = es })
passed_spare p t es us us' h memory spare =
    let len : length t.pending.items ≡ length es.items + length h.rest = ap length h.before ∙ length-append es.items h.rest in
    spare_fewer t es (omega arith) spare

pub same_on : (hs gs fs : List Blocks) → AreSame hs gs → AreSame gs fs → AreSame hs fs
same_on [] [] [] f g = tt
same_on [] [] (x ∷ xs) f g = absurd g
same_on [] (y ∷ ys) fs f g = absurd f
same_on (x ∷ xs) [] fs f g = absurd f
same_on (x ∷ xs) (y ∷ ys) [] f g = absurd g
same_on (x ∷ xs) (y ∷ ys) (z ∷ zs) f g =
    let one : x.capacity ≤ y.capacity = f.0.3 in
    let two : y.capacity ≤ z.capacity = g.0.3 in
    ((g.0.0 ∙ f.0.0, g.0.1 ∙ f.0.1, g.0.2 ∙ f.0.2, omega arith), same_on xs ys zs f.1 g.1)

-- the memory that a plan needs is there still where there is more
pub memory_kept : (p : Planned) (arguments : ℕ) (t u : Tables) → u.names.entries ≡ t.names.entries
    → t.names.capacity ≤ u.names.capacity → u.pending.items ≡ t.pending.items
    → t.pending.capacity ≤ u.pending.capacity → u.registers ≡ t.registers → AreSame t.heaps.items u.heaps.items
    → HasMemory p arguments t → HasMemory p arguments u
memory_kept p arguments t u names names_more pending pending_more registers same h =
    let name_count : length u.names.entries ≡ length t.names.entries = ap length names in
    let pending_count : length u.pending.items ≡ length t.pending.items = ap length pending in
    let name_room : length t.names.entries + p.names ≤ t.names.capacity = h.names in
    let few : length t.names.entries + p.names < 2 ^ 32 = h.few in
    let pending_room : length t.pending.items + length p.links ≤ t.pending.capacity = h.pending in
    let many : length u.heaps.items ≡ length t.heaps.items = same_length t.heaps.items u.heaps.items same in
    let as_wide = ap (λ (r : Vec Word). length r.items) registers in
    let wide : length t.heaps.items + (arguments + p.names + length p.made) ≤ length t.registers.items = h.registers in
    record {
      names = omega arith;
      few = omega arith;
      pending = omega arith;
      registers = omega arith;
      heaps = all_of (HasRoom t.heaps.items (length p.made)) (HasRoom u.heaps.items (length p.made)) p.made
          (λ m room. blocks_more t.heaps.items u.heaps.items (length p.made) m.symbol same room) h.heaps;
    }
