-- What a machine keeps, where its parts change.
use Rattle.std.proofs.Common.{◌≡◌, ℕ, zero, suc, ◌+◌, ◌^◌, ◌<◌, ◌≤◌, ◌==◌, List, [], ◌∷◌, ◌++◌, count_by, slice_index_or, length, map, min, take, refl, ap, sym, subst, ◌∙◌, append_assoc, add-zero, arith}
use Rattle.std.specs.Global.{Vec}
use Rattle.std.specs.List.{AllByRecursion}
use Rattle.std.specs.List.Sorted.{IsPermutation}
use Rattle.std.proofs.Math.Seq.{take-append_seam, take-length}
use Rattle.std.proofs.lemmas.List.{length-take, map-append}
use Rattle.std.proofs.lemmas.List.FromFn.{length-map-range_with_len}
use Rattle.std.proofs.lemmas.List.Sorted.{IsPermutation-middle, IsPermutation-sym}
use Rattle.std.proofs.lemmas.List.Sums.{count_by-le-length}
use Rattle.ic_arena.specs.declared.word.Word.{Word}
use Rattle.ic_arena.specs.Word.{agent_word}
use Rattle.ic_arena.specs.Piece.{Piece}
use Rattle.ic_arena.specs.Tables.{Blocks, names_pieces}
use Rattle.ic_machine.specs.declared.equation.Equation.{Equation}
use Rattle.ic_machine.specs.declared.machine.Machine.TheInside.{Inside}
use Rattle.ic_machine.specs.declared.plan.Plan.{Plan}
use Rattle.ic_machine.specs.Plan.{Plans, constants, planned}
use Rattle.ic_machine.specs.Net.{Net, equated_of, pieces, IsPair, IsStuck}
use Rattle.ic_machine.specs.Runs.{Counted, Ran}
use Rattle.ic_machine.specs.Separate.{IsSeparate}
use Rattle.ic_machine.specs.Steps.{no_step}
use Rattle.ic_machine.specs.inner.Firing.{heaps_pieces, arities_of}
use Rattle.ic_machine.specs.inner.Machine.{IsSound, net_of}
use Rattle.ic_machine.specs.inner.Pairs.{Passed}
use Rattle.ic_machine.specs.inner.Queue.{Queued}
use Rattle.ic_machine.specs.lemmas.FiringKeeps.{all_append}
use Rattle.ic_machine.specs.lemmas.RunsOn.{counted_none}
use Rattle.ic_machine.specs.lemmas.Separation.{separate_in_order}
use Rattle.ic_machine.proofs.InUse.{same_places}
use Rattle.ic_machine.proofs.Spare.{passed_spare, spare_fewer}
use Rattle.ic_machine.proofs.Running.{passed_aside, passed_pairs, passed_separate, passed_steps}

-- a machine of which equations were set aside
abbrev pub set_aside : Inside → Queued → Vec Equation → Inside
set_aside m pending aside = record m { aside = aside; tables = record m.tables { pending = pending } }

module _ (p : Plans) (m : Inside) (pending : Queued) (aside : Vec Equation)
    (h : Passed p m.tables.pending.items m.aside.items pending.items aside.items) where
  -- it keeps what it kept
  pub passed_sound : IsSound m → pending.capacity ≡ m.tables.pending.capacity → IsSound (set_aside m pending aside)
  passed_sound sound memory = record {
    separate = passed_separate (arities_of m.tables.heaps.items) m.interface.items p m.tables.pending.items m.aside.items
        pending.items aside.items (names_pieces 0 m.tables.names.entries ++ heaps_pieces 0 m.tables.heaps.items) h sound.separate;
    pairs = passed_pairs p m.tables.pending.items m.aside.items pending.items aside.items h sound.pairs;
    aside = passed_aside p m.tables.pending.items m.aside.items pending.items aside.items h sound.aside;
    names = sound.names;
    symbols = sound.symbols;
    registers = sound.registers;
    spare = passed_spare p m.tables pending m.aside.items aside.items h memory sound.spare;
    counts = sound.counts;
  }

  -- nothing fires
  pub passed_ran : (n : Net) → net_of m ≡ n → Ran p n (net_of (set_aside m pending aside))
  passed_ran n is = subst (λ (o : Net). Ran p o (net_of (set_aside m pending aside))) is (record {
    fired = [];
    moments = [];
    way = passed_steps p m.tables.pending.items m.aside.items pending.items aside.items (net_of m).places h;
    places = same_places (net_of m) (net_of (set_aside m pending aside)) refl refl;
    symbols = refl;
    counted = sym (add-zero m.interactions);
    counts = counted_none m.counts.items;
    arities = refl;
    interface = refl;
    more = h.more;
    aside = h.after;
    stuck = h.stuck;
  })

-- a machine of which the first pending pair, which is stuck, was set aside
module _ (p : Plans) (m : Inside) (pending : Queued) (aside : Vec Equation) (e : Equation) (stuck : IsStuck p e)
    (first : m.tables.pending.items ≡ e ∷ pending.items) (put : aside.items ≡ m.aside.items ++ e ∷ []) where
  -- the same pieces
  first_order : IsPermutation (pieces (net_of m)) (pieces (net_of (set_aside m pending aside)))
  first_order =
      let x : Piece = equated_of e in
      let q : List Piece = map equated_of pending.items in
      let a : List Piece = map equated_of m.aside.items in
      let others : List Piece = (net_of m).places in
      let before : pieces (net_of m) ≡ x ∷ (q ++ (a ++ others)) = ap (λ (l : List Equation). map equated_of l ++ (a ++ others)) first in
      let after : pieces (net_of (set_aside m pending aside)) ≡ (q ++ a) ++ x ∷ others =
      ap (λ (l : List Equation). q ++ (map equated_of l ++ others)) put
      ∙ (ap (λ (l : List Piece). q ++ (l ++ others)) (map-append equated_of m.aside.items (e ∷ []))
      ∙ (ap (λ (l : List Piece). q ++ l) (append_assoc a (x ∷ []) others) ∙ sym (append_assoc q a (x ∷ others)))) in
      let moved = IsPermutation-sym ((q ++ a) ++ x ∷ others) (x ∷ ((q ++ a) ++ others)) (IsPermutation-middle (q ++ a) x others) in
      subst (λ (l : List Piece). IsPermutation l (pieces (net_of (set_aside m pending aside)))) (sym before)
      (subst (λ (l : List Piece). IsPermutation (x ∷ (q ++ (a ++ others))) l) (sym after)
      (subst (λ (l : List Piece). IsPermutation (x ∷ l) ((q ++ a) ++ x ∷ others)) (append_assoc q a others) moved))

  -- it keeps what it kept
  pub first_sound : IsSound m → m.tables.pending.capacity ≤ pending.capacity + 1 → IsSound (set_aside m pending aside)
  first_sound sound memory =
      let pairs = subst (AllByRecursion IsPair) first sound.pairs in
      let len : length m.tables.pending.items ≡ suc (length pending.items) = ap length first in
      record {
        separate = separate_in_order (arities_of m.tables.heaps.items) m.interface.items (pieces (net_of m))
            (pieces (net_of (set_aside m pending aside))) first_order sound.separate;
        pairs = pairs.1;
        aside = subst (AllByRecursion IsPair) (sym put) (all_append IsPair m.aside.items (e ∷ []) sound.aside (pairs.0, tt));
        names = sound.names;
        symbols = sound.symbols;
        registers = sound.registers;
        spare = spare_fewer m.tables pending (omega arith) sound.spare;
        counts = sound.counts;
      }

  -- nothing fires
  pub first_ran : Ran p (net_of m) (net_of (set_aside m pending aside))
  first_ran = record {
    fired = [];
    moments = [];
    way = no_step (pieces (net_of m)) (pieces (net_of (set_aside m pending aside))) first_order;
    places = same_places (net_of m) (net_of (set_aside m pending aside)) refl refl;
    symbols = refl;
    counted = sym (add-zero m.interactions);
    counts = counted_none m.counts.items;
    arities = refl;
    interface = refl;
    more = e ∷ [];
    aside = put;
    stuck = (stuck, tt);
  }

-- the registers begin with the agents without arguments
pub first_registers : (n m : ℕ) (rs : List Word) → m ≡ n → rs ≡ constants n → take m rs ≡ constants m
first_registers n m rs same is =
    let len : length (constants n) ≡ n = length-map-range_with_len (λ s. agent_word s 0) 0 n in
    rw (same, is) (subst (λ (k : ℕ). take k (constants n) ≡ constants n) len (take-length (constants n)))

pub first_of : (n m : ℕ) (rs more : List Word) → m ≡ n → rs ≡ constants n ++ more → take m rs ≡ constants m
first_of n m rs more same is =
    let len : length (constants n) ≡ n = length-map-range_with_len (λ s. agent_word s 0) 0 n in
    rw (same, is) (subst (λ (k : ℕ). take k (constants n ++ more) ≡ constants n) len
    (take-append_seam (constants n) more))

-- no plan has fired more often than all, where some have fired
pub counts_all : (is : List ℕ) (n : ℕ) (old new : List ℕ) → AllByRecursion (λ k. k ≤ n) old → Counted is old new
    → AllByRecursion (λ k. k ≤ n + length is) new
counts_all is n old new h c = all_at (λ k. k ≤ n + length is) new (λ j lt.
    let len : length new ≡ length old = c.all in
    let one = c.each j (omega arith) in
    let most : slice_index_or old j 0 ≤ n = at_all (λ k. k ≤ n) old j 0 (omega arith) h in
    let few : count_by (λ k. k == j) is ≤ length is = count_by-le-length (λ k. k == j) is in
    omega arith)
  where
    at_all : (P : ℕ → Type 0) (xs : List ℕ) (j d : ℕ) → j < length xs → AllByRecursion P xs → P (slice_index_or xs j d)
    at_all P [] j d lt h = absurd (omega arith)
    at_all P (x ∷ xs) zero d lt h = h.0
    at_all P (x ∷ xs) (suc j) d lt h = at_all P xs j d (omega arith) h.1

    all_at : (P : ℕ → Type 0) (xs : List ℕ) → ((j : ℕ) → j < length xs → P (slice_index_or xs j 0)) → AllByRecursion P xs
    all_at P [] f = tt
    all_at P (x ∷ xs) f = (f zero (omega arith), all_at P xs (λ j lt. f (suc j) (omega arith)))

-- where one has fired once more
pub counts_within : (i n : ℕ) (old new : List ℕ) → AllByRecursion (λ k. k ≤ n) old → Counted (i ∷ []) old new
    → AllByRecursion (λ k. k ≤ n + 1) new
counts_within i n old new h c = counts_all (i ∷ []) n old new h c

-- there is a number for a count that is one more
pub counts_below : (n : ℕ) (xs : List ℕ) → n + 1 < 2 ^ 64 → AllByRecursion (λ k. k ≤ n) xs
    → AllByRecursion (λ k. k + 1 < 2 ^ 64) xs
counts_below n [] few h = tt
counts_below n (x ∷ xs) few h = (let most = h.0 in omega arith, counts_below n xs few h.1)

-- no plan has fired yet
pub none_counted : (plans : List Plan) (counts : List ℕ) → counts ≡ map {B = ℕ} (λ plan. 0) plans → AllByRecursion (λ k. k ≤ 0) counts
none_counted plans counts is = subst (λ (l : List ℕ). AllByRecursion (λ k. k ≤ 0) l) (sym is) (zeros plans)
  where
    zeros : (plans : List Plan) → AllByRecursion (λ k. k ≤ 0) (map {B = ℕ} (λ plan. 0) plans)
    zeros [] = tt
    zeros (p ∷ ps) = (omega arith, zeros ps)

pub all_none : (plans : List Plan) → map {B = ℕ} (λ plan. 0) (map planned plans) ≡ map {B = ℕ} (λ plan. 0) plans
all_none [] = refl
all_none (p ∷ ps) = ap (λ (l : List ℕ). 0 ∷ l) (all_none ps)

-- no plan has fired more often than all, in two machines
pub counts_added : (n m : ℕ) (old more new : List ℕ) → length new ≡ length old → length more ≡ length old
    → AllByRecursion (λ k. k ≤ n) old → AllByRecursion (λ k. k ≤ m) more
    → ((i : ℕ) → slice_index_or new i 0 ≡ slice_index_or old i 0 + slice_index_or more i 0) → AllByRecursion (λ k. k ≤ n + m) new
counts_added n m [] more [] e f a b sums = tt
counts_added n m [] more (z ∷ new) e f a b sums = absurd (omega arith)
counts_added n m (x ∷ old) more [] e f a b sums = absurd (omega arith)
counts_added n m (x ∷ old) [] (z ∷ new) e f a b sums = absurd (omega arith)
counts_added n m (x ∷ old) (y ∷ more) (z ∷ new) e f a b sums =
    let sum : z ≡ x + y = sums 0 in
    let p = a.0 in
    let q = b.0 in
    (omega arith, counts_added n m old more new (omega arith) (omega arith) a.1 b.1 (λ i. sums (suc i)))

pub at_most : (n : ℕ) (xs : List ℕ) (i : ℕ) → AllByRecursion (λ k. k ≤ n) xs → slice_index_or xs i 0 ≤ n
at_most n [] i h = omega arith
at_most n (x ∷ xs) zero h = h.0
at_most n (x ∷ xs) (suc i) h = at_most n xs i h.1

-- where nothing is, each place is named no more often than it may be
pub nothing_separate : (arities : List ℕ) (i : List Word) (ps us : List Equation) (n h : List Piece) → i ≡ [] → ps ≡ [] → us ≡ [] → n ≡ [] → h ≡ []
    → IsSeparate arities i (map equated_of ps ++ (map equated_of us ++ (n ++ h)))
nothing_separate arities i ps us n h a b c d e = rw (a, b, c, d, e) (record { each = λ w k. omega arith })

pub no_agents : (hs : List Blocks) (arities : List ℕ) → arities_of hs ≡ arities → AllByRecursion (λ b. b.count ≡ 0) hs
    → map {B = ℕ} (λ b. b.count) hs ≡ map (λ k. 0) arities
no_agents [] [] e h = refl
no_agents [] (a ∷ arities) e h = cc
no_agents (b ∷ hs) [] e h = cc
no_agents (b ∷ hs) (a ∷ arities) e h =
    let rest : arities_of hs ≡ arities = cc in
    let first : b.count ≡ 0 = h.0 in
    let later = no_agents hs arities rest h.1 in
    (λ i. first i ∷ later i)

-- registers that begin with the agents without arguments are as many at least
pub wide_enough : (n : ℕ) (rs : List Word) → take n rs ≡ constants n → n ≤ length rs
wide_enough n rs is =
    let len : length (constants n) ≡ n = length-map-range_with_len (λ s. agent_word s 0) 0 n in
    let first : length (take n rs) ≡ length (constants n) = ap length is in
    let whole : length (take n rs) ≡ min n (length rs) = length-take n rs in
    omega arith
