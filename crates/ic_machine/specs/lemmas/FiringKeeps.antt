-- A firing keeps each place named no more often than it may be.
use Rattle.std.proofs.Common.{◌≡◌, ℕ, suc, ◌+◌, ◌*◌, ◌<◌, ◌≤◌, ◌==◌, inl, inr, List, [], ◌∷◌, ◌++◌, Bool, true, false, cond, length, map, refl, ap, sym, subst, ◌∙◌, append_assoc, zero-add, add-one, arith, sum_by, count_by, slice_get, nat_lt, Option, Some}
use Rattle.std.specs.List.{AllByRecursion, flat_map, range_with_len}
use Rattle.std.specs.Option.{option_map_or}
use Rattle.std.proofs.Math.ListN.{get_or-append}
use Rattle.std.proofs.lemmas.Bool.{lt-ltb, le-ltb}
use Rattle.std.proofs.lemmas.Bool.Decides.{leb_tells}
use Rattle.std.proofs.lemmas.List.{append-nil, length-append}
use Rattle.std.proofs.lemmas.List.FromFn.{length-map-range_with_len, get_or-map-range_with_len}
use Rattle.std.proofs.lemmas.List.Sums.{sum_by-cons, sum_by-append}
use Rattle.ic_arena.specs.declared.word.Word.{Word}
use Rattle.ic_arena.specs.declared.word.TheConstants.{GIVEN}
use Rattle.ic_arena.specs.Word.{name_word, agent_word, word_eq, count}
use Rattle.ic_arena.specs.Piece.{Piece, idle, room, uses}
use Rattle.ic_arena.specs.Tables.{register}
use Rattle.ic_arena.specs.lemmas.Rooms.{other_tag}
use Rattle.ic_machine.specs.declared.plan.Link.{Link}
use Rattle.ic_machine.specs.Plan.{Made, Planned, AreMade, IsPlan, allowance, constants, made_each, linked, link_operands, operands_of, pieces_made, made_at}
use Rattle.ic_machine.specs.Separate.{is_constant_tag}
use Rattle.ic_machine.specs.lemmas.Counting.{at_most, part_sum, range_parts}

-- how often words are counted that are in these registers
pub counted_in : (w : Word) (rs : List Word) (ops : List ℕ)
    → count w (map (register rs) ops) ≡ count_by (λ k. word_eq w (register rs k)) ops
counted_in w rs [] = refl
counted_in w rs (o ∷ ops) =
    sum_by-cons (λ v. cond (word_eq w v) 1 0) (register rs o) (map (register rs) ops)
    ∙ (ap (λ (n : ℕ). cond (word_eq w (register rs o)) 1 0 + n) (counted_in w rs ops)
    ∙ sym (sum_by-cons (λ k. cond (word_eq w (register rs k)) 1 0) o ops))

-- fresh names use nothing, and have room for two
pub idle_uses : (w : Word) (ws : List Word) → sum_by (uses w) (map idle ws) ≡ 0
idle_uses w [] = refl
idle_uses w (v ∷ ws) = sum_by-cons (uses w) (idle v) (map idle ws) ∙ omega (arith, idle_uses w ws)

pub two_or_none : (b : Bool) (n : ℕ) → cond b 2 0 + n * 2 ≡ (cond b 1 0 + n) * 2
two_or_none true n = omega arith
two_or_none false n = omega arith

pub idle_room : (w : Word) (ws : List Word) → sum_by (room w) (map idle ws) ≡ count w ws * 2
idle_room w [] = refl
idle_room w (v ∷ ws) =
    let c : count w (v ∷ ws) ≡ cond (word_eq w v) 1 0 + count w ws =
    sum_by-cons (λ x. cond (word_eq w x) 1 0) v ws in
    sum_by-cons (room w) (idle v) (map idle ws)
    ∙ (rw (idle_room w ws, c) (two_or_none (word_eq w v) (count w ws)))

-- equations have no room, and use their sides
pub links_room : (w : Word) (rs : List Word) (ls : List Link)
    → sum_by (room w) (map (linked rs) ls) ≡ 0
links_room w rs [] = refl
links_room w rs (l ∷ ls) =
    sum_by-cons (room w) (linked rs l) (map (linked rs) ls) ∙ omega (arith, links_room w rs ls)

pub links_uses : (w : Word) (rs : List Word) (ls : List Link)
    → sum_by (uses w) (map (linked rs) ls)
    ≡ count_by (λ k. word_eq w (register rs k)) (flat_map link_operands ls)
links_uses w rs [] = refl
links_uses w rs (l ∷ ls) =
    let a = sum_by-cons (uses w) (linked rs l) (map (linked rs) ls) in
    let b : count_by (λ k. word_eq w (register rs k)) (link_operands l ++ flat_map link_operands ls)
    ≡ count_by (λ k. word_eq w (register rs k)) (link_operands l)
    + count_by (λ k. word_eq w (register rs k)) (flat_map link_operands ls) =
    sum_by-append (λ k. cond (word_eq w (register rs k)) 1 0) (link_operands l) (flat_map link_operands ls) in
    let ih : sum_by (uses w) (map (linked rs) ls)
    ≡ count_by (λ k. word_eq w (register rs k)) (flat_map link_operands ls) = links_uses w rs ls in
    omega arith

-- agents that are made have room for one each, and use their arguments
pub made_room : (w : Word) (rs : List Word) (ms : List Made) (ws : List Word) → length ws ≡ length ms
    → sum_by (room w) (made_each rs ms ws) ≡ count w ws
made_room w rs [] [] e = refl
made_room w rs [] (v ∷ ws) e = absurd (omega arith)
made_room w rs (m ∷ ms) [] e = absurd (omega arith)
made_room w rs (m ∷ ms) (v ∷ ws) e =
    let a = sum_by-cons (room w) (made_at rs m v) (made_each rs ms ws) in
    let b : count w (v ∷ ws) ≡ cond (word_eq w v) 1 0 + count w ws =
    sum_by-cons (λ x. cond (word_eq w x) 1 0) v ws in
    let ih : sum_by (room w) (made_each rs ms ws) ≡ count w ws = made_room w rs ms ws (omega arith) in
    omega arith

pub made_uses : (w : Word) (rs : List Word) (ms : List Made) (ws : List Word) → length ws ≡ length ms
    → sum_by (uses w) (made_each rs ms ws)
    ≡ count_by (λ k. word_eq w (register rs k)) (flat_map (λ m. m.operands) ms)
made_uses w rs [] [] e = refl
made_uses w rs [] (v ∷ ws) e = absurd (omega arith)
made_uses w rs (m ∷ ms) [] e = absurd (omega arith)
made_uses w rs (m ∷ ms) (v ∷ ws) e =
    let a = sum_by-cons (uses w) (made_at rs m v) (made_each rs ms ws) in
    let b : count_by (λ k. word_eq w (register rs k)) (m.operands ++ flat_map (λ m. m.operands) ms)
    ≡ count_by (λ k. word_eq w (register rs k)) m.operands
    + count_by (λ k. word_eq w (register rs k)) (flat_map (λ m. m.operands) ms) =
    sum_by-append (λ k. cond (word_eq w (register rs k)) 1 0) m.operands (flat_map (λ m. m.operands) ms) in
    let c = counted_in w rs m.operands in
    let ih : sum_by (uses w) (made_each rs ms ws)
    ≡ count_by (λ k. word_eq w (register rs k)) (flat_map (λ m. m.operands) ms) =
    made_uses w rs ms ws (omega arith) in
    omega arith

-- what a plan makes uses as many words as its operands say
pub plan_uses : (w : Word) (p : Planned) (rs names made : List Word) → length made ≡ length p.made
    → sum_by (uses w) (pieces_made p rs names made)
    ≡ count_by (λ k. word_eq w (register rs k)) (operands_of p)
plan_uses w p rs names made e =
    let c = idle_uses w names in
    let d = made_uses w rs p.made made e in
    let f = links_uses w rs p.links in
    let g = sum_by-append (λ k. cond (word_eq w (register rs k)) 1 0)
    (flat_map (λ (m : Made). m.operands) p.made) (flat_map link_operands p.links) in
    omega (arith, sum_by-append {X = Piece})

pub plan_room : (w : Word) (p : Planned) (rs names made : List Word) → length made ≡ length p.made
    → sum_by (room w) (pieces_made p rs names made) ≡ count w names * 2 + count w made
plan_room w p rs names made e =
    let c = idle_room w names in
    let d = made_room w rs p.made made e in
    let f = links_room w rs p.links in
    omega (arith, sum_by-append {X = Piece})

-- facts of each of a list
pub all_both : {X : Type 0} (P Q R : X → Type 0) (xs : List X) → ((x : X) → P x → Q x → R x)
    → AllByRecursion P xs → AllByRecursion Q xs → AllByRecursion R xs
all_both P Q R [] f a b = tt
all_both P Q R (x ∷ xs) f a b = (f x a.0 b.0, all_both P Q R xs f a.1 b.1)

pub all_of : {X : Type 0} (P R : X → Type 0) (xs : List X) → ((x : X) → P x → R x)
    → AllByRecursion P xs → AllByRecursion R xs
all_of P R [] f a = tt
all_of P R (x ∷ xs) f a = (f x a.0, all_of P R xs f a.1)

pub all_append : {X : Type 0} (P : X → Type 0) (xs ys : List X) → AllByRecursion P xs
    → AllByRecursion P ys → AllByRecursion P (xs ++ ys)
all_append P [] ys a b = b
all_append P (x ∷ xs) ys a b = (a.0, all_append P xs ys a.1 b)

-- the operands of agents that are made are in registers that are filled in the end
pub made_within : (arities : List ℕ) (filled : ℕ) (ms : List Made) → AreMade arities filled ms
    → AllByRecursion (λ k. k < filled + length ms) (flat_map (λ m. m.operands) ms)
made_within arities filled [] h = tt
made_within arities filled (m ∷ ms) h =
    all_append (λ k. k < filled + suc (length ms)) m.operands (flat_map (λ m. m.operands) ms)
    (all_of (λ k. k < filled) (λ k. k < filled + suc (length ms)) m.operands (λ k lt. omega arith) h.0.2)
    (all_of (λ k. k < (filled + 1) + length ms) (λ k. k < filled + suc (length ms))
    (flat_map (λ m. m.operands) ms) (λ k lt. omega arith) (made_within arities (filled + 1) ms h.1))

-- a register that holds an agent without arguments holds no place
pub constant_register : (arities : List ℕ) (w : Word) (others : List Word) (k : ℕ) → k < length arities
    → slice_get arities k ≡ Some 0 → is_constant_tag arities w.tag ≡ false
    → word_eq w (register (constants (length arities) ++ others) k) ≡ false
constant_register arities w others k lt none place =
    let n : ℕ = length arities in
    let len : length (constants n) ≡ n = length-map-range_with_len (λ s. agent_word s 0) 0 n in
    let inner : k < length (constants n) = omega arith in
    let at : register (constants n ++ others) k ≡ agent_word k 0 =
    get_or-append (constants n) others (name_word 0) k inner
    ∙ get_or-map-range_with_len (λ s. agent_word s 0) 0 n k k (name_word 0) lt (zero-add k) in
    let differ : w.tag ≡ k + 1 → ⊥ = λ e.
    let one = ap (is_constant_tag arities) (e ∙ add-one k) in
    let two : is_constant_tag arities (suc k) ≡ true =
    ap (λ (o : Option ℕ). option_map_or (λ m. m == 0) o (suc k == GIVEN)) none in
    true-false (sym two ∙ (sym one ∙ place)) in
    ap (word_eq w) at ∙ other_tag w (agent_word k 0) differ
  where
    true-false : true ≡ false → ⊥
    true-false e = cc

-- Registers that are used no more often than they may be name each place no more often than it was named by the arguments,
-- and as often as there is room for what is fresh.
pub few_of : (arities : List ℕ) (w : Word) (count_of_names : ℕ) (ops : List ℕ) (args names made : List Word)
    → AllByRecursion (λ k. k < length arities + (length args + (length names + length made))) ops
    → AllByRecursion (λ k. k < length arities → slice_get arities k ≡ Some 0) ops
    → ((k : ℕ) → length arities ≤ k
    → count_by (λ m. m == k) ops ≤ allowance (length arities + length args) count_of_names k)
    → length names ≡ count_of_names → is_constant_tag arities w.tag ≡ false
    → count_by (λ k. word_eq w (register (constants (length arities) ++ (args ++ (names ++ made))) k)) ops
    ≤ count w args + (count w names * 2 + count w made)
few_of arities w z ops args names made below constant linear en place =
    let n : ℕ = length arities in
    let cs : List Word = constants n in
    let rs : List Word = cs ++ (args ++ (names ++ made)) in
    let a : ℕ → ℕ = allowance (n + length args) z in
    let test : ℕ → Bool = λ k. word_eq w (register rs k) in
    let f : ℕ → ℕ = λ k. cond (test k) (a k) 0 in
    let len : length cs ≡ n = length-map-range_with_len (λ s. agent_word s 0) 0 n in
    let m : ℕ = length args + (length names + length made) in
    let within : AllByRecursion (λ k. test k ≡ true → (n ≤ k) × (k < n + m)) ops =
    all_both (λ k. k < n → slice_get arities k ≡ Some 0) (λ k. k < n + m)
    (λ k. test k ≡ true → (n ≤ k) × (k < n + m)) ops
    (λ k constant lt yes. elim (leb_tells n k) [
      | inl t ↦ (t.1, lt)
      | inr t ↦ absurd (not_both (test k) yes
          (constant_register arities w (args ++ (names ++ made)) k t.1 (constant t.1) place))
    ]) constant below in
    let used = at_most test a ops n m within linear in
    let parts = range_parts f n (length args) (length names + length made) in
    let more = range_parts f (n + length args) (length names) (length made) in
    let of_args : sum_by f (range_with_len n (length args)) ≡ count w args * 1 =
    part_sum w cs args (names ++ made) a 1 n (sym len)
    (λ k le lt. ap (λ (t : Bool). cond t 1 (cond (nat_lt k (n + length args + z)) 2 1))
    (lt-ltb k (n + length args) lt)) in
    let of_names : sum_by f (range_with_len (n + length args) (length names)) ≡ count w names * 2 =
    subst (λ (l : List Word). sum_by (λ k. cond (word_eq w (register l k)) (a k) 0)
    (range_with_len (n + length args) (length names)) ≡ count w names * 2)
    (append_assoc cs args (names ++ made))
    (part_sum w (cs ++ args) names made a 2 (n + length args)
    (sym (length-append cs args ∙ ap (λ (x : ℕ). x + length args) len))
    (λ k le lt. let upper : k < n + length args + z = omega arith in
    ap (λ (t : Bool). cond t 1 (cond (nat_lt k (n + length args + z)) 2 1))
    (le-ltb k (n + length args) le)
    ∙ ap (λ (t : Bool). cond t 2 1) (lt-ltb k (n + length args + z) upper))) in
    let of_made : sum_by f (range_with_len (n + length args + length names) (length made)) ≡ count w made * 1 =
    subst (λ (l : List Word). sum_by (λ k. cond (word_eq w (register l k)) (a k) 0)
    (range_with_len (n + length args + length names) (length made)) ≡ count w made * 1)
    (ap (λ (l : List Word). (cs ++ args) ++ (names ++ l)) (append-nil made) ∙ append_assoc cs args (names ++ made))
    (subst (λ (l : List Word). sum_by (λ k. cond (word_eq w (register l k)) (a k) 0)
    (range_with_len (n + length args + length names) (length made)) ≡ count w made * 1)
    (append_assoc (cs ++ args) names (made ++ []))
    (part_sum w ((cs ++ args) ++ names) made [] a 1 (n + length args + length names)
    (sym (length-append (cs ++ args) names
    ∙ ap (λ (x : ℕ). x + length names) (length-append cs args ∙ ap (λ (x : ℕ). x + length args) len)))
    (λ k le lt. let lower : n + length args ≤ k = omega arith in
    let later : n + length args + z ≤ k = omega arith in
    ap (λ (t : Bool). cond t 1 (cond (nat_lt k (n + length args + z)) 2 1))
    (le-ltb k (n + length args) lower)
    ∙ ap (λ (t : Bool). cond t 2 1) (le-ltb k (n + length args + z) later)))) in
    omega arith
  where
    not_both : (b : Bool) → b ≡ true → b ≡ false → ⊥
    not_both b t f = cc

-- A plan uses each place no more often than it was named by the arguments, and as often as there is room for what is fresh.
pub uses_few : (arities : List ℕ) (w : Word) (p : Planned) (args names made : List Word)
    → IsPlan arities (length args) p → length names ≡ p.names → length made ≡ length p.made
    → is_constant_tag arities w.tag ≡ false
    → count_by (λ k. word_eq w (register (constants (length arities) ++ (args ++ (names ++ made))) k))
    (operands_of p)
    ≤ count w args + (count w names * 2 + count w made)
uses_few arities w p args names made plan en em place =
    let n : ℕ = length arities in
    let m : ℕ = length args + (length names + length made) in
    let below : AllByRecursion (λ k. k < n + m) (operands_of p) =
    all_append (λ k. k < n + m) (flat_map (λ m. m.operands) p.made) (flat_map link_operands p.links)
    (all_of (λ k. k < (n + length args + p.names) + length p.made) (λ k. k < n + m)
    (flat_map (λ m. m.operands) p.made) (λ k lt. omega arith)
    (made_within arities (n + length args + p.names) p.made plan.made))
    (all_of (λ k. k < n + length args + p.names + length p.made) (λ k. k < n + m)
    (flat_map link_operands p.links) (λ k lt. omega arith) plan.links) in
    few_of arities w p.names (operands_of p) args names made below plan.constant plan.linear en place
