-- What a machine begins with.
use Rattle.std.proofs.Common.{◌≡◌, ℕ, zero, suc, ◌+◌, ◌*◌, ◌<◌, ◌≤◌, ◌==◌, List, ◌++◌, true, false, cond, length, map, refl, ap, sym, ◌∙◌, arith, sum_by, count_by, slice_get, Option, Some}
use Rattle.std.specs.List.{AllByRecursion, flat_map, range_with_len}
use Rattle.std.specs.Option.{option_map_or}
use Rattle.std.proofs.lemmas.Bool.{ne_eqb}
use Rattle.std.proofs.lemmas.List.FromFn.{length-map-range_with_len}
use Rattle.std.proofs.lemmas.List.Sums.{sum_by-append, sum_by-cons}
use Rattle.ic_arena.specs.declared.word.Word.{Word}
use Rattle.ic_arena.specs.declared.word.TheConstants.{IDLE, GIVEN}
use Rattle.ic_arena.specs.Word.{word_eq, count}
use Rattle.ic_arena.specs.Tables.{register}
use Rattle.ic_machine.specs.Plan.{Planned, constants, link_operands, operands_of, pieces_made}
use Rattle.ic_machine.specs.Runs.{IsStart, given_words}
use Rattle.ic_machine.specs.Separate.{IsSeparate, is_constant_tag}
use Rattle.ic_machine.specs.lemmas.FiringKeeps.{all_append, all_of, counted_in, few_of, made_within, plan_room, plan_uses}
use Rattle.ic_machine.proofs.Firings.{get_past}

-- how many given names there are
pub given_length : (n : ℕ) → length (given_words n) ≡ n
given_length n = length-map-range_with_len (λ i. record { tag = GIVEN; index = i }) 0 n

-- given names are no marks
pub given_marks : (a n : ℕ)
    → AllByRecursion (λ (w : Word). w.tag < IDLE) (map (λ i. record { tag = GIVEN; index = i }) (range_with_len a n))
given_marks a zero = tt
given_marks a (suc n) = (omega arith, given_marks (a + 1) n)

-- a word of another tag is none of them
pub given_none : (w : Word) (a n : ℕ) → (w.tag ≡ GIVEN → ⊥)
    → sum_by (λ v. cond (word_eq w v) 1 0) (map (λ i. record { tag = GIVEN; index = i }) (range_with_len a n)) ≡ 0
given_none w a zero other = refl
given_none w a (suc n) other =
    let v : Word = record { tag = GIVEN; index = a } in
    let first = sum_by-cons (λ u. cond (word_eq w u) 1 0) v
    (map (λ i. record { tag = GIVEN; index = i }) (range_with_len (a + 1) n)) in
    let rest = given_none w (a + 1) n other in
    let here : ◌≡◌ {A = ℕ} (cond (word_eq w v) 1 0) 0 = rw (ne_eqb w.tag GIVEN other) refl in
    omega arith

-- the tag of a given name is that of no symbol, so it names no place
given_constant : (arities : List ℕ) → length arities < GIVEN → is_constant_tag arities GIVEN ≡ true
given_constant arities few =
    ap (λ (o : Option ℕ). option_map_or (λ k. k == 0) o true) (get_past arities 4294967292 (omega arith))

true_false : true ≡ false → ⊥
true_false e = cc

-- what a plan makes of given names is separate, together with its interface
pub start_separate : (arities : List ℕ) (given : ℕ) (p : Planned) (interface : List ℕ) (names made : List Word)
    → length arities < GIVEN → IsStart arities given p interface → length names ≡ p.names → length made ≡ length p.made
    → IsSeparate arities
    (map (register (constants (length arities) ++ (given_words given ++ (names ++ made)))) interface)
    (pieces_made p (constants (length arities) ++ (given_words given ++ (names ++ made))) names made)
start_separate arities given p interface names made symbols start en em = record {
  each = λ w place.
      let n : ℕ = length arities in
      let gs : List Word = given_words given in
      let rs : List Word = constants n ++ (gs ++ (names ++ made)) in
      let m : ℕ = length gs + (length names + length made) in
      let many : length gs ≡ given = given_length given in
      let plan = start.plan in
      let below : AllByRecursion (λ k. k < n + m) (interface ++ operands_of p) =
      all_append (λ k. k < n + m) interface (operands_of p)
      (all_of (λ k. k < n + given + p.names + length p.made) (λ k. k < n + m) interface (λ k lt. omega arith) start.filled)
      (all_append (λ k. k < n + m) (flat_map (λ m. m.operands) p.made) (flat_map link_operands p.links)
      (all_of (λ k. k < (n + given + p.names) + length p.made) (λ k. k < n + m)
      (flat_map (λ m. m.operands) p.made) (λ k lt. omega arith)
      (made_within arities (n + given + p.names) p.made plan.made))
      (all_of (λ k. k < n + given + p.names + length p.made) (λ k. k < n + m)
      (flat_map link_operands p.links) (λ k lt. omega arith) plan.links)) in
      let constant : AllByRecursion (λ k. k < n → slice_get arities k ≡ Some 0) (interface ++ operands_of p) =
      all_append (λ k. k < n → slice_get arities k ≡ Some 0) interface (operands_of p) start.constant plan.constant in
      let few : count_by (λ k. word_eq w (register rs k)) (interface ++ operands_of p)
      ≤ count w gs + (count w names * 2 + count w made) =
      few_of arities w p.names (interface ++ operands_of p) gs names made below constant
      (λ k le. rw many (start.linear k le)) en place in
      let both = sum_by-append (λ k. cond (word_eq w (register rs k)) 1 0) interface (operands_of p) in
      let named = counted_in w rs interface in
      let um = plan_uses w p rs names made em in
      let rm = plan_room w p rs names made em in
      let none : count w gs ≡ 0 =
      given_none w 0 given (λ e. true_false (sym (given_constant arities symbols) ∙ (ap (is_constant_tag arities) (sym e) ∙ place))) in
      omega arith;
}
