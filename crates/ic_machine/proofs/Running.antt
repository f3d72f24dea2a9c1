-- What a run leads to, from its parts.
use Rattle.std.proofs.Common.{◌≡◌, ℕ, zero, suc, ◌+◌, ◌<◌, List, [], ◌∷◌, ◌++◌, length, map, Option, None, Some, MatchOption, is_none, false, slice_get, IfSome, refl, ap, sym, subst, ◌∙◌, append_assoc, arith, sum_by}
use Rattle.std.specs.List.{AllByRecursion}
use Rattle.std.specs.List.Sorted.{IsPermutation}
use Rattle.std.proofs.lemmas.List.{append-nil, map-append}
use Rattle.std.proofs.lemmas.List.Sorted.{IsPermutation-refl, IsPermutation-sym, IsPermutation-trans, IsPermutation-append_left, IsPermutation-append_right, IsPermutation-append_comm, IsPermutation-cons, IsPermutation-map, IsPermutation-to_front}
use Rattle.std.proofs.lemmas.List.Sums.{sum_by-append}
use Rattle.ic_arena.specs.declared.word.Word.{Word}
use Rattle.ic_arena.specs.Word.{count}
use Rattle.ic_arena.specs.Piece.{Piece, room, uses}
use Rattle.ic_machine.specs.declared.equation.Equation.{Equation}
use Rattle.ic_machine.specs.Plan.{Planned, Plans, IsPlan, plan_at}
use Rattle.ic_machine.specs.Net.{equated_of, HasNext, IsActive, IsStuck, IsPair}
use Rattle.ic_machine.specs.Runs.{Way}
use Rattle.ic_machine.specs.Separate.{IsSeparate}
use Rattle.ic_machine.specs.Steps.{Steps, no_step}
use Rattle.ic_machine.specs.inner.Pairs.{HasNumber, HasPlan, CanFire, IsLast, Passed}
use Rattle.ic_machine.specs.inner.Tables.{IsNumbered}
use Rattle.ic_machine.specs.lemmas.Balance.{equations_room}
use Rattle.ic_machine.specs.lemmas.FiringKeeps.{all_append, all_of}
use Rattle.ic_machine.specs.lemmas.Orders.{to_front}
use Rattle.ic_machine.specs.lemmas.RunsOn.{way_from, way_to}
use Rattle.ic_machine.specs.lemmas.Separation.{separate_in_order}
use Rattle.ic_machine.proofs.Fresh.{all_front}

-- what can't fire is set aside: the same pieces
pub passed_order : (p : Plans) (ps us ps' us' : List Equation) (rest : List Piece) → Passed p ps us ps' us'
    → IsPermutation (map equated_of ps ++ (map equated_of us ++ rest))
    (map equated_of ps' ++ (map equated_of us' ++ rest))
passed_order p ps us ps' us' rest h =
    let f : List Piece = map equated_of ps' in
    let a : List Piece = map equated_of us in
    let r : List Piece = map equated_of h.rest in
    let m : List Piece = map equated_of h.more in
    let before = ap (λ (l : List Equation). map equated_of l ++ (a ++ rest)) h.before
    ∙ (ap (λ (l : List Piece). l ++ (a ++ rest)) (map-append equated_of ps' h.rest)
    ∙ append_assoc f r (a ++ rest)) in
    let after = ap (λ (l : List Equation). f ++ (map equated_of l ++ rest)) h.after
    ∙ (ap (λ (l : List Piece). f ++ (l ++ rest)) (map-append equated_of us h.more)
    ∙ ap (λ (l : List Piece). f ++ l) (append_assoc a m rest)) in
    let moved = IsPermutation-append_right f (r ++ (a ++ rest)) (a ++ (m ++ rest))
    (IsPermutation-trans (r ++ (a ++ rest)) (a ++ (r ++ rest)) (a ++ (m ++ rest)) (to_front r a rest)
    (IsPermutation-append_right a (r ++ rest) (m ++ rest)
    (IsPermutation-append_left rest r m (IsPermutation-map equated_of h.rest h.more h.order)))) in
    subst (λ (l : List Piece). IsPermutation l (f ++ (map equated_of us' ++ rest))) (sym before)
    (subst (λ (l : List Piece). IsPermutation (f ++ (r ++ (a ++ rest))) l) (sym after) moved)

-- nothing is set aside yet
pub passed_none : (p : Plans) (ps us : List Equation) → Passed p ps us ps us
passed_none p ps us = record {
  rest = [];
  more = [];
  before = sym (append-nil ps);
  after = sym (append-nil us);
  order = IsPermutation-refl [];
  stuck = tt;
}

-- one more is set aside
pub passed_more : (p : Plans) (ps us mid us' : List Equation) (e : Equation) → Passed p ps us (mid ++ e ∷ []) us'
    → IsStuck p e → Passed p ps us mid (us' ++ e ∷ [])
passed_more p ps us mid us' e h stuck = record {
  rest = e ∷ h.rest;
  more = h.more ++ e ∷ [];
  before = h.before ∙ append_assoc mid (e ∷ []) h.rest;
  after = ap (λ (l : List Equation). l ++ e ∷ []) h.after ∙ append_assoc us h.more (e ∷ []);
  order = IsPermutation-trans (e ∷ h.rest) (e ∷ h.more) (h.more ++ e ∷ [])
      (IsPermutation-cons e h.rest h.more h.order)
      (IsPermutation-sym (h.more ++ e ∷ []) (e ∷ h.more) (IsPermutation-to_front h.more e));
  stuck = all_append (IsStuck p) h.more (e ∷ []) h.stuck (stuck, tt);
}

-- the pieces of a net, in the order of the tables
pub held_order : (p a n h : List Piece) → IsPermutation (p ++ (a ++ (n ++ h))) (n ++ (h ++ (p ++ a)))
held_order p a n h =
    subst (λ (l : List Piece). IsPermutation l (n ++ (h ++ (p ++ a)))) (append_assoc p a (n ++ h))
    (subst (λ (l : List Piece). IsPermutation ((p ++ a) ++ (n ++ h)) l) (append_assoc n h (p ++ a))
    (IsPermutation-append_comm (p ++ a) (n ++ h)))

-- The tables alone are separate, where the whole net is.
pub held_separate : (arities : List ℕ) (i : List Word) (p n h : List Piece) (us : List Equation)
    → IsSeparate arities i (p ++ (map equated_of us ++ (n ++ h)))
    → IsSeparate arities [] (n ++ (h ++ (p ++ [])))
held_separate arities i p n h us s = record {
  each = λ w c.
      let before = s.each w c in
      let none = equations_room w us in
      let nothing : p ++ [] ≡ p = append-nil p in
      let v3 = ap (sum_by (uses w)) nothing in
      let t3 = ap (sum_by (room w)) nothing in
      let z : count w [] ≡ 0 = refl in
      omega (arith, sum_by-append {X = Piece});
}

-- what is known has an arity
get_known : (xs : List ℕ) (i : ℕ) → i < length xs → (v : ℕ) × (slice_get xs i ≡ Some v)
get_known [] i h = absurd (omega arith)
get_known (x ∷ xs) zero h = (x, refl)
get_known (x ∷ xs) (suc i) h = get_known xs i (omega arith)

-- a pair that has a plan can fire by it
pub can_fire : (p : Plans) (e : Equation) (plan : Planned) → HasPlan p e plan → CanFire p.arities e plan
can_fire p e plan h =
    let l : (v : ℕ) × (slice_get p.arities h.left ≡ Some v) = get_known p.arities h.left h.left_known in
    let r : (v : ℕ) × (slice_get p.arities h.right ≡ Some v) = get_known p.arities h.right h.right_known in
    record {
      left = h.left;
      right = h.right;
      left_tag = h.left_tag;
      right_tag = h.right_tag;
      left_args = l.0;
      right_args = r.0;
      left_arity = l.1;
      right_arity = r.1;
      is_plan = subst (λ (o : Option Planned). IfSome o (IsPlan p.arities (l.0 + r.0))) h.is
          (h.sound.each h.left h.right l.0 r.0 l.1 r.1);
    }

-- the plan with a number that was found
abbrev pub numbered_plan : (p : Plans) (e : Equation) (i : ℕ) (plan : Planned) → HasNumber p e i
    → slice_get p.plans i ≡ Some plan → HasPlan p e plan
numbered_plan p e i plan h is = record {
  left = h.left;
  right = h.right;
  left_tag = h.left_tag;
  right_tag = h.right_tag;
  left_known = h.left_known;
  right_known = h.right_known;
  is = ap (plan_at p.plans) h.number ∙ is;
  sound = h.sound;
}

pub numbered : (p : Plans) (e : Equation) (i : ℕ) (plan : Planned) (h : HasNumber p e i)
    → slice_get p.plans i ≡ Some plan → IsNumbered p i h.left h.right plan
numbered p e i plan h is = record { number = h.number; has_plan = is }

-- a plan whose number is known
get_planned : (ps : List Planned) (i : ℕ) → i < length ps → (plan : Planned) × (slice_get ps i ≡ Some plan)
get_planned [] i h = absurd (omega arith)
get_planned (p ∷ ps) zero h = (p, refl)
get_planned (p ∷ ps) (suc i) h = get_planned ps i (omega arith)

-- The net stays separate where equations are set aside, and no side of what is pending is a name.
pub passed_separate : (arities : List ℕ) (i : List Word) (p : Plans) (ps us ps' us' : List Equation)
    (rest : List Piece) → Passed p ps us ps' us'
    → IsSeparate arities i (map equated_of ps ++ (map equated_of us ++ rest))
    → IsSeparate arities i (map equated_of ps' ++ (map equated_of us' ++ rest))
passed_separate arities i p ps us ps' us' rest h s =
    separate_in_order arities i (map equated_of ps ++ (map equated_of us ++ rest))
    (map equated_of ps' ++ (map equated_of us' ++ rest)) (passed_order p ps us ps' us' rest h) s

pub passed_pairs : (p : Plans) (ps us ps' us' : List Equation) → Passed p ps us ps' us'
    → AllByRecursion IsPair ps → AllByRecursion IsPair ps'
passed_pairs p ps us ps' us' h pairs =
    all_front IsPair ps' h.rest (subst (λ (l : List Equation). AllByRecursion IsPair l) h.before pairs)

-- no side of an equation that is stuck is a name
pub passed_aside : (p : Plans) (ps us ps' us' : List Equation) → Passed p ps us ps' us'
    → AllByRecursion IsPair us → AllByRecursion IsPair us'
passed_aside p ps us ps' us' h pairs =
    subst (λ (l : List Equation). AllByRecursion IsPair l) (sym h.after)
    (all_append IsPair us h.more pairs (all_of (IsStuck p) IsPair h.more (λ e stuck. (stuck.left, stuck.right)) h.stuck))

-- nothing fires where equations are set aside
pub passed_steps : (p : Plans) (ps us ps' us' : List Equation) (rest : List Piece) → Passed p ps us ps' us'
    → Steps p [] (map equated_of ps ++ (map equated_of us ++ rest))
    (map equated_of ps' ++ (map equated_of us' ++ rest))
passed_steps p ps us ps' us' rest h =
    no_step (map equated_of ps ++ (map equated_of us ++ rest)) (map equated_of ps' ++ (map equated_of us' ++ rest))
    (passed_order p ps us ps' us' rest h)

-- a way of what the tables hold is one of the net
pub held_way : (p : Plans) (is : List ℕ) (ms : List (List Piece)) (ps us qs : List Equation) (n h n' h' : List Piece)
    → Way p is ms (n ++ (h ++ (map equated_of ps ++ map equated_of us))) (n' ++ (h' ++ (map equated_of qs ++ map equated_of us)))
    → Way p is ms (map equated_of ps ++ (map equated_of us ++ (n ++ h))) (map equated_of qs ++ (map equated_of us ++ (n' ++ h')))
held_way p is ms ps us qs n h n' h' w =
    let start : List Piece = map equated_of ps ++ (map equated_of us ++ (n ++ h)) in
    let held : List Piece = n ++ (h ++ (map equated_of ps ++ map equated_of us)) in
    let after : List Piece = n' ++ (h' ++ (map equated_of qs ++ map equated_of us)) in
    let end : List Piece = map equated_of qs ++ (map equated_of us ++ (n' ++ h')) in
    way_to p is ms start after end
    (way_from p is ms start held after (no_step start held (held_order (map equated_of ps) (map equated_of us) n h)) w)
    (IsPermutation-sym end after (held_order (map equated_of qs) (map equated_of us) n' h'))

-- a pair that has a plan is active
abbrev pub active_pair : (p : Plans) (e : Equation) (plan : Planned) → HasPlan p e plan → IsActive p e
active_pair p e plan has = record {
  left = has.left;
  right = has.right;
  left_tag = has.left_tag;
  right_tag = has.right_tag;
  left_known = has.left_known;
  right_known = has.right_known;
  plan = plan;
  is = has.is;
}

-- one that is the last is the next
abbrev pub next_pair : (p : Plans) (es : List Equation) (e : Equation) (plan : Planned) → IsLast e es → HasPlan p e plan
    → HasNext p es
next_pair p es e plan last has = record {
  front = last.front;
  pair = e;
  last = last.is;
  active = active_pair p e plan has;
}

pub found_next : {X : Type 0} (pair : X → Equation) (number : X → ℕ) (p : Plans) (es : List Equation) (o : Option X)
    → MatchOption o (es ≡ []) (λ f. IsLast (pair f) es × HasNumber p (pair f) (number f)) → is_none o ≡ false
    → HasNext p es
found_next pair number p es None h e = absurd (cc e)
found_next pair number p es (Some f) h e =
    let plan : (x : Planned) × (slice_get p.plans (number f) ≡ Some x) = get_planned p.plans (number f) h.1.there in
    next_pair p es (pair f) plan.0 h.0 (numbered_plan p (pair f) (number f) plan.0 h.1 plan.1)
