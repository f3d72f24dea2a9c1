-- A step keeps each place named no more often than it may be.
use Rattle.std.proofs.Common.{◌≡◌, ℕ, ◌+◌, ◌*◌, ◌≤◌, List, [], ◌∷◌, ◌++◌, cond, length, refl, ap, sym, subst, ◌∙◌, append_assoc, arith, sum_by, count_by, Option, Some, IfSome}
use Rattle.std.specs.List.Sorted.{IsPermutation}
use Rattle.std.proofs.lemmas.List.{length-append}
use Rattle.std.proofs.lemmas.List.Sorted.{sum_by-IsPermutation}
use Rattle.std.proofs.lemmas.List.Sums.{sum_by-cons, sum_by-append}
use Rattle.ic_arena.specs.declared.word.Word.{Word}
use Rattle.ic_arena.specs.Word.{agent_word, word_eq, count}
use Rattle.ic_arena.specs.Piece.{Piece, equated, agent_with, room, uses}
use Rattle.ic_arena.specs.Tables.{register}
use Rattle.ic_machine.specs.Plan.{Planned, Plans, ArePlans, IsPlan, constants, operands_of, pieces_made, plan_at, plan_of}
use Rattle.ic_machine.specs.Separate.{IsSeparate}
use Rattle.ic_machine.specs.Steps.{Fires, Step, turns, puts, meets, joins, fires, Steps, no_step, one_more}
use Rattle.ic_machine.specs.lemmas.Balance.{step_balances}
use Rattle.ic_machine.specs.lemmas.Separation.{balanced, separate_in_order, sum_of_parts}
use Rattle.ic_machine.specs.lemmas.FiringKeeps.{uses_few, plan_uses, plan_room}

pub agent_uses : (w a : Word) (ws : List Word) → sum_by (uses w) (agent_with a ws) ≡ count w ws
agent_uses w a [] = refl
agent_uses w a (v ∷ vs) = omega arith

pub agent_room : (w a : Word) (ws : List Word) → sum_by (room w) (agent_with a ws) ≤ cond (word_eq w a) 1 0
agent_room w a [] = omega arith
agent_room w a (v ∷ vs) = omega arith

-- a sum over a pair of agents, their arguments, and others
pub sum_of_pair : (f : Piece → ℕ) (xs : List Piece) (e : Piece) (ls ks rest : List Piece)
    → IsPermutation xs (e ∷ (ls ++ (ks ++ rest)))
    → sum_by f xs ≡ f e + (sum_by f ls + (sum_by f ks + sum_by f rest))
sum_of_pair f xs e ls ks rest h =
    let a = sum_by-IsPermutation f xs (e ∷ (ls ++ (ks ++ rest))) h in
    let b = sum_by-cons f e (ls ++ (ks ++ rest)) in
    omega (arith, sum_by-append {X = Piece})

pub fires_keep : (p : Plans) (n : ℕ) (i : List Word) (xs ys : List Piece) → ArePlans p
    → Fires p n xs ys → IsSeparate p.arities i xs → IsSeparate p.arities i ys
fires_keep p n i xs ys sound f s =
    let args : List Word = f.left_args ++ f.right_args in
    let left : Word = agent_word f.left f.left_place in
    let right : Word = agent_word f.right f.right_place in
    let rs : List Word = constants (length p.arities)
    ++ (f.left_args ++ (f.right_args ++ (f.names ++ f.made))) in
    let is : plan_of p f.left f.right ≡ Some f.plan = ap (plan_at p.plans) f.number ∙ f.has_plan in
    let of_pair = sound.each f.left f.right (length f.left_args) (length f.right_args) f.left_arity f.right_arity in
    let plan_two = subst (λ (o : Option Planned). IfSome o
    (IsPlan p.arities (length f.left_args + length f.right_args))) is of_pair in
    let plan = subst (λ (k : ℕ). IsPlan p.arities k f.plan) (sym (length-append f.left_args f.right_args)) plan_two in
    let same = ap (λ (l : List Word). constants (length p.arities) ++ l)
    (append_assoc f.left_args f.right_args (f.names ++ f.made)) in
    record {
      each = λ w place.
          let before = s.each w place in
          let few : count_by (λ k. word_eq w (register rs k)) (operands_of f.plan)
          ≤ count w args + (count w f.names * 2 + count w f.made) =
          subst (λ (l : List Word). count_by (λ k. word_eq w (register l k)) (operands_of f.plan)
          ≤ count w args + (count w f.names * 2 + count w f.made)) same
          (uses_few p.arities w f.plan args f.names f.made plan f.names_count f.made_count place) in
          let both : count w args ≡ count w f.left_args + count w f.right_args =
          sum_by-append (λ v. cond (word_eq w v) 1 0) f.left_args f.right_args in
          let ux = sum_of_pair (uses w) xs (equated left right) (agent_with left f.left_args)
          (agent_with right f.right_args) f.rest f.given in
          let rx = sum_of_pair (room w) xs (equated left right) (agent_with left f.left_args)
          (agent_with right f.right_args) f.rest f.given in
          let ul = agent_uses w left f.left_args in
          let ur = agent_uses w right f.right_args in
          let rl = agent_room w left f.left_args in
          let rr = agent_room w right f.right_args in
          let uy = sum_of_parts (uses w) ys (pieces_made f.plan rs f.names f.made) f.rest f.result in
          let ry = sum_of_parts (room w) ys (pieces_made f.plan rs f.names f.made) f.rest f.result in
          let um = plan_uses w f.plan rs f.names f.made f.made_count in
          let rm = plan_room w f.plan rs f.names f.made f.made_count in
          omega arith;
    }

pub step_keeps : (p : Plans) (is : List ℕ) (i : List Word) (xs ys : List Piece) → ArePlans p
    → Step p is xs ys → IsSeparate p.arities i xs → IsSeparate p.arities i ys
step_keeps p is i xs ys sound (turns a b t) s = balanced p.arities i a b (λ w. step_balances p [] w a b refl (turns a b t)) s
step_keeps p is i xs ys sound (puts a b t) s = balanced p.arities i a b (λ w. step_balances p [] w a b refl (puts a b t)) s
step_keeps p is i xs ys sound (meets a b t) s = balanced p.arities i a b (λ w. step_balances p [] w a b refl (meets a b t)) s
step_keeps p is i xs ys sound (joins a b t) s = balanced p.arities i a b (λ w. step_balances p [] w a b refl (joins a b t)) s
step_keeps p is i xs ys sound (fires n a b t) s = fires_keep p n i a b sound t s

pub steps_keep : (p : Plans) (is : List ℕ) (i : List Word) (xs ys : List Piece) → ArePlans p
    → Steps p is xs ys → IsSeparate p.arities i xs → IsSeparate p.arities i ys
steps_keep p is i xs ys sound (no_step a b h) s = separate_in_order p.arities i a b h s
steps_keep p is i xs ys sound (one_more m n a b c t u) s =
    step_keeps p n i b c sound u (steps_keep p m i a b sound t s)
