use Rattle.std.proofs.Common.{◌≡◌, ◌-◌, ◌<◌, ℕ, List, [], ◌∷◌, ◌++◌, reverse, take, drop, length, ap, sym, subst, ◌∙◌, arith}
use Rattle.std.specs.List.{AllByRecursion}
use Rattle.std.proofs.lemmas.List.{drop_at, length-drop, length-take, take_all, take_at, take-append-drop}
use Rattle.ic_machine.specs.Building.{Builds}
use Rattle.ic_settle.specs.lemmas.SubstitutionLaws.{All-front}
use Rattle.ic_plans.proofs.StackLemmas.{take-reverse, drop-reverse}
use Rattle.ic_plans.proofs.laying.make_agent.Goals as goal
use Rattle.ic_plans.proofs.laying.make_agent.Goals.{After-deref}

module _ (c : After-deref) where
  abbrev old : List ℕ
  old = c.args.operands.now.items

  abbrev rest : ℕ
  rest = c.len.result - c.args.arity

  front : length (take rest old) ≡ rest
  front = omega (arith, c.requires.there, c.len.ensures, length-take rest old)

  -- the registers of the arguments
  taken : take (length c.deref.result.now - rest) (drop rest c.deref.result.now) ≡ take c.args.arity (reverse old)
  taken =
      take_all _ (drop rest c.deref.result.now) (omega (arith, length-drop rest c.deref.result.now))
      ∙ ap (drop rest) (c.deref.ensures.value ∙ c.turn.ensures)
      ∙ drop_at (take rest old) (reverse (drop rest old)) rest front
      ∙ take-reverse old rest c.args.arity (omega (arith, c.requires.there, c.len.ensures))

pub make-requires-clause-filled : goal.make-requires-clause-filled
make-requires-clause-filled c =
    let all = reverse c.args.operands.now.items in
    let P : ℕ → Type 0 = λ k. k < length c.args.builder.now.registers in
    subst (AllByRecursion P) (sym (taken (goal.at.make-requires-clause-filled c).After-deref))
    (All-front P (take c.args.arity all) (drop c.args.arity all)
    (subst (AllByRecursion P) (sym (take-append-drop c.args.arity all)) c.requires.filled))

pub returns-clause-made : goal.returns-clause-made
returns-clause-made c = λ given names made h.
    subst (λ (l : List ℕ). Builds given names (made ++ record { symbol = c.args.symbol; operands = l } ∷ []) c.make.new.self)
    (taken (goal.at.returns-clause-made c).After-deref) (c.in_ok-register.ensures.made given names made h)

pub returns-clause-left : goal.returns-clause-left
returns-clause-left c =
    let d = (goal.at.returns-clause-left c).After-deref in
    ap reverse (c.truncate.ensures.items ∙ ap (take (rest d)) c.turn.ensures ∙ take_at (take (rest d) (old d)) (reverse (drop (rest d) (old d))) (rest d) (front d))
    ∙ drop-reverse (old d) (rest d) c.args.arity (omega (arith, c.requires.there, c.len.ensures))
