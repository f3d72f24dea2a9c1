use Rattle.std.proofs.Common.{◌≡◌, ℕ, ◌+◌, ◌≤◌, ◌∷◌, [], length, take, reverse, zero, suc, refl, subst, sym, ap, ◌∙◌, arith}
use Rattle.std.specs.List.{AllByRecursion}
use Rattle.std.proofs.lemmas.List.{reverse-append, length-reverse}
use Rattle.ic_flat.specs.declared.word.Word.TheVariants.{Agent}
use Rattle.ic_flat.specs.Words.{arguments, word_names}
use Rattle.ic_machine.specs.Building.{Building}
use Rattle.ic_machine.specs.Plan.{Made}
use Rattle.ic_plans.specs.inner.Laying.{AreLaid, IsKnown}
use Rattle.ic_plans.proofs.LayLemmas.{laid_agent, laid_constant, laid_name}
use Rattle.ic_plans.proofs.laying.put_word.Goals as goal
use Rattle.ic_plans.proofs.laying.put_word.Goals.{in-Name, in-Agent-default-eq0, in-Agent+in_ok-register-in-Agent}

positive : (n : ℕ) → (n ≡ 0 → ⊥) → 1 ≤ n
positive zero some = absurd (some refl)
positive (suc n) some = omega arith

pub returns-clause-laid : goal.returns-clause-laid
returns-clause-laid c =
    let operands = reverse c.args.operands.now.items in
    let after = reverse c.push.new.self.items in
    let put = ap reverse c.in_ok-push.ensures.items ∙ reverse-append c.match-word.operands.items (c.match-word.register ∷ []) in
    elim c.match-word.branch [
      | in-Name w ↦ λ arities registers given names ws reads laid.
          let read : registers w.in-Name.field-0 ≡ c.args.read = (subst (λ v. AllByRecursion (λ x. registers x ≡ c.args.read) (word_names v)) w.in-Name.is reads).0 in
          let register = w.register-is ∙ sym read in
          subst (λ (b : Building). AreLaid arities registers given names (c.args.word ∷ ws) b after) (sym w.builder-is)
          (laid_name arities registers given names ws c.args.builder.now operands after c.args.word laid w.in-Name.field-0 w.in-Name.is
          (put ∙ (λ i. register i ∷ reverse (w.operands-is i).items)))
      | in-Agent-default-eq0 w ↦ λ arities registers given names ws reads laid.
          let s = w.in-Agent-default-eq0.symbol in
          let none = sym w.in-Agent-default-eq0.field-1-is ∙ w.in-Agent-default-eq0.field-1-test in
          subst (λ (b : Building). AreLaid arities registers given names (c.args.word ∷ ws) b after) (sym w.builder-is)
          (laid_constant arities registers given names ws c.args.builder.now operands after c.args.word laid s (w.in-Agent-default-eq0.is ∙ ap (Agent s) none)
          (put ∙ (λ i. w.register-is i ∷ reverse (w.operands-is i).items)))
      | in-Agent+in_ok-register-in-Agent w ↦ λ arities registers given names ws reads laid.
          let s = w.in-Agent.symbol in
          let n = w.in-Agent.arity in
          let made = w.in_ok-register-in-Agent.ensures in
          let some : 1 ≤ n = positive n (rw w.in-Agent.is at w.in-Agent.arity-test.1) in
          let counted : arguments c.args.word ≡ n = ap arguments w.in-Agent.is in
          let enough : n ≤ length operands = omega (arith, counted, c.requires.there, length-reverse c.args.operands.now.items) in
          let m : Made = record { symbol = s; operands = take n operands } in
          subst (λ (b : Building). AreLaid arities registers given names (c.args.word ∷ ws) b after) (sym w.builder-is)
          (laid_agent arities registers given names ws c.args.builder.now operands after c.args.word laid _ s n m w.in-Agent.is some enough refl
          made.made made.arities made.registers
          (put ∙ (λ i. (w.register-is ∙ made.register) i ∷ (ap (λ v. reverse v.items) w.operands-is ∙ made.left) i)))
    ]
