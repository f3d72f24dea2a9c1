use Rattle.std.proofs.Common.{◌≡◌, ℕ, ◌+◌, ◌≤◌, ◌∷◌, [], map, length, reverse, zero, suc, refl, subst, sym, ap, ◌∙◌, arith}
use Rattle.std.specs.List.{AllByRecursion}
use Rattle.std.proofs.lemmas.List.{reverse-append, length-reverse, length-map}
use Rattle.ic_flat.specs.declared.word.Word.TheVariants.{Agent}
use Rattle.ic_flat.specs.Words.{arguments, word_names}
use Rattle.ic_machine.specs.Plan.{made_of}
use Rattle.ic_plans.proofs.FlatLemmas.{put-name, put-constant, put-agent}
use Rattle.ic_plans.proofs.flattening.put_word.Goals as goal
use Rattle.ic_plans.proofs.flattening.put_word.Goals.{in-Name, in-Agent-default-eq0, in-Agent+in_ok-make_agent-in-Agent}

positive : (n : ℕ) → (n ≡ 0 → ⊥) → 1 ≤ n
positive zero some = absurd (some refl)
positive (suc n) some = omega arith

pub returns-clause-flat : goal.returns-clause-flat
returns-clause-flat c =
    let made = map made_of c.args.makes.now.items in
    let operands = reverse c.args.operands.now.items in
    let after = reverse c.push.new.self.items in
    let put = ap reverse c.in_ok-push.ensures.items ∙ reverse-append c.match-word.operands.items (c.match-word.register ∷ []) in
    elim c.match-word.branch [
      | in-Name w ↦ λ arities registers ws reads would.
          let read : registers w.in-Name.field-0 ≡ c.args.read = (subst (λ v. AllByRecursion (λ x. registers x ≡ c.args.read) (word_names v)) w.in-Name.is reads).0 in
          let register = w.register-is ∙ sym read in
          rw w.makes-is (put-name arities registers c.args.first ws made operands after c.args.word w.in-Name.field-0 w.in-Name.is
          (put ∙ (λ i. register i ∷ reverse (w.operands-is i).items)) would)
      | in-Agent-default-eq0 w ↦ λ arities registers ws reads would.
          let s = w.in-Agent-default-eq0.symbol in
          let none = sym w.in-Agent-default-eq0.field-1-is ∙ w.in-Agent-default-eq0.field-1-test in
          rw w.makes-is (put-constant arities registers c.args.first ws made operands after c.args.word s (w.in-Agent-default-eq0.is ∙ ap (Agent s) none)
          (put ∙ (λ i. w.register-is i ∷ reverse (w.operands-is i).items)) would)
      | in-Agent+in_ok-make_agent-in-Agent w ↦ λ arities registers ws reads would.
          let s = w.in-Agent.symbol in
          let n = w.in-Agent.arity in
          let some : 1 ≤ n = positive n (rw w.in-Agent.is at w.in-Agent.arity-test.1) in
          let counted : arguments c.args.word ≡ n = ap arguments w.in-Agent.is in
          let enough : n ≤ length operands = omega (arith, counted, c.requires.there, length-reverse c.args.operands.now.items) in
          let register : c.match-word.register ≡ c.args.first + length made = omega (arith, w.register-is, w.len.ensures, length-map c.args.makes.now.items made_of) in
          put-agent arities registers c.args.first ws made (map made_of c.match-word.makes.items) operands after c.args.word s n w.in-Agent.is some enough
          (ap (λ v. map made_of v.items) w.makes-is ∙ w.in_ok-make_agent-in-Agent.ensures.made)
          (put ∙ (λ i. register i ∷ (ap (λ v. reverse v.items) w.operands-is ∙ w.in_ok-make_agent-in-Agent.ensures.left) i)) would
    ]
