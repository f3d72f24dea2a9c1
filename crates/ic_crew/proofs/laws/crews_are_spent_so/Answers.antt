use Rattle.std.proofs.Common.{◌≡◌, ◌⊎◌, inl, inr, IsTrue, refl, sym, subst}
use Rattle.ic_pool.specs.declared.fault.PoolFault.{PoolFault}
use Rattle.ic_pool.specs.declared.fault.PoolFault.TheVariants.{Memory, Lost, Stranger}
use Rattle.ic_crew.specs.Crews.{is_spending}
use Rattle.ic_crew.proofs.laws.crews_are_spent_so.Goals as goal

abbrev IsOfThree : PoolFault → Type 0
IsOfThree fault = (fault ≡ Memory) ⊎ ((fault ≡ Lost) ⊎ (fault ≡ Stranger))

spent : (fault : PoolFault) → IsTrue (is_spending fault) → IsOfThree fault
spent Memory e = inl refl
spent Lost e = inr (inl refl)
spent Stranger e = inr (inr refl)
spent _ e = cc

spends : (fault : PoolFault) → IsOfThree fault → IsTrue (is_spending fault)
spends fault h = elim h [
  | inl e ↦ subst (λ it. IsTrue (is_spending it)) (sym e) refl
  | inr k ↦ elim k [
    | inl e ↦ subst (λ it. IsTrue (is_spending it)) (sym e) refl
    | inr e ↦ subst (λ it. IsTrue (is_spending it)) (sym e) refl
  ]
]

pub returns : goal.returns
returns c = λ fault. (spent fault, spends fault)
