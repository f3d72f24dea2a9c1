-- Terms that are put on a stack and taken from it.
use Rattle.std.proofs.Common.{◌≡◌, ℕ, zero, suc, ◌+◌, List, [], ◌∷◌, ◌++◌, Option, None, Some, reverse, map, take, drop, refl, sym, ap, ◌∙◌, append-nil, arith}
use Rattle.std.specs.Option.{option_to_list}
use Rattle.std.proofs.lemmas.List.{reverse-append, map-append}
use Rattle.ic_term.specs.declared.term.Term.{Term}
use Rattle.ic_term.specs.Tree.{Tree}
use Rattle.ic_term.specs.Term.{tree}
use Rattle.ic_flat.specs.inner.Stacks.{upright}

-- what is put on a stack is on top
pub upright-append : (ts : List Term) (t : Term) → upright (ts ++ t ∷ []) ≡ tree t ∷ upright ts
upright-append ts t = ap reverse (map-append tree ts (t ∷ [])) ∙ reverse-append (map tree ts) (tree t ∷ [])

-- what is taken from a stack was on top
pub popped-some : (old new : List Term) (o : Option Term) (t : Term) → old ≡ new ++ option_to_list o → o ≡ Some t → upright old ≡ tree t ∷ upright new
popped-some old new o t e some = ap upright (e ∙ ap (λ x. new ++ option_to_list x) some) ∙ upright-append new t

pub popped-none : (old new : List Term) (o : Option Term) → old ≡ new ++ option_to_list o → o ≡ None → new ≡ old
popped-none old new o e none = sym (e ∙ ap (λ x. new ++ option_to_list x) none ∙ append-nil new)

-- one more of a list is taken
pub take-one_more : (ts : List Tree) (n : ℕ) (t : Tree) (rest : List Tree) → drop n ts ≡ t ∷ rest → (take (n + 1) ts ≡ take n ts ++ t ∷ []) × (drop (n + 1) ts ≡ rest)
take-one_more ts n t rest e = let next : n + 1 ≡ suc n = omega arith in rw next (by_steps ts n e)
  where
    by_steps : (ts : List Tree) (n : ℕ) → drop n ts ≡ t ∷ rest → (take (suc n) ts ≡ take n ts ++ t ∷ []) × (drop (suc n) ts ≡ rest)
    by_steps [] zero e = (cc, cc)
    by_steps (u ∷ ts) (suc n) e = let r = by_steps ts n e in (ap (λ l. u ∷ l) r.0, r.1)
    by_steps _ _ e = (cc, cc)

-- or there is none
pub take-none_more : (ts : List Tree) (n : ℕ) → drop n ts ≡ [] → (take (n + 1) ts ≡ take n ts) × (drop (n + 1) ts ≡ [])
take-none_more ts n e = let next : n + 1 ≡ suc n = omega arith in rw next (by_steps ts n e)
  where
    by_steps : (ts : List Tree) (n : ℕ) → drop n ts ≡ [] → (take (suc n) ts ≡ take n ts) × (drop (suc n) ts ≡ [])
    by_steps [] zero e = (refl, refl)
    by_steps [] (suc n) e = (refl, refl)
    by_steps (u ∷ ts) zero e = (cc, cc)
    by_steps (u ∷ ts) (suc n) e = let r = by_steps ts n e in (ap (λ l. u ∷ l) r.0, r.1)
