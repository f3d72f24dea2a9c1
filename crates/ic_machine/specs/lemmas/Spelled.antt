-- What is spelled goes on, tree after tree, and how many trees words spell.
use Rattle.std.proofs.Common.{ℕ, List, [], ◌∷◌, ◌++◌, subst, append_assoc}
use Rattle.std.specs.List.Sorted.{IsPermutation}
use Rattle.std.proofs.lemmas.List.Sorted.{IsPermutation-cons, IsPermutation-refl, IsPermutation-trans}
use Rattle.ic_arena.specs.declared.word.Word.{Word}
use Rattle.ic_arena.specs.Piece.{waits, agent_of}
use Rattle.ic_machine.specs.Moving.{Side, Spells, nothing, follow, opened, plain, cut, gone}

-- a side whose pieces and ends stand in another order
pub spells_from : (arities : List ℕ) (a b c : Side) (ws ts : List Word) → IsPermutation a.places b.places → IsPermutation a.ends b.ends
    → Spells arities b c ws ts → Spells arities a c ws ts
spells_from arities a b c ws ts places ends (nothing f r same also) =
    nothing a r (IsPermutation-trans a.places f.places r.places places same) (IsPermutation-trans a.ends f.ends r.ends ends also)
spells_from arities a b c ws ts places ends (follow f n r name word vs us tag taken also rest) =
    follow a n r name word vs us tag
    (IsPermutation-trans a.places f.places (waits name word ∷ n.places) places taken) (IsPermutation-trans a.ends f.ends n.ends ends also) rest
spells_from arities a b c ws ts places ends (opened f n r agent args vs us is taken also rest) =
    opened a n r agent args vs us is
    (IsPermutation-trans a.places f.places (agent_of agent args ∷ n.places) places taken) (IsPermutation-trans a.ends f.ends n.ends ends also) rest
spells_from arities a b c ws ts places ends (plain f r w vs us is rest) =
    plain a r w vs us is (spells_from arities a f r vs us places ends rest)
spells_from arities a b c ws ts places ends (cut f n r e vs us same also rest) =
    cut a n r e vs us (IsPermutation-trans a.places f.places n.places places same)
    (IsPermutation-trans (e ∷ a.ends) (e ∷ f.ends) n.ends (IsPermutation-cons e a.ends f.ends ends) also) rest
spells_from arities a b c ws ts places ends (gone f n r e vs us taken also rest) =
    gone a n r e vs us (IsPermutation-trans a.places f.places _ places taken) (IsPermutation-trans a.ends f.ends _ ends also) rest

-- trees after trees
pub spells_on : (arities : List ℕ) (a b c : Side) (ws ts vs us : List Word) → Spells arities a b ws ts → Spells arities b c vs us
    → Spells arities a c (ws ++ vs) (ts ++ us)
spells_on arities a b c ws ts vs us (nothing f r places ends) second = spells_from arities f r c vs us places ends second
spells_on arities a b c ws ts vs us (follow f n r name word xs ys tag taken ends rest) second =
    follow f n c name word (xs ++ vs) (ys ++ us) tag taken ends (spells_on arities n r c (word ∷ xs) ys vs us rest second)
spells_on arities a b c ws ts vs us (opened f n r agent args xs ys is taken ends rest) second =
    opened f n c agent args (xs ++ vs) (ys ++ us) is taken ends
    (subst (λ (l : List Word). Spells arities n c l (ys ++ us)) (append_assoc args xs vs) (spells_on arities n r c (args ++ xs) ys vs us rest second))
spells_on arities a b c ws ts vs us (plain f r w xs ys is rest) second =
    plain f c w (xs ++ vs) (ys ++ us) is (spells_on arities f r c xs ys vs us rest second)
spells_on arities a b c ws ts vs us (cut f n r e xs ys places ends rest) second =
    cut f n c e (xs ++ vs) (ys ++ us) places ends (spells_on arities n r c xs ys vs us rest second)
spells_on arities a b c ws ts vs us (gone f n r e xs ys places ends rest) second =
    gone f n c e (xs ++ vs) (ys ++ us) places ends (spells_on arities n r c xs ys vs us rest second)

-- nothing is spelled
pub spells_none : (arities : List ℕ) (a : Side) → Spells arities a a [] []
spells_none arities a = nothing a a (IsPermutation-refl a.places) (IsPermutation-refl a.ends)
