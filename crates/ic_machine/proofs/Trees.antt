-- Lemmas: how many trees words spell.
use Rattle.std.proofs.Common.{◌≡◌, ℕ, zero, suc, ◌+◌, ◌-◌, ◌*◌, ◌<◌, ◌==◌, List, [], ◌∷◌, ◌++◌, true, false, Option, length, drop, slice_index_or, refl, ap, sym, subst, ◌∙◌, add-one, arith}
use Rattle.std.specs.Option.{option_map_or}
use Rattle.std.proofs.lemmas.Bool.{ne_eqb}
use Rattle.std.proofs.lemmas.List.{length-append}
use Rattle.std.proofs.lemmas.Option.{get_or_from_slice_get}
use Rattle.ic_arena.specs.declared.word.Word.{Word}
use Rattle.ic_arena.specs.declared.word.TheConstants.{NAME, GIVEN}
use Rattle.ic_machine.specs.Held.{IsTagOf}
use Rattle.ic_machine.specs.declared.equation.Equation.{Equation}
use Rattle.ic_machine.specs.Moving.{sides_of, Side, Spells, nothing, follow, opened, plain, cut, gone}
use Rattle.ic_machine.specs.Separate.{is_constant_tag}
use Rattle.ic_machine.specs.inner.Unpacking.{taken_by, trees_in, AreNext, IsNext}

agent_takes : (arities : List ℕ) (tag count : ℕ) → IsTagOf arities tag count → taken_by arities tag ≡ count
agent_takes arities tag count is =
    let constant : is_constant_tag arities tag ≡ false =
    ap (is_constant_tag arities) (is.is ∙ add-one is.symbol)
    ∙ (ap (λ (o : Option ℕ). option_map_or (λ k. k == 0) o (suc is.symbol == GIVEN)) is.known
    ∙ ne_eqb count 0 (λ e. let some = is.some in omega (arith, some, e))) in
    let other : (tag == NAME) ≡ false = ne_eqb tag NAME (λ e. let same = is.is in omega (arith, same, e)) in
    let symbol : tag - 1 ≡ is.symbol = (let e = is.is in omega arith) in
    rw (constant, other, symbol) (get_or_from_slice_get arities is.symbol count 0 is.known)

constant_takes : (arities : List ℕ) (tag : ℕ) → is_constant_tag arities tag ≡ true → taken_by arities tag ≡ 0
constant_takes arities tag e = rw e refl

pub spells_count : (arities : List ℕ) (a b : Side) (ws ts : List Word) → Spells arities a b ws ts → length ws ≡ trees_in arities ts
spells_count arities a b ws ts (nothing f r places ends) = refl
spells_count arities a b ws ts (follow f n r name word xs ys tag taken ends rest) = spells_count arities n r (word ∷ xs) ys rest
spells_count arities a b ws ts (opened f n r agent vs xs ys is taken ends rest) =
    let all = spells_count arities n r (vs ++ xs) ys rest in
    let both = length-append vs xs in
    let takes = agent_takes arities agent.tag (length vs) is in
    omega arith
spells_count arities a b ws ts (plain f r w xs ys is rest) =
    let all = spells_count arities f r xs ys rest in
    let takes = constant_takes arities w.tag is in
    omega arith
spells_count arities a b ws ts (cut f n r e xs ys places ends rest) =
    let all = spells_count arities n r xs ys rest in
    omega arith
spells_count arities a b ws ts (gone f n r e xs ys taken ends rest) =
    let all = spells_count arities n r xs ys rest in
    omega arith

-- each word that is spelled can be put on the trees that those after it spell
pub spelled_next : (arities : List ℕ) (a b : Side) (ws ts : List Word) → Spells arities a b ws ts → AreNext arities ts
spelled_next arities a b ws ts (nothing f r places ends) = tt
spelled_next arities a b ws ts (follow f n r name word xs ys tag taken ends rest) = spelled_next arities n r (word ∷ xs) ys rest
spelled_next arities a b ws ts (opened f n r agent vs xs ys is taken ends rest) =
    let all = spells_count arities n r (vs ++ xs) ys rest in
    let both = length-append vs xs in
    (record { agent = λ other known. (length vs, is, omega (arith, all, both), refl) }, spelled_next arities n r (vs ++ xs) ys rest)
spelled_next arities a b ws ts (plain f r w xs ys is rest) =
    (record { agent = λ other known. absurd (no known) }, spelled_next arities f r xs ys rest)
  where
    no : is_constant_tag arities w.tag ≡ false → ⊥
    no known = let z = sym is ∙ known in cc
spelled_next arities a b ws ts (cut f n r e xs ys places ends rest) =
    (record { agent = λ other known. absurd (other refl) }, spelled_next arities n r xs ys rest)
spelled_next arities a b ws ts (gone f n r e xs ys taken ends rest) =
    (record { agent = λ other known. absurd (other refl) }, spelled_next arities n r xs ys rest)

pub next_at : (arities : List ℕ) (ts : List Word) (i : ℕ) (d : Word) → i < length ts → AreNext arities ts
    → IsNext arities (trees_in arities (drop (i + 1) ts)) (slice_index_or ts i d)
next_at arities [] i d lt all = absurd (omega arith)
next_at arities (t ∷ ts) zero d lt all = all.0
next_at arities (t ∷ ts) (suc i) d lt all =
    let e : suc (i + 1) ≡ suc i + 1 = omega arith in
    subst (λ (n : ℕ). IsNext arities (trees_in arities (drop n (t ∷ ts))) (slice_index_or ts i d)) e
    (next_at arities ts i d (omega arith) all.1)

-- the sides of equations are two for each
pub sides_length : (es : List Equation) → length (sides_of es) ≡ 2 * length es
sides_length [] = refl
sides_length (e ∷ es) = let rest = sides_length es in omega arith
