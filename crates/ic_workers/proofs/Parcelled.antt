-- Lemmas: what was taken out of a part is what a machine spelled.
use Rattle.std.proofs.Common.{◌≡◌, ℕ, List, [], ◌∷◌, ◌++◌, sym, ap, subst, ◌∙◌}
use Rattle.std.proofs.lemmas.List.Sorted.{IsPermutation-refl}
use Rattle.ic_arena.specs.declared.word.Word.{Word}
use Rattle.ic_arena.specs.Word.{name_word}
use Rattle.ic_arena.specs.Piece.{idle}
use Rattle.ic_machine.specs.declared.equation.Equation.{Equation}
use Rattle.ic_machine.specs.Moving.{end_word, gone, sides_of, AreSpelled, CutEnd, Packs, Ships, Side, Spells}

-- what is spelled after nothing is all that is spelled
after_nothing : (before after more : List Word) → before ≡ [] → after ≡ before ++ more → after ≡ more
after_nothing before after more none is = is ∙ ap (λ (l : List Word). l ++ more) none

pub pack_spelled : (arities : List ℕ) (es : List Equation) (old new : Side) (before after : List Word) → before ≡ [] → Packs arities es old new before after
    → AreSpelled arities after
pack_spelled arities es old new before after none packs = record {
  full = old;
  rest = new;
  equations = es;
  spells = subst (Spells arities old new (sides_of es)) (sym (after_nothing before after packs.more none packs.spelled)) packs.spells;
}

pub pack_alone : (arities : List ℕ) (es : List Equation) (old new : Side) (before after : List Word) → before ≡ [] → Packs arities es old new before after
    → Packs arities es old new [] after
pack_alone arities es old new before after none packs = subst (λ (l : List Word). Packs arities es old new l after) none packs

pub ship_alone : (arities : List ℕ) (cut : ℕ) (old new : Side) (before after : List Word) → before ≡ [] → Ships arities cut old new before after
    → Ships arities cut old new [] after
ship_alone arities cut old new before after none ships = subst (λ (l : List Word). Ships arities cut old new l after) none ships

-- What waited for a cut is spelled as an equation of its end would be, if nothing waited for that.
pub ship_spelled : (arities : List ℕ) (cut : ℕ) (old new : Side) (after : List Word) → Ships arities cut old new [] after → AreSpelled arities after
ship_spelled arities cut old new after ships =
    let e : CutEnd = ships.end in
    let middle : Side = ships.middle in
    let full : Side = record { places = idle (end_word e) ∷ middle.places; ends = e ∷ middle.ends } in
    let whole : Spells arities full new (end_word e ∷ ships.word ∷ []) (name_word e.cut ∷ ships.more) =
    gone full middle new e (ships.word ∷ []) ships.more (IsPermutation-refl full.places) (IsPermutation-refl full.ends) ships.spells in
    let same : after ≡ name_word e.cut ∷ ships.more = ships.spelled ∙ ap (λ (n : ℕ). name_word n ∷ ships.more) (sym ships.is) in
    record {
      full = full;
      rest = new;
      equations = record { left = end_word e; right = ships.word } ∷ [];
      spells = subst (Spells arities full new (end_word e ∷ ships.word ∷ [])) (sym same) whole;
    }
