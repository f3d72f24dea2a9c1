use Rattle.std.proofs.Common.{◌≡◌, ◌≤◌, List, [], ◌∷◌, ◌++◌, refl, length, take, drop, reverse, ap, sym, ◌∙◌, arith}
use Rattle.std.proofs.lemmas.List.{length-drop, take-append-drop}
use Rattle.ic_arena.specs.declared.word.Word.{Word}
use Rattle.ic_machine.proofs.places.turn.Goals as goal

-- what has one word at most reads the same from its end
turned_few : (ws : List Word) → length ws ≤ 1 → ws ≡ reverse ws
turned_few [] few = refl
turned_few (w ∷ []) few = refl
turned_few (w ∷ v ∷ ws) few = absurd (omega arith)

pub returns-else-len-first-gt1 : goal.returns-else-len-first-gt1
returns-else-len-first-gt1 c =
    let ws : List Word = c.args.words.now.items in
    let first = c.args.first in
    let left = length-drop first ws in
    let few : length (drop first ws) ≤ 1 = omega (arith, c.len.ensures, c.if-len-first-gt1.false) in
    sym (take-append-drop first ws) ∙ ap (λ (l : List Word). take first ws ++ l) (turned_few (drop first ws) few)
