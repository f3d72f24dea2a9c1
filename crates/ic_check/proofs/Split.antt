-- Lines of a text.
use Rattle.std.proofs.Common.{◌≡◌, ℕ, suc, ◌+◌, ◌-◌, ◌<◌, ◌==◌, true, false, List, [], ◌∷◌, ◌++◌, length, take, drop, drop-cons, get_or, add-one, refl, sym, ap, ◌∙◌, arith, length-drop}
use Rattle.std.specs.Cmp.{unsigned_Decides}
use Rattle.std.proofs.lemmas.List.{take-append-drop, take_all}
use Rattle.ic_lines.specs.Lines.{has_feed, lines}

pub at_feed : (text : List ℕ) (place : ℕ) → place < length text → get_or text place 0 ≡ 10 → drop place text ≡ 10 ∷ drop (place + 1) text
at_feed text place below feed = rw add-one (drop-cons text place 0 below ∙ ap (λ b. b ∷ drop (suc place) text) feed)

pub split_first : ((line rest : List ℕ) → has_feed line ≡ false → lines (line ++ 10 ∷ rest) ≡ line ∷ lines rest) → (text : List ℕ) (place : ℕ) → place < length text
    → get_or text place 0 ≡ 10 → has_feed (take place text) ≡ false
    → lines text ≡ take place text ∷ lines (take (length text - (place + 1)) (drop (place + 1) text))
split_first law text place below feed none =
    let rest : List ℕ = drop (place + 1) text in
    let whole : text ≡ take place text ++ 10 ∷ rest = sym (take-append-drop place text) ∙ ap (λ l. take place text ++ l) (at_feed text place below feed) in
    ap lines whole ∙ law (take place text) rest none
    ∙ ap (λ l. take place text ∷ lines l) (sym (take_all (length text - (place + 1)) rest (omega (arith, length-drop (place + 1) text))))

pub empty : (text : List ℕ) → (length text == 0) ≡ true → text ≡ []
empty [] is = refl
empty (b ∷ bs) is = let none : length (b ∷ bs) ≡ 0 = (unsigned_Decides (length (b ∷ bs)) 0).0 is in absurd (omega (arith, none))
