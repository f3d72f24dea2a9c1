-- The end of a term, found from its first word on.
use Rattle.std.proofs.Common.{◌≡◌, ℕ, suc, ◌+◌, ◌-◌, ◌<◌, ◌≤◌, List, ◌∷◌, length, get_or, drop, refl, sym, ap, subst, ◌∙◌, add-zero, arith}
use Rattle.std.proofs.lemmas.List.{drop_more, drop-drop, length-drop}
use Rattle.ic_term.specs.Tree.{Tree}
use Rattle.ic_flat.specs.declared.word.Word.{Word}
use Rattle.ic_flat.specs.declared.word.Word.TheVariants.{Name, Agent}
use Rattle.ic_flat.specs.Words.{arguments, with_word, forest, IsWhole}
use Rattle.ic_flat.specs.lemmas.WordLaws.{whole-drop, length-forest, forest-le}

-- So many terms are due at a place until the term that began at an earlier one ends.
pub record IsDue (ws : List Word) (place end due : ℕ) : Type 0 where
  pub after : place + 1 ≤ end + due
  pub before : place ≤ end
  pub within : end ≤ length ws
  pub enough : due ≤ length (forest (drop end ws))
  pub rest : drop due (forest (drop end ws)) ≡ drop 1 (forest (drop place ws))

-- a word is one of the terms that are due, and makes as many due as it takes
drop-with_word : (w : Word) (ts : List Tree) (due : ℕ) → drop (suc due) (with_word w ts) ≡ drop (due + arguments w) ts
drop-with_word (Name n) ts due = ap (λ k. drop k ts) (sym (add-zero due))
drop-with_word (Agent s arity) ts due = let all : arity + due ≡ due + arity = omega arith in drop-drop due arity ts ∙ ap (λ k. drop k ts) all

-- while a term is due, there is a word
pub IsDue-within : (ws : List Word) (place end due : ℕ) → IsDue ws place end due → 0 < due → end < length ws
IsDue-within ws place end due is some = omega (arith, is.enough, forest-le (drop end ws), length-drop end ws)

pub IsDue-start : (ws : List Word) (place : ℕ) → IsWhole ws → place < length ws → IsDue ws place place 1
IsDue-start ws place whole there =
    let w = get_or ws place (Name 0) in
    let after = drop_more ws place (Name 0) there in
    let one = (subst (λ l. IsWhole l) after (whole-drop place ws whole)).0 in
    let count = length-forest w (drop (place + 1) ws) one in
    let same = ap (λ l. length (forest l)) after in
    record { after = omega arith; before = omega arith; within = omega arith; enough = omega arith; rest = refl }

pub IsDue-next : (ws : List Word) (place end due : ℕ) (d : Word) → IsWhole ws → IsDue ws place end due → 0 < due
    → IsDue ws place (end + 1) (due - 1 + arguments (get_or ws end d))
IsDue-next ws place end due d whole is some =
    let there = IsDue-within ws place end due is some in
    let w = get_or ws end d in
    let after = drop_more ws end d there in
    let one = (subst (λ l. IsWhole l) after (whole-drop end ws whole)).0 in
    let count = length-forest w (drop (end + 1) ws) one in
    let same = ap (λ l. length (forest l)) after in
    let enough = is.enough in
    let before = is.before in
    let pred : suc (due - 1) ≡ due = omega arith in
    record {
      after = omega arith;
      before = omega arith;
      within = omega arith;
      enough = omega arith;
      rest = sym (drop-with_word w (forest (drop (end + 1) ws)) (due - 1)) ∙ ap (λ k. drop k (forest (w ∷ drop (end + 1) ws))) pred ∙ ap (λ l. drop due (forest l)) (sym after) ∙ is.rest;
    }

-- so the number of those due is that of a machine word
pub IsDue-fits : (ws : List Word) (place end due : ℕ) → IsDue ws place end due → due ≤ length ws
IsDue-fits ws place end due is = omega (arith, is.enough, forest-le (drop end ws), length-drop end ws)

-- while terms are missing, there is a word
pub more_there : (ws : List Word) (end counter count : ℕ) → count ≤ length (forest ws) → counter < count → forest (drop end ws) ≡ drop counter (forest ws) → end < length ws
more_there ws end counter count enough some rest =
    omega (arith, enough, some, ap length rest, length-drop counter (forest ws), forest-le (drop end ws), length-drop end ws)
