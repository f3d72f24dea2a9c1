-- The words of terms that are due, one after the other.
use Rattle.std.proofs.Common.{◌≡◌, ℕ, suc, ◌+◌, ◌-◌, ◌<◌, ◌≤◌, List, ◌∷◌, ◌++◌, length, take, drop, get_or, refl, sym, ap, ◌∙◌, add-zero, append-nil, arith, subst as transport}
use Rattle.std.specs.List.{flat_map}
use Rattle.std.proofs.lemmas.List.{drop_more, drop-drop, length-drop, length-take-le}
use Rattle.std.proofs.lemmas.List.Concat.{flat_map-append}
use Rattle.ic_term.specs.Tree.{Tree, trees_of}
use Rattle.ic_term.specs.lemmas.TreeLaws.{list_of-trees_of}
use Rattle.ic_flat.specs.declared.word.Word.{Word}
use Rattle.ic_flat.specs.declared.word.Word.TheVariants.{Name, Agent}
use Rattle.ic_flat.specs.Words.{arguments, with_word, forest, IsWhole, tree_words, trees_words}
use Rattle.ic_flat.specs.lemmas.WordLaws.{whole-drop, length-forest, forest-le, trees_words-trees_of}
use Rattle.ic_flat_rules.specs.Standing.{tree_at, IsTermAt}
use Rattle.ic_flat_rules.specs.lemmas.WordPlaces.{some_terms, first-rest, term_at}
use Rattle.ic_flat_round.proofs.StackedSpans.{take-sum}

-- the words of so many terms from a place on
abbrev pub due_words : List Word → ℕ → ℕ → List Word
due_words ws place due = flat_map tree_words (take due (forest (drop place ws)))

-- So many terms are due at a place until the term that began at an earlier one ends.
pub record IsDue (ws : List Word) (from until due : ℕ) : Type 0 where
  pub ahead : from ≤ until
  pub after : from < until + due
  pub within : until ≤ length ws
  pub enough : due ≤ length (forest (drop until ws))
  pub rest : drop due (forest (drop until ws)) ≡ drop 1 (forest (drop from ws))

-- ---- a word is one of the terms that are due, and makes as many due as it takes

drop-with_word : (w : Word) (ts : List Tree) (n : ℕ) → drop (suc n) (with_word w ts) ≡ drop (n + arguments w) ts
drop-with_word (Name x) ts n = ap (λ k. drop k ts) (sym (add-zero n))
drop-with_word (Agent s arity) ts n = let all : arity + n ≡ n + arity = omega arith in drop-drop n arity ts ∙ ap (λ k. drop k ts) all

words-with_word : (w : Word) (ts : List Tree) (n : ℕ) → arguments w ≤ length ts
    → flat_map tree_words (take (suc n) (with_word w ts)) ≡ w ∷ flat_map tree_words (take (n + arguments w) ts)
words-with_word (Name x) ts n there = ap (λ k. Name x ∷ flat_map tree_words (take k ts)) (sym (add-zero n))
words-with_word (Agent s arity) ts n there =
    let us = take arity ts in
    let more = take n (drop arity ts) in
    ap (λ k. Agent s k ∷ (trees_words (trees_of us) ++ flat_map tree_words more)) (ap length (list_of-trees_of us) ∙ length-take-le arity ts there)
    ∙ ap (λ l. Agent s arity ∷ (l ++ flat_map tree_words more)) (trees_words-trees_of us)
    ∙ ap (λ l. Agent s arity ∷ l) (sym (flat_map-append tree_words us more) ∙ ap (flat_map tree_words) (take-sum n arity ts there))

-- ---- the word at a place

takes_there : (ws : List Word) (place : ℕ) (d : Word) → IsWhole ws → place < length ws → arguments (get_or ws place d) ≤ length (forest (drop (place + 1) ws))
takes_there ws place d whole there = (transport (λ (l : List Word). IsWhole l) (drop_more ws place d there) (whole-drop place ws whole)).0

pub due_words-next : (ws : List Word) (place due : ℕ) (d : Word) → IsWhole ws → place < length ws → 0 < due
    → due_words ws place due ≡ get_or ws place d ∷ due_words ws (place + 1) (due - 1 + arguments (get_or ws place d))
due_words-next ws place due d whole there some =
    let one : due ≡ suc (due - 1) = omega (arith, some) in
    (λ i. flat_map tree_words (take (one i) (forest (drop_more ws place d there i))))
    ∙ words-with_word (get_or ws place d) (forest (drop (place + 1) ws)) (due - 1) (takes_there ws place d whole there)

-- the words of one term
pub due_words-one : (ws : List Word) (place : ℕ) → place < length ws → due_words ws place 1 ≡ tree_words (tree_at ws place)
due_words-one ws place there =
    let some : 0 < length (drop place ws) = omega (arith, length-drop place ws, there) in
    ap (λ l. flat_map tree_words (take 1 l)) (first-rest (forest (drop place ws)) (some_terms (drop place ws) some)) ∙ append-nil (tree_words (tree_at ws place))

-- ---- from one word to the next

pub due-start : (ws : List Word) (from : ℕ) → from < length ws → IsDue ws from from 1
due-start ws from there = record {
  ahead = omega arith;
  after = omega arith;
  within = omega (arith, there);
  enough = some_terms (drop from ws) (omega (arith, length-drop from ws, there));
  rest = refl;
}

-- while a term is due, there is a word
pub due_there : (ws : List Word) (from until due : ℕ) → IsDue ws from until due → 0 < due → until < length ws
due_there ws from until due is some = let enough = is.enough in omega (arith, enough, some, forest-le (drop until ws), length-drop until ws)

pub due-next : (ws : List Word) (from until due : ℕ) (d : Word) → IsWhole ws → IsDue ws from until due → 0 < due
    → IsDue ws from (until + 1) (due - 1 + arguments (get_or ws until d))
due-next ws from until due d whole is some =
    let there = due_there ws from until due is some in
    let w = get_or ws until d in
    let more = drop_more ws until d there in
    let takes = takes_there ws until d whole there in
    let ahead = is.ahead in
    let enough = is.enough in
    let one : due ≡ suc (due - 1) = omega (arith, some) in
    record {
      ahead = omega (arith, ahead);
      after = omega (arith, ahead);
      within = omega (arith, there);
      enough = omega (arith, enough, some, takes, length-forest w (drop (until + 1) ws) takes, ap (λ l. length (forest l)) more);
      rest = sym (drop-with_word w (forest (drop (until + 1) ws)) (due - 1)) ∙ sym (λ i. drop (one i) (forest (more i))) ∙ is.rest;
    }

-- so many terms aren't more than the words
pub due_few : (ws : List Word) (from until due : ℕ) → IsDue ws from until due → due ≤ length ws
due_few ws from until due is = let enough = is.enough in omega (arith, enough, forest-le (drop until ws), length-drop until ws)

-- where no term is due, the first one has ended
pub due-end : (ws : List Word) (from until due : ℕ) → from < length ws → IsDue ws from until due → due ≤ 0 → IsTermAt ws from until
due-end ws from until due there is none =
    let after = is.after in
    let nothing : due ≡ 0 = omega (arith, none) in
    term_at ws from until there (omega (arith, after, nothing)) is.within (ap (λ k. drop k (forest (drop until ws))) (sym nothing) ∙ is.rest)
