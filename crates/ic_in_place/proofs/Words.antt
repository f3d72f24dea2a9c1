-- Lemmas: words that terms begin with.
use Rattle.std.proofs.Common.{◌≡◌, ℕ, ◌+◌, ◌<◌, ◌≤◌, List, [], ◌∷◌, true, false, Option, None, Some, length, get_or, take, drop, refl, sym, ap, ◌∙◌, arith}
use Rattle.std.specs.Prelude.{option_map, is_some}
use Rattle.std.proofs.lemmas.List.{drop_more, length-drop}
use Rattle.std.proofs.lemmas.Bool.{false≢true}
use Rattle.ic_term.specs.Tree.{Tree, name, agent, trees_of, Pair}
use Rattle.ic_term.specs.Symbol.{Symbol}
use Rattle.ic_flat.specs.declared.word.Word.{Word}
use Rattle.ic_flat.specs.declared.word.Word.TheVariants.{Name, Agent}
use Rattle.ic_flat.specs.Words.{arguments, with_word, forest}
use Rattle.ic_flat.specs.Flat.{pairs_of}
use Rattle.ic_flat.specs.lemmas.WordLaws.{forest-le}
use Rattle.ic_in_place.specs.inner.Told.{first_told, words_told}

-- there are words where there are terms
pub word_there : (ws : List Word) (place n : ℕ) → n ≤ length (forest (drop place ws)) → 0 < n → place < length ws
word_there ws place n enough some = omega (arith, enough, forest-le (drop place ws), length-drop place ws)

-- the term that a word begins, with those after it
abbrev pub head : Word → List Tree → Tree
head (Name n) ts = name n
head (Agent s a) ts = agent s (trees_of (take a ts))

headed : (w : Word) (ts : List Tree) → with_word w ts ≡ head w ts ∷ drop (arguments w) ts
headed (Name n) ts = refl
headed (Agent s a) ts = refl

-- the terms from a place on begin with that of its word
begins : (ws : List Word) (place : ℕ) (d : Word) → place < length ws
    → forest (drop place ws) ≡ head (get_or ws place d) (forest (drop (place + 1) ws)) ∷ drop (arguments (get_or ws place d)) (forest (drop (place + 1) ws))
begins ws place d there = ap forest (drop_more ws place d there) ∙ headed (get_or ws place d) (forest (drop (place + 1) ws))

-- of two agents, the first of all; else that of the others
abbrev pub either : Option (List ℕ) → Option (List ℕ) → Option (List ℕ)
either None o = o
either (Some text) o = Some text

first_by_words : (ss : List Symbol) (v w : Word) (ts us : List Tree) (es : List Pair)
    → first_told ss (record { left = head v ts; right = head w us } ∷ es) ≡ either (words_told ss v w) (first_told ss es)
first_by_words ss (Name m) w ts us es = refl
first_by_words ss (Agent s a) (Name n) ts us es = refl
first_by_words ss (Agent s a) (Agent r b) ts us es = refl

pair_of_words : (ss : List Symbol) (v w : Word) (vs ws all rest : List Tree) → all ≡ head v vs ∷ rest → (more : List Tree) → rest ≡ head w ws ∷ more
    → first_told ss (pairs_of all) ≡ either (words_told ss v w) (first_told ss (pairs_of more))
pair_of_words ss v w vs ws all rest is more then =
    ap (λ l. first_told ss (pairs_of l)) (is ∙ ap (λ l. head v vs ∷ l) then) ∙ first_by_words ss v w vs ws (pairs_of more)

drop_one : (t : Tree) (ts all : List Tree) → all ≡ t ∷ ts → drop 1 all ≡ ts
drop_one t ts all is = ap (drop 1) is

-- the first equation from a place on, by the words of its two sides
pub told_here : (ss : List Symbol) (ws : List Word) (left right : ℕ) (d e : Word) → left < length ws → right < length ws
    → forest (drop right ws) ≡ drop 1 (forest (drop left ws))
    → first_told ss (pairs_of (forest (drop left ws))) ≡ either (words_told ss (get_or ws left d) (get_or ws right e)) (first_told ss (pairs_of (drop 1 (forest (drop right ws)))))
told_here ss ws left right d e there there_too second =
    let v = get_or ws left d in
    let w = get_or ws right e in
    let vs = forest (drop (left + 1) ws) in
    let us = forest (drop (right + 1) ws) in
    let first = begins ws left d there in
    let then = begins ws right e there_too in
    let rest = drop_one (head v vs) (drop (arguments v) vs) (forest (drop left ws)) first in
    let more = drop_one (head w us) (drop (arguments w) us) (forest (drop right ws)) then in
    pair_of_words ss v w vs us (forest (drop left ws)) (drop (arguments v) vs) first (drop (arguments w) us) (sym rest ∙ sym second ∙ then)
    ∙ ap (λ l. either (words_told ss v w) (first_told ss (pairs_of l))) (sym more)

either_some : (o p : Option (List ℕ)) → is_some o ≡ true → either o p ≡ o
either_some None p some = absurd (false≢true some)
either_some (Some text) p some = refl

either_none : (o p : Option (List ℕ)) → is_some o ≡ false → either o p ≡ p
either_none None p none = refl
either_none (Some text) p none = absurd (false≢true (sym none))

pub some_mapped : {A B : Type 0} (f : A → B) (o : Option A) → is_some (option_map f o) ≡ is_some o
some_mapped f None = refl
some_mapped f (Some x) = refl

-- where that is an equation of two agents, it is the first of all
pub told_first : (ss : List Symbol) (ws : List Word) (left right : ℕ) (d e : Word) → left < length ws → right < length ws
    → forest (drop right ws) ≡ drop 1 (forest (drop left ws)) → (o : Option (List ℕ)) → o ≡ words_told ss (get_or ws left d) (get_or ws right e) → is_some o ≡ true
    → o ≡ first_told ss (pairs_of (forest (drop left ws)))
told_first ss ws left right d e there there_too second o is some =
    let others = first_told ss (pairs_of (drop 1 (forest (drop right ws)))) in
    sym (told_here ss ws left right d e there there_too second ∙ ap (λ q. either q others) (sym is) ∙ either_some o others some)

-- where it isn't, that is among the others
pub told_later : (ss : List Symbol) (ws : List Word) (left right : ℕ) (d e : Word) → left < length ws → right < length ws
    → forest (drop right ws) ≡ drop 1 (forest (drop left ws)) → (o : Option (List ℕ)) → o ≡ words_told ss (get_or ws left d) (get_or ws right e) → is_some o ≡ false
    → (next : ℕ) → forest (drop next ws) ≡ drop 1 (forest (drop right ws))
    → first_told ss (pairs_of (forest (drop next ws))) ≡ first_told ss (pairs_of (forest (drop left ws)))
told_later ss ws left right d e there there_too second o is none next after =
    let others = first_told ss (pairs_of (drop 1 (forest (drop right ws)))) in
    ap (λ l. first_told ss (pairs_of l)) after
    ∙ sym (told_here ss ws left right d e there there_too second ∙ ap (λ q. either q others) (sym is) ∙ either_none o others none)

pub pairs_of_none : (ts : List Tree) → length ts ≡ 0 → pairs_of ts ≡ []
pairs_of_none [] none = refl
pairs_of_none (t ∷ ts) none = absurd (omega (arith, none))
