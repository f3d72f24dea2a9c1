-- Words are numbered one after the other.
use Rattle.std.proofs.Common.{◌≡◌, ℕ, zero, suc, ◌+◌, ◌<◌, ◌≤◌, inl, inr, true, List, [], ◌∷◌, ◌++◌, Option, None, Some, is_some, Result, Ok, Err, length, map, drop, get_or, refl, sym, ap, ◌∙◌, subst, arith}
use Rattle.std.specs.List.{AllByRecursion}
use Rattle.std.specs.Option.{option_or}
use Rattle.std.proofs.lemmas.List.{drop_more, drop_all, get_or-map, length-map}
use Rattle.ic_term.specs.Symbol.{Symbol}
use Rattle.ic_term.specs.declared.symbols.SymbolFault.{SymbolFault}
use Rattle.ic_term.specs.declared.symbols.SymbolFault.TheVariants.{Limit as OverLimit, Arity as OtherArity}
use Rattle.ic_text.specs.declared.limits.Limits.{Limits}
use Rattle.ic_text.specs.declared.fault.TextFault.{TextFault}
use Rattle.ic_text.specs.declared.fault.TextFault.TheVariants.{Limit}
use Rattle.ic_text.specs.declared.misread.Limit.{Limit as Bound}
use Rattle.ic_text.specs.declared.excess.Excess.{Excess}
use Rattle.ic_text.specs.declared.number.Clash.{Clash}
use Rattle.ic_flat.specs.declared.word.Word.{Word}
use Rattle.ic_text.specs.declared.number.Numbering.{Numbering}
use Rattle.ic_text.specs.declared.prefix.Node.{Node}
use Rattle.ic_text.specs.Limits.{most_symbols}
use Rattle.ic_text.specs.inner.Numbered.{IsWord, Refuses, counted_words, numbered_words, table_with, word_found}
use Rattle.ic_text.specs.inner.Prefix.{node_of, nodes_of}
use Rattle.ic_text.specs.inner.Refused.{Stops, Takes}
use Rattle.ic_text.proofs.Numbering.{Outcome, kept, limited, clashed, outcome, go, go_on, go-numbered_words}

-- numbering has come so far, on its way to an answer
pub record SoFar (limits : Limits) (all : Result (List Symbol × List Word) TextFault) (ws : List Symbol) (k : ℕ) (n : Numbering) : Type 0 where
  pub few : length n.symbols ≤ most_symbols limits
  pub same : go limits n.symbols (is_some n.clash) n.words.items (drop k ws) ≡ all

-- it begins
pub begins : (limits : Limits) (ws : List Symbol) (n : Numbering) → n.symbols ≡ [] → n.words.items ≡ [] → n.clash ≡ None → SoFar limits (numbered_words limits ws) ws 0 n
begins limits ws n no_symbol no_item no_clash = record {
  few = omega (arith, ap length no_symbol);
  same = (λ i. go limits (no_symbol i) (is_some (no_clash i)) (no_item i) ws) ∙ go-numbered_words limits ws;
}

module _ (limits : Limits) (all : Result (List Symbol × List Word) TextFault) (ws : List Symbol) (k : ℕ) (w : Symbol) (rest : drop k ws ≡ w ∷ drop (k + 1) ws) (old : Numbering) (so_far : SoFar limits all ws k old) where
  abbrev more : List Symbol
  more = drop (k + 1) ws

  -- what a word does that was found so
  by_word : (r : Result Word SymbolFault) → word_found limits old.symbols w ≡ r
      → go_on r (λ item. go limits (table_with old.symbols w) (is_some old.clash) (old.words.items ++ item ∷ []) more) (go limits old.symbols true old.words.items more) ≡ all
  by_word r e =
      ap (λ x. go_on x (λ item. go limits (table_with old.symbols w) (is_some old.clash) (old.words.items ++ item ∷ []) more) (go limits old.symbols true old.words.items more)) (sym e)
      ∙ ap (go limits old.symbols (is_some old.clash) old.words.items) (sym rest) ∙ so_far.same

  room : (item : Word) → word_found limits old.symbols w ≡ Ok item → length (table_with old.symbols w) ≤ most_symbols limits
  room item e = by_outcome (outcome limits old.symbols w [] so_far.few)
    where
      by_outcome : Outcome limits old.symbols w [] → length (table_with old.symbols w) ≤ most_symbols limits
      by_outcome (kept i found is over same long) = long
      by_outcome (limited found beyond) = cc
      by_outcome (clashed n found is over same) = cc

  -- so one word more has been numbered
  pub goes_on : (new : Numbering) → Takes w (word_found limits old.symbols w) old new → SoFar limits all ws (k + 1) new
  goes_on new took = by_found (word_found limits old.symbols w) refl took
    where
      by_found : (r : Result Word SymbolFault) → word_found limits old.symbols w ≡ r → Takes w r old new → SoFar limits all ws (k + 1) new
      by_found (Ok item) e took = record {
        few = omega (arith, ap length took.0, room item e);
        same = (λ i. go limits (took.0 i) (is_some (took.2 i)) (took.1 i) more) ∙ by_word (Ok item) e;
      }
      by_found (Err (OtherArity n)) e took = record {
        few = omega (arith, ap length took.0, so_far.few);
        same = (λ i. go limits (took.0 i) (took.2 i) (took.1 i) more) ∙ by_word (Err (OtherArity n)) e;
      }
      by_found _ e took = absurd took

  -- or the word is refused
  pub stops_there : (f : TextFault) → Stops (word_found limits old.symbols w) f → Refuses f all
  stops_there f (inl memory) = subst (λ x. Refuses x all) (sym memory) tt
  stops_there f (inr limit) = subst (λ x. Refuses x all) (sym limit.1) (by_word (Err OverLimit) limit.0)

-- what one word does, by what was found of it
pub takes_word : (w : Symbol) (found : Result Word SymbolFault) (item : Word) (old new : Numbering) → Ok item ≡ found
    → new.symbols ≡ table_with old.symbols w → new.words.items ≡ old.words.items ++ item ∷ [] → new.clash ≡ old.clash → Takes w found old new
takes_word w found item old new e symbols items clash = subst (λ r. Takes w r old new) e (symbols, items, clash)

pub some-or : (c : Option Clash) (d : Clash) → is_some (option_or c (Some d)) ≡ true
some-or None d = refl
some-or (Some c) d = refl

pub takes_clash : (w : Symbol) (found : Result Word SymbolFault) (n : ℕ) (old new : Numbering) → Err (OtherArity n) ≡ found
    → new.symbols ≡ old.symbols → new.words.items ≡ old.words.items → is_some new.clash ≡ true → Takes w found old new
takes_clash w found n old new e symbols items clash = subst (λ r. Takes w r old new) e (symbols, items, clash)

-- the word after so many others, by what each is seen as
module _ {X : Type 0} (view : X → Symbol) (xs : List X) (k : ℕ) (d : X) (inside : k < length xs) where
  abbrev pub seen_word : Symbol
  seen_word = view (get_or xs k d)

  pub rest_seen : drop k (map view xs) ≡ seen_word ∷ drop (k + 1) (map view xs)
  rest_seen =
      let long : k < length (map view xs) = omega (arith, length-map xs view, inside) in
      drop_more (map view xs) k seen_word long
      ∙ ap (λ v. v ∷ drop (k + 1) (map view xs)) (get_or-map view xs k d seen_word inside)

  pub is_word_seen : AllByRecursion IsWord (map view xs) → IsWord seen_word
  is_word_seen all = (subst (AllByRecursion IsWord) rest_seen (all_drop k (map view xs) all)).0
    where
      all_drop : (j : ℕ) (ws : List Symbol) → AllByRecursion IsWord ws → AllByRecursion IsWord (drop j ws)
      all_drop zero ws all = all
      all_drop (suc j) [] all = tt
      all_drop (suc j) (w ∷ ws) all = all_drop j ws all.1

pub none_seen : {X : Type 0} (view : X → Symbol) (xs : List X) (k : ℕ) → length xs ≤ k → drop k (map view xs) ≡ []
none_seen view xs k le = drop_all k (map view xs) (omega (arith, length-map xs view))

-- the word of a node
module _ (nodes : List Node) (k : ℕ) (d : Node) (inside : k < length nodes) where
  abbrev pub the_word : Symbol
  the_word = node_of (get_or nodes k d)

  pub rest_there : drop k (nodes_of nodes) ≡ the_word ∷ drop (k + 1) (nodes_of nodes)
  rest_there = rest_seen node_of nodes k d inside

  pub is_word_there : AllByRecursion IsWord (nodes_of nodes) → IsWord the_word
  is_word_there all = is_word_seen node_of nodes k d inside all

pub none_there : (nodes : List Node) (k : ℕ) → length nodes ≤ k → drop k (nodes_of nodes) ≡ []
none_there nodes k le = none_seen node_of nodes k le

-- where a limit of how many they are is passed, words are refused for a limit
module _ (limits : Limits) (ws : List Symbol) where
  pub refused_counted : (o : Option Excess) (found : Result Word SymbolFault) (f : TextFault) → Stops found f → Refuses f (numbered_words limits ws) → Refuses f (counted_words limits o ws)
  refused_counted None found f stops refuses = refuses
  refused_counted (Some x) found f (inl memory) refuses = subst (λ y. Refuses y (counted_words limits (Some x) ws)) (sym memory) tt
  refused_counted (Some x) found f (inr limit) refuses = subst (λ y. Refuses y (counted_words limits (Some x) ws)) (sym limit.1) refl

  pub stops_counted : (o : Option Excess) (found : Option Bound) (l : Bound) (f : TextFault) → (o ≡ None → found ≡ None) → found ≡ Some l → f ≡ Limit → Refuses f (counted_words limits o ws)
  stops_counted None found l f none is e = let both : None ≡ Some l = sym (none refl) ∙ is in cc
  stops_counted (Some x) found l f none is e = subst (λ y. Refuses y (counted_words limits (Some x) ws)) (sym e) refl
