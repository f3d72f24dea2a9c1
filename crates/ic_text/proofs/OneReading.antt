-- A text spells at most one configuration.
use Rattle.std.proofs.Common.{◌≡◌, cond, List, [], ◌∷◌, ◌++◌, length, take, drop, refl, sym, ap, ◌∙◌, arith}
use Rattle.std.specs.List.{flat_map, AllByRecursion}
use Rattle.std.proofs.lemmas.List.{take_at, drop_at}
use Rattle.ic_term.specs.Symbol.{Symbol}
use Rattle.ic_text.specs.declared.syntax.Part.TheVariants.{Begin}
use Rattle.ic_text.specs.declared.syntax.Spot.TheVariants.{After}
use Rattle.ic_text.specs.Name.{is_name, name_number}
use Rattle.ic_text.specs.Source.{Source, leaf, node, Sources, no_sources, more_sources, Sides, Phrase, IsSource, AreSources, IsPhrase, phrase_words, count_of}
use Rattle.ic_text.specs.inner.Syntax.{accepts}
use Rattle.ic_text.specs.inner.Prefix.{Scanned, scan}
use Rattle.ic_text.specs.inner.Words.{prefix, prefix_of_sources, phrase_prefix}
use Rattle.ic_text.specs.lemmas.NameLemmas.{is_name-name_text, name_number-name_text, isnt_name-symbol}
use Rattle.ic_text.proofs.Accepted.{at}
use Rattle.ic_text.proofs.Grammar.{AreSides}
use Rattle.ic_text.proofs.FoundPhrase.{SpelledBy-accepts, accepts-SpelledBy}
use Rattle.ic_text.proofs.Scanning.{scan-phrase_words}
use Rattle.ic_text.specs.lemmas.ReadOnce.{IsTold}

-- the arguments of a symbol as a list, and back
abbrev sources_in : Sources → List Source
sources_in no_sources = []
sources_in (more_sources t ts) = t ∷ sources_in ts

abbrev sources_from : List Source → Sources
sources_from [] = no_sources
sources_from (t ∷ ts) = more_sources t (sources_from ts)

sources_from-sources_in : (ts : Sources) → sources_from (sources_in ts) ≡ ts
sources_from-sources_in no_sources = refl
sources_from-sources_in (more_sources t ts) = ap (more_sources t) (sources_from-sources_in ts)

length-sources_in : (ts : Sources) → length (sources_in ts) ≡ count_of ts
length-sources_in no_sources = refl
length-sources_in (more_sources t ts) = omega (arith, length-sources_in ts)

-- the terms that words in prefix notation write
abbrev with_word : Symbol → List Source → List Source
with_word w ts = cond (is_name w.text) (leaf (name_number w.text) ∷ ts) (node w.text (sources_from (take w.arity ts)) ∷ drop w.arity ts)

abbrev unprefixed : List Symbol → List Source → List Source
unprefixed [] ts = ts
unprefixed (w ∷ ws) ts = with_word w (unprefixed ws ts)

unprefixed-append : (vs ws : List Symbol) (ts : List Source) → unprefixed (vs ++ ws) ts ≡ unprefixed vs (unprefixed ws ts)
unprefixed-append [] ws ts = refl
unprefixed-append (v ∷ vs) ws ts = ap (with_word v) (unprefixed-append vs ws ts)

mutual
  unprefixed-prefix : (t : Source) (ts : List Source) → IsSource t → unprefixed (prefix t) ts ≡ t ∷ ts
  unprefixed-prefix (leaf n) ts is = rw (is_name-name_text n) (ap (λ m. leaf m ∷ ts) (name_number-name_text n))
  unprefixed-prefix (node text us) ts is =
      let after = unprefixed-sources us ts is.1 in
      let size = length-sources_in us in
      rw (isnt_name-symbol text is.0)
      (ap (λ l. node text (sources_from (take (count_of us) l)) ∷ drop (count_of us) l) after
      ∙ ap (λ l. node text (sources_from l) ∷ drop (count_of us) (sources_in us ++ ts)) (take_at (sources_in us) ts (count_of us) size)
      ∙ ap (λ l. node text (sources_from (sources_in us)) ∷ l) (drop_at (sources_in us) ts (count_of us) size)
      ∙ ap (λ l. node text l ∷ ts) (sources_from-sources_in us))

  unprefixed-sources : (us : Sources) (ts : List Source) → AreSources us → unprefixed (prefix_of_sources us) ts ≡ sources_in us ++ ts
  unprefixed-sources no_sources ts are = refl
  unprefixed-sources (more_sources u us) ts are =
      unprefixed-append (prefix u) (prefix_of_sources us) ts ∙ unprefixed-prefix u (unprefixed (prefix_of_sources us) ts) are.0 ∙ ap (λ l. u ∷ l) (unprefixed-sources us ts are.1)

unprefixed-interface : (us : List Source) (ts : List Source) → AllByRecursion IsSource us → unprefixed (flat_map prefix us) ts ≡ us ++ ts
unprefixed-interface [] ts are = refl
unprefixed-interface (u ∷ us) ts are =
    unprefixed-append (prefix u) (flat_map prefix us) ts ∙ unprefixed-prefix u (unprefixed (flat_map prefix us) ts) are.0 ∙ ap (λ l. u ∷ l) (unprefixed-interface us ts are.1)

-- the sides of equations, one after the other, and back
abbrev sides_in : List Sides → List Source
sides_in [] = []
sides_in (e ∷ es) = e.left ∷ e.right ∷ sides_in es

abbrev sides_from : List Source → List Sides
sides_from [] = []
sides_from (t ∷ []) = []
sides_from (t ∷ u ∷ ts) = record { left = t; right = u } ∷ sides_from ts

sides_from-sides_in : (es : List Sides) → sides_from (sides_in es) ≡ es
sides_from-sides_in [] = refl
sides_from-sides_in (e ∷ es) = ap (λ l. e ∷ l) (sides_from-sides_in es)

unprefixed-equations : (es : List Sides) → AreSides es → unprefixed (flat_map (λ e. prefix e.left ++ prefix e.right) es) [] ≡ sides_in es
unprefixed-equations [] are = refl
unprefixed-equations (e ∷ es) are =
    let rest = unprefixed (flat_map (λ (x : Sides). prefix x.left ++ prefix x.right) es) [] in
    unprefixed-append (prefix e.left ++ prefix e.right) (flat_map (λ (x : Sides). prefix x.left ++ prefix x.right) es) []
    ∙ unprefixed-append (prefix e.left) (prefix e.right) rest
    ∙ unprefixed-prefix e.left (unprefixed (prefix e.right) rest) are.0.0
    ∙ ap (λ l. e.left ∷ l) (unprefixed-prefix e.right rest are.0.1 ∙ ap (λ l. e.right ∷ l) (unprefixed-equations es are.1))

-- the configuration that tokens are, if they are one
abbrev unscanned : Scanned → Phrase
unscanned s = record { interface = take s.terms (unprefixed s.nodes []); equations = sides_from (drop s.terms (unprefixed s.nodes [])) }

unscanned-phrase_words : (p : Phrase) → IsPhrase p → unscanned (scan (phrase_words p)) ≡ p
unscanned-phrase_words p is =
    let all : unprefixed (phrase_prefix p) [] ≡ p.interface ++ sides_in p.equations =
    unprefixed-append (flat_map prefix p.interface) (flat_map (λ (e : Sides). prefix e.left ++ prefix e.right) p.equations) []
    ∙ unprefixed-interface p.interface _ is.interface ∙ ap (λ l. p.interface ++ l) (unprefixed-equations p.equations is.equations) in
    let front : take (length p.interface) (unprefixed (phrase_prefix p) []) ≡ p.interface = ap (take (length p.interface)) all ∙ take_at p.interface (sides_in p.equations) (length p.interface) refl in
    let back : sides_from (drop (length p.interface) (unprefixed (phrase_prefix p) [])) ≡ p.equations = ap (λ l. sides_from (drop (length p.interface) l)) all ∙ ap sides_from (drop_at p.interface (sides_in p.equations) (length p.interface) refl) ∙ sides_from-sides_in p.equations in
    ap unscanned (scan-phrase_words p) ∙ (λ i. record { interface = front i; equations = back i })

pub phrase_words-injective : (p q : Phrase) → IsPhrase p → IsPhrase q → phrase_words p ≡ phrase_words q → p ≡ q
phrase_words-injective p q is_p is_q same = sym (unscanned-phrase_words p is_p) ∙ ap (λ ts. unscanned (scan ts)) same ∙ unscanned-phrase_words q is_q

abbrev pub told : IsTold IsPhrase phrase_words
told = record {
  test = accepts (at Begin After 0);
  found = SpelledBy-accepts;
  only = accepts-SpelledBy;
  injective = phrase_words-injective;
}
