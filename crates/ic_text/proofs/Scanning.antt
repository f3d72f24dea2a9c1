-- Scanning the tokens of a configuration from their end gives its prefix notation.
use Rattle.std.proofs.Common.{◌≡◌, ℕ, suc, ◌+◌, ◌<◌, ◌≤◌, ◌^◌, List, [], ◌∷◌, ◌++◌, map, reverse, length, refl, sym, ap, ◌∙◌, append_assoc, arith}
use Rattle.std.specs.List.{flat_map, AllByRecursion}
use Rattle.std.proofs.lemmas.List.{reverse-append, map-append}
use Rattle.ic_term.specs.Symbol.{Symbol}
use Rattle.ic_text.specs.declared.token.Mark.TheVariants.{Less, Greater, Bar, Equals, Comma, Open, Close}
use Rattle.ic_text.specs.Token.{Token, word, mark}
use Rattle.ic_text.specs.Name.{name_text}
use Rattle.ic_text.specs.Source.{Source, leaf, node, Sources, no_sources, more_sources, Sides, Phrase, words, argument_words, further_words, sides_words, separated, phrase_words, count_of}
use Rattle.ic_text.specs.inner.Prefix.{Scanned, term_more, tail_of, one_more, scan, scan_step}
use Rattle.ic_text.specs.inner.Words.{prefix, prefix_of_sources, phrase_prefix}
use Rattle.ic_text.proofs.Accepted.{IsClosed, further_is_closed}
use Rattle.ic_text.proofs.Grammar.{after_commas, after_is_closed}

-- what is scanned, as one record
abbrev pub made : List Symbol → List ℕ → ℕ → ℕ → Scanned
made ns cs a k = record { nodes = ns; counts = cs; arity = a; terms = k }

-- words in front of what was scanned
abbrev pub with_term : List Symbol → Scanned → Scanned
with_term ns s = made (ns ++ s.nodes) s.counts 0 (term_more s.counts s.terms)

no_list_opens : (ts : List Token) → IsClosed ts → (scan ts).arity ≡ 0
no_list_opens (mark Open ∷ ts) closed = absurd closed
no_list_opens _ closed = refl

mutual
  pub scan-words : (t : Source) (r : List Token) → IsClosed r → scan (words t ++ r) ≡ with_term (prefix t) (scan r)
  scan-words (leaf n) r closed = ap (λ a. made (record { text = name_text n; arity = a } ∷ (scan r).nodes) (scan r).counts 0 (term_more (scan r).counts (scan r).terms)) (no_list_opens r closed)
  scan-words (node text ts) r closed = ap (scan_step (word text)) (scan-arguments ts r closed)

  scan-arguments : (ts : Sources) (r : List Token) → IsClosed r → scan (argument_words ts ++ r) ≡ made (prefix_of_sources ts ++ (scan r).nodes) (scan r).counts (count_of ts) (scan r).terms
  scan-arguments no_sources r closed = ap (λ a. made (scan r).nodes (scan r).counts a (scan r).terms) (no_list_opens r closed)
  scan-arguments (more_sources t ts) r closed =
      ap (λ x. scan_step (mark Open) (scan x)) (append_assoc (words t) (further_words ts) r)
      ∙ ap (scan_step (mark Open)) (scan-words t (further_words ts ++ r) (further_is_closed ts r) ∙ ap (with_term (prefix t)) (scan-further ts r))
      ∙ ap (λ ns. made ns (scan r).counts (1 + count_of ts) (scan r).terms) (sym (append_assoc (prefix t) (prefix_of_sources ts) (scan r).nodes))

  scan-further : (ts : Sources) (r : List Token) → scan (further_words ts ++ r) ≡ made (prefix_of_sources ts ++ (scan r).nodes) ((1 + count_of ts) ∷ (scan r).counts) 0 (scan r).terms
  scan-further no_sources r = refl
  scan-further (more_sources t ts) r =
      let more : 1 + count_of ts + 1 ≡ 1 + (1 + count_of ts) = omega arith in
      ap (λ x. scan_step (mark Comma) (scan x)) (append_assoc (words t) (further_words ts) r)
      ∙ ap (scan_step (mark Comma)) (scan-words t (further_words ts ++ r) (further_is_closed ts r) ∙ ap (with_term (prefix t)) (scan-further ts r))
      ∙ ap (λ ns. made ns ((1 + count_of ts + 1) ∷ (scan r).counts) 0 (scan r).terms) (sym (append_assoc (prefix t) (prefix_of_sources ts) (scan r).nodes))
      ∙ ap (λ c. made ((prefix t ++ prefix_of_sources ts) ++ (scan r).nodes) (c ∷ (scan r).counts) 0 (scan r).terms) more

-- terms of the interface after the first one
interface_after : (ts : List Source) (r : List Token) (ns : List Symbol) → scan (mark Bar ∷ r) ≡ made ns [] 0 0
    → scan (after_commas (map words ts) ++ mark Bar ∷ r) ≡ made (flat_map prefix ts ++ ns) [] 0 (length ts)
interface_after [] r ns rest = rest
interface_after (t ∷ ts) r ns rest =
    let more : length ts + 1 ≡ length (t ∷ ts) = omega arith in
    ap (λ x. scan_step (mark Comma) (scan x)) (append_assoc (words t) (after_commas (map words ts)) (mark Bar ∷ r))
    ∙ ap (scan_step (mark Comma)) (scan-words t (after_commas (map words ts) ++ mark Bar ∷ r) (after_is_closed (map words ts) (mark Bar ∷ r) tt) ∙ ap (with_term (prefix t)) (interface_after ts r ns rest))
    ∙ ap (λ xs. made xs [] 0 (length ts + 1)) (sym (append_assoc (prefix t) (flat_map prefix ts) ns))
    ∙ ap (made (flat_map prefix (t ∷ ts) ++ ns) [] 0) more

interface_scan : (ts : List Source) (r : List Token) (ns : List Symbol) → scan (mark Bar ∷ r) ≡ made ns [] 0 0
    → scan (separated Comma (map words ts) ++ mark Bar ∷ r) ≡ made (flat_map prefix ts ++ ns) [] 0 (length ts)
interface_scan [] r ns rest = rest
interface_scan (t ∷ ts) r ns rest =
    let more : length ts + 1 ≡ length (t ∷ ts) = omega arith in
    ap scan (append_assoc (words t) (after_commas (map words ts)) (mark Bar ∷ r))
    ∙ scan-words t (after_commas (map words ts) ++ mark Bar ∷ r) (after_is_closed (map words ts) (mark Bar ∷ r) tt) ∙ ap (with_term (prefix t)) (interface_after ts r ns rest)
    ∙ ap (λ xs. made xs [] 0 (length ts + 1)) (sym (append_assoc (prefix t) (flat_map prefix ts) ns))
    ∙ ap (made (flat_map prefix (t ∷ ts) ++ ns) [] 0) more

-- the words of an equation
abbrev sides_prefix : Sides → List Symbol
sides_prefix e = prefix e.left ++ prefix e.right

abbrev equations_prefix : List Sides → List Symbol
equations_prefix es = flat_map (λ e. prefix e.left ++ prefix e.right) es

equation_scan : (e : Sides) (r : List Token) (ns : List Symbol) (k : ℕ) → IsClosed r → scan r ≡ made ns [] 0 k
    → scan (sides_words e ++ r) ≡ made (sides_prefix e ++ ns) [] 0 (k + 1 + 1)
equation_scan e r ns k closed rest =
    ap scan (append_assoc (words e.left) (mark Equals ∷ words e.right) r)
    ∙ scan-words e.left (mark Equals ∷ (words e.right ++ r)) tt
    ∙ ap (λ s. with_term (prefix e.left) (scan_step (mark Equals) s)) (scan-words e.right r closed ∙ ap (with_term (prefix e.right)) rest)
    ∙ ap (λ xs. made xs [] 0 (k + 1 + 1)) (sym (append_assoc (prefix e.left) (prefix e.right) ns))

equations_after : (es : List Sides) → (k : ℕ) × (scan (after_commas (map sides_words es) ++ mark Greater ∷ []) ≡ made (equations_prefix es) [] 0 k)
equations_after [] = (0, refl)
equations_after (e ∷ es) =
    let others = equations_after es in
    let r = after_commas (map sides_words es) ++ mark Greater ∷ [] in (
      others.0 + 1 + 1,
      ap (λ x. scan_step (mark Comma) (scan x)) (append_assoc (sides_words e) (after_commas (map sides_words es)) (mark Greater ∷ []))
          ∙ ap (scan_step (mark Comma)) (equation_scan e r (equations_prefix es) others.0 (after_is_closed (map sides_words es) (mark Greater ∷ []) tt) others.1),
    )

equations_scan : (es : List Sides) → (k : ℕ) × (scan (separated Comma (map sides_words es) ++ mark Greater ∷ []) ≡ made (equations_prefix es) [] 0 k)
equations_scan [] = (0, refl)
equations_scan (e ∷ es) =
    let others = equations_after es in
    let r = after_commas (map sides_words es) ++ mark Greater ∷ [] in (
      others.0 + 1 + 1,
      ap scan (append_assoc (sides_words e) (after_commas (map sides_words es)) (mark Greater ∷ []))
          ∙ equation_scan e r (equations_prefix es) others.0 (after_is_closed (map sides_words es) (mark Greater ∷ []) tt) others.1,
    )

-- a configuration, from its end to its beginning
pub scan-phrase_words : (p : Phrase) → scan (phrase_words p) ≡ made (phrase_prefix p) [] 0 (length p.interface)
scan-phrase_words p =
    let e = equations_scan p.equations in
    let r = separated Comma (map sides_words p.equations) ++ mark Greater ∷ [] in
    ap (scan_step (mark Less)) (interface_scan p.interface r (equations_prefix p.equations) (ap (scan_step (mark Bar)) e.1))

-- no count exceeds the number of tokens
counts_fit : (n : ℕ) (cs : List ℕ) → AllByRecursion (λ c. c ≤ n) cs → AllByRecursion (λ c. c ≤ suc n) cs
counts_fit n [] fit = tt
counts_fit n (c ∷ cs) fit = (omega (arith, fit.0), counts_fit n cs fit.1)

head_fits : (n : ℕ) (cs : List ℕ) → AllByRecursion (λ c. c ≤ n) cs → AllByRecursion (λ c. c ≤ suc n) (one_more cs)
head_fits n [] fit = tt
head_fits n (c ∷ cs) fit = (omega (arith, fit.0), counts_fit n cs fit.1)

tail_fits : (n : ℕ) (cs : List ℕ) → AllByRecursion (λ c. c ≤ n) cs → AllByRecursion (λ c. c ≤ suc n) (tail_of cs)
tail_fits n [] fit = tt
tail_fits n (c ∷ cs) fit = counts_fit n cs fit.1

term_fits : (n k : ℕ) (cs : List ℕ) → k ≤ n → term_more cs k ≤ suc n
term_fits n k [] fit = omega arith
term_fits n k (c ∷ cs) fit = omega arith

pub scan_fits : (ts : List Token) → AllByRecursion (λ c. c ≤ length ts) (scan ts).counts × ((scan ts).terms ≤ length ts)
scan_fits [] = (tt, omega arith)
scan_fits (word text ∷ ts) = let so_far = scan_fits ts in (counts_fit (length ts) (scan ts).counts so_far.0, term_fits (length ts) (scan ts).terms (scan ts).counts so_far.1)
scan_fits (mark Open ∷ ts) = let so_far = scan_fits ts in (tail_fits (length ts) (scan ts).counts so_far.0, omega (arith, so_far.1))
scan_fits (mark Close ∷ ts) = let so_far = scan_fits ts in ((omega arith, counts_fit (length ts) (scan ts).counts so_far.0), omega (arith, so_far.1))
scan_fits (mark Comma ∷ ts) = let so_far = scan_fits ts in (head_fits (length ts) (scan ts).counts so_far.0, omega (arith, so_far.1))
scan_fits (mark Bar ∷ ts) = let so_far = scan_fits ts in (counts_fit (length ts) (scan ts).counts so_far.0, omega arith)
scan_fits (mark m ∷ ts) = let so_far = scan_fits ts in (counts_fit (length ts) (scan ts).counts so_far.0, omega (arith, so_far.1))

-- and there is room for one more
pub counts_room : (n : ℕ) (cs : List ℕ) → AllByRecursion (λ c. c ≤ n) cs → n + 1 < 2 ^ 64 → AllByRecursion (λ c. c + 1 < 2 ^ 64) cs
counts_room n [] fit room = tt
counts_room n (c ∷ cs) fit room = (omega (arith, fit.0), counts_room n cs fit.1 room)

pub map-reverse : {X Y : Type 0} (f : X → Y) (xs : List X) → map f (reverse xs) ≡ reverse (map f xs)
map-reverse f [] = refl
map-reverse f (x ∷ xs) =
    ap (map f) (reverse-append (x ∷ []) xs) ∙ map-append f (reverse xs) (x ∷ []) ∙ ap (λ l. l ++ f x ∷ []) (map-reverse f xs) ∙ sym (reverse-append (f x ∷ []) (map f xs))
