-- Terms written with bindings put in: one word after the other.
use Rattle.std.proofs.Common.{◌≡◌, ℕ, ◌+◌, List, [], ◌∷◌, ◌++◌, length, map, refl, sym, ap, ◌∙◌, append_assoc, append-nil, None, arith, subst as transport}
use Rattle.std.specs.List.{flat_map}
use Rattle.std.proofs.lemmas.List.{map-append, length-map}
use Rattle.std.proofs.lemmas.List.Concat.{flat_map-append}
use Rattle.std.proofs.lemmas.List.Sums.{sum_by-cons, sum_by-append}
use Rattle.ic_term.specs.Tree.{Tree, name, agent, list_of, trees_of, names, nodes}
use Rattle.ic_term.specs.lemmas.TreeLaws.{list_of-trees_of, nodes_of-trees_of}
use Rattle.ic_settle.specs.Settling.{Binding}
use Rattle.ic_settle.specs.lemmas.Waiting.{look, IsTaken, IsDelayed, put_each}
use Rattle.ic_settle.specs.lemmas.Delays.{delays-take, delays-absent, delays-rest}
use Rattle.ic_settle.specs.lemmas.PutEach.{names_of-trees_of, put_each-agent, put_each-unbound}
use Rattle.ic_flat.specs.declared.word.Word.{Word}
use Rattle.ic_flat.specs.declared.word.Word.TheVariants.{Name, Agent}
use Rattle.ic_flat.specs.Words.{tree_words}
use Rattle.ic_flat.specs.lemmas.WordLaws.{trees_words-trees_of}
use Rattle.ic_flat_round.specs.inner.Rebuilding.{State, state, words_put, PutsOn, effort}

pub words_put-append : (bs : List Binding) (ts us : List Tree) → words_put bs (ts ++ us) ≡ words_put bs ts ++ words_put bs us
words_put-append bs ts us = ap (flat_map tree_words) (map-append (put_each bs) ts us) ∙ flat_map-append tree_words (map (put_each bs) ts) (map (put_each bs) us)

-- ---- ways joined

pub puts-none : (a : State) → PutsOn a a
puts-none a bs rest d = (refl, d)

pub puts-both : (a b c : State) → PutsOn a b → PutsOn b c → PutsOn a c
puts-both a b c first second bs rest d =
    let one = first bs rest d in
    let two = second bs rest one.1 in
    (two.0 ∙ one.0, two.1)

-- the same where more terms are left after these
pub puts-more : (es es' : List (ℕ × Tree)) (done done' : List Word) (ts left : List Tree) → PutsOn (state es done ts) (state es' done' [])
    → PutsOn (state es done (ts ++ left)) (state es' done' left)
puts-more es es' done done' ts left puts bs rest d =
    let P : List ℕ → Type 0 = λ ns. IsDelayed bs es ns in
    let spread : flat_map names (ts ++ left) ++ rest ≡ flat_map names ts ++ (flat_map names left ++ rest) =
    ap (λ l. l ++ rest) (flat_map-append names ts left) ∙ append_assoc (flat_map names ts) (flat_map names left) rest in
    let one = puts bs (flat_map names left ++ rest) (transport P spread d) in (
      ap (λ l. l ++ words_put bs left) (sym (append-nil done') ∙ one.0)
          ∙ append_assoc done (words_put bs ts) (words_put bs left)
          ∙ ap (λ l. done ++ l) (sym (words_put-append bs ts left)),
      one.1,
    )

-- ---- one word

-- a name that isn't bound is written
pub puts-name : (es : List (ℕ × Tree)) (done : List Word) (x : ℕ) (left : List Tree) → look es x ≡ None
    → PutsOn (state es done (name x ∷ left)) (state es (done ++ Name x ∷ []) left)
puts-name es done x left none bs rest d =
    let free = delays-absent bs es x (flat_map names left ++ rest) none d in
    let word : words_put bs (name x ∷ left) ≡ Name x ∷ words_put bs left = ap (λ t. tree_words t ++ words_put bs left) (put_each-unbound bs x free) in (
      append_assoc done (Name x ∷ []) (words_put bs left) ∙ ap (λ l. done ++ l) (sym word),
      delays-rest bs es (x ∷ []) (flat_map names left ++ rest) d,
    )

-- in place of a bound name its term is left
pub puts-bound : (es es' : List (ℕ × Tree)) (done : List Word) (x : ℕ) (u : Tree) (left : List Tree) → IsTaken es es' x u
    → PutsOn (state es done (name x ∷ left)) (state es' done (u ∷ left))
puts-bound es es' done x u left taken bs rest d =
    let P : List ℕ → Type 0 = λ ns. IsDelayed bs es' ns in
    let same : put_each bs (name x) ≡ put_each bs u = d.same x u taken.there in (
      ap (λ t. done ++ (tree_words t ++ words_put bs left)) (sym same),
      transport P (sym (append_assoc (names u) (flat_map names left) rest)) (delays-take es es' x u taken bs (flat_map names left ++ rest) d),
    )

-- an agent is written, and its arguments are left
pub puts-agent : (es : List (ℕ × Tree)) (done : List Word) (s arity : ℕ) (ts left : List Tree) → length ts ≡ arity
    → PutsOn (state es done (agent s (trees_of ts) ∷ left)) (state es (done ++ Agent s arity ∷ []) (ts ++ left))
puts-agent es done s arity ts left count bs rest d =
    let us = map (put_each bs) ts in
    let n : length (list_of (trees_of us)) ≡ arity = ap length (list_of-trees_of us) ∙ length-map ts (put_each bs) ∙ count in
    let word : tree_words (agent s (trees_of us)) ≡ Agent s arity ∷ flat_map tree_words us = λ i. Agent s (n i) ∷ trees_words-trees_of us i in
    let all : words_put bs (agent s (trees_of ts) ∷ left) ≡ Agent s arity ∷ words_put bs (ts ++ left) =
    ap (λ t. tree_words t ++ words_put bs left) (put_each-agent bs s ts) ∙ ap (λ l. l ++ words_put bs left) word
    ∙ ap (λ l. Agent s arity ∷ l) (sym (words_put-append bs ts left)) in
    let P : List ℕ → Type 0 = λ ns. IsDelayed bs es ns in
    let spread : flat_map names (agent s (trees_of ts) ∷ left) ++ rest ≡ flat_map names (ts ++ left) ++ rest =
    ap (λ l. (l ++ flat_map names left) ++ rest) (names_of-trees_of ts) ∙ ap (λ l. l ++ rest) (sym (flat_map-append names ts left)) in (
      append_assoc done (Agent s arity ∷ []) (words_put bs (ts ++ left)) ∙ ap (λ l. done ++ l) (sym all),
      transport P spread d,
    )

-- ---- each takes one off what is left to do

pub effort-name : (es : List (ℕ × Tree)) (done done' : List Word) (x : ℕ) (left : List Tree) → effort (state es done' left) + 1 ≡ effort (state es done (name x ∷ left))
effort-name es done done' x left = omega (arith, sum_by-cons nodes (name x) left)

pub effort-bound : (es es' : List (ℕ × Tree)) (done : List Word) (x : ℕ) (u : Tree) (left : List Tree) → IsTaken es es' x u
    → effort (state es' done (u ∷ left)) + 1 ≡ effort (state es done (name x ∷ left))
effort-bound es es' done x u left taken = omega (arith, sum_by-cons nodes (name x) left, sum_by-cons nodes u left, taken.nodes)

pub effort-agent : (es : List (ℕ × Tree)) (done done' : List Word) (s : ℕ) (ts left : List Tree)
    → effort (state es done' (ts ++ left)) + 1 ≡ effort (state es done (agent s (trees_of ts) ∷ left))
effort-agent es done done' s ts left = omega (arith, sum_by-cons nodes (agent s (trees_of ts)) left, nodes_of-trees_of ts, sum_by-append nodes ts left)
