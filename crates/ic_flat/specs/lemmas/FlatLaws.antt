-- Lemmas, which a reader of the contracts doesn't need: configurations against the words that write them.
use Rattle.std.specs.Prelude.{◌≡◌, ℕ, ◌+◌, ◌*◌, ◌==◌, List, [], ◌∷◌, ◌++◌, Bool, true, false, ◌&&◌, length, take, drop, sum_by, refl}
use Rattle.std.specs.List.{flat_map, list_all}
use Rattle.std.specs.Cmp.{unsigned_Decides}
use Rattle.std.specs.Cmp.Lexicographic.{pointwise, pointwise_decides}
use Rattle.std.proofs.lemmas.Bool.{and_parts}
use Rattle.std.proofs.lemmas.Bool.Decides.{same_from_decides}
use Rattle.std.proofs.Common.{sym, ◌∙◌, ap, arith, append_assoc, zero, suc}
use Rattle.std.proofs.lemmas.List.{length-append, length-take-le, length-drop, take-append-drop, take_at, drop_at}
use Rattle.std.proofs.lemmas.List.Concat.{flat_map-append}
use Rattle.std.proofs.lemmas.List.Folds.{list_all-append}
use Rattle.std.proofs.lemmas.List.Sums.{sum_by-cons, sum_by-append}
use Rattle.ic_term.specs.Tree.{Tree, Pair, nodes, names, pair_nodes, pair_names}
use Rattle.ic_term.specs.Symbol.{Symbol, is_tree_over, is_pair_over, is_over}
use Rattle.ic_term.specs.Configuration.{Configuration, IsConfiguration, configuration_nodes, configuration_names, configuration_eq}
use Rattle.ic_term.specs.lemmas.ConfigurationEq.{configuration_eq-Decides}
use Rattle.ic_flat.specs.declared.word.Word.{Word}
use Rattle.ic_flat.specs.Words.{forest, IsWhole, tree_words, word_eq, word_names, is_word_over}
use Rattle.ic_flat.specs.Flat.{pairs_of, sides, configuration_of, configuration_words, IsAfterTerms, IsFlat}
use Rattle.ic_flat.specs.lemmas.WordLaws.{forest-flat_map, forest-words, whole-words, words-forest, nodes-forest}
use Rattle.ic_flat.specs.lemmas.WordTests.{names-forest, over-forest, word_eq-Decides}

-- ---- sides and equations

pub pairs_of-sides : (es : List Pair) → pairs_of (sides es) ≡ es
pairs_of-sides [] = refl
pairs_of-sides (e ∷ es) = ap (λ l. e ∷ l) (pairs_of-sides es)

pub length-sides : (es : List Pair) → length (sides es) ≡ 2 * length es
length-sides [] = refl
length-sides (e ∷ es) = omega (arith, length-sides es)

-- terms two by two, where none is left over
pub sides-pairs_of : (ts : List Tree) (n : ℕ) → length ts ≡ 2 * n → sides (pairs_of ts) ≡ ts
sides-pairs_of [] n even = refl
sides-pairs_of (t ∷ []) n even = absurd (omega arith)
sides-pairs_of (t ∷ u ∷ ts) zero even = absurd (omega arith)
sides-pairs_of (t ∷ u ∷ ts) (suc n) even = let fewer : length ts ≡ 2 * n = omega arith in ap (λ l. t ∷ u ∷ l) (sides-pairs_of ts n fewer)

nodes-sides : (es : List Pair) → sum_by nodes (sides es) ≡ sum_by pair_nodes es
nodes-sides [] = refl
nodes-sides (e ∷ es) =
    omega (arith, sum_by-cons nodes e.left (e.right ∷ sides es), sum_by-cons nodes e.right (sides es), sum_by-cons pair_nodes e es, nodes-sides es)

names-sides : (es : List Pair) → flat_map names (sides es) ≡ flat_map pair_names es
names-sides [] = refl
names-sides (e ∷ es) = ap (λ l. names e.left ++ (names e.right ++ l)) (names-sides es) ∙ sym (append_assoc (names e.left) (names e.right) (flat_map pair_names es))

and_assoc : (a b c : Bool) → (a && (b && c)) ≡ (a && b && c)
and_assoc true b c = refl
and_assoc false b c = refl

over-sides : (ss : List Symbol) (es : List Pair) → list_all (is_tree_over ss) (sides es) ≡ list_all (is_pair_over ss) es
over-sides ss [] = refl
over-sides ss (e ∷ es) =
    ap (λ b. is_tree_over ss e.left && (is_tree_over ss e.right && b)) (over-sides ss es)
    ∙ and_assoc (is_tree_over ss e.left) (is_tree_over ss e.right) (list_all (is_pair_over ss) es)

-- ---- what is said of a configuration, of its terms in the order of the text

-- the terms of a configuration in the order of the text
abbrev pub all_terms : Configuration → List Tree
all_terms c = c.interface ++ sides c.equations

nodes-all_terms : (c : Configuration) → sum_by nodes (all_terms c) ≡ configuration_nodes c
nodes-all_terms c = omega (arith, sum_by-append nodes c.interface (sides c.equations), nodes-sides c.equations)

names-all_terms : (c : Configuration) → flat_map names (all_terms c) ≡ configuration_names c
names-all_terms c = flat_map-append names c.interface (sides c.equations) ∙ ap (λ l. flat_map names c.interface ++ l) (names-sides c.equations)

over-all_terms : (ss : List Symbol) (c : Configuration) → list_all (is_tree_over ss) (all_terms c) ≡ is_over ss c
over-all_terms ss c =
    list_all-append (is_tree_over ss) c.interface (sides c.equations) ∙ ap (λ b. list_all (is_tree_over ss) c.interface && b) (over-sides ss c.equations)

-- ---- the configuration that words write

module _ (ws : List Word) (terms equations next : ℕ) (counted : length (forest ws) ≡ terms + 2 * equations) where
  -- all terms stand in it
  pub all_terms-configuration_of : all_terms (configuration_of ws terms next) ≡ forest ws
  all_terms-configuration_of =
      let rest : length (drop terms (forest ws)) ≡ 2 * equations = omega (arith, length-drop terms (forest ws)) in
      ap (λ l. take terms (forest ws) ++ l) (sides-pairs_of (drop terms (forest ws)) equations rest) ∙ take-append-drop terms (forest ws)

  pub length-interface : length (configuration_of ws terms next).interface ≡ terms
  length-interface = length-take-le terms (forest ws) (omega arith)

  pub length-equations : length (configuration_of ws terms next).equations ≡ equations
  length-equations =
      omega (arith, ap length all_terms-configuration_of, length-append (take terms (forest ws)) (sides (pairs_of (drop terms (forest ws)))), length-sides (pairs_of (drop terms (forest ws))), length-interface)

  pub nodes-configuration_of : configuration_nodes (configuration_of ws terms next) ≡ length ws
  nodes-configuration_of = sym (nodes-all_terms (configuration_of ws terms next)) ∙ ap (sum_by nodes) all_terms-configuration_of ∙ nodes-forest ws

  pub names-configuration_of : configuration_names (configuration_of ws terms next) ≡ flat_map word_names ws
  names-configuration_of = sym (names-all_terms (configuration_of ws terms next)) ∙ ap (flat_map names) all_terms-configuration_of ∙ names-forest ws

  pub over-configuration_of : (ss : List Symbol) → IsWhole ws → is_over ss (configuration_of ws terms next) ≡ list_all (is_word_over ss) ws
  over-configuration_of ss whole =
      sym (over-all_terms ss (configuration_of ws terms next)) ∙ ap (list_all (is_tree_over ss)) all_terms-configuration_of ∙ over-forest ss ws whole

  -- its words are these
  pub words-configuration_of : IsWhole ws → configuration_words (configuration_of ws terms next) ≡ ws
  words-configuration_of whole = ap (flat_map tree_words) all_terms-configuration_of ∙ words-forest ws whole

  -- the place after so many of its terms is that after its interface
  pub interface-configuration_of : (place : ℕ) → IsWhole ws → IsAfterTerms ws terms place
      → IsAfterTerms (configuration_words (configuration_of ws terms next)) (length (configuration_of ws terms next).interface) place
  interface-configuration_of place whole is = rw (words-configuration_of whole, length-interface) is

-- ---- places

-- after the words of terms come those of the terms after them
pub after-words : (ts us : List Tree) (ws : List Word) (terms place : ℕ) → ws ≡ flat_map tree_words ts ++ flat_map tree_words us
    → terms ≡ length ts → place ≡ length (flat_map tree_words ts) → IsAfterTerms ws terms place
after-words ts us ws terms place is count before =
    let written : forest ws ≡ ts ++ us = ap forest is ∙ forest-flat_map ts (flat_map tree_words us) ∙ ap (λ l. ts ++ l) (forest-words us) in
    let left : drop place ws ≡ flat_map tree_words us = ap (drop place) is ∙ drop_at (flat_map tree_words ts) (flat_map tree_words us) place (sym before) in
    record {
      within = omega (arith, before, ap length is, length-append (flat_map tree_words ts) (flat_map tree_words us));
      rest = ap forest left ∙ forest-words us ∙ sym (ap (drop terms) written ∙ drop_at ts us terms (sym count));
    }

-- ---- the words of a configuration

pub forest-configuration_words : (c : Configuration) → forest (configuration_words c) ≡ all_terms c
forest-configuration_words c = forest-words (all_terms c)

pub counted-configuration_words : (c : Configuration) → length (forest (configuration_words c)) ≡ length c.interface + 2 * length c.equations
counted-configuration_words c =
    omega (arith, ap length (forest-configuration_words c), length-append c.interface (sides c.equations), length-sides c.equations)

-- they write it
pub configuration_of-words : (c : Configuration) → configuration_of (configuration_words c) (length c.interface) c.next ≡ c
configuration_of-words c =
    let terms = forest-configuration_words c in
    let interface = ap (take (length c.interface)) terms ∙ take_at c.interface (sides c.equations) (length c.interface) refl in
    let equations = ap pairs_of (ap (drop (length c.interface)) terms ∙ drop_at c.interface (sides c.equations) (length c.interface) refl) ∙ pairs_of-sides c.equations in
    λ i. record { interface = interface i; equations = equations i; next = c.next }

pub IsFlat-configuration_words : (c : Configuration) → IsConfiguration c → IsFlat (configuration_words c) (length c.interface) (length c.equations) c.next
IsFlat-configuration_words c sound = record {
  whole = whole-words (all_terms c);
  counted = counted-configuration_words c;
  sound = rw (configuration_of-words c) sound;
}

-- the names of a configuration are those among its words, in the order of the text
pub names-words : (c : Configuration) → flat_map word_names (configuration_words c) ≡ configuration_names c
names-words c = sym (names-forest (configuration_words c)) ∙ ap (flat_map names) (forest-configuration_words c) ∙ names-all_terms c

-- each word is a node
pub nodes-words : (c : Configuration) → length (configuration_words c) ≡ configuration_nodes c
nodes-words c = sym (nodes-forest (configuration_words c)) ∙ ap (sum_by nodes) (forest-configuration_words c) ∙ nodes-all_terms c

-- a configuration is over symbols where its words are
pub over-words : (ss : List Symbol) (c : Configuration) → list_all (is_word_over ss) (configuration_words c) ≡ is_over ss c
over-words ss c =
    sym (over-configuration_of (configuration_words c) (length c.interface) (length c.equations) c.next (counted-configuration_words c) ss (whole-words (all_terms c)))
    ∙ ap (is_over ss) (configuration_of-words c)

-- ---- equality

-- whether two configurations have the same words, as many terms in their interfaces, and the same `next`
abbrev pub same_words : Configuration → Configuration → Bool
same_words c d =
    c.next == d.next && length c.interface == length d.interface && pointwise word_eq (configuration_words c) (configuration_words d)

same_words-true : (c d : Configuration) → same_words c d ≡ true → c ≡ d
same_words-true c d e =
    let last = and_parts (c.next == d.next && length c.interface == length d.interface) (pointwise word_eq (configuration_words c) (configuration_words d)) e in
    let first = and_parts (c.next == d.next) (length c.interface == length d.interface) last.0 in
    let next = (unsigned_Decides c.next d.next).0 first.0 in
    let terms = (unsigned_Decides (length c.interface) (length d.interface)).0 first.1 in
    let words = (pointwise_decides word_eq-Decides (configuration_words c) (configuration_words d)).0 last.1 in
    sym (configuration_of-words c) ∙ (λ i. configuration_of (words i) (terms i) (next i)) ∙ configuration_of-words d

same_words-refl : (c : Configuration) → same_words c c ≡ true
same_words-refl c =
    rw ((unsigned_Decides c.next c.next).1 refl, (unsigned_Decides (length c.interface) (length c.interface)).1 refl)
    ((pointwise_decides word_eq-Decides (configuration_words c) (configuration_words c)).1 refl)

same_words-is : (c d : Configuration) → same_words c d ≡ configuration_eq c d
same_words-is c d =
    same_from_decides (same_words c d) (configuration_eq c d) (same_words-true c d, λ e. ap (same_words c) (sym e) ∙ same_words-refl c) (configuration_eq-Decides c d)

-- where `next` and the terms of the interface agree, the words tell whether they are the same
pub word_eq-configuration_eq : (c d : Configuration) → c.next ≡ d.next → length c.interface ≡ length d.interface
    → pointwise word_eq (configuration_words c) (configuration_words d) ≡ configuration_eq c d
word_eq-configuration_eq c d next terms =
    let same_next = (unsigned_Decides c.next d.next).1 next in
    let same_terms = (unsigned_Decides (length c.interface) (length d.interface)).1 terms in
    sym (λ i. same_next i && same_terms i && pointwise word_eq (configuration_words c) (configuration_words d)) ∙ same_words-is c d
