-- Terms and equations that stand at places among words.
use Rattle.std.proofs.Common.{◌≡◌, ℕ, ◌+◌, ◌-◌, ◌*◌, ◌<◌, ◌≤◌, ◌==◌, List, [], ◌∷◌, ◌++◌, Bool, ◌&&◌, ◌||◌, length, take, drop, get_or, sum_by, not, None, nat_le, refl, sym, ap, ◌∙◌, subst, arith, append-nil, append_assoc}
use Rattle.std.specs.List.{flat_map, list_any}
use Rattle.std.proofs.lemmas.List.{drop_more, length-drop, length-append, length-take-le, take_at, drop_at}
use Rattle.std.proofs.lemmas.List.Concat.{flat_map-append}
use Rattle.std.proofs.lemmas.List.Sums.{sum_by-cons, sum_by-append}
use Rattle.ic_term.specs.Tree.{Tree, name, agent, trees_of, Pair, nodes, names, pair_nodes}
use Rattle.ic_term.specs.Configuration.{Configuration, IsConfiguration, configuration_nodes}
use Rattle.std.specs.Option.{option_map_or}
use Rattle.ic_term.specs.Configuration.{occurrences}
use Rattle.ic_rules.specs.Rule.{Rule}
use Rattle.ic_settle.specs.Settling.{occurs}
use Rattle.ic_settle.specs.lemmas.Ended.{is_applicable}
use Rattle.ic_round.specs.Firing.{arguments, oriented, rule_of_sides, products_by}
use Rattle.ic_round.specs.lemmas.Sizes.{fired_nodes}
use Rattle.ic_flat.specs.declared.word.Word.{Word}
use Rattle.ic_flat.specs.declared.word.Word.TheVariants.{Name, Agent}
use Rattle.ic_flat.specs.Words.{arguments as word_arguments, with_word, forest, IsWhole, tree_words, word_names, word_eq}
use Rattle.ic_flat.specs.Flat.{pairs_of, sides, configuration_words, IsAfterTerms}
use Rattle.ic_flat.specs.lemmas.WordLaws.{whole-drop, whole-words, words-forest, nodes-forest, forest-le, forest-words}
use Rattle.ic_flat.specs.lemmas.WordTests.{names-forest}
use Rattle.ic_flat.specs.lemmas.FlatLaws.{after-words, pairs_of-sides, length-sides, forest-configuration_words, counted-configuration_words, nodes-words}
use Rattle.ic_flat_rules.specs.declared.places.Sides.{Sides}
use Rattle.ic_term.specs.lemmas.TreeLaws.{list_of-trees_of}
use Rattle.ic_flat_rules.specs.RuleWords.{pairs_words}
use Rattle.ic_flat_rules.specs.Standing.{first_of, tree_at, pair_at, pairs_at, AreInTwos, IsTermAt, AreSides}

-- ---- terms

-- where there is a word, there is a term
pub some_terms : (ws : List Word) → 0 < length ws → 1 ≤ length (forest ws)
some_terms [] some = absurd (omega (arith, some))
some_terms (Name n ∷ ws) some = omega arith
some_terms (Agent s a ∷ ws) some = omega arith

pub first-rest : (ts : List Tree) → 1 ≤ length ts → ts ≡ first_of ts ∷ drop 1 ts
first-rest [] some = absurd (omega (arith, some))
first-rest (t ∷ ts) some = refl

-- the term that begins at a place, by the place after it
pub term_at : (ws : List Word) (place end : ℕ) → place < length ws → place < end → end ≤ length ws
    → forest (drop end ws) ≡ drop 1 (forest (drop place ws)) → IsTermAt ws place end
term_at ws place end there before within rest =
    let some : 0 < length (drop place ws) = omega (arith, length-drop place ws, there) in
    record {
      before = before;
      within = within;
      terms = first-rest (forest (drop place ws)) (some_terms (drop place ws) some) ∙ ap (λ l. tree_at ws place ∷ l) (sym rest);
    }

-- so many terms have as many nodes as words
pub nodes_at : (ws : List Word) (place end : ℕ) → IsTermAt ws place end → nodes (tree_at ws place) + place ≡ end
nodes_at ws place end is =
    let before = is.before in
    let within = is.within in
    omega (
      arith,
      before,
      within,
      nodes-forest (drop place ws),
      nodes-forest (drop end ws),
      ap (sum_by nodes) is.terms,
      sum_by-cons nodes (tree_at ws place) (forest (drop end ws)),
      length-drop place ws,
      length-drop end ws,
    )

-- the words from a place are those of its term, and then those after it
pub words_at : (ws : List Word) (place end : ℕ) → IsWhole ws → IsTermAt ws place end → drop place ws ≡ tree_words (tree_at ws place) ++ drop end ws
words_at ws place end whole is =
    sym (words-forest (drop place ws) (whole-drop place ws whole))
    ∙ ap (flat_map tree_words) is.terms
    ∙ ap (λ l. tree_words (tree_at ws place) ++ l) (words-forest (drop end ws) (whole-drop end ws whole))

-- as many as its nodes
pub slice_at : (ws : List Word) (place end : ℕ) → IsWhole ws → IsTermAt ws place end → take (end - place) (drop place ws) ≡ tree_words (tree_at ws place)
slice_at ws place end whole is =
    let all = words_at ws place end whole is in
    let before = is.before in
    let within = is.within in
    let count : length (tree_words (tree_at ws place)) ≡ end - place =
    omega (arith, before, within, ap length all, length-append (tree_words (tree_at ws place)) (drop end ws), length-drop place ws, length-drop end ws) in
    ap (take (end - place)) all ∙ take_at (tree_words (tree_at ws place)) (drop end ws) (end - place) count

-- ---- names

names-tree_words : (t : Tree) → flat_map word_names (tree_words t) ≡ names t
names-tree_words t =
    ap (flat_map word_names) (sym (append-nil (tree_words t)))
    ∙ sym (names-forest (flat_map tree_words (t ∷ [])))
    ∙ ap (flat_map names) (forest-words (t ∷ []))
    ∙ append-nil (names t)

-- a name is among words where it is among their names
contains-names : (n : ℕ) (ws : List Word) → list_any (λ w. word_eq w (Name n)) ws ≡ occurs n (flat_map word_names ws)
contains-names n [] = refl
contains-names n (Name m ∷ ws) = ap (λ b. m == n || b) (contains-names n ws)
contains-names n (Agent s a ∷ ws) = contains-names n ws

pub contains_at : (ws : List Word) (place end n : ℕ) → IsWhole ws → IsTermAt ws place end
    → list_any (λ w. word_eq w (Name n)) (take (end - place) (drop place ws)) ≡ occurs n (names (tree_at ws place))
contains_at ws place end n whole is =
    contains-names n (take (end - place) (drop place ws))
    ∙ ap (λ l. occurs n (flat_map word_names l)) (slice_at ws place end whole is)
    ∙ ap (occurs n) (names-tree_words (tree_at ws place))

-- ---- the word at a place

pub name_at : (ws : List Word) (place : ℕ) (d : Word) (n : ℕ) → place < length ws → get_or ws place d ≡ Name n → tree_at ws place ≡ name n
name_at ws place d n there is =
    ap (λ l. first_of (forest l)) (drop_more ws place d there) ∙ ap (λ w. first_of (with_word w (forest (drop (place + 1) ws)))) is

pub agent_at : (ws : List Word) (place : ℕ) (d : Word) (s a : ℕ) → place < length ws → get_or ws place d ≡ Agent s a
    → tree_at ws place ≡ agent s (trees_of (take a (forest (drop (place + 1) ws))))
agent_at ws place d s a there is =
    ap (λ l. first_of (forest l)) (drop_more ws place d there) ∙ ap (λ w. first_of (with_word w (forest (drop (place + 1) ws)))) is

-- whether a side is applicable, by its word and the words of the other one
pub applicable_where : (all : List ℕ) (ws : List Word) (side other end n : ℕ) (d : Word) (found twice : Bool) → IsWhole ws → side < length ws → get_or ws side d ≡ Name n
    → IsTermAt ws other end → found ≡ list_any (λ w. word_eq w (Name n)) (take (end - other) (drop other ws)) → twice ≡ nat_le 2 (occurrences n all)
    → (not found && twice) ≡ is_applicable all (tree_at ws side) (tree_at ws other)
applicable_where all ws side other end n d found twice whole there is stands found_is twice_is =
    (λ i. not (found_is i) && twice_is i)
    ∙ ap (λ b. not b && nat_le 2 (occurrences n all)) (contains_at ws other end n whole stands)
    ∙ ap (λ t. is_applicable all t (tree_at ws other)) (sym (name_at ws side d n there is))

-- ---- equations

-- after the first of an even number of terms there is one more
pub right_there : (ws : List Word) (place right : ℕ) → place < length ws → AreInTwos ws place
    → forest (drop right ws) ≡ drop 1 (forest (drop place ws)) → right < length ws
right_there ws place right there twos rest =
    let some : 1 ≤ length (forest (drop place ws)) = some_terms (drop place ws) (omega (arith, length-drop place ws, there)) in
    omega (arith, twos.1, some, ap length rest, length-drop 1 (forest (drop place ws)), forest-le (drop right ws), length-drop right ws)

pub sides_found : (ws : List Word) (s : Sides) → s.left < length ws → AreInTwos ws s.left
    → s.left < s.right → s.right ≤ length ws → forest (drop s.right ws) ≡ drop 1 (forest (drop s.left ws))
    → s.right < s.end → s.end ≤ length ws → forest (drop s.end ws) ≡ drop 1 (forest (drop s.right ws)) → AreSides ws s
sides_found ws s there twos before within rest later inside last = record {
  left = term_at ws s.left s.right there before within rest;
  right = term_at ws s.right s.end (right_there ws s.left s.right there twos rest) later inside last;
}

pub pairs_next : (ws : List Word) (s : Sides) → AreSides ws s → pairs_at ws s.left ≡ pair_at ws s ∷ pairs_at ws s.end
pairs_next ws s is = ap pairs_of (is.left.terms ∙ ap (λ l. tree_at ws s.left ∷ l) is.right.terms)

pub twos_next : (ws : List Word) (s : Sides) → AreSides ws s → AreInTwos ws s.left → AreInTwos ws s.end
twos_next ws s is twos =
    let half : length (forest (drop s.end ws)) ≡ 2 * (twos.0 - 1) = omega (arith, twos.1, ap length is.left.terms, ap length is.right.terms) in
    (twos.0 - 1, half)

pub pair_nodes_at : (ws : List Word) (s : Sides) → AreSides ws s → pair_nodes (pair_at ws s) ≡ s.end - s.left
pair_nodes_at ws s is =
    let a = is.left.before in
    let b = is.right.before in
    omega (arith, a, b, nodes_at ws s.left s.right is.left, nodes_at ws s.right s.end is.right)

-- no equation is left at the end
pub pairs_end : (ws : List Word) (place : ℕ) → length ws ≤ place → pairs_at ws place ≡ []
pairs_end ws place at_end = ap (λ l. pairs_of (forest l)) (none (drop place ws) (omega (arith, at_end, length-drop place ws)))
  where
    none : (vs : List Word) → length vs ≡ 0 → vs ≡ []
    none [] e = refl
    none (v ∷ vs) e = absurd (omega (arith, e))

-- ---- the words of a configuration

pub whole_words : (c : Configuration) (ws : List Word) → ws ≡ configuration_words c → IsWhole ws
whole_words c ws is = subst (λ l. IsWhole l) (sym is) (whole-words (c.interface ++ sides c.equations))

pub interface_there : (c : Configuration) (ws : List Word) (count : ℕ) → ws ≡ configuration_words c → count ≡ length c.interface → count ≤ length (forest ws)
interface_there c ws count is counted = omega (arith, counted, ap (λ l. length (forest l)) is, counted-configuration_words c)

pub equations_few : (c : Configuration) → IsConfiguration c → length c.equations ≤ 8192
equations_few c sound =
    let few : configuration_nodes c ≤ 8192 = sound.nodes in
    omega (arith, few, nodes-words c, counted-configuration_words c, forest-le (configuration_words c))

-- after the interface stand the equations
pub equations_after : (c : Configuration) (ws : List Word) (count place : ℕ) → ws ≡ configuration_words c → count ≡ length c.interface
    → forest (drop place ws) ≡ drop count (forest ws) → forest (drop place (configuration_words c)) ≡ sides c.equations
equations_after c ws count place is counted rest =
    ap (λ l. forest (drop place l)) (sym is) ∙ rest ∙ (λ i. drop (counted i) (forest (is i)))
    ∙ ap (drop (length c.interface)) (forest-configuration_words c) ∙ drop_at c.interface (sides c.equations) (length c.interface) refl

-- and before them as many words as the interface has nodes
pub interface_nodes : (c : Configuration) (place : ℕ) → place ≤ length (configuration_words c) → forest (drop place (configuration_words c)) ≡ sides c.equations
    → place ≡ sum_by nodes c.interface
interface_nodes c place within after =
    omega (
      arith,
      within,
      ap (sum_by nodes) after,
      nodes-forest (drop place (configuration_words c)),
      length-drop place (configuration_words c),
      nodes-forest (configuration_words c),
      ap (sum_by nodes) (forest-configuration_words c),
      sum_by-append nodes c.interface (sides c.equations),
    )

-- after as many words as the interface has nodes
pub after_interface : (c : Configuration) (ws : List Word) (terms place : ℕ) → ws ≡ configuration_words c → terms ≡ length c.interface → place ≡ sum_by nodes c.interface
    → IsAfterTerms ws terms place
after_interface c ws terms place is count before =
    let front = flat_map tree_words c.interface in
    let long : sum_by nodes c.interface ≡ length front = ap (sum_by nodes) (sym (forest-words c.interface)) ∙ nodes-forest front in
    after-words c.interface (sides c.equations) ws terms place (is ∙ flat_map-append tree_words c.interface (sides c.equations)) count (before ∙ long)

-- where the equations begin, all of them are left
pub pairs_start : (c : Configuration) (ws : List Word) (place : ℕ) → ws ≡ configuration_words c → forest (drop place (configuration_words c)) ≡ sides c.equations
    → pairs_at ws place ≡ c.equations
pairs_start c ws place is after = ap (λ l. pairs_of (forest (drop place l))) is ∙ ap pairs_of after ∙ pairs_of-sides c.equations

pub twos_start : (c : Configuration) (ws : List Word) (place : ℕ) → ws ≡ configuration_words c → forest (drop place (configuration_words c)) ≡ sides c.equations
    → AreInTwos ws place
twos_start c ws place is after = (length c.equations, ap (λ l. length (forest (drop place l))) is ∙ ap length after ∙ length-sides c.equations)

pub within_start : (c : Configuration) (ws : List Word) (place : ℕ) → ws ≡ configuration_words c → place ≤ length (configuration_words c) → place ≤ length ws
within_start c ws place is within = omega (arith, within, ap length is)

-- ---- what an equation that isn't active has when it has fired

pub inert_nodes : (rs : List Rule) (p : Pair) → rule_of_sides rs p.left p.right ≡ None → fired_nodes rs p ≡ pair_nodes p
inert_nodes rs p none =
    ap (λ o. sum_by pair_nodes (option_map_or (products_by rs 0) (oriented p.left p.right o) (p ∷ []))) none
    ∙ omega (arith, sum_by-cons pair_nodes p [])

-- ---- the arguments of an agent at a place

pub arguments_at : (ws : List Word) (place : ℕ) (d : Word) → place < length ws
    → arguments (tree_at ws place) ≡ take (word_arguments (get_or ws place d)) (forest (drop (place + 1) ws))
arguments_at ws place d there = ap (λ l. arguments (first_of (forest l))) (drop_more ws place d there) ∙ of_word (get_or ws place d) (forest (drop (place + 1) ws))
  where
    of_word : (w : Word) (ts : List Tree) → arguments (first_of (with_word w ts)) ≡ take (word_arguments w) ts
    of_word (Name n) ts = refl
    of_word (Agent s a) ts = list_of-trees_of (take a ts)

pub arguments_there : (ws : List Word) (place : ℕ) (d : Word) → IsWhole ws → place < length ws
    → word_arguments (get_or ws place d) ≤ length (forest (drop (place + 1) ws))
arguments_there ws place d whole there = (subst (λ l. IsWhole l) (drop_more ws place d there) (whole-drop place ws whole)).0

pub arguments_count : (ws : List Word) (place : ℕ) (d : Word) → IsWhole ws → place < length ws
    → length (arguments (tree_at ws place)) ≡ word_arguments (get_or ws place d)
arguments_count ws place d whole there =
    ap length (arguments_at ws place d there) ∙ length-take-le (word_arguments (get_or ws place d)) (forest (drop (place + 1) ws)) (arguments_there ws place d whole there)

-- the words of an equation
pub pair_slice : (ws : List Word) (s : Sides) → IsWhole ws → AreSides ws s → take (s.end - s.left) (drop s.left ws) ≡ pairs_words (pair_at ws s ∷ [])
pair_slice ws s whole is =
    let t = tree_at ws s.left in
    let u = tree_at ws s.right in
    let first = words_at ws s.left s.right whole is.left in
    let second = words_at ws s.right s.end whole is.right in
    let all : drop s.left ws ≡ (tree_words t ++ tree_words u) ++ drop s.end ws =
    first ∙ ap (λ l. tree_words t ++ l) second ∙ sym (append_assoc (tree_words t) (tree_words u) (drop s.end ws)) in
    let a = is.left.before in
    let b = is.right.before in
    let inside = is.right.within in
    let count : length (tree_words t ++ tree_words u) ≡ s.end - s.left =
    omega (arith, a, b, inside, ap length all, length-append (tree_words t ++ tree_words u) (drop s.end ws), length-drop s.left ws, length-drop s.end ws) in
    ap (take (s.end - s.left)) all ∙ take_at (tree_words t ++ tree_words u) (drop s.end ws) (s.end - s.left) count
    ∙ ap (λ l. tree_words t ++ l) (sym (append-nil (tree_words u)))
