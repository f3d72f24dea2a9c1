-- Configurations as bytes, by their words: which bytes begin with, and when they begin with none.
use Rattle.std.proofs.Common.{◌≡◌, ◌≢◌, ℕ, ◌+◌, ◌*◌, ◌^◌, ◌<◌, ◌≤◌, ◌↔◌, Bool, true, false, List, [], ◌∷◌, ◌++◌, length, cond, Option, Some, None, Ok, Err, refl, sym, ap, subst, ◌∙◌, append_assoc, append-nil, arith}
use Rattle.std.specs.List.{flat_map, list_all, AllByRecursion}
use Rattle.std.proofs.lemmas.Bool.{and_parts}
use Rattle.std.proofs.lemmas.List.{length-append}
use Rattle.std.proofs.lemmas.List.Concat.{flat_map-append}
use Rattle.ic_term.specs.Tree.{Tree, name, agent, Trees, no_trees, more_trees, Pair}
use Rattle.ic_term.specs.Symbol.{Symbol, is_over}
use Rattle.ic_term.specs.Configuration.{Configuration, IsConfiguration, restored, is_within, unless_third, third_occurrence, configuration_names}
use Rattle.ic_term.specs.declared.config.ConfigFault.TheVariants.{Limit}
use Rattle.ic_flat.specs.declared.word.Word.{Word}
use Rattle.ic_flat.specs.declared.word.Word.TheVariants.{Name}
use Rattle.ic_flat.specs.Words.{forest, tree_words, trees_words, word_names, is_word_over}
use Rattle.ic_flat.specs.Flat.{sides, configuration_of, configuration_words}
use Rattle.ic_flat.specs.lemmas.WordLaws.{whole-words}
use Rattle.ic_flat.specs.lemmas.FlatLaws.{all_terms, length-interface, length-equations, over-configuration_of, words-configuration_of, counted-configuration_words, configuration_of-words, names-words, nodes-words, over-words}
use Rattle.ic_codec.specs.Numbers.{two_bytes}
use Rattle.ic_codec.specs.Terms.{tree_bytes, trees_bytes, pair_bytes}
use Rattle.ic_codec.specs.Configurations.{configuration_bytes}
use Rattle.ic_codec.specs.inner.Fronts.{BeginsWith, BeginsWithNone, IsConfigurationOver}
use Rattle.ic_codec.specs.inner.WordFronts.{word_bytes, HasWordBytes, BeginsWithWords, BeginsWithNoWords}
use Rattle.ic_codec.proofs.NumberLemmas.{length-two_bytes}
use Rattle.ic_codec.proofs.Unique.{AreSmall, two_front, all_left, all_right, below_small, equations_few}
use Rattle.ic_codec.proofs.WordReading.{whole_front}

-- ---- the bytes of terms are those of their words

mutual
  bytes-tree : (t : Tree) → flat_map word_bytes (tree_words t) ≡ tree_bytes t
  bytes-tree (name n) = append-nil (word_bytes (Name n))
  bytes-tree (agent s ts) = ap (λ (bs : List ℕ). s ∷ bs) (bytes-trees ts)

  bytes-trees : (ts : Trees) → flat_map word_bytes (trees_words ts) ≡ trees_bytes ts
  bytes-trees no_trees = refl
  bytes-trees (more_trees t ts) = flat_map-append word_bytes (tree_words t) (trees_words ts) ∙ (λ i. bytes-tree t i ++ bytes-trees ts i)

bytes-list : (ts : List Tree) → flat_map word_bytes (flat_map tree_words ts) ≡ flat_map tree_bytes ts
bytes-list [] = refl
bytes-list (t ∷ ts) = flat_map-append word_bytes (tree_words t) (flat_map tree_words ts) ∙ (λ i. bytes-tree t i ++ bytes-list ts i)

bytes-sides : (es : List Pair) → flat_map tree_bytes (sides es) ≡ flat_map pair_bytes es
bytes-sides [] = refl
bytes-sides (e ∷ es) =
    ap (λ (bs : List ℕ). tree_bytes e.left ++ (tree_bytes e.right ++ bs)) (bytes-sides es) ∙ sym (append_assoc (tree_bytes e.left) (tree_bytes e.right) (flat_map pair_bytes es))

pub configuration-by_words : (c : Configuration)
    → configuration_bytes c ≡ length c.interface ∷ (two_bytes (length c.equations) ++ flat_map word_bytes (configuration_words c))
configuration-by_words c =
    let terms : flat_map word_bytes (configuration_words c) ≡ flat_map tree_bytes c.interface ++ flat_map pair_bytes c.equations =
    bytes-list (all_terms c) ∙ flat_map-append tree_bytes c.interface (sides c.equations) ∙ ap (λ (bs : List ℕ). flat_map tree_bytes c.interface ++ bs) (bytes-sides c.equations) in
    ap (λ (bs : List ℕ). length c.interface ∷ (two_bytes (length c.equations) ++ bs)) (sym terms)

-- ---- words that have bytes

words_have : (ss : List Symbol) (ws : List Word) → list_all (is_word_over ss) ws ≡ true → AreSmall (flat_map word_names ws) → AllByRecursion (HasWordBytes ss) ws
words_have ss [] over small = tt
words_have ss (w ∷ ws) over small =
    let parts = and_parts (is_word_over ss w) (list_all (is_word_over ss) ws) over in
    (record { over = parts.0; names = all_left _ (word_names w) (flat_map word_names ws) small }, words_have ss ws parts.1 (all_right _ (word_names w) (flat_map word_names ws) small))

words_over : (ss : List Symbol) (ws : List Word) → AllByRecursion (HasWordBytes ss) ws → list_all (is_word_over ss) ws ≡ true
words_over ss [] all = refl
words_over ss (w ∷ ws) all = rw (all.0.over, words_over ss ws all.1) refl

-- those of a configuration have
configuration_has : (ss : List Symbol) (next : ℕ) (c : Configuration) → IsConfigurationOver ss next c → AllByRecursion (HasWordBytes ss) (configuration_words c)
configuration_has ss next c is =
    words_have ss (configuration_words c) (over-words ss c ∙ is.over)
    (subst (λ (ns : List ℕ). AreSmall ns) (sym (names-words c)) (below_small c.next (configuration_names c) is.config.next is.config.below))

-- ---- configurations

-- Of a configuration that bytes begin with, the interface has so many terms, the equations are so many, and these bytes are after their numbers.
record SameCounts (i m : ℕ) (c : List ℕ) (n : Configuration) (rest : List ℕ) : Type 0 where
  terms : i ≡ length n.interface
  pairs : m ≡ length n.equations
  after : c ≡ flat_map word_bytes (configuration_words n) ++ rest

spread : (n : Configuration) (i : ℕ) (bytes b rest : List ℕ) → bytes ≡ i ∷ b → bytes ≡ configuration_bytes n ++ rest
    → i ∷ b ≡ length n.interface ∷ (two_bytes (length n.equations) ++ (flat_map word_bytes (configuration_words n) ++ rest))
spread n i bytes b rest read e =
    let after = flat_map word_bytes (configuration_words n) in
    sym read ∙ e ∙ ap (λ (bs : List ℕ). bs ++ rest) (configuration-by_words n)
    ∙ ap (λ (bs : List ℕ). length n.interface ∷ bs) (append_assoc (two_bytes (length n.equations)) after rest)

pub none_pairs_count : (ss : List Symbol) (next i : ℕ) (bytes b : List ℕ) → bytes ≡ i ∷ b → length b < 2 → BeginsWithNone (IsConfigurationOver ss next) configuration_bytes bytes
none_pairs_count ss next i bytes b read short n rest is e =
    let same = spread n i bytes b rest read e in
    let after = flat_map word_bytes (configuration_words n) ++ rest in
    let tails : b ≡ two_bytes (length n.equations) ++ after = cc (same) in
    omega (arith, ap length tails, length-append (two_bytes (length n.equations)) after, length-two_bytes (length n.equations))

same_counts : (ss : List Symbol) (next i m : ℕ) (bytes b c : List ℕ) (n : Configuration) (rest : List ℕ) → m < 2 ^ 16 → IsConfigurationOver ss next n
    → bytes ≡ i ∷ b → b ≡ two_bytes m ++ c → bytes ≡ configuration_bytes n ++ rest → SameCounts i m c n rest
same_counts ss next i m bytes b c n rest small is read further e =
    let after = flat_map word_bytes (configuration_words n) ++ rest in
    let same = spread n i bytes b rest read e in
    let tails : b ≡ two_bytes (length n.equations) ++ after = cc (same) in
    let counts = two_front m (length n.equations) c after small (equations_few n is.config) (sym further ∙ tails) in
    record { terms = cc (same); pairs = counts.0; after = counts.1 }

all_due : (i m : ℕ) (n : Configuration) → i ≡ length n.interface → m ≡ length n.equations → length (forest (configuration_words n)) ≡ i + 2 * m
all_due i m n terms pairs = omega (arith, counted-configuration_words n, terms, pairs)

pub none_words : (ss : List Symbol) (next i m : ℕ) (bytes b c : List ℕ) → m < 2 ^ 16 → bytes ≡ i ∷ b → b ≡ two_bytes m ++ c → BeginsWithNoWords ss (i + 2 * m) 8192 c
    → BeginsWithNone (IsConfigurationOver ss next) configuration_bytes bytes
none_words ss next i m bytes b c small read further none n rest is e =
    let same = same_counts ss next i m bytes b c n rest small is read further e in
    none (configuration_words n) rest (configuration_has ss next n is) (whole-words (all_terms n)) (all_due i m n same.terms same.pairs)
    (omega (arith, nodes-words n, is.config.nodes)) same.after

pub none_restored : ((n : Configuration) → (restored n ≡ Ok n) ↔ IsConfiguration n) → (ss : List Symbol) (next i m : ℕ) (bytes b c : List ℕ) (ws : List Word) (after : List ℕ)
    → length ss ≤ 64 → m < 2 ^ 16 → bytes ≡ i ∷ b → b ≡ two_bytes m ++ c → BeginsWithWords ss (i + 2 * m) c ws after
    → ((n : Configuration) → restored (configuration_of ws i next) ≢ Ok n) → BeginsWithNone (IsConfigurationOver ss next) configuration_bytes bytes
none_restored takes ss next i m bytes b c ws after few small read further begins not n rest is e =
    let same = same_counts ss next i m bytes b c n rest small is read further e in
    let words = whole_front ss few ws (configuration_words n) after rest begins.has_bytes (configuration_has ss next n is) begins.whole (whole-words (all_terms n))
    (begins.many ∙ sym (all_due i m n same.terms same.pairs)) (sym begins.parts ∙ same.after) in
    let terms = same.terms in
    let nexts = sym is.same_next in
    not n (ap restored ((λ j. configuration_of (words j) (terms j) (nexts j)) ∙ configuration_of-words n) ∙ (takes n).1 is.config)

-- what is restored is what was given
same_restored : (c d : Configuration) (within : Bool) (third : Option ℕ) → cond within (unless_third c third) (Err Limit) ≡ Ok d → c ≡ d
same_restored c d true None e = cc (e)
same_restored c d true (Some n) e = absurd (cc (e))
same_restored c d false third e = absurd (cc (e))

pub flat_begins : ((n : Configuration) → (restored n ≡ Ok n) ↔ IsConfiguration n) → (ss : List Symbol) (next i m : ℕ) (bytes b c : List ℕ) (ws : List Word) (rest : List ℕ) (n : Configuration)
    → bytes ≡ i ∷ b → b ≡ two_bytes m ++ c → BeginsWithWords ss (i + 2 * m) c ws rest → Ok n ≡ restored (configuration_of ws i next)
    → BeginsWith (IsConfigurationOver ss next) configuration_bytes bytes n rest
flat_begins takes ss next i m bytes b c ws rest n read further begins ok =
    let given = configuration_of ws i next in
    let same : given ≡ n = same_restored given n (is_within given) (third_occurrence (configuration_names given)) (sym ok) in
    let is : IsConfiguration given = (takes given).0 (sym ok ∙ ap (λ (x : Configuration). Ok x) (sym same)) in
    let over : is_over ss given ≡ true = over-configuration_of ws i m next begins.many ss begins.whole ∙ words_over ss ws begins.has_bytes in
    let terms : i ≡ length given.interface = sym (length-interface ws i m next begins.many) in
    let pairs : m ≡ length given.equations = sym (length-equations ws i m next begins.many) in
    let words : ws ≡ configuration_words given = sym (words-configuration_of ws i m next begins.many begins.whole) in
    record {
      parts = read ∙ ap (λ (bs : List ℕ). i ∷ bs) (further ∙ ap (λ (bs : List ℕ). two_bytes m ++ bs) begins.parts ∙ sym (append_assoc (two_bytes m) (flat_map word_bytes ws) rest))
          ∙ (λ j. terms j ∷ ((two_bytes (pairs j) ++ flat_map word_bytes (words j)) ++ rest))
          ∙ ap (λ (bs : List ℕ). bs ++ rest) (sym (configuration-by_words given)) ∙ ap (λ (x : Configuration). configuration_bytes x ++ rest) same;
      valid = subst (λ (x : Configuration). IsConfigurationOver ss next x) same (record { config = is; over = over; same_next = refl });
    }
