-- A configuration whose names are turned into those that it is told by: its words, its names and its limits.
use Rattle.std.proofs.Common.{◌≡◌, ℕ, ◌+◌, ◌*◌, ◌<◌, ◌≤◌, List, [], ◌∷◌, length, map, take, drop, sym, ap, ◌∙◌, subst, arith}
use Rattle.std.specs.List.{flat_map, list_all, AllByRecursion}
use Rattle.std.proofs.lemmas.List.{length-map}
use Rattle.ic_term.specs.Symbol.{Symbol, is_over}
use Rattle.ic_term.specs.Configuration.{Configuration, IsConfiguration, configuration_names, configuration_nodes, occurrences}
use Rattle.ic_rules.specs.Renaming.{renamed}
use Rattle.ic_flat.specs.declared.word.Word.{Word}
use Rattle.ic_flat.specs.declared.word.Word.TheVariants.{Name, Agent}
use Rattle.ic_flat.specs.Words.{forest, is_word_over, word_names}
use Rattle.ic_flat.specs.Flat.{pairs_of, configuration_of, configuration_words, IsFlat}
use Rattle.ic_flat.specs.lemmas.FlatLaws.{IsFlat-configuration_words, configuration_of-words, names-configuration_of, names-words, nodes-words, over-words}
use Rattle.ic_text.specs.declared.limits.TheConstants.{MAX_NAME}
use Rattle.ic_naming.specs.Naming.{renamed_pair, renamed_word, renumbered, renumbered_words, told_name}
use Rattle.ic_naming.specs.lemmas.Occurring.{no_more}
use Rattle.ic_naming.specs.lemmas.RenamedWords.{equations-renamed, interface-renamed, terms_words-renamed, word_names-renamed, word_over-renamed}
use Rattle.ic_naming.specs.lemmas.ToldNames.{all_low, named, told_undone}

-- what renumbered words write
pub renumbered-written : (ws : List Word) (terms equations next : ℕ) → length (forest ws) ≡ terms + 2 * equations
    → configuration_of (renumbered_words ws) terms (MAX_NAME + 1) ≡ renumbered (configuration_of ws terms next)
renumbered-written ws terms equations next counted =
    let names : configuration_names (configuration_of ws terms next) ≡ flat_map word_names ws = names-configuration_of ws terms equations next counted in
    let f : ℕ → ℕ = told_name (flat_map word_names ws) in
    (λ i. record {
      interface = interface-renamed f ws terms next i;
      equations = equations-renamed f ws terms next i;
      next = MAX_NAME + 1;
    })
    ∙ (λ i. record {
      interface = map (renamed (told_name (sym names i))) (take terms (forest ws));
      equations = map (renamed_pair (told_name (sym names i))) (pairs_of (drop terms (forest ws)));
      next = MAX_NAME + 1;
    })

-- the words of a renumbered configuration are its words with their names turned
words_turned : (c : Configuration) → configuration_words (renumbered c) ≡ map (renamed_word (told_name (configuration_names c))) (configuration_words c)
words_turned c = terms_words-renamed (told_name (configuration_names c)) c.interface c.equations

pub renumbered-words : (c : Configuration) → configuration_words (renumbered c) ≡ renumbered_words (configuration_words c)
renumbered-words c =
    words_turned c ∙ ap (λ (ns : List ℕ). map (renamed_word (told_name ns)) (configuration_words c)) (sym (names-words c))

pub renumbered-names : (c : Configuration) → configuration_names (renumbered c) ≡ map (told_name (configuration_names c)) (configuration_names c)
renumbered-names c =
    let f : ℕ → ℕ = told_name (configuration_names c) in
    sym (names-words (renumbered c))
    ∙ ap (flat_map word_names) (words_turned c)
    ∙ word_names-renamed f (configuration_words c)
    ∙ ap (map f) (names-words c)

renumbered-nodes : (c : Configuration) → configuration_nodes (renumbered c) ≡ configuration_nodes c
renumbered-nodes c =
    sym (nodes-words (renumbered c))
    ∙ ap length (words_turned c)
    ∙ length-map (configuration_words c) (renamed_word (told_name (configuration_names c)))
    ∙ nodes-words c

pub renumbered-over : (ss : List Symbol) (c : Configuration) → is_over ss (renumbered c) ≡ is_over ss c
renumbered-over ss c =
    sym (over-words ss (renumbered c))
    ∙ ap (list_all (is_word_over ss)) (words_turned c)
    ∙ word_over-renamed (told_name (configuration_names c)) ss (configuration_words c)
    ∙ over-words ss c

-- ---- its limits

-- there are no more names than words
names_within : (ws : List Word) → length (flat_map word_names ws) ≤ length ws
names_within [] = omega arith
names_within (Name n ∷ ws) = omega (arith, names_within ws)
names_within (Agent s arity ∷ ws) = omega (arith, names_within ws)

-- its names are told by names of texts
pub few_names : (c : Configuration) → IsConfiguration c → 2 * length (configuration_names c) ≤ MAX_NAME + 1
few_names c is =
    omega (arith, names_within (configuration_words c), ap length (names-words c), nodes-words c, is.nodes)

below : (ns : List ℕ) → AllByRecursion (λ n. n ≤ MAX_NAME) ns → AllByRecursion (λ n. n < MAX_NAME + 1) ns
below [] all = tt
below (n ∷ ns) all = (omega (arith, all.0), below ns all.1)

pub renumbered-is : (c : Configuration) → IsConfiguration c → IsConfiguration (renumbered c)
renumbered-is c is =
    let ns = configuration_names c in
    let f : ℕ → ℕ = told_name ns in
    let same : configuration_names (renumbered c) ≡ map f ns = renumbered-names c in
    let count : configuration_nodes (renumbered c) ≡ configuration_nodes c = renumbered-nodes c in
    record {
      nodes = omega (arith, count, is.nodes);
      interface = omega (arith, length-map c.interface (renamed f), is.interface);
      next = omega arith;
      below = subst (λ l. AllByRecursion (λ n. n < MAX_NAME + 1) l) (sym same) (below (map f ns) (all_low ns (few_names c is)));
      twice = λ n. let more : occurrences n (map f ns) ≤ occurrences (named ns n) ns = no_more f (named ns) n ns (told_undone ns) in
          let two : occurrences (named ns n) ns ≤ 2 = is.twice (named ns n) in
          let moved : occurrences n (configuration_names (renumbered c)) ≡ occurrences n (map f ns) = ap (occurrences n) same in
          omega (arith, more, two, moved);
    }

-- what is made of the words of a configuration is the renumbered one
pub renumbered-flat : (c : Configuration) (ws : List Word) (terms equations next : ℕ)
    → ws ≡ renumbered_words (configuration_words c) → terms ≡ length c.interface → equations ≡ length c.equations → next ≡ MAX_NAME + 1
    → IsConfiguration c → IsFlat ws terms equations next
renumbered-flat c ws terms equations next words interface pairs top is =
    let w : configuration_words (renumbered c) ≡ ws = renumbered-words c ∙ sym words in
    let t : length (renumbered c).interface ≡ terms = length-map c.interface (renamed (told_name (configuration_names c))) ∙ sym interface in
    let e : length (renumbered c).equations ≡ equations = length-map c.equations (renamed_pair (told_name (configuration_names c))) ∙ sym pairs in
    subst (λ (x : List Word). IsFlat x terms equations next) w
    (subst (λ (x : ℕ). IsFlat (configuration_words (renumbered c)) x equations next) t
    (subst (λ (x : ℕ). IsFlat (configuration_words (renumbered c)) (length (renumbered c).interface) x next) e
    (subst (λ (x : ℕ). IsFlat (configuration_words (renumbered c)) (length (renumbered c).interface) (length (renumbered c).equations) x) (sym top)
    (IsFlat-configuration_words (renumbered c) (renumbered-is c is)))))

pub renumbered-config : (c : Configuration) (ws : List Word) (terms next : ℕ)
    → ws ≡ renumbered_words (configuration_words c) → terms ≡ length c.interface → next ≡ MAX_NAME + 1
    → configuration_of ws terms next ≡ renumbered c
renumbered-config c ws terms next words interface top =
    let w : ws ≡ configuration_words (renumbered c) = words ∙ sym (renumbered-words c) in
    let t : terms ≡ length (renumbered c).interface = interface ∙ sym (length-map c.interface (renamed (told_name (configuration_names c)))) in
    (λ i. configuration_of (w i) (t i) (top i)) ∙ configuration_of-words (renumbered c)
