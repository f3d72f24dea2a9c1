-- Lemmas: where no equation is left, all orders have one text.
use Rattle.std.proofs.Common.{◌≡◌, ℕ, ◌<◌, List, [], ◌∷◌, ◌++◌, length, map, refl, sym, ap, ◌∙◌, subst as transport}
use Rattle.std.specs.Prelude.{◌↔◌}
use Rattle.std.specs.List.{flat_map, AllByRecursion}
use Rattle.std.proofs.lemmas.List.{length-map}
use Rattle.ic_term.specs.Tree.{Tree, name, agent, Trees, no_trees, more_trees, Pair}
use Rattle.ic_term.specs.Configuration.{Configuration, configuration_names, occurrences}
use Rattle.ic_rules.specs.Rule.{Rule}
use Rattle.ic_rules.specs.Renaming.{renamed, renamed_trees}
use Rattle.ic_flat.specs.declared.word.Word.{Word}
use Rattle.ic_flat.specs.Words.{word_names}
use Rattle.ic_flat.specs.Flat.{configuration_of, configuration_words}
use Rattle.ic_flat.specs.lemmas.FlatLaws.{configuration_of-words, names-words}
use Rattle.ic_text.specs.declared.limits.TheConstants.{MAX_NAME}
use Rattle.ic_naming.specs.Naming.{RenamesUntold, renamed_pair, renamed_word, renumbered, renumbered_words}
use Rattle.ic_naming.specs.lemmas.RenamedWords.{terms_words-renamed}
use Rattle.ic_naming.specs.lemmas.Renumbered.{renumbered-words}
use Rattle.ic_settle.specs.NameSteps.{NameStep, NameSteps, no_step, one_more}
use Rattle.ic_round.specs.Quiet.{IsQuiet}
use Rattle.ic_round.specs.lemmas.NameStepLemmas.{name_step}
use Rattle.ic_confluence.specs.Sameness.{Same, Rearranged, nothing, kept, swapped, one_by_one, renaming, rearranging, through}
use Rattle.ic_reaching.specs.OneNet.{OneNet, SameButNext, raised}

-- ---- no step is left to take

no_parts : {X : Type 0} (before : List X) (x : X) (after : List X) → before ++ x ∷ after ≡ [] → ⊥
no_parts [] x after is = cc
no_parts (b ∷ before) x after is = cc

stays_bare : (c d : Configuration) → c.equations ≡ [] → NameSteps c d → d ≡ c
stays_bare c d none (no_step e) = refl
stays_bare c d none (one_more e f g steps last) =
    let here = stays_bare e f none steps in
    absurd (no_parts last.before last.equation last.after (sym last.place ∙ ap (λ x. x.equations) here ∙ none))

stays_quiet : (rs : List Rule) (c d : Configuration) → IsQuiet rs c → NameSteps c d → d ≡ c
stays_quiet rs c d quiet (no_step e) = refl
stays_quiet rs c d quiet (one_more e f g steps last) =
    let here = stays_quiet rs e f quiet steps in
    absurd (quiet g (name_step rs e g (transport (λ (x : Configuration). NameStep x g) here last)))

-- ---- the same net without equations

mutual
  renamed_same : (t : Tree) → renamed (λ n. n) t ≡ t
  renamed_same (name n) = refl
  renamed_same (agent s ts) = ap (agent s) (renamed_trees_same ts)

  renamed_trees_same : (ts : Trees) → renamed_trees (λ n. n) ts ≡ ts
  renamed_trees_same no_trees = refl
  renamed_trees_same (more_trees t ts) = λ i. more_trees (renamed_same t i) (renamed_trees_same ts i)

mutual
  renamed_twice : (f g : ℕ → ℕ) (t : Tree) → renamed g (renamed f t) ≡ renamed (λ n. g (f n)) t
  renamed_twice f g (name n) = refl
  renamed_twice f g (agent s ts) = ap (agent s) (renamed_trees_twice f g ts)

  renamed_trees_twice : (f g : ℕ → ℕ) (ts : Trees) → renamed_trees g (renamed_trees f ts) ≡ renamed_trees (λ n. g (f n)) ts
  renamed_trees_twice f g no_trees = refl
  renamed_trees_twice f g (more_trees t ts) = λ i. more_trees (renamed_twice f g t i) (renamed_trees_twice f g ts i)

all_same : (ts : List Tree) → ts ≡ map (renamed (λ n. n)) ts
all_same [] = refl
all_same (t ∷ ts) = λ i. sym (renamed_same t) i ∷ all_same ts i

all_twice : (f g : ℕ → ℕ) (ts : List Tree) → map (renamed g) (map (renamed f) ts) ≡ map (renamed (λ n. g (f n))) ts
all_twice f g [] = refl
all_twice f g (t ∷ ts) = λ i. renamed_twice f g t i ∷ all_twice f g ts i

rearranged_none : (es fs : List Pair) → Rearranged es fs → es ≡ [] → fs ≡ []
rearranged_none es fs nothing is = refl
rearranged_none es fs (kept p q xs ys alike rest) is = cc
rearranged_none es fs (swapped p q xs) is = cc
rearranged_none es fs (one_by_one xs ys zs first second) is = rearranged_none ys zs second (rearranged_none xs ys first is)

-- one configuration without equations is another with its names turned, free ones kept
record Turned (c d : Configuration) : Type 0 where
  turn : ℕ → ℕ
  apart : (m n : ℕ) → turn m ≡ turn n → m ≡ n
  free : (n : ℕ) → occurrences n (configuration_names c) ≡ 1 → turn n ≡ n
  interface : d.interface ≡ map (renamed turn) c.interface
  none : d.equations ≡ []

turned_of : ((c d : Configuration) → Same c d → (n : ℕ) → (occurrences n (configuration_names c) ≡ 1) ↔ (occurrences n (configuration_names d) ≡ 1))
    → (c d : Configuration) → Same c d → c.equations ≡ [] → Turned c d
turned_of shape c d (renaming x y r) none = record {
  turn = r.to;
  apart = λ m n same. sym (r.there_and_back m) ∙ ap r.from same ∙ r.there_and_back n;
  free = r.free;
  interface = ap (λ z. z.interface) r.result;
  none = ap (λ z. z.equations) r.result ∙ ap (map (renamed_pair r.to)) none;
}
turned_of shape c d (rearranging x y r) none = record {
  turn = λ n. n;
  apart = λ m n same. same;
  free = λ n is. refl;
  interface = ap (λ z. z.interface) r.result ∙ all_same x.interface;
  none = rearranged_none x.equations y.equations r.equations none;
}
turned_of shape c d (through x y z first second) none =
    let one = turned_of shape x y first none in
    let two = turned_of shape y z second one.none in
    record {
      turn = λ n. two.turn (one.turn n);
      apart = λ m n same. one.apart m n (two.apart (one.turn m) (one.turn n) same);
      free = λ n is. ap two.turn (one.free n is) ∙ two.free n ((shape x y first n).0 is);
      interface = two.interface ∙ ap (map (renamed two.turn)) one.interface ∙ all_twice one.turn two.turn x.interface;
      none = two.none;
    }

every : {X : Type 0} (P : X → Type 0) → ((x : X) → P x) → (xs : List X) → AllByRecursion P xs
every P all [] = tt
every P all (x ∷ xs) = (all x, every P all xs)

untold : (f : ℕ → ℕ) (ns : List ℕ) → ((m n : ℕ) → f m ≡ f n → m ≡ n) → ((n : ℕ) → occurrences n ns ≡ 1 → f n ≡ n) → RenamesUntold f ns
untold f ns apart free = record {
  one_to_one = every (λ m. AllByRecursion (λ n. f m ≡ f n → m ≡ n) ns) (λ m. every (λ n. f m ≡ f n → m ≡ n) (apart m) ns) ns;
  kept = λ n is low. free n is;
  great = λ n is high. transport (λ x. MAX_NAME < x) (sym (free n is)) high;
}

-- the words of what has no equations are those of the other, with their names turned
turned_words : (c d : Configuration) → c.equations ≡ [] → (t : Turned c d) → configuration_words d ≡ map (renamed_word t.turn) (configuration_words c)
turned_words c d none t =
    (λ i. configuration_words (record { interface = t.interface i; equations = (t.none ∙ ap (map (renamed_pair t.turn)) (sym none)) i; next = d.next }))
    ∙ terms_words-renamed t.turn c.interface c.equations

same_of_words : (c d : Configuration) → configuration_words c ≡ configuration_words d → length c.interface ≡ length d.interface → c.next ≡ d.next → c ≡ d
same_of_words c d words terms next =
    sym (configuration_of-words c) ∙ (λ i. configuration_of (words i) (terms i) (next i)) ∙ configuration_of-words d

pub one_text : ((c d : Configuration) → Same c d → (n : ℕ) → (occurrences n (configuration_names c) ≡ 1) ↔ (occurrences n (configuration_names d) ≡ 1))
    → ((f : ℕ → ℕ) (ws : List Word) → RenamesUntold f (flat_map word_names ws) → renumbered_words (map (renamed_word f) ws) ≡ renumbered_words ws)
    → (rs : List Rule) (c d : Configuration) → OneNet c d → c.equations ≡ [] → IsQuiet rs d → renumbered c ≡ renumbered d
one_text shape forgets rs c d net none quiet =
    let start = stays_bare c net.end none net.steps in
    let end = stays_quiet rs d net.end_too quiet net.steps_too in
    let same : SameButNext c d = transport (λ (x : Configuration). SameButNext x d) start (transport (λ (x : Configuration). SameButNext net.end x) end net.same) in
    let up : Configuration = raised same.more c in
    let up_too : Configuration = raised same.others d in
    let t : Turned up up_too = turned_of shape up up_too same.same none in
    let words : configuration_words d ≡ map (renamed_word t.turn) (configuration_words c) = turned_words up up_too none t in
    let told : RenamesUntold t.turn (flat_map word_names (configuration_words c)) =
    transport (RenamesUntold t.turn) (sym (names-words c)) (untold t.turn (configuration_names c) t.apart t.free) in
    let alike : renumbered_words (configuration_words d) ≡ renumbered_words (configuration_words c) = ap renumbered_words words ∙ forgets t.turn (configuration_words c) told in
    let many : length (renumbered c).interface ≡ length (renumbered d).interface =
    length-map c.interface _ ∙ sym (length-map d.interface _ ∙ ap length t.interface ∙ length-map c.interface (renamed t.turn)) in
    same_of_words (renumbered c) (renumbered d) (renumbered-words c ∙ sym alike ∙ sym (renumbered-words d)) many refl
