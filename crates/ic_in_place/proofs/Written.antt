-- Lemmas: what is written of a configuration whose names are numbered anew.
use Rattle.std.proofs.Common.{◌≡◌, ◌≢◌, ℕ, ◌+◌, List, length, subst as transport, [], ◌∷◌, Option, cond, map, refl, sym, ap, ◌∙◌, arith}
use Rattle.ic_term.specs.Configuration.{Configuration}
use Rattle.ic_term.specs.Symbol.{Symbol}
use Rattle.ic_flat.specs.declared.word.Word.{Word}
use Rattle.ic_flat.specs.Flat.{configuration_of}
use Rattle.std.specs.List.{find}
use Rattle.std.specs.Option.{option_map}
use Rattle.ic_term.specs.Tree.{Tree, name, agent, Pair}
use Rattle.ic_term.specs.Configuration.{configuration_names}
use Rattle.ic_rules.specs.Renaming.{renamed}
use Rattle.ic_flat.specs.Words.{forest}
use Rattle.ic_naming.specs.Naming.{renamed_pair, renumbered, renumbered_words, told_name}
use Rattle.std.proofs.lemmas.List.{length-map}
use Rattle.ic_flat.specs.Words.{word_names}
use Rattle.std.specs.List.{flat_map}
use Rattle.ic_naming.specs.lemmas.RenamedWords.{forest-renamed, whole-renamed, word_over-renamed}
use Rattle.ic_naming.specs.lemmas.Renumbered.{renumbered-written}
use Rattle.ic_in_place.specs.Reducing.{Writes}
use Rattle.ic_in_place.specs.declared.stream.Asked.{Asked}
use Rattle.ic_in_place.specs.declared.stream.Asked.TheVariants.{Answer, AlsoPart, Nothing}
use Rattle.ic_in_place.specs.inner.Unwritten.{WritesAlike}
use Rattle.ic_text.specs.declared.limits.TheConstants.{MAX_NAME}
use Rattle.ic_streams.specs.Streams.{line_of}
use Rattle.ic_in_place.specs.declared.running.End.{End}
use Rattle.ic_in_place.specs.declared.running.End.TheVariants.{Quiet, Steps, Nodes, Limit, Memory}
use Rattle.ic_in_place.specs.Reductions.{is_written, line_reached, stuck_at}
use Rattle.ic_in_place.specs.inner.Told.{words_stuck}
use Rattle.ic_streams.specs.Stuck.{is_of_agents, pair_text, stuck_text}

-- a line that is asked for is written at a quiet end
pub asked_for : (asked : Asked) → asked ≢ Nothing → (line : List ℕ) → cond (is_written asked Quiet) line [] ≡ line
asked_for Answer some line = refl
asked_for AlsoPart some line = refl
asked_for Nothing some line = absurd (some refl)

-- no equation is left where there are none
pub nothing_left : (es : List Pair) → length es ≡ 0 → es ≡ []
nothing_left [] none = refl
nothing_left (e ∷ es) none = absurd (omega (arith, none))

pub line_so : (asked : Asked) (end : End) (ss other : List Symbol) (ws : List Word) (terms : ℕ) (answer : Configuration) (line : List ℕ)
    → line ≡ cond (is_written asked end) (line_of ss (configuration_of ws terms 0)) [] → ss ≡ other → configuration_of ws terms (MAX_NAME + 1) ≡ renumbered answer
    → line ≡ line_reached asked end other answer
line_so asked end ss other ws terms answer line is same written = is ∙ (λ i. cond (is_written asked end) (line_of (same i) (written i)) [])

pub stuck_so : (end : End) (ss other : List Symbol) (ws : List Word) (terms : ℕ) (answer : Configuration) (o : Option (List ℕ))
    → o ≡ words_stuck end ss (configuration_of ws terms 0) → ss ≡ other → configuration_of ws terms (MAX_NAME + 1) ≡ renumbered answer
    → o ≡ stuck_at end other answer
stuck_so Quiet ss other ws terms answer o is same written = is ∙ (λ i. stuck_text (same i) (written i))
stuck_so Steps ss other ws terms answer o is same written = is
stuck_so Nodes ss other ws terms answer o is same written = is
stuck_so Limit ss other ws terms answer o is same written = is
stuck_so Memory ss other ws terms answer o is same written = is

-- ---- words that aren't numbered anew

-- words that write a configuration up to its names write it, once they are numbered anew
pub numbered_so : (ss : List Symbol) (ws words : List Word) (terms equations : ℕ) (answer : Configuration) → words ≡ renumbered_words ws
    → WritesAlike ss ws terms equations answer → Writes ss words terms equations answer
numbered_so ss ws words terms equations answer are a =
    let f : ℕ → ℕ = told_name (flat_map word_names ws) in
    transport (λ (l : List Word). Writes ss l terms equations answer) (sym are) (record {
      whole = whole-renamed f ws a.whole;
      over = word_over-renamed f ss ws ∙ a.over;
      counted = ap length (forest-renamed f ws) ∙ length-map (forest ws) _ ∙ a.counted;
      written = renumbered-written ws terms equations 0 a.counted ∙ a.alike;
    })

-- the first equation of two agents has the same symbols, however names are turned
abbrev first_text : List Symbol → List Pair → Option (List ℕ)
first_text ss es = option_map (pair_text ss) (find is_of_agents es)

turned_first : (ss : List Symbol) (f : ℕ → ℕ) (l r : Tree) (es fs : List Pair) → first_text ss fs ≡ first_text ss es
    → first_text ss (record { left = renamed f l; right = renamed f r } ∷ fs) ≡ first_text ss (record { left = l; right = r } ∷ es)
turned_first ss f (name x) r es fs rest = rest
turned_first ss f (agent s ts) (name y) es fs rest = rest
turned_first ss f (agent s ts) (agent z us) es fs rest = refl

turned_stuck : (ss : List Symbol) (f : ℕ → ℕ) (es : List Pair) → first_text ss (map (renamed_pair f) es) ≡ first_text ss es
turned_stuck ss f [] = refl
turned_stuck ss f (e ∷ es) = turned_first ss f e.left e.right es (map (renamed_pair f) es) (turned_stuck ss f es)

pub stuck_alike : (end : End) (ss other : List Symbol) (ws : List Word) (terms equations : ℕ) (answer : Configuration) (o : Option (List ℕ))
    → o ≡ words_stuck end ss (configuration_of ws terms 0) → ss ≡ other → WritesAlike other ws terms equations answer
    → o ≡ stuck_at end other answer
stuck_alike Quiet ss other ws terms equations answer o is same a =
    let c = configuration_of ws terms 0 in
    is ∙ sym (turned_stuck ss (told_name (configuration_names c)) c.equations) ∙ (λ i. stuck_text (same i) (a.alike i))
stuck_alike Steps ss other ws terms equations answer o is same a = is
stuck_alike Nodes ss other ws terms equations answer o is same a = is
stuck_alike Limit ss other ws terms equations answer o is same a = is
stuck_alike Memory ss other ws terms equations answer o is same a = is
