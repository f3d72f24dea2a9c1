-- Lemmas: what was read back of a machine that has stopped is what a reduction answers.
use Rattle.std.proofs.Common.{◌≡◌, ℕ, ◌+◌, ◌*◌, ◌^◌, ◌<◌, List, [], ◌∷◌, false, None, Some, IsTrue, length, map, slice_get, refl, sym, ap, ◌∙◌, subst as transport}
use Rattle.std.proofs.lemmas.Bool.{false≢true}
use Rattle.ic_in_place.specs.Reductions.{is_written, stuck_at}
use Rattle.std.specs.Prelude.{◌↔◌}
use Rattle.std.specs.List.{flat_map, AllByRecursion}
use Rattle.std.proofs.lemmas.List.{length-map}
use Rattle.ic_term.specs.Configuration.{Configuration, configuration_names, occurrences}
use Rattle.ic_term.specs.Symbol.{Symbol, is_over}
use Rattle.ic_rules.specs.Rule.{Rule}
use Rattle.ic_rules.specs.RuleSet.{Rules, IsRuleSet}
use Rattle.ic_rules.specs.System.{SystemParts}
use Rattle.ic_flat.specs.declared.word.Word.{Word as FlatWord}
use Rattle.ic_flat.specs.Words.{forest, IsWhole, word_names}
use Rattle.ic_flat.specs.Flat.{configuration_of}
use Rattle.ic_flat.specs.lemmas.FlatLaws.{length-equations, names-configuration_of, over-configuration_of}
use Rattle.ic_naming.specs.Naming.{RenamesUntold, renamed_word, renumbered, renumbered_words}
use Rattle.ic_naming.specs.lemmas.RenamedWords.{forest-renamed, whole-renamed, word_over-renamed}
use Rattle.ic_naming.specs.lemmas.Renumbered.{renumbered-written}
use Rattle.ic_round.specs.Naming.{HasNames}
use Rattle.ic_round.specs.Quiet.{IsQuiet}
use Rattle.ic_reaching.specs.OneNet.{OneNet}
use Rattle.ic_reaching.specs.Reaching.{Reaches}
use Rattle.ic_machine.specs.Net.{Net, pieces, HasNext, IsStuck}
use Rattle.ic_machine.specs.Plan.{Plans}
use Rattle.ic_meaning.specs.Words.{Numbers}
use Rattle.ic_meaning.specs.Nets.{net_of}
use Rattle.ic_readback.specs.declared.token.Token.{Token}
use Rattle.ic_readback.specs.declared.token.Token.TheVariants.{Name, Agent}
use Rattle.ic_readback.specs.Reading.{flat_words, configuration_read}
use Rattle.ic_in_place.specs.declared.running.Bounds.{Bounds}
use Rattle.ic_in_place.specs.declared.running.End.{End}
use Rattle.ic_in_place.specs.declared.running.End.TheVariants.{Quiet, Steps, Nodes, Limit}
use Rattle.ic_in_place.specs.declared.running.End.TheVariants as end
use Rattle.ic_in_place.specs.Reducing.{CanInteract, IsPutTogether, EndsBy, IsReached}
use Rattle.ic_in_place.specs.Counting.{TellsNameSteps}
use Rattle.ic_in_place.specs.Holding.{AreGiven}
use Rattle.ic_in_place.specs.inner.Numbering.{written_numbers, HasNumber, IsNumbered}
use Rattle.ic_in_place.specs.Stopping.{arities_of, StopsBy, HasCome}
use Rattle.ic_in_place.specs.inner.Unwritten.{WritesAlike}
use Rattle.ic_text.specs.declared.limits.TheConstants.{MAX_NAME}
use Rattle.ic_in_place.specs.declared.stream.Asked.TheVariants as asked
use Rattle.ic_in_place.proofs.Naming.{Rewrites, rewrites, names_of}

-- ---- the words that are written

-- whole words whose names are turned into others, of which nothing is told once they are numbered anew
alike_so : (ss : List Symbol) (f : ℕ → ℕ) (ws : List FlatWord) (terms equations : ℕ) (answer : Configuration)
    → renumbered_words (map (renamed_word f) ws) ≡ renumbered_words ws → IsWhole ws → length (forest ws) ≡ terms + 2 * equations
    → renumbered (configuration_of ws terms 0) ≡ renumbered answer → is_over ss (configuration_of ws terms 0) ≡ is_over ss answer → IsTrue (is_over ss answer)
    → WritesAlike ss (map (renamed_word f) ws) terms equations answer
alike_so ss f ws terms equations answer forgets whole counted same same_over over =
    let as_many : length (forest (map (renamed_word f) ws)) ≡ terms + 2 * equations = ap length (forest-renamed f ws) ∙ length-map (forest ws) _ ∙ counted in
    record {
      whole = whole-renamed f ws whole;
      over = word_over-renamed f ss ws ∙ sym (over-configuration_of ws terms equations 0 counted ss whole) ∙ same_over ∙ over;
      counted = as_many;
      alike = sym (renumbered-written (map (renamed_word f) ws) terms equations 0 as_many)
          ∙ ap (λ (l : List FlatWord). configuration_of l terms (MAX_NAME + 1)) forgets ∙ renumbered-written ws terms equations 0 counted ∙ same;
    }

-- what the laws say that this one builds on
pub record AnswerLaws : Type 0 where
  pub other_way : (c d : Configuration) → OneNet c d → OneNet d c
  pub through : (c d e : Configuration) → OneNet c d → OneNet d e → OneNet c e
  pub net : (rs : List Rule) (c d e : Configuration) (fired : List ℕ) → Reaches rs c d fired → OneNet d e → Reaches rs c e fired
  pub over : (rs : Rules) (c d : Configuration) (fired : List ℕ) → IsRuleSet rs → IsTrue (is_over rs.symbols c) → HasNames c → Reaches rs.rules c d fired
      → IsTrue (is_over rs.symbols d)
  pub free : (rs : Rules) (c d : Configuration) (fired : List ℕ) → IsRuleSet rs → IsTrue (is_over rs.symbols c) → HasNames c → Reaches rs.rules c d fired
      → (x : ℕ) → (occurrences x (configuration_names c) ≡ 1) ↔ (occurrences x (configuration_names d) ≡ 1)
  pub forgets : (f : ℕ → ℕ) (ws : List FlatWord) → RenamesUntold f (flat_map word_names ws) → renumbered_words (map (renamed_word f) ws) ≡ renumbered_words ws

-- what the stop says is what the end does
ends_alike : (s : SystemParts) (bounds : Bounds) (p : Plans) (d : Configuration) (m : Net) (end : End)
    → (HasNext p m.pending → CanInteract s.rules.rules d) → (AllByRecursion (IsStuck p) m.pending → IsQuiet s.rules.rules d) → IsPutTogether d
    → StopsBy bounds p m end → EndsBy s.rules.rules bounds d m.interactions end
ends_alike s bounds p d m Quiet next quiet together is = (quiet is, together)
ends_alike s bounds p d m Steps next quiet together is = (is.0, next is.1, together)
ends_alike s bounds p d m Nodes next quiet together is = is
ends_alike s bounds p d m Limit next quiet together is = is
ends_alike s bounds p d m end.Memory next quiet together is = tt

-- a quiet end is that of a quiet configuration
pub quiet_so : (rs : List Rule) (bounds : Bounds) (d : Configuration) (interactions : ℕ) (end : End)
    → EndsBy rs bounds d interactions end → end ≡ Quiet → IsQuiet rs d
quiet_so rs bounds d interactions Quiet is e = is.0
quiet_so rs bounds d interactions Steps is e = cc
quiet_so rs bounds d interactions Nodes is e = cc
quiet_so rs bounds d interactions Limit is e = cc
quiet_so rs bounds d interactions end.Memory is e = cc

numbered_names : (given : List ℕ) (ts : List Token) → AllByRecursion (IsNumbered given) ts → AllByRecursion (HasNumber given) (names_of ts)
numbered_names given [] all = tt
numbered_names given (Name w ∷ ts) all = (all.0, numbered_names given ts all.1)
numbered_names given (Agent s ∷ ts) all = numbered_names given ts all.1

-- What is read of a machine that has stopped is reached.
pub come_so : (s : SystemParts) (bounds : Bounds) (given : List ℕ) (m : Net) (end : End) (by_rule : List ℕ) (answer : Configuration) (come : HasCome s bounds given by_rule m end)
    → Reaches s.rules.rules s.config answer come.fired → EndsBy s.rules.rules bounds answer m.interactions end
    → IsReached s bounds answer end m.interactions by_rule
come_so s bounds given m end by_rule answer come reached ended = record {
  fired = come.fired;
  reached = reached;
  counted = come.counted;
  within = come.within;
  ended = ended;
  counts = come.counts;
}

-- What was read back is what was reached, and its words are written.
pub answered_so : AnswerLaws → (s : SystemParts) (bounds : Bounds) (given : List ℕ) (m : Net) (end : End) (by_rule : List ℕ) (stopped : HasCome s bounds given by_rule m end)
    (ts : List Token) (terms equations : ℕ) (words : List FlatWord)
    → OneNet (net_of stopped.held.numbers m.interface (pieces m)) (configuration_read stopped.held.numbers ts terms)
    → (HasNext stopped.plans m.pending → CanInteract s.rules.rules (configuration_read stopped.held.numbers ts terms))
    → (HasNames (configuration_read stopped.held.numbers ts terms)
    → AreGiven stopped.held.numbers.given (configuration_read stopped.held.numbers ts terms)
    → (AllByRecursion (IsStuck stopped.plans) m.pending → IsQuiet s.rules.rules (configuration_read stopped.held.numbers ts terms)) × IsPutTogether (configuration_read stopped.held.numbers ts terms))
    → IsWhole (flat_words stopped.held.numbers ts) → length (forest (flat_words stopped.held.numbers ts)) ≡ terms + 2 * equations
    → AllByRecursion (IsNumbered given) ts → words ≡ flat_words (written_numbers (arities_of s) given) ts
    → let answer = configuration_read stopped.held.numbers ts terms in
    IsReached s bounds answer end m.interactions by_rule × IsPutTogether answer × (length answer.equations ≡ equations) × WritesAlike s.rules.symbols words terms equations answer
answered_so laws s bounds given m end by_rule stopped ts terms equations words net next quiet whole counted numbered written =
    let held = stopped.held in
    let n : Numbers = held.numbers in
    let here : Configuration = net_of n m.interface (pieces m) in
    let answer : Configuration = configuration_read n ts terms in
    let rs = s.rules in
    let sound = stopped.sound in
    let ws : List FlatWord = flat_words n ts in
    let reached : Reaches rs.rules s.config answer stopped.fired = laws.net rs.rules s.config here answer stopped.fired held.reached net in
    let over : IsTrue (is_over rs.symbols answer) = laws.over rs s.config answer stopped.fired sound.rules sound.over sound.names reached in
    let read_names : configuration_names (configuration_of ws terms 0) ≡ flat_map word_names ws = names-configuration_of ws terms equations 0 counted in
    let are : AreGiven n.given answer =
    transport (λ (g : List ℕ). AreGiven g answer) (sym held.names) (λ x.
    let here_free = laws.free s.rules s.config here stopped.fired sound.rules sound.over sound.names held.reached x in
    let free = laws.free s.rules s.config answer stopped.fired sound.rules sound.over sound.names reached x in
    ((λ is. (held.free x).0 (here_free.0 (free.1 is))), (λ found. free.0 (here_free.1 ((held.free x).1 found))))) in
    let once : (x : ℕ) → occurrences x (flat_map word_names ws) ≡ 1 → (j : ℕ) × (slice_get n.given j ≡ Some x) =
    (λ x is. (are x).0 (ap (occurrences x) read_names ∙ is)) in
    let r : Rewrites n (written_numbers n.arities n.given) ts =
    rewrites n ts held.sound (transport (AllByRecursion (λ x. x < 2 ^ 62)) (sym held.names) stopped.below)
    (transport (λ (g : List ℕ). AllByRecursion (HasNumber g) (names_of ts)) (sym held.names) (numbered_names given ts numbered)) once in
    let numbers : written_numbers (arities_of s) given ≡ written_numbers n.arities n.given =
    (λ i. written_numbers (sym (held.arities ∙ stopped.arities) i) (sym held.names i)) in
    let words_are : words ≡ map (renamed_word r.turn) ws = written ∙ ap (λ (k : Numbers). flat_words k ts) numbers ∙ sym r.words in (
      come_so s bounds given m end by_rule answer stopped reached
          (ends_alike s bounds stopped.plans answer m end next (quiet net.names_too are).0 (quiet net.names_too are).1 stopped.ended),
      (quiet net.names_too are).1,
      length-equations ws terms equations 0 counted,
      transport (λ (l : List FlatWord). WritesAlike rs.symbols l terms equations answer) (sym words_are)
          (alike_so rs.symbols r.turn ws terms equations answer (laws.forgets r.turn ws r.untold) whole counted refl refl over),
    )

-- ---- what isn't written

-- a machine that stopped for what it held or at a limit, or for want of memory, holds what was reached
pub record IsUnread (s : SystemParts) (bounds : Bounds) (end : End) (answer : Configuration) (m : Net) : Type 0 where
  pub ended : EndsBy s.rules.rules bounds answer m.interactions end
  pub name_steps : TellsNameSteps s.rules.rules s.config m.interactions (length answer.equations) end None
  pub stuck : None ≡ stuck_at end s.rules.symbols answer

pub unread_so : (s : SystemParts) (bounds : Bounds) (given : List ℕ) (m : Net) (end : End) (by_rule : List ℕ) (come : HasCome s bounds given by_rule m end)
    → is_written asked.Answer end ≡ false → IsUnread s bounds end (net_of come.held.numbers m.interface (pieces m)) m
unread_so s bounds given m Quiet by_rule come none = absurd (false≢true (sym none))
unread_so s bounds given m Steps by_rule come none = absurd (false≢true (sym none))
unread_so s bounds given m Nodes by_rule come none = record { ended = come.ended; name_steps = refl; stuck = refl }
unread_so s bounds given m Limit by_rule come none = record { ended = come.ended; name_steps = refl; stuck = refl }
unread_so s bounds given m end.Memory by_rule come none = record { ended = tt; name_steps = refl; stuck = refl }

-- ---- the same, as it is told

pub retold : (s : SystemParts) (bounds : Bounds) (answer : Configuration) (e f : End) (i j : ℕ) (a b : List ℕ)
    → e ≡ f → i ≡ j → a ≡ b → IsReached s bounds answer f j b → IsReached s bounds answer e i a
retold s bounds answer e f i j a b ends interactions by_rule is =
    transport (λ (x : End). IsReached s bounds answer x i a) (sym ends)
    (transport (λ (x : ℕ). IsReached s bounds answer f x a) (sym interactions)
    (transport (λ (x : List ℕ). IsReached s bounds answer f j x) (sym by_rule) is))
