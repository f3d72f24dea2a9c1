-- How far a reduction that is kept has come (this project's choice).
use Rattle.std.specs.Prelude.{◌≡◌, ◌⊎◌, ℕ, ◌+◌, ◌-◌, ◌*◌, ◌^◌, ◌<◌, ◌≤◌, Bool, List, Option, None, Some, true, false, Ok, IsTrue, length, slice_index_or}
use Rattle.ic_term.specs.Configuration.{Configuration, configuration_nodes}
use Rattle.ic_term.specs.Symbol.{is_over}
use Rattle.ic_term.specs.declared.limits.TheConstants.{MAX_WIDE_NODES}
use Rattle.ic_rules.specs.Rule.{Rule}
use Rattle.ic_rules.specs.RuleSet.{IsRuleSet}
use Rattle.ic_rules.specs.System.{SystemParts}
use Rattle.ic_flat.specs.Flat.{configuration_of}
use Rattle.ic_flat.specs.Words.{forest, IsWhole}
use Rattle.ic_text.specs.SystemText.{ReadsSystemWithin}
use Rattle.ic_text.specs.declared.limits.Limits.TheVariants.{Wide}
use Rattle.ic_text.specs.declared.limits.TheConstants.{MAX_NAME}
use Rattle.ic_naming.specs.Naming.{renumbered}
use Rattle.ic_round.specs.Naming.{HasNames}
use Rattle.ic_round.specs.Quiet.{IsQuiet}
use Rattle.ic_round.specs.Rounds.{iterate}
use Rattle.ic_reaching.specs.OneNet.{OneNet, SameButNext}
use Rattle.ic_reaching.specs.Reaching.{Reaches}
use Rattle.ic_in_place.specs.declared.running.Bounds.{Bounds}
use Rattle.ic_in_place.specs.declared.running.End.{End}
use Rattle.ic_in_place.specs.declared.running.End.TheVariants.{Quiet, Steps, Nodes, Limit, Memory}
use Rattle.ic_in_place.specs.Counting.{AreCounts, AreOfRounds, rules_in}
use Rattle.ic_in_place.specs.Reducing.{CanInteract, IsPutTogether}
use Rattle.ic_state.specs.State.{Kept, IsKept, state_bytes}

-- each of these counts is the sum of two others
pub record AreSums (some more sums : List ℕ) : Type 0 where
  pub long : length more ≡ length some
  pub all : length sums ≡ length some
  pub each : (i : ℕ) → i < length some
      → slice_index_or sums i 0 ≡ slice_index_or some i 0 + slice_index_or more i 0

-- A configuration is reached from that of a system by so many interactions, so many of each rule.
pub record IsOnWay (s : SystemParts) (c : Configuration) (interactions : ℕ) (by_rule : List ℕ)
    : Type 0 where
  pub fired : List ℕ
  pub reached : Reaches s.rules.rules s.config c fired
  pub counted : interactions ≡ length fired
  pub counts : AreCounts (length s.rules.rules) fired by_rule

-- what a system keeps whose rules and configuration were read
pub record IsSound (s : SystemParts) : Type 0 where
  pub rules : IsRuleSet s.rules
  pub over : IsTrue (is_over s.rules.symbols s.config)
  pub names : HasNames s.config

-- So many rounds of a system's configuration lead to this one, wherever fresh names begin, and no fewer end quiet. They fire so
-- many pairs, so many by each rule.
pub record AreRoundsTo (s : SystemParts) (rounds : ℕ) (c : Configuration) (interactions : ℕ)
    (by_rule : List ℕ) : Type 0 where
  pub net : SameButNext (iterate s.rules.rules rounds s.config) c
  pub needed : (n : ℕ) → n < rounds → ¬ IsQuiet s.rules.rules (iterate s.rules.rules n s.config)
  pub all : interactions ≡ length (rules_in s.rules.rules rounds s.config)
  pub counts : AreCounts (length s.rules.rules) (rules_in s.rules.rules rounds s.config) by_rule

-- what is reached by these interactions where so many rounds are over, if a reduction goes by rounds
abbrev pub IsAfterRounds : SystemParts → Option ℕ → Configuration → (interactions : ℕ)
    → (by_rule : List ℕ) → Type 0
IsAfterRounds s None c interactions by_rule = Unit {0}
IsAfterRounds s (Some rounds) c interactions by_rule = AreRoundsTo s rounds c interactions by_rule

-- both go by rounds, the second no less far, or neither does
abbrev pub AreAlike : (before after : Option ℕ) → Type 0
AreAlike None None = Unit {0}
AreAlike None (Some after) = ⊥
AreAlike (Some before) None = ⊥
AreAlike (Some before) (Some after) = before ≤ after

-- What is kept is a state of a reduction of this system: its text is read as a system with the same rules and symbols, and its
-- words write a configuration that is reached from this system's by the interactions that it tells. Each of its agents has its arguments, and each
-- of its equations two sides. If it isn't too large to be read, its names may stand in a text. If it has ended, no step is
-- possible. If the reduction goes by rounds, its net is that after as many as it tells, and its interactions are theirs.
pub record IsStateOf (s : SystemParts) (k : Kept) : Type 0 where
  pub sound : IsSound s
  pub read : SystemParts
  pub reads : ReadsSystemWithin Wide k.text (Ok read)
  pub rules : read.rules ≡ s.rules
  pub next : ℕ
  pub way : IsOnWay s (configuration_of k.words k.terms next) k.interactions k.by_rule
  pub low : length k.words ≤ MAX_WIDE_NODES → next ≤ MAX_NAME + 1
  pub quiet : k.ended ≡ true → IsQuiet s.rules.rules (configuration_of k.words k.terms next)
  pub whole : IsWhole k.words
  pub equations : ℕ
  pub counted : length (forest k.words) ≡ k.terms + 2 * equations
  pub rounds : IsAfterRounds s k.rounds (configuration_of k.words k.terms next) k.interactions
      k.by_rule

-- A state of a reduction is reached from another one of it, by so many more interactions as it tells, and in more time. It
-- has the same text.
pub record IsReachedFrom (s : SystemParts) (before after : Kept) : Type 0 where
  pub was : IsStateOf s before
  pub is : IsStateOf s after
  pub more : List ℕ
  pub reached : Reaches s.rules.rules (configuration_of before.words before.terms was.next)
      (configuration_of after.words after.terms is.next) more
  pub counted : after.interactions ≡ before.interactions + length more
  pub text : after.text ≡ before.text
  pub millis : before.millis ≤ after.millis

-- From a state of a reduction a net is reached that is past a limit: it has more names and agents than are read, or as many
-- interactions lead there as can be counted. It is the state's own net, or nothing is left that could be put for a name.
pub record ComesPastLimits (s : SystemParts) (k : Kept) : Type 0 where
  pub is : IsStateOf s k
  pub net : Configuration
  pub more : List ℕ
  pub reached : Reaches s.rules.rules (configuration_of k.words k.terms is.next) net more
  pub together : ((next : ℕ) × (net ≡ configuration_of k.words k.terms next)) ⊎ IsPutTogether net
  pub past : (MAX_WIDE_NODES < configuration_nodes net)
      ⊎ (2 ^ 64 - 1 ≤ k.interactions + length more)

-- the state with which the reduction of a system begins: the configuration of the text, and no interactions
pub record IsBegun (s : SystemParts) (k : Kept) : Type 0 where
  pub state : IsStateOf s k
  pub config : configuration_of k.words k.terms s.config.next ≡ s.config
  pub none : k.interactions ≡ 0
  pub goes_on : k.ended ≡ false
  pub millis : k.millis ≡ 0

-- What an end says of what was reached, by so many interactions of all runs.
abbrev pub EndsWithin : List Rule → Bounds → Configuration → (interactions : ℕ) → End → Type 0
EndsWithin rs bounds c interactions Quiet = IsQuiet rs c
EndsWithin rs bounds c interactions Steps = CanInteract rs c × (bounds.steps ≤ interactions)
EndsWithin rs bounds c interactions Nodes = interactions < bounds.steps
EndsWithin rs bounds c interactions Limit = interactions < bounds.steps
EndsWithin rs bounds c interactions Memory = Unit {0}

-- What a run ends with: the words of an answer with its names numbered anew, which is reached from the system's
-- configuration by the interactions that are told. This is why it ended.
pub record IsAnswer (s : SystemParts) (bounds : Bounds) (end : End) (k : Kept) : Type 0 where
  pub sound : IsSound s
  pub answer : Configuration
  pub way : IsOnWay s answer k.interactions k.by_rule
  pub ended : EndsWithin s.rules.rules bounds answer k.interactions end
  pub together : IsPutTogether answer
  pub written : configuration_of k.words k.terms (MAX_NAME + 1) ≡ renumbered answer

-- What a run by rounds ends with, at most so many in all: as many were made as are told, no fewer end quiet, and where it has
-- ended as one was over, this is the net after them. So many interactions are those of these rounds, and some since.
pub record IsAnswerByRounds (s : SystemParts) (most rounds : ℕ) (end : End) (answer : Configuration)
    (interactions : ℕ) (by_rule : List ℕ) : Type 0 where
  pub net : (end ≡ Quiet) ⊎ (end ≡ Steps) → OneNet answer (iterate s.rules.rules rounds s.config)
  pub needed : (n : ℕ) → n < rounds → ¬ IsQuiet s.rules.rules (iterate s.rules.rules n s.config)
  pub all : end ≡ Steps → most ≤ rounds
  pub fired : AreOfRounds s.rules.rules s.config rounds end interactions by_rule

-- the bytes of a state of the reduction of this system
abbrev pub IsFormOf : SystemParts → List ℕ → Type 0
IsFormOf s bytes = (k : Kept) × IsKept k × IsStateOf s k × (bytes ≡ state_bytes k)

-- A state goes no less far than this one: it has no fewer interactions, and no fewer rounds if it goes by rounds. Both do, or
-- neither.
pub record IsNoLess (from k : Kept) : Type 0 where
  pub interactions : from.interactions ≤ k.interactions
  pub alike : AreAlike from.rounds k.rounds

-- the bytes of one that goes no less far than this
abbrev pub IsFormFrom : SystemParts → (from : Kept) → List ℕ → Type 0
IsFormFrom s from bytes =
    (k : Kept) × IsKept k × IsStateOf s k × IsNoLess from k × (bytes ≡ state_bytes k)

-- A state goes further than so many interactions, after which the reduction had ended or not: it has more of them, or as many
-- and has ended where that hadn't.
abbrev pub GoesFurther : (interactions : ℕ) → (ended : Bool) → Kept → Type 0
GoesFurther interactions ended k =
    (interactions < k.interactions)
    ⊎ ((interactions ≡ k.interactions) × (ended ≡ false) × (k.ended ≡ true))

-- One state was kept, and this state of the reduction is kept after it. It is reached from there, and goes further. It has no
-- more names and agents than are read, so that no later life is refused it for its size. Both go by rounds, or neither does. These
-- are their bytes.
pub record IsKeptAfter (s : SystemParts) (old new : List ℕ) : Type 0 where
  pub before : Kept
  pub after : Kept
  pub old_is : old ≡ state_bytes before
  pub new_is : new ≡ state_bytes after
  pub was_kept : IsKept before
  pub is_kept : IsKept after
  pub from : IsReachedFrom s before after
  pub further : GoesFurther before.interactions before.ended after
  pub few : length after.words ≤ MAX_WIDE_NODES
  pub alike : AreAlike before.rounds after.rounds

-- What is kept goes as far as this state: it has as many interactions, of each rule too, and has ended where this has.
pub record IsAsFar (kept k : Kept) : Type 0 where
  pub interactions : kept.interactions ≡ k.interactions
  pub by_rule : kept.by_rule ≡ k.by_rule
  pub ended : k.ended ≡ true → kept.ended ≡ true
