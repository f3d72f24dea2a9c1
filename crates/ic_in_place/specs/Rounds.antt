-- Rounds of a machine, and of a text.
use Rattle.std.specs.Prelude.{◌≡◌, ◌⊎◌, ℕ, ◌+◌, ◌-◌, ◌<◌, ◌≤◌, ◌==◌, Bool, true, false, ◌&&◌, List, [], ◌∷◌, ◌++◌, Option, None, Some, Ok, Err, length, map}
use Rattle.std.specs.Io.KnownBytes.{Appends}
use Rattle.std.specs.List.{AllByRecursion, concat}
use Rattle.ic_rules.specs.System.{SystemParts}
use Rattle.ic_term.specs.Configuration.{Configuration}
use Rattle.ic_reaching.specs.OneNet.{OneNet, SameButNext}
use Rattle.ic_round.specs.Quiet.{IsQuiet}
use Rattle.ic_round.specs.Rounds.{iterate}
use Rattle.ic_text.specs.SystemText.{ReadsSystemWithin}
use Rattle.ic_text.specs.declared.limits.Limits.{Limits}
use Rattle.ic_streams.specs.Streams.{Answering, answering}
use Rattle.ic_machine.specs.declared.generation.Generation.{Generation}
use Rattle.ic_machine.specs.Generations.{IsWithin}
use Rattle.ic_machine.specs.Net.{Net, HasNext, IsStuck}
use Rattle.ic_machine.specs.Plan.{Plans}
use Rattle.ic_machine.specs.Runs.{Ran}
use Rattle.ic_meaning.specs.First.{LinksPairsFirst}
use Rattle.ic_meaning.specs.Generations.{FireAsRounds}
use Rattle.ic_meaning.specs.InPlace.{AreRounds}
use Rattle.ic_meaning.specs.Plans.{rule_number}
use Rattle.ic_in_place.specs.Counting.{AreOfRounds, TellsNameSteps, rules_in}
use Rattle.ic_in_place.specs.Holding.{IsNetOf}
use Rattle.ic_in_place.specs.Reducing.{IsPutTogether, IsReached, Writes}
use Rattle.ic_in_place.specs.Reductions.{EndsOf}
use Rattle.ic_in_place.specs.Stopping.{HasCome, IsBegun}
use Rattle.ic_in_place.specs.Told.{RoundOver, IsBetween}
use Rattle.ic_in_place.specs.declared.running.Bounds.{Bounds}
use Rattle.ic_in_place.specs.declared.running.End.{End}
use Rattle.ic_in_place.specs.declared.running.End.TheVariants.{Quiet, Steps, Nodes, Limit, Memory}
use Rattle.ic_in_place.specs.declared.stream.Asked.{Asked}
use Rattle.ic_in_place.specs.declared.rounded.Rounded.{Rounded}
use Rattle.ic_in_place.specs.declared.reducing.Reduced.{Reduced}

-- Rounds are over, none or several, and this is the net then. In each of them pairs fired by these plans.
pub data AreOver (p : Plans) (first : Net) (pairs : ℕ) : List (List ℕ) → Net → Type 0 where
  none_yet : AreOver p first pairs [] first
  some : (over : List (List ℕ)) (last : List ℕ) (g : Generation) (m : Net) → AreRounds p first pairs over last g m
      → g.end ≡ 0 → AreOver p first pairs (over ++ last ∷ []) m

-- This is told of rounds, by the plans that fired in each: their numbers from 1 on, how many pairs fired, and the nets.
pub data AreTold (p : Plans) (first : Net) (pairs : ℕ) : List (List ℕ) → List RoundOver → Type 0 where
  none_told : AreTold p first pairs [] []
  one_told : (made : List (List ℕ)) (fired : List ℕ) (told : List RoundOver) (m : Net)
      → AreTold p first pairs made told → AreOver p first pairs (made ++ fired ∷ []) m → IsBetween m
      → AreTold p first pairs (made ++ fired ∷ [])
      (told ++ record { round = length made + 1; pairs = length fired; net = m } ∷ [])

-- a pair fired in each round but the first
abbrev pub FireAfterFirst : List (List ℕ) → Type 0
FireAfterFirst [] = Unit {0}
FireAfterFirst (first ∷ others) = AllByRecursion (λ fired. 1 ≤ length fired) others

-- So many rounds are over, at most as many as may be made, and they are told. At a quiet end no pair is left that could fire. Where as many were
-- made as may be, the last pair that is left can fire. In both cases no pair has fired since. Where some have, they are of the
-- next round, which is under way: it has a pair that isn't taken yet. What fired is what fired in these rounds, and since.
pub record EndsAfter (p : Plans) (pairs most rounds : ℕ) (end : End) (first new : Net) : Type 0 where
  pub made : List (List ℕ)
  pub last : Net
  pub over : AreOver p first pairs made last
  pub count : rounds ≡ length made
  pub within : rounds ≤ most
  pub firing : FireAfterFirst made
  pub told : List RoundOver
  pub are_told : AreTold p first pairs made told
  pub ran : Ran p first new
  pub since : Ran p last new
  pub all_fired : ran.fired ≡ concat made ++ since.fired
  pub whole : (end ≡ Quiet) ⊎ (end ≡ Steps) → since.fired ≡ []
  pub under_way : (since.fired ≡ [])
      ⊎ ((g : Generation) × (1 ≤ g.end) × IsWithin g new.pending
      × AreRounds p first pairs made since.fired g new)
  pub quiet : end ≡ Quiet → AllByRecursion (IsStuck p) new.pending
  pub some : end ≡ Quiet → 1 ≤ most → 1 ≤ rounds
  pub all : end ≡ Steps → rounds ≡ most
  pub more : end ≡ Steps → HasNext p new.pending

-- Rounds end as if so many might be made: as many as may be, or at least one, where enough interactions are made by then.
abbrev pub MayEnd : (rounds : ℕ) → (enough : Option ℕ) → (most interactions : ℕ) → Type 0
MayEnd rounds enough most interactions = (most ≡ rounds)
    ⊎ ((1 ≤ most) × (most ≤ rounds) × ((n : ℕ) × (enough ≡ Some n) × (n ≤ interactions)))

-- A round was broken off by this end, where so many pairs have fired since the one before it was over. As memory runs out it may be
-- that none was begun.
abbrev pub IsBrokenOff : End → (since : ℕ) → Type 0
IsBrokenOff Quiet since = ⊥
IsBrokenOff Steps since = ⊥
IsBrokenOff Nodes since = Unit {0}
IsBrokenOff Limit since = Unit {0}
IsBrokenOff Memory since = 1 ≤ since

-- Each round that is told was followed by another only if fewer interactions were made by then than are enough, be it one that was
-- broken off.
abbrev pub GoOn : (enough : Option ℕ) → (rounds : ℕ) → End → (since : ℕ) → List RoundOver → Type 0
GoOn None rounds end since told = Unit {0}
GoOn (Some n) rounds end since told = AllByRecursion
    (λ o. (o.round < rounds) ⊎ IsBrokenOff end since → o.net.interactions < n) told

-- A machine began with the configuration of a system, whose equations of two agents are pending first. So many rounds of it are
-- over, at most as many as may be made, and each has fired as many pairs by each rule as the round does. If none has fired since,
-- the machine holds the net of the configuration after these. What is counted by rule is what fired in these rounds, and since.
pub record HasRounded (s : SystemParts) (most rounds : ℕ) (given by_rule : List ℕ) (m : Net) (end : End) : Type 0 where
  pub bounds : Bounds
  pub come : HasCome s bounds given by_rule m end
  pub first : Net
  pub begun : IsBegun come.plans (length given) come.plan come.operands first
  pub pairs : ℕ
  pub firsts : LinksPairsFirst come.plans.arities (length given) come.plan pairs
  pub ends : EndsAfter come.plans pairs most rounds end first m
  pub net : (end ≡ Quiet) ⊎ (end ≡ Steps) → IsNetOf come.held.numbers m (iterate s.rules.rules rounds s.config)
  pub rules : FireAsRounds s.rules.rules come.rule_numbers ends.made s.config
  pub counted : come.fired
      ≡ map (rule_number come.rule_numbers) (concat ends.made ++ ends.since.fired)
  pub numbered : length come.rule_numbers ≡ length come.plans.plans

-- whether no step was possible at all, or a bound or a limit came before any pair had fired
abbrev pub stands_still : End → (interactions : ℕ) → (name_steps : Option ℕ) → Bool
stands_still Quiet n None = false
stands_still Quiet n (Some steps) = n == 0 && steps == 0
stands_still Steps n steps = false
stands_still Nodes n steps = n == 0
stands_still Limit n steps = n == 0
stands_still Memory n steps = n == 0

-- Of a text that stands still no round is told, although the pairs of one were taken.
pub record CountsRounds (end : End) (interactions : ℕ) (name_steps : Option ℕ) (taken rounds : ℕ)
    : Type 0 where
  pub none : stands_still end interactions name_steps ≡ true → rounds ≡ 0
  pub all : stands_still end interactions name_steps ≡ false → rounds ≡ taken

-- A text is read as a system with these limits, of which a machine made so many rounds. This is the line of the net then, and
-- this tells of it.
pub record EndsByRounds (limits : Limits) (most : ℕ) (asked : Asked) (input : List ℕ)
    (reached : Rounded) (line : List ℕ) : Type 0 where
  pub system : SystemParts
  pub reads : ReadsSystemWithin limits input (Ok system)
  pub given : List ℕ
  pub machine : Net
  pub taken : ℕ
  pub rounded : HasRounded system most taken given reached.outcome.by_rule.items machine reached.outcome.end
  pub ends : EndsOf system rounded.bounds asked reached.outcome line
  pub net : IsNetOf rounded.come.held.numbers machine ends.answer
  pub count : CountsRounds reached.outcome.end reached.outcome.interactions
      reached.outcome.name_steps taken reached.rounds

-- So many rounds of a system were made, as many as may be at most, and no fewer end quiet. Where all that was made are rounds,
-- this is the net after them; where one might be made, that is so but for where fresh names begin.
pub record MakesRounds (s : SystemParts) (most rounds : ℕ) (end : End) (answer : Configuration) : Type 0 where
  pub within : rounds ≤ most
  pub some : end ≡ Steps → 1 ≤ most → 1 ≤ rounds
  pub needed : (n : ℕ) → n < rounds → ¬ IsQuiet s.rules.rules (iterate s.rules.rules n s.config)
  pub net : (end ≡ Quiet) ⊎ (end ≡ Steps) → OneNet answer (iterate s.rules.rules rounds s.config)
  pub same : (end ≡ Quiet) ⊎ (end ≡ Steps) → 1 ≤ most
      → SameButNext answer (iterate s.rules.rules rounds s.config)

-- A system was reduced by so many rounds to what is told. As it ends at `Steps`, as many were made as may be, or enough
-- interactions were. Each round but the first began before enough were, also one that was broken off.
pub record IsRoundedTo (s : SystemParts) (most enough rounds : ℕ) (reduced : Reduced) : Type 0 where
  pub bounds : Bounds
  pub answer : Configuration
  pub reached : IsReached s bounds answer reduced.end reduced.interactions reduced.by_rule.items
  pub together : IsPutTogether answer
  pub writes : Writes s.rules.symbols reduced.words.items reduced.terms reduced.equations answer
  pub made : MakesRounds s most rounds reduced.end answer
  pub all : reduced.end ≡ Steps → (rounds ≡ most) ⊎ (enough ≤ reduced.interactions)
  pub early : (n : ℕ) → 1 ≤ n → n < rounds → length (rules_in s.rules.rules n s.config) < enough
  pub begun : 1 ≤ rounds → IsBrokenOff reduced.end
      (reduced.interactions - length (rules_in s.rules.rules rounds s.config))
      → length (rules_in s.rules.rules rounds s.config) < enough
  pub fired : AreOfRounds s.rules.rules s.config rounds reduced.end reduced.interactions
      reduced.by_rule.items
  pub name_steps : TellsNameSteps s.rules.rules s.config reduced.interactions
      (length answer.equations) reduced.end reduced.name_steps

-- the answers of reducing by at most so many rounds
abbrev pub ReducesByRounds : Limits → (most : ℕ) → Asked → Answering
ReducesByRounds limits most asked = answering (λ input fault. ReadsSystemWithin limits input (Err fault))
    (λ input line. (reached : Rounded) × EndsByRounds limits most asked input reached line)

-- the line is appended, if one is asked for
abbrev pub AppendsLineOf : Limits → (most : ℕ) → Asked → List ℕ → Rounded → Option (List ℕ)
    → Option (List ℕ) → Type 0
AppendsLineOf limits most asked input reached old new =
    (line : List ℕ) × EndsByRounds limits most asked input reached line × Appends old new line
