-- Answers matched with the works that they were asked for.
use Rattle.std.specs.Prelude.{◌≡◌, ℕ, ◌<◌, ◌==◌, List, Bool, ◌&&◌, Result, Ok, Err, length, map, count_by}
use Rattle.ic_term.specs.Tree.{tree_eq}
use Rattle.ic_rules.specs.RuleSet.{Rules, rules_eq}
use Rattle.ic_round.specs.Works.{PlainWork, PlainFired, result_of}
use Rattle.ic_crew.specs.Answers.{AnswerParts}
use Rattle.ic_pool.specs.declared.fault.PoolFault.{PoolFault}
use Rattle.ic_pool.specs.declared.fault.PoolFault.TheVariants.{NoWorkers, Overgrown, NamesOut, NoThread, Memory, Lost, Stranger, RoundsOut}

-- whether two works are the same
abbrev pub work_eq : PlainWork → PlainWork → Bool
work_eq v w = v.place == w.place && v.base == w.base && v.active.rule == w.active.rule
    && tree_eq v.active.left w.active.left && tree_eq v.active.right w.active.right

-- the answer is to this work under these rules
abbrev pub is_answer_to : Rules → PlainWork → AnswerParts → Bool
is_answer_to rs w a = work_eq w a.work && rules_eq rs a.rules

-- how often a work occurs in a list
abbrev pub times : PlainWork → List PlainWork → ℕ
times w ws = count_by (work_eq w) ws

-- how many answers there are to a work
abbrev pub answers_to : Rules → PlainWork → List AnswerParts → ℕ
answers_to rs w given = count_by (is_answer_to rs w) given

-- Some work has fewer answers than it was asked for.
abbrev pub IsLost : Rules → List PlainWork → List AnswerParts → Type 0
IsLost rs ws given = (w : PlainWork) × (answers_to rs w given < times w ws)

-- What becomes of works and answers. A lost answer is told before a strange one. Where none is lost,
-- each answer beyond the works is to none of them, or the second to one.
abbrev pub Matches : Rules → List PlainWork → List AnswerParts → Result (List PlainFired) PoolFault
    → Type 0
Matches rs ws given (Ok fired) = (fired ≡ map (result_of rs.rules) ws)
    × (¬ (IsLost rs ws given) × (length given ≡ length ws))
Matches rs ws given (Err Lost) = IsLost rs ws given
Matches rs ws given (Err Stranger) = ¬ (IsLost rs ws given) × (length ws < length given)
Matches rs ws given (Err Memory) = Unit {0}
Matches rs ws given (Err NoWorkers) = ⊥
Matches rs ws given (Err Overgrown) = ⊥
Matches rs ws given (Err NamesOut) = ⊥
Matches rs ws given (Err NoThread) = ⊥
Matches rs ws given (Err RoundsOut) = ⊥
