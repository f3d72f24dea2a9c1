use Rattle.std.proofs.Common.{◌≡◌, ◌≢◌, List, [], ℕ, Bool, true, false, None, cond, length, refl, sym, ap, ◌∙◌}
use Rattle.ic_term.specs.Configuration.{Configuration}
use Rattle.ic_term.specs.Symbol.{Symbol}
use Rattle.ic_in_place.specs.declared.running.End.{End}
use Rattle.ic_in_place.specs.declared.running.End.TheVariants.{Quiet, Steps, Nodes, Limit, Memory}
use Rattle.ic_naming.specs.Naming.{renumbered}
use Rattle.ic_streams.specs.Streams.{line_of}
use Rattle.ic_in_place.specs.Reductions.{is_written, stuck_at}
use Rattle.ic_in_place_laws.proofs.Untold.{no_name_steps}
use Rattle.ic_in_place_laws.proofs.outcomes.an_outcome_says_what_was_reached.Goals as goal

pub returns-clause-reached : goal.returns-clause-reached
returns-clause-reached c = λ s bounds asked outcome line is. (is.reached.fired, is.reached.reached, sym is.reached.counted)

chosen : (b x : Bool) (line : List ℕ) → b ≡ x → cond b line [] ≡ cond x line []
chosen b x line e = ap (λ (y : Bool). cond y line []) e

pub returns-clause-written : goal.returns-clause-written
returns-clause-written c = λ s bounds asked outcome line is e. (is.together e, is.prints ∙ chosen (is_written asked outcome.end) true (line_of s.rules.symbols (renumbered is.answer)) e)

pub returns-clause-unwritten : goal.returns-clause-unwritten
returns-clause-unwritten c = λ s bounds asked outcome line is e. is.prints ∙ chosen (is_written asked outcome.end) false (line_of s.rules.symbols (renumbered is.answer)) e

pub returns-clause-rules : goal.returns-clause-rules
returns-clause-rules c = λ s bounds asked outcome line is. is.rules

-- at other ends no stuck pair is told
no_pair : (end : End) (symbols : List Symbol) (d : Configuration) → end ≢ Quiet → stuck_at end symbols d ≡ None
no_pair Quiet symbols d other = absurd (other refl)
no_pair Steps symbols d other = refl
no_pair Nodes symbols d other = refl
no_pair Limit symbols d other = refl
no_pair Memory symbols d other = refl

pub returns-clause-neither : goal.returns-clause-neither
returns-clause-neither c = λ s bounds asked outcome line is other. (
  no_name_steps s.rules.rules s.config outcome.interactions (length is.answer.equations) outcome.end outcome.name_steps other is.name_steps,
  is.stuck ∙ no_pair outcome.end s.rules.symbols is.answer other,
)
