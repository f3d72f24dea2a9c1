-- A plan as plain data.
use Rattle.std.specs.Prelude.{Result, Ok, Err, map}
use Rattle.ic_round.specs.Plans.{PlainPlan}
use Rattle.ic_round.specs.WorkViews.{work_of}
use Rattle.ic_round.specs.declared.round_fault.RoundFault.{RoundFault}
use Rattle.ic_reference.specs.declared.plans.Plan.{Plan}

abbrev pub plan_of : Plan → PlainPlan
plan_of p = record { works = map work_of p.works.items; rest = p.rest }

-- a plan as plain data, if there is one
abbrev pub shown : Result Plan RoundFault → Result PlainPlan RoundFault
shown (Ok p) = Ok (plan_of p)
shown (Err f) = Err f
