use Rattle.std.specs.Prelude.{List, Vec, Result, Ok, Err, map}
use Rattle.std.specs.declared.alloc.Global.{Global}
use Rattle.ic_round.specs.declared.work.Work.{Work}
use Rattle.ic_round.specs.declared.round_fault.RoundFault.{RoundFault}
use Rattle.ic_round.specs.Works.{PlainWork}
use Rattle.ic_round.specs.WorkViews.{work_of}

-- works as plain data, if there are any
abbrev pub shown : Result (Vec Work Global) RoundFault → Result (List PlainWork) RoundFault
shown (Ok works) = Ok (map work_of works.items)
shown (Err fault) = Err fault
