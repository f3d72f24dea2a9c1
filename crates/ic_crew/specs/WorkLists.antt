-- Lists of works and results as plain data.
use Rattle.std.specs.Prelude.{List, Vec, Result, Ok, Err, map}
use Rattle.std.specs.declared.alloc.Global.{Global}
use Rattle.ic_round.specs.declared.work.Work.{Work}
use Rattle.ic_round.specs.declared.work.Fired.{Fired}
use Rattle.ic_round.specs.Works.{PlainWork, PlainFired}
use Rattle.ic_round.specs.WorkViews.{work_of, fired_of}
use Rattle.ic_pool.specs.declared.fault.PoolFault.{PoolFault}

abbrev pub works_of : Vec Work Global → List PlainWork
works_of works = map work_of works.items

-- the products as plain data, if there are any
abbrev pub results_of : Result (Vec Fired Global) PoolFault → Result (List PlainFired) PoolFault
results_of (Ok results) = Ok (map fired_of results.items)
results_of (Err fault) = Err fault
