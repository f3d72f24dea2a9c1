use Rattle.std.proofs.Common.{◌+◌, arith}
use Rattle.std.specs.Prelude.{slice_index_or}
use Rattle.ic_exact.proofs.DealingLemmas.{dealt_so, no_larger, no_earlier, one_dealing}
use Rattle.ic_exact.proofs.dealing.works_in_order_are_dealt_in_one_way.Goals as goal

pub returns-clause-one : goal.returns-clause-one
returns-clause-one c = dealt_so

pub returns-clause-all : goal.returns-clause-all
returns-clause-all c = λ rs n ws parts is. (is.same, is.dealt)

pub returns-clause-larger : goal.returns-clause-larger
returns-clause-larger c = λ rs n k ws d parts is more.
    no_larger rs (slice_index_or is.order (k + 1) d) (slice_index_or is.order k d) (is.sorted k d (omega arith) more)

pub returns-clause-earlier : goal.returns-clause-earlier
returns-clause-earlier c = λ rs n k ws d parts is more same.
    no_earlier rs (slice_index_or is.order (k + 1) d) (slice_index_or is.order k d) (is.sorted k d (omega arith) more) same

pub returns-clause-alone : goal.returns-clause-alone
returns-clause-alone c = one_dealing c.equality_is_exact.ensures
