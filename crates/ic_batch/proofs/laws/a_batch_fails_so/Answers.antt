use Rattle.std.proofs.Common.{inl, inr}
use Rattle.ic_book.specs.Book.{disk_of, is_broken, number_of, table_of}
use Rattle.ic_batch.proofs.ComeLemmas.{goes_with, moves_with}
use Rattle.ic_batch.proofs.FaultLemmas.{breaks_none, counts_none}
use Rattle.ic_batch.proofs.NumberLemmas.{one_line}
use Rattle.ic_batch.proofs.laws.a_batch_fails_so.Goals as goal

pub returns-clause-nothing : goal.returns-clause-nothing
returns-clause-nothing g c most jobs name is says = says

pub returns-clause-full : goal.returns-clause-full
returns-clause-full g c most jobs says = says

pub returns-clause-fails : goal.returns-clause-fails
returns-clause-fails g c most jobs fault says = says

pub returns-clause-taken : goal.returns-clause-taken
returns-clause-taken g c jobs t name is other = (other.before, other.new, other.after, other.job, other.among, other.first, other.named, other.there, other.differs)

pub returns-clause-line : goal.returns-clause-line
returns-clause-line g c text number is stops = (stops.jobs, stops.command, stops.after, stops.read, stops.distinct, stops.few, stops.refused, stops.line)

pub returns-clause-number : goal.returns-clause-number
returns-clause-number g c = one_line

pub returns-clause-never : goal.returns-clause-never
returns-clause-never g c most = (
  λ fails. elim fails.comes [ inl same ↦ cc | inr other ↦ other.in_line ],
  λ fails. elim fails.comes [ inl same ↦ cc | inr other ↦ other.in_line ],
  λ fails. elim fails.comes [ inl same ↦ cc | inr other ↦ other.in_line ],
  λ fails. elim fails.comes [ inl same ↦ cc | inr other ↦ other.in_line ],
)

pub returns-clause-in_line : goal.returns-clause-in_line
returns-clause-in_line g c most fault fails = elim fails.comes [ inl same ↦ inl same | inr other ↦ inr other.in_line ]

pub returns-clause-pool : goal.returns-clause-pool
returns-clause-pool g c most fault fails = goes_with most (table_of c.args.new.now) fault fails.comes

pub returns-clause-rounds : goal.returns-clause-rounds
returns-clause-rounds g c most fault fails other = moves_with most (table_of c.args.new.now) fault fails.comes other

pub returns-clause-broken : goal.returns-clause-broken
returns-clause-broken g c most fault fails is = fails.broken is

pub returns-clause-device : goal.returns-clause-device
returns-clause-device g c most fails well = (fails.breaks well, fails.counted)

pub returns-clause-worn : goal.returns-clause-worn
returns-clause-worn g c most fails well = fails.breaks well

pub returns-clause-others : goal.returns-clause-others
returns-clause-others g c most fault other fails = (
  counts_none fault (g.D.Disk.failures (disk_of c.args.old.now)) (g.D.Disk.failures (disk_of c.args.new.now)) other fails.counted,
  λ well. breaks_none fault (is_broken c.args.new.now) (number_of c.args.new.now) other (fails.breaks well),
)

pub returns-clause-none : goal.returns-clause-none
returns-clause-none g c jobs is = (is.same, is.counted, is.unbroken, is.whole)
